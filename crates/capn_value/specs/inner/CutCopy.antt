-- The copy of a value in other memory, trimmed or unchanged. (Our own.)
use Rattle.std.specs.Prelude.{ℕ, List, take, Bool, true, false, Option, Some, None}
use Rattle.capn_value.specs.Tree.{Tree, Trees, Bodies, front}
use Rattle.capn_value.specs.Trim.{trimmed, trimmed_each, trimmed_rows, kept_words, kept_slots, kept_words_of_rows}
use Rattle.capn_value.specs.Trim.{kept_slots_of_rows}

-- the copy of the tree `t`, trimmed if the flag is true
abbrev pub anew : Bool → Tree → Tree
anew true t = trimmed t
anew false t = t

-- the copies of several values, each trimmed if the flag is true
abbrev pub each_anew : Bool → Trees → Trees
each_anew true ts = trimmed_each ts
each_anew false ts = ts

-- the numbers of words and slots that trimming keeps of the body of `ws` and `ss`, or `None` if the flag is false
abbrev pub kept_of_body : Bool → List ℕ → Trees → Option (ℕ × ℕ)
kept_of_body true ws ss = Some (kept_words ws, kept_slots ss)
kept_of_body false ws ss = None

-- the numbers of words and slots that trimming keeps of each row of a list, or `None` if the flag is false
abbrev pub kept_of_rows : Bool → Bodies → Option (ℕ × ℕ)
kept_of_rows true bs = Some (kept_words_of_rows bs, kept_slots_of_rows bs)
kept_of_rows false bs = None

-- the words of a copied body: the first `kept.0` words, or all words for `None`
abbrev pub words_anew : Option (ℕ × ℕ) → List ℕ → List ℕ
words_anew (Some kept) ws = take kept.0 ws
words_anew None ws = ws

-- the slots of a copied body: the first `kept.1` slots, each trimmed, or all slots unchanged for `None`
abbrev pub slots_anew : Option (ℕ × ℕ) → Trees → Trees
slots_anew (Some kept) ss = front kept.1 (trimmed_each ss)
slots_anew None ss = ss

-- the copied rows: the first `kept.0` words and the first `kept.1` slots of each row, each slot trimmed, or all rows
-- unchanged for `None`
abbrev pub rows_anew : Option (ℕ × ℕ) → Bodies → Bodies
rows_anew (Some kept) bs = trimmed_rows kept.0 kept.1 bs
rows_anew None bs = bs
