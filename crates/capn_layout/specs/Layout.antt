-- The canonical layout of a value, defined by sums of sizes. (Page: canonicalization.)
use Rattle.std.specs.Prelude.{ℕ, zero, suc, ◌+◌, ◌-◌, ◌*◌, ◌^◌, ◌==◌, ◌&&◌, List, [], ◌∷◌, ◌++◌, length, take}
use Rattle.std.specs.Prelude.{drop, pos, negsuc, if◌then◌else◌}
use Rattle.capn_words.specs.Message.{bytes}
use Rattle.capn_words.specs.Pointers.{word_of}
use Rattle.capn_words.specs.declared.pointer.Pointer.TheVariants.{Node, Many, Cap}
use Rattle.capn_words.specs.declared.pointer.Width.{Width}
use Rattle.capn_words.specs.declared.pointer.Width.TheVariants.{W0, Link, Rows}
use Rattle.capn_value.specs.NumberWidth.{oct, bits_in, per_word}
use Rattle.capn_value.specs.Tree.{Tree, nil, node, voids, numbers, links, rows, cap}
use Rattle.capn_value.specs.Tree.{Trees, no_trees, tree, Bodies, no_bodies, body, count, count_rows}
use Rattle.capn_value.specs.Trim.{kept_words, kept_slots, kept_words_of_rows, kept_slots_of_rows}
use Rattle.capn_target.specs.Target.{content_words, list_width}

-- The number of words of each row of `bs` in the canonical layout, where all rows have the same size. (Page:
-- canonicalization.)
abbrev pub row_size : Bodies → ℕ
row_size bs = kept_words_of_rows bs + kept_slots_of_rows bs

-- The number of words in a value's own content. Contents that the value's pointers name are not counted. (Pages:
-- structs, lists.)
abbrev pub own : Tree → ℕ
own (node ws ss) = kept_words ws + kept_slots ss
own (numbers width xs) = content_words (list_width width) (length xs)
own (links ts) = count ts
own (rows bs) = 1 + count_rows bs * row_size bs
own _ = 0

-- The number of words in a value's own content and in all contents below it. `sizes` and `sizes_in_rows` are sums of
-- `size`: `sizes` for the values of slots, `sizes_in_rows` for the values in the slots of rows. (Our own.)
abbrev mutual
  pub size : Tree → ℕ
  size (node ws ss) = own (node ws ss) + sizes ss
  size (links ts) = own (links ts) + sizes ts
  size (rows bs) = own (rows bs) + sizes_in_rows bs
  size v = own v

  pub sizes : Trees → ℕ
  sizes no_trees = 0
  sizes (tree t ts) = size t + sizes ts

  pub sizes_in_rows : Bodies → ℕ
  sizes_in_rows no_bodies = 0
  sizes_in_rows (body ws ss bs) = sizes ss + sizes_in_rows bs

-- The pointer at word `from` to a list whose content starts at word `to`. The list has `n` elements of the given width,
-- or `n` words of rows if the width is `Rows`. The offset counts from the word after the pointer. (Page: lists.)
abbrev pub list_to : (from to : ℕ) → Width → (n : ℕ) → ℕ
list_to from to width n = word_of (Many (pos (to - suc from)) width n)

-- The pointer at word `from` to a struct whose content starts at word `to`. If `data_words` and `pointers` are 0, the
-- offset is -1, so that the pointer isn't null. (Page: canonicalization.)
abbrev pub struct_to : (from to data_words pointers : ℕ) → ℕ
struct_to from to data_words pointers = word_of (if (data_words == 0) && (pointers == 0) then Node (negsuc 0) 0 0
    else Node (pos (to - suc from)) data_words pointers)

-- The pointer at word `from` to a value whose content starts at word `to`. (Pages: structs, lists, capabilities.)
unfoldable pub point : Tree → (from to : ℕ) → ℕ
point nil from to = 0
point (node ws ss) from to = struct_to from to (kept_words ws) (kept_slots ss)
point (voids n) from to = list_to from to W0 n
point (numbers width xs) from to = list_to from to (list_width width) (length xs)
point (links ts) from to = list_to from to Link (count ts)
point (rows bs) from to = list_to from to Rows (count_rows bs * row_size bs)
point (cap k) from to = word_of (Cap k)

-- The pointers to consecutive values, at the words from `from` on. The first value's content starts at word `to`. Each
-- value's content and all contents below it precede the next value's content. (Page: canonicalization, preorder.)
abbrev pub points : Trees → (from to : ℕ) → List ℕ
points no_trees from to = []
points (tree t ts) from to = point t from to ∷ points ts (suc from) (to + size t)

-- The number with the digits `xs` in base `base`, the lowest digit first. (Page: lists.)
abbrev pub number : ℕ → List ℕ → ℕ
number base [] = 0
number base (x ∷ xs) = x + base * number base xs

-- `n` words that pack the elements `xs`, `many` to a word and `bits` bits each. Bits after the last element are 0.
-- (Our own.)
abbrev pub packed : (many bits n : ℕ) → List ℕ → List ℕ
packed many bits zero xs = []
packed many bits (suc n) xs = number (2 ^ bits) (take many xs) ∷ packed many bits n (drop many xs)

-- The words of the rows, which start at word `from`: the first `data_words` words and the first `pointers` pointers of
-- each row. The contents that the pointers name start at word `to`. (Page: lists, composite.)
abbrev pub row_contents : (data_words pointers : ℕ) → Bodies → (from to : ℕ) → List ℕ
row_contents data_words pointers no_bodies from to = []
row_contents data_words pointers (body ws ss bs) from to =
    take data_words ws
    ++ (take pointers (points ss (from + data_words) to)
    ++ row_contents data_words pointers bs (from + data_words + pointers) (to + sizes ss))

-- The value's own content, laid out from word `at` on, and then all contents below it, in preorder. (Page:
-- canonicalization, preorder.)
abbrev mutual
  pub lay : Tree → ℕ → List ℕ
  lay (node ws ss) at =
      take (kept_words ws) ws
      ++ (take (kept_slots ss) (points ss (at + kept_words ws) (at + own (node ws ss)))
      ++ lays ss (at + own (node ws ss)))
  lay (links ts) at = points ts at (at + count ts) ++ lays ts (at + count ts)
  lay (rows bs) at =
      word_of (Node (pos (count_rows bs)) (kept_words_of_rows bs) (kept_slots_of_rows bs))
      ∷ (row_contents (kept_words_of_rows bs) (kept_slots_of_rows bs) bs (suc at) (at + own (rows bs))
      ++ lays_in_rows bs (at + own (rows bs)))
  lay (numbers oct xs) at = xs
  lay (numbers width xs) at = packed (per_word width) (bits_in width) (own (numbers width xs)) xs
  lay _ at = []

  pub lays : Trees → ℕ → List ℕ
  lays no_trees at = []
  lays (tree t ts) at = lay t at ++ lays ts (at + size t)

  pub lays_in_rows : Bodies → ℕ → List ℕ
  lays_in_rows no_bodies at = []
  lays_in_rows (body ws ss bs) at = lays ss at ++ lays_in_rows bs (at + sizes ss)

-- The canonical words of `v`: the pointer to `v` in word 0, and the contents from word 1 on. (Page: canonicalization.)
unfoldable pub words : Tree → List ℕ
words v = point v 0 1 ∷ lay v 1

-- The canonical bytes of `v`. (Page: canonicalization.)
abbrev pub canon : Tree → List ℕ
canon v = bytes (words v)
