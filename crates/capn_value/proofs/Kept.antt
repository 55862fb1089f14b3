-- Lemmas for `kept_slots`, `kept_slots_of_rows`, `kept_words` and `kept_words_of_rows`: the lengths that trimming keeps
-- of a prefix, which a loop shortens by one at a time.
use Rattle.std.proofs.Common.{◌≡◌, ◌≢◌, ℕ, zero, suc, ◌+◌, ◌<◌, List, [], ◌∷◌, length, get_or, take, drop, max, arith}
use Rattle.std.proofs.Common.{ap, ◌∙◌, Bool, true, false}
use Rattle.std.proofs.lemmas.Bool.Decides.{nat_tests}
use Rattle.std.specs.Prelude.{◌==◌, slice_index}
use Rattle.capn_value.specs.Tree.{Trees, no_trees, tree, front, count, tree_at, is_null}
use Rattle.capn_value.specs.Trim.{kept_behind, kept_words, kept_slots, kept_words_of_rows, kept_slots_of_rows}
use Rattle.capn_value.specs.TreeOf.{trees_of, rows_of}
use Rattle.capn_value.specs.declared.value.Value.{Value}
use Rattle.capn_value.specs.declared.value.Body.{Body}
use Rattle.capn_value.proofs.Anywhere.{drop-next, drop-past}

behind_none : (b : Bool) → b ≡ true → kept_behind b 0 ≡ 0
behind_none b e = rw e

behind_one : (b : Bool) → b ≡ false → kept_behind b 0 ≡ 1
behind_one b e = rw e

behind_more : (b : Bool) (m : ℕ) → kept_behind b (suc m) ≡ suc (suc m)
behind_more b m = grind (arith, nat_tests)

-- trimming does not keep a zero word at the end of a prefix
pub kept_words-zero : (m : ℕ) (ws : List ℕ) → m < length ws → slice_index ws m ≡ 0
    → kept_words (take (suc m) ws) ≡ kept_words (take m ws)
kept_words-zero m [] h e = absurd (omega arith)
kept_words-zero zero (w ∷ ws) h e = behind_none (w == 0) (rw e)
kept_words-zero (suc m) (w ∷ ws) h e = ap (kept_behind (w == 0)) (kept_words-zero m ws (omega arith) e)

-- if the last word of a prefix is not 0, trimming keeps all of the prefix
pub kept_words-some : (m : ℕ) (ws : List ℕ) → m < length ws → slice_index ws m ≢ 0
    → kept_words (take (suc m) ws) ≡ suc m
kept_words-some m [] h n = absurd (omega arith)
kept_words-some zero (w ∷ ws) h n = grind (arith, nat_tests)
kept_words-some (suc m) (w ∷ ws) h n = ap (kept_behind (w == 0)) (kept_words-some m ws (omega arith) n)
    ∙ behind_more (w == 0) m

pub kept_slots-null : (m : ℕ) (ss : Trees) → m < count ss → is_null (tree_at ss m) ≡ true
    → kept_slots (front (suc m) ss) ≡ kept_slots (front m ss)
kept_slots-null m no_trees h e = absurd (omega arith)
kept_slots-null zero (tree s ss) h e = behind_none (is_null s) e
kept_slots-null (suc m) (tree s ss) h e = ap (kept_behind (is_null s)) (kept_slots-null m ss (omega arith) e)

pub kept_slots-some : (m : ℕ) (ss : Trees) → m < count ss → is_null (tree_at ss m) ≡ false
    → kept_slots (front (suc m) ss) ≡ suc m
kept_slots-some m no_trees h e = absurd (omega arith)
kept_slots-some zero (tree s ss) h e = behind_one (is_null s) e
kept_slots-some (suc m) (tree s ss) h e = ap (kept_behind (is_null s)) (kept_slots-some m ss (omega arith) e)
    ∙ behind_more (is_null s) m

pub ruleset kept = (kept_words-zero, kept_words-some, kept_slots-null, kept_slots-some)

-- after the loop has added one more row, the greater of `n` and `rest` is still `all`
row_taken : (most n part k whole rest all : ℕ) → max most whole ≡ all → whole ≡ max part rest → k ≡ part
    → n ≡ max k most → max n rest ≡ all
row_taken most n part k whole rest all so_far e f g = omega arith

all_taken : (most rest all : ℕ) → rest ≡ 0 → max most rest ≡ all → most ≡ all
all_taken most rest all e so_far = omega arith

module _ {A : Type 0} (rows : List (Body A)) (i most all : ℕ) where
  module _ (so_far : max most (kept_words_of_rows (rows_of (drop i rows))) ≡ all) where
    pub words_taken : (b : Body A) {s : List ℕ} {k n : ℕ} → i < length rows → b ≡ get_or rows i b → s ≡ b.words
        → k ≡ kept_words s → n ≡ max k most →
        max n (kept_words_of_rows (rows_of (drop (i + 1) rows))) ≡ all
    words_taken b {s} {k} {n} h at same e f =
        row_taken most n (kept_words b.words) k _ (kept_words_of_rows (rows_of (drop (i + 1) rows))) all so_far
        (ap (λ bs. kept_words_of_rows (rows_of bs)) (drop-next rows i b h at)) (e ∙ ap kept_words same) f

    pub words_all_taken : i ≡ length rows → most ≡ all
    words_all_taken e = all_taken most _ all (ap (λ bs. kept_words_of_rows (rows_of bs)) (drop-past rows i e)) so_far

  module _ (so_far : max most (kept_slots_of_rows (rows_of (drop i rows))) ≡ all) where
    pub slots_taken : (b : Body A) {s : List (Value A)} {k n : ℕ} → i < length rows → b ≡ get_or rows i b → s ≡ b.slots
        → k ≡ kept_slots (trees_of s) →
        n ≡ max k most → max n (kept_slots_of_rows (rows_of (drop (i + 1) rows))) ≡ all
    slots_taken b {s} {k} {n} h at same e f =
        row_taken most n (kept_slots (trees_of b.slots)) k _ (kept_slots_of_rows (rows_of (drop (i + 1) rows))) all
        so_far
        (ap (λ bs. kept_slots_of_rows (rows_of bs)) (drop-next rows i b h at)) (e
        ∙ ap (λ vs. kept_slots (trees_of vs)) same) f

    pub slots_all_taken : i ≡ length rows → most ≡ all
    slots_all_taken e = all_taken most _ all (ap (λ bs. kept_slots_of_rows (rows_of bs)) (drop-past rows i e)) so_far
