-- Lemmas for the cycle `sameness` and `are_null`: loops over the pairs of two lists, and over one list.
use Rattle.std.proofs.Common.{◌≡◌, ℕ, ◌+◌, ◌<◌, ◌≤◌, List, Bool, true, false, ◌&&◌, length, get_or, drop, min, arith}
use Rattle.std.proofs.Common.{sym, ap, ap₂, ◌∙◌}
use Rattle.capn_value.specs.TreeOf.{tree_of, trees_of, rows_of}
use Rattle.capn_value.specs.Tree.{is_null}
use Rattle.capn_value.specs.inner.SameTest.{are_null, test, test_words, test_slots, test_each, test_rows}
use Rattle.capn_value.specs.declared.value.Value.{Value}
use Rattle.capn_value.specs.declared.value.Body.{Body}
use Rattle.capn_value.proofs.Anywhere.{drop-next, drop-past}

pub ended : (i n : ℕ) → i ≤ n → n ≤ i → i ≡ n
ended i n h k = omega arith

pub in_left : (s i m n : ℕ) → s ≡ min m n → i < s → i < m
in_left s i m n e h = omega arith

pub in_right : (s i m n : ℕ) → s ≡ min m n → i < s → i < n
in_right s i m n e h = omega arith

pub fails : (b rest : Bool) {r all : Bool} → r ≡ b → r ≡ false → (b && rest) ≡ all → false ≡ all
fails b rest e f so_far = ap (λ x. x && rest) (sym f ∙ e) ∙ so_far

pub holds : (b rest : Bool) {r all : Bool} → r ≡ b → r ≡ true → (b && rest) ≡ all → rest ≡ all
holds b rest e f so_far = ap (λ x. x && rest) (sym f ∙ e) ∙ so_far

-- this block is about the test of two bodies, which is the test of their words and then of their slots
module _ {ws ys w v : List ℕ} (e : w ≡ ws) (f : v ≡ ys) {r : Bool} (same : r ≡ test_words w v) where
  here : r ≡ test_words ws ys
  here = same ∙ ap₂ test_words e f

  pub words_differ : (rest : Bool) → r ≡ false → r ≡ (test_words ws ys && rest)
  words_differ rest q = q ∙ ap (λ x. x && rest) (sym q ∙ here)

  module _ {A B : Type 0} {us s : List (Value A)} {vs t : List (Value B)} where
    pub words_agree : {n : Bool} → r ≡ true → s ≡ us → t ≡ vs → n ≡ test_slots (trees_of s) (trees_of t) →
        n ≡ (test_words ws ys && test_slots (trees_of us) (trees_of vs))
    words_agree q g h i =
        i ∙ ap₂ (λ l m. test_slots (trees_of l) (trees_of m)) g h
        ∙ ap (λ x. x && test_slots (trees_of us) (trees_of vs)) (sym q ∙ here)

module _ {A B : Type 0} (a : List (Value A)) (b : List (Value B)) (i : ℕ) {all : Bool} where
  module _ (so_far : test_each (trees_of (drop i a)) (trees_of (drop i b)) ≡ all) where
    module _ (x : Value A) (y : Value B) (h : i < length a) (k : i < length b) (e : x ≡ get_or a i x)
        (f : y ≡ get_or b i y) {r : Bool} (tested : r ≡ test (tree_of x) (tree_of y)) where
      each_next : (test (tree_of x) (tree_of y) && test_each (trees_of (drop (i + 1) a)) (trees_of (drop (i + 1) b)))
          ≡ all
      each_next = sym (ap₂ (λ us vs. test_each (trees_of us) (trees_of vs)) (drop-next a i x h e) (drop-next b i y k f))
          ∙ so_far

      pub each_differs : r ≡ false → false ≡ all
      each_differs q = fails _ (test_each (trees_of (drop (i + 1) a)) (trees_of (drop (i + 1) b))) tested q each_next

      pub each_agrees : r ≡ true → test_each (trees_of (drop (i + 1) a)) (trees_of (drop (i + 1) b)) ≡ all
      each_agrees q = holds (test (tree_of x) (tree_of y)) _ tested q each_next

    pub each_tested : i ≡ length a → i ≡ length b → true ≡ all
    each_tested e f = sym (ap₂ (λ us vs. test_each (trees_of us) (trees_of vs)) (drop-past a i e) (drop-past b i f))
        ∙ so_far

  module _ (so_far : test_slots (trees_of (drop i a)) (trees_of (drop i b)) ≡ all)
      (x : Value A) (y : Value B) (h : i < length a) (k : i < length b) (e : x ≡ get_or a i x) (f : y ≡ get_or b i y)
      {r : Bool} (tested : r ≡ test (tree_of x) (tree_of y)) where
    slots_next : (test (tree_of x) (tree_of y) && test_slots (trees_of (drop (i + 1) a)) (trees_of (drop (i + 1) b)))
        ≡ all
    slots_next = sym (ap₂ (λ us vs. test_slots (trees_of us) (trees_of vs)) (drop-next a i x h e) (drop-next b i y k f))
        ∙ so_far

    pub slots_differ : r ≡ false → false ≡ all
    slots_differ q = fails _ (test_slots (trees_of (drop (i + 1) a)) (trees_of (drop (i + 1) b))) tested q slots_next

    pub slots_agree : r ≡ true → test_slots (trees_of (drop (i + 1) a)) (trees_of (drop (i + 1) b)) ≡ all
    slots_agree q = holds (test (tree_of x) (tree_of y)) _ tested q slots_next

module _ {A B : Type 0} (a : List (Body A)) (b : List (Body B)) (i : ℕ) {all : Bool}
    (so_far : test_rows (rows_of (drop i a)) (rows_of (drop i b)) ≡ all) where
  module _ (x : Body A) (y : Body B) (h : i < length a) (k : i < length b) (e : x ≡ get_or a i x) (f : y ≡ get_or b i y)
      {r : Bool} (tested : r ≡ (test_words x.words y.words && test_slots (trees_of x.slots) (trees_of y.slots))) where
    row_next : ((test_words x.words y.words && test_slots (trees_of x.slots) (trees_of y.slots)) && test_rows
        (rows_of (drop (i + 1) a)) (rows_of (drop (i + 1) b))) ≡ all
    row_next = sym (ap₂ (λ us vs. test_rows (rows_of us) (rows_of vs)) (drop-next a i x h e) (drop-next b i y k f))
        ∙ so_far

    pub row_differs : r ≡ false → false ≡ all
    row_differs q = fails _ (test_rows (rows_of (drop (i + 1) a)) (rows_of (drop (i + 1) b))) tested q row_next

    pub row_agrees : r ≡ true → test_rows (rows_of (drop (i + 1) a)) (rows_of (drop (i + 1) b)) ≡ all
    row_agrees q =
        holds (test_words x.words y.words && test_slots (trees_of x.slots) (trees_of y.slots)) _ tested q row_next

  pub rows_tested : i ≡ length a → i ≡ length b → true ≡ all
  rows_tested e f = sym (ap₂ (λ us vs. test_rows (rows_of us) (rows_of vs)) (drop-past a i e) (drop-past b i f))
      ∙ so_far

-- this block is about the loop that tests whether each value of `items` is null
module _ {A : Type 0} (items : List (Value A)) (i : ℕ) {all : Bool} (so_far : are_null (trees_of (drop i items)) ≡ all)
  where
    module _ (v : Value A) (h : i < length items) (e : v ≡ get_or items i v) {r : Bool}
        (tested : r ≡ is_null (tree_of v))
      where
        null_next : (is_null (tree_of v) && are_null (trees_of (drop (i + 1) items))) ≡ all
        null_next = sym (ap (λ vs. are_null (trees_of vs)) (drop-next items i v h e)) ∙ so_far

        pub some_left : r ≡ false → false ≡ all
        some_left q = fails _ (are_null (trees_of (drop (i + 1) items))) tested q null_next

        pub none_yet : r ≡ true → are_null (trees_of (drop (i + 1) items)) ≡ all
        none_yet q = holds (is_null (tree_of v)) _ tested q null_next

    pub none_left : i ≡ length items → true ≡ all
    none_left e = sym (ap (λ vs. are_null (trees_of vs)) (drop-past items i e)) ∙ so_far
