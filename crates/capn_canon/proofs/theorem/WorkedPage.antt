-- Worked examples: words that follow the rules of the page, and words that break one of them.
use Rattle.std.proofs.Common.{◌≡◌, ℕ, zero, suc, ◌+◌, ◌-◌, ◌*◌, ◌<◌, ◌++◌, List, [], ◌∷◌, length, slice_index, Ok, refl}
use Rattle.std.proofs.Common.{subst, arith}
use Rattle.capn_words.specs.Pointers.{pointer_of}
use Rattle.capn_target.specs.declared.target.Target.TheVariants as targets
use Rattle.capn_target.specs.declared.target.Shape.{Shape}
use Rattle.capn_target.specs.declared.target.Shape.TheVariants as shapes
use Rattle.capn_target.specs.Target.{target}
use Rattle.capn_target.specs.Shapes.{extent}
use Rattle.capn_words.specs.declared.pointer.Width.TheVariants.{W8}
use Rattle.capn_words.specs.declared.space.Place.{Place}
use Rattle.capn_walk.specs.Accepted.{root}
use Rattle.capn_walk.specs.Visits.{slots}
use Rattle.capn_canon.specs.PageForm.{Met, null, object, InPreorder, IsPageForm}
use Rattle.capn_canon.proofs.page.Rules.{IsRight, Follows, form-follows}

-- ---- words that follow the rules

-- A null root follows the rules.
pub nothing : IsPageForm (0 ∷ [])
unfolding target pointer_of
nothing = record {
  pointers = null ∷ [];
  preorder = (refl, tt);
  no_gap = refl;
  truncated = (tt, tt);
  empty_structs = (tt, tt);
  padded = (tt, tt);
  whole = (tt, tt);
}

-- A struct of one word follows the rules.
pub one_word : IsPageForm (0x100000000 ∷ 5 ∷ [])
unfolding target pointer_of
one_word = record {
  pointers = object 0 1 (shapes.Node 1 0) ∷ [];
  preorder = (refl, refl, tt);
  no_gap = ((λ e. refl), refl);
  truncated = (((λ s z. absurd (omega arith)), (λ s. absurd (omega arith))), tt);
  empty_structs = ((λ e. absurd e), tt);
  padded = (tt, tt);
  whole = (tt, tt);
}

-- A struct with an empty struct follows the rules. The pointer to the empty struct has the offset -1.
pub empty_struct : IsPageForm (0x1000000000000 ∷ 0xfffffffc ∷ [])
unfolding target pointer_of
empty_struct = record {
  pointers = object 0 1 (shapes.Node 0 1) ∷ object 1 1 (shapes.Node 0 0) ∷ [];
  preorder = (refl, refl, (refl, refl, tt));
  no_gap = ((λ e. refl), ((λ e. absurd (e tt)), refl));
  truncated = (
    ((λ s. absurd (omega arith)), (λ s z. absurd (omega arith))),
    (((λ s. absurd (omega arith)), (λ s. absurd (omega arith))), tt),
  );
  empty_structs = ((λ e. absurd e), ((λ e. refl), tt));
  padded = (tt, (tt, tt));
  whole = (tt, (tt, tt));
}

-- Two structs follow the rules in preorder: the list of one byte below the first struct comes before the second struct.
pub two_structs : IsPageForm
    (0x2000000000000 ∷ 0x1000000000004 ∷ 0x100000008 ∷ 0xa00000001 ∷ 7 ∷ 3 ∷ [])
unfolding target pointer_of
two_structs = record {
  pointers = object 0 1 (shapes.Node 0 2) ∷ object 1 3 (shapes.Node 0 1) ∷ object 3 4 (shapes.Many W8 1)
      ∷ object 2 5 (shapes.Node 1 0) ∷ [];
  preorder = (refl, refl, (refl, refl, (refl, refl, (refl, refl, tt))));
  no_gap = ((λ e. refl), ((λ e. refl), ((λ e. refl), ((λ e. refl), refl))));
  truncated = (
    ((λ s. absurd (omega arith)), (λ s z. absurd (omega arith))),
    (
      ((λ s. absurd (omega arith)), (λ s z. absurd (omega arith))),
      (tt, (((λ s z. absurd (omega arith)), (λ s. absurd (omega arith))), tt)),
    ),
  );
  empty_structs = ((λ e. absurd e), ((λ e. absurd e), ((λ e. absurd e), ((λ e. absurd e), tt))));
  padded = (tt, (tt, ((λ s. omega arith), (tt, tt))));
  whole = (tt, (tt, (tt, (tt, tt))));
}

-- Two rows of one word follow the rules. The zero word of the second row is kept, since the word of the first row is
-- not zero.
pub two_rows : IsPageForm (0x1700000001 ∷ 0x100000008 ∷ 7 ∷ 0 ∷ [])
unfolding target pointer_of
two_rows = record {
  pointers = object 0 1 (shapes.Rows 2 1 0 2) ∷ [];
  preorder = (refl, refl, tt);
  no_gap = ((λ e. refl), refl);
  truncated = (((λ s. (0, omega arith, (λ z. absurd (omega arith)))), (λ s. absurd (omega arith))), tt);
  empty_structs = ((λ e. absurd e), tt);
  padded = (tt, tt);
  whole = (refl, tt);
}

-- ---- words that break a rule

-- The object of the slot `at` follows the rules, and so do the pointers at and below its slots and `others`.
record AtSlot (ws : List ℕ) (next : ℕ) (at : Place) (others : List Place) (start : ℕ) (shape : Shape) : Type 0 where
  pub right : IsRight ws next at.word start shape
  pub rest : List Met
  pub follows : Follows ws (next + extent shape) (slots 0 start shape ++ others) rest

at-slot : (ws : List ℕ) (next : ℕ) (at : Place) (others : List Place) (start : ℕ) (shape : Shape)
    → target (ws ∷ []) at ≡ Ok (targets.Content 0 start shape 0) → (met : List Met)
    → Follows ws next (at ∷ others) met → AtSlot ws next at others start shape
at-slot ws next at others start shape e [] f = absurd f
at-slot ws next at others start shape e (null ∷ met) f = absurd (let g = f.0 in cc)
at-slot ws next at others start shape e (object pointer begin x ∷ met) f =
    let g = f.1 in
    let same-start : begin ≡ start = cc in
    let same-shape : x ≡ shape = cc in
    subst (λ (y : Shape). AtSlot ws next at others start y) same-shape
    (subst (λ (k : ℕ). AtSlot ws next at others k x) same-start (record {
      right = subst (λ (k : ℕ). IsRight ws next k begin x) f.0 f.2;
      rest = met;
      follows = f.3;
    }))

-- If the words `ws` follow the rules, they follow the rules at the root (`AtSlot`).
at-root : (ws : List ℕ) (start : ℕ) (shape : Shape) → target (ws ∷ []) root ≡ Ok (targets.Content 0 start shape 0)
    → IsPageForm ws → AtSlot ws 1 root [] start shape
at-root ws start shape e p = let (met, f) = form-follows ws p in at-slot ws 1 root [] start shape e met f

abbrev slot : ℕ → Place
slot w = record { segment = 0; word = w }

ends : (ws : List ℕ) (next : ℕ) (met : List Met) → Follows ws next [] met → next ≡ length ws
ends ws next [] f = f
ends ws next (m ∷ met) f = absurd f

-- A zero word at the end of a struct breaks a rule.
pub trailing_zero : IsPageForm (0x200000000 ∷ 5 ∷ 0 ∷ []) → ⊥
unfolding target pointer_of
trailing_zero p =
    let r = at-root (0x200000000 ∷ 5 ∷ 0 ∷ []) 1 (shapes.Node 2 0) refl p in
    r.right.truncated.0 (omega arith) refl

-- A null pointer at the end of a struct breaks a rule.
pub trailing_null : IsPageForm (0x1000000000000 ∷ 0 ∷ []) → ⊥
unfolding target pointer_of
trailing_null p =
    let r = at-root (0x1000000000000 ∷ 0 ∷ []) 1 (shapes.Node 0 1) refl p in r.right.truncated.1 (omega arith) refl

-- A word before an object breaks a rule if no pointer leads to that word.
pub gap : IsPageForm (0x100000004 ∷ 9 ∷ 5 ∷ []) → ⊥
unfolding target pointer_of
gap p =
    let r = at-root (0x100000004 ∷ 9 ∷ 5 ∷ []) 2 (shapes.Node 1 0) refl p in
    let e = r.right.begins (λ x. x) in
    omega arith

-- A word after the last object breaks a rule if no pointer leads to that word.
pub word_left : IsPageForm (0x100000000 ∷ 5 ∷ 9 ∷ []) → ⊥
unfolding target pointer_of
word_left p =
    let r = at-root (0x100000000 ∷ 5 ∷ 9 ∷ []) 1 (shapes.Node 1 0) refl p in
    let e = ends (0x100000000 ∷ 5 ∷ 9 ∷ []) 2 r.rest r.follows in
    omega arith

-- An empty struct at an offset other than -1 breaks a rule. Here the offset is -2, which leads to word 0.
pub empty_elsewhere : IsPageForm (0x1000000000000 ∷ 0xfffffff8 ∷ []) → ⊥
unfolding target pointer_of
empty_elsewhere p =
    let ws : List ℕ = 0x1000000000000 ∷ 0xfffffff8 ∷ [] in
    let r = at-root ws 1 (shapes.Node 0 1) refl p in
    let s = at-slot ws 2 (slot 1) [] 0 (shapes.Node 0 0) refl r.rest r.follows in
    let e = s.right.empty tt in
    omega arith

-- The structs of `two_structs` break a rule if the second struct comes before the first.
pub not_in_preorder : IsPageForm
    (0x2000000000000 ∷ 0x1000000000008 ∷ 0x100000000 ∷ 3 ∷ 0xa00000001 ∷ 7 ∷ []) → ⊥
unfolding target pointer_of
not_in_preorder p =
    let ws : List ℕ = 0x2000000000000 ∷ 0x1000000000008 ∷ 0x100000000 ∷ 3 ∷ 0xa00000001 ∷ 7 ∷ [] in
    let r = at-root ws 1 (shapes.Node 0 2) refl p in
    let s = at-slot ws 3 (slot 1) (slot 2 ∷ []) 4 (shapes.Node 0 1) refl r.rest r.follows in
    let e = s.right.begins (λ x. x) in
    omega arith

-- A bit after the one byte of a list breaks a rule.
pub bit_past_the_end : IsPageForm (0xa00000001 ∷ 0x107 ∷ []) → ⊥
unfolding target pointer_of
bit_past_the_end p =
    let r = at-root (0xa00000001 ∷ 0x107 ∷ []) 1 (shapes.Many W8 1) refl p in
    let e = r.right.padded (omega arith) in
    omega arith

-- A word after the one row of a list of structs breaks a rule.
pub word_past_the_rows : IsPageForm (0x1700000001 ∷ 0x100000004 ∷ 7 ∷ 0 ∷ []) → ⊥
unfolding target pointer_of
word_past_the_rows p =
    let r = at-root (0x1700000001 ∷ 0x100000004 ∷ 7 ∷ 0 ∷ []) 1 (shapes.Rows 1 1 0 2) refl p in
    let e = r.right.whole in
    omega arith

-- A last word that is zero in all rows breaks a rule.
pub zero_in_all_rows : IsPageForm (0x1700000001 ∷ 0x100000008 ∷ 0 ∷ 0 ∷ []) → ⊥
unfolding target pointer_of
zero_in_all_rows p =
    let r = at-root (0x1700000001 ∷ 0x100000008 ∷ 0 ∷ 0 ∷ []) 1 (shapes.Rows 2 1 0 2) refl p in
    let (i, lt, ne) = r.right.truncated.0 (omega arith) in
    one_of i lt ne
  where
    one_of : (i : ℕ) → i < 2
        → (slice_index (0x1700000001 ∷ 0x100000008 ∷ 0 ∷ 0 ∷ []) (1 + 1 + i * (1 + 0) + (1 - 1)) ≡ 0 → ⊥) → ⊥
    one_of zero lt ne = ne refl
    one_of (suc zero) lt ne = ne refl
    one_of (suc (suc i)) lt ne = omega arith

-- A far pointer breaks a rule.
pub far_pointer : IsPageForm (10 ∷ 0x100000000 ∷ 5 ∷ []) → ⊥
unfolding target pointer_of
far_pointer p = from p.pointers p.preorder
  where
    from : (met : List Met) → InPreorder (10 ∷ 0x100000000 ∷ 5 ∷ []) (root ∷ []) met → ⊥
    from [] f = f
    from (null ∷ met) f = let g = f.0 in cc
    from (object pointer at x ∷ met) f = let g = f.1 in cc

-- A capability breaks a rule.
pub capability : IsPageForm (0x1000000000000 ∷ 3 ∷ []) → ⊥
unfolding target pointer_of
capability p = let r = at-root (0x1000000000000 ∷ 3 ∷ []) 1 (shapes.Node 0 1) refl p in from r.rest r.follows
  where
    from : (met : List Met) → Follows (0x1000000000000 ∷ 3 ∷ []) 2 (slot 1 ∷ []) met → ⊥
    from [] f = f
    from (null ∷ met) f = let g = f.0 in cc
    from (object pointer at x ∷ met) f = let g = f.1 in cc
