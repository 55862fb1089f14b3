-- The targets of the pointers that a layout writes in one segment. (For `Belonging`, `NumbersTold`, `Owned` and
-- others.)
use Rattle.std.proofs.Common.{◌≡◌, ℕ, zero, suc, ◌+◌, ◌-◌, ◌*◌, ◌^◌, ◌<◌, ◌≤◌, ◌==◌, ◌&&◌, nat_lt, List, [], ◌∷◌}
use Rattle.std.proofs.Common.{length, slice_index, Ok, Err, Result, pos, refl, ap, ◌∙◌, arith}
use Rattle.std.proofs.lemmas.Bool.{le-ltb, ltb-false}
use Rattle.std.proofs.lemmas.Bool.Decides.{nat_tests}
use Rattle.capn_words.specs.Pointers.{word_of, field, pointer_of}
use Rattle.capn_words.specs.declared.space.Place.{Place}
use Rattle.capn_words.specs.declared.pointer.Pointer.{Pointer}
use Rattle.capn_words.specs.declared.pointer.Pointer.TheVariants.{Node, Many}
use Rattle.capn_words.specs.declared.pointer.Width.{Width}
use Rattle.capn_words.specs.declared.pointer.Width.TheVariants.{W0, W1, W8, W16, W32, W64, Link, Rows}
use Rattle.capn_target.specs.declared.target.Target.{Target}
use Rattle.capn_target.specs.declared.target.Target.TheVariants as targets
use Rattle.capn_target.specs.declared.target.Shape.TheVariants as shapes
use Rattle.capn_target.specs.declared.target.Fault.{Fault}
use Rattle.capn_target.specs.declared.target.Fault.TheVariants as faults
use Rattle.capn_words.proofs.shared.Choices.{pick, if-yes, if-no, same-yes}
use Rattle.capn_words.proofs.shared.Pointers.{pointer_of-word_of}
use Rattle.capn_target.specs.Target.{content_words, tagged, if_inside, target_of_pointer, target}
use Rattle.capn_layout.specs.Layout.{struct_to, list_to}

-- The place of word `w` of the only segment.
abbrev pub here : ℕ → Place
here w = record { segment = 0; word = w }

-- The width is not `Rows`.
abbrev pub IsFlat : Width → Type 0
IsFlat Rows = ⊥
IsFlat width = Unit {0}

struct-word : (p to a b : ℕ) → 0 < a + b → struct_to p to a b ≡ word_of (Node (pos (to - suc p)) a b)
struct-word p to zero zero h = absurd (omega arith)
struct-word p to (suc a) b h = ap word_of (if-no ((suc a == 0) && (b == 0)) _ _ (grind (arith, nat_tests)))
struct-word p to zero (suc b) h = ap word_of (if-no ((0 == 0) && (suc b == 0)) _ _ (grind (arith, nat_tests)))

module _ (ws : List ℕ) where
  abbrev only : List (List ℕ)
  only = ws ∷ []

  names : (from : ℕ) (p : Pointer) → pointer_of (slice_index ws from) ≡ p
      → target only (here from) ≡ target_of_pointer only 0 from p
  unfolding target
  names from p e = ap (target_of_pointer only 0 from) e

  pub has-room : (start n : ℕ) (r : Result Target Fault) → start + n ≤ length ws → if_inside only 0 start n r ≡ r
  has-room start n r h = if-no (nat_lt (length ws) (start + n)) _ _ (le-ltb (length ws) (start + n) h)

  pub had-room : (start n : ℕ) (r : Result Target Fault) (found : Target) → if_inside only 0 start n r ≡ Ok found
      → (start + n ≤ length ws) × (r ≡ Ok found)
  had-room start n r found =
      pick (λ (q : Result Target Fault). q ≡ Ok found → (start + n ≤ length ws) × (r ≡ Ok found))
      (nat_lt (length ws) (start + n)) (Err faults.Range) r (λ t e. absurd cc)
      (λ t e. (omega (arith, ltb-false (length ws) (start + n) t), e))

  pub struct-named : (p to a b : ℕ) → p < to → to < 2 ^ 29 → a < 2 ^ 16 → b < 2 ^ 16 → 0 < a + b
      → slice_index ws p ≡ struct_to p to a b
      → target only (here p) ≡ if_inside only 0 to (a + b) (Ok (targets.Content 0 to (shapes.Node a b) 0))
  struct-named p to a b order small ha hb some e =
      let o = to - suc p in
      let f = e ∙ struct-word p to a b some in
      let z : p + 1 + o ≡ to = omega arith in
      names p (Node (pos o) a b) (ap pointer_of f ∙ pointer_of-word_of (Node (pos o) a b)
      (omega arith, ha, hb, omega arith))
      ∙ ap (λ (q : ℕ). if_inside only 0 q (a + b) (Ok (targets.Content 0 q (shapes.Node a b) 0))) z

  listed : (start n : ℕ) (k : Width) → IsFlat k → Rattle.capn_target.specs.Target.list only 0 start 0 k n
      ≡ if_inside only 0 start (content_words k n) (Ok (targets.Content 0 start (shapes.Many k n) 0))
  listed start n W0 p = refl
  listed start n W1 p = refl
  listed start n W8 p = refl
  listed start n W16 p = refl
  listed start n W32 p = refl
  listed start n W64 p = refl
  listed start n Link p = refl
  listed start n Rows p = absurd p

  pub list-named : (p to n : ℕ) (k : Width) → IsFlat k → p < to → to < 2 ^ 29 → n < 2 ^ 29
      → slice_index ws p ≡ list_to p to k n
      → target only (here p) ≡ if_inside only 0 to (content_words k n) (Ok (targets.Content 0 to (shapes.Many k n) 0))
  list-named p to n k flat order small hn e =
      let o = to - suc p in
      let z : p + 1 + o ≡ to = omega arith in
      names p (Many (pos o) k n) (ap pointer_of e ∙ pointer_of-word_of (Many (pos o) k n) (omega arith, hn))
      ∙ listed (p + 1 + o) n k flat
      ∙ ap (λ (q : ℕ). if_inside only 0 q (content_words k n) (Ok (targets.Content 0 q (shapes.Many k n) 0))) z

  pub rows-named : (p to d : ℕ) → p < to → to < 2 ^ 29 → d < 2 ^ 29 → slice_index ws p ≡ list_to p to Rows d
      → target only (here p) ≡ if_inside only 0 to (1 + d) (tagged only 0 to 0 d (slice_index ws to))
  rows-named p to d order small hd e =
      let o = to - suc p in
      let z : p + 1 + o ≡ to = omega arith in
      names p (Many (pos o) Rows d) (ap pointer_of e ∙ pointer_of-word_of (Many (pos o) Rows d) (omega arith, hd))
      ∙ ap (λ (q : ℕ). if_inside only 0 q (1 + d) (tagged only 0 q 0 d (slice_index ws q))) z

  pub tag-named : (to c a b d w : ℕ) → w ≡ word_of (Node (pos c) a b) → c < 2 ^ 30 → a < 2 ^ 16 → b < 2 ^ 16
      → c * (a + b) ≤ d → tagged only 0 to 0 d w ≡ Ok (targets.Content 0 to (shapes.Rows c a b d) 0)
  tag-named to c a b d w i hc ha hb fit =
      let z : field 0 2 w ≡ 0 = omega arith in
      let x : field 2 30 w ≡ c = omega arith in
      let y : field 32 16 w ≡ a = omega arith in
      let v : field 48 16 w ≡ b = omega arith in
      if-yes (field 0 2 w == 0) _ _ (same-yes (field 0 2 w) 0 z)
      ∙ if-no (nat_lt d (field 2 30 w * (field 32 16 w + field 48 16 w))) _ _
      (rw (x, y, v) (le-ltb d (c * (a + b)) fit))
      ∙ cc
