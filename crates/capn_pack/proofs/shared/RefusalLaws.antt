-- Lemmas for `reading`, capn_canon and capn_commands: a text is refused for at most one reason other than `Memory`.
use Rattle.std.proofs.Common.{◌≡◌, ℕ, ◌+◌, ◌≤◌, List, [], ◌∷◌, ◌++◌, length, refl, ap, sym, subst, ◌∙◌}
use Rattle.std.proofs.Common.{append_assoc, arith}
use Rattle.std.specs.List.{AllByRecursion}
use Rattle.capn_pack.specs.Packed.{Group, IsGroup, group_text, group_words, texts, word_count}
use Rattle.capn_pack.specs.UnpackRefusal.{words_at, IsCut, IsUnpackRefused, IsTooLong, Stands}
use Rattle.capn_pack.specs.declared.fault.UnpackFault.{UnpackFault}
use Rattle.capn_pack.specs.declared.fault.UnpackFault.TheVariants as fault
use Rattle.capn_pack.proofs.shared.GroupLaws.{no_group, head_of, group_same}

-- `Fault` holds of no `rest` that begins with a complete group of at most `room` words
abbrev NoneFits : (ℕ → List ℕ → Type 0) → Type 0
NoneFits Fault = (room : ℕ) (rest more : List ℕ) (g : Group)
    → IsGroup g → rest ≡ group_text g ++ more → group_words g ≤ room → Fault room rest → ⊥

cut-no_group : NoneFits IsCut
cut-no_group room rest more g h e fits cut = no_group room rest cut g more h e

long-no_group : NoneFits IsTooLong
long-no_group room rest more g h e fits long = let a = head_of g more h in omega (arith, long.2, ap words_at e, a.count)

-- `gs` and `hs` have the same text, `rest` equals `other`, and `left` equals `right`
record SameRow (gs hs : List Group) (rest other : List ℕ) (left right : ℕ) : Type 0 where
  texts_are : texts gs ≡ texts hs
  rest_is : rest ≡ other
  left_is : left ≡ right

same_row : (P Q : ℕ → List ℕ → Type 0) → NoneFits P → NoneFits Q
    → (gs hs : List Group) (rest other : List ℕ) (left right : ℕ) → AllByRecursion IsGroup gs
    → AllByRecursion IsGroup hs
    → texts gs ++ rest ≡ texts hs ++ other → left + word_count gs ≡ right + word_count hs → P left rest → Q right other
    → SameRow gs hs rest other left right
same_row P Q first also [] [] rest other left right p q e n f h =
    record { texts_are = refl; rest_is = e; left_is = omega arith }
same_row P Q first also [] (k ∷ ks) rest other left right p q e n f h =
    absurd (first left rest (texts ks ++ other) k q.0 (e ∙ append_assoc (group_text k) (texts ks) other)
    (omega arith) f)
same_row P Q first also (g ∷ gs) [] rest other left right p q e n f h =
    absurd (also right other (texts gs ++ rest) g p.0 (sym e ∙ append_assoc (group_text g) (texts gs) rest)
    (omega arith) h)
same_row P Q first also (g ∷ gs) (k ∷ ks) rest other left right p q e n f h =
    let whole = sym (append_assoc (group_text g) (texts gs) rest) ∙ e ∙ append_assoc (group_text k) (texts ks) other in
    let r = group_same g k (texts gs ++ rest) (texts ks ++ other) p.0 q.0 whole in
    let w : group_words g ≡ group_words k = ap group_words r.0 in
    let count : left + word_count gs ≡ right + word_count ks = omega arith in
    let s = same_row P Q first also gs ks rest other left right p.1 q.1 r.1 count f h in
    record { texts_are = λ i. group_text (r.0 i) ++ s.texts_are i; rest_is = s.rest_is; left_is = s.left_is }

module _ (b : List ℕ) (max : ℕ) where
  same_stand : (P Q : ℕ → List ℕ → Type 0) → NoneFits P → NoneFits Q
      → (at to : ℕ) (s : Stands P b max at) (t : Stands Q b max to)
      → SameRow s.groups t.groups s.rest t.rest s.left t.left
  same_stand P Q first also at to s t =
      same_row P Q first also s.groups t.groups s.rest t.rest s.left t.left s.each t.each (sym s.text ∙ t.text)
      (s.counted ∙ sym t.counted) s.fault t.fault

  same_at : (P : ℕ → List ℕ → Type 0) → NoneFits P → (at to : ℕ) → Stands P b max at → Stands P b max to → at ≡ to
  same_at P first at to s t =
      let row = same_stand P P first first at to s t in
      s.offset ∙ ap length row.texts_are ∙ sym t.offset

  never_both : (at to : ℕ) → Stands IsCut b max at → Stands IsTooLong b max to → ⊥
  never_both at to s t =
      let row = same_stand IsCut IsTooLong cut-no_group long-no_group at to s t in
      let here : IsCut s.left t.rest = subst (λ (xs : List ℕ). IsCut s.left xs) row.rest_is s.fault in
      let cut : IsCut t.left t.rest = subst (λ (n : ℕ). IsCut n t.rest) row.left_is here in
      grind (arith, cut, t.fault)

  one_packed : (e f : UnpackFault)
      → IsUnpackRefused b max e → IsUnpackRefused b max f → (e ≡ fault.Memory → ⊥) → (f ≡ fault.Memory → ⊥) → e ≡ f
  one_packed fault.Memory f r s ne nf = absurd (ne refl)
  one_packed fault.Failed f r s ne nf = absurd r
  one_packed (fault.Cut at) fault.Memory r s ne nf = absurd (nf refl)
  one_packed (fault.Cut at) fault.Failed r s ne nf = absurd s
  one_packed (fault.Cut at) (fault.Cut to) r s ne nf =
      ap (λ (n : ℕ). fault.Cut n) (same_at IsCut cut-no_group at to r s)
  one_packed (fault.Cut at) (fault.TooLong to) r s ne nf = absurd (never_both at to r s)
  one_packed (fault.TooLong at) fault.Memory r s ne nf = absurd (nf refl)
  one_packed (fault.TooLong at) fault.Failed r s ne nf = absurd s
  one_packed (fault.TooLong at) (fault.Cut to) r s ne nf = absurd (never_both to at s r)
  one_packed (fault.TooLong at) (fault.TooLong to) r s ne nf =
      ap (λ (n : ℕ). fault.TooLong n) (same_at IsTooLong long-no_group at to r s)

-- for a given `max`, the text `b` is refused for at most one reason other than `Memory`
pub one_unpack_fault : (b : List ℕ) (max : ℕ) (e f : UnpackFault)
    → IsUnpackRefused b max e → IsUnpackRefused b max f → (e ≡ fault.Memory → ⊥) → (f ≡ fault.Memory → ⊥) → e ≡ f
one_unpack_fault b max e f r s ne nf = one_packed b max e f r s ne nf
