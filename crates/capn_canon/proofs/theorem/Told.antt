-- Canonical bytes are equal if and only if the getters return the same from both values. The getters return the same
-- from the value of an answer as from the value of its input. (For `readers`.)
use Rattle.std.proofs.Common.{◌≡◌, ◌↔◌, ℕ, List, [], ◌∷◌, ap, sym, ◌∙◌}
use Rattle.capn_words.specs.Message.{IsBare}
use Rattle.capn_words.proofs.shared.OneSegment.{bare_message}
use Rattle.capn_value.specs.Tree.{Tree}
use Rattle.capn_value.specs.Fits.{Fits}
use Rattle.capn_value.specs.InRange.{InRange}
use Rattle.capn_value.specs.Getters.{Step, get}
use Rattle.capn_value.proofs.shared.Told.{same_exactly_told, same_got}
use Rattle.capn_walk.specs.Accepted.{root}
use Rattle.capn_walk.specs.Limits.{Bounds}
use Rattle.capn_walk.specs.ValueAt.{IsAt}
use Rattle.capn_walk.proofs.shared.InRangeAt.{in_range-at}
use Rattle.capn_layout.specs.Layout.{canon}
use Rattle.capn_canon.specs.declared.form.Form.{Form}
use Rattle.capn_canon.specs.declared.form.Form.TheVariants as forms
use Rattle.capn_canon.specs.declared.canonical.Canonical.{Canonical}
use Rattle.capn_canon.specs.Denotes.{Denotes}
use Rattle.capn_canon.specs.Theorem.{EqualExactly, OwnForm}
use Rattle.capn_canon.specs.Laws.{EqualToGetters}
use Rattle.capn_canon.specs.PageForm.{IsPageForm}
use Rattle.capn_canon.proofs.page.ThePage.{canonical_exactly_by_page}
use Rattle.capn_canon.proofs.shared.OneReading.{one_value}
use Rattle.capn_canon.proofs.theorem.EqualExactlySame.{equal_exactly_same}

pub canon_is_what_is_told : (v w : Tree) → Fits v → InRange v → Fits w → InRange w
    → (canon v ≡ canon w) ↔ ((p : List Step) → get v p ≡ get w p)
canon_is_what_is_told v w fv rv fw rw =
    let a = equal_exactly_same v w fv rv fw rw in
    let b = same_exactly_told v w in
    ((λ e. b.0 (a.0 e)), (λ e. a.1 (b.1 e)))

pub equal_to_getters : (form : Form) (bs : List ℕ) (limits : Bounds) (answer : List ℕ)
    → EqualExactly form bs limits answer → EqualToGetters form bs limits answer
equal_to_getters form bs limits answer h g ds m other price v w are k d e =
    let a = h g ds m other price v w are k d e in
    let b = same_exactly_told v w in
    ((λ x. b.0 (a.0 x)), (λ x. a.1 (b.1 x)))

pub tells_the_same : {A : Type 0} (form : Form) (bs : List ℕ) (limits : Bounds) (c : Canonical A)
    → OwnForm form bs limits c → (v : Tree) → Denotes form bs limits v
    → (w : Tree) × Denotes forms.Bare c.bytes.items limits w × ((p : List Step) → get w p ≡ get v p)
tells_the_same form bs limits c h v d = (
  h.value,
  h.reads_bare,
  (λ p. same_got p h.value h.denoted h.same
      ∙ ap (λ (t : Tree). get t p) (one_value form bs limits h.denoted v h.is d)),
)

-- In this block the words `ws` and `us`, whose bytes are `bs` and `ds`, denote the values `v` and `w`, which fit.
module _ (bs ds ws us : List ℕ) (v w : Tree) (bare : IsBare bs ws) (bare-other : IsBare ds us)
    (at : IsAt (ws ∷ []) root v) (at-other : IsAt (us ∷ []) root w) (fv : Fits v) (fw : Fits w) where
  pub forms_are_what_is_told : IsPageForm ws → IsPageForm us → (bs ≡ ds) ↔ ((p : List Step) → get v p ≡ get w p)
  forms_are_what_is_told form form-other =
      let a = ((canonical_exactly_by_page bs ws v bare at fv).1 form).1 in
      let b = ((canonical_exactly_by_page ds us w bare-other at-other fw).1 form-other).1 in
      let rv = in_range-at (ws ∷ []) (bare_message ws bare.each bare.room).each v root at in
      let rw = in_range-at (us ∷ []) (bare_message us bare-other.each bare-other.room).each w root at-other in
      let c = canon_is_what_is_told v w fv rv fw rw in
      ((λ e. c.0 (a ∙ e ∙ sym b)), (λ e. sym a ∙ c.1 e ∙ b))
