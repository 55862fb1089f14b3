-- Each value without capabilities has only one form that follows the rules of the page: its canonical bytes. (For
-- `page`.)
use Rattle.std.proofs.Common.{◌≡◌, ◌↔◌, ℕ, ◌+◌, ◌≤◌, Bool, IsTrue, List, [], ◌∷◌, length, None, refl, ap}
use Rattle.std.proofs.Common.{sym, subst, ◌∙◌, arith}
use Rattle.capn_words.specs.Message.{IsBare, IsMessage, bytes}
use Rattle.capn_words.proofs.shared.OneSegment.{bare_message, one_bare}
use Rattle.capn_value.specs.Tree.{Tree}
use Rattle.capn_value.specs.FirstCap.{first_cap}
use Rattle.capn_value.specs.Fits.{Fits}
use Rattle.capn_value.specs.InRange.{InRange}
use Rattle.capn_value.specs.Trim.{trimmed}
use Rattle.capn_value.proofs.shared.Fitting.{fit_parts}
use Rattle.capn_value.proofs.shared.SameTrimmed.{same_exactly_trimmed}
use Rattle.capn_value.proofs.shared.StaysFit.{fits-trimmed}
use Rattle.capn_target.specs.Shapes.{extent}
use Rattle.capn_walk.specs.Accepted.{root, IsValueOf}
use Rattle.capn_walk.specs.Limits.{Bounds, AreLimits}
use Rattle.capn_walk.specs.ValueAt.{IsAt}
use Rattle.capn_walk.proofs.shared.InRangeAt.{in_range-at}
use Rattle.capn_layout.specs.Layout.{size, words, canon}
use Rattle.capn_layout.specs.Sound.{Sound}
use Rattle.capn_layout.proofs.shared.Room.{room, length_words}
use Rattle.capn_layout.proofs.shared.Sound.{sound, sound-parts}
use Rattle.capn_canon.specs.BareVerdict.{SaysCanonical, IsBareSurvey}
use Rattle.capn_canon.specs.Denotes.{Denotes, Answers}
use Rattle.capn_canon.specs.declared.form.Form.{Form}
use Rattle.capn_canon.specs.declared.surveyed_bare.SurveyedBare.{SurveyedBare}
use Rattle.capn_canon.specs.Laws.{IsPageFormOf}
use Rattle.capn_canon.specs.PageForm.{Met, null, object, WithoutGaps, IsPageForm}
use Rattle.capn_canon.proofs.places.CanonicalWords.{words-stand, stand-words, bytes-words}
use Rattle.capn_canon.proofs.shared.BareCanon.{canon_is_bare}
use Rattle.capn_canon.proofs.theorem.Headline.{denoted_fits, denoted_has_form}
use Rattle.capn_canon.proofs.theorem.EqualExactlySame.{canon-trimmed, trimmed_is_same}
use Rattle.capn_canon.proofs.theorem.CapOfTrimmed.{cap-trimmed}
use Rattle.capn_canon.proofs.reading.ReadBack.{read_back}
use Rattle.capn_canon.proofs.page.SamePlaces.{parts-same}
use Rattle.capn_canon.proofs.page.Rules.{Follows, form-follows, follows-form}
use Rattle.capn_canon.proofs.page.Stands.{value-stands}
use Rattle.capn_canon.proofs.page.LaidFollows.{value-goes}

module _ (all : List ℕ) where
  ended : (next : ℕ) (met : List Met) → Follows all next [] met → next ≡ length all
  ended next [] f = f
  ended next (m ∷ met) f = absurd f

  begun : (met : List Met) (next : ℕ) → WithoutGaps all next met → next ≤ length all
  begun [] next f = omega arith
  begun (null ∷ met) next f = begun met next f
  begun (object pointer start shape ∷ met) next f = let h = begun met (next + extent shape) f.1 in omega arith

-- In this block the words `ws`, whose bytes are `bs`, denote a sound value `v` and follow the rules.
module _ (bs ws : List ℕ) (v : Tree) (bare : IsBare bs ws) (at : IsAt (ws ∷ []) root v) (sound-v : Sound v) where
  follows-sound : IsPageForm ws → (first_cap v ≡ None) × (canon v ≡ bs)
  follows-sound p =
      let some = begun ws p.pointers 1 p.no_gap in
      let (met, f) = form-follows ws p in
      let message = bare_message ws bare.each bare.room in
      let k = value-stands ws message v 0 1 [] met at sound-v (omega arith) some f in
      let same = words-stand ws v sound-v (omega arith) k.laid (ended ws (1 + size v) k.rest k.follows) in
      (k.free, ap bytes same ∙ sym bare.same)

-- In this block the words `ws`, whose bytes are `bs`, denote a value `v` that fits.
module _ (bs ws : List ℕ) (v : Tree) (bare : IsBare bs ws) (at : IsAt (ws ∷ []) root v) (fits : Fits v) where
  message : IsMessage (ws ∷ [])
  message = bare_message ws bare.each bare.room

  in_range : InRange v
  in_range = in_range-at (ws ∷ []) message.each v root at

  is-sound : Sound v
  is-sound = sound v fits in_range

  canonical-follows : first_cap v ≡ None → canon v ≡ bs → IsPageForm ws
  canonical-follows free e =
      let same = (bytes-words bs ws v bare fits in_range).1 e in
      let long = sym (length_words v is-sound) ∙ ap length same in
      let (laid, ends) = stand-words ws v is-sound (omega arith) same in
      let (met, f) = value-goes ws message v 0 1 [] [] at is-sound free (omega arith) (omega arith) laid ends in
      follows-form ws met f

  -- The words `ws` follow the rules if and only if `v` has no capability and `bs` are its canonical bytes.
  pub canonical_exactly_by_page : ((first_cap v ≡ None) × (canon v ≡ bs)) ↔ IsPageForm ws
  canonical_exactly_by_page = ((λ e. canonical-follows e.0 e.1), follows-sound bs ws v bare at is-sound)

-- If `v` fits, is in range and has no capability, its canonical bytes are its only page form (`IsPageFormOf`).
pub canon_is_the_page_form : (v : Tree) (bs : List ℕ) → Fits v → InRange v → first_cap v ≡ None
    → (bs ≡ canon v) ↔ IsPageFormOf bs v
canon_is_the_page_form v bs f r free = (there, back)
  where
    there : bs ≡ canon v → IsPageFormOf bs v
    there e =
        let few = (room v f r).2 in
        let at = read_back v (sound v f r) (omega arith) in
        let bare = subst (λ (xs : List ℕ). IsBare xs (words v)) (sym e) (canon_is_bare v f r) in
        let fit = fits-trimmed v f in
        record {
          words = words v;
          bare = bare;
          form = (canonical_exactly_by_page bs (words v) (trimmed v) bare at fit).0
              (cap-trimmed v ∙ free, canon-trimmed v ∙ sym e);
          denoted = trimmed v;
          is = at;
          same = trimmed_is_same v f r;
        }

    back : IsPageFormOf bs v → bs ≡ canon v
    back p =
        let m = bare_message p.words p.bare.each p.bare.room in
        let one = p.words ∷ [] in
        let known = fit_parts v f in
        let parts = parts-same one p.denoted v root p.same known.short p.is in
        let whole = sound-parts p.denoted parts.narrow parts.short parts.even
        (in_range-at one m.each p.denoted root p.is) in
        let c = follows-sound bs p.words p.denoted p.bare p.is whole p.form in
        let e = (same_exactly_trimmed p.denoted v parts.even known.even).0 p.same in
        sym c.1 ∙ sym (canon-trimmed p.denoted) ∙ ap canon e ∙ canon-trimmed v

-- An answer `out` is a page form of the value that `bs` denote (`IsPageFormOf`).
pub answers_follow : (form : Form) (bs : List ℕ) (limits : Bounds) (out : List ℕ) (price : ℕ)
    → AreLimits limits.message_words limits.budget limits.depth → Answers form bs limits out price
    → (v : Tree) × Denotes form bs limits v × IsPageFormOf out v
answers_follow form bs limits out price are h =
    let v = h.answer.value in
    let d : Denotes form bs limits v = record { message = h.message; reads = h.reads; value = h.answer.is } in
    let k = denoted_has_form form bs limits v are d in
    (v, d, (canon_is_the_page_form v out k.fits k.in_range h.answer.free).0 h.answer.canonical)

-- In this block the words `ws`, whose bytes are `bs`, are accepted within `limits` with the value `v`.
module _ (bs ws : List ℕ) (limits : Bounds) (v : Tree) (are : AreLimits limits.message_words limits.budget limits.depth)
    (bare : IsBare bs ws) (h : IsValueOf (ws ∷ []) limits v) where
  accepted-by-page : ((first_cap v ≡ None) × (canon v ≡ bs)) ↔ IsPageForm ws
  accepted-by-page = canonical_exactly_by_page bs ws v bare h.is
      (denoted_fits (ws ∷ []) limits v (bare_message ws bare.each bare.room) are.small_budget are.small_depth h)

-- If `told` says whether `bs` are canonical (`SaysCanonical`), `told` is true if and only if `bs` are the bytes of
-- words that follow the rules.
pub check_is_of_the_page : (bs : List ℕ) (limits : Bounds) (told : Bool)
    → AreLimits limits.message_words limits.budget limits.depth → SaysCanonical bs limits told
    → IsTrue told ↔ ((ws : List ℕ) × IsBare bs ws × IsPageForm ws)
check_is_of_the_page bs limits told are h =
    let (ws, b, m) = h.is.reads in
    let at : IsValueOf (ws ∷ []) limits h.value =
    subst (λ (n : List (List ℕ)). IsValueOf n limits h.value) m h.is.value in
    let law = accepted-by-page bs ws limits h.value are b at in (
      (λ y. (ws, b, law.0 (h.free, h.answer.0 y))),
      (λ p. h.answer.1 (law.1 (subst IsPageForm (one_bare bs p.0 ws p.1 b) p.2)).1),
    )

pub survey_is_of_the_page : (words : List ℕ) (limits : Bounds) (c : SurveyedBare) → IsMessage (words ∷ [])
    → AreLimits limits.message_words limits.budget limits.depth → IsBareSurvey words limits c
    → IsTrue c.is_canonical ↔ IsPageForm words
survey_is_of_the_page words limits c message are h =
    let bare : IsBare (bytes words) words =
    record { same = refl; each = message.each 0; room = (let r = message.room in omega arith) } in
    let law = accepted-by-page (bytes words) words limits h.value are bare h.is in
    ((λ y. law.0 (h.answer.0 y)), (λ p. h.answer.1 (law.1 p)))
