-- The laws of canonical bytes.
use Rattle.std.specs.Prelude.{◌≡◌, ◌↔◌, ℕ, ◌*◌, ◌+◌, ◌≤◌, List, [], ◌∷◌, None, length, Result, IfOk, IfErr, OnErr}
use Rattle.std.specs.Prelude.{Bool, IsTrue}
use Rattle.capn_words.specs.Message.{bytes, IsBare, IsMessage}
use Rattle.capn_pack.specs.Words.{bytes as packed_bytes}
use Rattle.capn_value.specs.Tree.{Tree}
use Rattle.capn_value.specs.FirstCap.{first_cap}
use Rattle.capn_value.specs.InRange.{InRange}
use Rattle.capn_value.specs.Fits.{Fits}
use Rattle.capn_value.specs.Same.{Same}
use Rattle.capn_value.specs.Getters.{Step, get}
use Rattle.capn_value.specs.Cost.{base, cost, height}
use Rattle.capn_walk.specs.Accepted.{paid, root}
use Rattle.capn_walk.specs.ValueAt.{IsAt}
use Rattle.capn_walk.specs.Limits.{Bounds, AreLimits}
use Rattle.capn_canon.specs.declared.form.Form.{Form}
use Rattle.capn_canon.specs.declared.form.Form.TheVariants as forms
use Rattle.capn_canon.specs.declared.refusal.Refusal.{Refusal}
use Rattle.capn_canon.specs.declared.refusal.Refusal.TheVariants as refusals
use Rattle.capn_layout.specs.Layout.{canon}
use Rattle.capn_canon.specs.Denotes.{Denotes, Answers}
use Rattle.capn_canon.specs.PageForm.{IsPageForm}
use Rattle.capn_canon.specs.BareVerdict.{SaysCanonical, IsBareSurvey}
use Rattle.capn_canon.specs.declared.surveyed_bare.SurveyedBare.{SurveyedBare}
use Rattle.capn_canon.specs.Refusal.{IsRefused}
use Rattle.capn_canon.specs.declared.canonical.Canonical.{Canonical}
use Rattle.capn_canon.specs.Canonicity.{IsCanonicalForm}
use Rattle.capn_canon.specs.declared.length.CanonicalLength.{CanonicalLength}
use Rattle.capn_canon.specs.declared.message_refusal.IntoRefusal.{IntoRefusal}
use Rattle.capn_canon.specs.Theorem.{Answered, EqualExactly, OwnForm, WithinBudget, WrittenInto, RefusedInto}

-- Suppose that `v` fits and is in range, and that `limits` allow its cost and its height. Then `canon v` has the four
-- properties of a canonical form.
abbrev pub CanonIsForm : Type 0
CanonIsForm = (v : Tree) (limits : Bounds) → Fits v → InRange v → cost (base limits.tariff) v ≤ limits.budget
    → height v ≤ limits.depth
    → IsCanonicalForm (canon v) limits v

-- Two values that fit and are in range have equal canonical bytes if and only if they are the same (`Same`).
abbrev pub EqualExactlySame : Type 0
EqualExactlySame = (v w : Tree) → Fits v → InRange v → Fits w → InRange w → (canon v ≡ canon w) ↔ Same v w

-- The value `v`, which `bs` denote, fits, is in range and has a canonical form. The number of words paid bounds the
-- cost of `v` and the length of `canon v`. The limits bound the number of words paid and the height of `v`.
pub record HasCanonicalForm (form : Form) (bs : List ℕ) (limits : Bounds) (v : Tree)
    (h : Denotes form bs limits v) : Type 0 where
  pub fits : Fits v
  pub in_range : InRange v
  pub cheap : cost (base limits.tariff) v ≤ paid h.message limits
  pub within : paid h.message limits ≤ limits.budget
  pub low : height v ≤ limits.depth
  pub short : length (canon v) ≤ 8 * (paid h.message limits + 1)
  pub canonical : IsCanonicalForm (canon v) limits v

-- Each value that bytes denote within valid limits fits and has a canonical form (`HasCanonicalForm`).
abbrev pub DenotedHaveForms : Type 0
DenotedHaveForms = (form : Form) (bs : List ℕ) (limits : Bounds) (v : Tree)
    → AreLimits limits.message_words limits.budget limits.depth
    → (h : Denotes form bs limits v) → HasCanonicalForm form bs limits v h

-- Bytes in a form denote at most one value within limits.
abbrev pub DenoteOne : Type 0
DenoteOne = (form : Form) (bs : List ℕ) (limits : Bounds) (v w : Tree) → Denotes form bs limits v
    → Denotes form bs limits w → v ≡ w

-- If `bs` denote a value without capabilities, a refusal of `bs` is `Memory`.
abbrev pub DenotedAreNotRefused : Type 0
DenotedAreNotRefused = (form : Form) (bs : List ℕ) (limits : Bounds) (v : Tree) (r : Refusal)
    → Denotes form bs limits v → first_cap v ≡ None → IsRefused form bs limits r → r ≡ refusals.Memory

-- Two refusals that are true of the same bytes under the same limits are equal, if neither is `Memory`.
abbrev pub RefusedForOneReason : Type 0
RefusedForOneReason = (form : Form) (bs : List ℕ) (limits : Bounds) (r s : Refusal) → (r ≡ refusals.Memory → ⊥)
    → (s ≡ refusals.Memory → ⊥)
    → IsRefused form bs limits r → IsRefused form bs limits s → r ≡ s

-- The reader of messages and the packer give words the same bytes.
abbrev pub WordsHaveTheSameBytes : Type 0
WordsHaveTheSameBytes = (ws : List ℕ) → bytes ws ≡ packed_bytes ws

-- ---- the rules of the encoding page

-- Suppose that the words `ws`, whose bytes are `bs`, denote a value `v` that fits. Then `v` has no capability and `bs`
-- are its canonical bytes, if and only if `ws` follow the rules of the page.
abbrev pub CanonicalExactlyByPage : Type 0
CanonicalExactlyByPage = (bs ws : List ℕ) (v : Tree) → IsBare bs ws → IsAt (ws ∷ []) root v → Fits v
    → ((first_cap v ≡ None) × (canon v ≡ bs)) ↔ IsPageForm ws

-- Words that follow the rules of the page denote a value without capabilities.
abbrev pub PageFormsDenote : Type 0
PageFormsDenote = (ws : List ℕ) → IsPageForm ws → (v : Tree) × IsAt (ws ∷ []) root v × (first_cap v ≡ None)

-- `bs` are the bytes of words that follow the rules of the page. They denote a value that is the same as `v` (`Same`).
pub record IsPageFormOf (bs : List ℕ) (v : Tree) : Type 0 where
  pub words : List ℕ
  pub bare : IsBare bs words
  pub form : IsPageForm words
  pub denoted : Tree
  pub is : IsAt (words ∷ []) root denoted
  pub same : Same denoted v

-- Suppose that `v` fits, is in range and has no capability. Then `bs` are the canonical bytes of `v` if and only if
-- `bs` are a page form of `v` (`IsPageFormOf`).
abbrev pub CanonIsThePageForm : Type 0
CanonIsThePageForm = (v : Tree) (bs : List ℕ) → Fits v → InRange v → first_cap v ≡ None
    → (bs ≡ canon v) ↔ IsPageFormOf bs v

-- If `out` is an answer for `bs` under valid limits (`Answers`), `out` is a page form of the value that `bs` denote
-- (`IsPageFormOf`).
abbrev pub AnswersFollowThePage : Type 0
AnswersFollowThePage = (form : Form) (bs : List ℕ) (limits : Bounds) (out : List ℕ) (price : ℕ)
    → AreLimits limits.message_words limits.budget limits.depth → Answers form bs limits out price
    → (v : Tree) × Denotes form bs limits v × IsPageFormOf out v

-- If `told` says whether `bs` are canonical (`SaysCanonical`), `told` is true if and only if `bs` are the bytes of
-- words that follow the rules of the page.
abbrev pub CheckIsOfThePage : Type 0
CheckIsOfThePage = (bs : List ℕ) (limits : Bounds) (told : Bool)
    → AreLimits limits.message_words limits.budget limits.depth → SaysCanonical bs limits told
    → IsTrue told ↔ ((ws : List ℕ) × IsBare bs ws × IsPageForm ws)

-- If `c` is the survey of a message of the one segment `words`, `c.is_canonical` is true if and only if `words` follow
-- the rules of the page.
abbrev pub SurveyIsOfThePage : Type 0
SurveyIsOfThePage = (words : List ℕ) (limits : Bounds) (c : SurveyedBare) → IsMessage (words ∷ [])
    → AreLimits limits.message_words limits.budget limits.depth → IsBareSurvey words limits c
    → IsTrue c.is_canonical ↔ IsPageForm words

-- ---- the theorem, of all results that the clauses of `canonicalise` allow

-- The limits are valid, and the clauses of `canonicalise` allow the result `r`. If `r` is `Ok`, it has an answer for
-- `bs` (`Answers`). Otherwise its refusal is true of `bs` (`IsRefused`).
pub record IsFoundOrRefused {A : Type 0} (form : Form) (bs : List ℕ) (limits : Bounds)
    (r : Result (Canonical A) Refusal) : Type 0 where
  pub are : AreLimits limits.message_words limits.budget limits.depth
  pub found : IfOk r (λ c. Answers form bs limits c.bytes.items c.paid)
  pub refused : IfErr r (λ e. IsRefused form bs limits e)

-- A result that the clauses allow and that is not `Memory` is `Ok` if and only if `bs` denote a value without
-- capabilities.
abbrev pub EachIsAnswered : Type 0 → Type 0
EachIsAnswered A = (form : Form) (bs : List ℕ) (limits : Bounds) (r : Result (Canonical A) Refusal)
    → IsFoundOrRefused form bs limits r → Answered form bs limits r

-- Any two answers that the clauses allow are equal if and only if their inputs denote values that are the same
-- (`Same`).
abbrev pub AnswersAreEqualExactly : Type 0 → Type 0
AnswersAreEqualExactly A = (form : Form) (bs : List ℕ) (limits : Bounds) (r : Result (Canonical A) Refusal)
    → IsFoundOrRefused form bs limits r → IfOk r (λ c. EqualExactly form bs limits c.bytes.items)

-- An answer that the clauses allow denotes a value that is the same as the value of its input (`Same`). Canonicalising
-- the answer gives the same bytes, or `Memory`.
abbrev pub AnswersAreOwnForms : Type 0 → Type 0
AnswersAreOwnForms A = (form : Form) (bs : List ℕ) (limits : Bounds) (r : Result (Canonical A) Refusal)
    → IsFoundOrRefused form bs limits r → IfOk r (λ c. OwnForm form bs limits c)

-- A result that the clauses allow reports at most `limits.budget` words as paid.
abbrev pub WalksAreWithinBudgets : Type 0 → Type 0
WalksAreWithinBudgets A = (form : Form) (bs : List ℕ) (limits : Bounds) (r : Result (Canonical A) Refusal)
    → IsFoundOrRefused form bs limits r → WithinBudget limits r

-- ---- the readers of a message and of its canonical bytes

-- Suppose that `v` and `w` fit and are in range. Their canonical bytes are equal if and only if the getters return the
-- same from both, along every path.
abbrev pub CanonIsWhatIsTold : Type 0
CanonIsWhatIsTold = (v w : Tree) → Fits v → InRange v → Fits w → InRange w
    → (canon v ≡ canon w) ↔ ((p : List Step) → get v p ≡ get w p)

-- Suppose that the words `ws` and `us` follow the rules of the page, and denote the values `v` and `w`, which fit.
-- Their bytes are equal if and only if the getters return the same from both values, along every path.
abbrev pub PageFormsAreWhatIsTold : Type 0
PageFormsAreWhatIsTold = (bs ds ws us : List ℕ) (v w : Tree) → IsBare bs ws → IsBare ds us → IsAt (ws ∷ []) root v
    → IsAt (us ∷ []) root w → Fits v → Fits w → IsPageForm ws → IsPageForm us
    → (bs ≡ ds) ↔ ((p : List Step) → get v p ≡ get w p)

-- Let `other` be an answer for any input `ds`. Then `answer` equals `other` if and only if the getters return the same
-- from the values that `bs` and `ds` denote, along every path.
abbrev pub EqualToGetters : Form → List ℕ → Bounds → List ℕ → Type 0
EqualToGetters form bs limits answer = (g : Form) (ds : List ℕ) (other_limits : Bounds) (other : List ℕ) (price : ℕ)
    (v w : Tree) → AreLimits other_limits.message_words other_limits.budget other_limits.depth
    → Answers g ds other_limits other price → Denotes form bs limits v → Denotes g ds other_limits w
    → (answer ≡ other) ↔ ((p : List Step) → get v p ≡ get w p)

-- Any two answers that the clauses allow are equal if and only if the getters return the same from the values that
-- their inputs denote.
abbrev pub AnswersAreEqualToGetters : Type 0 → Type 0
AnswersAreEqualToGetters A = (form : Form) (bs : List ℕ) (limits : Bounds) (r : Result (Canonical A) Refusal)
    → IsFoundOrRefused form bs limits r → IfOk r (λ c. EqualToGetters form bs limits c.bytes.items)

-- Let `v` be the value of the input of an answer that the clauses allow. Read bare under the same limits, the answer
-- denotes a value from which the getters return the same as from `v`.
abbrev pub AnswersTellTheSame : Type 0 → Type 0
AnswersTellTheSame A = (form : Form) (bs : List ℕ) (limits : Bounds) (r : Result (Canonical A) Refusal)
    → IsFoundOrRefused form bs limits r → IfOk r (λ c. (v : Tree) → Denotes form bs limits v
    → (w : Tree) × Denotes forms.Bare c.bytes.items limits w × ((p : List Step) → get w p ≡ get v p))

-- ---- the theorem of `canonical_into`, of all results that its clauses allow

-- The clauses of `canonical_into` allow the result `r`. If `r` is `Ok`, the canonical bytes are written
-- (`WrittenInto`). Otherwise the refusal is true (`RefusedInto`), and the buffer is as before.
pub record IsWrittenOrRefused (message : List (List ℕ)) (limits : Bounds) (old new : List ℕ)
    (r : Result CanonicalLength IntoRefusal) : Type 0 where
  pub written : IfOk r (λ c. WrittenInto message limits old new c)
  pub refused : IfErr r (λ e. RefusedInto message limits (length old) e)
  pub unchanged : OnErr r (new ≡ old)

-- For the same `message`, `limits` and `old`, the clauses of `canonical_into` allow only one result and only one
-- content of the buffer.
abbrev pub IntoIsDecided : Type 0
IntoIsDecided = (message : List (List ℕ)) (limits : Bounds) (old p q : List ℕ)
    (r s : Result CanonicalLength IntoRefusal) → IsWrittenOrRefused message limits old p r
    → IsWrittenOrRefused message limits old q s → (r ≡ s) × (p ≡ q)
