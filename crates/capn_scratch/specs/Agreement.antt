-- The results of the calls that make canonical bytes, beside the results of `canonical_into_form`. (Our own.)
use Rattle.std.specs.Prelude.{◌≡◌, ◌⊎◌, ℕ, ◌+◌, ◌*◌, ◌<◌, ◌≤◌, List, ◌++◌, length, drop, Result, Ok, Err, IfOk, IfErr}
use Rattle.capn_walk.specs.Limits.{Bounds}
use Rattle.capn_canon.specs.Denotes.{AnswersMessage}
use Rattle.capn_canon.specs.Laws.{IsFoundOrRefused, IsWrittenOrRefused}
use Rattle.capn_canon.specs.Reads.{Reads}
use Rattle.capn_canon.specs.Refusal.{IsRefusedMessage}
use Rattle.capn_canon.specs.declared.canonical.Canonical.{Canonical}
use Rattle.capn_canon.specs.declared.form.Form.{Form}
use Rattle.capn_canon.specs.declared.length.CanonicalLength.{CanonicalLength}
use Rattle.capn_canon.specs.declared.message_refusal.IntoRefusal.{IntoRefusal}
use Rattle.capn_canon.specs.declared.refusal.Refusal.{Refusal}
use Rattle.capn_canon.specs.declared.refusal.Refusal.TheVariants as refusals
use Rattle.capn_scratch.specs.FormRefusal.{IsOfInto}
use Rattle.capn_scratch.specs.Laws.{IsFormWrittenOrRefused, most_scratch}
use Rattle.capn_scratch.specs.declared.refusal.FormRefusal.{FormRefusal}
use Rattle.capn_scratch.specs.declared.refusal.FormRefusal.TheVariants as told

-- ---- `canonicalise`

-- `f` is the `FormRefusal` with the name and the fields of the given `Refusal`. There is none for `Memory`.
abbrev pub IsOfRefusal : Refusal → FormRefusal → Type 0
IsOfRefusal (refusals.Bare e) f = f ≡ told.Bare e
IsOfRefusal (refusals.Packed e) f = f ≡ told.Packed e
IsOfRefusal (refusals.Frame e) f = f ≡ told.Frame e
IsOfRefusal (refusals.Trailing at) f = f ≡ told.Trailing at
IsOfRefusal (refusals.Walk s) f = f ≡ told.Walk s
IsOfRefusal (refusals.Capability k) f = f ≡ told.Capability k
IsOfRefusal refusals.Memory f = ⊥

-- `c` has canonical bytes and their price. `w` has the same length and the same price, and `new` is `old` with its
-- first bytes replaced by these canonical bytes.
pub record HasSameBytes {A : Type 0} (old new : List ℕ) (c : Canonical A) (w : CanonicalLength) : Type 0 where
  pub long : w.length ≡ length c.bytes.items
  pub pays : w.paid ≡ c.paid
  pub written : new ≡ c.bytes.items ++ drop (length c.bytes.items) old

-- `f` is `NoScratch`, and its number is above `scratch`.
abbrev pub IsNoScratch : (scratch : ℕ) → FormRefusal → Type 0
IsNoScratch scratch f = (n : ℕ) × (f ≡ told.NoScratch n) × (scratch < n)

-- `f` is `NoRoom`, with the length and the price of the canonical bytes in `c`. This length is above `room`.
abbrev pub IsNoRoom : {A : Type 0} → (room : ℕ) → Canonical A → FormRefusal → Type 0
IsNoRoom room c f = (f ≡ told.NoRoom (length c.bytes.items) c.paid) × (room < length c.bytes.items)

-- `r` is a result of `canonicalise`. `s` is a result of `canonical_into_form` with `scratch` words of scratch, and the
-- buffer was `old` and is `new`. If both are `Ok`, the bytes and the price are the same. If both are an `Err`, the
-- refusals are the same. Otherwise `r` is `Memory`, or `s` is `NoScratch` or `NoRoom`.
abbrev pub Agree : {A : Type 0} → (scratch : ℕ) → (old new : List ℕ) → Result (Canonical A) Refusal
    → Result CanonicalLength FormRefusal → Type 0
Agree scratch old new (Ok c) (Ok w) = HasSameBytes old new c w
Agree scratch old new (Ok c) (Err f) = IsNoScratch scratch f ⊎ IsNoRoom (length old) c f
Agree scratch old new (Err e) (Ok w) = e ≡ refusals.Memory
Agree scratch old new (Err e) (Err f) = (e ≡ refusals.Memory) ⊎ IsNoScratch scratch f ⊎ IsOfRefusal e f

-- `Agree` for a scratch and a buffer that are large enough, so that `s` is neither `NoScratch` nor `NoRoom`.
abbrev pub AgreeWithEnough : {A : Type 0} → (old new : List ℕ) → Result (Canonical A) Refusal
    → Result CanonicalLength FormRefusal → Type 0
AgreeWithEnough old new (Ok c) (Ok w) = HasSameBytes old new c w
AgreeWithEnough old new (Ok c) (Err f) = ⊥
AgreeWithEnough old new (Err e) (Ok w) = e ≡ refusals.Memory
AgreeWithEnough old new (Err e) (Err f) = (e ≡ refusals.Memory) ⊎ IsOfRefusal e f

-- For the same `form`, `bs` and `limits`, any results that the clauses of `canonicalise` and of `canonical_into_form`
-- allow agree.
abbrev pub MadeAgree : Type 0 → Type 0
MadeAgree A = (form : Form) (bs : List ℕ) (limits : Bounds) (scratch : ℕ) (old new : List ℕ)
    (r : Result (Canonical A) Refusal) (s : Result CanonicalLength FormRefusal) → IsFoundOrRefused form bs limits r
    → IsFormWrittenOrRefused form bs limits scratch old new s → Agree scratch old new r s

-- If the scratch has `most_scratch` words and the buffer has 8 bytes for each word of the budget and 8 more, the
-- results differ only if `canonicalise` returns `Memory`.
abbrev pub MadeAgreeWithEnough : Type 0 → Type 0
MadeAgreeWithEnough A = (form : Form) (bs : List ℕ) (limits : Bounds) (scratch : ℕ) (old new : List ℕ)
    (r : Result (Canonical A) Refusal) (s : Result CanonicalLength FormRefusal) → IsFoundOrRefused form bs limits r
    → IsFormWrittenOrRefused form bs limits scratch old new s → most_scratch form limits.message_words ≤ scratch
    → 8 * (limits.budget + 1) ≤ length old → AgreeWithEnough old new r s

-- ---- calls on a message

-- The clauses of `canonical_of` allow the result `r` for `message`.
pub record IsFoundOrRefusedMessage {A : Type 0} (message : List (List ℕ)) (limits : Bounds)
    (r : Result (Canonical A) Refusal) : Type 0 where
  pub found : IfOk r (λ c. AnswersMessage message limits c.bytes.items c.paid)
  pub refused : IfErr r (λ e. IsRefusedMessage message limits e)

-- If `bs` are read as `message`, any results that the clauses of `canonical_of` for `message` and of
-- `canonical_into_form` for `bs` allow agree.
abbrev pub MadeOfMessagesAgree : Type 0 → Type 0
MadeOfMessagesAgree A = (form : Form) (bs : List ℕ) (limits : Bounds) (scratch : ℕ) (old new : List ℕ)
    (message : List (List ℕ)) (r : Result (Canonical A) Refusal) (s : Result CanonicalLength FormRefusal)
    → Reads form bs limits.message_words message → IsFoundOrRefusedMessage message limits r
    → IsFormWrittenOrRefused form bs limits scratch old new s → Agree scratch old new r s

-- `r` is a result of `canonical_into`, and the buffer is then `p`. `s` is a result of `canonical_into_form` with
-- `scratch` words of scratch, and the buffer is then `q`. Unless `s` is `NoScratch`, the results are the same, and the
-- buffers are equal.
abbrev pub AgreeInto : (scratch : ℕ) → (p q : List ℕ) → Result CanonicalLength IntoRefusal
    → Result CanonicalLength FormRefusal → Type 0
AgreeInto scratch p q (Ok c) (Ok w) = (c ≡ w) × (p ≡ q)
AgreeInto scratch p q (Ok c) (Err f) = IsNoScratch scratch f
AgreeInto scratch p q (Err e) (Ok w) = ⊥
AgreeInto scratch p q (Err e) (Err f) = IsNoScratch scratch f ⊎ (IsOfInto e f × (p ≡ q))

-- If `bs` are read as `message`, any results that the clauses of `canonical_into` for `message` and of
-- `canonical_into_form` for `bs` allow agree, for the same buffer.
abbrev pub WrittenAgree : Type 0
WrittenAgree = (form : Form) (bs : List ℕ) (limits : Bounds) (scratch : ℕ) (old p q : List ℕ)
    (message : List (List ℕ)) (r : Result CanonicalLength IntoRefusal) (s : Result CanonicalLength FormRefusal)
    → Reads form bs limits.message_words message → IsWrittenOrRefused message limits old p r
    → IsFormWrittenOrRefused form bs limits scratch old q s → AgreeInto scratch p q r s
