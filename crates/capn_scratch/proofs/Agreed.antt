-- The results of the calls that make canonical bytes agree with those of `canonical_into_form`. (For `agreement`.)
use Rattle.std.proofs.Common.{◌≡◌, ◌⊎◌, inl, inr, ℕ, ◌+◌, ◌*◌, ◌<◌, ◌≤◌, List, ◌++◌, length, drop, Result, Ok, Err}
use Rattle.std.proofs.Common.{IfOk, IfErr, None, refl, ap, sym, subst, ◌∙◌, arith}
use Rattle.capn_value.specs.Tree.{Tree}
use Rattle.capn_value.specs.FirstCap.{first_cap}
use Rattle.capn_walk.specs.Accepted.{paid}
use Rattle.capn_walk.specs.Limits.{AreLimits, Bounds}
use Rattle.capn_canon.specs.declared.canonical.Canonical.{Canonical}
use Rattle.capn_canon.specs.declared.form.Form.{Form}
use Rattle.capn_canon.specs.declared.length.CanonicalLength.{CanonicalLength}
use Rattle.capn_canon.specs.declared.message_refusal.IntoRefusal.{IntoRefusal}
use Rattle.capn_canon.specs.declared.message_refusal.IntoRefusal.TheVariants as intos
use Rattle.capn_canon.specs.declared.refusal.Refusal.{Refusal}
use Rattle.capn_canon.specs.declared.refusal.Refusal.TheVariants as refusals
use Rattle.capn_canon.specs.Denotes.{Answers, AnswersMessage, Denotes}
use Rattle.capn_canon.specs.Laws.{DenotedHaveForms, IsFoundOrRefused, IsWrittenOrRefused}
use Rattle.capn_canon.specs.Reads.{Reads}
use Rattle.capn_canon.specs.Refusal.{IsMisread, IsRefused, IsRefusedMessage}
use Rattle.capn_canon.specs.Theorem.{RefusedInto, WrittenInto}
use Rattle.capn_canon.proofs.shared.NotRefused.{not_refused, read-not_misread}
use Rattle.capn_canon.proofs.shared.OneReading.{answers_only, one_message, one_value}
use Rattle.capn_canon.proofs.shared.OneRefusal.{one_refusal}
use Rattle.capn_layout.specs.Layout.{canon}
use Rattle.capn_scratch.specs.Agreement.{Agree, AgreeInto, AgreeWithEnough, HasSameBytes, IsFoundOrRefusedMessage}
use Rattle.capn_scratch.specs.Agreement.{IsNoRoom, IsNoScratch, IsOfRefusal}
use Rattle.capn_scratch.specs.FormRefusal.{IsFormRefused, IsMessageRefused, IsOfInto, IsReadRefused}
use Rattle.capn_scratch.specs.Laws.{FormIsDecided, IsFormWrittenOrRefused, ScratchIsBounded, most_scratch}
use Rattle.capn_scratch.specs.Needs.{HasScratch}
use Rattle.capn_scratch.specs.Theorem.{WrittenForm}
use Rattle.capn_scratch.specs.declared.refusal.FormRefusal.{FormRefusal}
use Rattle.capn_scratch.specs.declared.refusal.FormRefusal.TheVariants as told

-- ---- canonical bytes of the same bytes

module _ (form : Form) (bs : List ℕ) (limits : Bounds) where
  value_of : (out : List ℕ) (n : ℕ) (h : Answers form bs limits out n) → Denotes form bs limits h.answer.value
  value_of out n h = record { message = h.message; reads = h.reads; value = h.answer.is }

  one_answer : (a b : List ℕ) (m n : ℕ) → Answers form bs limits a m → Answers form bs limits b n
      → (a ≡ b) × (m ≡ n)
  one_answer a b m n h k =
      let same = one_message form bs limits.message_words h.message k.message h.reads k.reads in (
        answers_only form bs limits a m h k.answer.value (value_of b n k) ∙ sym k.answer.canonical,
        h.answer.priced ∙ ap (λ (x : List (List ℕ)). paid x limits) same ∙ sym k.answer.priced,
      )

  answer_of : (scratch : ℕ) (old new : List ℕ) (w : CanonicalLength)
      (h : WrittenForm form bs limits scratch old new w)
      → Answers form bs limits (canon h.written.value) w.paid
  answer_of scratch old new w h = record {
    message = h.message;
    reads = h.reads;
    answer = record {
      value = h.written.value;
      is = h.written.is.is;
      free = h.written.is.free;
      canonical = refl;
      priced = h.written.is.pays;
    };
  }

  not_answered : (out : List ℕ) (n : ℕ) (e : Refusal) → Answers form bs limits out n → IsRefused form bs limits e
      → e ≡ refusals.Memory
  not_answered out n e h k = not_refused form bs limits h.answer.value e (value_of out n h) h.answer.free k

-- ---- the refusals

-- A refusal of `canonicalise` is `Memory` or not.
is_memory : (e : Refusal) → (e ≡ refusals.Memory) ⊎ (e ≡ refusals.Memory → ⊥)
is_memory refusals.Memory = inl refl
is_memory (refusals.Bare e) = inr (λ x. absurd cc)
is_memory (refusals.Packed e) = inr (λ x. absurd cc)
is_memory (refusals.Frame e) = inr (λ x. absurd cc)
is_memory (refusals.Trailing at) = inr (λ x. absurd cc)
is_memory (refusals.Walk s) = inr (λ x. absurd cc)
is_memory (refusals.Capability k) = inr (λ x. absurd cc)

-- `f` has the name and the fields of a refusal `r` of `canonicalise` that is true of `bs` and is not `Memory`.
abbrev IsPlain : Form → List ℕ → Bounds → FormRefusal → Type 0
IsPlain form bs limits f = (r : Refusal) × IsOfRefusal r f × (r ≡ refusals.Memory → ⊥) × IsRefused form bs limits r

-- `f` is a `NoRoom` that is true of `bs`, with the length of the canonical bytes and the price.
abbrev IsRoomless : Form → List ℕ → Bounds → ℕ → FormRefusal → Type 0
IsRoomless form bs limits room f = (out : List ℕ) × (n : ℕ) × Answers form bs limits out n
    × (f ≡ told.NoRoom (length out) n) × (room < length out)

module _ (most : ScratchIsBounded) (form : Form) (bs : List ℕ) (limits : Bounds) (scratch room : ℕ) where
  kind : (f : FormRefusal) → IsFormRefused form bs limits scratch room f
      → IsNoScratch scratch f ⊎ (IsRoomless form bs limits room f ⊎ IsPlain form bs limits f)
  kind (told.Bare e) h = inr (inr (refusals.Bare e, refl, (λ x. absurd cc), h))
  kind (told.Packed e) h = inr (inr (refusals.Packed e, refl, (λ x. absurd cc), h))
  kind (told.Frame e) h = inr (inr (refusals.Frame e, refl, (λ x. absurd cc), h.1))
  kind (told.Trailing at) h = inr (inr (refusals.Trailing at, refl, (λ x. absurd cc), h.1))
  kind (told.NoScratch n) h = inl (n, refl, (most form bs limits scratch room n h).0)
  kind (told.Walk s) (m, is, has, h) = inr (inr (refusals.Walk s, refl, (λ x. absurd cc), (m, is, h)))
  kind (told.Capability k) (m, is, has, h) = inr (inr (refusals.Capability k, refl, (λ x. absurd cc), (m, is, h)))
  kind (told.NoRoom n p) (m, is, has, (v, at_root, free, long, less, pays)) = inr (inl (
    canon v,
    p,
    record {
      message = m;
      reads = is;
      answer = record { value = v; is = at_root; free = free; canonical = refl; priced = pays };
    },
    ap (λ (x : ℕ). told.NoRoom x p) long,
    omega (arith, long, less),
  ))

-- ---- `canonicalise`

module _ (most : ScratchIsBounded) (form : Form) (bs : List ℕ) (limits : Bounds) (scratch : ℕ)
    (old new : List ℕ) where
  both_made : {A : Type 0} (c : Canonical A) (w : CanonicalLength) → Answers form bs limits c.bytes.items c.paid
      → WrittenForm form bs limits scratch old new w → HasSameBytes old new c w
  both_made c w h k =
      let same = one_answer form bs limits (canon k.written.value) c.bytes.items w.paid c.paid
      (answer_of form bs limits scratch old new w k) h in
      record {
        long = k.written.is.long ∙ ap length same.0;
        pays = same.1;
        written = subst (λ (x : List ℕ). new ≡ x ++ drop (length x) old) same.0 k.written.written;
      }

  only_made : {A : Type 0} (c : Canonical A) (f : FormRefusal) → Answers form bs limits c.bytes.items c.paid
      → IsNoScratch scratch f ⊎ (IsRoomless form bs limits (length old) f ⊎ IsPlain form bs limits f)
      → IsNoScratch scratch f ⊎ IsNoRoom (length old) c f
  only_made c f h (inl k) = inl k
  only_made c f h (inr (inl (out, n, k, is, less))) =
      let same = one_answer form bs limits out c.bytes.items n c.paid k h in inr (
        is ∙ ap (λ (x : List ℕ). told.NoRoom (length x) n) same.0
            ∙ ap (λ (x : ℕ). told.NoRoom (length c.bytes.items) x) same.1,
        omega (arith, less, ap length same.0),
      )
  only_made c f h (inr (inr (r, is, other, k))) =
      absurd (other (not_answered form bs limits c.bytes.items c.paid r h k))

  neither_made : (e : Refusal) (f : FormRefusal) → IsRefused form bs limits e
      → IsNoScratch scratch f ⊎ (IsRoomless form bs limits (length old) f ⊎ IsPlain form bs limits f)
      → (e ≡ refusals.Memory) ⊎ IsNoScratch scratch f ⊎ IsOfRefusal e f
  neither_made e f h k = elim (is_memory e) [
    | inl memory ↦ inl memory
    | inr plain ↦ elim k [
      | inl lacks ↦ inr (inl lacks)
      | inr l ↦ elim l [
        | inl r ↦ inl (not_answered form bs limits r.0 r.1 e r.2 h)
        | inr p ↦
            let same = one_refusal form bs limits p.0 e p.2 plain p.3 h in
            inr (inr (subst (λ (x : Refusal). IsOfRefusal x f) same p.1))
      ]
    ]
  ]

  pub agreed : {A : Type 0} (r : Result (Canonical A) Refusal) (s : Result CanonicalLength FormRefusal)
      → IfOk r (λ c. Answers form bs limits c.bytes.items c.paid) → IfErr r (λ e. IsRefused form bs limits e)
      → IsFormWrittenOrRefused form bs limits scratch old new s → Agree scratch old new r s
  agreed (Ok c) (Ok w) h i k = both_made c w h k.written
  agreed (Ok c) (Err f) h i k = only_made c f h (kind most form bs limits scratch (length old) f k.refused)
  agreed (Err e) (Ok w) h i k =
      not_answered form bs limits (canon k.written.written.value) w.paid e
      (answer_of form bs limits scratch old new w k.written) i
  agreed (Err e) (Err f) h i k = neither_made e f i (kind most form bs limits scratch (length old) f k.refused)

-- ---- a scratch and a buffer that are large enough

module _ (most : ScratchIsBounded) (have : DenotedHaveForms) (form : Form) (bs : List ℕ) (limits : Bounds)
    (scratch : ℕ) (old new : List ℕ) (enough : most_scratch form limits.message_words ≤ scratch)
    (long : 8 * (limits.budget + 1) ≤ length old) where
  no_lack : (f : FormRefusal) → IsFormRefused form bs limits scratch (length old) f → IsNoScratch scratch f → ⊥
  no_lack f h (n, is, less) =
      let b = most form bs limits scratch (length old) n
      (subst (λ (x : FormRefusal). IsFormRefused form bs limits scratch (length old) x) is h) in
      omega (arith, b.1, less, enough)

  fits : {A : Type 0} (are : AreLimits limits.message_words limits.budget limits.depth) (c : Canonical A)
      → Answers form bs limits c.bytes.items c.paid → length c.bytes.items ≤ length old
  fits are c h =
      let denotes = value_of form bs limits c.bytes.items c.paid h in
      let f = have form bs limits h.answer.value are denotes in
      omega (arith, f.short, f.within, ap length h.answer.canonical, long)

  made : {A : Type 0} (r : Result (Canonical A) Refusal) (s : Result CanonicalLength FormRefusal)
      → IsFoundOrRefused form bs limits r → IsFormWrittenOrRefused form bs limits scratch old new s
      → Agree scratch old new r s
  made r s h k = agreed most form bs limits scratch old new r s h.found h.refused k

  pub agreed_with_enough : {A : Type 0} (r : Result (Canonical A) Refusal) (s : Result CanonicalLength FormRefusal)
      → IsFoundOrRefused form bs limits r → IsFormWrittenOrRefused form bs limits scratch old new s
      → AgreeWithEnough old new r s
  agreed_with_enough (Ok c) (Ok w) h k = made (Ok c) (Ok w) h k
  agreed_with_enough (Ok c) (Err f) h k = elim (made (Ok c) (Err f) h k) [
    | inl l ↦ no_lack f k.refused l
    | inr l ↦ omega (arith, l.1, fits h.are c h.found)
  ]
  agreed_with_enough (Err e) (Ok w) h k = made (Err e) (Ok w) h k
  agreed_with_enough (Err e) (Err f) h k = elim (made (Err e) (Err f) h k) [
    | inl memory ↦ inl memory
    | inr l ↦ elim l [
      | inl lacks ↦ absurd (no_lack f k.refused lacks)
      | inr same ↦ inr same
    ]
  ]

-- ---- a message that is read from the bytes

abbrev of_into : IntoRefusal → FormRefusal
of_into (intos.Walk s) = told.Walk s
of_into (intos.Capability k) = told.Capability k
of_into (intos.NoRoom n p) = told.NoRoom n p

is_of_into : (e : IntoRefusal) → IsOfInto e (of_into e)
is_of_into (intos.Walk s) = refl
is_of_into (intos.Capability k) = refl
is_of_into (intos.NoRoom n p) = refl

abbrev lifted : Result CanonicalLength IntoRefusal → Result CanonicalLength FormRefusal
lifted (Ok c) = Ok c
lifted (Err e) = Err (of_into e)

module _ (form : Form) (bs : List ℕ) (limits : Bounds) (m : List (List ℕ))
    (is : Reads form bs limits.message_words m) where
  refused_read : (e : Refusal) → IsRefusedMessage m limits e → IsRefused form bs limits e
  refused_read (refusals.Walk s) h = (m, is, h)
  refused_read (refusals.Capability k) h = (m, is, h)
  refused_read refusals.Memory h = tt
  refused_read (refusals.Bare e) h = absurd h
  refused_read (refusals.Packed e) h = absurd h
  refused_read (refusals.Frame e) h = absurd h
  refused_read (refusals.Trailing at) h = absurd h

  -- A result of `canonical_of` for `m` has what the clauses of `canonicalise` allow for `bs`.
  pub read_found : {A : Type 0} (r : Result (Canonical A) Refusal) → IsFoundOrRefusedMessage m limits r
      → IfOk r (λ c. Answers form bs limits c.bytes.items c.paid)
  read_found (Ok c) h = record { message = m; reads = is; answer = h.found }
  read_found (Err e) h = tt

  pub read_refused : {A : Type 0} (r : Result (Canonical A) Refusal) → IsFoundOrRefusedMessage m limits r
      → IfErr r (λ e. IsRefused form bs limits e)
  read_refused (Ok c) h = tt
  read_refused (Err e) h = refused_read e h.refused

module _ (decided : FormIsDecided) (most : ScratchIsBounded) (form : Form) (bs : List ℕ) (limits : Bounds) (scratch : ℕ)
    (old p q : List ℕ) (m : List (List ℕ)) (is : Reads form bs limits.message_words m) where
  refused_form : (e : IntoRefusal) → HasScratch form bs scratch → RefusedInto m limits (length old) e
      → IsFormRefused form bs limits scratch (length old) (of_into e)
  refused_form (intos.Walk s) has h = (m, is, has, h)
  refused_form (intos.Capability k) has h = (m, is, has, h)
  refused_form (intos.NoRoom n price) has h = (m, is, has, h)

  as_form : (r : Result CanonicalLength IntoRefusal) → HasScratch form bs scratch
      → IsWrittenOrRefused m limits old p r → IsFormWrittenOrRefused form bs limits scratch old p (lifted r)
  as_form (Ok c) has h = record {
    written = record { message = m; reads = is; has = has; written = h.written };
    refused = tt;
    unchanged = tt;
  }
  as_form (Err e) has h =
      record { written = tt; refused = refused_form e has h.refused; unchanged = h.unchanged }

  has_or_lacks : (f : FormRefusal) → IsFormRefused form bs limits scratch (length old) f
      → IsNoScratch scratch f ⊎ HasScratch form bs scratch
  has_or_lacks (told.Bare e) h =
      absurd (read-not_misread form bs limits.message_words m (refusals.Bare e) is h)
  has_or_lacks (told.Packed e) h =
      absurd (read-not_misread form bs limits.message_words m (refusals.Packed e) is h)
  has_or_lacks (told.Frame e) h =
      absurd (read-not_misread form bs limits.message_words m (refusals.Frame e) is h.1)
  has_or_lacks (told.Trailing at) h =
      absurd (read-not_misread form bs limits.message_words m (refusals.Trailing at) is h.1)
  has_or_lacks (told.NoScratch n) h = inl (n, refl, (most form bs limits scratch (length old) n h).0)
  has_or_lacks (told.Walk s) (n, reads, has, h) = inr has
  has_or_lacks (told.Capability k) (n, reads, has, h) = inr has
  has_or_lacks (told.NoRoom n price) (k, reads, has, h) = inr has

  same : (r : Result CanonicalLength IntoRefusal) (s : Result CanonicalLength FormRefusal)
      → HasScratch form bs scratch → IsWrittenOrRefused m limits old p r
      → IsFormWrittenOrRefused form bs limits scratch old q s → (lifted r ≡ s) × (p ≡ q)
  same r s has h k = decided form bs limits scratch old p q (lifted r) s (as_form r has h) k

  pub agreed_into : (r : Result CanonicalLength IntoRefusal) (s : Result CanonicalLength FormRefusal)
      → IsWrittenOrRefused m limits old p r → IsFormWrittenOrRefused form bs limits scratch old q s
      → AgreeInto scratch p q r s
  agreed_into (Ok c) (Ok w) h k =
      let d = same (Ok c) (Ok w) k.written.has h k in
      let one : Ok c ≡ Ok w = d.0 in (cc, d.1)
  agreed_into (Ok c) (Err f) h k = elim (has_or_lacks f k.refused) [
    | inl l ↦ l
    | inr has ↦ let one : Ok c ≡ Err f = (same (Ok c) (Err f) has h k).0 in absurd cc
  ]
  agreed_into (Err e) (Ok w) h k =
      let one : Err (of_into e) ≡ Ok w = (same (Err e) (Ok w) k.written.has h k).0 in absurd cc
  agreed_into (Err e) (Err f) h k = elim (has_or_lacks f k.refused) [
    | inl l ↦ inl l
    | inr has ↦
        let d = same (Err e) (Err f) has h k in
        let one : Err (of_into e) ≡ Err f = d.0 in
        let alike : of_into e ≡ f = cc in
        inr (subst (λ (x : FormRefusal). IsOfInto e x) alike (is_of_into e), d.1)
  ]
