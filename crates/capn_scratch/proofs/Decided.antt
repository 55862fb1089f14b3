-- The clauses of `canonical_into_form` allow only one result and one content of the buffer. The number in `NoScratch`
-- is at most `most_scratch`. (For `decision` and `enough`.)
use Rattle.std.proofs.Common.{◌≡◌, ◌⊎◌, inl, inr, ℕ, ◌+◌, ◌-◌, ◌*◌, ◌<◌, ◌≤◌, Bool, true, false, if◌then◌else◌}
use Rattle.std.proofs.Common.{List, length}
use Rattle.std.proofs.Common.{Result, Ok, Err, refl, ap, sym, subst, ◌∙◌, arith}
use Rattle.std.specs.Prelude.{nat_lt}
use Rattle.capn_words.specs.Message.{most_segments}
use Rattle.capn_words.specs.declared.bare.BareFault.{BareFault}
use Rattle.capn_pack.specs.declared.fault.UnpackFault.{UnpackFault}
use Rattle.capn_pack.proofs.shared.GroupLaws.{one_reading, refused_only}
use Rattle.capn_stream.specs.Frames.{most_table_words}
use Rattle.capn_stream.specs.FrameRefusal.{announced_segments}
use Rattle.capn_stream.proofs.shared.FrameLaws.{announces, stands_alone}
use Rattle.capn_walk.specs.Limits.{Bounds}
use Rattle.capn_canon.specs.declared.form.Form.{Form}
use Rattle.capn_canon.specs.declared.form.Form.TheVariants as forms
use Rattle.capn_canon.specs.declared.length.CanonicalLength.{CanonicalLength}
use Rattle.capn_canon.specs.declared.message_refusal.IntoRefusal.{IntoRefusal}
use Rattle.capn_canon.specs.declared.message_refusal.IntoRefusal.TheVariants as intos
use Rattle.capn_canon.specs.declared.refusal.Refusal.{Refusal}
use Rattle.capn_canon.specs.declared.refusal.Refusal.TheVariants as refusals
use Rattle.capn_canon.specs.Laws.{IntoIsDecided}
use Rattle.capn_canon.specs.Reads.{IsFramed, Reads}
use Rattle.capn_canon.specs.Refusal.{IsMisread, IsRefused}
use Rattle.capn_canon.specs.Theorem.{RefusedInto, WrittenInto}
use Rattle.capn_canon.proofs.shared.NotRefused.{read-not_misread}
use Rattle.capn_canon.proofs.shared.OneReading.{one_message}
use Rattle.capn_canon.proofs.shared.OneRefusal.{one_refusal}
use Rattle.capn_scratch.specs.FormRefusal.{IsFormRefused, LacksTable, LacksText}
use Rattle.capn_scratch.specs.Laws.{IsFormWrittenOrRefused, most_scratch}
use Rattle.capn_scratch.specs.Needs.{HasScratch, HoldsText, table_need}
use Rattle.capn_scratch.specs.Theorem.{WrittenForm}
use Rattle.capn_scratch.specs.declared.refusal.FormRefusal.{FormRefusal}
use Rattle.capn_scratch.specs.declared.refusal.FormRefusal.TheVariants as told
use Rattle.capn_scratch.proofs.Forms.{not_refused, not_short, one_need}

-- ---- the number of words needed

chosen : (b : Bool) (n most : ℕ) → n ≤ most → (if b then n else 0) ≤ most
chosen true n most h = h
chosen false n most h = omega arith

few_ends : (bs : List ℕ) (most : ℕ) (m : List (List ℕ)) → IsFramed bs most m
    → table_need (announced_segments bs) ≤ most_segments - 1
few_ends bs most m h =
    let a = announces bs most m (length bs) (stands_alone bs most m h.frame h.room) in
    chosen (nat_lt 64 (announced_segments bs)) (announced_segments bs - 1) (most_segments - 1)
    (omega (arith, a.count, h.frame.fits.few))

-- If `NoScratch` is true of `bs`, its number `n` is more than `scratch`, and at most `most_scratch`.
pub bounded : (form : Form) (bs : List ℕ) (limits : Bounds) (scratch room n : ℕ)
    → IsFormRefused form bs limits scratch room (told.NoScratch n)
    → (scratch < n) × (n ≤ most_scratch form limits.message_words)
bounded forms.Bare bs limits scratch room n (inl h) = absurd h
bounded forms.Bare bs limits scratch room n (inr (m, is, holds, need, short)) = (short, omega (arith, need))
bounded forms.Stream bs limits scratch room n (inl h) = absurd h
bounded forms.Stream bs limits scratch room n (inr (m, is, holds, need, short)) =
    (short, omega (arith, need, few_ends bs limits.message_words m is))
bounded forms.Packed bs limits scratch room n (inl (t, u, e, short)) = (short, omega (arith, e, u.room))
bounded forms.Packed bs limits scratch room n (inr (m, (t, u, is), holds, (s, q, f), short)) =
    let same = one_reading bs t s u.packs q in
    let ends = few_ends t limits.message_words m is in
    let long = ap (λ (xs : List ℕ). length xs + 8 * table_need (announced_segments xs)) same in
    (short, omega (arith, f, long, u.room, ends))

-- ---- a refusal for lack of scratch excludes the others

text_held : (form : Form) (bs : List ℕ) (most scratch n : ℕ) → LacksText form bs most scratch n
    → HoldsText form bs scratch → ⊥
text_held forms.Bare bs most scratch n h held = h
text_held forms.Stream bs most scratch n h held = h
text_held forms.Packed bs most scratch n (t, u, e, short) (s, q, fits) =
    omega (arith, e, short, fits, ap length (one_reading bs t s u.packs q))

text_misread : (form : Form) (bs : List ℕ) (most scratch n : ℕ) (e : UnpackFault) → LacksText form bs most scratch n
    → IsMisread form bs most (refusals.Packed e) → ⊥
text_misread forms.Bare bs most scratch n e h r = h
text_misread forms.Stream bs most scratch n e h r = h
text_misread forms.Packed bs most scratch n e (t, u, k, short) (other, r) =
    other (refused_only e bs t (most + most_table_words) r u.packs u.room)

text_bare : (form : Form) (bs : List ℕ) (most scratch n : ℕ) (e : BareFault) → LacksText form bs most scratch n
    → IsMisread form bs most (refusals.Bare e) → ⊥
text_bare forms.Bare bs most scratch n e h r = h
text_bare forms.Stream bs most scratch n e h r = h
text_bare forms.Packed bs most scratch n e h (t, u, r) = r

one_text : (form : Form) (bs : List ℕ) (most scratch n k : ℕ) → LacksText form bs most scratch n
    → LacksText form bs most scratch k → n ≡ k
one_text forms.Bare bs most scratch n k h i = absurd h
one_text forms.Stream bs most scratch n k h i = absurd h
one_text forms.Packed bs most scratch n k (t, u, e, short) (s, v, f, less) =
    omega (arith, e, f, ap length (one_reading bs t s u.packs v.packs))

table_held : (form : Form) (bs : List ℕ) (most scratch n : ℕ) → LacksTable form bs most scratch n
    → HasScratch form bs scratch → ⊥
table_held form bs most scratch n (m, is, holds, need, short) (k, also, fits) =
    omega (arith, one_need form bs n k need also, short, fits)

-- If `NoScratch` is true of `bs`, the scratch has fewer words than `bs` need.
pub lacks : (form : Form) (bs : List ℕ) (limits : Bounds) (scratch room n : ℕ)
    → IsFormRefused form bs limits scratch room (told.NoScratch n) → HasScratch form bs scratch → ⊥
lacks form bs limits scratch room n (inl h) has = not_short form bs limits.message_words scratch n h has
lacks form bs limits scratch room n (inr h) has = table_held form bs limits.message_words scratch n h has

module _ (form : Form) (bs : List ℕ) (limits : Bounds) (scratch room : ℕ) where
  text_told : (e : FormRefusal) → IsFormRefused form bs limits scratch room e → (n : ℕ)
      → LacksText form bs limits.message_words scratch n → e ≡ told.NoScratch n
  text_told (told.Bare e) h n k = absurd (text_bare form bs limits.message_words scratch n e k h)
  text_told (told.Packed e) h n k = absurd (text_misread form bs limits.message_words scratch n e k h)
  text_told (told.Frame e) h n k = absurd (text_held form bs limits.message_words scratch n k h.0)
  text_told (told.Trailing at) h n k = absurd (text_held form bs limits.message_words scratch n k h.0)
  text_told (told.NoScratch i) (inl j) n k =
      ap (λ (x : ℕ). told.NoScratch x) (one_text form bs limits.message_words scratch i n j k)
  text_told (told.NoScratch i) (inr (m, is, holds, need, short)) n k =
      absurd (text_held form bs limits.message_words scratch n k holds)
  text_told (told.Walk s) (m, is, has, h) n k = absurd (not_short form bs limits.message_words scratch n k has)
  text_told (told.Capability c) (m, is, has, h) n k =
      absurd (not_short form bs limits.message_words scratch n k has)
  text_told (told.NoRoom l p) (m, is, has, h) n k = absurd (not_short form bs limits.message_words scratch n k has)

  table_told : (e : FormRefusal) → IsFormRefused form bs limits scratch room e → (n : ℕ)
      → LacksTable form bs limits.message_words scratch n → e ≡ told.NoScratch n
  table_told (told.Bare e) h n k =
      absurd (read-not_misread form bs limits.message_words k.0 (refusals.Bare e) k.1 h)
  table_told (told.Packed e) h n k =
      absurd (read-not_misread form bs limits.message_words k.0 (refusals.Packed e) k.1 h)
  table_told (told.Frame e) h n k =
      absurd (read-not_misread form bs limits.message_words k.0 (refusals.Frame e) k.1 h.1)
  table_told (told.Trailing at) h n k =
      absurd (read-not_misread form bs limits.message_words k.0 (refusals.Trailing at) k.1 h.1)
  table_told (told.NoScratch i) (inl j) n k = absurd (text_held form bs limits.message_words scratch i j k.2)
  table_told (told.NoScratch i) (inr (w, also, held, need, less)) n k =
      ap (λ (x : ℕ). told.NoScratch x) (one_need form bs i n need k.3)
  table_told (told.Walk s) (m, is, has, h) n k = absurd (table_held form bs limits.message_words scratch n k has)
  table_told (told.Capability c) (m, is, has, h) n k =
      absurd (table_held form bs limits.message_words scratch n k has)
  table_told (told.NoRoom l p) (m, is, has, h) n k =
      absurd (table_held form bs limits.message_words scratch n k has)

  lacking : (e : FormRefusal) → IsFormRefused form bs limits scratch room e → (n : ℕ)
      → IsFormRefused form bs limits scratch room (told.NoScratch n) → e ≡ told.NoScratch n
  lacking e h n (inl k) = text_told e h n k
  lacking e h n (inr k) = table_told e h n k

-- ---- the parts of a refusal

-- The `FormRefusal` with the name and the fields of the given `Refusal`. No `FormRefusal` stands for `Memory`, which is
-- mapped to `NoScratch 0`.
abbrev of_refusal : Refusal → FormRefusal
of_refusal (refusals.Bare e) = told.Bare e
of_refusal (refusals.Packed e) = told.Packed e
of_refusal (refusals.Frame e) = told.Frame e
of_refusal (refusals.Trailing at) = told.Trailing at
of_refusal (refusals.Walk s) = told.Walk s
of_refusal (refusals.Capability k) = told.Capability k
of_refusal refusals.Memory = told.NoScratch 0

abbrev of_into : IntoRefusal → FormRefusal
of_into (intos.Walk s) = told.Walk s
of_into (intos.Capability k) = told.Capability k
of_into (intos.NoRoom n p) = told.NoRoom n p

-- `bs` are not read as a message in `form`, and `e` says why.
abbrev ReadPart : Form → List ℕ → Bounds → FormRefusal → Type 0
ReadPart form bs limits e = (r : Refusal) × (e ≡ of_refusal r) × (r ≡ refusals.Memory → ⊥)
    × IsMisread form bs limits.message_words r × IsRefused form bs limits r

-- `bs` are read as a message that is refused with `e` (`RefusedInto`).
abbrev MessagePart : Form → List ℕ → Bounds → ℕ → FormRefusal → Type 0
MessagePart form bs limits room e = (m : List (List ℕ)) × Reads form bs limits.message_words m
    × ((x : IntoRefusal) × (e ≡ of_into x) × RefusedInto m limits room x)

-- `e` is a `NoScratch` that is true of `bs`.
abbrev ScratchPart : Form → List ℕ → Bounds → ℕ → ℕ → FormRefusal → Type 0
ScratchPart form bs limits scratch room e = (n : ℕ) × (e ≡ told.NoScratch n)
    × IsFormRefused form bs limits scratch room (told.NoScratch n)

abbrev Part : Form → List ℕ → Bounds → ℕ → ℕ → FormRefusal → Type 0
Part form bs limits scratch room e =
    ReadPart form bs limits e ⊎ (MessagePart form bs limits room e ⊎ ScratchPart form bs limits scratch room e)

part : (form : Form) (bs : List ℕ) (limits : Bounds) (scratch room : ℕ) (e : FormRefusal)
    → IsFormRefused form bs limits scratch room e → Part form bs limits scratch room e
part form bs limits scratch room (told.Bare e) h = inl (refusals.Bare e, refl, (λ x. absurd cc), h, h)
part form bs limits scratch room (told.Packed e) h = inl (refusals.Packed e, refl, (λ x. absurd cc), h, h)
part form bs limits scratch room (told.Frame e) h = inl (refusals.Frame e, refl, (λ x. absurd cc), h.1, h.1)
part form bs limits scratch room (told.Trailing at) h = inl (refusals.Trailing at, refl, (λ x. absurd cc), h.1, h.1)
part form bs limits scratch room (told.NoScratch n) h = inr (inr (n, refl, h))
part form bs limits scratch room (told.Walk s) (m, is, has, h) = inr (inl (m, is, (intos.Walk s, refl, h)))
part form bs limits scratch room (told.Capability k) (m, is, has, h) =
    inr (inl (m, is, (intos.Capability k, refl, h)))
part form bs limits scratch room (told.NoRoom n p) (m, is, has, h) = inr (inl (m, is, (intos.NoRoom n p, refl, h)))

-- ---- one result

module _ (into : IntoIsDecided) (form : Form) (bs : List ℕ) (limits : Bounds) (scratch : ℕ) (old : List ℕ) where
  one_into : (m : List (List ℕ)) (x y : IntoRefusal) → RefusedInto m limits (length old) x
      → RefusedInto m limits (length old) y → x ≡ y
  one_into m x y h k =
      let r = into m limits old old old (Err x) (Err y) (record { written = tt; refused = h; unchanged = refl })
      (record { written = tt; refused = k; unchanged = refl }) in
      let same : Err x ≡ Err y = r.0 in cc

  parts_same : (e f : FormRefusal) → IsFormRefused form bs limits scratch (length old) e
      → IsFormRefused form bs limits scratch (length old) f → Part form bs limits scratch (length old) e
      → Part form bs limits scratch (length old) f → e ≡ f
  parts_same e f h k (inl (r, a, nr, x, y)) (inl (s, b, ns, v, w)) =
      a ∙ ap of_refusal (one_refusal form bs limits r s nr ns y w) ∙ sym b
  parts_same e f h k (inl (r, a, nr, x, y)) (inr (inl (m, is, p))) =
      absurd (read-not_misread form bs limits.message_words m r is x)
  parts_same e f h k (inl p) (inr (inr (n, b, t))) = lacking form bs limits scratch (length old) e h n t ∙ sym b
  parts_same e f h k (inr (inl (m, is, p))) (inl (r, b, nr, x, y)) =
      absurd (read-not_misread form bs limits.message_words m r is x)
  parts_same e f h k (inr (inl (m, is, (x, a, p)))) (inr (inl (n, also, (y, b, q)))) =
      let same = one_message form bs limits.message_words n m also is in
      let here = subst (λ (l : List (List ℕ)). RefusedInto l limits (length old) y) same q in
      a ∙ ap of_into (one_into m x y p here) ∙ sym b
  parts_same e f h k (inr (inl p)) (inr (inr (n, b, t))) =
      lacking form bs limits scratch (length old) e h n t ∙ sym b
  parts_same e f h k (inr (inr (n, a, t))) (inl p) = a ∙ sym (lacking form bs limits scratch (length old) f k n t)
  parts_same e f h k (inr (inr (n, a, t))) (inr (inl p)) =
      a ∙ sym (lacking form bs limits scratch (length old) f k n t)
  parts_same e f h k (inr (inr (n, a, t))) (inr (inr p)) =
      a ∙ sym (lacking form bs limits scratch (length old) f k n t)

  one_form : (e f : FormRefusal) → IsFormRefused form bs limits scratch (length old) e
      → IsFormRefused form bs limits scratch (length old) f → e ≡ f
  one_form e f h k =
      parts_same e f h k (part form bs limits scratch (length old) e h) (part form bs limits scratch (length old) f k)

  one_written : (p q : List ℕ) (c d : CanonicalLength) → WrittenForm form bs limits scratch old p c
      → WrittenForm form bs limits scratch old q d → (c ≡ d) × (p ≡ q)
  one_written p q c d w x =
      let same = one_message form bs limits.message_words x.message w.message x.reads w.reads in
      let here = subst (λ (m : List (List ℕ)). WrittenInto m limits old q d) same x.written in
      let r = into w.message limits old p q (Ok c) (Ok d) (record { written = w.written; refused = tt; unchanged = tt })
      (record { written = here; refused = tt; unchanged = tt }) in
      let one : Ok c ≡ Ok d = r.0 in (cc, r.1)

  not_both : (p : List ℕ) (c : CanonicalLength) (e : FormRefusal) → WrittenForm form bs limits scratch old p c
      → IsFormRefused form bs limits scratch (length old) e → ⊥
  not_both p c e w h =
      not_refused form bs limits scratch (length old) e h w.written.value
      (record { message = w.message; reads = w.reads; value = w.written.is.is }) w.written.is.free w.has w.written.room

  pub decided : (p q : List ℕ) (r s : Result CanonicalLength FormRefusal)
      → IsFormWrittenOrRefused form bs limits scratch old p r
      → IsFormWrittenOrRefused form bs limits scratch old q s → (r ≡ s) × (p ≡ q)
  decided p q (Ok c) (Ok d) h k = let one = one_written p q c d h.written k.written in (ap Ok one.0, one.1)
  decided p q (Ok c) (Err e) h k = absurd (not_both p c e h.written k.refused)
  decided p q (Err e) (Ok c) h k = absurd (not_both q c e k.written h.refused)
  decided p q (Err e) (Err f) h k = (ap Err (one_form e f h.refused k.refused), h.unchanged ∙ sym k.unchanged)
