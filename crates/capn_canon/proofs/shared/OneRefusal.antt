-- Two refusals of the same bytes, neither of them `Memory`, are equal. (For `denotation`, capn_archive and
-- capn_commands.)
use Rattle.std.proofs.Common.{◌≡◌, ◌⊎◌, inl, inr, ℕ, ◌+◌, List, length, Some, Err, refl, ap, sym, subst, ◌∙◌, arith}
use Rattle.capn_words.specs.Message.{ReadsBare}
use Rattle.capn_words.specs.declared.bare.BareFault.{BareFault}
use Rattle.capn_words.proofs.shared.OneSegment.{bare_not_refused, one_bare_fault}
use Rattle.capn_pack.specs.UnpackRefusal as packs
use Rattle.capn_pack.specs.declared.fault.UnpackFault.{UnpackFault}
use Rattle.capn_pack.specs.declared.fault.UnpackFault.TheVariants as unpack_faults
use Rattle.capn_pack.proofs.shared.GroupLaws.{one_reading, refused_only}
use Rattle.capn_pack.proofs.shared.RefusalLaws.{one_unpack_fault}
use Rattle.capn_stream.specs.FrameRefusal as frames
use Rattle.capn_stream.specs.declared.fault.FrameFault.{FrameFault}
use Rattle.capn_stream.specs.declared.fault.FrameFault.TheVariants as frame_faults
use Rattle.capn_stream.specs.Frames.{most_table_words}
use Rattle.capn_stream.proofs.shared.FrameLaws.{one_frame, stands_alone, whole_of, refused_whole}
use Rattle.capn_stream.proofs.shared.FrameLaws as frame_laws
use Rattle.capn_value.specs.Tree.{Tree}
use Rattle.capn_value.specs.FirstCap.{first_cap}
use Rattle.capn_walk.specs.declared.walk_answer.Stopped.{Stopped}
use Rattle.capn_walk.specs.Accepted.{root}
use Rattle.capn_walk.specs.inner.Verdict.{refused}
use Rattle.capn_walk.specs.Accepted as walks
use Rattle.capn_walk.specs.Limits.{Bounds}
use Rattle.capn_walk.proofs.shared.Stops.{stop-refused}
use Rattle.capn_walk.proofs.shared.Unique.{unique}
use Rattle.capn_canon.specs.declared.form.Form.{Form}
use Rattle.capn_canon.specs.declared.form.Form.TheVariants as forms
use Rattle.capn_canon.specs.declared.refusal.Refusal.{Refusal}
use Rattle.capn_canon.specs.declared.refusal.Refusal.TheVariants as refusals
use Rattle.capn_canon.specs.Reads.{IsFramed, Unpacks, Reads, Trails}
use Rattle.capn_canon.specs.Refusal.{IsMisframed, IsMisread, IsRefusedMessage, IsRefused}
use Rattle.capn_canon.proofs.shared.OneReading.{one_message}
use Rattle.capn_canon.proofs.shared.NotRefused.{accepted-not_refused}

-- ---- the parts of a refusal

-- `r` is `Bare`, and says why `bs` are not bare words.
abbrev BarePart : List ℕ → Refusal → Type 0
BarePart bs r = (e : BareFault) × (r ≡ refusals.Bare e) × ReadsBare bs (Err e)

-- `r` is `Frame`, and says why `bs` begin with no frame.
abbrev FramePart : List ℕ → ℕ → Refusal → Type 0
FramePart bs most r = (e : FrameFault) × (r ≡ refusals.Frame e) × (e ≡ frame_faults.Memory → ⊥)
    × frames.IsFrameRefused bs most e

-- `r` is `Trailing`, and more bytes follow the frame.
abbrev TrailPart : List ℕ → ℕ → Refusal → Type 0
TrailPart bs most r = (at : ℕ) × (r ≡ refusals.Trailing at) × Trails bs most at

-- `r` is `Packed`, and says why `bs` are not unpacked.
abbrev PackedPart : List ℕ → ℕ → Refusal → Type 0
PackedPart bs most r = (e : UnpackFault) × (r ≡ refusals.Packed e) × (e ≡ unpack_faults.Memory → ⊥)
    × packs.IsUnpackRefused bs (most + most_table_words) e

-- `bs` unpack to a text, and `r` says why that text is not exactly one frame.
abbrev UnpackedPart : List ℕ → ℕ → Refusal → Type 0
UnpackedPart bs most r = (text : List ℕ) × Unpacks bs most text × IsMisframed text most r

bare_part : (bs : List ℕ) (most : ℕ) (r : Refusal) → IsMisread forms.Bare bs most r → BarePart bs r
bare_part bs most (refusals.Bare e) h = (e, refl, h)
bare_part bs most (refusals.Packed e) h = absurd h
bare_part bs most (refusals.Frame e) h = absurd h
bare_part bs most (refusals.Trailing at) h = absurd h
bare_part bs most (refusals.Walk s) h = absurd h
bare_part bs most (refusals.Capability k) h = absurd h
bare_part bs most refusals.Memory h = absurd h

frame_part : (bs : List ℕ) (most : ℕ) (r : Refusal) → IsMisframed bs most r → FramePart bs most r ⊎ TrailPart bs most r
frame_part bs most (refusals.Frame e) h = inl (e, refl, h.0, h.1)
frame_part bs most (refusals.Trailing at) h = inr (at, refl, h)
frame_part bs most (refusals.Bare e) h = absurd h
frame_part bs most (refusals.Packed e) h = absurd h
frame_part bs most (refusals.Walk s) h = absurd h
frame_part bs most (refusals.Capability k) h = absurd h
frame_part bs most refusals.Memory h = absurd h

packed_part : (bs : List ℕ) (most : ℕ) (r : Refusal) → IsMisread forms.Packed bs most r → PackedPart bs most r
    ⊎ UnpackedPart bs most r
packed_part bs most (refusals.Packed e) h = inl (e, refl, h.0, h.1)
packed_part bs most (refusals.Frame e) h = inr h
packed_part bs most (refusals.Trailing at) h = inr h
packed_part bs most (refusals.Bare e) h = inr h
packed_part bs most (refusals.Walk s) h = inr h
packed_part bs most (refusals.Capability k) h = inr h
packed_part bs most refusals.Memory h = inr h

-- ---- framed and packed bytes

frames_same : (bs : List ℕ) (most : ℕ) (r s : Refusal) → FramePart bs most r ⊎ TrailPart bs most r → FramePart bs most s
    ⊎ TrailPart bs most s → r ≡ s
frames_same bs most r s (inl (e, a, ne, h)) (inl (f, b, nf, k)) = a
    ∙ ap (λ (x : FrameFault). refusals.Frame x) (frame_laws.one_refusal bs most e f h k ne nf) ∙ sym b
frames_same bs most r s (inl (e, a, ne, h)) (inr (at, b, (m, stands, l))) =
    absurd (ne (refused_whole bs most e (whole_of bs most m at stands) h))
frames_same bs most r s (inr (at, b, (m, stands, l))) (inl (e, a, ne, h)) =
    absurd (ne (refused_whole bs most e (whole_of bs most m at stands) h))
frames_same bs most r s (inr (at, a, (m, stands, l))) (inr (to, b, (n, also, k))) =
    a ∙ ap (λ (x : ℕ). refusals.Trailing x) (one_frame bs most most m n at to stands also).1 ∙ sym b

one_misframed : (bs : List ℕ) (most : ℕ) (r s : Refusal) → IsMisframed bs most r → IsMisframed bs most s → r ≡ s
one_misframed bs most r s h k = frames_same bs most r s (frame_part bs most r h) (frame_part bs most s k)

packed_same : (bs : List ℕ) (most : ℕ) (r s : Refusal) → PackedPart bs most r ⊎ UnpackedPart bs most r
    → PackedPart bs most s ⊎ UnpackedPart bs most s → r ≡ s
packed_same bs most r s (inl (e, a, ne, h)) (inl (f, b, nf, k)) =
    a ∙ ap (λ (x : UnpackFault). refusals.Packed x) (one_unpack_fault bs (most + most_table_words) e f h k ne nf)
    ∙ sym b
packed_same bs most r s (inl (e, a, ne, h)) (inr (t, u, k)) =
    absurd (ne (refused_only e bs t (most + most_table_words) h u.packs u.room))
packed_same bs most r s (inr (t, u, k)) (inl (e, a, ne, h)) =
    absurd (ne (refused_only e bs t (most + most_table_words) h u.packs u.room))
packed_same bs most r s (inr (t, u, h)) (inr (x, v, k)) =
    let same = one_reading bs x t v.packs u.packs in
    one_misframed t most r s h (subst (λ (y : List ℕ). IsMisframed y most s) same k)

one_misread : (form : Form) (bs : List ℕ) (most : ℕ) (r s : Refusal) → IsMisread form bs most r
    → IsMisread form bs most s → r ≡ s
one_misread forms.Bare bs most r s h k =
    let a = bare_part bs most r h in
    let b = bare_part bs most s k in
    a.1 ∙ ap (λ (x : BareFault). refusals.Bare x) (one_bare_fault bs a.0 b.0 a.2 b.2) ∙ sym b.1
one_misread forms.Stream bs most r s h k = one_misframed bs most r s h k
one_misread forms.Packed bs most r s h k = packed_same bs most r s (packed_part bs most r h) (packed_part bs most s k)

-- ---- what is read is not misread

framed_read : (bs : List ℕ) (most : ℕ) (m : List (List ℕ)) (r : Refusal) → IsFramed bs most m → FramePart bs most r
    ⊎ TrailPart bs most r → ⊥
framed_read bs most m r h (inl (e, a, ne, k)) =
    ne (refused_whole bs most e (whole_of bs most m (length bs) (stands_alone bs most m h.frame h.room)) k)
framed_read bs most m r h (inr (at, a, (n, stands, l))) =
    let e = (one_frame bs most most n m at (length bs) stands (stands_alone bs most m h.frame h.room)).1 in
    absurd (omega arith)

packed_read : (bs : List ℕ) (most : ℕ) (m : List (List ℕ)) (r : Refusal) → Reads forms.Packed bs most m
    → PackedPart bs most r ⊎ UnpackedPart bs most r → ⊥
packed_read bs most m r (t, u, h) (inl (e, a, ne, k)) =
    ne (refused_only e bs t (most + most_table_words) k u.packs u.room)
packed_read bs most m r (t, u, h) (inr (x, v, k)) =
    let same = one_reading bs x t v.packs u.packs in
    framed_read t most m r h (frame_part t most r (subst (λ (y : List ℕ). IsMisframed y most r) same k))

not_misread : (form : Form) (bs : List ℕ) (most : ℕ) (m : List (List ℕ)) (r : Refusal) → Reads form bs most m
    → IsMisread form bs most r → ⊥
not_misread forms.Bare bs most m r h k = let a = bare_part bs most r k in bare_not_refused bs h.0 a.0 h.1 a.2
not_misread forms.Stream bs most m r h k = framed_read bs most m r h (frame_part bs most r k)
not_misread forms.Packed bs most m r h k = packed_read bs most m r h (packed_part bs most r k)

-- ---- messages

same_stopped : (s t : Stopped) → s.fault ≡ t.fault → s.place ≡ t.place → s.paid ≡ t.paid → s.visits ≡ t.visits → s ≡ t
same_stopped s t a b c d = λ i. record { fault = a i; place = b i; paid = c i; visits = d i }

module _ (m : List (List ℕ)) (limits : Bounds) where
  -- If `s` and `t` both say where and why the walk of `m` stops (`IsWalkRefused`), they are equal.
  pub one_stop : (s t : Stopped) → walks.IsWalkRefused m limits s.fault s.place s.paid s.visits
      → walks.IsWalkRefused m limits t.fault t.place t.paid t.visits → s ≡ t
  one_stop s t (inl h) (inl k) = same_stopped s t (h.1 ∙ sym k.1) (h.2 ∙ sym k.2) (h.3 ∙ sym k.3) (h.4 ∙ sym k.4)
  one_stop s t (inl h) (inr k) = let a = h.0 in let b = k.0 in absurd (omega arith)
  one_stop s t (inr h) (inl k) = let a = h.0 in let b = k.0 in absurd (omega arith)
  one_stop s t (inr h) (inr k) =
      let visits = walks.visits_within m limits in
      let e : refused s.fault s.place s.paid s.visits ≡ refused t.fault t.place t.paid t.visits =
      sym (stop-refused limits.budget visits s.fault s.place s.paid s.visits h.1)
      ∙ stop-refused limits.budget visits t.fault t.place t.paid t.visits k.1 in
      same_stopped s t (cc) (cc) (cc) (cc)

-- `r` is `Walk`, and says where and why the walk of `m` stops.
abbrev WalkPart : List (List ℕ) → Bounds → Refusal → Type 0
WalkPart m limits r = (s : Stopped) × (r ≡ refusals.Walk s)
    × walks.IsWalkRefused m limits s.fault s.place s.paid s.visits

-- `r` is `Capability`, with the index of the first capability of the value of `m`.
abbrev CapPart : List (List ℕ) → Bounds → Refusal → Type 0
CapPart m limits r = (k : ℕ) × (r ≡ refusals.Capability k)
    × ((v : Tree) × walks.IsValueOf m limits v × (first_cap v ≡ Some k))

-- A refusal of `m` that is not `Memory` is `Walk` or `Capability`.
pub message_part : (m : List (List ℕ)) (limits : Bounds) (r : Refusal) → (r ≡ refusals.Memory → ⊥)
    → IsRefusedMessage m limits r → WalkPart m limits r ⊎ CapPart m limits r
message_part m limits (refusals.Walk s) n h = inl (s, refl, h)
message_part m limits (refusals.Capability k) n h = inr (k, refl, h)
message_part m limits refusals.Memory n h = absurd (n refl)
message_part m limits (refusals.Bare e) n h = absurd h
message_part m limits (refusals.Packed e) n h = absurd h
message_part m limits (refusals.Frame e) n h = absurd h
message_part m limits (refusals.Trailing at) n h = absurd h

messages_same : (m : List (List ℕ)) (limits : Bounds) (r s : Refusal) → WalkPart m limits r ⊎ CapPart m limits r
    → WalkPart m limits s ⊎ CapPart m limits s → r ≡ s
messages_same m limits r s (inl (p, a, h)) (inl (q, b, k)) = a
    ∙ ap (λ (x : Stopped). refusals.Walk x) (one_stop m limits p q h k) ∙ sym b
messages_same m limits r s (inl (p, a, h)) (inr (n, b, (v, is, c))) =
    absurd (accepted-not_refused m limits p is.accepted h)
messages_same m limits r s (inr (n, b, (v, is, c))) (inl (p, a, h)) =
    absurd (accepted-not_refused m limits p is.accepted h)
messages_same m limits r s (inr (j, a, (v, is, c))) (inr (k, b, (w, also, d))) =
    let e : Some j ≡ Some k = sym c ∙ ap first_cap (unique m v w root is.is also.is) ∙ d in
    let same : j ≡ k = cc in
    a ∙ ap (λ (x : ℕ). refusals.Capability x) same ∙ sym b

-- Two refusals of `m`, neither of them `Memory`, are equal.
pub one_message_refusal : (m : List (List ℕ)) (limits : Bounds) (r s : Refusal) → (r ≡ refusals.Memory → ⊥)
    → (s ≡ refusals.Memory → ⊥)
    → IsRefusedMessage m limits r → IsRefusedMessage m limits s → r ≡ s
one_message_refusal m limits r s nr ns h k =
    messages_same m limits r s (message_part m limits r nr h) (message_part m limits s ns k)

-- ---- bytes in a form

-- `bs` are read as a message that is refused with `r` (`IsRefusedMessage`).
abbrev MessagePart : Form → List ℕ → Bounds → Refusal → Type 0
MessagePart form bs limits r = (m : List (List ℕ)) × Reads form bs limits.message_words m × IsRefusedMessage m limits r

refusal_part : (form : Form) (bs : List ℕ) (limits : Bounds) (r : Refusal) → (r ≡ refusals.Memory → ⊥)
    → IsRefused form bs limits r → MessagePart form bs limits r ⊎ IsMisread form bs limits.message_words r
refusal_part form bs limits (refusals.Walk s) n h = inl h
refusal_part form bs limits (refusals.Capability k) n h = inl h
refusal_part form bs limits refusals.Memory n h = absurd (n refl)
refusal_part form bs limits (refusals.Bare e) n h = inr h
refusal_part form bs limits (refusals.Packed e) n h = inr h
refusal_part form bs limits (refusals.Frame e) n h = inr h
refusal_part form bs limits (refusals.Trailing at) n h = inr h

refusals_same : (form : Form) (bs : List ℕ) (limits : Bounds) (r s : Refusal) → (r ≡ refusals.Memory → ⊥)
    → (s ≡ refusals.Memory → ⊥)
    → MessagePart form bs limits r ⊎ IsMisread form bs limits.message_words r → MessagePart form bs limits s
    ⊎ IsMisread form bs limits.message_words s → r ≡ s
refusals_same form bs limits r s nr ns (inl (m, h, i)) (inl (n, k, j)) =
    let same = one_message form bs limits.message_words n m k h in
    one_message_refusal m limits r s nr ns i (subst (λ (x : List (List ℕ)). IsRefusedMessage x limits s) same j)
refusals_same form bs limits r s nr ns (inl (m, h, i)) (inr k) =
    absurd (not_misread form bs limits.message_words m s h k)
refusals_same form bs limits r s nr ns (inr h) (inl (m, k, j)) =
    absurd (not_misread form bs limits.message_words m r k h)
refusals_same form bs limits r s nr ns (inr h) (inr k) = one_misread form bs limits.message_words r s h k

-- Two refusals of the same bytes, neither of them `Memory`, are equal.
pub one_refusal : (form : Form) (bs : List ℕ) (limits : Bounds) (r s : Refusal) → (r ≡ refusals.Memory → ⊥)
    → (s ≡ refusals.Memory → ⊥)
    → IsRefused form bs limits r → IsRefused form bs limits s → r ≡ s
one_refusal form bs limits r s nr ns h k =
    refusals_same form bs limits r s nr ns (refusal_part form bs limits r nr h) (refusal_part form bs limits s ns k)
