-- Only `Memory` has the status 8: no other refusal of bytes or of a message has that status. (For `canonical_call.rt`,
-- `canonical_fill.rt`, `canonical_segments_call.rt` and others.)
use Rattle.std.proofs.Common.{rules, ◌≡◌, ℕ, ◌<◌, List, length, refl, ap, arith}
use Rattle.capn_words.specs.declared.bare.BareFault.{BareFault}
use Rattle.capn_pack.specs.declared.fault.UnpackFault.{UnpackFault}
use Rattle.capn_pack.specs.declared.fault.UnpackFault.TheVariants as packed
use Rattle.capn_stream.specs.declared.fault.FrameFault.{FrameFault}
use Rattle.capn_stream.specs.declared.fault.FrameFault.TheVariants as frame
use Rattle.capn_stream.specs.FrameRefusal.{most_few}
use Rattle.capn_stream.proofs.shared.FrameLaws.{announces, stands_alone, whole_of}
use Rattle.capn_target.specs.declared.target.Fault.{Fault}
use Rattle.capn_target.specs.declared.target.Fault.TheVariants as walk
use Rattle.capn_walk.specs.Accepted.{IsWalkRefused}
use Rattle.capn_walk.specs.Limits.{Bounds}
use Rattle.capn_walk.specs.declared.walk_answer.Stopped.{Stopped}
use Rattle.capn_walk.proofs.shared.Plain.{plain-refusal}
use Rattle.capn_canon.specs.declared.form.Form.{Form}
use Rattle.capn_canon.specs.declared.form.Form.TheVariants as forms
use Rattle.capn_canon.specs.declared.refusal.Refusal.{Refusal}
use Rattle.capn_canon.specs.declared.refusal.Refusal.TheVariants as refusals
use Rattle.capn_canon.specs.Refusal.{IsRefused, IsUnaccepted, IsUnacceptedIn}
use Rattle.capn_canon.specs.MemoryNeed.{MayNeedMemory}
use Rattle.capn_canon.specs.Reads.{Reads}
use Rattle.capn_canon.proofs.shared.MemoryNeeds.{packed_wanted}
use Rattle.capn_c.specs.Held.{IsMisheld, IsRefusedHeld, IsUnacceptedHeld}
use Rattle.capn_abi.specs.StatusCodes.{bare_code, packed_code, frame_code, walk_code, code}

pub packed_memory : (e : UnpackFault) → packed_code e ≡ 8 → e ≡ packed.Memory
packed_memory e h = search rules

pub frame_memory : (e : FrameFault) → frame_code e ≡ 8 → e ≡ frame.Memory
frame_memory e h = search rules

walk_memory : (e : Fault) → walk_code e ≡ 8 → e ≡ walk.Memory
walk_memory e h = search rules

never_bare : (e : BareFault) → bare_code e ≡ 8 → ⊥
never_bare e h = search rules

pub refused_memory : (form : Form) (bs : List ℕ) (l : Bounds) (r : Refusal) → IsRefused form bs l r → code r ≡ 8
    → r ≡ refusals.Memory
refused_memory form bs l refusals.Memory h c = refl
refused_memory form bs l (refusals.Walk s) (m, i, h) c =
    absurd (plain-refusal m l s.fault s.place s.paid s.visits h (walk_memory s.fault c))
refused_memory form bs l (refusals.Capability k) h c = absurd (omega arith)
refused_memory form bs l (refusals.Trailing at) h c = absurd (omega arith)
refused_memory form bs l (refusals.Bare e) h c = absurd (never_bare e c)
refused_memory forms.Bare bs l (refusals.Packed e) h c = absurd h
refused_memory forms.Stream bs l (refusals.Packed e) h c = absurd h
refused_memory forms.Packed bs l (refusals.Packed e) h c = absurd (h.0 (packed_memory e c))
refused_memory forms.Bare bs l (refusals.Frame e) h c = absurd h
refused_memory forms.Stream bs l (refusals.Frame e) h c = absurd (h.0 (frame_memory e c))
refused_memory forms.Packed bs l (refusals.Frame e) h c = absurd (h.2.0 (frame_memory e c))

pub unaccepted_refused : (form : Form) (bs : List ℕ) (limits : Bounds) (e : Refusal) → IsUnacceptedIn form bs limits e
    → IsRefused form bs limits e
unaccepted_refused form bs limits e h = search rules

pub unaccepted_memory : (form : Form) (bs : List ℕ) (l : Bounds) (r : Refusal) → IsUnacceptedIn form bs l r
    → code r ≡ 8 → r ≡ refusals.Memory
unaccepted_memory form bs l r h c = refused_memory form bs l r (unaccepted_refused form bs l r h) c

misheld_memory : (m : List (List ℕ)) (most : ℕ) (e : FrameFault) → IsMisheld m most e → frame_code e ≡ 8 → ⊥
misheld_memory m most e h c = search rules

pub held_memory : (m : List (List ℕ)) (l : Bounds) (r : Refusal) → IsRefusedHeld m l r → code r ≡ 8
    → r ≡ refusals.Memory
held_memory m l refusals.Memory h c = refl
held_memory m l (refusals.Walk s) h c =
    absurd (plain-refusal m l s.fault s.place s.paid s.visits h.1 (walk_memory s.fault c))
held_memory m l (refusals.Capability k) h c = absurd (omega arith)
held_memory m l (refusals.Frame e) h c = absurd (misheld_memory m l.message_words e h c)
held_memory m l (refusals.Trailing at) h c = absurd h
held_memory m l (refusals.Bare e) h c = absurd h
held_memory m l (refusals.Packed e) h c = absurd h

pub unaccepted_held_refused : (m : List (List ℕ)) (l : Bounds) (r : Refusal) → IsUnacceptedHeld m l r
    → IsRefusedHeld m l r
unaccepted_held_refused m l r h = search rules

pub unaccepted_held_memory : (m : List (List ℕ)) (l : Bounds) (r : Refusal) → IsUnacceptedHeld m l r → code r ≡ 8
    → r ≡ refusals.Memory
unaccepted_held_memory m l r h c = held_memory m l r (unaccepted_held_refused m l r h) c

pub stopped_memory : (m : List (List ℕ)) (l : Bounds) (s : Stopped)
    → IsWalkRefused m l s.fault s.place s.paid s.visits → code (refusals.Walk s) ≡ 8 → ⊥
stopped_memory m l s h c = plain-refusal m l s.fault s.place s.paid s.visits h (walk_memory s.fault c)

pub message_memory : (m : List (List ℕ)) (l : Bounds) (r : Refusal) → IsUnaccepted m l r → code r ≡ 8
    → r ≡ refusals.Memory
message_memory m l refusals.Memory h c = refl
message_memory m l (refusals.Walk s) h c = absurd (stopped_memory m l s h c)
message_memory m l (refusals.Capability k) h c = absurd h
message_memory m l (refusals.Frame e) h c = absurd h
message_memory m l (refusals.Trailing at) h c = absurd h
message_memory m l (refusals.Bare e) h c = absurd h
message_memory m l (refusals.Packed e) h c = absurd h

-- ---- memory that may be needed

many_need : (bs : List ℕ) (limits : Bounds) (m : List (List ℕ)) → Reads forms.Stream bs limits.message_words m
    → most_few < length m → MayNeedMemory forms.Stream bs limits
many_need bs limits m reads many =
    let first = stands_alone bs limits.message_words m reads.frame reads.room in
    let count = (announces bs limits.message_words m (length bs) first).count in
    (whole_of bs limits.message_words m (length bs) first, omega (arith, count, many))

-- If `bs` are read as a message of more than 64 segments, reading `bs` may need memory.
pub many_needed : (form : Form) (bs : List ℕ) (limits : Bounds) (m : List (List ℕ))
    → Reads form bs limits.message_words m → most_few < length m → MayNeedMemory form bs limits
many_needed forms.Stream bs limits m reads many = many_need bs limits m reads many
many_needed forms.Packed bs limits m (text, u, reads) many =
    packed_wanted bs text limits u (many_need text limits m reads many)
many_needed forms.Bare bs limits m (ws, is, same) many = absurd (omega (arith, ap length same, many))
