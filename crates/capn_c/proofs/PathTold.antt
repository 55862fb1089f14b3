-- The statuses of refusals, and the report of a stopped walk, with the length of a path as its length. (For
-- `refusal_way` and `tell_path`.)
use Rattle.std.proofs.Common.{rules, ◌≡◌, ◌<◌, ◌≤◌, ℕ, List, refl, sym, subst, arith}
use Rattle.capn_pack.specs.declared.fault.UnpackFault.{UnpackFault}
use Rattle.capn_pack.specs.UnpackRefusal as packs
use Rattle.capn_stream.specs.declared.fault.FrameFault.{FrameFault}
use Rattle.capn_stream.specs.FrameRefusal as frames
use Rattle.capn_words.specs.declared.bare.BareFault.{BareFault}
use Rattle.capn_target.specs.declared.target.Fault.{Fault}
use Rattle.capn_target.specs.declared.target.Fault.TheVariants as walk
use Rattle.capn_walk.specs.Limits.{Bounds}
use Rattle.capn_walk.specs.declared.walk_answer.Stopped.{Stopped}
use Rattle.capn_walk.proofs.shared.Plain.{plain-refusal}
use Rattle.capn_canon.specs.declared.form.Form.{Form}
use Rattle.capn_canon.specs.declared.form.Form.TheVariants as forms
use Rattle.capn_canon.specs.declared.refusal.Refusal.{Refusal}
use Rattle.capn_canon.specs.declared.refusal.Refusal.TheVariants as refusals
use Rattle.capn_answers.specs.Paths.{IsStoppedIn, IsUnread}
use Rattle.capn_abi.specs.StatusCodes.{Reports, bare_code, packed_code, frame_code, walk_code, code}
use Rattle.capn_c.specs.PathNumbers.{with_length}
use Rattle.capn_abi.specs.declared.report.CapnReport.{CapnReport}

-- ---- the status of a stop is 64 or more

fault_status : (f : Fault) → (f ≡ walk.Memory → ⊥) → 64 ≤ walk_code f
fault_status f n = search rules

pub stop_status : (form : Form) (bs : List ℕ) (l : Bounds) (s : Stopped) (path : List ℕ) → IsStoppedIn form bs l s path
    → 64 ≤ walk_code s.fault
stop_status form bs l s path h =
    fault_status s.fault (λ e. plain-refusal h.message l s.fault s.place s.paid s.visits h.at.refused e)

-- ---- the status of a refusal of bytes that are not read is below 64

bare_status : (e : BareFault) → bare_code e < 64
bare_status e = search rules

packed_status : (bs : List ℕ) (most : ℕ) (e : UnpackFault) → packs.IsUnpackRefused bs most e → packed_code e < 64
packed_status bs most e h = search rules

frame_status : (bs : List ℕ) (most : ℕ) (e : FrameFault) → frames.IsFrameRefused bs most e → frame_code e < 64
frame_status bs most e h = search rules

pub unread_status : (form : Form) (bs : List ℕ) (l : Bounds) (e : Refusal) → IsUnread form bs l e → code e < 64
unread_status form bs l refusals.Memory h = omega arith
unread_status form bs l (refusals.Bare e) h = bare_status e
unread_status form bs l (refusals.Trailing at) h = omega arith
unread_status forms.Bare bs l (refusals.Walk s) h = absurd (h (λ x. cc))
unread_status forms.Stream bs l (refusals.Walk s) h = absurd (h (λ x. cc))
unread_status forms.Packed bs l (refusals.Walk s) h = absurd ((h (λ x. cc)).2)
unread_status forms.Bare bs l (refusals.Capability k) h = absurd (h (λ x. cc))
unread_status forms.Stream bs l (refusals.Capability k) h = absurd (h (λ x. cc))
unread_status forms.Packed bs l (refusals.Capability k) h = absurd ((h (λ x. cc)).2)
unread_status forms.Bare bs l (refusals.Packed e) h = absurd (h (λ x. cc))
unread_status forms.Stream bs l (refusals.Packed e) h = absurd (h (λ x. cc))
unread_status forms.Packed bs l (refusals.Packed e) h = packed_status bs _ e ((h (λ x. cc)).1)
unread_status forms.Bare bs l (refusals.Frame e) h = absurd (h (λ x. cc))
unread_status forms.Stream bs l (refusals.Frame e) h = frame_status bs l.message_words e ((h (λ x. cc)).1)
unread_status forms.Packed bs l (refusals.Frame e) h =
    let (text, u, is) = h (λ x. cc) in frame_status text l.message_words e is.1

-- ---- the report of a stop, with another length, stands for the same stop
pub but_length : (status n : ℕ) (r : CapnReport) (s : Stopped) → Reports status r (refusals.Walk s)
    → Reports status (with_length 0 (with_length n r)) (refusals.Walk s)
but_length status n r s h =
    let e : r ≡ with_length 0 (with_length n r) =
    subst (λ (x : CapnReport). x ≡ with_length 0 (with_length n x)) (sym h.report_is) refl in
    subst (λ (x : CapnReport). Reports status x (refusals.Walk s)) e h
