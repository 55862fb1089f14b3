-- A result for a message is also a result for the bytes that are read as that message. Bytes that can't be read are
-- refused. (For `canonical_input.rt`, `input.rt`, `survey_input.rt` and `Verdicts`.)
use Rattle.std.proofs.Common.{◌≡◌, ℕ, ◌+◌, ◌≤◌, inl, inr, List, refl, sym, subst, Result, Ok, Err, IfOk, IfErr}
use Rattle.std.proofs.Common.{IsErrAnd, IsErrOf, MatchResult}
use Rattle.capn_pack.specs.UnpackRefusal.{IsUnpackRefused, StartsWithin}
use Rattle.capn_pack.specs.declared.fault.UnpackFault.{UnpackFault}
use Rattle.capn_pack.specs.declared.fault.UnpackFault.TheVariants as unpack_faults
use Rattle.capn_stream.specs.Frames.{most_table_words}
use Rattle.capn_stream.specs.FrameRefusal.{HasTable, IsFrameRefused}
use Rattle.capn_stream.specs.declared.fault.FrameFault.{FrameFault}
use Rattle.capn_stream.specs.declared.fault.FrameFault.TheVariants as frame_faults
use Rattle.capn_walk.specs.Accepted.{IsBounded}
use Rattle.capn_walk.specs.Limits.{Bounds}
use Rattle.capn_walk.specs.declared.survey_answer.Surveyed.{Surveyed}
use Rattle.capn_canon.specs.declared.form.Form.{Form}
use Rattle.capn_canon.specs.declared.form.Form.TheVariants as forms
use Rattle.capn_canon.specs.declared.refusal.Refusal.{Refusal}
use Rattle.capn_canon.specs.declared.refusal.Refusal.TheVariants as refusals
use Rattle.capn_canon.specs.Reads.{Unpacks}
use Rattle.capn_canon.specs.Denotes.{Answers}
use Rattle.capn_canon.specs.SurveyedBytes.{Surveys}
use Rattle.capn_canon.specs.RefusalOf.{IsOfFrame, IsOfPacked}
use Rattle.capn_canon.specs.Refusal.{IsRefused, IsUnacceptedIn, IsPaidWithin}
use Rattle.capn_canon.specs.MemoryNeed.{MayNeedMemory}
use Rattle.capn_canon.specs.Answered.{IsRefusedReading, IsRun}
use Rattle.capn_canon.specs.inner.Outcomes.{AreCanonicalised, AreSurveyed, IsCanonicalised, IsSurveyed}
use Rattle.capn_canon.proofs.calls.Accounted.{surveyed_as}
use Rattle.capn_canon.proofs.calls.InEachForm.{canonicalised_as}
use Rattle.capn_canon.proofs.shared.MemoryNeeds.{bytes_wanted, packed_wanted}

-- ---- bytes that are not read

unread_so : (bs text : List ℕ) (limits : Bounds) (e : Refusal) → Unpacks bs limits.message_words text
    → IsRefusedReading forms.Stream text limits e → IsRefusedReading forms.Packed bs limits e
unread_so bs text limits refusals.Memory u h = packed_wanted bs text limits u h
unread_so bs text limits (refusals.Frame e) u h = (text, u, h)
unread_so bs text limits (refusals.Trailing at) u h = (text, u, h)
unread_so bs text limits (refusals.Bare e) u h = absurd h
unread_so bs text limits (refusals.Packed e) u h = absurd h
unread_so bs text limits (refusals.Walk s) u h = absurd h
unread_so bs text limits (refusals.Capability k) u h = absurd h

pub no-walk : (form : Form) (bs : List ℕ) (limits : Bounds) (e : Refusal) → IsRefusedReading form bs limits e
    → IsUnacceptedIn form bs limits e × IsPaidWithin limits.budget e
no-walk form bs limits refusals.Memory h = (tt, tt)
no-walk form bs limits (refusals.Frame e) h = (h, tt)
no-walk form bs limits (refusals.Trailing at) h = (h, tt)
no-walk form bs limits (refusals.Bare e) h = (h, tt)
no-walk form bs limits (refusals.Packed e) h = (h, tt)
no-walk forms.Bare bs limits (refusals.Walk s) h = absurd h
no-walk forms.Stream bs limits (refusals.Walk s) h = absurd h
no-walk forms.Packed bs limits (refusals.Walk s) h = absurd h.2
no-walk forms.Bare bs limits (refusals.Capability k) h = absurd h
no-walk forms.Stream bs limits (refusals.Capability k) h = absurd h
no-walk forms.Packed bs limits (refusals.Capability k) h = absurd h.2

pub refused-in : (form : Form) (bs : List ℕ) (limits : Bounds) (e : Refusal) → IsUnacceptedIn form bs limits e
    → IsRefused form bs limits e
refused-in form bs limits refusals.Memory h = tt
refused-in form bs limits (refusals.Frame e) h = h
refused-in form bs limits (refusals.Trailing at) h = h
refused-in form bs limits (refusals.Bare e) h = h
refused-in form bs limits (refusals.Packed e) h = h
refused-in form bs limits (refusals.Walk s) h = h
refused-in form bs limits (refusals.Capability k) h = absurd h

wanted-unread : {T : Type 0} (form : Form) (bs : List ℕ) (limits : Bounds) (e : Refusal)
    → IsRefusedReading form bs limits e → (r : Result T Refusal) → r ≡ Err e → IsErrOf r refusals.Memory
    → MayNeedMemory form bs limits
wanted-unread form bs limits refusals.Memory h r is w = h
wanted-unread form bs limits (refusals.Frame e) h r is w = absurd cc
wanted-unread form bs limits (refusals.Trailing at) h r is w = absurd cc
wanted-unread form bs limits (refusals.Bare e) h r is w = absurd cc
wanted-unread form bs limits (refusals.Packed e) h r is w = absurd cc
wanted-unread form bs limits (refusals.Walk s) h r is w = absurd cc
wanted-unread form bs limits (refusals.Capability k) h r is w = absurd cc

-- ---- faults of the steps

module _ {T S : Type 0} (answers : S → List (List ℕ) → Bounds → Result T Refusal → S → Type 0) (bs : List ℕ)
    (limits : Bounds) (task : S) where
  -- Case: `bs` are refused as a frame, for the fault `f`.
  pub frame_unread : (r : Result T Refusal) (f : FrameFault) → IsErrAnd r (IsOfFrame f)
      → IsFrameRefused bs limits.message_words f → (f ≡ frame_faults.Memory → HasTable bs limits.message_words)
      → IsRun forms.Stream bs limits answers task r task
  frame_unread (Ok x) f is h m = absurd is
  frame_unread (Err e) f (inl (memory, is)) h m =
      inr (e, refl, subst (λ (x : Refusal). IsRefusedReading forms.Stream bs limits x) (sym is) (m memory), refl)
  frame_unread (Err e) f (inr (other, is)) h m =
      inr (e, refl, subst (λ (x : Refusal). IsRefusedReading forms.Stream bs limits x) (sym is) (other, h), refl)

  -- Case: `bs` are refused as a packed text, for the fault `f`.
  pub packed_unread : (r : Result T Refusal) (f : UnpackFault) → IsErrAnd r (IsOfPacked f)
      → IsUnpackRefused bs (limits.message_words + most_table_words) f
      → (f ≡ unpack_faults.Memory → StartsWithin bs (limits.message_words + most_table_words))
      → IsRun forms.Packed bs limits answers task r task
  packed_unread (Ok x) f is h m = absurd is
  packed_unread (Err e) f (inl (memory, is)) h m =
      inr (e, refl, subst (λ (x : Refusal). IsRefusedReading forms.Packed bs limits x) (sym is) (m memory), refl)
  packed_unread (Err e) f (inr (other, is)) h m =
      inr (e, refl, subst (λ (x : Refusal). IsRefusedReading forms.Packed bs limits x) (sym is) (other, h), refl)

-- ---- answers

-- A result of a run on the unpacked frame `text` is also a result of a run on the packed text `bs`.
pub packed_run : {T S : Type 0} (bs text : List ℕ) (limits : Bounds)
    (answers : S → List (List ℕ) → Bounds → Result T Refusal → S → Type 0) (old : S) (r : Result T Refusal) (new : S)
    → Unpacks bs limits.message_words text → IsRun forms.Stream text limits answers old r new
    → IsRun forms.Packed bs limits answers old r new
packed_run bs text limits answers old r new u (inl (m, is, h)) = inl (m, (text, u, is), h)
packed_run bs text limits answers old r new u (inr (e, is, h, same)) =
    inr (e, is, unread_so bs text limits e u h, same)

-- `r` is a result of `canonicalise` for `bs` if a run that canonicalises the message of `bs` gives `r`.
pub canonicalised : {T S : Type 0} (form : Form) (bs : List ℕ) (limits : Bounds) (r : Result T Refusal)
    (bytes : T → List ℕ) (price : T → ℕ) (old new : S)
    → IsRun form bs limits (λ task m l x after. IsCanonicalised m l x bytes price) old r new
    → AreCanonicalised form bs limits r bytes price
canonicalised form bs limits r bytes price old new (inl (m, is, h)) =
    canonicalised_as r bytes price form bs limits m is (bytes_wanted form bs limits m is) h.found h.refused h.wanted
    h.bounded
canonicalised form bs limits r bytes price old new (inr (e, is, h, same)) =
    let n = no-walk form bs limits e h in
    record {
      found = subst (λ x. IfOk x (λ c. Answers form bs limits (bytes c) (price c))) (sym is) tt;
      refused = subst (λ x. IfErr x (λ e. IsRefused form bs limits e)) (sym is) (refused-in form bs limits e n.0);
      wanted = λ w. inl (wanted-unread form bs limits e h r is w);
      bounded = subst (λ x. MatchResult x (λ c. price c ≤ limits.budget) (λ e. IsPaidWithin limits.budget e)) (sym is)
          n.1;
    }

-- `r` is a result of `survey_bytes` for `bs` if a run that surveys the message of `bs` gives `r`.
pub surveyed : {S : Type 0} (form : Form) (bs : List ℕ) (limits : Bounds) (r : Result Surveyed Refusal) (old new : S)
    → IsRun form bs limits (λ task m l x after. IsSurveyed m l x) old r new → AreSurveyed form bs limits r
surveyed form bs limits r old new (inl (m, is, h)) = surveyed_as r form bs limits m is h
surveyed form bs limits r old new (inr (e, is, h, same)) =
    let n = no-walk form bs limits e h in
    record {
      found = subst (λ x. IfOk x (λ s. Surveys form bs limits s)) (sym is) tt;
      refused = subst (λ x. IfErr x (λ e. IsUnacceptedIn form bs limits e)) (sym is) n.0;
      wanted = λ w. wanted-unread form bs limits e h r is w;
      bounded = subst (λ x. MatchResult x (λ s. IsBounded limits.budget s.paid s.visits)
          (λ e. IsPaidWithin limits.budget e)) (sym is) n.1;
    }
