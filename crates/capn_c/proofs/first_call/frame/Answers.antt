-- The report for a first frame that is complete, and for one that is refused.
use Rattle.std.proofs.Common.{inl, inr, ap, refl, sym, ◌∙◌, Err}
use Rattle.capn_abi.specs.declared.report.CapnReport.{CapnReport}
use Rattle.capn_abi.specs.StatusCodes.{frame_code}
use Rattle.capn_c.proofs.Least.{needed_told}
use Rattle.capn_c.proofs.OutOfMemory.{frame_memory}
use Rattle.capn_c.proofs.first_call.frame.Goals as goal

pub returns-in-Ok-clause-only : goal.returns-in-Ok-clause-only
returns-in-Ok-clause-only c m n h =
    inr (refl, ap (λ (r : CapnReport). r.length) c.answer_of.ensures ∙ c.in-Ok.ensures.only m n h)

pub returns-in-Err-clause-only : goal.returns-in-Err-clause-only
returns-in-Err-clause-only c m n h =
    inl (c.refuse_frame.ensures.status_is ∙ ap frame_code (c.in-Err.ensures.only m n h))

pub returns-in-Err-clause-needed : goal.returns-in-Err-clause-needed
returns-in-Err-clause-needed c e =
    needed_told c.args.bytes.now c.args.most c.refuse_frame.result c.refuse_frame.new.report c.in-Err.fault
    c.refuse_frame.ensures c.in-Err.ensures.refused e

pub returns-in-Err-clause-memory : goal.returns-in-Err-clause-memory
returns-in-Err-clause-memory c e =
    c.in-Err.ensures.memory (ap Err (frame_memory c.in-Err.fault (sym c.refuse_frame.ensures.status_is ∙ e)))
