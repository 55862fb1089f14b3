use Rattle.std.proofs.Common.{ℕ, refl, ap, subst, Err}
use Rattle.capn_stream.specs.FrameRefusal.{IsFrameRefused}
use Rattle.capn_stream.specs.declared.fault.FrameFault.{FrameFault}
use Rattle.capn_scratch.proofs.framed.of_frame.Goals as goal

pub returns-in-Err-clause-told : goal.returns-in-Err-clause-told
returns-in-Err-clause-told g c =
    let refused = subst (λ (n : ℕ). IsFrameRefused c.args.bytes.now n c.in-Err.fault) c.message_words.ensures.value
    c.in-Err.ensures.refused in
    record {
      written = tt;
      refused = (tt, ((λ e. c.in-Err.ensures.no_memory (ap (λ (x : FrameFault). Err x) e)), refused));
      unchanged = refl;
      bounded = tt;
    }
