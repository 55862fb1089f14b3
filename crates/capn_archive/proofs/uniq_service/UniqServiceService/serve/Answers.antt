use Rattle.std.proofs.Common.{[], ◌<◌, length, inr, sym, subst, ◌∙◌}
use Rattle.capn_words.specs.Watched.{inner_of, has_failed}
use Rattle.capn_serve.specs.declared.fault.ServeFault.TheVariants as faults
use Rattle.capn_serve.specs.Outgoing.{Outgoing, Adds, outgoing}
use Rattle.capn_serve.proofs.shared.Adding.{added_none}
use Rattle.capn_archive.specs.Digest.{IsUndigested}
use Rattle.capn_archive.specs.UniqMessages.{UniqState}
use Rattle.capn_archive.proofs.UniqServed.{is_skipped, undigested, fault_does}
use Rattle.capn_archive.proofs.uniq_service.UniqServiceService.serve.Goals as goal

pub returns-else-not-self : goal.returns-else-not-self
returns-else-not-self g c =
    let old = outgoing (g.W.Write.contents (inner_of c.args.writer.now)) c.args.text.now.items in
    let new = outgoing (g.W.Write.contents (inner_of c.deduplicate.new.writer)) c.deduplicate.new.text.items in
    let known = undigested c.args.self.now c.args.frame.now (g.S.Space.message c.args.message.now) old new
    (has_failed c.deduplicate.new.writer) c.deduplicate.new.self c.in-Err.fault c.in-Refused.refusal
    c.in-Refused.is c.in-Err.ensures in
    let same = c.self.view_is ∙ known.2 in (
      (
        [],
        inr (is_skipped c.self.inside.order c.self.inside.digests.seen c.self.inside.served c.self.inside.skipped
            c.args.self.now same c.args.at (g.S.Space.message c.args.message.now) c.in-Refused.refusal
            (subst (λ (s : UniqState). IsUndigested (g.S.Space.message c.args.message.now) s.order.limits
            c.in-Refused.refusal) (sym same) known.0) c.if-not-self.false c.one_more.result c.one_more.ensures),
        subst (λ (x : Outgoing). Adds old x []) (sym known.1) (added_none old),
        known.3,
      ),
      subst (λ (x : Outgoing). length old.kept < 65536 → length x.kept < 65536) (sym known.1) (λ h. h),
    )

pub returns-in-Memory : goal.returns-in-Memory
returns-in-Memory g c =
    fault_does c.args.self.now c.args.frame.now (g.S.Space.message c.args.message.now)
    (outgoing (g.W.Write.contents (inner_of c.args.writer.now)) c.args.text.now.items)
    (outgoing (g.W.Write.contents (inner_of c.deduplicate.new.writer)) c.deduplicate.new.text.items)
    (has_failed c.deduplicate.new.writer) c.deduplicate.new.self c.args.at c.in-Err.fault faults.Memory c.in-Memory.is
    c.in-Err.ensures (λ e is. absurd (cc))

pub returns-in-Io : goal.returns-in-Io
returns-in-Io g c =
    fault_does c.args.self.now c.args.frame.now (g.S.Space.message c.args.message.now)
    (outgoing (g.W.Write.contents (inner_of c.args.writer.now)) c.args.text.now.items)
    (outgoing (g.W.Write.contents (inner_of c.deduplicate.new.writer)) c.deduplicate.new.text.items)
    (has_failed c.deduplicate.new.writer) c.deduplicate.new.self c.args.at c.in-Err.fault faults.Io c.in-Io.is
    c.in-Err.ensures (λ e is. absurd (cc))
