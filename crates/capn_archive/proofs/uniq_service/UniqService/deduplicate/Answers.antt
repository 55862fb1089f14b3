use Rattle.std.proofs.Common.{List, ℕ, Err, refl, subst}
use Rattle.capn_words.specs.Watched.{inner_of, has_failed}
use Rattle.capn_serve.specs.Outgoing.{outgoing}
use Rattle.capn_serve.proofs.shared.Adding.{added_none}
use Rattle.capn_canon.specs.MemoryNeed.{MayNeedBytes}
use Rattle.capn_archive.specs.Digest.{IsDigest, IsUndigested}
use Rattle.capn_archive.specs.Tasks.{Finds}
use Rattle.capn_archive.specs.UniqMessages.{UniqState}
use Rattle.capn_archive.proofs.UniqServed.{memory_refused, kept_added, deduplicates, undigested_does}
use Rattle.capn_archive.proofs.uniq_service.UniqService.deduplicate.Goals as goal

pub returns : goal.returns
returns g c =
    kept_added c.args.self.now c.args.frame.now (g.S.Space.message c.args.message.now)
    (outgoing (g.W.Write.contents (inner_of c.args.writer.now)) c.args.text.now.items)
    (outgoing (g.W.Write.contents (inner_of c.add_kept.new.writer)) c.add_kept.new.text.items)
    (has_failed c.add_kept.new.writer) _ _
    (deduplicates c.self.inside.order c.self.inside.digests.seen
    c.self.inside.served c.self.inside.skipped c.args.self.now
    c.self.view_is c.args.frame.now c.in_ok-digest.digest (g.S.Space.message c.args.message.now)
    c.in_ok-digest.ensures c.in_ok-is_duplicate.is_duplicate c.in_ok-is_duplicate.ensures.inserts.0
    c.insert_digest.new.digests.seen
    c.in_ok-is_duplicate.ensures.inserts.1 c.saturating_add-self-inside.result c.saturating_add-self-inside.ensures)
    c.add_kept.result c.add_kept.ensures

pub returns-in_err-is_duplicate : goal.returns-in_err-is_duplicate
returns-in_err-is_duplicate g c =
    let a = outgoing (g.W.Write.contents (inner_of c.args.writer.now)) c.args.text.now.items in
    memory_refused c.args.self.now c.args.frame.now (g.S.Space.message c.args.message.now) a a
    (has_failed c.args.writer.now) _ c.in_ok-digest.digest
    (subst (λ (s : UniqState). IsDigest (g.S.Space.message c.args.message.now) s.order.limits c.in_ok-digest.digest)
    c.self.view_is c.in_ok-digest.ensures) c.in_err-is_duplicate.field-0.0 c.from_residual-in_err-is_duplicate.result
    c.from_residual-in_err-is_duplicate.ensures.1 c.in_err-is_duplicate.ensures.inserts (added_none a) c.requires

pub returns-in_err-digest : goal.returns-in_err-digest
returns-in_err-digest g c =
    let a = outgoing (g.W.Write.contents (inner_of c.args.writer.now)) c.args.text.now.items in
    undigested_does c.args.self.now c.args.frame.now (g.S.Space.message c.args.message.now) a a
    (has_failed c.args.writer.now) refl c.requires c.in_err-digest.field-0.0
    (subst (λ (s : UniqState). Finds (λ (d : List ℕ). IsDigest (g.S.Space.message c.args.message.now) s.order.limits d)
    (λ r. IsUndigested (g.S.Space.message c.args.message.now) s.order.limits r)
    (MayNeedBytes (g.S.Space.message c.args.message.now) s.order.limits) (Err c.in_err-digest.field-0.0))
    c.self.view_is c.in_err-digest.ensures) c.from_residual.result c.from_residual.ensures.1
