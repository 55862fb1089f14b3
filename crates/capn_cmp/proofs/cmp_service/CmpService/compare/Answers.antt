use Rattle.capn_words.specs.Watched.{has_failed, inner_of}
use Rattle.capn_serve.specs.Outgoing.{outgoing}
use Rattle.capn_cmp.proofs.CmpServed.{agrees_with, differs_from}
use Rattle.capn_cmp.proofs.Lines.{found_equal, found_other}
use Rattle.capn_cmp.proofs.cmp_service.CmpService.compare.Goals as goal

pub returns-then-eq : goal.returns-then-eq
returns-then-eq g c =
    agrees_with c.self.inside.limits c.self.inside.first.items c.self.inside.differs c.args.self.now c.self.view_is
    c.args.at c.if-at-eq0.false c.args.canonical.now c.as_slice.result.now c.as_slice.ensures.value
    (found_equal c.as_slice.result.now c.args.canonical.now c.eq.result c.eq.ensures c.if-eq.true)
    (outgoing (g.W.Write.contents (inner_of c.args.writer.now)) c.args.text.now.items) (has_failed c.args.writer.now)
    c.requires

pub returns : goal.returns
returns g c =
    differs_from c.self.inside.limits c.self.inside.first.items c.self.inside.differs c.args.self.now c.self.view_is
    c.args.at c.if-at-eq0.false c.args.canonical.now c.as_slice.result.now c.as_slice.ensures.value
    (found_other c.as_slice.result.now c.args.canonical.now c.eq.result c.eq.ensures c.if-eq.false)
    c.deref.result.now c.deref.ensures.value c.in_ok-report.report.items c.in_ok-report.ensures.found
    c.deref-2.result.now c.deref-2.ensures.value
    (outgoing (g.W.Write.contents (inner_of c.args.writer.now)) c.args.text.now.items)
    (outgoing (g.W.Write.contents (inner_of c.add_bytes.new.writer)) c.add_bytes.new.text.items)
    (has_failed c.add_bytes.new.writer) c.add_bytes.result c.add_bytes.ensures
