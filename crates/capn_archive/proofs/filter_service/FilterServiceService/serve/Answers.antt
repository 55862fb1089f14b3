use Rattle.std.proofs.Common.{inl, inr}
use Rattle.capn_words.specs.Watched.{inner_of, has_failed}
use Rattle.capn_serve.specs.Outgoing.{outgoing}
use Rattle.capn_archive.proofs.FilterServed.{ends, let_through, skips}
use Rattle.capn_archive.proofs.filter_service.FilterServiceService.serve.Goals as goal

pub returns-in-Passes : goal.returns-in-Passes
returns-in-Passes g c =
    let_through c.args.self.now c.args.at c.args.frame.now (g.S.Space.message c.args.message.now) c.in-Passes.ensures
    (outgoing (g.W.Write.contents (inner_of c.args.writer.now)) c.args.text.now.items)
    (outgoing (g.W.Write.contents (inner_of c.add_bytes.new.writer)) c.add_bytes.new.text.items)
    (has_failed c.add_bytes.new.writer) c.add_bytes.result c.add_bytes.ensures

pub returns-then-self : goal.returns-then-self
returns-then-self g c =
    skips c.args.self.now c.args.at c.args.frame.now (g.S.Space.message c.args.message.now)
    (outgoing (g.W.Write.contents (inner_of c.args.writer.now)) c.args.text.now.items)
    (has_failed c.args.writer.now) c.requires.fine c.if-self.true (inl c.in-NotCanonical.ensures) c.one_more.result
    c.one_more.ensures

pub returns-then-self-2 : goal.returns-then-self-2
returns-then-self-2 g c =
    skips c.args.self.now c.args.at c.args.frame.now (g.S.Space.message c.args.message.now)
    (outgoing (g.W.Write.contents (inner_of c.args.writer.now)) c.args.text.now.items)
    (has_failed c.args.writer.now) c.requires.fine c.if-self-2.true (inr (c.in-Refused.refusal, c.in-Refused.ensures))
    c.one_more-then-self-2.result c.one_more-then-self-2.ensures

pub returns-else-self : goal.returns-else-self
returns-else-self g c =
    ends c.args.self.now c.args.at c.args.frame.now (g.S.Space.message c.args.message.now)
    (outgoing (g.W.Write.contents (inner_of c.args.writer.now)) c.args.text.now.items)
    (has_failed c.args.writer.now) c.requires.fine c.if-self.false c.in-NotCanonical.ensures
