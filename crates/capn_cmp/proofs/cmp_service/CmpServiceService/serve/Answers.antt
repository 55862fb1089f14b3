use Rattle.std.proofs.Common.{List, ℕ, Err, ap, subst}
use Rattle.capn_words.specs.Watched.{has_failed, inner_of}
use Rattle.capn_canon.specs.Denotes.{AnswersMessage}
use Rattle.capn_canon.specs.MemoryNeed.{MayNeedBytes}
use Rattle.capn_canon.specs.declared.refusal.Refusal.{Refusal}
use Rattle.capn_serve.specs.Outgoing.{outgoing}
use Rattle.capn_cmp.specs.CmpMessages.{CmpState, TriesToCompare}
use Rattle.capn_cmp.proofs.CmpServed.{compared_does, unformed_does}
use Rattle.capn_cmp.proofs.cmp_service.CmpServiceService.serve.Goals as goal

pub returns-in-Some : goal.returns-in-Some
returns-in-Some g c =
    let message = g.S.Space.message c.args.message.now in
    compared_does c.args.self.now c.args.at c.args._frame.now message c.in-Some.own.bytes.now c.in-Some.own.paid
    (subst (λ (s : CmpState). AnswersMessage message s.limits c.in-Some.own.bytes.now c.in-Some.own.paid)
    c.self.view_is c.in-Some.ensures.own)
    (outgoing (g.W.Write.contents (inner_of c.args.writer.now)) c.args.text.now.items)
    (outgoing (g.W.Write.contents (inner_of c.compare.new.writer)) c.compare.new.text.items)
    (has_failed c.compare.new.writer) c.compare.result c.compare.new.self c.compare.ensures

pub returns-in-Ok : goal.returns-in-Ok
returns-in-Ok g c =
    let message = g.S.Space.message c.args.message.now in
    let old = outgoing (g.W.Write.contents (inner_of c.args.writer.now)) c.args.text.now.items in
    let new = outgoing (g.W.Write.contents (inner_of c.compare-in-Ok.new.writer)) c.compare-in-Ok.new.text.items in
    compared_does c.args.self.now c.args.at c.args._frame.now message c.in-Ok.canonical.bytes.items
    c.in-Ok.canonical.paid
    (subst (λ (s : CmpState). AnswersMessage message s.limits c.in-Ok.canonical.bytes.items c.in-Ok.canonical.paid)
    c.self.view_is c.in-Ok.ensures.found) old new (has_failed c.compare-in-Ok.new.writer) c.compare-in-Ok.result
    c.compare-in-Ok.new.self
    (subst (λ (bytes : List ℕ). TriesToCompare c.args.self.now c.args.at bytes old new
    (has_failed c.compare-in-Ok.new.writer) c.compare-in-Ok.result c.compare-in-Ok.new.self) c.deref.ensures.value
    c.compare-in-Ok.ensures)

pub returns-in-Err-Memory : goal.returns-in-Err-Memory
returns-in-Err-Memory g c =
    let message = g.S.Space.message c.args.message.now in
    unformed_does c.args.self.now c.args.at c.args._frame.now message
    (subst (λ (s : CmpState). MayNeedBytes message s.limits) c.self.view_is
    (c.in-Err-Memory.ensures.memory (ap (λ (e : Refusal). Err e) c.in-Err-Memory.field-0-is)))
    (outgoing (g.W.Write.contents (inner_of c.args.writer.now)) c.args.text.now.items) (has_failed c.args.writer.now)
    c.requires.fine
