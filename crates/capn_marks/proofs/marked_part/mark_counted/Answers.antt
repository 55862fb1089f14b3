use Rattle.std.proofs.lemmas.Result.{on_ok_weaker, IfErr-weaker}
use Rattle.capn_show.specs.Outgoing.{Adds, BreaksOff, outgoing}
use Rattle.capn_marks.proofs.LedSteps.{led-marked, led-ready}
use Rattle.capn_show.proofs.shared.Sequels.{unbegun}
use Rattle.capn_marks.proofs.marked_part.mark_counted.Goals as goal

pub returns-in-Err-clause-cut : goal.returns-in-Err-clause-cut
returns-in-Err-clause-cut g c v i =
    unbegun _ _ c.in-Err.broken
    c.in-Err.ensures.memory

pub lead-requires-clause-value : goal.lead-requires-clause-value
lead-requires-clause-value g c = (c.requires.ready.value, c.requires.ready.is)

pub mark_led-requires-clause-ready : goal.mark_led-requires-clause-ready
mark_led-requires-clause-ready g c =
    led-ready (g.S.Space.message c.args.space.now) c.args.numbers.now c.requires.ready.value c.lead.new.path.items
    c.args.depth c.in-Ok.found (c.in-Ok.ensures.there c.requires.ready.value c.requires.ready.is) c.requires.ready.low

pub returns-in-Ok-clause-shown : goal.returns-in-Ok-clause-shown
returns-in-Ok-clause-shown g c =
    on_ok_weaker c.mark_led.result (λ k v i. led-marked (g.S.Space.message c.args.space.now) c.args.numbers.now v
    c.lead.new.path.items c.args.marks.now (Adds _ _) c.in-Ok.found (c.in-Ok.ensures.there v i) k)
    c.mark_led.ensures.shown

pub returns-in-Ok-clause-cut : goal.returns-in-Ok-clause-cut
returns-in-Ok-clause-cut g c =
    IfErr-weaker c.mark_led.result _ _
    (λ e k v i. led-marked (g.S.Space.message c.args.space.now) c.args.numbers.now v c.lead.new.path.items
    c.args.marks.now (BreaksOff (outgoing g.W.Write.contents c.args.writer.now c.args.text.now.items)
    (outgoing g.W.Write.contents c.mark_led.new.writer c.mark_led.new.text.items) e)
    c.in-Ok.found (c.in-Ok.ensures.there v i) k) c.mark_led.ensures.cut
