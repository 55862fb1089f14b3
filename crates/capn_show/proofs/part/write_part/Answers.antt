use Rattle.std.proofs.Common.{arith, sym, subst}
use Rattle.std.proofs.lemmas.Result.{on_ok_weaker, IfErr-weaker}
use Rattle.std.specs.Prelude.{Option}
use Rattle.capn_value.specs.Tree.{Tree}
use Rattle.capn_show.specs.Outgoing.{Adds, BreaksOff, outgoing}
use Rattle.capn_show.specs.Style.{part_in}
use Rattle.capn_show.proofs.part.write_part.Goals as goal

pub named-found-requires-clause-value : goal.named-found-requires-clause-value
named-found-requires-clause-value g c = (c.requires.ready.value, c.requires.ready.is)

pub follow-requires-clause-value : goal.follow-requires-clause-value
follow-requires-clause-value g c =
    (c.requires.ready.value, c.named-found.ensures.shown c.requires.ready.value c.requires.ready.is)

pub show_there-requires-clause-ready : goal.show_there-requires-clause-ready
show_there-requires-clause-ready g c =
    let r = c.requires.ready in
    let x = c.in-Some.ensures.there r.value (c.named-found.ensures.shown r.value r.is) in
    let low = x.low in
    let high = r.low in
    record { value = x.value; is = x.shown; low = omega arith }

pub returns-in-Some-clause-shown : goal.returns-in-Some-clause-shown
returns-in-Some-clause-shown g c =
    let old = outgoing g.W.Write.contents c.args.writer.now c.args.text.now.items in
    let new = outgoing g.W.Write.contents c.show_there.new.writer c.show_there.new.text.items in
    on_ok_weaker c.show_there.result (λ k v is. let x = c.in-Some.ensures.there v (c.named-found.ensures.shown v is) in
    subst (λ (o : Option Tree). Adds old new (part_in c.args.style o)) (sym x.is) (k x.value x.shown))
    c.show_there.ensures.shown

pub returns-in-Some-clause-cut : goal.returns-in-Some-clause-cut
returns-in-Some-clause-cut g c =
    let old = outgoing g.W.Write.contents c.args.writer.now c.args.text.now.items in
    let new = outgoing g.W.Write.contents c.show_there.new.writer c.show_there.new.text.items in
    IfErr-weaker c.show_there.result _ _
    (λ e k v is. let x = c.in-Some.ensures.there v (c.named-found.ensures.shown v is) in
    subst (λ (o : Option Tree). BreaksOff old new e (part_in c.args.style o)) (sym x.is) (k x.value x.shown))
    c.show_there.ensures.cut

pub returns-in-None-clause-shown : goal.returns-in-None-clause-shown
returns-in-None-clause-shown g c =
    let old = outgoing g.W.Write.contents c.args.writer.now c.args.text.now.items in
    let new = outgoing g.W.Write.contents c.show_nothing.new.writer c.show_nothing.new.text.items in
    on_ok_weaker c.show_nothing.result (λ k v is. subst (λ (o : Option Tree). Adds old new (part_in c.args.style o))
    (sym (c.in-None.ensures.none v (c.named-found.ensures.shown v is))) k) c.show_nothing.ensures.shown

pub returns-in-None-clause-cut : goal.returns-in-None-clause-cut
returns-in-None-clause-cut g c =
    let old = outgoing g.W.Write.contents c.args.writer.now c.args.text.now.items in
    let new = outgoing g.W.Write.contents c.show_nothing.new.writer c.show_nothing.new.text.items in
    IfErr-weaker c.show_nothing.result _ _ (λ e k v is. subst
    (λ (o : Option Tree). BreaksOff old new e (part_in c.args.style o))
    (sym (c.in-None.ensures.none v (c.named-found.ensures.shown v is))) k) c.show_nothing.ensures.cut
