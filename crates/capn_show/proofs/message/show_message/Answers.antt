use Rattle.std.proofs.Common.{◌≡◌, ◌∙◌, ℕ, List, [], false, refl, arith}
use Rattle.capn_target.specs.Target.{target}
use Rattle.capn_value.specs.Tree.{Tree}
use Rattle.capn_walk.specs.Accepted.{root}
use Rattle.capn_show.specs.Descent.{named_by}
use Rattle.capn_show.specs.Emitted.{emitted_slot, plain_rule}
use Rattle.capn_show.specs.Outgoing.{outgoing}
use Rattle.capn_value.specs.Text.{show_text}
use Rattle.capn_show.proofs.shared.Ends.{unwritten}
use Rattle.capn_show.proofs.shared.BareTexts.{bare}
use Rattle.capn_show.proofs.shared.PlainTexts.{plain-shown}
use Rattle.capn_show.proofs.shared.Appended.{otherwise, otherwise-broken}
use Rattle.capn_show.proofs.message.show_message.Goals as goal

-- The rule of lines without marks gives the text `show_text v` for the value `v`.
plain-text : (m : List (List ℕ)) (v : Tree) → emitted_slot m (plain_rule false) 0 0 [] root v ≡ show_text v
plain-text m v =
    bare false (λ m at. 0) (λ path i. path) (λ byte path. []) (λ n path. refl) m 0 [] (named_by (target m root)) v
    ∙ plain-shown 0 v

pub show_slot-requires-clause-ready : goal.show_slot-requires-clause-ready
show_slot-requires-clause-ready g c =
    let m = g.S.Space.message c.args.space.now in
    let f = c.in_ok-survey.ensures.found in
    let low = (c.values.ensures.cheap m c.args.limits f.value f.is).1 in
    let depth = c.depth-depth.ensures.value in
    record { value = f.value; is = f.is.is; low = omega arith }

pub returns-in-Ok-clause-shown : goal.returns-in-Ok-clause-shown
returns-in-Ok-clause-shown g c =
    let f = c.in_ok-survey.ensures.found in
    let p = outgoing g.W.Write.contents c.args.writer.now c.args.text.now.items in
    let q = outgoing g.W.Write.contents c.show_slot.new.writer c.show_slot.new.text.items in
    let text = otherwise p q _ _ (plain-text (g.S.Space.message c.args.space.now) f.value)
    (c.in-Ok.ensures.shown f.value f.is.is) in
    record { value = f.value; is = f.is; text = text }

pub returns-in-Err-clause-refused : goal.returns-in-Err-clause-refused
returns-in-Err-clause-refused g c =
    let f = c.in_ok-survey.ensures.found in
    unwritten (g.S.Space.message c.args.space.now) c.args.limits show_text
    (outgoing g.W.Write.contents c.args.writer.now c.args.text.now.items) (outgoing g.W.Write.contents
    c.show_slot.new.writer c.show_slot.new.text.items) c.in-Err.broken c.fault_of.result c.fault_of.ensures (record {
      value = f.value;
      is = f.is;
      text = otherwise-broken (outgoing g.W.Write.contents c.args.writer.now c.args.text.now.items)
          (outgoing g.W.Write.contents c.show_slot.new.writer c.show_slot.new.text.items) c.in-Err.broken _ _
          (plain-text (g.S.Space.message c.args.space.now) f.value) (c.in-Err.ensures.cut f.value f.is.is);
    })
