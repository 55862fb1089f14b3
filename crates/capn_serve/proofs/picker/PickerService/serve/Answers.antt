use Rattle.std.proofs.Common.{◌≡◌, ◌+◌, [], Bool, true, if◌then◌else◌, ap, sym, ◌∙◌}
use Rattle.capn_words.specs.Watched.{inner_of, has_failed}
use Rattle.capn_serve.specs.declared.picker.Picker.{Picker}
use Rattle.capn_serve.specs.Outgoing.{outgoing}
use Rattle.capn_serve.specs.inner.Picker.{is_first, left, refuses, serves}
use Rattle.capn_serve.proofs.shared.Adding.{does_add}
use Rattle.capn_serve.proofs.picker.PickerService.serve.Goals as goal

pub returns-then-writes : goal.returns-then-writes
returns-then-writes g c =
    let p = c.args.self.now in
    let q : Picker = record { rest = c.left-self.result } in
    let writes : true ≡ is_first p.rest.now (c.args.at.index + 1) =
    sym c.if-writes.true ∙ c.is_first-writes.ensures ∙ ap (is_first p.rest.now) c.number_of-number.ensures in
    does_add serves refuses p q c.args.at c.args.frame.now (g.S.Space.message c.args._message.now)
    (outgoing (g.W.Write.contents (inner_of c.args.writer.now)) c.args.text.now.items)
    (outgoing (g.W.Write.contents (inner_of c.add_bytes.new.writer)) c.add_bytes.new.text.items) c.args.frame.now (
      ap (λ (b : Bool). if b then c.args.frame.now else []) writes,
      c.left-self.ensures ∙ ap (left p.rest.now) c.number_of-number.ensures,
    ) (has_failed c.add_bytes.new.writer) c.add_bytes.result c.add_bytes.ensures
