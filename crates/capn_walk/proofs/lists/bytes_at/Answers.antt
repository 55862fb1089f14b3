use Rattle.std.proofs.Common.{◌∙◌, arith}
use Rattle.std.proofs.lemmas.Result.{IfOk-weaker}
use Rattle.capn_walk.proofs.shared.Elements.{length-read, are-bytes}
use Rattle.capn_walk.proofs.lists.bytes_at.Goals as goal

pub returns-clause-number : goal.returns-clause-number
returns-clause-number g c =
    let inside = c.requires.content.within in
    let m = c.args.space.now in
    IfOk-weaker c.into_items.result _ _
    (λ xs copied. length-read m c.args.at c.args.count xs (copied ∙ c.bytes.ensures.bytes) (omega arith))
    c.into_items.ensures

pub returns-clause-elements : goal.returns-clause-elements
returns-clause-elements g c =
    let inside = c.requires.content.within in
    let m = c.args.space.now in
    IfOk-weaker c.into_items.result _ _
    (λ xs copied. are-bytes m c.args.at c.args.count xs (copied ∙ c.bytes.ensures.bytes) (omega arith))
    c.into_items.ensures
