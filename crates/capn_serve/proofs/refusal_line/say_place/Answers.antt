use Rattle.std.proofs.Common.{◌∙◌, ap, sym}
use Rattle.std.specs.Fmt.{decimal}
use Rattle.capn_serve.proofs.shared.Said.{both}
use Rattle.capn_serve.proofs.refusal_line.say_place.Goals as goal

pub returns : goal.returns
returns g c =
    let digits = c.as_bytes.ensures.value ∙ c.format.ensures.text ∙ ap decimal c.number_of.ensures in
    rw (sym digits) (both _ _ _ _ _ c.put.ensures c.put_named.ensures)
