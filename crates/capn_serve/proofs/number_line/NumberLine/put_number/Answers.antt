use Rattle.std.proofs.Common.{rules, ◌≤◌, length, arith, ap}
use Rattle.std.specs.Fmt.{decimal}
use Rattle.std.proofs.lemmas.Fmt.{length-decimal-le}
use Rattle.std.proofs.lemmas.List.{length-drop}
use Rattle.capn_serve.proofs.number_line.NumberLine.put_number.Goals as goal

pub write_digits-self-inside-requires : goal.write_digits-self-inside-requires
write_digits-self-inside-requires g c =
    let digits : length (decimal c.args.n) ≤ 20 = search (rules, length-decimal-le 20) in
    let rest = length-drop c.self.inside.start c.self.inside.bytes in
    let same = ap length c.self.view_is in
    (omega (arith, digits, rest, same, c.requires, c.self.invariant), omega (arith, c.self.invariant))

pub returns-clause-few : goal.returns-clause-few
returns-clause-few g c =
    let digits : length (decimal c.args.n) ≤ 20 = search (rules, length-decimal-le 20) in
    let w = c.write_digits-self-inside in
    let rest = length-drop c.self.inside.start c.self.inside.bytes in
    let now = length-drop w.result w.new.buf in
    let same = ap length c.self.view_is in
    omega (arith, digits, rest, now, same, w.ensures.start, c.requires, c.self.invariant)
