use Rattle.std.proofs.lemmas.Result.{err_from_is_err_and}
use Rattle.capn_text.proofs.PartStops.{bits_fail_here, bytes_fail_here, pairs_fail, quads_fail, octs_fail}
use Rattle.capn_text.proofs.leaves.leaf_at.Goals as goal

pub returns-in_err-xs-in-Bits : goal.returns-in_err-xs-in-Bits
returns-in_err-xs-in-Bits g c =
    let p = err_from_is_err_and c.from_residual.result c.from_residual.ensures.1 in
    rw (p.1, p.2, c.in-Bits.is)
    (bits_fail_here c.args.level c.args.count c.in_err-xs-in-Bits.field-0.0 c.args.text.now
    c.in_err-xs-in-Bits.ensures)

pub returns-in_err-xs-in-Bytes : goal.returns-in_err-xs-in-Bytes
returns-in_err-xs-in-Bytes g c =
    let p = err_from_is_err_and c.from_residual-in_err-xs-in-Bytes.result
    c.from_residual-in_err-xs-in-Bytes.ensures.1 in
    rw (p.1, p.2, c.in-Bytes.is)
    (bytes_fail_here c.args.level c.args.count c.in_err-xs-in-Bytes.field-0.0 c.args.text.now
    c.in_err-xs-in-Bytes.ensures)

pub returns-in_err-xs-in-Pairs : goal.returns-in_err-xs-in-Pairs
returns-in_err-xs-in-Pairs g c =
    let p = err_from_is_err_and c.from_residual-in_err-xs-in-Pairs.result
    c.from_residual-in_err-xs-in-Pairs.ensures.1 in
    rw (p.1, p.2, c.in-Pairs.is)
    (pairs_fail c.args.level c.args.count c.in_err-xs-in-Pairs.field-0.0 c.args.text.now
    c.in_err-xs-in-Pairs.ensures)

pub returns-in_err-xs-in-Quads : goal.returns-in_err-xs-in-Quads
returns-in_err-xs-in-Quads g c =
    let p = err_from_is_err_and c.from_residual-in_err-xs-in-Quads.result
    c.from_residual-in_err-xs-in-Quads.ensures.1 in
    rw (p.1, p.2, c.in-Quads.is)
    (quads_fail c.args.level c.args.count c.in_err-xs-in-Quads.field-0.0 c.args.text.now
    c.in_err-xs-in-Quads.ensures)

pub returns-in_err-xs-in-Octs : goal.returns-in_err-xs-in-Octs
returns-in_err-xs-in-Octs g c =
    let p = err_from_is_err_and c.from_residual-in_err-xs-in-Octs.result c.from_residual-in_err-xs-in-Octs.ensures.1 in
    rw (p.1, p.2, c.in-Octs.is)
    (octs_fail c.args.level c.args.count c.in_err-xs-in-Octs.field-0.0 c.args.text.now
    c.in_err-xs-in-Octs.ensures)
