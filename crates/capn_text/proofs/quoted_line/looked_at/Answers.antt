use Rattle.std.proofs.Common.{◌≤◌, length, sym, arith}
use Rattle.std.proofs.lemmas.List.{length-take-le, take_all}
use Rattle.capn_text.proofs.quoted_line.looked_at.Goals as goal

pub slice_bounds-result-end : goal.slice_bounds-result-end
slice_bounds-result-end c =
    let long : 1024 ≤ length c.args.line.now = omega arith in
    let size = length-take-le 1024 c.args.line.now long in
    omega arith

pub returns-else-line-gt1024 : goal.returns-else-line-gt1024
returns-else-line-gt1024 c = sym (take_all 1024 c.args.line.now (omega arith))
