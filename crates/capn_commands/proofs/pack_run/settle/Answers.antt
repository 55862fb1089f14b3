use Rattle.std.proofs.Common.{◌*◌, ◌/◌, ◌++◌, ◌<◌, ◌≤◌, ◌+◌, List, ℕ, ap, ◌∙◌, arith, length, length-take, slice_range}
use Rattle.std.proofs.Common.{take}
use Rattle.capn_pack.proofs.shared.GroupLemmas.{rest_is}
use Rattle.capn_commands.proofs.Settled.{settled_held}
use Rattle.capn_commands.proofs.pack_run.settle.Goals as goal

pub returns-clause-settled : goal.returns-clause-settled
returns-clause-settled g c =
    let held = c.args.held.now in
    let whole = length held / 8 * 8 in
    let cut = c.before_dense-cut.result in
    let part = c.in_ok-part.part in
    let settled = rw c.deref.ensures.value at c.in_ok-part.ensures in
    let near = c.before_dense-cut.ensures.near in
    let inside : cut ≤ whole = omega (arith, c.before_dense-cut.ensures.inside, length-take whole held) in
    let long : length held < length (take cut held) + 2048 =
    omega (arith, near, length-take cut held, length-take whole held) in
    let rest = c.in_ok-extend_from_slice.ensures.items
    ∙ ap (λ (l : List ℕ). l ++ slice_range held part.words (length held)) c.new-rest.ensures.items
    ∙ rest_is held part.words in
    let dense = c.before_dense-cut.ensures.dense in
    (settled_held held c.in-Ok.text.items c.truncate.new.self.items c.extend_from_slice.new.self.items cut whole
    part.text part.words dense.0 settled long c.truncate.ensures.items rest inside (omega arith) (omega arith)
    dense.1).0

pub returns-clause-short : goal.returns-clause-short
returns-clause-short g c =
    let held = c.args.held.now in
    let whole = length held / 8 * 8 in
    let cut = c.before_dense-cut.result in
    let part = c.in_ok-part.part in
    let settled = rw c.deref.ensures.value at c.in_ok-part.ensures in
    let near = c.before_dense-cut.ensures.near in
    let inside : cut ≤ whole = omega (arith, c.before_dense-cut.ensures.inside, length-take whole held) in
    let long : length held < length (take cut held) + 2048 =
    omega (arith, near, length-take cut held, length-take whole held) in
    let rest = c.in_ok-extend_from_slice.ensures.items
    ∙ ap (λ (l : List ℕ). l ++ slice_range held part.words (length held)) c.new-rest.ensures.items
    ∙ rest_is held part.words in
    let dense = c.before_dense-cut.ensures.dense in
    (settled_held held c.in-Ok.text.items c.truncate.new.self.items c.extend_from_slice.new.self.items cut whole
    part.text part.words dense.0 settled long c.truncate.ensures.items rest inside (omega arith) (omega arith)
    dense.1).1

pub returns-clause-open : goal.returns-clause-open
returns-clause-open g c =
    let held = c.args.held.now in
    let whole = length held / 8 * 8 in
    let cut = c.before_dense-cut.result in
    let part = c.in_ok-part.part in
    let settled = rw c.deref.ensures.value at c.in_ok-part.ensures in
    let near = c.before_dense-cut.ensures.near in
    let inside : cut ≤ whole = omega (arith, c.before_dense-cut.ensures.inside, length-take whole held) in
    let long : length held < length (take cut held) + 2048 =
    omega (arith, near, length-take cut held, length-take whole held) in
    let rest = c.in_ok-extend_from_slice.ensures.items
    ∙ ap (λ (l : List ℕ). l ++ slice_range held part.words (length held)) c.new-rest.ensures.items
    ∙ rest_is held part.words in
    let dense = c.before_dense-cut.ensures.dense in
    (settled_held held c.in-Ok.text.items c.truncate.new.self.items c.extend_from_slice.new.self.items cut whole
    part.text part.words dense.0 settled long c.truncate.ensures.items rest inside (omega arith) (omega arith)
    dense.1).2
