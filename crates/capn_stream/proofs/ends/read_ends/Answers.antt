-- The proof of `read_ends`: the sum of the first sizes is at most the sum of all sizes.
use Rattle.std.proofs.Common.{◌≡◌, ℕ, ◌+◌, ◌-◌, sum, ap, arith}
use Rattle.capn_stream.specs.FrameRefusal.{entries}
use Rattle.capn_stream.proofs.shared.Entries.{sum-entries_le}
use Rattle.capn_stream.proofs.ends.read_ends.Goals as goal

pub few_ends-requires-2-clause-room : goal.few_ends-requires-2-clause-room
few_ends-requires-2-clause-room g c =
    let left : ℕ = c.args.count - c.min-few.result in
    let e : c.min-few.result + left ≡ c.args.count = omega (arith, c.min-few.ensures) in
    let whole = ap (λ (n : ℕ). sum (entries n c.args.sizes.now)) e in
    omega (arith, sum-entries_le c.min-few.result left c.args.sizes.now, whole, c.requires.room)
