-- The proof of `rest_ends`: the ends of the segments from number `first` on.
use Rattle.std.proofs.Common.{◌≡◌, ℕ, ◌+◌, ◌-◌, ◌*◌, ◌≤◌, List, ◌++◌, length, take, drop, sum, ap, sym, ◌∙◌, arith}
use Rattle.std.proofs.lemmas.List.{take_rest}
use Rattle.std.proofs.lemmas.List.Sums.{sum_by-append}
use Rattle.std.proofs.lemmas.Result.{IfOk-weaker}
use Rattle.capn_stream.specs.Cuts.{ends_from}
use Rattle.capn_stream.specs.FrameRefusal.{entries}
use Rattle.capn_stream.proofs.shared.Entries.{entries_then, length-entries}
use Rattle.capn_stream.proofs.shared.Ends.{ends_from-append, length-ends_from}
use Rattle.capn_stream.proofs.ends.rest_ends.Goals as goal

-- the sizes of the segments from number `first` on
abbrev left_of : (first count : ℕ) → List ℕ → List ℕ
left_of first count sizes = entries (count - first) (take (length sizes - 4 * first) (drop (4 * first) sizes))

-- the sizes of all segments are the first `first` sizes and then the sizes of the other segments
all_of : (first count : ℕ) (sizes : List ℕ) → first ≤ count
    → entries count sizes ≡ entries first sizes ++ left_of first count sizes
all_of first count sizes l =
    let e : count ≡ first + (count - first) = omega arith in
    ap (λ (n : ℕ). entries n sizes) e ∙ entries_then first (count - first) sizes
    ∙ ap (λ (xs : List ℕ). entries first sizes ++ entries (count - first) xs) (sym (take_rest sizes (4 * first)))

sums_of : (first count : ℕ) (sizes : List ℕ) → first ≤ count
    → sum (entries count sizes) ≡ sum (entries first sizes) + sum (left_of first count sizes)
sums_of first count sizes l =
    ap sum (all_of first count sizes l) ∙ sum_by-append (λ x. x) (entries first sizes) (left_of first count sizes)

pub overflow_cast-from : goal.overflow_cast-from
overflow_cast-from g c =
    omega (
      arith,
      c.total_of-from.ensures,
      sums_of c.args.first c.args.count c.args.sizes.now c.requires.front,
      c.requires.room,
    )

pub ends_of-requires-clause-room : goal.ends_of-requires-clause-room
ends_of-requires-clause-room g c =
    omega (
      arith,
      c.total_of-from.ensures,
      sums_of c.args.first c.args.count c.args.sizes.now c.requires.front,
      c.requires.room,
    )

pub returns-clause-ends : goal.returns-clause-ends
returns-clause-ends g c =
    let all = all_of c.args.first c.args.count c.args.sizes.now c.requires.front in
    let more = ends_from-append 0 (entries c.args.first c.args.sizes.now)
    (left_of c.args.first c.args.count c.args.sizes.now) in
    let from : 0 + sum (entries c.args.first c.args.sizes.now) ≡ c.total_of-from.result =
    omega (arith, c.total_of-from.ensures) in
    IfOk-weaker c.ends_of.result _ _
    (λ v h. ap (λ (xs : List ℕ). ends_from 0 (entries c.args.first c.args.sizes.now) ++ xs) h
    ∙ ap (λ (n : ℕ). ends_from 0 (entries c.args.first c.args.sizes.now)
    ++ ends_from n (left_of c.args.first c.args.count c.args.sizes.now)) (sym from)
    ∙ sym more ∙ ap (λ (xs : List ℕ). ends_from 0 xs) (sym all)) c.ends_of.ensures.ends

pub returns-clause-number : goal.returns-clause-number
returns-clause-number g c =
    IfOk-weaker c.ends_of.result _ _
    (λ v h. ap length h
    ∙ length-ends_from c.total_of-from.result (left_of c.args.first c.args.count c.args.sizes.now)
    ∙ length-entries (c.args.count - c.args.first)
    (take (length c.args.sizes.now - 4 * c.args.first) (drop (4 * c.args.first) c.args.sizes.now)))
    c.ends_of.ensures.ends
