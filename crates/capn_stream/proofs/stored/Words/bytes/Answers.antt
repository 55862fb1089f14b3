use Rattle.std.proofs.Common.{◌*◌, take, drop, List, ℕ, ap, sym, ◌∙◌, length-drop, arith}
use Rattle.capn_words.proofs.shared.OneSegment.{seen_length, seen_bytes}
use Rattle.capn_stream.proofs.stored.Words.bytes.Goals as goal

pub overflow_mul-index : goal.overflow_mul-index
overflow_mul-index g c =
    let tail : List ℕ = drop c.self.inside.start c.self.inside.frame.items in
    let n = seen_length tail c.args.self.now c.self.view_is in
    let size = length-drop c.self.inside.start c.self.inside.frame.items in
    let whole = rw c.deref.ensures.value at c.deref.type_inv in
    omega (arith, n, size, whole.0, c.requires)

pub part-requires : goal.part-requires
part-requires g c =
    let tail : List ℕ = drop c.self.inside.start c.self.inside.frame.items in
    let n = seen_length tail c.args.self.now c.self.view_is in
    let size = length-drop c.self.inside.start c.self.inside.frame.items in
    rw c.deref.ensures.value (omega (arith, n, size, c.requires, c.self.invariant.inside))

pub returns : goal.returns
returns g c =
    let tail : List ℕ = drop c.self.inside.start c.self.inside.frame.items in
    let b = seen_bytes tail c.args.self.now c.self.view_is c.self.invariant.below c.self.invariant.whole in
    c.part.ensures
    ∙ ap (λ (bs : List ℕ). take c.args.len (drop (8 * c.args.index) (drop c.self.inside.start bs)))
    c.deref.ensures.value
    ∙ ap (λ (bs : List ℕ). take c.args.len (drop (8 * c.args.index) bs)) (sym b)
