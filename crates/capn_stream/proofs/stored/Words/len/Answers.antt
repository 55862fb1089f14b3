use Rattle.std.proofs.Common.{◌/◌, length, drop, List, ℕ, ap, sym, ◌∙◌}
use Rattle.capn_words.proofs.shared.OneSegment.{seen_length}
use Rattle.capn_stream.proofs.stored.Words.len.Goals as goal

pub count_of-requires : goal.count_of-requires
count_of-requires g c = rw c.deref.ensures.value c.self.invariant.inside

pub returns : goal.returns
returns g c =
    let n = seen_length (drop c.self.inside.start c.self.inside.frame.items) c.args.self.now c.self.view_is in
    c.count_of.ensures ∙ ap (λ (bs : List ℕ). length (drop c.self.inside.start bs) / 8) c.deref.ensures.value ∙ sym n
