use Rattle.std.proofs.Common.{◌*◌, drop, List, ℕ, ap, sym, ◌∙◌, length-drop, arith}
use Rattle.capn_words.specs.Message.{word_number}
use Rattle.capn_words.proofs.shared.OneSegment.{seen_length, seen_word}
use Rattle.capn_stream.proofs.stored.Words.word.Goals as goal

pub word_of-requires : goal.word_of-requires
word_of-requires g c =
    let tail : List ℕ = drop c.self.inside.start c.self.inside.frame.items in
    let n = seen_length tail c.args.self.now c.self.view_is in
    let size = length-drop c.self.inside.start c.self.inside.frame.items in
    rw c.deref.ensures.value (omega (arith, n, size, c.requires, c.self.invariant.inside))

pub returns : goal.returns
returns g c =
    let tail : List ℕ = drop c.self.inside.start c.self.inside.frame.items in
    let w = seen_word tail c.args.self.now c.self.view_is c.args.index c.requires in
    c.word_of.ensures
    ∙ ap (λ (bs : List ℕ). word_number (drop (8 * c.args.index) (drop c.self.inside.start bs)))
    c.deref.ensures.value ∙ sym w
