-- `frame` gets the limit on message words that the caller passed.
use Rattle.std.proofs.Common.{ℕ, ap, sym, subst, ◌∙◌}
use Rattle.capn_stream.specs.Frames.{StandsFirst}
use Rattle.capn_walk.specs.Limits.{Bounds}
use Rattle.capn_c.proofs.first_call.capn_first.Goals as goal

pub returns-in-Ok-clause-only : goal.returns-in-Ok-clause-only
returns-in-Ok-clause-only c l t m n h =
    let same = c.message_words.ensures.value ∙ ap (λ (b : Bounds). b.message_words) c.in-Ok.ensures.value in
    c.frame.ensures.only m n (subst (λ (most : ℕ). StandsFirst c.args.bytes.now most m n) (sym same) h)
