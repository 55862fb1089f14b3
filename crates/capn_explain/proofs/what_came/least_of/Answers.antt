use Rattle.std.proofs.Common.{ℕ, ◌+◌, ◌-◌, ◌*◌, ◌/◌, ◌^◌, min, ap, ◌∙◌}
use Rattle.capn_stream.specs.FrameRefusal.{head_length}
use Rattle.capn_explain.proofs.AtLeast.{least_of_frame}
use Rattle.capn_explain.proofs.Zeros.{head-words, least-words}
use Rattle.capn_explain.proofs.what_came.least_of.Goals as goal

pub returns-clause-is : goal.returns-clause-is
returns-clause-is c =
    let table = 8 * (c.segments_of.result / 2 + 1) in
    c.saturating_add.ensures
    ∙ ap (λ (n : ℕ). min (n + 8 * (c.segments_of.result / 2 + 1)) (2 ^ 64 - 1)) c.saturating_mul.ensures
    ∙ least-words c.args.rest.now c.words_of.result table c.words_of.ensures
    (head-words c.segments_of.result ∙ ap head_length c.segments_of.ensures.is)

pub returns-clause-least : goal.returns-clause-least
returns-clause-least c = least_of_frame c.args.rest.now c.saturating_add.result (returns-clause-is c)
