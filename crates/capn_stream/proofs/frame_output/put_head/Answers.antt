use Rattle.std.proofs.Common.{◌≡◌, ◌<◌, ◌-◌, ◌++◌, List, ℕ, length, Option, ap, sym, ◌∙◌, append_assoc, arith}
use Rattle.std.specs.Option.{unwrap_or}
use Rattle.std.specs.List.{flat_map}
use Rattle.std.proofs.Common.{take}
use Rattle.capn_words.specs.Message.{segment_at}
use Rattle.capn_stream.specs.Frames.{entry}
use Rattle.capn_stream.proofs.shared.Cutting.{words_of-some}
use Rattle.capn_stream.proofs.Sent.{sizes_more}
use Rattle.capn_stream.proofs.frame_output.put_head.Goals as goal

pub loop-segment-preserved : goal.loop-segment-preserved
loop-segment-preserved g c =
    let message = g.S.Space.message c.args.space.now in
    let here : c.loop-segment.segment < length message = omega arith in
    let size : c.unwrap_or.result ≡ length (segment_at message c.loop-segment.segment) =
    c.unwrap_or.ensures
    ∙ ap (λ (o : Option ℕ). unwrap_or o 0) (c.words.ensures ∙ words_of-some message c.loop-segment.segment here) in
    record {
      so_far = omega arith;
      text =
          c.put_entry-in-loop-segment.ensures
          ∙ ap (λ (xs : List ℕ). xs ++ entry c.unwrap_or.result) c.loop-segment.invariant.text
          ∙ append_assoc (entry (length message - 1))
          (flat_map (λ ws. entry (length ws)) (take c.loop-segment.segment message)) (entry c.unwrap_or.result)
          ∙ ap (λ (xs : List ℕ). entry (length message - 1) ++ xs)
          (sym (sizes_more message c.loop-segment.segment c.unwrap_or.result here size));
    }
