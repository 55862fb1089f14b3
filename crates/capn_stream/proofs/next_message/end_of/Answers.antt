use Rattle.std.proofs.Common.{inl, inr}
use Rattle.capn_stream.proofs.shared.Wanting.{unfinished_frame}
use Rattle.capn_stream.proofs.next_message.end_of.Goals as goal

pub returns-in-Ok : goal.returns-in-Ok
returns-in-Ok g c =
    elim c.in-Ok.ensures.1 [
      | inl none ↦ none
      | inr frame ↦
          absurd (unfinished_frame c.args.framer.rest c.args.framer.most c.requires.part frame)
    ]
