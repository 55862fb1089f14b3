use Rattle.std.specs.Prelude.{⊤}
use Rattle.capn_serve.proofs.shared.Appending.{does_flush}
use Rattle.test_streams.proofs.places.PlacesService.serve.Goals as goal

pub returns-in-Ok : goal.returns-in-Ok
returns-in-Ok g c =
    does_flush (λ s at frame message text t. ⊤) (λ s at frame message r. ⊥) c.args.self.now c.args.self.now c.args.at
    c.args.frame.now (g.S.Space.message c.args._message.now) _ c.args.text.now.items
    c.extend_from_slice.new.self.items _ c.flush_long.new.text.items _ c.flush_long.result
    (_, tt, c.in-Ok.ensures.items) c.flush_long.ensures
