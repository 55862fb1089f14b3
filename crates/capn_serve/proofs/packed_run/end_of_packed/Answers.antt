use Rattle.std.proofs.Common.{◌≡◌, ◌≢◌, inl, inr, ℕ, List, [], ◌∷◌, true, false, Result, Ok, Err, refl, ap}
use Rattle.capn_pack.specs.declared.fault.UnpackFault.{UnpackFault}
use Rattle.capn_pack.specs.declared.fault.UnpackFault.TheVariants as cuts
use Rattle.capn_stream.specs.StreamPieces.{IsUnfinished}
use Rattle.capn_stream.specs.declared.fault.FrameFault.TheVariants as frames
use Rattle.capn_canon.specs.declared.refusal.Refusal.TheVariants as refusals
use Rattle.capn_serve.specs.StreamRun.{EndsInput}
use Rattle.capn_serve.specs.PackedChunkRun.{EndsPacked}
use Rattle.capn_serve.specs.declared.position.Position.{Position}
use Rattle.capn_serve.specs.declared.fault.RunFault.{RunFault}
use Rattle.capn_serve.specs.declared.fault.RunFault.TheVariants as faults
use Rattle.capn_serve.proofs.packed_run.end_of_packed.Goals as goal

abbrev Ending : Type 0
Ending = Result (Unit {0}) RunFault

abbrev stopped : RunFault → Ending
stopped fault = Err fault

abbrev refused : Position → UnpackFault → Ending
refused at fault = Err (faults.Refused at (refusals.Packed fault))

-- Case: no group has begun. The run ends as `EndsInput` states.
whole : (at : Position) (group rest : List ℕ) (offset most : ℕ) (r : Ending) → group ≡ [] → EndsInput at rest most r
    → EndsPacked at group offset rest most r
whole at [] rest offset most (Ok u) none ends = (frames.Empty, (λ e. cc), ends, refl, λ e. cc)
whole at [] rest offset most (Err fault) none (frame, is) =
    (frames.Cut, (λ e. cc), frame, ap stopped is, λ e. cc)
whole at (b ∷ group) rest offset most r none ends = absurd (cc)

cut : (at : Position) (group rest : List ℕ) (offset most : ℕ) (fault : UnpackFault) → (group ≡ [] → false ≡ true)
    → (group ≢ [] → fault ≡ cuts.Cut offset) → IsUnfinished rest most
    → EndsPacked at group offset rest most (refused at fault)
cut at [] rest offset most fault whole is unfinished = absurd (let bad = whole refl in cc)
cut at (b ∷ group) rest offset most fault whole is (inl none) =
    (frames.Empty, (λ e. cc), none, ap (refused at) (is (λ e. cc)), λ e. cc)
cut at (b ∷ group) rest offset most fault whole is (inr part) =
    (frames.Cut, (λ e. cc), part, ap (refused at) (is (λ e. cc)), λ e. cc)

pub returns-in-Ok-clause-ends : goal.returns-in-Ok-clause-ends
returns-in-Ok-clause-ends g c =
    whole c.args.at c.args.packed.now.unpacker.rest c.args.packed.now.framer.rest c.args.packed.now.unpacker.offset
    c.args.packed.now.framer.most c.end_of_input.result c.in-Ok.ensures.ok.0 c.end_of_input.ensures

pub returns-in-Err-clause-ends : goal.returns-in-Err-clause-ends
returns-in-Err-clause-ends g c =
    cut c.args.at c.args.packed.now.unpacker.rest c.args.packed.now.framer.rest c.args.packed.now.unpacker.offset
    c.args.packed.now.framer.most c.in-Err.fault (c.in-Err.ensures.whole c.requires.held)
    (λ full. let is = (c.in-Err.ensures.cut c.requires.held full).0 in cc) c.requires.part
