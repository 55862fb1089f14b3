use Rattle.std.proofs.Common.{refl}
use Rattle.std.proofs.Output.{has_written_append, has_written_of_eq}
use Rattle.capn_diagnostics.proofs.PathParts.{path-first, path-next, path-end}
use Rattle.capn_diagnostics.proofs.path_text.PathTextDisplay.fmt.Goals as goal

pub loop-i-init : goal.loop-i-init
loop-i-init g c = λ plain. (
  _,
  c.in_ok-write.ensures.writes plain refl,
  path-first c.args.self.now.0.now c.if-path-eq0.false,
)

pub loop-i-preserved : goal.loop-i-preserved
loop-i-preserved g c = λ plain.
    let so_far = c.loop-i.invariant plain in
    let more = c.in_ok-write-2.ensures.writes so_far.1.plain refl in (
      _,
      has_written_append _ _ _ _ _ _ so_far.1 more,
      path-next so_far.0 _ c.args.self.now.0.now c.loop-i.i c.loop-i-test.true refl so_far.2,
    )

pub returns-clause-writes : goal.returns-clause-writes
returns-clause-writes g c = λ plain ok.
    let so_far = c.loop-i.invariant plain in
    has_written_of_eq _ _ _ _ _ (path-end so_far.0 c.args.self.now.0.now c.loop-i.i c.loop-i-test.false so_far.2)
    so_far.1
