use Rattle.std.proofs.Common.{ℕ, List, sum, ap, sym, subst, ◌∙◌, arith}
use Rattle.capn_stream.specs.Cuts.{AreEnds, cut, ends_from}
use Rattle.capn_stream.specs.FrameRefusal.{entries}
use Rattle.capn_scratch.specs.inner.Ends.{numbers}
use Rattle.capn_scratch.specs.inner.Outcomes.{IsTold}
use Rattle.capn_scratch.proofs.EndWords.{ends_are, sizes_are}
use Rattle.capn_scratch.proofs.framed.of_cut.Goals as goal

pub put_ends-requires-clause-few : goal.put_ends-requires-clause-few
put_ends-requires-clause-few g c = omega (arith, c.requires.head.0.1, c.requires.count)

pub put_ends-requires-clause-small : goal.put_ends-requires-clause-small
put_ends-requires-clause-small g c =
    omega (
      arith,
      ap (λ (xs : List ℕ). sum (entries c.args.count xs)) c.rest.ensures,
      ap sum (sizes_are c.args.bytes.now c.args.count),
      c.requires.small,
    )

pub lend-message-requires-clause-ends : goal.lend-message-requires-clause-ends
lend-message-requires-clause-ends g c =
    let written = c.put_ends.ensures.ends
    ∙ ap (λ (xs : List ℕ). ends_from 0 (entries c.args.count xs)) c.rest.ensures in
    let same = ends_are c.args.bytes.now c.args.count _ c.requires.count written in
    subst (λ (xs : List ℕ). AreEnds xs c.args.words) (sym same) c.requires.ends

pub returns-clause-told : goal.returns-clause-told
returns-clause-told g c =
    let written = c.put_ends.ensures.ends
    ∙ ap (λ (xs : List ℕ). ends_from 0 (entries c.args.count xs)) c.rest.ensures in
    let same = ends_are c.args.bytes.now c.args.count _ c.requires.count written in
    let message = ap (λ p. p.0) c.lend-message.ensures.lent ∙ ap (λ (xs : List ℕ). cut 0 xs c.args.words) same in
    subst (λ (m : List (List ℕ)). IsTold m c.args.limits c.args.out.now c.write.new.out c.write.result) message
    c.write.ensures
