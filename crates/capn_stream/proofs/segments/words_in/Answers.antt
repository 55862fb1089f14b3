-- The proof of `words_in`, which counts one segment after the other.
use Rattle.std.proofs.Common.{◌-◌, ◌^◌, length, min, All, refl, ℕ, ap, sym, subst, ◌∙◌, arith}
use Rattle.std.specs.List.{sum_by}
use Rattle.std.proofs.lemmas.List.{take_all}
use Rattle.std.proofs.lemmas.List.Elements.{All-more}
use Rattle.capn_stream.specs.Segments.{IsWord}
use Rattle.capn_stream.proofs.Held.{AreHeld, Held, counted_more, none, total_of}
use Rattle.capn_stream.proofs.segments.words_in.Goals as goal

pub loop-segment-init : goal.loop-segment-init
loop-segment-init c = (refl, λ k d l. absurd (omega (arith, l)))

pub loop-segment-preserved : goal.loop-segment-preserved
loop-segment-preserved c = (
  counted_more c.args.segments.now c.loop-segment.segment-index none c.loop-segment-test.true c.loop-segment.words
      c.length_of.result c.saturating_add-words.result c.loop-segment.invariant.0 c.length_of.ensures.count
      c.saturating_add-words.ensures,
  All-more (λ segment. All IsWord segment.now) c.args.segments.now c.loop-segment.segment-index none
      c.loop-segment-test.true c.loop-segment.invariant.1 c.length_of.ensures.each,
)

pub returns-clause-count : goal.returns-clause-count
returns-clause-count c =
    c.loop-segment.invariant.0
    ∙ ap (λ (xs : Held). min (sum_by (λ segment. length segment.now) xs) (2 ^ 64 - 1))
    (take_all c.loop-segment.segment-index c.args.segments.now c.loop-segment-test.false)
    ∙ ap (λ (n : ℕ). min n (2 ^ 64 - 1)) (sym (total_of c.args.segments.now))

pub returns-clause-each : goal.returns-clause-each
returns-clause-each c =
    subst AreHeld (take_all c.loop-segment.segment-index c.args.segments.now c.loop-segment-test.false)
    c.loop-segment.invariant.1
