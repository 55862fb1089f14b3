use Rattle.std.proofs.lemmas.Result.{err_from_is_err_and}
use Rattle.capn_text.specs.inner.Tokens.{many, word_line_at}
use Rattle.capn_text.proofs.Loops.{goes_on, is_done}
use Rattle.capn_text.proofs.StopLaws.{passes_on, one_fails}
use Rattle.capn_text.proofs.LineStops.{word_local, word_full, word_fails}
use Rattle.capn_text.proofs.TreeStops.{words_by}
use Rattle.capn_text.proofs.leaves.words_at.Goals as goal

pub returns-in_err-word : goal.returns-in_err-word
returns-in_err-word g c =
    let p = err_from_is_err_and c.from_residual.result c.from_residual.ensures.1 in
    rw (p.1, p.2)
    (one_fails (words_by c.args.level) (word_local c.args.level) 0
    (word_full c.args.level) c.args.count c.loop.counter c.loop.rest.now c.args.text.now
    c.loop-test.true c.loop.invariant.passes_on c.in_err-word.field-0.0
    (word_fails c.args.level 0 c.in_err-word.field-0.0 c.loop.rest.now c.in_err-word.ensures))

pub loop-preserved : goal.loop-preserved
loop-preserved g c =
    let one = word_line_at c.args.level in
    record {
      so_far = rw c.in_ok-push.ensures.items
          (goes_on one c.loop.items.items c.args.count c.loop.counter c.loop.rest.now
          (many one c.args.count c.args.text.now) c.in_ok-word.word c.in_ok-word.after.now c.loop-test.true
          c.in_ok-word.ensures c.loop.invariant.so_far);
      passes_on = passes_on (words_by c.args.level) (word_local c.args.level) 0
          c.args.count c.loop.counter c.loop.rest.now c.args.text.now c.in_ok-word.word c.in_ok-word.after.now
          c.loop-test.true c.in_ok-word.ensures c.loop.invariant.passes_on;
    }

pub returns : goal.returns
returns g c =
    let one = word_line_at c.args.level in
    is_done one c.loop.items.items c.args.count c.loop.counter c.loop.rest.now
    (many one c.args.count c.args.text.now) c.loop-test.false c.loop.invariant.so_far
