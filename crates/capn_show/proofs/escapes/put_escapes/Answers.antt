use Rattle.std.proofs.Common.{◌≡◌, ◌∙◌, ◌+◌, ◌-◌, ◌<◌, ℕ, List, length, drop, take, ap, arith, length-drop}
use Rattle.std.specs.Prelude.{slice_index}
use Rattle.std.proofs.lemmas.List.{get_or-drop, take_all}
use Rattle.capn_show.specs.Outgoing.{outgoing}
use Rattle.capn_show.specs.JsonTexts.{json_escapes}
use Rattle.capn_show.proofs.Grown.{escapes-more, escapes-cut, escapes-all, bare-more, bare-cut}
use Rattle.capn_show.proofs.shared.Appended.{otherwise, passed}
use Rattle.capn_show.proofs.escapes.put_escapes.Goals as goal

abbrev left_of : List ℕ → ℕ → List ℕ
left_of xs done = take (length xs - done) (drop done xs)

left-is : (xs : List ℕ) (done : ℕ) → left_of xs done ≡ drop done xs
left-is xs done = let many = length-drop done xs in take_all (length xs - done) (drop done xs) (omega arith)

left-length : (xs : List ℕ) (done : ℕ) → length (left_of xs done) ≡ length xs - done
left-length xs done = ap length (left-is xs done) ∙ length-drop done xs

left-at : (xs : List ℕ) (done run : ℕ) → slice_index (left_of xs done) run ≡ slice_index xs (done + run)
left-at xs done run = ap (λ (l : List ℕ). slice_index l run) (left-is xs done) ∙ get_or-drop done xs run 0

pub returns-in_err-put-clause-cut : goal.returns-in_err-put-clause-cut
returns-in_err-put-clause-cut g c =
    let old = outgoing g.W.Write.contents c.args.writer.now c.args.text.now.items in
    let here = outgoing g.W.Write.contents c.loop-done.writer c.loop-done.text.items in
    let after-put = outgoing g.W.Write.contents c.put.new.writer c.put.new.text.items in
    let xs = c.args.bytes.now in
    let done = c.loop-done.done in
    passed c.from_residual.result c.in_err-put.field-0.0 _ c.from_residual.ensures.1 (bare-cut
    old here xs done after-put c.bare_run-run.result (left_of xs done) (left-is xs done) c.bare_run-run.ensures.bare _
    c.loop-done.invariant.rest c.in_err-put.ensures.cut)

pub returns-then-run-rest-clause-shown : goal.returns-then-run-rest-clause-shown
returns-then-run-rest-clause-shown g c =
    let old = outgoing g.W.Write.contents c.args.writer.now c.args.text.now.items in
    let here = outgoing g.W.Write.contents c.loop-done.writer c.loop-done.text.items in
    let after-put = outgoing g.W.Write.contents c.put.new.writer c.put.new.text.items in
    let xs = c.args.bytes.now in
    let done = c.loop-done.done in
    let run = c.bare_run-run.result in
    let low = c.loop-done.invariant.low in
    let many = left-length xs done in
    let end = c.if-run-rest.true in
    escapes-all old after-put xs (done + run) (omega arith) (bare-more
    old here xs done after-put run (left_of xs done) (left-is xs done) c.bare_run-run.ensures.bare
    c.loop-done.invariant.rest c.in_ok-put.ensures.shown)

pub returns-in_err-put_escaped-clause-cut : goal.returns-in_err-put_escaped-clause-cut
returns-in_err-put_escaped-clause-cut g c =
    let old = outgoing g.W.Write.contents c.args.writer.now c.args.text.now.items in
    let here = outgoing g.W.Write.contents c.loop-done.writer c.loop-done.text.items in
    let after-put = outgoing g.W.Write.contents c.put.new.writer c.put.new.text.items in
    let new = outgoing g.W.Write.contents c.put_escaped.new.writer c.put_escaped.new.text.items in
    let xs = c.args.bytes.now in
    let done = c.loop-done.done in
    let run = c.bare_run-run.result in
    let low = c.loop-done.invariant.low in
    let within = c.bare_run-run.ensures.within in
    let many = left-length xs done in
    let other = c.if-run-rest.false in
    let below : done + run < length xs = omega arith in
    passed c.from_residual-in_err-put_escaped.result c.in_err-put_escaped.field-0.0 _
    c.from_residual-in_err-put_escaped.ensures.1 (escapes-cut old after-put xs (done + run) new
    _ (slice_index (left_of xs done) run) below (left-at xs done run) (bare-more old here xs
    done after-put run (left_of xs done) (left-is xs done) c.bare_run-run.ensures.bare c.loop-done.invariant.rest
    c.in_ok-put.ensures.shown) c.in_err-put_escaped.ensures.cut)

pub loop-done-preserved : goal.loop-done-preserved
loop-done-preserved g c =
    let old = outgoing g.W.Write.contents c.args.writer.now c.args.text.now.items in
    let here = outgoing g.W.Write.contents c.loop-done.writer c.loop-done.text.items in
    let after-put = outgoing g.W.Write.contents c.put.new.writer c.put.new.text.items in
    let new = outgoing g.W.Write.contents c.put_escaped.new.writer c.put_escaped.new.text.items in
    let xs = c.args.bytes.now in
    let done = c.loop-done.done in
    let run = c.bare_run-run.result in
    let low = c.loop-done.invariant.low in
    let within = c.bare_run-run.ensures.within in
    let many = left-length xs done in
    let other = c.if-run-rest.false in
    let below : done + run < length xs = omega arith in
    let step : done + run + 1 ≡ done + (run + 1) = omega arith in
    record {
      low = omega arith;
      rest = otherwise old new _ _ (ap (λ (k : ℕ). json_escapes (take k xs)) step)
          (escapes-more old after-put xs (done + run) new (slice_index (left_of xs done) run)
          below
          (left-at xs done run)
          (bare-more old here xs done after-put run (left_of xs done) (left-is xs done)
          c.bare_run-run.ensures.bare
          c.loop-done.invariant.rest c.in_ok-put.ensures.shown)
          c.in_ok-put_escaped.ensures.shown);
    }
