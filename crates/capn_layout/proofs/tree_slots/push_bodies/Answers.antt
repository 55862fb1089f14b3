use Rattle.std.proofs.Common.{ℕ, ◌+◌, ◌++◌, List, take, replicate, drop, ap, sym, ◌∙◌, arith, append_assoc, append-nil}
use Rattle.std.proofs.lemmas.List.{length-take-le, length-replicate}
use Rattle.std.proofs.Common.{length-append}
use Rattle.capn_words.specs.Message.{words_in}
use Rattle.capn_value.specs.Tree.{Bodies}
use Rattle.capn_value.specs.TreeOf.{rows_of}
use Rattle.capn_layout.specs.LayoutSteps.{zero_rows}
use Rattle.capn_layout.proofs.writer.Drafted.{kept-then, appends-length}
use Rattle.capn_layout.proofs.writer.TreeItems.{next-zeros, next-wide, next-count, past-rows}
use Rattle.capn_layout.proofs.tree_slots.push_bodies.Goals as goal

pub push_body-end-requires-clause-wide : goal.push_body-end-requires-clause-wide
push_body-end-requires-clause-wide g c =
    (next-wide c.args.bodies.now c.loop-row.row-index c.row-item.result c.loop-row-test.true c.row-item.is c.args.words
    c.args.slots c.loop-row.invariant.wide).0

pub push_body-end-requires-clause-room : goal.push_body-end-requires-clause-room
push_body-end-requires-clause-room g c =
    let e = next-count c.args.bodies.now c.loop-row.row-index c.row-item.result c.loop-row-test.true c.row-item.is
    c.args.words c.args.slots in
    let r = c.loop-row.invariant.room in
    omega arith

pub loop-row-preserved : goal.loop-row-preserved
loop-row-preserved g c =
    let v = c.loop-row.invariant in
    let p = words_in c.loop-row.end c.loop-row.out in
    let row = c.row-item.result in
    let own = take c.args.words row.words ++ replicate c.args.slots 0 in
    let rest = zero_rows c.args.words c.args.slots (rows_of (drop (c.loop-row.row-index + 1) c.args.bodies.now)) in
    let a = c.push_body-end.ensures in
    let wide = next-wide c.args.bodies.now c.loop-row.row-index row c.loop-row-test.true c.row-item.is c.args.words
    c.args.slots v.wide in
    let e = next-count c.args.bodies.now c.loop-row.row-index row c.loop-row-test.true c.row-item.is c.args.words
    c.args.slots in
    let r = v.room in
    let n = appends-length c.loop-row.end c.push_body-end.result own c.loop-row.out c.push_body-end.new.out a in
    let l = length-append (take c.args.words row.words) (replicate c.args.slots 0) in
    let t = length-take-le c.args.words row.words wide.0 in
    let z = length-replicate {A = ℕ} c.args.slots 0 in
    let s = v.since in
    let k = a.kept.same in
    record {
      rest =
          ap (λ (x : List ℕ). x ++ rest) a.words
          ∙ append_assoc p own rest
          ∙ ap (λ (x : List ℕ). p ++ x)
          (sym (next-zeros c.args.bodies.now c.loop-row.row-index row c.loop-row-test.true c.row-item.is c.args.words
          c.args.slots))
          ∙ v.rest;
      wide = wide.1;
      room = omega arith;
      since = omega arith;
      same = kept-then c.loop-row.end c.push_body-end.result c.args.out.now c.loop-row.out c.push_body-end.new.out
          (omega arith) v.same a.kept;
    }

pub returns : goal.returns
returns g c =
    let e = past-rows c.args.bodies.now c.loop-row.row-index c.loop-row-test.false in
    record {
      words =
          sym (append-nil (words_in c.loop-row.end c.loop-row.out))
          ∙ ap (λ (x : Bodies). words_in c.loop-row.end c.loop-row.out ++ zero_rows c.args.words c.args.slots x) (sym e)
          ∙ c.loop-row.invariant.rest;
      kept = c.loop-row.invariant.same;
    }
