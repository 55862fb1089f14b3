use Rattle.std.proofs.Common.{◌≤◌, ◌∙◌, ℕ, List, sym, subst, arith}
use Rattle.std.proofs.Math.Seq.{take_all}
use Rattle.std.proofs.lemmas.Result.{err_from_is_err_and}
use Rattle.capn_words.specs.Watched.{inner_of}
use Rattle.capn_serve.specs.Fold.{fold_until}
use Rattle.capn_serve.specs.Outgoing.{outgoing}
use Rattle.capn_serve.specs.PackedChunkRun.{TellsPacked, pending}
use Rattle.capn_serve.proofs.PackedMore.{packed_none, packed_room, reach_all, slice_more, slice_reach, slice_stop}
use Rattle.capn_serve.proofs.shared.Until.{not_both}
use Rattle.capn_serve.proofs.Holding.{packed_holds_slice}
use Rattle.capn_serve.proofs.packed_run.serve_slices.Goals as goal

pub loop-at-init : goal.loop-at-init
loop-at-init g c = record {
  fine = c.requires.ready.can.fine;
  held = c.requires.unpacking.good;
  listening = c.requires.ready.listening;
  room = c.requires.ready.can.room;
  going = c.requires.ready.going;
  within = omega arith;
  told = packed_none (fold_until g.S.Service.serves g.S.Service.refuses g.S.Service.done c.args.most) c.args.run.now
      (pending c.args.packed.now.unpacker c.args.packed.now.framer c.args.packed.now.left) _ c.requires.unpacking;
}

pub returns-in_err-serve_slice : goal.returns-in_err-serve_slice
returns-in_err-serve_slice g c =
    let f = fold_until g.S.Service.serves g.S.Service.refuses g.S.Service.done c.args.most in
    let before = pending c.args.packed.now.unpacker c.args.packed.now.framer c.args.packed.now.left in
    let here = pending c.loop-at.packed.unpacker c.loop-at.packed.framer c.loop-at.packed.left in
    let i = c.loop-at.invariant in
    let forward : c.loop-at.at ≤ c.min-end.result = omega (arith, c.min-end.ensures, i.within) in
    let p = err_from_is_err_and c.from_residual.result c.from_residual.ensures.1 in
    rw (p.1, p.2)
    (record {
      served = slice_stop f c.args.run.now c.loop-at.run before here c.args.bytes.now c.loop-at.at c.min-end.result
          forward _ _ i.told _ _ c.in_err-serve_slice.field-0.0 c.in_err-serve_slice.ensures.served;
      came = packed_holds_slice f c.args.run.now c.loop-at.run c.serve_slice.new.run before here c.args.bytes.now
          c.serve_slice.new.packed.framer.rest c.loop-at.at c.min-end.result _ _ c.in_err-serve_slice.field-0.0 forward
          i.told c.in_err-serve_slice.ensures.came;
    })

pub loop-at-preserved : goal.loop-at-preserved
loop-at-preserved g c =
    let i = c.loop-at.invariant in
    let next = c.in_ok-serve_slice.ensures.served in
    let on = sym c.is_done.ensures ∙ c.if-is_done.false in
    let kept = next.1 on in
    let packed = c.serve_slice.new.packed in
    record {
      fine = next.2;
      held = kept.0.good;
      listening = kept.1;
      going = on;
      room = packed_room g.S.Service.serves g.S.Service.refuses g.S.Service.done c.args.most c.loop-at.run
          c.serve_slice.new.run (pending c.loop-at.packed.unpacker c.loop-at.packed.framer c.loop-at.packed.left)
          (pending packed.unpacker packed.framer packed.left) _ _ _ kept.0 i.room;
      within = omega (arith, c.min-end.ensures);
      told = slice_more (fold_until g.S.Service.serves g.S.Service.refuses g.S.Service.done c.args.most) c.args.run.now
          c.loop-at.run (pending c.args.packed.now.unpacker c.args.packed.now.framer c.args.packed.now.left)
          (pending c.loop-at.packed.unpacker c.loop-at.packed.framer c.loop-at.packed.left) c.args.bytes.now
          c.loop-at.at c.min-end.result (omega (arith, c.min-end.ensures, i.within)) _ _ i.told c.serve_slice.new.run
          (pending packed.unpacker packed.framer packed.left) _ kept.0;
    }

pub serve_slice-requires-clause-ready : goal.serve_slice-requires-clause-ready
serve_slice-requires-clause-ready g c =
    let i = c.loop-at.invariant in
    record {
      can = record { small = c.requires.ready.can.small; fine = i.fine; room = i.room };
      going = i.going;
      listening = i.listening;
    }

pub serve_slice-requires-clause-held : goal.serve_slice-requires-clause-held
serve_slice-requires-clause-held g c = c.loop-at.invariant.held

pub returns-after-loop-at : goal.returns-after-loop-at
returns-after-loop-at g c =
    let f = fold_until g.S.Service.serves g.S.Service.refuses g.S.Service.done c.args.most in
    let before = pending c.args.packed.now.unpacker c.args.packed.now.framer c.args.packed.now.left in
    let here = pending c.loop-at.packed.unpacker c.loop-at.packed.framer c.loop-at.packed.left in
    let i = c.loop-at.invariant in
    let all = take_all c.loop-at.at c.args.bytes.now c.loop-at-test.false in
    let told = subst (λ (l : List ℕ). TellsPacked f c.args.run.now before l here
    (outgoing (g.W.Write.contents (inner_of c.args.writer.now)) c.args.text.now.items)
    (outgoing (g.W.Write.contents (inner_of c.loop-at.writer)) c.loop-at.text.items) c.loop-at.run) all i.told in
    record {
      served = (
        reach_all f c.args.run.now before c.loop-at.run c.args.bytes.now here _ _ told,
        λ going. (told, i.listening),
        i.fine,
      );
      came = tt;
    }

-- Case: the service is finished.
pub returns-then-is_done : goal.returns-then-is_done
returns-then-is_done g c =
    let f = fold_until g.S.Service.serves g.S.Service.refuses g.S.Service.done c.args.most in
    let before = pending c.args.packed.now.unpacker c.args.packed.now.framer c.args.packed.now.left in
    let here = pending c.loop-at.packed.unpacker c.loop-at.packed.framer c.loop-at.packed.left in
    let i = c.loop-at.invariant in
    let next = c.in_ok-serve_slice.ensures.served in
    record {
      served = (
        slice_reach f c.args.run.now c.loop-at.run before here c.args.bytes.now c.loop-at.at c.min-end.result
            (omega (arith, c.min-end.ensures, i.within)) _ _ i.told c.serve_slice.new.run _ next.0,
        λ going. absurd (not_both _ (sym c.is_done.ensures ∙ c.if-is_done.true) going),
        next.2,
      );
      came = tt;
    }
