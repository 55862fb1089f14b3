use Rattle.std.proofs.Common.{◌≡◌, ◌<◌, ◌≤◌, ◌-◌, ◌++◌, ℕ, List, [], Bool, false, Ok, length, take, drop, arith}
use Rattle.std.proofs.Common.{◌∙◌, ◌+◌, ap, append_assoc, refl, sym, true}
use Rattle.std.proofs.lemmas.List.{take-append-drop}
use Rattle.std.proofs.Common.{subst, append-nil, length-drop, length-take, length-append}
use Rattle.std.proofs.Math.Seq.{take_all}
use Rattle.std.proofs.lemmas.Result.{err_from_is_err_and}
use Rattle.capn_stream.specs.StreamPieces.{Framing}
use Rattle.capn_serve.specs.Fold.{AreParts, Fold, fold_until}
use Rattle.capn_serve.specs.Outgoing.{Outgoing}
use Rattle.capn_serve.specs.ChunkRun.{IsListening, Serves, Tells}
use Rattle.capn_serve.proofs.More.{parts_longer, tells_none}
use Rattle.capn_serve.proofs.Next.{room_told, served_more, served_stop}
use Rattle.capn_serve.proofs.shared.Until.{not_both}
use Rattle.capn_serve.proofs.Holding.{holds_served}
use Rattle.capn_serve.proofs.stream.serve_bytes.Goals as goal

module _ {X : Type 0} (f : Fold X) (x : X) where
  served_none : (rest : List ℕ) (a : Outgoing) → Tells f x (rest ++ []) rest a a x
  served_none rest a = subst (λ (p : List ℕ). Tells f x p rest a a x) (sym (append-nil rest)) (tells_none f x rest a)

  -- Case: the loop has reached the end of the bytes.
  served_all : (y : X) (before after : Framing) (bytes : List ℕ) (at : ℕ) (a b : Outgoing) (failed : Bool)
      → length bytes ≤ at → Tells f x (before.rest ++ take at bytes) after.rest a b y
      → IsListening f after → failed ≡ false → Serves f x before bytes a b failed (Ok tt) after y
  served_all y before after bytes at a b failed end told listening fine = (
    after.rest,
    subst (λ (p : List ℕ). Tells f x (before.rest ++ p) after.rest a b y) (take_all at bytes end) told,
    λ going. (refl, listening),
    fine,
  )

  -- Case: the loop has reached a state `y` that is `done`.
  served_done : (y : X) (before after : Framing) (bytes : List ℕ) (at : ℕ) (a b : Outgoing) (failed : Bool)
      → f.done y ≡ true → Tells f x (before.rest ++ take at bytes) after.rest a b y → failed ≡ false
      → Serves f x before bytes a b failed (Ok tt) after y
  served_done y before after bytes at a b failed done (parts, are, adds) fine =
      let whole : (before.rest ++ take at bytes) ++ drop at bytes ≡ before.rest ++ bytes =
      append_assoc before.rest (take at bytes) (drop at bytes)
      ∙ ap (λ (p : List ℕ). before.rest ++ p) (take-append-drop at bytes) in
      let longer = parts_longer f x y (before.rest ++ take at bytes) after.rest (drop at bytes) parts are in (
        after.rest ++ drop at bytes,
        (
          parts,
          subst (λ (p : List ℕ). AreParts f x p parts (after.rest ++ drop at bytes) y) whole longer,
          adds,
        ),
        λ going. absurd (not_both (f.done y) done going),
        fine,
      )

pub loop-at-init : goal.loop-at-init
loop-at-init g c = record {
  fine = c.requires.ready.can.fine;
  listening = c.requires.ready.listening;
  going = c.requires.ready.going;
  within = omega arith;
  told = served_none (fold_until g.S.Service.serves g.S.Service.refuses g.S.Service.done c.args.most) c.args.run.now
      c.args.framer.now.rest _;
}

pub serve_some-requires : goal.serve_some-requires
serve_some-requires g c =
    let i = c.loop-at.invariant in
    let left = length-take (length c.args.bytes.now - c.loop-at.at) (drop c.loop-at.at c.args.bytes.now) in
    let size = length-drop c.loop-at.at c.args.bytes.now in
    let front = length-take c.loop-at.at c.args.bytes.now in
    let all = length-append c.args.framer.now.rest (take c.loop-at.at c.args.bytes.now) in
    let room = room_told g.S.Service.serves g.S.Service.refuses g.S.Service.done c.args.most c.args.run.now
    c.loop-at.run (c.args.framer.now.rest ++ take c.loop-at.at c.args.bytes.now) c.loop-at.framer.rest _ _
    (length c.args.bytes.now - c.loop-at.at) i.told
    (record {
      offset = omega (arith, c.requires.ready.can.room.offset, all, front, i.within);
      index = c.requires.ready.can.room.index;
    }) in
    record {
      ready = record {
        can = record {
          small = c.requires.ready.can.small;
          fine = i.fine;
          room = record { offset = omega (arith, room.offset, left, size); index = room.index };
        };
        going = i.going;
        listening = i.listening;
      };
    }

pub returns-in_err-at : goal.returns-in_err-at
returns-in_err-at g c =
    let f = fold_until g.S.Service.serves g.S.Service.refuses g.S.Service.done c.args.most in
    let told = c.loop-at.invariant.told in
    let p = err_from_is_err_and c.from_residual.result c.from_residual.ensures.1 in
    rw (p.1, p.2)
    (record {
      served = served_stop f c.args.run.now c.loop-at.run c.args.framer.now c.loop-at.framer c.args.bytes.now
          c.loop-at.at _ _ _ told _ c.in_err-at.field-0.0 c.in_err-at.ensures.served;
      came = holds_served f c.args.run.now c.loop-at.run c.serve_some.new.run c.args.framer.now c.loop-at.framer
          c.args.bytes.now c.serve_some.new.framer.rest c.loop-at.at _ _ c.in_err-at.field-0.0 told
          c.in_err-at.ensures.came;
    })

pub loop-at-preserved : goal.loop-at-preserved
loop-at-preserved g c =
    let next = c.in_ok-at.ensures.served in
    let i = c.loop-at.invariant in
    let rest = length-take (length c.args.bytes.now - c.loop-at.at) (drop c.loop-at.at c.args.bytes.now) in
    record {
      fine = next.2.2;
      listening = next.2.1;
      going = sym c.is_done.ensures ∙ c.if-is_done.false;
      within = omega (arith, next.0, rest, i.within, length-drop c.loop-at.at c.args.bytes.now);
      told = served_more (fold_until g.S.Service.serves g.S.Service.refuses g.S.Service.done c.args.most) c.args.run.now
          c.loop-at.run
          c.args.framer.now c.loop-at.framer c.args.bytes.now c.loop-at.at _ _ _ i.told c.serve_some.new.run
          c.in_ok-at.field-0 c.serve_some.new.framer.rest next.2.0;
    }

pub loop-at-smaller : goal.loop-at-smaller
loop-at-smaller g c =
    let next = c.in_ok-at.ensures.served in
    let rest = length-take (length c.args.bytes.now - c.loop-at.at) (drop c.loop-at.at c.args.bytes.now) in
    let size = length-drop c.loop-at.at c.args.bytes.now in
    let moved : 0 < c.in_ok-at.field-0 = next.1 (omega (arith, rest, size, c.loop-at-test.true)) in
    omega (arith, next.0, rest, size, moved, c.loop-at-test.true)

pub returns-after-loop-at : goal.returns-after-loop-at
returns-after-loop-at g c =
    let i = c.loop-at.invariant in
    record {
      served = served_all (fold_until g.S.Service.serves g.S.Service.refuses g.S.Service.done c.args.most)
          c.args.run.now c.loop-at.run c.args.framer.now c.loop-at.framer c.args.bytes.now c.loop-at.at _ _ _
          c.loop-at-test.false i.told i.listening i.fine;
      came = tt;
    }

pub returns-then-is_done : goal.returns-then-is_done
returns-then-is_done g c =
    let f = fold_until g.S.Service.serves g.S.Service.refuses g.S.Service.done c.args.most in
    let next = c.in_ok-at.ensures.served in
    record {
      served = served_done f c.args.run.now c.serve_some.new.run c.args.framer.now c.serve_some.new.framer
          c.args.bytes.now (c.loop-at.at + c.in_ok-at.field-0) _ _ _ (sym c.is_done.ensures ∙ c.if-is_done.true)
          (served_more f c.args.run.now c.loop-at.run c.args.framer.now c.loop-at.framer c.args.bytes.now c.loop-at.at
          _ _ _ c.loop-at.invariant.told c.serve_some.new.run c.in_ok-at.field-0 c.serve_some.new.framer.rest next.2.0)
          next.2.2;
      came = tt;
    }
