use Rattle.std.proofs.Common.{ℕ, ◌++◌, List, length, take, drop, ap, sym, ◌∙◌, arith, append_assoc}
use Rattle.std.proofs.lemmas.List.{length-take-le, take-append-drop, drop-append-le}
use Rattle.capn_layout.specs.Layout.{canon}
use Rattle.capn_layout.proofs.shared.Room.{length-canon}
use Rattle.capn_layout.proofs.shared.Counted.{weight-cost, at-slot}
use Rattle.capn_layout.proofs.message_layout.surveyed_layout_into_counted.Goals as goal

pub lay_root-words-requires-clause-ready : goal.lay_root-words-requires-clause-ready
lay_root-words-requires-clause-ready g c =
    let r = c.requires.ready in
    let l = length-canon r.value r.sound in
    let f = c.requires.fits r.value r.is.at in
    let e = c.min-most.ensures in
    let t = length-take-le c.min-most.result c.args.out.now (omega arith) in
    let room = r.room in
    record { value = r.value; is = rw c.again.ensures (r.is); sound = r.sound; low = r.low; room = omega arith }

pub returns-clause-written : goal.returns-clause-written
returns-clause-written g c v is =
    let h = c.requires.ready.is in
    let r = c.requires.ready in
    let m = c.min-most.result in
    let out = c.args.out.now in
    let e = c.min-most.ensures in
    let t = length-take-le m out (omega arith) in
    let laid = c.lay_root-words.ensures.laid v
    (rw c.again.ensures (at-slot c.args.space.now 0 0 v h.message h.exists h.place is)) in
    let own = c.lay_root-words.ensures.laid r.value (rw c.again.ensures (r.is)) in
    let a = laid.0 in
    let b = own.0 in
    let l = length-canon r.value r.sound in
    let room = r.room in
    let f = c.requires.fits r.value h.at in
    let n = length (canon v) in (
      laid.0,
      ap (λ (x : List ℕ). x ++ drop m out) laid.1
          ∙ append_assoc (canon v) (drop n (take m out)) (drop m out)
          ∙ ap (λ (x : List ℕ). canon v ++ x)
          (sym (drop-append-le n (take m out) (drop m out) (omega arith)) ∙ ap (drop n) (take-append-drop m out)),
    )

pub returns-clause-reads : goal.returns-clause-reads
returns-clause-reads g c v is base =
    let h = c.requires.ready.is in
    let w = weight-cost c.args.space.now base v (record { segment = 0; word = 0 }) is in
    let r = c.lay_root-words.ensures.reads v
    (rw c.again.ensures (at-slot c.args.space.now 0 0 v h.message h.exists h.place is)) in
    omega arith
