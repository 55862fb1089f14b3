use Rattle.std.proofs.Common.{rules, ◌≡◌, ◌≤◌, [], None, refl, arith}
use Rattle.capn_words.specs.declared.pointer.Pointer.TheVariants.{Many}
use Rattle.capn_target.specs.Shapes.{AreNumbers}
use Rattle.capn_walk.specs.inner.SlotsLeft.{owed, places_of, Lies}
use Rattle.capn_walk.specs.inner.Reach.{reach_of}
use Rattle.capn_target.proofs.shared.NeverNull.{there}
use Rattle.capn_walk.proofs.DeepVisits.{deep-row, deep-popped, deep-null, deep-passed, deep-entered, deep-end}
use Rattle.capn_walk.proofs.OwedSlots.{done, none-owed, not-done}
use Rattle.capn_walk.proofs.Near.{near-struct, near-list}
use Rattle.capn_walk.proofs.Stepped.{capless-near, numbers-none}
use Rattle.capn_walk.proofs.UnderWay.{popped, entered, passed, refused-here, as-many, fewer-entered, fewer-passed}
use Rattle.capn_walk.proofs.UnderWay.{passed-null, fewer-null, null-target, next-row, fewer-rows, IsKept, kept, dropped}
use Rattle.capn_walk.proofs.UnderWay.{no_frame, option_or-none, length-kept, length-popped}
use Rattle.capn_walk.proofs.survey_loop.survey_in_room.Goals.{then-not-is_done+in-Ok-push, else-not-is_done}
use Rattle.capn_walk.proofs.survey_loop.survey_in_room.Goals.{then-not-is_done-2+in-Ok-push-2, else-not-is_done-2}
use Rattle.capn_walk.proofs.survey_loop.survey_in_room.Goals as goal

pub slots-smaller-then-frame-gt0 : goal.slots-smaller-then-frame-gt0
slots-smaller-then-frame-gt0 g c =
    let m = c.args.space in
    let w = c.slots in
    let t = c.turned-frame in
    fewer-rows m c.args.base c.args.budget [] (owed c.args.first) c.args.limit w.depth w.stack.items w.frame t.result
    t.ensures.places c.if-frame-eq0.true t.ensures.some

pub slots-preserved-then-frame-gt0 : goal.slots-preserved-then-frame-gt0
slots-preserved-then-frame-gt0 g c =
    let m = c.args.space in
    let w = c.slots in
    let t = c.turned-frame in
    let lies : Lies c.args.space c.turned-frame.result = search rules in
    let n = reach_of c.args.space c.args.limit (places_of c.args.first) in
    record {
      surveys = next-row m c.args.base c.args.budget _ (owed c.args.first) c.args.limit w.depth w.stack.items w.frame
          t.result w.paid w.visits w.capability t.ensures.places t.ensures.owed lies w.invariant.surveys;
      room = w.invariant.room;
      size = rw t.ensures.segment w.invariant.size;
      deep = λ on. deep-row m c.args.base c.args.limit n w.least w.depth w.stack.items w.frame t.result
          t.ensures.places (w.invariant.deep on);
      least = w.invariant.least;
      reads = omega arith;
    }

pub slots-preserved-then-frame-eq0 : goal.slots-preserved-then-frame-eq0
slots-preserved-then-frame-eq0 g c =
    let m = c.args.space in
    let w = c.slots in
    let r : c.slots.frame.rows ≡ 0 = omega arith in
    let z = none-owed c.slots.frame c.if-frame-eq0.true r in
    let n = reach_of c.args.space c.args.limit (places_of c.args.first) in
    let l = length-popped m c.args.base w.stack.items c.pop.new.self.items c.in-Some.waiting c.in-Some.ensures.items in
    record {
      surveys = popped m c.args.base c.args.budget _ (owed c.args.first) c.args.limit w.depth w.stack.items
          c.pop.new.self.items w.frame c.in-Some.waiting w.paid w.visits w.capability c.in-Some.ensures.items z
          w.invariant.surveys;
      room = omega arith;
      size = search rules;
      deep = λ on. deep-popped m c.args.base c.args.limit n w.least w.depth w.stack.items c.pop.new.self.items w.frame
          c.in-Some.waiting c.in-Some.ensures.items w.invariant.surveys.lies.rows z (w.invariant.deep on);
      least = w.invariant.least;
      reads = omega arith;
    }

pub slots-smaller-then-frame-eq0 : goal.slots-smaller-then-frame-eq0
slots-smaller-then-frame-eq0 g c =
    let m = c.args.space in
    let w = c.slots in
    let r : c.slots.frame.rows ≡ 0 = omega arith in
    let z = none-owed c.slots.frame c.if-frame-eq0.true r in
    as-many m c.args.base c.args.budget _ (owed c.args.first) c.args.limit w.depth w.stack.items c.pop.new.self.items
    w.frame c.in-Some.waiting w.paid w.visits w.capability c.in-Some.ensures.items z c.if-frame-eq0.true
    w.invariant.surveys

pub slots-preserved-then-word-eq0 : goal.slots-preserved-then-word-eq0
slots-preserved-then-word-eq0 g c =
    let m = c.args.space in
    let w = c.slots in
    let t = c.take in
    let lies : Lies c.args.space c.take.result.1 = search rules in
    let n = reach_of c.args.space c.args.limit (places_of c.args.first) in
    record {
      surveys = passed-null m c.args.base c.args.budget _ (owed c.args.first) c.args.limit w.depth w.stack.items w.frame
          t.result.1 t.result.0 w.paid w.visits w.capability
          w.invariant.surveys t.ensures.places (null-target m t.result.0 (cc)) t.ensures.owed lies;
      room = w.invariant.room;
      size = rw t.ensures.segment w.invariant.size;
      deep = λ on. deep-null m c.args.base c.args.limit n w.least w.depth w.stack.items w.frame t.result.1 t.result.0
          t.ensures.places (null-target m t.result.0 (cc)) (w.invariant.deep on);
      least = w.invariant.least;
      reads = omega arith;
    }

pub slots-smaller-then-word-eq0 : goal.slots-smaller-then-word-eq0
slots-smaller-then-word-eq0 g c =
    let m = c.args.space in
    let w = c.slots in
    let t = c.take in
    fewer-null m c.args.base c.args.budget _ (owed c.args.first) c.args.limit w.depth w.stack.items w.frame t.result.1
    t.result.0 w.paid w.visits w.capability w.invariant.surveys t.ensures.places (null-target m t.result.0 cc)

pub visit_struct-requires-clause-pointer : goal.visit_struct-requires-clause-pointer
visit_struct-requires-clause-pointer g c =
    let m = c.args.space in
    let at = c.take.result.0 in
    near-struct m at c.word-word.result c.split-pointer.result c.in-Node.offset c.in-Node.words c.in-Node.slots
    c.word-word.ensures.word c.split-pointer.ensures.read c.in-Node.is

pub visit_numbers-requires-clause-pointer : goal.visit_numbers-requires-clause-pointer
visit_numbers-requires-clause-pointer g c =
    let m = c.args.space in
    let at = c.take.result.0 in
    near-list m at c.word-word.result c.split-pointer.result c.in-Many.offset c.in-Many.width c.in-Many.count
    c.word-word.ensures.word c.split-pointer.ensures.read c.in-Many.is

pub returns-in-Err-clause-tells : goal.returns-in-Err-clause-tells
returns-in-Err-clause-tells g c =
    let m = c.args.space in
    let w = c.slots in
    let t = c.take in
    rw c.stopped.ensures
    (refused-here m c.args.base c.args.budget _ (owed c.args.first) c.args.limit w.depth w.stack.items w.frame
    t.result.1 t.result.0 w.paid w.visits w.capability
    w.invariant.surveys t.ensures.places t.ensures.owed c.in-Err.fault c.in-Err.ensures.visits.refused)

pub slots-preserved-then-is_done : goal.slots-preserved-then-is_done
slots-preserved-then-is_done g c =
    let m = c.args.space in
    let w = c.slots in
    let t = c.take in
    let x = c.in-Ok in
    let at = c.take.result.0 in
    let none = capless-near m at _
    (near-struct m at c.word-word.result c.split-pointer.result c.in-Node.offset c.in-Node.words c.in-Node.slots
    c.word-word.ensures.word c.split-pointer.ensures.read c.in-Node.is) in
    let lies : Lies c.args.space c.take.result.1 = search rules in
    let z : owed c.in-Ok.found.below ≡ 0 = done c.is_done.result _ c.is_done.ensures c.if-is_done.true in
    let n = reach_of c.args.space c.args.limit (places_of c.args.first) in
    let levels = w.invariant.surveys.depth in
    let low : c.slots.depth ≤ c.args.limit = omega arith in
    let nonzero : c.word-word.result ≡ 0 → ⊥ = λ z. absurd (omega arith) in
    let is = there m c.take.result.0 c.word-word.result c.split-pointer.result c.word-word.ensures.word
    c.split-pointer.ensures.read c.split-pointer.ensures.joined nonzero in
    let fewer = c.lowered-least.ensures.no_more in
    let few = w.invariant.least in
    record {
      surveys = rw option_or-none at
          (passed m c.args.base c.args.budget _ (owed c.args.first) c.args.limit w.depth w.stack.items w.frame
          t.result.1 t.result.0 w.paid w.visits w.capability
          w.invariant.surveys t.ensures.places t.ensures.owed x.found.below x.found.price None x.ensures.visits.visits
          x.ensures.visits.price x.ensures.visits.owed none lies x.ensures.visits.below.rows z);
      room = w.invariant.room;
      size = rw t.ensures.segment w.invariant.size;
      deep = λ on. deep-passed m c.args.base c.args.limit n w.least c.lowered-least.result
          w.depth w.stack.items w.frame
          t.result.1 x.found.below t.result.0 x.found.price _ None (w.invariant.deep on) low
          t.ensures.places x.ensures.visits.visits is none x.ensures.visits.places
          (c.lowered-least.ensures.deep c.args.limit on) x.ensures.visits.below.rows z;
      least = omega arith;
      reads = omega arith;
    }

pub slots-smaller-then-is_done : goal.slots-smaller-then-is_done
slots-smaller-then-is_done g c =
    let m = c.args.space in
    let w = c.slots in
    let t = c.take in
    let x = c.in-Ok in
    let z : owed c.in-Ok.found.below ≡ 0 = done c.is_done.result _ c.is_done.ensures c.if-is_done.true in
    fewer-passed m c.args.base c.args.budget _ (owed c.args.first) c.args.limit w.depth w.stack.items w.frame t.result.1
    x.found.below t.result.0 x.found.price w.paid w.visits w.capability
    w.invariant.surveys t.ensures.places x.ensures.visits.visits x.ensures.visits.below.rows z

pub slots-preserved-in-Node-1 : goal.slots-preserved-in-Node-1
slots-preserved-in-Node-1 g c =
    let m = c.args.space in
    let w = c.slots in
    let t = c.take in
    let x = c.in-Ok in
    let at = c.take.result.0 in
    let none = capless-near m at _
    (near-struct m at c.word-word.result c.split-pointer.result c.in-Node.offset c.in-Node.words c.in-Node.slots
    c.word-word.ensures.word c.split-pointer.ensures.read c.in-Node.is) in
    let lies : Lies c.args.space c.take.result.1 = search rules in
    let some = not-done _ (owed c.in-Ok.found.below) c.is_done.ensures c.if-is_done.false in
    let deep = x.ensures.visits.deep some in
    let k : IsKept c.args.space c.args.base c.slots.depth c.slots.stack.items c.take.result.1
    c.if-not-is_done.stack.items =
    elim c.if-not-is_done.branch [
      | then-not-is_done+in-Ok-push w ↦ kept (rw w.stack-is w.in-Ok-push.ensures.ok)
      | else-not-is_done w ↦ dropped
          (done c.is_done-in-Node.result (owed c.take.result.1) c.is_done-in-Node.ensures w.if-not-is_done.false)
          (rw w.stack-is refl)
    ] in
    let longer = length-kept c.args.space c.args.base c.slots.depth c.slots.stack.items c.take.result.1
    c.if-not-is_done.stack.items k in
    let n = reach_of c.args.space c.args.limit (places_of c.args.first) in
    let levels = w.invariant.surveys.depth in
    let low : c.slots.depth ≤ c.args.limit = omega arith in
    let nonzero : c.word-word.result ≡ 0 → ⊥ = λ z. absurd (omega arith) in
    let is = there m c.take.result.0 c.word-word.result c.split-pointer.result c.word-word.ensures.word
    c.split-pointer.ensures.read c.split-pointer.ensures.joined nonzero in
    let fewer = c.lowered-least.ensures.no_more in
    let few = w.invariant.least in
    record {
      surveys = rw option_or-none at
          (entered m c.args.base c.args.budget _ (owed c.args.first) c.args.limit w.depth w.stack.items w.frame
          t.result.1 t.result.0 w.paid w.visits w.capability
          w.invariant.surveys t.ensures.places t.ensures.owed x.found.below x.found.price None x.ensures.visits.visits
          x.ensures.visits.price x.ensures.visits.owed none
          c.if-not-is_done.stack.items k lies x.ensures.visits.below deep);
      room = elim c.if-not-is_done.branch
          [ then-not-is_done+in-Ok-push w ↦ search rules | else-not-is_done w ↦ search rules ];
      size = search rules;
      deep = λ on. deep-entered m c.args.base c.args.limit n w.least c.lowered-least.result
          w.depth w.stack.items w.frame
          t.result.1 x.found.below t.result.0 x.found.price _ None (w.invariant.deep on) low
          t.ensures.places x.ensures.visits.visits is none x.ensures.visits.places
          (c.lowered-least.ensures.deep c.args.limit on) c.if-not-is_done.stack.items t.ensures.kept k;
      least = omega arith;
      reads = omega arith;
    }

pub slots-smaller-in-Node-1 : goal.slots-smaller-in-Node-1
slots-smaller-in-Node-1 g c =
    let m = c.args.space in
    let w = c.slots in
    let t = c.take in
    let x = c.in-Ok in
    let k : IsKept c.args.space c.args.base c.slots.depth c.slots.stack.items c.take.result.1
    c.if-not-is_done.stack.items =
    elim c.if-not-is_done.branch [
      | then-not-is_done+in-Ok-push w ↦ kept (rw w.stack-is w.in-Ok-push.ensures.ok)
      | else-not-is_done w ↦ dropped
          (done c.is_done-in-Node.result (owed c.take.result.1) c.is_done-in-Node.ensures w.if-not-is_done.false)
          (rw w.stack-is refl)
    ] in
    fewer-entered m c.args.base c.args.budget _ (owed c.args.first) c.args.limit w.depth w.stack.items w.frame
    t.result.1 x.found.below t.result.0 x.found.price w.paid w.visits w.capability
    w.invariant.surveys t.ensures.places x.ensures.visits.visits c.if-not-is_done.stack.items t.ensures.kept k

pub slots-preserved-then-is_done-2 : goal.slots-preserved-then-is_done-2
slots-preserved-then-is_done-2 g c =
    let m = c.args.space in
    let w = c.slots in
    let t = c.take in
    let x = c.in-Ok-visit_elsewhere in
    let here = rw c.again.ensures at x.ensures.visits in
    let lies : Lies c.args.space c.take.result.1 = search rules in
    let z : owed c.in-Ok-visit_elsewhere.found.below ≡ 0 =
    done c.is_done-in_default-pointer.result _ c.is_done-in_default-pointer.ensures c.if-is_done-2.true in
    let n = reach_of c.args.space c.args.limit (places_of c.args.first) in
    let levels = w.invariant.surveys.depth in
    let low : c.slots.depth ≤ c.args.limit = omega arith in
    let nonzero : c.word-word.result ≡ 0 → ⊥ = λ z. absurd (omega arith) in
    let is = there m c.take.result.0 c.word-word.result c.split-pointer.result c.word-word.ensures.word
    c.split-pointer.ensures.read c.split-pointer.ensures.joined nonzero in
    let fewer = c.lowered-least-in_default-pointer.ensures.no_more in
    let few = w.invariant.least in
    record {
      surveys = rw c.or-capability.ensures
          (passed m c.args.base c.args.budget _ (owed c.args.first) c.args.limit w.depth w.stack.items w.frame
          t.result.1 t.result.0 w.paid w.visits w.capability
          w.invariant.surveys t.ensures.places t.ensures.owed x.found.below x.found.price x.found.capability
          here.visits here.price here.owed here.capability lies here.below.rows z);
      room = w.invariant.room;
      size = rw t.ensures.segment w.invariant.size;
      deep = λ on. deep-passed m c.args.base c.args.limit n w.least c.lowered-least-in_default-pointer.result
          w.depth w.stack.items w.frame
          t.result.1 x.found.below t.result.0 x.found.price _ x.found.capability (w.invariant.deep on) low
          t.ensures.places here.visits is here.capability here.places
          (c.lowered-least-in_default-pointer.ensures.deep c.args.limit on) here.below.rows z;
      least = omega arith;
      reads = omega arith;
    }

pub slots-smaller-then-is_done-2 : goal.slots-smaller-then-is_done-2
slots-smaller-then-is_done-2 g c =
    let m = c.args.space in
    let w = c.slots in
    let t = c.take in
    let x = c.in-Ok-visit_elsewhere in
    let here = rw c.again.ensures at x.ensures.visits in
    let z : owed c.in-Ok-visit_elsewhere.found.below ≡ 0 =
    done c.is_done-in_default-pointer.result _ c.is_done-in_default-pointer.ensures c.if-is_done-2.true in
    fewer-passed m c.args.base c.args.budget _ (owed c.args.first) c.args.limit w.depth w.stack.items w.frame t.result.1
    x.found.below t.result.0 x.found.price w.paid w.visits w.capability
    w.invariant.surveys t.ensures.places here.visits here.below.rows z

pub slots-preserved : goal.slots-preserved
slots-preserved g c =
    let m = c.args.space in
    let w = c.slots in
    let t = c.take in
    let x = c.in-Ok-visit_elsewhere in
    let here = rw c.again.ensures at x.ensures.visits in
    let lies : Lies c.args.space c.take.result.1 = search rules in
    let some = not-done _ (owed c.in-Ok-visit_elsewhere.found.below) c.is_done-in_default-pointer.ensures
    c.if-is_done-2.false in
    let deep = here.deep some in
    let k : IsKept c.args.space c.args.base c.slots.depth c.slots.stack.items c.take.result.1
    c.if-not-is_done-2.stack.items =
    elim c.if-not-is_done-2.branch [
      | then-not-is_done-2+in-Ok-push-2 w ↦ kept (rw w.stack-is w.in-Ok-push-2.ensures.ok)
      | else-not-is_done-2 w ↦ dropped
          (done c.is_done-in_default-pointer-2.result (owed c.take.result.1) c.is_done-in_default-pointer-2.ensures
          w.if-not-is_done-2.false) (rw w.stack-is refl)
    ] in
    let longer = length-kept c.args.space c.args.base c.slots.depth c.slots.stack.items c.take.result.1
    c.if-not-is_done-2.stack.items k in
    let n = reach_of c.args.space c.args.limit (places_of c.args.first) in
    let levels = w.invariant.surveys.depth in
    let low : c.slots.depth ≤ c.args.limit = omega arith in
    let nonzero : c.word-word.result ≡ 0 → ⊥ = λ z. absurd (omega arith) in
    let is = there m c.take.result.0 c.word-word.result c.split-pointer.result c.word-word.ensures.word
    c.split-pointer.ensures.read c.split-pointer.ensures.joined nonzero in
    let fewer = c.lowered-least-in_default-pointer.ensures.no_more in
    let few = w.invariant.least in
    record {
      surveys = rw c.or-capability.ensures
          (entered m c.args.base c.args.budget _ (owed c.args.first) c.args.limit w.depth w.stack.items w.frame
          t.result.1 t.result.0 w.paid w.visits w.capability
          w.invariant.surveys t.ensures.places t.ensures.owed x.found.below x.found.price x.found.capability
          here.visits here.price here.owed here.capability c.if-not-is_done-2.stack.items k lies here.below deep);
      room = elim c.if-not-is_done-2.branch
          [ then-not-is_done-2+in-Ok-push-2 w ↦ search rules | else-not-is_done-2 w ↦ search rules ];
      size = search rules;
      deep = λ on. deep-entered m c.args.base c.args.limit n w.least c.lowered-least-in_default-pointer.result
          w.depth w.stack.items w.frame
          t.result.1 x.found.below t.result.0 x.found.price _ x.found.capability (w.invariant.deep on) low
          t.ensures.places here.visits is here.capability here.places
          (c.lowered-least-in_default-pointer.ensures.deep c.args.limit on)
          c.if-not-is_done-2.stack.items t.ensures.kept k;
      least = omega arith;
      reads = omega arith;
    }

pub slots-smaller : goal.slots-smaller
slots-smaller g c =
    let m = c.args.space in
    let w = c.slots in
    let t = c.take in
    let x = c.in-Ok-visit_elsewhere in
    let here = rw c.again.ensures at x.ensures.visits in
    let k : IsKept c.args.space c.args.base c.slots.depth c.slots.stack.items c.take.result.1
    c.if-not-is_done-2.stack.items =
    elim c.if-not-is_done-2.branch [
      | then-not-is_done-2+in-Ok-push-2 w ↦ kept (rw w.stack-is w.in-Ok-push-2.ensures.ok)
      | else-not-is_done-2 w ↦ dropped
          (done c.is_done-in_default-pointer-2.result (owed c.take.result.1) c.is_done-in_default-pointer-2.ensures
          w.if-not-is_done-2.false) (rw w.stack-is refl)
    ] in
    fewer-entered m c.args.base c.args.budget _ (owed c.args.first) c.args.limit w.depth w.stack.items w.frame
    t.result.1 x.found.below t.result.0 x.found.price w.paid w.visits w.capability
    w.invariant.surveys t.ensures.places here.visits c.if-not-is_done-2.stack.items t.ensures.kept k

pub returns-in-Err-visit_numbers-clause-tells : goal.returns-in-Err-visit_numbers-clause-tells
returns-in-Err-visit_numbers-clause-tells g c =
    let m = c.args.space in
    let w = c.slots in
    let t = c.take in
    rw c.stopped-in-Err-visit_numbers.ensures
    (refused-here m c.args.base c.args.budget _ (owed c.args.first) c.args.limit w.depth w.stack.items w.frame
    t.result.1 t.result.0 w.paid w.visits w.capability
    w.invariant.surveys t.ensures.places t.ensures.owed c.in-Err-visit_numbers.fault
    c.in-Err-visit_numbers.ensures.refused)

pub returns-in-Err-visit_elsewhere-clause-tells : goal.returns-in-Err-visit_elsewhere-clause-tells
returns-in-Err-visit_elsewhere-clause-tells g c =
    let m = c.args.space in
    let w = c.slots in
    let t = c.take in
    let here = rw c.again.ensures at c.in-Err-visit_elsewhere.ensures.visits in
    rw c.stopped-in-Err-visit_elsewhere.ensures
    (refused-here m c.args.base c.args.budget _ (owed c.args.first) c.args.limit w.depth w.stack.items w.frame
    t.result.1 t.result.0 w.paid w.visits w.capability
    w.invariant.surveys t.ensures.places t.ensures.owed c.in-Err-visit_elsewhere.fault here.refused)

pub slots-preserved-then-is_plain : goal.slots-preserved-then-is_plain
slots-preserved-then-is_plain g c =
    let m = c.args.space in
    let w = c.slots in
    let t = c.take in
    let x = c.in-Ok-visit_numbers in
    let none = capless-near m t.result.0 (Many c.in-Many.offset c.in-Many.width c.in-Many.count)
    (near-list m t.result.0 c.word-word.result c.split-pointer.result c.in-Many.offset c.in-Many.width
    c.in-Many.count c.word-word.ensures.word c.split-pointer.ensures.read c.in-Many.is) in
    let lies : Lies c.args.space c.take.result.1 = search rules in
    let n = reach_of c.args.space c.args.limit (places_of c.args.first) in
    let levels = w.invariant.surveys.depth in
    let low : c.slots.depth ≤ c.args.limit = omega arith in
    let nonzero : c.word-word.result ≡ 0 → ⊥ = λ z. absurd (omega arith) in
    let is = there m c.take.result.0 c.word-word.result c.split-pointer.result c.word-word.ensures.word
    c.split-pointer.ensures.read c.split-pointer.ensures.joined nonzero in
    let number : AreNumbers (Many c.in-Many.offset c.in-Many.width c.in-Many.count) = search rules in
    let nothing = numbers-none m t.result.0 (Many c.in-Many.offset c.in-Many.width c.in-Many.count) number
    (near-list m t.result.0 c.word-word.result c.split-pointer.result c.in-Many.offset c.in-Many.width
    c.in-Many.count c.word-word.ensures.word c.split-pointer.ensures.read c.in-Many.is) in
    let fewer = c.lowered-least-in-Ok-visit_numbers.ensures.no_more in
    let few = w.invariant.least in
    record {
      surveys = rw option_or-none at
          (passed m c.args.base c.args.budget _ (owed c.args.first) c.args.limit w.depth w.stack.items w.frame
          t.result.1 t.result.0 w.paid w.visits w.capability
          w.invariant.surveys t.ensures.places t.ensures.owed no_frame x.price None x.ensures.visits x.ensures.price
          (omega arith) none lies (λ h. absurd (omega arith)) refl);
      room = w.invariant.room;
      size = rw t.ensures.segment w.invariant.size;
      deep = λ on. deep-passed m c.args.base c.args.limit n w.least c.lowered-least-in-Ok-visit_numbers.result
          w.depth w.stack.items w.frame t.result.1 no_frame t.result.0 x.price _ None (w.invariant.deep on) low
          t.ensures.places x.ensures.visits is none nothing
          (c.lowered-least-in-Ok-visit_numbers.ensures.deep c.args.limit on) (λ h. absurd (omega arith)) refl;
      least = omega arith;
      reads = omega arith;
    }

pub slots-smaller-then-is_plain : goal.slots-smaller-then-is_plain
slots-smaller-then-is_plain g c =
    let m = c.args.space in
    let w = c.slots in
    let t = c.take in
    let x = c.in-Ok-visit_numbers in
    fewer-passed m c.args.base c.args.budget _ (owed c.args.first) c.args.limit w.depth w.stack.items w.frame t.result.1
    no_frame t.result.0 x.price w.paid w.visits w.capability
    w.invariant.surveys t.ensures.places x.ensures.visits (λ h. absurd (omega arith)) refl

pub returns-in_default-clause-depth : goal.returns-in_default-clause-depth
returns-in_default-clause-depth g c on =
    let m = c.args.space in
    let w = c.slots in
    let n = reach_of c.args.space c.args.limit (places_of c.args.first) in
    let r : c.slots.frame.rows ≡ 0 = omega arith in
    let z = none-owed c.slots.frame c.if-frame-eq0.true r in
    let e : c.slots.stack.items ≡ [] = search rules in
    deep-end m c.args.base c.args.limit n w.least w.depth w.stack.items w.frame e w.invariant.surveys.lies.rows z
    (w.invariant.deep on)
