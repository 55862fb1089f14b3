use Rattle.std.proofs.Common.{◌≡◌, ◌+◌, ◌++◌, ◌∷◌, [], Ok, refl, ap, sym, ◌∙◌, arith}
use Rattle.capn_path.proofs.Searches.{seeks-here, seeks-null, seeks-cap, seeks-fault, seeks-deep, seeks-object}
use Rattle.capn_path.proofs.Searches.{slot-found, slot-passed, row-found, row-passed, rows-without, popped}
use Rattle.capn_path.proofs.Counts.{fell, none-on, ok-on}
use Rattle.capn_path.proofs.search.+seek.Goals as goal

pub seek_slot-returns-in-Some-clause-found : goal.seek_slot-returns-in-Some-clause-found
seek_slot-returns-in-Some-clause-found g t c base =
    let a = c.args in
    seeks-here a.space g.G.Aim.finds g.G.Aim.next base a.depth a.at a.aim.now c.test.new.self
    a.path.now.items c.in-Some.found
    (ap (g.G.Aim.finds a.aim.now a.at) (sym c.resolve-named.ensures.exact) ∙ sym c.test.ensures.found ∙ c.in-Some.is)

pub seek_slot-returns-in-Nil-clause-found : goal.seek_slot-returns-in-Nil-clause-found
seek_slot-returns-in-Nil-clause-found g t c base =
    let a = c.args in
    let r = sym c.resolve-named.ensures.exact in
    seeks-null a.space g.G.Aim.finds g.G.Aim.next base a.at a.aim.now c.test.new.self
    a.path.now.items (ap (g.G.Aim.finds a.aim.now a.at) r ∙ sym c.test.ensures.found ∙ c.in-None.is)
    (rw c.in-None.is at c.test.ensures.next) a.depth (r ∙ c.in-Ok.is ∙ ap Ok c.in-Nil.is)

pub seek_slot-returns-in-Cap-clause-found : goal.seek_slot-returns-in-Cap-clause-found
seek_slot-returns-in-Cap-clause-found g t c base =
    let a = c.args in
    let r = sym c.resolve-named.ensures.exact in
    seeks-cap a.space g.G.Aim.finds g.G.Aim.next base a.at a.aim.now c.test.new.self
    a.path.now.items (ap (g.G.Aim.finds a.aim.now a.at) r ∙ sym c.test.ensures.found ∙ c.in-None.is)
    (rw c.in-None.is at c.test.ensures.next) a.depth c.in-Cap.field-0 (r ∙ c.in-Ok.is ∙ ap Ok c.in-Cap.is)

pub seek_slot-returns-in-Err-clause-found : goal.seek_slot-returns-in-Err-clause-found
seek_slot-returns-in-Err-clause-found g t c base =
    let a = c.args in
    let r = sym c.resolve-named.ensures.exact in
    seeks-fault a.space g.G.Aim.finds g.G.Aim.next base a.at a.aim.now c.test.new.self
    a.path.now.items (ap (g.G.Aim.finds a.aim.now a.at) r ∙ sym c.test.ensures.found ∙ c.in-None.is)
    (rw c.in-None.is at c.test.ensures.next) a.depth c.in-Err.field-0 (r ∙ c.in-Err.is)

pub seek_slot-returns-then-depth-eq0-clause-found : goal.seek_slot-returns-then-depth-eq0-clause-found
seek_slot-returns-then-depth-eq0-clause-found g t c base =
    let a = c.args in
    let x = c.in-Content in
    let r = sym c.resolve-named.ensures.exact in
    seeks-deep a.space g.G.Aim.finds g.G.Aim.next base a.at a.aim.now c.test.new.self
    a.path.now.items (ap (g.G.Aim.finds a.aim.now a.at) r ∙ sym c.test.ensures.found ∙ c.in-None.is)
    (rw c.in-None.is at c.test.ensures.next) a.depth x.segment x.start x.pads x.shape (r ∙ c.in-Ok.is ∙ ap Ok x.is)
    c.if-depth-eq0.true

pub seek_slot-returns-in_ok-found-in-Content-clause-found : goal.seek_slot-returns-in_ok-found-in-Content-clause-found
seek_slot-returns-in_ok-found-in-Content-clause-found g t c base =
    let a = c.args in
    let x = c.in-Content in
    let r = sym c.resolve-named.ensures.exact in
    seeks-object a.space g.G.Aim.finds g.G.Aim.next base a.at x.segment x.start x.pads x.shape
    a.depth a.aim.now c.test.new.self c.seek_object.new.aim a.path.now.items c.seek_object.new.path.items
    c.in_ok-found-in-Content.found (r ∙ c.in-Ok.is ∙ ap Ok x.is) (let some = c.if-depth-eq0.false in omega arith)
    (ap (g.G.Aim.finds a.aim.now a.at) r ∙ sym c.test.ensures.found ∙ c.in-None.is)
    (rw c.in-None.is at c.test.ensures.next) (c.in_ok-found-in-Content.ensures.found base)

pub seek_object-returns-then-slots-eq0-clause-found : goal.seek_object-returns-then-slots-eq0-clause-found
seek_object-returns-then-slots-eq0-clause-found g t c base =
    let x = c.in-Rows in (
      refl,
      rw x.is (rows-without c.args.space g.G.Aim.finds g.G.Aim.next base c.args.depth
          c.args.start.segment (c.args.start.word + 1) x.words x.slots x.count c.args.aim.now c.if-slots-eq0.true),
    )

pub seek_object-returns-in-Node-clause-found : goal.seek_object-returns-in-Node-clause-found
seek_object-returns-in-Node-clause-found g t c = rw c.in-Node.is c.seek_slots.ensures.found

pub seek_object-returns-in-Link-clause-found : goal.seek_object-returns-in-Link-clause-found
seek_object-returns-in-Link-clause-found g t c = rw (c.in-Many.is, c.in-Link.is) c.seek_slots-in-Link.ensures.found

pub seek_object-returns-else-slots-eq0-clause-found : goal.seek_object-returns-else-slots-eq0-clause-found
seek_object-returns-else-slots-eq0-clause-found g t c = rw c.in-Rows.is c.seek_rows.ensures.found

pub seek_slots-returns-in-Some-clause-found : goal.seek_slots-returns-in-Some-clause-found
seek_slots-returns-in-Some-clause-found g t c base =
    let l = c.loop-i in
    let a = c.args in
    let push : c.push.new.self.items ≡ c.args.path.now.items ++ c.loop-i.i ∷ [] =
    rw l.invariant.kept at c.in-Ok.ensures.items in
    let h = rw c.again.ensures at (c.in_ok-found.ensures.found base) in
    slot-found a.space g.G.Aim.finds g.G.Aim.next base a.depth a.first.segment a.first.word l.i
    a.count c.in-Some.found a.path.now.items c.push.new.self.items c.seek_slot.new.path.items a.aim.now l.aim
    c.seek_slot.new.aim c.loop-i-test.true push (l.invariant.passed base) (rw c.in-Some.is at h)

pub seek_slots-loop-i-preserved : goal.seek_slots-loop-i-preserved
seek_slots-loop-i-preserved g t c =
    let l = c.loop-i in
    let a = c.args in
    let push : c.push.new.self.items ≡ c.args.path.now.items ++ c.loop-i.i ∷ [] =
    rw l.invariant.kept at c.in-Ok.ensures.items in
    let h = rw (c.again.ensures, c.in-None.is) at c.in_ok-found.ensures.found in
    record {
      passed = λ base. slot-passed a.space g.G.Aim.finds g.G.Aim.next base a.depth
          a.first.segment a.first.word l.i a.aim.now l.aim c.seek_slot.new.aim (l.invariant.passed base) (h base).1;
      kept = popped a.path.now.items c.seek_slot.new.path.items c.pop.new.self.items l.i _ ((h 0).0 ∙ push)
          c.seek_slot.new.path.ok.0 c.pop.ensures.rest;
      grown = let x = l.invariant.grown in let y = c.in-Ok.ensures.capacity in
          let z = c.in_ok-found.ensures.grown in let w = c.pop.ensures.capacity in omega arith;
      reads = λ left lowered.
          let so_far = l.invariant.reads left lowered in
          let one = c.tick.ensures in
          let more = (rw c.in-None.is at c.in_ok-found.ensures.passed) left lowered in
          omega (arith, so_far, one, more);
    }

pub seek_rows-returns-in-Some-clause-found : goal.seek_rows-returns-in-Some-clause-found
seek_rows-returns-in-Some-clause-found g t c base =
    let l = c.loop-row in
    let a = c.args in
    let push : c.push.new.self.items ≡ c.args.path.now.items ++ c.loop-row.row ∷ [] =
    rw l.invariant.kept at c.in-Ok.ensures.items in
    let next = l.invariant.next in
    let h = rw c.again.ensures at (c.in_ok-found.ensures.found base) in
    row-found a.space g.G.Aim.finds g.G.Aim.next base a.depth a.first.segment a.first.word
    a.words a.slots l.row a.count c.in-Some.found a.path.now.items c.push.new.self.items c.seek_slots.new.path.items
    a.aim.now l.aim c.seek_slots.new.aim c.loop-row-test.true push (l.invariant.passed base)
    (rw (next, c.in-Some.is) at h)

pub seek_rows-loop-row-preserved : goal.seek_rows-loop-row-preserved
seek_rows-loop-row-preserved g t c =
    let l = c.loop-row in
    let a = c.args in
    let push : c.push.new.self.items ≡ c.args.path.now.items ++ c.loop-row.row ∷ [] =
    rw l.invariant.kept at c.in-Ok.ensures.items in
    let next = l.invariant.next in
    let h = rw (next, c.again.ensures, c.in-None.is) at c.in_ok-found.ensures.found in
    record {
      passed = λ base. row-passed a.space g.G.Aim.finds g.G.Aim.next base a.depth
          a.first.segment a.first.word a.words a.slots l.row a.aim.now l.aim c.seek_slots.new.aim
          (l.invariant.passed base) (h base).1;
      kept = popped a.path.now.items c.seek_slots.new.path.items c.pop.new.self.items l.row _ ((h 0).0 ∙ push)
          c.seek_slots.new.path.ok.0 c.pop.ensures.rest;
      grown = let x = l.invariant.grown in let y = c.in-Ok.ensures.capacity in
          let z = c.in_ok-found.ensures.grown in let w = c.pop.ensures.capacity in omega arith;
      next = omega arith;
      reads = λ some left lowered.
          let so_far = l.invariant.reads some left lowered in
          let one = c.tick.ensures in
          let more = (rw c.in-None.is at c.in_ok-found.ensures.passed) left lowered in
          omega (arith, so_far, one, more, some);
    }

pub seek_rows-returns-clause-found : goal.seek_rows-returns-clause-found
seek_rows-returns-clause-found g t c base =
    let l = c.loop-row in
    let e : c.loop-row.row ≡ c.args.count = omega arith in
    (l.invariant.kept, rw e at (l.invariant.passed base))

-- ---- the count of reads

pub seek_slot-returns-in-Nil-clause-passed : goal.seek_slot-returns-in-Nil-clause-passed
seek_slot-returns-in-Nil-clause-passed g t c left lowered =
    let less = fell g.G.Aim.finds g.G.Aim.next left lowered c.args.aim.now c.test.new.self c.args.at
    c.resolve-named.result (sym c.test.ensures.found ∙ c.in-None.is) (rw c.in-None.is at c.test.ensures.next) in
    let near = c.resolve-named.ensures.reads in
    omega (arith, less, near)

pub seek_slot-returns-in-Nil-clause-reads : goal.seek_slot-returns-in-Nil-clause-reads
seek_slot-returns-in-Nil-clause-reads g t c left lowered =
    let less = fell g.G.Aim.finds g.G.Aim.next left lowered c.args.aim.now c.test.new.self c.args.at
    c.resolve-named.result (sym c.test.ensures.found ∙ c.in-None.is) (rw c.in-None.is at c.test.ensures.next) in
    let near = c.resolve-named.ensures.reads in
    omega (arith, less, near)

pub seek_slot-returns-in-Cap-clause-passed : goal.seek_slot-returns-in-Cap-clause-passed
seek_slot-returns-in-Cap-clause-passed g t c left lowered =
    let less = fell g.G.Aim.finds g.G.Aim.next left lowered c.args.aim.now c.test.new.self c.args.at
    c.resolve-named.result (sym c.test.ensures.found ∙ c.in-None.is) (rw c.in-None.is at c.test.ensures.next) in
    let near = c.resolve-named.ensures.reads in
    omega (arith, less, near)

pub seek_slot-returns-in-Cap-clause-reads : goal.seek_slot-returns-in-Cap-clause-reads
seek_slot-returns-in-Cap-clause-reads g t c left lowered =
    let less = fell g.G.Aim.finds g.G.Aim.next left lowered c.args.aim.now c.test.new.self c.args.at
    c.resolve-named.result (sym c.test.ensures.found ∙ c.in-None.is) (rw c.in-None.is at c.test.ensures.next) in
    let near = c.resolve-named.ensures.reads in
    omega (arith, less, near)

pub seek_slot-returns-in-Err-clause-passed : goal.seek_slot-returns-in-Err-clause-passed
seek_slot-returns-in-Err-clause-passed g t c left lowered =
    let less = fell g.G.Aim.finds g.G.Aim.next left lowered c.args.aim.now c.test.new.self c.args.at
    c.resolve-named.result (sym c.test.ensures.found ∙ c.in-None.is) (rw c.in-None.is at c.test.ensures.next) in
    let near = c.resolve-named.ensures.reads in
    omega (arith, less, near)

pub seek_slot-returns-in-Err-clause-reads : goal.seek_slot-returns-in-Err-clause-reads
seek_slot-returns-in-Err-clause-reads g t c left lowered =
    let less = fell g.G.Aim.finds g.G.Aim.next left lowered c.args.aim.now c.test.new.self c.args.at
    c.resolve-named.result (sym c.test.ensures.found ∙ c.in-None.is) (rw c.in-None.is at c.test.ensures.next) in
    let near = c.resolve-named.ensures.reads in
    omega (arith, less, near)

pub seek_slot-returns-then-depth-eq0-clause-passed : goal.seek_slot-returns-then-depth-eq0-clause-passed
seek_slot-returns-then-depth-eq0-clause-passed g t c left lowered =
    let less = fell g.G.Aim.finds g.G.Aim.next left lowered c.args.aim.now c.test.new.self c.args.at
    c.resolve-named.result (sym c.test.ensures.found ∙ c.in-None.is) (rw c.in-None.is at c.test.ensures.next) in
    let near = c.resolve-named.ensures.reads in
    omega (arith, less, near)

pub seek_slot-returns-then-depth-eq0-clause-reads : goal.seek_slot-returns-then-depth-eq0-clause-reads
seek_slot-returns-then-depth-eq0-clause-reads g t c left lowered =
    let less = fell g.G.Aim.finds g.G.Aim.next left lowered c.args.aim.now c.test.new.self c.args.at
    c.resolve-named.result (sym c.test.ensures.found ∙ c.in-None.is) (rw c.in-None.is at c.test.ensures.next) in
    let near = c.resolve-named.ensures.reads in
    omega (arith, less, near)

pub seek_slot-returns-in_ok-found-in-Content-clause-passed : goal.seek_slot-returns-in_ok-found-in-Content-clause-passed
seek_slot-returns-in_ok-found-in-Content-clause-passed g t c =
    none-on g.G.Aim.finds g.G.Aim.next 0 2 c.args.aim.now c.test.new.self c.seek_object.new.aim c.args.reads.now
    c.resolve-named.new.reads c.seek_object.new.reads (λ left lowered.
    let less = fell g.G.Aim.finds g.G.Aim.next left lowered c.args.aim.now c.test.new.self c.args.at
    c.resolve-named.result (sym c.test.ensures.found ∙ c.in-None.is) (rw c.in-None.is at c.test.ensures.next) in
    let near = c.resolve-named.ensures.reads in
    omega (arith, less, near)) c.in_ok-found-in-Content.found c.in_ok-found-in-Content.ensures.passed

pub seek_slot-returns-in_ok-found-in-Content-clause-reads : goal.seek_slot-returns-in_ok-found-in-Content-clause-reads
seek_slot-returns-in_ok-found-in-Content-clause-reads g t c left lowered =
    let less = fell g.G.Aim.finds g.G.Aim.next left lowered c.args.aim.now c.test.new.self c.args.at
    c.resolve-named.result (sym c.test.ensures.found ∙ c.in-None.is) (rw c.in-None.is at c.test.ensures.next) in
    let near = c.resolve-named.ensures.reads in
    let below = c.in_ok-found-in-Content.ensures.reads left lowered in
    omega (arith, less, near, below)

pub seek_slot-returns-in_err-found-in-Content-clause-reads : goal.seek_slot-returns-in_err-found-in-Content-clause-reads
seek_slot-returns-in_err-found-in-Content-clause-reads g t c left lowered =
    let less = fell g.G.Aim.finds g.G.Aim.next left lowered c.args.aim.now c.test.new.self c.args.at
    c.resolve-named.result (sym c.test.ensures.found ∙ c.in-None.is) (rw c.in-None.is at c.test.ensures.next) in
    let near = c.resolve-named.ensures.reads in
    let below = c.in_err-found-in-Content.ensures.reads left lowered in
    omega (arith, less, near, below)

pub seek_object-returns-in-Node-clause-passed : goal.seek_object-returns-in-Node-clause-passed
seek_object-returns-in-Node-clause-passed g t c =
    ok-on g.G.Aim.finds g.G.Aim.next c.in-Node.slots 0 c.args.aim.now c.args.aim.now c.seek_slots.new.aim
    c.args.reads.now c.args.reads.now c.seek_slots.new.reads (λ left lowered. omega arith) c.seek_slots.result
    c.seek_slots.ensures.passed

pub seek_object-returns-in-Node-clause-reads : goal.seek_object-returns-in-Node-clause-reads
seek_object-returns-in-Node-clause-reads g t c left lowered =
    let below = c.seek_slots.ensures.reads left lowered in omega (arith, below)

pub seek_object-returns-in-Link-clause-passed : goal.seek_object-returns-in-Link-clause-passed
seek_object-returns-in-Link-clause-passed g t c =
    ok-on g.G.Aim.finds g.G.Aim.next c.in-Many.count 0 c.args.aim.now c.args.aim.now c.seek_slots-in-Link.new.aim
    c.args.reads.now c.args.reads.now c.seek_slots-in-Link.new.reads (λ left lowered. omega arith)
    c.seek_slots-in-Link.result c.seek_slots-in-Link.ensures.passed

pub seek_object-returns-in-Link-clause-reads : goal.seek_object-returns-in-Link-clause-reads
seek_object-returns-in-Link-clause-reads g t c left lowered =
    let below = c.seek_slots-in-Link.ensures.reads left lowered in omega (arith, below)

pub seek_object-returns-else-slots-eq0-clause-passed : goal.seek_object-returns-else-slots-eq0-clause-passed
seek_object-returns-else-slots-eq0-clause-passed g t c =
    let some = c.if-slots-eq0.false in c.seek_rows.ensures.passed (omega arith)

pub seek_object-returns-else-slots-eq0-clause-reads : goal.seek_object-returns-else-slots-eq0-clause-reads
seek_object-returns-else-slots-eq0-clause-reads g t c left lowered =
    let some = c.if-slots-eq0.false in c.seek_rows.ensures.reads (omega arith) left lowered

pub seek_slots-returns-in-Some-clause-reads : goal.seek_slots-returns-in-Some-clause-reads
seek_slots-returns-in-Some-clause-reads g t c left lowered =
    let so_far = c.loop-i.invariant.reads left lowered in
    let one = c.tick.ensures in
    let more = c.in_ok-found.ensures.reads left lowered in
    omega (arith, so_far, one, more)

pub seek_slots-returns-in_err-found-clause-reads : goal.seek_slots-returns-in_err-found-clause-reads
seek_slots-returns-in_err-found-clause-reads g t c left lowered =
    let so_far = c.loop-i.invariant.reads left lowered in
    let one = c.tick.ensures in
    let more = c.in_err-found.ensures.reads left lowered in
    omega (arith, so_far, one, more)

pub seek_slots-returns-in_default-clause-reads : goal.seek_slots-returns-in_default-clause-reads
seek_slots-returns-in_default-clause-reads g t c left lowered =
    let so_far = c.loop-i.invariant.reads left lowered in
    let one = c.tick.ensures in
    omega (arith, so_far, one)

pub seek_rows-returns-in-Some-clause-reads : goal.seek_rows-returns-in-Some-clause-reads
seek_rows-returns-in-Some-clause-reads g t c some left lowered =
    let so_far = c.loop-row.invariant.reads some left lowered in
    let one = c.tick.ensures in
    let more = c.in_ok-found.ensures.reads left lowered in
    omega (arith, so_far, one, more, some)

pub seek_rows-returns-in_err-found-clause-reads : goal.seek_rows-returns-in_err-found-clause-reads
seek_rows-returns-in_err-found-clause-reads g t c some left lowered =
    let so_far = c.loop-row.invariant.reads some left lowered in
    let one = c.tick.ensures in
    let more = c.in_err-found.ensures.reads left lowered in
    omega (arith, so_far, one, more, some)

pub seek_rows-returns-in_default-clause-reads : goal.seek_rows-returns-in_default-clause-reads
seek_rows-returns-in_default-clause-reads g t c some left lowered =
    let so_far = c.loop-row.invariant.reads some left lowered in
    let one = c.tick.ensures in
    omega (arith, so_far, one)

pub seek_slots-returns-clause-passed : goal.seek_slots-returns-clause-passed
seek_slots-returns-clause-passed g t c left lowered =
    let so_far = c.loop-i.invariant.reads left lowered in
    let e : c.loop-i.i ≡ c.args.count = omega arith in
    omega (arith, so_far, e)

pub seek_slots-returns-clause-reads : goal.seek_slots-returns-clause-reads
seek_slots-returns-clause-reads g t c left lowered =
    let so_far = c.loop-i.invariant.reads left lowered in omega (arith, so_far)

pub seek_rows-returns-clause-passed : goal.seek_rows-returns-clause-passed
seek_rows-returns-clause-passed g t c some left lowered =
    let so_far = c.loop-row.invariant.reads some left lowered in omega (arith, so_far)

pub seek_rows-returns-clause-reads : goal.seek_rows-returns-clause-reads
seek_rows-returns-clause-reads g t c some left lowered =
    let so_far = c.loop-row.invariant.reads some left lowered in omega (arith, so_far)
