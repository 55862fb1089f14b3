use Rattle.capn_path.proofs.search.seek_counted.Goals as goal

pub returns-in-Some-clause-found : goal.returns-in-Some-clause-found
returns-in-Some-clause-found g c base =
    let h = rw (c.again.ensures, c.in-Some.is, c.new-path.ensures.items) at c.in_ok-found.ensures.found in
    let k = h base in
    rw k.1 k.2

pub returns-clause-none : goal.returns-clause-none
returns-clause-none g c base =
    let h = rw (c.again.ensures, c.in-None.is) at c.in_ok-found.ensures.found in
    (c.seek_slot.new.aim, (h base).1)

pub returns-in-Some-clause-reads : goal.returns-in-Some-clause-reads
returns-in-Some-clause-reads g c left lowered = c.in_ok-found.ensures.reads left lowered

pub returns-clause-reads : goal.returns-clause-reads
returns-clause-reads g c left lowered = c.in_ok-found.ensures.reads left lowered

pub returns-in_err-found-clause-reads : goal.returns-in_err-found-clause-reads
returns-in_err-found-clause-reads g c left lowered = c.in_err-found.ensures.reads left lowered
