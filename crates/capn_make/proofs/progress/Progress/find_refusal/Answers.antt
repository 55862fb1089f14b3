use Rattle.std.proofs.Common.{◌++◌, refl, sym}
use Rattle.capn_make.proofs.FoundRefusal.{ended_well, found, found_lost, unfinished}
use Rattle.capn_make.proofs.progress.Progress.find_refusal.Goals as goal

pub returns-in-Ok-clause-found : goal.returns-in-Ok-clause-found
returns-in-Ok-clause-found g c = λ input written h.
    ended_well c.refusing.ensures.one c.args.self.now.form input (written ++ c.go_on.new.self.made.items)
    (record { rest = c.go_on.new.self.rest.items; line = c.go_on.new.self.line }) c.in-Ok.field-0
    (c.in-Ok.ensures.made input written h)

pub returns-then-is_whole-clause-found : goal.returns-then-is_whole-clause-found
returns-then-is_whole-clause-found g c = λ input written h.
    let whole = c.if-is_whole.ensures.whole refl in
    found c.refusing.ensures.one c.args.self.now.form input (written ++ c.go_on.new.self.made.items)
    (record { rest = c.go_on.new.self.rest.items; line = c.go_on.new.self.line }) c.in-Err.fault c.go_on.new.cut
    c.in_default.not-Memory (c.in-Err.ensures.made input written h) c.in-Err.ensures.cut c.refusing.ensures.stays
    (rw c.deref.ensures.value at whole)

pub returns-then-is_lost-clause-found : goal.returns-then-is_lost-clause-found
returns-then-is_lost-clause-found g c = λ input written h.
    found_lost c.refusing.ensures.one c.args.self.now.form input (written ++ c.go_on.new.self.made.items)
    (record { rest = c.go_on.new.self.rest.items; line = c.go_on.new.self.line }) c.in-Err.fault c.go_on.new.cut
    c.in_default.not-Memory (c.in-Err.ensures.made input written h) c.in-Err.ensures.cut (sym c.if-is_lost.ensures)

pub returns-else-is_lost-clause-found : goal.returns-else-is_lost-clause-found
returns-else-is_lost-clause-found g c = λ input written h.
    let cut = c.if-is_whole.ensures.cut refl in
    unfinished c.refusing.ensures.one c.args.self.now.form input (written ++ c.go_on.new.self.made.items)
    (record { rest = c.go_on.new.self.rest.items; line = c.go_on.new.self.line }) c.in-Err.fault c.go_on.new.cut
    c.in_default.not-Memory (c.in-Err.ensures.made input written h) c.in-Err.ensures.cut
    (rw c.deref.ensures.value at cut) (sym c.if-is_lost.ensures)
