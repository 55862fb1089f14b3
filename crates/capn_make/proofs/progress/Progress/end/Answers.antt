use Rattle.std.proofs.Common.{[], ap, refl, Result, Ok, Err, arith}
use Rattle.std.proofs.lemmas.Result.{err_from_is_err_and}
use Rattle.capn_serve.proofs.shared.Wrote.{has_failed_now, is_fine_still}
use Rattle.capn_make.specs.declared.fault.MakeFault.{MakeFault}
use Rattle.capn_make.specs.declared.fault.MakeFault.TheVariants as faults
use Rattle.capn_make.proofs.LookedAt.{ended_as, ended_broken, ended_refused, refused_at, too_long_at}
use Rattle.capn_make.proofs.UnderWay.{no_writes}
use Rattle.capn_make.proofs.progress.Progress.end.Goals as goal

-- The result of a run whose text was written, and of one whose writer failed.
abbrev written : Result (Unit {0}) MakeFault
written = Ok tt

abbrev unwritten : Result (Unit {0}) MakeFault
unwritten = Err faults.Io

pub returns-then-not-has_room : goal.returns-then-not-has_room
returns-then-not-has_room g c = λ input x before h.
    let many = rw c.deref.ensures.value at c.if-not-has_room.ensures.none refl in
    let v = c.args.self.now.rest in
    let o = v.ok.0 in
    let p = v.ok.1 in
    let s = v.small in (
      too_long_at c.args.self.now.form input x _ _ _ _ _ before h many (omega arith) [],
      no_writes _ _ _ c.requires (λ e. absurd cc),
    )

pub go_on-requires : goal.go_on-requires
go_on-requires g c = rw c.deref.ensures.value at c.if-not-has_room.ensures.room refl

pub returns-in_ok-write_all-in-Ok : goal.returns-in_ok-write_all-in-Ok
returns-in_ok-write_all-in-Ok g c = λ input x before h.
    let goes = c.in-Ok.ensures.made input h.written h.made_so_far in
    let wrote = rw c.deref-in-Ok.ensures.value at c.in_ok-write_all-in-Ok.ensures in
    ended_as c.args.self.now.form input x _ _ _ _ _ before h c.go_on.new.self.made.items c.go_on.new.self.rest.items
    c.go_on.new.self.line _ _ [] c.in-Ok.field-0 written goes wrote.ok wrote.begun
    (is_fine_still _ _ c.requires wrote.failed) tt tt

pub returns-in_err-write_all-in-Ok : goal.returns-in_err-write_all-in-Ok
returns-in_err-write_all-in-Ok g c = λ input x before h.
    let p = err_from_is_err_and c.from_residual.result c.from_residual.ensures.1 in
    let goes = c.in-Ok.ensures.made input h.written h.made_so_far in
    let wrote = rw c.deref-in-Ok.ensures.value at c.in_err-write_all-in-Ok.ensures in
    rw (p.1, p.2) (ended_as c.args.self.now.form input x _ _ _ _ _ before h c.go_on.new.self.made.items
    c.go_on.new.self.rest.items c.go_on.new.self.line _ _ [] c.in-Ok.field-0 unwritten goes tt wrote.begun tt
    (has_failed_now _ _ c.requires wrote.failed) refl)

pub returns-in-Memory : goal.returns-in-Memory
returns-in-Memory g c = λ input x before h. (
  refused_at c.args.self.now.form input x _ _ _ _ _ before h
      (c.in-Err.ensures.memory (ap (λ x. Err x) c.in-Memory.is)) [],
  no_writes _ _ _ c.requires (λ e. absurd cc),
)

pub returns-in_err-write_made-in_default : goal.returns-in_err-write_made-in_default
returns-in_err-write_made-in_default g c = λ input x before h.
    let p = err_from_is_err_and c.from_residual-in_err-write_made-in_default.result
    c.from_residual-in_err-write_made-in_default.ensures.1 in
    let w = rw c.in-Err.ensures.form at c.in_err-write_made-in_default.ensures.wrote in
    let goes = c.in-Err.ensures.made input h.written h.made_so_far in
    rw (p.1, p.2) (ended_broken c.args.self.now.form input x _ _ _ _ _ before h c.go_on.new.self.made.items
    c.go_on.new.self.rest.items c.go_on.new.self.line _ _ c.write_made.new.self.made.items c.in-Err.fault
    c.in_err-write_made-in_default.field-0.0 c.in_default.not-Memory goes w)

pub returns-in_ok-write_made-in_default : goal.returns-in_ok-write_made-in_default
returns-in_ok-write_made-in_default g c = λ input x before h.
    let w = rw c.in-Err.ensures.form at c.in_ok-write_made-in_default.ensures.wrote in
    let goes = c.in-Err.ensures.made input h.written h.made_so_far in
    ended_refused c.args.self.now.form input x _ _ _ _ _ before h c.go_on.new.self.made.items
    c.go_on.new.self.rest.items c.go_on.new.self.line _ _ c.write_made.new.self.made.items c.in-Err.fault tt
    c.in_default.not-Memory goes w
