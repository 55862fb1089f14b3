use Rattle.std.proofs.Common.{refl, ◌∙◌, arith}
use Rattle.std.proofs.lemmas.Result.{err_from_is_err_and}
use Rattle.capn_make.proofs.Unended.{no_end}
use Rattle.capn_make.proofs.LookedAt.{goes_on_at, made_writes, part_at, refused_at, refuses_at, too_long_at, written_at}
use Rattle.capn_make.proofs.UnderWay.{no_writes}
use Rattle.capn_make.proofs.progress.Progress.look.Goals as goal

pub returns-then-not-is_due-clause-looked : goal.returns-then-not-is_due-clause-looked
returns-then-not-is_due-clause-looked g c = λ input x h.
    let none = rw c.deref.ensures.value at c.if-not-is_due.ensures.none refl in
    let few = rw c.deref.ensures.value at c.if-not-is_due.ensures.few refl in (
      goes_on_at c.args.self.now.form input x _ _ _ _ _ _ h (no_end _ none) few,
      no_writes _ _ _ c.requires.fine (λ e. absurd cc),
    )

pub returns-then-not-has_room-clause-looked : goal.returns-then-not-has_room-clause-looked
returns-then-not-has_room-clause-looked g c = λ input x h.
    let many = rw c.deref-2.ensures.value at c.if-not-has_room.ensures.none refl in
    let v = c.args.self.now.rest in
    let o = v.ok.0 in
    let p = v.ok.1 in
    let s = v.small in (
      too_long_at c.args.self.now.form input x _ _ _ _ _ _ h many (omega arith),
      no_writes _ _ _ c.requires.fine (λ e. absurd cc),
    )

pub find_refusal-requires : goal.find_refusal-requires
find_refusal-requires g c = rw c.deref-2.ensures.value at c.if-not-has_room.ensures.room refl

pub returns-in_err-refusal-clause-looked : goal.returns-in_err-refusal-clause-looked
returns-in_err-refusal-clause-looked g c = λ input x h.
    let p = err_from_is_err_and c.from_residual.result c.from_residual.ensures.1 in
    rw (p.1, p.2) (
      refused_at c.args.self.now.form input x _ _ _ _ _ _ h c.in_err-refusal.ensures.memory,
      no_writes _ _ _ c.requires.fine (λ e. absurd cc),
    )

pub returns-in_err-write_made-clause-looked : goal.returns-in_err-write_made-clause-looked
returns-in_err-write_made-clause-looked g c = λ input x h.
    let p = err_from_is_err_and c.from_residual-in_err-write_made.result c.from_residual-in_err-write_made.ensures.1 in
    let told = c.in_ok-refusal.ensures.found input h.written h.made_so_far in
    let w = rw c.in_ok-refusal.ensures.form at c.in_err-write_made.ensures.wrote in
    rw (p.1, p.2) (part_at c.args.self.now.form input x _ _ _ _ _ _ h c.find_refusal.new.self.made.items
    c.find_refusal.new.self.rest.items c.find_refusal.new.self.line _ _ c.write_made.new.self.made.items
    c.in_ok-refusal.refusal c.in_err-write_made.field-0.0 told w)

pub returns-in-Some-clause-looked : goal.returns-in-Some-clause-looked
returns-in-Some-clause-looked g c = λ input x h.
    let found = rw c.in-Some.is at c.in_ok-refusal.ensures.found in
    let told = found input h.written h.made_so_far in
    let w = rw c.in_ok-refusal.ensures.form at c.in_ok-write_made.ensures.wrote in
    refuses_at c.args.self.now.form input x _ _ _ _ _ _ h c.find_refusal.new.self.made.items
    c.find_refusal.new.self.rest.items c.find_refusal.new.self.line _ _ c.write_made.new.self.made.items c.in-Some.fault
    tt told w

pub returns-clause-looked : goal.returns-clause-looked
returns-clause-looked g c = λ input x h.
    let found = rw c.in_default.is at c.in_ok-refusal.ensures.found in
    let told = found input h.written h.made_so_far in
    let w = rw c.in_ok-refusal.ensures.form at c.in_ok-write_made.ensures.wrote in
    let same = c.in_ok-write_made.ensures.kept in
    let size = c.len-self.ensures ∙ c.write_made.new.self.rest.ok.0 in (
      rw (size, same.0, same.1, same.2, c.in_ok-refusal.ensures.form) (written_at c.args.self.now.form input x _ _ _ _ _
          _ h c.find_refusal.new.self.made.items c.find_refusal.new.self.rest.items c.find_refusal.new.self.line _ _
          c.write_made.new.self.made.items tt told w),
      made_writes c.args.self.now.form input x _ _ _ _ _ _ h c.find_refusal.new.self.made.items
          c.find_refusal.new.self.rest.items c.find_refusal.new.self.line _ _ c.write_made.new.self.made.items tt _ w
          (λ e. absurd cc),
    )
