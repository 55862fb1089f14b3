-- Lemmas for `run_cmp`: `IsFaithful` holds for the end of a run.
use Rattle.std.proofs.Common.{◌≡◌, ℕ, Bool, true, false, Result, Ok, Err, refl, cond, nat_lt}
use Rattle.capn_serve.specs.declared.fault.RunFault.{RunFault}
use Rattle.capn_serve.specs.declared.fault.RunFault.TheVariants as run_faults
use Rattle.capn_serve.proofs.shared.Finishes.{IsFaithful}
use Rattle.capn_cmp.specs.CmpRun.{cmp_finish, cmp_fold, first_run, found_by}
use Rattle.capn_cmp.specs.declared.cmp_order.CmpOrder.{CmpOrder}
use Rattle.capn_cmp.specs.declared.cmp_run.Comparison.{Comparison}
use Rattle.capn_cmp.specs.declared.cmp_run.Comparison.TheVariants as comparisons
use Rattle.capn_cmp.specs.declared.fault.CmpFault.{CmpFault}
use Rattle.capn_cmp.specs.declared.fault.CmpFault.TheVariants as faults

abbrev Found : Type 0
Found = Result Comparison CmpFault

abbrev io : Found
io = Err (faults.Run run_faults.Io)

same_fault : (e g : RunFault) → faults.Run e ≡ faults.Run g → e ≡ g
same_fault e g is = let k : e ≡ g = cc in k

few_not_io : (few : Bool) → cond few (Err faults.TooFew) (Ok comparisons.Same) ≡ io → ⊥
few_not_io true is = absurd (cc)
few_not_io false is = absurd (cc)

found_not_io : (differs : Bool) (n : ℕ) → found_by differs n ≡ io → ⊥
found_not_io true n is = absurd (cc)
found_not_io false n is = few_not_io (nat_lt n 2) is

pub cmp_faithful : (order : CmpOrder) → IsFaithful (cmp_fold order) (first_run order) cmp_finish
cmp_faithful order = record {
  memory = λ y. refl;
  io = λ y. refl;
  of_memory = λ y e is. same_fault e run_faults.Memory is;
  of_io = λ y e is. same_fault e run_faults.Io is;
  not_io = λ y is. found_not_io y.service.differs y.at.index is;
  left = λ z y frame message r h. (refl, λ came. refl);
}
