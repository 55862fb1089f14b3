-- Lemmas for `make`: the result of a run over texts.
use Rattle.std.proofs.Common.{◌≡◌, ◌≢◌, inl, inr, ℕ, List, [], ◌++◌, Bool, Option, IfSome, Result, Err}
use Rattle.std.proofs.Common.{refl, sym, subst}
use Rattle.std.proofs.lemmas.List.{append-nil}
use Rattle.capn_canon.specs.declared.form.Form.{Form}
use Rattle.capn_make.specs.Laws.{RefusalStays}
use Rattle.capn_make.specs.MakeRun.{AreInTime, EndsAs, HasBegunText, HasServed, Made, StopsInTime, TakesBytes}
use Rattle.capn_make.specs.inner.RunParts.{GivesMade, IsUnderWay}
use Rattle.capn_make.specs.inner.SinkRun.{Runs, Taking}
use Rattle.capn_make.specs.declared.fault.MakeFault.{MakeFault}
use Rattle.capn_make.specs.declared.fault.MakeFault.TheVariants as faults
use Rattle.capn_make.proofs.SinkRuns.{ahead_of, exactly, here}
use Rattle.capn_make.proofs.UnderWay.{begun_by, served, timely}

-- `IsUnderWay` holds for `bytes` and some state of the sink for texts.
abbrev pub UnderWay : Form → Taking
UnderWay form bytes c d = (made : List ℕ) × (rest : List ℕ) × (line : ℕ) × (tested : ℕ)
    × IsUnderWay form bytes c d made rest line tested

module _ {S : Type 0} (form : Form) (Takes : S → Taking)
    (under : (s : S) (bytes : List ℕ) (c d : Option (List ℕ)) → Takes s bytes c d → UnderWay form bytes c d)
    (last : S) (a b c d : Option (List ℕ)) (read wrote : Bool)
    (r : Result (Unit {0}) MakeFault) (h : Runs Takes (GivesMade form) faults.Io last a b c d read wrote r) where
  all_served : (s : S) (bytes : List ℕ) (e f : Option (List ℕ)) → Takes s bytes e f → HasServed form bytes e f
  all_served s bytes e f takes =
      let u = under s bytes e f takes in served form bytes e f u.0 u.1 u.2 u.3 u.4

  begun : HasBegunText form h.bytes c d
  begun = subst (λ t. HasBegunText form t c d) (append-nil h.bytes)
      (here Takes (GivesMade form) faults.Io last a b c d read wrote r h (HasBegunText form (h.bytes ++ []) c d)
      (λ takes is. begun_by form h.bytes [] c d (all_served last h.bytes c d takes)) (λ given. given.1))

  exact : IfSome a (EndsAs form c d r)
  exact =
      exactly Takes (GivesMade form) faults.Io last a b c d read wrote r h (EndsAs form c d r)
      (λ is input. subst (λ s. EndsAs form c d s input) (sym is) (inr (inl refl))) (λ more given. given.0)

  pub made_of : Made form a b c d read wrote r
  made_of = record {
    exact = exact;
    io = h.broken;
    begun = (h.bytes, h.read, begun);
    heard = λ failed. (h.bytes, h.read, all_served last h.bytes c d (h.heard failed));
    ahead = (
      h.bytes,
      h.read,
      ahead_of Takes (GivesMade form) faults.Io last a b c d read wrote r h (HasServed form) all_served,
    );
  }

  pub stops_of : RefusalStays → StopsInTime form a b
  stops_of stays =
      let p = h.ahead in
      let u = under p.2 p.0 c p.3 p.7 in (
        h.bytes,
        h.read,
        subst (AreInTime form) (sym p.5) (timely form p.0 c p.3 u.0 u.1 u.2 u.3 u.4 stays p.1 p.6),
      )

  pub memory_of : r ≡ Err faults.Memory → TakesBytes a b
  memory_of is = (
    h.bytes,
    h.read,
    here Takes (GivesMade form) faults.Io last a b c d read wrote r h (h.bytes ≢ []) (λ takes io. absurd cc)
        (λ given. given.2 is),
  )
