-- Lemmas for `make_texts`: the result of a run over texts with lists between quotes.
use Rattle.std.proofs.Common.{◌≢◌, inl, inr, ℕ, List, [], ◌++◌, Bool, Option, IfSome, Result, refl, sym, subst}
use Rattle.std.proofs.lemmas.List.{append-nil}
use Rattle.capn_text.specs.PlainForm.{plain}
use Rattle.capn_text.specs.Unquoting.{Unquoting}
use Rattle.capn_canon.specs.declared.form.Form.{Form}
use Rattle.capn_make.specs.Laws.{RefusalStays}
use Rattle.capn_make.specs.MakeRun.{HasBegunText, HasServed}
use Rattle.capn_make.specs.MadeTexts.{EndsTexts, IsInTime, MadeTexts, OfPlain}
use Rattle.capn_make.specs.inner.SinkRun.{Runs, Taking}
use Rattle.capn_make.specs.inner.TextsParts.{GivesTexts, IsUnderTexts}
use Rattle.capn_make.specs.declared.fault.MakeFault.{MakeFault}
use Rattle.capn_make.specs.declared.fault.MakeFault.TheVariants as faults
use Rattle.capn_make.proofs.SinkRuns.{ahead_of, exactly, here}
use Rattle.capn_make.proofs.UnderTexts.{begun_at, served, timely}

-- `IsUnderTexts` holds for `bytes` and some state of the sink for texts with lists between quotes.
abbrev pub UnderTexts : Form → Taking
UnderTexts form bytes c d = (made : List ℕ) × (rest : List ℕ) × (line : ℕ) × (tested : ℕ) × (q : Unquoting)
    × IsUnderTexts form bytes c d made rest line tested q

module _ {S : Type 0} (form : Form) (Takes : S → Taking)
    (under : (s : S) (bytes : List ℕ) (c d : Option (List ℕ)) → Takes s bytes c d → UnderTexts form bytes c d)
    (last : S) (a b c d : Option (List ℕ)) (read wrote : Bool)
    (r : Result (Unit {0}) MakeFault) (h : Runs Takes (GivesTexts form) faults.Io last a b c d read wrote r) where
  all_served : (s : S) (bytes : List ℕ) (e f : Option (List ℕ)) → Takes s bytes e f → HasServed form (plain bytes) e f
  all_served s bytes e f takes =
      let u = under s bytes e f takes in served form bytes e f u.0 u.1 u.2 u.3 u.4 u.5

  time : RefusalStays → IsInTime form h.bytes
  time stays =
      let p = h.ahead in
      let u = under p.2 p.0 c p.3 p.7 in
      subst (IsInTime form) (sym p.5) (timely form p.0 c p.3 u.0 u.1 u.2 u.3 u.4 u.5 stays p.1 p.6)

  begun_taken : Takes last h.bytes c d → HasBegunText form (plain (h.bytes ++ [])) c d
  begun_taken takes =
      let u = under last h.bytes c d takes in begun_at form h.bytes c d u.0 u.1 u.2 u.3 u.4 u.5 []

  exact : IfSome a (EndsTexts form c d r h.bytes)
  exact =
      exactly Takes (GivesTexts form) faults.Io last a b c d read wrote r h (EndsTexts form c d r h.bytes)
      (λ is input. subst (λ s. EndsTexts form c d s h.bytes input) (sym is) (inr (inl refl))) (λ more given. given.0)

  pub made_of : RefusalStays → MadeTexts form a b c d read wrote r
  made_of stays = record {
    bytes = h.bytes;
    read = h.read;
    exact = exact;
    io = h.broken;
    memory = λ is.
        here Takes (GivesTexts form) faults.Io last a b c d read wrote r h (h.bytes ≢ []) (λ takes io. absurd cc)
        (λ given. given.2 is);
    begun = subst (λ t. HasBegunText form (plain t) c d) (append-nil h.bytes)
        (here Takes (GivesTexts form) faults.Io last a b c d read wrote r h
        (HasBegunText form (plain (h.bytes ++ [])) c d) (λ takes is. begun_taken takes) (λ given. given.1));
    heard = λ failed. all_served last h.bytes c d (h.heard failed);
    ahead = ahead_of Takes (GivesTexts form) faults.Io last a b c d read wrote r h (OfPlain (HasServed form))
        all_served;
    time = time stays;
  }
