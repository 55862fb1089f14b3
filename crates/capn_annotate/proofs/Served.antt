-- The service does what `DoesService` states.
use Rattle.std.proofs.Common.{◌≡◌, ◌≢◌, ◌⊎◌, inl, inr, ℕ, ◌==◌, List, Bool, true, false, Result, Ok, Err, refl}
use Rattle.std.proofs.Common.{ap, sym, subst, IsErrAnd, arith}
use Rattle.std.proofs.lemmas.Bool.Decides.{nat_tests}
use Rattle.capn_walk.specs.Accepted.{IsAccepted, IsWalkRefused}
use Rattle.capn_walk.specs.declared.walk_answer.Stopped.{Stopped}
use Rattle.capn_target.specs.declared.target.Fault.TheVariants as walk_faults
use Rattle.capn_canon.specs.declared.refusal.Refusal.TheVariants as refusals
use Rattle.capn_canon.proofs.shared.NotRefused.{accepted-not_refused}
use Rattle.capn_serve.specs.declared.position.Position.{Position}
use Rattle.capn_serve.specs.declared.fault.ServeFault.{ServeFault}
use Rattle.capn_serve.specs.declared.fault.ServeFault.TheVariants as faults
use Rattle.capn_serve.specs.Outgoing.{Outgoing}
use Rattle.capn_serve.specs.Service.{DoesService}
use Rattle.capn_serve.proofs.shared.Adding.{added_none}
use Rattle.capn_cover.specs.declared.covered.Covered.{Covered}
use Rattle.capn_serve.specs.Table.{table_words}
use Rattle.capn_annotate.specs.Annotation.{IsAnnotation, all_lines, annotation, head_text, refuses, serves}
use Rattle.capn_annotate.specs.Table.{table_text}
use Rattle.capn_annotate.specs.Summary.{summary_text}
use Rattle.capn_annotate.specs.declared.summary.Summary.{Summary}
use Rattle.capn_annotate.specs.declared.annotate_order.AnnotateOrder.{AnnotateOrder}
use Rattle.capn_annotate.specs.inner.Adding.{AddsText, AddsAnnotation}

abbrev Ending : Type 0
Ending = Result (Unit {0}) ServeFault

abbrev stopped : ServeFault → Ending
stopped fault = Err fault

module _ (s : AnnotateOrder) (at : Position) (frame : List ℕ) (m : List (List ℕ)) (a b : Outgoing) (failed : Bool) where
  abbrev Does : Ending → Type 0
  Does r = DoesService serves refuses s at frame m a b failed r s

  does_text : (r : Ending) (text : List ℕ) → IsAnnotation s at frame m text → AddsText text a b failed r → Does r
  does_text (Ok u) text is (adds, fine, short) = ((text, (is, refl), adds, fine), short)
  does_text (Err faults.Memory) text is ((count, adds), fine) = (inr (text, s, count, (is, refl), adds), fine)
  does_text (Err faults.Io) text is ((count, breaks), broken) = ((text, s, count, (is, refl), breaks), broken)
  does_text (Err (faults.Refused r)) text is none = absurd none

  pub does_annotation : (r : Ending) → IsAccepted m s.limits
      → AddsAnnotation (IsAnnotation s at frame m) a b failed r → Does r
  does_annotation r accepted (inl (text, is, adds)) = does_text r text is adds
  does_annotation r accepted (inr (memory, none, fine)) =
      subst Does (sym memory)
      (inl (none, λ e refused. accepted-not_refused m s.limits refused.0 accepted refused.2), fine)

module _ (s : AnnotateOrder) (at : Position) (frame : List ℕ) (m : List (List ℕ)) (a : Outgoing) (failed : Bool)
    (fine : failed ≡ false) where
  abbrev Stops : Ending → Type 0
  Stops r = DoesService serves refuses s at frame m a a failed r s

  -- The message is refused, or an allocation was refused before anything was added.
  pub does_stop : (stop : Stopped) (fault : ServeFault)
      → ((stop.fault ≡ walk_faults.Memory) × (fault ≡ faults.Memory))
      ⊎ ((stop.fault ≢ walk_faults.Memory) × (fault ≡ faults.Refused (refusals.Walk stop)))
      → (stop.fault ≡ walk_faults.Memory)
      ⊎ IsWalkRefused m s.limits stop.fault stop.place stop.paid stop.visits
      → (stop.fault ≡ walk_faults.Memory → IsAccepted m s.limits) → Stops (stopped fault)
  does_stop stop fault (inl (memory, is)) why accepted =
      subst (λ (f : ServeFault). Stops (stopped f)) (sym is)
      (inl (added_none a, λ e refused. accepted-not_refused m s.limits refused.0 (accepted memory) refused.2), fine)
  does_stop stop fault (inr (other, is)) (inl memory) accepted = absurd (other memory)
  does_stop stop fault (inr (other, is)) (inr why) accepted =
      subst (λ (f : ServeFault). Stops (stopped f)) (sym is) ((stop, refl, why), added_none a, fine)

-- An allocation was refused before anything was added.
pub nothing : (Is : List ℕ → Type 0) (a : Outgoing) (failed : Bool) → failed ≡ false → (r : Ending)
    → IsErrAnd r (λ (e : ServeFault). e ≡ faults.Memory) → AddsAnnotation Is a a failed r
nothing Is a failed fine (Ok u) is = absurd is
nothing Is a failed fine (Err e) is = inr (ap stopped is, added_none a, fine)

-- The text of a message, if only a summary is asked for, and if not.
module _ (order : AnnotateOrder) (frame : List ℕ) (m : List (List ℕ)) (words : List Covered) (summary : Summary) where
  pub summary_alone : order.summary ≡ true → summary_text summary ≡ annotation order frame m words summary
  summary_alone is = rw is refl

  pub with_lines : (table levels : ℕ) → table ≡ table_words order.form m → levels ≡ order.limits.depth
      → order.summary ≡ false
      → all_lines frame m words table levels summary ≡ annotation order frame m words summary
  with_lines table levels tables depth is = rw (tables, depth, is) refl

-- A table that has words has a line.
with_table-at : (m : List (List ℕ)) (frame : List ℕ) (offset table : ℕ) (b : Bool) → (table == 0) ≡ b → table ≢ 0
    → table_text m frame offset table ≡ head_text m frame offset table
with_table-at m frame offset table true e some = let z : table ≡ 0 = grind (arith, nat_tests) in absurd (some z)
with_table-at m frame offset table false e some = rw e refl

pub with_table : (m : List (List ℕ)) (frame : List ℕ) (offset table : ℕ) → table ≢ 0
    → table_text m frame offset table ≡ head_text m frame offset table
with_table m frame offset table some = with_table-at m frame offset table (table == 0) refl some
