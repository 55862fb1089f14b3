-- Lemmas for `message_texts.rt` and `part_texts.rt`: the text of a value and the end of that text are added to the
-- output.
use Rattle.std.proofs.Common.{◌≡◌, inl, inr, ℕ, List, [], ◌++◌, false, Option, Result, Ok, Err, refl, sym, subst, ◌∙◌}
use Rattle.std.proofs.Common.{append-nil, take, Bool, true}
use Rattle.std.specs.Prelude.{if◌then◌else◌}
use Rattle.std.specs.Io.KnownBytes.{Appends}
use Rattle.capn_value.specs.Tree.{Tree}
use Rattle.capn_walk.specs.Accepted.{IsValueOf, IsWalkRefused}
use Rattle.capn_walk.specs.Limits.{Bounds}
use Rattle.capn_walk.specs.declared.walk_answer.Stopped.{Stopped}
use Rattle.capn_canon.specs.declared.refusal.Refusal.{Refusal}
use Rattle.capn_canon.specs.declared.refusal.Refusal.TheVariants as refusals
use Rattle.capn_show.specs.Outgoing.{Outgoing, Adds}
use Rattle.capn_show.specs.Written.{IsWritten, IsUnwritten}
use Rattle.capn_show.specs.declared.fault.Broken.TheVariants as broken
use Rattle.capn_show.specs.declared.fault.ShowFault.{ShowFault}
use Rattle.capn_show.specs.declared.fault.ShowFault.TheVariants as ends
use Rattle.capn_show.proofs.shared.Appended.{both, then-broken, broken-before, same}
use Rattle.capn_serve.specs.Outgoing as served
use Rattle.capn_serve.specs.Service.{DoesService}
use Rattle.capn_serve.specs.declared.position.Position.{Position}
use Rattle.capn_serve.specs.declared.fault.ServeFault.{ServeFault}
use Rattle.capn_serve.specs.declared.fault.ServeFault.TheVariants as faults
use Rattle.capn_commands.specs.inner.AddedParts.{AddsEnd, AddsPart, IsFaultOf}

abbrev Ending : Type 0
Ending = Result (Unit {0}) ServeFault

abbrev stopped : ServeFault → Ending
stopped fault = Err fault

-- ---- the end of a text

-- Case: `q` is `p` with `line` appended to `kept`, and `r` is the output after `q` was flushed (`Flushes`).
pub end_added : (line : List ℕ) (p q r : Outgoing) (end : Ending) → q.taken ≡ p.taken → q.failed ≡ p.failed
    → q.kept ≡ p.kept ++ line → p.failed ≡ false
    → served.Flushes (served.outgoing q.taken q.kept) (served.outgoing r.taken r.kept) r.failed end
    → AddsEnd line p r end
end_added line p q r (Ok u) taken failed kept fine ((w, wrote, is), short, good) = (
  record {
    written = w;
    taken = subst (λ (c : Option (List ℕ)). Appends c r.taken w) taken wrote;
    kept = is ∙ append-nil q.kept ∙ kept;
    failed = good ∙ sym fine;
  },
  short,
)
end_added line p q r (Err faults.Io) taken failed kept fine (io, (count, wrote), broke) = (
  count,
  subst (λ (c : Option (List ℕ)). Appends c r.taken (take count (p.kept ++ line))) taken
      (subst (λ (l : List ℕ). Appends q.taken r.taken (take count l)) kept wrote),
  broke,
)
end_added line p q r (Err faults.Memory) taken failed kept fine (io, begun, broke) = absurd (cc)
end_added line p q r (Err (faults.Refused f)) taken failed kept fine (io, begun, broke) = absurd (cc)

module _ (m : List (List ℕ)) (limits : Bounds) (of : Tree → List ℕ) (line : List ℕ) where
  -- ---- the text of a message, and then its end

  pub part_line : (p q r : Outgoing) (end : Ending) → IsWritten m limits of p q → AddsEnd line q r end
      → AddsPart m limits of line p r end
  part_line p q r (Ok u) shown (added, short) =
      (shown.value, shown.is, both p q r (of shown.value) line shown.text added, short)
  part_line p q r (Err faults.Memory) shown added =
      (shown.value, shown.is, then-broken p q r broken.Memory (of shown.value) line shown.text added)
  part_line p q r (Err faults.Io) shown added =
      (shown.value, shown.is, then-broken p q r broken.Io (of shown.value) line shown.text added)
  part_line p q r (Err (faults.Refused f)) shown added = absurd added

  -- ---- a message that is refused, or whose text breaks off

  part_stop : (s : Stopped) (p q : Outgoing) (fault : ServeFault) → IsFaultOf (ends.Stopped s) fault
      → IsUnwritten m limits of (ends.Stopped s) p q → AddsPart m limits of line p q (stopped fault)
  part_stop s p q fault is (unmoved, refusal) =
      subst (λ (f : ServeFault). AddsPart m limits of line p q (stopped f)) (sym is)
      ((s, refl, refusal), subst (λ (o : Outgoing). Adds p o []) (sym unmoved) (same p))

  pub part_fault : (why : ShowFault) (p q : Outgoing) (fault : ServeFault) → IsFaultOf why fault
      → IsUnwritten m limits of why p q → AddsPart m limits of line p q (stopped fault)
  part_fault (ends.Stopped s) p q fault is begun = part_stop s p q fault is begun
  part_fault ends.Io p q fault is begun =
      subst (λ (f : ServeFault). AddsPart m limits of line p q (stopped f)) (sym is)
      (begun.value, begun.is, broken-before p q broken.Io (of begun.value) line begun.text)
  part_fault ends.Memory p q fault is begun =
      subst (λ (f : ServeFault). AddsPart m limits of line p q (stopped f)) (sym is)
      (begun.value, begun.is, broken-before p q broken.Memory (of begun.value) line begun.text)

-- ---- one of two texts: with marks, or in a style

module _ (m : List (List ℕ)) (limits : Bounds) (of other : Tree → List ℕ) (line rest : List ℕ) (p q : Outgoing)
    (end : Ending) where
  abbrev IsChosen : Bool → Type 0
  IsChosen b =
      AddsPart m limits (λ (v : Tree). if b then of v else other v) (if b then line else rest) p q end

  pub with_marks : (b : Bool) → b ≡ true → AddsPart m limits of line p q end → IsChosen b
  with_marks b is added = subst IsChosen (sym is) added

  pub without_marks : (b : Bool) → b ≡ false → AddsPart m limits other rest p q end → IsChosen b
  without_marks b is added = subst IsChosen (sym is) added

-- ---- the effect of a service

-- A service that adds the text of a message's value and the end `line` of that text, and stays in the state `s`.
module _ {X : Type 0} (serves : X → Position → List ℕ → List (List ℕ) → List ℕ → X → Type 0)
    (refuses : X → Position → List ℕ → List (List ℕ) → Refusal → Type 0) (m : List (List ℕ)) (limits : Bounds)
    (of : Tree → List ℕ) (line : List ℕ) (s : X) (at : Position) (frame : List ℕ)
    (serve : (v : Tree) → IsValueOf m limits v → serves s at frame m (of v ++ line) s)
    (refuse : (r : Refusal) (stop : Stopped) → r ≡ refusals.Walk stop
    → IsWalkRefused m limits stop.fault stop.place stop.paid stop.visits → refuses s at frame m r) (p q : Outgoing)
  where
    abbrev old : served.Outgoing
    old = served.outgoing p.taken p.kept

    abbrev new : served.Outgoing
    new = served.outgoing q.taken q.kept

    adds : (text : List ℕ) → Adds p q text → served.Adds old new text
    adds text h = (h.written, h.taken, h.kept)

    pub does_part : (end : Ending) → p.failed ≡ false → AddsPart m limits of line p q end
        → DoesService serves refuses s at frame m old new q.failed end s
    does_part (Ok u) fine (v, is, h, short) =
        ((of v ++ line, serve v is, adds (of v ++ line) h, h.failed ∙ fine), λ few. short)
    does_part (Err faults.Memory) fine (v, is, (count, h)) =
        (inr (of v ++ line, s, count, serve v is, adds _ h), h.failed ∙ fine)
    does_part (Err faults.Io) fine (v, is, (count, wrote, broke)) =
        ((of v ++ line, s, count, serve v is, wrote), broke)
    does_part (Err (faults.Refused r)) fine ((stop, is, why), h) = (refuse r stop is why, adds [] h, h.failed ∙ fine)
