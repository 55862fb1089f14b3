-- The index of a message has as many entries as its walk makes visits. (For `index_in` and `index_message`.)
use Rattle.std.proofs.Common.{◌≡◌, ℕ, ◌*◌, List, length, map, Ok, ap, sym, subst, arith}
use Rattle.std.proofs.lemmas.List.{length-map}
use Rattle.capn_walk.specs.Accepted.{number_of_visits, visits_within}
use Rattle.capn_walk.specs.Index.{IndexesFollowVisits, entry_target, index_of, kept_of, place_of}
use Rattle.capn_walk.specs.Limits.{Bounds}
use Rattle.capn_walk.specs.Surveyed.{IsSurvey}
use Rattle.capn_target.specs.Target.{target}
use Rattle.capn_walk.specs.Visits.{Visit}
use Rattle.capn_walk.specs.declared.entry.Entry.{Entry}
use Rattle.capn_walk.specs.declared.survey_answer.Surveyed.{Surveyed}
use Rattle.capn_canon.specs.SurveyedBytes.{Surveys}
use Rattle.capn_canon.specs.declared.form.Form.{Form}
use Rattle.capn_abi.specs.StatusCodes.{answered}
use Rattle.capn_c.specs.Entries.{HasEntries}
use Rattle.capn_abi.specs.declared.report.CapnReport.{CapnReport}

same_number : {A B C : Type 0} (f : A → C) (g : B → C) (xs : List A) (ys : List B) → map f xs ≡ map g ys
    → length xs ≡ length ys
same_number f g xs ys e = omega (arith, ap length e, length-map xs f, length-map ys g)

pub many_entries : IndexesFollowVisits → (m : List (List ℕ)) (limits : Bounds) (s : Surveyed) → IsSurvey m limits s
    → s.visits ≡ length (index_of m limits)
many_entries law m limits s h =
    let each : length (index_of m limits) ≡ number_of_visits m limits =
    same_number (λ (e : Entry). Ok (entry_target e)) (λ (v : Visit). kept_of (target m (place_of v)))
    (index_of m limits) (visits_within m limits) (law m limits h.is.accepted) in
    omega (arith, h.counts, each)

entries_of_survey : IndexesFollowVisits → (form : Form) (bs : List ℕ) (limits : Bounds) (s : Surveyed)
    → Surveys form bs limits s → HasEntries form bs limits s.visits
entries_of_survey law form bs limits s h = record {
  message = h.message;
  reads = h.reads;
  accepted = h.survey.is.accepted;
  each = many_entries law h.message limits s h.survey;
}

-- The number of visits in the report of an accepted message is the number of entries of its index.
pub entries_told : IndexesFollowVisits → (form : Form) (bs : List ℕ) (limits : Bounds) (s : Surveyed)
    → Surveys form bs limits s → (r : CapnReport) → r ≡ answered (24 * s.visits) s.paid s.visits
    → HasEntries form bs limits r.visits
entries_told law form bs limits s h r e =
    subst (λ (x : CapnReport). HasEntries form bs limits x.visits) (sym e) (entries_of_survey law form bs limits s h)
