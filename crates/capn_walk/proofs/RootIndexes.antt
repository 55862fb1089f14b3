-- If indexing the root's slot gives `Ok`, the room has the index of the message. If indexing gives an error, the
-- message is refused. (For `index_into_counted`.)
use Rattle.std.proofs.Common.{◌≡◌, ◌⊎◌, inl, inr, true, ℕ, suc, ◌<◌, List, [], ◌∷◌, length, map, set}
use Rattle.std.proofs.Common.{Ok, Err, refl, ap, sym, ◌∙◌}
use Rattle.capn_words.specs.Message.{segment_at}
use Rattle.capn_value.specs.Cost.{base}
use Rattle.capn_walk.specs.declared.entry.Entry.{Entry}
use Rattle.capn_walk.specs.declared.entry.Indexed.{Indexed}
use Rattle.capn_target.specs.declared.target.Target.{Target}
use Rattle.capn_target.specs.declared.target.Fault.TheVariants as faults
use Rattle.capn_walk.specs.declared.walk_answer.Stopped.{Stopped}
use Rattle.capn_target.specs.Target.{target}
use Rattle.capn_walk.specs.Visits.{Visit, visits}
use Rattle.capn_walk.specs.inner.Verdict.{judge}
use Rattle.capn_walk.specs.Accepted.{root, may_be_root, IsWalkRefused, visits_within}
use Rattle.capn_walk.specs.Limits.{Bounds}
use Rattle.capn_walk.specs.Index.{entries, filled, IsIndexedAs}
use Rattle.capn_walk.specs.inner.IndexRoom.{laid, Indexes}
use Rattle.capn_walk.proofs.shared.Stops.{accepted-within}
use Rattle.capn_walk.proofs.RootWalks.{from-root, refused-below}
use Rattle.capn_walk.proofs.FilledRoom.{as-many-entries}

-- ---- a room that is filled from its beginning

laid-nothing : {A : Type 0} (f : Entry → A) (i : ℕ) (es : List Entry) → laid f i es [] ≡ []
laid-nothing f i [] = refl
laid-nothing f i (e ∷ es) = laid-nothing f (suc i) es

laid-behind : {A : Type 0} (f : Entry → A) (i : ℕ) (es : List Entry) (room : List A) (x : A)
    → laid f (suc i) es (x ∷ room) ≡ x ∷ laid f i es room
laid-behind f i [] room x = refl
laid-behind f i (e ∷ es) room x = laid-behind f (suc i) es (set room i (f e)) x

laid-filled : {A : Type 0} (f : Entry → A) (es : List Entry) (room : List A)
    → laid f 0 es room ≡ filled (map f es) room
laid-filled f [] [] = refl
laid-filled f [] (x ∷ room) = refl
laid-filled f (e ∷ es) [] = laid-nothing f 1 es
laid-filled f (e ∷ es) (x ∷ room) =
    laid-behind f 0 es room (f e) ∙ ap (λ r. f e ∷ r) (laid-filled f es room)

module _ {A : Type 0} (f : Entry → A) (m : List (List ℕ)) (limits : Bounds) (some : 0 < length (segment_at m 0))
    (t : Target) (e : target m root ≡ Ok t) (kind : may_be_root t ≡ true) where
  pub indexed : (old new : List A) (told : Indexed)
      → Indexes limits.budget (visits m (base limits.tariff) limits.depth root) 1 f (entries m limits.depth root) 0 old
      new (Ok told) → IsIndexedAs f m limits old new told
  indexed old new told (g, h) =
      let same = from-root m (base limits.tariff) limits.depth t e kind in
      let (w, p, k) =
      accepted-within limits.budget (visits_within m limits) told.paid told.visits (ap (judge limits.budget) same
      ∙ g.is) in
      record {
        accepted = record { some = some; within = w };
        entries = h.is ∙ laid-filled f (entries m limits.depth root) old;
        pays = p;
        counts = k;
        each = as-many-entries m (base limits.tariff) limits.depth root
            ∙ ap (λ (vs : List Visit). length vs) (sym same);
      }

  pub unindexed : (old new : List A) (s : Stopped)
      → Indexes limits.budget (visits m (base limits.tariff) limits.depth root) 1 f (entries m limits.depth root) 0 old
      new (Err s) → IsWalkRefused m limits s.fault s.place s.paid s.visits
  unindexed old new s (r, other) = but (refused-below m limits some t e kind s r)
    where
      but : (s.fault ≡ faults.Memory) ⊎ IsWalkRefused m limits s.fault s.place s.paid s.visits
          → IsWalkRefused m limits s.fault s.place s.paid s.visits
      but (inl x) = absurd (other x)
      but (inr is) = is
