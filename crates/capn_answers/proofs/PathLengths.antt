-- Lemmas: a path has at most two numbers for each level of depth. (For `SurveyedMismatches` and `WalksTold`.)
use Rattle.std.proofs.Common.{ℕ, zero, suc, ◌*◌, ◌≤◌, List, [], ◌∷◌, length, ap, arith, inl, inr, eq-zero-or-pos}
use Rattle.std.proofs.lemmas.List.{length-append}
use Rattle.capn_words.specs.declared.space.Place.{Place}
use Rattle.capn_value.specs.Cost.{base}
use Rattle.capn_target.specs.declared.target.Target.{Target}
use Rattle.capn_target.specs.declared.target.Target.TheVariants as targets
use Rattle.capn_target.specs.declared.target.Shape.TheVariants as shapes
use Rattle.capn_walk.specs.Accepted.{root}
use Rattle.capn_walk.specs.Limits.{Bounds}
use Rattle.capn_walk.specs.declared.walk_answer.Stopped.{Stopped}
use Rattle.capn_path.specs.Paths.{AreNumbersOf, Leads, IsRefusedAt}
use Rattle.capn_mismatch.specs.Mismatches.{IsMismatch}
use Rattle.capn_mismatch.specs.Owner.{IsOwner}
use Rattle.capn_mismatch.specs.declared.answer.Mismatch.{Mismatch}
use Rattle.capn_mismatch.specs.declared.answer.Mismatch.TheVariants.{Canonical, Segments, Capability, Word, After}
use Rattle.capn_mismatch.specs.declared.whose.Whose.{Whose}
use Rattle.capn_mismatch.specs.declared.whose.Whose.TheVariants.{Pointer, Tag, LastWord}
use Rattle.capn_answers.specs.Mismatches.{owner_path, path_of}

few : (found : Target) (k : ℕ) (numbers : List ℕ) → AreNumbersOf found k numbers → length numbers ≤ 2
few (targets.Content s start (shapes.Rows n a b span) pads) k [] h = absurd h
few (targets.Content s start (shapes.Rows n a b span) pads) k (row ∷ []) h = absurd h
few (targets.Content s start (shapes.Rows n a b span) pads) k (row ∷ (slot ∷ [])) h = omega arith
few (targets.Content s start (shapes.Rows n a b span) pads) k (row ∷ (slot ∷ (x ∷ xs))) h = absurd h
few (targets.Content s start (shapes.Node a b) pads) k [] h = absurd h
few (targets.Content s start (shapes.Node a b) pads) k (slot ∷ []) h = omega arith
few (targets.Content s start (shapes.Node a b) pads) k (slot ∷ (x ∷ xs)) h = absurd h
few (targets.Content s start (shapes.Many width n) pads) k [] h = absurd h
few (targets.Content s start (shapes.Many width n) pads) k (slot ∷ []) h = omega arith
few (targets.Content s start (shapes.Many width n) pads) k (slot ∷ (x ∷ xs)) h = absurd h
few targets.Nil k [] h = absurd h
few targets.Nil k (slot ∷ []) h = omega arith
few targets.Nil k (slot ∷ (x ∷ xs)) h = absurd h
few (targets.Cap index) k [] h = absurd h
few (targets.Cap index) k (slot ∷ []) h = omega arith
few (targets.Cap index) k (slot ∷ (x ∷ xs)) h = absurd h

-- A path from a slot has at most two numbers for each level of `depth`.
short : (m : List (List ℕ)) (b depth : ℕ) (from : Place) (path : List ℕ) (to : Place) (between : ℕ)
    → Leads m b depth from path to between → length path ≤ 2 * depth
short m b zero from [] to between h = omega arith
short m b zero from (i ∷ path) to between h = absurd h
short m b (suc depth) from [] to between h = omega arith
short m b (suc depth) from (i ∷ path) to between h =
    let two = few h.found (length h.before) h.numbers h.are in
    let later = short m b depth h.slot h.rest to h.later h.onward in
    omega (arith, two, later, ap length h.is, length-append h.numbers h.rest)

pub stop_short : (m : List (List ℕ)) (limits : Bounds) (s : Stopped) (path : List ℕ) → IsRefusedAt m limits s path
    → length path ≤ 2 * limits.depth
stop_short m limits s path h = elim (eq-zero-or-pos s.visits) [
  | inl z ↦ omega (arith, ap length (h.none z))
  | inr p ↦
      short m (base limits.tariff) limits.depth root path s.place _ (h.leads p)
]

owner_short : {A : Type 0} (canonical : List ℕ) (limits : Bounds) (w : ℕ) (whose : Whose A)
    → IsOwner canonical limits w whose → length (owner_path whose) ≤ 2 * limits.depth
owner_short canonical limits w (Pointer path) (n, leads) =
    short (canonical ∷ []) (base limits.tariff) limits.depth root path.items _ n leads
owner_short canonical limits w (Tag path) h =
    short (canonical ∷ []) (base limits.tariff) limits.depth root path.items h.slot h.number h.leads
owner_short canonical limits w (LastWord path) h =
    short (canonical ∷ []) (base limits.tariff) limits.depth root path.items h.slot h.number h.leads

pub mismatch_short : {A : Type 0} (m : List (List ℕ)) (limits : Bounds) (d : Mismatch A) → IsMismatch m limits d
    → length (path_of d) ≤ 2 * limits.depth
mismatch_short m limits Canonical h = omega arith
mismatch_short m limits (Segments n) h = omega arith
mismatch_short m limits (Capability k path) (v, is, one, found, first) =
    short m (base limits.tariff) limits.depth root path.items first.at first.number first.visited.leads
mismatch_short m limits (Word w is c whose) (words, canonical, compares, apart) =
    owner_short canonical limits w whose apart.1
mismatch_short m limits (After w is) h = omega arith
