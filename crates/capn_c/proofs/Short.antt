-- There are at most 8 canonical bytes for each word that the walk of an accepted message pays, and 8 more. (For
-- `survey_held` and `write_message`.)
use Rattle.std.proofs.Common.{ℕ, ◌+◌, ◌*◌, ◌^◌, ◌≤◌, List, length, Result, IfOk, arith}
use Rattle.std.proofs.lemmas.Result.{IfOk-weaker}
use Rattle.capn_words.specs.Message.{IsMessage}
use Rattle.capn_value.specs.Tree.{Tree}
use Rattle.capn_value.specs.Cost.{base}
use Rattle.capn_walk.specs.Accepted.{root, IsValueOf, paid}
use Rattle.capn_walk.specs.Limits.{Bounds}
use Rattle.capn_walk.specs.Surveyed.{IsSurvey}
use Rattle.capn_walk.specs.declared.survey_answer.Surveyed.{Surveyed}
use Rattle.capn_walk.proofs.shared.Fitting.{fits-root, root-costs}
use Rattle.capn_walk.proofs.shared.InRangeAt.{in_range-at}
use Rattle.capn_layout.proofs.shared.Room.{length-canon, room}
use Rattle.capn_layout.proofs.shared.Sound.{sound}
use Rattle.capn_canon.specs.Layout.{canon}
use Rattle.capn_canon.specs.declared.refusal.Refusal.{Refusal}

pub short : (m : List (List ℕ)) (limits : Bounds) (v : Tree) → IsMessage m → limits.budget ≤ 2 ^ 28 → limits.depth ≤ 256
    → IsValueOf m limits v → length (canon v) ≤ 8 * (paid m limits + 1)
short m limits v is small shallow h =
    let f = fits-root m (base limits.tariff) limits.budget limits.depth v small shallow h.accepted.within h.is in
    let r = in_range-at m is.each v root h.is in
    let c = root-costs m (base limits.tariff) limits.depth v h.is h.accepted.within.all in
    let l = length-canon v (sound v f r) in
    let n = (room v f r).1 (base limits.tariff) in
    let x = c.0 in
    omega arith

pub surveyed_short : (m : List (List ℕ)) (limits : Bounds) (r : Result Surveyed Refusal) → IsMessage m
    → limits.budget ≤ 2 ^ 28 → limits.depth ≤ 256 → IfOk r (λ s. IsSurvey m limits s)
    → IfOk r (λ s. (v : Tree) → IsValueOf m limits v → length (canon v) ≤ 8 * (s.paid + 1))
surveyed_short m limits r is small shallow = IfOk-weaker r _ _ (λ s h v k.
    let l = short m limits v is small shallow k in
    let e = h.pays in
    omega arith)
