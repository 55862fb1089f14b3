-- `is_status` is true of the status of each refusal whose reason is true. The status of a refusal is 8 or at least 16.
-- (For `Lent`, `Reported`, `refusal_way` and `write_message`.)
use Rattle.std.proofs.Common.{rules, ◌≢◌, ◌≤◌, ℕ, List, IsTrue}
use Rattle.capn_target.specs.declared.target.Fault.{Fault}
use Rattle.capn_walk.specs.Limits.{Bounds}
use Rattle.capn_canon.specs.declared.form.Form.{Form}
use Rattle.capn_canon.specs.declared.refusal.Refusal.{Refusal}
use Rattle.capn_canon.specs.Refusal.{IsRefused, IsUnaccepted}
use Rattle.capn_c.specs.Held.{IsRefusedHeld}
use Rattle.capn_abi.specs.StatusCodes.{is_status, walk_code, code}

pub walk_listed : (e : Fault) → IsTrue (is_status (walk_code e))
walk_listed e = search rules

pub refused_listed : (form : Form) (bs : List ℕ) (l : Bounds) (r : Refusal) → IsRefused form bs l r
    → IsTrue (is_status (code r))
refused_listed form bs l r h = search rules

pub message_listed : (m : List (List ℕ)) (l : Bounds) (r : Refusal) → IsUnaccepted m l r → IsTrue (is_status (code r))
message_listed m l r h = search rules

pub held_listed : (m : List (List ℕ)) (l : Bounds) (r : Refusal) → IsRefusedHeld m l r → IsTrue (is_status (code r))
held_listed m l r h = search rules

pub above : (r : Refusal) → code r ≢ 8 → 16 ≤ code r
above r h = search rules
