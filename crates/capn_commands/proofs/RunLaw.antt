-- Lemmas for `perform`, `run` and `run_bare_piece`: `PlanEndsAs` holds for the complete input of a run.
use Rattle.std.proofs.Common.{◌≡◌, ◌⊎◌, inl, inr, ℕ, ◌+◌, ◌≤◌, ◌^◌, List, [], Bool, Option, None, Some, IfSome, Result}
use Rattle.std.proofs.Common.{Err, refl, ap, sym, subst}
use Rattle.std.proofs.KnownBytes.{Appends-nil}
use Rattle.capn_commands.specs.Text.{taken_of, has_more, HasEnded, HasWritten, IsFront, PlanEndsAs, PlanBegins}
use Rattle.capn_commands.specs.CommandRun.{Runs}
use Rattle.capn_commands.specs.inner.ReadInput.{HasRead, Kept}
use Rattle.capn_commands.specs.declared.plan.Plan.{Plan}
use Rattle.capn_commands.specs.declared.plan.Plan.TheVariants as plans
use Rattle.capn_commands.specs.declared.fault.ToolFault.{ToolFault}
use Rattle.capn_commands.specs.declared.fault.ToolFault.TheVariants as faults
use Rattle.capn_commands.proofs.ReadMore.{kept_all}

front_none : (plan : Plan) (bytes : List ℕ) (is_longer : Bool) → IsFront plan bytes is_longer []
front_none (plans.Whole whole) bytes is_longer = inl refl
front_none (plans.Each piece limits) bytes is_longer = ([], bytes, record { each = tt; is = refl }, refl)
front_none (plans.Packed piece limits) bytes is_longer = (
  [],
  [],
  [],
  record { groups = []; rest = bytes; each = tt; text = refl; content = refl },
  record { each = tt; is = refl },
  refl,
)

pub begins_none : (plan : Plan) (old new writer : Option (List ℕ)) → HasRead old new (λ n. n ≤ 2 ^ 32 + 1)
    → PlanBegins plan old new writer writer
begins_none plan old new writer (bytes, read, bound) = (
  bytes,
  record {
    read = read;
    bounded = bound;
    written = ([], 0, front_none plan (taken_of bytes) (has_more bytes), Appends-nil writer);
  },
)

pub begins_kept : (plan : Plan) (old new writer written : Option (List ℕ)) (kept : List ℕ) (is_longer : Bool)
    → (bytes : List ℕ) × Kept old new kept is_longer bytes
    → HasWritten plan kept is_longer writer written → PlanBegins plan old new writer written
begins_kept plan old new writer written kept is_longer (bytes, k) h = (
  bytes,
  record {
    read = k.read;
    bounded = k.bounded;
    written =
        subst (λ (b : Bool). HasWritten plan (taken_of bytes) b writer written) (sym k.more)
        (subst (λ (xs : List ℕ). HasWritten plan xs is_longer writer written) (sym k.are) h);
  },
)

pub ends_kept : (plan : Plan) (old new writer written : Option (List ℕ)) (kept : List ℕ) (is_longer : Bool)
    (r : Result (Unit {0}) ToolFault) → (bytes : List ℕ) × Kept old new kept is_longer bytes
    → HasEnded plan kept is_longer writer written r → IfSome old (PlanEndsAs plan writer written r)
ends_kept plan None new writer written kept is_longer r k h = tt
ends_kept plan (Some all) new writer written kept is_longer r (bytes, k) h =
    let same = kept_all (Some all) new kept bytes is_longer k in
    subst (λ (b : Bool). HasEnded plan (taken_of all) b writer written r) (sym same.1)
    (subst (λ (xs : List ℕ). HasEnded plan xs is_longer writer written r) (sym same.0) h)

-- Case: `fault` is `Memory` or `Io`.
pub ends_unread : (plan : Plan) (old writer written : Option (List ℕ)) (fault : ToolFault) → (fault ≡ faults.Memory)
    ⊎ (fault ≡ faults.Io) → IfSome old (PlanEndsAs plan writer written (Err fault))
ends_unread plan None writer written fault h = tt
ends_unread plan (Some all) writer written fault (inl m) = inl (ap (λ (f : ToolFault). Err f) m)
ends_unread plan (Some all) writer written fault (inr e) = inr (inl (ap (λ (f : ToolFault). Err f) e))

pub ends_planned : (plan other : Plan) (known old new : Option (List ℕ)) (r : Result (Unit {0}) ToolFault)
    → plan ≡ other → IfSome known (PlanEndsAs plan old new r) → IfSome known (PlanEndsAs other old new r)
ends_planned plan other known old new r e h = subst (λ (p : Plan). IfSome known (PlanEndsAs p old new r)) e h

pub runs_planned : (plan this : Plan) (a b c d : Option (List ℕ)) (reader_failed writer_failed : Bool)
    (r : Result (Unit {0}) ToolFault) → plan ≡ this → Runs this a b c d reader_failed writer_failed r
    → Runs plan a b c d reader_failed writer_failed r
runs_planned plan this a b c d reader_failed writer_failed r is run =
    subst (λ (p : Plan). Runs p a b c d reader_failed writer_failed r) (sym is) run
