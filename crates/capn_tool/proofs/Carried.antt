-- Lemmas on a command that was carried out, derived from the end of its run and the flush after the run. (For
-- `carry_out`.)
use Rattle.std.proofs.Common.{◌≡◌, ◌⊎◌, ◌↔◌, inl, inr, ℕ, List, [], Bool, true, Option, Some, None, Result}
use Rattle.std.proofs.Common.{Ok, Err, IfSome, IsErrOf, refl, sym, subst, ◌∙◌}
use Rattle.std.specs.Io.KnownBytes.{Keeps}
use Rattle.capn_tool.specs.Flushed.{CarriesOut, EndsByText, EndsFlushed}
use Rattle.capn_tool.specs.Course.{course}
use Rattle.capn_commands.specs.CommandRun.{HasWrittenAll, HasWrittenAllPacked, KeepsUp, MayNeedMemory, PlanIsAhead}
use Rattle.capn_commands.specs.CommandRun.{PlanKeepsUp, StaysAhead, StaysAheadAs}
use Rattle.capn_commands.specs.Plan.{plan_of}
use Rattle.capn_commands.specs.Text.{Begins, EndsAs, EndsBy, HasEnded, IsDue}
use Rattle.capn_commands.specs.declared.command.Command.{Command}
use Rattle.capn_commands.specs.declared.plan.Plan.{Plan}
use Rattle.capn_commands.specs.declared.plan.Plan.TheVariants as plans
use Rattle.capn_commands.specs.declared.fault.ToolFault.{ToolFault}
use Rattle.capn_commands.specs.declared.fault.ToolFault.TheVariants as faults
use Rattle.capn_tool.proofs.Written.{kept}

abbrev Ending : Type 0
Ending = Result (Unit {0}) ToolFault

abbrev stopped : ToolFault → Ending
stopped fault = Err fault

-- The result `s` after the flush is the result `r` of the run, or `Io`.
abbrev Flushed : Ending → Ending → Type 0
Flushed r s = (s ≡ r) ⊎ (s ≡ Err faults.Io)

flushed : (r s : Ending) (old new : Bool) → EndsFlushed faults.Io r old new s → Flushed r s
flushed (Ok u) s old new (inl (is, same)) = inl is
flushed (Ok u) s old new (inr (is, failed)) = inr is
flushed (Err fault) s old new (is, failed) = inl is

ended : (plan : Plan) (bytes : List ℕ) (is_longer : Bool) (c m d : Option (List ℕ)) (r s : Ending)
    → Keeps m d → Flushed r s → HasEnded plan bytes is_longer c m r → HasEnded plan bytes is_longer c d s
ended plan bytes is_longer c m d r s k (inr io) h = inr (inl io)
ended plan bytes is_longer c m d r s k (inl e) (inl memory) = inl (e ∙ memory)
ended plan bytes is_longer c m d r s k (inl e) (inr (inl io)) = inr (inl (e ∙ io))
ended plan bytes is_longer c m d r s k (inl e) (inr (inr (text, due, a))) =
    inr (inr (text, subst (λ (x : Ending). IsDue plan bytes is_longer text x) (sym e) due, kept c m d text k a))

ended_by : (c m d : Option (List ℕ)) (r s : Ending) (text : List ℕ) (due : Ending) → Keeps m d → Flushed r s
    → EndsBy text due c m r → EndsBy text due c d s
ended_by c m d r s text due k (inr io) h = inr (inl io)
ended_by c m d r s text due k (inl e) (inl memory) = inl (e ∙ memory)
ended_by c m d r s text due k (inl e) (inr (inl io)) = inr (inl (e ∙ io))
ended_by c m d r s text due k (inl e) (inr (inr (is, a))) = inr (inr (e ∙ is, kept c m d text k a))

exact : (command : Command) (a c m d : Option (List ℕ)) (r s : Ending) → Keeps m d → Flushed r s
    → IfSome a (EndsAs command c m r) → IfSome a (EndsAs command c d s)
exact command None c m d r s k f h = tt
exact command (Some input) c m d r s k f h = ended _ _ _ c m d r s k f h

only : (command : Command) (a c m d : Option (List ℕ)) (r s : Ending) → Keeps m d → Flushed r s
    → IfSome a (EndsByText command c m r) → IfSome a (EndsByText command c d s)
only command None c m d r s k f h = tt
only command (Some input) c m d r s k f h = λ text due is. ended_by c m d r s text due k f (h text due is)

begun : (command : Command) (a b c m d : Option (List ℕ)) → Keeps m d → Begins command a b c m → Begins command a b c d
begun command a b c m d k (bytes, h) = (
  bytes,
  record {
    read = h.read;
    bounded = h.bounded;
    written = (h.written.0, h.written.1, h.written.2, kept c m d _ k h.written.3);
  },
)

keeps_up : (plan : Plan) (a b c m d : Option (List ℕ)) → Keeps m d → PlanKeepsUp plan a b c m → PlanKeepsUp plan a b c d
keeps_up (plans.Whole whole) a b c m d k h = kept c m d [] k h
keeps_up (plans.Each piece limits) a b c m d k (bytes, text, due, read, is, written) =
    (bytes, text, due, read, is, kept c m d text k written)
keeps_up (plans.Packed piece limits) a b c m d k (bytes, text, due, read, is, written) =
    (bytes, text, due, read, is, kept c m d text k written)

stays : (Written : List ℕ → Option (List ℕ) → Option (List ℕ) → Type 0) (a b c m d : Option (List ℕ)) → Keeps m d
    → StaysAhead Written a b c m → StaysAhead Written a b c d
stays Written a b c m d k (bytes, read, (before, piece, mid, more, is, small, all, wrote)) =
    (bytes, read, (before, piece, mid, more, is, small, all, kept mid m d more k wrote))

ahead : (plan : Plan) (a b c m d : Option (List ℕ)) → Keeps m d → PlanIsAhead plan a b c m → PlanIsAhead plan a b c d
ahead (plans.Whole whole) a b c m d k h = tt
ahead (plans.Each piece limits) a b c m d k h = stays (HasWrittenAll piece limits) a b c m d k h
ahead (plans.Packed piece limits) a b c m d k h = stays (HasWrittenAllPacked piece limits) a b c m d k h

memory : (r s : Ending) (old new : Bool) → EndsFlushed faults.Io r old new s → IsErrOf s faults.Memory
    → IsErrOf r faults.Memory
memory (Ok u) s old new (inl (is, same)) bad = absurd (let no : Ok u ≡ Err faults.Memory = sym is ∙ bad in cc)
memory (Ok u) s old new (inr (is, failed)) bad =
    absurd (let no : stopped faults.Io ≡ stopped faults.Memory = sym is ∙ bad in cc)
memory (Err fault) s old new (is, failed) bad = sym is ∙ bad

-- The input or the output has failed in the run.
abbrev InRun : Bool → Bool → Type 0
InRun unread old = (unread ≡ true) ⊎ (old ≡ true)

io : (r s : Ending) (unread old new : Bool) → EndsFlushed faults.Io r old new s
    → (IsErrOf r faults.Io ↔ InRun unread old) → IsErrOf s faults.Io ↔ (InRun unread old ⊎ ((r ≡ Ok tt) × (new ≡ true)))
io (Ok u) s unread old new (inl (is, same)) g = (
  λ bad. absurd (let no : Ok u ≡ Err faults.Io = sym is ∙ bad in cc),
  λ h. elim h [
    | inl run ↦ absurd (let no = g.1 run in cc)
    | inr flush ↦ absurd (let no = g.1 (inr (sym same ∙ flush.1)) in cc)
  ],
)
io (Ok u) s unread old new (inr (is, failed)) g = (λ _. inr (refl, failed), λ _. is)
io (Err fault) s unread old new (is, failed) g = (
  λ bad. inl (g.0 (sym is ∙ bad)),
  λ h. elim h [ inl run ↦ is ∙ g.1 run | inr flush ↦ absurd (let no = flush.0 in cc) ],
)

pub carried : (command : Command) (a b c m d : Option (List ℕ)) (unread old new : Bool) (r s : Ending)
    → IfSome a (EndsAs command c m r) → IfSome a (EndsByText command c m r)
    → (IsErrOf r faults.Io ↔ ((unread ≡ true) ⊎ (old ≡ true)))
    → Begins command a b c m → (unread ≡ true → KeepsUp command a b c m) → StaysAheadAs command a b c m
    → (IsErrOf r faults.Memory → MayNeedMemory command a b) → Keeps m d → EndsFlushed faults.Io r old new s
    → CarriesOut command (course a b unread) (course c d new) s
carried command a b c m d unread old new r s e o i g h before need k f = record {
  run = r;
  failed = old;
  ran = exact command a c m d r r k (inl refl) e;
  stopped = i;
  flushed = f;
  exact = exact command a c m d r s k (flushed r s old new f) e;
  only = only command a c m d r s k (flushed r s old new f) o;
  io = io r s unread old new f i;
  begun = begun command a b c m d k g;
  heard = λ failed. keeps_up (plan_of command) a b c m d k (h failed);
  ahead = ahead (plan_of command) a b c m d k before;
  memory = λ bad. need (memory r s old new f bad);
}
