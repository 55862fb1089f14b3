-- Lemmas for `write_made`: the result of a run that reads its complete input first.
use Rattle.std.proofs.Common.{◌≡◌, ◌⊎◌, ◌↔◌, inl, inr, ℕ, ◌<◌, ◌≤◌, ◌^◌, List, [], length, Bool, true, false, Option}
use Rattle.std.proofs.Common.{IfSome, Result, Ok, Err, IsOkUnless, OnOk, Vec, refl, ap, sym, subst, arith, take_all}
use Rattle.std.proofs.lemmas.Bool.Decides.{nat_tests}
use Rattle.std.proofs.KnownBytes.{Appends-nil}
use Rattle.capn_words.specs.Watched.{HasBegun}
use Rattle.std.specs.Io.KnownBytes.{Appends, IsAtEnd}
use Rattle.capn_serve.specs.StreamRun.{TakesBytes}
use Rattle.capn_serve.specs.WholeInput.{HasGiven, HasGivenAll}
use Rattle.capn_commands.specs.inner.ReadInput.{IsUntaken, TakesAll}
use Rattle.capn_commands.specs.Text.{HasEnded, PlanBegins, PlanEndsAs, has_more, taken_of}
use Rattle.capn_commands.specs.WholeInput.{Gives, Makes, MakesNothing}
use Rattle.capn_commands.specs.declared.plan.Whole.{Whole}
use Rattle.capn_commands.specs.declared.plan.Plan.TheVariants as plans
use Rattle.capn_commands.specs.declared.fault.ToolFault.{ToolFault}
use Rattle.capn_commands.specs.declared.fault.ToolFault.TheVariants as faults
use Rattle.capn_commands.proofs.RunLaw.{begins_kept, begins_none, ends_kept, ends_unread}
use Rattle.capn_commands.proofs.WholeServed.{told_whole}

abbrev Ending : Type 0
Ending = Result (Unit {0}) ToolFault

pub is_more : (bytes : List ℕ) → 2 ^ 32 < length bytes → has_more bytes ≡ true
is_more bytes h = grind (arith, nat_tests)

pub is_all : (bytes : List ℕ) → length bytes ≤ 2 ^ 32 → has_more bytes ≡ false
is_all bytes h = grind (arith, nat_tests)

-- Either `fault` is the reason why an input was not read to its end, or the input was read to its end, and `fault` is
-- `Memory` or the reason why `whole` has no output.
abbrev Unmade : Whole → Option (List ℕ) → Option (List ℕ) → Bool → ToolFault → Type 0
Unmade whole a b failed fault = IsUntaken a b failed fault
    ⊎ ((bytes : List ℕ) × HasGivenAll a b failed bytes × ((fault ≡ faults.Memory) ⊎ MakesNothing whole bytes fault))

module _ (whole : Whole) (a b c : Option (List ℕ)) where
  -- ---- nothing was made

  -- Case: an input is longer than a run takes.
  ends_long : (failed : Bool) (bytes : List ℕ) → HasGiven a b failed bytes → 2 ^ 32 < length bytes
      → IfSome a (PlanEndsAs (plans.Whole whole) c c (Err faults.InputTooLong))
  ends_long failed bytes h long =
      ends_kept (plans.Whole whole) a b c c (taken_of bytes) true (Err faults.InputTooLong) (
        bytes,
        record {
          read = h.read;
          bounded = h.bounded;
          are = refl;
          more = is_more bytes long;
          ended = λ e. absurd (cc);
        },
      ) (inr (inr ([], (refl, refl), Appends-nil c)))

  -- Case: all of the input was read.
  ends_all : (failed : Bool) (bytes : List ℕ) (d : Option (List ℕ)) (r : Ending) → HasGivenAll a b failed bytes
      → HasEnded (plans.Whole whole) bytes false c d r → IfSome a (PlanEndsAs (plans.Whole whole) c d r)
  ends_all failed bytes d r h ended =
      ends_kept (plans.Whole whole) a b c d bytes false r (
        bytes,
        record {
          read = h.given.read;
          bounded = h.given.bounded;
          are = take_all (2 ^ 32) bytes h.within;
          more = is_all bytes h.within;
          ended = λ e. h.ended;
        },
      ) ended

  pub unmade_ends : (failed : Bool) (fault : ToolFault)
      → Unmade whole a b failed fault
      → IfSome a (PlanEndsAs (plans.Whole whole) c c (Err fault))
  unmade_ends failed fault (inl (bytes, inl (h, inl memory))) =
      ends_unread (plans.Whole whole) a c c fault (inl memory.0)
  unmade_ends failed fault (inl (bytes, inl (h, inr (is, long)))) =
      subst (λ (f : ToolFault). IfSome a (PlanEndsAs (plans.Whole whole) c c (Err f))) (sym is)
      (ends_long failed bytes h long)
  unmade_ends failed fault (inl (bytes, inr (read, bound, broken, io))) =
      ends_unread (plans.Whole whole) a c c fault (inr io)
  unmade_ends failed fault (inr (bytes, all, inl memory)) = ends_unread (plans.Whole whole) a c c fault (inl memory)
  unmade_ends failed fault (inr (bytes, all, inr why)) =
      ends_all failed bytes c (Err fault) all (inr (inr ([], (refl, why), Appends-nil c)))

  pub unmade_begins : (failed : Bool) (fault : ToolFault)
      → Unmade whole a b failed fault
      → PlanBegins (plans.Whole whole) a b c c
  unmade_begins failed fault (inl (bytes, inl (h, why))) =
      begins_none (plans.Whole whole) a b c (bytes, h.read, h.bounded)
  unmade_begins failed fault (inl (bytes, inr (read, bound, broken, io))) =
      begins_none (plans.Whole whole) a b c (bytes, read, bound)
  unmade_begins failed fault (inr (bytes, all, why)) =
      begins_none (plans.Whole whole) a b c (bytes, all.given.read, all.given.bounded)

  pub unmade_memory : (failed : Bool) (fault : ToolFault) → Unmade whole a b failed fault → fault ≡ faults.Memory
      → TakesBytes a b ⊎ IsAtEnd b
  unmade_memory failed fault (inl (bytes, inl (h, inl (memory, some)))) is = inl (bytes, h.read, some)
  unmade_memory failed fault (inl (bytes, inl (h, inr (long, more)))) is = absurd (cc)
  unmade_memory failed fault (inl (bytes, inr (read, bound, broken, io))) is = absurd (cc)
  unmade_memory failed fault (inr (bytes, all, why)) is = inr all.ended

  -- ---- a text was made, and written

  written_ended : (bytes text : List ℕ) (d : Option (List ℕ)) (r : Ending) → Makes whole bytes text
      → OnOk r (Appends c d text) → IsOkUnless r faults.Io → HasEnded (plans.Whole whole) bytes false c d r
  written_ended bytes text d (Ok u) made ok only = inr (inr (text, made, ok))
  written_ended bytes text d (Err e) made ok only = inr (inl (ap (λ (f : ToolFault). Err f) only))

  pub made_ends : {A : Type 0} (failed : Bool) (text : Vec ℕ A) (d : Option (List ℕ)) (r : Ending)
      → TakesAll {T = Vec ℕ A} (Gives whole) a b failed (Ok text) → OnOk r (Appends c d text.items)
      → IsOkUnless r faults.Io
      → IfSome a (PlanEndsAs (plans.Whole whole) c d r)
  made_ends failed text d r (bytes, all, made) ok only =
      ends_all failed bytes d r all (written_ended bytes text.items d r made ok only)

  pub made_begins : {A : Type 0} (failed : Bool) (text : Vec ℕ A) (d : Option (List ℕ))
      → TakesAll {T = Vec ℕ A} (Gives whole) a b failed (Ok text) → HasBegun c d text.items
      → PlanBegins (plans.Whole whole) a b c d
  made_begins failed text d (bytes, all, made) (count, begun) =
      begins_kept (plans.Whole whole) a b c d bytes false (
        bytes,
        record {
          read = all.given.read;
          bounded = all.given.bounded;
          are = take_all (2 ^ 32) bytes all.within;
          more = is_all bytes all.within;
          ended = λ e. all.ended;
        },
      ) (text.items, count, inr made, begun)

pub made_fine : {A : Type 0} (whole : Whole) (a b : Option (List ℕ)) (failed : Bool) (text : Vec ℕ A)
    → TakesAll {T = Vec ℕ A} (Gives whole) a b failed (Ok text) → failed ≡ false
made_fine whole a b failed text (bytes, all, made) = all.given.fine

pub unmade_io : (whole : Whole) (a b : Option (List ℕ)) (failed : Bool) (fault : ToolFault)
    → Unmade whole a b failed fault
    → (fault ≡ faults.Io) ↔ (failed ≡ true)
unmade_io whole a b failed fault (inl (bytes, inl (h, inl (memory, some)))) =
    (λ e. absurd (cc), λ e. let fine = h.fine in absurd (cc))
unmade_io whole a b failed fault (inl (bytes, inl (h, inr (is, long)))) =
    (λ e. absurd (cc), λ e. let fine = h.fine in absurd (cc))
unmade_io whole a b failed fault (inl (bytes, inr (read, bound, broken, io))) = (λ e. broken, λ e. io)
unmade_io whole a b failed fault (inr (bytes, all, inl memory)) =
    (λ e. absurd (cc), λ e. let fine = all.given.fine in absurd (cc))
unmade_io whole a b failed fault (inr (bytes, all, inr why)) =
    let told = told_whole whole bytes fault why in
    (λ e. absurd (told.no_io e), λ e. let fine = all.given.fine in absurd (cc))
