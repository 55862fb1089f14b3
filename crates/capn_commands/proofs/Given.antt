-- Lemmas on the bytes that a reader has returned, read by read. (For `read_words`.)
use Rattle.std.proofs.Common.{◌≡◌, inl, inr, ℕ, ◌<◌, ◌^◌, List, length, refl, Option, Bool, true, Result, Ok, Err}
use Rattle.std.specs.Io.KnownBytes.{Consumes}
use Rattle.capn_pack.specs.WholeGroups.{most_group}
use Rattle.capn_commands.specs.inner.Pending.{IsPending}
use Rattle.capn_serve.specs.WholeInput.{HasGiven, HasGivenAll}
use Rattle.capn_commands.specs.inner.ReadInput.{IsUntaken, TakesAll}
use Rattle.capn_commands.specs.declared.fault.ToolFault.{ToolFault}
use Rattle.capn_commands.specs.declared.fault.ToolFault.TheVariants as faults

-- A reader returned `seen`, whose length is `taken`, and `IsPending` holds for `seen`. `len` is less than `most_group`.
pub record Unpacked (old new : Option (List ℕ)) (failed : Bool) (most taken : ℕ) (words : List ℕ) (len : ℕ)
    (held : List ℕ) (at left : ℕ) (long : Bool) : Type 0 where
  pub seen : List ℕ
  pub given : HasGiven old new failed seen
  pub size : length seen ≡ taken
  pub pending : IsPending most seen words held at left long
  pub short : len < most_group

pub given_broken : (a b c : Option (List ℕ)) (f g : Bool) (seen : List ℕ) → HasGiven a b f seen → Consumes a c seen
    → g ≡ true → IsUntaken a c g faults.Io
given_broken a b c f g seen h read broken = (seen, inr (read, h.bounded, broken, refl))

-- Case: memory was refused for bytes that were read.
pub given_memory : (a b : Option (List ℕ)) (f : Bool) (seen : List ℕ) → HasGiven a b f seen → 0 < length seen
    → IsUntaken a b f faults.Memory
given_memory a b f seen h some = (seen, inl (h, inl (refl, some)))

-- Case: there are more bytes than a run takes.
pub given_long : (a b : Option (List ℕ)) (f : Bool) (seen : List ℕ) → HasGiven a b f seen → 2 ^ 32 < length seen
    → IsUntaken a b f faults.InputTooLong
given_long a b f seen h long = (seen, inl (h, inr (refl, long)))

pub takes_so : {T : Type 0} (P : List ℕ → Result T ToolFault → Type 0) (a b : Option (List ℕ)) (f : Bool)
    (r : Result T ToolFault) (bytes : List ℕ) → HasGivenAll a b f bytes → P bytes r → TakesAll P a b f r
takes_so P a b f (Ok x) bytes all p = (bytes, all, p)
takes_so P a b f (Err fault) bytes all p = inr (bytes, all, p)
