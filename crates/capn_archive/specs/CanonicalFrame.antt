-- Canonical bytes as a frame of one segment. (Page: serialization over a stream; canonicalization.)
use Rattle.std.specs.Prelude.{◌≡◌, ℕ, ◌/◌, ◌<◌, List, ◌∷◌, ◌++◌, length, take, Bool, true, false, Result, Ok, Err}
use Rattle.capn_stream.specs.Frames.{entry}
use Rattle.capn_serve.specs.declared.fault.ServeFault.{ServeFault}
use Rattle.capn_serve.specs.declared.fault.ServeFault.TheVariants as faults
use Rattle.capn_serve.specs.Outgoing.{Outgoing, Adds, Breaks}

-- The segment table of a frame with one segment of `words` words. It is four zero bytes, because there is no second
-- segment, and then `words` in four bytes.
abbrev pub head : ℕ → List ℕ
head words = 0 ∷ 0 ∷ 0 ∷ 0 ∷ entry words

-- The frame of one segment with the contents `bytes`, 8 bytes for each word.
abbrev pub framed : List ℕ → List ℕ
framed bytes = head (length bytes / 8) ++ bytes

-- After `Ok`, `new` is `old ++ text`. After `Err`, `fault` is `Memory`, and `new` is `old`.
abbrev pub PutsText : List ℕ → List ℕ → List ℕ → Result (Unit {0}) ServeFault → Type 0
PutsText text old new (Ok u) = new ≡ old ++ text
PutsText text old new (Err fault) = (fault ≡ faults.Memory) × (new ≡ old)

-- After `Ok`, `new` is `old ++ text`. After `Err`, `new` is `old` with some bytes appended.
abbrev pub PutsFront : {E : Type 0} → List ℕ → List ℕ → List ℕ → Result (Unit {0}) E → Type 0
PutsFront text old new (Ok u) = new ≡ old ++ text
PutsFront text old new (Err e) = (some : List ℕ) × (new ≡ old ++ some)

-- After `Ok`, `text` was added, and `new.kept` has fewer than 65,536 bytes if `old.kept` does. After `Memory`, a prefix
-- of `text` was added. After `Io`, a prefix of `old.kept ++ text` was written.
abbrev pub AddsText : List ℕ → Outgoing → Outgoing → Bool → Result (Unit {0}) ServeFault → Type 0
AddsText text old new failed (Ok u) =
    Adds old new text × (failed ≡ false) × (length old.kept < 65536 → length new.kept < 65536)
AddsText text old new failed (Err faults.Memory) = ((count : ℕ) × Adds old new (take count text)) × (failed ≡ false)
AddsText text old new failed (Err faults.Io) = ((count : ℕ) × Breaks old new count text) × (failed ≡ true)
AddsText text old new failed (Err (faults.Refused r)) = ⊥
