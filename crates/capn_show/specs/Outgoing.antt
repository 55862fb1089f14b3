-- The output of a text, whose last bytes are stored before the writer gets them. (Our own.)
use Rattle.std.specs.Prelude.{◌≡◌, ℕ, Bool, true, List, ◌++◌, take, Option}
use Rattle.std.specs.Io.KnownBytes.{Appends}
use Rattle.capn_words.specs.declared.watched.Watched.{Watched}
use Rattle.capn_words.specs.Watched.{inner_of, has_failed}
use Rattle.capn_show.specs.declared.fault.Broken.{Broken}
use Rattle.capn_show.specs.declared.fault.Broken.TheVariants as broken

-- The state of the output: the bytes `taken` that the writer has accepted, and the text `kept` that is not yet written.
-- `failed` is true if a call of the writer has failed.
pub record Outgoing : Type 0 where
  pub taken : Option (List ℕ)
  pub kept : List ℕ
  pub failed : Bool

-- The state of the output to `writer`, with the text `kept` not yet written. `contents` gives the bytes that a writer
-- has accepted.
abbrev pub outgoing : {W : Type 0} → (W → Option (List ℕ)) → Watched W → List ℕ → Outgoing
outgoing contents writer kept = record { taken = contents (inner_of writer); kept = kept; failed = has_failed writer }

-- Adding `text` to `old` gives `new`. The writer accepts `written`, some bytes at the front of `old.kept ++ text`. The
-- bytes after `written` are `new.kept`, and `failed` is unchanged.
pub record Adds (old new : Outgoing) (text : List ℕ) : Type 0 where
  pub written : List ℕ
  pub taken : Appends old.taken new.taken written
  pub kept : written ++ new.kept ≡ old.kept ++ text
  pub failed : new.failed ≡ old.failed

-- Adding `text` to `old` fails, and the state is then `new`. For `Io`, the writer has accepted the first `count` bytes
-- of `old.kept ++ text`, and has failed. For `Memory`, the first `count` bytes of `text` were added.
abbrev pub BreaksOff : Outgoing → Outgoing → Broken → List ℕ → Type 0
BreaksOff old new broken.Io text =
    (count : ℕ) × Appends old.taken new.taken (take count (old.kept ++ text)) × (new.failed ≡ true)
BreaksOff old new broken.Memory text = (count : ℕ) × Adds old new (take count text)
