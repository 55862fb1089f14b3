-- The messages that `uniq` keeps: those with canonical bytes that no earlier message had. The bytes are compared by
-- their SHA-256. (Our own.)
use Rattle.std.specs.Prelude.{◌≡◌, ◌⊎◌, ℕ, ◌+◌, ◌-◌, ◌^◌, ◌<◌, min, List, [], length, Bool, true, false, Option, None}
use Rattle.std.specs.Prelude.{Some, Result, Ok, Err}
use Rattle.std.specs.FinSet as set
use Rattle.std.specs.Cmp.Lexicographic.{slice_cmp}
use Rattle.std.specs.Ordering.{nat_cmp}
use Rattle.capn_canon.specs.declared.refusal.Refusal.{Refusal}
use Rattle.capn_serve.specs.declared.position.Position.{Position}
use Rattle.capn_serve.specs.declared.fault.ServeFault.{ServeFault}
use Rattle.capn_serve.specs.declared.fault.ServeFault.TheVariants as faults
use Rattle.capn_serve.specs.Outgoing.{Outgoing, Adds, AddsBeginning, BreaksWithin}
use Rattle.capn_serve.specs.declared.skipped.SkippedSoFar.{SkippedSoFar}
use Rattle.capn_archive.specs.declared.uniq_order.UniqOrder.{UniqOrder}
use Rattle.capn_archive.specs.Digest.{IsDigest, IsUndigested}
use Rattle.capn_serve.specs.Skipped.{one_more}

-- The state of `uniq`: its options, the digests and the number of the served messages, and the count of the skipped
-- messages.
pub record UniqState : Type 0 where
  pub order : UniqOrder
  pub digests : set.FinSet (slice_cmp nat_cmp)
  pub served : ℕ
  pub skipped : Option SkippedSoFar

-- The state of `uniq` before the first message.
abbrev pub first_state : UniqOrder → UniqState
first_state order = record { order = order; digests = set.empty; served = 0; skipped = None }

-- Tests whether `digest` is in `digests`.
abbrev pub has : set.FinSet (slice_cmp nat_cmp) → List ℕ → Bool
has digests digest = set.contains digests digest

-- The set `digests` with `digest` inserted.
abbrev pub and_one : set.FinSet (slice_cmp nat_cmp) → List ℕ → set.FinSet (slice_cmp nat_cmp)
and_one digests digest = set.insert digests digest

-- The number of served messages after one more message, but at most 2^64 - 1.
abbrev pub one_served : ℕ → ℕ
one_served served = min (served + 1) (2 ^ 64 - 1)

-- The text for a message. The first argument says whether messages are only counted. The text is `frame` if both the
-- first argument and `is_duplicate` are `false`, and is otherwise empty.
abbrev pub kept_text : Bool → Bool → List ℕ → List ℕ
kept_text true is_duplicate frame = []
kept_text false true frame = []
kept_text false false frame = frame

-- `message` is served. `t` has the digest of `message` and one more served message. `kept_text` gives the `text`.
abbrev pub Deduplicates : UniqState → List ℕ → List (List ℕ) → List ℕ → UniqState → Type 0
Deduplicates s frame message text t =
    (digest : List ℕ) × IsDigest message s.order.limits digest
    × (text ≡ kept_text s.order.count (has s.digests digest) frame)
    × (t ≡ record {
      order = s.order;
      digests = and_one s.digests digest;
      served = one_served s.served;
      skipped = s.skipped;
    })

-- The message at the position `at` is skipped, because it has no digest and `keep_going` is set. Nothing is written,
-- and `t` counts one more skipped message.
abbrev pub IsSkipped : UniqState → Position → List (List ℕ) → List ℕ → UniqState → Type 0
IsSkipped s at message text t =
    (s.order.keep_going ≡ true) × (r : Refusal) × IsUndigested message s.order.limits r × (text ≡ [])
    × (t ≡ record {
      order = s.order;
      digests = s.digests;
      served = s.served;
      skipped = Some (one_more s.skipped at);
    })

-- `message` leads from the state `s` to `t` and writes `text`. The message is served or skipped.
abbrev pub serves : UniqState → Position → List ℕ → List (List ℕ) → List ℕ → UniqState → Type 0
serves s at frame message text t = Deduplicates s frame message text t ⊎ IsSkipped s at message text t

-- `message` has no digest, because `r` refuses it. The refusal ends the run, because `keep_going` is not set.
abbrev pub refuses : UniqState → Position → List ℕ → List (List ℕ) → Refusal → Type 0
refuses s at frame message r = (s.order.keep_going ≡ false) × IsUndigested message s.order.limits r

-- After `Ok`, `new` is `old` with `digest`, and `is_duplicate` says whether `old` had `digest`. After `Err`, `fault` is
-- `Memory`.
abbrev pub InsertsDigest : set.FinSet (slice_cmp nat_cmp) → set.FinSet (slice_cmp nat_cmp) → List ℕ
    → Result Bool ServeFault → Type 0
InsertsDigest old new digest (Ok is_duplicate) = (is_duplicate ≡ has old digest) × (new ≡ and_one old digest)
InsertsDigest old new digest (Err fault) = fault ≡ faults.Memory

-- After `Ok`, `message` was served, and its `text` was added. After `Refused`, `message` has no digest, and the output
-- and the state are unchanged. After `Memory`, `message` has a digest, and a prefix of `text` was added. After `Io`, a
-- prefix of `old.kept ++ text` was written.
abbrev pub TriesToDeduplicate : UniqState → List ℕ → List (List ℕ) → Outgoing → Outgoing → Bool
    → Result (Unit {0}) ServeFault → UniqState → Type 0
TriesToDeduplicate s frame message old new failed (Ok u) t =
    (text : List ℕ) × Deduplicates s frame message text t × Adds old new text × (failed ≡ false)
    × (length old.kept < 65536 → length new.kept < 65536)
TriesToDeduplicate s frame message old new failed (Err faults.Memory) t =
    AddsBeginning (Deduplicates s frame message) old new × (failed ≡ false)
TriesToDeduplicate s frame message old new failed (Err faults.Io) t =
    BreaksWithin (Deduplicates s frame message) old new × (failed ≡ true)
TriesToDeduplicate s frame message old new failed (Err (faults.Refused r)) t =
    IsUndigested message s.order.limits r × (new ≡ old) × (t ≡ s) × (failed ≡ false)
