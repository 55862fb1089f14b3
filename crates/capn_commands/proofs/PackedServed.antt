-- Lemmas for `run_each_packed`: if the service ran over a packed stream, `Runs` holds for the plan of that stream.
use Rattle.std.proofs.Common.{◌≡◌, ◌⊎◌, inl, inr, ℕ, ◌+◌, ◌*◌, ◌-◌, ◌^◌, ◌≤◌, List, [], ◌∷◌, ◌++◌, length}
use Rattle.std.proofs.Common.{Bool, true, false, Option, Some, None, IfSome, Ok, Err, refl, ap, sym, subst, arith}
use Rattle.std.proofs.Common.{length-append, length-take}
use Rattle.std.proofs.lemmas.List.{length-replicate}
use Rattle.std.proofs.Math.Seq.{take_all}
use Rattle.std.proofs.lemmas.Bool.Decides.{nat_tests}
use Rattle.std.specs.Io.KnownBytes.{Appends}
use Rattle.std.specs.List.{AllByRecursion}
use Rattle.capn_walk.specs.Limits.{Bounds}
use Rattle.capn_pack.specs.Packed.{Group, IsGroup, group_bytes, contents, group_text, texts}
use Rattle.capn_pack.specs.Packed.Group.{Zeros, Named, Raw}
use Rattle.capn_serve.specs.Fold.{IsFolded, fold_of}
use Rattle.capn_serve.specs.StreamRun as streams
use Rattle.capn_serve.specs.PackedRun as served
use Rattle.capn_serve.specs.declared.position.Position.{Position}
use Rattle.capn_serve.specs.declared.service.Run.{Run}
use Rattle.capn_serve.specs.declared.fault.RunFault.{RunFault}
use Rattle.capn_commands.specs.Limits.{most_input}
use Rattle.capn_commands.specs.Streams.{IsDueEach, IsDuePacked, behind_packed}
use Rattle.capn_commands.specs.CommandRun.{HasKeptUp, HasWrittenAllPacked, Runs, StaysAhead, unplaced}
use Rattle.capn_commands.specs.Text.{HasEnded, HasWritten, PlanBegins, PlanEndsAs, has_more, taken_of}
use Rattle.capn_commands.specs.inner.MessageTexts.{refuses, serves}
use Rattle.capn_commands.specs.declared.message_texts.MessageTexts.{MessageTexts}
use Rattle.capn_commands.specs.declared.plan.MessageText.{MessageText}
use Rattle.capn_commands.specs.declared.plan.Plan.{Plan}
use Rattle.capn_commands.specs.declared.plan.Plan.TheVariants as plans
use Rattle.capn_commands.specs.declared.fault.ToolFault.{ToolFault}
use Rattle.capn_commands.proofs.Served as folded
use Rattle.capn_commands.proofs.Served.{Ending, IsOf, behind_of, due, ending_of, io_same, memory_from, row}

-- ---- a packed input unpacks to no more than a run takes

-- The words of a group have at most 1,024 times as many bytes as the text of the group.
spread : (g : Group) → IsGroup g → length (group_bytes g) ≤ 1024 * length (group_text g)
spread (Zeros more) h = omega (arith, h, length-replicate {A = ℕ} (8 * (1 + more)) 0)
spread (Named tag word) (some, small, size, named) = omega (arith, size)
spread (Raw word count more) (size, few, rest) =
    omega (arith, size, few, rest, length-append word more, length-append word (count ∷ more))

all_spread : (gs : List Group) → AllByRecursion IsGroup gs → length (contents gs) ≤ 1024 * length (texts gs)
all_spread [] each = omega arith
all_spread (g ∷ gs) (here, each) = omega (
  arith,
  spread g here,
  all_spread gs each,
  length-append (group_bytes g) (contents gs),
  length-append (group_text g) (texts gs),
)

-- The greatest number of unpacked bytes that a run takes.
abbrev most_unpacked : ℕ
most_unpacked = 2 ^ 64 - 1

within : (bytes stream rest : List ℕ) (gs : List Group) → AllByRecursion IsGroup gs → bytes ≡ texts gs ++ rest
    → stream ≡ contents gs → length bytes ≤ most_input → length stream ≤ most_unpacked
within bytes stream rest gs each is are short = omega (
  arith,
  all_spread gs each,
  ap length is,
  ap length are,
  length-append (texts gs) rest,
  short,
)

all_taken : (stream : List ℕ) → length stream ≤ most_unpacked → streams.taken_of most_unpacked stream ≡ stream
all_taken stream short = take_all most_unpacked stream short

no_more : (stream : List ℕ) → length stream ≤ most_unpacked → streams.has_more most_unpacked stream ≡ false
no_more stream short = grind (arith, nat_tests)

taken_short : (bytes : List ℕ) → length (taken_of bytes) ≤ most_input
taken_short bytes = omega (arith, length-take most_input bytes)

behind_same : (more : Bool) (at : Position) (group : List ℕ) (offset : ℕ)
    → behind_of (served.unless_more more (served.cut_group at group offset)) ≡ behind_packed more group offset
behind_same true at group offset = refl
behind_same false at [] offset = refl
behind_same false at (b ∷ group) offset = refl

module _ (piece : MessageText) (limits : Bounds) (x : Run MessageTexts) (of : IsOf piece limits x) where
  abbrev packed : Plan
  packed = plans.Packed piece limits

  due_packed : (y : Run MessageTexts) (bytes text : List ℕ) (more : Bool) (r : Ending) → length bytes ≤ most_input
      → served.IsDuePacked (folded.texts piece limits) x most_unpacked bytes more text r y
      → IsDuePacked piece limits bytes more text (ending_of r)
  due_packed y bytes text more r short h =
      let split = h.split in
      let few = within bytes h.stream h.group split.groups split.each split.text split.content short in
      let behind = served.unless_more more (served.cut_group y.at h.group h.offset) in
      let first : IsFolded (folded.texts piece limits) x h.stream
      (served.unless_more (streams.has_more most_unpacked h.stream) behind) text r y =
      subst (λ (l : List ℕ). IsFolded (folded.texts piece limits) x l
      (served.unless_more (streams.has_more most_unpacked h.stream) behind) text r y) (all_taken h.stream few) h.due in
      let whole = subst (λ (m : Bool). IsFolded (folded.texts piece limits) x h.stream
      (served.unless_more m behind) text r y) (no_more h.stream few) first in
      record {
        words = h.stream;
        group = h.group;
        at = h.offset;
        split = split;
        due = subst (λ (last : Option ToolFault). IsDueEach piece limits h.stream last text (ending_of r))
            (behind_same more y.at h.group h.offset) (due piece limits x y h.stream text behind r of whole);
      }

  has_ended : (y : Run MessageTexts) (bytes : List ℕ) (more : Bool) (c d : Option (List ℕ)) (r : Ending)
      → length bytes ≤ most_input
      → served.HasEndedPacked (folded.texts piece limits) x most_unpacked bytes more c d r y
      → HasEnded packed bytes more c d (ending_of r)
  has_ended y bytes more c d (Ok u) short (text, h, wrote) =
      inr (inr (text, due_packed y bytes text more (Ok u) short h, wrote))
  has_ended y bytes more c d (Err e) short (inl m) = inl (ap (λ (f : RunFault). Err (unplaced f)) m)
  has_ended y bytes more c d (Err e) short (inr (inl i)) = inr (inl (ap (λ (f : RunFault). Err (unplaced f)) i))
  has_ended y bytes more c d (Err e) short (inr (inr (text, z, h, wrote, leaves))) =
      inr (inr (text, due_packed z bytes text more (Err e) short h, wrote))

  ends_as : (y : Run MessageTexts) (a c d : Option (List ℕ)) (r : Ending)
      → IfSome a (served.EndsPackedAs (folded.texts piece limits) x most_input most_unpacked c d r y)
      → IfSome a (PlanEndsAs packed c d (ending_of r))
  ends_as y None c d r h = tt
  ends_as y (Some input) c d r h = has_ended y (taken_of input) (has_more input) c d r (taken_short input) h

  written : (bytes : List ℕ) (more : Bool) (c d : Option (List ℕ)) → length bytes ≤ most_input
      → served.HasWrittenPacked (folded.texts piece limits) x most_unpacked bytes c d
      → HasWritten packed bytes more c d
  written bytes more c d short (stream, begins, ps, rest, y, count, are, wrote) =
      let few = within bytes stream begins.rest begins.groups begins.each begins.text begins.content short in
      let front = row piece limits x y (streams.taken_of most_unpacked stream) rest ps of are in (
        _,
        count,
        (streams.taken_of most_unpacked stream, front.0, rest, rw (all_taken stream few) begins, front.1, sym front.2),
        wrote,
      )

  begins_so : (a b c d : Option (List ℕ))
      → served.BeginsPacked (folded.texts piece limits) x most_input most_unpacked a b c d → PlanBegins packed a b c d
  begins_so a b c d h = (
    h.bytes,
    record {
      read = h.read;
      bounded = h.bounded;
      written = written (taken_of h.bytes) (has_more h.bytes) c d (taken_short h.bytes) h.written;
    },
  )

  keeps_up : (a b c d : Option (List ℕ))
      → served.KeepsUpPacked (folded.texts piece limits) x most_input most_unpacked a b c d → HasKeptUp packed a b c d
  keeps_up a b c d (bytes, text, r, y, read, h, wrote) = (
    bytes,
    text,
    ending_of r,
    read,
    due_packed y (taken_of bytes) text (has_more bytes) r (taken_short bytes) h,
    wrote,
  )

  all_written : (bytes : List ℕ) (c d : Option (List ℕ))
      → served.HasWrittenAllPacked (folded.texts piece limits) x most_unpacked bytes c d
      → HasWrittenAllPacked piece limits bytes c d
  all_written bytes c d (stream, group, offset, split, few, ps, rest, y, are, unfinished, wrote) =
      let front = row piece limits x y stream rest ps of are in
      (stream, group, offset, split, (front.0, rest, front.1, unfinished, subst (Appends c d) (sym front.2) wrote))

  stays_ahead : (a b c d : Option (List ℕ))
      → served.BeginsPacked (folded.texts piece limits) x most_input most_unpacked a b c d
      → StaysAhead (HasWrittenAllPacked piece limits) a b c d
  stays_ahead a b c d h =
      let (before, piece, mid, more, is, short, written, after) = h.lazy in
      (h.bytes, h.read, (before, piece, mid, more, is, short, all_written before c mid written, after))

  runs_packed : (a b c d : Option (List ℕ)) (reader_failed writer_failed : Bool) (r : Ending) (y : Run MessageTexts)
      → served.RunsPacked (folded.texts piece limits) x most_input most_unpacked a b c d reader_failed writer_failed r y
      → Runs packed a b c d reader_failed writer_failed (ending_of r)
  runs_packed a b c d reader_failed writer_failed r y h = record {
    exact = ends_as y a c d r h.exact;
    io = io_same ((reader_failed ≡ true) ⊎ (writer_failed ≡ true)) r h.io;
    begun = begins_so a b c d h.begun;
    heard = λ failed. keeps_up a b c d (h.heard failed);
    ahead = stays_ahead a b c d h.begun;
    memory = λ e. h.memory (memory_from r e);
  }

  pub packed_served : (most : ℕ) → most ≡ limits.message_words → (a b c d : Option (List ℕ))
      (reader_failed writer_failed : Bool) (r : Ending) (y : Run MessageTexts)
      → served.RunsPacked (fold_of serves refuses most) x most_input most_unpacked a b c d reader_failed
      writer_failed r y
      → Runs packed a b c d reader_failed writer_failed (ending_of r)
  packed_served most same a b c d reader_failed writer_failed r y h =
      runs_packed a b c d reader_failed writer_failed r y
      (subst (λ (m : ℕ). served.RunsPacked (fold_of serves refuses m) x most_input most_unpacked a b c d reader_failed
      writer_failed r y) same h)
