-- Lemmas for `serve_part`, `serve_slice` and `serve_slices`: the effect of further bytes of a packed stream, and the
-- places where a run stops.
use Rattle.std.proofs.Common.{◌≡◌, ◌≢◌, inl, inr, ℕ, ◌+◌, ◌-◌, ◌<◌, ◌≤◌, min, List, [], ◌++◌, length, take, drop, Bool}
use Rattle.std.proofs.Common.{true, false, Option, Some, Result, Ok, Err, nat_lt, refl, ap, sym, subst, ◌∙◌}
use Rattle.std.proofs.Common.{append-nil, append_assoc, arith, length-append}
use Rattle.std.proofs.lemmas.List.{take-append-drop, take-append-le}
use Rattle.std.proofs.Math.Seq.{take-add, take-append-add, take_all}
use Rattle.std.proofs.lemmas.Bool.{cases_lt}
use Rattle.std.proofs.lemmas.Bool.Decides.{nat_tests}
use Rattle.std.proofs.lemmas.Grind.{flat_map-append}
use Rattle.std.specs.Io.KnownBytes.{Appends}
use Rattle.capn_words.specs.Watched.{HasBegun}
use Rattle.capn_pack.specs.Packed.{texts}
use Rattle.capn_pack.specs.PackedPieces as packing
use Rattle.capn_pack.specs.PackedPieces.{Feeds, Held, Splits, advanced}
use Rattle.capn_pack.proofs.shared.StreamLemmas.{begins_then, splits_open, splits_then}
use Rattle.capn_stream.specs.StreamPieces.{Framing, IsUnfinished}
use Rattle.capn_stream.specs.FrameRefusal as frame_rules
use Rattle.capn_stream.specs.declared.fault.FrameFault.{FrameFault}
use Rattle.capn_stream.specs.declared.fault.FrameFault.TheVariants as frames
use Rattle.capn_canon.specs.declared.refusal.Refusal.{Refusal}
use Rattle.capn_serve.specs.declared.position.Position.{Position}
use Rattle.capn_serve.specs.declared.service.Run.{Run}
use Rattle.capn_serve.specs.declared.fault.RunFault.{RunFault}
use Rattle.capn_serve.specs.declared.fault.RunFault.TheVariants as faults
use Rattle.capn_serve.specs.Fold.{Fold, Part, AreParts, EndsBy, EndsUnframed, IsFolded, end_of, fold_until}
use Rattle.capn_serve.specs.Fold.{text_of, texts_of}
use Rattle.capn_serve.specs.Outgoing.{Outgoing, SendsRest, outgoing, sent}
use Rattle.capn_serve.specs.ChunkRun.{HasRoom, IsDueSo, IsListening, Stops, Tells, TellsBegun, TellsFront}
use Rattle.capn_serve.specs.StreamRun.{has_more, taken_of}
use Rattle.capn_serve.specs.PackedRun.{unless_more}
use Rattle.capn_serve.specs.PackedChunkRun.{Halts, HaltsPacked, IsDueWithin, IsUnpacking, Pending, ServesPacked}
use Rattle.capn_serve.specs.PackedChunkRun.{ReachesPacked, ServesPart, TellsPacked, pending}
use Rattle.capn_serve.proofs.InputRead.{taken_more}
use Rattle.capn_serve.proofs.More.{begun_behind, front_behind, parts_more, stops_memory, tells_begun, tells_more}
use Rattle.capn_serve.proofs.More.{tells_none}
use Rattle.capn_serve.proofs.Next.{begun_broken, begun_sent, room_told, tells_broken, tells_sent}
use Rattle.capn_serve.proofs.Sends.{adds_all, adds_more}
use Rattle.capn_serve.proofs.shared.Until.{ends_going, not_both}

abbrev Ending : Type 0
Ending = Result (Unit {0}) RunFault

abbrev stopped : RunFault → Ending
stopped fault = Err fault

-- ---- a run whose end does not depend on the fault that comes after its bytes

other_than : (fault : RunFault) → (other : RunFault) × (fault ≡ other → ⊥)
other_than faults.Memory = (faults.Io, λ e. cc)
other_than faults.Io = (faults.Memory, λ e. cc)
other_than faults.InputTooLong = (faults.Memory, λ e. cc)
other_than (faults.Refused at r) = (faults.Memory, λ e. cc)

module _ {X : Type 0} (f : Fold X) where
  unframed_any : (y : X) (rest : List ℕ) (other fault : RunFault) (e : FrameFault) → (fault ≡ other → ⊥)
      → e ≢ frames.Memory → frame_rules.IsFrameRefused rest f.most e
      → stopped fault ≡ end_of (f.place y) e (Some other)
      → (behind : Option RunFault) → EndsUnframed f y rest behind (stopped fault)
  unframed_any y rest other fault frames.Memory apart some refused is behind = absurd (some refl)
  unframed_any y rest other fault frames.Empty apart some refused is behind = absurd (apart (cc))
  unframed_any y rest other fault frames.Cut apart some refused is behind = absurd (apart (cc))
  unframed_any y rest other fault (frames.TooManySegments n) apart some refused is behind =
      (frames.TooManySegments n, some, refused, is)
  unframed_any y rest other fault (frames.TooManyWords n) apart some refused is behind =
      (frames.TooManyWords n, some, refused, is)
  unframed_any y rest other fault frames.Failed apart some refused is behind = (frames.Failed, some, refused, is)

  ends_any : (y : X) (rest : List ℕ) (other fault : RunFault) → (fault ≡ other → ⊥) → (is_done : Bool)
      → EndsBy f is_done y rest (Some other) (stopped fault) → (behind : Option RunFault)
      → EndsBy f is_done y rest behind (stopped fault)
  ends_any y rest other fault apart true is behind = absurd (cc)
  ends_any y rest other fault apart false (inl why) behind =
      inl (unframed_any y rest other fault why.0 apart why.1 why.2 why.3 behind)
  ends_any y rest other fault apart false (inr why) behind = inr why

  folded_any : (x y : X) (bytes text : List ℕ) (other fault : RunFault) → (fault ≡ other → ⊥)
      → IsFolded f x bytes (Some other) text (stopped fault) y → (behind : Option RunFault)
      → IsFolded f x bytes behind text (stopped fault) y
  folded_any x y bytes text other fault apart due behind = record {
    parts = due.parts;
    rest = due.rest;
    are = due.are;
    joined = due.joined;
    ends = ends_any y due.rest other fault apart (f.done y) due.ends behind;
  }

  folded_more : (x y z : X) (s mid e more : List ℕ) (ps : List Part) (behind : Option RunFault) (ending : Ending)
      → AreParts f x s ps mid y → IsFolded f y (mid ++ e) behind more ending z
      → IsFolded f x (s ++ e) behind (texts_of ps ++ more) ending z
  folded_more x y z s mid e more ps behind ending are due = record {
    parts = ps ++ due.parts;
    rest = due.rest;
    are = parts_more f x y z s mid e due.rest ps due.parts are due.are;
    joined = ap (λ (l : List ℕ). texts_of ps ++ l) due.joined ∙ sym (flat_map-append text_of ps due.parts);
    ends = due.ends;
  }

-- ---- the first bytes of a stream, and whether there are more

more_of : (room left : ℕ) (v w : List ℕ) → length w + room ≡ left → has_more left (w ++ v) ≡ has_more room v
more_of room left v w size = longer (length v) (length (w ++ v)) (length-append w v)
  where
    longer : (n m : ℕ) → m ≡ length w + n → nat_lt left m ≡ nat_lt room n
    longer n m is = grind (arith, nat_tests)

pub taken_after : (room left : ℕ) (v w : List ℕ) → length w + room ≡ left
    → taken_of left (w ++ v) ≡ w ++ taken_of room v
taken_after room left v w size =
    ap (λ (i : ℕ). take i (w ++ v)) (sym size) ∙ take-append-add w v room

pub all_taken : (left room : ℕ) (w : List ℕ) → length w + room ≡ left → taken_of left w ≡ w
all_taken left room w size = take_all left w (omega (arith, size))

pub not_more : (left room : ℕ) (w : List ℕ) → length w + room ≡ left → has_more left w ≡ false
not_more left room w size = within (length w) size
  where
    within : (n : ℕ) → n + room ≡ left → nat_lt left n ≡ false
    within n is = grind (arith, nat_tests)

is_more : (left n : ℕ) → left < n → nat_lt left n ≡ true
is_more left n h = grind (arith, nat_tests)

-- ---- where a run stops

module _ {X : Type 0} (f : Fold X) (x : X) (left : ℕ) (rest stream : List ℕ) (a b : Outgoing) (failed : Bool)
    (fault : RunFault) where
  due_within : {w : X} → IsDueSo f x (rest ++ taken_of left stream) a b fault w
      → IsDueWithin f x left rest stream a b fault w
  due_within so more =
      let tail = taken_more left stream more in
      let other = other_than fault in
      let part = so tail.0 (Some other.0) in
      let same : rest ++ taken_of left (stream ++ more) ≡ (rest ++ taken_of left stream) ++ tail.0 =
      ap (λ (p : List ℕ). rest ++ p) tail.1 ∙ sym (append_assoc rest (taken_of left stream) tail.0) in (
        part.0,
        part.1,
        λ behind. (let all = unless_more (has_more left (stream ++ more)) behind in
            subst (λ (p : List ℕ). IsFolded f x p all part.0 (stopped fault) part.1) (sym same)
            (folded_any f x part.1 ((rest ++ taken_of left stream) ++ tail.0) part.0 other.0 fault other.1 part.2 all)),
        part.3,
        part.4,
      )

  -- Case: the run stopped within the first `left` bytes of `stream`.
  pub halts_of : {w : X} → Stops f x (rest ++ taken_of left stream) a b failed fault w
      → Halts f x left rest stream a b failed fault w
  halts_of stop = record {
    told = stop.told;
    front = stop.front;
    io = stop.io;
    due = elim stop.due [
      | inl m ↦ inl m
      | inr more ↦ inr (elim more [ inl i ↦ inl i | inr so ↦ inr (due_within so) ])
    ];
  }

module _ {X : Type 0} (f : Fold X) (x y : X) (left : ℕ) (rest stream end : List ℕ) (a b : Outgoing) where
  long_due : (e : FrameFault) → e ≢ frames.Memory → frame_rules.IsFrameRefused end f.most e
      → stopped faults.InputTooLong ≡ end_of (f.place y) e (Some faults.InputTooLong) → left < length stream
      → f.done y ≡ false → Tells f x (rest ++ taken_of left stream) end a b y
      → IsDueWithin f x left rest stream a b faults.InputTooLong y
  long_due e other refused is past going (parts, are, adds) more =
      let whole : taken_of left (stream ++ more) ≡ taken_of left stream =
      take-append-le left stream more (omega (arith, past)) in
      let longer : has_more left (stream ++ more) ≡ true =
      is_more left (length (stream ++ more)) (omega (arith, past, length-append stream more)) in (
        texts_of parts,
        y,
        λ behind. (let due : IsFolded f x (rest ++ taken_of left stream) (Some faults.InputTooLong) (texts_of parts)
            (stopped faults.InputTooLong) y = record {
              parts = parts;
              rest = end;
              are = are;
              joined = refl;
              ends = ends_going f y end (Some faults.InputTooLong) (stopped faults.InputTooLong) going
                  (inl (e, other, refused, is));
            } in
            subst (λ (p : List ℕ). IsFolded f x (rest ++ p) (unless_more (has_more left (stream ++ more)) behind)
            (texts_of parts) (stopped faults.InputTooLong) y) (sym whole)
            (subst (λ (m : Bool). IsFolded f x (rest ++ taken_of left stream) (unless_more m behind)
            (texts_of parts) (stopped faults.InputTooLong) y) (sym longer) due)),
        adds,
        inl refl,
      )

  -- Case: the run stopped because `stream` has more than `left` bytes.
  pub halts_long : (failed : Bool) → failed ≡ false → left < length stream → IsUnfinished end f.most
      → f.done y ≡ false → Tells f x (rest ++ taken_of left stream) end a b y
      → Halts f x left rest stream a b failed faults.InputTooLong y
  halts_long failed fine past part going told = record {
    told = λ h. tells_begun f x y (rest ++ taken_of left stream) end a b told;
    front = λ h. absurd (let bad : true ≡ false = sym h ∙ fine in cc);
    io = (λ h. absurd (cc), λ h. absurd (let bad : true ≡ false = sym h ∙ fine in cc));
    due = inr (inr (elim part [
      | inl none ↦ long_due frames.Empty (λ e. cc) none refl past going told
      | inr cut ↦ long_due frames.Cut (λ e. cc) cut refl past going told
    ]));
  }

pub within_taken : (left within count : ℕ) (stream got : List ℕ) → got ≡ stream → count ≡ length stream
    → within ≡ min left count → take within got ≡ taken_of left stream
within_taken left within count stream got same size least =
    ap (take within) same
    ∙ elim (cases_lt left (length stream)) [
      | inl past ↦ (let e : within ≡ left = omega (arith, past, size, least) in ap (λ (i : ℕ). take i stream) e)
      | inr short ↦ take_all within stream (omega (arith, short, size, least)) ∙ sym (take_all left stream short)
    ]

-- Cases of `serve_part`: the first `within` bytes of the unpacked bytes `stream` were given to `serve_bytes`.
module _ {X : Type 0} (f : Fold X) (x : X) (left within count : ℕ) (rest stream got : List ℕ) (a b : Outgoing)
    (failed : Bool) (same : got ≡ stream) (size : count ≡ length stream) (least : within ≡ min left count) where
  pub part_stops : {w : X} (fault : RunFault) → Stops f x (rest ++ take within got) a b failed fault w
      → Halts f x left rest stream a b failed fault w
  part_stops {w = w} fault stop =
      halts_of f x left rest stream a b failed fault
      (subst (λ (p : List ℕ). Stops f x (rest ++ p) a b failed fault w)
      (within_taken left within count stream got same size least) stop)

  pub part_long : (y : X) (end : List ℕ) → failed ≡ false → within < count → IsUnfinished end f.most
      → f.done y ≡ false → Tells f x (rest ++ take within got) end a b y
      → Halts f x left rest stream a b failed faults.InputTooLong y
  part_long y end fine past part going told =
      halts_long f x y left rest stream end a b failed fine (omega (arith, past, size, least)) part going
      (subst (λ (p : List ℕ). Tells f x (rest ++ p) end a b y)
      (within_taken left within count stream got same size least) told)

  pub part_done : (y : X) (end : List ℕ) (room : ℕ) (before after : Framing) → before.rest ≡ rest → failed ≡ false
      → f.done y ≡ true → Tells f x (rest ++ take within got) end a b y
      → ServesPart f x left before stream a b failed (Ok tt) room after y
  part_done y end room before after held fine done told = (
    end,
    subst (λ (p : List ℕ). Tells f x (p ++ taken_of left stream) end a b y) (sym held)
        (subst (λ (p : List ℕ). Tells f x (rest ++ p) end a b y)
        (within_taken left within count stream got same size least) told),
    λ going. absurd (not_both (f.done y) done going),
    fine,
  )

  pub part_all : (y : X) (end : List ℕ) (room : ℕ) (before after : Framing) → before.rest ≡ rest → failed ≡ false
      → within ≡ count → left ≡ within + room → after.rest ≡ end → IsListening f after
      → Tells f x (rest ++ take within got) end a b y
      → ServesPart f x left before stream a b failed (Ok tt) room after y
  part_all y end room before after held fine all rooms is listening told = (
    end,
    subst (λ (p : List ℕ). Tells f x (p ++ taken_of left stream) end a b y) (sym held)
        (subst (λ (p : List ℕ). Tells f x (rest ++ p) end a b y)
        (within_taken left within count stream got same size least) told),
    λ going. (omega (arith, all, rooms, size), is, listening),
    fine,
  )

-- Case: the bytes `w` were served, and the run stopped in the bytes after `w`.
module _ {X : Type 0} (f : Fold X) (x y : X) (left room : ℕ) (rest mid w v : List ℕ) (a b c : Outgoing)
    (size : length w + room ≡ left) (served : Tells f x (rest ++ w) mid a b y) where
  same_taken : (u : List ℕ) → rest ++ taken_of left (w ++ u) ≡ (rest ++ w) ++ taken_of room u
  same_taken u = ap (λ (p : List ℕ). rest ++ p) (taken_after room left u w size)
      ∙ sym (append_assoc rest w (taken_of room u))

  due_more : {last : X} (fault : RunFault) → IsDueWithin f y room mid v b c fault last
      → IsDueWithin f x left rest (w ++ v) a c fault last
  due_more fault so more =
      let part = so more in
      let same : rest ++ taken_of left ((w ++ v) ++ more) ≡ (rest ++ w) ++ taken_of room (v ++ more) =
      ap (λ (p : List ℕ). rest ++ taken_of left p) (append_assoc w v more) ∙ same_taken (v ++ more) in
      let same_more : has_more left ((w ++ v) ++ more) ≡ has_more room (v ++ more) =
      ap (λ (p : List ℕ). has_more left p) (append_assoc w v more) ∙ more_of room left (v ++ more) w size in (
        texts_of served.0 ++ part.0,
        part.1,
        λ behind. (let all = folded_more f x y part.1 (rest ++ w) mid (taken_of room (v ++ more)) part.0 served.0
            (unless_more (has_more room (v ++ more)) behind) (stopped fault) served.1 (part.2 behind) in
            subst (λ (p : List ℕ). IsFolded f x p (unless_more (has_more left ((w ++ v) ++ more)) behind)
            (texts_of served.0 ++ part.0) (stopped fault) part.1) (sym same)
            (subst (λ (m : Bool). IsFolded f x ((rest ++ w) ++ taken_of room (v ++ more)) (unless_more m behind)
            (texts_of served.0 ++ part.0) (stopped fault) part.1) (sym same_more) all)),
        adds_more a b c (texts_of served.0) part.0 served.2 part.3,
        part.4,
      )

  pub halts_more : {last : X} (failed : Bool) (fault : RunFault) → Halts f y room mid v b c failed fault last
      → Halts f x left rest (w ++ v) a c failed fault last
  halts_more failed fault halt = record {
    told = λ h. subst (λ (p : List ℕ). TellsBegun f x p a c) (sym (same_taken v))
        (begun_behind f x y (rest ++ w) mid (taken_of room v) a b c served (halt.told h));
    front = λ h. subst (λ (p : List ℕ). TellsFront f x p a c) (sym (same_taken v))
        (front_behind f x y (rest ++ w) mid (taken_of room v) a b c served (halt.front h));
    io = halt.io;
    due = elim halt.due [
      | inl m ↦ inl m
      | inr more ↦ inr (elim more [ inl i ↦ inl i | inr so ↦ inr (due_more fault so) ])
    ];
  }

-- ---- what was unpacked

shifted : (stream rest words old : List ℕ) (len : ℕ) → Splits stream rest [] words len
    → Splits stream rest old (old ++ words) len
shifted stream rest words old len s = record {
  groups = s.groups;
  each = s.each;
  text = s.text;
  content = ap (λ (l : List ℕ). old ++ l) s.content;
  size = s.size;
  open_rest = s.open_rest;
}

pub begins_all : (stream rest words : List ℕ) (len : ℕ) → Splits stream rest [] words len
    → packing.Begins stream [] words
begins_all stream rest words len s =
    record { groups = s.groups; rest = rest; each = s.each; text = s.text; content = s.content }

advanced_more : (offset len more : ℕ) → advanced (advanced offset len) more ≡ advanced offset (len + more)
advanced_more offset len more = omega arith

module _ {X : Type 0} (f : Fold X) (x y : X) (p q : Pending) (s t : List ℕ) (a b : Outgoing)
    (told : TellsPacked f x p s q a b y) where
  pub packed_more : (z : X) (r : Pending) (c : Outgoing) → TellsPacked f y q t r b c z
      → TellsPacked f x p (s ++ t) r a c z
  packed_more z r c more =
      let w = told.stream in
      let v = more.stream in
      let split = splits_then (p.group.rest ++ s) q.group.rest t r.group.rest [] w (w ++ v) told.len more.len told.split
      (shifted (q.group.rest ++ t) r.group.rest v w more.len more.split) in
      record {
        stream = w ++ v;
        len = told.len + more.len;
        split = subst (λ (l : List ℕ). Splits l r.group.rest [] (w ++ v) (told.len + more.len))
            (append_assoc p.group.rest s t) split;
        offset = more.offset ∙ ap (λ (n : ℕ). advanced n more.len) told.offset
            ∙ advanced_more p.group.offset told.len more.len;
        good = more.good;
        size = omega (arith, told.size, more.size, length-append w v);
        told = subst (λ (l : List ℕ). Tells f x l r.rest a c z) (append_assoc p.rest w v)
            (tells_more f x y z (p.rest ++ w) q.rest v r.rest a b c told.told more.told);
      }

  pub packed_reach : (z : X) (c : Outgoing) → ReachesPacked f y q t b c z → ReachesPacked f x p (s ++ t) a c z
  packed_reach z c (v, begins, rest, next) =
      let w = told.stream in
      let all = begins_then (p.group.rest ++ s) q.group.rest t w v told.len told.split begins in
      let part = tells_more f x y z (p.rest ++ w) q.rest (taken_of q.left v) rest a b c told.told next in
      let taken : (p.rest ++ w) ++ taken_of q.left v ≡ p.rest ++ taken_of p.left (w ++ v) =
      append_assoc p.rest w (taken_of q.left v)
      ∙ ap (λ (l : List ℕ). p.rest ++ l) (sym (taken_after q.left p.left v w told.size)) in (
        w ++ v,
        subst (λ (l : List ℕ). packing.Begins l [] (w ++ v)) (append_assoc p.group.rest s t) all,
        rest,
        subst (λ (l : List ℕ). Tells f x l rest a c z) taken part,
      )

  pub packed_stop : {last : X} (c : Outgoing) (failed : Bool) (fault : RunFault)
      → HaltsPacked f y q t b c failed fault last → HaltsPacked f x p (s ++ t) a c failed fault last
  packed_stop c failed fault (v, begins, halt) =
      let w = told.stream in
      let all = begins_then (p.group.rest ++ s) q.group.rest t w v told.len told.split begins in (
        w ++ v,
        subst (λ (l : List ℕ). packing.Begins l [] (w ++ v)) (append_assoc p.group.rest s t) all,
        halts_more f x y p.left q.left p.rest q.rest w v a b c told.size told.told failed fault halt,
      )

pub begins_longer : (held s bytes more stream : List ℕ) → s ++ more ≡ bytes → packing.Begins (held ++ s) [] stream
    → packing.Begins (held ++ bytes) [] stream
begins_longer held s bytes more stream whole begins = record {
  groups = begins.groups;
  rest = begins.rest ++ more;
  each = begins.each;
  text =
      ap (λ (l : List ℕ). held ++ l) (sym whole)
      ∙ sym (append_assoc held s more)
      ∙ ap (λ (l : List ℕ). l ++ more) begins.text
      ∙ append_assoc (texts begins.groups) begins.rest more;
  content = begins.content;
}

module _ {X : Type 0} (f : Fold X) (x : X) (p : Pending) where
  -- Case: memory was refused while a slice was unpacked.
  pub packed_memory : {last : X} (bytes : List ℕ) (a : Outgoing) (failed : Bool) → failed ≡ false
      → HaltsPacked f x p bytes a a failed faults.Memory last
  packed_memory bytes a failed fine = (
    [],
    record { groups = []; rest = p.group.rest ++ bytes; each = tt; text = refl; content = refl },
    halts_of f x p.left p.rest [] a a failed faults.Memory
        (stops_memory f x (p.rest ++ taken_of p.left []) a failed fine),
  )

  pub reach_all : (y : X) (bytes : List ℕ) (q : Pending) (a b : Outgoing) → TellsPacked f x p bytes q a b y
      → ReachesPacked f x p bytes a b y
  reach_all y bytes q a b told = (
    told.stream,
    begins_all (p.group.rest ++ bytes) q.group.rest told.stream told.len told.split,
    q.rest,
    subst (λ (l : List ℕ). Tells f x (p.rest ++ l) q.rest a b y)
        (sym (all_taken p.left q.left told.stream told.size)) told.told,
  )

  pub reach_longer : (y : X) (s bytes more : List ℕ) (a b : Outgoing) → s ++ more ≡ bytes
      → ReachesPacked f x p s a b y → ReachesPacked f x p bytes a b y
  reach_longer y s bytes more a b whole (stream, begins, rest, told) = (
    stream,
    begins_longer p.group.rest s bytes more stream whole begins,
    rest,
    told,
  )

  pub packed_none : (a : Outgoing) → IsUnpacking p.group → TellsPacked f x p [] p a a x
  packed_none a unpacking = record {
    stream = [];
    len = 0;
    split = subst (λ (l : List ℕ). Splits l p.group.rest [] [] 0) (sym (append-nil p.group.rest))
        (splits_open p.group.rest [] [] unpacking.group refl);
    offset = omega (arith, unpacking.offset);
    good = unpacking.good;
    size = omega arith;
    told = subst (λ (l : List ℕ). Tells f x l p.rest a a x) (sym (append-nil p.rest)) (tells_none f x p.rest a);
  }

  pub packed_longer : {last : X} (s bytes more : List ℕ) (a b : Outgoing) (failed : Bool) (fault : RunFault)
      → s ++ more ≡ bytes → HaltsPacked f x p s a b failed fault last → HaltsPacked f x p bytes a b failed fault last
  packed_longer s bytes more a b failed fault whole (stream, begins, halt) =
      (stream, begins_longer p.group.rest s bytes more stream whole begins, halt)

-- Cases of `serve_slice`: the slice `bytes` was unpacked to `new`, and the bytes `new` were given to `serve_part`.
module _ {X : Type 0} (f : Fold X) (x : X) (held next : Held) (before : Framing) (left : ℕ) (bytes old new : List ℕ)
    (none : old ≡ []) (fed : Feeds held bytes old new next) where
  split : Splits (held.rest ++ bytes) next.rest [] new fed.len
  split = subst (λ (l : List ℕ). Splits (held.rest ++ bytes) next.rest l new fed.len) none fed.split

  pub served_slice : (y : X) (after : Framing) (room : ℕ) (a b : Outgoing) (failed : Bool) (r : Ending)
      (last : Held) → last ≡ next → ServesPart f x left before new a b failed r room after y
      → ServesPacked f x (pending held before left) bytes a b failed r last after room y
  served_slice y after room a b failed (Ok u) last same (rest, told, keeps, fine) = (
    (new, begins_all (held.rest ++ bytes) next.rest new fed.len split, rest, told),
    (λ going. (let kept = keeps going in
        let taken : taken_of left new ≡ new = all_taken left room new kept.0 in
        let full = subst (λ (l : List ℕ). Tells f x (before.rest ++ l) rest a b y) taken told in (
          record {
            stream = new;
            len = fed.len;
            split = subst (λ (h : Held). Splits (held.rest ++ bytes) h.rest [] new fed.len) (sym same) split;
            offset = ap (λ (h : Held). h.offset) same ∙ fed.offset;
            good = ap (λ (h : Held). h.failed) same ∙ fed.is_good;
            size = kept.0;
            told = subst (λ (l : List ℕ). Tells f x (before.rest ++ new) l a b y) (sym kept.1) full;
          },
          kept.2,
        ))),
    fine,
  )
  served_slice y after room a b failed (Err fault) last same halt =
      (new, begins_all (held.rest ++ bytes) next.rest new fed.len split, halt)

-- Cases of `serve_slices`: the first `at` bytes were served, and the slice from `at` to `end` comes next.
module _ {X : Type 0} (f : Fold X) (x y : X) (p q : Pending) (bytes : List ℕ) (at end : ℕ) (forward : at ≤ end)
    (a b : Outgoing) (told : TellsPacked f x p (take at bytes) q a b y) where
  joined : take at bytes ++ take (end - at) (drop at bytes) ≡ take end bytes
  joined = let e : at + (end - at) ≡ end = omega (arith, forward) in sym (take-add at (end - at) bytes)
      ∙ ap (λ (i : ℕ). take i bytes) e

  pub slice_more : (z : X) (r : Pending) (c : Outgoing)
      → TellsPacked f y q (take (end - at) (drop at bytes)) r b c z → TellsPacked f x p (take end bytes) r a c z
  slice_more z r c more =
      subst (λ (l : List ℕ). TellsPacked f x p l r a c z) joined
      (packed_more f x y p q (take at bytes) (take (end - at) (drop at bytes)) a b told z r c more)

  pub slice_reach : (z : X) (c : Outgoing)
      → ReachesPacked f y q (take (end - at) (drop at bytes)) b c z → ReachesPacked f x p bytes a c z
  slice_reach z c more =
      let part = packed_reach f x y p q (take at bytes) (take (end - at) (drop at bytes)) a b told z c more in
      reach_longer f x p z (take at bytes ++ take (end - at) (drop at bytes)) bytes (drop end bytes) a c
      (ap (λ (l : List ℕ). l ++ drop end bytes) joined ∙ take-append-drop end bytes) part

  pub slice_stop : {last : X} (c : Outgoing) (failed : Bool) (fault : RunFault)
      → HaltsPacked f y q (take (end - at) (drop at bytes)) b c failed fault last
      → HaltsPacked f x p bytes a c failed fault last
  slice_stop c failed fault stop =
      let part = packed_stop f x y p q (take at bytes) (take (end - at) (drop at bytes)) a b told c failed fault stop in
      packed_longer f x p (take at bytes ++ take (end - at) (drop at bytes)) bytes (drop end bytes) a c failed fault
      (ap (λ (l : List ℕ). l ++ drop end bytes) joined ∙ take-append-drop end bytes) part

-- ---- the text that was not written before is written

module _ {X : Type 0} (f : Fold X) (x : X) (left : ℕ) (rest stream : List ℕ) (c d e : Option (List ℕ)) (text : List ℕ)
  where
    halts_sent : {last : X} (fault : RunFault) → Halts f x left rest stream (sent c) (outgoing d text) false fault last
        → Appends d e text → Halts f x left rest stream (sent c) (sent e) false fault last
    halts_sent {last = last} fault halt wrote = record {
      told = λ h. begun_sent f x c d e text (rest ++ taken_of left stream) (halt.told refl) wrote;
      front = λ h. absurd (cc);
      io = halt.io;
      due = elim halt.due [
        | inl m ↦ inl m
        | inr more ↦ inr (elim more [ inl i ↦ inl i | inr so ↦ inr (so_sent so) ])
      ];
    }
      where
        so_sent : IsDueWithin f x left rest stream (sent c) (outgoing d text) fault last
            → IsDueWithin f x left rest stream (sent c) (sent e) fault last
        so_sent so more = let part = so more in
            (part.0, part.1, part.2, adds_all (sent c) d e text part.0 part.3 wrote, part.4)

    -- Case: the writer fails while `text` is written.
    halts_broken : {last : X} (fault : RunFault)
        → Halts f x left rest stream (sent c) (outgoing d text) false fault last → HasBegun d e text
        → Halts f x left rest stream (sent c) (sent e) true faults.Io last
    halts_broken fault halt wrote =
        halts_of f x left rest stream (sent c) (sent e) true faults.Io
        (begun_broken f x c d e text (rest ++ taken_of left stream) (halt.told refl) wrote)

    -- Case: the writer had failed already, and `text` was not written.
    halts_kept : {last : X} (fault : RunFault) → e ≡ d
        → Halts f x left rest stream (sent c) (outgoing d text) true fault last
        → Halts f x left rest stream (sent c) (sent e) true fault last
    halts_kept fault same halt = record {
      told = λ h. absurd (cc);
      front = λ h. (let g = halt.front h in
          let wrote = subst (λ (o : Option (List ℕ)). Appends c o (take g.3 (texts_of g.0))) (sym same) g.5 in
          (g.0, g.1, g.2, g.3, g.4, wrote));
      io = halt.io;
      due = inr (inl (halt.io.1 refl));
    }

-- Cases of `SendsRest`, after the packed `bytes` were served: `text` was written, the writer failed within `text`, or
-- the writer had failed before and nothing was written.
module _ {X : Type 0} (f : Fold X) (x y : X) (p : Pending) (next : Held) (after : Framing) (room : ℕ) (bytes : List ℕ)
    (c d e : Option (List ℕ)) (text : List ℕ) where
  abbrev Served : Outgoing → Bool → Ending → Type 0
  Served new failed r = ServesPacked f x p bytes (sent c) new failed r next after room y

  packed_sent : (broken failed : Bool) (served result : Ending) → Served (outgoing d text) broken served
      → SendsRest served text d e broken failed result → Served (sent e) failed result
  packed_sent true failed (Ok u) result s r = absurd (let bad : true ≡ false = s.2 in cc)
  packed_sent true failed (Err fault) result (stream, begins, halt) (same, broken, is) =
      subst (λ (r : Ending). Served (sent e) failed r) (sym is)
      (subst (λ (b : Bool). HaltsPacked f x p bytes (sent c) (sent e) b fault y) (sym broken)
      (stream, begins, halts_kept f x p.left p.rest stream c d e text fault same halt))
  packed_sent false false (Ok u) result ((stream, begins, rest, reached), keeps, ok) (wrote, is) =
      subst (λ (r : Ending). Served (sent e) false r) (sym is) (
        (stream, begins, rest, tells_sent f x c d e text y (p.rest ++ taken_of p.left stream) rest reached wrote),
        (λ going. (let kept = keeps going in
            let told = kept.0 in (
              record {
                stream = told.stream;
                len = told.len;
                split = told.split;
                offset = told.offset;
                good = told.good;
                size = told.size;
                told = tells_sent f x c d e text y (p.rest ++ told.stream) after.rest told.told wrote;
              },
              kept.1,
            ))),
        refl,
      )
  packed_sent false false (Err fault) result (stream, begins, halt) (wrote, is) =
      subst (λ (r : Ending). Served (sent e) false r) (sym is)
      (stream, begins, halts_sent f x p.left p.rest stream c d e text fault halt wrote)
  packed_sent false true (Ok u) result ((stream, begins, rest, reached), keeps, ok) (wrote, is) =
      subst (λ (r : Ending). Served (sent e) true r) (sym is) (
        stream,
        begins,
        halts_of f x p.left p.rest stream (sent c) (sent e) true faults.Io
            (tells_broken f x c d e text y (p.rest ++ taken_of p.left stream) rest reached wrote),
      )
  packed_sent false true (Err fault) result (stream, begins, halt) (wrote, is) =
      subst (λ (r : Ending). Served (sent e) true r) (sym is)
      (stream, begins, halts_broken f x p.left p.rest stream c d e text fault halt wrote)

  pub packed_chunk : (start kept : List ℕ) (broken failed : Bool) (served result : Ending) → start ≡ []
      → kept ≡ text
      → ServesPacked f x p bytes (outgoing c start) (outgoing d text) broken served next after room y
      → SendsRest served kept d e broken failed result → Served (sent e) failed result
  packed_chunk start kept broken failed served result none is s r =
      packed_sent broken failed served result
      (subst (λ (l : List ℕ). ServesPacked f x p bytes (outgoing c l) (outgoing d text) broken served next after
      room y) none s) (subst (λ (l : List ℕ). SendsRest served l d e broken failed result) is r)

pub packed_room : {S : Type 0} (serves : S → Position → List ℕ → List (List ℕ) → List ℕ → S → Type 0)
    (refuses : S → Position → List ℕ → List (List ℕ) → Refusal → Type 0) (done : S → Position → Bool) (most : ℕ)
    (x y : Run S) (p q : Pending) (bytes : List ℕ) (a b : Outgoing)
    → TellsPacked (fold_until serves refuses done most) x p bytes q a b y
    → HasRoom x.at (length p.rest + p.left) → HasRoom y.at (length q.rest + q.left)
packed_room serves refuses done most x y p q bytes a b told room =
    room_told serves refuses done most x y (p.rest ++ told.stream) q.rest a b q.left told.told (record {
      offset = omega (arith, room.offset, told.size, length-append p.rest told.stream);
      index = room.index;
    })
