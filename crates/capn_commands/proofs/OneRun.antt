-- Lemmas for `serve_frame` and `serve_one`: the result of a run over the one message of an input.
use Rattle.std.proofs.Common.{◌≡◌, ◌⊎◌, ◌↔◌, inl, inr, ℕ, ◌+◌, ◌*◌, ◌<◌, ◌≤◌, ◌^◌, List, [], length, take, Bool, true}
use Rattle.std.proofs.Common.{false, Option, None, Some, IfSome, Result, Ok, Err, Vec, refl, ap, sym, subst, ◌∙◌, arith}
use Rattle.std.proofs.Common.{take_all}
use Rattle.std.proofs.Math.Seq.{take-length}
use Rattle.std.proofs.KnownBytes.{Appends-nil}
use Rattle.std.specs.Io.KnownBytes.{Appends, Consumes}
use Rattle.capn_stream.specs.Frames.{most_table_words}
use Rattle.capn_pack.specs.Packed.{Packs}
use Rattle.capn_canon.specs.Reads.{IsFramed}
use Rattle.capn_canon.specs.Refusal.{IsMisframed, IsMisread}
use Rattle.capn_canon.specs.declared.form.Form.TheVariants as forms
use Rattle.capn_canon.specs.declared.refusal.Refusal.{Refusal}
use Rattle.capn_canon.specs.declared.refusal.Refusal.TheVariants as refusals
use Rattle.capn_serve.specs.declared.pick.StreamForm.{StreamForm}
use Rattle.capn_serve.specs.declared.pick.StreamForm.TheVariants as streams
use Rattle.capn_serve.specs.declared.position.Position.{Position}
use Rattle.capn_serve.specs.StreamRun.{start}
use Rattle.capn_serve.specs.WholeInput.{HasGiven, HasGivenAll}
use Rattle.capn_commands.specs.OneMessage.{RefusesOne, Writes, WritesOne}
use Rattle.capn_commands.specs.Text.{IsDueOf, has_more, taken_of}
use Rattle.capn_commands.specs.WholeRun.{RunsWhole, WholeBegins, WholeEnds}
use Rattle.capn_commands.specs.inner.OneServing.{HoldsFrame, RefusesFrame, ServesWhole, WritesFrame}
use Rattle.capn_commands.specs.inner.ReadInput.{IsUntaken, Kept, TakesAll}
use Rattle.capn_commands.specs.declared.fault.ToolFault.{ToolFault}
use Rattle.capn_commands.specs.declared.fault.ToolFault.TheVariants as faults
use Rattle.capn_commands.proofs.BareServed.{taken}
use Rattle.capn_commands.proofs.FirstBytes.{framed_first, misframed_first}
use Rattle.capn_commands.proofs.ReadMore.{kept_all}
use Rattle.capn_commands.proofs.WholeRun.{is_all, is_more}

abbrev Ending : Type 0
Ending = Result (Unit {0}) ToolFault

abbrev stopped : ToolFault → Ending
stopped fault = Err fault

-- ---- a fact about the input of a reader, if that input is known

some_all : (a : Option (List ℕ)) (P : List ℕ → Type 0) → ((all : List ℕ) → P all) → IfSome a P
some_all None P h = tt
some_all (Some all) P h = h all

some_so : (a : Option (List ℕ)) (P Q : List ℕ → Type 0) → ((all : List ℕ) → P all → Q all) → IfSome a P → IfSome a Q
some_so None P Q change h = tt
some_so (Some all) P Q change h = change all h

all_kept : (P : List ℕ → Bool → Type 0) (a b : Option (List ℕ)) (kept bytes : List ℕ) (is_longer : Bool)
    → Kept a b kept is_longer bytes → P kept is_longer → IfSome a (λ all. P (taken_of all) (has_more all))
all_kept P None b kept bytes is_longer k h = tt
all_kept P (Some all) b kept bytes is_longer k h =
    let same = kept_all (Some all) b kept bytes is_longer k in
    subst (λ (more : Bool). P (taken_of all) more) (sym same.1) (subst (λ (l : List ℕ). P l is_longer) (sym same.0) h)

-- ---- a run

module _ (makes : List ℕ → List ℕ → Type 0) (fails : List ℕ → ToolFault → Type 0) (a b c : Option (List ℕ))
    (r w : Bool) where
  -- If the input is known, `WholeEnds` holds for the input and for the result `e`.
  abbrev Ends : Option (List ℕ) → Ending → Type 0
  Ends d e = IfSome a (λ input. WholeEnds makes fails c d e (taken_of input) (has_more input))

  ends_unread : (d : Option (List ℕ)) (fault : ToolFault) → (fault ≡ faults.Memory) ⊎ (fault ≡ faults.Io)
      → Ends d (Err fault)
  ends_unread d fault (inl memory) =
      some_all a (λ input. WholeEnds makes fails c d (Err fault) (taken_of input) (has_more input))
      (λ input. inl (ap stopped memory))
  ends_unread d fault (inr io) =
      some_all a (λ input. WholeEnds makes fails c d (Err fault) (taken_of input) (has_more input))
      (λ input. inr (inl (ap stopped io)))

  ends_given : (d : Option (List ℕ)) (bytes text : List ℕ) (e : Ending) → HasGivenAll a b r bytes
      → IsDueOf makes fails bytes false text e → Appends c d text → Ends d e
  ends_given d bytes text e all due wrote =
      all_kept (λ l more. WholeEnds makes fails c d e l more) a b bytes bytes false
      (record {
        read = all.given.read;
        bounded = all.given.bounded;
        are = take_all (2 ^ 32) bytes all.within;
        more = is_all bytes all.within;
        ended = λ _. all.ended;
      }) (inr (inr (text, due, wrote)))

  ends_long : (bytes : List ℕ) (fault : ToolFault) → HasGiven a b r bytes → 2 ^ 32 < length bytes
      → fault ≡ faults.InputTooLong → Ends c (Err fault)
  ends_long bytes fault h long is =
      all_kept (λ l more. WholeEnds makes fails c c (Err fault) l more) a b (taken_of bytes) bytes true
      (record {
        read = h.read;
        bounded = h.bounded;
        are = refl;
        more = is_more bytes long;
        ended = λ e. absurd (cc);
      }) (inr (inr ([], (refl, ap stopped is), Appends-nil c)))

  begins_none : (d : Option (List ℕ)) (bytes : List ℕ) → Consumes a b bytes → length bytes ≤ 2 ^ 32 + 1
      → Appends c d [] → WholeBegins makes fails a b c d
  begins_none d bytes read bound wrote = record {
    bytes = bytes;
    read = read;
    bounded = bound;
    written = ([], 0, inl refl, wrote);
  }

  begins_so : (d : Option (List ℕ)) (bytes text : List ℕ) (count : ℕ) → HasGivenAll a b r bytes → makes bytes text
      → Appends c d (take count text) → WholeBegins makes fails a b c d
  begins_so d bytes text count all made wrote = record {
    bytes = bytes;
    read = all.given.read;
    bounded = all.given.bounded;
    written = (
      text,
      count,
      inr (taken (λ (l : List ℕ) (more : Bool). IsDueOf makes fails l more text (Ok tt)) bytes all.within made),
      wrote,
    );
  }

  -- Case: neither the reader nor the writer has failed.
  io_none : (e : Ending) → r ≡ false → w ≡ false → (e ≡ Err faults.Io → ⊥)
      → (e ≡ Err faults.Io) ↔ ((r ≡ true) ⊎ (w ≡ true))
  io_none e fine good other = (λ is. absurd (other is), from)
    where
      from : (r ≡ true) ⊎ (w ≡ true) → e ≡ Err faults.Io
      from (inl bad) = absurd (let no : true ≡ false = sym bad ∙ fine in cc)
      from (inr bad) = absurd (let no : true ≡ false = sym bad ∙ good in cc)

  -- Case: the input was not read to its end.
  pub runs_untaken : (fault : ToolFault) → w ≡ false → IsUntaken a b r fault
      → RunsWhole makes fails a b c c r w (Err fault)
  runs_untaken fault good (bytes, inl (h, inl (memory, some))) = record {
    exact = ends_unread c fault (inl memory);
    io = io_none (Err fault) h.fine good (λ e. cc);
    begun = begins_none c bytes h.read h.bounded (Appends-nil c);
    heard = λ _. Appends-nil c;
    memory = λ _. inl (bytes, h.read, some);
  }
  runs_untaken fault good (bytes, inl (h, inr (is, long))) = record {
    exact = ends_long bytes fault h long is;
    io = io_none (Err fault) h.fine good (λ e. cc);
    begun = begins_none c bytes h.read h.bounded (Appends-nil c);
    heard = λ _. Appends-nil c;
    memory = λ e. absurd (cc);
  }
  runs_untaken fault good (bytes, inr (read, bound, broken, io)) = record {
    exact = ends_unread c fault (inr io);
    io = (λ _. inl broken, λ _. ap stopped io);
    begun = begins_none c bytes read bound (Appends-nil c);
    heard = λ _. Appends-nil c;
    memory = λ e. absurd (cc);
  }

  -- Cases: the input was read to its end.
  module _ (bytes : List ℕ) (all : HasGivenAll a b r bytes) where
    heard_all : (d : Option (List ℕ)) → r ≡ true → Appends c d []
    heard_all d failed = absurd (let no : true ≡ false = sym failed ∙ all.given.fine in cc)

    -- Case: nothing was written, because of `fault`.
    pub runs_none : (d : Option (List ℕ)) (fault : ToolFault) → w ≡ false → Appends c d []
        → (fault ≡ faults.Io → ⊥) → (fault ≡ faults.Memory) ⊎ fails bytes fault
        → RunsWhole makes fails a b c d r w (Err fault)
    runs_none d fault good none other why = record {
      exact = ends why;
      io = io_none (Err fault) all.given.fine good (λ e. other (cc));
      begun = begins_none d bytes all.given.read all.given.bounded none;
      heard = heard_all d;
      memory = λ _. inr all.ended;
    }
      where
        ends : (fault ≡ faults.Memory) ⊎ fails bytes fault → Ends d (Err fault)
        ends (inl memory) = ends_unread d fault (inl memory)
        ends (inr why) = ends_given d bytes [] (Err fault) all (refl, why) none

    -- Case: the service was called for the message of the input, and `e` is the result.
    pub runs_served : (d : Option (List ℕ)) (e : Ending)
        → ServesWhole (makes bytes) (λ (q : Refusal). fails bytes (faults.Refused q)) c d w e
        → RunsWhole makes fails a b c d r w e
    runs_served d (Ok u) ((text, made, wrote), good) = record {
      exact = ends_given d bytes text (Ok u) all made wrote;
      io = io_none (Ok u) all.given.fine good (λ e. cc);
      begun = begins_so d bytes text (length text) all made
          (subst (λ (t : List ℕ). Appends c d t) (sym (take-length text)) wrote);
      heard = heard_all d;
      memory = λ e. absurd (cc);
    }
    runs_served d (Err faults.Memory) (inl none, good) =
        runs_none d faults.Memory good none (λ e. cc) (inl refl)
    runs_served d (Err faults.Memory) (inr (text, count, made, wrote), good) = record {
      exact = ends_unread d faults.Memory (inl refl);
      io = io_none (Err faults.Memory) all.given.fine good (λ e. cc);
      begun = begins_so d bytes text count all made wrote;
      heard = heard_all d;
      memory = λ _. inr all.ended;
    }
    runs_served d (Err faults.Io) ((text, count, made, wrote), broken) = record {
      exact = ends_unread d faults.Io (inr refl);
      io = (λ _. inr broken, λ _. refl);
      begun = begins_so d bytes text count all made wrote;
      heard = heard_all d;
      memory = λ e. absurd (cc);
    }
    runs_served d (Err (faults.Refused q)) (why, none, good) =
        runs_none d (faults.Refused q) good none (λ e. cc) (inr why)
    runs_served d (Err faults.InputTooLong) none = absurd none
    runs_served d (Err (faults.NotWhole n)) none = absurd none

-- ---- a run also satisfies weaker relations

pub serves_more : (writes also : List ℕ → Type 0) (refuses too : Refusal → Type 0) (c d : Option (List ℕ))
    (failed : Bool) (e : Ending) → ((t : List ℕ) → writes t → also t) → ((q : Refusal) → refuses q → too q)
    → ServesWhole writes refuses c d failed e → ServesWhole also too c d failed e
serves_more writes also refuses too c d failed (Ok u) f g ((text, is, wrote), good) = ((text, f text is, wrote), good)
serves_more writes also refuses too c d failed (Err faults.Memory) f g (inl none, good) = (inl none, good)
serves_more writes also refuses too c d failed (Err faults.Memory) f g (inr (text, count, is, wrote), good) =
    (inr (text, count, f text is, wrote), good)
serves_more writes also refuses too c d failed (Err faults.Io) f g ((text, count, is, wrote), broken) =
    ((text, count, f text is, wrote), broken)
serves_more writes also refuses too c d failed (Err (faults.Refused q)) f g (why, none, good) = (g q why, none, good)
serves_more writes also refuses too c d failed (Err faults.InputTooLong) f g none = none
serves_more writes also refuses too c d failed (Err (faults.NotWhole n)) f g none = none

module _ (makes also : List ℕ → List ℕ → Type 0) (fails too : List ℕ → ToolFault → Type 0)
    (f : (bytes text : List ℕ) → makes bytes text → also bytes text)
    (g : (bytes : List ℕ) (fault : ToolFault) → fails bytes fault → too bytes fault) where
  due_more : (bytes text : List ℕ) (is_longer : Bool) (e : Ending) → IsDueOf makes fails bytes is_longer text e
      → IsDueOf also too bytes is_longer text e
  due_more bytes text true e h = h
  due_more bytes text false (Ok u) made = f bytes text made
  due_more bytes text false (Err fault) (none, why) = (none, g bytes fault why)

  ends_more : (c d : Option (List ℕ)) (e : Ending) (bytes : List ℕ) (is_longer : Bool)
      → WholeEnds makes fails c d e bytes is_longer → WholeEnds also too c d e bytes is_longer
  ends_more c d e bytes is_longer (inl memory) = inl memory
  ends_more c d e bytes is_longer (inr (inl io)) = inr (inl io)
  ends_more c d e bytes is_longer (inr (inr (text, due, wrote))) =
      inr (inr (text, due_more bytes text is_longer e due, wrote))

  front_more : (bytes text : List ℕ) (is_longer : Bool)
      → (text ≡ []) ⊎ IsDueOf makes fails bytes is_longer text (Ok tt)
      → (text ≡ []) ⊎ IsDueOf also too bytes is_longer text (Ok tt)
  front_more bytes text is_longer (inl none) = inl none
  front_more bytes text is_longer (inr due) = inr (due_more bytes text is_longer (Ok tt) due)

  pub runs_more : (a b c d : Option (List ℕ)) (r w : Bool) (e : Ending) → RunsWhole makes fails a b c d r w e
      → RunsWhole also too a b c d r w e
  runs_more a b c d r w e h = record {
    exact =
        some_so a (λ input. WholeEnds makes fails c d e (taken_of input) (has_more input))
        (λ input. WholeEnds also too c d e (taken_of input) (has_more input))
        (λ input ended. ends_more c d e (taken_of input) (has_more input) ended) h.exact;
    io = h.io;
    begun =
        let (text, count, front, wrote) = h.begun.written in
        record {
          bytes = h.begun.bytes;
          read = h.begun.read;
          bounded = h.begun.bounded;
          written = (text, count, front_more (taken_of h.begun.bytes) text (has_more h.begun.bytes) front, wrote);
        };
    heard = h.heard;
    memory = h.memory;
  }

-- ---- the frame of one message

module _ {S : Type 0} (serves : S → Position → List ℕ → List (List ℕ) → List ℕ → S → Type 0)
    (refuses : S → Position → List ℕ → List (List ℕ) → Refusal → Type 0) (s : S) (most : ℕ) where
  abbrev IsWritten : List ℕ → List ℕ → Type 0
  IsWritten frame text = WritesFrame (Writes serves s) most frame text

  abbrev IsUnwritten : List ℕ → Refusal → Type 0
  IsUnwritten frame q = RefusesFrame (refuses s start) most frame q

  module _ (bytes frame : List ℕ) (is : take (8 * (most + most_table_words) + 1) bytes ≡ frame) where
    all_held : (message : List (List ℕ)) → IsFramed frame most message → bytes ≡ frame
    all_held message framed =
        sym (framed_first (8 * (most + most_table_words) + 1) most bytes (omega arith) message
        (subst (λ (l : List ℕ). IsFramed l most message) (sym is) framed)) ∙ is

    stream_writes : (text : List ℕ) → IsWritten frame text → WritesOne serves refuses s most streams.Stream bytes text
    stream_writes text (message, framed, writes) = (frame, message, all_held message framed, framed, writes)

    stream_refuses : (q : Refusal) → IsUnwritten frame q
        → RefusesOne serves refuses s most streams.Stream bytes (faults.Refused q)
    stream_refuses q (inl why) = (
      q,
      refl,
      inl (misframed_first (8 * (most + most_table_words) + 1) most bytes (omega arith) q
          (subst (λ (l : List ℕ). IsMisframed l most q) (sym is) why)),
    )
    stream_refuses q (inr (message, framed, why)) =
        (q, refl, inr (frame, message, all_held message framed, framed, why))

  module _ (bytes frame : List ℕ) (packs : Packs bytes frame)
      (room : length frame ≤ 8 * (most + most_table_words)) where
    packed_writes : (text : List ℕ) → IsWritten frame text → WritesOne serves refuses s most streams.Packed bytes text
    packed_writes text (message, framed, writes) =
        (frame, message, record { packs = packs; room = room }, framed, writes)

    packed_misread : (q : Refusal) → IsMisframed frame most q → IsMisread forms.Packed bytes most q
    packed_misread (refusals.Frame e) h = (frame, record { packs = packs; room = room }, h)
    packed_misread (refusals.Trailing at) h = (frame, record { packs = packs; room = room }, h)
    packed_misread (refusals.Packed e) h = absurd h
    packed_misread (refusals.Bare e) h = absurd h
    packed_misread (refusals.Walk t) h = absurd h
    packed_misread (refusals.Capability k) h = absurd h
    packed_misread refusals.Memory h = absurd h

    packed_refuses : (q : Refusal) → IsUnwritten frame q
        → RefusesOne serves refuses s most streams.Packed bytes (faults.Refused q)
    packed_refuses q (inl why) = (q, refl, inl (packed_misread q why))
    packed_refuses q (inr (message, framed, why)) =
        (q, refl, inr (frame, message, record { packs = packs; room = room }, framed, why))

  module _ {A : Type 0} (a b c : Option (List ℕ)) (r w : Bool) where
    -- Case: the frame was read, and its message was served.
    pub one_served : (form : StreamForm) (d : Option (List ℕ)) (kept : Vec ℕ A) (frame : List ℕ) (e : Ending)
        → TakesAll {T = Vec ℕ A} (HoldsFrame form most) a b r (Ok kept) → frame ≡ kept.items
        → ServesWhole (IsWritten frame) (IsUnwritten frame) c d w e
        → RunsWhole (WritesOne serves refuses s most form) (RefusesOne serves refuses s most form) a b c d r w e
    one_served streams.Stream d kept frame e (bytes, all, is) same served =
        runs_served (WritesOne serves refuses s most streams.Stream) (RefusesOne serves refuses s most streams.Stream)
        a b c r w bytes all d e
        (serves_more (IsWritten frame) (WritesOne serves refuses s most streams.Stream bytes) (IsUnwritten frame)
        (λ (q : Refusal). RefusesOne serves refuses s most streams.Stream bytes (faults.Refused q)) c d w e
        (stream_writes bytes frame (is ∙ sym same)) (stream_refuses bytes frame (is ∙ sym same)) served)
    one_served streams.Packed d kept frame e (bytes, all, (packs, room)) same served =
        let P = subst (λ (l : List ℕ). Packs bytes l) (sym same) packs in
        let R = subst (λ (l : List ℕ). length l ≤ 8 * (most + most_table_words)) (sym same) room in
        runs_served (WritesOne serves refuses s most streams.Packed) (RefusesOne serves refuses s most streams.Packed)
        a b c r w bytes all d e
        (serves_more (IsWritten frame) (WritesOne serves refuses s most streams.Packed bytes) (IsUnwritten frame)
        (λ (q : Refusal). RefusesOne serves refuses s most streams.Packed bytes (faults.Refused q)) c d w e
        (packed_writes bytes frame P R) (packed_refuses bytes frame P R) served)

  -- Case: no frame was read.
  pub one_unread : (A : Type 0) (a b c : Option (List ℕ)) (r w : Bool) (form : StreamForm) (fault : ToolFault)
      → w ≡ false → TakesAll {T = Vec ℕ A} (HoldsFrame form most) a b r (Err fault)
      → RunsWhole (WritesOne serves refuses s most form) (RefusesOne serves refuses s most form) a b c c r w (Err fault)
  one_unread A a b c r w form fault good (inl untaken) =
      runs_untaken (WritesOne serves refuses s most form) (RefusesOne serves refuses s most form) a b c r w fault good
      untaken
  one_unread A a b c r w streams.Stream fault good (inr (bytes, all, none)) = absurd none
  one_unread A a b c r w streams.Packed fault good (inr (bytes, all, inl memory)) =
      runs_none (WritesOne serves refuses s most streams.Packed) (RefusesOne serves refuses s most streams.Packed)
      a b c r w bytes all c fault good (Appends-nil c) (λ e. cc) (inl memory)
  one_unread A a b c r w streams.Packed fault good (inr (bytes, all, inr (e, is, n, h))) =
      runs_none (WritesOne serves refuses s most streams.Packed) (RefusesOne serves refuses s most streams.Packed)
      a b c r w bytes all c fault good (Appends-nil c) (λ i. cc) (inr (refusals.Packed e, is, inl (n, h)))
