-- Lemmas for `packed_into` and the `Intake` of a packed stream: the served messages, the end of a run, and the bytes
-- that the framer and the unpacker then hold.
use Rattle.std.proofs.Common.{◌≡◌, ◌≢◌, inl, inr, ℕ, ◌-◌, ◌^◌, ◌<◌, ◌≤◌, List, [], ◌∷◌, ◌++◌, length, take, Bool, true}
use Rattle.std.proofs.Common.{false, Option, IfErr, IfSome, Result, Ok, Err, refl, ap, sym, subst, ◌∙◌, append-nil}
use Rattle.std.proofs.Common.{append_assoc, arith, length-append}
use Rattle.std.proofs.Math.Seq.{take-length}
use Rattle.std.proofs.lemmas.Grind.{flat_map-append}
use Rattle.std.specs.Io.KnownBytes.{Appends}
use Rattle.capn_pack.specs.Packed.{group_text, group_bytes, texts, contents}
use Rattle.capn_pack.specs.PackedPieces as packing
use Rattle.capn_pack.specs.PackedPieces.{Held, Splits}
use Rattle.capn_pack.proofs.shared.GroupLemmas.{each_append}
use Rattle.capn_pack.proofs.shared.SplitLaws.{splits_all}
use Rattle.capn_pack.proofs.shared.StreamLemmas.{nothing_first}
use Rattle.capn_stream.specs.StreamPieces.{Framing, IsUnfinished}
use Rattle.capn_stream.specs.FrameRefusal as frame_rules
use Rattle.capn_stream.specs.FrameRefusal.{IsFrameRefused}
use Rattle.capn_stream.specs.declared.fault.FrameFault.{FrameFault}
use Rattle.capn_stream.specs.declared.fault.FrameFault.TheVariants as frames
use Rattle.capn_serve.specs.declared.position.Position.{Position}
use Rattle.capn_serve.specs.declared.fault.RunFault.{RunFault}
use Rattle.capn_serve.specs.declared.fault.RunFault.TheVariants as faults
use Rattle.capn_serve.specs.Fold.{AreParts, Fold, IsFolded, Leaves, Part, end_of, texts_of}
use Rattle.capn_serve.specs.Outgoing.{sent}
use Rattle.capn_serve.specs.ChunkRun.{HasRoom, IsListening, Tells}
use Rattle.capn_serve.specs.StreamRun.{has_more, taken_of}
use Rattle.capn_serve.specs.PackedRun.{HasEndedPacked, HasWrittenAllPacked, HasWrittenPacked, IsDuePacked}
use Rattle.capn_serve.specs.PackedRun.{IsShortPacked, RunsPacked, cut_group, unless_more}
use Rattle.capn_serve.specs.PackedChunkRun.{EndsPacked, HaltsPacked, IsDueWithin, Pending, ReachesPacked, ServesPacked}
use Rattle.capn_serve.specs.PackedChunkRun.{TellsPacked, fresh, pending}
use Rattle.capn_serve.specs.WhatCame.{HoldsTable}
use Rattle.capn_serve.specs.inner.Holding.{HoldsPacked}
use Rattle.capn_serve.specs.inner.IntakeRun.{Ends, Feeds, Over, Reads}
use Rattle.capn_serve.specs.inner.Intakes.{CameOfPacked, GivesPacked, TakesPacked}
use Rattle.capn_serve.proofs.InputRead.{taken_more}
use Rattle.capn_serve.proofs.Sends.{adds_sent}
use Rattle.capn_serve.proofs.Holding.{packed_holds_more}
use Rattle.capn_serve.proofs.IntakeRuns.{exact_of, heard_of, lazy_of, needed_of, written_of}
use Rattle.capn_serve.proofs.More.{begun_front, parts_longer}
use Rattle.capn_serve.proofs.PackedMore.{all_taken, begins_all, begins_longer, not_more, packed_more, packed_none}
use Rattle.capn_serve.proofs.PackedMore.{packed_reach, packed_stop, reach_all}
use Rattle.capn_serve.proofs.StreamIntake.{new_listening, unfinished}
use Rattle.capn_serve.proofs.shared.Until.{ends_done, ends_going}

abbrev Ending : Type 0
Ending = Result (Unit {0}) RunFault

abbrev stopped : RunFault → Ending
stopped fault = Err fault

pub split_after : (s tail words : List ℕ) → packing.Begins s [] words → (group : List ℕ) × (more : List ℕ) × (at : ℕ)
    × Splits (s ++ tail) group [] (words ++ more) at
split_after s tail words b =
    let r = splits_all (b.rest ++ tail) [] in
    let q = r.splits in (
      r.rest,
      contents q.groups,
      length (texts (b.groups ++ q.groups)),
      record {
        groups = b.groups ++ q.groups;
        each = each_append b.groups q.groups b.each q.each;
        text =
            ap (λ (l : List ℕ). l ++ tail) b.text
            ∙ append_assoc (texts b.groups) b.rest tail
            ∙ ap (λ (l : List ℕ). texts b.groups ++ l) q.text
            ∙ sym (append_assoc (texts b.groups) (texts q.groups) r.rest)
            ∙ ap (λ (l : List ℕ). l ++ r.rest) (sym (flat_map-append group_text b.groups q.groups));
        content = ap (λ (l : List ℕ). l ++ contents q.groups) b.content
            ∙ sym (flat_map-append group_bytes b.groups q.groups);
        size = refl;
        open_rest = q.open_rest;
      },
    )

end_unrefused : (at : Position) (e : FrameFault) (group : List ℕ) (offset : ℕ) → e ≢ frames.Memory
    → end_of at e (cut_group at group offset) ≢ Err faults.Memory
end_unrefused at frames.Empty [] offset other = λ h. cc
end_unrefused at frames.Empty (b ∷ group) offset other = λ h. cc
end_unrefused at frames.Cut [] offset other = λ h. cc
end_unrefused at frames.Cut (b ∷ group) offset other = λ h. cc
end_unrefused at frames.Memory group offset other = absurd (other refl)
end_unrefused at (frames.TooManySegments n) group offset other = λ h. cc
end_unrefused at (frames.TooManyWords n) group offset other = λ h. cc
end_unrefused at frames.Failed group offset other = λ h. cc

reach_wrote : {X : Type 0} (f : Fold X) (y z : X) (q : Pending) (s : List ℕ) (d e : Option (List ℕ))
    → ReachesPacked f y q s (sent d) (sent e) z → (text : List ℕ) × Appends d e text
reach_wrote f y z q s d e (stream, begins, rest, (parts, are, adds)) =
    (texts_of parts, adds_sent d e (texts_of parts) adds)

halt_wrote : {X : Type 0} (f : Fold X) (y : X) {last : X} (q : Pending) (s : List ℕ) (d e : Option (List ℕ))
    (failed : Bool) (fault : RunFault) → HaltsPacked f y q s (sent d) (sent e) failed fault last
    → (text : List ℕ) × Appends d e text
halt_wrote f y q s d e true fault (stream, begins, halt) =
    let front = halt.front refl in (take front.3 (texts_of front.0), front.5)
halt_wrote f y q s d e false fault (stream, begins, halt) =
    let front = begun_front f y (q.rest ++ taken_of q.left stream) d e (halt.told refl) in
    (take front.3 (texts_of front.0), front.5)

module _ {X : Type 0} (f : Fold X) (x : X) (limit : ℕ) where
  -- ---- what was written

  taken_told : (y : X) (s : List ℕ) (q : Pending) (c d : Option (List ℕ))
      (told : TellsPacked f x (fresh limit) s q (sent c) (sent d) y)
      → Tells f x (taken_of limit told.stream) q.rest (sent c) (sent d) y
  taken_told y s q c d told =
      subst (λ (l : List ℕ). Tells f x l q.rest (sent c) (sent d) y)
      (sym (all_taken limit q.left told.stream told.size)) told.told

  reach_written : (y : X) (s : List ℕ) (c d : Option (List ℕ)) → ReachesPacked f x (fresh limit) s (sent c) (sent d) y
      → HasWrittenPacked f x limit s c d
  reach_written y s c d (stream, begins, rest, (parts, are, adds)) = (
    stream,
    begins,
    parts,
    rest,
    y,
    length (texts_of parts),
    are,
    subst (Appends c d) (sym (take-length (texts_of parts))) (adds_sent c d (texts_of parts) adds),
  )

  halt_written : {last : X} (s : List ℕ) (c d : Option (List ℕ)) (failed : Bool) (fault : RunFault)
      → HaltsPacked f x (fresh limit) s (sent c) (sent d) failed fault last → HasWrittenPacked f x limit s c d
  halt_written s c d true fault (stream, begins, halt) = let front = halt.front refl in
      (stream, begins, front.0, front.1, front.2, front.3, front.4, front.5)
  halt_written s c d false fault (stream, begins, halt) =
      let front = begun_front f x (taken_of limit stream) c d (halt.told refl) in
      (stream, begins, front.0, front.1, front.2, front.3, front.4, front.5)

  written_longer : (s more : List ℕ) (c d : Option (List ℕ)) → HasWrittenPacked f x limit s c d
      → HasWrittenPacked f x limit (s ++ more) c d
  written_longer s more c d (stream, begins, parts, rest, y, count, are, wrote) =
      (stream, begins_longer [] s (s ++ more) more stream refl begins, parts, rest, y, count, are, wrote)

  told_written : (y : X) (s : List ℕ) (q : Pending) (c d : Option (List ℕ))
      → TellsPacked f x (fresh limit) s q (sent c) (sent d) y → HasWrittenPacked f x limit s c d
  told_written y s q c d told =
      reach_written y s c d (reach_all f x (fresh limit) y s q (sent c) (sent d) told)

  -- ---- how a run ends

  -- Case: no complete frame follows the served messages.
  due_open : (y : X) (s : List ℕ) (q : Pending) (is_longer : Bool) (ending : Ending) (e : FrameFault)
      (c d : Option (List ℕ)) (told : TellsPacked f x (fresh limit) s q (sent c) (sent d) y) → f.done y ≡ false
      → e ≢ frames.Memory → frame_rules.IsFrameRefused q.rest f.most e
      → ending ≡ end_of (f.place y) e (unless_more is_longer (cut_group (f.place y) q.group.rest told.len))
      → (text : List ℕ) × IsDuePacked f x limit s is_longer text ending y × Appends c d text
  due_open y s q is_longer ending e c d told going other refused is =
      let all = taken_told y s q c d told in
      let behind = unless_more is_longer (cut_group (f.place y) q.group.rest told.len) in
      let due : IsFolded f x (taken_of limit told.stream) behind (texts_of all.0) ending y = record {
        parts = all.0;
        rest = q.rest;
        are = all.1;
        joined = refl;
        ends = ends_going f y q.rest behind ending going (inl (e, other, refused, is));
      } in
      let no_more = not_more limit q.left told.stream told.size in (
        texts_of all.0,
        record {
          stream = told.stream;
          group = q.group.rest;
          offset = told.len;
          split = told.split;
          due = subst (λ (m : Bool). IsFolded f x (taken_of limit told.stream) (unless_more m behind) (texts_of all.0)
              ending y) (sym no_more) due;
        },
        adds_sent c d (texts_of all.0) all.2,
      )

  due_unfinished : (y : X) (s : List ℕ) (q : Pending) (is_longer : Bool) (c d : Option (List ℕ))
      → TellsPacked f x (fresh limit) s q (sent c) (sent d) y → IsUnfinished q.rest f.most
      → f.done y ≡ false → (ending : Ending) × (text : List ℕ) × IsDuePacked f x limit s is_longer text ending y ×
      Appends c d text
  due_unfinished y s q is_longer c d told (inl none) going =
      let ending = end_of (f.place y) frames.Empty
      (unless_more is_longer (cut_group (f.place y) q.group.rest told.len)) in
      let due = due_open y s q is_longer ending frames.Empty c d told going (λ h. cc) none refl in
      (ending, due.0, due.1, due.2)
  due_unfinished y s q is_longer c d told (inr cut) going =
      let ending = end_of (f.place y) frames.Cut
      (unless_more is_longer (cut_group (f.place y) q.group.rest told.len)) in
      let due = due_open y s q is_longer ending frames.Cut c d told going (λ h. cc) cut refl in
      (ending, due.0, due.1, due.2)

  offset_is : (y : X) (s : List ℕ) (q : Pending) (c d : Option (List ℕ))
      (told : TellsPacked f x (fresh limit) s q (sent c) (sent d) y) → length s ≤ 2 ^ 64 - 1
      → q.group.offset ≡ told.len
  offset_is y s q c d told short =
      let split = told.split in
      omega (
        arith,
        told.offset,
        split.size,
        ap length split.text,
        length-append (texts split.groups) q.group.rest,
        short,
      )

  -- Case: the input has more bytes than may be served.
  due_long : (y : X) (s : List ℕ) (q : Pending) (c d : Option (List ℕ))
      → TellsPacked f x (fresh limit) s q (sent c) (sent d) y → IsUnfinished q.rest f.most → f.done y ≡ false
      → (text : List ℕ)
      × IsDuePacked f x limit s true text (stopped faults.InputTooLong) y × Appends c d text
  due_long y s q c d told (inl none) going =
      due_open y s q true (stopped faults.InputTooLong) frames.Empty c d told going (λ h. cc) none refl
  due_long y s q c d told (inr cut) going =
      due_open y s q true (stopped faults.InputTooLong) frames.Cut c d told going (λ h. cc) cut refl

  gives_long : (y : X) (held : Held) (now : Framing) (left : ℕ) (s : List ℕ) (c d : Option (List ℕ))
      → TellsPacked f x (fresh limit) s (pending held now left) (sent c) (sent d) y → IsListening f now
      → f.done y ≡ false → GivesPacked f x limit held now y s true c d (stopped faults.InputTooLong)
  gives_long y held now left s c d told listening going =
      let due = due_long y s (pending held now left) c d told (unfinished f now listening) going in (
        inr (inr (due.0, y, due.1, due.2, inl refl)),
        told_written y s (pending held now left) c d told,
        inr (record {
          group = λ at o h. absurd (cc);
          cut = λ at h. absurd (cc);
          words = λ at n h. absurd (cc);
        }),
      )

  -- Case: the state `y` is `done`. Any bytes may come after the bytes `s`.
  gives_done : (y : X) (held : Held) (now : Framing) (s : List ℕ) (c d : Option (List ℕ)) (u : Unit {0})
      → ReachesPacked f x (fresh limit) s (sent c) (sent d) y → f.done y ≡ true
      → Over (GivesPacked f x limit held now y) s c d (Ok u)
  gives_done y held now s c d u reached done = λ more longer.
      (let (stream, begins, rest, (parts, are, adds)) = reached in
      let split = split_after s more stream begins in
      let tail = taken_more limit stream split.1 in
      let all : AreParts f x (taken_of limit (stream ++ split.1)) parts (rest ++ tail.0) y =
      subst (λ (p : List ℕ). AreParts f x p parts (rest ++ tail.0) y) (sym tail.1)
      (parts_longer f x y (taken_of limit stream) rest tail.0 parts are) in
      let behind = unless_more (has_more limit (stream ++ split.1))
      (unless_more longer (cut_group (f.place y) split.0 split.2)) in (
        (
          texts_of parts,
          record {
            stream = stream ++ split.1;
            group = split.0;
            offset = split.2;
            split = split.3;
            due = record {
              parts = parts;
              rest = rest ++ tail.0;
              are = all;
              joined = refl;
              ends = ends_done f y (rest ++ tail.0) behind (Ok u) done refl;
            };
          },
          adds_sent c d (texts_of parts) adds,
        ),
        written_longer s more c d (reach_written y s c d reached),
        tt,
      ))

  ended_stop : (z : X) (s more : List ℕ) (longer : Bool) (c d : Option (List ℕ)) (failed : Bool) (fault : RunFault)
      → HaltsPacked f x (fresh limit) s (sent c) (sent d) failed fault z
      → HasEndedPacked f x limit (s ++ more) longer c d (stopped fault) z
  ended_stop z s more longer c d failed fault (stream, begins, halt) = elim halt.due [
    | inl m ↦ inl m
    | inr rest ↦ elim rest [ inl i ↦ inr (inl i) | inr so ↦ inr (inr (due so)) ]
  ]
    where
      due : IsDueWithin f x limit [] stream (sent c) (sent d) fault z → (text : List ℕ) × (y : X)
          × IsDuePacked f x limit (s ++ more) longer text (stopped fault) y × Appends c d text × Leaves f y fault z
      due so =
          let split = split_after s more stream begins in
          let part = so split.1 in (
            part.0,
            part.1,
            record {
              stream = stream ++ split.1;
              group = split.0;
              offset = split.2;
              split = split.3;
              due = part.2 (unless_more longer (cut_group (f.place part.1) split.0 split.2));
            },
            adds_sent c d part.0 part.3,
            part.4,
          )

  came_stop : (z : X) (s more came group : List ℕ) (fault : RunFault)
      → HoldsPacked f x (fresh limit) s fault came z → CameOfPacked f x limit (s ++ more) fault came group z
  came_stop z s more came group fault (inl own) = inl own
  came_stop z s more came group fault (inr (within, held)) = inr (record {
    group = λ at o h. absurd (within.group at o h);
    cut = λ at h. absurd (within.frame at h);
    words = λ at n h. (let (stream, begins, table) = held at n h in
        (stream, begins_longer [] s (s ++ more) more stream refl begins, table));
  })

  cut_here : (at : Position) (y : X) (b : ℕ) (group rest bytes stream : List ℕ) (len : ℕ) (parts : List Part)
      → IsUnfinished rest f.most → Splits bytes (b ∷ group) [] stream len → AreParts f x stream parts (rest ++ []) y
      → IfErr (end_of at frames.Empty (cut_group at (b ∷ group) len))
      (λ e. CameOfPacked f x limit bytes e rest (b ∷ group) y)
  cut_here at y b group rest bytes stream len parts part split are = inr (record {
    group = λ place o h. (let same : len ≡ o = cc in (
      stream,
      subst (λ (n : ℕ). Splits bytes (b ∷ group) [] stream n) same split,
      omega arith,
      (parts, are),
      part,
    ));
    cut = λ place h. absurd (cc);
    words = λ place n h. absurd (cc);
  })

  ended_packed : (at : Position) (y : X) (e : FrameFault) (group rest bytes stream : List ℕ) (len : ℕ)
      (parts : List Part) → e ≢ frames.Memory → IsFrameRefused rest f.most e → IsUnfinished rest f.most
      → Splits bytes group [] stream len → taken_of limit stream ≡ stream → AreParts f x stream parts (rest ++ []) y
      → IfErr (end_of at e (cut_group at group len)) (λ e. CameOfPacked f x limit bytes e rest group y)
  ended_packed at y frames.Memory group rest bytes stream len parts other refused part split all are =
      absurd (other refl)
  ended_packed at y frames.Empty [] rest bytes stream len parts other refused part split all are = tt
  ended_packed at y frames.Empty (b ∷ group) rest bytes stream len parts other refused part split all are =
      cut_here at y b group rest bytes stream len parts part split are
  ended_packed at y frames.Cut [] rest bytes stream len parts other refused part split all are = inr (record {
    group = λ place o h. absurd (cc);
    cut = λ place h. (stream, len, split, ((parts, are), refused));
    words = λ place n h. absurd (cc);
  })
  ended_packed at y frames.Cut (b ∷ group) rest bytes stream len parts other refused part split all are =
      cut_here at y b group rest bytes stream len parts part split are
  ended_packed at y (frames.TooManySegments k) group rest bytes stream len parts other refused part split all are =
      inr (record {
        group = λ place o h. absurd (cc);
        cut = λ place h. absurd (cc);
        words = λ place n h. absurd (cc);
      })
  ended_packed at y (frames.TooManyWords k) group rest bytes stream len parts other refused part split all are =
      inr (record {
        group = λ place o h. absurd (cc);
        cut = λ place h. absurd (cc);
        words = λ place n h. (let same : k ≡ n = cc in (
          stream,
          begins_all bytes group stream len split,
          subst (λ (l : List ℕ). HoldsTable f x l n rest y) (sym all) (
            [],
            (parts, are),
            subst (λ (m : ℕ). IsFrameRefused rest f.most (frames.TooManyWords m)) same refused,
          ),
        ));
      })
  ended_packed at y frames.Failed group rest bytes stream len parts other refused part split all are = absurd refused

  ended_end : (y : X) (s : List ℕ) (is_longer : Bool) (c d : Option (List ℕ)) (r : Ending)
      → (text : List ℕ) × IsDuePacked f x limit s is_longer text r y × Appends c d text
      → HasEndedPacked f x limit s is_longer c d r y
  ended_end y s is_longer c d (Ok u) due = due
  ended_end y s is_longer c d (Err fault) due = inr (inr (due.0, y, due.1, due.2, inl refl))

  pub ends_packed : (y : X) (held : Held) (now : Framing) (left : ℕ) (last : Held) (after : Framing) (bytes : List ℕ)
      (c d : Option (List ℕ)) (r : Ending) → TakesPacked f x limit held now left y bytes c d → f.done y ≡ false
      → length bytes < 2 ^ 64 → EndsPacked (f.place y) held.rest held.offset now.rest now.most r
      → last.rest ≡ held.rest → after ≡ now → Ends (GivesPacked f x limit last after y) bytes c d r
  ends_packed y held now left last after bytes c d r (room, told, listening) going small ends same_group same =
      let q = pending held now left in
      let (e, other, refused, is, no_io) = subst (λ (m : ℕ). EndsPacked (f.place y) held.rest held.offset now.rest m r)
      listening.most ends in
      let at = offset_is y bytes q c d told (omega (arith, small)) in
      let ending : r ≡ end_of (f.place y) e (cut_group (f.place y) held.rest told.len) = is
      ∙ ap (λ (k : ℕ). end_of (f.place y) e (cut_group (f.place y) held.rest k)) at in
      let due = due_open y bytes q false r e c d told going other refused ending in
      let (parts, are, adds) = told.told in
      let came = subst (λ (r : Ending). IfErr r (λ e. CameOfPacked f x limit bytes e now.rest held.rest y)) (sym ending)
      (ended_packed (f.place y) y e held.rest now.rest bytes told.stream told.len parts other refused
      (unfinished f now listening) told.split (all_taken limit left told.stream told.size)
      (subst (λ (l : List ℕ). AreParts f x told.stream parts l y) (sym (append-nil now.rest)) are)) in
      let kept = subst (λ (g : Framing). IfErr r (λ e. CameOfPacked f x limit bytes e g.rest held.rest y)) (sym same)
      came in (
        (
          ended_end y bytes false c d r due,
          told_written y bytes q c d told,
          subst (λ (l : List ℕ). IfErr r (λ e. CameOfPacked f x limit bytes e after.rest l y)) (sym same_group) kept,
        ),
        no_io,
        λ h. end_unrefused (f.place y) e held.rest held.offset other (sym is ∙ h),
      )

  -- ---- a run

  pub packed_new : (held : Held) (now : Framing) (left : ℕ) (c : Option (List ℕ)) → HasRoom (f.place x) limit
      → left ≡ limit → held ≡ record { rest = []; offset = 0; failed = false }
      → now ≡ record { rest = []; most = f.most; failed = false } → TakesPacked f x limit held now left x [] c c
  packed_new held now left c room same is new =
      let whole : pending held now left ≡ fresh limit =
      ap (λ (k : ℕ). pending held now k) same
      ∙ ap (λ (h : Held). pending h now limit) is
      ∙ ap (λ (g : Framing). pending (record { rest = []; offset = 0; failed = false }) g limit) new in (
        room,
        subst (λ (h : Pending). TellsPacked f x (fresh limit) [] h (sent c) (sent c) x) (sym whole) (none c),
        new_listening f now new,
      )
    where
      none : (c : Option (List ℕ)) → TellsPacked f x (fresh limit) [] (fresh limit) (sent c) (sent c) x
      none c = packed_none f x (fresh limit) (sent c)
          (record { good = refl; group = nothing_first; offset = omega arith })

  pub packed_done : (held : Held) (now : Framing) (left : ℕ) (c : Option (List ℕ))
      → TakesPacked f x limit held now left x [] c c → f.done x ≡ true
      → Over (GivesPacked f x limit held now x) [] c c (Ok tt)
  packed_done held now left c (room, told, listening) done =
      gives_done x held now [] c c tt (reach_all f x (fresh limit) x [] (pending held now left) (sent c) (sent c) told)
      done

  -- The lemmas of this module are for any intake that has an unpacker, a framer, and the number of bytes that may still
  -- be served.
  module _ {I : Type 0} (held : I → Held) (framer : I → Framing) (left : I → ℕ) where
    abbrev Takes : I → X → List ℕ → Option (List ℕ) → Option (List ℕ) → Type 0
    Takes s y bytes c d = TakesPacked f x limit (held s) (framer s) (left s) y bytes c d

    abbrev Gives : I → X → List ℕ → Bool → Option (List ℕ) → Option (List ℕ) → Ending → Type 0
    Gives s y bytes is_longer c d r = GivesPacked f x limit (held s) (framer s) y bytes is_longer c d r

    -- Case: one more chunk `piece` was read, and serving it gave the result `r`.
    pub feeds_packed : (y z : X) (before after : I) (bytes piece : List ℕ) (c d e : Option (List ℕ)) (failed : Bool)
        (r : Ending) → Takes before y bytes c d
        → ServesPacked f y (pending (held before) (framer before) (left before)) piece (sent d) (sent e) failed r
        (held after) (framer after) (left after) z
        → IfErr r (λ e. HoldsPacked f y (pending (held before) (framer before) (left before)) piece e
        (framer after).rest z) → Feeds Takes Gives f.done (bytes ++ piece) c d e failed r after z
    feeds_packed y z before after bytes piece c d e failed (Ok u) (room, told, listening) (reached, keeps, fine) came =
        let q = pending (held before) (framer before) (left before) in
        let all = packed_reach f x y (fresh limit) q bytes piece (sent c) (sent d) told z (sent e) reached in
        record {
          fed = (
            λ going. (let kept = keeps going in
                let whole = packed_more f x y (fresh limit) q bytes piece (sent c) (sent d) told z
                (pending (held after) (framer after) (left after)) (sent e) kept.0 in (
                  (room, whole, kept.1),
                  gives_long z (held after) (framer after) (left after) (bytes ++ piece) c e whole kept.1 going,
                )),
            gives_done z (held after) (framer after) (bytes ++ piece) c e u all,
          );
          wrote = reach_wrote f y z q piece d e reached;
          broken = (λ h. absurd (cc), λ h. absurd (let bad : true ≡ false = sym h ∙ fine in cc));
        }
    feeds_packed y z before after bytes piece c d e failed (Err fault) (room, told, listening) stop came =
        let q = pending (held before) (framer before) (left before) in
        let all = packed_stop f x y (fresh limit) q bytes piece (sent c) (sent d) told (sent e) failed fault stop in
        let holds = packed_holds_more f x y z (fresh limit) q bytes piece (framer after).rest (sent c) (sent d) told
        fault came in
        record {
          fed = λ more longer. (
            ended_stop z (bytes ++ piece) more longer c e failed fault all,
            written_longer (bytes ++ piece) more c e (halt_written (bytes ++ piece) c e failed fault all),
            came_stop z (bytes ++ piece) more (framer after).rest (held after).rest fault holds,
          );
          wrote = halt_wrote f y q piece d e failed fault stop;
          broken = (λ h. all.2.io.0 (cc), λ h. ap stopped (all.2.io.1 h));
        }

    module _ (most_packed : ℕ) (last : I) (y : X) (a b c d : Option (List ℕ)) (rf wf : Bool) (r : Ending)
        (h : Reads Takes Gives f.done most_packed last y a b c d rf wf r) where
      io_ended : (r : Ending) (bytes : List ℕ) (longer : Bool) → r ≡ Err faults.Io
          → HasEndedPacked f x limit bytes longer c d r y
          × IfErr r (λ e. CameOfPacked f x limit bytes e (framer last).rest (held last).rest y)
      io_ended (Ok u) bytes longer is = absurd (cc)
      io_ended (Err fault) bytes longer is = (
        inr (inl (cc)),
        inr (record { group = λ at o h. absurd (cc); cut = λ at h. absurd (cc); words = λ at n h. absurd (cc) }),
      )

      pub runs_packed : RunsPacked f x most_packed limit a b c d rf wf r y
      runs_packed = record {
        exact = exact_of Takes Gives f.done most_packed last y a b c d rf wf r h
            (λ bytes longer. HasEndedPacked f x limit bytes longer c d r y)
            (λ is bytes longer. (io_ended r bytes longer is).0) (λ bytes longer gives. gives.0);
        io = h.broken;
        begun = record {
          bytes = h.bytes;
          read = h.read;
          bounded = h.bounded;
          lazy = lazy_of Takes Gives f.done most_packed last y a b c d rf wf r h (HasWrittenAllPacked f x limit)
              (λ s z bytes e (room, told, listening). (let all = told.told in (
                told.stream,
                (held s).rest,
                told.len,
                told.split,
                omega (arith, told.size),
                all.0,
                (framer s).rest,
                z,
                all.1,
                unfinished f (framer s) listening,
                adds_sent c e (texts_of all.0) all.2,
              )));
          needed = needed_of Takes Gives f.done most_packed last y a b c d rf wf r h (IsShortPacked f x limit)
              (λ s z bytes e (room, told, listening) going. (let all = told.told in (
                told.stream,
                (held s).rest,
                told.len,
                told.split,
                (all.0, (framer s).rest, z, all.1, unfinished f (framer s) listening, going),
              )));
          written = written_of Takes Gives f.done most_packed last y a b c d rf wf r h
              (λ bytes. HasWrittenPacked f x limit bytes c d)
              (λ bytes (room, told, listening). told_written y bytes
              (pending (held last) (framer last) (left last)) c d told) (λ bytes longer gives. gives.1);
        };
        heard = heard_of Takes Gives f.done most_packed last y a b c d rf wf r h (IsDuePacked f x limit)
            (λ bytes longer (room, told, listening) going. due_unfinished y bytes
            (pending (held last) (framer last) (left last)) longer c d told (unfinished f (framer last) listening)
            going);
        memory = λ is. (h.bytes, h.read, h.memory is);
      }

      pub came_packed : IfSome a (λ input. IfErr r (λ e. CameOfPacked f x limit (taken_of most_packed input) e
          (framer last).rest (held last).rest y))
      came_packed = exact_of Takes Gives f.done most_packed last y a b c d rf wf r h
          (λ bytes longer. IfErr r (λ e. CameOfPacked f x limit bytes e (framer last).rest (held last).rest y))
          (λ is bytes longer. (io_ended r bytes longer is).1) (λ bytes longer gives. gives.2)
