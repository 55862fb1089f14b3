-- Lemmas for `stream_into` and the `Intake` of a stream: the served messages, the end of a run, and the bytes that the
-- framer then holds.
use Rattle.std.proofs.Common.{◌≡◌, ◌≢◌, inl, inr, ℕ, ◌+◌, ◌<◌, ◌^◌, List, [], ◌++◌, length, take, Bool}
use Rattle.std.proofs.Common.{true, false, Option, None, Some, IfErr, IfSome, Result, Ok, Err, refl, ap, sym, subst}
use Rattle.std.proofs.Common.{◌∙◌, append-nil, arith}
use Rattle.std.proofs.Math.Seq.{take-length}
use Rattle.std.specs.Io.KnownBytes.{Appends}
use Rattle.capn_canon.specs.declared.refusal.Refusal.{Refusal}
use Rattle.capn_stream.specs.StreamPieces.{Framing, IsUnfinished}
use Rattle.capn_stream.specs.FrameRefusal as frame_rules
use Rattle.capn_stream.specs.declared.fault.FrameFault.{FrameFault}
use Rattle.capn_stream.specs.declared.fault.FrameFault.TheVariants as frames
use Rattle.capn_serve.specs.declared.fault.RunFault.{RunFault}
use Rattle.capn_serve.specs.declared.fault.RunFault.TheVariants as faults
use Rattle.capn_serve.specs.declared.position.Position.{Position}
use Rattle.capn_serve.specs.declared.service.Run.{Run}
use Rattle.capn_serve.specs.Fold.{Fold, AreParts, IsFolded, end_of, fold_until, texts_of}
use Rattle.capn_serve.specs.Outgoing.{sent}
use Rattle.capn_serve.specs.ChunkRun.{HasRoom, IsListening, Serves, Stops, Tells}
use Rattle.capn_serve.specs.StreamRun.{EndsInput, HasEnded, HasWritten, HasWrittenAll, IsDue, IsShort, Runs, behind}
use Rattle.capn_serve.specs.StreamRun.{start, taken_of}
use Rattle.capn_serve.specs.inner.Holding.{Holds}
use Rattle.capn_serve.specs.inner.IntakeRun.{Ends, Feeds, Over, Reads}
use Rattle.capn_serve.specs.inner.Intakes.{CameOf, GivesStream, TakesStream}
use Rattle.capn_serve.proofs.More.{begun_front, parts_longer, stops_more, tells_more, tells_none}
use Rattle.capn_serve.proofs.Next.{empty_unfinished, room_told}
use Rattle.capn_serve.proofs.Sends.{adds_sent}
use Rattle.capn_serve.proofs.Holding.{holds_more, table_longer}
use Rattle.capn_serve.proofs.IntakeRuns.{exact_of, heard_of, lazy_of, needed_of, written_of}
use Rattle.capn_serve.proofs.shared.Until.{ends_done, ends_going}

abbrev Ending : Type 0
Ending = Result (Unit {0}) RunFault

pub new_listening : {X : Type 0} (f : Fold X) (framer : Framing)
    → framer ≡ record { rest = []; most = f.most; failed = false } → IsListening f framer
new_listening f framer is = record {
  good = ap (λ (g : Framing). g.failed) is;
  part = subst (λ (l : List ℕ). IsUnfinished l framer.most) (sym (ap (λ (g : Framing). g.rest) is))
      (empty_unfinished framer.most);
  most = ap (λ (g : Framing). g.most) is;
}

pub unfinished : {X : Type 0} (f : Fold X) (now : Framing) → IsListening f now → IsUnfinished now.rest f.most
unfinished f now listening = subst (λ (m : ℕ). IsUnfinished now.rest m) listening.most listening.part

stops_written : {X : Type 0} (f : Fold X) (x : X) {w : X} (s : List ℕ) (c d : Option (List ℕ)) (failed : Bool)
    (fault : RunFault) → Stops f x s (sent c) (sent d) failed fault w → HasWritten f x 0 s c d
stops_written f x s c d true fault stop = stop.front refl
stops_written f x s c d false fault stop = begun_front f x s c d (stop.told refl)

module _ {X : Type 0} (f : Fold X) (x : X) where
  -- ---- what was written

  told_written : (y : X) (s rest : List ℕ) (c d : Option (List ℕ)) → Tells f x s rest (sent c) (sent d) y
      → HasWritten f x 0 s c d
  told_written y s rest c d (parts, are, wrote) = (
    parts,
    rest,
    y,
    length (texts_of parts),
    are,
    subst (Appends c d) (sym (take-length (texts_of parts))) (adds_sent c d (texts_of parts) wrote),
  )

  written_longer : (s more : List ℕ) (c d : Option (List ℕ)) → HasWritten f x 0 s c d
      → HasWritten f x 0 (s ++ more) c d
  written_longer s more c d (parts, rest, y, count, are, wrote) =
      (parts, rest ++ more, y, count, parts_longer f x y s rest more parts are, wrote)

  -- ---- how a run ends

  -- Case: no complete frame follows the served messages.
  due_open : (y : X) (stream rest : List ℕ) (more : Option RunFault) (ending : Ending)
      (e : FrameFault) (c d : Option (List ℕ)) → Tells f x stream rest (sent c) (sent d) y → f.done y ≡ false
      → e ≢ frames.Memory → frame_rules.IsFrameRefused rest f.most e → ending ≡ end_of (f.place y) e more
      → (text : List ℕ) × IsFolded f x stream more text ending y × Appends c d text
  due_open y stream rest more ending e c d (parts, are, wrote) going other refused is = (
    texts_of parts,
    record {
      parts = parts;
      rest = rest;
      are = are;
      joined = refl;
      ends = ends_going f y rest more ending going (inl (e, other, refused, is));
    },
    adds_sent c d (texts_of parts) wrote,
  )

  due_unfinished : (y : X) (stream rest : List ℕ) (more : Option RunFault) (c d : Option (List ℕ))
      → Tells f x stream rest (sent c) (sent d) y → IsUnfinished rest f.most → f.done y ≡ false
      → (ending : Ending) × (text : List ℕ) × IsFolded f x stream more text ending y × Appends c d text
  due_unfinished y stream rest more c d told (inl none) going =
      let due = due_open y stream rest more (end_of (f.place y) frames.Empty more) frames.Empty c d told going (λ h. cc)
      none refl in
      (end_of (f.place y) frames.Empty more, due.0, due.1, due.2)
  due_unfinished y stream rest more c d told (inr cut) going =
      let due = due_open y stream rest more (end_of (f.place y) frames.Cut more) frames.Cut c d told going (λ h. cc) cut
      refl in
      (end_of (f.place y) frames.Cut more, due.0, due.1, due.2)

  -- Case: the input has more bytes than may be served.
  due_long : (y : X) (stream rest : List ℕ) (c d : Option (List ℕ)) → Tells f x stream rest (sent c) (sent d) y
      → IsUnfinished rest f.most → f.done y ≡ false → (text : List ℕ)
      × IsFolded f x stream (Some faults.InputTooLong) text (Err faults.InputTooLong) y × Appends c d text
  due_long y stream rest c d told (inl none) going =
      due_open y stream rest (Some faults.InputTooLong) (Err faults.InputTooLong) frames.Empty c d told going (λ h. cc)
      none refl
  due_long y stream rest c d told (inr cut) going =
      due_open y stream rest (Some faults.InputTooLong) (Err faults.InputTooLong) frames.Cut c d told going (λ h. cc)
      cut refl

  gives_long : (y : X) (now : Framing) (s : List ℕ) (c d : Option (List ℕ)) → Tells f x s now.rest (sent c) (sent d) y
      → IsListening f now → f.done y ≡ false → GivesStream f x now y s true c d (Err faults.InputTooLong)
  gives_long y now s c d told listening going =
      let due = due_long y s now.rest c d told (unfinished f now listening) going in (
        inr (inr (due.0, y, due.1, due.2, inl refl)),
        told_written y s now.rest c d told,
        inr (record { cut = λ at h. absurd (cc); words = λ at n h. absurd (cc) }),
      )

  -- Case: the state `y` is `done`. Any bytes may come after the bytes `s`.
  gives_done : (y : X) (now : Framing) (s rest : List ℕ) (c d : Option (List ℕ)) (u : Unit {0})
      → Tells f x s rest (sent c) (sent d) y → f.done y ≡ true → Over (GivesStream f x now y) s c d (Ok u)
  gives_done y now s rest c d u told done = λ more longer. (let (parts, are, adds) = told in (
    (
      texts_of parts,
      record {
        parts = parts;
        rest = rest ++ more;
        are = parts_longer f x y s rest more parts are;
        joined = refl;
        ends = ends_done f y (rest ++ more) (behind longer) (Ok u) done refl;
      },
      adds_sent c d (texts_of parts) adds,
    ),
    written_longer s more c d (told_written y s rest c d told),
    tt,
  ))

  ended_stop : (z : X) (s more : List ℕ) (longer : Bool) (c d : Option (List ℕ)) (failed : Bool) (fault : RunFault)
      → Stops f x s (sent c) (sent d) failed fault z → HasEnded f x 0 (s ++ more) longer c d (Err fault) z
  ended_stop z s more longer c d failed fault stop = elim stop.due [
    | inl m ↦ inl m
    | inr rest ↦ elim rest [
      | inl i ↦ inr (inl i)
      | inr so ↦ (let part = so more (behind longer) in
          inr (inr (part.0, part.1, part.2, adds_sent c d part.0 part.3, part.4)))
    ]
  ]

  came_stop : (z : X) (s more came : List ℕ) (fault : RunFault) → Holds f x s fault came z
      → CameOf f x (s ++ more) fault came z
  came_stop z s more came fault (inl own) = inl own
  came_stop z s more came fault (inr (within, table)) = inr (record {
    cut = λ at h. absurd (within.frame at h);
    words = λ at n h. table_longer f x z came s more n (table at n h);
  })

  -- Case: one more chunk `piece` was read, and serving it gave the result `r`.
  pub feeds_stream : (y z : X) (before after : Framing) (bytes piece : List ℕ) (c d e : Option (List ℕ))
      (failed : Bool) (r : Ending) → TakesStream f x before y bytes c d
      → Serves f y before piece (sent d) (sent e) failed r after z
      → IfErr r (λ e. Holds f y (before.rest ++ piece) e after.rest z)
      → Feeds (TakesStream f x) (GivesStream f x) f.done (bytes ++ piece) c d e failed r after z
  feeds_stream y z before after bytes piece c d e failed (Ok u) (place, told, listening) (rest, next, keeps, fine)
      came =
      let all = tells_more f x y z bytes before.rest piece rest (sent c) (sent d) (sent e) told next in
      record {
        fed = (
          λ going. (let kept = keeps going in
              let held = subst (λ (l : List ℕ). Tells f x (bytes ++ piece) l (sent c) (sent e) z) (sym kept.0) all in
              ((place, held, kept.1), gives_long z after (bytes ++ piece) c e held kept.1 going)),
          gives_done z after (bytes ++ piece) rest c e u all,
        );
        wrote = (texts_of next.0, adds_sent d e (texts_of next.0) next.2);
        broken = (λ h. absurd (cc), λ h. absurd (let bad : true ≡ false = sym h ∙ fine in cc));
      }
  feeds_stream y z before after bytes piece c d e failed (Err fault) (place, told, listening) stop came =
      let all = stops_more f x y bytes before.rest piece (sent c) (sent d) (sent e) failed fault told stop in
      let held = holds_more f x y z bytes before.rest piece after.rest (sent c) (sent d) told fault came in
      let (parts, rest, w, count, are, wrote) = stops_written f y (before.rest ++ piece) d e failed fault stop in
      record {
        fed = λ more longer. (
          ended_stop z (bytes ++ piece) more longer c e failed fault all,
          written_longer (bytes ++ piece) more c e (stops_written f x (bytes ++ piece) c e failed fault all),
          came_stop z (bytes ++ piece) more after.rest fault held,
        );
        wrote = (take count (texts_of parts), wrote);
        broken = (λ h. all.io.0 (cc), λ h. ap (λ (g : RunFault). Err g) (all.io.1 h));
      }

  ended_end : (y : X) (s rest : List ℕ) (c d : Option (List ℕ)) (r : Ending)
      → Tells f x s rest (sent c) (sent d) y → f.done y ≡ false → EndsInput (f.place y) rest f.most r
      → HasEnded f x 0 s false c d r y × IfErr r (λ e. CameOf f x s e rest y)
  ended_end y s rest c d (Ok u) told going none =
      (due_open y s rest None (Ok u) frames.Empty c d told going (λ h. cc) none refl, tt)
  ended_end y s rest c d (Err fault) told going (cut, is) =
      let due = due_open y s rest None (Err fault) frames.Cut c d told going (λ h. cc) cut
      (ap (λ (g : RunFault). Err g) is) in
      let (parts, are, adds) = told in (
        inr (inr (due.0, y, due.1, due.2, inl refl)),
        inr (record {
          cut = λ at h. ((parts, subst (λ (l : List ℕ). AreParts f x s parts l y) (sym (append-nil rest)) are), cut);
          words = λ at n h. absurd (let bad = sym is ∙ h in cc);
        }),
      )

  known_end : (at : Position) (rest : List ℕ) (r : Ending) → EndsInput at rest f.most r
      → (r ≢ Err faults.Io) × (r ≢ Err faults.Memory)
  known_end at rest (Ok u) ends = (λ h. cc, λ h. cc)
  known_end at rest (Err fault) ends = let is = ends.1 in (λ h. cc, λ h. cc)

  pub ends_stream : (y : X) (now : Framing) (bytes : List ℕ) (c d : Option (List ℕ)) (r : Ending)
      → TakesStream f x now y bytes c d → f.done y ≡ false → EndsInput (f.place y) now.rest now.most r
      → Ends (GivesStream f x now y) bytes c d r
  ends_stream y now bytes c d r (place, told, listening) going ends =
      let here = subst (λ (m : ℕ). EndsInput (f.place y) now.rest m r) listening.most ends in
      let ended = ended_end y bytes now.rest c d r told going here in
      let known = known_end (f.place y) now.rest r here in
      ((ended.0, told_written y bytes now.rest c d told, ended.1), known.0, known.1)

  -- ---- a run

  pub stream_new : (now : Framing) (c : Option (List ℕ)) → f.place x ≡ start
      → now ≡ record { rest = []; most = f.most; failed = false } → TakesStream f x now x [] c c
  stream_new now c place is = (
    place,
    subst (λ (l : List ℕ). Tells f x [] l (sent c) (sent c) x) (sym (ap (λ (g : Framing). g.rest) is))
        (tells_none f x [] (sent c)),
    new_listening f now is,
  )

  pub stream_done : (now : Framing) (c : Option (List ℕ)) → f.done x ≡ true
      → Over (GivesStream f x now x) [] c c (Ok tt)
  stream_done now c done = gives_done x now [] [] c c tt (tells_none f x [] (sent c)) done

  module _ (limit : ℕ) (last : Framing) (y : X) (a b c d : Option (List ℕ)) (rf wf : Bool) (r : Ending)
      (h : Reads (TakesStream f x) (GivesStream f x) f.done limit last y a b c d rf wf r) where
    io_ended : (r : Ending) (bytes : List ℕ) (longer : Bool) → r ≡ Err faults.Io
        → HasEnded f x limit bytes longer c d r y × IfErr r (λ e. CameOf f x bytes e last.rest y)
    io_ended (Ok u) bytes longer is = absurd (cc)
    io_ended (Err fault) bytes longer is = (
      inr (inl (cc)),
      inr (record { cut = λ at h. absurd (cc); words = λ at n h. absurd (cc) }),
    )

    any_limit : (r : Ending) (bytes : List ℕ) (longer : Bool) → HasEnded f x 0 bytes longer c d r y
        → HasEnded f x limit bytes longer c d r y
    any_limit (Ok u) bytes longer ended = ended
    any_limit (Err fault) bytes longer ended = ended

    pub runs_stream : Runs f x limit a b c d rf wf r y
    runs_stream = record {
      exact = exact_of (TakesStream f x) (GivesStream f x) f.done limit last y a b c d rf wf r h
          (λ bytes longer. HasEnded f x limit bytes longer c d r y) (λ is bytes longer. (io_ended r bytes longer is).0)
          (λ bytes longer gives. any_limit r bytes longer gives.0);
      io = h.broken;
      begun = record {
        bytes = h.bytes;
        read = h.read;
        bounded = h.bounded;
        lazy = lazy_of (TakesStream f x) (GivesStream f x) f.done limit last y a b c d rf wf r h
            (HasWrittenAll f x limit) (λ s z bytes e (place, (parts, are, wrote), listening).
            (parts, s.rest, z, are, unfinished f s listening, adds_sent c e (texts_of parts) wrote));
        needed = needed_of (TakesStream f x) (GivesStream f x) f.done limit last y a b c d rf wf r h (IsShort f x limit)
            (λ s z bytes e (place, (parts, are, wrote), listening) going.
            (parts, s.rest, z, are, unfinished f s listening, going));
        written = written_of (TakesStream f x) (GivesStream f x) f.done limit last y a b c d rf wf r h
            (λ bytes. HasWritten f x limit bytes c d)
            (λ bytes (place, told, listening). told_written y bytes last.rest c d told) (λ bytes longer gives. gives.1);
      };
      heard = heard_of (TakesStream f x) (GivesStream f x) f.done limit last y a b c d rf wf r h (IsDue f x limit)
          (λ bytes longer (place, told, listening) going.
          due_unfinished y bytes last.rest (behind longer) c d told (unfinished f last listening) going);
      memory = λ is. (h.bytes, h.read, h.memory is);
    }

    pub came_stream : IfSome a (λ input. IfErr r (λ e. CameOf f x (taken_of limit input) e last.rest y))
    came_stream = exact_of (TakesStream f x) (GivesStream f x) f.done limit last y a b c d rf wf r h
        (λ bytes longer. IfErr r (λ e. CameOf f x bytes e last.rest y))
        (λ is bytes longer. (io_ended r bytes longer is).1) (λ bytes longer gives. gives.2)

pub room_heard : {S : Type 0} (serves : S → Position → List ℕ → List (List ℕ) → List ℕ → S → Type 0)
    (refuses : S → Position → List ℕ → List (List ℕ) → Refusal → Type 0) (done : S → Position → Bool) (most : ℕ)
    (x y : Run S) (now : Framing) (bytes : List ℕ) (c d : Option (List ℕ)) (k : ℕ)
    → TakesStream (fold_until serves refuses done most) x now y bytes c d → length bytes + k < 2 ^ 64
    → HasRoom y.at (length now.rest + k)
room_heard serves refuses done most x y now bytes c d k (place, told, listening) small =
    room_told serves refuses done most x y bytes now.rest (sent c) (sent d) k told
    (subst (λ (at : Position). HasRoom at (length bytes + k)) (sym place) (record {
      offset = omega (arith, small);
      index = omega arith;
    }))
