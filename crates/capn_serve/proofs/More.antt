-- Lemmas on a stream that is served in chunks: the effect of further bytes, and the places where a run stops. (For
-- `serve_bytes`.)
use Rattle.std.proofs.Common.{◌≡◌, ◌≢◌, inl, inr, ℕ, ◌+◌, ◌≤◌, List, [], ◌∷◌, ◌++◌, length, take, Bool, true}
use Rattle.std.proofs.Common.{false, Option, Result, Err, refl, ap, sym, subst, ◌∙◌, append-nil, append_assoc}
use Rattle.std.proofs.Math.Seq.{take-append-add, take-length}
use Rattle.std.proofs.lemmas.Grind.{flat_map-append}
use Rattle.capn_words.specs.Message.{total}
use Rattle.capn_stream.specs.Frames.{Frames}
use Rattle.capn_stream.specs.inner.Stages.{IsHeadRefused}
use Rattle.capn_stream.specs.declared.fault.FrameFault.{FrameFault}
use Rattle.capn_stream.specs.declared.fault.FrameFault.TheVariants as frame_faults
use Rattle.capn_stream.proofs.shared.Longer.{IsStop-append}
use Rattle.capn_canon.specs.declared.refusal.Refusal.TheVariants as refusals
use Rattle.capn_serve.specs.declared.position.Position.{Position}
use Rattle.capn_serve.specs.Fold.{Fold, Part, AreServed, AreParts, frame_of, text_of, frames_of, texts_of, IsFolded}
use Rattle.capn_serve.specs.Outgoing.{Outgoing, Adds, Breaks, RunsOut, sent}
use Rattle.capn_serve.specs.ChunkRun.{AddsMessage, Tells, TellsBegun, TellsFront, IsDueSo, Stops}
use Rattle.capn_serve.specs.declared.fault.RunFault.{RunFault}
use Rattle.capn_serve.specs.declared.fault.RunFault.TheVariants as faults
use Rattle.capn_serve.proofs.Sends.{adds_more, adds_none, adds_sent, breaks_behind}
use Rattle.capn_serve.proofs.shared.Until.{ends_going}

module _ {X : Type 0} (f : Fold X) where
  served_append : (x y z : X) (ps qs : List Part) → AreServed f x ps y → AreServed f y qs z → AreServed f x (ps ++ qs) z
  served_append x y z [] qs a b = subst (λ (s : X). AreServed f s qs z) (sym a) b
  served_append x y z (p ∷ ps) qs (mid, is, step, rest) b = (mid, is, step, served_append mid y z ps qs rest b)

  pub parts_more : (x y z : X) (s mid e rest : List ℕ) (ps qs : List Part) → AreParts f x s ps mid y
      → AreParts f y (mid ++ e) qs rest z → AreParts f x (s ++ e) (ps ++ qs) rest z
  parts_more x y z s mid e rest ps qs a b = record {
    each = served_append x y z ps qs a.each b.each;
    is =
        ap (λ (p : List ℕ). p ++ e) a.is
        ∙ append_assoc (frames_of ps) mid e
        ∙ ap (λ (p : List ℕ). frames_of ps ++ p) b.is
        ∙ sym (append_assoc (frames_of ps) (frames_of qs) rest)
        ∙ ap (λ (p : List ℕ). p ++ rest) (sym (flat_map-append frame_of ps qs));
  }

  texts_more : (a b c : Outgoing) (ps qs : List Part) → Adds a b (texts_of ps) → Adds b c (texts_of qs)
      → Adds a c (texts_of (ps ++ qs))
  texts_more a b c ps qs g h =
      subst (Adds a c) (sym (flat_map-append text_of ps qs)) (adds_more a b c (texts_of ps) (texts_of qs) g h)

  pub parts_longer : (x y : X) (bytes rest more : List ℕ) (parts : List Part) → AreParts f x bytes parts rest y
      → AreParts f x (bytes ++ more) parts (rest ++ more) y
  parts_longer x y bytes rest more parts are = record {
    each = are.each;
    is = ap (λ (l : List ℕ). l ++ more) are.is ∙ append_assoc (frames_of parts) rest more;
  }

  pub parts_none : (x : X) (stream : List ℕ) → AreParts f x stream [] stream x
  parts_none x stream = record { each = refl; is = refl }

  pub tells_none : (x : X) (stream : List ℕ) (a : Outgoing) → Tells f x stream stream a a x
  tells_none x stream a = ([], parts_none x stream, adds_none a)

  pub tells_more : (x y z : X) (s mid e rest : List ℕ) (a b c : Outgoing) → Tells f x s mid a b y
      → Tells f y (mid ++ e) rest b c z → Tells f x (s ++ e) rest a c z
  tells_more x y z s mid e rest a b c g h =
      (g.0 ++ h.0, parts_more x y z s mid e rest g.0 h.0 g.1 h.1, texts_more a b c g.0 h.0 g.2 h.2)

  one_part : (x y : X) (frame : List ℕ) (message : List (List ℕ)) (text e : List ℕ) → Frames frame message
      → total message ≤ f.most → f.done x ≡ false → f.step x frame message text y
      → AreParts f x (frame ++ e) ((record { frame = frame; message = message; text = text }) ∷ []) e y
  one_part x y frame message text e is room going step = record {
    each = (y, record { frame = is; room = room; going = going }, step, refl);
    is = ap (λ (p : List ℕ). p ++ e) (sym (append-nil frame));
  }

  pub tells_one : (x y : X) (frame : List ℕ) (message : List (List ℕ)) (text : List ℕ) (a b : Outgoing)
      → Frames frame message
      → total message ≤ f.most → f.done x ≡ false → f.step x frame message text y → Adds a b text
      → Tells f x frame [] a b y
  tells_one x y frame message text a b is room going step wrote = (
    (record { frame = frame; message = message; text = text }) ∷ [],
    subst (λ (p : List ℕ). AreParts f x p ((record { frame = frame; message = message; text = text }) ∷ []) [] y)
        (append-nil frame) (one_part x y frame message text [] is room going step),
    subst (Adds a b) (sym (append-nil text)) wrote,
  )

  pub tells_begun : (x y : X) (stream rest : List ℕ) (a b : Outgoing) → Tells f x stream rest a b y
      → TellsBegun f x stream a b
  tells_begun x y stream rest a b (parts, are, adds) = (
    parts,
    rest,
    y,
    length (texts_of parts),
    are,
    subst (Adds a b) (sym (take-length (texts_of parts))) adds,
  )

  begun_none : (x : X) (stream : List ℕ) (a b : Outgoing) → Adds a b [] → TellsBegun f x stream a b
  begun_none x stream a b adds = ([], stream, x, 0, parts_none x stream, adds)

  pub begun_behind : (x y : X) (s mid e : List ℕ) (a b c : Outgoing) → Tells f x s mid a b y
      → TellsBegun f y (mid ++ e) b c → TellsBegun f x (s ++ e) a c
  begun_behind x y s mid e a b c told (parts, rest, z, count, are, adds) =
      let first = texts_of told.0 in
      let front : first ++ take count (texts_of parts) ≡ take (length first + count) (texts_of (told.0 ++ parts)) =
      sym (take-append-add first (texts_of parts) count)
      ∙ ap (λ (p : List ℕ). take (length first + count) p) (sym (flat_map-append text_of told.0 parts)) in (
        told.0 ++ parts,
        rest,
        z,
        length first + count,
        parts_more x y z s mid e rest told.0 parts told.1 are,
        subst (Adds a c) front (adds_more a b c first (take count (texts_of parts)) told.2 adds),
      )

  pub begun_front : (x : X) (stream : List ℕ) (c d : Option (List ℕ)) → TellsBegun f x stream (sent c) (sent d)
      → TellsFront f x stream (sent c) (sent d)
  begun_front x stream c d (parts, rest, y, count, are, adds) =
      (parts, rest, y, count, are, adds_sent c d (take count (texts_of parts)) adds)

  pub due_behind : (x y : X) (s mid e : List ℕ) (a b c : Outgoing) (behind : Option RunFault)
      (ending : Result (Unit {0}) RunFault) → Tells f x s mid a b y
      → (text : List ℕ) × (z : X) × IsFolded f y (mid ++ e) behind text ending z × Adds b c text → (text : List ℕ)
      × (z : X) × IsFolded f x (s ++ e) behind text ending z × Adds a c text
  due_behind x y s mid e a b c behind ending told (text, z, due, wrote) = (
    texts_of (told.0 ++ due.parts),
    z,
    record {
      parts = told.0 ++ due.parts;
      rest = due.rest;
      are = parts_more x y z s mid e due.rest told.0 due.parts told.1 due.are;
      joined = refl;
      ends = due.ends;
    },
    texts_more a b c told.0 due.parts told.2 (subst (Adds b c) due.joined wrote),
  )

  pub front_behind : (x y : X) (s mid e : List ℕ) (a b c : Outgoing) → Tells f x s mid a b y
      → TellsFront f y (mid ++ e) b c → TellsFront f x (s ++ e) a c
  front_behind x y s mid e a b c told (parts, rest, z, count, are, wrote) =
      let behind = breaks_behind a b c (texts_of told.0) (texts_of parts) count told.2 wrote in (
        told.0 ++ parts,
        rest,
        z,
        behind.0,
        parts_more x y z s mid e rest told.0 parts told.1 are,
        subst (Breaks a c behind.0) (sym (flat_map-append text_of told.0 parts)) behind.1,
      )

  pub stops_more : {w : X} (x y : X) (s mid e : List ℕ) (a b c : Outgoing) (failed : Bool) (fault : RunFault)
      → Tells f x s mid a b y → Stops f y (mid ++ e) b c failed fault w → Stops f x (s ++ e) a c failed fault w
  unfolding due_behind
  stops_more {w = w} x y s mid e a b c failed fault told stop = record {
    told = λ h. begun_behind x y s mid e a b c told (stop.told h);
    front = λ h. front_behind x y s mid e a b c told (stop.front h);
    io = stop.io;
    due = elim stop.due [ inl m ↦ inl m | inr rest ↦ inr (elim rest [ inl i ↦ inl i | inr so ↦ inr (so_behind so) ]) ];
  }
    where
      so_behind : IsDueSo f y (mid ++ e) b c fault w → IsDueSo f x (s ++ e) a c fault w
      so_behind so more behind =
          let due = so more behind in
          let same = append_assoc mid e more in
          let part = subst (λ (p : List ℕ). IsFolded f y p behind due.0 (Err fault) due.1) same due.2 in
          let all = due_behind x y s mid (e ++ more) a b c behind (Err fault) told (due.0, due.1, part, due.3) in (
            all.0,
            due.1,
            subst (λ (p : List ℕ). IsFolded f x p behind all.0 (Err fault) due.1) (sym (append_assoc s e more)) all.2,
            all.3,
            due.4,
          )

  pub stops_memory : {w : X} (x : X) (stream : List ℕ) (a : Outgoing) (failed : Bool) → failed ≡ false
      → Stops f x stream a a failed faults.Memory w
  stops_memory x stream a failed fine = record {
    told = λ h. begun_none x stream a a (adds_none a);
    front = λ h. absurd (let broken : true ≡ false = sym h ∙ fine in cc);
    io = (λ h. absurd (cc), λ h. absurd (cc));
    due = inl refl;
  }

  -- Case: the segment table at the start of `stream` is refused with `e`.
  pub stops_framed : (x : X) (stream : List ℕ) (a : Outgoing) (failed : Bool) (e : FrameFault) → failed ≡ false
      → e ≢ frame_faults.Memory → IsHeadRefused stream f.most e → f.done x ≡ false
      → Stops f x stream a a failed (faults.Refused (f.place x) (refusals.Frame e)) x
  stops_framed x stream a failed e fine other stop going = record {
    told = λ h. begun_none x stream a a (adds_none a);
    front = λ h. absurd (let broken : true ≡ false = sym h ∙ fine in cc);
    io = (λ h. absurd (cc), λ h. absurd (cc));
    due = inr (inr
        (λ more behind. (
          [],
          x,
          due more behind e other (IsStop-append stream more f.most e stop),
          adds_none a,
          inl refl,
        )));
  }
    where
      due : (more : List ℕ) (behind : Option RunFault) (e : FrameFault) → e ≢ frame_faults.Memory
          → IsHeadRefused (stream ++ more) f.most e
          → IsFolded f x (stream ++ more) behind [] (Err (faults.Refused (f.place x) (refusals.Frame e))) x
      due more behind frame_faults.Memory other stop = absurd (other refl)
      due more behind frame_faults.Empty other stop = absurd stop
      due more behind frame_faults.Cut other stop = absurd stop
      due more behind frame_faults.Failed other stop = absurd stop
      due more behind (frame_faults.TooManySegments n) other stop = record {
        parts = [];
        rest = stream ++ more;
        are = parts_none x (stream ++ more);
        joined = refl;
        ends = ends_going f x (stream ++ more) behind _ going (inl (frame_faults.TooManySegments n, other, stop, refl));
      }
      due more behind (frame_faults.TooManyWords n) other stop = record {
        parts = [];
        rest = stream ++ more;
        are = parts_none x (stream ++ more);
        joined = refl;
        ends = ends_going f x (stream ++ more) behind _ going (inl (frame_faults.TooManyWords n, other, stop, refl));
      }

  begun_one : (x : X) (frame e : List ℕ) (message : List (List ℕ)) (a b : Outgoing) → Frames frame message
      → total message ≤ f.most → f.done x ≡ false → RunsOut (f.step x frame message) (f.refuses x frame message) a b
      → TellsBegun f x (frame ++ e) a b
  begun_one x frame e message a b is room going (inl none) = begun_none x (frame ++ e) a b none.0
  begun_one x frame e message a b is room going (inr (text, mid, count, step, adds)) = (
    (record { frame = frame; message = message; text = text }) ∷ [],
    e,
    mid,
    count,
    one_part x mid frame message text e is room going step,
    subst (λ (t : List ℕ). Adds a b (take count t)) (sym (append-nil text)) adds,
  )

  -- Case: a message is refused, or memory was refused, or the writer failed.
  pub stops_message : (x y : X) (frame e : List ℕ) (message : List (List ℕ)) (a b : Outgoing) (failed : Bool)
      (fault : RunFault) → Frames frame message → total message ≤ f.most → f.done x ≡ false
      → AddsMessage f x frame message a b failed (Err fault) y → Stops f x (frame ++ e) a b failed fault y
  stops_message x y frame e message a b failed (faults.Refused at r) is room going (
    place,
    refuses,
    none,
    fine,
  ) = record {
    told = λ h. begun_none x (frame ++ e) a b none;
    front = λ h. absurd (let bad : true ≡ false = sym h ∙ fine in cc);
    io = (λ h. absurd (cc), λ h. absurd (let bad : true ≡ false = sym h ∙ fine in cc));
    due = inr (inr (λ more behind. (
      [],
      x,
      due more behind,
      none,
      inr (frame, message, r, refuses, ap (λ (p : Position). faults.Refused p r) place),
    )));
  }
    where
      due : (more : List ℕ) (behind : Option RunFault)
          → IsFolded f x ((frame ++ e) ++ more) behind [] (Err (faults.Refused at r)) x
      due more behind = record {
        parts = [];
        rest = (frame ++ e) ++ more;
        are = parts_none x ((frame ++ e) ++ more);
        joined = refl;
        ends =
            ends_going f x ((frame ++ e) ++ more) behind _ going (inr (
              frame,
              e ++ more,
              message,
              r,
              append_assoc frame e more,
              is,
              room,
              refuses,
              ap (λ (p : Position). Err (faults.Refused p r)) place,
            ));
      }
  stops_message x y frame e message a b failed faults.Memory is room going (begun, fine) = record {
    told = λ h. begun_one x frame e message a b is room going begun;
    front = λ h. absurd (let bad : true ≡ false = sym h ∙ fine in cc);
    io = (λ h. absurd (cc), λ h. absurd (let bad : true ≡ false = sym h ∙ fine in cc));
    due = inl refl;
  }
  stops_message x y frame e message a b failed faults.Io is room going (
    (text, mid, count, step, wrote),
    broken,
  ) = record {
    told = λ h. absurd (let bad : true ≡ false = sym broken ∙ h in cc);
    front = λ h. (
      (record { frame = frame; message = message; text = text }) ∷ [],
      e,
      mid,
      count,
      one_part x mid frame message text e is room going step,
      subst (Breaks a b count) (sym (append-nil text)) wrote,
    );
    io = (λ h. broken, λ h. refl);
    due = inr (inl refl);
  }
  stops_message x y frame e message a b failed faults.InputTooLong is room going none = absurd none
