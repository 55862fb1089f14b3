-- Lemmas for the functions of `stream.rt`, which serve one message or all complete messages at the start of some bytes.
use Rattle.std.proofs.Common.{◌≡◌, ◌≢◌, ◌⊎◌, inl, inr, ℕ, zero, suc, ◌+◌, ◌-◌, ◌<◌, ◌≤◌, List, [], ◌∷◌, ◌++◌, length}
use Rattle.std.proofs.Common.{take, drop, Bool, true, false, Option, None, Some, Result, Ok, Err, refl, ap, sym, subst}
use Rattle.std.proofs.Common.{◌∙◌, append-nil, append_assoc, arith, length-append}
use Rattle.std.proofs.lemmas.List.{take-append-drop, take_rest}
use Rattle.std.proofs.Math.Seq.{take-add, take_all}
use Rattle.std.specs.Io.KnownBytes.{Appends}
use Rattle.capn_words.specs.Watched.{HasBegun}
use Rattle.capn_words.specs.Message.{total}
use Rattle.capn_stream.specs.Frames.{Frames, StandsFirst}
use Rattle.capn_stream.specs.StreamPieces.{FeedGives, Feeds, Framing, IsFrame, IsUnfinished, TakeGives}
use Rattle.capn_stream.specs.declared.fault.FrameFault.{FrameFault}
use Rattle.capn_stream.specs.declared.fault.FrameFault.TheVariants as frame_faults
use Rattle.capn_stream.proofs.shared.FrameLaws.{refused_whole, stands_alone, whole_of}
use Rattle.capn_stream.proofs.shared.Wanting.{frame_whole, unfinished_frame}
use Rattle.capn_canon.specs.declared.refusal.Refusal.{Refusal}
use Rattle.capn_serve.specs.declared.position.Position.{Position}
use Rattle.capn_serve.specs.declared.service.Run.{Run}
use Rattle.capn_serve.specs.declared.fault.RunFault.{RunFault}
use Rattle.capn_serve.specs.declared.fault.RunFault.TheVariants as faults
use Rattle.capn_serve.specs.Fold.{Fold, Part, AreParts, AreServed, after, fold_until, frames_of, texts_of}
use Rattle.capn_serve.specs.Outgoing.{Outgoing, Adds, SendsRest, outgoing, sent}
use Rattle.capn_serve.specs.ChunkRun.{AddsMessage, HasRoom, IsDueSo, IsListening, Passes, Serves, ServesHeld}
use Rattle.capn_serve.specs.ChunkRun.{ServesNext, ServesWhole, Stops, Tells, TellsBegun, fault_at}
use Rattle.capn_serve.proofs.Sends.{adds_all, breaks_less, breaks_rest}
use Rattle.capn_serve.proofs.More.{tells_begun, tells_more, tells_none, tells_one, stops_framed, stops_memory}
use Rattle.capn_serve.proofs.More.{stops_message, stops_more}

pub empty_unfinished : (most : ℕ) → IsUnfinished [] most
empty_unfinished most = inl refl

-- A frame has at least the four bytes of its number of segments.
pub frame_some : (frame : List ℕ) (message : List (List ℕ)) (most : ℕ) → Frames frame message → total message ≤ most
    → 4 ≤ length frame
frame_some frame message most is room = (frame_whole frame most (message, is, room)).0.0.0

-- ---- where the next message begins

module _ {S : Type 0} (serves : S → Position → List ℕ → List (List ℕ) → List ℕ → S → Type 0)
    (refuses : S → Position → List ℕ → List (List ℕ) → Refusal → Type 0) (done : S → Position → Bool) (most : ℕ) where
  abbrev f : Fold (Run S)
  f = fold_until serves refuses done most

  room_after : (x y : Run S) (ps : List Part) (k : ℕ) → AreServed f x ps y
      → HasRoom x.at (length (frames_of ps) + k) → HasRoom y.at k
  room_after x y [] k is room =
      subst (λ (r : Run S). HasRoom r.at k) is (record { offset = omega (arith, room.offset); index = room.index })
  room_after x y (p ∷ ps) k (mid, part, step, rest) room =
      let size = length-append p.frame (frames_of ps) in
      let some = frame_some p.frame p.message most part.frame part.room in
      room_after mid y ps k rest
      (subst (λ (at : Position). HasRoom at (length (frames_of ps) + k)) (sym step.1) (record {
        offset = omega (arith, room.offset, size);
        index = omega (arith, room.index, some);
      }))

  pub room_told : (x y : Run S) (stream rest : List ℕ) (a b : Outgoing) (k : ℕ) → Tells f x stream rest a b y
      → HasRoom x.at (length stream + k) → HasRoom y.at (length rest + k)
  room_told x y stream rest a b k (parts, are, adds) room =
      let size : length stream ≡ length (frames_of parts) + length rest =
      ap length are.is ∙ length-append (frames_of parts) rest in
      room_after x y parts (length rest + k) are.each (record {
        offset = omega (arith, room.offset, size);
        index = room.index;
      })

  pub room_step : (x y : Run S) (frame : List ℕ) (message : List (List ℕ)) (text : List ℕ) (k : ℕ)
      → 4 ≤ length frame → f.step x frame message text y → HasRoom x.at (length frame + k) → HasRoom y.at k
  room_step x y frame message text k some step room =
      subst (λ (at : Position). HasRoom at k) (sym step.1) (record {
        offset = omega (arith, room.offset);
        index = omega (arith, room.index, some);
      })

-- ---- the message in the framer

pub held_whole : (rest : List ℕ) (most : ℕ) (message : List (List ℕ)) (taken : ℕ) → StandsFirst rest most message taken
    → IsFrame rest most ⊎ IsUnfinished rest most → ((m : List (List ℕ)) (t : ℕ) → StandsFirst rest most m t
    → (message ≡ m) × (taken ≡ t)) → take taken rest ≡ rest
held_whole rest most message taken first (inl (m, frames, room)) only =
    let all = only m (length rest) (stands_alone rest most m frames room) in
    take_all taken rest (omega (arith, all.1))
held_whole rest most message taken first (inr (inl none)) only =
    let whole = whole_of rest most message taken first in absurd (omega (arith, whole.0.0.0, none))
held_whole rest most message taken first (inr (inr cut)) only =
    let bad = refused_whole rest most frame_faults.Cut (whole_of rest most message taken first) cut in absurd (cc)

pub held_open : (rest : List ℕ) (most : ℕ) (e : FrameFault) → e ≢ frame_faults.Memory
    → IsFrame rest most ⊎ IsUnfinished rest most
    → ((m : List (List ℕ)) (t : ℕ) → StandsFirst rest most m t → e ≡ frame_faults.Memory) → IsUnfinished rest most
held_open rest most e other (inl (m, frames, room)) only =
    absurd (other (only m (length rest) (stands_alone rest most m frames room)))
held_open rest most e other (inr part) only = part

pub held_frame : (rest : List ℕ) (most other : ℕ) (message : List (List ℕ)) (taken : ℕ)
    → StandsFirst rest most message taken → take taken rest ≡ rest → other ≡ most → IsFrame rest other
held_frame rest most other message taken first all same =
    (message, subst (λ (p : List ℕ). Frames p message) all first.frame, omega (arith, first.room, same))

pub cleared : (before : Framing) (got : Option (List (List ℕ))) (after : Framing) → before.failed ≡ false
    → IsFrame before.rest before.most → TakeGives before got after
    → after ≡ record { rest = []; most = before.most; failed = false }
cleared before (Some message) after good whole took = took.3
cleared before None after good whole (inl broken, same) = absurd (let e : true ≡ false = sym broken ∙ good in cc)
cleared before None after good whole (inr part, same) = absurd (unfinished_frame before.rest before.most part whole)

module _ {X : Type 0} (f : Fold X) (x : X) (before : Framing) (good : before.failed ≡ false)
    (same : before.most ≡ f.most) where
  -- Case: the message in the framer was served.
  pub held_some : (y : X) (after : Framing) (frame : List ℕ) (message : List (List ℕ)) (a b : Outgoing) (failed : Bool)
      (u : Unit {0}) → frame ≡ before.rest → Frames frame message → total message ≤ f.most → f.done x ≡ false
      → AddsMessage f x frame message a b failed (Ok u) y
      → after ≡ record { rest = []; most = before.most; failed = false }
      → ServesHeld f x before a b failed (Ok tt) after y
  held_some y after frame message a b failed u all is room going (text, step, adds, fine) clear =
      let rest : after.rest ≡ [] = ap (λ (g : Framing). g.rest) clear in (
        rw rest
            (subst (λ (p : List ℕ). Tells f x p [] a b y) all
            (tells_one f x y frame message text a b is room going step adds)),
        record {
          good = ap (λ (g : Framing). g.failed) clear;
          part = rw rest (empty_unfinished after.most);
          most = ap (λ (g : Framing). g.most) clear ∙ same;
        },
        fine,
      )

  -- Case: serving the message in the framer ended with `fault`.
  pub held_stop : (y : X) (frame : List ℕ) (message : List (List ℕ)) (a b : Outgoing) (failed : Bool)
      (fault : RunFault) → frame ≡ before.rest → Frames frame message → total message ≤ f.most → f.done x ≡ false
      → AddsMessage f x frame message a b failed (Err fault) y → (more : List ℕ)
      → Stops f x (before.rest ++ more) a b failed fault y
  held_stop y frame message a b failed fault all is room going adds more =
      subst (λ (p : List ℕ). Stops f x (p ++ more) a b failed fault y) all
      (stops_message f x y frame more message a b failed fault is room going adds)

  pub held_none : (a : Outgoing) (failed : Bool) → failed ≡ false → IsUnfinished before.rest before.most
      → ServesHeld f x before a a failed (Ok tt) before x
  held_none a failed fine part =
      (tells_none f x before.rest a, record { good = good; part = part; most = same }, fine)

  -- Case: no complete message was found in the framer, or memory was refused.
  pub held_passed : (most : ℕ) (a : Outgoing) (failed : Bool) (fault : FrameFault) (r : Result (Unit {0}) RunFault)
      → most ≡ f.most → failed ≡ false → IsFrame before.rest most ⊎ IsUnfinished before.rest most
      → ((m : List (List ℕ)) (t : ℕ) → StandsFirst before.rest most m t → fault ≡ frame_faults.Memory)
      → Passes fault r
      → ServesHeld f x before a a failed r before x
  held_passed most a failed fault (Ok u) is fine held only other =
      held_none a failed fine
      (subst (λ (m : ℕ). IsUnfinished before.rest m) (is ∙ sym same)
      (held_open before.rest most fault other held only))
  held_passed most a failed fault (Err e) is fine held only (memory, same_fault) = λ more.
      subst (λ (g : RunFault). Stops f x (before.rest ++ more) a a failed g x) (sym same_fault)
      (stops_memory f x (before.rest ++ more) a failed fine)

-- ---- one more message

module _ {X : Type 0} (f : Fold X) (x : X) (before : Framing) (bytes : List ℕ) (listening : IsListening f before) where
  moves : (n : ℕ) (mid : Framing) → Feeds before bytes n mid → 0 < length bytes → 0 < n
  moves zero mid fed some =
      elim fed.stops [
        | inl all ↦ absurd (omega (arith, all, some))
        | inr frame ↦ (let P : List ℕ → Type 0 = λ p. IsFrame p before.most in
            let Q : ℕ → Type 0 = λ m. IsFrame mid.rest m in
            absurd (unfinished_frame before.rest before.most listening.part
            (subst P (fed.rest ∙ append-nil before.rest) (subst Q fed.same frame))))
      ]
  moves (suc n) mid fed some = omega arith

  -- Case: the framer was fed with `n` bytes, and its message was served if that message is complete.
  pub next_ok : (y : X) (n : ℕ) (mid after : Framing) (a b : Outgoing) (failed : Bool) (u : Unit {0})
      → Feeds before bytes n mid → ServesHeld f x mid a b failed (Ok u) after y
      → ServesNext f x before bytes a b failed (Ok n) after y
  next_ok y n mid after a b failed u fed (told, is, fine) = (
    fed.inside,
    moves n mid fed,
    (subst (λ (p : List ℕ). Tells f x p after.rest a b y) fed.rest told, is, fine),
  )

  -- Case: the framer was fed with `n` bytes, and serving its message ended with `fault`.
  pub next_stopped : (y : X) (n : ℕ) (mid after : Framing) (a b : Outgoing) (failed : Bool) (fault : RunFault)
      → Feeds before bytes n mid → ServesHeld f x mid a b failed (Err fault) after y
      → Stops f x (before.rest ++ bytes) a b failed fault y
  next_stopped y n mid after a b failed fault fed stop =
      let whole : mid.rest ++ drop n bytes ≡ before.rest ++ bytes =
      ap (λ (p : List ℕ). p ++ drop n bytes) fed.rest
      ∙ append_assoc before.rest (take n bytes) (drop n bytes)
      ∙ ap (λ (p : List ℕ). before.rest ++ p) (take-append-drop n bytes) in
      subst (λ (p : List ℕ). Stops f x p a b failed fault y) whole (stop (drop n bytes))

  -- Case: the framer refuses the bytes, or memory is refused.
  pub next_refused : (e : FrameFault) (after : Framing) (a : Outgoing) (failed : Bool) → failed ≡ false → f.done x ≡
      false
      → FeedGives before bytes (Err e) after
      → Stops f x (before.rest ++ bytes) a a failed (fault_at (f.place x) e) x
  next_refused frame_faults.Memory after a failed fine going fed =
      stops_memory f x (before.rest ++ bytes) a failed fine
  next_refused frame_faults.Empty after a failed fine going fed = absurd fed
  next_refused frame_faults.Cut after a failed fine going fed = absurd fed
  next_refused frame_faults.Failed after a failed fine going fed =
      absurd (let e : true ≡ false = sym fed.0 ∙ listening.good in cc)
  next_refused (frame_faults.TooManySegments k) after a failed fine going fed =
      stops_framed f x (before.rest ++ bytes) a failed (frame_faults.TooManySegments k) fine (λ h. cc) fed.1 going
  next_refused (frame_faults.TooManyWords k) after a failed fine going fed =
      stops_framed f x (before.rest ++ bytes) a failed (frame_faults.TooManyWords k) fine (λ h. cc) (
        fed.1.0,
        fed.1.1,
        omega (arith, fed.1.2, listening.most),
      ) going

-- ---- more bytes, after the first `at` bytes were served

module _ {X : Type 0} (f : Fold X) (x y : X) (first before : Framing) (bytes : List ℕ) (at : ℕ) (a b c : Outgoing)
    (told : Tells f x (first.rest ++ take at bytes) before.rest a b y) where
  pub served_stop : {w : X} (failed : Bool) (fault : RunFault)
      → Stops f y (before.rest ++ take (length bytes - at) (drop at bytes)) b c failed fault w
      → Stops f x (first.rest ++ bytes) a c failed fault w
  served_stop {w = w} failed fault stop =
      let part = subst (λ (p : List ℕ). Stops f y (before.rest ++ p) b c failed fault w) (take_rest bytes at) stop in
      let whole : (first.rest ++ take at bytes) ++ drop at bytes ≡ first.rest ++ bytes =
      append_assoc first.rest (take at bytes) (drop at bytes)
      ∙ ap (λ (p : List ℕ). first.rest ++ p) (take-append-drop at bytes) in
      subst (λ (p : List ℕ). Stops f x p a c failed fault w) whole
      (stops_more f x y (first.rest ++ take at bytes) before.rest (drop at bytes) a b c failed fault told part)

  pub served_more : (z : X) (n : ℕ) (rest : List ℕ)
      → Tells f y (before.rest ++ take n (take (length bytes - at) (drop at bytes))) rest b c z
      → Tells f x (first.rest ++ take (at + n) bytes) rest a c z
  served_more z n rest next =
      let part = subst (λ (p : List ℕ). Tells f y (before.rest ++ take n p) rest b c z) (take_rest bytes at) next in
      let whole : (first.rest ++ take at bytes) ++ take n (drop at bytes) ≡ first.rest ++ take (at + n) bytes =
      append_assoc first.rest (take at bytes) (take n (drop at bytes))
      ∙ ap (λ (p : List ℕ). first.rest ++ p) (sym (take-add at n bytes)) in
      subst (λ (p : List ℕ). Tells f x p rest a c z) whole
      (tells_more f x y z (first.rest ++ take at bytes) before.rest (take n (drop at bytes)) rest a b c told part)

-- ---- complete messages in the bytes

module _ {X : Type 0} (f : Fold X) (x y : X) (bytes : List ℕ) (at : ℕ) (a b : Outgoing)
    (told : Tells f x (take at bytes) [] a b y) (message : List (List ℕ)) (taken most : ℕ)
    (same : most ≡ f.most) (going : f.done y ≡ false)
    (first : StandsFirst (take (length bytes - at) (drop at bytes)) most message taken) where
  abbrev front : List ℕ
  front = take taken (take (length bytes - at) (drop at bytes))

  front_room : total message ≤ f.most
  front_room = omega (arith, first.room, same)

  pub whole_more : (z : X) (c : Outgoing) (text : List ℕ) → f.step y front message text z → Adds b c text
      → Tells f x (take (at + taken) bytes) [] a c z
  whole_more z c text step adds =
      let one = tells_one f y z front message text b c first.frame front_room going step adds in
      let part = subst (λ (p : List ℕ). Tells f y (take taken p) [] b c z) (take_rest bytes at) one in
      subst (λ (p : List ℕ). Tells f x p [] a c z) (sym (take-add at taken bytes))
      (tells_more f x y z (take at bytes) [] (take taken (drop at bytes)) [] a b c told part)

  pub whole_stop : (z : X) (c : Outgoing) (failed : Bool) (fault : RunFault)
      → AddsMessage f y front message b c failed (Err fault) z → Stops f x bytes a c failed fault z
  whole_stop z c failed fault adds =
      let here = stops_message f y z front (drop taken (drop at bytes)) message b c failed fault first.frame front_room
      going adds in
      let same_front = subst (λ (p : List ℕ). Stops f y (take taken p ++ drop taken (drop at bytes)) b c failed fault z)
      (take_rest bytes at) here in
      let split = take-append-drop taken (drop at bytes) in
      let part = subst (λ (p : List ℕ). Stops f y p b c failed fault z) split same_front in
      subst (λ (p : List ℕ). Stops f x p a c failed fault z) (take-append-drop at bytes)
      (stops_more f x y (take at bytes) [] (drop at bytes) a b c failed fault told part)

-- Case: some messages were served, and then memory was refused.
pub whole_memory : {X : Type 0} (f : Fold X) (x y : X) (bytes : List ℕ) (at : ℕ) (a b : Outgoing) (failed : Bool)
    → Tells f x (take at bytes) [] a b y → failed ≡ false → Stops f x bytes a b failed faults.Memory y
whole_memory f x y bytes at a b failed told fine =
    let here = stops_memory f {w = y} y (drop at bytes) b failed fine in
    subst (λ (p : List ℕ). Stops f x p a b failed faults.Memory y) (take-append-drop at bytes)
    (stops_more f x y (take at bytes) [] (drop at bytes) a b b failed faults.Memory told here)

-- ---- complete messages, or the next one

pub state_same : {X : Type 0} (f : Fold X) (x y : X) (parts : List Part) → AreParts f x [] parts [] y → x ≡ y
state_same f x y [] are = are.each
state_same f x y (p ∷ ps) are =
    let (mid, part, step, rest) = are.each in
    let some = frame_some p.frame p.message f.most part.frame part.room in
    let size = length-append p.frame (frames_of ps) in
    let more = length-append (p.frame ++ frames_of ps) [] in
    absurd (omega (arith, some, size, more, ap length are.is))

pub still_going : {X : Type 0} (f : Fold X) (x y : X) (bytes : List ℕ) (n : ℕ) (a b : Outgoing) → n ≡ 0
    → Tells f x (take n bytes) [] a b y → f.done x ≡ false → f.done y ≡ false
still_going {X = X} f x y bytes n a b none (parts, are, adds) going =
    let nothing : AreParts f x [] parts [] y = subst (λ (k : ℕ). AreParts f x (take k bytes) parts [] y) none are in
    subst (λ (z : X). f.done z ≡ false) (state_same f x y parts nothing) going

module _ {X : Type 0} (f : Fold X) (x y : X) (before : Framing) (bytes : List ℕ) (a b : Outgoing) where
  -- Case: the framer `before` holds no bytes, and complete messages at the start of `bytes` were served.
  pub some_whole : (n : ℕ) (failed : Bool) → IsListening f before → before.rest ≡ [] → 0 < n
      → ServesWhole f x bytes a b failed (Ok n) y → ServesNext f x before bytes a b failed (Ok n) before y
  some_whole n failed listening none some (inside, told, fine) = (
    inside,
    λ h. some,
    (
      subst (λ (p : List ℕ). Tells f x (p ++ take n bytes) p a b y) (sym none) told,
      listening,
      fine,
    ),
  )

  -- Case: the framer `before` holds no bytes, and the run stopped while `bytes` were served.
  pub some_stop : (failed : Bool) (fault : RunFault) → before.rest ≡ [] → Stops f x bytes a b failed fault y
      → Stops f x (before.rest ++ bytes) a b failed fault y
  some_stop failed fault none stop = subst (λ (p : List ℕ). Stops f x (p ++ bytes) a b failed fault y) (sym none) stop

  -- Case: `bytes` begin with no complete message, and the framer was fed with `bytes`.
  pub some_next : (z : X) (n : ℕ) (c : Outgoing) (failed fine : Bool) (r : Result ℕ RunFault) (after : Framing)
      → n ≡ 0 → ServesWhole f x bytes a b fine (Ok n) y → ServesNext f y before bytes b c failed r after z
      → ServesNext f x before bytes a c failed r after z
  some_next z n c failed fine (Ok m) after none (inside, told, good) (within, moves, (next, listening, ok)) =
      let nothing : Tells f x [] [] a b y = subst (λ (k : ℕ). Tells f x (take k bytes) [] a b y) none told in (
        within,
        moves,
        (tells_more f x y z [] [] (before.rest ++ take m bytes) after.rest a b c nothing next, listening, ok),
      )
  some_next z n c failed fine (Err fault) after none (inside, told, good) stop =
      let nothing : Tells f x [] [] a b y = subst (λ (k : ℕ). Tells f x (take k bytes) [] a b y) none told in
      stops_more f x y [] [] (before.rest ++ bytes) a b c failed fault nothing stop

-- ---- the text that was not written before is written

module _ {X : Type 0} (f : Fold X) (x : X) (c d e : Option (List ℕ)) (text : List ℕ) where
  pub tells_sent : (y : X) (stream rest : List ℕ) → Tells f x stream rest (sent c) (outgoing d text) y
      → Appends d e text → Tells f x stream rest (sent c) (sent e) y
  tells_sent y stream rest (parts, are, adds) wrote =
      (parts, are, adds_all (sent c) d e text (texts_of parts) adds wrote)

  pub begun_sent : (stream : List ℕ) → TellsBegun f x stream (sent c) (outgoing d text) → Appends d e text
      → TellsBegun f x stream (sent c) (sent e)
  begun_sent stream (parts, rest, y, count, are, adds) wrote =
      (parts, rest, y, count, are, adds_all (sent c) d e text (take count (texts_of parts)) adds wrote)

  pub stops_sent : {w : X} (stream : List ℕ) (fault : RunFault)
      → Stops f x stream (sent c) (outgoing d text) false fault w → Appends d e text
      → Stops f x stream (sent c) (sent e) false fault w
  stops_sent {w = w} stream fault stop wrote = record {
    told = λ h. begun_sent stream (stop.told refl) wrote;
    front = λ h. absurd (cc);
    io = stop.io;
    due = elim stop.due [ inl m ↦ inl m | inr rest ↦ inr (elim rest [ inl i ↦ inl i | inr so ↦ inr (so_sent so) ]) ];
  }
    where
      so_sent : IsDueSo f x stream (sent c) (outgoing d text) fault w → IsDueSo f x stream (sent c) (sent e) fault w
      so_sent so more behind = let part = so more behind in
          (part.0, part.1, part.2, adds_all (sent c) d e text part.0 part.3 wrote, part.4)

  -- Case: the writer fails while `text` is written.
  pub begun_broken : {w : X} (stream : List ℕ) → TellsBegun f x stream (sent c) (outgoing d text) → HasBegun d e text
      → Stops f x stream (sent c) (sent e) true faults.Io w
  begun_broken stream (parts, rest, y, count, are, adds) (some, wrote) =
      let begun = breaks_rest (sent c) d e text (take count (texts_of parts)) some adds wrote in
      let broken = breaks_less (sent c) (sent e) begun.0 count (texts_of parts) begun.1 in
      record {
        told = λ h. absurd (cc);
        front = λ h. (parts, rest, y, broken.0, are, broken.1);
        io = (λ h. refl, λ h. refl);
        due = inr (inl refl);
      }

  pub tells_broken : {w : X} (y : X) (stream rest : List ℕ) → Tells f x stream rest (sent c) (outgoing d text) y
      → HasBegun d e text → Stops f x stream (sent c) (sent e) true faults.Io w
  tells_broken y stream rest told wrote =
      begun_broken stream (tells_begun f x y stream rest (sent c) (outgoing d text) told) wrote

  pub stops_broken : {w : X} (stream : List ℕ) (fault : RunFault)
      → Stops f x stream (sent c) (outgoing d text) false fault w → HasBegun d e text
      → Stops f x stream (sent c) (sent e) true faults.Io w
  stops_broken stream fault stop wrote = begun_broken stream (stop.told refl) wrote

  -- Case: the writer had failed already, and `text` was not written.
  pub stops_kept : {w : X} (stream : List ℕ) (fault : RunFault) → e ≡ d
      → Stops f x stream (sent c) (outgoing d text) true fault w → Stops f x stream (sent c) (sent e) true fault w
  stops_kept stream fault same stop = record {
    told = λ h. absurd (cc);
    front = λ h. (let g = stop.front h in
        let wrote = subst (λ (o : Option (List ℕ)). Appends c o (take g.3 (texts_of g.0))) (sym same) g.5 in
        (g.0, g.1, g.2, g.3, g.4, wrote));
    io = stop.io;
    due = inr (inl (stop.io.1 refl));
  }

module _ {X : Type 0} (f : Fold X) (x : X) where
  -- Case: `bytes` were served, and then `text` was written, as `SendsRest` states.
  serves_sent : (y : X) (before after : Framing) (bytes : List ℕ) (c d e : Option (List ℕ))
      (text : List ℕ) (broken failed : Bool) (served result : Result (Unit {0}) RunFault)
      → Serves f x before bytes (sent c) (outgoing d text) broken served after y
      → SendsRest served text d e broken failed result
      → Serves f x before bytes (sent c) (sent e) failed result after y
  serves_sent y before after bytes c d e text true failed (Ok u) result s r =
      absurd (let bad : true ≡ false = s.3 in cc)
  serves_sent y before after bytes c d e text true failed (Err fault) result s (same, broken, is) =
      subst (λ (r : Result (Unit {0}) RunFault). Serves f x before bytes (sent c) (sent e) failed r after y) (sym is)
      (subst (λ (b : Bool). Stops f x (before.rest ++ bytes) (sent c) (sent e) b fault y) (sym broken)
      (stops_kept f x c d e text (before.rest ++ bytes) fault same s))
  serves_sent y before after bytes c d e text false false (Ok u) result s (wrote, is) =
      subst (λ (r : Result (Unit {0}) RunFault). Serves f x before bytes (sent c) (sent e) false r after y) (sym is)
      (s.0, tells_sent f x c d e text y (before.rest ++ bytes) s.0 s.1 wrote, s.2, refl)
  serves_sent y before after bytes c d e text false false (Err fault) result s (wrote, is) =
      subst (λ (r : Result (Unit {0}) RunFault). Serves f x before bytes (sent c) (sent e) false r after y) (sym is)
      (stops_sent f x c d e text (before.rest ++ bytes) fault s wrote)
  serves_sent y before after bytes c d e text false true (Ok u) result s (wrote, is) =
      subst (λ (r : Result (Unit {0}) RunFault). Serves f x before bytes (sent c) (sent e) true r after y) (sym is)
      (tells_broken f x c d e text y (before.rest ++ bytes) s.0 s.1 wrote)
  serves_sent y before after bytes c d e text false true (Err fault) result s (wrote, is) =
      subst (λ (r : Result (Unit {0}) RunFault). Serves f x before bytes (sent c) (sent e) true r after y) (sym is)
      (stops_broken f x c d e text (before.rest ++ bytes) fault s wrote)

  pub serves_chunk : (y : X) (before after : Framing) (bytes : List ℕ) (c d e : Option (List ℕ))
      (start text kept : List ℕ) (broken failed : Bool) (served result : Result (Unit {0}) RunFault) → start ≡ []
      → kept ≡ text
      → Serves f x before bytes (outgoing c start) (outgoing d text) broken served after y
      → SendsRest served kept d e broken failed result
      → Serves f x before bytes (sent c) (sent e) failed result after y
  serves_chunk y before after bytes c d e start text kept broken failed served result none is s r =
      serves_sent y before after bytes c d e text broken failed served result
      (subst (λ (p : List ℕ). Serves f x before bytes (outgoing c p) (outgoing d text) broken served after y) none s)
      (subst (λ (p : List ℕ). SendsRest served p d e broken failed result) is r)
