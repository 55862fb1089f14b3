-- Lemmas for `feed`, `finish` and `take`: a frame that is fed in pieces is complete or unfinished.
use Rattle.std.proofs.Common.{◌≡◌, ◌⊎◌, inl, inr, ℕ, ◌*◌, ◌/◌, ◌^◌, ◌<◌, ◌≤◌, List, [], ◌∷◌, ◌++◌}
use Rattle.std.proofs.Common.{length, take, drop, Bool, false, Some, Result, Ok, Err, IfOk, IfErr, is_err}
use Rattle.std.proofs.Common.{refl, ap, sym, subst, ◌∙◌, arith, length-drop}
use Rattle.std.proofs.lemmas.List.{take_all}
use Rattle.capn_words.specs.Message.{bytes, total, AreWords, words_in}
use Rattle.capn_words.proofs.shared.Words.{AreBytes-drop, bytes_of_words, words_below}
use Rattle.capn_stream.specs.Cuts.{AreEnds, cut}
use Rattle.capn_stream.specs.Frames.{Frames, StandsFirst}
use Rattle.capn_stream.specs.StreamPieces.{FeedGives, IsFrame, IsUnfinished, TakeGives}
use Rattle.capn_stream.specs.FrameRefusal.{IsWhole, announced_segments, announced_words, frame_length, head_length}
use Rattle.capn_stream.specs.inner.Stages.{Fills, IsDone, IsStage, IsHeadRefused, Knows, Rests, announced_ends, need}
use Rattle.capn_stream.specs.declared.fault.FrameFault.{FrameFault}
use Rattle.capn_stream.specs.declared.fault.FrameFault.TheVariants.{Memory, Empty, TooManySegments, TooManyWords, Cut}
use Rattle.capn_stream.specs.declared.fault.FrameFault.TheVariants.{Failed}
use Rattle.capn_stream.specs.declared.stage.Stage.{Stage}
use Rattle.capn_stream.specs.declared.stage.Stage.TheVariants as stages
use Rattle.capn_stream.proofs.shared.FrameLaws.{frames_all}
use Rattle.capn_stream.proofs.shared.WholeFrames.{ends_are, stands}

-- the words of `bs` from byte `start` on
abbrev pub tail : ℕ → List ℕ → List ℕ
tail start bs = words_in (length (drop start bs) / 8) (drop start bs)

module _ (bs : List ℕ) (most start end : ℕ) (ends : List ℕ) (small : most ≤ 2 ^ 28)
    (is : IsStage (stages.Contents start end) bs most ends) (done : length bs ≡ end) where
  whole : IsWhole bs most
  whole = (is.knows.0, is.knows.1, omega (arith, is.knows.3, done))

  size : length (drop start bs) ≡ 8 * announced_words bs
  size = omega (arith, length-drop start bs, is.knows.3, is.knows.2, done)

  tail_bytes : bytes (tail start bs) ≡ drop start bs
  tail_bytes = bytes_of_words (length (drop start bs) / 8) (drop start bs) (AreBytes-drop start bs is.below)
      (omega (arith, size))

  tail_is : take (8 * announced_words bs) (drop (head_length (announced_segments bs)) bs) ≡ bytes (tail start bs)
  tail_is =
      ap (λ (n : ℕ). take (8 * announced_words bs) (drop n bs)) (sym is.knows.2)
      ∙ take_all (8 * announced_words bs) (drop start bs) (omega (arith, size))
      ∙ sym tail_bytes

  each : AreWords (tail start bs)
  each = words_below (length (drop start bs) / 8) (drop start bs) (AreBytes-drop start bs is.below)

  pub waiting_ends : AreEnds ends (tail start bs)
  waiting_ends = let P : List ℕ → Type 0 = λ xs. AreEnds xs (tail start bs) in
      subst P (sym is.knows.4) (ends_are bs most (tail start bs) small is.below whole each tail_is)

  waiting_stands : StandsFirst bs most (cut 0 ends (tail start bs)) (length bs)
  waiting_stands =
      let all : frame_length bs ≡ length bs = omega (arith, is.knows.3, done) in
      let P : List ℕ → Type 0 = λ xs. StandsFirst bs most (cut 0 xs (tail start bs)) (length bs) in
      let Q : ℕ → Type 0 = λ n. StandsFirst bs most (cut 0 (announced_ends bs) (tail start bs)) n in
      subst P (sym is.knows.4) (subst Q all (stands bs most (tail start bs) small is.below whole each tail_is))

  pub waiting_frames : Frames bs (cut 0 ends (tail start bs))
  waiting_frames = frames_all bs most (cut 0 ends (tail start bs)) waiting_stands

  pub waiting_room : total (cut 0 ends (tail start bs)) ≤ most
  waiting_room = waiting_stands.room

-- if `IsDone` holds of the stage and the bytes `bs`, `bs` are a frame
pub frame_done : (stage : Stage) (bs : List ℕ) (most : ℕ) (ends : List ℕ) → most ≤ 2 ^ 28 → IsStage stage bs most ends
    → IsDone stage bs → IsFrame bs most
frame_done stages.Count bs most ends small is done = absurd done
frame_done (stages.Table segments) bs most ends small is done = absurd done
frame_done (stages.Contents start end) bs most ends small is done = (
  cut 0 ends (tail start bs),
  waiting_frames bs most start end ends small is done,
  waiting_room bs most start end ends small is done,
)

-- in a proof that `bs` are unfinished, `bs` may be assumed not to be empty, since empty bytes are unfinished
cut_or_empty : (bs : List ℕ) (most : ℕ) → (0 < length bs → IsUnfinished bs most) → IsUnfinished bs most
cut_or_empty [] most h = inl refl
cut_or_empty (b ∷ bs) most h = h (omega arith)

unfinished : (stage : Stage) (bs : List ℕ) (most : ℕ) (ends : List ℕ) → Knows stage bs most ends → Rests stage bs
    → (IsDone stage bs → ⊥) → IsUnfinished bs most
unfinished stages.Count bs most ends knows (inl short) never =
    cut_or_empty bs most (λ some. inr (inl (some, short)))
unfinished (stages.Table segments) bs most ends knows (inl short) never =
    let same = ap head_length knows.1 in
    inr (inr (inl (knows.0, omega (arith, short, same))))
unfinished (stages.Contents start end) bs most ends knows (inl short) never =
    inr (inr (inr (knows.0, knows.1, omega (arith, short, knows.3))))
unfinished stage bs most ends knows (inr done) never = absurd (never done)

-- bytes `bs` that are shorter than `stage` needs are unfinished
pub unfinished_stage : (stage : Stage) (bs : List ℕ) (most : ℕ) (ends : List ℕ) → IsStage stage bs most ends
    → length bs < need stage → IsUnfinished bs most
unfinished_stage stages.Count bs most ends is short = unfinished stages.Count bs most ends is.knows (inl short) (λ d. d)
unfinished_stage (stages.Table segments) bs most ends is short =
    unfinished (stages.Table segments) bs most ends is.knows (inl short) (λ d. d)
unfinished_stage (stages.Contents start end) bs most ends is short =
    unfinished (stages.Contents start end) bs most ends is.knows (inl short) (λ d. absurd (omega (arith, short, d)))

pub frame_held : (stage : Stage) (bs : List ℕ) (most : ℕ) (ends : List ℕ) → most ≤ 2 ^ 28 → IsStage stage bs most ends
    → Rests stage bs → IsFrame bs most ⊎ IsUnfinished bs most
frame_held stage bs most ends small is (inr done) = inl (frame_done stage bs most ends small is done)
frame_held stage bs most ends small is (inl short) = inr (unfinished_stage stage bs most ends is short)

-- for a framer without an earlier error, `FeedGives` follows from `Fills` if `feed` returns `Ok`, and from
-- `IsHeadRefused` if `feed` returns an error
pub feed_gives : (rest piece : List ℕ) (most : ℕ) (r : Result ℕ FrameFault) (stage : Stage) (new ends : List ℕ)
    (before after : Bool) → most ≤ 2 ^ 28 → before ≡ false → after ≡ is_err r
    → IfOk r (λ n. Fills rest piece most n new stage ends) → IfErr r (λ e. IsHeadRefused (rest ++ piece) most e)
    → FeedGives (record { rest = rest; most = most; failed = before }) piece r
    (record { rest = new; most = most; failed = after })
feed_gives rest piece most (Ok n) stage new ends before after small fine is_failed fills stop = record {
  inside = fills.inside;
  rest = fills.text;
  held = frame_held stage new most ends small fills.is fills.rests;
  stops = elim fills.stops [ inl all ↦ inl all | inr done ↦ inr (frame_done stage new most ends small fills.is done) ];
  same = refl;
  was_good = fine;
  is_good = is_failed;
}
feed_gives rest piece most (Err Memory) stage new ends before after small fine is_failed fills stop =
    record { was_good = fine; is_failed = is_failed }
feed_gives rest piece most (Err Empty) stage new ends before after small fine is_failed fills stop = stop
feed_gives rest piece most (Err (TooManySegments n)) stage new ends before after small fine is_failed fills stop =
    (record { was_good = fine; is_failed = is_failed }, stop)
feed_gives rest piece most (Err (TooManyWords n)) stage new ends before after small fine is_failed fills stop =
    (record { was_good = fine; is_failed = is_failed }, stop)
feed_gives rest piece most (Err Cut) stage new ends before after small fine is_failed fills stop = stop
feed_gives rest piece most (Err Failed) stage new ends before after small fine is_failed fills stop = absurd stop

-- if `bs` are a complete frame, `TakeGives` holds of its message
pub take_gives : (bs : List ℕ) (most start end : ℕ) (ends : List ℕ) (failed : Bool) (message : List (List ℕ))
    → most ≤ 2 ^ 28 → IsStage (stages.Contents start end) bs most ends → length bs ≡ end → failed ≡ false
    → message ≡ cut 0 ends (tail start bs)
    → TakeGives (record { rest = bs; most = most; failed = failed }) (Some message)
    (record { rest = []; most = most; failed = failed })
take_gives bs most start end ends failed message small is done fine e =
    let frames = waiting_frames bs most start end ends small is done in
    let room = waiting_room bs most start end ends small is done in
    rw (e, fine) (frames, room, refl, refl)
