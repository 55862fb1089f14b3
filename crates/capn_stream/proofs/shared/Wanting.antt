-- Lemmas for `wanted`, `end_of`, capn_c and capn_serve: the number of bytes that a frame still needs.
use Rattle.std.proofs.Common.{◌≡◌, inl, inr, ℕ, ◌-◌, ◌≤◌, List, ◌++◌, length}
use Rattle.std.proofs.Common.{take, ap, sym, subst}
use Rattle.std.proofs.Common.{◌∙◌, arith, length-append, length-take}
use Rattle.std.proofs.lemmas.List.{take_all}
use Rattle.std.proofs.lemmas.Bool.Decides.{nat_tests}
use Rattle.capn_stream.specs.Frames.{padding}
use Rattle.capn_stream.specs.StreamPieces.{Feeds, Framing, IsFrame, IsUnfinished}
use Rattle.capn_stream.specs.FrameRefusal.{EndsWithin, IsFrameRefused, IsWhole, announced_segments}
use Rattle.capn_stream.specs.FrameRefusal.{head_length}
use Rattle.capn_stream.specs.NextMessage.{most_bytes}
use Rattle.capn_stream.specs.inner.Stages.{IsStage, need}
use Rattle.capn_stream.specs.declared.stage.Stage.{Stage}
use Rattle.capn_stream.specs.declared.stage.Stage.TheVariants as stages
use Rattle.capn_stream.specs.declared.fault.FrameFault.TheVariants.{Cut, TooManySegments, TooManyWords}
use Rattle.capn_stream.proofs.shared.FrameLaws.{refused_whole, stands_alone, whole_of}
use Rattle.capn_stream.proofs.shared.Longer.{HasCount-append, HasHead-append, segments-append, words-append}

padding_le : (count : ℕ) → padding count ≤ 4
padding_le count = grind (arith, nat_tests)

-- a frame of at most `most` words satisfies `IsWhole`
pub frame_whole : (bs : List ℕ) (most : ℕ) → IsFrame bs most → IsWhole bs most
frame_whole bs most (message, frames, room) =
    whole_of bs most message (length bs) (stands_alone bs most message frames room)

-- unfinished bytes `bs` are no frame
pub unfinished_frame : (bs : List ℕ) (most : ℕ) → IsUnfinished bs most → IsFrame bs most → ⊥
unfinished_frame bs most (inl none) f = let w = frame_whole bs most f in absurd (omega (arith, w.0.0.0, none))
unfinished_frame bs most (inr cut) f = let e = refused_whole bs most Cut (frame_whole bs most f) cut in cc

-- a frame that begins with `bs` has at least the length that `stage` needs
pub need_least : (stage : Stage) (bs : List ℕ) (most : ℕ) (ends more : List ℕ) → IsStage stage bs most ends
    → IsFrame (bs ++ more) most → need stage ≤ length (bs ++ more)
need_least stages.Count bs most ends more is f = (frame_whole (bs ++ more) most f).0.0.0
need_least (stages.Table segments) bs most ends more is f =
    let w = frame_whole (bs ++ more) most f in
    let same = ap head_length (is.knows.1 ∙ sym (segments-append bs more is.knows.0.0)) in
    omega (arith, w.0.1, same)
need_least (stages.Contents start end) bs most ends more is f =
    let w = frame_whole (bs ++ more) most f in
    let head = is.knows.0 in
    let count = ap head_length (segments-append bs more head.0.0) in
    let words = words-append bs more head in
    omega (arith, w.2, is.knows.3, count, words)

-- if `bs ++ more` are a frame, `more` has at least as many bytes as `stage` needs in addition to `bs`
pub least : (stage : Stage) (bs : List ℕ) (most : ℕ) (ends more : List ℕ) → IsStage stage bs most ends
    → IsFrame (bs ++ more) most → need stage - length bs ≤ length more
least stage bs most ends more is f = omega (arith, need_least stage bs most ends more is f, length-append bs more)

-- `stage` needs at most the greatest length of a frame of `most` words
pub need_bound : (stage : Stage) (bs : List ℕ) (most : ℕ) (ends : List ℕ) → IsStage stage bs most ends
    → need stage ≤ most_bytes most
need_bound stages.Count bs most ends is = omega arith
need_bound (stages.Table segments) bs most ends is = omega (arith, padding_le segments, is.knows.1, is.knows.0.1)
need_bound (stages.Contents start end) bs most ends is =
    omega (arith, is.knows.3, is.knows.1, is.knows.0.0.1, padding_le (announced_segments bs))

-- if `more` has at most as many bytes as `stage` needs in addition to `bs`, `EndsWithin` holds of `bs ++ more`
pub ends_within : (stage : Stage) (bs : List ℕ) (most : ℕ) (ends more : List ℕ) → IsStage stage bs most ends
    → length more ≤ need stage - length bs → EndsWithin (bs ++ more) most
ends_within stages.Count bs most ends more is few = inl (omega (arith, length-append bs more, is.within, few))
ends_within (stages.Table segments) bs most ends more is few =
    let count = is.knows.0 in
    let same = ap head_length (is.knows.1 ∙ sym (segments-append bs more count.0)) in
    inr (inl (HasCount-append bs more count, omega (arith, length-append bs more, is.within, few, same)))
ends_within (stages.Contents start end) bs most ends more is few =
    let head = is.knows.0 in
    let count = ap head_length (segments-append bs more head.0.0) in
    let words = words-append bs more head in
    inr (inr (
      HasHead-append bs more head,
      omega (arith, words, is.knows.1),
      omega (arith, length-append bs more, is.within, few, is.knows.3, count, words),
    ))

-- unfinished bytes satisfy `EndsWithin`
pub unfinished_within : (bs : List ℕ) (most : ℕ) → IsUnfinished bs most → EndsWithin bs most
unfinished_within bs most (inl none) = inl (omega (arith, none))
unfinished_within bs most (inr (inl count)) = inl (omega (arith, count.1))
unfinished_within bs most (inr (inr (inl table))) = inr (inl (table.0, omega (arith, table.1)))
unfinished_within bs most (inr (inr (inr contents))) = inr (inr (contents.0, contents.1, omega (arith, contents.2)))

-- bytes that satisfy `EndsWithin` and are refused for too many segments are exactly the count
pub many_segments_end : (bs : List ℕ) (most n : ℕ) → EndsWithin bs most → IsFrameRefused bs most (TooManySegments n)
    → length bs ≡ 4
many_segments_end bs most n (inl count) refused = omega (arith, count, refused.0)
many_segments_end bs most n (inr (inl table)) refused = absurd (omega (arith, table.0.1, refused.1, refused.2))
many_segments_end bs most n (inr (inr contents)) refused =
    absurd (omega (arith, contents.0.0.1, refused.1, refused.2))

-- bytes that satisfy `EndsWithin` and are refused for too many words are exactly the table and its padding
pub many_words_end : (bs : List ℕ) (most n : ℕ) → EndsWithin bs most → IsFrameRefused bs most (TooManyWords n)
    → length bs ≡ head_length (announced_segments bs)
many_words_end bs most n (inl count) refused = absurd (omega (arith, count, refused.0.1))
many_words_end bs most n (inr (inl table)) refused = omega (arith, table.1, refused.0.1)
many_words_end bs most n (inr (inr contents)) refused = absurd (omega (arith, contents.1, refused.1, refused.2))

-- if no frame can end before the end of `piece`, the framer receives all of `piece`
pub taken_whole : (before : Framing) (piece : List ℕ) (n : ℕ) (after : Framing) → Feeds before piece n after
    → ((more : List ℕ) → IsFrame (before.rest ++ more) before.most → length piece ≤ length more)
    → after.rest ≡ before.rest ++ piece
taken_whole before piece n after fed needs =
    let all : length piece ≤ n = elim fed.stops [
      | inl e ↦ omega (arith, e)
      | inr f ↦ (let P : List ℕ → Type 0 = λ bs. IsFrame bs before.most in
          let Q : ℕ → Type 0 = λ m. IsFrame after.rest m in
          let frame = subst P fed.rest (subst Q fed.same f) in
          omega (arith, needs (take n piece) frame, length-take n piece))
    ] in
    fed.rest ∙ ap (λ (xs : List ℕ). before.rest ++ xs) (take_all n piece all)
