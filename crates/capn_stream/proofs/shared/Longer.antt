-- Lemmas for `Filling`, `ReadFirst`, `Wanting`, capn_c, capn_commands and capn_serve: the numbers that bytes announce
-- do not change if more bytes follow.
use Rattle.std.proofs.Common.{◌≡◌, ℕ, zero, suc, ◌+◌, ◌*◌, ◌≤◌, List, ◌++◌, length}
use Rattle.std.proofs.Common.{take, drop, sum, refl, ap, sym, subst, ◌∙◌, arith}
use Rattle.std.proofs.Common.{length-append, length-drop}
use Rattle.std.proofs.lemmas.List.{drop-append-le}
use Rattle.byteorder.specs.Numbers.{little_from-append}
use Rattle.capn_stream.specs.FrameRefusal.{HasCount, HasHead, announced_segments, announced_words, entries}
use Rattle.capn_stream.specs.FrameRefusal.{entry_number, head_length}
use Rattle.capn_stream.specs.inner.Stages.{Extends, IsStage, IsHeadRefused, Knows, announced_ends, need}
use Rattle.capn_stream.specs.declared.fault.FrameFault.{FrameFault}
use Rattle.capn_stream.specs.declared.fault.FrameFault.TheVariants.{Memory, Empty, TooManySegments, TooManyWords, Cut}
use Rattle.capn_stream.specs.declared.fault.FrameFault.TheVariants.{Failed}
use Rattle.capn_stream.specs.declared.stage.Stage.{Stage}
use Rattle.capn_stream.specs.declared.stage.Stage.TheVariants as stages

-- if `bs` has at least 4 bytes, more bytes do not change the number in the first 4 bytes
pub entry_number-append : (bs more : List ℕ) → 4 ≤ length bs → entry_number (bs ++ more) ≡ entry_number bs
unfolding entry_number
entry_number-append bs more h = little_from-append 4 bs more h

-- if `bs` has at least `n` entries, more bytes do not change the first `n` entries
pub entries-append : (n : ℕ) (bs more : List ℕ) → 4 * n ≤ length bs → entries n (bs ++ more) ≡ entries n bs
entries-append zero bs more h = refl
entries-append (suc n) bs more h =
    let first = entry_number-append bs more (omega arith) in
    let rest = drop-append-le 4 bs more (omega arith) in
    let ih = entries-append n (drop 4 bs) more (omega (arith, length-drop 4 bs)) in
    rw (first, rest, ih) refl

-- if `bs` has at least 4 bytes, more bytes do not change the announced number of segments
pub segments-append : (bs more : List ℕ) → 4 ≤ length bs → announced_segments (bs ++ more) ≡ announced_segments bs
segments-append bs more h = ap (λ (n : ℕ). n + 1) (entry_number-append bs more h)

-- if `bs` has the count and `n` sizes, more bytes do not change these sizes
pub sizes-append : (n : ℕ) (bs more : List ℕ) → 4 + 4 * n ≤ length bs
    → entries n (drop 4 (bs ++ more)) ≡ entries n (drop 4 bs)
sizes-append n bs more h =
    rw (drop-append-le 4 bs more (omega arith)) (entries-append n (drop 4 bs) more (omega (arith, length-drop 4 bs)))

-- if the table in `bs` is complete, more bytes do not change the announced number of words
pub words-append : (bs more : List ℕ) → HasHead bs → announced_words (bs ++ more) ≡ announced_words bs
words-append bs more h =
    ap (λ (n : ℕ). sum (entries n (drop 4 (bs ++ more)))) (segments-append bs more h.0.0)
    ∙ ap sum (sizes-append (announced_segments bs) bs more (omega (arith, h.1)))

-- if the table in `bs` is complete, more bytes do not change the announced ends of the segments
pub ends-append : (bs more : List ℕ) → HasHead bs → announced_ends (bs ++ more) ≡ announced_ends bs
ends-append bs more h =
    let count = entry_number-append bs more h.0.0 in
    let sizes = sizes-append (entry_number bs) bs more (omega (arith, h.1)) in
    rw (count, sizes) refl

-- if `HasCount` holds of `bs`, it holds of `bs ++ more`
pub HasCount-append : (bs more : List ℕ) → HasCount bs → HasCount (bs ++ more)
HasCount-append bs more h = (omega (arith, length-append bs more, h.0), omega (arith, segments-append bs more h.0, h.1))

-- if `HasHead` holds of `bs`, it holds of `bs ++ more`
pub HasHead-append : (bs more : List ℕ) → HasHead bs → HasHead (bs ++ more)
HasHead-append bs more h =
    let same = ap head_length (segments-append bs more h.0.0) in
    (HasCount-append bs more h.0, omega (arith, same, length-append bs more, h.1))

-- if `Knows` holds of `bs`, it holds of `bs ++ more`
pub Knows-append : (stage : Stage) (bs : List ℕ) (most : ℕ) (ends more : List ℕ) → Knows stage bs most ends
    → Knows stage (bs ++ more) most ends
Knows-append stages.Count bs most ends more h = tt
Knows-append (stages.Table segments) bs most ends more h =
    (HasCount-append bs more h.0, h.1 ∙ sym (segments-append bs more h.0.0))
Knows-append (stages.Contents start end) bs most ends more (head, room, begins, stops, cuts) =
    let count = segments-append bs more head.0.0 in
    let words = words-append bs more head in
    let size = ap head_length count in (
      HasHead-append bs more head,
      omega (arith, words, room),
      begins ∙ sym size,
      omega (arith, size, words, stops),
      cuts ∙ sym (ends-append bs more head),
    )

-- if `IsStage` holds of `old`, it holds of `new`, which has more bytes of `piece`
pub IsStage-extends : (stage : Stage) (old piece : List ℕ) (most n : ℕ) (new ends : List ℕ)
    → IsStage stage old most ends → Extends old piece (need stage) n new → IsStage stage new most ends
IsStage-extends stage old piece most n new ends is more = record {
  below = more.below;
  knows = subst (λ (bs : List ℕ). Knows stage bs most ends) (sym more.text)
      (Knows-append stage old most ends (take n piece) is.knows);
  within = more.upto;
}

-- if `IsHeadRefused` holds of `bs`, it holds of `bs ++ more`
pub IsStop-append : (bs more : List ℕ) (most : ℕ) (e : FrameFault) → IsHeadRefused bs most e
    → IsHeadRefused (bs ++ more) most e
IsStop-append bs more most Memory h = tt
IsStop-append bs more most Empty h = h
IsStop-append bs more most Cut h = h
IsStop-append bs more most Failed h = h
IsStop-append bs more most (TooManySegments n) h =
    (omega (arith, length-append bs more, h.0), h.1 ∙ sym (segments-append bs more h.0), h.2)
IsStop-append bs more most (TooManyWords n) h = (HasHead-append bs more h.0, h.1 ∙ sym (words-append bs more h.0), h.2)
