-- A lower bound for the length of a frame whose first bytes are known. (For `frame`.)
use Rattle.std.proofs.Common.{◌≡◌, ◌≢◌, ◌⊎◌, ◌∙◌, inl, inr, ℕ, ◌<◌, ◌≤◌, List, ◌++◌, length, ap, sym, subst, arith}
use Rattle.std.proofs.lemmas.Bool.Decides.{nat_tests}
use Rattle.capn_stream.specs.Frames.{padding}
use Rattle.capn_stream.specs.StreamPieces.{IsUnfinished}
use Rattle.capn_stream.specs.FrameRefusal.{HasCount, HasHead, announced_segments, announced_words, frame_length}
use Rattle.capn_stream.specs.FrameRefusal.{head_length, IsFrameRefused}
use Rattle.capn_stream.proofs.shared.Longer.{segments-append, words-append}
use Rattle.capn_stream.proofs.shared.Wanting.{frame_whole}
use Rattle.capn_stream.specs.declared.fault.FrameFault.{FrameFault}
use Rattle.capn_stream.specs.declared.fault.FrameFault.TheVariants as frame
use Rattle.capn_abi.specs.declared.report.CapnReport.{CapnReport}
use Rattle.capn_c.specs.FrameReport.{ReportsFrame}
use Rattle.capn_c.specs.FrameNeed.{IsNeeded, needed}

padding_le : (count : ℕ) → padding count ≤ 4
padding_le count = grind (arith, nat_tests)

-- Case: `bs` lack the number of segments.
pub count_needed : (bs : List ℕ) (most : ℕ) → length bs < 4 → IsNeeded bs most 8
count_needed bs most short = record {
  least = λ more f. (let w = frame_whole (bs ++ more) most f in omega (arith, w.0.1));
  beyond = omega (arith, short);
  bounded = omega arith;
}

-- Case: `bs` have the number of segments, but not the complete table.
pub table_needed : (bs : List ℕ) (most : ℕ) → HasCount bs → length bs < head_length (announced_segments bs)
    → IsNeeded bs most (head_length (announced_segments bs))
table_needed bs most count short = record {
  least = λ more f. (let w = frame_whole (bs ++ more) most f in
      omega (arith, w.0.1, ap head_length (segments-append bs more count.0)));
  beyond = short;
  bounded = omega (arith, count.1, padding_le (announced_segments bs));
}

-- Case: `bs` have the complete table.
pub words_needed : (bs : List ℕ) (most : ℕ) → HasHead bs → announced_words bs ≤ most → length bs < frame_length bs
    → IsNeeded bs most (frame_length bs)
words_needed bs most head room short = record {
  least = λ more f. (let w = frame_whole (bs ++ more) most f in
      omega (arith, w.2, ap head_length (segments-append bs more head.0.0), words-append bs more head));
  beyond = short;
  bounded = omega (arith, head.0.1, room, padding_le (announced_segments bs));
}

-- If the frame `bs` is unfinished, every complete frame that begins with `bs` has at least `needed bs` bytes.
pub is_needed : (bs : List ℕ) (most : ℕ) → IsUnfinished bs most → IsNeeded bs most (needed bs)
is_needed bs most (inl none) =
    let e : needed bs ≡ 8 = grind (arith, nat_tests, none) in
    subst (IsNeeded bs most) (sym e) (count_needed bs most (omega (arith, none)))
is_needed bs most (inr (inl count)) =
    let e : needed bs ≡ 8 = grind (arith, nat_tests, count.1) in
    subst (IsNeeded bs most) (sym e) (count_needed bs most count.1)
is_needed bs most (inr (inr (inl table))) =
    let e : needed bs ≡ head_length (announced_segments bs) = grind (arith, nat_tests, table.0.0, table.1) in
    subst (IsNeeded bs most) (sym e) (table_needed bs most table.0 table.1)
is_needed bs most (inr (inr (inr contents))) =
    let e : needed bs ≡ frame_length bs = grind (arith, nat_tests, contents.0.0.0, contents.0.1) in
    subst (IsNeeded bs most) (sym e) (words_needed bs most contents.0 contents.1 contents.2)

neither : (n status : ℕ) → status ≡ n → (status ≡ 48) ⊎ (status ≡ 51) → n ≢ 48 → n ≢ 51 → ⊥
neither n status e (inl h) a b = a (sym e ∙ h)
neither n status e (inr h) a b = b (sym e ∙ h)

-- If `status` is 48 or 51, the reported length is the number of bytes that the frame needs (`IsNeeded`).
pub needed_told : (bs : List ℕ) (most status : ℕ) (report : CapnReport) (e : FrameFault)
    → ReportsFrame bs status report e → IsFrameRefused bs most e → (status ≡ 48) ⊎ (status ≡ 51)
    → IsNeeded bs most report.length
needed_told bs most status report frame.Empty t h s =
    subst (IsNeeded bs most) (sym (ap (λ (r : CapnReport). r.length) t.report_is)) (is_needed bs most (inl h))
needed_told bs most status report frame.Cut t h s =
    subst (IsNeeded bs most) (sym (ap (λ (r : CapnReport). r.length) t.report_is)) (is_needed bs most (inr h))
needed_told bs most status report frame.Memory t h s =
    absurd (neither 8 status t.status_is s (λ f. omega (arith, f)) (λ f. omega (arith, f)))
needed_told bs most status report (frame.TooManySegments n) t h s =
    absurd (neither 49 status t.status_is s (λ f. omega (arith, f)) (λ f. omega (arith, f)))
needed_told bs most status report (frame.TooManyWords n) t h s =
    absurd (neither 50 status t.status_is s (λ f. omega (arith, f)) (λ f. omega (arith, f)))
needed_told bs most status report frame.Failed t h s = absurd h
