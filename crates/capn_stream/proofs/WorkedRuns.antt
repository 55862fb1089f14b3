-- Runs of a framer (`IsRun`): over no bytes, and over the frame of one message, fed whole or in two pieces.
use Rattle.std.proofs.Common.{◌≡◌, inl, inr, ℕ, ◌≤◌, false, List, [], ◌∷◌, ◌++◌, length, take, refl, ap, ap₂, sym}
use Rattle.std.proofs.Common.{subst, ◌∙◌, arith}
use Rattle.std.proofs.lemmas.List.{append-nil, take_all}
use Rattle.capn_words.specs.Message.{total}
use Rattle.capn_stream.specs.Frames.{Frames}
use Rattle.capn_stream.specs.StreamPieces.{Framing, IsUnfinished}
use Rattle.capn_stream.specs.Calls.{fed, took, IsRun}
use Rattle.capn_stream.specs.declared.fault.FrameFault.TheVariants.{Empty}

-- a framer at the beginning of a stream
abbrev fresh : ℕ → Framing
fresh most = record { rest = []; most = most; failed = false }

no_bytes : (most : ℕ) → IsRun (fresh most) [] [] Empty
no_bytes most = record { last = fresh most; more = []; leads = refl; all = refl; ends = (refl, refl) }

one_message : (bs : List ℕ) (most : ℕ) (m : List (List ℕ)) → Frames bs m → total m ≤ most
    → IsRun (fresh most) bs (fed bs (length bs) ∷ took m ∷ []) Empty
one_message bs most m h room =
    let all : take (length bs) bs ≡ bs = take_all (length bs) bs (omega arith) in
    let next : Framing = record { rest = take (length bs) bs; most = most; failed = false } in
    let frame = subst (λ (xs : List ℕ). Frames xs m) (sym all) h in
    record {
      last = fresh most;
      more = [];
      leads = (
        next,
        record {
          inside = omega arith;
          rest = refl;
          held = inl (m, frame, room);
          stops = inl refl;
          same = refl;
          was_good = refl;
          is_good = refl;
        },
        (fresh most, (frame, room, refl, refl), refl),
      );
      all = sym (append-nil (take (length bs) bs ++ []) ∙ append-nil (take (length bs) bs) ∙ all);
      ends = (refl, refl);
    }

-- the frame of a message, fed in two pieces, of which the first is the beginning of the frame
two_pieces : (first second : List ℕ) (most : ℕ) (m : List (List ℕ)) → Frames (first ++ second) m → total m ≤ most
    → IsUnfinished first most
    → IsRun (fresh most) (first ++ second) (fed first (length first) ∷ fed second (length second) ∷ took m ∷ []) Empty
two_pieces first second most m h room begun =
    let one : take (length first) first ≡ first = take_all (length first) first (omega arith) in
    let two : take (length second) second ≡ second = take_all (length second) second (omega arith) in
    let half : Framing = record { rest = take (length first) first; most = most; failed = false } in
    let bytes : List ℕ = take (length first) first ++ take (length second) second in
    let next : Framing = record { rest = bytes; most = most; failed = false } in
    let all : bytes ≡ first ++ second = ap₂ (λ (xs ys : List ℕ). xs ++ ys) one two in
    let frame = subst (λ (xs : List ℕ). Frames xs m) (sym all) h in
    record {
      last = fresh most;
      more = [];
      leads = (
        half,
        record {
          inside = omega arith;
          rest = refl;
          held = inr (subst (λ (xs : List ℕ). IsUnfinished xs most) (sym one) begun);
          stops = inl refl;
          same = refl;
          was_good = refl;
          is_good = refl;
        },
        (
          next,
          record {
            inside = omega arith;
            rest = refl;
            held = inl (m, frame, room);
            stops = inl refl;
            same = refl;
            was_good = refl;
            is_good = refl;
          },
          (fresh most, (frame, room, refl, refl), refl),
        ),
      );
      all = sym (append-nil (take (length first) first ++ (take (length second) second ++ []))
          ∙ ap (λ (xs : List ℕ). take (length first) first ++ xs) (append-nil (take (length second) second)) ∙ all);
      ends = (refl, refl);
    }
