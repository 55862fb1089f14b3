-- Lemmas for `fill`: an allocation is made only if a piece adds bytes to a frame.
use Rattle.std.proofs.Common.{◌≡◌, ◌⊎◌, inl, inr, ℕ, ◌-◌, ◌<◌, ◌≤◌, List, length, take, drop, ap, sym, subst, ◌∙◌}
use Rattle.std.proofs.Common.{arith, length-append, length-drop, length-take}
use Rattle.capn_stream.specs.inner.Stages.{Extends, IsDone, Rests, need}
use Rattle.capn_stream.specs.declared.stage.Stage.{Stage}

-- `piece` is not empty, and `old` has fewer bytes than the stage `first` needs
abbrev pub Lacked : Stage → List ℕ → List ℕ → Type 0
Lacked first old piece = (0 < length piece) × (length old < need first)

-- `stage` is `first` and `bytes` are `old`, or `Lacked` holds
abbrev pub Came : Stage → Stage → List ℕ → List ℕ → List ℕ → Type 0
Came first stage old bytes piece = ((stage ≡ first) × (bytes ≡ old)) ⊎ Lacked first old piece

-- if `Came` holds, `bytes` has fewer bytes than `stage` needs, and `piece` has bytes from index `at` on, `Lacked` holds
pub lacked_now : (first stage : Stage) (old bytes piece : List ℕ) (at end : ℕ) → end ≡ need stage
    → Came first stage old bytes piece
    → (0 < length (take (length piece - at) (drop at piece))) × (length bytes < end) → Lacked first old piece
lacked_now first stage old bytes piece at end is (inl (same, text)) (some, short) = (
  omega (arith, some, length-take (length piece - at) (drop at piece), length-drop at piece),
  omega (arith, short, is, ap need same, ap length text),
)
lacked_now first stage old bytes piece at end is (inr lacked) wanted = lacked

-- if `Rests` and `Came` hold, `bytes` are not the complete frame, and `new` has all that `stage` needs, `Lacked` holds
pub lacked_whole : (first stage : Stage) (old bytes piece new : List ℕ) (at n end : ℕ) → end ≡ need stage
    → Rests first old → Came first stage old bytes piece
    → Extends bytes (take (length piece - at) (drop at piece)) end n new → end ≤ length new
    → (IsDone stage bytes → ⊥) → Lacked first old piece
lacked_whole first stage old bytes piece new at n end is rests (inr lacked) more whole never = lacked
lacked_whole first stage old bytes piece new at n end is (inl short) (inl (same, text)) more whole never =
    let piece_is = length-take (length piece - at) (drop at piece) in
    let added = ap length more.text ∙ length-append bytes (take n (take (length piece - at) (drop at piece))) in
    let count = length-take n (take (length piece - at) (drop at piece)) in
    let first_is = ap need same in
    let old_is = ap length text in (
      omega (arith, whole, short, is, first_is, old_is, added, count, more.inside, piece_is, length-drop at piece),
      short,
    )
lacked_whole first stage old bytes piece new at n end is (inr done) (inl (same, text)) more whole never =
    let P : Stage → Type 0 = λ s. IsDone s bytes in
    let Q : List ℕ → Type 0 = λ bs. IsDone first bs in
    absurd (never (subst P (sym same) (subst Q (sym text) done)))
