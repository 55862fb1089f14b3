-- The clauses of `canonical_into` allow one result and one content of the buffer. (For `decision`.)
use Rattle.std.proofs.Common.{◌≡◌, ℕ, List, ◌++◌, length, drop, Some, None, Result, Ok, Err, ap, sym, ◌∙◌}
use Rattle.capn_value.specs.Tree.{Tree}
use Rattle.capn_value.specs.FirstCap.{first_cap}
use Rattle.capn_walk.specs.Accepted.{root, IsValueOf}
use Rattle.capn_walk.specs.Limits.{Bounds}
use Rattle.capn_walk.specs.declared.walk_answer.Stopped.{Stopped}
use Rattle.capn_walk.proofs.shared.Unique.{unique}
use Rattle.capn_canon.specs.declared.length.CanonicalLength.{CanonicalLength}
use Rattle.capn_canon.specs.declared.message_refusal.IntoRefusal.{IntoRefusal}
use Rattle.capn_canon.specs.declared.message_refusal.IntoRefusal.TheVariants as intos
use Rattle.capn_canon.specs.Laws.{IsWrittenOrRefused}
use Rattle.capn_canon.specs.Theorem.{WrittenInto, RefusedInto}
use Rattle.capn_layout.specs.Layout.{canon}
use Rattle.capn_canon.proofs.shared.NotRefused.{accepted-not_refused}
use Rattle.capn_canon.proofs.shared.OneRefusal.{one_stop}
use Rattle.capn_canon.proofs.calls.IntoBuffers.{no_bytes_into}

same_length : (c d : CanonicalLength) → c.length ≡ d.length → c.paid ≡ d.paid → c.visits ≡ d.visits → c ≡ d
same_length c d l p v = λ i. record { length = l i; paid = p i; visits = v i }

module _ (m : List (List ℕ)) (limits : Bounds) where
  one_cap : (j k : ℕ) (v w : Tree) → IsValueOf m limits v → IsValueOf m limits w → first_cap v ≡ Some j
      → first_cap w ≡ Some k → j ≡ k
  one_cap j k v w is also e f =
      let same : Some j ≡ Some k = sym e ∙ ap first_cap (unique m v w root is.is also.is) ∙ f in cc

  no_cap : (k : ℕ) (v w : Tree) → IsValueOf m limits v → IsValueOf m limits w → first_cap v ≡ Some k
      → first_cap w ≡ None → ⊥
  no_cap k v w is also e f =
      let same : Some k ≡ None = sym e ∙ ap first_cap (unique m v w root is.is also.is) ∙ f in absurd cc

  -- Two refusals that are true of the same message and the same `room` are equal.
  one_into : (room : ℕ) (e f : IntoRefusal) → RefusedInto m limits room e → RefusedInto m limits room f → e ≡ f
  one_into room (intos.Walk s) (intos.Walk t) h k = ap (λ (x : Stopped). intos.Walk x) (one_stop m limits s t h k)
  one_into room (intos.Walk s) (intos.Capability k) h (w, also, f) =
      absurd (accepted-not_refused m limits s also.accepted h)
  one_into room (intos.Walk s) (intos.NoRoom n p) h (w, also, f, l, o, c) =
      absurd (accepted-not_refused m limits s also.accepted h)
  one_into room (intos.Capability j) (intos.Walk s) (v, is, e) k =
      absurd (accepted-not_refused m limits s is.accepted k)
  one_into room (intos.Capability j) (intos.Capability k) (v, is, e) (w, also, f) =
      ap (λ (x : ℕ). intos.Capability x) (one_cap j k v w is also e f)
  one_into room (intos.Capability j) (intos.NoRoom n p) (v, is, e) (w, also, f, l, o, c) =
      absurd (no_cap j v w is also e f)
  one_into room (intos.NoRoom n p) (intos.Walk s) (v, is, e, l, o, c) k =
      absurd (accepted-not_refused m limits s is.accepted k)
  one_into room (intos.NoRoom n p) (intos.Capability k) (v, is, e, l, o, c) (w, also, f) =
      absurd (no_cap k w v also is f e)
  one_into room (intos.NoRoom n p) (intos.NoRoom j q) (v, is, e, l, o, c) (w, also, f, k, r, d) =
      let same = l ∙ ap (λ (x : Tree). length (canon x)) (unique m v w root is.is also.is) ∙ sym k in
      let paid_so = c ∙ sym d in
      λ i. intos.NoRoom (same i) (paid_so i)

  -- Two `Ok` results of writing the same message to the same buffer `old` are equal, and so are the buffers `p` and
  -- `q`.
  one_written : (old p q : List ℕ) (c d : CanonicalLength) → WrittenInto m limits old p c
      → WrittenInto m limits old q d → (c ≡ d) × (p ≡ q)
  one_written old p q c d h k =
      let same = unique m h.value k.value root h.is.is.is k.is.is.is in (
        same_length c d (h.is.long ∙ ap (λ (x : Tree). length (canon x)) same ∙ sym k.is.long)
            (h.is.pays ∙ sym k.is.pays) (h.is.counts ∙ sym k.is.counts),
        h.written ∙ ap (λ (x : Tree). canon x ++ drop (length (canon x)) old) same ∙ sym k.written,
      )

  pub decided : (old p q : List ℕ) (r s : Result CanonicalLength IntoRefusal)
      → IsWrittenOrRefused m limits old p r → IsWrittenOrRefused m limits old q s → (r ≡ s) × (p ≡ q)
  decided old p q (Ok c) (Ok d) h k =
      let one = one_written old p q c d h.written k.written in (ap Ok one.0, one.1)
  decided old p q (Ok c) (Err e) h k =
      let w = h.written in absurd (no_bytes_into m limits (length old) e k.refused w.value w.is.is w.is.free w.room)
  decided old p q (Err e) (Ok c) h k =
      let w = k.written in absurd (no_bytes_into m limits (length old) e h.refused w.value w.is.is w.is.free w.room)
  decided old p q (Err e) (Err f) h k =
      (ap Err (one_into (length old) e f h.refused k.refused), h.unchanged ∙ sym k.unchanged)
