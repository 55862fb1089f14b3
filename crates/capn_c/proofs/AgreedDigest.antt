-- The calls for a digest and `capn_canonical_with_scratch` report the same of the same bytes. (For `agreement.rt`.)
use Rattle.std.proofs.Common.{◌≡◌, ◌≢◌, ◌⊎◌, ◌≤◌, ℕ, inl, inr, List, length, take, drop, refl, ap, sym, ◌∙◌}
use Rattle.std.proofs.Common.{arith}
use Rattle.std.proofs.Math.Seq.{take-append_seam}
use Rattle.sha2.specs.Sha256.{sha256}
use Rattle.capn_walk.specs.Limits.{Bounds}
use Rattle.capn_canon.specs.Denotes.{Answers}
use Rattle.capn_canon.specs.Refusal.{IsRefused}
use Rattle.capn_canon.specs.declared.form.Form.{Form}
use Rattle.capn_abi.specs.Calls.{IsWritten}
use Rattle.capn_abi.specs.StatusCodes.{answered, code, report_of}
use Rattle.capn_abi.specs.declared.report.CapnReport.{CapnReport}
use Rattle.capn_c.specs.Agreement.{HasDigestOf}
use Rattle.capn_c.proofs.Decided.{IsTold, Wrong}
use Rattle.capn_c.proofs.DecidedAnswers.{IsPriceTold, prices_agree}
use Rattle.capn_c.proofs.DecidedRoom.{IsRoom, one_answer}
use Rattle.capn_c.proofs.DecidedScratch.{IsLentTold}

wrong_from_two : (F L T : Type 0) (n : ℕ) → Wrong F L T n → 2 ≤ n
wrong_from_two F L T n (inl (e, w)) = omega (arith, e)
wrong_from_two F L T n (inr (inl (e, w))) = omega (arith, e)
wrong_from_two F L T n (inr (inr (e, w))) = omega (arith, e)

room_below_two : (n size s : ℕ) → IsRoom n size s → s ≤ 1
room_below_two n size s (inl (e, w)) = omega (arith, e)
room_below_two n size s (inr (e, w)) = omega (arith, e)

module _ (F L T : Type 0) (form : Form) (bs : List ℕ) (limits : Bounds) (n t : ℕ) (o : CapnReport)
    (k : IsTold code report_of (Wrong F L T) (IsLentTold form bs limits n) (IsRefused form bs limits) t o) where
  -- The price of canonical bytes is that of an answer with a digest.
  low_told : t ≤ 1 → IsLentTold form bs limits n t o
      → IsTold code report_of (Wrong F L T) (IsPriceTold form bs limits) (IsRefused form bs limits) 0
      (answered 0 o.paid 0)
  low_told low ((text, h, size, room), e) = record {
    only = (λ m w. absurd (omega (arith, low, (k.only m w).0, wrong_from_two F L T m w)));
    each = inr (inl (refl, (text, h), refl));
  }

  not_lent : 2 ≤ t → IsLentTold form bs limits n t o → ⊥
  not_lent high ((text, h, size, room), e) = absurd (omega (arith, high, room_below_two n (length text) t room))

  each_high : (R : Type 0) → 2 ≤ t → Wrong F L T t ⊎ IsLentTold form bs limits n t o ⊎ R
      → Wrong F L T t ⊎ IsPriceTold form bs limits t o ⊎ R
  each_high R high (inl w) = inl w
  each_high R high (inr (inl d)) = absurd (not_lent high d)
  each_high R high (inr (inr e)) = inr (inr e)

  high_told : 2 ≤ t
      → IsTold code report_of (Wrong F L T) (IsPriceTold form bs limits) (IsRefused form bs limits) t o
  high_told high = record { only = k.only; each = each_high _ high k.each }

  pub digests_agree : (s : ℕ) (r : CapnReport) (d q old : List ℕ)
      → IsTold code report_of (Wrong F L T) (IsPriceTold form bs limits) (IsRefused form bs limits) s r
      → (s ≡ 0 → (text : List ℕ) × Answers form bs limits text r.paid × (d ≡ sha256 text))
      → (t ≤ 1 → IsLentTold form bs limits n t o)
      → (t ≡ 0 → (text : List ℕ) × Answers form bs limits text o.paid × (o.length ≡ length text)
      × IsWritten text old q)
      → s ≢ 8 → t ≢ 8 → HasDigestOf s t r o d q
  digests_agree s r d q old h hashed found wrote not_eight never =
      let priced : t ≤ 1 → (s ≡ 0) × (r ≡ answered 0 o.paid 0) =
      λ low. prices_agree form bs limits (Wrong F L T) s 0 r (answered 0 o.paid 0) h (low_told low (found low))
      not_eight (λ e. absurd (omega (arith, e))) in
      record {
        priced = priced;
        digest = (λ e.
            let a = hashed (priced (omega (arith, e))).0 in
            let b = wrote e in
            let texts = (one_answer form bs limits a.0 b.0 r.paid o.paid a.1 b.1).0 in
            let taken : take o.length q ≡ b.0 =
            ap (λ (m : ℕ). take m q) b.2 ∙ ap (λ (x : List ℕ). take (length b.0) x) b.3
            ∙ take-append_seam b.0 (drop (length b.0) old) in
            a.2 ∙ ap (λ (x : List ℕ). sha256 x) (texts ∙ sym taken));
        refused = (λ high. prices_agree form bs limits (Wrong F L T) s t r o h (high_told high) not_eight never);
      }
