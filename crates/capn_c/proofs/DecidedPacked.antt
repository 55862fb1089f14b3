-- The clauses of `capn_pack` and of `capn_unpack` allow one status and one report for each input and each length of the
-- buffer, and status 8. (For `decision.rt`.)
use Rattle.std.proofs.Common.{◌≡◌, ◌≢◌, ◌⊎◌, ◌↔◌, ◌*◌, ◌%◌, ◌≤◌, ℕ, zero, suc, inl, inr, List, length, refl, ap, sym}
use Rattle.std.proofs.Common.{◌∙◌, arith, eq-zero-or-pos}
use Rattle.capn_pack.specs.Chosen.{Chosen}
use Rattle.capn_pack.specs.Packed.{Packs}
use Rattle.capn_pack.specs.Words.{HasWords}
use Rattle.capn_pack.specs.UnpackRefusal.{IsUnpackRefused}
use Rattle.capn_pack.specs.declared.fault.UnpackFault.{UnpackFault}
use Rattle.capn_pack.specs.declared.fault.UnpackFault.TheVariants as packed
use Rattle.capn_pack.proofs.shared.GroupLaws.{one_reading, refused_only}
use Rattle.capn_pack.proofs.shared.RefusalLaws.{one_unpack_fault}
use Rattle.capn_abi.specs.Calls.{Delivers}
use Rattle.capn_abi.specs.StatusCodes.{ReportsPacked, answered, at_number, packed_code, packed_number}
use Rattle.capn_abi.specs.declared.report.CapnReport.{CapnReport}
use Rattle.capn_c.specs.Decision.{Agree}
use Rattle.capn_c.proofs.Decided.{IsTold, agreed}
use Rattle.capn_c.proofs.DecidedRoom.{IsRoom, delivers_room, one_room}

-- ---- to pack

-- What the clauses of `capn_pack` say of its status and its report, for a buffer of the length `n`.
pub record IsPackTold (bs : List ℕ) (n s : ℕ) (r : CapnReport) : Type 0 where
  pub whole : length bs % 8 ≡ 0 → (s ≤ 1) ⊎ (s ≡ 8)
  pub not_whole : length bs % 8 ≢ 0 → (s ≡ 16) × (r ≡ at_number (length bs))
  pub found : s ≤ 1 → (text : List ℕ) × Chosen text bs × (r.length ≡ length text) × IsRoom n (length text) s
  pub rest : s ≤ 1 → r ≡ answered r.length 0 0

module _ (bs : List ℕ) (n : ℕ)
    (unique : (a b vs ws : List ℕ) → Chosen a vs → Chosen b ws → (a ≡ b) ↔ (vs ≡ ws)) (s t : ℕ) (r q : CapnReport)
    (h : IsPackTold bs n s r) (k : IsPackTold bs n t q) where
  whole_agree : (s ≤ 1) ⊎ (s ≡ 8) → (t ≤ 1) ⊎ (t ≡ 8) → Agree s r t q
  whole_agree (inr e) other ns nt = absurd (ns e)
  whole_agree (inl d) (inr e) ns nt = absurd (nt e)
  whole_agree (inl d) (inl e) ns nt =
      let a = h.found d in
      let b = k.found e in
      let texts : a.0 ≡ b.0 = (unique a.0 b.0 bs bs a.1 b.1).1 refl in
      let sizes : r.length ≡ q.length = a.2 ∙ ap length texts ∙ sym b.2 in (
        one_room n (length a.0) (length b.0) s t (ap length texts) a.3 b.3,
        h.rest d ∙ ap (λ (x : ℕ). answered x 0 0) sizes ∙ sym (k.rest e),
      )

  cut_agree : length bs % 8 ≢ 0 → Agree s r t q
  cut_agree w ns nt =
      let a = h.not_whole w in
      let b = k.not_whole w in
      (a.0 ∙ sym b.0, a.1 ∙ sym b.1)

  pub packs_agree : Agree s r t q
  packs_agree = elim (eq-zero-or-pos (length bs % 8)) [
    | inl z ↦ whole_agree (h.whole z) (k.whole z)
    | inr p ↦ cut_agree (λ z. absurd (omega (arith, z, p)))
  ]

pub pack_clauses : (bs : List ℕ) (n s : ℕ) (r : CapnReport) (old new : List ℕ) → length old ≡ n → length new ≡ n
    → (s ≤ 1 → (text : List ℕ) × Chosen text bs × Packs text bs × Delivers text s r.length old new)
    → (length bs % 8 ≡ 0 → (s ≤ 1) ⊎ (s ≡ 8)) → (length bs % 8 ≢ 0 → (s ≡ 16) × (r ≡ at_number (length bs)))
    → (s ≤ 1 → r ≡ answered r.length 0 0) → IsPackTold bs n s r
pack_clauses bs n s r old new o w found whole not_whole rest = record {
  whole = whole;
  not_whole = not_whole;
  found = (λ e.
      let h = found e in
      (h.0, h.1, h.3.length_is, delivers_room n h.0 s r.length old new o w h.3));
  rest = rest;
}

-- ---- to unpack

-- The words that `bs` unpack to have the length in `r`, and `s` says whether a buffer of the length `n` has room.
abbrev pub IsWordsTold : List ℕ → (most n s : ℕ) → CapnReport → Type 0
IsWordsTold bs most n s r = ((words : List ℕ) × Packs bs words × (length words ≤ 8 * most)
    × (r.length ≡ length words) × IsRoom n (length words) s) × (r ≡ answered r.length 0 0)

-- No argument of `capn_unpack` can be out of a range.
abbrev pub NoneWrong : ℕ → Type 0
NoneWrong n = ⊥

-- The report of a fault of packed bytes.
abbrev pub packed_report : UnpackFault → CapnReport
packed_report e = at_number (packed_number e)

module _ (bs : List ℕ) (most n : ℕ) where
  one_unpacked : (s t : ℕ) (r q : CapnReport) → IsWordsTold bs most n s r → IsWordsTold bs most n t q
      → (s ≡ t) × (r ≡ q)
  one_unpacked s t r q ((a, h, room, l, i), e) ((b, k, other, m, j), f) =
      let same = one_reading bs a b h k in
      let sizes : r.length ≡ q.length = l ∙ ap length same ∙ sym m in (
        one_room n (length a) (length b) s t (ap length same) i j,
        e ∙ ap (λ (x : ℕ). answered x 0 0) sizes ∙ sym f,
      )

  unpacked_apart : (s : ℕ) (r : CapnReport) (e : UnpackFault) → IsWordsTold bs most n s r → IsUnpackRefused bs most e
      → e ≡ packed.Memory
  unpacked_apart s r e ((a, h, room, l, i), is) w = refused_only e bs a most w h room

  one_packed_fault : (e f : UnpackFault) → (e ≡ packed.Memory → ⊥) → (f ≡ packed.Memory → ⊥)
      → IsUnpackRefused bs most e → IsUnpackRefused bs most f → e ≡ f
  one_packed_fault e f ne nf w v = one_unpack_fault bs most e f w v ne nf

  pub unpacks_agree : (s t : ℕ) (r q : CapnReport)
      → IsTold packed_code packed_report NoneWrong (IsWordsTold bs most n) (IsUnpackRefused bs most) s r
      → IsTold packed_code packed_report NoneWrong (IsWordsTold bs most n) (IsUnpackRefused bs most) t q
      → Agree s r t q
  unpacks_agree s t r q h k =
      agreed packed_code packed_report packed.Memory NoneWrong (IsWordsTold bs most n) (IsUnpackRefused bs most) refl
      one_unpacked unpacked_apart one_packed_fault s t r q h k

kinds_unpacked : (s : ℕ) (D R : Type 0) → (s ≤ 1 → D) → (2 ≤ s → R) → NoneWrong s ⊎ D ⊎ R
kinds_unpacked zero D R found refused = inr (inl (found (omega arith)))
kinds_unpacked (suc zero) D R found refused = inr (inl (found (omega arith)))
kinds_unpacked (suc (suc k)) D R found refused = inr (inr (refused (omega arith)))

pub unpack_clauses : (bs : List ℕ) (most n s : ℕ) (r : CapnReport) (old new : List ℕ) → length old ≡ n
    → length new ≡ n
    → (s ≤ 1 → (words : List ℕ) × Packs bs words × (length words ≤ 8 * most) × HasWords words
    × Delivers words s r.length old new) → (s ≤ 1 → r ≡ answered r.length 0 0)
    → (2 ≤ s → (e : UnpackFault) × ReportsPacked s r e × IsUnpackRefused bs most e)
    → IsTold packed_code packed_report NoneWrong (IsWordsTold bs most n) (IsUnpackRefused bs most) s r
unpack_clauses bs most n s r old new o w found rest refused =
    let done : s ≤ 1 → IsWordsTold bs most n s r =
    λ e.
    let h = found e in
    ((h.0, h.1, h.2, h.4.length_is, delivers_room n h.0 s r.length old new o w h.4), rest e) in
    record {
      only = (λ x z. absurd z);
      each = kinds_unpacked s _ _ done
          (λ k. let h = refused k in (h.0, h.1.status_is, h.1.report_is, h.2));
    }
