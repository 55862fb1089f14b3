-- The clauses of `capn_unpack_some` allow one status and one report for each input and each length of the buffer, and
-- status 8. (For `decision.rt`.)
use Rattle.std.proofs.Common.{◌≡◌, ◌≢◌, ℕ, ◌*◌, List, [], ◌++◌, length, take, drop, refl, ap, sym, subst, ◌∙◌}
use Rattle.std.proofs.Common.{arith, append-nil}
use Rattle.std.proofs.lemmas.List.{take-append-drop, length-take-le, length-drop}
use Rattle.capn_pack.specs.Packed.{Packs, contents, texts}
use Rattle.capn_pack.specs.UnpackRefusal.{IsCut, IsTooLong, IsUnpackRefused, Stands}
use Rattle.capn_pack.specs.WholeGroups.{UnpacksSome}
use Rattle.capn_pack.specs.declared.fault.UnpackFault.{UnpackFault}
use Rattle.capn_pack.specs.declared.fault.UnpackFault.TheVariants as fault
use Rattle.capn_pack.specs.declared.whole_groups.Next.{Next}
use Rattle.capn_pack.specs.declared.whole_groups.Next.TheVariants as nexts
use Rattle.capn_pack.proofs.shared.GroupLaws.{one_reading, refused_only}
use Rattle.capn_pack.proofs.shared.GroupLemmas.{length_contents}
use Rattle.capn_pack.proofs.shared.RefusalLaws.{one_unpack_fault}
use Rattle.capn_abi.specs.declared.report.CapnReport.{CapnReport}
use Rattle.capn_c.specs.Decision.{Agree}
use Rattle.capn_c.specs.UnpackedPieces.{UnpacksInto, next_code, progressed, words_in}

module _ (bs : List ℕ) (max : ℕ) where
  -- The fault of the text for what follows the groups, of which the first `at` bytes consist. The fault `Memory` stands
  -- for the end.
  abbrev fault_of : Next → ℕ → UnpackFault
  fault_of nexts.End at = fault.Memory
  fault_of nexts.Cut at = fault.Cut at
  fault_of nexts.TooLong at = fault.TooLong at

  stands : (P : ℕ → List ℕ → Type 0) (a : List ℕ) (at words : ℕ) (next : Next)
      → (h : UnpacksSome bs max [] a at words next) → P h.left (drop at bs) → Stands P bs max at
  stands P a at words next h is = record {
    groups = h.groups;
    rest = drop at bs;
    each = h.each;
    text = sym (take-append-drop at bs) ∙ ap (λ (x : List ℕ). x ++ drop at bs) h.text;
    offset = sym (length-take-le at bs h.inside) ∙ ap length h.text;
    left = h.left;
    counted = omega (arith, h.counted, h.fits);
    fault = is;
  }

  refused : (a : List ℕ) (at words : ℕ) (next : Next) → UnpacksSome bs max [] a at words next
      → IsUnpackRefused bs max (fault_of next at)
  refused a at words nexts.End h = tt
  refused a at words nexts.Cut h = stands IsCut a at words nexts.Cut h h.stops.0
  refused a at words nexts.TooLong h = stands IsTooLong a at words nexts.TooLong h h.stops

  -- If the text ends after the groups, the groups are the whole text.
  ends : (a : List ℕ) (at words : ℕ) → UnpacksSome bs max [] a at words nexts.End → at ≡ length bs
  ends a at words h = omega (arith, h.inside, length-drop at bs, ap length h.stops)

  whole : (a : List ℕ) (at words : ℕ) → (h : UnpacksSome bs max [] a at words nexts.End) → Packs bs (contents h.groups)
  whole a at words h = record {
    groups = h.groups;
    each = h.each;
    is_text = sym (take-append-drop at bs) ∙ ap (λ (x : List ℕ). take at bs ++ x) h.stops ∙ append-nil (take at bs)
        ∙ h.text;
    are_bytes = refl;
  }

  end_only : (a : List ℕ) (at words : ℕ) (e : UnpackFault) → UnpacksSome bs max [] a at words nexts.End
      → IsUnpackRefused bs max e → e ≡ fault.Memory
  end_only a at words e h w =
      refused_only e bs (contents h.groups) max w (whole a at words h)
      (omega (arith, length_contents h.groups h.each, h.counted, h.fits))

  same_stop : (a b : List ℕ) (at to u v : ℕ) (next other : Next) → UnpacksSome bs max [] a at u next
      → UnpacksSome bs max [] b to v other → (next ≡ other) × (at ≡ to)
  same_stop a b at to u v nexts.End nexts.End h k = (refl, ends a at u h ∙ sym (ends b to v k))
  same_stop a b at to u v nexts.End nexts.Cut h k =
      let e : fault.Cut to ≡ fault.Memory = end_only a at u (fault.Cut to) h (refused b to v nexts.Cut k) in absurd cc
  same_stop a b at to u v nexts.End nexts.TooLong h k =
      let e : fault.TooLong to ≡ fault.Memory = end_only a at u (fault.TooLong to) h (refused b to v nexts.TooLong k) in
      absurd cc
  same_stop a b at to u v nexts.Cut nexts.End h k =
      let e : fault.Cut at ≡ fault.Memory = end_only b to v (fault.Cut at) k (refused a at u nexts.Cut h) in absurd cc
  same_stop a b at to u v nexts.TooLong nexts.End h k =
      let e : fault.TooLong at ≡ fault.Memory = end_only b to v (fault.TooLong at) k (refused a at u nexts.TooLong h) in
      absurd cc
  same_stop a b at to u v nexts.Cut nexts.Cut h k =
      let e : fault.Cut at ≡ fault.Cut to =
      one_unpack_fault bs max (fault.Cut at) (fault.Cut to) (refused a at u nexts.Cut h) (refused b to v nexts.Cut k)
      (λ z. absurd cc) (λ z. absurd cc) in
      (refl, cc)
  same_stop a b at to u v nexts.Cut nexts.TooLong h k =
      let e : fault.Cut at ≡ fault.TooLong to =
      one_unpack_fault bs max (fault.Cut at) (fault.TooLong to) (refused a at u nexts.Cut h)
      (refused b to v nexts.TooLong k) (λ z. absurd cc) (λ z. absurd cc) in
      absurd cc
  same_stop a b at to u v nexts.TooLong nexts.Cut h k =
      let e : fault.TooLong at ≡ fault.Cut to =
      one_unpack_fault bs max (fault.TooLong at) (fault.Cut to) (refused a at u nexts.TooLong h)
      (refused b to v nexts.Cut k) (λ z. absurd cc) (λ z. absurd cc) in
      absurd cc
  same_stop a b at to u v nexts.TooLong nexts.TooLong h k =
      let e : fault.TooLong at ≡ fault.TooLong to =
      one_unpack_fault bs max (fault.TooLong at) (fault.TooLong to) (refused a at u nexts.TooLong h)
      (refused b to v nexts.TooLong k) (λ z. absurd cc) (λ z. absurd cc) in
      (refl, cc)

  same_words : (a b : List ℕ) (at to u v : ℕ) (next other : Next) → at ≡ to → UnpacksSome bs max [] a at u next
      → UnpacksSome bs max [] b to v other → u ≡ v
  same_words a b at to u v next other e h k =
      let same : texts h.groups ≡ texts k.groups = sym h.text ∙ ap (λ (n : ℕ). take n bs) e ∙ k.text in
      let one : Packs (texts h.groups) (contents h.groups) =
      record { groups = h.groups; each = h.each; is_text = refl; are_bytes = refl } in
      let two : Packs (texts h.groups) (contents k.groups) =
      record { groups = k.groups; each = k.each; is_text = same; are_bytes = refl } in
      let bytes = one_reading (texts h.groups) (contents h.groups) (contents k.groups) one two in
      omega (
        arith,
        h.counted,
        k.counted,
        length_contents h.groups h.each,
        length_contents k.groups k.each,
        ap length bytes,
      )

pub pieces_agree : (bs : List ℕ) (n s t : ℕ) (r q : CapnReport) (old mid new : List ℕ) → length old ≡ n
    → length mid ≡ n → (s ≢ 8 → UnpacksInto bs s r old mid) → (t ≢ 8 → UnpacksInto bs t q mid new) → Agree s r t q
pieces_agree bs n s t r q old mid new o m one other ns nt =
    let h = one ns in
    let k = other nt in
    let a : UnpacksSome bs (words_in n) [] h.content r.at h.words h.next =
    subst (λ (x : ℕ). UnpacksSome bs (words_in x) [] h.content r.at h.words h.next) o h.some in
    let b : UnpacksSome bs (words_in n) [] k.content q.at k.words k.next =
    subst (λ (x : ℕ). UnpacksSome bs (words_in x) [] k.content q.at k.words k.next) m k.some in
    let stop = same_stop bs (words_in n) h.content k.content r.at q.at h.words k.words h.next k.next a b in
    let words = same_words bs (words_in n) h.content k.content r.at q.at h.words k.words h.next k.next stop.1 a b in (
      h.status_is ∙ ap next_code stop.0 ∙ sym k.status_is,
      h.told ∙ ap (λ (w : ℕ). progressed (8 * w) r.at) words ∙ ap (λ (x : ℕ). progressed (8 * k.words) x) stop.1
          ∙ sym k.told,
    )
