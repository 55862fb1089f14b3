-- Lemmas for `add` and `double`: a bound on the growth of a set by one digest.
use Rattle.std.proofs.Common.{◌≡◌, ℕ, ◌+◌, ◌*◌, ◌-◌, ◌^◌, ◌<◌, ◌≤◌, ◌/◌, ◌%◌, List, ◌++◌, length, get_or}
use Rattle.std.proofs.Common.{inl, inr, arith, ap, sym, ◌∙◌, subst, refl}
use Rattle.std.proofs.Math.Nat.{mod-lt}
use Rattle.std.proofs.lemmas.Bool.{cases_lt}
use Rattle.std.proofs.Math.ListN.{get_or-map}
use Rattle.std.proofs.lemmas.List.{length-map}
use Rattle.capn_digests.specs.declared.slot.Head.{Head}
use Rattle.capn_digests.specs.Tag.{tag}
use Rattle.capn_digests.specs.Buckets.{no_head}
use Rattle.capn_digests.specs.Digests.{Digests, HasGrown, counts, count_of, taken_for}
use Rattle.capn_digests.proofs.Found.{same_twice}

-- after the number of buckets is doubled, the bucket of the tag `t` has at most as many taken slots as before
pub fewer_twice : (heads new : List Head) → 0 < length heads → length new ≡ length heads + length heads
    → ((i : ℕ) → (get_or new i no_head).count ≤ (get_or (heads ++ heads) i no_head).count)
    → (t : ℕ) → count_of new t ≤ count_of heads t
fewer_twice heads new some long fewer t =
    let n : ℕ = length heads in
    let below : t % n < n = mod-lt t {m = n} some in
    let h = same_twice heads no_head n t refl below in
    subst (λ (m : ℕ). (get_or new (t % m) no_head).count ≤ (get_or heads (t % n) no_head).count) (sym long)
    (subst (λ (x : Head). (get_or new (t % (n + n)) no_head).count ≤ x.count) h.1 (fewer (t % (n + n))))

-- if `s` has the counts of `heads`, both give the same number of taken slots for the bucket of `digest`
pub taken_is : (heads : List Head) (s : Digests) → counts heads ≡ s.taken → (digest : List ℕ)
    → taken_for s digest ≡ count_of heads (tag digest)
taken_is heads s is digest =
    ap (λ (xs : List ℕ). get_or xs (tag digest % length xs) 0) (sym is)
    ∙ (ap (λ (n : ℕ). get_or (counts heads) (tag digest % n) 0) (length-map heads (λ (h : Head). h.count))
    ∙ get_or-map (λ (h : Head). h.count) heads (tag digest % length heads) no_head)

pub grown : (old new : Digests) (digest : List ℕ) (heads more : List Head) (listed room : ℕ) → listed ≡ old.listed
    → room ≡ old.room → counts heads ≡ old.taken → length new.taken ≡ length more → room ≤ new.room
    → (room ≤ listed → listed + (listed / 8 + 16) ≤ new.room) → (listed / 8 < length heads → more ≡ heads)
    → (length heads ≤ listed / 8 → 2 * length heads ≤ length more) → 0 < length more
    → (taken_for old digest < 16 → old.listed < 2 ^ 32 - 1 → new.listed ≡ old.listed + 1) → HasGrown old new digest
grown old new digest heads more listed room l r c long wide eighth still twice some one =
    let had : length old.taken ≡ length heads = sym (ap (λ (xs : List ℕ). length xs) c)
    ∙ length-map heads (λ (h : Head). h.count) in
    record {
      room = subst (λ (n : ℕ). n ≤ new.room) r wide;
      list = λ full. subst (λ (n : ℕ). n + (n / 8 + 16) ≤ new.room) l (eighth (omega arith));
      buckets = elim (cases_lt (listed / 8) (length heads)) [
        | inl few ↦
            let same : length more ≡ length heads = ap (λ (xs : List Head). length xs) (still few) in omega arith
        | inr many ↦ let two : 2 * length heads ≤ length more = twice many in omega arith
      ];
      table = λ many.
          let over : length heads ≤ listed / 8 = subst (λ (n : ℕ). length heads ≤ n / 8) (sym l)
          (subst (λ (n : ℕ). n ≤ old.listed / 8) had many) in
          let two : 2 * length heads ≤ length more = twice over in (omega arith, omega arith);
      listed = one;
    }
