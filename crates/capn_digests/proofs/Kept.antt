-- Lemmas for `kept` and `double`: a slot is put into a bucket, and a bucket keeps only the slots that belong to it.
use Rattle.std.proofs.Common.{◌≡◌, ℕ, ◌+◌, ◌<◌, ◌≢◌, List, length, get_or, set, ◌%◌, ◌++◌, take, drop, arith, ap, sym}
use Rattle.std.proofs.Common.{◌∙◌, subst, below_more}
use Rattle.std.specs.Prelude.{slice_range}
use Rattle.std.proofs.Math.Seq.{take-append_seam}
use Rattle.std.proofs.lemmas.Grind.{common_steps}
use Rattle.std.proofs.lemmas.List.{get_or-set_same, get_or-set_other, length-set}
use Rattle.capn_digests.specs.declared.slot.Slot.{Slot}
use Rattle.capn_digests.specs.declared.slot.Head.{Head}
use Rattle.capn_digests.specs.Buckets.{IsMarked, IsHeld, no_slot}

-- the count of taken slots in `new` is one more than in `old`, and `new` has all marks of `old`
pub record IsOneMore (old new : Head) : Type 0 where
  pub count : new.count ≡ old.count + 1
  pub kept : (t : ℕ) → IsMarked old t → IsMarked new t

module _ (old new : Head) (bucket : List Slot) (slot : Slot) (more : IsOneMore old new) where
  -- after `slot` is put into the bucket, the bucket still holds each slot `s` that it held before
  pub held_still : (s : Slot) → IsHeld old bucket s → IsHeld new (set bucket old.count slot) s
  held_still s h =
      let taken : h.place < old.count = h.taken in
      let other : h.place ≢ old.count = omega arith in
      let one : new.count ≡ old.count + 1 = more.count in
      record {
        place = h.place;
        taken = omega arith;
        within = subst (λ (n : ℕ). h.place < n) (sym (length-set bucket old.count slot)) h.within;
        is = get_or-set_other bucket old.count h.place slot no_slot other ∙ h.is;
        marked = more.kept s.tag h.marked;
      }

  pub held_one : old.count < length bucket → IsMarked new slot.tag → IsHeld new (set bucket old.count slot) slot
  held_one within marked =
      let one : new.count ≡ old.count + 1 = more.count in
      record {
        place = old.count;
        taken = omega arith;
        within = subst (λ (n : ℕ). old.count < n) (sym (length-set bucket old.count slot)) within;
        is = get_or-set_same bucket old.count slot no_slot within;
        marked = marked;
      }

-- if slot `k` of `bucket` is taken and its tag belongs to bucket `at`, the new bucket `kept` holds this slot
abbrev pub IsKept : Head → List Slot → ℕ → ℕ → Head → List Slot → ℕ → Type 0
IsKept head bucket buckets at new kept k =
    k < head.count → (get_or bucket k no_slot).tag % buckets ≡ at → IsHeld new kept (get_or bucket k no_slot)

module _ (head : Head) (bucket : List Slot) (buckets at j : ℕ) (new : Head) (kept : List Slot)
    (held : (k : ℕ) → k < j → IsKept head bucket buckets at new kept k) where
  -- after slot `j` is put into the new bucket, `IsKept` holds of the slots up to and including `j`
  pub kept_one : (more : Head) → IsOneMore new more → new.count < length kept
      → IsMarked more (get_or bucket j no_slot).tag → (k : ℕ) → k < j + 1
      → IsKept head bucket buckets at more (set kept new.count (get_or bucket j no_slot)) k
  kept_one more one within marked =
      below_more (λ (k : ℕ). IsKept head bucket buckets at more (set kept new.count (get_or bucket j no_slot)) k) j
      (λ k below taken own. held_still new more kept (get_or bucket j no_slot) one (get_or bucket k no_slot)
      (held k below taken own)) (λ taken own. held_one new more kept (get_or bucket j no_slot) one within marked)

  -- if slot `j` is not taken or does not belong to the new bucket `kept`, the unchanged `kept` satisfies `IsKept` for
  -- the slots up to and including `j`
  pub kept_none : (j < head.count → (get_or bucket j no_slot).tag % buckets ≡ at → ⊥) → (k : ℕ) → k < j + 1
      → IsKept head bucket buckets at new kept k
  kept_none not =
      below_more (λ (k : ℕ). IsKept head bucket buckets at new kept k) j held (λ taken own. absurd (not taken own))

pub written : {X : Type 0} (xs ys : List X) (n : ℕ) → n ≡ length ys → length xs ≡ length ys
    → take n (xs ++ drop (length xs) ys) ≡ xs
written xs ys n whole same =
    ap (λ (m : ℕ). take m (xs ++ drop (length xs) ys)) (whole ∙ sym same)
    ∙ take-append_seam xs (drop (length xs) ys)

pub all_of : {X : Type 0} (xs : List X) (n : ℕ) → n ≡ length xs → slice_range xs 0 n ≡ xs
all_of xs n e = ap (λ (m : ℕ). slice_range xs 0 m) e ∙ grind (arith, common_steps)
