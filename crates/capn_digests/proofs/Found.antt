-- Lemmas for `add`, `contains` and `double`: after each change the table still finds every digest.
use Rattle.std.proofs.Common.{◌≡◌, ℕ, ◌+◌, ◌-◌, ◌*◌, ◌/◌, ◌%◌, ◌<◌, ◌≤◌, ◌≢◌, inl, inr, ◌⊎◌, List, [], ◌∷◌, ◌++◌}
use Rattle.std.proofs.Common.{length, get_or, set, true, false, nat_eq, arith, ap, sym, ◌∙◌, subst, refl, length-append}
use Rattle.std.specs.BTreeSet.{insert_key}
use Rattle.std.specs.Ordering.{nat_cmp}
use Rattle.std.specs.Cmp.Lexicographic.{slice_cmp}
use Rattle.std.proofs.Math.Nat.{mod-lt}
use Rattle.std.proofs.Math.Seq.{get_or-append_seam}
use Rattle.std.proofs.lemmas.Bool.{cases_eq, cases_lt, false≢true}
use Rattle.std.proofs.lemmas.Map.Views.{exact_unsigned_eq}
use Rattle.std.proofs.lemmas.Nat.{mod-mul-add, div-add-mod'}
use Rattle.std.proofs.lemmas.List.{get_or_append_left, get_or-append_right, get_or-set_same, get_or-set_other}
use Rattle.std.proofs.lemmas.List.{length-set, get_or_default}
use Rattle.std.proofs.lemmas.List.Elements.{All-weaker}
use Rattle.std.proofs.lemmas.Map.Views.{All-insert_key}
use Rattle.capn_digests.specs.declared.slot.Slot.{Slot}
use Rattle.capn_digests.specs.declared.slot.Head.{Head}
use Rattle.capn_digests.proofs.Kept.{IsOneMore, held_still, held_one}
use Rattle.capn_digests.specs.Tag.{tag}
use Rattle.capn_digests.specs.Buckets.{IsMarked, IsHeld, IsHeldAt, IsOverflowed, IsFound}
use Rattle.capn_digests.specs.Buckets.{slot_of, no_slot, no_head}

-- only the bucket `at` changes: it keeps each slot whose tag belongs to it, and stays overflowed if it was overflowed
pub record IsChangedAt (at : ℕ) (heads : List Head) (table : List (List Slot)) (new_heads : List Head)
    (new_table : List (List Slot)) : Type 0 where
  pub headed : length new_heads ≡ length heads
  pub tabled : length new_table ≡ length table
  pub same_head : (j : ℕ) → j ≢ at → get_or new_heads j no_head ≡ get_or heads j no_head
  pub same_bucket : (j : ℕ) → j ≢ at → get_or new_table j [] ≡ get_or table j []
  pub held : (s : Slot) → s.tag % length heads ≡ at → IsHeld (get_or heads at no_head) (get_or table at []) s
      → IsHeld (get_or new_heads at no_head) (get_or new_table at []) s
  pub overflowed : (get_or heads at no_head).overflowed ≡ true → (get_or new_heads at no_head).overflowed ≡ true

module _ (at : ℕ) (heads : List Head) (table : List (List Slot)) (new_heads : List Head)
    (new_table : List (List Slot)) (change : IsChangedAt at heads table new_heads new_table) where
  held_at : (n : ℕ) → length heads ≡ n → (s : Slot) → IsHeldAt n heads table s → IsHeldAt n new_heads new_table s
  held_at n same s (below, held) =
      elim (cases_eq (s.tag % n) at) [
        | inl here ↦ (
          below,
          subst (λ (k : ℕ). IsHeld (get_or new_heads k no_head) (get_or new_table k []) s) (sym here)
              (change.held s (ap (λ (m : ℕ). s.tag % m) same ∙ here)
              (subst (λ (k : ℕ). IsHeld (get_or heads k no_head) (get_or table k []) s) here held)),
        )
        | inr other ↦ (
          below,
          subst (λ (h : Head). IsHeld h (get_or new_table (s.tag % n) []) s)
              (sym (change.same_head (s.tag % n) other))
              (subst (λ (b : List Slot). IsHeld (get_or heads (s.tag % n) no_head) b s)
              (sym (change.same_bucket (s.tag % n) other)) held),
        )
      ]

  overflowed_at : (n t : ℕ) → IsOverflowed n heads t → IsOverflowed n new_heads t
  overflowed_at n t (below, is) =
      elim (cases_eq (t % n) at) [
        | inl here ↦ (
          below,
          subst (λ (k : ℕ). (get_or new_heads k no_head).overflowed ≡ true) (sym here)
              (change.overflowed (subst (λ (k : ℕ). (get_or heads k no_head).overflowed ≡ true) here is)),
        )
        | inr other ↦ (below, ap (λ (h : Head). h.overflowed) (change.same_head (t % n) other) ∙ is)
      ]

  -- if `IsFound` holds before the change, it holds after the change
  pub found_still : (list rest : List (List ℕ)) → IsFound list heads table rest → IsFound list new_heads new_table rest
  found_still list rest f =
      record {
        buckets = f.buckets;
        headed = change.headed ∙ f.headed;
        tabled = change.tabled ∙ f.tabled;
        listed = λ i below. held_at f.buckets f.headed (slot_of (get_or list i []) i) (f.listed i below);
        others = All-weaker (λ (d : List ℕ). IsOverflowed f.buckets heads (tag d))
            (λ (d : List ℕ). IsOverflowed f.buckets new_heads (tag d))
            (λ d. overflowed_at f.buckets (tag d)) rest f.others;
      }

-- if the bucket of `d` holds the slot with the new index, `IsFound` still holds after `d` is pushed to `list`
pub found_more : (list : List (List ℕ)) (heads : List Head) (table : List (List Slot)) (rest : List (List ℕ))
    (d : List ℕ) → IsFound list heads table rest → IsHeldAt (length heads) heads table (slot_of d (length list))
    → IsFound (list ++ d ∷ []) heads table rest
found_more list heads table rest d f held =
    record {
      buckets = f.buckets;
      headed = f.headed;
      tabled = f.tabled;
      listed = λ i below. elim (cases_eq i (length list)) [
        | inl last ↦
            subst (λ (k : ℕ). IsHeldAt f.buckets heads table (slot_of (get_or (list ++ d ∷ []) k []) k)) (sym last)
            (subst (λ (e : List ℕ). IsHeldAt f.buckets heads table (slot_of e (length list)))
            (sym (get_or-append_seam list d [] []))
            (subst (λ (n : ℕ). IsHeldAt n heads table (slot_of d (length list))) f.headed held))
        | inr other ↦
            let more : length (list ++ d ∷ []) ≡ length list + 1 = length-append list (d ∷ []) in
            let inside : i < length list = omega arith in
            subst (λ (e : List ℕ). IsHeldAt f.buckets heads table (slot_of e i))
            (sym (get_or_append_left list (d ∷ []) [] i inside)) (f.listed i inside)
      ];
      others = f.others;
    }

-- if the bucket of `d` has overflowed, `IsFound` still holds after `d` is put into the tree
pub found_other : (list : List (List ℕ)) (heads : List Head) (table : List (List Slot)) (rest : List (List ℕ))
    (d : List ℕ) → IsFound list heads table rest → IsOverflowed (length heads) heads (tag d)
    → IsFound list heads table (insert_key (slice_cmp nat_cmp) rest d)
found_other list heads table rest d f over =
    record {
      buckets = f.buckets;
      headed = f.headed;
      tabled = f.tabled;
      listed = f.listed;
      others = All-insert_key (slice_cmp nat_cmp) d (λ (e : List ℕ). IsOverflowed f.buckets heads (tag e)) rest f.others
          (subst (λ (n : ℕ). IsOverflowed n heads (tag d)) f.headed over);
    }

module _ (at : ℕ) (heads : List Head) (table : List (List Slot)) (head : Head) (inside : at < length heads)
    (overflowed : (get_or heads at no_head).overflowed ≡ true → head.overflowed ≡ true) where
  over : (get_or heads at no_head).overflowed ≡ true → (get_or (set heads at head) at no_head).overflowed ≡ true
  over e = ap (λ (h : Head). h.overflowed) (get_or-set_same heads at head no_head inside) ∙ overflowed e

  pub changed_both : (bucket : List Slot) → length table ≡ length heads → ((s : Slot) → s.tag % length heads ≡ at
      → IsHeld (get_or heads at no_head) (get_or table at []) s → IsHeld head bucket s)
      → IsChangedAt at heads table (set heads at head) (set table at bucket)
  changed_both bucket even held =
      record {
        headed = length-set heads at head;
        tabled = length-set table at bucket;
        same_head = λ j other. get_or-set_other heads at j head no_head other;
        same_bucket = λ j other. get_or-set_other table at j bucket [] other;
        held = λ s own h. subst (λ (n : Head). IsHeld n (get_or (set table at bucket) at []) s)
            (sym (get_or-set_same heads at head no_head inside)) (subst (λ (b : List Slot). IsHeld head b s)
            (sym (get_or-set_same table at bucket [] (subst (λ (n : ℕ). at < n) (sym even) inside))) (held s own h));
        overflowed = over;
      }

  pub changed_head : ((s : Slot) → IsHeld (get_or heads at no_head) (get_or table at []) s
      → IsHeld head (get_or table at []) s) → IsChangedAt at heads table (set heads at head) table
  changed_head held =
      record {
        headed = length-set heads at head;
        tabled = refl;
        same_head = λ j other. get_or-set_other heads at j head no_head other;
        same_bucket = λ j other. refl;
        held = λ s own h. subst (λ (n : Head). IsHeld n (get_or table at []) s)
            (sym (get_or-set_same heads at head no_head inside)) (held s h);
        overflowed = over;
      }

-- if the `n` buckets are doubled, the bucket of the tag `t` is the old bucket, or its copy in the second half
twice : (n t : ℕ) → 0 < n → t % (n + n) < n + n → ((t % (n + n) < n) × (t % n ≡ t % (n + n)))
    ⊎ ((n ≤ t % (n + n)) × (t % n ≡ t % (n + n) - n))
twice n t some below =
    let q = t / (n + n) in
    let h = t % (n + n) in
    let whole : q * (n + n) + h ≡ t = div-add-mod' t (n + n) in
    elim (cases_lt h n) [
      | inl low ↦
          let e : (q + q) * n + h ≡ t = omega arith in
          inl (low, sym (ap (λ (m : ℕ). m % n) e) ∙ mod-mul-add (q + q) n h low)
      | inr high ↦
          let r : h - n < n = omega arith in
          let e : (q + q + 1) * n + (h - n) ≡ t = omega arith in
          inr (high, sym (ap (λ (m : ℕ). m % n) e) ∙ mod-mul-add (q + q + 1) n (h - n) r)
    ]

module _ (list : List (List ℕ)) (heads : List Head) (table : List (List Slot)) (rest : List (List ℕ))
    (q : List ℕ) (f : IsFound list heads table rest) where
  -- if the list has `q` at index `i`, the bucket of `q` holds the slot of `q` with index `i`
  pub held_of : (i : ℕ) → i < length list → get_or list i [] ≡ q → IsHeldAt (length heads) heads table (slot_of q i)
  held_of i below is =
      subst (λ (n : ℕ). IsHeldAt n heads table (slot_of q i)) (sym f.headed)
      (subst (λ (d : List ℕ). IsHeldAt f.buckets heads table (slot_of d i)) is (f.listed i below))

  -- if the tree has `q`, the bucket of `q` has overflowed
  pub over_of : (i : ℕ) → i < length rest → get_or rest i [] ≡ q → IsOverflowed (length heads) heads (tag q)
  over_of i below is =
      subst (λ (n : ℕ). IsOverflowed n heads (tag q)) (sym f.headed)
      (subst (λ (d : List ℕ). IsOverflowed f.buckets heads (tag d)) is (f.others i [] below))

  -- if there are no buckets, the list does not have `q`
  pub none_listed : length heads ≡ 0 → (i : ℕ) → i < length list → get_or list i [] ≡ q → ⊥
  none_listed none i below is =
      let less : tag q % length heads < length heads = (held_of i below is).0 in
      omega arith

  pub none_other : length heads ≡ 0 → (i : ℕ) → i < length rest → get_or rest i [] ≡ q → ⊥
  none_other none i below is =
      let less : tag q % length heads < length heads = (over_of i below is).0 in
      omega arith

  -- if the head of the bucket of `q` lacks a mark of the tag of `q`, the list does not have `q`
  pub unmarked_listed : (head : Head) → head ≡ get_or heads (tag q % length heads) no_head
      → (IsMarked head (tag q) → ⊥) → (i : ℕ) → i < length list → get_or list i [] ≡ q → ⊥
  unmarked_listed head same not i below is =
      not (subst (λ (h : Head). IsMarked h (tag q)) (sym same) (held_of i below is).1.marked)

  -- if the bucket of `q` has not overflowed, the tree does not have `q`
  pub unmarked_other : (head : Head) → head ≡ get_or heads (tag q % length heads) no_head
      → (head.overflowed ≡ true → ⊥) → (i : ℕ) → i < length rest → get_or rest i [] ≡ q → ⊥
  unmarked_other head same not i below is = not (ap (λ (h : Head). h.overflowed) same ∙ (over_of i below is).1)

  -- if no slot of the bucket of `q` has both the tag of `q` and an index at which the list has `q`, the list does not
  -- have `q`
  pub unled : (bucket : List Slot) → bucket ≡ get_or table (tag q % length heads) []
      → ((k : ℕ) → k < length bucket → (get_or bucket k no_slot).tag ≡ tag q
      → (get_or bucket k no_slot).at < length list → get_or list ((get_or bucket k no_slot).at) [] ≡ q → ⊥)
      → (i : ℕ) → i < length list → get_or list i [] ≡ q → ⊥
  unled bucket same none i below is =
      let h = subst (λ (b : List Slot). IsHeld (get_or heads (tag q % length heads) no_head) b (slot_of q i)) (sym same)
      (held_of i below is).1 in
      let e : get_or bucket h.place no_slot ≡ slot_of q i = h.is in
      none h.place h.within (ap (λ (s : Slot). s.tag) e)
      (subst (λ (n : ℕ). n < length list) (sym (ap (λ (s : Slot). s.at) e)) below)
      (ap (λ (s : Slot). get_or list s.at []) e ∙ is)

-- if `xs` of length `n` is appended to itself, the item at index `t % (n + n)` is the item of `xs` at index `t % n`
pub same_twice : {X : Type 0} (xs : List X) (d : X) (n t : ℕ) → length xs ≡ n → t % n < n
    → (t % (n + n) < n + n) × (get_or (xs ++ xs) (t % (n + n)) d ≡ get_or xs (t % n) d)
same_twice xs d n t same below =
    let less : t % (n + n) < n + n = mod-lt t {m = n + n} (omega arith) in
    elim (twice n t (omega arith) less) [
      | inl (low, is) ↦
          let inside : t % (n + n) < length xs = omega arith in
          (less, get_or_append_left xs xs d (t % (n + n)) inside ∙ ap (λ (k : ℕ). get_or xs k d) (sym is))
      | inr (high, is) ↦
          (less, get_or-append_right xs xs n (t % (n + n)) d same high ∙ ap (λ (k : ℕ). get_or xs k d) (sym is))
    ]

twice_held : (heads : List Head) (table : List (List Slot)) (n : ℕ) → length heads ≡ n → length table ≡ n
    → (s : Slot) → IsHeldAt n heads table s → IsHeldAt (n + n) (heads ++ heads) (table ++ table) s
twice_held heads table n a b s (below, held) =
    let h = same_twice heads no_head n s.tag a below in
    let t = same_twice table [] n s.tag b below in (
      h.0,
      subst (λ (x : Head). IsHeld x (get_or (table ++ table) (s.tag % (n + n)) []) s) (sym h.1)
          (subst (λ (x : List Slot). IsHeld (get_or heads (s.tag % n) no_head) x s) (sym t.1) held),
    )

twice_over : (heads : List Head) (n : ℕ) → length heads ≡ n → (t : ℕ) → IsOverflowed n heads t
    → IsOverflowed (n + n) (heads ++ heads) t
twice_over heads n a t (below, is) =
    let h = same_twice heads no_head n t a below in (h.0, ap (λ (x : Head). x.overflowed) h.1 ∙ is)

-- if `heads` and `table` are appended to themselves, `IsFound` still holds
pub found_twice : (list : List (List ℕ)) (heads : List Head) (table : List (List Slot)) (rest : List (List ℕ))
    → IsFound list heads table rest → IsFound list (heads ++ heads) (table ++ table) rest
found_twice list heads table rest f =
    record {
      buckets = f.buckets + f.buckets;
      headed = length-append heads heads ∙ (ap (λ (n : ℕ). n + length heads) f.headed
          ∙ ap (λ (n : ℕ). f.buckets + n) f.headed);
      tabled = length-append table table ∙ (ap (λ (n : ℕ). n + length table) f.tabled
          ∙ ap (λ (n : ℕ). f.buckets + n) f.tabled);
      listed = λ i below. twice_held heads table f.buckets f.headed f.tabled (slot_of (get_or list i []) i)
          (f.listed i below);
      others = λ i d below. twice_over heads f.buckets f.headed (tag (get_or rest i d)) (f.others i d below);
    }

-- `bucket` still holds the slot `s` after `head` is marked as overflowed
flagged : (head : Head) (bucket : List Slot) (s : Slot) → IsHeld head bucket s → IsHeld (record {
  marks = head.marks;
  more = head.more;
  count = head.count;
  overflowed = true;
}) bucket s
flagged head bucket s h =
    record { place = h.place; taken = h.taken; within = h.within; is = h.is; marked = h.marked }

module _ (list : List (List ℕ)) (heads : List Head) (table : List (List Slot)) (rest : List (List ℕ)) (d : List ℕ)
    (f : IsFound list heads table rest) (t n : ℕ) (tagged : t ≡ tag d) (count : n ≡ length heads) (some : 0 < n)
    (head : Head) (first : head ≡ get_or heads (t % n) head) where
  inside : t % n < length heads
  inside =
      let less : t % n < n = mod-lt t {m = n} some in
      omega arith

  own_head : head ≡ get_or heads (t % n) no_head
  own_head = first ∙ get_or_default heads (t % n) head no_head inside

  even : length table ≡ length heads
  even = f.tabled ∙ sym f.headed

  -- after `d` is pushed to the list, and its slot is put into its bucket, `IsFound` still holds
  pub found_added : (new : Head) → IsOneMore head new → IsMarked new t → new.overflowed ≡ head.overflowed
      → (bucket : List Slot) → bucket ≡ get_or table (t % n) bucket → head.count < length bucket → (at : ℕ)
      → at ≡ length list → IsFound (list ++ d ∷ []) (set heads (t % n) new)
      (set table (t % n) (set bucket head.count (record { tag = t; at = at }))) rest
  found_added new one marked same bucket its within at last =
      let slot : Slot = record { tag = t; at = at } in
      let new_bucket : List Slot = set bucket head.count slot in
      let below : t % n < length table = subst (λ (m : ℕ). t % n < m) (sym even) inside in
      let own_bucket : bucket ≡ get_or table (t % n) [] = its ∙ get_or_default table (t % n) bucket [] below in
      let change : IsChangedAt (t % n) heads table (set heads (t % n) new) (set table (t % n) new_bucket) =
      changed_both (t % n) heads table new inside
      (λ over. same ∙ (ap (λ (h : Head). h.overflowed) own_head ∙ over)) new_bucket even
      (λ s own h. held_still head new bucket slot one s
      (subst (λ (x : Head). IsHeld x bucket s) (sym own_head)
      (subst (λ (b : List Slot). IsHeld (get_or heads (t % n) no_head) b s) (sym own_bucket) h))) in
      let held : IsHeld (get_or (set heads (t % n) new) (t % n) no_head)
      (get_or (set table (t % n) new_bucket) (t % n) [])
      slot =
      subst (λ (x : Head). IsHeld x (get_or (set table (t % n) new_bucket) (t % n) []) slot)
      (sym (get_or-set_same heads (t % n) new no_head inside))
      (subst (λ (b : List Slot). IsHeld new b slot) (sym (get_or-set_same table (t % n) new_bucket [] below))
      (held_one head new bucket slot one within marked)) in
      let at_home : IsHeldAt n (set heads (t % n) new) (set table (t % n) new_bucket) slot =
      (mod-lt t {m = n} some, held) in
      found_more list (set heads (t % n) new) (set table (t % n) new_bucket) rest d
      (found_still (t % n) heads table (set heads (t % n) new) (set table (t % n) new_bucket) change list rest f)
      (subst (λ (m : ℕ). IsHeldAt m (set heads (t % n) new) (set table (t % n) new_bucket) (slot_of d (length list)))
      (count ∙ sym (length-set heads (t % n) new))
      (subst (λ (x : ℕ). IsHeldAt n (set heads (t % n) new) (set table (t % n) new_bucket)
      (record { tag = x; at = length list })) tagged
      (subst (λ (x : ℕ). IsHeldAt n (set heads (t % n) new) (set table (t % n) new_bucket) (record { tag = t; at = x }))
      last at_home)))

  -- after `d` is put into the tree, and its bucket is marked as overflowed, `IsFound` still holds
  pub found_in_tree : IsFound list (set heads (t % n) (record {
    marks = head.marks;
    more = head.more;
    count = head.count;
    overflowed = true;
  })) table (insert_key (slice_cmp nat_cmp) rest d)
  found_in_tree =
      let new : Head = record { marks = head.marks; more = head.more; count = head.count; overflowed = true } in
      let change : IsChangedAt (t % n) heads table (set heads (t % n) new) table =
      changed_head (t % n) heads table new inside (λ over. refl)
      (λ s h. flagged head (get_or table (t % n) []) s
      (subst (λ (x : Head). IsHeld x (get_or table (t % n) []) s) (sym own_head) h)) in
      let over : IsOverflowed n (set heads (t % n) new) t = (
        mod-lt t {m = n} some,
        ap (λ (h : Head). h.overflowed) (get_or-set_same heads (t % n) new no_head inside),
      ) in
      found_other list (set heads (t % n) new) table rest d
      (found_still (t % n) heads table (set heads (t % n) new) table change list rest f)
      (subst (λ (m : ℕ). IsOverflowed m (set heads (t % n) new) (tag d)) (count ∙ sym (length-set heads (t % n) new))
      (subst (λ (x : ℕ). IsOverflowed n (set heads (t % n) new) x) tagged over))

pub zero_of : (n : ℕ) → true ≡ nat_eq n 0 → n ≡ 0
zero_of n e = exact_unsigned_eq n 0 (sym e)

pub some_of : (n : ℕ) → false ≡ nat_eq n 0 → 0 < n
some_of n e =
    elim (cases_eq n 0) [
      | inl zero ↦ absurd (false≢true (e ∙ ap (λ (m : ℕ). nat_eq m 0) zero))
      | inr other ↦ omega arith
    ]

pub read_at_home : {X : Type 0} (xs : List X) (d : X) (q : List ℕ) (heads t n : ℕ) (x : X) → t ≡ tag q → n ≡ heads
    → 0 < n → length xs ≡ heads → x ≡ get_or xs (t % n) x → x ≡ get_or xs (tag q % heads) d
read_at_home xs d q heads t n x tagged count some long is =
    let less : t % n < n = mod-lt t {m = n} some in
    let below : t % n < length xs = omega arith in
    is ∙ (get_or_default xs (t % n) x d below ∙ (ap (λ (k : ℕ). get_or xs (k % n) d) tagged
    ∙ ap (λ (m : ℕ). get_or xs (tag q % m) d) count))
