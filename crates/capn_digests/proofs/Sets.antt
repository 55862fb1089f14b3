-- Lemmas for `add`, `contains`, `insert` and `new`: the digests of a list and a tree, seen as one set.
use Rattle.std.proofs.Common.{◌≡◌, ℕ, ◌+◌, ◌<◌, List, [], ◌∷◌, ◌++◌, Bool, true, false, cond, not, ◌||◌}
use Rattle.std.proofs.Common.{length, get_or, suc, inl, inr, arith, ap, sym, ◌∙◌, refl, length-append}
use Rattle.std.specs.List.{list_any}
use Rattle.std.specs.FinSet as set
use Rattle.std.specs.FinMap.{slice_cmp-IsAntisymmetric, nat_cmp-IsAntisymmetric}
use Rattle.std.specs.Ordering.{nat_cmp, eq_by_cmp}
use Rattle.std.specs.BTreeSet.{insert_key}
use Rattle.std.specs.Ordering.{match_ordering}
use Rattle.std.specs.declared.cmp.Ordering.{Ordering}
use Rattle.std.specs.declared.cmp.Ordering.TheVariants.{Less, Equal, Greater}
use Rattle.std.specs.Cmp.Lexicographic.{slice_cmp}
use Rattle.std.specs.Ordering.{is_eq}
use Rattle.std.specs.Cmp.{Equal-is}
use Rattle.std.proofs.lemmas.Bool.{or_cases, cases_Bool, true≢false}
use Rattle.std.proofs.lemmas.Cmp.{nat_list_cmp_total, tied_itself}
use Rattle.std.proofs.lemmas.List.Folds.{list_any-append, list_any_at}
use Rattle.std.specs.List.{All}
use Rattle.std.proofs.Common.{subst}
use Rattle.std.proofs.lemmas.List.Elements.{All-nil}
use Rattle.capn_digests.specs.declared.slot.Slot.{Slot}
use Rattle.capn_digests.specs.declared.slot.Head.{Head}
use Rattle.capn_digests.specs.Tag.{tag}
use Rattle.capn_digests.specs.Buckets.{digests_of, IsIndexed, IsFound, IsOverflowed}

-- true if the digest `q` is among the digests `ds`
abbrev pub has : List (List ℕ) → List ℕ → Bool
has ds q = list_any (eq_by_cmp (slice_cmp nat_cmp) q) ds

-- the set of `list` and `rest` has `q` exactly if `list` or `rest` has `q`
pub contains_parts : (list rest : List (List ℕ)) (q : List ℕ)
    → set.contains (digests_of list rest) q ≡ (has list q || has rest q)
contains_parts list rest q =
    set.contains-from_list nat_list_cmp_total (list ++ rest) q
    ∙ list_any-append (eq_by_cmp (slice_cmp nat_cmp) q) list rest

-- `IsIndexed` holds if the list, the heads, the table and the tree are empty
pub indexed_none : (list : List (List ℕ)) (heads : List Head) (table : List (List Slot)) (rest : List (List ℕ))
    → list ≡ [] → heads ≡ [] → table ≡ [] → rest ≡ [] → IsIndexed list heads table rest
indexed_none list heads table rest a b c d =
    record {
      found = record {
        buckets = 0;
        headed = ap length b;
        tabled = ap length c;
        listed = λ i below. let none : length list ≡ 0 = ap length a in absurd (omega arith);
        others = subst (λ (ds : List (List ℕ)). All (λ (e : List ℕ). IsOverflowed 0 heads (tag e)) ds) (sym d)
            (All-nil (λ (e : List ℕ). IsOverflowed 0 heads (tag e)));
      };
      counted =
          let none : length list ≡ 0 = ap length a in
          let bare : length rest ≡ 0 = ap length d in
          let both : list ++ rest ≡ [] = ap (λ (ds : List (List ℕ)). ds ++ rest) a ∙ d in
          ap (λ (ds : List (List ℕ)). set.len (set.from_list {R = slice_cmp nat_cmp} ds)) both
          ∙ (set.len-empty (slice_cmp nat_cmp)
          ∙ omega arith);
    }

or_swap : (a b c : Bool) → (a || (b || c)) ≡ (b || (a || c))
or_swap true true c = refl
or_swap true false c = refl
or_swap false b c = refl

or_again : (a b c : Bool) → a ≡ b → (b || c) ≡ (a || (b || c))
or_again true true c e = refl
or_again false b c e = refl
or_again true false c e = absurd (cc)

-- digests `a` and `b` that compare as equal are equal
pub same_digest : (a b : List ℕ) → slice_cmp nat_cmp a b ≡ Equal → a ≡ b
same_digest = slice_cmp-IsAntisymmetric nat_cmp-IsAntisymmetric

-- after `k` is inserted, the keys have `q` exactly if `q` compares as equal to `k` or was among the keys before
pub has-insert_key : (q k : List ℕ) (ks : List (List ℕ))
    → has (insert_key (slice_cmp nat_cmp) ks k) q ≡ (eq_by_cmp (slice_cmp nat_cmp) q k || has ks q)
has-insert_key q k [] = refl
has-insert_key q k (x ∷ xs) =
    elim (slice_cmp nat_cmp k x) as (λ (r : Ordering). slice_cmp nat_cmp k x ≡ r
    → has (match_ordering r (k ∷ x ∷ xs) (x ∷ xs) (x ∷ insert_key (slice_cmp nat_cmp) xs k)) q
    ≡ (eq_by_cmp (slice_cmp nat_cmp) q k || (eq_by_cmp (slice_cmp nat_cmp) q x || has xs q))) [
      | Less ↦ λ e. refl
      | Equal ↦ λ e. or_again (eq_by_cmp (slice_cmp nat_cmp) q k) (eq_by_cmp (slice_cmp nat_cmp) q x) (has xs q)
          (ap (eq_by_cmp (slice_cmp nat_cmp) q) (same_digest k x e))
      | Greater ↦ λ e. ap (λ (b : Bool). eq_by_cmp (slice_cmp nat_cmp) q x || b) (has-insert_key q k xs)
          ∙ or_swap (eq_by_cmp (slice_cmp nat_cmp) q x) (eq_by_cmp (slice_cmp nat_cmp) q k) (has xs q)
    ] refl

pub has_at : (ds : List (List ℕ)) (i : ℕ) (q : List ℕ) → i < length ds → get_or ds i [] ≡ q → has ds q ≡ true
has_at ds i q below is =
    list_any_at (eq_by_cmp (slice_cmp nat_cmp) q) ds i [] below
    (ap (eq_by_cmp (slice_cmp nat_cmp) q) is ∙ ap is_eq (tied_itself nat_list_cmp_total q))

again : (a b : Bool) → (b ≡ true → a ≡ true) → a ≡ (b || a)
again a true h = h refl
again a false h = refl

to_front : (a b c : Bool) → ((a || (b || false)) || c) ≡ (b || (a || c))
to_front true true c = refl
to_front true false c = refl
to_front false true c = refl
to_front false false c = refl

later : (x : List ℕ) (xs : List (List ℕ)) (q : List ℕ) → (i : ℕ) × (i < length xs) × (get_or xs i [] ≡ q)
    → (i : ℕ) × (i < length (x ∷ xs)) × (get_or (x ∷ xs) i [] ≡ q)
later x xs q (i, below, is) = (suc i, omega arith, is)

-- if `q` is among `ds`, `ds` has `q` at some index
pub stands : (ds : List (List ℕ)) (q : List ℕ) → has ds q ≡ true → (i : ℕ) × (i < length ds) × (get_or ds i [] ≡ q)
stands [] q e = absurd (true≢false (sym e))
stands (x ∷ xs) q e =
    elim (or_cases (eq_by_cmp (slice_cmp nat_cmp) q x) (has xs q) e) [
      | inl here ↦ (0, omega arith, sym (same_digest q x ((Equal-is (slice_cmp nat_cmp q x)).0 here)))
      | inr there ↦ later x xs q (stands xs q there)
    ]

-- if `ds` has `q` at no index, `q` is not among `ds`
pub has_not : (ds : List (List ℕ)) (q : List ℕ) → ((i : ℕ) → i < length ds → get_or ds i [] ≡ q → ⊥) → has ds q ≡ false
has_not ds q none =
    elim (cases_Bool (has ds q)) [
      | inl e ↦ let at = stands ds q e in absurd (none at.0 at.1 at.2)
      | inr e ↦ e
    ]

module _ (list rest : List (List ℕ)) (q : List ℕ) where
  -- `q` is not in the set if neither the list nor the tree has `q` at any index
  pub absent : ((i : ℕ) → i < length list → get_or list i [] ≡ q → ⊥)
      → ((i : ℕ) → i < length rest → get_or rest i [] ≡ q → ⊥) → set.contains (digests_of list rest) q ≡ false
  absent none other =
      contains_parts list rest q ∙ (ap (λ (b : Bool). b || has rest q) (has_not list q none) ∙ has_not rest q other)

  -- `q` is in the set if the list has `q` at index `at`
  pub present : (at : ℕ) × (at < length list) × (get_or list at [] ≡ q) → set.contains (digests_of list rest) q ≡ true
  present (at, below, is) =
      contains_parts list rest q ∙ ap (λ (b : Bool). b || has rest q) (has_at list at q below is)

  -- if the list does not have `q`, `q` is in the set exactly if it is in the tree
  pub asked : ((i : ℕ) → i < length list → get_or list i [] ≡ q → ⊥)
      → set.contains (digests_of list rest) q ≡ has rest q
  asked none = contains_parts list rest q ∙ ap (λ (b : Bool). b || has rest q) (has_not list q none)

-- pushing `d` to the list inserts `d` into the set
pub listed_set : (list rest : List (List ℕ)) (d : List ℕ)
    → digests_of (list ++ d ∷ []) rest ≡ set.insert (digests_of list rest) d
listed_set list rest d =
    set.same_set nat_list_cmp_total same_digest (digests_of (list ++ d ∷ []) rest) (set.insert (digests_of list rest) d)
    (λ q. contains_parts (list ++ d ∷ []) rest q
    ∙ (ap (λ (b : Bool). b || has rest q) (list_any-append (eq_by_cmp (slice_cmp nat_cmp) q) list (d ∷ []))
    ∙ (to_front (has list q) (eq_by_cmp (slice_cmp nat_cmp) q d) (has rest q)
    ∙ sym (set.contains-insert nat_list_cmp_total (digests_of list rest) d q
    ∙ ap (λ (b : Bool). eq_by_cmp (slice_cmp nat_cmp) q d || b) (contains_parts list rest q)))))

-- inserting `d` into the tree inserts `d` into the set
pub other_set : (list rest : List (List ℕ)) (d : List ℕ)
    → digests_of list (insert_key (slice_cmp nat_cmp) rest d) ≡ set.insert (digests_of list rest) d
other_set list rest d =
    set.same_set nat_list_cmp_total same_digest (digests_of list (insert_key (slice_cmp nat_cmp) rest d))
    (set.insert (digests_of list rest) d)
    (λ q. contains_parts list (insert_key (slice_cmp nat_cmp) rest d) q
    ∙ (ap (λ (b : Bool). has list q || b) (has-insert_key q d rest)
    ∙ (or_swap (has list q) (eq_by_cmp (slice_cmp nat_cmp) q d) (has rest q)
    ∙ sym (set.contains-insert nat_list_cmp_total (digests_of list rest) d q
    ∙ ap (λ (b : Bool). eq_by_cmp (slice_cmp nat_cmp) q d || b) (contains_parts list rest q)))))

-- inserting `d`, which the set `s` lacks, makes the set larger by one
pub len_more : (s : set.FinSet (slice_cmp nat_cmp)) (d : List ℕ) → set.contains s d ≡ false
    → set.len (set.insert s d) ≡ set.len s + 1
len_more s d e =
    set.len-insert nat_list_cmp_total s d ∙ ap (λ (b : Bool). cond b (set.len s) (set.len s + 1)) e

module _ (list : List (List ℕ)) (heads : List Head) (table : List (List Slot)) (rest : List (List ℕ)) (d : List ℕ)
    (indexed : IsIndexed list heads table rest) (lacks : set.contains (digests_of list rest) d ≡ false) where
  -- if the set lacks `d`, `IsIndexed` holds after `d` is pushed to the list
  pub indexed_listed : (new_heads : List Head) (new_table : List (List Slot))
      → IsFound (list ++ d ∷ []) new_heads new_table rest → IsIndexed (list ++ d ∷ []) new_heads new_table rest
  indexed_listed new_heads new_table found =
      let more : length (list ++ d ∷ []) ≡ length list + 1 = length-append list (d ∷ []) in
      let sum : set.len (digests_of list rest) ≡ length list + length rest = indexed.counted in
      record {
        found = found;
        counted = ap (λ (s : set.FinSet (slice_cmp nat_cmp)). set.len s) (listed_set list rest d)
            ∙ (len_more (digests_of list rest) d lacks ∙ omega arith);
      }

  -- if the set lacks `d`, `IsIndexed` holds after `d` is inserted into the tree
  pub indexed_other : (new_heads : List Head) (new_table : List (List Slot)) (keys : List (List ℕ))
      → keys ≡ insert_key (slice_cmp nat_cmp) rest d → length keys ≡ length rest + 1
      → IsFound list new_heads new_table (insert_key (slice_cmp nat_cmp) rest d)
      → IsIndexed list new_heads new_table keys
  indexed_other new_heads new_table keys is more found =
      let sum : set.len (digests_of list rest) ≡ length list + length rest = indexed.counted in
      record {
        found = subst (λ (ks : List (List ℕ)). IsFound list new_heads new_table ks) (sym is) found;
        counted = ap (λ (ks : List (List ℕ)). set.len (digests_of list ks)) is
            ∙ (ap (λ (s : set.FinSet (slice_cmp nat_cmp)). set.len s) (other_set list rest d)
            ∙ (len_more (digests_of list rest) d lacks ∙ omega arith));
      }

-- inserting `d`, which the set `s` has, does not change the set
pub inserted_again : (s : set.FinSet (slice_cmp nat_cmp)) (d : List ℕ) → set.contains s d ≡ true → s ≡ set.insert s d
inserted_again s d e =
    set.same_set nat_list_cmp_total same_digest s (set.insert s d)
    (λ q. again (set.contains s q) (eq_by_cmp (slice_cmp nat_cmp) q d)
    (λ same. ap (set.contains s) (same_digest q d ((Equal-is (slice_cmp nat_cmp q d)).0 same)) ∙ e)
    ∙ sym (set.contains-insert nat_list_cmp_total s d q))

or_right : (a b : Bool) → (a || b) ≡ false → b ≡ false
or_right true b e = absurd (true≢false e)
or_right false b e = e

-- inserting `d`, which the set lacks, makes the tree longer by one
pub one_more : (list rest : List (List ℕ)) (d : List ℕ) → set.contains (digests_of list rest) d ≡ false → (added : Bool)
    → added ≡ not (has rest d) → (n : ℕ) → n ≡ length rest + cond added 1 0 → n ≡ length rest + 1
one_more list rest d lacks added is n e =
    e ∙ ap (λ (b : Bool). length rest + cond b 1 0)
    (is ∙ ap (λ (b : Bool). not b) (or_right (has list d) (has rest d) (sym (contains_parts list rest d) ∙ lacks)))
