-- Lemmas for the cycle `cost`: the capped cost of a value is computed from the capped costs of the values below it.
use Rattle.std.proofs.Common.{◌≡◌, ℕ, ◌+◌, ◌<◌, ◌≤◌, ◌^◌, List, length, get_or, drop, min, refl, sym, ap, ap₂}
use Rattle.std.proofs.Common.{◌∙◌, arith}
use Rattle.std.proofs.Math.Path.{subst}
use Rattle.std.specs.Int.{div_ceil}
use Rattle.capn_value.specs.NumberWidth.{NumberWidth, bits_in, per_word}
use Rattle.capn_value.specs.Tree.{Tree, numbers, voids, count, row_words}
use Rattle.capn_value.specs.TreeOf.{tree_of, trees_of, rows_of}
use Rattle.capn_value.specs.Views.{tree_of-Node, tree_of-Voids, tree_of-Links, tree_of-Rows, count-trees_of}
use Rattle.capn_value.specs.Cost.{cost, costs, costs_in_rows, rows_price}
use Rattle.capn_value.specs.InRange.{AllBelow, InRange, EachInRange, RowsInRange}
use Rattle.capn_value.specs.declared.value.Value.{Value, Node, Voids, Links, Rows}
use Rattle.capn_value.specs.declared.value.Body.{Body}
use Rattle.capn_value.proofs.Anywhere.{drop-next, drop-past}

pub div_ceil-one : (n : ℕ) → n ≡ div_ceil n 1
div_ceil-one n = omega arith

part_capped : (a b cap y r : ℕ) → y ≡ min b cap → r ≡ min (a + y) cap → r ≡ min (a + b) cap
part_capped a b cap y r e f = omega arith

parts_capped : (a b cap x y r : ℕ) → x ≡ min a cap → y ≡ min b cap → r ≡ min (x + y) cap → r ≡ min (a + b) cap
parts_capped a b cap x y r e f g = omega arith

regrouped : (a b c d : ℕ) → (a + (b + c)) + d ≡ a + b + c + d
regrouped a b c d = omega arith

-- this block is about the capped cost `r` of the value `v`, by the kind of `v`
module _ {A : Type 0} (base cap : ℕ) (v : Value A) {r : ℕ} where
  priced : (t : Tree) {k n : ℕ} → tree_of v ≡ t → cost base t ≡ base + n → k ≡ n → r ≡ min (base + k) cap
      → r ≡ min (cost base (tree_of v)) cap
  priced t e f g h = h ∙ ap (λ m. min (base + m) cap) g
      ∙ sym (ap (λ u. min (cost base u) cap) e ∙ ap (λ m. min m cap) f)

  pub voids_cost : {n : ℕ} → v ≡ Voids n → r ≡ min (base + n) cap → r ≡ min (cost base (tree_of v)) cap
  voids_cost {n} e h = priced (voids n) (ap tree_of e ∙ tree_of-Voids A n) refl refl h

  pub numbers_cost : {a : NumberWidth} {xs : List ℕ} {n k : ℕ} → tree_of v ≡ numbers a xs → n ≡ length xs
      → k ≡ div_ceil n (per_word a) → r ≡ min (base + k) cap → r ≡ min (cost base (tree_of v)) cap
  numbers_cost {a} {xs} e f g h = priced (numbers a xs) e refl (g ∙ ap (λ m. div_ceil m (per_word a)) f) h

  pub node_costs : {b : Body A} {w : List ℕ} {s : List (Value A)} {k p o below : ℕ} → v ≡ Node b → w ≡ b.words
      → s ≡ b.slots → k ≡ length w →
      p ≡ min (k + length s) cap → o ≡ min (base + p) cap → below ≡ min (costs base (trees_of s)) cap
      → r ≡ min (o + below) cap →
      r ≡ min (cost base (tree_of v)) cap
  node_costs {b} {w} {s} {k} {p} {o} {below} e f g h i j l m =
      let size : p ≡ min (length b.words + count (trees_of b.slots)) cap =
      i ∙ ap₂ (λ x y. min (x + y) cap) (h ∙ ap length f) (ap length g ∙ sym (count-trees_of b.slots)) in
      let own = part_capped base (length b.words + count (trees_of b.slots)) cap p o size j in
      let rest : below ≡ min (costs base (trees_of b.slots)) cap = l
      ∙ ap (λ vs. min (costs base (trees_of vs)) cap) g in
      parts_capped (base + (length b.words + count (trees_of b.slots))) (costs base (trees_of b.slots)) cap o below r
      own rest m
      ∙ ap (λ x. min x cap) (regrouped base (length b.words) (count (trees_of b.slots)) (costs base (trees_of b.slots)))
      ∙ sym (ap (λ u. min (cost base u) cap) (ap tree_of e ∙ tree_of-Node b))

  pub links_cost : {vs s : List (Value A)} {o below : ℕ} → v ≡ Links vs → s ≡ vs → o ≡ min (base + length s) cap →
      below ≡ min (costs base (trees_of s)) cap → r ≡ min (o + below) cap → r ≡ min (cost base (tree_of v)) cap
  links_cost {vs} {s} {o} {below} e f g h i =
      let own : o ≡ min (base + count (trees_of vs)) cap = g
      ∙ ap (λ n. min (base + n) cap) (ap length f ∙ sym (count-trees_of vs)) in
      let rest : below ≡ min (costs base (trees_of vs)) cap = h ∙ ap (λ us. min (costs base (trees_of us)) cap) f in
      parts_capped (base + count (trees_of vs)) (costs base (trees_of vs)) cap o below r own rest i
      ∙ sym (ap (λ u. min (cost base u) cap) (ap tree_of e ∙ tree_of-Links vs))

  pub rows_cost : {bs s : List (Body A)} {q price o below : ℕ} → v ≡ Rows bs → s ≡ bs → q ≡ min (base + 1) cap →
      price ≡ min (rows_price (rows_of s)) cap → o ≡ min (q + price) cap
      → below ≡ min (costs_in_rows base (rows_of s)) cap →
      r ≡ min (o + below) cap → r ≡ min (cost base (tree_of v)) cap
  rows_cost {bs} {s} {q} {price} {o} {below} e f g h i j l =
      let each : price ≡ min (rows_price (rows_of bs)) cap = h ∙ ap (λ cs. min (rows_price (rows_of cs)) cap) f in
      let rest : below ≡ min (costs_in_rows base (rows_of bs)) cap = j
      ∙ ap (λ cs. min (costs_in_rows base (rows_of cs)) cap) f in
      let own = parts_capped (base + 1) (rows_price (rows_of bs)) cap q price o g each i in
      parts_capped (base + 1 + rows_price (rows_of bs)) (costs_in_rows base (rows_of bs)) cap o below r own rest l
      ∙ sym (ap (λ u. min (cost base u) cap) (ap tree_of e ∙ tree_of-Rows bs))

-- this block shows that a value `v` is in range if its numbers and the values below it are in range
module _ {A : Type 0} (v : Value A) where
  pub numbers_ranged : {a : NumberWidth} {xs s : List ℕ} → tree_of v ≡ numbers a xs → s ≡ xs
      → AllBelow (2 ^ bits_in a) s → InRange (tree_of v)
  numbers_ranged {a} e f h = subst InRange (sym e) (subst (AllBelow (2 ^ bits_in a)) f h)

  pub node_ranged : {b : Body A} {w : List ℕ} {s : List (Value A)} → v ≡ Node b → w ≡ b.words → s ≡ b.slots
      → AllBelow (2 ^ 64) w →
      EachInRange (trees_of s) → InRange (tree_of v)
  node_ranged {b} e f g h i =
      subst InRange (sym (ap tree_of e ∙ tree_of-Node b)) (
        subst (AllBelow (2 ^ 64)) f h,
        subst (λ vs. EachInRange (trees_of vs)) g i,
      )

  pub links_ranged : {vs s : List (Value A)} → v ≡ Links vs → s ≡ vs → EachInRange (trees_of s) → InRange (tree_of v)
  links_ranged {vs} e f h =
      subst InRange (sym (ap tree_of e ∙ tree_of-Links vs)) (subst (λ us. EachInRange (trees_of us)) f h)

  pub rows_ranged : {bs s : List (Body A)} → v ≡ Rows bs → s ≡ bs → RowsInRange (rows_of s) → InRange (tree_of v)
  rows_ranged {bs} e f h =
      subst InRange (sym (ap tree_of e ∙ tree_of-Rows bs)) (subst (λ cs. RowsInRange (rows_of cs)) f h)

-- after the loop has added one more `part`, the capped sum of `n` and `rest` is still `all`
added : (sum n part k whole rest cap all : ℕ) → min (sum + whole) cap ≡ all → whole ≡ part + rest → k ≡ min part cap
    → n ≡ min (sum + k) cap → min (n + rest) cap ≡ all
added sum n part k whole rest cap all so_far e f g = omega arith

pub still_capped : (x n cap : ℕ) → n ≡ min x cap → n ≤ cap
still_capped x n cap e = omega arith

all_added : (sum rest cap all : ℕ) → sum ≤ cap → rest ≡ 0 → min (sum + rest) cap ≡ all → sum ≡ all
all_added sum rest cap all h e so_far = omega arith

module _ {A : Type 0} where
  module _ (base cap sum all : ℕ) where
    module _ (items : List (Value A)) (i : ℕ) (so_far : min (sum + costs base (trees_of (drop i items))) cap ≡ all)
      where
        pub each_cost : (v : Value A) {k n : ℕ} → i < length items → v ≡ get_or items i v
            → k ≡ min (cost base (tree_of v)) cap → n ≡ min (sum + k) cap →
            min (n + costs base (trees_of (drop (i + 1) items))) cap ≡ all
        each_cost v {k} {n} h at e f =
            added sum n (cost base (tree_of v)) k _ (costs base (trees_of (drop (i + 1) items))) cap all so_far
            (ap (λ vs. costs base (trees_of vs)) (drop-next items i v h at)) e f

        pub all_cost : sum ≤ cap → i ≡ length items → sum ≡ all
        all_cost h e = all_added sum _ cap all h (ap (λ vs. costs base (trees_of vs)) (drop-past items i e)) so_far

    module _ (bodies : List (Body A)) (i : ℕ)
        (so_far : min (sum + costs_in_rows base (rows_of (drop i bodies))) cap ≡ all) where
      pub row_cost : (b : Body A) {s : List (Value A)} {k n : ℕ} → i < length bodies → b ≡ get_or bodies i b
          → s ≡ b.slots →
          k ≡ min (costs base (trees_of s)) cap → n ≡ min (sum + k) cap
          → min (n + costs_in_rows base (rows_of (drop (i + 1) bodies))) cap ≡ all
      row_cost b {s} {k} {n} h at same e f =
          added sum n (costs base (trees_of b.slots)) k _ (costs_in_rows base (rows_of (drop (i + 1) bodies))) cap all
          so_far
          (ap (λ bs. costs_in_rows base (rows_of bs)) (drop-next bodies i b h at)) (e
          ∙ ap (λ vs. min (costs base (trees_of vs)) cap) same) f

      pub all_rows_cost : sum ≤ cap → i ≡ length bodies → sum ≡ all
      all_rows_cost h e =
          all_added sum _ cap all h (ap (λ bs. costs_in_rows base (rows_of bs)) (drop-past bodies i e)) so_far

  module _ (cap sum all : ℕ) (bodies : List (Body A)) (i : ℕ)
      (so_far : min (sum + row_words (rows_of (drop i bodies))) cap ≡ all) where
    pub row_sized : (b : Body A) {w : List ℕ} {s : List (Value A)} {k p n : ℕ} → i < length bodies
        → b ≡ get_or bodies i b → w ≡ b.words → s ≡ b.slots →
        k ≡ length w → p ≡ min (k + length s) cap → n ≡ min (sum + p) cap
        → min (n + row_words (rows_of (drop (i + 1) bodies))) cap ≡ all
    row_sized b {w} {s} {k} {p} {n} h at f g e j l =
        let size : p ≡ min (length b.words + count (trees_of b.slots)) cap =
        j ∙ ap₂ (λ x y. min (x + y) cap) (e ∙ ap length f) (ap length g ∙ sym (count-trees_of b.slots)) in
        added sum n (length b.words + count (trees_of b.slots)) p _ (row_words (rows_of (drop (i + 1) bodies))) cap all
        so_far (ap (λ bs. row_words (rows_of bs)) (drop-next bodies i b h at)) size l

    pub all_sized : sum ≤ cap → i ≡ length bodies → sum ≡ all
    all_sized h e = all_added sum _ cap all h (ap (λ bs. row_words (rows_of bs)) (drop-past bodies i e)) so_far

  module _ {All : Type 0} where
    module _ (items : List (Value A)) (i : ℕ) (so_far : EachInRange (trees_of (drop i items)) → All) where
      pub each_ranged : (v : Value A) → i < length items → v ≡ get_or items i v → InRange (tree_of v)
          → EachInRange (trees_of (drop (i + 1) items)) → All
      each_ranged v h at here rest =
          so_far (subst (λ vs. EachInRange (trees_of vs)) (sym (drop-next items i v h at)) (here, rest))

      pub all_ranged : i ≡ length items → All
      all_ranged e = so_far (subst (λ vs. EachInRange (trees_of vs)) (sym (drop-past items i e)) tt)

    module _ (bodies : List (Body A)) (i : ℕ) (so_far : RowsInRange (rows_of (drop i bodies)) → All) where
      pub row_ranged : (b : Body A) {w : List ℕ} {s : List (Value A)} → i < length bodies → b ≡ get_or bodies i b
          → w ≡ b.words → s ≡ b.slots →
          AllBelow (2 ^ 64) w → EachInRange (trees_of s) → RowsInRange (rows_of (drop (i + 1) bodies)) → All
      row_ranged b h at f g here below rest =
          so_far (subst (λ bs. RowsInRange (rows_of bs)) (sym (drop-next bodies i b h at))
          (subst (AllBelow (2 ^ 64)) f here, subst (λ vs. EachInRange (trees_of vs)) g below, rest))

      pub all_rows_ranged : i ≡ length bodies → All
      all_rows_ranged e = so_far (subst (λ bs. RowsInRange (rows_of bs)) (sym (drop-past bodies i e)) tt)
