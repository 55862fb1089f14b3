-- Lemmas for the cycle `show`: the text of a value is made of the texts of the values below it, and levels stay below
-- 2^32.
use Rattle.std.proofs.Common.{◌≡◌, ℕ, ◌+◌, ◌*◌, ◌<◌, ◌≤◌, List, ◌++◌, length, codes, get_or, drop, max, sym, ap}
use Rattle.std.proofs.Common.{ap₂, ◌∙◌, arith, append_assoc}
use Rattle.std.proofs.lemmas.List.{append-nil}
use Rattle.std.proofs.lemmas.Result.{on_ok_weaker}
use Rattle.std.specs.Result.{OnOk}
use Rattle.std.specs.declared.result.Result.{Result}
use Rattle.capn_value.specs.NumberWidth.{NumberWidth}
use Rattle.capn_value.specs.Tree.{numbers, count}
use Rattle.capn_value.specs.TreeOf.{tree_of, trees_of, rows_of}
use Rattle.capn_value.specs.Views.{tree_of-Nil, tree_of-Node, tree_of-Voids, tree_of-Links, tree_of-Rows, tree_of-Cap}
use Rattle.capn_value.specs.Views.{count-trees_of, count_rows-rows_of}
use Rattle.capn_value.specs.Cost.{height, greatest, greatest_in_rows}
use Rattle.capn_value.specs.Text.{line, named, body_line, word_lines, shown, shown_each, shown_rows}
use Rattle.capn_value.specs.declared.value.Value.{Value, Nil, Node, Voids, Links, Rows, Cap}
use Rattle.capn_value.specs.declared.value.Body.{Body}
use Rattle.capn_value.proofs.Anywhere.{drop-next, drop-past}

pub appends : {T E : Type 0} (r : Result T E) (n o x y : List ℕ) → x ≡ y → OnOk r (n ≡ o ++ x) → OnOk r (n ≡ o ++ y)
appends r n o x y e h = on_ok_weaker r (λ (f : n ≡ o ++ x). f ∙ ap (λ z. o ++ z) e) h

pub appends_both : {T E : Type 0} (r : Result T E) (n m o x y z : List ℕ) → m ≡ o ++ x → x ++ y ≡ z
    → OnOk r (n ≡ m ++ y) → OnOk r (n ≡ o ++ z)
appends_both r n m o x y z e f h =
    on_ok_weaker r (λ (g : n ≡ m ++ y). g ∙ ap (λ k. k ++ y) e ∙ append_assoc o x y ∙ ap (λ k. o ++ k) f) h

-- this block is about the text of the value `v`, by the kind of `v`
module _ {A : Type 0} (level : ℕ) (v : Value A) where
  pub nil_shown : v ≡ Nil → line level (codes "null") ≡ shown level (tree_of v)
  nil_shown e = sym (ap (shown level) (ap tree_of e ∙ tree_of-Nil A))

  pub voids_shown : {n : ℕ} → v ≡ Voids n → line level (named (codes "void") n) ≡ shown level (tree_of v)
  voids_shown {n} e = sym (ap (shown level) (ap tree_of e ∙ tree_of-Voids A n))

  pub cap_shown : {k : ℕ} → v ≡ Cap k → line level (named (codes "capability") k) ≡ shown level (tree_of v)
  cap_shown {k} e = sym (ap (shown level) (ap tree_of e ∙ tree_of-Cap A k))

  pub numbers_shown : {a : NumberWidth} {xs s : List ℕ} → tree_of v ≡ numbers a xs → s ≡ xs
      → shown level (numbers a s) ≡ shown level (tree_of v)
  numbers_shown {a} e f = ap (λ ys. shown level (numbers a ys)) f ∙ sym (ap (shown level) e)

  pub node_shown : (b : Body A) → v ≡ Node b →
      body_line level (length b.words) (length b.slots)
      ++ (word_lines (level + 1) b.words ++ shown_each (level + 1) (trees_of b.slots)) ≡ shown level (tree_of v)
  node_shown b e =
      ap (λ k. body_line level (length b.words) k
      ++ (word_lines (level + 1) b.words ++ shown_each (level + 1) (trees_of b.slots))) (sym (count-trees_of b.slots))
      ∙ sym (ap (shown level) (ap tree_of e ∙ tree_of-Node b))

  pub links_shown : {vs s : List (Value A)} → v ≡ Links vs → s ≡ vs →
      line level (named (codes "pointers") (length s)) ++ shown_each (level + 1) (trees_of s) ≡ shown level (tree_of v)
  links_shown {vs} e f =
      ap (λ us. line level (named (codes "pointers") (length us)) ++ shown_each (level + 1) (trees_of us)) f
      ∙ ap (λ k. line level (named (codes "pointers") k) ++ shown_each (level + 1) (trees_of vs))
      (sym (count-trees_of vs))
      ∙ sym (ap (shown level) (ap tree_of e ∙ tree_of-Links vs))

  pub rows_shown : {bs s : List (Body A)} → v ≡ Rows bs → s ≡ bs →
      line level (named (codes "rows") (length s)) ++ shown_rows (level + 1) (rows_of s) ≡ shown level (tree_of v)
  rows_shown {bs} e f =
      ap (λ cs. line level (named (codes "rows") (length cs)) ++ shown_rows (level + 1) (rows_of cs)) f
      ∙ ap (λ k. line level (named (codes "rows") k) ++ shown_rows (level + 1) (rows_of bs))
      (sym (count_rows-rows_of bs))
      ∙ sym (ap (shown level) (ap tree_of e ∙ tree_of-Rows bs))

-- the text of a body is appended in three steps
pub body_shown : {A T E : Type 0} (level : ℕ) (r : Result T E) (n m l o : List ℕ) {ws w : List ℕ}
    {ss s : List (Value A)} {k : ℕ} →
    k ≡ length ws → w ≡ ws → s ≡ ss → l ≡ o ++ body_line level k (length s) → m ≡ l ++ word_lines (level + 1) w →
    OnOk r (n ≡ m ++ shown_each (level + 1) (trees_of s)) →
    OnOk r (n ≡ o
    ++ (body_line level (length ws) (length ss)
    ++ (word_lines (level + 1) ws ++ shown_each (level + 1) (trees_of ss))))
body_shown level r n m l o {ws} {w} {ss} {s} {k} e f g h i =
    let first = body_line level k (length s) in
    let words = word_lines (level + 1) w in
    let slots = shown_each (level + 1) (trees_of s) in
    let whole : first ++ (words ++ slots) ≡ body_line level (length ws) (length ss)
    ++ (word_lines (level + 1) ws ++ shown_each (level + 1) (trees_of ss)) =
    ap (λ j. body_line level j (length s) ++ (words ++ slots)) e
    ∙ ap₂ (λ us vs. body_line level (length ws) (length vs)
    ++ (word_lines (level + 1) us ++ shown_each (level + 1) (trees_of vs))) f g in
    appends_both r n m o (first ++ words) slots _ (i ∙ ap (λ x. x ++ words) h
    ∙ append_assoc o first words) (append_assoc first words slots ∙ whole)

-- this block is about a loop over elements or rows that appends their texts to `o`
module _ {A : Type 0} (level : ℕ) (o : List ℕ) where
  module _ (items : List (Value A)) (i : ℕ) {all : List ℕ}
      (so_far : o ++ shown_each level (trees_of (drop i items)) ≡ all) where
    pub each_shown : (v : Value A) (n : List ℕ) → i < length items → v ≡ get_or items i v
        → n ≡ o ++ shown level (tree_of v) →
        n ++ shown_each level (trees_of (drop (i + 1) items)) ≡ all
    each_shown v n h at e =
        let rest = shown_each level (trees_of (drop (i + 1) items)) in
        ap (λ x. x ++ rest) e ∙ append_assoc o (shown level (tree_of v)) rest
        ∙ sym (ap (λ vs. o ++ shown_each level (trees_of vs)) (drop-next items i v h at)) ∙ so_far

    pub all_shown : i ≡ length items → o ≡ all
    all_shown e = sym (append-nil o) ∙ sym (ap (λ vs. o ++ shown_each level (trees_of vs)) (drop-past items i e))
        ∙ so_far

  module _ (bodies : List (Body A)) (i : ℕ) {all : List ℕ}
      (so_far : o ++ shown_rows level (rows_of (drop i bodies)) ≡ all) where
    pub row_shown : (b : Body A) (n : List ℕ) → i < length bodies → b ≡ get_or bodies i b →
        n ≡ o ++ (body_line level (length b.words) (length b.slots)
        ++ (word_lines (level + 1) b.words ++ shown_each (level + 1) (trees_of b.slots))) →
        n ++ shown_rows level (rows_of (drop (i + 1) bodies)) ≡ all
    row_shown b n h at e =
        let first = body_line level (length b.words) (length b.slots) in
        let words = word_lines (level + 1) b.words in
        let slots = shown_each (level + 1) (trees_of b.slots) in
        let rest = shown_rows level (rows_of (drop (i + 1) bodies)) in
        let counted : first ++ (words ++ (slots ++ rest)) ≡ body_line level (length b.words) (count (trees_of b.slots))
        ++ (words ++ (slots ++ rest)) =
        ap (λ k. body_line level (length b.words) k ++ (words ++ (slots ++ rest))) (sym (count-trees_of b.slots)) in
        ap (λ x. x ++ rest) e ∙ append_assoc o (first ++ (words ++ slots)) rest
        ∙ ap (λ x. o ++ x) (append_assoc first (words ++ slots) rest
        ∙ ap (λ x. first ++ x) (append_assoc words slots rest) ∙ counted)
        ∙ sym (ap (λ bs. o ++ shown_rows level (rows_of bs)) (drop-next bodies i b h at)) ∙ so_far

    pub all_rows_shown : i ≡ length bodies → o ≡ all
    all_rows_shown e = sym (append-nil o) ∙ sym (ap (λ bs. o ++ shown_rows level (rows_of bs)) (drop-past bodies i e))
        ∙ so_far

-- This block shows that the levels of all values below `v` are below `top`. By the assumption `room`, `level` plus
-- twice the height of `v` is below `top`.
module _ {A : Type 0} (level top : ℕ) (v : Value A) (room : level + 2 * height (tree_of v) < top) where
  list_room : height (tree_of v) ≡ 1 → level + 1 < top
  list_room e = omega arith

  pub numbers_room : {a : NumberWidth} {xs : List ℕ} → tree_of v ≡ numbers a xs → level + 1 < top
  numbers_room e = list_room (ap height e)

  pub node_room : (b : Body A) → v ≡ Node b → level + 1 + 2 * greatest (trees_of b.slots) < top
  node_room b e = let known : height (tree_of v) ≡ 1 + greatest (trees_of b.slots) =
      ap height (ap tree_of e ∙ tree_of-Node b) in omega arith

  pub links_room : {vs s : List (Value A)} → v ≡ Links vs → s ≡ vs → level + 1 + 2 * greatest (trees_of s) < top
  links_room {vs} {s} e f =
      let known : height (tree_of v) ≡ 1 + greatest (trees_of s) =
      ap height (ap tree_of e ∙ tree_of-Links vs) ∙ ap (λ us. 1 + greatest (trees_of us)) (sym f) in
      omega arith

  pub rows_room : {bs s : List (Body A)} → v ≡ Rows bs → s ≡ bs → level + 1 + 1 + 2 * greatest_in_rows (rows_of s) < top
  rows_room {bs} {s} e f =
      let known : height (tree_of v) ≡ 1 + greatest_in_rows (rows_of s) =
      ap height (ap tree_of e ∙ tree_of-Rows bs) ∙ ap (λ cs. 1 + greatest_in_rows (rows_of cs)) (sym f) in
      omega arith

lower : (whole part rest all : ℕ) → whole ≡ max part rest → whole ≤ all → (part ≤ all) × (rest ≤ all)
lower whole part rest all e h = (omega arith, omega arith)

-- this block shows that a bound `all` on the heights of the items from index `i` on is a bound for item `i`, and for
-- the items after it
module _ {A : Type 0} {all : ℕ} where
  pub each_low : (items : List (Value A)) (i : ℕ) → greatest (trees_of (drop i items)) ≤ all → (v : Value A)
      → i < length items → v ≡ get_or items i v →
      (height (tree_of v) ≤ all) × (greatest (trees_of (drop (i + 1) items)) ≤ all)
  each_low items i so_far v h at = lower _ _ _ all (ap (λ vs. greatest (trees_of vs)) (drop-next items i v h at)) so_far

  pub row_low : (bodies : List (Body A)) (i : ℕ) → greatest_in_rows (rows_of (drop i bodies)) ≤ all → (b : Body A)
      → i < length bodies → b ≡ get_or bodies i b →
      (greatest (trees_of b.slots) ≤ all) × (greatest_in_rows (rows_of (drop (i + 1) bodies)) ≤ all)
  row_low bodies i so_far b h at =
      lower _ _ _ all (ap (λ bs. greatest_in_rows (rows_of bs)) (drop-next bodies i b h at)) so_far

pub same_room : {A : Type 0} (level top : ℕ) {ss s : List (Value A)} → s ≡ ss → level + 2 * greatest (trees_of ss) < top
    → level + 2 * greatest (trees_of s) < top
same_room level top e h = let same = ap (λ vs. greatest (trees_of vs)) e in omega arith

pub narrower : (level part all top : ℕ) → part ≤ all → level + 2 * all < top → level + 2 * part < top
narrower level part all top h room = omega arith
