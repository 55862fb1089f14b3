-- Lemmas for `first_value`: a text that is read as a tree is the text of that tree.
use Rattle.std.proofs.Common.{◌≡◌, ℕ, zero, suc, ◌+◌, ◌^◌, ◌≤◌, ◌<◌, arith, List, [], ◌∷◌, ◌++◌, length, Option, Some}
use Rattle.std.proofs.Common.{codes, map, refl, sym, ap, ap₂, subst, ◌∙◌}
use Rattle.std.specs.Prelude.{⊤}
use Rattle.hex.specs.Hex.{encode_lower}
use Rattle.std.specs.Int.{from_bool}
use Rattle.capn_value.specs.NumberWidth.{bit, byte, pair, quad, oct}
use Rattle.capn_value.specs.Tree.{Tree, nil, node, voids, numbers, links, rows, cap, Trees}
use Rattle.capn_value.specs.Tree.{count}
use Rattle.capn_value.specs.Tree.{count_rows}
use Rattle.capn_value.specs.TreeOf.{trees, rows_from}
use Rattle.std.specs.List.{AllByRecursion}
use Rattle.capn_value.specs.InRange.{AllBelow}
use Rattle.std.proofs.lemmas.List.{length-map}
use Rattle.capn_value.proofs.shared.Bits.{bits_below, bits_text}
use Rattle.capn_text.specs.Showable.{IsShowable, EachShowable, RowsShowable}
use Rattle.capn_value.specs.Text.{line, body_line, word_lines, number_lines, digits_of, one_line, named, shown}
use Rattle.capn_text.specs.inner.Tokens.{◌>>=◌, byte_at, bit_at, many, word_line_at, number_line_at, row_line_at}
use Rattle.capn_text.specs.inner.Values.{head_at, leaf_at, body_at, row_of, row_at, content_at, low_at, tree_at}
use Rattle.capn_text.specs.inner.Values.{greatest_number, Holds}
use Rattle.capn_text.specs.declared.heads.Leaf.{Leaf}
use Rattle.capn_text.specs.declared.heads.Leaf.TheVariants as leaves
use Rattle.capn_text.specs.declared.heads.Name.{Name}
use Rattle.capn_text.specs.declared.heads.Name.TheVariants as names
use Rattle.capn_text.specs.declared.heads.Head.{Head}
use Rattle.capn_text.specs.declared.heads.Head.TheVariants as heads
use Rattle.capn_text.proofs.Steps.{bind_some, some_is, then, many_takes}
use Rattle.capn_text.proofs.TokenText.{one_byte, byte_takes, encode_none, encode_more}
use Rattle.capn_text.proofs.Numbers.{word_text, word_line_takes, number_text, number_line_takes, one_digit, bit_takes}
use Rattle.capn_text.proofs.Numbers.{row_takes}
use Rattle.capn_text.proofs.HeadText.{head_text, head_takes}
use Rattle.capn_text.proofs.TreeOfText.{count-trees, count-rows, body_text, row_text, each_text, rows_text}
use Rattle.capn_text.proofs.TreeOfText.{rows_text-cons}

-- `t` is the text of the tree `x.0` at `level`, followed by `x.1`. The tree is showable.
abbrev pub Spelled : ℕ → List ℕ → Tree × List ℕ → Type 0
Spelled level t x = (t ≡ shown level x.0 ++ x.1) × IsShowable x.0

abbrev Takes : ℕ → Type 0
Takes room = (level : ℕ) (t : List ℕ) (v : Tree) (rest : List ℕ) → tree_at room level t ≡ Some (v, rest)
    → Spelled level t (v, rest)

numbers_take : (greatest level n : ℕ) (t : List ℕ) (x : List ℕ × List ℕ)
    → many (number_line_at greatest level) n t ≡ Some x
    → (t ≡ number_lines level x.0 ++ x.1) × (length x.0 ≡ n) × AllBelow (suc greatest) x.0
numbers_take greatest level n t x e =
    many_takes (number_line_at greatest level) (number_text level) (number_lines level) (λ k. k < suc greatest) refl
    (λ y ys. refl) (number_line_takes greatest level) n t x.0 x.1 e

list_take : {X : Type 0} (P : X → Type 0) (make : List X → Tree) (texts : List X → List ℕ) (name : Name) (level n : ℕ)
    (t t2 : List ℕ) (r : Option (List X × List ℕ)) (x : Tree × List ℕ)
    → ((xs : List X) → shown level (make xs) ≡ line level (head_text (heads.Named name (length xs))) ++ texts xs)
    → ((y : List X × List ℕ) → r ≡ Some y → (t2 ≡ texts y.0 ++ y.1) × (length y.0 ≡ n) × AllByRecursion P y.0)
    → ((xs : List X) → length xs < 2 ^ 64 → AllByRecursion P xs → IsShowable (make xs)) → n < 2 ^ 64
    → t ≡ line level (head_text (heads.Named name n)) ++ t2
    → (r >>= λ y. Some (make y.0, y.1)) ≡ Some x → Spelled level t x
list_take P make texts name level n t t2 r x shows takes ranged few front e =
    let y = bind_some r (λ y. Some (make y.0, y.1)) x e in
    let m = takes y.0 y.1 in
    let first : line level (head_text (heads.Named name n)) ≡ line level (head_text (heads.Named name (length y.0.0))) =
    ap (λ k. line level (head_text (heads.Named name k))) (sym m.1) in
    let both : t ≡ (line level (head_text (heads.Named name (length y.0.0))) ++ texts y.0.0) ++ y.0.1 =
    then t (line level (head_text (heads.Named name (length y.0.0)))) (texts y.0.0) t2 y.0.1
    (front ∙ ap (λ z. z ++ t2) first) m.0 in
    subst (Spelled level t) (some_is (make y.0.0, y.0.1) x y.2)
    (both ∙ ap (λ z. z ++ y.0.1) (sym (shows y.0.0)), ranged y.0.0 (omega (arith, m.1)) m.2)

leaf_takes : (leaf : Leaf) (level n : ℕ) (t t2 : List ℕ) (x : Tree × List ℕ)
    → n ≤ greatest_number (names.Leaf leaf) → t ≡ line level (head_text (heads.Named (names.Leaf leaf) n)) ++ t2
    → leaf_at level leaf n t2 ≡ Some x → Spelled level t x
unfolding leaf_at
leaf_takes leaves.Voids level n t t2 x few front e =
    subst (Spelled level t) (some_is (voids n, t2) x e) (front, omega arith)
leaf_takes leaves.Bits level n t t2 x few front e =
    list_take (λ _. ⊤) (λ xs. numbers bit (map from_bool xs)) (λ xs. one_line (level + 1) (length xs) (digits_of xs))
    (names.Leaf leaves.Bits) level n t t2 (row_line_at bit_at (level + 1) n t2) x (λ xs. sym (bits_text level xs))
    (λ y. row_takes bit_at one_digit digits_of (λ _. ⊤) refl (λ b bs. refl) (level + 1) bit_takes n t2 y.0 y.1)
    (λ xs few h. (omega (arith, length-map xs from_bool), bits_below xs)) (omega arith) front e
leaf_takes leaves.Bytes level n t t2 x few front e =
    list_take (λ k. k < 2 ^ 8) (numbers byte) (λ xs. one_line (level + 1) (length xs) (encode_lower xs))
    (names.Leaf leaves.Bytes) level n t t2 (row_line_at byte_at (level + 1) n t2) x (λ xs. refl)
    (λ y. row_takes byte_at one_byte encode_lower (λ b. b < 2 ^ 8) encode_none encode_more
    (level + 1) byte_takes n t2 y.0 y.1) (λ xs few h. (few, h)) (omega arith) front e
leaf_takes leaves.Pairs level n t t2 x few front e =
    list_take (λ k. k < 2 ^ 16) (numbers pair) (number_lines (level + 1)) (names.Leaf leaves.Pairs) level n t t2
    (many (number_line_at 65535 (level + 1)) n t2) x (λ xs. refl) (numbers_take 65535 (level + 1) n t2)
    (λ xs few h. (few, h)) (omega arith) front e
leaf_takes leaves.Quads level n t t2 x few front e =
    list_take (λ k. k < 2 ^ 32) (numbers quad) (number_lines (level + 1)) (names.Leaf leaves.Quads) level n t t2
    (many (number_line_at 4294967295 (level + 1)) n t2) x (λ xs. refl) (numbers_take 4294967295 (level + 1) n t2)
    (λ xs few h. (few, h)) (omega arith) front e
leaf_takes leaves.Octs level n t t2 x few front e =
    list_take (λ k. k < 2 ^ 64) (numbers oct) (number_lines (level + 1)) (names.Leaf leaves.Octs) level n t t2
    (many (number_line_at 18446744073709551615 (level + 1)) n t2) x (λ xs. refl)
    (numbers_take 18446744073709551615 (level + 1) n t2) (λ xs few h. (few, h)) (omega arith) front e

each_showable : (us : List Tree) → AllByRecursion IsShowable us → EachShowable (trees us)
each_showable [] all = tt
each_showable (u ∷ us) all = (all.0, each_showable us all.1)

-- The data words `b.0` and the slots `b.1` of a struct are showable.
abbrev BodyShowable : List ℕ × Trees → Type 0
BodyShowable b = (length b.0 < 2 ^ 64) × (count b.1 < 2 ^ 64) × AllBelow (2 ^ 64) b.0 × EachShowable b.1

rows_showable : (bs : List (List ℕ × Trees)) → AllByRecursion BodyShowable bs → RowsShowable (rows_from bs)
rows_showable [] all = tt
rows_showable (b ∷ bs) all = (all.0.0, all.0.1, all.0.2, all.0.3, rows_showable bs all.1)

module _ (room : ℕ) (takes : Takes room) where
  each_takes : (level n : ℕ) (t : List ℕ) (us : List Tree) (rest : List ℕ)
      → many (tree_at room level) n t ≡ Some (us, rest)
      → (t ≡ each_text level us ++ rest) × (length us ≡ n) × EachShowable (trees us)
  each_takes level n t us rest e =
      let m = many_takes (tree_at room level) (shown level) (each_text level) IsShowable refl (λ y ys. refl)
      (takes level) n t us rest e in
      (m.0, m.1, each_showable us m.2)

  abbrev Bodied : ℕ → ℕ → ℕ → List ℕ → (List ℕ × Trees) × List ℕ → Type 0
  Bodied level w s t x = (t ≡ body_text level x.0 ++ x.1) × (length x.0.0 ≡ w) × (count x.0.1 ≡ s) × BodyShowable x.0

  body_takes : (level w s : ℕ) (t : List ℕ) (x : (List ℕ × Trees) × List ℕ) → w < 2 ^ 64 → s < 2 ^ 64
      → body_at (tree_at room) level w s t ≡ Some x → Bodied level w s t x
  unfolding body_at
  body_takes level w s t x few narrow e =
      let a = bind_some (many (word_line_at (level + 1)) w t) (λ xs. many (tree_at room (level + 1)) s xs.1
      >>= λ us. Some ((xs.0, trees us.0), us.1)) x e in
      let b = bind_some (many (tree_at room (level + 1)) s a.0.1) (λ us. Some ((a.0.0, trees us.0), us.1)) x a.2 in
      let m = many_takes (word_line_at (level + 1)) (word_text (level + 1)) (word_lines (level + 1))
      (λ w. w < 2 ^ 64) refl (λ y ys. refl) (word_line_takes (level + 1)) w t a.0.0 a.0.1 a.1 in
      let n = each_takes (level + 1) s a.0.1 b.0.0 b.0.1 b.1 in
      subst (Bodied level w s t) (some_is ((a.0.0, trees b.0.0), b.0.1) x b.2) (
        then t (word_lines (level + 1) a.0.0) (each_text (level + 1) b.0.0) a.0.1 b.0.1 m.0 n.0,
        m.1,
        count-trees b.0.0 ∙ n.1,
        (omega (arith, m.1), omega (arith, count-trees b.0.0, n.1), m.2, n.2),
      )

  after_first_line : (level w s : ℕ) (t t2 : List ℕ) (x : (List ℕ × Trees) × List ℕ)
      → w < 2 ^ 64 → s < 2 ^ 64 → t ≡ line level (head_text (heads.Struct w s)) ++ t2
      → body_at (tree_at room) level w s t2 ≡ Some x
      → (t ≡ row_text level x.0 ++ x.1) × BodyShowable x.0
  after_first_line level w s t t2 x few narrow front e =
      let b = body_takes level w s t2 x few narrow e in
      let first : body_line level w s ≡ body_line level (length x.0.0) (count x.0.1) =
      ap₂ (λ i j. body_line level i j) (sym b.1) (sym b.2) in (
        then t (body_line level (length x.0.0) (count x.0.1)) (body_text level x.0) t2 x.1
            (front ∙ ap (λ z. z ++ t2) first) b.0,
        b.3,
      )

  row_by : (h : Head) (level : ℕ) (t t2 : List ℕ) (b : List ℕ × Trees) (rest : List ℕ)
      → Holds h → t ≡ line level (head_text h) ++ t2 → row_of (tree_at room) level h t2 ≡ Some (b, rest)
      → (t ≡ row_text level b ++ rest) × BodyShowable b
  row_by heads.Null level t t2 b rest holds front e = absurd cc
  row_by (heads.Struct w s) level t t2 b rest holds front e =
      after_first_line level w s t t2 (b, rest) holds.0 holds.1 front e
  row_by (heads.Named name n) level t t2 b rest holds front e = absurd cc

  row_take : (level : ℕ) (t : List ℕ) (b : List ℕ × Trees) (rest : List ℕ)
      → row_at (tree_at room) level t ≡ Some (b, rest) → (t ≡ row_text level b ++ rest) × BodyShowable b
  unfolding row_at
  row_take level t b rest e =
      let h = bind_some (head_at level t) (λ h. row_of (tree_at room) level h.0 h.1) (b, rest) e in
      let p = head_takes level t h.0.0 h.0.1 h.1 in
      row_by h.0.0 level t h.0.1 b rest p.1 p.0 h.2

  content_takes : (h : Head) (level : ℕ) (t t2 : List ℕ) (x : Tree × List ℕ)
      → Holds h → t ≡ line level (head_text h) ++ t2 → content_at (tree_at room) level h t2 ≡ Some x
      → Spelled level t x
  content_takes heads.Null level t t2 x holds front e = subst (Spelled level t) (some_is (nil, t2) x e) (front, tt)
  content_takes (heads.Named names.Cap n) level t t2 x holds front e =
      subst (Spelled level t) (some_is (cap n, t2) x e) (front, omega arith)
  content_takes (heads.Struct w s) level t t2 x holds front e =
      let b = bind_some (body_at (tree_at room) level w s t2) (λ b. Some (node b.0.0 b.0.1, b.1)) x e in
      subst (Spelled level t) (some_is (node b.0.0.0 b.0.0.1, b.0.1) x b.2)
      (after_first_line level w s t t2 b.0 holds.0 holds.1 front b.1)
  content_takes (heads.Named names.Links n) level t t2 x holds front e =
      let b = bind_some (many (tree_at room (level + 1)) n t2) (λ us. Some (links (trees us.0), us.1)) x e in
      let m = each_takes (level + 1) n t2 b.0.0 b.0.1 b.1 in
      let first : line level (named (codes "pointers") n)
      ≡ line level (named (codes "pointers") (count (trees b.0.0))) =
      ap (λ k. line level (named (codes "pointers") k)) (sym (count-trees b.0.0 ∙ m.1)) in
      subst (Spelled level t) (some_is (links (trees b.0.0), b.0.1) x b.2) (
        then t (line level (named (codes "pointers") (count (trees b.0.0)))) (each_text (level + 1) b.0.0) t2 b.0.1
            (front ∙ ap (λ z. z ++ t2) first) m.0,
        (omega (arith, count-trees b.0.0, m.1), m.2),
      )
  content_takes (heads.Named names.Rows n) level t t2 x holds front e =
      let b = bind_some (many (row_at (tree_at room) (level + 1)) n t2)
      (λ cs. Some (rows (rows_from cs.0), cs.1)) x e in
      let m = many_takes (row_at (tree_at room) (level + 1)) (row_text (level + 1))
      (rows_text (level + 1)) BodyShowable refl
      (rows_text-cons (level + 1)) (row_take (level + 1)) n t2 b.0.0 b.0.1 b.1 in
      let first : line level (named (codes "rows") n)
      ≡ line level (named (codes "rows") (count_rows (rows_from b.0.0))) =
      ap (λ k. line level (named (codes "rows") k)) (sym (count-rows b.0.0 ∙ m.1)) in
      subst (Spelled level t) (some_is (rows (rows_from b.0.0), b.0.1) x b.2) (
        then t (line level (named (codes "rows") (count_rows (rows_from b.0.0)))) (rows_text (level + 1) b.0.0) t2 b.0.1
            (front ∙ ap (λ z. z ++ t2) first) m.0,
        (omega (arith, count-rows b.0.0, m.1), rows_showable b.0.0 m.2),
      )
  content_takes (heads.Named (names.Leaf leaf) n) level t t2 x holds front e =
      leaf_takes leaf level n t t2 x holds front e

low_takes : (h : Head) (level : ℕ) (t t2 : List ℕ) (x : Tree × List ℕ) → Holds h
    → t ≡ line level (head_text h) ++ t2 → low_at h t2 ≡ Some x → Spelled level t x
low_takes heads.Null level t t2 x holds front e = subst (Spelled level t) (some_is (nil, t2) x e) (front, tt)
low_takes (heads.Struct w s) level t t2 x holds front e = absurd cc
low_takes (heads.Named names.Links n) level t t2 x holds front e = absurd cc
low_takes (heads.Named names.Rows n) level t t2 x holds front e = absurd cc
low_takes (heads.Named names.Cap n) level t t2 x holds front e =
    subst (Spelled level t) (some_is (cap n, t2) x e) (front, omega arith)
low_takes (heads.Named (names.Leaf leaf) n) level t t2 x holds front e = absurd cc

pub tree_takes : (room : ℕ) → Takes room
unfolding tree_at
tree_takes zero level t v rest e =
    let h = bind_some (head_at level t) (λ h. low_at h.0 h.1) (v, rest) e in
    let p = head_takes level t h.0.0 h.0.1 h.1 in
    low_takes h.0.0 level t h.0.1 (v, rest) p.1 p.0 h.2
tree_takes (suc room) level t v rest e =
    let h = bind_some (head_at level t) (λ h. content_at (tree_at room) level h.0 h.1) (v, rest) e in
    let p = head_takes level t h.0.0 h.0.1 h.1 in
    content_takes room (tree_takes room) h.0.0 level t h.0.1 (v, rest) p.1 p.0 h.2
