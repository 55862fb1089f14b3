-- The steps that append the own words of an object. (For the cycle `sizes`, `open_links`, `open_rows` and
-- `open_struct`.)
use Rattle.std.proofs.Common.{◌≡◌, ℕ, ◌+◌, ◌*◌, ◌^◌, ◌<◌, ◌≤◌, List, [], ◌∷◌, ◌++◌, length, set, ap, ap₂, sym}
use Rattle.std.proofs.Common.{subst, ◌∙◌, arith, append-nil, length-append}
use Rattle.std.specs.Prelude.{pos}
use Rattle.capn_words.specs.Message.{words_in}
use Rattle.capn_words.proofs.shared.Words.{length-words_in}
use Rattle.capn_words.specs.Pointers.{word_of}
use Rattle.capn_words.specs.declared.pointer.Pointer.TheVariants.{Node}
use Rattle.capn_words.specs.declared.pointer.Width.TheVariants.{Link, Rows}
use Rattle.capn_value.specs.Tree.{Tree, Bodies, no_bodies, body, count_rows}
use Rattle.capn_value.specs.Trim.{kept_words_of_rows, kept_slots_of_rows}
use Rattle.capn_layout.specs.Layout.{size, point, struct_to, list_to}
use Rattle.capn_layout.specs.Ready.{IsBlock, IsOpened}
use Rattle.capn_layout.specs.Sound.{AreWide, Sound}
use Rattle.capn_layout.specs.inner.Source.{IsStruct, AreLinks, AreStructs, IsGrown}
use Rattle.capn_layout.proofs.shared.KeptLengths.{kept_words-le, kept_slots-le}
use Rattle.capn_layout.proofs.writer.Blocks.{struct-block, links-block, rows-block, tag_of_rows, point-struct}
use Rattle.capn_layout.proofs.writer.Blocks.{point-links}
use Rattle.capn_layout.proofs.writer.Blocks.{point-rows}

block-at : (v : Tree) (tag : List ℕ) (a b x y : ℕ) (bs : Bodies) → IsBlock v tag a b bs → x ≡ a → y ≡ b
    → IsBlock v tag x y bs
block-at v tag a b x y bs k ex ey =
    subst (λ (j : ℕ). IsBlock v tag j y bs) (sym ex) (subst (λ (j : ℕ). IsBlock v tag a j bs) (sym ey) k)

opened : (v : Tree) (bs : Bodies) (tag : List ℕ) (from word first a b : ℕ) (p q r : List ℕ) → IsBlock v tag a b bs
    → word ≡ point v from (length p) → q ≡ set p from word ++ tag → IsGrown a b bs q r → first ≡ length p + length tag
    → IsOpened v bs from p r first a b
opened v bs tag from word first a b p q r k ew eq g ef = record {
  tag = tag;
  block = k;
  cells = g.cells;
  over = g.over;
  at = ef;
  grown = g.grown ∙ ap (λ (x : List ℕ). x ++ g.cells) (eq ∙ ap (λ (w : ℕ). set p from w ++ tag) ew);
}

-- ---- a struct

module _ (v : Tree) (bs : Bodies) (h : IsStruct v bs) (sound : Sound v) (a b : ℕ) (ea : a ≡ kept_words_of_rows bs)
    (eb : b ≡ kept_slots_of_rows bs) where
  pub struct-short : (a < 2 ^ 16) × (b < 2 ^ 16)
  struct-short =
      let ws = h.0 in
      let ss = h.1 in
      let s = subst Sound h.2 sound in
      let l = s.0 in
      let m = s.1 in
      let x = kept_words-le ws in
      let y = kept_slots-le ss in
      let c : kept_words_of_rows (body ws ss no_bodies) < 2 ^ 16 = omega arith in
      let d : kept_slots_of_rows (body ws ss no_bodies) < 2 ^ 16 = omega arith in (
        omega (arith, ea, ap kept_words_of_rows h.3, c),
        omega (arith, eb, ap kept_slots_of_rows h.3, d),
      )

  pub struct-block-at : IsBlock v [] a b bs
  struct-block-at = block-at v [] _ _ a b bs (struct-block v bs h sound) ea eb

  pub struct-wide : AreWide a b bs
  struct-wide = (block-at v [] _ _ a b bs (struct-block v bs h sound) ea eb).wide

  pub struct-fits : count_rows bs * (a + b) ≤ size v
  struct-fits = let e = (block-at v [] _ _ a b bs (struct-block v bs h sound) ea eb).size_is in omega arith

  pub struct-opened : (from word : ℕ) (p q r : List ℕ) → word ≡ struct_to from (length p) a b → q ≡ set p from word
      → IsGrown a b bs q r → IsOpened v bs from p r (length p) a b
  struct-opened from word p q r ew eq g =
      opened v bs [] from word (length p) a b p q r (block-at v [] _ _ a b bs (struct-block v bs h sound) ea eb)
      (ew ∙ ap₂ (struct_to from (length p)) ea eb ∙ sym (point-struct v bs from (length p) h))
      (eq ∙ sym (append-nil (set p from word))) g (omega arith)

-- ---- a list of pointers

module _ (n : ℕ) (v : Tree) (bs : Bodies) (h : AreLinks n v bs) (sound : Sound v) where
  pub links-few : n < 2 ^ 29
  links-few = let s = subst Sound h.1 sound in let l = s.0 in let e = h.2 in omega arith

  pub links-wide : AreWide 0 n bs
  links-wide = (links-block n v bs h sound).wide

  pub links-fits : count_rows bs * (0 + n) ≤ size v
  links-fits = let e = (links-block n v bs h sound).size_is in omega arith

  pub links-opened : (from word : ℕ) (p q r : List ℕ) → word ≡ list_to from (length p) Link n → q ≡ set p from word
      → IsGrown 0 n bs q r → IsOpened v bs from p r (length p) 0 n
  links-opened from word p q r ew eq g =
      opened v bs [] from word (length p) 0 n p q r (links-block n v bs h sound)
      (ew ∙ sym (point-links n v bs from (length p) h)) (eq ∙ sym (append-nil (set p from word))) g (omega arith)

-- ---- a list of structs

module _ (n : ℕ) (v : Tree) (bs : Bodies) (h : AreStructs n v bs) (sound : Sound v) (a b : ℕ)
    (ea : a ≡ kept_words_of_rows bs) (eb : b ≡ kept_slots_of_rows bs) where
  pub rows-short : (n < 2 ^ 29) × (a < 2 ^ 16) × (b < 2 ^ 16) × (n * (a + b) < 2 ^ 29)
  rows-short =
      let s = subst Sound h.0 sound in
      let l = s.0 in
      let m = s.1 in
      let o = s.2 in
      let r = s.3 in
      let e = h.1 in
      let k : n * (a + b) ≡ count_rows bs * (kept_words_of_rows bs + kept_slots_of_rows bs) =
      ap₂ ◌*◌ (sym h.1) (ap₂ ◌+◌ ea eb) in
      (omega arith, omega arith, omega arith, omega arith)

  pub rows-block-at : IsBlock v (tag_of_rows bs ∷ []) a b bs
  rows-block-at = block-at v (tag_of_rows bs ∷ []) _ _ a b bs (rows-block n v bs h sound) ea eb

  pub rows-wide : AreWide a b bs
  rows-wide = (block-at v (tag_of_rows bs ∷ []) _ _ a b bs (rows-block n v bs h sound) ea eb).wide

  pub rows-fits : 1 + count_rows bs * (a + b) ≤ size v
  rows-fits =
      let e = (block-at v (tag_of_rows bs ∷ []) _ _ a b bs (rows-block n v bs h sound) ea eb).size_is in
      omega arith

  pub rows-opened : (from word tag first : ℕ) (p q r t : List ℕ) → word ≡ list_to from (length p) Rows (n * (a + b))
      → tag ≡ word_of (Node (pos n) a b) → q ≡ set p from word → r ≡ q ++ tag ∷ [] → IsGrown a b bs r t
      → first ≡ length r → length q ≡ length p → IsOpened v bs from p t first a b
  rows-opened from word tag first p q r t ew et eq er g ef lq =
      let tagged : tag ≡ tag_of_rows bs =
      et ∙ ap (λ (j : ℕ). word_of (Node (pos j) a b)) (sym h.1)
      ∙ ap₂ (λ (x y : ℕ). word_of (Node (pos (count_rows bs)) x y)) ea eb in
      let k : n * (a + b) ≡ n * (kept_words_of_rows bs + kept_slots_of_rows bs) =
      ap (λ (x : ℕ). n * x) (ap₂ ◌+◌ ea eb) in
      opened v bs (tag_of_rows bs ∷ []) from word first a b p r t
      (block-at v (tag_of_rows bs ∷ []) _ _ a b bs (rows-block n v bs h sound) ea eb)
      (ew ∙ ap (list_to from (length p) Rows) k ∙ sym (point-rows n v bs from (length p) h))
      (er ∙ ap₂ (λ (x : List ℕ) (y : ℕ). x ++ y ∷ []) eq tagged) g
      (let l = ap length er ∙ length-append q (tag ∷ []) in omega arith)

pub grown-end : (a b : ℕ) (bs : Bodies) (n m : ℕ) (p q : List ℕ) → IsGrown a b bs (words_in n p) (words_in m q) → n ≤ m
grown-end a b bs n m p q g =
    let l = ap length g.grown ∙ length-append (words_in n p) g.cells in
    let u = length-words_in n p in
    let v = length-words_in m q in
    omega arith
