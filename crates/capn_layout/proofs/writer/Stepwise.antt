-- The steps by which slots and rows are laid out, one after the other. (For the cycle `objects` and `lay_root`.)
use Rattle.std.proofs.Common.{◌≡◌, ℕ, zero, suc, ◌+◌, ◌-◌, ◌*◌, ◌<◌, ◌≤◌, List, [], ◌∷◌, ◌++◌, length, set, refl, ap}
use Rattle.std.proofs.Common.{sym, subst, ◌∙◌, arith, append-nil}
use Rattle.std.proofs.lemmas.List.{length-set}
use Rattle.capn_words.specs.Pointers.{word_of}
use Rattle.capn_words.specs.declared.pointer.Pointer.TheVariants.{Cap}
use Rattle.capn_value.specs.Tree.{Tree, nil, cap, Trees, tree_at, count, Bodies, no_bodies, body, count_rows}
use Rattle.capn_layout.specs.Layout.{size, sizes, sizes_in_rows, point, lay, words}
use Rattle.capn_layout.specs.LayoutSteps.{laid, laid_slots, laid_rows, past, rows_past, slots_at}
use Rattle.capn_layout.specs.Ready.{IsReadyIn, AreReady, IsLaid, AreLaid, RowsReady}
use Rattle.capn_layout.specs.Sound.{AreWide, SoundRows}
use Rattle.capn_layout.proofs.writer.Laid.{laid-is, length-laid, slots-none, slots-next, rows-none, rows-next}
use Rattle.capn_layout.proofs.writer.Laid.{past-next, sound-at, height-at, row-at, length-slots}

-- In this block slot `i` is laid out after the slots before it.
module _ {S : Type 0} (has : S → ℕ → Tree → Type 0) (source : S) (n depth i : ℕ) (lt : i < n) where
  module _ (len : ℕ) {most : ℕ} (r : AreReady has source i n depth len most) where
    pub next-sizes : sizes (past i r.values) ≡ size (tree_at r.values i) + sizes (past (suc i) r.values)
    next-sizes = ap sizes (past-next i r.values (let c = r.count in omega arith))

    pub next-ready : IsReadyIn has source i depth len most
    next-ready = record {
      value = tree_at r.values i;
      is = r.are i lt;
      sound = sound-at i r.values (let c = r.count in omega arith) r.sound;
      low = let h = height-at i r.values in let l = r.low in omega arith;
      room = let e = next-sizes in let m = r.room in omega arith;
    }

  module _ (first : ℕ) (p q : List ℕ) {most : ℕ} (r : AreReady has source i n depth (length p) most)
      (h : IsLaid has source i (first + i) p q) where
    pub grown : length q ≡ length p + size (tree_at r.values i)
    grown =
        let t = tree_at r.values i in
        let l = length-laid t (set p (first + i) (point t (first + i) (length p)))
        (sound-at i r.values (let d = r.count in omega arith) r.sound) in
        let k = length-set p (first + i) (point t (first + i) (length p)) in
        ap length (h t (r.are i lt)) ∙ omega arith

    pub then-ready : AreReady has source (i + 1) n depth (length q) most
    then-ready = record {
      values = r.values;
      are = r.are;
      count = r.count;
      sound = r.sound;
      low = r.low;
      room =
          let z : i + 1 ≡ suc i = omega arith in
          let e = next-sizes (length p) r in
          let g = grown in
          let m = r.room in
          subst (λ (j : ℕ). length q + sizes (past j r.values) ≤ most) (sym z) (omega arith);
    }

    pub then-rest : (ts : Trees) → n ≤ count ts → ((k : ℕ) → k < n → has source k (tree_at ts k))
        → laid_slots (n - (i + 1)) (past (i + 1) ts) (first + (i + 1)) q
        ≡ laid_slots (n - i) (past i ts) (first + i) p
    then-rest ts c are =
        let t = tree_at ts i in
        let a : n - i ≡ suc (n - (i + 1)) = omega arith in
        let z : i + 1 ≡ suc i = omega arith in
        let e : first + (i + 1) ≡ suc (first + i) = omega arith in
        ap (λ (x : List ℕ). laid_slots (n - (i + 1)) (past (i + 1) ts) (first + (i + 1)) x) (h t (are i lt))
        ∙ ap (λ (j : ℕ). laid_slots (n - (i + 1)) (past (i + 1) ts) j
        (laid t (set p (first + i) (point t (first + i) (length p))))) e
        ∙ ap (λ (j : ℕ). laid_slots (n - (i + 1)) (past j ts) (suc (first + i))
        (laid t (set p (first + i) (point t (first + i) (length p))))) z
        ∙ sym (slots-next (n - (i + 1)) t (past (suc i) ts) (first + i) p)
        ∙ ap (λ (x : Trees). laid_slots (suc (n - (i + 1))) x (first + i) p) (sym (past-next i ts (omega arith)))
        ∙ ap (λ (j : ℕ). laid_slots j (past i ts) (first + i) p) (sym a)

pub slots-end : (n i : ℕ) (ts : Trees) (first : ℕ) (p : List ℕ) → n ≤ i
    → laid_slots (n - i) (past i ts) (first + i) p ≡ p
slots-end n i ts first p le =
    let z : n - i ≡ 0 = omega arith in
    ap (λ (j : ℕ). laid_slots j (past i ts) (first + i) p) z ∙ slots-none (past i ts) (first + i) p

-- In this block the slots of row `i` are laid out after the slots of the rows before it.
module _ {S R : Type 0} (has : S → ℕ → Tree → Type 0) (are : R → Bodies → Type 0) (rows : R) (source : S)
    (n a b depth i : ℕ) (lt : i < n)
    (slots : (bs : Bodies) → are rows bs → (k : ℕ) → k < count (slots_at bs i)
    → has source k (tree_at (slots_at bs i) k))
  where
    module _ (len : ℕ) {most : ℕ} (r : RowsReady are rows i n a b depth len most) where
      here : i < count_rows r.values
      here = let c = r.count in omega arith

      pub row-sizes : sizes_in_rows (rows_past i r.values)
          ≡ sizes (slots_at r.values i) + sizes_in_rows (rows_past (suc i) r.values)
      row-sizes = ap sizes_in_rows (row-at a b i r.values here r.wide r.sound).next

      pub row-ready : AreReady has source 0 b depth len most
      row-ready =
          let x = row-at a b i r.values here r.wide r.sound in
          record {
            values = slots_at r.values i;
            are = λ k l. slots r.values r.is k (let m = x.long in omega arith);
            count = x.long;
            sound = x.sound;
            low = let l = x.low in let m = r.low in omega arith;
            room = let e = row-sizes in let m = r.room in omega arith;
          }

    module _ (next : ℕ) (p q : List ℕ) {most : ℕ} (r : RowsReady are rows i n a b depth (length p) most)
        (h : AreLaid has source b (next + a) p q) where
      laid-is-row : (bs : Bodies) → are rows bs → count_rows bs ≡ n → AreWide a b bs → SoundRows bs
          → q ≡ laid_slots b (slots_at bs i) (next + a) p
      laid-is-row bs is c w s =
          let x = row-at a b i bs (omega arith) w s in
          h (slots_at bs i) x.long (λ k l. slots bs is k (let m = x.long in omega arith))

      pub grown-row : (length p ≤ length q) × (length q ≤ length p + sizes (slots_at r.values i))
      grown-row =
          let x = row-at a b i r.values (here (length p) r) r.wide r.sound in
          let e = laid-is-row r.values r.is r.count r.wide r.sound in
          let l = length-slots b (slots_at r.values i) (next + a) p x.sound in
          (omega (arith, ap length e, l.0), omega (arith, ap length e, l.1))

      pub row-then-inside : next + (n - i) * (a + b) ≤ length p → next + a + b + (n - (i + 1)) * (a + b) ≤ length q
      row-then-inside le =
          let g = grown-row.0 in
          let z : n - i ≡ suc (n - (i + 1)) = omega arith in
          let e : (n - i) * (a + b) ≡ suc (n - (i + 1)) * (a + b) = ap (λ (k : ℕ). k * (a + b)) z in
          let d : suc (n - (i + 1)) * (a + b) ≡ a + b + (n - (i + 1)) * (a + b) = omega arith in
          omega arith

      pub row-then-ready : RowsReady are rows (i + 1) n a b depth (length q) most
      row-then-ready = record {
        values = r.values;
        is = r.is;
        count = r.count;
        wide = r.wide;
        kept = r.kept;
        sound = r.sound;
        low = r.low;
        room =
            let z : i + 1 ≡ suc i = omega arith in
            let e = row-sizes (length p) r in
            let g = grown-row.1 in
            let m = r.room in
            subst (λ (j : ℕ). length q + sizes_in_rows (rows_past j r.values) ≤ most) (sym z) (omega arith);
      }

      pub row-then-rest : (bs : Bodies) → are rows bs → count_rows bs ≡ n → AreWide a b bs → SoundRows bs
          → laid_rows a b (rows_past (i + 1) bs) (next + a + b) q ≡ laid_rows a b (rows_past i bs) next p
      row-then-rest bs is c w s =
          let z : i + 1 ≡ suc i = omega arith in
          let x = row-at a b i bs (omega arith) w s in
          ap (λ (j : ℕ). laid_rows a b (rows_past j bs) (next + a + b) q) z
          ∙ ap (laid_rows a b (rows_past (suc i) bs) (next + a + b)) (laid-is-row bs is c w s)
          ∙ sym (rows-next a b x.words (slots_at bs i) (rows_past (suc i) bs) next p)
          ∙ ap (λ (y : Bodies). laid_rows a b y next p) (sym x.next)

pub rows-over : (i : ℕ) (bs : Bodies) → count_rows bs ≤ i → rows_past i bs ≡ no_bodies
rows-over zero no_bodies h = refl
rows-over (suc i) no_bodies h = refl
rows-over zero (body ws ss bs) h = absurd (omega arith)
rows-over (suc i) (body ws ss bs) h = rows-over i bs (omega arith)

pub rows-end : (a b i : ℕ) (bs : Bodies) (at : ℕ) (p : List ℕ) → count_rows bs ≤ i
    → laid_rows a b (rows_past i bs) at p ≡ p
rows-end a b i bs at p h = ap (λ (x : Bodies). laid_rows a b x at p) (rows-over i bs h) ∙ rows-none a b at p

pub rows-empty : (a b : ℕ) (bs : Bodies) (at : ℕ) (p : List ℕ) → b ≡ 0 → p ≡ laid_rows a b bs at p
rows-empty a b no_bodies at p e = sym (rows-none a b at p)
rows-empty a b (body ws ss bs) at p e =
    sym (rows-next a b ws ss bs at p
    ∙ ap (λ (j : ℕ). laid_rows a b bs (at + a + b) (laid_slots j ss (at + a) p)) e
    ∙ ap (laid_rows a b bs (at + a + b)) (slots-none ss (at + a) p)
    ∙ sym (rows-empty a b bs (at + a + b) p e))

-- Laying out `t`, with its pointer written over the only word of `p`, gives the canonical words of `t`.
pub laid-words : (t : Tree) (p q : List ℕ) → p ≡ [] ++ (0 ∷ []) → q ≡ laid t (set p 0 (point t 0 (length p)))
    → q ≡ words t
unfolding words
laid-words t p q e h =
    h ∙ ap (λ (x : List ℕ). laid t (set x 0 (point t 0 (length x)))) e ∙ laid-is t (point t 0 1 ∷ [])

pub laid-plain : (v : Tree) (from word : ℕ) (ws p q r : List ℕ) → point v from (length p) ≡ word
    → ((at : ℕ) → lay v at ≡ ws) → q ≡ set p from word → r ≡ q ++ ws
    → r ≡ laid v (set p from (point v from (length p)))
laid-plain v from word ws p q r ep el eq er =
    er
    ∙ ap (λ (x : List ℕ). x ++ ws) (eq ∙ ap (λ (w : ℕ). set p from w) (sym ep))
    ∙ ap (λ (x : List ℕ). set p from (point v from (length p)) ++ x)
    (sym (el (length (set p from (point v from (length p))))))
    ∙ sym (laid-is v (set p from (point v from (length p))))

pub laid-nil : (v : Tree) (from : ℕ) (p q : List ℕ) → v ≡ nil → q ≡ set p from 0
    → q ≡ laid v (set p from (point v from (length p)))
unfolding point
laid-nil v from p q e eq =
    laid-plain v from 0 [] p q q (ap (λ (x : Tree). point x from (length p)) e) (λ at. ap (λ (x : Tree). lay x at) e) eq
    (sym (append-nil q))

pub laid-cap : (v : Tree) (k word from : ℕ) (p q : List ℕ) → v ≡ cap k → word ≡ word_of (Cap k) → q ≡ set p from word
    → q ≡ laid v (set p from (point v from (length p)))
unfolding point
laid-cap v k word from p q e w eq =
    laid-plain v from word [] p q q (ap (λ (x : Tree). point x from (length p)) e ∙ sym w)
    (λ at. ap (λ (x : Tree). lay x at) e) eq (sym (append-nil q))

pub one-more : (next a b n i most : ℕ) → i < n → next + (n - i) * (a + b) ≤ most → next + a + b ≤ most
one-more next a b n i most lt h =
    let z : n - i ≡ suc (n - (i + 1)) = omega arith in
    let e : (n - i) * (a + b) ≡ suc (n - (i + 1)) * (a + b) = ap (λ (k : ℕ). k * (a + b)) z in
    let d : suc (n - (i + 1)) * (a + b) ≡ a + b + (n - (i + 1)) * (a + b) = omega arith in
    omega arith
