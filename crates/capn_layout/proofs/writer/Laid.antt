-- The growth of a buffer of words to a layout, slot by slot and row by row. (For `Blocks`, `Sized`, `Stepwise` and
-- `Weighed`.)
use Rattle.std.proofs.Common.{◌≡◌, ℕ, zero, suc, ◌+◌, ◌*◌, ◌<◌, ◌≤◌, List, [], ◌∷◌, ◌++◌, length, take, set, refl, ap}
use Rattle.std.proofs.Common.{Bool, true, false, sym, ◌∙◌, arith, append_assoc, append-nil, length-append}
use Rattle.std.proofs.lemmas.List.{length-take-le, length-set}
use Rattle.std.proofs.lemmas.Bool.Decides.{nat_tests}
use Rattle.capn_value.specs.Tree.{Tree, nil, node, voids, numbers, links, rows, cap, Trees}
use Rattle.capn_value.specs.Tree.{no_trees, tree, tree_at, Bodies, no_bodies, body, count, count_rows, is_null}
use Rattle.capn_value.specs.Trim.{kept_behind, kept_slots, kept_slots_of_rows}
use Rattle.capn_value.specs.Cost.{greatest, greatest_in_rows, height}
use Rattle.capn_layout.specs.Layout.{size, sizes, point, points, lay, lays, row_contents, lays_in_rows}
use Rattle.capn_layout.specs.LayoutSteps.{laid, laid_slots, laid_rows, AreRowsOver, past, rows_past, slots_at}
use Rattle.capn_layout.specs.Sound.{AreWide, Sound, Sounds, SoundRows}
use Rattle.capn_layout.proofs.shared.LayLengths.{length-lay, length-lays, length-cut}

pub laid-is : (t : Tree) (p : List ℕ) → laid t p ≡ p ++ lay t (length p)
unfolding laid
laid-is t p = refl

pub length-laid : (t : Tree) (p : List ℕ) → Sound t → length (laid t p) ≡ length p + size t
unfolding laid
length-laid t p h = let a = length-append p (lay t (length p)) in let c = length-lay t (length p) h in omega arith

-- ---- the next slot, and the next row

pub slots-none : (ts : Trees) (first : ℕ) (p : List ℕ) → laid_slots 0 ts first p ≡ p
unfolding laid_slots
slots-none ts first p = refl

pub slots-next : (n : ℕ) (t : Tree) (ts : Trees) (first : ℕ) (p : List ℕ)
    → laid_slots (suc n) (tree t ts) first p
    ≡ laid_slots n ts (suc first) (laid t (set p first (point t first (length p))))
unfolding laid_slots
slots-next n t ts first p = refl

pub rows-none : (a b at : ℕ) (p : List ℕ) → laid_rows a b no_bodies at p ≡ p
unfolding laid_rows
rows-none a b at p = refl

pub rows-next : (a b : ℕ) (ws : List ℕ) (ss : Trees) (bs : Bodies) (at : ℕ) (p : List ℕ)
    → laid_rows a b (body ws ss bs) at p ≡ laid_rows a b bs (at + a + b) (laid_slots b ss (at + a) p)
unfolding laid_rows
rows-next a b ws ss bs at p = refl

pub past-next : (i : ℕ) (ts : Trees) → i < count ts → past i ts ≡ tree (tree_at ts i) (past (suc i) ts)
past-next i no_trees h = absurd (omega arith)
past-next zero (tree t ts) h = refl
past-next (suc i) (tree t ts) h = past-next i ts (omega arith)

pub sound-at : (i : ℕ) (ts : Trees) → i < count ts → Sounds ts → Sound (tree_at ts i)
sound-at i no_trees h s = absurd (omega arith)
sound-at zero (tree t ts) h s = s.0
sound-at (suc i) (tree t ts) h s = sound-at i ts (omega arith) s.1

pub height-at : (i : ℕ) (ts : Trees) → height (tree_at ts i) ≤ greatest ts
height-at i no_trees = omega arith
height-at zero (tree t ts) = omega arith
height-at (suc i) (tree t ts) = let e = height-at i ts in omega arith

-- Row `i` of `bs` has `words` and at least `b` slots with `Sound` values, and is followed by the rows past row `i`.
pub record IsRowAt (a b i : ℕ) (bs : Bodies) : Type 0 where
  pub words : List ℕ
  pub next : rows_past i bs ≡ body words (slots_at bs i) (rows_past (suc i) bs)
  pub long : b ≤ count (slots_at bs i)
  pub sound : Sounds (slots_at bs i)
  pub low : greatest (slots_at bs i) ≤ greatest_in_rows bs

pub row-at : (a b i : ℕ) (bs : Bodies) → i < count_rows bs → AreWide a b bs → SoundRows bs → IsRowAt a b i bs
row-at a b i no_bodies h w s = absurd (omega arith)
row-at a b zero (body ws ss bs) h w s =
    record { words = ws; next = refl; long = w.1; sound = s.0; low = omega arith }
row-at a b (suc i) (body ws ss bs) h w s =
    let r = row-at a b i bs (omega arith) w.2 s.1 in
    record { words = r.words; next = r.next; long = r.long; sound = r.sound; low = let l = r.low in omega arith }

-- Laying out the first `n` slots of `ts` never shortens the buffer, and lengthens it by at most `sizes ts`.
pub length-slots : (n : ℕ) (ts : Trees) (first : ℕ) (p : List ℕ) → Sounds ts
    → (length p ≤ length (laid_slots n ts first p)) × (length (laid_slots n ts first p) ≤ length p + sizes ts)
unfolding laid_slots
length-slots zero ts first p h = (omega arith, omega arith)
length-slots (suc n) no_trees first p h = (omega arith, omega arith)
length-slots (suc n) (tree t ts) first p h =
    let q = set p first (point t first (length p)) in
    let l = length-laid t q h.0 in
    let k = length-set p first (point t first (length p)) in
    let r = length-slots n ts (suc first) (laid t q) h.1 in
    (omega (arith, r.0), omega (arith, r.1))

pub length-rows : (a b : ℕ) (bs : Bodies) (at : ℕ) (p : List ℕ) → SoundRows bs
    → length p ≤ length (laid_rows a b bs at p)
unfolding laid_rows
length-rows a b no_bodies at p h = omega arith
length-rows a b (body ws ss bs) at p h =
    let l = length-slots b ss (at + a) p h.0 in
    let r = length-rows a b bs (at + a + b) (laid_slots b ss (at + a) p) h.1 in
    omega (arith, l.0, r)

-- ---- all slots

null-is : (t : Tree) → is_null t ≡ true → t ≡ nil
null-is nil e = refl
null-is (cap k) e = cc
null-is (node ws ss) e = cc
null-is (voids n) e = cc
null-is (numbers a xs) e = cc
null-is (links ts) e = cc
null-is (rows bs) e = cc

none-kept : (b : Bool) (n : ℕ) → kept_behind b n ≤ 0 → (b ≡ true) × (n ≤ 0)
none-kept true n h = (refl, grind (arith, nat_tests))
none-kept false n h = absurd (grind (arith, nat_tests))

pub one-fewer : (b : Bool) (n k : ℕ) → kept_behind b n ≤ suc k → n ≤ k
one-fewer b n k h = grind (arith, nat_tests)

pub nothing-below : (ts : Trees) (at : ℕ) → kept_slots ts ≤ 0 → (lays ts at ≡ []) × (sizes ts ≡ 0)
nothing-below no_trees at h = (refl, refl)
nothing-below (tree t ts) at h =
    let k = none-kept (is_null t) (kept_slots ts) h in
    let e = null-is t k.0 in
    let r = nothing-below ts (at + 0) k.1 in (
      ap (λ (x : Tree). lay x at ++ lays ts (at + size x)) e ∙ r.0,
      ap (λ (x : Tree). size x + sizes ts) e ∙ omega (arith, r.1),
    )

set-front : (q r : List ℕ) (x y : ℕ) → set (q ++ (x ∷ r)) (length q) y ≡ q ++ (y ∷ r)
set-front [] r x y = refl
set-front (z ∷ q) r x y = ap (λ (xs : List ℕ). z ∷ xs) (set-front q r x y)

-- If `kept_slots ts` is at most `n`, laying out the first `n` slots appends the contents of all slots.
pub laid-slots-is : (n : ℕ) (ts : Trees) (q hs r : List ℕ) (m to : ℕ) → Sounds ts → kept_slots ts ≤ n → length hs ≡ n
    → n ≤ count ts → length q ≡ m → length q + n + length r ≡ to
    → laid_slots n ts m (q ++ (hs ++ r)) ≡ q ++ (take n (points ts m to) ++ (r ++ lays ts to))
laid-slots-is zero ts q [] r m to h k eh le em et =
    let z = nothing-below ts to k in
    slots-none ts m (q ++ r)
    ∙ ap (λ (xs : List ℕ). q ++ xs) (sym (append-nil r) ∙ ap (λ (xs : List ℕ). r ++ xs) (sym z.0))
laid-slots-is zero ts q (x ∷ hs) r m to h k eh le em et = absurd (omega arith)
laid-slots-is (suc n) ts q [] r m to h k eh le em et = absurd (omega arith)
laid-slots-is (suc n) no_trees q (x ∷ hs) r m to h k eh le em et = absurd (omega arith)
laid-slots-is (suc n) (tree t ts) q (x ∷ hs) r m to h k eh le em et =
    let p = q ++ (x ∷ (hs ++ r)) in
    let w = point t m to in
    let p1 = q ++ (w ∷ (hs ++ r)) in
    let la = length-append hs r in
    let lp : length p ≡ to = length-append q (x ∷ (hs ++ r)) ∙ omega arith in
    let lp1 : length p1 ≡ to = length-append q (w ∷ (hs ++ r)) ∙ omega arith in
    let q1 = q ++ (w ∷ []) in
    let r1 = r ++ lay t to in
    let lq1 : length q1 ≡ suc m = length-append q (w ∷ []) ∙ omega arith in
    let lr1 : length r1 ≡ length r + size t = length-append r (lay t to)
    ∙ (let b = length-lay t to h.0 in omega arith) in
    let set_is : set p m (point t m (length p)) ≡ p1 =
    ap (λ (k : ℕ). set p m (point t m k)) lp ∙ ap (λ (k : ℕ). set p k w) (sym em) ∙ set-front q (hs ++ r) x w in
    let moved : laid t p1 ≡ q1 ++ (hs ++ r1) =
    laid-is t p1 ∙ ap (λ (k : ℕ). p1 ++ lay t k) lp1
    ∙ append_assoc q (w ∷ (hs ++ r)) (lay t to)
    ∙ ap (λ (xs : List ℕ). q ++ (w ∷ xs)) (append_assoc hs r (lay t to))
    ∙ sym (append_assoc q (w ∷ []) (hs ++ r1)) in
    let ih = laid-slots-is n ts q1 hs r1 (suc m) (to + size t) h.1 (one-fewer (is_null t) (kept_slots ts) n k)
    (omega arith) (omega arith) lq1 (omega arith) in
    slots-next n t ts m p
    ∙ ap (λ (xs : List ℕ). laid_slots n ts (suc m) (laid t xs)) set_is
    ∙ ap (laid_slots n ts (suc m)) moved
    ∙ ih
    ∙ append_assoc q (w ∷ []) (take n (points ts (suc m) (to + size t)) ++ (r1 ++ lays ts (to + size t)))
    ∙ ap (λ (xs : List ℕ). q ++ (w ∷ (take n (points ts (suc m) (to + size t)) ++ xs)))
    (append_assoc r (lay t to) (lays ts (to + size t)))

-- ---- all rows

row-front : (q w h rh r : List ℕ) → q ++ ((w ++ (h ++ rh)) ++ r) ≡ (q ++ w) ++ (h ++ (rh ++ r))
row-front q w h rh r =
    ap (λ (x : List ℕ). q ++ x) (append_assoc w (h ++ rh) r ∙ ap (λ (x : List ℕ). w ++ x) (append_assoc h rh r))
    ∙ sym (append_assoc q w (h ++ (rh ++ r)))

pub length-over : (a b : ℕ) (bs : Bodies) (cs : List ℕ) → AreWide a b bs → AreRowsOver a b bs cs
    → length cs ≡ count_rows bs * (a + b)
length-over a b no_bodies cs h o = ap length o ∙ omega arith
length-over a b (body ws ss bs) cs h o =
    let x = length-take-le a ws h.0 in
    let y = o.3 in
    let z = length-over a b bs o.1 h.2 o.4 in
    let u = length-append (take a ws) (o.0 ++ o.1) in
    let v = length-append o.0 o.1 in
    let m : suc (count_rows bs) * (a + b) ≡ a + b + count_rows bs * (a + b) = omega arith in
    ap length o.2 ∙ u ∙ omega arith

-- If `kept_slots_of_rows bs` is at most `b`, laying out the first `b` slots of each row appends all contents below the
-- rows.
pub laid-rows-is : (a b : ℕ) (bs : Bodies) (q cs r : List ℕ) (m to : ℕ) → SoundRows bs → AreWide a b bs
    → kept_slots_of_rows bs ≤ b → AreRowsOver a b bs cs → length q ≡ m → length q + length cs + length r ≡ to
    → laid_rows a b bs m (q ++ (cs ++ r)) ≡ q ++ (row_contents a b bs m to ++ (r ++ lays_in_rows bs to))
laid-rows-is a b no_bodies q cs r m to s h k o em et =
    rows-none a b m (q ++ (cs ++ r)) ∙ ap (λ (x : List ℕ). q ++ (x ++ r)) o
    ∙ ap (λ (x : List ℕ). q ++ x) (sym (append-nil r))
laid-rows-is a b (body ws ss bs) q cs r m to s h k o em et =
    let w = take a ws in
    let hs = o.0 in
    let rh = o.1 in
    let q1 = q ++ w in
    let r1 = rh ++ r in
    let ps = take b (points ss (m + a) to) in
    let q2 = q1 ++ ps in
    let r2 = r ++ lays ss to in
    let lw = length-take-le a ws h.0 in
    let l1 : length q1 ≡ m + a = length-append q w ∙ omega arith in
    let lb = o.3 in
    let lc = ap length o.2 in
    let lh = length-append w (hs ++ rh) in
    let lh2 = length-append hs rh in
    let lr1 = length-append rh r in
    let et1 : length q1 + b + length r1 ≡ to = omega arith in
    let lp = length-cut b ss (m + a) to h.1 in
    let l2 : length q2 ≡ m + a + b = length-append q1 ps ∙ omega arith in
    let y = length-lays ss to s.0 in
    let lr2 = length-append r (lays ss to) in
    let et2 : length q2 + length rh + length r2 ≡ to + sizes ss = omega arith in
    let slots = laid-slots-is b ss q1 hs r1 (m + a) to s.0 (omega arith) lb h.1 l1 et1 in
    let moved : q1 ++ (ps ++ (r1 ++ lays ss to)) ≡ q2 ++ (rh ++ r2) =
    sym (append_assoc q1 ps (r1 ++ lays ss to))
    ∙ ap (λ (x : List ℕ). q2 ++ x) (append_assoc rh r (lays ss to)) in
    let ih = laid-rows-is a b bs q2 rh r2 (m + a + b) (to + sizes ss) s.1 h.2 (omega arith) o.4 l2 et2 in
    let rest = row_contents a b bs (m + a + b) (to + sizes ss) in
    rows-next a b ws ss bs m (q ++ (cs ++ r))
    ∙ ap (λ (x : List ℕ). laid_rows a b bs (m + a + b) (laid_slots b ss (m + a) (q ++ (x ++ r)))) o.2
    ∙ ap (λ (x : List ℕ). laid_rows a b bs (m + a + b) (laid_slots b ss (m + a) x)) (row-front q w hs rh r)
    ∙ ap (laid_rows a b bs (m + a + b)) (slots ∙ moved)
    ∙ ih
    ∙ append_assoc q1 ps (rest ++ (r2 ++ lays_in_rows bs (to + sizes ss)))
    ∙ sym (row-front q w ps rest (r2 ++ lays_in_rows bs (to + sizes ss)))
    ∙ ap (λ (x : List ℕ). q ++ (row_contents a b (body ws ss bs) m to ++ x))
    (append_assoc r (lays ss to) (lays_in_rows bs (to + sizes ss)))
