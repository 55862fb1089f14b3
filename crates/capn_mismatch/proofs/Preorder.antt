-- The pointers of several slots and below them, split between two slots, and the words between which the slots of an
-- object lie. (For `OwnWords` and `OneOwner`.)
use Rattle.std.proofs.Common.{◌≡◌, ℕ, zero, suc, ◌+◌, ◌*◌, ◌≤◌, List, [], ◌∷◌, ◌++◌}
use Rattle.std.proofs.Common.{sym, subst, arith, append_assoc}
use Rattle.capn_words.specs.declared.space.Place.{Place}
use Rattle.capn_words.specs.declared.pointer.Width.TheVariants.{W0, W1, W8, W16, W32, W64, Link, Rows}
use Rattle.capn_target.specs.declared.target.Shape.{Shape}
use Rattle.capn_target.specs.declared.target.Shape.TheVariants as shapes
use Rattle.capn_target.specs.Shapes.{extent}
use Rattle.capn_walk.specs.Visits.{places, row_places, slots}
use Rattle.capn_canon.specs.PageForm.{Met, null, object, IsEmpty, IsWhole, InPreorder}

-- The number of words of the objects of `met`.
abbrev pub total : List Met → ℕ
total [] = 0
total (null ∷ rest) = total rest
total (object pointer start shape ∷ rest) = extent shape + total rest

-- The objects of `met` follow one another from the word `next` on, and lists of structs are whole.
abbrev pub Gapless : ℕ → List Met → Type 0
Gapless next [] = Unit {0}
Gapless next (null ∷ rest) = Gapless next rest
Gapless next (object pointer start shape ∷ rest) =
    ((IsEmpty shape → ⊥) → start ≡ next) × IsWhole (object pointer start shape) × Gapless (next + extent shape) rest

module _ (cs : List ℕ) where
  -- The pointers at the slots `xs` and below them, and then those at the slots `ys` and below them.
  pub record Split (xs ys : List Place) (met : List Met) (next : ℕ) : Type 0 where
    pub front : List Met
    pub back : List Met
    pub first : InPreorder cs xs front
    pub second : InPreorder cs ys back
    pub one : Gapless next front
    pub other : Gapless (next + total front) back
    pub sum : total front + total back ≡ total met

  pub split : (met : List Met) (xs ys : List Place) (next : ℕ) → InPreorder cs (xs ++ ys) met → Gapless next met
      → Split xs ys met next
  split met [] ys next h g =
      let z : next ≡ next + 0 = omega arith in
      record {
        front = [];
        back = met;
        first = tt;
        second = h;
        one = tt;
        other = subst (λ (n : ℕ). Gapless n met) z g;
        sum = omega arith;
      }
  split [] (x ∷ xs) ys next h g = absurd h
  split (null ∷ rest) (x ∷ xs) ys next h g =
      let r = split rest xs ys next h.1 g in
      record {
        front = null ∷ r.front;
        back = r.back;
        first = (h.0, r.first);
        second = r.second;
        one = r.one;
        other = r.other;
        sum = r.sum;
      }
  split (object pointer start shape ∷ rest) (x ∷ xs) ys next h g =
      let below = slots 0 start shape in
      let r = split rest (below ++ xs) ys (next + extent shape)
      (subst (λ (ps : List Place). InPreorder cs ps rest) (sym (append_assoc below xs ys)) h.2) g.2 in
      let z : next + extent shape + total r.front ≡ next + (extent shape + total r.front) = omega arith in
      let s = r.sum in
      record {
        front = object pointer start shape ∷ r.front;
        back = r.back;
        first = (h.0, h.1, r.first);
        second = r.second;
        one = (g.0, g.1, r.one);
        other = subst (λ (n : ℕ). Gapless n r.back) z r.other;
        sum = omega arith;
      }

-- ---- the slots of an object lie one after another

-- The places are in the order of their words, from the word `lo` on and before the word `hi`.
abbrev pub Rising : ℕ → ℕ → List Place → Type 0
Rising lo hi [] = lo ≤ hi
Rising lo hi (p ∷ ps) = (lo ≤ p.word) × Rising (suc p.word) hi ps

pub rise-le : (lo hi : ℕ) (ps : List Place) → Rising lo hi ps → lo ≤ hi
rise-le lo hi [] h = h
rise-le lo hi (p ∷ ps) h =
    let a = h.0 in
    let r = rise-le (suc p.word) hi ps h.1 in
    omega arith

rise-from : (lo low hi : ℕ) (ps : List Place) → low ≤ lo → Rising lo hi ps → Rising low hi ps
rise-from lo low hi [] le h = omega arith
rise-from lo low hi (p ∷ ps) le h = let a = h.0 in (omega arith, h.1)

rise-both : (lo mid hi : ℕ) (xs ys : List Place) → Rising lo mid xs → Rising mid hi ys → Rising lo hi (xs ++ ys)
rise-both lo mid hi [] ys h g = rise-from mid lo hi ys h g
rise-both lo mid hi (p ∷ ps) ys h g = (h.0, rise-both (suc p.word) mid hi ps ys h.1 g)

places-rise : (s w n lo hi : ℕ) → lo ≤ w → w + n ≤ hi → Rising lo hi (places s w n)
places-rise s w zero lo hi a b = omega arith
places-rise s w (suc n) lo hi a b = (a, places-rise s (w + 1) n (suc w) hi (omega arith) (omega arith))

rows-rise : (s w a b n lo hi : ℕ) → lo ≤ w → w + n * (a + b) ≤ hi → Rising lo hi (row_places s w a b n)
rows-rise s w a b zero lo hi l r = omega arith
rows-rise s w a b (suc n) lo hi l r =
    let z : suc n * (a + b) ≡ a + b + n * (a + b) = omega arith in
    rise-both lo (w + a + b) hi (places s (w + a) b) (row_places s (w + a + b) a b n)
    (places-rise s (w + a) b lo (w + a + b) (omega arith) (omega arith))
    (rows-rise s (w + a + b) a b n (w + a + b) hi (omega arith) (omega arith))

-- The number of words of an object before all its data and slots: the tag of a list of structs.
abbrev pub above : Shape → ℕ
above (shapes.Node a b) = 0
above (shapes.Many width n) = 0
above (shapes.Rows n a b span) = 1

pub slots-rise : (pointer start : ℕ) (shape : Shape) → IsWhole (object pointer start shape)
    → Rising (start + above shape) (start + extent shape) (slots 0 start shape)
slots-rise pointer start (shapes.Node a b) h =
    places-rise 0 (start + a) b (start + 0) (start + (a + b)) (omega arith) (omega arith)
slots-rise pointer start (shapes.Many W0 n) h = omega arith
slots-rise pointer start (shapes.Many W1 n) h = omega arith
slots-rise pointer start (shapes.Many W8 n) h = omega arith
slots-rise pointer start (shapes.Many W16 n) h = omega arith
slots-rise pointer start (shapes.Many W32 n) h = omega arith
slots-rise pointer start (shapes.Many W64 n) h = omega arith
slots-rise pointer start (shapes.Many Rows n) h = omega arith
slots-rise pointer start (shapes.Many Link n) h =
    places-rise 0 start n (start + 0) (start + n) (omega arith) (omega arith)
slots-rise pointer start (shapes.Rows n a b span) h =
    rows-rise 0 (start + 1) a b n (start + 1) (start + (1 + span)) (omega arith) (omega arith)
