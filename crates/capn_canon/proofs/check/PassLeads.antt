-- What a pass finds at all slots follows from what it finds at the first slot and at the slots after the first. (For
-- `objects.rt` and `one_pass.rt`.)
use Rattle.std.proofs.Common.{◌≡◌, ℕ, zero, suc, ◌+◌, ◌-◌, ◌*◌, ◌^◌, ◌<◌, ◌≤◌, ◌==◌, List, [], ◌∷◌, length, take, drop}
use Rattle.std.proofs.Common.{Option, Some, None, IfSome, slice_index, refl, sym, subst, ◌∙◌, arith, pos, negsuc}
use Rattle.std.proofs.Common.{if◌then◌else◌, Bool}
use Rattle.capn_words.specs.Pointers.{word_of}
use Rattle.capn_words.specs.declared.pointer.Pointer.TheVariants.{Node}
use Rattle.capn_words.specs.declared.pointer.Width.TheVariants.{Link, Rows}
use Rattle.capn_value.specs.Tree.{node, links, rows, no_trees, tree, no_bodies, body, count}
use Rattle.capn_value.specs.Trim.{kept_words}
use Rattle.capn_canon.specs.declared.progress.Progress.{Progress}
use Rattle.capn_canon.specs.declared.progress.Pass.{Pass}
use Rattle.capn_layout.specs.Layout.{size, sizes, struct_to, list_to}
use Rattle.capn_canon.specs.inner.InPlace.{AreInPlace, RowsInPlace, FindsSlots, FindsRows, FindsFirst}
use Rattle.capn_canon.specs.inner.InPlace.{Finds, Leads, IsLeast, IsOpen, HasObject}
use Rattle.capn_layout.specs.RowWords.{kept_each}
use Rattle.capn_canon.proofs.places.InPlace.{null-in-place, no-slots-in-place, slots-in-place, struct-in-place}
use Rattle.capn_canon.proofs.places.InPlace.{struct-ends}
use Rattle.capn_canon.proofs.places.InPlace.{empty-in-place}
use Rattle.capn_canon.proofs.places.InPlace.{links-in-place, no-rows-in-place, rows-in-place, composite-in-place}
use Rattle.capn_canon.proofs.places.InPlace.{composite-ends}

pub if-some : {A : Type 0} {P Q : A → Type 0} → (r : Option A) → ((x : A) → P x → Q x) → IfSome r P → IfSome r Q
if-some (Some x) f h = f x h
if-some None f h = tt

-- The pass over the slots of `p` after the first, with the progress `g`.
abbrev pub behind : Pass → Progress → Pass
behind p g = record {
  from = p.from + 1;
  end = p.end;
  depth = p.depth;
  next = g.next;
  left = g.left;
  visits = g.visits;
}

-- The progress of the pass `p`.
abbrev pub come : Pass → Progress
come p = record { next = p.next; left = p.left; visits = p.visits }

module _ (all : List ℕ) (base : ℕ) (deep : Bool) where
  -- Case: the pass `p` has no slot.
  pub finds-none : (p : Pass) (least : ℕ) → p.end ≤ p.from → IsOpen all p → Finds all base deep p least (come p) least
  finds-none p least le o = record {
    values = no_trees;
    count = omega arith;
    price = 0;
    below = 0;
    in_place = no-slots-in-place all base p.from p.next p.depth;
    comes = record {
      next_is = omega arith;
      left_is = omega arith;
      visits_are = omega arith;
      fits = o.fits;
      few = o.few;
    };
    lowered = λ on le. omega arith;
  }

  -- Case: the first slot of `p` is null.
  pub finds-null : (p : Pass) (least : ℕ) → IsOpen all p → slice_index all p.from ≡ 0
      → FindsFirst all base deep p least (come p) least
  finds-null p least o z = record {
    value = Rattle.capn_value.specs.Tree.nil;
    price = 0;
    below = 0;
    in_place = null-in-place all base p.from p.next p.depth z;
    comes = record {
      next_is = omega arith;
      left_is = omega arith;
      visits_are = omega arith;
      fits = o.fits;
      few = o.few;
    };
    lowered = λ on le. omega arith;
  }

  module _ (p : Pass) (least here : ℕ) (some : p.from < p.end) (o : IsOpen all p) (g : Progress)
      (v : FindsFirst all base deep p least g here) where
    pub behind-opened : IsOpen all (behind p g)
    behind-opened =
        let a = o.before in
        let b = v.comes.next_is in
        record { order = omega arith; before = omega arith; fits = v.comes.fits; few = v.comes.few }

    pub behind-leads : Leads all base deep p least (behind p g) here
    behind-leads q low f =
        let e : p.from + 1 ≡ suc p.from = omega arith in
        let a = o.before in
        let b = o.fits in
        let c = f.count in
        let x = v.comes in
        let y = f.comes in
        let xn = x.next_is in
        let yn = y.next_is in
        let xl = x.left_is in
        let yl = y.left_is in
        let xv = x.visits_are in
        let yv = y.visits_are in
        let rest : AreInPlace all base (suc p.from) (p.next + size v.value) p.depth f.values f.price f.below =
        subst (λ (k : ℕ). AreInPlace all base k (p.next + size v.value) p.depth f.values f.price f.below) e
        (subst (λ (k : ℕ). AreInPlace all base (p.from + 1) k p.depth f.values f.price f.below) xn f.in_place) in
        record {
          values = tree v.value f.values;
          count = omega arith;
          price = v.price + f.price;
          below = v.below + f.below;
          in_place = slots-in-place all base p.from p.next p.depth v.value f.values v.price f.price v.below f.below
              (omega arith) v.in_place rest;
          comes = record {
            next_is = omega arith;
            left_is = omega arith;
            visits_are = omega arith;
            fits = y.fits;
            few = y.few;
          };
          lowered = λ on le.
              let first = v.lowered on le in let others = f.lowered on (omega arith) in omega arith;
        }

  -- Case: the pass `p` finds a value at its first slot. What it finds at all slots is then decided by the pass `r` over
  -- the slots after the first (`Leads`).
  pub goes-behind : (p : Pass) (least here : ℕ) → p.from < p.end → IsOpen all p → (g : Progress)
      → FindsFirst all base deep p least g here → (r : Pass) → r ≡ behind p g
      → (p.from < r.from) × IsOpen all r × Leads all base deep p least r here
  goes-behind p least here some o g v r e =
      subst (λ (s : Pass). (p.from < s.from) × IsOpen all s × Leads all base deep p least s here) (sym e)
      (omega arith, behind-opened p least here some o g v, behind-leads p least here some o g v)

  -- Case: the first slot of `p` is also the last.
  pub last-leads : (p : Pass) (least : ℕ) → p.from + 1 ≡ p.end → IsOpen all p → (q : Progress) (low : ℕ)
      → FindsFirst all base deep p least q low → Finds all base deep p least q low
  last-leads p least e o q low v =
      let some : p.from < p.end = omega arith in
      behind-leads p least low some o q v q low
      (finds-none (behind p q) low (omega arith) (behind-opened p least low some o q v))

  -- ---- objects

  module _ (p : Pass) (o : HasObject all p) (small : length all ≤ 2 ^ 29) where
    order : p.from < p.next
    order = let a = o.some in let b = o.opened.before in omega arith

    pub finds-struct : (a b : ℕ) (g : Progress) → p.next + (a + b) ≤ length all → a < 2 ^ 16 → b < 2 ^ 16 → 0 < a + b
        → slice_index all p.from ≡ struct_to p.from p.next a b → kept_words (take a (drop p.next all)) ≡ a
        → kept_words (take b (drop (p.next + a) all)) ≡ b → g.next ≡ p.next + a + b
        → g.left + (base + a + b) ≡ p.left → g.visits ≡ p.visits + b
        → (least here : ℕ) (q : Progress) (low : ℕ) → IsLeast deep (p.depth - 1) least here
        → FindsSlots all base deep (p.next + a) (p.next + a + b - (p.next + a)) g.next (p.depth - 1) g.left g.visits
        here q low
        → FindsFirst all base deep p least q low
    finds-struct a b g room ha hb some word ka kb gn gl gv least here q low is f =
        let c = f.count in
        let number : Rattle.capn_value.specs.Tree.count f.values ≡ b = omega arith in
        let y = f.comes in
        let yn = y.next_is in
        let yl = y.left_is in
        let yv = y.visits_are in
        let below = subst (λ (k : ℕ). AreInPlace all base (p.next + a) k (p.depth - 1) f.values f.price f.below) gn
        f.in_place in
        let ends = struct-ends all base p.from p.next p.depth a b small order room ha hb some o.deep word ka kb f.values
        f.price f.below number below in
        record {
          value = node (take a (drop p.next all)) f.values;
          price = base + a + b + f.price;
          below = b + f.below;
          in_place = struct-in-place all base p.from p.next p.depth a b small order room ha hb some o.deep word ka kb
              f.values f.price f.below number below;
          comes = record {
            next_is = yn ∙ subst (λ (k : ℕ). k + sizes f.values
                ≡ p.next + size (node (take a (drop p.next all)) f.values)) (sym gn) ends;
            left_is = omega arith;
            visits_are = omega arith;
            fits = y.fits;
            few = y.few;
          };
          lowered = λ on le. let e = is on in let l = f.lowered on (omega arith) in omega arith;
        }

    pub finds-empty : slice_index all p.from ≡ word_of (Node (negsuc 0) 0 0) → (g : Progress) → g.next ≡ p.next
        → g.left + base ≡ p.left → g.visits ≡ p.visits + 0 → (least low : ℕ) → IsLeast deep (p.depth - 1) least low
        → FindsFirst all base deep p least g low
    finds-empty word g gn gl gv least low is =
        let lt = order in
        let fits = o.opened.fits in
        let few = o.opened.few in
        record {
          value = node [] no_trees;
          price = base;
          below = 0;
          in_place = empty-in-place all base p.from p.next p.depth (omega arith) o.deep word;
          comes = record {
            next_is = omega arith;
            left_is = omega arith;
            visits_are = omega arith;
            fits = omega arith;
            few = omega arith;
          };
          lowered = λ on le. let e = is on in omega arith;
        }

    pub finds-links : (n : ℕ) (g : Progress) → p.next + n ≤ length all → n < 2 ^ 29
        → slice_index all p.from ≡ list_to p.from p.next Link n → g.next ≡ p.next + n → g.left + (base + n) ≡ p.left
        → g.visits ≡ p.visits + n → (least here : ℕ) (q : Progress) (low : ℕ) → IsLeast deep (p.depth - 1) least here
        → FindsSlots all base deep p.next (p.next + n - p.next) g.next (p.depth - 1) g.left g.visits here q low
        → FindsFirst all base deep p least q low
    finds-links n g room few_of word gn gl gv least here q low is f =
        let c = f.count in
        let number : Rattle.capn_value.specs.Tree.count f.values ≡ n = omega arith in
        let y = f.comes in
        let yn = y.next_is in
        let yl = y.left_is in
        let yv = y.visits_are in
        let below = subst (λ (k : ℕ). AreInPlace all base p.next k (p.depth - 1) f.values f.price f.below) gn
        f.in_place in
        record {
          value = links f.values;
          price = base + n + f.price;
          below = n + f.below;
          in_place = links-in-place all base p.from p.next p.depth n small order room few_of o.deep word f.values
              f.price f.below number below;
          comes = record {
            next_is = omega arith;
            left_is = omega arith;
            visits_are = omega arith;
            fits = y.fits;
            few = y.few;
          };
          lowered = λ on le. let e = is on in let l = f.lowered on (omega arith) in omega arith;
        }

    pub finds-composite : (n a b : ℕ) (g : Progress) → p.next + (1 + n * (a + b)) ≤ length all → n < 2 ^ 29
        → a < 2 ^ 16 → b < 2 ^ 16 → n * (a + b) < 2 ^ 29
        → slice_index all p.from ≡ list_to p.from p.next Rows (n * (a + b))
        → slice_index all p.next ≡ word_of (Node (pos n) a b) → kept_each (all ∷ []) 0 (p.next + 1) a (a + b) n ≡ a
        → kept_each (all ∷ []) 0 (p.next + 1 + a) b (a + b) n ≡ b → g.next ≡ p.next + 1 + n * (a + b)
        → g.left + (base + 1 + n * (a + b) + (if a + b == 0 then n else 0)) ≡ p.left → g.visits ≡ p.visits + n * b
        → (least here : ℕ) (q : Progress) (low : ℕ) → IsLeast deep (p.depth - 1) least here
        → FindsRows all base deep a b (p.next + 1) n g.next (p.depth - 1) g.left g.visits here q low
        → FindsFirst all base deep p least q low
    finds-composite n a b g room few_of ha hb span word tag ka kb gn gl gv least here q low is f =
        let y = f.comes in
        let yn = y.next_is in
        let yl = y.left_is in
        let yv = y.visits_are in
        let below = subst (λ (k : ℕ). RowsInPlace all base a b (p.next + 1) k (p.depth - 1) f.values f.price f.below) gn
        f.in_place in
        let ends = composite-ends all base p.from p.next p.depth n a b small order room few_of ha hb span o.deep word
        tag ka kb f.values f.price f.below f.count below in
        record {
          value = rows f.values;
          price = base + 1 + n * (a + b) + (if a + b == 0 then n else 0) + f.price;
          below = n * b + f.below;
          in_place = composite-in-place all base p.from p.next p.depth n a b small order room few_of ha hb span o.deep
              word tag ka kb f.values f.price f.below f.count below;
          comes = record {
            next_is = omega arith;
            left_is = omega arith;
            visits_are = omega arith;
            fits = y.fits;
            few = y.few;
          };
          lowered = λ on le. let e = is on in let l = f.lowered on (omega arith) in omega arith;
        }

  -- ---- rows

  -- Case: there is no row.
  pub finds-no-rows : (a b from d least : ℕ) (g : Progress) → g.next ≤ length all → g.visits ≤ g.next
      → FindsRows all base deep a b from 0 g.next d g.left g.visits least g least
  finds-no-rows a b from d least g fits few = record {
    values = no_bodies;
    count = refl;
    price = 0;
    below = 0;
    in_place = no-rows-in-place all base a b from g.next d;
    comes = record {
      next_is = omega arith;
      left_is = omega arith;
      visits_are = omega arith;
      fits = fits;
      few = few;
    };
    lowered = λ on le. omega arith;
  }

  -- Case: one row, and `n` rows after it.
  pub finds-row : (a b from n d next left visits least : ℕ) (g : Progress) (here : ℕ) (q : Progress) (low : ℕ)
      → from + a ≤ length all → FindsSlots all base deep (from + a) b next d left visits least g here
      → FindsRows all base deep a b (from + a + b) n g.next d g.left g.visits here q low
      → FindsRows all base deep a b from (suc n) next d left visits least q low
  finds-row a b from n d next left visits least g here q low inside v f =
      let c = f.count in
      let x = v.comes in
      let y = f.comes in
      let xn = x.next_is in
      let yn = y.next_is in
      let xl = x.left_is in
      let yl = y.left_is in
      let xv = x.visits_are in
      let yv = y.visits_are in
      let rest : RowsInPlace all base a b (from + a + b) (next + sizes v.values) d f.values f.price f.below =
      subst (λ (k : ℕ). RowsInPlace all base a b (from + a + b) k d f.values f.price f.below) xn f.in_place in
      record {
        values = body (take a (drop from all)) v.values f.values;
        count = omega arith;
        price = v.price + f.price;
        below = v.below + f.below;
        in_place = rows-in-place all base a b from next d v.values f.values v.price f.price v.below f.below inside
            v.count v.in_place rest;
        comes = record {
          next_is = omega arith;
          left_is = omega arith;
          visits_are = omega arith;
          fits = y.fits;
          few = y.few;
        };
        lowered = λ on le.
            let first = v.lowered on le in let others = f.lowered on (omega arith) in omega arith;
      }

  -- Case: the rows have no slots.
  pub finds-bare-rows : (a b from n d least : ℕ) (g : Progress) → b ≡ 0 → from + n * a ≤ length all
      → g.next ≤ length all → g.visits ≤ g.next
      → FindsRows all base deep a b from n g.next d g.left g.visits least g least
  finds-bare-rows a b from zero d least g e room fits few = finds-no-rows a b from d least g fits few
  finds-bare-rows a b from (suc n) d least g e room fits few =
      let m : suc n * a ≡ a + n * a = omega arith in
      let none : FindsSlots all base deep (from + a) b g.next d g.left g.visits least g least = record {
        values = no_trees;
        count = sym e;
        price = 0;
        below = 0;
        in_place = no-slots-in-place all base (from + a) g.next d;
        comes = record {
          next_is = omega arith;
          left_is = omega arith;
          visits_are = omega arith;
          fits = fits;
          few = few;
        };
        lowered = λ on le. omega arith;
      } in
      finds-row a b from n d g.next g.left g.visits least g least g least (omega arith) none
      (finds-bare-rows a b (from + a + b) n d least g e (omega arith) fits few)
