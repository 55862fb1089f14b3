-- The slots that a descent reaches, step by step. (For the cycle `descent` and `slot_of`.)
use Rattle.std.proofs.Common.{◌≡◌, ℕ, suc, ◌+◌, ◌-◌, ◌*◌, ◌<◌, List, [], ◌∷◌, ◌++◌, length, Some, Ok}
use Rattle.std.proofs.Common.{refl, ap, sym, ◌∙◌, arith, append_assoc, length-append}
use Rattle.std.proofs.lemmas.List.{append-nil}
use Rattle.capn_words.specs.declared.space.Place.{Place}
use Rattle.capn_words.specs.declared.pointer.Width.{Width}
use Rattle.capn_words.specs.declared.pointer.Width.TheVariants.{W0, W1, W8, W16, W32, W64, Link, Rows}
use Rattle.capn_target.specs.declared.target.Target.TheVariants as targets
use Rattle.capn_target.specs.declared.target.Shape.{Shape}
use Rattle.capn_target.specs.declared.target.Shape.TheVariants as shapes
use Rattle.capn_target.specs.Target.{target}
use Rattle.capn_walk.specs.Visits.{places, row_places, slots, visits, visits_of}
use Rattle.capn_walk.proofs.shared.Walks.{slot, places-split}
use Rattle.capn_path.specs.Finds.{Meets}
use Rattle.capn_path.specs.Steps.{AreNumbersIn}
use Rattle.capn_path.specs.Paths.{Leads}
use Rattle.capn_path.proofs.shared.Steps.{length-places, length-rows, row-split, middle, stays, goes-down}
use Rattle.capn_mismatch.specs.declared.word_kind.Owner.{Owner}
use Rattle.capn_mismatch.specs.declared.word_kind.WordKind.{WordKind}
use Rattle.capn_mismatch.specs.inner.Search.{finds, owned, same}
use Rattle.capn_mismatch.specs.inner.Reached.{rows_of, place_in, numbers, Reaches, ReachesBelow}
use Rattle.capn_mismatch.proofs.Owned.{same-after}

-- An object of `shape` begins at word `start` of segment `s`. Slot `number` in the object's row `row` is at `at`.
pub record AreIn (s start : ℕ) (shape : Shape) (row number : ℕ) (at : Place) : Type 0 where
  pub before : List Place
  pub behind : List Place
  pub slots : slots s start shape ≡ before ++ at ∷ behind
  pub named : AreNumbersIn shape (length before) (numbers shape row number)

one-among : (s w n i v : ℕ) → i < n → v ≡ w + i
    → places s w n ≡ places s w i ++ slot s v ∷ places s (w + i + 1) (n - suc i)
one-among s w n i v lt e = rw e (places-split s w i n lt)

many-in : (width : Width) (s start n row i : ℕ)
    → row < (rows_of (slot s start) (shapes.Many width n)).count
    → i < (rows_of (slot s start) (shapes.Many width n)).slots
    → AreIn s start (shapes.Many width n) row i (place_in (rows_of (slot s start) (shapes.Many width n)) row i)
many-in Link s start n row i a b = record {
  before = places s start i;
  behind = places s (start + i + 1) (n - suc i);
  slots = one-among s start n i (start + row * (0 + n) + 0 + i) b
      (let z : row ≡ 0 = omega arith in let y = ap (λ (k : ℕ). k * (0 + n)) z in omega arith);
  named = ap (λ (k : ℕ). k ∷ []) (sym (length-places s start i));
}
many-in W0 s start n row i a b = absurd (omega arith)
many-in W1 s start n row i a b = absurd (omega arith)
many-in W8 s start n row i a b = absurd (omega arith)
many-in W16 s start n row i a b = absurd (omega arith)
many-in W32 s start n row i a b = absurd (omega arith)
many-in W64 s start n row i a b = absurd (omega arith)
many-in Rows s start n row i a b = absurd (omega arith)

pub is-in : (shape : Shape) (s start row i : ℕ) → row < (rows_of (slot s start) shape).count
    → i < (rows_of (slot s start) shape).slots
    → AreIn s start shape row i (place_in (rows_of (slot s start) shape) row i)
is-in (shapes.Node a b) s start row i lt l = record {
  before = places s (start + a) i;
  behind = places s (start + a + i + 1) (b - suc i);
  slots = one-among s (start + a) b i (start + row * (a + b) + a + i) l
      (let z : row ≡ 0 = omega arith in let y = ap (λ (k : ℕ). k * (a + b)) z in omega arith);
  named = ap (λ (k : ℕ). k ∷ []) (sym (length-places s (start + a) i));
}
is-in (shapes.Many width n) s start row i lt l = many-in width s start n row i lt l
is-in (shapes.Rows n a b span) s start row i lt l =
    let w = start + 1 in
    let p = w + row * (a + b) + a in
    let front = row_places s w a b row in
    let later = row_places s (w + row * (a + b) + a + b) a b (n - suc row) in
    let lf = length-rows s w a b row in
    let lp = length-places s p i in
    let la = length-append front (places s p i) in
    record {
      before = front ++ places s p i;
      behind = places s (p + i + 1) (b - suc i) ++ later;
      slots = row-split s w a b row n lt
          ∙ ap (λ (ps : List Place). front ++ (ps ++ later)) (places-split s p i b l)
          ∙ middle front (places s p i) (slot s (p + i)) (places s (p + i + 1) (b - suc i)) later;
      named = record { row = row; slot = i; are = refl; small = l; count = omega arith };
    }

module _ (m : List (List ℕ)) (base : ℕ) (word : Place) where
  pub reaches-here : (d : ℕ) (at : Place) (path : List ℕ) (x : WordKind) → finds word at (target m at) ≡ Some x
      → Reaches m base word d at path path x
  reaches-here d at path x e = record {
    rest = [];
    is = sym (append-nil path);
    to = at;
    number = 0;
    found = e;
    leads = stays m base d at;
  }

  pub reaches-object : (d : ℕ) (at : Place) (s start pads : ℕ) (shape : Shape) (old new : List ℕ) (x : WordKind)
      → target m at ≡ Ok (targets.Content s start shape pads) → 0 < d
      → ReachesBelow m base word (d - 1) (slot s start) shape old new x → Reaches m base word d at old new x
  reaches-object d at s start pads shape old new x e some h =
      record {
        rest = h.rest;
        is = h.is;
        to = h.to;
        number = suc h.number;
        found = h.found;
        leads = goes-down m base d at s start pads shape h.rest h.to h.number e some h.leads;
      }

  pub reaches-below : (d s start row i : ℕ) (shape : Shape) (at : Place) (old pushed new : List ℕ) (x : WordKind)
      → AreIn s start shape row i at → pushed ≡ old ++ numbers shape row i → Reaches m base word d at pushed new x
      → ReachesBelow m base word d (slot s start) shape old new x
  reaches-below d s start row i shape at old pushed new x among push h =
      let ns = numbers shape row i in
      record {
        rest = ns ++ h.rest;
        is = h.is ∙ ap (λ (l : List ℕ). l ++ h.rest) push ∙ append_assoc old ns h.rest;
        to = h.to;
        number = length (visits_of m base d among.before) + h.number;
        found = h.found;
        leads = record {
          before = among.before;
          slot = at;
          behind = among.behind;
          slots = among.slots;
          numbers = ns;
          named = among.named;
          rest = h.rest;
          is = refl;
          later = h.number;
          onward = h.leads;
          count = refl;
        };
      }

  pub reaches-met : (d : ℕ) (at : Place) (path : List ℕ) (x : WordKind)
      → Meets m owned same (visits m base d at) (Leads m base d at) (record { word = word }) path x
      → Reaches m base word d at [] path x
  reaches-met d at path x h =
      let aim : Owner = record { word = word } in
      record {
        rest = path;
        is = refl;
        to = h.to;
        number = length h.before;
        found = rw (same-after m owned aim h.last h.before h.passed) at h.found;
        leads = h.leads;
      }
