-- An object is in place if its own words and the objects below it are in place. Its visits pay the sum of its own price
-- and the prices of the objects below it. (For `NumbersInPlace` and `PassLeads`.)
use Rattle.std.proofs.Common.{◌≡◌, inl, inr, ℕ, suc, ◌+◌, ◌-◌, ◌*◌, ◌^◌, ◌<◌, ◌≤◌, ◌==◌, List, [], ◌∷◌, ◌++◌}
use Rattle.std.proofs.Common.{length, take, drop, slice_index, Option, None, Ok, refl, ap, ap₂, sym, subst, ◌∙◌}
use Rattle.std.proofs.Common.{arith, length-append, length-drop, pos, negsuc, if◌then◌else◌}
use Rattle.std.specs.List.{flat_map}
use Rattle.std.specs.Option.{option_or}
use Rattle.std.proofs.lemmas.List.{length-take-le}
use Rattle.std.proofs.lemmas.Grind.{flat_map-append}
use Rattle.capn_words.specs.Pointers.{word_of}
use Rattle.capn_words.specs.declared.pointer.Pointer.TheVariants.{Node}
use Rattle.capn_words.specs.declared.pointer.Width.TheVariants.{Link, Rows}
use Rattle.capn_value.specs.Tree.{Tree, nil, node, links, rows, Trees, no_trees, tree, Bodies, no_bodies, body, count}
use Rattle.capn_value.specs.Tree.{count_rows}
use Rattle.capn_value.specs.Trim.{kept_words, kept_words_of_rows, kept_slots_of_rows}
use Rattle.capn_target.specs.declared.target.Target.TheVariants as targets
use Rattle.capn_target.specs.declared.target.Shape.{Shape}
use Rattle.capn_target.specs.declared.target.Shape.TheVariants as shapes
use Rattle.capn_target.specs.Target.{target}
use Rattle.capn_walk.specs.Accepted.{paid_of, AllPay}
use Rattle.capn_walk.specs.ValueAt.{RowsAt, AreWordsAt, IsInside}
use Rattle.capn_walk.specs.Visits.{Visit, pays, fails, price, places, row_places, slots, visits, visits_of}
use Rattle.capn_walk.proofs.shared.Costs.{paid-append}
use Rattle.capn_walk.proofs.shared.Walks.{visits-null, visits-object, is-inside, inside-struct, inside-links}
use Rattle.capn_walk.proofs.shared.Walks.{inside-rows}
use Rattle.capn_layout.specs.Layout.{size, sizes, sizes_in_rows, row_size, struct_to, list_to, point}
use Rattle.capn_canon.specs.inner.InPlace.{Pays, IsInPlace, AreInPlace, RowsInPlace}
use Rattle.capn_layout.specs.RowWords.{kept_each}
use Rattle.capn_layout.specs.Sound.{Sound, AreWide}
use Rattle.capn_canon.specs.inner.WordsOfLayout.{AreLaidAt, RowsLaidAt}
use Rattle.capn_canon.proofs.places.Compared.{null-told, slots-both, struct-is, struct-from-slots, struct-size}
use Rattle.capn_canon.proofs.places.Compared.{links-is}
use Rattle.capn_canon.proofs.places.Compared.{links-from-slots}
use Rattle.capn_canon.proofs.places.ComparedRows.{row-both, rows-is, rows-from-slots}
use Rattle.capn_layout.proofs.shared.EachRow.{kept-rows-words, kept-rows-slots}
use Rattle.capn_canon.proofs.reading.LaidPointers.{struct-names, list-names, rows-names}
use Rattle.capn_canon.proofs.reading.OneSegment.{here, names-null, names-empty}
use Rattle.capn_canon.proofs.places.Standing.{stand-none}

-- ---- visits

both-pay : (xs ys : List Visit) → AllPay xs → AllPay ys → AllPay (xs ++ ys)
both-pay [] ys h k = k
both-pay (pays at n ∷ xs) ys h k = both-pay xs ys h k
both-pay (fails at e ∷ xs) ys h k = absurd h

pub pays-none : Pays [] 0 0
pays-none = record { all = tt; sum = refl; many = refl }

pub pays-join : (xs ys : List Visit) (p q n m : ℕ) → Pays xs p n → Pays ys q m → Pays (xs ++ ys) (p + q) (n + m)
pays-join xs ys p q n m h k =
    let a = paid-append xs ys in
    let b = length-append xs ys in
    let c = h.sum in
    let d = k.sum in
    let e = h.many in
    let f = k.many in
    record { all = both-pay xs ys h.all k.all; sum = omega arith; many = omega arith }

pub pays-as : (vs : List Visit) (p q n m : ℕ) → p ≡ q → n ≡ m → Pays vs p n → Pays vs q m
pays-as vs p q n m e f h = record { all = h.all; sum = h.sum ∙ e; many = h.many ∙ f }

none-or : {A : Type 0} (a b : Option A) → a ≡ None → b ≡ None → option_or a b ≡ None
none-or a b e f = ap (λ x. option_or x b) e ∙ f

module _ (all : List ℕ) (base : ℕ) where
  abbrev only : List (List ℕ)
  only = all ∷ []

  pub pays-object : (from d start price_below below : ℕ) (shape : Shape)
      → target only (here from) ≡ Ok (targets.Content 0 start shape 0) → 0 < d
      → Pays (flat_map (visits only base (d - 1)) (slots 0 start shape)) price_below below
      → Pays (visits only base d (here from)) (price base shape + price_below) (suc below)
  pays-object from d start price_below below shape e deep h =
      let o = visits-object only base (here from) 0 start 0 shape e d deep in
      let s = h.sum in
      let m = h.many in
      record { all = rw o h.all; sum = ap paid_of o ∙ omega arith; many = ap length o ∙ omega arith }

  -- ---- slots

  pub null-in-place : (from to d : ℕ) → slice_index all from ≡ 0 → IsInPlace all base from to d nil 0 0
  null-in-place from to d z =
      let n = names-null all from z in
      let e = visits-null only base (here from) d n in
      record {
        is = n;
        laid = (null-told all nil from to refl z).0;
        sound = tt;
        free = refl;
        pays = record { all = rw e tt; sum = ap paid_of e ∙ omega arith; many = ap length e };
        few = omega arith;
      }

  pub no-slots-in-place : (from to d : ℕ) → AreInPlace all base from to d no_trees 0 0
  no-slots-in-place from to d = record {
    are = tt;
    laid = record { pointers = stand-none all from; contents = stand-none all to };
    sound = tt;
    free = refl;
    pays = pays-none;
    few = omega arith;
  }

  pub slots-in-place : (from to d : ℕ) (t : Tree) (ts : Trees) (p q n m : ℕ) → from < length all
      → IsInPlace all base from to d t p n → AreInPlace all base (suc from) (to + size t) d ts q m
      → AreInPlace all base from to d (tree t ts) (p + q) (n + m)
  slots-in-place from to d t ts p q n m inside h k =
      let f = visits only base d in
      let e : suc from ≡ from + 1 = omega arith in
      let rest = subst (λ (x : ℕ). Pays (visits_of only base d (places 0 x (count ts))) q (count ts + m)) e k.pays in
      let a = h.few in
      let b = k.few in
      record {
        are = (h.is, k.are);
        laid = slots-both all t ts from to inside h.sound h.laid k.laid;
        sound = (h.sound, k.sound);
        free = none-or _ _ h.free k.free;
        pays = pays-as _ (p + q) (p + q) (suc n + (count ts + m)) (suc (count ts) + (n + m)) refl (omega arith)
            (pays-join (f (here from)) (flat_map f (places 0 (from + 1) (count ts))) p q (suc n) (count ts + m) h.pays
            rest);
        few = omega arith;
      }

  -- ---- a struct

  module _ (from to d a b : ℕ) (small : length all ≤ 2 ^ 29) (order : from < to) (room : to + (a + b) ≤ length all)
      (ha : a < 2 ^ 16) (hb : b < 2 ^ 16) (some : 0 < a + b) (deep : 0 < d)
      (word : slice_index all from ≡ struct_to from to a b) (ka : kept_words (take a (drop to all)) ≡ a)
      (kb : kept_words (take b (drop (to + a) all)) ≡ b) where
    struct-named : target only (here from) ≡ Ok (targets.Content 0 to (shapes.Node a b) 0)
    struct-named =
        let (start, is, is_at) = struct-names all small from to a b order room ha hb word in
        let e : start ≡ to = elim is_at as (λ _. start ≡ to) [
          | inl x ↦ x
          | inr y ↦ let u = y.0 in let v = y.1 in
              absurd (omega arith)
        ] in
        is ∙ ap (λ (x : ℕ). Ok (targets.Content 0 x (shapes.Node a b) 0)) e

    abbrev pub struct-words : List ℕ
    struct-words = take a (drop to all)

    long : length struct-words ≡ a
    long = let l = length-drop to all in length-take-le a (drop to all) (omega arith)

    module _ (ss : Trees) (p n : ℕ) (number : count ss ≡ b)
        (h : AreInPlace all base (to + a) (to + a + b) (d - 1) ss p n) where
      inside-it : IsInside only (shapes.Node a b) 0 to (node struct-words ss)
      inside-it = inside-struct only 0 to (shapes.Node a b) a b struct-words ss refl long refl number h.are

      sound-it : Sound (node struct-words ss)
      sound-it = let l = long in (omega arith, omega arith, h.sound)

      fits : to ≤ length all
      fits = omega arith

      same-slots : (struct-is all a b 0 to from to 0 struct-named small room order (node struct-words ss) inside-it
          sound-it fits).slots ≡ ss
      same-slots =
          let e = (struct-is all a b 0 to from to 0 struct-named small room order (node struct-words ss) inside-it
          sound-it fits).is in
          cc

      pub struct-in-place : IsInPlace all base from to d (node struct-words ss) (base + a + b + p) (b + n)
      struct-in-place =
          let below = subst (λ (x : ℕ). Pays (visits_of only base (d - 1) (places 0 (to + a) x)) p (x + n)) number
          h.pays in
          let f = h.few in
          record {
            is = is-inside only (here from) 0 to 0 (shapes.Node a b) (node struct-words ss) struct-named inside-it;
            laid = struct-from-slots all a b 0 to from to 0 struct-named small room order (node struct-words ss)
                inside-it sound-it fits ka kb word room
                (subst (λ (x : Trees). AreLaidAt all x (to + a) (to + a + b)) (sym same-slots) h.laid);
            sound = sound-it;
            free = h.free;
            pays = pays-object from d to p (b + n) (shapes.Node a b) struct-named deep below;
            few = omega arith;
          }

      pub struct-ends : to + a + b + sizes ss ≡ to + size (node struct-words ss)
      struct-ends = ap (λ (x : Trees). to + a + b + sizes x) (sym same-slots)
          ∙ struct-size all a b 0 to from to 0 struct-named small room order (node struct-words ss) inside-it sound-it
          fits ka kb word room

  -- A struct of no words and no slots is in place if its pointer has the offset -1.
  pub empty-in-place : (from to d : ℕ) → from ≤ length all → 0 < d
      → slice_index all from ≡ word_of (Node (negsuc 0) 0 0) → IsInPlace all base from to d (node [] no_trees) base 0
  unfolding point
  empty-in-place from to d room deep word =
      let e = names-empty all from word room in
      record {
        is = record { segment = 0; start = from; pads = 0; is = e; inside = (refl, tt) };
        laid = record { pointer = word; content = stand-none all to };
        sound = (omega arith, omega arith, tt);
        free = refl;
        pays = pays-as _ (base + 0 + 0 + 0) base 1 1 (omega arith) refl
            (pays-object from d from 0 0 (shapes.Node 0 0) e deep pays-none);
        few = omega arith;
      }

  -- ---- a list of pointers

  module _ (from to d n : ℕ) (small : length all ≤ 2 ^ 29) (order : from < to) (room : to + n ≤ length all)
      (few_of : n < 2 ^ 29) (deep : 0 < d) (word : slice_index all from ≡ list_to from to Link n) (ts : Trees) (p k : ℕ)
      (number : count ts ≡ n) (h : AreInPlace all base to (to + n) (d - 1) ts p k) where
    links-named : target only (here from) ≡ Ok (targets.Content 0 to (shapes.Many Link n) 0)
    links-named = list-names all small from to n Link tt order room few_of word

    links-inside : IsInside only (shapes.Many Link n) 0 to (links ts)
    links-inside = inside-links only 0 to (shapes.Many Link n) n ts refl number h.are

    links-sound : Sound (links ts)
    links-sound = (omega arith, h.sound)

    links-fits : to ≤ length all
    links-fits = omega arith

    same-links : (links-is all n 0 to from to 0 links-named small order (links ts) links-inside links-sound
        links-fits).slots ≡ ts
    same-links =
        let e = (links-is all n 0 to from to 0 links-named small order (links ts) links-inside links-sound
        links-fits).is in
        cc

    pub links-in-place : IsInPlace all base from to d (links ts) (base + n + p) (n + k)
    links-in-place =
        let below = subst (λ (x : ℕ). Pays (visits_of only base (d - 1) (places 0 to x)) p (x + k)) number h.pays in
        let f = h.few in
        record {
          is = is-inside only (here from) 0 to 0 (shapes.Many Link n) (links ts) links-named links-inside;
          laid = links-from-slots all n 0 to from to 0 links-named small order (links ts) links-inside links-sound
              links-fits word room (subst (λ (x : Trees). AreLaidAt all x to (to + n)) (sym same-links) h.laid);
          sound = links-sound;
          free = h.free;
          pays = pays-object from d to p (n + k) (shapes.Many Link n) links-named deep below;
          few = omega arith;
        }

  -- ---- rows

  pub no-rows-in-place : (a b from to d : ℕ) → RowsInPlace all base a b from to d no_bodies 0 0
  no-rows-in-place a b from to d = record {
    are = tt;
    laid = record { rows = stand-none all from; contents = stand-none all to };
    sound = tt;
    free = refl;
    pays = pays-as [] 0 0 0 (0 * b + 0) refl (omega arith) pays-none;
    few = omega arith;
  }

  pub rows-in-place : (a b from to d : ℕ) (ss : Trees) (bs : Bodies) (p q n m : ℕ) → from + a ≤ length all
      → count ss ≡ b → AreInPlace all base (from + a) to d ss p n
      → RowsInPlace all base a b (from + a + b) (to + sizes ss) d bs q m
      → RowsInPlace all base a b from to d (body (take a (drop from all)) ss bs) (p + q) (n + m)
  rows-in-place a b from to d ss bs p q n m inside number h k =
      let ws = take a (drop from all) in
      let l = length-drop from all in
      let long : length ws ≡ a = length-take-le a (drop from all) (omega arith) in
      let own : AreWordsAt only 0 from ws = ap (λ (x : ℕ). take x (drop from all)) long in
      let f = visits only base d in
      let here_places = places 0 (from + a) b in
      let rest_places = row_places 0 (from + a + b) a b (count_rows bs) in
      let first = subst (λ (x : ℕ). Pays (visits_of only base d (places 0 (from + a) x)) p (x + n)) number h.pays in
      let e = flat_map-append f here_places rest_places in
      let joined = pays-join (flat_map f here_places) (flat_map f rest_places) p q (b + n) (count_rows bs * b + m) first
      k.pays in
      let x = h.few in
      let y = k.few in
      let z : b + n + (count_rows bs * b + m) ≡ suc (count_rows bs) * b + (n + m) = omega arith in
      record {
        are = (long, number, own, h.are, k.are);
        laid = row-both all a b ws ss bs from to long number own h.sound h.laid k.laid;
        sound = (h.sound, k.sound);
        free = none-or _ _ h.free k.free;
        pays = subst (λ (vs : List Visit). Pays vs (p + q) (suc (count_rows bs) * b + (n + m))) (sym e)
            (pays-as _ (p + q) (p + q) (b + n + (count_rows bs * b + m)) (suc (count_rows bs) * b + (n + m)) refl z
            joined);
        few = omega arith;
      }

wide-rows : (m : List (List ℕ)) (a b s w : ℕ) (bs : Bodies) → RowsAt m a b s w bs → AreWide a b bs
wide-rows m a b s w no_bodies h = tt
wide-rows m a b s w (body ws ss bs) h =
    let x = h.0 in
    let y = h.1 in
    (omega arith, omega arith, wide-rows m a b s (w + a + b) bs h.4)

-- ---- a list of structs

module _ (all : List ℕ) (base from to d n a b : ℕ) (small : length all ≤ 2 ^ 29) (order : from < to)
    (room : to + (1 + n * (a + b)) ≤ length all) (few_of : n < 2 ^ 29) (ha : a < 2 ^ 16) (hb : b < 2 ^ 16)
    (span : n * (a + b) < 2 ^ 29) (deep : 0 < d) (word : slice_index all from ≡ list_to from to Rows (n * (a + b)))
    (tag : slice_index all to ≡ word_of (Node (pos n) a b))
    (ka : kept_each (all ∷ []) 0 (to + 1) a (a + b) n ≡ a) (kb : kept_each (all ∷ []) 0 (to + 1 + a) b (a + b) n ≡ b)
    (bs : Bodies) (p k : ℕ) (number : count_rows bs ≡ n)
    (h : RowsInPlace all base a b (to + 1) (to + 1 + n * (a + b)) (d - 1) bs p k) where
  composite-named : target (all ∷ []) (here from) ≡ Ok (targets.Content 0 to (shapes.Rows n a b (n * (a + b))) 0)
  composite-named = rows-names all small from to n a b order room few_of ha hb span word tag

  composite-inside : IsInside (all ∷ []) (shapes.Rows n a b (n * (a + b))) 0 to (rows bs)
  composite-inside =
      let e : to + 1 ≡ suc to = omega arith in
      inside-rows (all ∷ []) 0 to (shapes.Rows n a b (n * (a + b))) n a b (n * (a + b)) bs refl number
      (subst (λ (x : ℕ). RowsAt (all ∷ []) a b 0 x bs) e h.are)

  kept-a : kept_words_of_rows bs ≡ a
  kept-a = kept-rows-words (all ∷ []) bs a b 0 (to + 1) n h.are number ∙ ka

  kept-b : kept_slots_of_rows bs ≡ b
  kept-b = kept-rows-slots (all ∷ []) bs a b 0 (to + 1) n h.are number (omega arith) ∙ kb

  total : count_rows bs * row_size bs ≡ n * (a + b)
  total = ap₂ ◌*◌ number (ap₂ ◌+◌ kept-a kept-b)

  composite-sound : Sound (rows bs)
  composite-sound =
      let x = kept-a in
      let y = kept-b in
      let z = total in (
        omega arith,
        omega arith,
        omega arith,
        omega arith,
        subst (λ (u : ℕ). AreWide u (kept_slots_of_rows bs) bs) (sym x)
            (subst (λ (u : ℕ). AreWide a u bs) (sym y) (wide-rows (all ∷ []) a b 0 (to + 1) bs h.are)),
        h.sound,
      )

  composite-fits : to ≤ length all
  composite-fits = omega arith

  composite-room : to + 1 + n * (a + b) ≤ length all
  composite-room = omega arith

  same-rows : (rows-is all n a b (n * (a + b)) 0 to from to 0 composite-named small composite-room order (rows bs)
      composite-inside composite-sound composite-fits).bodies ≡ bs
  same-rows =
      let e = (rows-is all n a b (n * (a + b)) 0 to from to 0 composite-named small composite-room order (rows bs)
      composite-inside composite-sound composite-fits).is in
      cc

  pub composite-in-place : IsInPlace all base from to d (rows bs)
      (base + 1 + n * (a + b) + (if a + b == 0 then n else 0) + p) (n * b + k)
  composite-in-place =
      let below =
      subst (λ (x : ℕ). Pays (visits_of (all ∷ []) base (d - 1) (row_places 0 (to + 1) a b x)) p (x * b + k))
      number h.pays in
      let f = h.few in
      let m : n * (a + b) ≡ n * a + n * b = omega arith in
      record {
        is = is-inside (all ∷ []) (here from) 0 to 0 (shapes.Rows n a b (n * (a + b))) (rows bs) composite-named
            composite-inside;
        laid = rows-from-slots all n a b (n * (a + b)) 0 to from to 0 composite-named small composite-room order
            (rows bs) composite-inside composite-sound composite-fits ka kb word room tag
            (subst (λ (x : Bodies). RowsLaidAt all a b x (to + 1) (to + 1 + n * (a + b))) (sym same-rows) h.laid);
        sound = composite-sound;
        free = h.free;
        pays = pays-object all base from d to p (n * b + k) (shapes.Rows n a b (n * (a + b))) composite-named deep
            below;
        few = omega arith;
      }

  pub composite-ends : to + 1 + n * (a + b) + sizes_in_rows bs ≡ to + size (rows bs)
  composite-ends = let z = total in omega arith
