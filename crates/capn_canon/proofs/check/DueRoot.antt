-- If words are accepted and canonical, the pass must find the value at the root, and the words end after that value.
-- (For `measure_root`.)
use Rattle.std.proofs.Common.{◌≡◌, ℕ, ◌+◌, ◌^◌, ◌<◌, ◌≤◌, Bool, List, [], ◌∷◌, length, Option, None}
use Rattle.std.proofs.Common.{refl, ap, sym, subst, arith}
use Rattle.std.specs.Option.{option_or}
use Rattle.std.proofs.lemmas.List.{append-nil}
use Rattle.capn_words.specs.Message.{IsMessage, bytes, most_words}
use Rattle.capn_value.specs.Tree.{Tree, no_trees, tree}
use Rattle.capn_value.specs.Cost.{base}
use Rattle.capn_value.specs.FirstCap.{first_cap}
use Rattle.capn_walk.specs.Accepted.{root, IsValueOf, IsWithin}
use Rattle.capn_walk.specs.Limits.{Bounds}
use Rattle.capn_walk.specs.Visits.{Visit, visits}
use Rattle.capn_walk.proofs.shared.Unique.{unique-slots}
use Rattle.capn_canon.specs.declared.progress.Progress.{Progress}
use Rattle.capn_layout.specs.Layout.{size, sizes, words, canon}
use Rattle.capn_canon.specs.inner.Due.{DueSlots}
use Rattle.capn_canon.specs.inner.InPlace.{FindsSlots}
use Rattle.capn_layout.specs.Sound.{Sound}
use Rattle.capn_canon.specs.inner.WordsOfLayout.{IsLaidAt}
use Rattle.capn_canon.proofs.check.CanonicalSurvey.{free-root}
use Rattle.capn_canon.proofs.places.CanonicalWords.{bytes-words, stand-words}
use Rattle.capn_canon.proofs.places.Compared.{slots-both}
use Rattle.capn_canon.proofs.theorem.Headline.{denoted_fits, denoted_in_range}
use Rattle.capn_canon.proofs.reading.ReadBare.{root-alone}
use Rattle.capn_layout.proofs.shared.Sound.{sound}
use Rattle.capn_canon.proofs.places.Standing.{stand-none}

module _ (all : List ℕ) (limits : Bounds) (v : Tree) (is : IsMessage (all ∷ [])) (small : limits.budget ≤ 2 ^ 28)
    (shallow : limits.depth ≤ 256) (h : IsValueOf (all ∷ []) limits v) (free : first_cap v ≡ None)
    (same : canon v ≡ bytes all) where
  some : 0 < length all
  some = h.accepted.some

  sound-root : Sound v
  sound-root = sound v (denoted_fits (all ∷ []) limits v is small shallow h)
      (denoted_in_range (all ∷ []) limits v is small shallow h)

  words-are : words v ≡ all
  words-are =
      let fits : length all ≤ most_words = let r = is.room in omega arith in
      (bytes-words (bytes all) all v (record { same = refl; each = is.each 0; room = fits })
      (denoted_fits (all ∷ []) limits v is small shallow h) (denoted_in_range (all ∷ []) limits v is small shallow h)).1
      same

  stands : IsLaidAt all v 0 1 × (1 + size v ≡ length all)
  stands = stand-words all v sound-root some words-are

  visited : IsWithin limits.budget (visits (all ∷ []) (base limits.tariff) limits.depth root)
  visited = subst (λ (vs : List Visit). IsWithin limits.budget vs)
      (root-alone (all ∷ []) (base limits.tariff) limits.depth v (free-root v free) h.is) h.accepted.within

  pub due-root : DueSlots all (base limits.tariff) 0 1 1 limits.depth limits.budget
  due-root =
      let vs = visits (all ∷ []) (base limits.tariff) limits.depth root in
      let e = stands.1 in
      record {
        values = tree v no_trees;
        count = refl;
        due = record {
          are = (h.is, tt);
          laid = slots-both all v no_trees 0 1 some sound-root stands.0
              (record { pointers = stand-none all 1; contents = stand-none all (1 + size v) });
          sound = (sound-root, tt);
          free = ap (λ (x : Option ℕ). option_or x None) free;
          fits = omega arith;
          pays = subst (λ (us : List Visit). IsWithin limits.budget us) (sym (append-nil vs)) visited;
        };
      }

  pub root-due : (b d l : ℕ) → b ≡ base limits.tariff → d ≡ limits.depth → l ≡ limits.budget
      → DueSlots all b 0 1 1 d l
  root-due b d l eb ed el =
      subst (λ (x : ℕ). DueSlots all x 0 1 1 d l) (sym eb)
      (subst (λ (x : ℕ). DueSlots all (base limits.tariff) 0 1 1 x l) (sym ed)
      (subst (λ (x : ℕ). DueSlots all (base limits.tariff) 0 1 1 limits.depth x) (sym el) due-root))

  -- If the pass finds the value at the root, the content of that value ends where the words end.
  pub root-ends : {deep : Bool} {least low : ℕ} (depth left : ℕ) (q : Progress)
      → FindsSlots all (base limits.tariff) deep 0 1 1 depth left 1 least q low
      → q.next ≡ length all
  root-ends depth left q f =
      let c = f.count in
      let e = unique-slots (all ∷ []) f.values (tree v no_trees) 0 0 (omega arith) f.in_place.are (h.is, tt) in
      let n = f.comes.next_is in
      let s = ap sizes e in
      let k = stands.1 in
      omega arith
