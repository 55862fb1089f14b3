-- The path that a search for the owner of a word finds leads to the slot that owns the word. (For `owner`.)
use Rattle.std.proofs.Common.{◌≡◌, ℕ, ◌+◌, ◌<◌, ◌≤◌, ◌==◌, ◌&&◌, nat_lt, Bool, true, false, List, [], ◌∷◌}
use Rattle.std.proofs.Common.{Option, Some, None, Ok, Err, Result, refl, ap₂, arith, if◌then◌else◌}
use Rattle.std.proofs.lemmas.Bool.{and_parts, eqb-true}
use Rattle.std.proofs.lemmas.Bool.Decides.{nat_tests}
use Rattle.capn_words.specs.declared.space.Place.{Place}
use Rattle.capn_words.specs.declared.pointer.Width.{Width}
use Rattle.capn_words.specs.declared.pointer.Width.TheVariants.{W0, W1, W8, W16, W32, W64, Link, Rows}
use Rattle.capn_words.proofs.shared.Choices.{pick}
use Rattle.capn_value.specs.Cost.{base}
use Rattle.capn_target.specs.declared.target.Target.{Target}
use Rattle.capn_target.specs.declared.target.Target.TheVariants as targets
use Rattle.capn_target.specs.declared.target.Shape.TheVariants as shapes
use Rattle.capn_target.specs.declared.target.Fault.{Fault}
use Rattle.capn_target.specs.Target.{target, content_words}
use Rattle.capn_walk.specs.Accepted.{root}
use Rattle.capn_walk.specs.Limits.{Bounds}
use Rattle.capn_mismatch.specs.declared.word_kind.WordKind.{WordKind}
use Rattle.capn_mismatch.specs.declared.word_kind.WordKind.TheVariants as found
use Rattle.capn_mismatch.specs.Owner.{place, IsTag, IsSmall, IsLastWord, LeadsTo}
use Rattle.capn_mismatch.specs.inner.Search.{is_at, is_small, ends_at, found_in, found_there, finds}
use Rattle.capn_mismatch.specs.inner.Reached.{Reaches}
use Rattle.capn_path.specs.Paths.{IsPathTo}

-- The slot at `at` owns the word `word`, which has the given kind. `r` is the target of the slot's pointer, or the
-- fault of that pointer.
abbrev pub Tells : ℕ → Place → Result Target Fault → WordKind → Type 0
Tells word at r found.Pointer = at ≡ place word
Tells word at r found.Tag = (t : Target) × (r ≡ Ok t) × IsTag word t
Tells word at r found.LastWord = (t : Target) × (r ≡ Ok t) × IsLastWord word t

chosen : (b : Bool) (x y : WordKind) → (if b then Some x else None) ≡ Some y → (b ≡ true) × (x ≡ y)
chosen true x y e = (refl, cc)
chosen false x y e = absurd cc

at-place : (at : Place) (word : ℕ) → is_at at.segment at.word (place word) ≡ true → at ≡ place word
at-place at word e =
    let p = and_parts (at.segment == 0) (at.word == word) e in
    ap₂ (λ (s w : ℕ). record { segment = s; word = w }) (eqb-true at.segment 0 p.0) (eqb-true at.word word p.1)

small : (width : Width) → is_small width ≡ true → IsSmall width
small W0 e = absurd cc
small W1 e = tt
small W8 e = tt
small W16 e = tt
small W32 e = tt
small W64 e = absurd cc
small Link e = absurd cc
small Rows e = absurd cc

ended : (s start n word : ℕ) → ends_at s start n (place word) ≡ true
    → (s ≡ 0) × (start ≤ word) × (start + n ≡ word + 1)
ended s start n word e =
    let p = and_parts (s == 0) (nat_lt 0 n && (start + n == word + 1)) e in
    let q = and_parts (nat_lt 0 n) (start + n == word + 1) p.1 in
    let a = eqb-true s 0 p.0 in
    let b = eqb-true (start + n) (word + 1) q.1 in
    let c : 0 < n = let d = q.0 in grind (arith, nat_tests) in
    (a, omega arith, b)

in-it : (word : ℕ) (at : Place) (t : Target) (x : WordKind) → found_in (place word) t ≡ Some x → Tells word at (Ok t) x
in-it word at targets.Nil x e = absurd cc
in-it word at (targets.Cap k) x e = absurd cc
in-it word at (targets.Content s start (shapes.Node a b) pads) x e = absurd cc
in-it word at (targets.Content s start (shapes.Rows n a b span) pads) x e =
    let c = chosen (is_at s start (place word)) found.Tag x e in
    let p = and_parts (s == 0) (start == word) c.0 in
    let z = c.1 in
    tagged x z (eqb-true s 0 p.0) (eqb-true start word p.1)
  where
    tagged : (x : WordKind) → found.Tag ≡ x → s ≡ 0 → start ≡ word
        → Tells word at (Ok (targets.Content s start (shapes.Rows n a b span) pads)) x
    tagged found.Tag z a b = (targets.Content s start (shapes.Rows n _ _ span) pads, refl, (a, b))
    tagged found.Pointer z a b = absurd cc
    tagged found.LastWord z a b = absurd cc
in-it word at (targets.Content s start (shapes.Many width n) pads) x e =
    let c = chosen (is_small width && ends_at s start (content_words width n) (place word)) found.LastWord x e in
    let p = and_parts (is_small width) (ends_at s start (content_words width n) (place word)) c.0 in
    let q = ended s start (content_words width n) word p.1 in
    last x c.1 (small width p.0) q
  where
    last : (x : WordKind) → found.LastWord ≡ x → IsSmall width
        → (s ≡ 0) × (start ≤ word) × (start + content_words width n ≡ word + 1)
        → Tells word at (Ok (targets.Content s start (shapes.Many width n) pads)) x
    last found.LastWord z a q = (targets.Content s start (shapes.Many width n) pads, refl, (a, q.0, q.1, q.2))
    last found.Pointer z a q = absurd cc
    last found.Tag z a q = absurd cc

there : (word : ℕ) (at : Place) (r : Result Target Fault) (x : WordKind) → found_there (place word) r ≡ Some x
    → Tells word at r x
there word at (Ok t) x e = in-it word at t x e
there word at (Err f) x e = absurd cc

pub tells : (word : ℕ) (at : Place) (r : Result Target Fault) (x : WordKind) → finds (place word) at r ≡ Some x
    → Tells word at r x
tells word at r x =
    pick (λ (k : Option WordKind). k ≡ Some x → Tells word at r x) (is_at at.segment at.word (place word))
    (Some found.Pointer) (found_there (place word) r)
    (λ t e. pointer x (at-place at word t) (let z : found.Pointer ≡ x = cc in z)) (λ t e. there word at r x e)
  where
    pointer : (x : WordKind) → at ≡ place word → found.Pointer ≡ x → Tells word at r x
    pointer found.Pointer a z = a
    pointer found.Tag a z = absurd cc
    pointer found.LastWord a z = absurd cc

module _ (words : List ℕ) (limits : Bounds) (word : ℕ) where
  abbrev pub Search : List ℕ → WordKind → Type 0
  Search new x =
      Reaches (words ∷ []) (base limits.tariff) (place word) limits.depth root [] new x

  path : (new : List ℕ) (x : WordKind) (g : Search new x) → IsPathTo (words ∷ []) limits g.number new g.to
  path new x g = let f = g.is in rw f g.leads

  pub pointer-owned : (new : List ℕ) → Search new found.Pointer
      → (number : ℕ) × IsPathTo (words ∷ []) limits number new (place word)
  pointer-owned new g =
      let t = tells word g.to (target (words ∷ []) g.to) found.Pointer g.found in
      (g.number, rw t at (path new found.Pointer g))

  pub tag-owned : (new : List ℕ) → Search new found.Tag → LeadsTo (words ∷ []) limits new (IsTag word)
  tag-owned new g =
      let t = tells word g.to (target (words ∷ []) g.to) found.Tag g.found in
      record { number = g.number; slot = g.to; leads = path new found.Tag g; found = t.0; names = t.1; is = t.2 }

  pub last-owned : (new : List ℕ) → Search new found.LastWord → LeadsTo (words ∷ []) limits new (IsLastWord word)
  last-owned new g =
      let t = tells word g.to (target (words ∷ []) g.to) found.LastWord g.found in
      record {
        number = g.number;
        slot = g.to;
        leads = path new found.LastWord g;
        found = t.0;
        names = t.1;
        is = t.2;
      }
