-- The targets of pointers of a message of one segment. (For the cycle `pass`.)
use Rattle.std.proofs.Common.{◌≡◌, ℕ, ◌+◌, ◌-◌, ◌*◌, ◌^◌, ◌<◌, ◌≤◌, ◌==◌, nat_lt, List, [], ◌∷◌, length, slice_index}
use Rattle.std.proofs.Common.{Ok, Result, pos, negsuc, refl, ap, ◌∙◌, arith}
use Rattle.capn_words.specs.Pointers.{word_of, field, pointer_of}
use Rattle.capn_words.specs.declared.space.Place.{Place}
use Rattle.capn_words.specs.declared.pointer.Pointer.{Pointer}
use Rattle.capn_words.specs.declared.pointer.Pointer.TheVariants.{Nil, Node, Many, Cap}
use Rattle.capn_words.specs.declared.pointer.Width.{Width}
use Rattle.capn_words.specs.declared.pointer.Width.TheVariants.{W0, W1, W8, W16, W32, W64, Link, Rows}
use Rattle.capn_target.specs.declared.target.Target.{Target}
use Rattle.capn_target.specs.declared.target.Target.TheVariants as targets
use Rattle.capn_target.specs.declared.target.Shape.TheVariants as shapes
use Rattle.capn_target.specs.declared.target.Fault.{Fault}
use Rattle.capn_words.proofs.shared.Choices.{if-yes, if-no, same-yes}
use Rattle.capn_words.proofs.shared.Pointers.{pointer_of-word_of}
use Rattle.capn_target.specs.Target.{content_words, content_start, tagged, if_inside, list, struct, target_of_pointer}
use Rattle.capn_target.specs.Target.{target}
use Rattle.std.proofs.lemmas.Bool.{le-ltb}

-- The place of the word `w` in the only segment.
abbrev pub here : ℕ → Place
here w = record { segment = 0; word = w }

-- The width is not that of a list of structs (`Rows`).
abbrev pub IsPlain : Width → Type 0
IsPlain Rows = ⊥
IsPlain k = Unit {0}

module _ (ws : List ℕ) where
  -- If the word at `from` is the pointer `p`, the target of that word is the target of `p`.
  pub names : (from : ℕ) (p : Pointer) → pointer_of (slice_index ws from) ≡ p
      → target (ws ∷ []) (here from) ≡ target_of_pointer (ws ∷ []) 0 from p
  unfolding target
  names from p e = ap (target_of_pointer (ws ∷ []) 0 from) e

  in-reach : (start n : ℕ) (r : Result Target Fault) → start + n ≤ length ws → if_inside (ws ∷ []) 0 start n r ≡ r
  in-reach start n r h = if-no (nat_lt (length ws) (start + n)) _ _ (le-ltb (length ws) (start + n) h)

  -- The target of a zero word is null.
  pub names-null : (from : ℕ) → slice_index ws from ≡ 0 → target (ws ∷ []) (here from) ≡ Ok targets.Nil
  unfolding pointer_of
  names-null from e = names from Nil (ap pointer_of e)

  -- The target of the word of a capability is that capability.
  pub names-cap : (from k : ℕ) → slice_index ws from ≡ word_of (Cap k) → k < 2 ^ 32
      → target (ws ∷ []) (here from) ≡ Ok (targets.Cap k)
  names-cap from k e h = names from (Cap k) (ap pointer_of e ∙ pointer_of-word_of (Cap k) h)

  -- The target of the pointer to an empty struct, with the offset -1, is an empty struct at the pointer itself.
  pub names-empty : (from : ℕ) → slice_index ws from ≡ word_of (Node (negsuc 0) 0 0) → from ≤ length ws →
      target (ws ∷ []) (here from) ≡ Ok (targets.Content 0 from (shapes.Node 0 0) 0)
  unfolding pointer_of
  names-empty from e h =
      let z : from - 0 ≡ from = omega arith in
      names from (Node (negsuc 0) 0 0) (ap pointer_of e)
      ∙ ap (λ (r : Result ℕ Fault). Rattle.capn_target.specs.Target.struct_from (ws ∷ []) 0 r 0 0 0)
      (if-no (nat_lt from 0) _ _ (le-ltb from 0 (omega arith)) ∙ ap Ok z)
      ∙ in-reach from 0 _ (omega arith)

  -- The target of a struct pointer with the offset `n` is a struct at the word `from + 1 + n`.
  pub names-struct : (from n a b : ℕ) → slice_index ws from ≡ word_of (Node (pos n) a b) → n < 2 ^ 29 → a < 2 ^ 16
      → b < 2 ^ 16 → 0 < a + b →
      from + 1 + n + (a + b) ≤ length ws
      → target (ws ∷ []) (here from) ≡ Ok (targets.Content 0 (from + 1 + n) (shapes.Node a b) 0)
  names-struct from n a b e hn ha hb some h =
      names from (Node (pos n) a b) (ap pointer_of e ∙ pointer_of-word_of (Node (pos n) a b) (hn, ha, hb, omega arith))
      ∙ in-reach (from + 1 + n) (a + b) _ h

  list-plain : (start n : ℕ) (k : Width) → IsPlain k → start + content_words k n ≤ length ws →
      list (ws ∷ []) 0 start 0 k n ≡ Ok (targets.Content 0 start (shapes.Many k n) 0)
  list-plain start n W0 p h = in-reach start 0 _ h
  list-plain start n W1 p h = in-reach start _ _ h
  list-plain start n W8 p h = in-reach start _ _ h
  list-plain start n W16 p h = in-reach start _ _ h
  list-plain start n W32 p h = in-reach start _ _ h
  list-plain start n W64 p h = in-reach start _ _ h
  list-plain start n Link p h = in-reach start _ _ h
  list-plain start n Rows p h = absurd p

  -- The target of a list pointer with the offset `n` is a list at the word `from + 1 + n`.
  pub names-list : (from n c : ℕ) (k : Width) → IsPlain k → slice_index ws from ≡ word_of (Many (pos n) k c)
      → n < 2 ^ 29 → c < 2 ^ 29 →
      from + 1 + n + content_words k c ≤ length ws
      → target (ws ∷ []) (here from) ≡ Ok (targets.Content 0 (from + 1 + n) (shapes.Many k c) 0)
  names-list from n c k p e hn hc h =
      names from (Many (pos n) k c) (ap pointer_of e ∙ pointer_of-word_of (Many (pos n) k c) (hn, hc))
      ∙ list-plain (from + 1 + n) c k p h

  -- The target of the pointer to a list of structs is that list. Its tag word is a struct pointer with the number of
  -- structs as its offset.
  pub names-rows : (from n c a b d : ℕ) → slice_index ws from ≡ word_of (Many (pos n) Rows d) → n < 2 ^ 29 → d < 2 ^ 29
      →
      slice_index ws (from + 1 + n) ≡ word_of (Node (pos c) a b) → c < 2 ^ 30 → a < 2 ^ 16 → b < 2 ^ 16
      → c * (a + b) ≤ d →
      from + 1 + n + (1 + d) ≤ length ws
      → target (ws ∷ []) (here from) ≡ Ok (targets.Content 0 (from + 1 + n) (shapes.Rows c a b d) 0)
  names-rows from n c a b d e hn hd t hc ha hb fit h =
      names from (Many (pos n) Rows d) (ap pointer_of e ∙ pointer_of-word_of (Many (pos n) Rows d) (hn, hd))
      ∙ in-reach (from + 1 + n) (1 + d) _ h
      ∙ ap (tagged (ws ∷ []) 0 (from + 1 + n) 0 d) t
      ∙ tag (from + 1 + n) (word_of (Node (pos c) a b)) refl
    where
      tag : (start w : ℕ) → w ≡ word_of (Node (pos c) a b)
          → tagged (ws ∷ []) 0 start 0 d w ≡ Ok (targets.Content 0 start (shapes.Rows c a b d) 0)
      tag start w i =
          let z : field 0 2 w ≡ 0 = omega arith in
          let x : field 2 30 w ≡ c = omega arith in
          let y : field 32 16 w ≡ a = omega arith in
          let v : field 48 16 w ≡ b = omega arith in
          if-yes (field 0 2 w == 0) _ _ (same-yes (field 0 2 w) 0 z)
          ∙ if-no (nat_lt d (field 2 30 w * (field 32 16 w + field 48 16 w))) _ _
          (rw (x, y, v) (le-ltb d (c * (a + b)) fit))
          ∙ cc
