-- The case of `Belonging` in which word `k` belongs to a list of numbers. (For `Belonging`.)
use Rattle.std.proofs.Common.{◌≡◌, ◌⊎◌, inl, inr, ℕ, ◌+◌, ◌-◌, ◌*◌, ◌/◌, ◌%◌, ◌^◌, ◌<◌, ◌≤◌, ◌==◌}
use Rattle.std.proofs.Common.{◌&&◌, nat_lt, true, List, [], ◌∷◌, length, take, drop, slice_index}
use Rattle.std.proofs.Common.{Some, Ok, ap, ap₂, sym, subst, ◌∙◌, arith, length-append}
use Rattle.std.proofs.Math.ListN.{get_or-append}
use Rattle.std.proofs.lemmas.List.{get_or-take, get_or-drop, length-take-le}
use Rattle.std.proofs.lemmas.Bool.Decides.{nat_tests}
use Rattle.capn_words.specs.declared.pointer.Width.{Width}
use Rattle.capn_words.proofs.shared.Choices.{if-yes}
use Rattle.capn_value.specs.Tree.{numbers}
use Rattle.capn_target.specs.declared.target.Target.TheVariants as targets
use Rattle.capn_target.specs.declared.target.Shape.{Shape}
use Rattle.capn_target.specs.declared.target.Shape.TheVariants as shapes
use Rattle.capn_walk.specs.Visits.{visits}
use Rattle.capn_layout.specs.Layout.{list_to}
use Rattle.capn_target.specs.Target.{content_words}
use Rattle.capn_layout.specs.Layout.{point, lay}
use Rattle.capn_layout.proofs.shared.Shaped.{inside-of}
use Rattle.capn_layout.proofs.shared.FirstBits.{list-of, plain-words}
use Rattle.capn_layout.specs.FirstBits.{element_bits, first_bits, last_bits}
use Rattle.capn_walk.specs.ValueAt.{IsInside, words_from}
use Rattle.capn_mismatch.specs.declared.word_kind.WordKind.TheVariants as finding
use Rattle.capn_mismatch.specs.inner.Search.{found_there, is_small}
use Rattle.capn_value.specs.NumberWidth.{NumberWidth, bit, byte, pair, quad, oct}
use Rattle.capn_target.specs.Target.{list_width}
use Rattle.capn_target.specs.Shapes.{IsPlain}
use Rattle.capn_mismatch.proofs.Pointed.{IsFlat}
use Rattle.std.proofs.Common.{length-drop}
use Rattle.capn_mismatch.proofs.Pointed.{here, list-named}
use Rattle.capn_mismatch.proofs.Owned.{found-begins, not-there, Owned}
use Rattle.capn_mismatch.proofs.Lying.{lies-as}
use Rattle.capn_mismatch.proofs.Told.{same-word, Slot, Told, Same, decided}
use Rattle.capn_mismatch.proofs.StructsTold.{Both, both-within}

module _ (ws cs : List ℕ) (base k : ℕ) (small : length cs ≤ 2 ^ 29)
    (same : (j : ℕ) → j < k → slice_index ws j ≡ slice_index cs j) (each : (j : ℕ) → slice_index ws j < 2 ^ 64) where
  abbrev pub n : List (List ℕ)
  n = ws ∷ []

  abbrev pub m : List (List ℕ)
  m = cs ∷ []

  -- ---- a list of numbers

  module _ (a : NumberWidth) (xs : List ℕ) (p to d : ℕ) (h : Slot ws cs base k (numbers a xs) p to d) where
    abbrev pub numbers-shape : Shape
    numbers-shape = shapes.Many (list_width a) (length xs)

    abbrev pub taken : ℕ
    taken = content_words (list_width a) (length xs)

    pub flat : (a : NumberWidth) → IsFlat (list_width a)
    flat bit = tt
    flat byte = tt
    flat pair = tt
    flat quad = tt
    flat oct = tt

    pub plain : (a : NumberWidth) → IsPlain (list_width a)
    plain bit = tt
    plain byte = tt
    plain pair = tt
    plain quad = tt
    plain oct = tt

    pub numbers-pointer : slice_index cs p ≡ list_to p to (list_width a) (length xs)
    unfolding point
    numbers-pointer = h.pointer

    pub numbers-both : Both ws cs base k small same p to taken numbers-shape
    numbers-both =
        let o = h.sound in
        let r = h.room in
        let e = h.ends in
        let q = h.order in
        both-within ws cs base k small same (numbers a xs) p to taken numbers-shape h.is
        (list-named ws p to (length xs) (list_width a) (flat a) q (omega arith) o.0 (same p h.before ∙ numbers-pointer))
        (list-named cs p to (length xs) (list_width a) (flat a) q (omega arith) o.0 numbers-pointer) (omega arith)

    pub numbers-inside : IsInside n numbers-shape 0 to (numbers a xs)
    numbers-inside = inside-of n (here p) 0 to 0 numbers-shape numbers-both.message (numbers a xs) h.is

    abbrev pub bits : ℕ
    bits = element_bits (list_width a) * length xs

    pub below-64 : (i : ℕ) → slice_index (words_from n 0 to) i < 2 ^ 64
    below-64 i = subst (λ (x : ℕ). x < 2 ^ 64) (sym (get_or-drop to ws i 0)) (each (to + i))

    pub words-are : lay (numbers a xs) to ≡ first_bits bits (drop to ws)
    words-are =
        let k = plain-words (list_width a) (length xs) (plain a) in
        let u = numbers-both.inside in
        let l = length-drop to ws in
        (list-of n (list_width a) (length xs) 0 to (plain a) below-64 (omega arith) (numbers a xs) numbers-inside).0 to

    -- Case: if all bits of word `k` are bits of elements, word `k` is the same in `ws` and `cs`.
    pub whole-word : k < to + bits / 64 → Same ws cs base k
    whole-word lt =
        let j = k - to in
        let s = h.starts in
        let e : to + j ≡ k = omega arith in
        let w = plain-words (list_width a) (length xs) (plain a) in
        let u = numbers-both.inside in
        let l = length-drop to ws in
        let front = take (bits / 64) (drop to ws) in
        let last = last_bits (bits % 64) (drop (bits / 64) (drop to ws)) in
        let f = length-take-le (bits / 64) (drop to ws) (omega arith) in
        let g = length-append front last in
        let c = lies-as cs to _ _ words-are h.content j (omega arith) in
        let x = get_or-append front last 0 j (omega arith) in
        let y = get_or-take (bits / 64) (drop to ws) j 0 (omega arith) in
        let z = get_or-drop to ws j 0 in
        ap (slice_index ws) (sym e) ∙ sym z ∙ sym y ∙ sym x ∙ sym c ∙ ap (slice_index cs) e

    -- Case: if the elements are small (`is_small`), and word `k` is the last word of the list, `Owned` holds.
    pub last-word : is_small (list_width a) ≡ true → k + 1 ≡ to + taken → Owned cs base k (visits m base d (here p))
    last-word small e =
        let s = h.starts in
        let q : (0 == 0) && (nat_lt 0 taken && (to + taken == k + 1)) ≡ true = grind (arith, nat_tests) in
        found-begins cs base k d (here p) finding.LastWord (not-there cs base k p (Ok (targets.Content 0 to
        numbers-shape 0)) (Some finding.LastWord) h.before numbers-both.canonical
        (there (list_width a) (length xs) small q))
      where
        there : (w : Width) (c : ℕ) → is_small w ≡ true
            → ((0 == 0) && (nat_lt 0 (content_words w c) && (to + content_words w c == k + 1))) ≡ true
            → found_there (here k) (Ok (targets.Content 0 to (shapes.Many w c) 0)) ≡ Some finding.LastWord
        there w c small q =
            if-yes (is_small w && ((0 == 0) && (nat_lt 0 (content_words w c) && (to + content_words w c == k + 1))))
            _ _ (ap₂ ◌&&◌ small q)

    pub numbers-told : is_small (list_width a) ≡ true → Told ws cs base k (visits m base d (here p))
    numbers-told small = from (decided k (to + bits / 64))
      where
        from : (k < to + bits / 64) ⊎ (to + bits / 64 ≤ k) → Told ws cs base k (visits m base d (here p))
        from (inl u) =
            let i = numbers-both.inside in
            let e = h.ends in
            (omega arith, inl (whole-word u))
        from (inr u) =
            let w = plain-words (list_width a) (length xs) (plain a) in
            let i = numbers-both.inside in
            let e = h.ends in
            (omega arith, inr (last-word small (omega arith)))

  pub words-told : (xs : List ℕ) (p to d : ℕ) → Slot ws cs base k (numbers oct xs) p to d → Told ws cs base k
      (visits m base d (here p))
  words-told xs p to d h =
      let i = (numbers-both oct xs p to d h).inside in
      let e = h.ends in
      let j = numbers-inside oct xs p to d h in
      (omega arith, inl (same-word ws cs base k to xs j.1 h.content h.starts (omega arith)))
