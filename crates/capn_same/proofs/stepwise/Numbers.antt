-- Two lists of `n` numbers of one width are the same exactly if their bits are equal. (For `is_same_content`.)
use Rattle.std.proofs.Common.{◌≡◌, ◌↔◌, ◌⊎◌, inl, inr, ℕ, ◌*◌, ◌/◌, ◌%◌, ◌<◌, ◌≤◌, ◌^◌, List, [], ◌++◌}
use Rattle.std.proofs.Common.{length}
use Rattle.std.proofs.Common.{slice_index, refl, ap, sym, subst, ◌∙◌, arith}
use Rattle.std.proofs.Math.Nat.{mod-lt}
use Rattle.std.proofs.lemmas.Bool.{cases_lt}
use Rattle.std.proofs.lemmas.Grind.{same_number_lists}
use Rattle.std.proofs.lemmas.List.{get_or_past}
use Rattle.capn_words.specs.declared.pointer.Width.{Width}
use Rattle.capn_words.specs.declared.pointer.Width.TheVariants.{W0, W1, W8, W16, W32, Link}
use Rattle.capn_value.specs.NumberWidth.{NumberWidth, bit, byte, pair, quad, oct}
use Rattle.capn_value.specs.Tree.{Tree, nil, node, voids, numbers, links, rows, cap}
use Rattle.capn_value.specs.Same.{Same}
use Rattle.capn_target.specs.Target.{list_width, words_for, content_words}
use Rattle.capn_target.specs.Shapes.{IsPlain}
use Rattle.capn_target.specs.declared.target.Shape.TheVariants as shapes
use Rattle.capn_walk.specs.ValueAt.{element, AreElements, AreNumbers, IsInside, words_from}
use Rattle.capn_walk.proofs.shared.Numbers.{same-list_width, no-number_width}
use Rattle.capn_layout.specs.FirstBits.{first_bits, element_bits}
use Rattle.capn_layout.specs.Layout.{packed, lay}
use Rattle.capn_layout.specs.Sound.{AreBelow}
use Rattle.capn_layout.proofs.shared.FirstBits.{list-of}
use Rattle.capn_layout.proofs.shared.PackedElements.{packed-elements}

below : (each width : ℕ) (ws xs : List ℕ) → 0 < 2 ^ width → AreElements each width ws xs → AreBelow (2 ^ width) xs
below each width ws xs p h i = by (cases_lt i (length xs))
  where
    by : (i < length xs) ⊎ (length xs ≤ i) → slice_index xs i < 2 ^ width
    by (inl lt) =
        let m = mod-lt (slice_index ws (i / each) / (2 ^ width) ^ (i % each)) p in let e = h i lt in omega arith
    by (inr le) = let e = get_or_past xs i 0 le in omega arith

unpacked : (each width : ℕ) (size : ℕ → ℕ) (xs ys ws vs : List ℕ) → 0 < each → 0 < 2 ^ width
    → ((n i : ℕ) → i < n → i / each < size n) → AreElements each width ws xs → AreElements each width vs ys
    → length xs ≡ length ys
    → packed each width (size (length xs)) xs ≡ packed each width (size (length ys)) ys → xs ≡ ys
unpacked each width size xs ys ws vs some p room h k l e =
    same_number_lists xs ys l (λ i lt.
    packed-elements each width (size (length xs)) xs [] some p (below each width ws xs p h) (room (length xs)) i lt
    ∙ ap (λ (us : List ℕ). element each width (us ++ []) i) e
    ∙ sym (packed-elements each width (size (length ys)) ys [] some p (below each width vs ys p k) (room (length ys)) i
    (omega arith)))

laid : (a : NumberWidth) (xs ys ws vs : List ℕ) → AreNumbers a ws xs → AreNumbers a vs ys → length xs ≡ length ys
    → lay (numbers a xs) 0 ≡ lay (numbers a ys) 0 → xs ≡ ys
laid oct xs ys ws vs h k l e = e
laid bit xs ys ws vs h k l e =
    unpacked 64 1 (content_words W1) xs ys ws vs (omega arith) (omega arith) (λ n i lt. omega arith) h k l e
laid byte xs ys ws vs h k l e =
    unpacked 8 8 (content_words W8) xs ys ws vs (omega arith) (omega arith) (λ n i lt. omega arith) h k l e
laid pair xs ys ws vs h k l e =
    unpacked 4 16 (content_words W16) xs ys ws vs (omega arith) (omega arith) (λ n i lt. omega arith) h k l e
laid quad xs ys ws vs h k l e =
    unpacked 2 32 (content_words W32) xs ys ws vs (omega arith) (omega arith) (λ n i lt. omega arith) h k l e

abbrev AreAlike : Tree → Tree → Type 0
AreAlike x y = (lay x 0 ≡ lay y 0) ↔ Same x y

numbers-alike : (a b : NumberWidth) (xs ys ws vs : List ℕ) → a ≡ b → length xs ≡ length ys → AreNumbers a ws xs
    → AreNumbers b vs ys → AreAlike (numbers a xs) (numbers b ys)
numbers-alike a b xs ys ws vs e l h =
    subst (λ (c : NumberWidth). AreNumbers c vs ys → AreAlike (numbers a xs) (numbers c ys)) e
    (λ k. ((λ q. (refl, laid a xs ys ws vs h k l q)), (λ q. ap (λ (zs : List ℕ). lay (numbers a zs) 0) q.1)))

-- `x` is a list of `n` numbers of the width `width`, which are read from the words `ws`
record IsNumbers (width : Width) (n : ℕ) (ws : List ℕ) (x : Tree) : Type 0 where
  pub of : NumberWidth
  pub list : List ℕ
  pub wide : width ≡ list_width of
  pub long : length list ≡ n
  pub is : x ≡ numbers of list
  pub stand : AreNumbers of ws list

abbrev IsPlainList : Width → ℕ → List ℕ → Tree → Type 0
IsPlainList width n ws x = ((width ≡ W0) × (x ≡ voids n)) ⊎ IsNumbers width n ws x

plain-list : (m : List (List ℕ)) (width : Width) (n s w : ℕ) (x : Tree) → IsPlain width
    → IsInside m (shapes.Many width n) s w x → IsPlainList width n (words_from m s w) x
plain-list m width n s w nil plain h = absurd h
plain-list m width n s w (cap k) plain h = absurd h
plain-list m width n s w (node ws ss) plain h = let f = h.0 in absurd (cc)
plain-list m width n s w (links ts) plain h =
    let f = h.0 in let e : width ≡ Link = cc in absurd (subst IsPlain e plain)
plain-list m width n s w (rows bs) plain h = let f = h.3 in absurd (cc)
plain-list m width n s w (voids k) plain h =
    let e : k ≡ n = cc in inl (cc, ap voids e)
plain-list m width n s w (numbers a xs) plain h =
    let f = h.0 in
    inr (record { of = a; list = xs; wide = cc; long = cc; is = refl; stand = h.1 })

alike : (width : Width) (n : ℕ) (ws vs : List ℕ) (x y : Tree) → IsPlainList width n ws x → IsPlainList width n vs y
    → AreAlike x y
alike width n ws vs x y (inl a) (inl b) =
    subst (λ (t : Tree). AreAlike x t) (sym b.1)
    (subst (λ (t : Tree). AreAlike t (voids n)) (sym a.1) ((λ _. refl), (λ _. refl)))
alike width n ws vs x y (inl a) (inr b) = absurd (no-number_width b.of W0 refl (sym b.wide ∙ a.0))
alike width n ws vs x y (inr a) (inl b) = absurd (no-number_width a.of W0 refl (sym a.wide ∙ b.0))
alike width n ws vs x y (inr a) (inr b) =
    subst (λ (t : Tree). AreAlike x t) (sym b.is)
    (subst (λ (t : Tree). AreAlike t (numbers b.of b.list)) (sym a.is)
    (numbers-alike a.of b.of a.list b.list ws vs (same-list_width a.of b.of (sym a.wide ∙ b.wide))
    (a.long ∙ sym b.long) a.stand b.stand))

-- `x` is the list of `n` elements of the width `width` from word `w` of segment `s` on, and all words of the list exist
pub record IsList (m : List (List ℕ)) (width : Width) (n s w : ℕ) (x : Tree) : Type 0 where
  pub each : (i : ℕ) → slice_index (words_from m s w) i < 2 ^ 64
  pub room : words_for (element_bits width * n) ≤ length (words_from m s w)
  pub is : IsInside m (shapes.Many width n) s w x

-- two lists of `n` elements without pointers are the same exactly if their bits are equal
pub same-bits : (m k : List (List ℕ)) (width : Width) (n s w t v : ℕ) (x y : Tree) → IsPlain width
    → IsList m width n s w x → IsList k width n t v y
    → (first_bits (element_bits width * n) (words_from m s w)
    ≡ first_bits (element_bits width * n) (words_from k t v)) ↔ Same x y
same-bits m k width n s w t v x y plain h g =
    let a = (list-of m width n s w plain h.each h.room x h.is).0 0 in
    let b = (list-of k width n t v plain g.each g.room y g.is).0 0 in
    let c = alike width n (words_from m s w) (words_from k t v) x y (plain-list m width n s w x plain h.is)
    (plain-list k width n t v y plain g.is) in
    ((λ e. c.0 (a ∙ e ∙ sym b)), (λ q. sym a ∙ c.1 q ∙ b))
