-- Lemmas for `unpack`: the bytes that a text packs are the bytes of words.
use Rattle.std.proofs.Common.{sym, subst, replicate, ◌/◌, ◌≡◌, ℕ, zero, suc, ◌+◌, ◌*◌, ◌^◌, ◌<◌, ◌≤◌, List, [], ◌∷◌}
use Rattle.std.proofs.Common.{◌++◌, length, take, drop, get_or, refl, ap, ◌∙◌, arith, take-append-drop, length-take}
use Rattle.std.proofs.Common.{length-drop, get_or-drop, get_or-take, inl, inr}
use Rattle.std.proofs.lemmas.Bool.{cases_lt}
use Rattle.std.proofs.lemmas.Nat.{le_bytes_8}
use Rattle.std.specs.Int.{w64, to_le_bytes, from_le_bytes}
use Rattle.std.specs.List.{AllByRecursion}
use Rattle.capn_pack.specs.Packed.{named_bytes, IsNamedBy, Group, IsGroup, group_text, group_bytes, Packs, texts}
use Rattle.capn_pack.specs.Packed.{contents}
use Rattle.capn_pack.specs.Packed.{word_count}
use Rattle.capn_pack.specs.Packed.Group.{Zeros, Named, Raw}
use Rattle.capn_pack.proofs.shared.SpreadLemmas.{parity, named_one, named_none}
use Rattle.capn_pack.proofs.shared.GroupLemmas.{length_contents}
use Rattle.capn_pack.specs.Words.{AreBytes, HasWords}

word_lt : (w : List ℕ) → length w ≡ 8 → ((i : ℕ) → get_or w i 0 < 256) → from_le_bytes w64 w < 2 ^ 64
word_lt (a ∷ b ∷ c ∷ d ∷ e ∷ f ∷ g ∷ h ∷ []) long fits =
    omega (arith, fits 0, fits 1, fits 2, fits 3, fits 4, fits 5, fits 6, fits 7)
word_lt _ long fits = absurd (omega arith)

front_fits : (bs : List ℕ) → AreBytes bs → (i : ℕ) → get_or (take 8 bs) i 0 < 256
front_fits bs fits i =
    elim (cases_lt i 8) [
      | inl h ↦ rw get_or-take (fits i)
      | inr h ↦ rw (past (take 8 bs) i (omega (arith, length-take 8 bs))) (omega arith)
    ]
  where
    past : (xs : List ℕ) (k : ℕ) → length xs ≤ k → get_or xs k 0 ≡ 0
    past [] k h = refl
    past (x ∷ xs) zero h = absurd (omega arith)
    past (x ∷ xs) (suc k) h = past xs k (omega arith)

pub has_words : (n : ℕ) (bs : List ℕ) → length bs ≡ 8 * n → AreBytes bs → HasWords bs
has_words zero [] long fits = record { words = []; each = tt; bytes = refl }
has_words zero (b ∷ bs) long fits = absurd (omega arith)
has_words (suc n) bs long fits =
    let word = take 8 bs in
    let w = from_le_bytes w64 word in
    let size : length word ≡ 8 = simp length-take (omega arith) in
    let few : (i : ℕ) → get_or word i 0 < 256 = front_fits bs fits in
    let is : to_le_bytes w64 w ≡ word = le_bytes_8 word w size few refl in
    let rest = has_words n (drop 8 bs) (length-drop 8 bs ∙ omega arith) (λ i. rw get_or-drop (fits (8 + i))) in
    record {
      words = w ∷ rest.words;
      each = (word_lt word size few, rest.each);
      bytes = (λ i. is i ++ rest.bytes i) ∙ take-append-drop 8 bs;
    }

-- ---- each byte that a text packs is zero or a byte of the text

abbrev Small : List ℕ → Type 0
Small [] = Unit {0}
Small (x ∷ xs) = (x < 2 ^ 8) × Small xs

small_bytes : (xs : List ℕ) → AreBytes xs → Small xs
small_bytes [] h = tt
small_bytes (x ∷ xs) h = (h 0, small_bytes xs (λ i. h (suc i)))

are_bytes : (xs : List ℕ) → Small xs → AreBytes xs
are_bytes [] h i = omega arith
are_bytes (x ∷ xs) h zero = h.0
are_bytes (x ∷ xs) h (suc i) = are_bytes xs h.1 i

small_split : (xs ys : List ℕ) → Small (xs ++ ys) → Small xs × Small ys
small_split [] ys h = (tt, h)
small_split (x ∷ xs) ys h = let rest = small_split xs ys h.1 in ((h.0, rest.0), rest.1)

small_join : (xs ys : List ℕ) → Small xs → Small ys → Small (xs ++ ys)
small_join [] ys p q = q
small_join (x ∷ xs) ys p q = (p.0, small_join xs ys p.1 q)

small_zeros : (n : ℕ) → Small (replicate n 0)
small_zeros zero = tt
small_zeros (suc n) = (omega arith, small_zeros n)

small_named : (tag : ℕ) (word : List ℕ) → IsNamedBy tag word → Small (named_bytes tag word) → Small word
small_named tag [] by h = tt
small_named tag (x ∷ xs) by h =
    elim (parity tag) [
      | inl even ↦ let zero_byte = by.0 even in
          (omega arith, small_named (tag / 2) xs by.1 (rw (named_none tag x xs even) at h))
      | inr odd ↦ let named = rw (named_one tag x xs odd) at h in (named.0, small_named (tag / 2) xs by.1 named.1)
    ]

small_content : (g : Group) → IsGroup g → Small (group_text g) → Small (group_bytes g)
small_content (Zeros more) is h = small_zeros (8 * (1 + more))
small_content (Named tag word) is h = small_named tag word is.3 h.1
small_content (Raw word count more) is h = let parts = small_split word (count ∷ more) h.1 in
    small_join word more parts.0 parts.1.1

small_contents : (gs : List Group) → AllByRecursion IsGroup gs → Small (texts gs) → Small (contents gs)
small_contents [] each h = tt
small_contents (g ∷ gs) each h =
    let parts = small_split (group_text g) (texts gs) h in
    small_join (group_bytes g) (contents gs) (small_content g each.0 parts.0) (small_contents gs each.1 parts.1)

-- if the bytes `b` pack `bs`, then `bs` are the bytes of words
pub packs_words : (b bs : List ℕ) → Packs b bs → AreBytes b → HasWords bs
packs_words b bs p fits =
    let small : Small bs =
    subst Small (sym p.are_bytes) (small_contents p.groups p.each (subst Small p.is_text (small_bytes b fits))) in
    has_words (word_count p.groups) bs (ap length p.are_bytes ∙ length_contents p.groups p.each) (are_bytes bs small)
