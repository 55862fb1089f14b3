-- Worked examples: for the words of the encoding page, `Chosen` holds of the page's packed texts.
use Rattle.std.proofs.Common.{◌≡◌, ℕ, List, [], ◌∷◌, ◌++◌, get_or, replicate, refl, ap, arith}
use Rattle.capn_pack.specs.Packed.Group.{Named, Raw, Zeros}
use Rattle.capn_pack.specs.Chosen.{Chosen}
use Rattle.capn_pack.specs.Packed.{IsNamedBy, tag_of}

-- the bytes 08 00 00 00 03 00 02 00
first_word : List ℕ
first_word = 8 ∷ 0 ∷ 0 ∷ 0 ∷ 3 ∷ 0 ∷ 2 ∷ 0 ∷ []

-- the bytes 19 00 00 00 aa 01 00 00
second_word : List ℕ
second_word = 25 ∷ 0 ∷ 0 ∷ 0 ∷ 170 ∷ 1 ∷ 0 ∷ 0 ∷ []

-- the tag of the first word is 51 in hexadecimal
first_tag : tag_of first_word ≡ 81
unfolding first_word
first_tag = refl

odd : (x : ℕ) → ◌≡◌ {A = ℕ} 1 0 → x ≡ 0
odd x e = absurd (omega (arith, e))

first_named : IsNamedBy 81 first_word
unfolding first_word
first_named = (odd 8, (λ _. refl, (λ _. refl, (λ _. refl, (odd 3, (λ _. refl, (odd 2, (λ _. refl, tt))))))))

second_named : IsNamedBy 49 second_word
unfolding second_word
second_named = (odd 25, (λ _. refl, (λ _. refl, (λ _. refl, (odd 170, (odd 1, (λ _. refl, (λ _. refl, tt))))))))

-- two words that are written with tags: 51 08 03 02 31 19 aa 01
two_words : Chosen (81 ∷ 8 ∷ 3 ∷ 2 ∷ 49 ∷ 25 ∷ 170 ∷ 1 ∷ []) (first_word ++ second_word)
unfolding first_word second_word
two_words = record {
  groups = Named 81 first_word ∷ Named 49 second_word ∷ [];
  chosen = (
    (omega arith, omega arith, refl, first_named),
    refl,
    ((omega arith, omega arith, refl, second_named), refl, tt),
  );
  text = refl;
  content = refl;
}

-- four zero words, then four words of bytes 8a: the text is 00 03 ff, eight times 8a, 03, 24 times 8a
zeros_then_raw : Chosen (0 ∷ 3 ∷ 255 ∷ replicate 8 138 ++ 3 ∷ replicate 24 138) (replicate 32 0 ++ replicate 32 138)
zeros_then_raw = record {
  groups = Zeros 3 ∷ Raw (replicate 8 138) 3 (replicate 24 138) ∷ [];
  chosen = (
    omega arith,
    (λ _ e. let first : ◌≡◌ {A = ℕ} 138 0 = ap (λ (xs : List ℕ). get_or xs 0 0) e in omega (arith, first)),
    (
      (refl, omega arith, refl),
      (refl, ((refl, omega arith), ((refl, omega arith), ((refl, omega arith), refl))), (λ _ d. omega (arith, d.0))),
      tt,
    ),
  );
  text = refl;
  content = refl;
}
