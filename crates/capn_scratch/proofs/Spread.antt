-- Lemmas on the word that a tag and the bytes after it unpack to. (For `spread` and `Groups`.)
use Rattle.std.proofs.Common.{◌≡◌, ℕ, zero, suc, ◌+◌, ◌/◌, ◌%◌, ◌^◌, ◌<◌}
use Rattle.std.proofs.Common.{◌≤◌, inl, inr, List, [], ◌∷◌, ◌++◌, length, take}
use Rattle.std.proofs.Common.{get_or, refl, sym, ap, subst, ◌∙◌, arith, append_assoc}
use Rattle.std.proofs.Math.Seq.{take-suc}
use Rattle.std.specs.Prelude.{set}
use Rattle.std.proofs.lemmas.Bool.{cases_eq}
use Rattle.std.proofs.lemmas.Nat.{zero_from_ones}
use Rattle.std.proofs.lemmas.List.{take_more_set, length-take-le}
use Rattle.std.proofs.Common.{pow-suc}
use Rattle.std.specs.Prelude.{count_ones}
use Rattle.capn_pack.specs.Packed.{named_bytes, IsNamedBy}
use Rattle.capn_pack.proofs.shared.SpreadLemmas.{named_none, named_one, no_ones, ones_half, parity}

-- A tag that is not 0 names at least one byte.
pub some_ones : (tag : ℕ) → 0 < tag → 0 < count_ones tag
some_ones tag some = elim (cases_eq (count_ones tag) 0) [
  | inl none ↦ absurd (omega (arith, zero_from_ones tag none))
  | inr other ↦ omega (arith, other)
]

-- ---- one bit more

module _ (tag left b i next : ℕ) (word bytes : List ℕ) (inside : i < length word) where
  joined : (ws : List ℕ) → take (i + 1) (set word i b) ++ ws ≡ take i word ++ (b ∷ ws)
  joined ws = ap (λ (xs : List ℕ). xs ++ ws) (take_more_set word i b inside) ∙ append_assoc (take i word) (b ∷ []) ws

  pub spread_named : ((ws : List ℕ) → IsNamedBy left ws → IsNamedBy tag (take i word ++ ws))
      → (left % 2 ≡ 0 → b ≡ 0) → (ws : List ℕ) → IsNamedBy (left / 2) ws
      → IsNamedBy tag (take (i + 1) (set word i b) ++ ws)
  spread_named before none ws k =
      subst (λ (xs : List ℕ). IsNamedBy tag xs) (sym (joined ws)) (before (b ∷ ws) (none, k))

  pub spread_bytes : ((ws : List ℕ) → named_bytes tag (take i word ++ ws) ≡ take next bytes ++ named_bytes left ws)
      → (left % 2 ≡ 1 → b ≡ get_or bytes next 0) → (left % 2 ≡ 1 → next < length bytes) → (ws : List ℕ)
      → named_bytes tag (take (i + 1) (set word i b) ++ ws)
      ≡ take (next + left % 2) bytes ++ named_bytes (left / 2) ws
  spread_bytes before named there ws =
      ap (λ (xs : List ℕ). named_bytes tag xs) (joined ws) ∙ before (b ∷ ws)
      ∙ elim (parity left) [
        | inl even ↦
            (let same : next ≡ next + left % 2 = omega (arith, even) in
            ap (λ (xs : List ℕ). take next bytes ++ xs) (named_none left b ws even)
            ∙ ap (λ (n : ℕ). take n bytes ++ named_bytes (left / 2) ws) same)
        | inr odd ↦
            (let more : suc next ≡ next + left % 2 = omega (arith, odd) in
            let one : take next bytes ++ (b ∷ []) ≡ take (next + left % 2) bytes =
            ap (λ (x : ℕ). take next bytes ++ (x ∷ [])) (named odd)
            ∙ sym (take-suc bytes next 0 (there odd)) ∙ ap (λ (n : ℕ). take n bytes) more in
            ap (λ (xs : List ℕ). take next bytes ++ xs) (named_one left b ws odd)
            ∙ sym (append_assoc (take next bytes) (b ∷ []) (named_bytes (left / 2) ws))
            ∙ ap (λ (xs : List ℕ). xs ++ named_bytes (left / 2) ws) one)
      ]

-- ---- all bits

-- A tag names as many bytes of `word` as it has bits that are set.
length_named : (n tag : ℕ) (word : List ℕ) → length word ≡ n → tag < 2 ^ n
    → length (named_bytes tag word) ≡ count_ones tag
length_named n tag [] long less =
    let none : tag ≡ 0 = omega (arith, less, ap (λ (k : ℕ). 2 ^ k) long) in
    omega (arith, ap count_ones none, no_ones)
length_named zero tag (x ∷ xs) long less = absurd (omega arith)
length_named (suc n) tag (x ∷ xs) long less =
    let half : tag / 2 < 2 ^ n = omega (arith, less, pow-suc 2 n) in
    let rest = length_named n (tag / 2) xs (omega (arith, long)) half in
    elim (parity tag) [
      | inl even ↦ omega (arith, even, ap length (named_none tag x xs even), ones_half tag, rest)
      | inr odd ↦ omega (arith, odd, ap length (named_one tag x xs odd), ones_half tag, rest)
    ]

-- If the bytes that `tag` names in `word` are the first `next` of `bytes`, they are the first `count_ones tag` bytes.
pub spread_all : (tag next : ℕ) (word bytes : List ℕ) → length word ≡ 8 → tag < 2 ^ 8 → next ≤ length bytes
    → named_bytes tag word ≡ take next bytes → named_bytes tag word ≡ take (count_ones tag) bytes
spread_all tag next word bytes long small inside e =
    let size : next ≡ count_ones tag =
    sym (length-take-le next bytes inside) ∙ ap length (sym e) ∙ length_named 8 tag word long small in
    e ∙ ap (λ (n : ℕ). take n bytes) size

-- A word of `n` bytes that is zero where `tag` names no byte. The bytes that `tag` names are the first of `bytes`.
pub record Spread (n tag : ℕ) (bytes : List ℕ) : Type 0 where
  pub word : List ℕ
  pub long : length word ≡ n
  pub named : IsNamedBy tag word
  pub bytes_are : named_bytes tag word ≡ take (count_ones tag) bytes

-- Case: the lowest bit of `tag` is set. That bit names the first of `bytes`, and the other bits name the bytes after
-- it.
spread_one : (n tag : ℕ) (bytes : List ℕ) → tag % 2 ≡ 1 → count_ones tag ≡ suc (count_ones (tag / 2))
    → count_ones tag ≤ length bytes
    → ((rest : List ℕ) → count_ones (tag / 2) ≤ length rest → Spread n (tag / 2) rest) → Spread (suc n) tag bytes
spread_one n tag [] odd ones fits more = absurd (omega (arith, ones, fits))
spread_one n tag (b ∷ bytes) odd ones fits more =
    let rest = more bytes (omega (arith, ones, fits)) in
    record {
      word = b ∷ rest.word;
      long = omega (arith, rest.long);
      named = ((λ e. absurd (omega (arith, e, odd))), rest.named);
      bytes_are =
          named_one tag b rest.word odd ∙ ap (λ (xs : List ℕ). b ∷ xs) rest.bytes_are
          ∙ ap (λ (k : ℕ). take k (b ∷ bytes)) (sym ones);
    }

pub spread_from : (n tag : ℕ) (bytes : List ℕ) → tag < 2 ^ n → count_ones tag ≤ length bytes → Spread n tag bytes
spread_from zero tag bytes small fits =
    let none : tag ≡ 0 = omega arith in
    let no : count_ones tag ≡ 0 = ap count_ones none ∙ no_ones in
    record { word = []; long = refl; named = tt; bytes_are = sym (ap (λ (k : ℕ). take k bytes) no) }
spread_from (suc n) tag bytes small fits = elim (parity tag) [
  | inl even ↦
      (let ones : count_ones tag ≡ count_ones (tag / 2) = omega (arith, even, ones_half tag) in
      let rest = spread_from n (tag / 2) bytes (omega (arith, small, pow-suc 2 n)) (omega (arith, ones, fits)) in
      record {
        word = 0 ∷ rest.word;
        long = omega (arith, rest.long);
        named = ((λ e. refl), rest.named);
        bytes_are =
            named_none tag 0 rest.word even ∙ rest.bytes_are ∙ ap (λ (k : ℕ). take k bytes) (sym ones);
      })
  | inr odd ↦
      (let ones : count_ones tag ≡ suc (count_ones (tag / 2)) = omega (arith, odd, ones_half tag) in
      spread_one n tag bytes odd ones fits
      (λ rest more. spread_from n (tag / 2) rest (omega (arith, small, pow-suc 2 n)) more))
]
