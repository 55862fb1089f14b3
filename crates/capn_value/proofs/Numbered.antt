-- Lemmas for `show_octs`, `show_pairs`, `show_quads` and `word_lines`: the text after a loop that writes a line for
-- each number or word.
use Rattle.std.proofs.Common.{◌≡◌, ℕ, ◌+◌, ◌<◌, List, ◌∷◌, ◌++◌, length, drop, codes, sym, ap, ◌∙◌, add-one}
use Rattle.std.proofs.Common.{append_assoc}
use Rattle.std.proofs.Math.Seq.{drop-cons}
use Rattle.std.proofs.lemmas.List.{append-nil}
use Rattle.std.specs.Fmt.{decimal}
use Rattle.std.specs.Prelude.{slice_index}
use Rattle.capn_value.specs.Text.{line, number_lines, word_lines, hex16}
use Rattle.capn_value.proofs.Anywhere.{drop-past}

module _ (out : List ℕ) (level : ℕ) (xs : List ℕ) (i : ℕ) {all : List ℕ}
    (so_far : out ++ number_lines level (drop i xs) ≡ all) where
  pub number_written : (x : ℕ) (more : List ℕ) → i < length xs → x ≡ slice_index xs i
      → more ≡ out ++ line level (decimal x) → more ++ number_lines level (drop (i + 1) xs) ≡ all
  number_written x more h is e =
      let rest = drop (i + 1) xs in
      let next : drop i xs ≡ slice_index xs i ∷ rest = rw add-one (drop-cons xs i 0 h) in
      ap (λ (l : List ℕ). l ++ number_lines level rest) (e ∙ ap (λ n. out ++ line level (decimal n)) is)
      ∙ append_assoc out (line level (decimal (slice_index xs i))) (number_lines level rest)
      ∙ sym (ap (λ (l : List ℕ). out ++ number_lines level l) next) ∙ so_far

  pub numbers_written : i ≡ length xs → out ≡ all
  numbers_written e =
      sym (append-nil out) ∙ sym (ap (λ (l : List ℕ). out ++ number_lines level l) (drop-past xs i e)) ∙ so_far

module _ (out : List ℕ) (level : ℕ) (xs : List ℕ) (i : ℕ) {all : List ℕ}
    (so_far : out ++ word_lines level (drop i xs) ≡ all) where
  pub word_written : (x : ℕ) (more : List ℕ) → i < length xs → x ≡ slice_index xs i
      → more ≡ out ++ line level (codes "word " ++ hex16 x) → more ++ word_lines level (drop (i + 1) xs) ≡ all
  word_written x more h is e =
      let rest = drop (i + 1) xs in
      let next : drop i xs ≡ slice_index xs i ∷ rest = rw add-one (drop-cons xs i 0 h) in
      ap (λ (l : List ℕ). l ++ word_lines level rest) (e ∙ ap (λ n. out ++ line level (codes "word " ++ hex16 n)) is)
      ∙ append_assoc out (line level (codes "word " ++ hex16 (slice_index xs i))) (word_lines level rest)
      ∙ sym (ap (λ (l : List ℕ). out ++ word_lines level l) next) ∙ so_far

  pub words_written : i ≡ length xs → out ≡ all
  words_written e =
      sym (append-nil out) ∙ sym (ap (λ (l : List ℕ). out ++ word_lines level l) (drop-past xs i e)) ∙ so_far

pub behind_first : (o m x y : List ℕ) {out : List ℕ} → out ≡ m ++ y → m ≡ o ++ x → out ≡ o ++ (x ++ y)
behind_first o m x y e f = e ∙ ap (λ l. l ++ y) f ∙ append_assoc o x y
