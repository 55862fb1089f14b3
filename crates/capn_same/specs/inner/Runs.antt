-- Statements that some words of one segment equal words of another segment, or that some words are zero.
use Rattle.std.specs.Prelude.{◌≡◌, ℕ, ◌+◌, ◌*◌, ◌<◌, List, drop, slice_index}
use Rattle.capn_words.specs.Message.{word_number}

-- the `n` words of `xs` from word `w` on equal the `n` words of `ys` from word `v` on, one by one (Our own.)
abbrev pub AreEqual : List ℕ → ℕ → List ℕ → ℕ → ℕ → Type 0
AreEqual xs w ys v n = (i : ℕ) → i < n → slice_index xs (w + i) ≡ slice_index ys (v + i)

-- the `n` words of `xs` from word `w` on are zero (Our own.)
abbrev pub AreZeros : List ℕ → ℕ → ℕ → Type 0
AreZeros xs w n = (i : ℕ) → i < n → slice_index xs (w + i) ≡ 0

-- the first `n` words in the bytes `xs` equal the first `n` words in the bytes `ys`, one by one (Our own.)
abbrev pub BeginAlike : List ℕ → List ℕ → ℕ → Type 0
BeginAlike xs ys n = (i : ℕ) → i < n → word_number (drop (8 * i) xs) ≡ word_number (drop (8 * i) ys)
