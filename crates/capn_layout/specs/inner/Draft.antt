-- The changes of a slice of bytes into which words are written.
use Rattle.std.specs.Prelude.{◌≡◌, ℕ, ◌+◌, ◌*◌, List, ◌++◌, length, take, drop, set}
use Rattle.capn_words.specs.Message.{words_in}

-- The bytes `q` are `p` after `xs` are written over the bytes from offset `at` on. (Our own.)
abbrev pub Writes : ℕ → List ℕ → List ℕ → List ℕ → Type 0
Writes at xs p q = q ≡ take at p ++ (xs ++ drop (at + length xs) p)

-- `p` and `q` have the same length, and the same bytes after the first `n` words. (Our own.)
pub record IsKept (n : ℕ) (p q : List ℕ) : Type 0 where
  pub same : length q ≡ length p
  pub rest : drop (8 * n) q ≡ drop (8 * n) p

-- The first `m` words of `q` are the first `n` words of `p`, followed by `ws`. All bytes after these `m` words are as
-- in `p`. (Our own.)
pub record Appends (n m : ℕ) (ws p q : List ℕ) : Type 0 where
  pub words : words_in m q ≡ words_in n p ++ ws
  pub kept : IsKept m p q

-- The first `n` words of `q` are the first `n` words of `p`, except that word `at` is `word`. All bytes after these `n`
-- words are as in `p`. (Our own.)
pub record Puts (n at word : ℕ) (p q : List ℕ) : Type 0 where
  pub words : words_in n q ≡ set (words_in n p) at word
  pub kept : IsKept n p q
