-- The first bytes of a list of bytes, and the bytes of a word, are below 256. (For `Cells`, `Drafted` and
-- `PackedBytes`.)
use Rattle.std.proofs.Common.{◌≡◌, ℕ, zero, suc, ◌^◌, ◌<◌, List, [], ◌∷◌, take, ap, sym, ◌∙◌, arith, append-nil}
use Rattle.std.specs.Int.{byte_at, bytes_low_first}
use Rattle.capn_words.specs.Message.{word_number, word_bytes, AreBytes}
use Rattle.capn_words.proofs.shared.Words.{number-word_bytes}

pub AreBytes-take : (n : ℕ) (bs : List ℕ) → AreBytes bs → AreBytes (take n bs)
AreBytes-take zero bs h i = omega arith
AreBytes-take (suc n) [] h i = omega arith
AreBytes-take (suc n) (b ∷ bs) h zero = h 0
AreBytes-take (suc n) (b ∷ bs) h (suc i) = AreBytes-take n bs (λ j. h (suc j)) i

byte_at-lt : (i x : ℕ) → byte_at i x < 256
byte_at-lt zero x = omega arith
byte_at-lt (suc i) x = omega arith

pub low_first-bytes : (i n x : ℕ) → AreBytes (bytes_low_first i n x)
low_first-bytes i zero x k = omega arith
low_first-bytes i (suc n) x zero = byte_at-lt i x
low_first-bytes i (suc n) x (suc k) = low_first-bytes (suc i) n x k

pub AreBytes-word : (w : ℕ) → AreBytes (word_bytes w)
unfolding word_bytes
AreBytes-word w = low_first-bytes 0 8 w

pub number-word : (w : ℕ) → w < 2 ^ 64 → word_number (word_bytes w) ≡ w
number-word w h = ap word_number (sym (append-nil (word_bytes w))) ∙ number-word_bytes w [] h
