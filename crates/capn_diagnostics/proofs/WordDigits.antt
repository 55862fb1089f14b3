-- Lemmas for `fmt` of `WordText`: the hexadecimal digits of bytes are UTF-8.
use Rattle.std.proofs.Common.{◌≡◌, ℕ, ◌<◌, nat_lt, ◌&&◌, Bool, true, List, [], ◌∷◌, w64, refl, arith}
use Rattle.std.proofs.lemmas.Bool.{and_parts}
use Rattle.std.proofs.lemmas.Bool.Decides.{nat_tests}
use Rattle.std.proofs.lemmas.Str.Ascii.{IsAscii-nil, IsAscii-cons}
use Rattle.std.specs.Str.{IsAscii, IsUtf8}
use Rattle.std.proofs.lemmas.Str.{IsUtf8-from_ascii}
use Rattle.hex.proofs.HexLemmas.{IsAscii-encode_with}
use Rattle.std.specs.Int.{to_le_bytes}
use Rattle.hex.specs.Hex.{encode_lower, lower_digits}
use Rattle.capn_words.specs.Message.{word_bytes}
use Rattle.capn_diagnostics.specs.Texts.{word_text}

pub word-digits : (word : ℕ) → encode_lower (to_le_bytes w64 word) ≡ word_text word
unfolding word_bytes
word-digits word = refl

-- True if each byte `b` is ASCII, that is, below 128.
all_small : List ℕ → Bool
all_small [] = true
all_small (b ∷ bs) = nat_lt b 128 && all_small bs

small : (b : ℕ) → nat_lt b 128 ≡ true → b < 128
small b e = grind (arith, nat_tests)

ascii : (bs : List ℕ) → all_small bs ≡ true → IsAscii bs
unfolding all_small
ascii [] e = IsAscii-nil
ascii (b ∷ bs) e = let p = and_parts (nat_lt b 128) (all_small bs) e in IsAscii-cons b bs (small b p.0) (ascii bs p.1)

digits-ascii : IsAscii lower_digits
unfolding all_small
digits-ascii = ascii lower_digits refl

pub are-digits : (bs : List ℕ) → IsUtf8 (encode_lower bs)
are-digits bs = IsUtf8-from_ascii (encode_lower bs) (IsAscii-encode_with lower_digits bs digits-ascii)

pub are-text : (word : ℕ) → IsUtf8 (encode_lower (to_le_bytes w64 word))
are-text word = are-digits (to_le_bytes w64 word)
