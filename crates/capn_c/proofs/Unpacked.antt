-- The number of bytes that the groups unpack to: 8 for each word, and at most the length of the buffer. (For
-- `capn_unpack_some`.)
use Rattle.std.proofs.Common.{◌≡◌, ℕ, ◌*◌, ◌≤◌, List, [], length, ap, arith}
use Rattle.capn_pack.specs.WholeGroups.{UnpacksSome}
use Rattle.capn_pack.proofs.shared.GroupLemmas.{length_contents}
use Rattle.capn_pack.specs.declared.whole_groups.Next.{Next}
use Rattle.capn_c.specs.UnpackedPieces.{words_in}

pub content_length : (bytes : List ℕ) (max : ℕ) (content : List ℕ) (taken words : ℕ) (next : Next)
    → UnpacksSome bytes max [] content taken words next → length content ≡ 8 * words
content_length bytes max content taken words next u =
    omega (arith, ap length u.content, length_contents u.groups u.each, u.counted)

words_room : (room : ℕ) → 8 * words_in room ≤ room
words_room room = omega arith

pub content_room : (bytes : List ℕ) (room : ℕ) (content : List ℕ) (taken words : ℕ) (next : Next)
    → UnpacksSome bytes (words_in room) [] content taken words next → length content ≤ room
content_room bytes room content taken words next u =
    omega (arith, content_length bytes (words_in room) content taken words next u, u.fits, words_room room)
