-- The tag of a digest, which chooses the digest's bucket, and the marks of a tag in the head of a bucket.
use Rattle.std.specs.Prelude.{ℕ, ◌+◌, ◌*◌, ◌/◌, ◌%◌, ◌^◌, List, slice_index, bit_or}

-- the tag of `digest`: its first four bytes, as a little-endian number
unfoldable pub tag : List ℕ → ℕ
tag digest =
    slice_index digest 0 + slice_index digest 1 * 256 + slice_index digest 2 * 65536 + slice_index digest 3 * 16777216

-- the first mark of the tag `t`, with one or two of 32 bits set
unfoldable pub marks : ℕ → ℕ
marks t = bit_or (2 ^ (t / 2 ^ 27)) (2 ^ (t / 2 ^ 22 % 32))

-- the second mark of the tag `t`, with one of 16 bits set
unfoldable pub more : ℕ → ℕ
more t = 2 ^ (t / 2 ^ 18 % 16)
