-- Conditions under which a call may need memory. (For `ReadInput` and capn_c.)
use Rattle.std.proofs.Common.{◌≡◌, ℕ, ◌+◌, ◌*◌, ◌<◌, ◌≤◌, inr, List, [], ◌∷◌, length, arith, ap}
use Rattle.std.specs.List.{AllByRecursion}
use Rattle.std.proofs.lemmas.List.{length-append}
use Rattle.capn_pack.specs.Packed.{Group, IsGroup, group_bytes, Packs, contents, texts}
use Rattle.capn_pack.specs.UnpackRefusal.{StartsWithin}
use Rattle.capn_pack.proofs.shared.GroupLemmas.{length_content}
use Rattle.capn_stream.specs.Frames.{most_table_words}
use Rattle.capn_walk.specs.Limits.{Bounds}
use Rattle.capn_canon.specs.declared.form.Form.{Form}
use Rattle.capn_canon.specs.declared.form.Form.TheVariants as forms
use Rattle.capn_canon.specs.Reads.{Reads, Unpacks}
use Rattle.capn_canon.specs.MemoryNeed.{MayNeedMemory, MayNeedBytes, MayNeedBytesIn}

starts : (gs : List Group) (b text : List ℕ) (max : ℕ) → AllByRecursion IsGroup gs → b ≡ texts gs → text ≡ contents gs
    → 0 < length text → length text ≤ 8 * max → StartsWithin b max
starts [] b text max each is same some fits = absurd (omega (arith, ap length same))
starts (g ∷ gs) b text max each is same some fits = record {
  group = g;
  more = texts gs;
  is_group = each.0;
  text = is;
  fits =
      omega (arith, length_content g each.0, ap length same, length-append (group_bytes g) (contents gs));
}

-- A packed text that unpacks to at least one byte and at most `max` words begins with a complete group of at most `max`
-- words.
pub starts_within : (b text : List ℕ) (max : ℕ) → Packs b text → 0 < length text → length text ≤ 8 * max
    → StartsWithin b max
starts_within b text max p some fits = starts p.groups b text max p.each p.is_text p.are_bytes some fits

-- If reading the stream `text` may need memory, reading the packed text `bs` that unpacks to `text` may need memory.
pub packed_wanted : (bs text : List ℕ) (limits : Bounds) → Unpacks bs limits.message_words text
    → MayNeedMemory forms.Stream text limits → MayNeedMemory forms.Packed bs limits
packed_wanted bs text limits u h =
    starts_within bs text (limits.message_words + most_table_words) u.packs (let l = h.0.0.0 in omega arith) u.room

-- ---- canonical bytes

-- If laying out the message `m` may need memory, canonicalising the bytes `bs` that are read as `m` may need memory.
pub bytes_wanted : (form : Form) (bs : List ℕ) (limits : Bounds) (m : List (List ℕ))
    → Reads form bs limits.message_words m → MayNeedBytes m limits → MayNeedBytesIn form bs limits
bytes_wanted form bs limits m r (v, is, free) = inr (v, record { message = m; reads = r; value = is }, free)
