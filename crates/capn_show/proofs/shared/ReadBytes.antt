-- Bytes that are read from a message are the numbers of a list of bytes. (For `show_byte_list`.)
use Rattle.std.proofs.Common.{◌≡◌, ℕ, ◌+◌, ◌*◌, ◌≤◌, List, length, sym, ◌∙◌, arith}
use Rattle.std.proofs.lemmas.Grind.{same_number_lists}
use Rattle.capn_words.specs.Message.{segment_at, bytes_at}
use Rattle.capn_words.specs.declared.space.Place.{Place}
use Rattle.capn_words.specs.declared.pointer.Width.TheVariants.{W8}
use Rattle.capn_walk.proofs.shared.Elements.{length-read, are-bytes}
use Rattle.capn_show.specs.ReadyPlaces.{AreNumbers}

pub read-bytes : (m : List (List ℕ)) (at : Place) (n : ℕ) (bs xs : List ℕ) → bs ≡ bytes_at m at n
    → 8 * at.word + n ≤ 8 * length (segment_at m at.segment) → AreNumbers m at.segment at.word W8 xs → length xs ≡ n
    → bs ≡ xs
read-bytes m at n bs xs are inside h size =
    let many = length-read m at n bs are inside in
    same_number_lists bs xs (many ∙ sym size) (λ k below. are-bytes m at n bs are inside k below ∙ h k (omega arith))
