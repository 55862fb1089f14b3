-- A worked example: a packed message, from its bytes to its canonical bytes.
use Rattle.std.proofs.Common.{◌≡◌, ℕ, zero, suc, ◌^◌, ◌<◌, List, [], ◌∷◌, length, refl, arith}
use Rattle.std.specs.Prelude.{slice_index}
use Rattle.capn_words.specs.Message.{word_bytes, segment_at}
use Rattle.capn_words.specs.Pointers.{pointer_of}
use Rattle.capn_pack.specs.Packed.{Group, Zeros, Named, Raw, IsNamedBy, Packs}
use Rattle.capn_stream.specs.Frames.{entry}
use Rattle.capn_value.specs.Tree.{node, no_trees}
use Rattle.capn_value.specs.declared.tariff.Tariff.TheVariants.{Strict}
use Rattle.capn_walk.specs.Accepted.{root_visits}
use Rattle.capn_walk.specs.Limits.{Bounds}
use Rattle.capn_walk.specs.Visits.{visits}
use Rattle.capn_target.specs.Target.{target}
use Rattle.capn_canon.specs.declared.form.Form.TheVariants as forms
use Rattle.capn_canon.specs.Denotes.{Answers}
use Rattle.capn_canon.specs.Reads.{IsFramed, Reads}
use Rattle.capn_layout.specs.Layout.{words, point}

-- The usual limits.
abbrev usual : Bounds
usual = record { message_words = 8388608; budget = 8388608; depth = 64; tariff = Strict }

-- Sixteen packed bytes: two groups of one word each, a group of one raw word, and a group of one zero word.
abbrev packed_bytes : List ℕ
packed_bytes = 16 ∷ 3 ∷ 16 ∷ 2 ∷ 255 ∷ 1 ∷ 2 ∷ 3 ∷ 4 ∷ 5 ∷ 6 ∷ 7 ∷ 8 ∷ 0 ∷ 0 ∷ 0 ∷ []

abbrev groups : List Group
groups =
    Named 16 (0 ∷ 0 ∷ 0 ∷ 0 ∷ 3 ∷ 0 ∷ 0 ∷ 0 ∷ []) ∷ Named 16 (0 ∷ 0 ∷ 0 ∷ 0 ∷ 2 ∷ 0 ∷ 0 ∷ 0 ∷ [])
    ∷ Raw (1 ∷ 2 ∷ 3 ∷ 4 ∷ 5 ∷ 6 ∷ 7 ∷ 8 ∷ []) 0 [] ∷ Zeros 0 ∷ []

-- The unpacked bytes: the table of one segment of three words, then a struct of two words.
abbrev framed : List ℕ
framed =
    0 ∷ 0 ∷ 0 ∷ 0 ∷ 3 ∷ 0 ∷ 0 ∷ 0 ∷ 0 ∷ 0 ∷ 0 ∷ 0 ∷ 2 ∷ 0 ∷ 0 ∷ 0 ∷ 1 ∷ 2 ∷ 3 ∷ 4 ∷ 5 ∷ 6 ∷ 7 ∷ 8
    ∷ 0 ∷ 0 ∷ 0 ∷ 0 ∷ 0 ∷ 0 ∷ 0 ∷ 0 ∷ []

-- The tag 16 names the fifth of eight bytes, and the other bytes are zero.
named_fifth : (x : ℕ) → IsNamedBy 16 (0 ∷ 0 ∷ 0 ∷ 0 ∷ x ∷ 0 ∷ 0 ∷ 0 ∷ [])
named_fifth x = (kept, (kept, (kept, (kept, ((λ e. absurd (omega (arith, e))), (kept, (kept, (kept, tt))))))))
  where
    kept : ◌≡◌ {A = ℕ} 0 0 → ◌≡◌ {A = ℕ} 0 0
    kept e = e

packs : Packs packed_bytes framed
packs = record {
  groups = groups;
  each = (
    (omega arith, omega arith, refl, named_fifth 3),
    ((omega arith, omega arith, refl, named_fifth 2), ((refl, omega arith, refl), (omega arith, tt))),
  );
  is_text = refl;
  are_bytes = refl;
}

abbrev framed_words : List ℕ
framed_words = 0x200000000 ∷ 0x807060504030201 ∷ 0 ∷ []

sizes : (s : ℕ) → length (segment_at (framed_words ∷ []) s) < 2 ^ 32
sizes zero = omega arith
sizes (suc s) = omega arith

each_word : (s k : ℕ) → slice_index (segment_at (framed_words ∷ []) s) k < 2 ^ 64
each_word zero zero = omega arith
each_word zero (suc zero) = omega arith
each_word zero (suc (suc zero)) = omega arith
each_word zero (suc (suc (suc k))) = omega arith
each_word (suc s) k = omega arith

is_framed : IsFramed framed 8388608 (framed_words ∷ [])
unfolding entry word_bytes
is_framed = record {
  frame = record {
    fits = record { some = omega arith; few = omega arith; sizes = sizes; each = each_word };
    gap = [];
    gap_bytes = λ i. omega arith;
    gap_length = refl;
    text = refl;
  };
  room = omega arith;
}

-- The packed bytes are read as the message of one segment of three words.
reads_packed : Reads forms.Packed packed_bytes 8388608 (framed_words ∷ [])
reads_packed = (framed, record { packs = packs; room = omega arith }, is_framed)

-- The canonical bytes of the message: the last word is left out, so the pointer counts one word fewer.
abbrev form : List ℕ
form = 0 ∷ 0 ∷ 0 ∷ 0 ∷ 1 ∷ 0 ∷ 0 ∷ 0 ∷ 1 ∷ 2 ∷ 3 ∷ 4 ∷ 5 ∷ 6 ∷ 7 ∷ 8 ∷ []

-- The answer for the packed bytes: the canonical bytes `form`, and the price 3.
answers_packed : Answers forms.Packed packed_bytes usual form 3
unfolding words point word_bytes root_visits visits target pointer_of
answers_packed = record {
  message = framed_words ∷ [];
  reads = reads_packed;
  answer = record {
    value = node (0x807060504030201 ∷ 0 ∷ []) no_trees;
    is = record {
      accepted = record { some = omega arith; within = record { all = tt; paid = omega arith } };
      is = record { segment = 0; start = 1; pads = 0; is = refl; inside = (refl, tt) };
    };
    free = refl;
    canonical = refl;
    priced = refl;
  };
}
