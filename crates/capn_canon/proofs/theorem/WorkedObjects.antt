-- Worked examples: small messages with several objects, the canonical words of these messages, and values that are not
-- the same.
use Rattle.std.proofs.Common.{◌≡◌, ℕ, zero, suc, ◌^◌, ◌<◌, List, [], ◌∷◌, ◌++◌, length, refl, sym, arith}
use Rattle.std.specs.Prelude.{slice_index, replicate}
use Rattle.capn_words.specs.Message.{IsBare, word_bytes, bytes, segment_at}
use Rattle.capn_words.specs.Pointers.{pointer_of}
use Rattle.capn_stream.specs.Frames.{entry}
use Rattle.capn_value.specs.NumberWidth.{bit}
use Rattle.capn_value.specs.Tree.{Tree, nil, node, numbers, links, no_trees, tree}
use Rattle.capn_value.specs.Same.{Same}
use Rattle.capn_value.specs.declared.tariff.Tariff.TheVariants.{Strict}
use Rattle.capn_walk.specs.Accepted.{IsValueOf, root, root_visits}
use Rattle.capn_walk.specs.ValueAt.{IsAt, AreElements}
use Rattle.capn_walk.specs.Limits.{Bounds}
use Rattle.capn_walk.specs.Visits.{visits}
use Rattle.capn_target.specs.Target.{target}
use Rattle.capn_canon.specs.declared.form.Form.TheVariants as forms
use Rattle.capn_canon.specs.Denotes.{Answers}
use Rattle.capn_canon.specs.Reads.{IsFramed}
use Rattle.capn_canon.specs.Theorem.{WrittenInto, RefusedInto}
use Rattle.capn_canon.specs.declared.message_refusal.IntoRefusal.TheVariants as intos
use Rattle.capn_layout.specs.Layout.{words, canon, point}

-- The usual limits.
abbrev usual : Bounds
usual = record { message_words = 8388608; budget = 8388608; depth = 64; tariff = Strict }

-- ---- two children, the first with a child: structs of the words 1, 2 and 3, in preorder

abbrev family : Tree
family =
    node [] (tree (node (1 ∷ []) (tree (node (2 ∷ []) no_trees) no_trees)) (tree (node (3 ∷ []) no_trees) no_trees))

-- The words of the message have the structs level by level: both children, 1 and 3, and then the grandchild, 2.
abbrev family_words : List ℕ
family_words = 0x2000000000000 ∷ 0x1000100000004 ∷ 0x100000008 ∷ 1 ∷ 0x100000004 ∷ 3 ∷ 2 ∷ []

-- The canonical words have the structs in preorder: the first child with everything below it, 1 and 2, and then the
-- second child, 3.
abbrev family_form : List ℕ
family_form = 0x2000000000000 ∷ 0x1000100000004 ∷ 0x10000000c ∷ 1 ∷ 0x100000000 ∷ 2 ∷ 3 ∷ []

family_at : IsAt (family_words ∷ []) root family
unfolding target pointer_of
family_at = record {
  segment = 0;
  start = 1;
  pads = 0;
  is = refl;
  inside = (
    refl,
    (
      record {
        segment = 0;
        start = 3;
        pads = 0;
        is = refl;
        inside = (refl, (record { segment = 0; start = 6; pads = 0; is = refl; inside = (refl, tt) }, tt));
      },
      (record { segment = 0; start = 5; pads = 0; is = refl; inside = (refl, tt) }, tt),
    ),
  );
}

family_each : (k : ℕ) → slice_index family_words k < 2 ^ 64
family_each zero = omega arith
family_each (suc zero) = omega arith
family_each (suc (suc zero)) = omega arith
family_each (suc (suc (suc zero))) = omega arith
family_each (suc (suc (suc (suc zero)))) = omega arith
family_each (suc (suc (suc (suc (suc zero))))) = omega arith
family_each (suc (suc (suc (suc (suc (suc zero)))))) = omega arith
family_each (suc (suc (suc (suc (suc (suc (suc k))))))) = omega arith

family_bare : IsBare (bytes family_words) family_words
family_bare = record { same = refl; each = family_each; room = omega arith }

family_value : IsValueOf (family_words ∷ []) usual family
unfolding root_visits visits target pointer_of
family_value = record {
  accepted = record { some = omega arith; within = record { all = tt; paid = omega arith } };
  is = family_at;
}

-- The answer has the canonical words `family_form` and the price 10: 3 for the root, 3 and 2 for its children, and 2
-- for the grandchild.
family_answers : Answers forms.Bare (bytes family_words) usual (bytes family_form) 10
unfolding words point root_visits visits target pointer_of
family_answers = record {
  message = family_words ∷ [];
  reads = (family_words, family_bare, refl);
  answer = record { value = family; is = family_value; free = refl; canonical = refl; priced = refl };
}

-- The next three items: `family` has 56 canonical bytes. They are written to a buffer of 57 bytes, whose last byte is
-- unchanged. A buffer of 55 bytes is refused.
family_length : length (canon family) ≡ 56
unfolding words point word_bytes
family_length = refl

family_written : WrittenInto (family_words ∷ []) usual (replicate 57 9) (bytes family_form ++ 9 ∷ [])
    (record { length = 56; paid = 10; visits = 4 })
unfolding words point word_bytes root_visits visits target pointer_of
family_written = record {
  value = family;
  is = record { is = family_value; free = refl; long = refl; pays = refl; counts = refl };
  room = omega (arith, family_length);
  written = refl;
}

family_no_room : RefusedInto (family_words ∷ []) usual 55 (intos.NoRoom 56 10)
unfolding words point word_bytes root_visits visits target pointer_of
family_no_room = (family, family_value, refl, sym family_length, omega arith, refl)

-- ---- an empty struct, a list of the bits 1, 0 and 1, and a list of two pointers: to an empty struct, and null

abbrev mixed : Tree
mixed = node [] (tree (node [] no_trees) (tree (numbers bit (1 ∷ 0 ∷ 1 ∷ []))
    (tree (links (tree (node [] no_trees) (tree nil no_trees))) no_trees)))

-- In the words of the message, the pointer to the first empty struct has the offset 2. Bits are set after the third bit
-- of the list: the word is 29 instead of 5.
abbrev mixed_words : List ℕ
mixed_words = 0x3000000000000 ∷ 8 ∷ 0x1900000005 ∷ 0x1600000005 ∷ 29 ∷ 0xfffffffc ∷ 0 ∷ []

-- In the canonical words, the pointers to the empty structs have the offset -1, and the bits after the third are 0. The
-- null element stays.
abbrev mixed_form : List ℕ
mixed_form = 0x3000000000000 ∷ 0xfffffffc ∷ 0x1900000005 ∷ 0x1600000005 ∷ 5 ∷ 0xfffffffc ∷ 0 ∷ []

three_bits : AreElements 64 1 (29 ∷ 0xfffffffc ∷ 0 ∷ []) (1 ∷ 0 ∷ 1 ∷ [])
three_bits zero h = refl
three_bits (suc zero) h = refl
three_bits (suc (suc zero)) h = refl
three_bits (suc (suc (suc i))) h = absurd (omega (arith, h))

mixed_at : IsAt (mixed_words ∷ []) root mixed
unfolding target pointer_of
mixed_at = record {
  segment = 0;
  start = 1;
  pads = 0;
  is = refl;
  inside = (
    refl,
    (
      record { segment = 0; start = 4; pads = 0; is = refl; inside = (refl, tt) },
      (
        record { segment = 0; start = 4; pads = 0; is = refl; inside = three_bits },
        (
          record {
            segment = 0;
            start = 5;
            pads = 0;
            is = refl;
            inside = (
              record { segment = 0; start = 5; pads = 0; is = refl; inside = (refl, tt) },
              (refl, tt),
            );
          },
          tt,
        ),
      ),
    ),
  );
}

mixed_each : (k : ℕ) → slice_index mixed_words k < 2 ^ 64
mixed_each zero = omega arith
mixed_each (suc zero) = omega arith
mixed_each (suc (suc zero)) = omega arith
mixed_each (suc (suc (suc zero))) = omega arith
mixed_each (suc (suc (suc (suc zero)))) = omega arith
mixed_each (suc (suc (suc (suc (suc zero))))) = omega arith
mixed_each (suc (suc (suc (suc (suc (suc zero)))))) = omega arith
mixed_each (suc (suc (suc (suc (suc (suc (suc k))))))) = omega arith

mixed_bare : IsBare (bytes mixed_words) mixed_words
mixed_bare = record { same = refl; each = mixed_each; room = omega arith }

-- The answer has the price 11: 4 for the root, 1 for an empty struct, 2 for the bits, 3 for the pointers, and 1 for the
-- other empty struct.
mixed_answers : Answers forms.Bare (bytes mixed_words) usual (bytes mixed_form) 11
unfolding words point root_visits visits target pointer_of
mixed_answers = record {
  message = mixed_words ∷ [];
  reads = (mixed_words, mixed_bare, refl);
  answer = record {
    value = mixed;
    is = record {
      accepted = record { some = omega arith; within = record { all = tt; paid = omega arith } };
      is = mixed_at;
    };
    free = refl;
    canonical = refl;
    priced = refl;
  };
}

-- ---- a pad of two words: the root's pointer leads to segment 1, whose words lead to segment 2 and describe a struct

abbrev double : List ℕ
double =
    2 ∷ 0 ∷ 0 ∷ 0 ∷ 1 ∷ 0 ∷ 0 ∷ 0 ∷ 2 ∷ 0 ∷ 0 ∷ 0 ∷ 1 ∷ 0 ∷ 0 ∷ 0 ∷ 6 ∷ 0 ∷ 0 ∷ 0 ∷ 1 ∷ 0 ∷ 0 ∷ 0
    ∷ 2 ∷ 0 ∷ 0 ∷ 0 ∷ 2 ∷ 0 ∷ 0 ∷ 0 ∷ 0 ∷ 0 ∷ 0 ∷ 0 ∷ 1 ∷ 0 ∷ 0 ∷ 0 ∷ 5 ∷ 0 ∷ 0 ∷ 0 ∷ 0 ∷ 0 ∷ 0 ∷ 0 ∷ []

abbrev double_message : List (List ℕ)
double_message = (0x100000006 ∷ []) ∷ (0x200000002 ∷ 0x100000000 ∷ []) ∷ (5 ∷ []) ∷ []

double_sizes : (s : ℕ) → length (segment_at double_message s) < 2 ^ 32
double_sizes zero = omega arith
double_sizes (suc zero) = omega arith
double_sizes (suc (suc zero)) = omega arith
double_sizes (suc (suc (suc s))) = omega arith

double_each : (s k : ℕ) → slice_index (segment_at double_message s) k < 2 ^ 64
double_each zero zero = omega arith
double_each zero (suc k) = omega arith
double_each (suc zero) zero = omega arith
double_each (suc zero) (suc zero) = omega arith
double_each (suc zero) (suc (suc k)) = omega arith
double_each (suc (suc zero)) zero = omega arith
double_each (suc (suc zero)) (suc k) = omega arith
double_each (suc (suc (suc s))) k = omega arith

double_framed : IsFramed double 8388608 double_message
unfolding entry word_bytes
double_framed = record {
  frame = record {
    fits = record { some = omega arith; few = omega arith; sizes = double_sizes; each = double_each };
    gap = [];
    gap_bytes = λ i. omega arith;
    gap_length = refl;
    text = refl;
  };
  room = omega arith;
}

-- The answer has the price 4: 1 for the struct, 1 for its word, and 2 for the words of the pad.
double_answers : Answers forms.Stream double usual (bytes (0x100000000 ∷ 5 ∷ [])) 4
unfolding words point root_visits visits target pointer_of
double_answers = record {
  message = double_message;
  reads = double_framed;
  answer = record {
    value = node (5 ∷ []) no_trees;
    is = record {
      accepted = record { some = omega arith; within = record { all = tt; paid = omega arith } };
      is = record { segment = 2; start = 0; pads = 2; is = refl; inside = (refl, tt) };
    };
    free = refl;
    canonical = refl;
    priced = refl;
  };
}

-- ---- values that are not the same

-- Null is not the same as an empty struct.
null_is_not_empty : Same nil (node [] no_trees) → ⊥
null_is_not_empty same = same

last_slot_is_not_null : Same (node [] (tree (node [] no_trees) no_trees)) (node [] no_trees) → ⊥
last_slot_is_not_null same = let is = same.1.0 in absurd cc

-- The canonical words of a struct with an empty struct in its slot.
with_a_slot : words (node [] (tree (node [] no_trees) no_trees)) ≡ 0x1000000000000 ∷ 0xfffffffc ∷ []
unfolding words point
with_a_slot = refl

without_a_slot : words (node [] no_trees) ≡ 0xfffffffc ∷ []
unfolding words point
without_a_slot = refl

-- A zero word that is not the last word of a struct makes values differ.
zero_word_before_five : Same (node (0 ∷ 5 ∷ []) no_trees) (node (5 ∷ []) no_trees) → ⊥
zero_word_before_five same = differ (same.0 0)
  where
    differ : ◌≡◌ {A = ℕ} 0 5 → ⊥
    differ is = absurd (omega (arith, is))
