-- Worked examples: small messages, from their bytes to the value that they denote, and to its canonical bytes.
use Rattle.std.proofs.Common.{◌≡◌, ℕ, zero, suc, ◌^◌, ◌<◌, List, [], ◌∷◌, ◌++◌, length, refl, arith, inl, inr}
use Rattle.std.specs.Prelude.{slice_index}
use Rattle.capn_words.specs.Message.{IsBare, word_bytes, segment_at}
use Rattle.capn_words.specs.Pointers.{pointer_of}
use Rattle.capn_words.specs.declared.bare.BareFault.TheVariants.{NotWhole}
use Rattle.capn_pack.specs.declared.fault.UnpackFault.TheVariants as unpack_faults
use Rattle.capn_stream.specs.Frames.{entry}
use Rattle.capn_stream.specs.declared.fault.FrameFault.TheVariants as frame_faults
use Rattle.capn_value.specs.Tree.{Tree, node, rows, cap, no_trees, tree, no_bodies, body}
use Rattle.capn_value.specs.Same.{Same}
use Rattle.capn_value.specs.declared.tariff.Tariff.TheVariants.{Strict}
use Rattle.capn_walk.specs.Accepted.{IsAccepted, IsValueOf, root, root_visits}
use Rattle.capn_walk.specs.ValueAt.{IsAt}
use Rattle.capn_walk.specs.Limits.{Bounds}
use Rattle.capn_target.specs.Target.{target}
use Rattle.capn_walk.specs.Visits.{visits, fails}
use Rattle.capn_target.specs.declared.target.Fault.TheVariants as faults
use Rattle.capn_canon.specs.declared.form.Form.TheVariants as forms
use Rattle.capn_canon.specs.declared.refusal.Refusal.TheVariants as refusals
use Rattle.capn_canon.specs.Denotes.{Denotes, Answers}
use Rattle.capn_layout.specs.Layout.{words, canon, point}
use Rattle.capn_canon.specs.Reads.{IsFramed}
use Rattle.capn_canon.specs.Refusal.{IsRefused}

-- The usual limits.
abbrev usual : Bounds
usual = record { message_words = 8388608; budget = 8388608; depth = 64; tariff = Strict }

-- ---- the README's message: a struct of two words, 5 and 0, after its table

abbrev tour : List ℕ
tour =
    0 ∷ 0 ∷ 0 ∷ 0 ∷ 3 ∷ 0 ∷ 0 ∷ 0 ∷ 0 ∷ 0 ∷ 0 ∷ 0 ∷ 2 ∷ 0 ∷ 0 ∷ 0 ∷ 5 ∷ 0 ∷ 0 ∷ 0 ∷ 0 ∷ 0 ∷ 0 ∷ 0
    ∷ 0 ∷ 0 ∷ 0 ∷ 0 ∷ 0 ∷ 0 ∷ 0 ∷ 0 ∷ []

abbrev tour_words : List ℕ
tour_words = 0x200000000 ∷ 5 ∷ 0 ∷ []

abbrev tour_value : Tree
tour_value = node (5 ∷ 0 ∷ []) no_trees

-- The canonical bytes of the message: the last word is left out, so the pointer counts one word fewer.
abbrev tour_form : List ℕ
tour_form = 0 ∷ 0 ∷ 0 ∷ 0 ∷ 1 ∷ 0 ∷ 0 ∷ 0 ∷ 5 ∷ 0 ∷ 0 ∷ 0 ∷ 0 ∷ 0 ∷ 0 ∷ 0 ∷ []

tour_sizes : (s : ℕ) → length (segment_at (tour_words ∷ []) s) < 2 ^ 32
tour_sizes zero = omega arith
tour_sizes (suc s) = omega arith

tour_each : (s k : ℕ) → slice_index (segment_at (tour_words ∷ []) s) k < 2 ^ 64
tour_each zero zero = omega arith
tour_each zero (suc zero) = omega arith
tour_each zero (suc (suc zero)) = omega arith
tour_each zero (suc (suc (suc k))) = omega arith
tour_each (suc s) k = omega arith

tour_framed : IsFramed tour 8388608 (tour_words ∷ [])
unfolding entry word_bytes
tour_framed = record {
  frame = record {
    fits = record { some = omega arith; few = omega arith; sizes = tour_sizes; each = tour_each };
    gap = [];
    gap_bytes = λ i. omega arith;
    gap_length = refl;
    text = refl;
  };
  room = omega arith;
}

tour_accepted : IsAccepted (tour_words ∷ []) usual
unfolding root_visits visits target pointer_of
tour_accepted = record { some = omega arith; within = record { all = tt; paid = omega arith } }

tour_at : IsAt (tour_words ∷ []) root tour_value
unfolding target pointer_of
tour_at = record { segment = 0; start = 1; pads = 0; is = refl; inside = (refl, tt) }

tour_denotes : Denotes forms.Stream tour usual tour_value
tour_denotes = record {
  message = tour_words ∷ [];
  reads = tour_framed;
  value = record { accepted = tour_accepted; is = tour_at };
}

tour_canon : canon tour_value ≡ tour_form
unfolding words point word_bytes
tour_canon = refl

-- The answer for the message: its canonical bytes `tour_form`, and the price 3.
tour_answers : Answers forms.Stream tour usual tour_form 3
unfolding words point word_bytes root_visits visits target pointer_of
tour_answers = record {
  message = tour_words ∷ [];
  reads = tour_framed;
  answer = record {
    value = tour_value;
    is = record { accepted = tour_accepted; is = tour_at };
    free = refl;
    canonical = refl;
    priced = refl;
  };
}

-- The value without its last word is the same value, since that word is zero.
tour_same : Same tour_value (node (5 ∷ []) no_trees)
tour_same = (five, tt)
  where
    five : (i : ℕ) → slice_index (5 ∷ 0 ∷ []) i ≡ slice_index (5 ∷ []) i
    five zero = refl
    five (suc zero) = refl
    five (suc (suc i)) = refl

-- The value without its last word has the same canonical bytes `tour_form`.
short_canon : canon (node (5 ∷ []) no_trees) ≡ tour_form
unfolding words point word_bytes
short_canon = refl

abbrev short_words : List ℕ
short_words = 0x100000000 ∷ 5 ∷ []

short_each : (k : ℕ) → slice_index short_words k < 2 ^ 64
short_each zero = omega arith
short_each (suc zero) = omega arith
short_each (suc (suc k)) = omega arith

short_bare : IsBare tour_form short_words
unfolding word_bytes
short_bare = record { same = refl; each = short_each; room = omega arith }

short_denotes : Denotes forms.Bare tour_form usual (node (5 ∷ []) no_trees)
unfolding root_visits visits target pointer_of
short_denotes = record {
  message = short_words ∷ [];
  reads = (short_words, short_bare, refl);
  value = record {
    accepted = record { some = omega arith; within = record { all = tt; paid = omega arith } };
    is = record { segment = 0; start = 1; pads = 0; is = refl; inside = (refl, tt) };
  };
}

-- ---- the same struct of one word after a far pointer, in a message of two segments

abbrev far : List ℕ
far =
    1 ∷ 0 ∷ 0 ∷ 0 ∷ 1 ∷ 0 ∷ 0 ∷ 0 ∷ 2 ∷ 0 ∷ 0 ∷ 0 ∷ 0 ∷ 0 ∷ 0 ∷ 0 ∷ 2 ∷ 0 ∷ 0 ∷ 0 ∷ 1 ∷ 0 ∷ 0 ∷ 0
    ∷ 0 ∷ 0 ∷ 0 ∷ 0 ∷ 1 ∷ 0 ∷ 0 ∷ 0 ∷ 5 ∷ 0 ∷ 0 ∷ 0 ∷ 0 ∷ 0 ∷ 0 ∷ 0 ∷ []

abbrev far_message : List (List ℕ)
far_message = (0x100000002 ∷ []) ∷ short_words ∷ []

far_sizes : (s : ℕ) → length (segment_at far_message s) < 2 ^ 32
far_sizes zero = omega arith
far_sizes (suc zero) = omega arith
far_sizes (suc (suc s)) = omega arith

far_each : (s k : ℕ) → slice_index (segment_at far_message s) k < 2 ^ 64
far_each zero zero = omega arith
far_each zero (suc k) = omega arith
far_each (suc zero) zero = omega arith
far_each (suc zero) (suc zero) = omega arith
far_each (suc zero) (suc (suc k)) = omega arith
far_each (suc (suc s)) k = omega arith

far_gap : (i : ℕ) → slice_index (0 ∷ 0 ∷ 0 ∷ 0 ∷ []) i < 256
far_gap zero = omega arith
far_gap (suc zero) = omega arith
far_gap (suc (suc zero)) = omega arith
far_gap (suc (suc (suc zero))) = omega arith
far_gap (suc (suc (suc (suc i)))) = omega arith

far_framed : IsFramed far 8388608 far_message
unfolding entry word_bytes
far_framed = record {
  frame = record {
    fits = record { some = omega arith; few = omega arith; sizes = far_sizes; each = far_each };
    gap = 0 ∷ 0 ∷ 0 ∷ 0 ∷ [];
    gap_bytes = far_gap;
    gap_length = refl;
    text = refl;
  };
  room = omega arith;
}

-- The answer for the message with a far pointer: the canonical bytes `tour_form`, and the price 3, which includes a
-- word for the pad.
far_answers : Answers forms.Stream far usual tour_form 3
unfolding words point word_bytes root_visits visits target pointer_of
far_answers = record {
  message = far_message;
  reads = far_framed;
  answer = record {
    value = node (5 ∷ []) no_trees;
    is = record {
      accepted = record { some = omega arith; within = record { all = tt; paid = omega arith } };
      is = record { segment = 1; start = 1; pads = 1; is = refl; inside = (refl, tt) };
    };
    free = refl;
    canonical = refl;
    priced = refl;
  };
}

-- ---- rows are cut jointly: each of the rows 7 0 and 0 0 keeps one word, since the first row needs it

abbrev rows_value : Tree
rows_value = node [] (tree (rows (body (7 ∷ 0 ∷ []) no_trees (body (0 ∷ 0 ∷ []) no_trees no_bodies))) no_trees)

rows_at : IsAt ((0x1000000000000 ∷ 0x2700000001 ∷ 0x200000008 ∷ 7 ∷ 0 ∷ 0 ∷ 0 ∷ []) ∷ []) root rows_value
unfolding target pointer_of
rows_at = record {
  segment = 0;
  start = 1;
  pads = 0;
  is = refl;
  inside = (
    refl,
    (
      (
        2,
        0,
        4,
        record {
          segment = 0;
          start = 2;
          pads = 0;
          is = refl;
          inside = (refl, refl, refl, tt, (refl, refl, refl, tt, tt));
        },
      ),
      tt,
    ),
  );
}

rows_words : words rows_value ≡ 0x1000000000000 ∷ 0x1700000001 ∷ 0x100000008 ∷ 7 ∷ 0 ∷ []
unfolding words point
rows_words = refl

-- ---- the refusals of a form

-- A single byte is refused, since it is not a complete word.
not_whole : IsRefused forms.Bare (0 ∷ []) usual (refusals.Bare (NotWhole 1))
not_whole = (refl, (λ e. absurd (omega (arith, e))))

-- The tag 0 without a count after it is refused as an incomplete group (`Cut`).
cut_group : IsRefused forms.Packed (0 ∷ []) usual (refusals.Packed (unpack_faults.Cut 0))
cut_group = (
  (λ e. absurd cc),
  record {
    groups = [];
    rest = 0 ∷ [];
    each = tt;
    text = refl;
    offset = refl;
    left = 8390657;
    counted = refl;
    fault = (omega arith, inl (omega arith));
  },
)

-- An input of no bytes is refused.
empty : IsRefused forms.Stream [] usual (refusals.Frame frame_faults.Empty)
empty = ((λ e. absurd cc), refl)

-- A byte after the message is refused.
trailing : IsRefused forms.Stream (tour ++ 0 ∷ []) usual (refusals.Trailing 32)
trailing = (
  tour_words ∷ [],
  record { inside = omega arith; frame = tour_framed.frame; room = tour_framed.room },
  omega arith,
)

abbrev short_struct : List ℕ
short_struct = 0 ∷ 0 ∷ 0 ∷ 0 ∷ 1 ∷ 0 ∷ 0 ∷ 0 ∷ []

short_struct_each : (k : ℕ) → slice_index (0x100000000 ∷ []) k < 2 ^ 64
short_struct_each zero = omega arith
short_struct_each (suc k) = omega arith

short_struct_bare : IsBare short_struct (0x100000000 ∷ [])
unfolding word_bytes
short_struct_bare = record { same = refl; each = short_struct_each; room = omega arith }

-- A struct whose only word is missing is refused. The first visit fails, and nothing is paid.
outside : IsRefused forms.Bare short_struct usual
    (refusals.Walk (record { fault = faults.Range; place = root; paid = 0; visits = 1 }))
unfolding root_visits visits target pointer_of
outside = (
  (0x100000000 ∷ []) ∷ [],
  (0x100000000 ∷ [], short_struct_bare, refl),
  inr (
    omega arith,
    record {
      before = [];
      stop = fails root faults.Range;
      after = [];
      split = refl;
      within = record { all = tt; paid = omega arith };
      ends = (refl, refl);
      sum = refl;
      number = refl;
    },
  ),
)

abbrev capability : List ℕ
capability = 0 ∷ 0 ∷ 0 ∷ 0 ∷ 0 ∷ 0 ∷ 1 ∷ 0 ∷ 3 ∷ 0 ∷ 0 ∷ 0 ∷ 2 ∷ 0 ∷ 0 ∷ 0 ∷ []

abbrev capability_words : List ℕ
capability_words = 0x1000000000000 ∷ 0x200000003 ∷ []

capability_each : (k : ℕ) → slice_index capability_words k < 2 ^ 64
capability_each zero = omega arith
capability_each (suc zero) = omega arith
capability_each (suc (suc k)) = omega arith

capability_bare : IsBare capability capability_words
unfolding word_bytes
capability_bare = record { same = refl; each = capability_each; room = omega arith }

capability_value : IsValueOf (capability_words ∷ []) usual (node [] (tree (cap 2) no_trees))
unfolding root_visits visits target pointer_of
capability_value = record {
  accepted = record { some = omega arith; within = record { all = tt; paid = omega arith } };
  is = record { segment = 0; start = 1; pads = 0; is = refl; inside = (refl, (refl, tt)) };
}

-- A struct whose slot has the capability 2 is refused.
has_capability : IsRefused forms.Bare capability usual (refusals.Capability 2)
has_capability = (
  capability_words ∷ [],
  (capability_words, capability_bare, refl),
  (node [] (tree (cap 2) no_trees), capability_value, refl),
)
