-- Worked examples of the value at the root.
use Rattle.std.proofs.Common.{ℕ, suc, zero, [], ◌∷◌, refl, arith}
use Rattle.capn_words.specs.declared.space.Place.{Place}
use Rattle.capn_value.specs.NumberWidth.{byte}
use Rattle.capn_value.specs.Tree.{nil, node, numbers, rows, no_trees, tree, no_bodies, body}
use Rattle.capn_words.specs.Pointers.{pointer_of}
use Rattle.capn_target.specs.Target.{target}
use Rattle.capn_walk.specs.ValueAt.{IsAt, AreElements}

abbrev at : ℕ → ℕ → Place
at s w = record { segment = s; word = w }

-- a null root
null_root : IsAt ((0 ∷ []) ∷ []) (at 0 0) nil
unfolding target pointer_of
null_root = refl

-- a root that names a struct of one word
one_word : IsAt ((0x100000000 ∷ 5 ∷ []) ∷ []) (at 0 0) (node (5 ∷ []) no_trees)
unfolding target pointer_of
one_word = record { segment = 0; start = 1; pads = 0; is = refl; inside = (refl, tt) }

-- a root that names a struct by a landing pad of two words
far : IsAt ((0x100000006 ∷ []) ∷ (0x200000002 ∷ 0x100000000 ∷ []) ∷ (5 ∷ []) ∷ []) (at 0 0) (node (5 ∷ []) no_trees)
unfolding target pointer_of
far = record { segment = 2; start = 0; pads = 2; is = refl; inside = (refl, tt) }

-- two slots that name one struct
shared : IsAt ((0x2000000000000 ∷ 0x100000004 ∷ 0x100000000 ∷ 9 ∷ []) ∷ []) (at 0 0)
    (node [] (tree (node (9 ∷ []) no_trees) (tree (node (9 ∷ []) no_trees) no_trees)))
unfolding target pointer_of
shared = record {
  segment = 0;
  start = 1;
  pads = 0;
  is = refl;
  inside = (
    refl,
    (
      record { segment = 0; start = 3; pads = 0; is = refl; inside = (refl, tt) },
      (record { segment = 0; start = 3; pads = 0; is = refl; inside = (refl, tt) }, tt),
    ),
  );
}

-- a list of rows of one word
two_rows : IsAt ((0x1000000000000 ∷ 0x1700000001 ∷ 0x100000008 ∷ 7 ∷ 0 ∷ []) ∷ []) (at 0 0)
    (node [] (tree (rows (body (7 ∷ []) no_trees (body (0 ∷ []) no_trees no_bodies))) no_trees))
unfolding target pointer_of
two_rows = record {
  segment = 0;
  start = 1;
  pads = 0;
  is = refl;
  inside = (
    refl,
    (
      (
        1,
        0,
        2,
        record {
          segment = 0;
          start = 2;
          pads = 0;
          is = refl;
          inside =
              (refl, refl, refl, tt, (refl, refl, refl, tt, tt));
        },
      ),
      tt,
    ),
  );
}

letters : AreElements 8 8 (0xffffffffff636261 ∷ []) (0x61 ∷ 0x62 ∷ 0x63 ∷ [])
letters zero h = refl
letters (suc zero) h = refl
letters (suc (suc zero)) h = refl
letters (suc (suc (suc i))) h = absurd (omega arith)

text : IsAt ((0x1000000000000 ∷ 0x1a00000001 ∷ 0xffffffffff636261 ∷ []) ∷ []) (at 0 0)
    (node [] (tree (numbers byte (0x61 ∷ 0x62 ∷ 0x63 ∷ [])) no_trees))
unfolding target pointer_of
text = record {
  segment = 0;
  start = 1;
  pads = 0;
  is = refl;
  inside =
      (refl, (record { segment = 0; start = 2; pads = 0; is = refl; inside = letters }, tt));
}
