-- The rules of the page, tested pointer by pointer instead of rule by rule. (For `LaidFollows`, `Stands`, `ThePage` and
-- `WorkedPage`.)
use Rattle.std.proofs.Common.{◌≡◌, ℕ, ◌+◌, List, [], ◌∷◌, ◌++◌, length, Ok}
use Rattle.std.specs.List.{AllByRecursion}
use Rattle.capn_words.specs.declared.space.Place.{Place}
use Rattle.capn_target.specs.declared.target.Target.TheVariants as targets
use Rattle.capn_target.specs.declared.target.Shape.{Shape}
use Rattle.capn_target.specs.Target.{target}
use Rattle.capn_target.specs.Shapes.{extent}
use Rattle.capn_walk.specs.Accepted.{root}
use Rattle.capn_walk.specs.Visits.{slots}
use Rattle.capn_canon.specs.PageForm.{Met, null, object, IsEmpty, PointsAtItself, IsWhole, InPreorder, WithoutGaps}
use Rattle.capn_canon.specs.PageForm.{IsTruncated, IsPadded, IsPageForm}

module _ (all : List ℕ) where
  -- The object of `shape` at `start`, with its pointer at `pointer`, follows all rules. `next` is the next free word.
  pub record IsRight (next pointer start : ℕ) (shape : Shape) : Type 0 where
    pub begins : (IsEmpty shape → ⊥) → start ≡ next
    pub truncated : IsTruncated all (object pointer start shape)
    pub empty : IsEmpty shape → start ≡ pointer
    pub padded : IsPadded all (object pointer start shape)
    pub whole : IsWhole (object pointer start shape)

  -- The visited pointers at and below the given places follow the rules, pointer by pointer: all rules at one pointer,
  -- then all rules at the next.
  abbrev pub Follows : ℕ → List Place → List Met → Type 0
  Follows next [] [] = next ≡ length all
  Follows next (at ∷ others) (null ∷ rest) = (target (all ∷ []) at ≡ Ok targets.Nil) × Follows next others rest
  Follows next (at ∷ others) (object pointer start shape ∷ rest) =
      (pointer ≡ at.word) × (target (all ∷ []) at ≡ Ok (targets.Content 0 start shape 0))
      × IsRight next pointer start shape × Follows (next + extent shape) (slots 0 start shape ++ others) rest
  Follows _ _ _ = ⊥

  -- `met` are the visited pointers at and below the places `todo`. They follow the rules, rule by rule: one rule at all
  -- pointers, then the next rule at all pointers.
  pub record Apart (next : ℕ) (todo : List Place) (met : List Met) : Type 0 where
    pub preorder : InPreorder all todo met
    pub no_gap : WithoutGaps all next met
    pub truncated : AllByRecursion (IsTruncated all) met
    pub empty_structs : AllByRecursion PointsAtItself met
    pub padded : AllByRecursion (IsPadded all) met
    pub whole : AllByRecursion IsWhole met

  pub together : (met : List Met) (next : ℕ) (todo : List Place) → Apart next todo met → Follows next todo met
  together [] next [] h = h.no_gap
  together [] next (at ∷ todo) h = absurd h.preorder
  together (m ∷ met) next [] h = absurd h.preorder
  together (null ∷ met) next (at ∷ todo) h = (
    h.preorder.0,
    together met next todo (record {
      preorder = h.preorder.1;
      no_gap = h.no_gap;
      truncated = h.truncated.1;
      empty_structs = h.empty_structs.1;
      padded = h.padded.1;
      whole = h.whole.1;
    }),
  )
  together (object pointer start shape ∷ met) next (at ∷ todo) h = (
    h.preorder.0,
    h.preorder.1,
    record {
      begins = h.no_gap.0;
      truncated = h.truncated.0;
      empty = h.empty_structs.0;
      padded = h.padded.0;
      whole = h.whole.0;
    },
    together met (next + extent shape) (slots 0 start shape ++ todo) (record {
      preorder = h.preorder.2;
      no_gap = h.no_gap.1;
      truncated = h.truncated.1;
      empty_structs = h.empty_structs.1;
      padded = h.padded.1;
      whole = h.whole.1;
    }),
  )

  pub apart : (met : List Met) (next : ℕ) (todo : List Place) → Follows next todo met → Apart next todo met
  apart [] next [] h =
      record { preorder = tt; no_gap = h; truncated = tt; empty_structs = tt; padded = tt; whole = tt }
  apart [] next (at ∷ todo) h = absurd h
  apart (m ∷ met) next [] h = absurd h
  apart (null ∷ met) next (at ∷ todo) h =
      let k = apart met next todo h.1 in
      record {
        preorder = (h.0, k.preorder);
        no_gap = k.no_gap;
        truncated = (tt, k.truncated);
        empty_structs = (tt, k.empty_structs);
        padded = (tt, k.padded);
        whole = (tt, k.whole);
      }
  apart (object pointer start shape ∷ met) next (at ∷ todo) h =
      let k = apart met (next + extent shape) (slots 0 start shape ++ todo) h.3 in
      record {
        preorder = (h.0, h.1, k.preorder);
        no_gap = (h.2.begins, k.no_gap);
        truncated = (h.2.truncated, k.truncated);
        empty_structs = (h.2.empty, k.empty_structs);
        padded = (h.2.padded, k.padded);
        whole = (h.2.whole, k.whole);
      }

  -- If the words `all` follow the rules rule by rule (`IsPageForm`), they follow the rules pointer by pointer
  -- (`Follows`).
  pub form-follows : IsPageForm all → (met : List Met) × Follows 1 (root ∷ []) met
  form-follows f = (
    f.pointers,
    together f.pointers 1 (root ∷ []) (record {
      preorder = f.preorder;
      no_gap = f.no_gap;
      truncated = f.truncated;
      empty_structs = f.empty_structs;
      padded = f.padded;
      whole = f.whole;
    }),
  )

  pub follows-form : (met : List Met) → Follows 1 (root ∷ []) met → IsPageForm all
  follows-form met h =
      let k = apart met 1 (root ∷ []) h in
      record {
        pointers = met;
        preorder = k.preorder;
        no_gap = k.no_gap;
        truncated = k.truncated;
        empty_structs = k.empty_structs;
        padded = k.padded;
        whole = k.whole;
      }
