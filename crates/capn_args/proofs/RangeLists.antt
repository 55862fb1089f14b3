-- Lemmas for `ranges_in`: the ranges of a text that were read, and those still to be read.
use Rattle.std.proofs.Common.{◌≡◌, ℕ, ◌<◌, ◌≤◌, List, [], ◌∷◌, ◌++◌, Option, Some, None, option_map, refl, ap, sym, ◌∙◌}
use Rattle.std.proofs.Common.{subst, append_assoc, option_and_then, length, take, drop, ◌-◌, arith, get_or}
use Rattle.std.proofs.lemmas.List.{take_all}
use Rattle.clap.specs.Words.{Text}
use Rattle.capn_args.specs.RangeList.{fresh, range_of, ranges_from}
use Rattle.capn_args.specs.declared.range_list.Begun.{Begun}
use Rattle.capn_serve.specs.declared.pick.Range.{Range}
use Rattle.capn_serve.specs.Pick.{AreAbove}

-- `ranges`, which were read, and then the ranges of `more`, which are still to be read.
abbrev pub after : List Range → Option (List Range) → Option (List Range)
after ranges more = option_map (λ rs. ranges ++ rs) more

-- The ranges ascend above `before`, and `last` is their last number, or `before` if there is no range.
abbrev pub AreSoFar : ℕ → List Range → ℕ → Type 0
AreSoFar before [] last = last ≡ before
AreSoFar before (r ∷ rs) last = (before < r.from) × (r.from ≤ r.to) × AreSoFar r.to rs last

pub so_far_above : (before last : ℕ) (rs : List Range) → AreSoFar before rs last → AreAbove before rs
so_far_above before last [] h = tt
so_far_above before last (r ∷ rs) (low, some, more) = (low, some, so_far_above r.to last rs more)

-- `AreSoFar` stays true if a range `r` above `last` is added at the end of `rs`.
pub one_more : (before last : ℕ) (rs : List Range) (r : Range) → AreSoFar before rs last → last < r.from
    → r.from ≤ r.to → AreSoFar before (rs ++ r ∷ []) r.to
one_more before last [] r h low some = (subst (λ (n : ℕ). n < r.from) h low, some, refl)
one_more before last (q ∷ rs) r (first, also, more) low some = (first, also, one_more q.to last rs r more low some)

pub pushed : (ranges : List Range) (r : Range) (more : Option (List Range))
    → after ranges (option_map (λ rs. r ∷ rs) more) ≡ after (ranges ++ r ∷ []) more
pushed ranges r None = refl
pushed ranges r (Some rs) = ap (λ (xs : List Range). Some xs) (sym (append_assoc ranges (r ∷ []) rs))

comma : (b : Begun) (r : Range) (rest : Text) (ranges are : List Range) → range_of b ≡ Some r
    → after ranges (ranges_from b (44 ∷ rest)) ≡ Some are
    → after (ranges ++ r ∷ []) (ranges_from (fresh r.to) rest) ≡ Some are
comma b r rest ranges are one h =
    sym (pushed ranges r (ranges_from (fresh r.to) rest))
    ∙ ap (λ (o : Option Range). after ranges
    (option_and_then (λ q. option_map (λ rs. q ∷ rs) (ranges_from (fresh q.to) rest)) o)) (sym one)
    ∙ h

pub behind_comma : (b : Begun) (r : Range) (text : Text) (ranges are : List Range) → 1 ≤ length text
    → get_or text 0 0 ≡ 44 → range_of b ≡ Some r → after ranges (ranges_from b text) ≡ Some are
    → after (ranges ++ r ∷ []) (ranges_from (fresh r.to) (take (length text - 1) (drop 1 text))) ≡ Some are
behind_comma b r [] ranges are some first one h = absurd (omega (arith, some))
behind_comma b r (c ∷ rest) ranges are some first one h =
    subst (λ (t : Text). after (ranges ++ r ∷ []) (ranges_from (fresh r.to) t) ≡ Some are)
    (sym (take_all (length (c ∷ rest) - 1) rest (omega arith)))
    (comma b r rest ranges are one (subst (λ (k : ℕ). after ranges (ranges_from b (k ∷ rest)) ≡ Some are) first h))
