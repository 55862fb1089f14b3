use Rattle.std.proofs.Common.{ℕ, ◌*◌, inl, inr, ap, sym, ◌∙◌}
use Rattle.capn_value.specs.FirstCap.{first_cap}
use Rattle.capn_mismatch.proofs.Mismatching.{all-canonical, not-so, one-value}
use Rattle.capn_mismatch.proofs.accepted.lengths_of.Goals as goal

pub returns-then-measured : goal.returns-then-measured
returns-then-measured g c v i =
    let f = c.requires.measured.checked in
    inl (all-canonical (g.S.Space.message c.args.space.now) c.args.limits f.value v f.is
    (f.answer.0 c.if-measured.true) i)

pub returns-in-Some : goal.returns-in-Some
returns-in-Some g c v i =
    let f = c.requires.measured.checked in
    let same = one-value (g.S.Space.message c.args.space.now) c.args.limits f.value v f.is i in
    inr (inl (λ none. absurd (let e = sym c.in-Some.is ∙ f.capability ∙ ap first_cap same ∙ none in cc)))

pub returns : goal.returns
returns g c v i =
    let m = g.S.Space.message c.args.space.now in
    let f = c.requires.measured.checked in
    let same = one-value m c.args.limits v f.value i f.is in (
      λ h. not-so _ c.if-measured.false (f.answer.1 (all-canonical m c.args.limits v f.value i h f.is)),
      ap first_cap same ∙ sym f.capability ∙ c.in-None.is,
      ap (λ (n : ℕ). 8 * n) c.total_words.ensures,
      c.canonical_length-canonical.ensures v i,
      c.if-contents-canonical.false,
    )
