use Rattle.std.proofs.Common.{◌≡◌, List, ℕ, [], ◌∷◌, ap, ◌∙◌, subst}
use Rattle.capn_value.specs.FirstCap.{first_cap}
use Rattle.capn_walk.specs.Accepted.{root}
use Rattle.capn_walk.proofs.shared.Unique.{unique}
use Rattle.capn_layout.specs.Layout.{canon}
use Rattle.capn_canon.specs.BareVerdict.{IsBareSurvey}
use Rattle.capn_canon.proofs.calls.OnlySegment.{own_answer}
use Rattle.capn_canon.proofs.one_segment.own_words.Goals as goal

pub returns-then-checked-clause-own : goal.returns-then-checked-clause-own
returns-then-checked-clause-own c words bare =
    own_answer c.args.bytes.now words c.in-Ok.bare bare (c.in-Ok.ensures.only words bare) c.args.limits
    c.in-Some.checked c.in-Some.ensures.found c.if-checked.true

pub returns-else-checked-clause-only : goal.returns-else-checked-clause-only
returns-else-checked-clause-only c words v bare is free e =
    let read = c.in-Ok.ensures.only words bare in
    let same : c.in-Ok.bare ≡ words = cc in
    let f = subst (λ (l : List ℕ). IsBareSurvey l c.args.limits c.in-Some.checked) same c.in-Some.ensures.found in
    let value = unique (words ∷ []) f.value v root f.is.is is.is in
    let yes = f.answer.1 (ap first_cap value ∙ free, ap canon value ∙ e) in
    let no = c.if-checked.false in
    absurd cc
