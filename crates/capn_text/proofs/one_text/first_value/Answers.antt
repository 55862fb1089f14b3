use Rattle.std.proofs.Common.{◌+◌, ◌++◌, [], refl, sym, ap, subst, ◌∙◌, inl, inr}
use Rattle.std.proofs.lemmas.List.{append-nil}
use Rattle.capn_value.specs.Text.{show_text}
use Rattle.capn_text.specs.Streams.{end_line, ended_text, IsFirstWrong}
use Rattle.capn_text.specs.declared.fault.TextFault.TheVariants as faults
use Rattle.capn_text.proofs.FirstWrong.{first_wrong, first_line_wrong, more_wrong, deepens}
use Rattle.capn_text.proofs.LostTexts.{line_named, cut_named, same_named, lost_wrong, lost_none, head_wrong, head_none}
use Rattle.capn_text.proofs.LostTexts.{end_wrong, open_text, open_head}
use Rattle.capn_text.proofs.StreamTexts.{line_number}
use Rattle.capn_value.specs.TreeOf.{tree_of}
use Rattle.capn_text.proofs.ShowableValues.{in_range}
use Rattle.capn_text.proofs.TextOfTree.{tree_takes}
use Rattle.capn_text.proofs.ValueOfParts.{no_head}
use Rattle.capn_text.proofs.FittingText.{no_first, is_first}
use Rattle.capn_text.proofs.Heights.{tree_low}
use Rattle.capn_text.proofs.PartStops.{stops_none, deepens_none}
use Rattle.capn_text.proofs.one_text.first_value.Goals as goal

pub returns-in-Err-clause-only : goal.returns-in-Err-clause-only
returns-in-Err-clause-only g c v rest s low e =
    absurd (no_first c.args.text.now v rest (no_head 256 0 c.args.text.now c.in-Err.ensures.none) s low e)

pub returns-in-Err-clause-first : goal.returns-in-Err-clause-first
returns-in-Err-clause-first g c n same =
    subst (λ m. IsFirstWrong show_text m c.args.text.now) (same_named c.in-Err.fault 1 n c.in-Err.ensures.line same)
    (first_line_wrong show_text [] (λ w. sym (append-nil (show_text w))) c.args.text.now c.in-Err.ensures.none)

pub returns-in-Err-clause-first_ended : goal.returns-in-Err-clause-first_ended
returns-in-Err-clause-first_ended g c n same =
    subst (λ m. IsFirstWrong ended_text m c.args.text.now) (same_named c.in-Err.fault 1 n c.in-Err.ensures.line same)
    (first_line_wrong ended_text end_line (λ w. refl) c.args.text.now c.in-Err.ensures.none)

pub returns-in-Err-clause-lost : goal.returns-in-Err-clause-lost
returns-in-Err-clause-lost g c n is more =
    let one = same_named c.in-Err.fault 1 n c.in-Err.ensures.line (inl is) in
    let lost = c.in-Err.ensures.lost (is ∙ ap (λ m. faults.Line m) (sym one)) in
    subst (λ m. IsFirstWrong ended_text m (c.args.text.now ++ more)) one (head_wrong c.args.text.now lost more)

pub returns-in-Err-clause-none : goal.returns-in-Err-clause-none
returns-in-Err-clause-none g c n is more v rest s low e =
    let one = same_named c.in-Err.fault 1 n c.in-Err.ensures.line (inl is) in
    let lost = c.in-Err.ensures.lost (is ∙ ap (λ m. faults.Line m) (sym one)) in
    head_none c.args.text.now lost more v rest s low e

pub returns-in-Err-clause-open : goal.returns-in-Err-clause-open
returns-in-Err-clause-open g c n is =
    let one = same_named c.in-Err.fault 1 n c.in-Err.ensures.line (inr is) in
    open_head c.args.text.now (c.in-Err.ensures.open (is ∙ ap (λ m. faults.Cut m) (sym one)))

pub returns-in-Ok-clause-found : goal.returns-in-Ok-clause-found
returns-in-Ok-clause-found g c =
    (tree_takes 256 0 c.args.text.now (tree_of c.in-Ok.value) c.in-Ok.rest.now c.in-Ok.ensures).0

pub returns-in-Ok-clause-range : goal.returns-in-Ok-clause-range
returns-in-Ok-clause-range g c =
    in_range (tree_of c.in-Ok.value)
    (tree_takes 256 0 c.args.text.now (tree_of c.in-Ok.value) c.in-Ok.rest.now c.in-Ok.ensures).1

pub returns-in-Ok-clause-showable : goal.returns-in-Ok-clause-showable
returns-in-Ok-clause-showable g c =
    (tree_takes 256 0 c.args.text.now (tree_of c.in-Ok.value) c.in-Ok.rest.now c.in-Ok.ensures).1

pub returns-in-Ok-clause-low : goal.returns-in-Ok-clause-low
returns-in-Ok-clause-low g c =
    tree_low 256 0 c.args.text.now (tree_of c.in-Ok.value) c.in-Ok.rest.now c.in-Ok.ensures

pub returns-in-Ok-clause-only : goal.returns-in-Ok-clause-only
returns-in-Ok-clause-only g c v rest s low e =
    is_first c.args.text.now v (tree_of c.in-Ok.value) rest c.in-Ok.rest.now s low e c.in-Ok.ensures

pub returns-in-Ok-clause-more : goal.returns-in-Ok-clause-more
returns-in-Ok-clause-more g c more =
    more_wrong c.args.text.now (tree_of c.in-Ok.value) c.in-Ok.rest.now c.in-Ok.ensures more

pub returns-in-Ok-clause-no_end : goal.returns-in-Ok-clause-no_end
returns-in-Ok-clause-no_end g c more none =
    end_wrong c.args.text.now (tree_of c.in-Ok.value) c.in-Ok.rest.now more c.in-Ok.ensures none

pub returns-in-Err-Left-clause-only : goal.returns-in-Err-Left-clause-only
returns-in-Err-Left-clause-only g c v rest s low e =
    let stop = rw c.in-Err-Left.field-0-is at c.in-Err-Left.ensures in
    absurd (no_first c.args.text.now v rest (stops_none 256 0 c.args.text.now c.in-Err-Left.left stop.0) s low e)

pub returns-in-Err-Left-clause-first : goal.returns-in-Err-Left-clause-first
returns-in-Err-Left-clause-first g c n same =
    let stop = rw c.in-Err-Left.field-0-is at c.in-Err-Left.ensures in
    let t = c.args.text.now in
    subst (λ m. IsFirstWrong show_text m t)
    (ap (λ m. m + 1) (sym c.lines_before.ensures.exact) ∙ line_named (c.lines_before.result + 1) n same)
    (first_wrong show_text [] (λ w. sym (append-nil (show_text w))) t c.in-Err-Left.left stop.0)

pub returns-in-Err-Left-clause-first_ended : goal.returns-in-Err-Left-clause-first_ended
returns-in-Err-Left-clause-first_ended g c n same =
    let stop = rw c.in-Err-Left.field-0-is at c.in-Err-Left.ensures in
    let t = c.args.text.now in
    subst (λ m. IsFirstWrong ended_text m t)
    (ap (λ m. m + 1) (sym c.lines_before.ensures.exact) ∙ line_named (c.lines_before.result + 1) n same)
    (first_wrong ended_text end_line (λ w. refl) t c.in-Err-Left.left stop.0)

pub returns-in-Err-Cut-clause-only : goal.returns-in-Err-Cut-clause-only
returns-in-Err-Cut-clause-only g c v rest s low e =
    let stop = rw c.in-Err-Cut.field-0-is at c.in-Err-Cut.ensures in
    absurd (no_first c.args.text.now v rest (stops_none 256 0 c.args.text.now c.in-Err-Cut.left stop.0) s low e)

pub returns-in-Err-Cut-clause-first : goal.returns-in-Err-Cut-clause-first
returns-in-Err-Cut-clause-first g c n same =
    let stop = rw c.in-Err-Cut.field-0-is at c.in-Err-Cut.ensures in
    let t = c.args.text.now in
    subst (λ m. IsFirstWrong show_text m t)
    (ap (λ m. m + 1) (sym c.lines_before-in-Err-Cut.ensures.exact)
    ∙ cut_named (c.lines_before-in-Err-Cut.result + 1) n same)
    (first_wrong show_text [] (λ w. sym (append-nil (show_text w))) t c.in-Err-Cut.left stop.0)

pub returns-in-Err-Cut-clause-first_ended : goal.returns-in-Err-Cut-clause-first_ended
returns-in-Err-Cut-clause-first_ended g c n same =
    let stop = rw c.in-Err-Cut.field-0-is at c.in-Err-Cut.ensures in
    let t = c.args.text.now in
    subst (λ m. IsFirstWrong ended_text m t)
    (ap (λ m. m + 1) (sym c.lines_before-in-Err-Cut.ensures.exact)
    ∙ cut_named (c.lines_before-in-Err-Cut.result + 1) n same)
    (first_wrong ended_text end_line (λ w. refl) t c.in-Err-Cut.left stop.0)

pub returns-in-Err-Left-clause-lost : goal.returns-in-Err-Left-clause-lost
returns-in-Err-Left-clause-lost g c n is more =
    let stop = rw c.in-Err-Left.field-0-is at c.in-Err-Left.ensures in
    let t = c.args.text.now in
    subst (λ m. IsFirstWrong ended_text m (t ++ more))
    (ap (λ m. m + 1) (sym c.lines_before.ensures.exact) ∙ line_number (c.lines_before.result + 1) n is)
    (lost_wrong t c.in-Err-Left.left stop.0 stop.1 more)

pub returns-in-Err-Left-clause-none : goal.returns-in-Err-Left-clause-none
returns-in-Err-Left-clause-none g c n is more v rest s low e =
    let stop = rw c.in-Err-Left.field-0-is at c.in-Err-Left.ensures in
    lost_none c.args.text.now stop.1 more v rest s low e

pub returns-in-Err-Cut-clause-open : goal.returns-in-Err-Cut-clause-open
returns-in-Err-Cut-clause-open g c n is =
    let stop = rw c.in-Err-Cut.field-0-is at c.in-Err-Cut.ensures in
    open_text c.args.text.now stop.1

pub returns-in-Err-Deep-clause-only : goal.returns-in-Err-Deep-clause-only
returns-in-Err-Deep-clause-only g c v rest s low e =
    let deep = rw c.in-Err-Deep.field-0-is at c.in-Err-Deep.ensures in
    absurd (no_first c.args.text.now v rest (deepens_none 256 0 c.args.text.now deep) s low e)

pub returns-in-Err-Deep-clause-deep : goal.returns-in-Err-Deep-clause-deep
returns-in-Err-Deep-clause-deep g c m same =
    let deep = rw c.in-Err-Deep.field-0-is at c.in-Err-Deep.ensures in
    deepens c.args.text.now deep
