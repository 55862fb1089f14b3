use Rattle.std.proofs.Common.{◌≡◌, ◌∙◌, Bool, true, false, [], refl, not, eqb}
use Rattle.std.proofs.lemmas.Result.{on_ok_weaker, IfErr-weaker}
use Rattle.std.specs.Prelude.{Some}
use Rattle.capn_value.specs.Tree.{Tree}
use Rattle.capn_show.specs.Outgoing.{outgoing}
use Rattle.capn_show.specs.Quoting.{shown_by}
use Rattle.capn_show.specs.ReadyPlaces.{bytes_of, lines_style}
use Rattle.capn_show.specs.Style.{part_in}
use Rattle.capn_show.proofs.shared.Appended.{otherwise, otherwise-broken}
use Rattle.capn_show.proofs.shared.BareTexts.{bare}
use Rattle.capn_show.proofs.shared.PlainTexts.{plain-shown}
use Rattle.capn_show.proofs.styled.show_lines.Goals as goal

-- The lines of `v` are the text of `v` in the style `lines_style quoted`.
lined : (quoted : Bool) (v : Tree) → shown_by (bytes_of quoted) 0 v ≡ part_in (lines_style quoted) (Some v)
lined false v = plain-shown 0 v
lined true v = refl

pub returns-clause-shown : goal.returns-clause-shown
returns-clause-shown g c =
    let m = g.S.Space.message c.args.space.now in
    let p = outgoing g.W.Write.contents c.args.writer.now c.args.text.now.items in
    let q = outgoing g.W.Write.contents c.show_found.new.writer c.show_found.new.text.items in
    let asked = not (eqb g.row.QUOTED 0) in
    let text = bare asked (λ m at. 0) (λ path i. path) (λ byte path. []) (λ n path. refl) m 0 [] c.args.found in
    on_ok_weaker c.show_found.result (λ k v h. otherwise p q _ _ (text v ∙ lined asked v) (k v h))
    c.show_found.ensures.shown

pub returns-clause-cut : goal.returns-clause-cut
returns-clause-cut g c =
    let m = g.S.Space.message c.args.space.now in
    let p = outgoing g.W.Write.contents c.args.writer.now c.args.text.now.items in
    let q = outgoing g.W.Write.contents c.show_found.new.writer c.show_found.new.text.items in
    let asked = not (eqb g.row.QUOTED 0) in
    let text = bare asked (λ m at. 0) (λ path i. path) (λ byte path. []) (λ n path. refl) m 0 [] c.args.found in
    IfErr-weaker c.show_found.result _ _ (λ e k v h. otherwise-broken p q e _ _ (text v ∙ lined asked v) (k v h))
    c.show_found.ensures.cut
