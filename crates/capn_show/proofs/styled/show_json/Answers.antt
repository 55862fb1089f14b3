use Rattle.std.proofs.Common.{◌≡◌, Bool, true, false, [], ◌∷◌, refl, not, eqb}
use Rattle.std.proofs.lemmas.Result.{on_ok_weaker, IfErr-weaker}
use Rattle.std.specs.Prelude.{Some}
use Rattle.capn_value.specs.Tree.{Tree}
use Rattle.capn_show.specs.Json.{json_by, json_line_by}
use Rattle.capn_show.specs.Style.{part_in}
use Rattle.capn_show.specs.inner.JsonRule.{bytes_json_of}
use Rattle.capn_show.specs.ReadyPlaces.{json_style}
use Rattle.capn_show.proofs.JsonEmitted.{json-emitted}
use Rattle.capn_show.specs.Outgoing.{outgoing}
use Rattle.capn_show.proofs.shared.Appended.{both, otherwise, otherwise-broken, then-broken, broken-before, passed}
use Rattle.capn_show.proofs.styled.show_json.Goals as goal

-- The JSON of `v` and a newline is the text of `v` in the style `json_style quoted`.
lined : (quoted : Bool) (v : Tree) → json_line_by (bytes_json_of quoted) v ≡ part_in (json_style quoted) (Some v)
lined false v = refl
lined true v = refl

pub returns-clause-shown : goal.returns-clause-shown
returns-clause-shown g c =
    let m = g.S.Space.message c.args.space.now in
    let asked = not (eqb g.row.QUOTED 0) in
    let by = bytes_json_of asked in
    let text = json-emitted asked m 0 [] c.args.found in
    let p = outgoing g.W.Write.contents c.args.writer.now c.args.text.now.items in
    let q = outgoing g.W.Write.contents c.show_found.new.writer c.show_found.new.text.items in
    let r = outgoing g.W.Write.contents c.end_line.new.writer c.end_line.new.text.items in
    on_ok_weaker c.end_line.result (λ k v h. otherwise p r _ _ (lined asked v) (both p q r (json_by by v) (10 ∷ [])
    (otherwise p q _ _ (text v) (c.in_ok-show_found.ensures.shown v h)) k)) c.end_line.ensures.shown

pub returns-clause-cut : goal.returns-clause-cut
returns-clause-cut g c =
    let m = g.S.Space.message c.args.space.now in
    let asked = not (eqb g.row.QUOTED 0) in
    let by = bytes_json_of asked in
    let text = json-emitted asked m 0 [] c.args.found in
    let p = outgoing g.W.Write.contents c.args.writer.now c.args.text.now.items in
    let q = outgoing g.W.Write.contents c.show_found.new.writer c.show_found.new.text.items in
    let r = outgoing g.W.Write.contents c.end_line.new.writer c.end_line.new.text.items in
    IfErr-weaker c.end_line.result _ _ (λ e k v h. otherwise-broken p r e _ _ (lined asked v) (then-broken p q r e
    (json_by by v) (10 ∷ []) (otherwise p q _ _ (text v) (c.in_ok-show_found.ensures.shown v h)) k))
    c.end_line.ensures.cut

pub returns-in_err-show_found-clause-cut : goal.returns-in_err-show_found-clause-cut
returns-in_err-show_found-clause-cut g c =
    let m = g.S.Space.message c.args.space.now in
    let asked = not (eqb g.row.QUOTED 0) in
    let by = bytes_json_of asked in
    let text = json-emitted asked m 0 [] c.args.found in
    let p = outgoing g.W.Write.contents c.args.writer.now c.args.text.now.items in
    let q = outgoing g.W.Write.contents c.show_found.new.writer c.show_found.new.text.items in
    passed c.from_residual.result c.in_err-show_found.field-0.0 _ c.from_residual.ensures.1 (λ v h. otherwise-broken p q
    _ _ _ (lined asked v) (broken-before p q _ (json_by by v) (10 ∷ []) (otherwise-broken p q _ _ _ (text v)
    (c.in_err-show_found.ensures.cut v h))))
