use Rattle.std.proofs.Common.{◌≡◌, ◌-◌, ℕ, List, ◌++◌, codes, length, take, ap, refl, ◌∙◌}
use Rattle.std.proofs.lemmas.Result.{on_ok_weaker, IfErr-weaker}
use Rattle.capn_show.specs.Json.{member, quoted}
use Rattle.capn_show.specs.JsonTexts.{json_escapes, text_json}
use Rattle.capn_show.specs.Outgoing.{outgoing}
use Rattle.capn_show.proofs.shared.Appended.{passed, otherwise, otherwise-broken, broken-before}
use Rattle.capn_show.proofs.JsonEmitted.{closed}
use Rattle.capn_show.proofs.shared.Sequels.{three, cut-second, cut-third}
use Rattle.capn_show.proofs.json_texts.json_text.Goals as goal

text-parts : (xs : List ℕ) (n : ℕ) → n ≡ length xs - 1
    → codes "{\"text\":\"" ++ (json_escapes (take n xs) ++ codes "\"}") ≡ text_json xs
text-parts xs n e =
    closed (codes "{\"text\":\"") (json_escapes (take n xs)) 34
    ∙ ap (λ (k : ℕ). member (codes "text") (quoted (json_escapes (take k xs)))) e

pub returns-clause-shown : goal.returns-clause-shown
returns-clause-shown g c =
    let old = outgoing g.W.Write.contents c.args.writer.now c.args.text.now.items in
    let begun = outgoing g.W.Write.contents c.put.new.writer c.put.new.text.items in
    let full = outgoing g.W.Write.contents c.put_escapes.new.writer c.put_escapes.new.text.items in
    let new = outgoing g.W.Write.contents c.put-2.new.writer c.put-2.new.text.items in
    let xs = c.args.bytes.now in
    let size = c.saturating_sub.result in
    on_ok_weaker c.put-2.result (λ k. otherwise old new _ _ (text-parts xs size c.saturating_sub.ensures) (three old
    begun (codes "{\"text\":\"") (json_escapes (take size xs)) (codes "\"}") full new c.in_ok-put.ensures.shown
    c.in_ok-put_escapes.ensures.shown k)) c.put-2.ensures.shown

pub returns-clause-cut : goal.returns-clause-cut
returns-clause-cut g c =
    let old = outgoing g.W.Write.contents c.args.writer.now c.args.text.now.items in
    let begun = outgoing g.W.Write.contents c.put.new.writer c.put.new.text.items in
    let full = outgoing g.W.Write.contents c.put_escapes.new.writer c.put_escapes.new.text.items in
    let new = outgoing g.W.Write.contents c.put-2.new.writer c.put-2.new.text.items in
    let xs = c.args.bytes.now in
    let size = c.saturating_sub.result in
    IfErr-weaker c.put-2.result _ _ (λ e k. otherwise-broken old new e _ _ (text-parts xs size c.saturating_sub.ensures)
    (cut-third old begun (codes "{\"text\":\"") (json_escapes (take size xs)) (codes "\"}") full new e
    c.in_ok-put.ensures.shown c.in_ok-put_escapes.ensures.shown k)) c.put-2.ensures.cut

pub returns-in_err-put-clause-cut : goal.returns-in_err-put-clause-cut
returns-in_err-put-clause-cut g c =
    let old = outgoing g.W.Write.contents c.args.writer.now c.args.text.now.items in
    let begun = outgoing g.W.Write.contents c.put.new.writer c.put.new.text.items in
    let xs = c.args.bytes.now in
    let size = length xs - 1 in
    passed c.from_residual.result c.in_err-put.field-0.0 _ c.from_residual.ensures.1 (otherwise-broken old begun _ _ _
    (text-parts xs size refl) (broken-before old begun _
    (codes "{\"text\":\"") (json_escapes (take size xs) ++ codes "\"}") c.in_err-put.ensures.cut))

pub returns-in_err-put_escapes-clause-cut : goal.returns-in_err-put_escapes-clause-cut
returns-in_err-put_escapes-clause-cut g c =
    let old = outgoing g.W.Write.contents c.args.writer.now c.args.text.now.items in
    let begun = outgoing g.W.Write.contents c.put.new.writer c.put.new.text.items in
    let full = outgoing g.W.Write.contents c.put_escapes.new.writer c.put_escapes.new.text.items in
    let xs = c.args.bytes.now in
    let size = c.saturating_sub.result in
    passed c.from_residual-in_err-put_escapes.result c.in_err-put_escapes.field-0.0 _
    c.from_residual-in_err-put_escapes.ensures.1 (otherwise-broken old full _ _ _
    (text-parts xs size c.saturating_sub.ensures) (cut-second old begun
    (codes "{\"text\":\"") (json_escapes (take size xs)) (codes "\"}") full _ c.in_ok-put.ensures.shown
    c.in_err-put_escapes.ensures.cut))
