use Rattle.std.proofs.Common.{◌≡◌, ◌∙◌, ℕ, List, Bool, true, false, ap, sym, arith, if◌then◌else◌}
use Rattle.std.proofs.lemmas.Result.{on_ok_weaker, IfErr-weaker}
use Rattle.capn_show.specs.Outgoing.{outgoing}
use Rattle.capn_show.specs.Emitted.{Rule, digit_lines, text_or_digits}
use Rattle.capn_show.proofs.shared.ReadBytes.{read-bytes}
use Rattle.capn_show.proofs.shared.Appended.{otherwise, otherwise-broken}
use Rattle.capn_show.proofs.bytes.show_byte_list.Goals as goal

module _ (rule : Rule) (level : ℕ) (path : List ℕ) (first : ℕ) (bs xs : List ℕ) (e : bs ≡ xs) where
  -- Case: the bytes `bs` that were read are a text.
  text-lines : rule.is_text bs ≡ true → rule.text level bs ≡ text_or_digits rule level path first xs
  text-lines t =
      ap (λ (b : Bool). if b then rule.text level bs else digit_lines rule level path first bs) (sym t)
      ∙ ap (text_or_digits rule level path first) e

  digit-lines : rule.is_text bs ≡ false → digit_lines rule level path first xs ≡ text_or_digits rule level path first xs
  digit-lines t =
      ap (λ (b : Bool). if b then rule.text level xs else digit_lines rule level path first xs)
      (sym t ∙ ap rule.is_text e)

pub returns-then-is_text-clause-shown : goal.returns-then-is_text-clause-shown
returns-then-is_text-clause-shown g c =
    let rule = g.E.Emitter.rule c.args.emitter.now in
    let path = g.E.Emitter.path c.args.emitter.now in
    let lies = rule.lies (g.S.Space.message c.args.space.now) c.args.start in
    let m = g.S.Space.message c.args.space.now in
    let bs = c.bytes-bytes.result.now in
    let p = outgoing g.W.Write.contents c.args.writer.now c.args.text.now.items in
    let q = outgoing g.W.Write.contents c.put_text.new.writer c.put_text.new.text.items in
    let within = c.requires.content.within in
    on_ok_weaker c.put_text.result
    (λ k xs h n. let same = read-bytes m c.args.start c.args.count bs xs c.bytes-bytes.ensures (omega arith) h n in
    otherwise p q _ _ (text-lines rule c.args.level path lies bs xs same (sym c.is_text.ensures ∙ c.if-is_text.true)) k)
    c.put_text.ensures.shown

pub returns-then-is_text-clause-cut : goal.returns-then-is_text-clause-cut
returns-then-is_text-clause-cut g c =
    let rule = g.E.Emitter.rule c.args.emitter.now in
    let path = g.E.Emitter.path c.args.emitter.now in
    let lies = rule.lies (g.S.Space.message c.args.space.now) c.args.start in
    let m = g.S.Space.message c.args.space.now in
    let bs = c.bytes-bytes.result.now in
    let p = outgoing g.W.Write.contents c.args.writer.now c.args.text.now.items in
    let q = outgoing g.W.Write.contents c.put_text.new.writer c.put_text.new.text.items in
    let within = c.requires.content.within in
    IfErr-weaker c.put_text.result _ _
    (λ e k xs h n. let same = read-bytes m c.args.start c.args.count bs xs c.bytes-bytes.ensures (omega arith) h n in
    otherwise-broken p q e _ _ (text-lines rule c.args.level path lies bs xs same
    (sym c.is_text.ensures ∙ c.if-is_text.true)) k) c.put_text.ensures.cut

pub returns-else-is_text-clause-shown : goal.returns-else-is_text-clause-shown
returns-else-is_text-clause-shown g c =
    let rule = g.E.Emitter.rule c.args.emitter.now in
    let path = g.E.Emitter.path c.args.emitter.now in
    let lies = rule.lies (g.S.Space.message c.args.space.now) c.args.start in
    let m = g.S.Space.message c.args.space.now in
    let bs = c.bytes-bytes.result.now in
    let p = outgoing g.W.Write.contents c.args.writer.now c.args.text.now.items in
    let q = outgoing g.W.Write.contents c.show_digits.new.writer c.show_digits.new.text.items in
    let within = c.requires.content.within in
    on_ok_weaker c.show_digits.result
    (λ k xs h n. let same = read-bytes m c.args.start c.args.count bs xs c.bytes-bytes.ensures (omega arith) h n in
    otherwise p q _ _ (digit-lines rule c.args.level path lies bs xs same
    (sym c.is_text.ensures ∙ c.if-is_text.false)) (k xs h n)) c.show_digits.ensures.shown

pub returns-else-is_text-clause-cut : goal.returns-else-is_text-clause-cut
returns-else-is_text-clause-cut g c =
    let rule = g.E.Emitter.rule c.args.emitter.now in
    let path = g.E.Emitter.path c.args.emitter.now in
    let lies = rule.lies (g.S.Space.message c.args.space.now) c.args.start in
    let m = g.S.Space.message c.args.space.now in
    let bs = c.bytes-bytes.result.now in
    let p = outgoing g.W.Write.contents c.args.writer.now c.args.text.now.items in
    let q = outgoing g.W.Write.contents c.show_digits.new.writer c.show_digits.new.text.items in
    let within = c.requires.content.within in
    IfErr-weaker c.show_digits.result _ _
    (λ e k xs h n. let same = read-bytes m c.args.start c.args.count bs xs c.bytes-bytes.ensures (omega arith) h n in
    otherwise-broken p q e _ _ (digit-lines rule c.args.level path lies bs xs same
    (sym c.is_text.ensures ∙ c.if-is_text.false)) (k xs h n)) c.show_digits.ensures.cut
