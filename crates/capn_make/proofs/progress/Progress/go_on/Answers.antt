use Rattle.std.proofs.Common.{◌++◌, ap, sym, subst, ◌∙◌, arith}
use Rattle.std.specs.Prelude.{IfErr}
use Rattle.capn_text.specs.Streams.{Place}
use Rattle.capn_make.specs.inner.RunParts.{HasMade, GoesOn, IsAfter, TellsCut}
use Rattle.capn_make.proofs.NextTexts.{place_is, left_after, dropped_after}
use Rattle.capn_make.proofs.progress.Progress.go_on.Goals as goal

pub returns-clause-made : goal.returns-clause-made
returns-clause-made g c = λ input written h.
    let was : Place = record { rest = c.args.self.now.rest.items; line = c.args.self.now.line } in
    let new = c.make_texts-ending.new.texts in
    let started = place_is c.in-Some.texts c.args.self.now.rest.items c.args.self.now.line
    (ap (λ (p : Place). p.rest) c.in-Some.ensures.found ∙ c.deref.ensures.value)
    (ap (λ (p : Place). p.line) c.in-Some.ensures.found) in
    let after = subst (λ p. IsAfter p new) started c.make_texts-ending.ensures.after in
    let size = c.len.ensures in
    let left = c.left.ensures in
    let less = left_after was new after in
    let dropped = c.drop_front.ensures ∙ dropped_after was new _ after (omega arith) in
    let made = c.make_texts-ending.ensures.made input written
    (subst (λ p. HasMade c.args.self.now.form input p (written ++ c.args.self.now.made.items)) (sym started) h) in
    subst (λ p. GoesOn c.args.self.now.form input p (written ++ c.make_texts-ending.new.made.items)
    c.make_texts-ending.result) (place_is new _ _ (sym dropped) (sym c.line-line.ensures)) made

pub returns-clause-memory : goal.returns-clause-memory
returns-clause-memory g c = λ refused none.
    let started = ap (λ (p : Place). p.rest) c.in-Some.ensures.found ∙ c.deref.ensures.value in
    c.make_texts-ending.ensures.memory refused (started ∙ none)

pub returns-clause-cut : goal.returns-clause-cut
returns-clause-cut g c =
    let was : Place = record { rest = c.args.self.now.rest.items; line = c.args.self.now.line } in
    let new = c.make_texts-ending.new.texts in
    let started = place_is c.in-Some.texts c.args.self.now.rest.items c.args.self.now.line
    (ap (λ (p : Place). p.rest) c.in-Some.ensures.found ∙ c.deref.ensures.value)
    (ap (λ (p : Place). p.line) c.in-Some.ensures.found) in
    let after = subst (λ p. IsAfter p new) started c.make_texts-ending.ensures.after in
    let size = c.len.ensures in
    let left = c.left.ensures in
    let less = left_after was new after in
    let dropped = c.drop_front.ensures ∙ dropped_after was new _ after (omega arith) in
    subst (λ p. IfErr c.make_texts-ending.result (λ e. TellsCut c.args.self.now.form p c.make_texts-ending.new.cut e))
    (place_is new _ _ (sym dropped) (sym c.line-line.ensures)) c.make_texts-ending.ensures.cut
