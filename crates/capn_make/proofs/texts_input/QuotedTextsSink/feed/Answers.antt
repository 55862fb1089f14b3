use Rattle.std.proofs.Common.{◌++◌, ◌∙◌, length, ap, arith}
use Rattle.std.proofs.lemmas.Result.{err_from_is_err_and}
use Rattle.std.proofs.lemmas.List.{length-append}
use Rattle.capn_text.specs.Unquoting.{own_at}
use Rattle.capn_make.proofs.UnderWay.{no_writes}
use Rattle.capn_make.proofs.UnderTexts.{come, goes_on, refused, unheld, writes_at}
use Rattle.capn_make.proofs.texts_input.QuotedTextsSink.feed.Goals as goal

pub returns-in_err-push-clause-fed : goal.returns-in_err-push-clause-fed
returns-in_err-push-clause-fed g c = λ bytes x u.
    let p = err_from_is_err_and c.from_residual.result c.from_residual.ensures.1 in
    rw (p.1, p.2) (
      unheld c.args.self.now.texts.form bytes x _ _ _ _ _ _ u c.args.piece.now c.requires.some,
      no_writes _ _ _ c.requires.fine (λ e. absurd cc),
    )

pub look-requires-clause-within : goal.look-requires-clause-within
look-requires-clause-within g c =
    let old = c.len-before.ensures ∙ c.args.self.now.texts.rest.ok.0 in
    let read = c.in_ok-push.ensures.read in
    let grown = ap length read.1 ∙ length-append c.args.self.now.texts.rest.items read.0 in
    omega arith

pub returns-in-Ok-clause-fed : goal.returns-in-Ok-clause-fed
returns-in-Ok-clause-fed g c = λ bytes x u.
    let e = c.in_ok-push.ensures in
    let old = c.len-before.ensures ∙ c.args.self.now.texts.rest.ok.0 in
    let looked = c.in-Ok.ensures.looked (u.input ++ e.read.0) x (come c.args.self.now.texts.form bytes x _ _ _ _ _ _ u
    c.push.new.self c.args.piece.now e.read.0 c.requires.some e.read.2 e.quiet e.empty _ _ e.read.1 old) in (
      rw c.look.ensures.form (goes_on c.args.self.now.texts.form bytes x _ _ _ _ _ _ u c.push.new.self c.args.piece.now
          e.read.0 c.requires.some e.read.2 e.quiet e.empty c.following.ensures.last _ _ _ _ _ _
          (rw c.look.ensures.form at looked.0) c.forget.ensures),
      looked.1,
    )

pub returns-in-Err-clause-fed : goal.returns-in-Err-clause-fed
returns-in-Err-clause-fed g c = λ bytes x u.
    let e = c.in_ok-push.ensures in
    let old = c.len-before.ensures ∙ c.args.self.now.texts.rest.ok.0 in
    let looked = c.in-Err.ensures.looked (u.input ++ e.read.0) x (come c.args.self.now.texts.form bytes x _ _ _ _ _ _ u
    c.push.new.self c.args.piece.now e.read.0 c.requires.some e.read.2 e.quiet e.empty _ _ e.read.1 old) in
    rw c.at_own.ensures (
      refused c.args.self.now.texts.form bytes x _ _ _ _ _ _ u c.push.new.self c.args.piece.now e.read.0
          c.requires.some e.read.2 e.quiet e.empty c.following.ensures.after _ c.in-Err.fault looked.0,
      writes_at (own_at c.push.new.self) _ _ _ c.in-Err.fault looked.1,
    )
