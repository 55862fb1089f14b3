use Rattle.std.proofs.Common.{◌≡◌, ◌++◌, ℕ, List, Result, ap, refl, sym, subst}
use Rattle.capn_value.specs.Text.{show_text}
use Rattle.capn_show.specs.Outgoing.{outgoing}
use Rattle.capn_show.specs.Style.{end_of}
use Rattle.capn_show.specs.declared.style.Style.TheVariants as styles
use Rattle.capn_commands.specs.MessageText.{IsMessageText, IsNoMessageText, PutsMessageText}
use Rattle.capn_commands.specs.inner.MessageTexts.{refuses, serves}
use Rattle.capn_commands.specs.declared.message_texts.MessageTexts.{MessageTexts}
use Rattle.capn_commands.specs.declared.plan.MessageText.{MessageText}
use Rattle.capn_commands.specs.declared.plan.MessageText.TheVariants as kinds
use Rattle.capn_commands.specs.declared.fault.ToolFault.{ToolFault}
use Rattle.capn_commands.specs.declared.fault.ToolFault.TheVariants as faults
use Rattle.capn_commands.proofs.PartServed.{does_part}
use Rattle.capn_commands.proofs.message_texts.MessageTextsService.serve.Goals as goal

puts : (this : MessageText) (s : MessageTexts) (message : List (List ℕ)) (old new : List ℕ)
    (r : Result (Unit {0}) ToolFault) → s.piece ≡ this → PutsMessageText this message s.limits old new r
    → PutsMessageText s.piece message s.limits old new r
puts this s message old new r is put =
    subst (λ (k : MessageText). PutsMessageText k message s.limits old new r) (sym is) put

pub returns-in-Text : goal.returns-in-Text
returns-in-Text g c =
    let m = g.S.Space.message c.args.message.now in
    let s = c.args.self.now in
    does_part serves refuses m s.limits show_text (end_of styles.Lines) s c.args._at c.args._frame.now
    (λ v is. (
      subst (λ (k : MessageText). IsMessageText k m s.limits (show_text v ++ end_of styles.Lines))
          (sym c.in-Text.is) (v, is, refl),
      refl,
    ))
    (λ r stop is why. subst (λ (k : MessageText). IsNoMessageText k m s.limits (faults.Refused r))
    (sym c.in-Text.is) (stop, ap faults.Refused is, why))
    (outgoing g.W.Write.contents c.args.writer.now c.args.text.now.items)
    (outgoing g.W.Write.contents c.add_shown.new.writer c.add_shown.new.text.items) c.add_shown.result
    c.requires.fine c.add_shown.ensures

pub returns-in-Price : goal.returns-in-Price
returns-in-Price g c =
    c.end_piece.ensures c.args.self.now c.args._at c.args._frame.now (g.S.Space.message c.args.message.now)
    c.args.text.now.items
    (puts kinds.Price c.args.self.now (g.S.Space.message c.args.message.now) c.args.text.now.items
    c.put_price-put.new.text.items c.put_price-put.result c.in-Price.is c.put_price-put.ensures)

pub returns-in-Digest : goal.returns-in-Digest
returns-in-Digest g c = c.add_digest.ensures c.args._at c.args._frame.now
