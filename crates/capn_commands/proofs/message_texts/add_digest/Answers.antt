use Rattle.std.proofs.Common.{sym, subst}
use Rattle.capn_commands.specs.MessageText.{PutsMessageText}
use Rattle.capn_commands.specs.declared.plan.MessageText.{MessageText}
use Rattle.capn_commands.proofs.message_texts.add_digest.Goals as goal

pub returns : goal.returns
returns g c at frame =
    let s = c.args.service in
    let m = g.S.Space.message c.args.message.now in
    c.end_piece.ensures s at frame m c.args.text.now.items
    (subst (λ (k : MessageText). PutsMessageText k m s.limits c.args.text.now.items c.put_digest-put.new.text.items
    c.put_digest-put.result) (sym c.requires.digest) c.put_digest-put.ensures)
