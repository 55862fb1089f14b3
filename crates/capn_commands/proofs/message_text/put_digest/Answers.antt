use Rattle.std.proofs.Common.{ℕ, List, Err, ap, subst}
use Rattle.capn_canon.specs.declared.refusal.Refusal.{Refusal}
use Rattle.capn_commands.specs.MessageText.{PutsLine, digest_line}
use Rattle.capn_commands.proofs.MessagePuts.{digest_put, digest_refused}
use Rattle.capn_commands.proofs.message_text.put_digest.Goals as goal

pub returns-in-Some : goal.returns-in-Some
returns-in-Some g c =
    digest_put (g.S.Space.message c.args.space.now) c.args.limits c.in-Some.own.bytes.now c.in-Some.own.paid
    c.in-Some.ensures.own _ _ c.put_digest_line.result c.put_digest_line.ensures

pub returns : goal.returns
returns g c =
    digest_put (g.S.Space.message c.args.space.now) c.args.limits c.in_ok-canonical.canonical.bytes.items
    c.in_ok-canonical.canonical.paid c.in_ok-canonical.ensures.found _ _ c.put_digest_line-2.result
    (subst (λ (xs : List ℕ). PutsLine (digest_line xs) c.args.text.now.items c.put_digest_line-2.new.text.items
    c.put_digest_line-2.result) c.deref.ensures.value c.put_digest_line-2.ensures)

pub returns-in_err-canonical : goal.returns-in_err-canonical
returns-in_err-canonical g c =
    digest_refused (g.S.Space.message c.args.space.now) c.args.limits c.in_err-canonical.field-0.0
    c.args.text.now.items c.from_residual.result c.in_err-canonical.ensures.refused
    (λ is. c.in_err-canonical.ensures.memory (ap (λ (e : Refusal). Err e) is)) c.from_residual.ensures.1
