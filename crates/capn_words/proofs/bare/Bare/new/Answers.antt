use Rattle.std.proofs.Common.{Ok, ap, arith}
use Rattle.capn_words.proofs.shared.OneSegment.{bare_is, bare_length, bare_only}
use Rattle.capn_words.proofs.bare.Bare.new.Goals as goal

pub returns-then-length-ne0-clause-only : goal.returns-then-length-ne0-clause-only
returns-then-length-ne0-clause-only c ws h = absurd (omega (arith, bare_length c.args.bytes.now ws h))

pub returns-then-words-clause-only : goal.returns-then-words-clause-only
returns-then-words-clause-only c ws h = absurd (omega (arith, bare_length c.args.bytes.now ws h, h.room))

pub returns-clause-exact : goal.returns-clause-exact
returns-clause-exact c = bare_is c.args.bytes.now (λ i. omega (arith, c.type_inv.bytes i)) (omega arith) (omega arith)

pub returns-clause-only : goal.returns-clause-only
returns-clause-only c ws h = ap Ok (bare_only c.args.bytes.now ws h)
