use Rattle.std.proofs.Common.{arith}
use Rattle.capn_pack.proofs.shared.GroupLaws.{one_reading, refused_only}
use Rattle.capn_pack.proofs.WordLemmas.{packs_words}
use Rattle.capn_pack.proofs.unpacked_words.unpack.Goals as goal

pub returns-in-Ok-clause-only : goal.returns-in-Ok-clause-only
returns-in-Ok-clause-only g c bs packs fits = one_reading _ _ _ c.in-Ok.ensures.found packs

pub returns-in-Err-clause-only : goal.returns-in-Err-clause-only
returns-in-Err-clause-only g c bs packs fits = refused_only _ _ _ _ c.in-Err.ensures.refused packs fits

pub returns-in-Ok-clause-words : goal.returns-in-Ok-clause-words
returns-in-Ok-clause-words g c = packs_words _ _ c.in-Ok.ensures.found (λ i. omega (arith, c.type_inv.bytes i))
