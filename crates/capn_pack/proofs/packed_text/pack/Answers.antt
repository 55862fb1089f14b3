use Rattle.std.proofs.Common.{arith}
use Rattle.capn_pack.proofs.shared.ChosenLaws.{packs_from_chosen, one_text, texts_same, chosen_whole}
use Rattle.capn_pack.proofs.packed_text.pack.Goals as goal

pub returns-then-bytes-ne0-clause-only : goal.returns-then-bytes-ne0-clause-only
returns-then-bytes-ne0-clause-only g c b chosen = absurd (omega (arith, chosen_whole b _ chosen))

pub returns-then-bytes-ne0-clause-unique : goal.returns-then-bytes-ne0-clause-unique
returns-then-bytes-ne0-clause-unique g c = texts_same

pub returns-in-Ok-clause-packs : goal.returns-in-Ok-clause-packs
returns-in-Ok-clause-packs g c = packs_from_chosen _ _ c.in-Ok.ensures.chosen

pub returns-in-Ok-clause-only : goal.returns-in-Ok-clause-only
returns-in-Ok-clause-only g c b chosen = one_text _ b _ c.in-Ok.ensures.chosen chosen

pub returns-in-Ok-clause-unique : goal.returns-in-Ok-clause-unique
returns-in-Ok-clause-unique g c = texts_same

pub returns-in-Err-clause-unique : goal.returns-in-Err-clause-unique
returns-in-Err-clause-unique g c = texts_same
