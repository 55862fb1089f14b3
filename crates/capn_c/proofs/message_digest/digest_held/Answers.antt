-- The digest of a message is also the digest of the segments that hold the message.
use Rattle.capn_stream.specs.Segments.{message_of}
use Rattle.capn_c.proofs.Digests.{held_bounded, held_found, held_told, held_wanted}
use Rattle.capn_c.proofs.message_digest.digest_held.Goals as goal

pub returns-clause-found : goal.returns-clause-found
returns-clause-found c =
    held_found (message_of c.args.segments.now) c.args.limits _ c.run_held.result _ c.run_held.ensures

pub returns-clause-refused : goal.returns-clause-refused
returns-clause-refused c =
    held_told (message_of c.args.segments.now) c.args.limits _ c.run_held.result _ c.run_held.ensures

pub returns-clause-memory : goal.returns-clause-memory
returns-clause-memory c w =
    held_wanted (message_of c.args.segments.now) c.args.limits _ c.run_held.result _ c.run_held.ensures w

pub returns-clause-bounded : goal.returns-clause-bounded
returns-clause-bounded c =
    held_bounded (message_of c.args.segments.now) c.args.limits _ c.run_held.result _ c.run_held.ensures
