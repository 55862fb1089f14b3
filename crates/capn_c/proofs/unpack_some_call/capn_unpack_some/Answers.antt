-- The words to which the first groups unpack fit into the buffer, and are written at its start.
use Rattle.std.proofs.Common.{rules, [], length}
use Rattle.capn_pack.specs.WholeGroups.{UnpacksSome}
use Rattle.capn_c.specs.UnpackedPieces.{words_in}
use Rattle.capn_c.proofs.Unpacked.{content_length, content_room}
use Rattle.capn_c.proofs.unpack_some_call.capn_unpack_some.Goals as goal

pub put-requires : goal.put-requires
put-requires c =
    let p = c.in-Ok.progress in
    let max = words_in (length c.args.out.now) in
    let u : UnpacksSome c.args.bytes.now max [] c.as_slice.result.now p.bytes p.words p.next = search rules in
    content_room c.args.bytes.now (length c.args.out.now) c.as_slice.result.now p.bytes p.words p.next u

pub returns-in-Ok-clause-some : goal.returns-in-Ok-clause-some
returns-in-Ok-clause-some c n =
    let p = c.in-Ok.progress in
    let max = words_in (length c.args.out.now) in
    let u : UnpacksSome c.args.bytes.now max [] c.as_slice.result.now p.bytes p.words p.next = search rules in
    record {
      content = c.as_slice.result.now;
      words = p.words;
      next = p.next;
      some = search rules;
      length_is =
          content_length c.args.bytes.now max c.as_slice.result.now p.bytes p.words p.next u;
      written = c.put.ensures;
      told = search rules;
      status_is = search rules;
    }
