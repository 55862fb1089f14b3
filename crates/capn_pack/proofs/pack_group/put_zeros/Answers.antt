use Rattle.capn_pack.proofs.PutLemmas.{puts_zeros}
use Rattle.capn_pack.proofs.pack_group.put_zeros.Goals as goal

pub returns : goal.returns
returns g c =
    puts_zeros c.args.bytes.now c.args.at c.zero_run-more.result c.args.out.now.items c.extend_from_slice.new.self.items
    c.requires.inside c.requires.tag c.zero_run-more.ensures.run c.zero_run-more.ensures.last
    c.in_ok-extend_from_slice.ensures.items
