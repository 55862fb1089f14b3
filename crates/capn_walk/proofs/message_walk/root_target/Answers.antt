use Rattle.std.proofs.Common.{◌≡◌, ◌<◌, length, Ok, Err, sym, ◌∙◌, arith}
use Rattle.capn_words.specs.Message.{segment_at}
use Rattle.capn_target.specs.Target.{target}
use Rattle.capn_walk.specs.Accepted.{root}
use Rattle.capn_walk.proofs.RootWalks.{refused-kind, refused-fault}
use Rattle.capn_target.proofs.shared.Ways.{never-memory}
use Rattle.capn_walk.proofs.message_walk.root_target.Goals as goal

pub returns-else-may_be_root-clause-refused : goal.returns-else-may_be_root-clause-refused
returns-else-may_be_root-clause-refused g c limits =
    let m = c.args.space.now in
    let some : 0 < length (segment_at c.args.space.now 0) = omega arith in
    let e : target c.args.space.now root ≡ Ok c.in-Ok.target = cc in
    refused-kind m c.stop-else-may_be_root.result c.in-Ok.target limits some e
    (sym c.may_be_root.ensures ∙ c.if-may_be_root.false) c.stop-else-may_be_root.ensures

pub returns-in-Err-clause-refused : goal.returns-in-Err-clause-refused
returns-in-Err-clause-refused g c limits =
    let m = c.args.space.now in
    let some : 0 < length (segment_at c.args.space.now 0) = omega arith in
    let e : target c.args.space.now root ≡ Err c.in-Err.fault = cc in
    refused-fault m c.stop-in-Err.result c.in-Err.fault limits some e c.stop-in-Err.ensures

pub returns-in-Err-clause-no_memory : goal.returns-in-Err-clause-no_memory
returns-in-Err-clause-no_memory g c f =
    never-memory c.args.space.now root c.in-Err.fault (cc) (cc)
