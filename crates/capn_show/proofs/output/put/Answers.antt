use Rattle.std.proofs.Common.{refl}
use Rattle.std.proofs.lemmas.Result.{IfErr-weaker}
use Rattle.capn_show.specs.declared.fault.Broken.TheVariants as broken
use Rattle.capn_show.specs.Outgoing.{outgoing}
use Rattle.capn_show.proofs.shared.Appended.{kept-more, settled-broken, refused}
use Rattle.capn_show.proofs.output.put.Goals as goal

pub returns-in-Ok-clause-cut : goal.returns-in-Ok-clause-cut
returns-in-Ok-clause-cut g c =
    let old = outgoing g.W.Write.contents c.args.writer.now c.args.text.now.items in
    let more = outgoing g.W.Write.contents c.args.writer.now c.extend_from_slice.new.self.items in
    let new = outgoing g.W.Write.contents c.settle.new.writer c.settle.new.text.items in
    IfErr-weaker c.settle.result _ _ (λ e. settled-broken old more new e c.args.bytes.now
    (kept-more old more c.args.bytes.now refl refl c.in-Ok.ensures.items)) c.settle.ensures.cut

pub returns-in-Err-clause-cut : goal.returns-in-Err-clause-cut
returns-in-Err-clause-cut g c =
    let old = outgoing g.W.Write.contents c.args.writer.now c.args.text.now.items in
    let same = outgoing g.W.Write.contents c.args.writer.now c.extend_from_slice.new.self.items in
    refused old same c.args.bytes.now broken.Memory refl refl refl c.in-Err.ensures.items
