use Rattle.capn_scratch.proofs.Forms.{stream_told}
use Rattle.capn_scratch.proofs.canonical_form.of_stream.Goals as goal

pub returns-clause-told : goal.returns-clause-told
returns-clause-told g c =
    stream_told c.args.bytes.now c.args.limits _ c.args.out.now c.of_frame.new.out c.of_frame.result
    c.of_frame.ensures.told
