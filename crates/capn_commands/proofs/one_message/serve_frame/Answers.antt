use Rattle.std.proofs.Common.{inl, inr, arith}
use Rattle.std.proofs.KnownBytes.{Appends-nil}
use Rattle.capn_serve.specs.StreamRun.{start}
use Rattle.capn_commands.specs.OneMessage.{Writes}
use Rattle.capn_commands.specs.inner.OneServing.{RefusesFrame, WritesFrame}
use Rattle.capn_commands.proofs.OneRead.{frame_refused, framed_whole}
use Rattle.capn_commands.proofs.OneRun.{serves_more}
use Rattle.capn_commands.proofs.one_message.serve_frame.Goals as goal

pub returns-then-taken-frame : goal.returns-then-taken-frame
returns-then-taken-frame g c =
    (inl (c.in-Ok.message, c.in-Ok.ensures.found, omega arith), Appends-nil _, c.requires.fine)

pub returns-else-taken-frame : goal.returns-else-taken-frame
returns-else-taken-frame g c =
    let frame = c.args.frame.now in
    let m = c.in-Ok.message in
    let is = framed_whole frame c.args.most m c.in-Ok.taken c.in-Ok.ensures.found (omega arith) in
    serves_more (Writes g.S.Service.serves c.args.service frame m)
    (WritesFrame (Writes g.S.Service.serves c.args.service) c.args.most frame)
    (g.S.Service.refuses c.args.service start frame m)
    (RefusesFrame (g.S.Service.refuses c.args.service start) c.args.most frame) _ _ _ c.serve_message.result
    (λ t writes. (m, is, writes)) (λ q refuses. inr (m, is, refuses)) c.serve_message.ensures

pub returns-in-Err : goal.returns-in-Err
returns-in-Err g c =
    frame_refused c.args.frame.now c.args.most _ (g.S.Service.refuses c.args.service start) _ _ c.in-Err.fault
    c.from.result c.from-in-Err.result c.requires.fine c.in-Err.ensures.refused c.from.ensures c.from-in-Err.ensures
