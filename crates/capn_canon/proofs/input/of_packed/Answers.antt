-- A packed text is read as the message of the frame that it unpacks to.
use Rattle.std.proofs.Common.{ℕ, ◌+◌, ap, subst, arith, Err}
use Rattle.capn_pack.specs.UnpackRefusal.{IsUnpackRefused, StartsWithin}
use Rattle.capn_pack.specs.declared.fault.UnpackFault.{UnpackFault}
use Rattle.capn_stream.specs.Frames.{most_table_words}
use Rattle.capn_canon.specs.Reads.{Unpacks}
use Rattle.capn_canon.proofs.calls.ReadInput.{packed_run, packed_unread}
use Rattle.capn_canon.proofs.input.of_packed.Goals as goal

pub returns : goal.returns
returns g c =
    let answers = g.T.MessageTask.answers in
    let u : Unpacks c.args.bytes.now c.args.limits.message_words c.as_slice.result.now =
    record {
      packs = rw c.as_slice.ensures.value c.in_ok-text.ensures.found;
      room =
          rw c.as_slice.ensures.value (omega (arith, c.in_ok-text.ensures.within));
    } in
    packed_run c.args.bytes.now c.as_slice.result.now c.args.limits answers _ c.of_plain.result _ u c.of_plain.ensures

pub returns-in_err-text : goal.returns-in_err-text
returns-in_err-text g c =
    let answers = g.T.MessageTask.answers in
    let bs = c.args.bytes.now in
    let f = c.in_err-text.field-0.0 in
    packed_unread answers bs c.args.limits c.args.task.now c.from_residual.result f c.from_residual.ensures.1
    (subst (λ (n : ℕ). IsUnpackRefused bs (n + most_table_words) f) c.message_words.ensures.value
    c.in_err-text.ensures.refused)
    (λ e. subst (λ (n : ℕ). StartsWithin bs (n + most_table_words)) c.message_words.ensures.value
    (c.in_err-text.ensures.memory (ap (λ (x : UnpackFault). Err x) e)))
