use Rattle.std.proofs.Common.{◌≡◌, codes, inl, inr, true, false}
use Rattle.clap.specs.Words.{found_of, rows_of}
use Rattle.capn_args.proofs.OneInvocation.{by_name, framed_given}
use Rattle.capn_args.proofs.command_line.canonical_of.Goals as goal

pub returns-in_err-flag_of-clause-served : goal.returns-in_err-flag_of-clause-served
returns-in_err-flag_of-clause-served c invocation means =
    absurd (elim (by_name (codes "canonical") (rows_of (found_of c.args.matches.now)) invocation means) [
      | inl (command, (form, limits, named, are, is), (framed, keep_going), also) ↦
          (let bad : false ≡ true = c.in_err-flag_of.ensures.served false framed in cc)
      | inr (archive, task, are, named, also) ↦
          let framed = framed_given (rows_of (found_of c.args.matches.now)) archive.task named task in
          (let bad : false ≡ true = c.in_err-flag_of.ensures.served true framed in cc)
    ])

pub returns-in_err-form-clause-served : goal.returns-in_err-form-clause-served
returns-in_err-form-clause-served c invocation means =
    absurd (elim (by_name (codes "canonical") (rows_of (found_of c.args.matches.now)) invocation means) [
      | inl (command, (form, limits, named, are, is), (framed, keep_going), also) ↦
          (let bad : false ≡ true = c.in_err-form.ensures.served form named in cc)
      | inr (archive, task, (named, are, keep_going), called, also) ↦
          (let bad : false ≡ true = c.in_err-form.ensures.served archive.form named in cc)
    ])

pub returns-in_err-limits-clause-served : goal.returns-in_err-limits-clause-served
returns-in_err-limits-clause-served c invocation means =
    absurd (elim (by_name (codes "canonical") (rows_of (found_of c.args.matches.now)) invocation means) [
      | inl (command, (form, limits, named, are, is), (framed, keep_going), also) ↦
          (let bad : false ≡ true = c.in_err-limits.ensures.served limits are in cc)
      | inr (archive, task, (named, are, keep_going), called, also) ↦
          (let bad : false ≡ true = c.in_err-limits.ensures.served archive.limits are in cc)
    ])
