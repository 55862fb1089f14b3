use Rattle.std.proofs.Common.{◌≡◌, ◌∙◌, codes, inl, inr, true, false}
use Rattle.clap.specs.Words.{found_of, rows_of}
use Rattle.capn_args.proofs.OneInvocation.{by_name}
use Rattle.capn_args.proofs.OneMeaning.{flag_one}
use Rattle.capn_args.proofs.command_line.unpack_of.Goals as goal

pub returns-in_err-flag_of-clause-served : goal.returns-in_err-flag_of-clause-served
returns-in_err-flag_of-clause-served c invocation means =
    absurd (elim (by_name (codes "unpack") (rows_of (found_of c.args.matches.now)) invocation means) [
      | inl (command, (most, are, is), given, also) ↦
          (let bad : false ≡ true = c.in_err-flag_of.ensures.served false given in cc)
      | inr (x, (given, usual), is) ↦
          (let bad : false ≡ true = c.in_err-flag_of.ensures.served true given in cc)
    ])

pub returns-in_err-unpacked_words_of-clause-served : goal.returns-in_err-unpacked_words_of-clause-served
returns-in_err-unpacked_words_of-clause-served c invocation means =
    absurd (elim (by_name (codes "unpack") (rows_of (found_of c.args.matches.now)) invocation means) [
      | inl (command, (most, are, is), given, also) ↦
          (let bad : false ≡ true = c.in_err-unpacked_words_of.ensures.served most are in cc)
      | inr (x, (given, usual), is) ↦
          let rows = rows_of (found_of c.args.matches.now) in
          let streaming = c.in_ok-flag_of.field-0 in
          let bad : true ≡ false =
          flag_one rows (codes "streaming") true streaming given c.in_ok-flag_of.ensures.read ∙ c.if-not-branch.true in
          cc
    ])
