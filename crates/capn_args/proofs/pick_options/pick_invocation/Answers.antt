use Rattle.std.proofs.Common.{◌≡◌, codes, inl, inr, true, false}
use Rattle.clap.specs.Words.{found_of, rows_of}
use Rattle.capn_args.proofs.OneInvocation.{by_name}
use Rattle.capn_args.proofs.pick_options.pick_invocation.Goals as goal

pub returns-in_err-pick_of-in-None-clause-served : goal.returns-in_err-pick_of-in-None-clause-served
returns-in_err-pick_of-in-None-clause-served c invocation means =
    absurd (elim (by_name (codes "pick") (rows_of (found_of c.args.matches.now)) invocation means) [
      | inl (pick, is, also) ↦ (let bad : false ≡ true = c.in_err-pick_of-in-None.ensures.served pick is in cc)
      | inr (only, is, also) ↦ (let bad : false ≡ true = c.in-None.ensures.served only is in cc)
    ])
