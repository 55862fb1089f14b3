use Rattle.std.proofs.Common.{inl, inr}
use Rattle.clap.specs.Words.{found_of, rows_of}
use Rattle.capn_args.proofs.ByName.{named}
use Rattle.capn_args.proofs.OneInvocation.{archives, by_name, kinds}
use Rattle.capn_args.proofs.command_line.named_invocation.Goals as goal

pub returns-in_default-clause-served : goal.returns-in_default-clause-served
returns-in_default-clause-served c invocation means =
    let rows = rows_of (found_of c.args.matches.now) in
    let name = c.args.name.now in
    elim (named kinds archives name rows invocation (by_name name rows invocation means)) [
      | inl listed ↦ absurd (elim listed [
        | inl show ↦ c.in_default.not-show show
        | inr (inl check) ↦ c.in_default.not-check check
        | inr (inr (inl explain)) ↦ c.in_default.not-explain explain
        | inr (inr (inr (inl annotate))) ↦ c.in_default.not-annotate annotate
        | inr (inr (inr (inr (inl list)))) ↦ c.in_default.not-list list
        | inr (inr (inr (inr (inr (inl canonical))))) ↦ c.in_default.not-canonical canonical
        | inr (inr (inr (inr (inr (inr (inl hash)))))) ↦ c.in_default.not-hash hash
        | inr (inr (inr (inr (inr (inr (inr (inl uniq))))))) ↦ c.in_default.not-uniq uniq
        | inr (inr (inr (inr (inr (inr (inr (inr (inl filter)))))))) ↦ c.in_default.not-filter filter
        | inr (inr (inr (inr (inr (inr (inr (inr (inr (inl cmp))))))))) ↦ c.in_default.not-cmp cmp
        | inr (inr (inr (inr (inr (inr (inr (inr (inr (inr (inl pick)))))))))) ↦ c.in_default.not-pick pick
        | inr (inr (inr (inr (inr (inr (inr (inr (inr (inr (inr (inl pack))))))))))) ↦ c.in_default.not-pack pack
        | inr (inr (inr (inr (inr (inr (inr (inr (inr (inr (inr (inr (inl unpack)))))))))))) ↦
            c.in_default.not-unpack unpack
        | inr (inr (inr (inr (inr (inr (inr (inr (inr (inr (inr (inr (inr (inl make))))))))))))) ↦
            c.in_default.not-make make
        | inr (inr (inr (inr (inr (inr (inr (inr (inr (inr (inr (inr (inr (inr none))))))))))))) ↦ none
      ])
      | inr (archive, task, options, called, is) ↦
          c.task_invocation.ensures.served archive called task options
    ]
