use Rattle.std.proofs.Common.{◌≡◌, ◌∙◌, true, false, ap, subst, sym}
use Rattle.clap.specs.Words.{found_of, rows_of}
use Rattle.capn_archive.specs.declared.task.Task.{Task}
use Rattle.capn_args.specs.Meaning.{TaskIs, task_name}
use Rattle.capn_args.proofs.command_line.task_invocation.Goals as goal

pub returns-clause-means : goal.returns-clause-means
returns-clause-means c =
    let rows = rows_of (found_of c.args.matches.now) in
    let archive = c.in_ok-archive.archive in
    let task = c.in_ok-task.task in
    let same : archive.task ≡ task = c.in_ok-archive.ensures.task in (
      sym (ap task_name same ∙ c.in_ok-task.ensures.named),
      (
        subst (λ (t : Task). TaskIs rows t) (sym same) (c.in_ok-task.ensures.flags rows),
        c.in_ok-archive.ensures.options,
      ),
    )

pub returns-in_err-task-clause-served : goal.returns-in_err-task-clause-served
returns-in_err-task-clause-served c archive named is options =
    let bad : false ≡ true = c.in_err-task.ensures.served archive.task named in absurd cc

pub returns-in_err-archive-clause-served : goal.returns-in_err-archive-clause-served
returns-in_err-archive-clause-served c archive named is options =
    let bad : false ≡ true = c.in_err-archive.ensures.served archive options in absurd cc
