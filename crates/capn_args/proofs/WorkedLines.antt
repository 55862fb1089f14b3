-- Worked examples: command lines that the parser takes, and what they mean.
use Rattle.std.proofs.Common.{◌≡◌, List, ℕ, refl, true, codes, [], ◌∷◌}
use Rattle.clap.specs.Words.{subcommand_of, takes}
use Rattle.clap.specs.Takes.{walk_passes}
use Rattle.clap.specs.Walk.{walked}
use Rattle.capn_commands.specs.declared.command.Command.TheVariants as commands
use Rattle.capn_args.specs.CommandLine.{program_line}
use Rattle.capn_args.specs.Meaning.{MeansInvocation}
use Rattle.capn_args.specs.declared.invocation.Invocation.TheVariants as invocations

abbrev pack_words : List (List ℕ)
pack_words = codes "capn" ∷ codes "pack" ∷ []

pack_taken : takes program_line pack_words ≡ true
unfolding walk_passes walked
pack_taken = refl

pack_means : MeansInvocation (subcommand_of program_line pack_words) (invocations.Message commands.Pack)
unfolding walked
pack_means = (refl, (tt, refl))

abbrev check_words : List (List ℕ)
check_words = codes "capn" ∷ codes "check" ∷ codes "--form" ∷ codes "bare" ∷ codes "--depth=2" ∷ []

check_taken : takes program_line check_words ≡ true
unfolding walk_passes walked
check_taken = refl
