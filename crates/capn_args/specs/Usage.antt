-- The reasons why the words of a command line mean no invocation. (Our own.)
use Rattle.std.specs.Prelude.{◌≡◌, ◌⊎◌, ℕ, List, [], ◌++◌, codes, Result, Ok, Err}
use Rattle.clap.specs.Words.{IsAmong, Text, fault_of, kind_of, subcommand_of}
use Rattle.clap.specs.declared.error.Error.{Error}
use Rattle.clap.specs.declared.error.ErrorKind.{ErrorKind}
use Rattle.clap.specs.declared.error.ErrorKind.TheVariants as kinds
use Rattle.capn_commands.specs.declared.command.Command.{Command}
use Rattle.capn_args.specs.CommandLine.{program_line}
use Rattle.capn_args.specs.Meaning.{AreSame, MeansInvocation}
use Rattle.capn_args.specs.declared.invocation.Invocation.{Invocation}
use Rattle.capn_args.specs.declared.invocation.Invocation.TheVariants as invocations
use Rattle.capn_args.specs.declared.usage.Usage.{Usage}

-- The error of the parser, which says why the words mean no invocation.
abbrev pub error_of : Usage → Error
error_of usage = usage.error

-- The kind of `usage` is a refused allocation.
abbrev pub NeedsMemory : Usage → Type 0
NeedsMemory usage = kind_of (error_of usage) ≡ kinds.OutOfMemory

-- The kind of `usage` is a request for help.
abbrev pub WishesHelp : Usage → Type 0
WishesHelp usage = kind_of (error_of usage) ≡ kinds.DisplayHelp

-- The kind of `usage` is a request for the version.
abbrev pub WishesVersion : Usage → Type 0
WishesVersion usage = kind_of (error_of usage) ≡ kinds.DisplayVersion

-- The line that `--version` writes.
abbrev pub version_line : List ℕ
version_line = codes "capn 1.1.0-dev\n"

-- The title of every page of help, which names the version, and an empty line after the title.
abbrev pub help_title : List ℕ
help_title =
    codes "capn 1.1.0-dev: Cap'n Proto messages without a schema, standard input to output\n\n"

-- `text` begins with the title of a help page.
abbrev pub IsHelp : List ℕ → Type 0
IsHelp text = (said : List ℕ) × (text ≡ help_title ++ said)

-- `kind` is a reason why `words` mean no invocation: a refused allocation, a fault of the first failing step of the
-- parser, or `InvalidValue`. In the last case no step fails, and the options mean no invocation.
abbrev pub IsReason : List Text → ErrorKind → Type 0
IsReason words kind = (kind ≡ kinds.OutOfMemory) ⊎ (IsAmong kind (fault_of program_line words)
    ⊎ ((fault_of program_line words ≡ []) × (kind ≡ kinds.InvalidValue)
    × ((invocation : Invocation) → MeansInvocation (subcommand_of program_line words) invocation → ⊥)))

-- `kind` is a reason why `words` mean no command: a reason why they mean no invocation, or `InvalidSubcommand`. In the
-- last case no step of the parser fails, and the words mean an invocation that is no command.
abbrev pub IsNoCommand : List Text → ErrorKind → Type 0
IsNoCommand words kind = IsReason words kind
    ⊎ ((fault_of program_line words ≡ []) × (kind ≡ kinds.InvalidSubcommand)
    × ((invocation : Invocation) × MeansInvocation (subcommand_of program_line words) invocation)
    × ((command : Command) → MeansInvocation (subcommand_of program_line words) (invocations.Message command) → ⊥))

-- If the result is `Ok given`, `AreSame given invocation` holds. If it is an error, an allocation was refused.
abbrev pub GivesInvocation : Invocation → Result Invocation Usage → Type 0
GivesInvocation invocation (Ok given) = AreSame given invocation
GivesInvocation invocation (Err usage) = NeedsMemory usage

-- If the result is `Ok`, it is `command`. If it is an error, an allocation was refused.
abbrev pub Names : Command → Result Command Usage → Type 0
Names command (Ok given) = given ≡ command
Names command (Err usage) = NeedsMemory usage
