-- The exit status of words that mean no invocation. (Our own.)
use Rattle.std.specs.Prelude.{ℕ}
use Rattle.clap.specs.declared.error.ErrorKind.{ErrorKind}
use Rattle.clap.specs.declared.error.ErrorKind.TheVariants as kinds

-- The exit status: 3 if an allocation was refused, 0 for a request for help, and 2 for any other reason. For a request
-- for the version the program does not use this status, but writes the version and ends with 0.
abbrev pub usage_status_of : ErrorKind → ℕ
usage_status_of kinds.OutOfMemory = 3
usage_status_of kinds.DisplayHelp = 0
usage_status_of _ = 2
