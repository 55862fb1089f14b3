pub mod shared
mod PathLengths
mod WalksTold
mod SurveyedMismatches
mod Filled
mod WrittenLines
mod LinesRead
