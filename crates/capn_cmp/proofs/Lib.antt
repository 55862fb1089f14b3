pub mod Lines
pub mod Beginnings
pub mod Reports
pub mod CmpServed
pub mod OneComparison
pub mod AllSame
pub mod WrittenReports
pub mod Faithful
