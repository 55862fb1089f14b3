pub mod inner
pub mod Accounts
pub mod Reports
pub mod WhatCame
pub mod FaultLines
pub mod ExplainRun
pub mod RefusedRun
