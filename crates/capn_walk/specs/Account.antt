-- The account of a view: a budget, the number of words already paid, and the tariff.
use Rattle.std.specs.Prelude.{ℕ, ◌+◌, ◌-◌}
use Rattle.capn_value.specs.declared.tariff.Tariff.{Tariff}

-- the budget, the number of words already paid, and the tariff
pub record Account : Type 0 where
  pub budget : ℕ
  pub paid : ℕ
  pub tariff : Tariff

-- the number of words that the account `a` has left to pay
abbrev pub left_of : Account → ℕ
left_of a = a.budget - a.paid

-- the account `a` after `n` more words are paid
abbrev pub with_paid : Account → ℕ → Account
with_paid a n = record { budget = a.budget; paid = a.paid + n; tariff = a.tariff }
