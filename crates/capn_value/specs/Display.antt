-- The displayed text of a misfit. (Our own.)
use Rattle.std.specs.Prelude.{ℕ, List, codes}
use Rattle.capn_value.specs.declared.misfit.Misfit.{Misfit}
use Rattle.capn_value.specs.declared.misfit.Misfit.TheVariants.{Wide, Long, Ragged, Costly, Tall, BadRoot}

-- the name of a misfit
abbrev pub misfit_name : Misfit → List ℕ
misfit_name Wide = codes "Wide"
misfit_name Long = codes "Long"
misfit_name Ragged = codes "Ragged"
misfit_name Costly = codes "Costly"
misfit_name Tall = codes "Tall"
misfit_name BadRoot = codes "BadRoot"
