-- The displayed text of the stop of a walk. (Our own.)
use Rattle.std.specs.Prelude.{ℕ, List, ◌++◌, codes}
use Rattle.std.specs.Fmt.{decimal}
use Rattle.capn_target.specs.Display.{fault_name}
use Rattle.capn_walk.specs.declared.walk_answer.Stopped.{Stopped}

-- the text of `stopped`: the reason and the place of the stop, the number of words paid, and the number of visits
abbrev pub stopped_text : Stopped → List ℕ
stopped_text stopped =
    fault_name stopped.fault
    ++ (codes " at " ++ (decimal stopped.place.segment ++ (codes ":" ++ (decimal stopped.place.word
    ++ (codes ", paid " ++ (decimal stopped.paid ++ (codes ", visits " ++ decimal stopped.visits)))))))
