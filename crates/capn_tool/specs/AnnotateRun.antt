-- The effect of a run that annotates messages. (Our own.)
use Rattle.std.specs.Prelude.{◌≡◌, ℕ, List, Bool, Option, Result}
use Rattle.capn_serve.specs.declared.fault.RunFault.{RunFault}
use Rattle.capn_annotate.specs.AnnotateRun.{Annotated}
use Rattle.capn_annotate.specs.declared.annotate_order.AnnotateOrder.{AnnotateOrder}
use Rattle.capn_commands.specs.declared.fault.ToolFault.{ToolFault}
use Rattle.capn_tool.specs.PartRun.{unplaced_end}

-- The messages of an input were annotated. `r` is the result of that run, without the position of a refused message.
pub record MessagesAnnotated (order : AnnotateOrder) (a b c d : Option (List ℕ)) (reader_failed writer_failed : Bool)
    (r : Result (Unit {0}) ToolFault) : Type 0 where
  pub ending : Result (Unit {0}) RunFault
  pub annotated : Annotated order a b c d reader_failed writer_failed ending
  pub is : r ≡ unplaced_end ending
