use Rattle.std.proofs.Common.{sym}
use Rattle.capn_serve.proofs.shared.Said.{both}
use Rattle.capn_make.proofs.fault.MakeFaultEnding.say.Goals as goal

pub returns-in-Memory : goal.returns-in-Memory
returns-in-Memory g c = rw c.in-Memory.is c.put_memory.ensures

pub returns-in-Io : goal.returns-in-Io
returns-in-Io g c = rw c.in-Io.is c.put.ensures

pub returns-in-InputTooLong : goal.returns-in-InputTooLong
returns-in-InputTooLong g c = rw c.in-InputTooLong.is c.put-in-InputTooLong.ensures

pub returns-in-NotText : goal.returns-in-NotText
returns-in-NotText g c = rw c.in-NotText.is c.put_between.ensures

pub returns-in-Another : goal.returns-in-Another
returns-in-Another g c = rw c.in-Another.is c.put_between-in-Another.ensures

pub returns-in-NoText : goal.returns-in-NoText
returns-in-NoText g c = rw c.in-NoText.is c.put-in-NoText.ensures

pub returns-in-Misfit : goal.returns-in-Misfit
returns-in-Misfit g c =
    rw (c.in-Misfit.is, sym c.name_of.ensures)
    (both _ _ _ _ _ c.put_named.ensures (both _ _ _ _ _ c.put-in-Misfit.ensures c.put-in-Misfit-2.ensures))

pub returns-in-Capability : goal.returns-in-Capability
returns-in-Capability g c =
    rw c.in-Capability.is (both _ _ _ _ _ c.put_named-in-Capability.ensures c.put_named-in-Capability-2.ensures)
