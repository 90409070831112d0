-- `registers::execute::effect` meets its promise.
use Rattle.std.proofs.Common.{rules}
use Rattle.sealing.specs.Lines.{drk_of}
use Rattle.instructions.specs.Record.{reg}
use Rattle.instructions.specs.Operations.{Ra, Rb, effect}
use Rattle.registers.specs.Effects.{next_key}
use Rattle.registers.proofs.Executing.{changed}
use Rattle.registers.proofs.execute.effect.Goals as goal

pub returns-in-Some-EpcSet : goal.returns-in-Some-EpcSet
unfolding effect next_key Ra Rb reg drk_of
returns-in-Some-EpcSet c = changed c.epc_set.ensures (search rules) (search rules)

pub returns-in-Some-CtxSet : goal.returns-in-Some-CtxSet
unfolding effect next_key Ra Rb reg drk_of
returns-in-Some-CtxSet c = changed c.ids_set.ensures (search rules) (search rules)

pub returns-in-Some-DrkSet : goal.returns-in-Some-DrkSet
unfolding effect next_key Ra Rb reg drk_of
returns-in-Some-DrkSet c = changed c.drk_set.ensures (search rules) (search rules)

pub returns-in-Some-DrkLock : goal.returns-in-Some-DrkLock
unfolding effect next_key Ra Rb reg drk_of
returns-in-Some-DrkLock c = changed c.drk_lock.ensures (search rules) (search rules)

pub returns-in-Some-DrkDerive : goal.returns-in-Some-DrkDerive
unfolding effect next_key Ra Rb reg drk_of
returns-in-Some-DrkDerive c = changed c.drk_derive.ensures (search rules) (search rules)

pub returns-in-Some-SrhGet : goal.returns-in-Some-SrhGet
unfolding effect next_key Ra Rb reg drk_of
returns-in-Some-SrhGet c = changed c.srh_get.ensures (search rules) (search rules)

pub returns-in-Some-SrhSet : goal.returns-in-Some-SrhSet
unfolding effect next_key Ra Rb reg drk_of
returns-in-Some-SrhSet c = changed c.srh_set.ensures (search rules) (search rules)

pub returns-in-Some-GrGet : goal.returns-in-Some-GrGet
unfolding effect next_key Ra Rb reg drk_of
returns-in-Some-GrGet c = changed c.gr_get.ensures (search rules) (search rules)
