use Rattle.directory.specs.Direct.{direct}
use Rattle.directory.proofs.DirectLaws.{direct_laws}
use Rattle.cache.specs.Lent.{counts_in}
use Rattle.cache.specs.Held.{SameBuffers, memory_in}
use Rattle.cache.proofs.Everything.{Emptied}
use Rattle.cache.proofs.buffers.Buffers.evict_all.Given as goal

abbrev pub invariant-loop-slot : goal.invariant-loop-slot
invariant-loop-slot l = record {
  same : SameBuffers l.fn.self l.self;
  emptied : Emptied direct direct_laws l.slot-end l.slot (memory_in l.drk l.fn.self) (memory_in l.drk l.self) (counts_in l.k);
}
