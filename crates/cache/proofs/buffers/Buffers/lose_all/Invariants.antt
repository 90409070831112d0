use Rattle.std.proofs.Common.{◌≡◌}
use Rattle.cache.specs.Held.{SameBuffers}
use Rattle.cache.proofs.Everything.{Lost}
use Rattle.cache.proofs.buffers.Buffers.lose_all.Given as goal

abbrev pub invariant-loop-slot : goal.invariant-loop-slot
invariant-loop-slot l = record {
  same : SameBuffers l.fn.self l.self;
  lines : (l.self.mem.now ≡ l.fn.self.mem.now) × (l.self.macs.now ≡ l.fn.self.macs.now);
  lost : Lost l.slot-end l.slot l.fn.self.cache.now l.fn.self.dir.now l.self.cache.now l.self.dir.now;
}
