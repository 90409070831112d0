-- `cache::buffers::Buffers::evict_all` meets its promise.
use Rattle.std.proofs.Common.{refl, arith}
use Rattle.directory.specs.Direct.{direct}
use Rattle.directory.proofs.DirectLaws.{direct_laws}
use Rattle.cache.proofs.Following.{small_bounded, evicted-small}
use Rattle.cache.proofs.Everything.{emptied-none, emptied_more, emptied-all}
use Rattle.cache.proofs.Same.{same_then}
use Rattle.cache.proofs.buffers.Buffers.evict_all.Goals as goal

pub loop-slot-init : goal.loop-slot-init
loop-slot-init c = record {
  same = ((refl, refl), (refl, refl), (refl, refl), (refl, refl));
  emptied = rw c.none-k.ensures (emptied-none direct direct_laws _ c.requires);
}

pub add-k-requires-clause-filled_bound_2 : goal.add-k-requires-clause-filled_bound_2
add-k-requires-clause-filled_bound_2 c = small_bounded 1 _ (omega arith) (evicted-small direct _ _ _ _ c.evict.ensures.does)

pub loop-slot-preserved : goal.loop-slot-preserved
loop-slot-preserved c =
    let kept = c.evict.ensures.same in
    record {
      same = same_then c.args.self.now c.loop-slot.self c.evict.new.self c.loop-slot.invariant.same kept;
      emptied = emptied_more direct direct_laws _ _ _ _ _ _ _ _ c.loop-slot-test.true c.loop-slot.invariant.emptied
          c.evict.ensures.does c.add-k.ensures kept.3.1 kept.0.1 kept.1.1 kept.2.1;
    }

pub returns-clause-does : goal.returns-clause-does
returns-clause-does c = emptied-all direct direct_laws _ _ _ _ _ c.loop-slot-test.false c.loop-slot.invariant.emptied
