-- `cache::buffers::Buffers::lose_all` meets its promise.
use Rattle.std.proofs.Common.{refl, ◌∙◌}
use Rattle.cache.proofs.Everything.{lost_none, lost_more, lost_all}
use Rattle.cache.proofs.Same.{same_then}
use Rattle.cache.proofs.buffers.Buffers.lose_all.Goals as goal

pub loop-slot-init : goal.loop-slot-init
loop-slot-init c = record {
  same = ((refl, refl), (refl, refl), (refl, refl), (refl, refl));
  lines = (refl, refl);
  lost = lost_none _ _ c.requires;
}

pub loop-slot-preserved : goal.loop-slot-preserved
loop-slot-preserved c =
    let kept = c.lose.ensures.same in
    let lines = c.loop-slot.invariant.lines in
    record {
      same = same_then c.args.self.now c.loop-slot.self c.lose.new.self c.loop-slot.invariant.same kept;
      lines = (c.lose.ensures.lines.0 ∙ lines.0, c.lose.ensures.lines.1 ∙ lines.1);
      lost = lost_more _ _ _ _ _ _ _ _ c.loop-slot-test.true c.loop-slot.invariant.lost c.lose.ensures.loses kept.2.1 kept.3.1;
    }

pub returns-clause-loses : goal.returns-clause-loses
returns-clause-loses c = lost_all _ _ _ _ _ _ c.loop-slot-test.false c.loop-slot.invariant.lost
