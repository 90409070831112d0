-- What is said stays within its bounds.
use Rattle.board_file.proofs.Said.{said-holds}
use Rattle.board_file.proofs.board.Draft.set.Goals as goal

pub invariant_of-self-clause-memory_fits : goal.invariant_of-self-clause-memory_fits
invariant_of-self-clause-memory_fits c =
    said-holds _ c.say.result c.memory_of.result c.args.self.now.memory c.say.new.place c.say.ensures.said c.say.ensures.refused c.args.self.now.memory_fits c.memory_of.ensures
