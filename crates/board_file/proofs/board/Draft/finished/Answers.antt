-- The board at the end has what was said within its bounds.
use Rattle.std.proofs.Common.{rules}
use Rattle.board_file.proofs.Said.{steps-within}
use Rattle.board_file.proofs.board.Draft.finished.Goals as goal

pub returns : goal.returns
returns c =
    let said = c.args.self in
    let memory = said.memory_fits c.in_ok-memory.memory (search rules) in
    let slots = said.slots_fit c.in_ok-slots.slots (search rules) in
    record {
      within = record { memory = memory.1; lines = memory.2; slots = slots.1; steps = rw c.unwrap_or-4.ensures (steps-within said.steps said.steps_fit) };
      memory = memory.0;
      slots = slots.0;
    }
