-- Machines that the calls accept, and the instruction word that a step fetches.
use Rattle.std.specs.Prelude.{ℕ, ◌≡◌, length}
use Rattle.model.specs.Cipher.{Cipher}
use Rattle.model.specs.Requests.{perform}
use Rattle.model.specs.Cached.{Cached, cached}
use Rattle.instructions.specs.Rules.{first_of}
use Rattle.instructions.specs.Board.{Board}
use Rattle.instructions.specs.Wishes.{grant}
use Rattle.instructions.specs.Step.{fetch_wish}
use Rattle.instructions.specs.Refusals.{cached_flaws, record_flaws}
use Rattle.instructions.specs.Calls.{Machine}

-- a machine to which none of refusals 101 to 105 applies
pub record Acceptable (B : Board) (m : Machine Cached) : Type 0 where
  pub memory : first_of (cached_flaws B m.memory) ≡ 0
  pub processor : first_of (record_flaws m.processor) ≡ 0

-- the instruction word that a step fetches, 0 where it fetches none
unfoldable pub fetched : Board → Cipher → Machine Cached → ℕ
fetched B c m = (perform (cached c B.placement) (grant (fetch_wish (length m.memory.mem) m.processor))
    m.memory).out.number
