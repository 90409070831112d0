-- What the code's wish, and its answer, stand for.
use Rattle.std.specs.Prelude.{◌≡◌, ℕ, List, true, false, Option, Some, None, Result, Ok, Err}
use Rattle.model.specs.Cipher.{Cipher}
use Rattle.directory.specs.TagIn.{tag_in}
use Rattle.instructions.specs.Board.{Board}
use Rattle.instructions.specs.Record.{Processor}
use Rattle.instructions.specs.Wishes as meaning
use Rattle.instructions.specs.Wishes.{Got, idle, word, new_key}
use Rattle.instructions.specs.Step.{known_fault, data_wish}
use Rattle.answers.specs.declared.faults.Fault.{Fault}
use Rattle.answers.specs.Numbers.{fault_of}
use Rattle.sealing.specs.Lines.{drk_in}
use Rattle.registers.specs.declared.decide.Wish.{Wish}
use Rattle.registers.specs.declared.decide.Wish.TheVariants.{Nothing, Word, NewKey}

-- the wish of the meaning: nothing, a word that is read, a word that is written, another key
abbrev pub wish_in : Wish → meaning.Wish
wish_in Nothing = idle
wish_in (Word tag address None) = word (tag_in tag) address 8 false 0
wish_in (Word tag address (Some value)) = word (tag_in tag) address 8 true value
wish_in (NewKey drk) = new_key (drk_in drk)

-- what came of a wish: a number, or none where the line's check failed
abbrev pub got_in : Option ℕ → Got
got_in None = record { failed = true; number = 0 }
got_in (Some n) = record { failed = false; number = n }

-- the wish of a decision: nothing where there is a fault
abbrev pub wish_of : Result Wish Fault → meaning.Wish
wish_of (Ok wish) = wish_in wish
wish_of (Err fault) = idle

-- the decision is the fault that is known, or the data access of the instruction that was fetched
pub record Decides (B : Board) (c : Cipher) (M : ℕ) (key : List ℕ) (p : Processor) (got : Got)
    (decision : Result Wish Fault) : Type 0 where
  pub fault : fault_of decision ≡ known_fault B M p got
  pub wish : wish_of decision ≡ data_wish B c key M p got
