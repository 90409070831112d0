-- What a memory phase gives back, as the code's own values: the number that was found, the counts, and the buffers.
use Rattle.std.specs.Prelude.{ℕ}
use Rattle.model.specs.Cached.{Cached}
use Rattle.instructions.specs.Wishes as meaning
use Rattle.cache.specs.Lent.{counts_in}
use Rattle.cache.specs.declared.buffers.Buffers.{Buffers}
use Rattle.registers.specs.declared.decide.Wish.{Wish}
use Rattle.registers.specs.declared.decide.Wish.TheVariants.{Nothing, Word, NewKey}
use Rattle.registers.specs.Wanted.{got_in}
use Rattle.machine.specs.Grants.{Grants, Obtains, Inside}
use Rattle.machine.specs.declared.phase.Found.{Found}

-- what was found is what the memory makes of the wish
abbrev pub Finds : meaning.Wish → Cached → Found → Cached → Type 0
Finds wish s x t =
    Grants wish s (got_in x.number).failed (got_in x.number).number (counts_in x.counts) t

-- the same but for the key, which the code keeps in its record
abbrev pub FindsIn : meaning.Wish → Cached → Found → Buffers → Type 0
FindsIn wish s x b =
    Obtains wish s (got_in x.number).failed (got_in x.number).number (counts_in x.counts) b.mem.now b.macs.now
    b.cache.now b.dir.now

-- a word that is wished for lies in one line of a memory of M bytes
abbrev pub Reaches : Wish → ℕ → Type 0
Reaches Nothing M = Unit {0}
Reaches (Word tag address store) M = Inside address 8 M
Reaches (NewKey drk) M = Unit {0}
