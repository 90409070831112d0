-- What a call of the depot gives, in the words of the meaning: the answer and the later bytes of its buffers.
use Rattle.std.specs.Prelude.{List, ℕ}
use Rattle.instructions.specs.Depot.{Sealed}

-- An answer with the later bytes of the line's buffer and of the MAC's.
abbrev pub gave : ℕ → List ℕ → List ℕ → Sealed
gave answer line mac = record { answer = answer; line = line; mac = mac }
