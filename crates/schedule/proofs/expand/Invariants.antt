-- The round keys up to key r are laid down, and x is the last of them.
use Rattle.field.specs.Table.{Table}
use Rattle.aes_standard.specs.Schedule.{rcon}
use Prim.Native.Nat.{◌+◌}
use Rattle.schedule.proofs.ScheduleLaws.{LaidTo}
use Rattle.schedule.proofs.expand.Given as goal

abbrev pub invariant-loop-r : goal.invariant-loop-r
invariant-loop-r l = Table 10 (λ k. rcon (k + 1)) l.constants × LaidTo l.key l.r l.w l.x
