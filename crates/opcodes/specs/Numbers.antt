-- Document 01's opcodes.
use Rattle.std.specs.Prelude.{ℕ, Option, Some, None, eqb}
use Rattle.lists.specs.If.{if}
use Rattle.opcodes.specs.declared.opcode.Opcode.{Opcode}
use Rattle.opcodes.specs.declared.opcode.Opcode.TheVariants as opcode

-- the number of an instruction
abbrev pub opcode_number : Opcode → ℕ
opcode_number opcode.Add = 1
opcode_number opcode.Sub = 2
opcode_number opcode.And = 3
opcode_number opcode.Or = 4
opcode_number opcode.Xor = 5
opcode_number opcode.Addi = 6
opcode_number opcode.Clz = 7
opcode_number opcode.Beq = 8
opcode_number opcode.Jr = 9
opcode_number opcode.Load = 10
opcode_number opcode.Store = 11
opcode_number opcode.EpcGet = 12
opcode_number opcode.EpcSet = 13
opcode_number opcode.CauseGet = 14
opcode_number opcode.CtxSet = 15
opcode_number opcode.Rfi = 16
opcode_number opcode.DrkSet = 32
opcode_number opcode.DrkLock = 33
opcode_number opcode.DrkDerive = 34
opcode_number opcode.SrhGet = 35
opcode_number opcode.SrhSet = 36
opcode_number opcode.GrGet = 37
opcode_number opcode.GrSet = 38
opcode_number opcode.BeginCemA = 39
opcode_number opcode.EndCem = 40
opcode_number opcode.SecureLoad = 41
opcode_number opcode.SecureStore = 42
opcode_number opcode.BeginCemU = 43

-- the instruction of a number, where there is one
abbrev pub opcode_named : ℕ → Option Opcode
opcode_named n =
    if (eqb n 1) (Some opcode.Add) (
    if (eqb n 2) (Some opcode.Sub) (
    if (eqb n 3) (Some opcode.And) (
    if (eqb n 4) (Some opcode.Or) (
    if (eqb n 5) (Some opcode.Xor) (
    if (eqb n 6) (Some opcode.Addi) (
    if (eqb n 7) (Some opcode.Clz) (
    if (eqb n 8) (Some opcode.Beq) (
    if (eqb n 9) (Some opcode.Jr) (
    if (eqb n 10) (Some opcode.Load) (
    if (eqb n 11) (Some opcode.Store) (
    if (eqb n 12) (Some opcode.EpcGet) (
    if (eqb n 13) (Some opcode.EpcSet) (
    if (eqb n 14) (Some opcode.CauseGet) (
    if (eqb n 15) (Some opcode.CtxSet) (
    if (eqb n 16) (Some opcode.Rfi) (
    if (eqb n 32) (Some opcode.DrkSet) (
    if (eqb n 33) (Some opcode.DrkLock) (
    if (eqb n 34) (Some opcode.DrkDerive) (
    if (eqb n 35) (Some opcode.SrhGet) (
    if (eqb n 36) (Some opcode.SrhSet) (
    if (eqb n 37) (Some opcode.GrGet) (
    if (eqb n 38) (Some opcode.GrSet) (
    if (eqb n 39) (Some opcode.BeginCemA) (
    if (eqb n 40) (Some opcode.EndCem) (
    if (eqb n 41) (Some opcode.SecureLoad) (
    if (eqb n 42) (Some opcode.SecureStore) (
    if (eqb n 43) (Some opcode.BeginCemU) (
    None))))))))))))))))))))))))))))
