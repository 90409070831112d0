-- The numbers of a board file's errors, as docs/METER.md lists them.
use Rattle.std.specs.Prelude.{ℕ}
use Rattle.board_numbers.specs.declared.errors.FileError.{FileError}
use Rattle.board_numbers.specs.declared.errors.FileError.TheVariants.{UnknownWord, NoNumber, TooLarge, Registers, LeftOver, TooFew, NotInMemory, LineTwice, NoLineOpen, LineFull, SaidTwice, NoMemory, NoSlots, MemorySize, SlotCount, TooManySteps, RegisterZero}

-- the number of an error
abbrev pub number_of_error : FileError → ℕ
number_of_error UnknownWord = 201
number_of_error NoNumber = 202
number_of_error TooLarge = 203
number_of_error Registers = 204
number_of_error LeftOver = 205
number_of_error TooFew = 206
number_of_error NotInMemory = 207
number_of_error LineTwice = 208
number_of_error NoLineOpen = 209
number_of_error LineFull = 210
number_of_error SaidTwice = 211
number_of_error NoMemory = 212
number_of_error NoSlots = 213
number_of_error MemorySize = 214
number_of_error SlotCount = 215
number_of_error TooManySteps = 216
number_of_error RegisterZero = 217
