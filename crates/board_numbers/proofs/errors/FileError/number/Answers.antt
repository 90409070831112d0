-- `number` gives the number that the page lists, variant by variant.
use Rattle.std.proofs.Common.{◌≡◌, ◌+◌, refl}
use denote.Enum.Declared.{tag_of}
use Rattle.board_numbers.specs.contracts.errors.FileError.{the_type}
use Rattle.board_numbers.specs.declared.errors.FileError.{FileError}
use Rattle.board_numbers.specs.declared.errors.FileError.TheVariants.{UnknownWord, NoNumber, TooLarge, Registers, LeftOver, TooFew, NotInMemory, LineTwice, NoLineOpen, LineFull, SaidTwice, NoMemory, NoSlots, MemorySize, SlotCount, TooManySteps, RegisterZero}
use Rattle.board_numbers.specs.Errors.{number_of_error}
use Rattle.board_numbers.proofs.errors.FileError.number.Goals as goal

by_variant : (e : FileError) → tag_of the_type e + 201 ≡ number_of_error e
by_variant UnknownWord = refl
by_variant NoNumber = refl
by_variant TooLarge = refl
by_variant Registers = refl
by_variant LeftOver = refl
by_variant TooFew = refl
by_variant NotInMemory = refl
by_variant LineTwice = refl
by_variant NoLineOpen = refl
by_variant LineFull = refl
by_variant SaidTwice = refl
by_variant NoMemory = refl
by_variant NoSlots = refl
by_variant MemorySize = refl
by_variant SlotCount = refl
by_variant TooManySteps = refl
by_variant RegisterZero = refl

pub returns : goal.returns
returns c = by_variant c.args.self
