-- The numbers of the meter's runs.
use Rattle.std.specs.Prelude.{ℕ}
use Rattle.meter_pages.specs.declared.book.Run.{Run}
use Rattle.meter_pages.specs.declared.book.Run.TheVariants.{Cold, Warm, Kept}

-- the first, the second, and the third, with the cache kept
abbrev pub run_number : Run → ℕ
run_number Cold = 1
run_number Warm = 2
run_number Kept = 3
