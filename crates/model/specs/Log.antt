-- What a cached memory did, note by note, and the four counts: sums over the notes, where a failed fill counts as a
-- line filled and a MAC checked.
use Rattle.std.specs.Prelude.{ℕ, ◌+◌, Bool, List, [], ◌∷◌}
use Rattle.lists.specs.If.{if}
use Rattle.model.specs.Tags.{Tag, is_data, is_checked}

-- a note of what was done
pub data Note : Type 0 where
  -- line n was filled under the tag; the test says whether its check passed
  filled : Tag → ℕ → Bool → Note
  -- line n, held under the tag, was evicted; the test says whether it was dirty and so written back
  evicted : Tag → ℕ → Bool → Note

-- the four counts: lines filled, dirty lines written, MACs checked, MACs made for lines
pub record Counts : Type 0 where
  pub filled : ℕ
  pub written : ℕ
  pub checked : ℕ
  pub made : ℕ

-- nothing was counted
unfoldable pub no_counts : Counts
no_counts = record { filled = 0; written = 0; checked = 0; made = 0 }

-- two counts together
unfoldable pub plus : Counts → Counts → Counts
plus a b =
    record {
      filled = a.filled + b.filled;
      written = a.written + b.written;
      checked = a.checked + b.checked;
      made = a.made + b.made;
    }

-- what one note counts: a fill is a line filled and, under a tag, a MAC checked; a dirty eviction is a line written
-- and, for a data line, a MAC made
unfoldable pub counts_of_note : Note → Counts
counts_of_note (Note.filled t n ok) = record { filled = 1; written = 0; checked = if (is_checked t) 1 0; made = 0 }
counts_of_note (Note.evicted t n dirty) = record {
  filled = 0;
  written = if dirty 1 0;
  checked = 0;
  made =
      if dirty (if (is_data t) 1 0) 0;
}

-- the counts of a log: the sum over its notes
unfoldable pub counts_of : List Note → Counts
counts_of [] = no_counts
counts_of (note ∷ log) = plus (counts_of_note note) (counts_of log)
