-- Where lines may sit in the cache: the operations of a placement on the directory's numbers. A placement acts on
-- places, and 'line n is held' is derived.
use Rattle.std.specs.Prelude.{ℕ, Bool, true, false, List}
use Rattle.model.specs.Tags.{Tag, no_tag}

-- what a place holds: used or empty, line, tag, dirty; the fields of an empty place are zero
pub record Entry : Type 0 where
  pub used : Bool
  pub line : ℕ
  pub tag : Tag
  pub dirty : Bool

-- an empty place
unfoldable pub empty : Entry
empty = record { used = false; line = 0; tag = no_tag; dirty = false }

-- a place that holds line n under the tag, clean or dirty
unfoldable pub holding : ℕ → Tag → Bool → Entry
holding n tag dirty = record { used = true; line = n; tag = tag; dirty = dirty }

-- the operations of a placement
pub record Placement : Type 0 where
  -- the place for line n: where it is held, or where it would be filled
  pub choose : List ℕ → ℕ → ℕ
  -- what stands at a place
  pub look : List ℕ → ℕ → Entry
  -- the directory with a place emptied
  pub clear : List ℕ → ℕ → List ℕ
  -- the directory with an entry put at a place
  pub put : List ℕ → ℕ → Entry → List ℕ
  -- the directory after a place was used, by a hit or by a fill that did not fail
  pub touch : List ℕ → ℕ → List ℕ
