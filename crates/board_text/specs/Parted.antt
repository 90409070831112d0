-- How the words of a line follow one another.
use Rattle.std.specs.Prelude.{◌+◌, ◌-◌, ◌<◌, ◌≤◌, ◌≡◌, List, ℕ, drop, length, take, Option, MatchOption}
use denote.Ref.{Bor}
use Rattle.board_text.specs.declared.words.Words.{Words}

-- a step from what is left to what is left behind it, which is its end: a word has a byte at least, and lies right before that
abbrev pub Parted : Words → Option (Bor (List ℕ)) → Words → Type 0
Parted s r t = MatchOption r
    (t ≡ s)
    (λ word. (0 < length word.now) × (length word.now + length t.rest.now ≤ length s.rest.now)
    × (t.rest.now ≡ drop (length s.rest.now - length t.rest.now) s.rest.now)
    × (word.now ≡ take (length word.now) (drop (length s.rest.now - length t.rest.now - length word.now) s.rest.now)))
