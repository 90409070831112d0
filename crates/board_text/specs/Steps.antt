-- How the lines of a text follow one another.
use Rattle.std.specs.Prelude.{◌+◌, ◌-◌, ◌<◌, ◌≡◌, [], drop, length, Option, MatchOption}
use Rattle.board_text.specs.declared.lines.Line.{Line}
use Rattle.board_text.specs.declared.lines.Lines.{Lines}

-- a step from what is left to what is left behind it: no line where no byte is left, else the next line, one further on
abbrev pub Steps : Lines → Option Line → Lines → Type 0
Steps s r t = MatchOption r
    ((s.rest.now ≡ []) × (t ≡ s))
    (λ line. (line.number ≡ t.passed) × (t.passed ≡ s.passed + 1) × (length t.rest.now < length s.rest.now)
    × (t.rest.now ≡ drop (length s.rest.now - length t.rest.now) s.rest.now))
