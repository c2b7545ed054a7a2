-- What the lines of a traced script do and print.
use Rattle.std.specs.Prelude.{ℕ, ◌+◌, ◌==◌, ◌++◌, ◌&&◌, ◌∷◌, [], List, Bool, codes, length, if◌then◌else◌}
use Rattle.fib_base_lines.specs.LineWords.{next_is, words_of}
use Rattle.fib_rounds_turns.specs.Routers.{Router}
use Rattle.fib_rounds_turns.specs.Turns.{Turn, change_turn_of, refusal_turn}
use Rattle.fib_rounds.specs.Stages.{Stage, grown, start}

-- the line behind which the packets are traced: the one word `trace`
unfoldable pub is_trace : List ℕ → Bool
is_trace line = next_is (codes "trace") (words_of line) && (length (words_of line) == 1)

-- the lines before the first of these; all of them where there is none
abbrev pub before_trace : List (List ℕ) → List (List ℕ)
before_trace [] = []
before_trace (line ∷ lines) = if is_trace line then [] else line ∷ before_trace lines

-- and those behind it
abbrev pub after_trace : List (List ℕ) → List (List ℕ)
after_trace [] = []
after_trace (line ∷ lines) = if is_trace line then lines else after_trace lines

-- what line n does: a change is made or refused, and any other line is refused, a second `trace` too
unfoldable pub traced_turn : ℕ → Router → List ℕ → Turn
traced_turn n r line =
    if is_trace line then refusal_turn n r (codes "not traced") else change_turn_of (codes "not traced") n r line

abbrev pub after_line : ℕ → Stage → List ℕ → Stage
after_line n at line = record {
  router = (traced_turn n at.router line).0;
  history = grown at.history at.router (traced_turn n at.router line).0;
}

-- where a run stands after lines that are numbered from n, and what they print
abbrev pub stage_from : ℕ → Stage → List (List ℕ) → Stage
stage_from n at [] = at
stage_from n at (line ∷ lines) = stage_from (n + 1) (after_line n at line) lines

abbrev pub text_from : ℕ → Stage → List (List ℕ) → List ℕ
text_from n at [] = []
text_from n at (line ∷ lines) = (traced_turn n at.router line).1 ++ text_from (n + 1) (after_line n at line) lines

-- the number of the first line behind the first `trace`
abbrev pub behind : List (List ℕ) → ℕ
behind script = length (before_trace script) + 2

-- where the run stands as the tracing begins, with that room for objects, and at the script's end
abbrev pub opening : ℕ → List (List ℕ) → Stage
opening room script = stage_from 1 (start room) (before_trace script)

abbrev pub closing : ℕ → List (List ℕ) → Stage
closing room script = stage_from (behind script) (opening room script) (after_trace script)

-- what all lines print
abbrev pub lines_text : ℕ → List (List ℕ) → List ℕ
lines_text room script =
    text_from 1 (start room) (before_trace script) ++ text_from (behind script) (opening room script) (after_trace script)
