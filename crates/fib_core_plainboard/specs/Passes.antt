-- What the calls of a plain board make of it: a board on which passes run.
use Rattle.std.specs.Prelude.{◌≡◌, ℕ, ◌+◌, ◌*◌, ◌<◌, ◌⊎◌, false, true, List, [], ◌∷◌}
use Rattle.std.specs.Prelude.{Option, Some, None, option_map, replicate, slice_index, slice_index_or, slice_set}
use Rattle.std.specs.List.{AllByRecursion}
use Rattle.fib_reach.specs.Walks.{AllDiffer}
use Rattle.fib_resolve.specs.declared.types.End.{End}
use Rattle.fib_core_results.specs.declared.record.Record.{Record}
use Rattle.fib_core_results.specs.declared.record.Version.{Version}
use Rattle.fib_core.specs.Words.{goes}
use Rattle.fib_core.specs.Union.{Edge, Lies}
use Rattle.fib_core.specs.Walk.{Place, ply, balance, adjacency, ended, asked, end_at}
use Rattle.fib_core.specs.Trails.{Load, Walked, place, visited, IsGoing}
use Rattle.fib_core_lawful.specs.State.{first_control}
use Rattle.fib_core_board.specs.Boards.{Board, Pass, board_of}

abbrev pub pass_of : Board → ℕ → Option Pass
pass_of b n = slice_index_or b.passes n None

abbrev pub IsRunning : Board → ℕ → Type 0
IsRunning b n = (q : Pass) × (pass_of b n ≡ Some q)

-- and has no end yet, or has this one
abbrev pub IsOnItsWay : Board → ℕ → Type 0
IsOnItsWay b n = (q : Pass) × (pass_of b n ≡ Some q) × IsGoing (place q.loads)

abbrev pub HasEnd : Board → ℕ → End → Type 0
HasEnd b n e = (q : Pass) × (pass_of b n ≡ Some q) × (place q.loads ≡ ended e)

-- all cells say Drop, the version is (0, 0), nothing is retired, and no pass runs. A plain board shares its words with no
-- other, and no trails are brought home to it
abbrev pub fresh_plain : ℕ → ℕ → Board
fresh_plain objects workers = board_of [] [] (replicate 8 None) (first_control objects workers)

-- a pass of worker n begins: its number is out
abbrev pub pass_begun : Board → ℕ → ℕ → ℕ → Board
pass_begun b n a h = record b {
  out = slice_set b.out n true;
  passes = slice_set b.passes n (Some (record { addr = a; hash = h; lo = b.log.version; loads = [] }));
}

-- it goes on by one load, the walk's next, or by the three words of the adjacency on which it stands
abbrev pub load_of : List ℕ → ℕ → Load
load_of cells k = (k, slice_index cells k)

abbrev pub further : List ℕ → ℕ → ℕ → Place → List Load → List Load
further cells a h (ply o d) t = load_of cells (asked a h (ply o d)) ∷ t
further cells a h (balance o n) t = load_of cells (asked a h (balance o n)) ∷ t
further cells a h (adjacency o read) t =
    load_of cells (16 * o + 2) ∷ load_of cells (16 * o + 1) ∷ load_of cells (16 * o + 0) ∷ t
further cells a h (ended e) t = t

abbrev pub pass_hopped : List ℕ → Pass → Pass
pass_hopped cells q = record q { loads = further cells q.addr q.hash (place q.loads) q.loads }

abbrev pub hopped_on : Board → ℕ → Board
hopped_on b n = record b { passes = slice_set b.passes n (option_map (pass_hopped b.union.cells) (pass_of b n)) }

abbrev pub loads_in : Option Pass → List Load
loads_in None = []
loads_in (Some q) = q.loads

-- the last of these loads was of an edge
abbrev pub FoundEdge : List Load → Type 0
FoundEdge [] = ⊥
FoundEdge (l ∷ t) = goes l.1 ≡ true

-- a pass with these loads goes along the union as it is now: it has visited no object twice, only objects that there are, and only
-- object 0 and those into which an edge of the union leads; each load is of the object where it stood, and each edge that it loaded is
-- one of the union
pub record IsAlong (b : Board) (loads : List Load) : Type 0 where
  pub apart : AllDiffer (visited loads)
  pub below : AllByRecursion (λ o. o < b.objects) (visited loads)
  pub live : AllByRecursion (λ o. (o ≡ 0) ⊎ ((x : ℕ) × Edge b.union x o)) (visited loads)
  pub walks : Walked (Lies b.union) loads

-- it ends: its number is home, with its pass word
abbrev pub pass_ended : Board → ℕ → Board
pass_ended b n = record b {
  out = slice_set b.out n false;
  rests = slice_set b.rests n (slice_index b.rests n + 2);
  passes = slice_set b.passes n None;
}

-- and answers so, with the version as it is now
abbrev pub answer_of : Pass → Version → Record
answer_of q hi = record { addr = q.addr; hash = q.hash; lo = q.lo; hi = hi; end = end_at (place q.loads) }
