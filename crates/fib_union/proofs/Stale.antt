-- An example: an object into which no edge of U leads may still have a retired edge out of it.
use Rattle.std.proofs.Common.{◌≡◌, [], ◌∷◌, Some, None, refl}
use Rattle.std.specs.Prelude.{replicate, slice_set}
use Rattle.fib_union.specs.Marks.{first}
use Rattle.fib_union.specs.Unions.{Union, into, must_retire, stored, scanned}

-- 0 leads to 1, 1 to 2, 2 to 3
abbrev chain : Union
chain = record { edges = slice_set (slice_set (slice_set (replicate 64 None) 0 (Some 1)) 16 (Some 2)) 32 (Some 3); retired = [] }

-- the edge to 2 is replaced while a pass runs, and seen so; then the edge out of 2; then that pass is over and another runs
abbrev one : Union
one = stored 1 chain 16 None

abbrev two : Union
two = scanned 0 1 one

abbrev three : Union
three = stored 1 two 32 None

abbrev four : Union
four = scanned 0 3 three

pub no_edge_in : into four 2 ≡ 0
unfolding into must_retire
no_edge_in = refl

pub one_edge_out : four.retired ≡ record { cell = 32; to = 3; marks = first 3 ∷ [] } ∷ []
unfolding into must_retire
one_edge_out = refl
