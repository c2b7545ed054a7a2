use Rattle.fib_core_board.proofs.Serving.{hangs_aside}
use Rattle.fib_core_board.proofs.laws.free_objects_have_no_ply_edge.Goals as goal

pub returns : goal.returns
returns c = λ b o told other none. hangs_aside b o other none told.hangs
