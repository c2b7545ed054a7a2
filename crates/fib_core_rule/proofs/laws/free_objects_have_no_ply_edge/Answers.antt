use Rattle.fib_core_rule.proofs.Tells.{free_of_plies}
use Rattle.fib_core_rule.proofs.laws.free_objects_have_no_ply_edge.Goals as goal

pub returns : goal.returns
returns c = λ objects seat o k w y words views d s mine other none g is. free_of_plies objects words views s seat d mine o other none k w y g is
