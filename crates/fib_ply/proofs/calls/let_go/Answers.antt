use Rattle.fib_plane_view.proofs.Frames.{beside_let_go}
use Rattle.fib_ply.proofs.Undropped.{none_let_go}
use Rattle.fib_ply.proofs.calls.let_go.Goals as goal

pub returns-clause-beside : goal.returns-clause-beside
returns-clause-beside g c = beside_let_go _ _ c.args.object c.requires.ply.1 c.let_go.ensures.gone

pub returns-clause-none_dropped : goal.returns-clause-none_dropped
returns-clause-none_dropped g c = none_let_go _ _ c.args.object c.requires.ply.1 c.let_go.ensures.gone
