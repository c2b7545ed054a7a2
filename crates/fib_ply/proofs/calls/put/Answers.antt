use Rattle.fib_plane_view.proofs.Frames.{beside_put}
use Rattle.fib_ply.proofs.Undropped.{none_put}
use Rattle.fib_ply.proofs.Promises.{sent, calm_none}
use Rattle.fib_ply.proofs.calls.put.Goals as goal

pub put-requires-clause-calm : goal.put-requires-clause-calm
put-requires-clause-calm g c = λ is closes. calm_none (g.P.Objects.view c.args.on.now) c.args.object c.args.word c.requires.calm closes

pub returns-clause-put : goal.returns-clause-put
returns-clause-put g c = sent (g.P.Objects.view c.args.on.now) (g.P.Objects.view c.put.new.self) c.args.object c.args.slot c.args.word c.put.result c.requires.calm c.put.ensures.put

pub returns-clause-beside : goal.returns-clause-beside
returns-clause-beside g c = beside_put (g.P.Objects.view c.args.on.now) (g.P.Objects.view c.put.new.self) c.args.object c.args.slot c.args.word c.put.result (g.met.P.Objects.sound c.args.on.now).kinds c.requires.ply.0 c.put.ensures.put

pub returns-clause-none_dropped : goal.returns-clause-none_dropped
returns-clause-none_dropped g c = none_put (g.P.Objects.view c.args.on.now) (g.P.Objects.view c.put.new.self) c.args.object c.args.slot c.args.word c.put.result c.requires.ply.0 c.requires.kind c.requires.calm c.put.ensures.put
