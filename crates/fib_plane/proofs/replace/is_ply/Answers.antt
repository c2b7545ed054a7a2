use Rattle.std.proofs.Common.{◌∙◌, ap, sym}
use Rattle.fib_plane.specs.Views.{is_ply_at}
use Rattle.fib_plane_view.specs.View.{is_ply_kind}
use Rattle.fib_plane.proofs.replace.is_ply.Goals as goal

pub returns-in-Ply : goal.returns-in-Ply
returns-in-Ply c = sym (ap is_ply_at c.kind.ensures ∙ ap is_ply_kind c.in-Ply.is)

pub returns-in-Balance : goal.returns-in-Balance
returns-in-Balance c = sym (ap is_ply_at c.kind.ensures ∙ ap is_ply_kind c.in-Balance.is)

pub returns-in-Adjacency : goal.returns-in-Adjacency
returns-in-Adjacency c = sym (ap is_ply_at c.kind.ensures ∙ ap is_ply_kind c.in-Adjacency.is)
