use Rattle.std.proofs.Common.{◌≡◌, ◌<◌, ◌^◌, ◌∙◌, ap, subst}
use Rattle.std.specs.Prelude.{Contains}
use Rattle.fib_addr.specs.Longest.{everything}
use Rattle.fib_resolve.specs.declared.types.Neighbor.{Neighbor}
use Rattle.fib_resolve.specs.declared.types.Tables.{Tables}
use Rattle.fib_resolve_changes.specs.Looked.{attached_at}
use Rattle.fib_follow_looked.proofs.Near.{near_none, near_seen}
use Rattle.fib_follow_looked.proofs.plain.see_neighbors.Goals as goal

pub returns-in-Some : goal.returns-in-Some
returns-in-Some c =
    near_seen c.args.after.now.tables
    (subst (λ (t : Tables). (n : Neighbor) → Contains t.neighbors n → n.addr < 2 ^ 32) c.tables-tables.ensures.value c.see_each.ensures)

pub returns-in-None : goal.returns-in-None
returns-in-None c =
    let whole : c.masked-everything.result ≡ everything = c.masked-everything.ensures in
    near_none c.args.after.now.tables c.in_ok-attached.attached (c.in_ok-attached.ensures ∙ ap (attached_at c.args.after.now.tables) whole) c.in-None.is
