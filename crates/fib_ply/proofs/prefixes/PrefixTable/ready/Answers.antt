use Rattle.std.proofs.Common.{◌≡◌, List, [], ap, ap₂, ◌∙◌}
use Rattle.fib_addr.specs.Prefixes.{Prefix}
use Rattle.fib_core_promise.specs.Matches.{added}
use Rattle.fib_ply.specs.Rows.{held}
use Rattle.fib_ply.specs.Tables.{Table}
use Rattle.fib_ply.specs.declared.rows.Row.{Row}
use Rattle.fib_ply.proofs.Laws.{its_plies, leads_all}
use Rattle.fib_ply.proofs.Ready.{ready_stands}
use Rattle.fib_ply.proofs.prefixes.PrefixTable.ready.Goals as goal

pub returns-clause-object : goal.returns-clause-object
returns-clause-object g c =
    let none : c.self.inside.rows.members ≡ [] = ap (λ (t : Table). t.rows.members) c.self.view_is ∙ c.requires.none in
    c.take_in.ensures.held ∙ ap₂ (λ (rows : List Row) (e : Prefix). added (held rows) e c.args.object) none c.masked.ensures

pub returns-clause-stands : goal.returns-clause-stands
returns-clause-stands g c = ready_stands c.take_in.new.self c.args.object (returns-clause-object g c) (g.P.Objects.promise c.begin.new.on) (g.P.Objects.view c.begin.new.on) c.begin.ensures.begun (g.met.P.Objects.sound c.begin.new.on).kinds

pub returns-clause-leads : goal.returns-clause-leads
returns-clause-leads g c = leads_all (g.P.Objects.promise c.begin.new.on) (record { rows = c.take_in.new.self; plies = 1 }) (g.P.Objects.view c.begin.new.on) (ready_stands c.take_in.new.self c.args.object (returns-clause-object g c) (g.P.Objects.promise c.begin.new.on) (g.P.Objects.view c.begin.new.on) c.begin.ensures.begun (g.met.P.Objects.sound c.begin.new.on).kinds)

pub returns-clause-exact : goal.returns-clause-exact
returns-clause-exact g c = its_plies (g.P.Objects.promise c.begin.new.on) (record { rows = c.take_in.new.self; plies = 1 }) (g.P.Objects.view c.begin.new.on) c.are_prefixes.ensures (ready_stands c.take_in.new.self c.args.object (returns-clause-object g c) (g.P.Objects.promise c.begin.new.on) (g.P.Objects.view c.begin.new.on) c.begin.ensures.begun (g.met.P.Objects.sound c.begin.new.on).kinds)
