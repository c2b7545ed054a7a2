use Rattle.std.proofs.Common.{arith, ◌≤◌, subst, sym}
use Rattle.fib_ply.specs.Tables.{Table}
use Rattle.fib_ply.proofs.Rooms.{few_plies, room_stands}
use Rattle.fib_ply.proofs.prefixes.PrefixTable.room.Goals as goal

pub overflow_add-self-inside : goal.overflow_add-self-inside
overflow_add-self-inside g c =
    let few : c.self.inside.plies ≤ 131072 = subst (λ (t : Table). t.plies ≤ 131072) (sym c.self.view_is) (few_plies c.requires.stands.0 c.args.self.now (g.P.Objects.view c.args.on.now) (g.met.P.Objects.sound c.args.on.now) c.requires.stands.1) in
    omega (arith, few)

pub overflow_mul-self-inside : goal.overflow_mul-self-inside
overflow_mul-self-inside g c =
    let few : c.self.inside.plies ≤ 131072 = subst (λ (t : Table). t.plies ≤ 131072) (sym c.self.view_is) (few_plies c.requires.stands.0 c.args.self.now (g.P.Objects.view c.args.on.now) (g.met.P.Objects.sound c.args.on.now) c.requires.stands.1) in
    omega (arith, few)

pub returns-clause-stands : goal.returns-clause-stands
returns-clause-stands g c = λ p stands.
    room_stands p c.args.self.now (g.P.Objects.view c.args.on.now) (g.P.Objects.view c.room.new.self) c.room.ensures.same (g.met.P.Objects.sound c.room.new.self).kinds stands
