use Rattle.std.proofs.Common.{arith, refl, ◌∙◌}
use Rattle.fib_control_quiet.proofs.Early.{bare_empty, blank_of, dropping_taken, empty_taken}
use Rattle.fib_control.proofs.Started.{started_first, went}
use Rattle.fib_control.proofs.beginning.begin.Goals as goal

pub ready-requires-clause-blank : goal.ready-requires-clause-blank
ready-requires-clause-blank g c =
    let take = c.balance-object.ensures.taken in
    blank_of (g.P.Objects.promise c.balance-object.new.on) (g.P.Objects.view c.balance-object.new.on)
    (empty_taken (g.P.Objects.promise c.args.on.now) (g.P.Objects.promise c.balance-object.new.on) (g.P.Objects.view c.args.on.now) (g.P.Objects.view c.balance-object.new.on) c.balance-object.result
    (bare_empty (g.P.Objects.promise c.args.on.now) (g.P.Objects.view c.args.on.now) c.requires.bare) c.balance-object.ensures.promise take)
    c.balance-object.result (dropping_taken (g.P.Objects.view c.args.on.now) (g.P.Objects.view c.balance-object.new.on) c.balance-object.result take)

pub returns-clause-started : goal.returns-clause-started
returns-clause-started g c =
    let free = c.requires.free in
    let t = c.balance-object.ensures.taken.free in
    let r = c.ready.ensures.free in
    started_first (g.P.Objects.promise c.args.on.now) (g.P.Objects.promise c.ready.new.on) c.ready.new.self (g.P.Objects.view c.args.on.now) (g.P.Objects.view c.ready.new.on) c.balance-object.result c.requires.bare
    (c.ready.ensures.promise ∙ c.balance-object.ensures.promise) c.ready.ensures.stands c.ready.ensures.object
    (went (g.P.Objects.view c.args.on.now) (g.P.Objects.view c.balance-object.new.on) (g.P.Objects.view c.balance-object.new.on) (g.P.Objects.view c.ready.new.on) c.balance-object.result c.balance-object.ensures.taken (record { more = omega arith; same = refl }) c.ready.ensures.beside)
    (bare_empty (g.P.Objects.promise c.args.on.now) (g.P.Objects.view c.args.on.now) c.requires.bare).early
    c.ready.ensures.plies (omega (arith, free, t, r))
