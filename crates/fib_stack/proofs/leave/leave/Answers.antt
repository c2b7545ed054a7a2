use Rattle.std.proofs.Common.{◌∙◌, ◌<◌, ◌+◌, ℕ, ap, inl, sym, subst, arith}
use Rattle.std.specs.Prelude.{Option}
use Rattle.fib_pool.specs.declared.object.AdjacencyRecord.{AdjacencyRecord}
use Rattle.fib_stack_ledger.specs.declared.ledger.Known.{Known}
use Rattle.fib_stack_ledger.specs.Ledgers.{known_of, times, total, used_by}
use Rattle.fib_stack_ledger.proofs.Books.{times_within}
use Rattle.fib_plane_view.specs.Promise.{Promise, MayClear, Serves}
use Rattle.fib_ply.specs.Tables.{Stands}
use Rattle.fib_stack_queue.specs.Queues.{rank_in}
use Rattle.fib_core_promise.specs.Matches.{FitsVersions}
use Rattle.fib_stack.specs.Joined.{balance_in}
use Rattle.fib_stack.specs.Records.{AreObjects, GaveAll}
use Rattle.fib_stack.specs.Moments.{Moment, moment, parts_of}
use Rattle.fib_stack.specs.inner.Leaving.{IsLeft}
use Rattle.fib_stack.proofs.Finishing.{joined_removed, not_lasting, queue_removed, rank_left, stands_clear, waits_of}
use Rattle.fib_stack.proofs.Joining.{begun_of, table_names, table_quiet, to_change, to_now}
use Rattle.fib_stack.proofs.Left.{laid_left, removed}
use Rattle.fib_stack.proofs.Listing.{objects_kept}
use Rattle.fib_stack.proofs.leave.leave.Goals.{After-old-1, After-take_out-arg-2-1, Joined-old}
use Rattle.fib_stack.proofs.leave.leave.Goals as goal

waits : (g : _) (c : After-take_out-arg-2-1 g) → (g.P.Objects.promise c.args.on.now).settled < (g.P.Objects.promise c.args.on.now).applied
waits g c = waits_of c.requires.left.0 c.requires.left.1 (g.P.Objects.promise c.args.on.now) (g.P.Objects.view c.args.on.now) (parts_of c.args.table.now c.args.stack.now c.args.queue.now) c.args.entry c.requires.left.2.joined c.requires.left.2.least

pub take_out-requires-clause-stands : goal.take_out-requires-clause-stands
take_out-requires-clause-stands g c = to_now (g.P.Objects.promise c.args.on.now) c.args.table.now (g.P.Objects.view c.args.on.now) (inl (waits g c)) c.requires.left.2.joined.table

pub take_out-requires-clause-fits : goal.take_out-requires-clause-fits
take_out-requires-clause-fits g c = c.requires.left.2.joined.fits (begun_of (g.P.Objects.promise c.args.on.now) (waits g c))

pub take_out-requires-clause-changing : goal.take_out-requires-clause-changing
take_out-requires-clause-changing g c = waits g c

pub take_out-requires-clause-leaves : goal.take_out-requires-clause-leaves
take_out-requires-clause-leaves g c = not_lasting (g.P.Objects.promise c.args.on.now).versions c.requires.left.0 c.args.entry (c.requires.left.2.joined.newest (begun_of (g.P.Objects.promise c.args.on.now) (waits g c))) c.requires.left.2.gone

pub take_out-requires-clause-held : goal.take_out-requires-clause-held
take_out-requires-clause-held g c = λ o at. c.requires.left.2.joined.laid.balances c.args.entry o at

pub take_out-requires-clause-apart : goal.take_out-requires-clause-apart
take_out-requires-clause-apart g c = λ d o at there. (c.requires.left.2.joined.kept.placed c.args.entry).apart d o at there

pub give_old-requires-clause-users : goal.give_old-requires-clause-users
give_old-requires-clause-users g c = λ m.
    let e = ap (λ (o : Option Known). times m (used_by o)) c.forget-old.ensures.result in
    let w = times_within c.args.stack.now.ledger.rows c.args.entry m in
    let u = ap (λ (f : AdjacencyRecord → ℕ). f m) c.take_out.ensures.went.records.users in
    omega (arith, e, w, u, c.requires.left.2.joined.laid.counted m)

pub give_old-requires-clause-objects : goal.give_old-requires-clause-objects
give_old-requires-clause-objects g c =
    subst (λ (o : Option Known). AreObjects (g.P.Objects.view c.take_out.new.on) (used_by o)) (sym c.forget-old.ensures.result)
    (objects_kept (g.P.Objects.view c.args.on.now) (g.P.Objects.view c.take_out.new.on) (used_by (known_of c.args.stack.now.ledger.rows c.args.entry)) (λ m lt. ap (λ (f : AdjacencyRecord → Option ℕ). f m) c.take_out.ensures.went.records.record_of) (c.requires.left.2.joined.laid.objects c.args.entry))

clear : (g : _) (c : After-old-1 g) → MayClear (g.P.Objects.promise c.take_out.new.on) (g.P.Objects.view c.take_out.new.on)
clear g c = stands_clear (g.P.Objects.promise c.take_out.new.on) c.take_out.new.table (g.P.Objects.view c.take_out.new.on) (subst (λ (p : Promise). p.settled < p.applied) (sym c.take_out.ensures.promise) (waits_of c.requires.left.0 c.requires.left.1 (g.P.Objects.promise c.args.on.now) (g.P.Objects.view c.args.on.now) (parts_of c.args.table.now c.args.stack.now c.args.queue.now) c.args.entry c.requires.left.2.joined c.requires.left.2.least)) c.take_out.ensures.stands

pub give_old-requires-clause-promise : goal.give_old-requires-clause-promise
give_old-requires-clause-promise g c = clear g c

abbrev begun : (g : _) (c : Joined-old g) → Moment
begun g c = moment (g.P.Objects.view c.args.on.now) c.args.table.now c.args.stack.now c.args.queue.now

abbrev ended : (g : _) (c : Joined-old g) → Moment
ended g c = moment (g.P.Objects.view c.give_old.new.on) c.take_out.new.table (record { ledger = c.forget-old.new.self; late = c.clear.new.self }) c.remove.new.self

-- what the calls of the body did
steps : (g : _) (c : Joined-old g) → IsLeft c.args.entry (begun g c) (g.P.Objects.view c.take_out.new.on) (ended g c)
steps g c = record {
  went = c.take_out.ensures.went;
  balance = c.take_out.ensures.here;
  others_balance = c.take_out.ensures.others;
  late = c.clear.ensures.here;
  others_late = c.clear.ensures.others;
  known = c.forget-old.ensures.here;
  others_known = c.forget-old.ensures.others;
  totals = λ m. ap (λ (o : Option Known). times m (used_by o) + total c.forget-old.new.self.rows m) (sym c.forget-old.ensures.result) ∙ c.forget-old.ensures.total m;
  counted0 = λ d m. times_within c.args.stack.now.ledger.rows d m;
  counted1 = λ d m. times_within c.forget-old.new.self.rows d m;
  back = subst (λ (o : Option Known). GaveAll (g.P.Objects.view c.take_out.new.on) (g.P.Objects.view c.give_old.new.on) (used_by o)) c.forget-old.ensures.result c.give_old.ensures.gave;
  plane = g.met.P.Objects.sound c.give_old.new.on;
  queue = λ d. queue_removed (rank_in c.remove.new.self.members d) (rank_in c.args.queue.now.members d) c.args.entry d (c.remove.ensures.ranks d);
}

pub returns-clause-turn : goal.returns-clause-turn
returns-clause-turn g c = λ S rank h.
    let p0 = g.P.Objects.promise c.args.on.now in
    let p1 = g.P.Objects.promise c.take_out.new.on in
    let v1 = g.P.Objects.view c.take_out.new.on in
    let v2 = g.P.Objects.view c.give_old.new.on in
    let lt : p0.settled < p0.applied = waits_of S rank p0 (g.P.Objects.view c.args.on.now) (parts_of c.args.table.now c.args.stack.now c.args.queue.now) c.args.entry h.joined h.least in
    let stands : Stands p0 c.take_out.new.table v1 = subst (λ (p : Promise). Stands p c.take_out.new.table v1) c.take_out.ensures.promise c.take_out.ensures.stands in
    let n = table_names p0 c.take_out.new.table v1 (to_change p0 c.take_out.new.table v1 (begun_of p0 lt) stands) in
    let serves = subst (λ (p : Promise). Serves p n.0 v1 → Serves p n.0 v2) c.take_out.ensures.promise (c.give_old.ensures.serves n.0) n.2 in
    let turn = removed S (begun g c) v1 (ended g c) c.args.entry h.joined.kept h.joined.laid (steps g c) in
    let joined =
    joined_removed S rank p0 (g.P.Objects.view c.args.on.now) v2 c.args.entry _ _ h.ranked h.joined h.least h.gone lt
    turn
    (laid_left S (begun g c) v1 (ended g c) c.args.entry h.joined.kept h.joined.laid (steps g c))
    (table_quiet p0 c.take_out.new.table v1 v2 n.0 (begun_of p0 lt) (to_change p0 c.take_out.new.table v1 (begun_of p0 lt) stands) (c.give_old.ensures.quiet _) (g.met.P.Objects.sound c.give_old.new.on) n.1 serves)
    (subst (λ (p : Promise). FitsVersions p.versions (balance_in (parts_of c.take_out.new.table (record { ledger = c.forget-old.new.self; late = c.clear.new.self }) c.remove.new.self))) c.take_out.ensures.promise c.take_out.ensures.fits)
    (λ d r at. rank_left (rank_in c.remove.new.self.members d) (rank_in c.args.queue.now.members d) c.args.entry d r (c.remove.ensures.ranks d) at) in
    record { turn = turn; joined = joined }

pub returns-clause-free : goal.returns-clause-free
returns-clause-free g c = omega (arith, c.take_out.ensures.free, c.give_old.ensures.gave.free)
