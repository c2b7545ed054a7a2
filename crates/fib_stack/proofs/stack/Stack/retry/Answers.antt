use Rattle.std.proofs.Common.{◌∙◌, ◌<◌, length, ap, sym, subst, arith}
use Rattle.std.proofs.lemmas.List.Edits.{length-remove}
use Rattle.fib_plane_view.specs.Promise.{Promise}
use Rattle.fib_core_promise.specs.Stack.{Objects}
use Rattle.fib_stack.specs.Joined.{Joined, state_in}
use Rattle.fib_stack.specs.Moments.{parts_of}
use Rattle.fib_stack.proofs.Leaving.{quiet_then}
use Rattle.fib_stack.proofs.Retrying.{calm_none, retried_then, why_all, why_left, why_taken}
use Rattle.fib_stack.proofs.Rooming.{made_alike, room_left, took_none}
use Rattle.fib_stack.proofs.stack.Stack.retry.Goals as goal

pub try_at-requires-clause-joined : goal.try_at-requires-clause-joined
try_at-requires-clause-joined g c = (c.requires.0, c.requires.1, c.loop-place.invariant.joined c.requires.0 c.requires.1 c.requires.2)

pub loop-place-preserved-then-not-try_at : goal.loop-place-preserved-then-not-try_at
loop-place-preserved-then-not-try_at g c =
    let i = c.loop-place.invariant in
    let lt : c.loop-place.place < length c.loop-place.self.late.members = omega (arith, c.loop-place-test.true, c.len.ensures.count) in
    record {
      joined = λ S rank j. subst (λ (p : Promise). Joined S rank p (g.P.Objects.view c.try_at.new.on) (parts_of c.args.table.now c.try_at.new.stack c.args.queue.now)) (sym c.try_at.ensures.promise) (c.try_at.ensures.tried S rank (i.joined S rank j)).joined;
      retried = λ S rank j. retried_then (g.P.Objects.view c.args.on.now) (g.P.Objects.view c.loop-place.on) (g.P.Objects.view c.try_at.new.on) (parts_of c.args.table.now c.args.self.now c.args.queue.now) (parts_of c.args.table.now c.loop-place.self c.args.queue.now) (parts_of c.args.table.now c.try_at.new.stack c.args.queue.now)
          (i.retried S rank j) (c.try_at.ensures.tried S rank (i.joined S rank j)).retried;
      why = why_left c.requires.0 c.requires.1 _ (g.P.Objects.view c.loop-place.on) (g.P.Objects.view c.try_at.new.on) (parts_of c.args.table.now c.loop-place.self c.args.queue.now) c.try_at.new.stack.late.members c.loop-place.place (i.joined c.requires.0 c.requires.1 c.requires.2) (g.met.P.Objects.sound c.loop-place.on) c.try_at.ensures.grew c.len.ensures.apart c.len.ensures.slots lt i.why
          (c.try_at.ensures.left c.if-not-try_at.true) (c.try_at.ensures.why c.if-not-try_at.true);
      retired = c.try_at.ensures.grew.retired ∙ i.retired;
      quiet = λ look. quiet_then look _ _ _ (i.quiet look) (c.try_at.ensures.quiet look);
      free = omega (arith, i.free, c.try_at.ensures.grew.free);
      stored = omega (arith, i.stored, c.try_at.ensures.grew.stored);
      promise = c.try_at.ensures.promise ∙ i.promise;
    }

pub loop-place-smaller : goal.loop-place-smaller
loop-place-smaller g c =
    let lt : c.loop-place.place < length c.loop-place.self.late.members = omega (arith, c.loop-place-test.true, c.len.ensures.count) in
    let e = ap length (c.try_at.ensures.done c.if-not-try_at.false) in
    omega (arith, e, length-remove c.loop-place.self.late.members c.loop-place.place lt, lt)

pub loop-place-preserved : goal.loop-place-preserved
loop-place-preserved g c =
    let i = c.loop-place.invariant in
    let lt : c.loop-place.place < length c.loop-place.self.late.members = omega (arith, c.loop-place-test.true, c.len.ensures.count) in
    record {
      joined = λ S rank j. subst (λ (p : Promise). Joined S rank p (g.P.Objects.view c.try_at.new.on) (parts_of c.args.table.now c.try_at.new.stack c.args.queue.now)) (sym c.try_at.ensures.promise) (c.try_at.ensures.tried S rank (i.joined S rank j)).joined;
      retried = λ S rank j. retried_then (g.P.Objects.view c.args.on.now) (g.P.Objects.view c.loop-place.on) (g.P.Objects.view c.try_at.new.on) (parts_of c.args.table.now c.args.self.now c.args.queue.now) (parts_of c.args.table.now c.loop-place.self c.args.queue.now) (parts_of c.args.table.now c.try_at.new.stack c.args.queue.now)
          (i.retried S rank j) (c.try_at.ensures.tried S rank (i.joined S rank j)).retried;
      why = why_taken c.requires.0 c.requires.1 _ (g.P.Objects.view c.loop-place.on) (g.P.Objects.view c.try_at.new.on) (parts_of c.args.table.now c.loop-place.self c.args.queue.now) c.try_at.new.stack.late.members c.loop-place.place (i.joined c.requires.0 c.requires.1 c.requires.2) (g.met.P.Objects.sound c.loop-place.on) c.try_at.ensures.grew c.len.ensures.apart c.len.ensures.slots lt i.why
          (c.try_at.ensures.done c.if-not-try_at.false);
      retired = c.try_at.ensures.grew.retired ∙ i.retired;
      quiet = λ look. quiet_then look _ _ _ (i.quiet look) (c.try_at.ensures.quiet look);
      free = omega (arith, i.free, c.try_at.ensures.grew.free);
      stored = omega (arith, i.stored, c.try_at.ensures.grew.stored);
      promise = c.try_at.ensures.promise ∙ i.promise;
    }

pub returns-clause-why : goal.returns-clause-why
returns-clause-why g c = why_all (g.P.Objects.view c.loop-place.on) (parts_of c.args.table.now c.loop-place.self c.args.queue.now) c.loop-place.place (omega (arith, c.loop-place-test.false, c.len.ensures.count)) c.loop-place.invariant.why

pub returns-clause-calm : goal.returns-clause-calm
returns-clause-calm g c = λ S rank j ranked calm passed.
    let i = c.loop-place.invariant in
    let s = parts_of c.args.table.now c.loop-place.self c.args.queue.now in
    c.len-2.ensures.count
    ∙ calm_none S rank _ (g.P.Objects.view c.loop-place.on) s ranked (i.joined S rank j) (g.met.P.Objects.sound c.loop-place.on) c.len.ensures.apart c.len.ensures.slots calm (i.retired ∙ passed)
    (why_all (g.P.Objects.view c.loop-place.on) s c.loop-place.place (omega (arith, c.loop-place-test.false, c.len.ensures.count)) i.why)

pub returns-clause-retried : goal.returns-clause-retried
returns-clause-retried g c = λ S rank j. record { retried = c.loop-place.invariant.retried S rank j; joined = c.loop-place.invariant.joined S rank j }

pub returns-clause-room : goal.returns-clause-room
returns-clause-room g c = λ S.
    let i = c.loop-place.invariant in
    let u = g.P.Objects.view c.args.on.now in
    let v = g.P.Objects.view c.loop-place.on in
    let s = state_in u (parts_of c.args.table.now c.args.self.now c.args.queue.now) in
    let t = state_in v (parts_of c.args.table.now c.loop-place.self c.args.queue.now) in
    let r = i.retried c.requires.0 c.requires.1 c.requires.2 in
    let alike = made_alike S s t (ap (λ (at : Objects). at.balance) r.objects) r.holds in
    record { left = λ room. room_left S s t u.free v.free i.free alike room; takes = took_none S s t u.free v.free i.free alike }
