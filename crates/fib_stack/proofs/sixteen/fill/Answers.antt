use Rattle.std.proofs.Common.{◌<◌, ◌≡◌, ◌⊎◌, length, rules, arith, refl, sym, subst, inl, inr, ⊎_elim, [], true≢false, ◌∙◌, length-set}
use Rattle.fib_plane_view.specs.Promise.{Promise, MayPut}
use Rattle.fib_stack.specs.Runs.{word_in}
use Rattle.fib_plane_view.specs.Stores.{IsFreed}
use Rattle.fib_plane_view.proofs.Storing.{stores_none, stores_weaker}
use Rattle.fib_stack.proofs.Exact.{filled_next, live_put}
use Rattle.fib_stack.proofs.Leaving.{quiet_none, quiet_then, put_quiet, led_live}
use Rattle.fib_stack.proofs.Filling.{may_next, ready_next, puts_next, puts_none, balance_still}
use Rattle.fib_stack.proofs.sixteen.fill.Goals as goal

pub put-requires-clause-standing : goal.put-requires-clause-standing
put-requires-clause-standing g c = inr c.loop-slot.invariant.balance.0

pub put-requires-clause-target : goal.put-requires-clause-target
put-requires-clause-target g c =
    let q = c.loop-slot.invariant.ready c.requires.ready.0 c.requires.ready.1 in
    led_live (g.P.Objects.view c.loop-slot.on) c.args.object (word_in c.args.words.now c.loop-slot.slot) c.loop-slot.invariant.balance.1 (q.ready c.loop-slot.slot (omega arith) c.loop-slot-test.true).kind

pub put-requires-clause-kind : goal.put-requires-clause-kind
put-requires-clause-kind g c =
    let q = c.loop-slot.invariant.ready c.requires.ready.0 c.requires.ready.1 in
    (q.ready c.loop-slot.slot (omega arith) c.loop-slot-test.true).kind

pub put-requires-clause-calm : goal.put-requires-clause-calm
put-requires-clause-calm g c = λ is closes. true≢false (sym is ∙ c.loop-slot.invariant.balance.1)

pub put-requires-clause-spare : goal.put-requires-clause-spare
put-requires-clause-spare g c = λ y l. omega (arith, c.requires.spare, c.loop-slot.invariant.spare, c.loop-slot-test.true)

pub put-requires-clause-promise : goal.put-requires-clause-promise
put-requires-clause-promise g c =
    subst (λ (r : Promise). MayPut r (g.P.Objects.view c.loop-slot.on) c.args.object c.loop-slot.slot (word_in c.args.words.now c.loop-slot.slot)) (sym c.loop-slot.invariant.promise)
    (may_next (g.P.Objects.promise c.args.on.now) c.requires.ready.0 (g.P.Objects.view c.loop-slot.on) c.args.object c.loop-slot.slot c.args.words.now c.requires.allowed c.requires.begun (g.met.P.Objects.sound c.loop-slot.on) c.loop-slot.invariant.balance c.loop-slot-test.true (c.loop-slot.invariant.ready c.requires.ready.0 c.requires.ready.1))

pub loop-slot-init : goal.loop-slot-init
loop-slot-init g c = record { puts = puts_none (g.P.Objects.view c.args.on.now) c.args.object c.args.words.now []; ready = λ n h. h; stores = stores_none _ _ _ (λ y t. refl) refl; alive = λ y live. live; quiet = λ look. quiet_none look _; balance = c.requires.balance; spare = omega arith; promise = refl; sixteen = search rules }

pub loop-slot-preserved : goal.loop-slot-preserved
loop-slot-preserved g c =
    let i = c.loop-slot.invariant in
    let lt = c.loop-slot-test.true in
    let u = g.P.Objects.view c.loop-slot.on in
    let v = g.P.Objects.view c.put.new.self in
    let lt_words : c.loop-slot.slot < length c.args.words.now = search rules in
    let lt_answers : c.loop-slot.slot < length c.loop-slot.answers = omega (arith, i.sixteen, lt) in
    let kind = ((i.ready c.requires.ready.0 c.requires.ready.1).ready c.loop-slot.slot (omega arith) lt).kind in
    let back = live_put u v c.args.object c.loop-slot.slot (word_in c.args.words.now c.loop-slot.slot) c.put.result i.balance kind c.put.ensures.put in
    let held = balance_still (g.P.Objects.promise c.args.on.now) u v c.args.object c.loop-slot.slot (word_in c.args.words.now c.loop-slot.slot) c.put.result (g.met.P.Objects.sound c.loop-slot.on) i.balance c.put.ensures.put c.args.object i.balance in
    record {
      stores = filled_next (g.P.Objects.view c.args.on.now) u v c.args.object c.loop-slot.slot i.alive back i.balance held i.stores c.put.ensures.stores;
      alive = λ y live. i.alive y (back y live);
      puts = puts_next _ u v c.args.object c.args.words.now c.loop-slot.answers c.loop-slot.slot _ c.put.result lt_words lt_answers i.puts c.put.ensures.put;
      ready = λ n h. ready_next (g.P.Objects.promise c.args.on.now) n u v c.args.object c.loop-slot.slot c.args.words.now c.put.result c.requires.allowed c.requires.begun (g.met.P.Objects.sound c.loop-slot.on) i.balance lt c.put.ensures.put (i.ready n h);
      quiet = λ look. quiet_then look _ u v (i.quiet look) (put_quiet u v c.args.object c.loop-slot.slot _ c.put.result i.balance ((i.ready c.requires.ready.0 c.requires.ready.1).ready c.loop-slot.slot (omega arith) lt).kind c.put.ensures.put (g.met.P.Objects.sound c.put.new.self) look);
      balance = balance_still (g.P.Objects.promise c.args.on.now) u v c.args.object c.loop-slot.slot _ c.put.result (g.met.P.Objects.sound c.loop-slot.on) i.balance c.put.ensures.put c.args.object i.balance;
      spare = omega (arith, i.spare, c.put.ensures.put.spare);
      promise = c.put.ensures.promise ∙ i.promise;
      sixteen = length-set _ _ _ ∙ i.sixteen;
    }

pub returns-clause-stores : goal.returns-clause-stores
returns-clause-stores g c =
    let u = g.P.Objects.view c.args.on.now in
    let v = g.P.Objects.view c.loop-slot.on in
    let o = c.args.object in
    let k = c.loop-slot.slot in
    stores_weaker (λ y t. ((y ≡ o) × (t < k)) ⊎ IsFreed u v y) (λ y t. (y ≡ o) ⊎ IsFreed u v y) u v (λ y t ne d. ⊎_elim (λ (h : (y ≡ o) × (t < k)). inl h.0) (λ (h : IsFreed u v y). inr h) d) c.loop-slot.invariant.stores
