use Rattle.std.proofs.Common.{◌∙◌, refl, sym}
use Rattle.fib_plane_view.specs.View.{GaveRecord}
use Rattle.fib_stack_ledger.specs.Ledgers.{record_used}
use Rattle.fib_plane_view.proofs.Storing.{stores_none}
use Rattle.fib_stack.proofs.Exact.{given_next, live_gave}
use Rattle.fib_stack.proofs.Calling.{gives_none, gives_record, gives_then}
use Rattle.fib_stack.proofs.Leaving.{quiet_none, quiet_then, gave_quiet}
use Rattle.fib_stack.proofs.Clearing.{gave_serves}
use Rattle.fib_stack.proofs.Listing.{object_left, gave_next, gave_none, user_left}
use Rattle.fib_stack.proofs.Freeing.{freed_next, freed_none}
use Rattle.fib_stack.proofs.records.give_all.Goals as goal

pub loop-held-init : goal.loop-held-init
loop-held-init g c = record { gave = gave_none _ c.args.uses.now; given = gives_none _; stores = stores_none _ _ _ (λ y t. refl) refl; alive = λ y live. live; sole = λ x h. h; freed = λ ms alone. freed_none (g.P.Objects.view c.args.on.now) c.args.uses.now ms; quiet = λ look. quiet_none look _; serves = λ n h. h; promise = refl }

pub give_adj-requires-clause-record : goal.give_adj-requires-clause-record
give_adj-requires-clause-record g c = (record_used c.held-item.result, object_left _ _ c.args.uses.now c.loop-held.held-index c.held-item.result c.loop-held-test.true (sym c.held-item.is) c.requires.users c.requires.objects c.loop-held.invariant.gave)

pub loop-held-preserved : goal.loop-held-preserved
loop-held-preserved g c =
    let gave : GaveRecord (g.P.Objects.view c.loop-held.on) (g.P.Objects.view c.give_adj.new.self) (record_used c.held-item.result) =
    c.give_adj.ensures.gave (record_used c.held-item.result) (object_left _ _ c.args.uses.now c.loop-held.held-index c.held-item.result c.loop-held-test.true (sym c.held-item.is) c.requires.users c.requires.objects c.loop-held.invariant.gave) in
    let back = live_gave _ _ (record_used c.held-item.result) (g.met.P.Objects.sound c.give_adj.new.self) gave in
    record {
      stores = given_next _ _ _ c.loop-held.invariant.alive back c.loop-held.invariant.stores c.give_adj.ensures.stores;
      alive = λ y live. c.loop-held.invariant.alive y (back y live);
      gave = gave_next _ _ _ c.args.uses.now c.loop-held.held-index c.held-item.result c.loop-held-test.true (sym c.held-item.is) c.loop-held.invariant.gave gave;
      given = gives_then _ _ _ c.loop-held.invariant.given (gives_record _ _ (record_used c.held-item.result) gave);
      sole = λ x h. c.loop-held.invariant.sole x (h.0, h.1, h.2, h.3, gave.swept.edges h.0 h.1 x h.2 h.3 h.4);
      freed = λ ms alone. freed_next (g.P.Objects.view c.args.on.now) (g.P.Objects.view c.loop-held.on) (g.P.Objects.view c.give_adj.new.self) c.args.uses.now c.loop-held.held-index c.held-item.result c.loop-held-test.true (sym c.held-item.is) c.requires.users
          (user_left (g.P.Objects.view c.args.on.now) (g.P.Objects.view c.loop-held.on) c.args.uses.now c.loop-held.held-index c.held-item.result c.loop-held-test.true (sym c.held-item.is) c.requires.users c.loop-held.invariant.gave)
          (object_left _ _ c.args.uses.now c.loop-held.held-index c.held-item.result c.loop-held-test.true (sym c.held-item.is) c.requires.users c.requires.objects c.loop-held.invariant.gave)
          c.loop-held.invariant.gave gave c.loop-held.invariant.sole ms alone (c.loop-held.invariant.freed ms alone);
      quiet = λ look. quiet_then look _ _ _ (c.loop-held.invariant.quiet look) (gave_quiet _ _ (record_used c.held-item.result) (g.met.P.Objects.sound c.give_adj.new.self) gave look);
      serves = λ n h. gave_serves (g.P.Objects.promise c.args.on.now) n _ _ (record_used c.held-item.result) gave (c.loop-held.invariant.serves n h);
      promise = c.give_adj.ensures.promise ∙ c.loop-held.invariant.promise;
    }
