use Rattle.std.proofs.Common.{refl, sym, subst, ap, ◌∙◌, ◌≡◌, ◌-◌, ◌%◌, length, arith}
use Rattle.fib_entries_rows.specs.Known.{rank_of}
use Rattle.fib_plane_view.specs.Promise.{Promise}
use Rattle.fib_ply.proofs.Tables.{wraps}
use Rattle.fib_stack.specs.Joined.{Joined}
use Rattle.fib_stack.specs.declared.records.Want.TheVariants as wants
use Rattle.fib_stack.specs.Moments.{parts_of}
use Rattle.fib_stack.proofs.Finishing.{ok_no_err}
use Rattle.fib_stack.proofs.Readying.{handed_on}
use Rattle.fib_stack.proofs.Rooming.{took_none}
use Rattle.fib_stack.proofs.Turning.{least_of, none_queued}
use Rattle.fib_stack.proofs.stack.Stack.turn.Goals as goal

pub take-requires : goal.take-requires
take-requires g c =
    let least = least_of c.args.tables.now (rank_of c.args.entries.now.rows) _ _ _ c.in-Some.next c.requires.joined c.in-Some.ensures.least in
    record { turn = (c.args.tables.now, c.requires.stands, record { joined = c.requires.joined; least = least }) }

pub returns-in_default-clause-turn : goal.returns-in_default-clause-turn
returns-in_default-clause-turn g c = record {
  state = (refl, λ d. none_queued c.args.queue.now.members c.least.result c.least.ensures.value c.in_default.is d);
  run = refl;
  dropped = tt;
  stores = refl;
  exact = tt;
}

pub returns-clause-turn : goal.returns-clause-turn
returns-clause-turn g c =
    let least = least_of c.args.tables.now (rank_of c.args.entries.now.rows) _ _ _ c.in-Some.next c.requires.joined c.in-Some.ensures.least in
    let did = c.in_ok-dropped.ensures.turn c.args.tables.now c.requires.stands (record { joined = c.requires.joined; least = least }) in
    let le = c.in_ok-dropped.ensures.stored in
    let count = wraps (g.P.Objects.view c.args.on.now).stored (g.P.Objects.view c.take.new.on).stored c.stored-before.result c.stored.result le c.stored-before.ensures c.stored.ensures in
    record {
      state = did.turn;
      run = did.run;
      dropped = c.in_ok-dropped.ensures.count;
      stores = (le, count);
      exact = λ is o at.
          let all = did.exact is o at in
          let stored = all.stored in
          (all, count ∙ ap (λ n. n % 18446744073709551616) (let e : (g.P.Objects.view c.take.new.on).stored - (g.P.Objects.view c.args.on.now).stored ≡ length all.cells = omega (arith, stored) in e));
    }

pub returns-in_default-clause-leaves : goal.returns-in_default-clause-leaves
returns-in_default-clause-leaves g c = record {
  joined = c.requires.joined;
  finds = λ room is. ok_no_err is;
  room = record { left = λ room. room; takes = took_none _ _ _ _ _ (omega arith) (λ x made. made) };
}

pub returns-clause-leaves : goal.returns-clause-leaves
returns-clause-leaves g c =
    let least = least_of c.args.tables.now (rank_of c.args.entries.now.rows) _ _ _ c.in-Some.next c.requires.joined c.in-Some.ensures.least in
    let all = c.take.ensures.leaves c.args.tables.now c.requires.stands (record { joined = c.requires.joined; least = least }) in
    record {
      joined = subst (λ (p : Promise). Joined c.args.tables.now (rank_of c.args.entries.now.rows) p (g.P.Objects.view c.take.new.on) (parts_of c.take.new.table c.take.new.stack c.take.new.queue)) (sym c.take.ensures.promise) all.joined;
      finds = λ room is. ok_no_err is;
      room = all.room;
    }

pub returns-in_err-dropped-clause-leaves : goal.returns-in_err-dropped-clause-leaves
returns-in_err-dropped-clause-leaves g c =
    let least = least_of c.args.tables.now (rank_of c.args.entries.now.rows) _ _ _ c.in-Some.next c.requires.joined c.in-Some.ensures.least in
    let all = c.take.ensures.leaves c.args.tables.now c.requires.stands (record { joined = c.requires.joined; least = least }) in
    record {
      joined = subst (λ (p : Promise). Joined c.args.tables.now (rank_of c.args.entries.now.rows) p (g.P.Objects.view c.take.new.on) (parts_of c.take.new.table c.take.new.stack c.take.new.queue)) (sym c.take.ensures.promise) all.joined;
      finds = λ room is. all.finds room (handed_on _ _ c.take.result c.from_residual.result _ wants.Object c.in_err-dropped.was c.from_residual.ensures.1 is);
      room = all.room;
    }

pub returns-in_err-dropped-clause-short : goal.returns-in_err-dropped-clause-short
returns-in_err-dropped-clause-short g c = λ is.
    (c.in-Some.next.prefix, least_of c.args.tables.now (rank_of c.args.entries.now.rows) _ _ _ c.in-Some.next c.requires.joined c.in-Some.ensures.least, c.take.ensures.short c.args.tables.now c.requires.stands (handed_on _ _ c.take.result c.from_residual.result _ wants.Object c.in_err-dropped.was c.from_residual.ensures.1 is))
