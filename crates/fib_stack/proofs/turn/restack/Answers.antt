use Rattle.std.proofs.Common.{◌≡◌, ℕ, ap, ◌∙◌, refl, sym, subst, arith}
use Rattle.std.specs.Prelude.{Some}
use Rattle.fib_addr.specs.Prefixes.{Prefix}
use Rattle.fib_entries_rows.specs.Known.{rank_of}
use Rattle.fib_plane_view.specs.Promise.{Promise}
use Rattle.fib_stack_ledger.proofs.Books.{times_within}
use Rattle.fib_stack.specs.Joined.{Joined, Parts, balance_in, state_in}
use Rattle.fib_stack.specs.declared.records.Want.TheVariants as wants
use Rattle.fib_stack.specs.Moments.{moment, parts_of}
use Rattle.fib_stack.specs.Room.{HasRoomLeft, Took}
use Rattle.fib_stack.specs.Turns.{HasRun, IsRestacked}
use Rattle.fib_stack.specs.inner.Readied.{IsUnderway}
use Rattle.fib_ply.specs.Tables.{Came}
use Rattle.fib_stack.proofs.Finishing.{ok_no_err, waits_of}
use Rattle.fib_stack.proofs.Joining.{begun_of}
use Rattle.fib_stack.proofs.Making.{makes, never_lacks}
use Rattle.fib_stack.proofs.Exact.{which_here}
use Rattle.fib_stack.proofs.Rooming.{left_after, made_alike, made_restacked, room_left, took_none}
use Rattle.fib_stack.proofs.Moving.{moved_joined, same_moved}
use Rattle.fib_stack.proofs.Readying.{handed_on}
use Rattle.fib_stack.proofs.turn.restack.Goals as goal

pub finish-requires-clause-underway : goal.finish-requires-clause-underway
finish-requires-clause-underway g c =
    let t = c.requires.turn in
    let v0 = g.P.Objects.view c.args.on.now in
    let begun = moment (g.P.Objects.view c.begin.new.on) c.begin.new.table c.begin.new.stack c.begin.new.queue in (
      t.0,
      rank_of c.args.entries.now.rows,
      v0,
      subst (λ (p : Promise). IsUnderway t.0 (rank_of c.args.entries.now.rows) p v0 begun c.in_ok-plan.plan) (sym c.begin.ensures.promise) (c.in_ok-plan.ensures.underway t.0 t.1 t.2),
    )

pub returns-clause-turn : goal.returns-clause-turn
returns-clause-turn g c = λ S st t.
    let rank = rank_of c.args.entries.now.rows in
    let v0 = g.P.Objects.view c.args.on.now in
    let v5 = g.P.Objects.view c.finish.new.on in
    let s = parts_of c.args.table.now c.args.stack.now c.args.queue.now in
    let now = parts_of c.finish.new.table c.finish.new.stack c.finish.new.queue in
    let plan = c.in_ok-plan.plan in
    let begun = moment (g.P.Objects.view c.begin.new.on) c.begin.new.table c.begin.new.stack c.begin.new.queue in
    let h = subst (λ (p : Promise). IsUnderway S rank p v0 begun plan) (sym c.begin.ensures.promise) (c.in_ok-plan.ensures.underway S st t) in
    let ends = c.finish.ensures.turn S rank v0 h in
    let here = λ (o : ℕ) (at : balance_in s c.args.entry ≡ Some o). ap (λ (q : Parts). balance_in q plan.entry) c.begin.ensures.parts ∙ ap (balance_in s) c.in_ok-plan.ensures.entry ∙ at in
    record {
      restacked = subst (λ (e : Prefix). IsRestacked S e (state_in v0 s) (state_in v5 now)) c.in_ok-plan.ensures.entry
          (subst (λ (q : Parts). IsRestacked S plan.entry (state_in v0 q) (state_in v5 now)) c.begin.ensures.parts ends.turn);
      run = subst (λ (e : Prefix). HasRun S e v0 v5 (state_in v5 now)) c.in_ok-plan.ensures.entry (ends.run v0 c.in_ok-plan.ensures.calls);
      exact = λ o at. ends.stores v0 (which_here _ _ o h.readied.which (here o at)) (c.in_ok-plan.ensures.stores o at);
    }

pub returns-clause-stored : goal.returns-clause-stored
returns-clause-stored g c =
    let t = c.requires.turn in
    let h = c.in_ok-plan.ensures.underway t.0 t.1 t.2 in
    omega (arith, h.readied.stored, c.finish.ensures.stored)

pub returns-clause-leaves : goal.returns-clause-leaves
returns-clause-leaves g c = λ S st t.
    let rank = rank_of c.args.entries.now.rows in
    let p = g.P.Objects.promise c.args.on.now in
    let v0 = g.P.Objects.view c.args.on.now in
    let v2 = g.P.Objects.view c.begin.new.on in
    let v5 = g.P.Objects.view c.finish.new.on in
    let s = parts_of c.args.table.now c.args.stack.now c.args.queue.now in
    let now = parts_of c.finish.new.table c.finish.new.stack c.finish.new.queue in
    let begun = moment (g.P.Objects.view c.begin.new.on) c.begin.new.table c.begin.new.stack c.begin.new.queue in
    let h = subst (λ (q : Promise). IsUnderway S rank q v0 begun c.in_ok-plan.plan) (sym c.begin.ensures.promise) (c.in_ok-plan.ensures.underway S st t) in
    let turn = (returns-clause-turn g c S st t).restacked.turn in
    let count = c.finish.ensures.came.0 in
    let came : Came (balance_in s) c.args.entry count =
    subst (λ (e : Prefix). Came (balance_in s) e count) c.in_ok-plan.ensures.entry
    (subst (λ (q : Parts). Came (balance_in q) c.in_ok-plan.plan.entry count) c.begin.ensures.parts c.finish.ensures.came.1) in
    let made = makes S rank p v0 c.args.entry s (begun_of p (waits_of S rank p v0 s c.args.entry t.joined t.least)) t.joined t.effective (λ d m. times_within c.args.stack.now.ledger.rows d m) count came v2 v5 now _ turn (c.in_ok-plan.ensures.taken S st) c.finish.ensures.came.2 in
    let stays = made_restacked S c.args.entry _ (state_in v0 s) (state_in v5 now) turn in
    record {
      joined = subst (λ (q : Promise). Joined S rank q v5 now) c.begin.ensures.promise (c.finish.ensures.turn S rank v0 h).joined;
      finds = λ room is. ok_no_err is;
      room = record {
        left = λ room. left_after S (state_in v0 s) (state_in v5 now) v0.free v5.free room made stays;
        takes = record { makes = made; stays = stays };
      };
    }

pub returns-in_err-plan-clause-leaves : goal.returns-in_err-plan-clause-leaves
returns-in_err-plan-clause-leaves g c = λ S st t.
    let rank = rank_of c.args.entries.now.rows in
    let p = g.P.Objects.promise c.args.on.now in
    let u = g.P.Objects.view c.args.on.now in
    let v = g.P.Objects.view c.begin.new.on in
    let s = parts_of c.args.table.now c.args.stack.now c.args.queue.now in
    let alike = made_alike S (state_in u s) (state_in v s) refl refl in
    record {
      joined = subst (λ (q : Parts). Joined S rank p v q) (sym c.begin.ensures.parts)
          (moved_joined S rank p u v s t.joined (same_moved p u v c.in_err-plan.ensures.err c.begin.ensures.quiet c.begin.ensures.serves) (g.met.P.Objects.sound c.begin.new.on) (λ d r. times_within c.args.stack.now.ledger.rows d r));
      finds = λ room is.
          never_lacks S rank p u c.args.entry s
          (begun_of p (waits_of S rank p u s c.args.entry t.joined t.least))
          t.joined t.effective (λ d m. times_within c.args.stack.now.ledger.rows d m) 8 (omega arith) room
          (c.begin.ensures.lacks S st (handed_on _ _ c.begin.result c.from_residual.result _ wants.Object c.in_err-plan.was c.from_residual.ensures.1 is));
      room = record {
        left = λ room. subst (λ (q : Parts). HasRoomLeft S v.free (state_in v q)) (sym c.begin.ensures.parts)
            (room_left S (state_in u s) (state_in v s) u.free v.free c.in_err-plan.ensures.err.free alike room);
        takes = subst (λ (q : Parts). Took S (state_in u s) (state_in v q) u.free v.free) (sym c.begin.ensures.parts)
            (took_none S (state_in u s) (state_in v s) u.free v.free c.in_err-plan.ensures.err.free alike);
      };
    }

pub returns-in_err-plan-clause-short : goal.returns-in_err-plan-clause-short
returns-in_err-plan-clause-short g c = λ S st is. c.begin.ensures.short S st (handed_on _ _ c.begin.result c.from_residual.result _ wants.Object c.in_err-plan.was c.from_residual.ensures.1 is)
