use Rattle.std.proofs.Common.{◌≡◌, ◌∙◌, ⊎_elim, ap, refl, sym, true}
use Rattle.fib_config.specs.Config.{Setup}
use Rattle.fib_resolve_changes.specs.Ranks.{has_entry}
use Rattle.fib_control.specs.Controls.{is_queued, rank_by, state_now, tables_in}
use Rattle.fib_control.proofs.Walked.{beneath_then, done_after, done_may, entry_may, first_queued, may_turn, queued_after, queued_may, smaller}
use Rattle.fib_control.proofs.Taking.{takes_none, takes_then}
use Rattle.fib_control.proofs.Turning.{none_turned, turn_more}
use Rattle.fib_control.proofs.control.Control.walk.Goals as goal

pub turns-init : goal.turns-init
turns-init g c = record {
  same = record { setup = refl; entries = refl; promise = refl };
  takes = takes_none c.args.self.now;
  turning = none_turned c.args.self.now;
  waiting = λ d q. queued_may c.args.self.now d q;
  taken = λ d q. done_may c.args.self.now d q;
}

pub turns-preserved : goal.turns-preserved
turns-preserved g c =
    let i = c.turns.invariant in
    let e = c.in_ok-turn.ensures in
    record {
      same = beneath_then c.args.self.now c.turns.self c.turn.new.self i.same e.same;
      takes = takes_then c.args.self.now c.turns.self c.turn.new.self i.same.setup i.takes e.takes;
      turning = turn_more c.args.self.now c.turns.self c.turn.new.self (rank_by c.turns.self) c.in_ok-turn.field-0 i.same.setup i.turning e.turn e.done;
      waiting = λ d q. ⊎_elim
          (λ (old : is_queued c.turns.self d ≡ true). i.waiting d old)
          (λ (h : has_entry (tables_in c.turns.self) d ≡ true). entry_may c.args.self.now d (sym (ap (λ (s : Setup). has_entry s.tables d) i.same.setup) ∙ h))
          (queued_after (tables_in c.turns.self) (rank_by c.turns.self) c.in_ok-turn.field-0 (state_now c.turns.self) (state_now c.turn.new.self) c.tells.ensures.ranked e.turn d q);
      taken = λ d q. done_after (may_turn c.args.self.now) (tables_in c.turns.self) (rank_by c.turns.self) c.in_ok-turn.field-0 (state_now c.turns.self) (state_now c.turn.new.self) c.turns.self.done c.turn.new.self.done e.turn e.done i.waiting i.taken d q;
    }

pub turns-smaller : goal.turns-smaller
turns-smaller g c =
    let i = c.turns.invariant in
    let e = c.in_ok-turn.ensures in
    smaller (may_turn c.args.self.now) (tables_in c.turns.self) (rank_by c.turns.self) c.in_ok-turn.field-0 (state_now c.turns.self) (state_now c.turn.new.self) c.turns.self.done c.turn.new.self.done
    (first_queued c.turns.self c.queued.result c.queued.ensures c.if-queued-eq0.false) e.turn e.done c.tells-in-turns.ensures.once
    (λ d q. done_after (may_turn c.args.self.now) (tables_in c.turns.self) (rank_by c.turns.self) c.in_ok-turn.field-0 (state_now c.turns.self) (state_now c.turn.new.self) c.turns.self.done c.turn.new.self.done e.turn e.done i.waiting i.taken d q)

pub returns-in_err-turn-clause-takes : goal.returns-in_err-turn-clause-takes
returns-in_err-turn-clause-takes g c = takes_then c.args.self.now c.turns.self c.turn.new.self c.turns.invariant.same.setup c.turns.invariant.takes c.turn.ensures.takes
