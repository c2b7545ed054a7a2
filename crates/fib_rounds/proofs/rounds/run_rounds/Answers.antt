use Rattle.std.proofs.Common.{◌++◌, ◌/◌, [], arith, refl, sym, ap, ap₂, ◌∙◌, subst}
use Rattle.std.proofs.lemmas.List.{append-nil}
use Rattle.fib_outside.specs.Outside.{Appends}
use Rattle.fib_worker_crew.specs.Packets.{span}
use Rattle.fib_worker_crew.specs.Results.{numbered}
use Rattle.fib_rounds_taps.specs.Taps.{Takes, TakesSome}
use Rattle.fib_rounds_homing.specs.Places.{joined, parts_of}
use Rattle.fib_rounds_turns.specs.Routers.{applied_in}
use Rattle.fib_rounds.specs.Counts.{IsSmall}
use Rattle.fib_rounds.specs.Packets.{packets_text, last_text}
use Rattle.fib_rounds.specs.Rounds.{closed_by, stage_of}
use Rattle.fib_rounds.specs.Writes.{AppendsSome, AreLaid}
use Rattle.fib_rounds.proofs.Moves.{Appends-more}
use Rattle.fib_rounds.proofs.Writing.{on_err}
use Rattle.fib_rounds.proofs.Rounding.{closed_history, laid_start}
use Rattle.fib_rounds.proofs.Taking.{went_ends}
use Rattle.fib_rounds.proofs.Running.{counts_end, counts_fresh, going_cut, going_ends, going_fresh, going_more, going_stops, history_fresh, rests_fresh, all_taken, none_taken, round_cut, some_of_both, some_of_first}
use Rattle.fib_rounds.proofs.rounds.run_rounds.Goals as goal

pub rounds-init : goal.rounds-init
rounds-init g c =
    let d = c.args.control.now in
    let n = c.args.task.now.settings.workers in
    let room = c.args.task.now.settings.objects / 2 in
    let fresh = c.requires.fresh in
    let rests = rests_fresh n room d fresh in
    record {
      going = going_fresh n room c.args.task.now.script.now c.args.task.now.packets.now _ _ d c.new.result fresh c.new.ensures;
      counts = counts_fresh n room c.args.task.now.script.now c.args.task.now.packets.now d c.new.result c.zero-counts.result fresh c.new.ensures c.zero-counts.ensures;
      refused = sym (ap (λ p. p.refused) c.new.ensures);
      may = record { place = omega arith; order = omega arith; inside = omega arith };
      lines = ap (λ p. p.lines) c.new.ensures;
      few = omega (arith, ap (λ v. v.applied) fresh.version);
      small = subst (IsSmall 0) (sym c.zero-counts.ensures) (record { packets = omega arith; quiet = omega arith; drops = omega arith; receives = omega arith; gleans = omega arith; adjs = omega arith; incompletes = omega arith });
      rests = rests;
      history = history_fresh n room d c.new.result fresh c.new.ensures;
      none = fresh.none;
      settled = rests.settled;
      counted = omega arith;
      tapped = omega arith;
    }

pub returns-in_err-ran-clause-some : goal.returns-in_err-ran-clause-some
returns-in_err-ran-clause-some g c =
    let inv = c.rounds.invariant in
    let going = rw c.in-Some.is at inv.going in
    on_err c.from_residual.result (going_stops c.args.task.now.settings.workers (c.args.task.now.settings.objects / 2) c.args.task.now.script.now c.args.task.now.packets.now _ _ c.rounds.control.plane.board _ _ _ _ going inv.history)

pub returns-in_err-put_all-clause-some : goal.returns-in_err-put_all-clause-some
returns-in_err-put_all-clause-some g c =
    let inv = c.rounds.invariant in
    let told = c.in_ok-ran.ensures in
    let going = rw c.in-Some.is at inv.going in
    let may = rw c.in-Some.is at inv.may in
    let part = subst (AppendsSome _ _) c.deref.ensures.value c.in_err-put_all.ensures.err in
    on_err c.from_residual-in_err-put_all.result
    (round_cut c.args.task.now.settings.workers (c.args.task.now.settings.objects / 2) c.args.task.now.script.now c.args.task.now.packets.now (stage_of c.rounds.control c.rounds.reading.progress) (closed_by (stage_of c.run_round.new.control c.run_round.new.reading.progress) c.in_ok-ran.ran.next) c.in-Some.round c.in_ok-ran.ran.next (applied_in c.rounds.control) c.rounds.control.plane.board c.run_round.new.control.plane.board c.in_ok-ran.ran.places.items _ _ _ _ _ _ _ going told.ran
    (closed_history _ c.in_ok-ran.ran.next told.history) told.home may (some_of_first _ _ c.run_round.new.reading.text.items _ part) (none_taken _ _))

pub write_frames-requires-clause-laid : goal.write_frames-requires-clause-laid
write_frames-requires-clause-laid g c =
    let told = c.in_ok-ran.ensures in
    let may = rw c.in-Some.is at c.rounds.invariant.may in
    subst (AreLaid c.args.task.now.packets.now.packets c.in-Some.round.first c.in-Some.round.to) (sym c.as_slice.ensures.value)
    (laid_start _ _ c.args.task.now.packets.now.packets c.in-Some.round.first c.in-Some.round.to c.in_ok-ran.ran.places.items may.order may.inside told.filled)

pub returns-in_err-write_frames-clause-some : goal.returns-in_err-write_frames-clause-some
returns-in_err-write_frames-clause-some g c =
    let inv = c.rounds.invariant in
    let told = c.in_ok-ran.ensures in
    let o = c.in-Some.round in
    let going = rw c.in-Some.is at inv.going in
    let may = rw c.in-Some.is at inv.may in
    let first = subst (Appends _ _) c.deref.ensures.value c.in_ok-put_all.ensures.ok in
    let same = ap₂ (λ T xs. packets_text T o.first (span c.args.task.now.packets.now.packets o.first o.to) (joined (parts_of xs))) c.tables.ensures.value c.as_slice.ensures.value in
    let part = subst (AppendsSome _ _) same c.in_err-write_frames.ensures.err in
    let pairs = ap (λ xs. numbered o.first (span c.args.task.now.packets.now.packets o.first o.to) (joined (parts_of xs))) c.as_slice.ensures.value in
    let took = subst (TakesSome _ _) pairs c.in_err-write_frames.ensures.took_some in
    on_err c.from_residual-in_err-write_frames.result
    (round_cut c.args.task.now.settings.workers (c.args.task.now.settings.objects / 2) c.args.task.now.script.now c.args.task.now.packets.now (stage_of c.rounds.control c.rounds.reading.progress) (closed_by (stage_of c.run_round.new.control c.run_round.new.reading.progress) c.in_ok-ran.ran.next) o c.in_ok-ran.ran.next (applied_in c.rounds.control) c.rounds.control.plane.board c.run_round.new.control.plane.board c.in_ok-ran.ran.places.items _ _ _ _ _ _ _ going told.ran
    (closed_history _ c.in_ok-ran.ran.next told.history) told.home may (some_of_both _ _ _ c.run_round.new.reading.text.items _ first part) took)

pub rounds-preserved : goal.rounds-preserved
rounds-preserved g c =
    let inv = c.rounds.invariant in
    let ran = c.in_ok-ran.ran in
    let told = c.in_ok-ran.ensures in
    let o = c.in-Some.round in
    let going = rw c.in-Some.is at inv.going in
    let counts = rw c.in-Some.is at inv.counts in
    let may = rw c.in-Some.is at inv.may in
    let first = subst (Appends _ _) c.deref.ensures.value c.in_ok-put_all.ensures.ok in
    let same = ap₂ (λ T xs. packets_text T o.first (span c.args.task.now.packets.now.packets o.first o.to) (joined (parts_of xs))) c.tables.ensures.value c.as_slice.ensures.value in
    let second = subst (Appends _ _) same c.in_ok-write_frames.ensures.ok in
    let pairs = ap (λ xs. numbered o.first (span c.args.task.now.packets.now.packets o.first o.to) (joined (parts_of xs))) c.as_slice.ensures.value in
    let took = subst (Takes _ _) pairs c.in_ok-write_frames.ensures.took in
    record {
      going = going_more c.args.task.now.settings.workers (c.args.task.now.settings.objects / 2) c.args.task.now.script.now c.args.task.now.packets.now (stage_of c.rounds.control c.rounds.reading.progress) (closed_by (stage_of c.run_round.new.control c.run_round.new.reading.progress) ran.next) o ran.next (applied_in c.rounds.control) c.rounds.control.plane.board c.run_round.new.control.plane.board ran.places.items _ _ _ _ _ _ _
          going told.ran told.home may told.follows (Appends-more _ _ _ c.run_round.new.reading.text.items _ first second) took;
      counts = told.counts ∙ counts;
      refused = told.refused;
      may = told.may;
      lines = told.lines;
      few = told.few;
      small = told.small;
      rests = told.rests;
      history = told.history;
      none = told.none;
      settled = told.settled;
      counted = omega (arith, inv.counted, c.in_ok-put_all.ensures.counted, c.in_ok-write_frames.ensures.counted);
      tapped = omega (arith, inv.tapped, c.in_ok-write_frames.ensures.tapped);
    }

pub returns-in_err-put_last-clause-some : goal.returns-in_err-put_last-clause-some
returns-in_err-put_last-clause-some g c =
    let inv = c.rounds.invariant in
    on_err c.from_residual-in_err-put_last.result (going_stops c.args.task.now.settings.workers (c.args.task.now.settings.objects / 2) c.args.task.now.script.now c.args.task.now.packets.now _ c.rounds.next c.rounds.control.plane.board _ _ _ _ inv.going (closed_history (stage_of c.rounds.control c.rounds.reading.progress) c.rounds.next inv.history))

pub returns-in_err-put_all-2-clause-some : goal.returns-in_err-put_all-2-clause-some
returns-in_err-put_all-2-clause-some g c =
    let inv = c.rounds.invariant in
    let going = rw c.in_default.is at inv.going in
    let text = c.deref-2.ensures.value ∙ (c.in_ok-put_last.ensures ∙ ap (λ t. t ++ last_text c.args.task.now.packets.now.cut) c.clear-2.ensures.items) in
    let part = subst (AppendsSome _ _) text c.in_err-put_all-2.ensures.err in
    on_err c.from_residual-in_err-put_all-2.result
    (going_cut c.args.task.now.settings.workers (c.args.task.now.settings.objects / 2) c.args.task.now.script.now c.args.task.now.packets.now _ _ c.rounds.control.plane.board (last_text c.args.task.now.packets.now.cut) _ _ _ _ _ _ [] [] going (refl, append-nil (last_text c.args.task.now.packets.now.cut)) part
    (all_taken _ _ _ (went_ends c.args.task.now.packets.now.packets going.results _ _ going.went)))

pub returns-clause-ok : goal.returns-clause-ok
returns-clause-ok g c =
    let inv = c.rounds.invariant in
    let going = rw c.in_default.is at inv.going in
    let text = c.deref-2.ensures.value ∙ (c.in_ok-put_last.ensures ∙ ap (λ t. t ++ last_text c.args.task.now.packets.now.cut) c.clear-2.ensures.items) in
    let told = subst (Appends _ _) text c.in_ok-put_all-2.ensures.ok in
    going_ends c.args.task.now.settings.workers (c.args.task.now.settings.objects / 2) c.args.task.now.script.now c.args.task.now.packets.now _ c.rounds.control _ _ _ _ _ going told refl inv.settled

pub returns-clause-summary : goal.returns-clause-summary
returns-clause-summary g c =
    let inv = c.rounds.invariant in
    counts_end c.args.task.now.packets.now c.args.task.now.script.now (stage_of c.rounds.control c.rounds.reading.progress) c.rounds.next c.rounds.counts c.version.result.applied c.rounds.refused_lines _ c.in_default.is inv.counts (ap (λ v. v.applied) c.version.ensures) inv.refused
