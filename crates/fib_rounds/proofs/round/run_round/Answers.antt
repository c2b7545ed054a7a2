use Rattle.std.proofs.Common.{◌≡◌, ◌-◌, ◌++◌, arith, refl, subst, ap, ap₂, ◌∙◌, sym, length}
use Rattle.std.specs.Prelude.{◌==◌}
use Rattle.fib_config.specs.Config.{Setup}
use Rattle.fib_worker_crew.specs.Packets.{span}
use Rattle.fib_rounds_homing.specs.Places.{joined, parts_of}
use Rattle.fib_rounds.specs.Stages.{IsHistory, Stage}
use Rattle.fib_rounds.specs.Summaries.{with_results}
use Rattle.fib_rounds.specs.Packets.{packets_text, IsAnswer}
use Rattle.fib_rounds.specs.Rounds.{GoesOn, stage_of}
use Rattle.fib_rounds.proofs.Spans.{matched_few}
use Rattle.fib_worker_crew.proofs.Spans.{length_span}
use Rattle.fib_rounds.proofs.Rounding.{all_answered, closed_is, closed_next, has_counted, has_run, next_first, next_lines, next_rests, stage_stays}
use Rattle.fib_rounds.proofs.round.run_round.Goals as goal

pub count_round-requires-clause-few : goal.count_round-requires-clause-few
count_round-requires-clause-few g c =
    let o = c.args.round in
    let ps = c.args.task.now.packets.now.packets in
    let f = c.in_ok-stop.ensures.ran in
    let places = c.in_ok-stop.field-0.places.items in
    let answered = all_answered _ _ (span ps o.first o.to) places f.home.answered in
    let same : c.as_slice.result.now ≡ places = c.as_slice.ensures.value in
    omega (arith, ap (λ xs. length (joined (parts_of xs))) same, matched_few (IsAnswer _ _) (span ps o.first o.to) (joined (parts_of places)) answered, length_span ps o.first o.to c.requires.may.order c.requires.may.inside)

pub returns-clause-ran : goal.returns-clause-ran
returns-clause-ran g c =
    let o = c.args.round in
    let ps = c.args.task.now.packets.now.packets in
    let f = c.in_ok-stop.ensures.ran in
    let stop = c.in_ok-stop.field-0.stop in
    let A = c.args.control.now in
    let B = c.run_beside.new.control in
    let C = c.settle_home.new.control in
    let late = c.run_beside.new.reading.progress in
    let places = c.in_ok-stop.field-0.places.items in
    let mine = joined (parts_of places) in
    let stays = c.in_ok-settle_home.ensures.stays in
    let on = subst (λ t. GoesOn c.args.task.now.script.now o.place (stage_of A c.args.reading.now.progress) t stop.place (stage_of B late) c.run_beside.new.reading.text.items) c.requires.none f.on in
    let answered = all_answered _ _ (span ps o.first o.to) places f.home.answered in
    let after = closed_is B C late ps stop.place o.to stop.asked c.next_round.result stays c.next_round.ensures in
    let text = ap₂ (λ a (S : Setup). a ++ packets_text S.tables o.first (span ps o.first o.to) mine) (c.in_ok-refused.ensures.text B) stays.setup in
    has_run c.args.task.now.script.now c.args.task.now.packets.now o (stage_of A c.args.reading.now.progress) (stage_of B late) _ c.run_beside.new.reading.text.items _ stop.place stop.asked c.next_round.result mine
    c.requires.may.order c.requires.may.inside on f.stops answered after c.next_round.ensures text

pub returns-clause-counts : goal.returns-clause-counts
returns-clause-counts g c =
    let o = c.args.round in
    let ps = c.args.task.now.packets.now.packets in
    let f = c.in_ok-stop.ensures.ran in
    let stop = c.in_ok-stop.field-0.stop in
    let A = c.args.control.now in
    let B = c.run_beside.new.control in
    let C = c.settle_home.new.control in
    let late = c.run_beside.new.reading.progress in
    let places = c.in_ok-stop.field-0.places.items in
    let stays = c.in_ok-settle_home.ensures.stays in
    let answered = all_answered _ _ (span ps o.first o.to) places f.home.answered in
    let after = closed_is B C late ps stop.place o.to stop.asked c.next_round.result stays c.next_round.ensures in
    let counted = c.count_round.ensures.counts ∙ ap (λ xs. with_results c.args.counts.now (stop.place == o.place) (o.to - o.first) (joined (parts_of xs))) c.as_slice.ensures.value in
    has_counted c.args.task.now.packets.now c.args.task.now.script.now o (stage_of A c.args.reading.now.progress) (stage_of B late) _ c.args.reading.now.text.items c.run_beside.new.reading.text.items stop.place (stop.place == o.place) stop.asked c.next_round.result c.args.counts.now c.count_round.new.counts (joined (parts_of places))
    c.requires.may.order c.requires.may.inside c.requires.history f.on f.stops answered after c.next_round.ensures refl counted

pub returns-clause-rests : goal.returns-clause-rests
returns-clause-rests g c =
    next_rests c.args.task.now.script.now c.args.task.now.packets.now.packets c.args.round c.args.task.now.settings.workers c.args.control.now c.run_beside.new.control c.settle_home.new.control c.args.reading.now.progress c.run_beside.new.reading.progress c.args.reading.now.text.items c.run_beside.new.reading.text.items c.in_ok-stop.field-0.stop c.in_ok-stop.field-0.places.items c.next_round.result
    c.requires.rests c.requires.most c.in_ok-stop.ensures.ran c.in_ok-settle_home.ensures.keeps c.in_ok-settle_home.ensures.settled c.next_round.ensures

pub returns-clause-follows : goal.returns-clause-follows
returns-clause-follows g c = next_first c.args.task.now.packets.now.packets c.in_ok-stop.field-0.stop.place c.args.round.to c.in_ok-stop.field-0.stop.asked c.next_round.result c.next_round.ensures

pub returns-clause-lines : goal.returns-clause-lines
returns-clause-lines g c =
    next_lines c.args.task.now.packets.now.packets c.in_ok-stop.field-0.stop.place c.args.round.to c.run_beside.new.reading.progress.lines c.in_ok-stop.field-0.stop.asked c.next_round.result c.in_ok-stop.ensures.ran.lines c.next_round.ensures

pub returns-clause-history : goal.returns-clause-history
returns-clause-history g c =
    subst IsHistory (sym (stage_stays c.run_beside.new.control c.settle_home.new.control c.run_beside.new.reading.progress c.in_ok-settle_home.ensures.stays)) (c.in_ok-stop.ensures.ran.history c.requires.history)

pub returns-clause-refused : goal.returns-clause-refused
returns-clause-refused g c =
    let at = stage_of c.settle_home.new.control c.run_beside.new.reading.progress in
    let stop = c.in_ok-stop.field-0.stop in
    c.in_ok-refused.ensures.refused c.settle_home.new.control ∙ ap (λ (s : Stage). s.router.refused) (sym (closed_next at c.args.task.now.packets.now.packets stop.place c.args.round.to stop.asked c.next_round.result c.next_round.ensures))
