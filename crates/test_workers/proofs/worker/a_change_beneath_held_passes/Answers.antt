use Rattle.std.proofs.Common.{ap, sym, ◌∙◌}
use Rattle.fib_core_board.specs.Boards.{Board}
use Rattle.fib_core_board.specs.Crews.{Seated}
use Rattle.trial_filling.proofs.Changing.{begins_changing}
use Rattle.test_workers.proofs.Lives.{home_settles, sent_changing}
use Rattle.test_workers.proofs.worker.a_change_beneath_held_passes.Goals as goal

pub loop-held-init : goal.loop-held-init
loop-held-init g c =
    let ready = c.filled_board-board.ensures in (
      sent_changing c.begin_version.new.self c.worker.new.self 0
          (begins_changing c.filled_board-board.result c.begin_version.new.self c.fresh-tables.result ready.ready c.fresh-tables.ensures.value c.begin_version.ensures)
          c.worker.ensures.board,
      ap (λ (b : Board). b.workers) c.worker.ensures.board ∙ ap (λ (b : Board). b.workers) c.begin_version.ensures ∙ ap (λ (b : Board). b.workers) ready.rest,
      ap (λ (b : Board). b.objects) c.worker.ensures.board ∙ ap (λ (b : Board). b.objects) c.begin_version.ensures ∙ ap (λ (b : Board). b.objects) ready.rest,
      ap (λ (s : Seated). s.id) (c.new-worker.ensures ∙ c.worker.ensures.seat) ∙ sym (ap (λ (b : Board). b.id) c.worker.ensures.board),
    )

pub settle_version-requires : goal.settle_version-requires
settle_version-requires g c =
    home_settles c.loop-held.board c.home.new.self c.scan.new.self c.into_seat.result.worker 0 c.scan.result c.loop-held.invariant.0 c.home.ensures c.scan.ensures.board
