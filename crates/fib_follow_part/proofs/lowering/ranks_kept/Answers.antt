use Rattle.std.proofs.Common.{map, ap, ap₂, sym, ◌∙◌}
use Rattle.std.specs.List.{list_all}
use Rattle.fib_follow_part.specs.Parts.{rank_before}
use Rattle.fib_follow_part.specs.inner.Ranked.{does_fall, leaves_below}
use Rattle.fib_follow_part.proofs.Fallen.{stay_ranks}
use Rattle.fib_follow_part.proofs.lowering.ranks_kept.Goals as goal

pub returns-then-do_leave : goal.returns-then-do_leave
returns-then-do_leave c =
    let v = c.args.view.now in
    let p = c.args.part.now in
    let ranks = c.in_ok-before.before.items in
    record {
      some = λ S T h is.
          stay_ranks v S T p ranks h is (c.in_ok-before.ensures ∙ ap (map (rank_before v)) c.members.ensures)
          (sym (c.do_fall.ensures ∙ ap₂ (λ rs es. list_all (does_fall rs) es) c.as_slice-ranks.ensures.value c.left.ensures) ∙ c.if-do_fall.true)
          (sym (c.do_leave.ensures ∙ ap₂ (λ rs es. list_all (leaves_below v rs) es) c.as_slice-ranks.ensures.value c.out.ensures) ∙ c.if-do_leave.true);
    }
