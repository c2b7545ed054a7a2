use Rattle.std.proofs.Common.{◌∙◌, ◌||◌, ◌&&◌, ◌≤◌, List, length, take, ap, sym, arith}
use Rattle.fib_addr.specs.Prefixes.{Prefix, same_prefix}
use Rattle.fib_resolve_changes.specs.Ranks.{wakes}
use Rattle.fib_stack_waking.proofs.Woken.{same_woken, take_whole, woken_all, woken_next, woken_of}
use Rattle.fib_stack_waking.proofs.waking.woken_by.Goals as goal

pub loop-entry-preserved : goal.loop-entry-preserved
loop-entry-preserved c = record {
  ranks = c.in_ok-add_woken.ensures.ranks c.loop-entry.invariant.ranks;
  among = λ S d st.
      c.in_ok-add_woken.ensures.among S d st
      ∙ ap (λ b. b || (same_prefix c.entry-item.result d && wakes S d c.args.target)) (c.loop-entry.invariant.among S d st)
      ∙ ap (λ b. woken_of S c.args.target (take c.loop-entry.entry-index c.dependants-entry-items.result.now) d || b) (same_woken S c.args.target c.entry-item.result d)
      ∙ sym (woken_next S c.args.target c.dependants-entry-items.result.now c.loop-entry.entry-index c.entry-item.result d c.loop-entry-test.true (sym c.entry-item.is));
}

pub returns-clause-among : goal.returns-clause-among
returns-clause-among c = λ S d st.
    let ds = c.dependants-entry-items.result.now in
    let over : length ds ≤ c.loop-entry.entry-index = grind (arith) in
    c.loop-entry.invariant.among S d st
    ∙ ap (λ (l : List Prefix). woken_of S c.args.target l d) (take_whole ds c.loop-entry.entry-index over)
    ∙ woken_all S c.args.target ds d (c.dependants-entry-items.ensures.all S st d)
