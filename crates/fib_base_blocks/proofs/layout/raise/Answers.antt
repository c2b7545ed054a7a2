use Rattle.std.proofs.Common.{arith, ◌+◌, ◌-◌, ◌^◌, get_or, sym, ◌∙◌, ap, length}
use Rattle.fib_base_blocks.proofs.Starts.{changed_none, changed_long, changed_same, changed_more, each_low}
use Rattle.fib_base_blocks.proofs.layout.raise.Goals as goal

pub starts-init : goal.starts-init
starts-init c = sym (changed_none (λ n. n + 1) c.args.from c.args.starts.now.items)

pub starts-preserved : goal.starts-preserved
starts-preserved c =
    changed_more (λ n. n + 1) c.args.from c.starts.place c.args.starts.now.items c.starts.starts.items c.index_mut.result.now c.starts.invariant c.starts.auto.place (omega (arith, c.starts-test.true, c.len-place-end.ensures, ap length c.starts.invariant, changed_long (λ n. n + 1) c.args.from c.starts.place c.args.starts.now.items)) c.index_mut.ensures.value

pub overflow_add-index_mut : goal.overflow_add-index_mut
overflow_add-index_mut c =
    let same = c.index_mut.ensures.value ∙ (ap (λ l. get_or l c.starts.place c.index_mut.result.now) c.starts.invariant ∙ changed_same (λ n. n + 1) c.args.from c.starts.place c.args.starts.now.items c.starts.place c.index_mut.result.now (omega arith)) in
    omega (arith, same, each_low (2 ^ 64 - 1) c.args.starts.now.items c.starts.place c.index_mut.result.now (omega (arith, c.starts-test.true, c.len-place-end.ensures)) c.requires.low)
