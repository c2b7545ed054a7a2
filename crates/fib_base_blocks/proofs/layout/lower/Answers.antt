use Rattle.std.proofs.Common.{arith, ◌-◌, get_or, sym, ◌∙◌, ap, length}
use Rattle.std.proofs.lemmas.List.{get_or_default}
use Rattle.fib_base_blocks.proofs.Starts.{changed_none, changed_long, changed_same, changed_more}
use Rattle.fib_base_blocks.proofs.layout.lower.Goals as goal

pub starts-init : goal.starts-init
starts-init c = sym (changed_none (λ n. n - 1) c.args.from c.args.starts.now.items)

pub starts-preserved : goal.starts-preserved
starts-preserved c =
    changed_more (λ n. n - 1) c.args.from c.starts.place c.args.starts.now.items c.starts.starts.items c.index_mut.result.now c.starts.invariant c.starts.auto.place (omega (arith, c.starts-test.true, c.len-place-end.ensures, ap length c.starts.invariant, changed_long (λ n. n - 1) c.args.from c.starts.place c.args.starts.now.items)) c.index_mut.ensures.value

pub overflow_sub-index_mut : goal.overflow_sub-index_mut
overflow_sub-index_mut c =
    let same = c.index_mut.ensures.value ∙ (ap (λ l. get_or l c.starts.place c.index_mut.result.now) c.starts.invariant ∙ changed_same (λ n. n - 1) c.args.from c.starts.place c.args.starts.now.items c.starts.place c.index_mut.result.now (omega arith)) in
    let high = c.requires.high c.starts.place c.starts.auto.place (omega (arith, c.starts-test.true, c.len-place-end.ensures)) in
    let read = get_or_default c.args.starts.now.items c.starts.place c.index_mut.result.now 0 (omega (arith, c.starts-test.true, c.len-place-end.ensures)) in
    omega (arith, same, high, read)
