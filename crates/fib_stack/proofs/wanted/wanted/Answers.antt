use Rattle.std.proofs.Common.{arith, ◌≡◌, ◌<◌, ap, sym, ◌∙◌, length}
use Rattle.std.specs.Prelude.{filter}
use Rattle.fib_resolve_changes.specs.Ranks.{is_usable_mark}
use Rattle.fib_resolve_changes.specs.Wanted.{of_least_mark}
use Rattle.fib_stack_ledger.specs.Ledgers.{was_in}
use Rattle.fib_stack.proofs.Spreading.{none_spread, few_used, some_used}
use Rattle.fib_stack.proofs.wanted.wanted.Goals as goal

pub returns-then-is_empty : goal.returns-then-is_empty
returns-then-is_empty c =
    let same : c.in_ok-used.used.items ≡ of_least_mark (filter (is_usable_mark (was_in c.args.ledger.now.rows)) c.args.marks.now) = c.in_ok-used.ensures ∙ ap of_least_mark (c.as_slice.ensures.value ∙ c.in_ok-usable.ensures) in
    let none : length c.in_ok-used.used.items ≡ 0 = grind (arith) in
    c.new.ensures.items ∙ sym (none_spread c.in_ok-used.used.items _ same none)

pub spread-requires-clause-few : goal.spread-requires-clause-few
spread-requires-clause-few c =
    let same = c.as_slice-2.ensures.value ∙ (c.in_ok-used.ensures ∙ ap of_least_mark (c.as_slice.ensures.value ∙ c.in_ok-usable.ensures)) in
    rw same (few_used (is_usable_mark (was_in c.args.ledger.now.rows)) c.args.marks.now c.requires.few)

pub spread-requires-clause-some : goal.spread-requires-clause-some
spread-requires-clause-some c =
    let same = c.as_slice-2.ensures.value ∙ (c.in_ok-used.ensures ∙ ap of_least_mark (c.as_slice.ensures.value ∙ c.in_ok-usable.ensures)) in
    let some : 0 < length c.as_slice-2.result.now = grind (arith) in
    rw same (some_used (is_usable_mark (was_in c.args.ledger.now.rows)) c.args.marks.now c.requires.weighted (rw same at some))
