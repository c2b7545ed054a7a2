use Rattle.std.proofs.Common.{arith, ◌≡◌, ◌<◌, ap, sym, subst, ◌∙◌, length}
use Rattle.fib_resolve.specs.Pairs.{chosen}
use Rattle.fib_resolve.specs.Tables.{IsSound}
use Rattle.fib_resolve.specs.Forwarding.{usable}
use Rattle.fib_resolve.specs.Buckets.{used, of_least_preference}
use Rattle.fib_resolve.proofs.PairLaws.{chosen_short}
use Rattle.test_plain.proofs.Viewing.{wanted_none, few_used, some_used}
use Rattle.test_plain.proofs.view.wanted.Goals as goal

pub returns-then-is_empty : goal.returns-then-is_empty
unfolding used
returns-then-is_empty c =
    let S = c.args.view.now in
    let same : c.in_ok-used.used.items ≡ used S c.args.e = c.in_ok-used.ensures ∙ ap of_least_preference (c.as_slice.ensures.value ∙ c.in_ok-usable.ensures) in
    let none : length c.in_ok-used.used.items ≡ 0 = grind (arith) in
    c.new.ensures.items ∙ sym (wanted_none S c.args.e c.in_ok-used.used.items same none)

pub spread-requires-clause-few : goal.spread-requires-clause-few
spread-requires-clause-few c =
    let S = c.args.view.now in
    let same = c.as_slice-2.ensures.value ∙ (c.in_ok-used.ensures ∙ ap of_least_preference (c.as_slice.ensures.value ∙ c.in_ok-usable.ensures)) in
    rw same (few_used (usable S c.args.e) (chosen S c.args.e) (chosen_short S (subst IsSound c.known.ensures c.tables-tables.ensures.sound) c.args.e))

pub spread-requires-clause-some : goal.spread-requires-clause-some
spread-requires-clause-some c =
    let S = c.args.view.now in
    let same = c.as_slice-2.ensures.value ∙ (c.in_ok-used.ensures ∙ ap of_least_preference (c.as_slice.ensures.value ∙ c.in_ok-usable.ensures)) in
    let some : 0 < length c.as_slice-2.result.now = grind (arith) in
    rw same (some_used (usable S c.args.e) (chosen S c.args.e) (chosen_short S (subst IsSound c.known.ensures c.tables-tables.ensures.sound) c.args.e) (rw same at some))
