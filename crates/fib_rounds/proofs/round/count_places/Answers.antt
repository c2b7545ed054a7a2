use Rattle.std.proofs.Common.{arith, ◌+◌, sym, ◌∙◌, ap, drop, length}
use Rattle.std.proofs.lemmas.List.{length-append}
use Rattle.fib_rounds.specs.Summaries.{with_ends}
use Rattle.fib_rounds_homing.specs.Places.{joined, parts_of, results_at}
use Rattle.fib_rounds.proofs.Counting.{smaller, with_ends_append, with_no_ends}
use Rattle.fib_rounds.proofs.Laid.{places_head, places_end}
use Rattle.fib_rounds.proofs.round.count_places.Goals as goal

pub count_place-requires : goal.count_place-requires
count_place-requires c =
    let got = c.loop-place.invariant.small c.requires.small.0 c.requires.small.1 in
    let head = places_head c.args.places.now c.loop-place.place-index c.place-item.result c.loop-place-test.true c.place-item.is in
    let len = length-append (results_at c.place-item.result) (joined (parts_of (drop (c.loop-place.place-index + 1) c.args.places.now))) in
    record { small = (got.0, got.1, omega (arith, got.2, ap length head, len, c.requires.small.2)) }

pub loop-place-preserved : goal.loop-place-preserved
loop-place-preserved c =
    let rest = joined (parts_of (drop (c.loop-place.place-index + 1) c.args.places.now)) in
    let mine = results_at c.place-item.result in
    let head = places_head c.args.places.now c.loop-place.place-index c.place-item.result c.loop-place-test.true c.place-item.is in
    let len = length-append mine rest in
    record {
      counts = ap (λ d. with_ends d rest) c.count_place.ensures.counts ∙ (sym (with_ends_append c.loop-place.counts mine rest) ∙ (ap (with_ends c.loop-place.counts) (sym head) ∙ c.loop-place.invariant.counts));
      small = λ n h.
          let got = c.loop-place.invariant.small n h in
          (got.0 + length mine, c.count_place.ensures.small got.0 got.1, omega (arith, got.2, ap length head, len));
    }

pub returns-clause-counts : goal.returns-clause-counts
returns-clause-counts c =
    let none = places_end c.args.places.now c.loop-place.place-index (omega (arith, c.loop-place-test.false)) in
    sym (ap (with_ends c.loop-place.counts) none ∙ with_no_ends c.loop-place.counts) ∙ c.loop-place.invariant.counts

pub returns-clause-small : goal.returns-clause-small
returns-clause-small c = λ n h.
    let got = c.loop-place.invariant.small n h in
    smaller got.0 _ _ (omega (arith, got.2)) got.1
