use Rattle.std.proofs.Common.{◌∙◌, ap}
use Rattle.fib_resolve_pairs.specs.Numbers.{number_in}
use Rattle.fib_resolve_pairs.proofs.Numbers.{number_of_below}
use Rattle.fib_resolve_pairs.proofs.known.Known.number.Goals as goal

pub returns-clause-below : goal.returns-clause-below
returns-clause-below c =
    number_of_below c.args.self.now c.args.prefix c.copied.result (c.copied.ensures ∙ (c.get.ensures.value ∙ (c.self.invariant.numbers_are c.args.prefix ∙ ap (λ S. number_in S c.args.prefix) c.self.view_is)))
