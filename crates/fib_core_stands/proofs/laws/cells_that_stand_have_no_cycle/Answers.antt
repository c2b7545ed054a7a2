use Rattle.fib_core_stands.proofs.Calm.{calm_union, leads_within}
use Rattle.fib_core_stands.proofs.laws.cells_that_stand_have_no_cycle.Goals as goal

pub returns : goal.returns
returns c = λ u objects names tables stands sound long quiet.
    (calm_union u names tables stands sound objects long quiet, leads_within u.cells names tables stands objects long)
