use Rattle.std.proofs.Common.{sym, subst}
use Rattle.std.specs.Prelude.{Contains}
use Rattle.std.proofs.lemmas.Result.{on_ok_weaker}
use Rattle.fib_follow_plan.proofs.asked.add_asked.Goals as goal

pub returns-clause-asked : goal.returns-clause-asked
returns-clause-asked c =
    on_ok_weaker c.add_hosts.result
    (λ seen z e under found inside. seen e (subst (λ l. Contains l e) (sym c.as_slice.ensures.value) (c.in_ok-hosts.ensures z e under found inside)))
    c.add_hosts.ensures.seen
