use Rattle.std.specs.Prelude.{map}
use Rattle.std.proofs.lemmas.Result.{IfOk-weaker}
use Rattle.fib_resolve.specs.declared.types.Tables.{Tables}
use Rattle.fib_entries_rows.specs.Known.{Known, StandsFor, prefix_of}
use Rattle.fib_follow_features.specs.FoundBy.{AreNoted}
use Rattle.fib_follow_looked.specs.Looks.{AreAnswered}
use Rattle.fib_follow_plan.specs.inner.Hosts.{AreHostsOf}
use Rattle.fib_follow_plan.proofs.Hosting.{are_answered}
use Rattle.fib_follow_plan.proofs.hosts.answered.Goals as goal

pub returns : goal.returns
returns c =
    let sets = c.args.features.now in
    let asks = c.args.asks.now in
    IfOk-weaker c.all_hosts.result (λ v. AreHostsOf sets asks v.items)
    (λ v. (k : Known) (S : Tables) → StandsFor k S → AreNoted k.lists (map prefix_of k.rows) k.rows sets → AreAnswered S asks v.items)
    (λ v are. λ k S h noted. are_answered k S sets h noted asks v.items are) c.all_hosts.ensures
