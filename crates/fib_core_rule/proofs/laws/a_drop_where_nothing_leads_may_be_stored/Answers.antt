use Rattle.fib_core.proofs.Unions.{none_counted}
use Rattle.fib_union.specs.Unions.{owner}
use Rattle.fib_core_rule.proofs.Serving.{clear_steadily}
use Rattle.fib_core_rule.proofs.Tells.{drop_aside}
use Rattle.fib_core_rule.proofs.laws.a_drop_where_nothing_leads_may_be_stored.Goals as goal

pub returns : goal.returns
returns c = λ objects seat k words views d s mine inside filled other none allowed clear. drop_aside objects words views s seat d mine k inside filled other none allowed (clear_steadily d k other (none_counted d.union (owner k) none) clear)
