use Rattle.std.proofs.Common.{◌↔◌, subst, sym}
use Rattle.std.specs.Prelude.{Contains, map}
use Rattle.std.proofs.lemmas.Result.{IfOk-weaker}
use Rattle.fib_resolve.specs.declared.pairs.Adjacency.{Adjacency}
use Rattle.fib_resolve.specs.declared.types.Tables.{Tables}
use Rattle.fib_entries_rows.specs.Known.{prefix_of}
use Rattle.fib_follow_view.specs.Views.{IsAfter}
use Rattle.fib_follow_features.specs.FoundBy.{AreNoted}
use Rattle.fib_follow_sized.specs.Holders.{AreHolders, IsAsked}
use Rattle.fib_follow_plan.specs.inner.Ends.{AreEndsAmong, is_held}
use Rattle.fib_follow_plan.proofs.Ending.{are_holders}
use Rattle.fib_follow_plan.proofs.ends.held_ends.Goals as goal

pub returns : goal.returns
returns c =
    let v = c.args.view.now in
    let sets = c.args.features.now in
    let ends = c.as_slice.result.now in
    IfOk-weaker c.held_among.result (λ s. AreEndsAmong (is_held v sets) ends s.keys)
    (λ s. (S T : Tables) → IsAfter v S T → AreNoted v.before.lists (map prefix_of v.before.rows) v.before.rows sets → AreHolders v S T s.keys)
    (λ s are. λ S T h noted. are_holders v S T sets h noted ends s.keys
    (λ (x : Adjacency). subst (λ l. Contains l x ↔ IsAsked v S T x) (sym c.as_slice.ensures.value) (c.in_ok-asked.ensures.asked S T h x)) are)
    c.held_among.ensures
