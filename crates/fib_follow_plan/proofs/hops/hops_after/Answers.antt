use Rattle.std.proofs.Common.{List, subst, ◌∙◌}
use Rattle.std.specs.Prelude.{map}
use Rattle.std.proofs.lemmas.Result.{IfOk-weaker}
use Rattle.fib_addr.specs.Prefixes.{Prefix}
use Rattle.fib_resolve.specs.declared.types.Tables.{Tables}
use Rattle.fib_resolve_changes.specs.declared.change.Change.{Change}
use Rattle.fib_entries_rows.specs.Known.{Known, prefix_of}
use Rattle.fib_follow_features.specs.FoundBy.{AreNoted}
use Rattle.fib_follow_looked.specs.Looks.{AreHops, AreNamed, IsBefore}
use Rattle.fib_follow_plan.specs.inner.Hops.{AreHopsAmong, IsGiven}
use Rattle.fib_follow_plan.proofs.Hopping.{hops_known}
use Rattle.fib_follow_plan.proofs.hops.hops_after.Goals as goal

pub returns : goal.returns
returns c =
    let T = c.args.after.now.tables in
    let sets = c.args.features.now in
    let x = c.args.named.now in
    IfOk-weaker c.hops_among.result (λ v. IsGiven T x sets → AreHopsAmong T c.as_slice.result.now v)
    (λ v. (k : Known) (list : List Change) (S : Tables) → IsBefore k list S T → AreNoted k.lists (map prefix_of k.rows) k.rows sets
    → AreNamed list S T x → AreHops T c.args.looked.now v)
    (λ v are. λ k list S h noted named. subst (λ (l : List Prefix). AreHops T l v) (c.as_slice.ensures.value ∙ c.in_ok-list.ensures.listed)
    (hops_known T c.as_slice.result.now v
    (are (record { known = k; changes = list; tables = S; is_before = h; noted = noted; named = named })))) c.hops_among.ensures
