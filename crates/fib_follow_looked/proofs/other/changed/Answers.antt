use Rattle.std.proofs.Common.{List, map, subst, sym, ◌∙◌}
use Rattle.std.specs.Prelude.{Contains}
use Rattle.std.proofs.lemmas.Result.{IfOk-weaker}
use Rattle.fib_addr.specs.Prefixes.{Prefix}
use Rattle.fib_cover.specs.Covers.{IsAscending}
use Rattle.fib_resolve.specs.Tables.{IsSound}
use Rattle.fib_resolve.specs.declared.types.Tables.{Tables}
use Rattle.fib_resolve_changes.specs.Sources.{SameEntry}
use Rattle.fib_resolve_changes.specs.declared.change.Change.{Change}
use Rattle.fib_entries_rows.specs.Known.{StandsFor}
use Rattle.fib_follow_view.specs.Views.{IsAfter, anew_prefix}
use Rattle.fib_follow_looked.specs.Looks.{AreAllLooked, AreHops, AreShorts, IsBefore}
use Rattle.fib_follow_looked.specs.inner.Finding.{AreFound}
use Rattle.fib_follow_looked.proofs.Finding.{are_after}
use Rattle.fib_follow_looked.proofs.other.changed.Goals as goal

pub others-requires : goal.others-requires
others-requires c = subst IsAscending (sym (c.as_slice.ensures.value ∙ c.in_ok-list.ensures.listed)) c.in_ok-list.ensures.ordered

pub returns-clause-after : goal.returns-clause-after
returns-clause-after c =
    let T = c.args.after.now.tables in
    let list = c.as_slice.ensures.value ∙ c.in_ok-list.ensures.listed in
    IfOk-weaker c.others.result
    (λ x. (S : Tables) → StandsFor c.args.before.now S → AreShorts S T c.args.around.now.shorts → AreHops T c.as_slice.result.now c.args.around.now.hops
    → AreFound S T c.as_slice.result.now x)
    (λ x. (list : List Change) (S : Tables) → IsBefore c.args.before.now list S T → AreShorts S T c.args.around.now.shorts
    → AreHops T c.args.looked.now c.args.around.now.hops → AreAllLooked list S T c.args.looked.now
    → IsAfter (record { before = c.args.before.now; changed = x }) S T)
    (λ x found. λ changes S h are hops all. are_after c.args.before.now changes S T h c.args.around.now.shorts c.args.looked.now x
    (subst IsSound c.tables-tables.ensures.value c.tables-tables.ensures.sound) are all
    (subst (λ l. AreFound S T l x) list (found S h.stands are (subst (λ l. AreHops T l c.args.around.now.hops) (sym list) hops)))) c.others.ensures.found

pub returns-clause-others : goal.returns-clause-others
returns-clause-others c =
    let T = c.args.after.now.tables in
    let list = c.as_slice.ensures.value ∙ c.in_ok-list.ensures.listed in
    IfOk-weaker c.others.result
    (λ x. (S : Tables) → StandsFor c.args.before.now S → AreShorts S T c.args.around.now.shorts → AreHops T c.as_slice.result.now c.args.around.now.hops
    → AreFound S T c.as_slice.result.now x)
    (λ x. (list : List Change) (S : Tables) → IsBefore c.args.before.now list S T → AreShorts S T c.args.around.now.shorts
    → AreHops T c.args.looked.now c.args.around.now.hops → (e : Prefix) → Contains (map anew_prefix x) e → Contains c.args.looked.now e × (SameEntry S T e → ⊥))
    (λ x found. λ changes S h are hops. (subst (λ l. AreFound S T l x) list
    (found S h.stands are (subst (λ l. AreHops T l c.args.around.now.hops) (sym list) hops))).others) c.others.ensures.found
