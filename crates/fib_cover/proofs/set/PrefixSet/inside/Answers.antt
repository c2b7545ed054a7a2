use Rattle.std.proofs.Common.{subst, ap, ◌∙◌, ◌≡◌, List}
use Rattle.std.specs.List.{filter}
use Rattle.std.proofs.lemmas.Result.{IfOk-weaker}
use Rattle.std.specs.BTreeMap.Range.{range_contains}
use Rattle.std.specs.declared.ops.Bound.TheVariants.{Included}
use Rattle.fib_addr.specs.Prefixes.{Prefix, host}
use Rattle.fib_cover.specs.Covers.{prefix_cmp, ArePrefixes}
use Rattle.fib_cover.proofs.Inside.{filter_inside, last_of}
use Rattle.fib_cover.proofs.set.PrefixSet.inside.Goals as goal

pub returns : goal.returns
returns c =
    let last : c.host-last.result ≡ last_of c.args.prefix = c.host-last.ensures ∙ ap host c.last.ensures in
    let set = c.self.view_is in
    let all = subst ArePrefixes set c.self.invariant.prefixes in
    IfOk-weaker c.between.result _ _
    (λ v e. e ∙ (ap (λ (l : Prefix). filter (range_contains prefix_cmp (Included c.args.prefix) (Included l)) c.self.inside.members.keys) last ∙ (ap (λ (m : List Prefix). filter (range_contains prefix_cmp (Included c.args.prefix) (Included (last_of c.args.prefix))) m) set ∙ filter_inside c.args.prefix c.args.self.now c.len-length.ensures.prefix all)))
    c.between.ensures
