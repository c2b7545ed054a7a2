use Rattle.std.proofs.Common.{◌≡◌, List, map, sym, subst}
use Rattle.std.specs.Set.{is_member}
use Rattle.fib_addr.specs.Prefixes.{Prefix, same_prefix}
use Rattle.fib_reach.specs.Walks.{AllDiffer}
use Rattle.fib_resolve_changes.specs.Reached.{HoldsTouched}
use Rattle.fib_entries_rows.specs.Known.{Known, prefix_of}
use Rattle.fib_follow_view.specs.Views.{is_changed}
use Rattle.fib_follow_view.specs.declared.view.Anew.{Anew}
use Rattle.fib_follow_part.specs.Parts.{in_part}
use Rattle.fib_follow_told.specs.Told.{AreBodies, AreOthers}
use Rattle.fib_follow_write.specs.Plans.{IsPlan}
use Rattle.fib_follow_write.specs.declared.writing.Plan.{Plan}
use Rattle.fib_follow_plan.specs.Noted.{AreTold}
use Rattle.fib_entries.specs.inner.Planned.{AreRowsNoted}
use Rattle.fib_entries.proofs.steps.planned_with.Goals as goal

pub returns-clause-suits : goal.returns-clause-suits
returns-clause-suits c = subst (λ (v : Known). IsPlan v.rows c.in_ok-plan.plan) c.requires.same c.in_ok-plan.ensures.suits

pub returns-clause-noted : goal.returns-clause-noted
returns-clause-noted c =
    let v = c.args.view.now in
    let plan = c.in_ok-plan.plan in
    let noted = subst (λ (k : Known). AreRowsNoted k c.args.course.now.features.now) (sym c.requires.same) c.requires.noted in
    let told = c.in_ok-renoted.ensures.told c.args.part.now c.args.ranks.now c.in_ok-bodies.bodies c.in_ok-edges.edges noted
    (subst (λ (p : Plan). IsPlan v.before.rows p) c.in_ok-plan.ensures.value c.in_ok-plan.ensures.suits) in
    subst (λ (k : Known). AreTold k.rows k.lists (map prefix_of k.rows) plan c.in_ok-renoted.renoted.items) c.requires.same
    (subst (λ (p : Plan). AreTold v.before.rows v.before.lists (map prefix_of v.before.rows) p c.in_ok-renoted.renoted.items)
    (sym c.in_ok-plan.ensures.value) told)

pub returns-clause-works : goal.returns-clause-works
returns-clause-works c = λ S from after part ranks.
    let k = c.args.course.now in
    let v = c.args.view.now in
    let T = k.after.now.tables in
    let list = c.list.result.now in
    let same : list ≡ c.in_ok-written.written = c.list.ensures in
    let others = subst (λ (l : List Anew). AreOthers S T (is_changed l) c.in_ok-others.others.items) c.changed.ensures.changed
    (c.in_ok-others.ensures k.before S T from.stands c.requires.noted from.differ) in
    let others_now = subst (AreOthers S T (is_changed v.changed)) (sym c.as_slice.ensures.value) others in
    let holds = subst (λ (l : List Prefix). HoldsTouched S T (is_changed v.changed) (in_part c.args.part.now) (is_member same_prefix l)) (sym same)
    (c.in_ok-written.ensures.holds v S T part others_now) in
    let once = subst AllDiffer (sym same) c.in_ok-written.ensures.once in
    let bodies = c.in_ok-bodies.ensures S after part in
    record {
      part = c.args.part.now;
      ranks = c.args.ranks.now;
      list = list;
      bodies = c.in_ok-bodies.bodies;
      edges = c.in_ok-edges.edges;
      made = c.in_ok-plan.ensures.value;
      works = record {
        after = after;
        part = part;
        ranks = ranks;
        once = once;
        holds = holds;
        bodies = bodies;
        edges = c.in_ok-edges.ensures.edges S T after;
        prefixes = c.in_ok-plan.ensures.prefixes;
      };
      told = c.in_ok-followed.ensures S T list after part once holds (subst (AreBodies T list) (sym c.as_slice-2.ensures) bodies);
    }
