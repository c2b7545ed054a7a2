use Rattle.std.proofs.Common.{arith, length, refl, subst}
use Rattle.std.proofs.lemmas.Option.{slice_get_read}
use Rattle.fib_cover.proofs.Sets.{take_whole}
use Rattle.fib_follow_plan.specs.inner.Telling.{AreSeen, IsSeen}
use Rattle.fib_follow_plan.proofs.Growing.{each_more, each_none, grows_more, grows_none, listed_stays}
use Rattle.fib_follow_plan.proofs.asked.add_hosts.Goals as goal

pub hosts-init : goal.hosts-init
hosts-init c = (
  grows_none c.args.view.now c.args.covers.now c.args.out.now.items,
  each_none (λ e l. IsSeen c.args.view.now l e) c.args.hosts.now c.args.out.now.items,
)

pub hosts-preserved : goal.hosts-preserved
hosts-preserved c =
    let v = c.args.view.now in
    let covers = c.args.covers.now in
    let xs = c.args.hosts.now in
    let e = c.index-hosts-place.result in
    let old = c.hosts.out.items in
    let new = c.push_host.new.out.items in
    let here = slice_get_read xs (length xs) c.hosts.place e refl c.hosts-test.true c.index-hosts-place.is in
    let grows = c.in_ok-push_host.ensures.grows in (
      grows_more v covers c.args.out.now.items old new c.hosts.invariant.0 grows,
      each_more (λ z l. IsSeen v l z) xs c.hosts.place e old new here c.hosts.invariant.1
          (λ z seen r off at. listed_stays v covers old new z grows (seen r off at)) c.in_ok-push_host.ensures.seen,
    )

pub returns-clause-grows : goal.returns-clause-grows
returns-clause-grows c = c.hosts.invariant.0

pub returns-clause-seen : goal.returns-clause-seen
returns-clause-seen c =
    let over = c.hosts-test.false in
    subst (λ l. AreSeen c.args.view.now l c.hosts.out.items) (take_whole c.args.hosts.now c.hosts.place (omega (arith, over))) c.hosts.invariant.1
