use Rattle.std.proofs.Common.{◌≡◌, ◌++◌, flat_map, subst}
use Rattle.std.proofs.lemmas.Result.{on_ok_weaker}
use Rattle.fib_follow_view.specs.inner.Told.{next_before, next_in}
use Rattle.fib_follow_told.specs.inner.Gathered.{edge_beside}
use Rattle.fib_follow_told.proofs.Leading.{adds_beside}
use Rattle.fib_follow_told.proofs.edges.add_both.Goals as goal

pub returns-clause-come : goal.returns-clause-come
returns-clause-come c =
    let e = c.args.e in
    let after = c.in_ok-after.after in
    let before = c.in_ok-before.before in
    on_ok_weaker c.add_edges-2.result
    (λ is. adds_beside (next_in c.args.view.now e) (next_before c.args.view.now e) e after before c.args.come.now c.add_edges.new.out
    c.in_ok-after.ensures c.in_ok-before.ensures
    (subst (λ l. c.add_edges.new.out ≡ c.args.come.now ++ flat_map (edge_beside e before) l) c.as_slice.ensures c.in_ok-add_edges.ensures))
    c.add_edges-2.ensures

pub returns-clause-go : goal.returns-clause-go
returns-clause-go c =
    let e = c.args.e in
    let after = c.in_ok-after.after in
    let before = c.in_ok-before.before in
    on_ok_weaker c.add_edges-2.result
    (λ is. adds_beside (next_before c.args.view.now e) (next_in c.args.view.now e) e before after c.args.go.now c.add_edges-2.new.out
    c.in_ok-before.ensures c.in_ok-after.ensures
    (subst (λ l. c.add_edges-2.new.out ≡ c.args.go.now ++ flat_map (edge_beside e after) l) c.as_slice-2.ensures is))
    c.add_edges-2.ensures
