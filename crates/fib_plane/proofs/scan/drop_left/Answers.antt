use Rattle.std.proofs.Common.{arith, ◌≡◌, [], ℕ, List, Option, ap, sym, subst, length}
use Rattle.fib_pool.specs.declared.object.Object.{Object}
use Rattle.fib_pool.specs.Objects.{IsLive}
use Rattle.fib_plane.specs.inner.Joined.{IsLoose}
use Rattle.fib_plane.proofs.Scanning.{left_live, left_loose, one_left, all_left, dying_less, nothing_more, LeftSoFar}
use Rattle.fib_plane.proofs.scan.drop_left.Goals as goal

pub drop_edge-requires-clause-room : goal.drop_edge-requires-clause-room
drop_edge-requires-clause-room g c =
    let i = c.loop-target.invariant in
    let root : IsLive c.loop-target.pool 0 = (let r = i.loose.root in omega arith) in
    let d = dying_less c.loop-target.pool c.loop-target.dying.items i.dying root in
    omega (arith, d, i.room)

pub drop_edge-requires-clause-live : goal.drop_edge-requires-clause-live
drop_edge-requires-clause-live g c = λ y e.
    let b = c.args.board.now in
    let i = c.loop-target.invariant in
    let here = left_live b c.loop-target.union c.left.new.self c.loop-target.pool c.in-Some.target i.loose c.in-Some.ensures.left in
    let same : c.in-Some.target ≡ y = cc in
    subst (λ (q : ℕ). IsLive c.loop-target.pool q) same here

pub loop-target-preserved : goal.loop-target-preserved
loop-target-preserved g c =
    let b = c.args.board.now in
    let i = c.loop-target.invariant in
    let u = c.loop-target.union in
    let v = c.left.new.self in
    let e = c.in-Some.ensures in
    let here = left_live b u v c.loop-target.pool c.in-Some.target i.loose e.left in
    let loose = left_loose b u v c.loop-target.pool c.in-Some.target i.loose e.left e.union e.workers in
    let so_far = one_left c.args.union.now.left u.left v.left c.args.pool.now c.loop-target.pool c.in-Some.target i.so_far e.left here in
    record {
      loose = subst (λ (xs : List (Option Object)). IsLoose b v xs) (sym c.drop_edge.ensures.pool) loose;
      dying = c.drop_edge.ensures.dying [] i.dying;
      room = (let s = ap (λ (xs : List (Option Object)). length xs) c.drop_edge.ensures.pool in let t = so_far.size in let q = i.so_far.size in omega (arith, s, t, q, i.room, c.drop_edge.ensures.room));
      so_far = subst (λ (xs : List (Option Object)). LeftSoFar c.args.union.now.left v.left c.args.pool.now xs) (sym c.drop_edge.ensures.pool) so_far;
      spare = omega (arith, i.spare, e.spare);
      kept = omega (arith, i.kept, c.drop_edge.ensures.room);
    }

pub returns-clause-left : goal.returns-clause-left
returns-clause-left g c = nothing_more c.loop-target.union.left c.left.new.self.left c.in_default.ensures.none c.in_default.ensures.left

pub returns-clause-dropped : goal.returns-clause-dropped
returns-clause-dropped g c = all_left c.args.union.now.left c.loop-target.union.left c.args.pool.now c.loop-target.pool c.loop-target.invariant.so_far c.in_default.ensures.none
