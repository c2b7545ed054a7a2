use Rattle.std.proofs.Common.{arith, ◌≡◌, ◌<◌, ◌≤◌, ◌∙◌, ℕ, List, [], Option, Some, ap, length, length-set, subst, sym}
use Rattle.fib_pool.specs.declared.object.Object.{Object}
use Rattle.fib_pool.specs.Objects.{IsLive}
use Rattle.fib_pool.proofs.Pools.{at_in, live_at}
use Rattle.fib_core_board.specs.Boards.{Board}
use Rattle.fib_core_board.specs.May.{HoldsPromise}
use Rattle.fib_plane.specs.Planes.{IsHeld, IsSwept, uncounted}
use Rattle.fib_plane.specs.inner.Joined.{AreDying, IsJoined}
use Rattle.fib_plane.proofs.Sweeping.{swept_none}
use Rattle.fib_plane.proofs.sweep.leave.Goals as goal

pub drop_edge-requires-clause-live : goal.drop_edge-requires-clause-live
drop_edge-requires-clause-live g c = λ y e. c.requires.live y (c.in-Some.is ∙ e)

pub drop_edge-requires-clause-room : goal.drop_edge-requires-clause-room
drop_edge-requires-clause-room g c =
    let xs = c.args.pool.now in
    let x = live_at xs c.in-Some.target (c.requires.live c.in-Some.target c.in-Some.is) in
    let inside = at_in xs c.in-Some.target x.0 x.1 in
    let none : length c.args.dying.now.items ≡ 0 = ap (λ (l : List ℕ). length l) c.requires.empty in
    omega (arith, inside, none, c.requires.room)

pub sweep-requires-clause-joined : goal.sweep-requires-clause-joined
sweep-requires-clause-joined g c =
    let pool : uncounted c.args.left c.args.pool.now ≡ c.drop_edge.new.pool = ap (λ (e : Option ℕ). uncounted e c.args.pool.now) c.in-Some.is ∙ sym c.drop_edge.ensures.pool in
    subst (λ (l : List (Option Object)). IsJoined c.args.board.now c.args.union.now l) pool c.requires.joined

pub sweep-requires-clause-dying : goal.sweep-requires-clause-dying
sweep-requires-clause-dying g c = c.drop_edge.ensures.dying [] (subst (λ (l : List ℕ). AreDying c.args.pool.now l) (sym c.requires.empty) c.requires.none)

pub sweep-requires-clause-serves : goal.sweep-requires-clause-serves
sweep-requires-clause-serves g c =
    let pool : uncounted c.args.left c.args.pool.now ≡ c.drop_edge.new.pool = ap (λ (e : Option ℕ). uncounted e c.args.pool.now) c.in-Some.is ∙ sym c.drop_edge.ensures.pool in
    subst (λ (l : List (Option Object)). HoldsPromise c.args.board.now (IsHeld c.args.board.now l)) pool c.requires.serves

pub sweep-requires-clause-room : goal.sweep-requires-clause-room
sweep-requires-clause-room g c =
    let size : length c.drop_edge.new.pool ≡ length c.args.pool.now = ap (λ (l : List (Option Object)). length l) c.drop_edge.ensures.pool ∙ length-set c.args.pool.now c.in-Some.target _ in
    omega (arith, size, c.requires.room, c.drop_edge.ensures.room)

pub returns-clause-swept : goal.returns-clause-swept
returns-clause-swept g c =
    let pool : c.drop_edge.new.pool ≡ uncounted c.args.left c.args.pool.now = c.drop_edge.ensures.pool ∙ ap (λ (e : Option ℕ). uncounted e c.args.pool.now) (sym c.in-Some.is) in
    subst (λ (l : List (Option Object)). IsSwept c.args.board.now c.sweep.new.board l c.sweep.new.pool) pool c.sweep.ensures.swept

pub returns-clause-none : goal.returns-clause-none
returns-clause-none g c = subst (λ (l : List ℕ). AreDying c.sweep.new.pool l) c.sweep.ensures.empty c.sweep.ensures.dying
