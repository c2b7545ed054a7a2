use Rattle.std.proofs.Common.{arith, ◌≡◌, ◌≢◌, ◌<◌, ◌≤◌, ◌+◌, ◌*◌, ◌∙◌, ℕ, List, [], None, Option, Some, false, length, refl, sym, ap, subst}
use Rattle.fib_reach.specs.Walks.{IsAcyclic}
use Rattle.fib_union.specs.Unions.{Edge, Union, edge_at, left_at_once, must_retire, owner, stored}
use Rattle.fib_pool.specs.declared.object.Object.{Object}
use Rattle.fib_pool.specs.Objects.{IsLive}
use Rattle.fib_core_board.specs.Boards.{Board, board_stored, edge_of, union_of, word_in}
use Rattle.fib_core_board.specs.May.{MayStore}
use Rattle.fib_plane.specs.Planes.{IsSwept, counted_more, uncounted}
use Rattle.fib_plane.specs.Views.{plane_of}
use Rattle.fib_plane.specs.inner.Joined.{AreDying, IsJoined}
use Rattle.fib_union.proofs.Stores.{some_none}
use Rattle.fib_plane.proofs.Laying.{leads_nowhere, none_less}
use Rattle.fib_plane.proofs.Resting.{live_in, may_put}
use Rattle.fib_plane.proofs.Storing.{count_small, more_dying, owner_is, stored_acyclic, stored_joined}
use Rattle.fib_plane.proofs.Sweeping.{swept_none}
use Rattle.fib_plane.proofs.replace.lay.Goals as goal

pub store-requires-clause-may : goal.store-requires-clause-may
store-requires-clause-may g c =
    let b = c.args.board.now in
    let u = c.args.union.now in
    let xs = c.args.pool.now in
    let o = c.args.cell.object in
    may_put (plane_of b u xs []) o c.args.cell.slot c.args.word c.requires.slot (live_in b u xs c.requires.joined o c.requires.source) c.requires.may (λ e. c.requires.other (sym e ∙ c.requires.empty)) (λ y e. live_in b u xs c.requires.joined y (c.requires.target y e)) c.requires.far

pub count-requires-clause-few : goal.count-requires-clause-few
count-requires-clause-few g c = λ y e. omega (arith, count_small c.args.board.now c.args.union.now c.args.pool.now c.requires.joined y)

pub returns-clause-joined : goal.returns-clause-joined
returns-clause-joined g c =
    let b = c.args.board.now in
    let u = c.args.union.now in
    let xs = c.args.pool.now in
    let k : ℕ = 16 * c.args.cell.object + c.args.cell.slot in
    let inside = live_in b u xs c.requires.joined c.args.cell.object c.requires.source in
    let here : k < length b.union.cells = omega (arith, inside, c.requires.slot, c.requires.joined.long) in
    let source : IsLive xs (owner k) = subst (λ (q : ℕ). IsLive xs q) (sym (owner_is c.args.cell.object c.args.cell.slot c.requires.slot)) c.requires.source in
    let pool : c.count.new.pool ≡ uncounted (left_at_once (union_of b) k) (counted_more (edge_of c.args.word) xs) =
    c.count.ensures ∙ (ap (λ (e : Option ℕ). counted_more e xs) c.target-to.ensures ∙ sym (none_less b k c.requires.empty (counted_more (edge_of c.args.word) xs))) in
    let union = c.set.ensures.union ∙ ap (λ (e : Option ℕ). stored u.workers u.union k e) c.target-to.ensures in
    stored_joined b u xs c.requires.joined k c.args.word here source c.requires.target c.store.new.self c.set.new.self c.count.new.pool c.store.ensures pool union c.set.ensures.workers c.set.ensures.left c.set.ensures.short

pub returns-clause-none : goal.returns-clause-none
returns-clause-none g c =
    let b = c.args.board.now in
    let u = c.args.union.now in
    let xs = c.args.pool.now in
    let k : ℕ = 16 * c.args.cell.object + c.args.cell.slot in
    let inside = live_in b u xs c.requires.joined c.args.cell.object c.requires.source in
    let here : k < length b.union.cells = omega (arith, inside, c.requires.slot, c.requires.joined.long) in
    let source : IsLive xs (owner k) = subst (λ (q : ℕ). IsLive xs q) (sym (owner_is c.args.cell.object c.args.cell.slot c.requires.slot)) c.requires.source in
    let none = more_dying b u xs c.requires.joined k c.args.word here source c.requires.target c.requires.none in
    let mid : c.count.new.pool ≡ counted_more (edge_of c.args.word) xs = c.count.ensures ∙ ap (λ (e : Option ℕ). counted_more e xs) c.target-to.ensures in
    subst (λ (l : List (Option Object)). AreDying l []) (sym mid) none

pub returns-clause-acyclic : goal.returns-clause-acyclic
returns-clause-acyclic g c =
    let b = c.args.board.now in
    let k : ℕ = 16 * c.args.cell.object + c.args.cell.slot in
    let calm = stored_acyclic b c.args.union.now c.args.pool.now c.requires.joined k c.args.word c.requires.acyclic c.requires.far in
    subst (λ (q : Board). IsAcyclic (Edge (union_of q))) (sym c.store.ensures) calm

pub returns-clause-put : goal.returns-clause-put
returns-clause-put g c =
    let b = c.args.board.now in
    let xs = c.args.pool.now in
    let k : ℕ = 16 * c.args.cell.object + c.args.cell.slot in
    let m : Board = board_stored b k c.args.word in
    let ys : List (Option Object) = uncounted (left_at_once (union_of b) k) (counted_more (edge_of c.args.word) xs) in
    let pool : c.count.new.pool ≡ ys =
    c.count.ensures ∙ (ap (λ (e : Option ℕ). counted_more e xs) c.target-to.ensures ∙ sym (none_less b k c.requires.empty (counted_more (edge_of c.args.word) xs))) in
    let swept : IsSwept m c.store.new.self ys c.count.new.pool =
    subst (λ (q : Board). IsSwept m q ys c.count.new.pool) (sym c.store.ensures) (subst (λ (l : List (Option Object)). IsSwept m m ys l) (sym pool) (swept_none m ys)) in (
      λ e. c.requires.other (sym e ∙ c.requires.empty),
      c.requires.far,
      record {
        swept = swept;
        records = refl;
        spare = c.set.ensures.spare;
        spared = λ none. c.set.ensures.spared (ap (λ (v : Union). must_retire v k) c.requires.joined.same ∙ none);
      },
    )

pub set-requires-clause-room : goal.set-requires-clause-room
set-requires-clause-room g c =
    let b = c.args.board.now in
    let k : ℕ = 16 * c.args.cell.object + c.args.cell.slot in
    λ y e must. absurd (some_none y (sym (ap (λ (v : Union). edge_at v.edges k) c.requires.joined.same ∙ leads_nowhere b k c.requires.empty) ∙ e))
