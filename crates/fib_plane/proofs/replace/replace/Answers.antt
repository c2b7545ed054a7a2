use Rattle.std.proofs.Common.{arith, ◌≡◌, ◌<◌, ◌+◌, ◌*◌, ◌∙◌, ℕ, List, [], Option, Some, sym, ap, subst, length}
use Rattle.fib_reach.specs.Walks.{IsAcyclic}
use Rattle.fib_union.specs.Unions.{Edge, Union, owner, stored, left_at_once, must_retire}
use Rattle.fib_pool.specs.declared.object.Object.{Object}
use Rattle.fib_pool.specs.Objects.{IsLive}
use Rattle.fib_core_board.specs.Boards.{Board, edge_of, board_stored, union_of}
use Rattle.fib_plane.specs.Planes.{IsHeld, uncounted, counted_more}
use Rattle.fib_core_board.specs.May.{HoldsPromise}
use Rattle.fib_plane.specs.inner.Joined.{AreDying}
use Rattle.fib_core_board.proofs.Serving.{serves_held}
use Rattle.fib_plane.proofs.Storing.{more, count_small, left_live, stored_joined, more_dying, stored_acyclic, swept_acyclic, owner_is, hold_stored}
use Rattle.fib_plane.proofs.replace.replace.Goals as goal

pub count-requires-clause-few : goal.count-requires-clause-few
count-requires-clause-few g c = λ y e. omega (arith, count_small c.args.board.now c.args.union.now c.args.pool.now c.requires.joined y)

pub leave-requires-clause-live : goal.leave-requires-clause-live
leave-requires-clause-live g c = λ y e.
    let b = c.args.board.now in
    let k : ℕ = 16 * c.args.cell.object + c.args.cell.slot in
    let here : k < length b.union.cells = omega (arith, c.requires.may.place.inside, c.requires.joined.long) in
    let source : IsLive c.args.pool.now (owner k) = subst (λ (q : ℕ). IsLive c.args.pool.now q) (sym (owner_is c.args.cell.object c.args.cell.slot c.requires.slot)) c.requires.source in
    let at : left_at_once (union_of b) k ≡ Some y = ap (λ (v : Union). left_at_once v k) (sym c.requires.joined.same) ∙ (sym c.set-left.ensures.left_at_once ∙ e) in
    rw (c.count.ensures, c.target-to.ensures) (left_live b c.args.union.now c.args.pool.now c.requires.joined k c.args.word here source c.requires.target y at)

pub leave-requires-clause-joined : goal.leave-requires-clause-joined
leave-requires-clause-joined g c =
    let b = c.args.board.now in
    let u = c.args.union.now in
    let k : ℕ = 16 * c.args.cell.object + c.args.cell.slot in
    let here : k < length b.union.cells = omega (arith, c.requires.may.place.inside, c.requires.joined.long) in
    let source : IsLive c.args.pool.now (owner k) = subst (λ (q : ℕ). IsLive c.args.pool.now q) (sym (owner_is c.args.cell.object c.args.cell.slot c.requires.slot)) c.requires.source in
    let left : c.set-left.result ≡ left_at_once (union_of b) k = c.set-left.ensures.left_at_once ∙ ap (λ (v : Union). left_at_once v k) c.requires.joined.same in
    let pool : uncounted c.set-left.result c.count.new.pool ≡ uncounted (left_at_once (union_of b) k) (counted_more (edge_of c.args.word) c.args.pool.now) =
    ap (λ (e : Option ℕ). uncounted e c.count.new.pool) left ∙ ap (λ (l : List (Option Object)). uncounted (left_at_once (union_of b) k) l) (c.count.ensures ∙ ap (λ (e : Option ℕ). counted_more e c.args.pool.now) c.target-to.ensures) in
    let union = c.set-left.ensures.union ∙ ap (λ (e : Option ℕ). stored u.workers u.union k e) c.target-to.ensures in
    stored_joined b u c.args.pool.now c.requires.joined k c.args.word here source c.requires.target c.store.new.self c.set-left.new.self (uncounted c.set-left.result c.count.new.pool) c.store.ensures pool union c.set-left.ensures.workers c.set-left.ensures.left c.set-left.ensures.short

pub leave-requires-clause-none : goal.leave-requires-clause-none
leave-requires-clause-none g c =
    let b = c.args.board.now in
    let k : ℕ = 16 * c.args.cell.object + c.args.cell.slot in
    let here : k < length b.union.cells = omega (arith, c.requires.may.place.inside, c.requires.joined.long) in
    let source : IsLive c.args.pool.now (owner k) = subst (λ (q : ℕ). IsLive c.args.pool.now q) (sym (owner_is c.args.cell.object c.args.cell.slot c.requires.slot)) c.requires.source in
    let none = more_dying b c.args.union.now c.args.pool.now c.requires.joined k c.args.word here source c.requires.target c.requires.none in
    let mid : c.count.new.pool ≡ counted_more (edge_of c.args.word) c.args.pool.now = c.count.ensures ∙ ap (λ (e : Option ℕ). counted_more e c.args.pool.now) c.target-to.ensures in
    subst (λ (l : List (Option Object)). AreDying l []) (sym mid) none

pub leave-requires-clause-room : goal.leave-requires-clause-room
leave-requires-clause-room g c =
    let b = c.args.board.now in
    let k : ℕ = 16 * c.args.cell.object + c.args.cell.slot in
    let here : k < length b.union.cells = omega (arith, c.requires.may.place.inside, c.requires.joined.long) in
    let source : IsLive c.args.pool.now (owner k) = subst (λ (q : ℕ). IsLive c.args.pool.now q) (sym (owner_is c.args.cell.object c.args.cell.slot c.requires.slot)) c.requires.source in
    let size = (more b c.args.union.now c.args.pool.now c.requires.joined k c.args.word here source c.requires.target (edge_of c.args.word) c.requires.target).2 in
    let mid : length c.count.new.pool ≡ length (counted_more (edge_of c.args.word) c.args.pool.now) = ap (λ (l : List (Option Object)). length l) (c.count.ensures ∙ ap (λ (e : Option ℕ). counted_more e c.args.pool.now) c.target-to.ensures) in
    omega (arith, size, mid, c.requires.joined.size, c.requires.roomy)

pub returns-clause-acyclic : goal.returns-clause-acyclic
returns-clause-acyclic g c =
    let b = c.args.board.now in
    let k : ℕ = 16 * c.args.cell.object + c.args.cell.slot in
    let own = owner_is c.args.cell.object c.args.cell.slot c.requires.slot in
    let calm = stored_acyclic b c.args.union.now c.args.pool.now c.requires.joined k c.args.word c.requires.acyclic (λ q. (c.requires.may.place.target q.0 q.1).1 q.2) in
    swept_acyclic c.store.new.self c.leave.new.board (uncounted c.set-left.result c.count.new.pool) c.leave.new.pool c.leave.ensures.swept (subst (λ (q : Board). IsAcyclic (Edge (union_of q))) (sym c.store.ensures) calm)

pub leave-requires-clause-serves : goal.leave-requires-clause-serves
leave-requires-clause-serves g c =
    let b = c.args.board.now in
    let u = c.args.union.now in
    let xs = c.args.pool.now in
    let k : ℕ = 16 * c.args.cell.object + c.args.cell.slot in
    let n = c.store.new.self in
    let here : k < length b.union.cells = omega (arith, c.requires.may.place.inside, c.requires.joined.long) in
    let source : IsLive xs (owner k) = subst (λ (q : ℕ). IsLive xs q) (sym (owner_is c.args.cell.object c.args.cell.slot c.requires.slot)) c.requires.source in
    let left : c.set-left.result ≡ left_at_once (union_of b) k = c.set-left.ensures.left_at_once ∙ ap (λ (v : Union). left_at_once v k) c.requires.joined.same in
    let pool : uncounted c.set-left.result c.count.new.pool ≡ uncounted (left_at_once (union_of b) k) (counted_more (edge_of c.args.word) xs) =
    ap (λ (e : Option ℕ). uncounted e c.count.new.pool) left ∙ ap (λ (l : List (Option Object)). uncounted (left_at_once (union_of b) k) l) (c.count.ensures ∙ ap (λ (e : Option ℕ). counted_more e xs) c.target-to.ensures) in
    let ys : List (Option Object) = uncounted (left_at_once (union_of b) k) (counted_more (edge_of c.args.word) xs) in
    let m : Board = board_stored b k c.args.word in
    let after = serves_held m (IsHeld b xs) (IsHeld m ys) (hold_stored b u xs c.requires.joined k c.args.word here source c.requires.target) c.requires.serves in
    subst (λ (l : List (Option Object)). HoldsPromise n (IsHeld n l)) (sym pool) (subst (λ (q : Board). HoldsPromise q (IsHeld q ys)) (sym c.store.ensures) after)

pub returns-clause-spared : goal.returns-clause-spared
returns-clause-spared g c = λ none.
    let k : ℕ = 16 * c.args.cell.object + c.args.cell.slot in
    let more = c.set-left.ensures.spared (ap (λ (v : Union). must_retire v k) c.requires.joined.same ∙ none) in
    omega (arith, more, c.leave.ensures.spare)
