use Rattle.std.proofs.Common.{arith, ◌≡◌, ◌≤◌, ◌<◌, ◌∙◌, ℕ, List, [], Option, refl, sym, ap, subst, vec_capacity}
use Rattle.fib_base_interned.specs.Interned as interned
use Rattle.fib_union.specs.Unions.{no_edges}
use Rattle.fib_pool.specs.declared.object.Object.{Object}
use Rattle.fib_pool.specs.declared.object.AdjacencyRecord.{AdjacencyRecord}
use Rattle.fib_pool.specs.Objects.{fresh_objects}
use Rattle.fib_core_board.specs.Boards.{Board}
use Rattle.fib_plane.specs.inner.Joined.{IsAtRest}
use Rattle.fib_core_board.specs.Told.{IsBoard}
use Rattle.fib_plane.specs.Planes.{Plane}
use Rattle.fib_plane.specs.Sound.{IsPlane}
use Rattle.fib_plane.specs.Views.{plane_of}
use Rattle.fib_plane.proofs.Beginning.{fresh_plane}
use Rattle.fib_plane.proofs.Resting.{told_of}
use Rattle.fib_plane.proofs.Views.Beginning.{fresh_bare, fresh_recorded, fresh_sound}
use Rattle.fib_plane.proofs.plane.Plane.new.Goals as goal

pub invariant_of-result-2 : goal.invariant_of-result-2
invariant_of-result-2 g c =
    let b = g.B.Board.view c.args.board in
    let u = c.in_ok-union.union in
    let is : c.objects-objects.result ≡ b.objects = c.objects-objects.ensures in
    let few : b.objects < 4294967296 = omega (arith, is, c.objects-objects.type_inv) in
    let room : b.objects ≤ vec_capacity c.in_ok-dying.dying = omega (arith, is, c.in_ok-dying.ensures.exact) in
    let pool : c.in_ok-pool.pool ≡ fresh_objects b.objects = c.in_ok-pool.ensures ∙ ap (λ (n : ℕ). fresh_objects n) is in
    let union = c.in_ok-union.ensures.union ∙ ap (λ (n : ℕ). no_edges n) is in
    let ds = c.in_ok-dying.dying.items in
    let size = vec_capacity c.in_ok-dying.dying in
    let rest : IsAtRest c.new-3.result u c.in_ok-pool.pool c.new-table.result ds size =
    subst (λ (q : Board). IsAtRest q u c.in_ok-pool.pool c.new-table.result ds size) (sym c.new-3.ensures)
    (subst (λ (rows : List (interned.Kept AdjacencyRecord)). IsAtRest b u c.in_ok-pool.pool rows ds size) (sym c.new-table.ensures)
    (subst (λ (xs : List (Option Object)). IsAtRest b u xs [] ds size) (sym pool)
    (subst (λ (es : List ℕ). IsAtRest b u (fresh_objects b.objects) [] es size) (sym c.in_ok-dying.ensures.items)
    (fresh_plane b c.requires few u size union (c.in_ok-union.ensures.workers ∙ c.workers.ensures) c.in_ok-union.ensures.left room)))) in
    rest

pub invariant_of-result : goal.invariant_of-result
invariant_of-result g c =
    let b = g.B.Board.view c.args.board in
    let u = c.in_ok-union.union in
    let is : c.objects-objects.result ≡ b.objects = c.objects-objects.ensures in
    let few : b.objects < 4294967296 = omega (arith, is, c.objects-objects.type_inv) in
    let room : b.objects ≤ vec_capacity c.in_ok-dying.dying = omega (arith, is, c.in_ok-dying.ensures.exact) in
    let pool : c.in_ok-pool.pool ≡ fresh_objects b.objects = c.in_ok-pool.ensures ∙ ap (λ (n : ℕ). fresh_objects n) is in
    let union = c.in_ok-union.ensures.union ∙ ap (λ (n : ℕ). no_edges n) is in
    let ds = c.in_ok-dying.dying.items in
    let size = vec_capacity c.in_ok-dying.dying in
    let rest : IsAtRest c.new-3.result u c.in_ok-pool.pool c.new-table.result ds size =
    subst (λ (q : Board). IsAtRest q u c.in_ok-pool.pool c.new-table.result ds size) (sym c.new-3.ensures)
    (subst (λ (rows : List (interned.Kept AdjacencyRecord)). IsAtRest b u c.in_ok-pool.pool rows ds size) (sym c.new-table.ensures)
    (subst (λ (xs : List (Option Object)). IsAtRest b u xs [] ds size) (sym pool)
    (subst (λ (es : List ℕ). IsAtRest b u (fresh_objects b.objects) [] es size) (sym c.in_ok-dying.ensures.items)
    (fresh_plane b c.requires few u size union (c.in_ok-union.ensures.workers ∙ c.workers.ensures) c.in_ok-union.ensures.left room)))) in
    let p : Plane = plane_of c.new-3.result u c.in_ok-pool.pool c.new-table.result in
    let told : IsPlane p = told_of p c.new-3.result u c.in_ok-pool.pool c.new-table.result ds size refl rest (subst IsBoard (sym c.new-3.ensures) c.tells.ensures)
    c.count.ensures.interned in
    (fresh_sound p b told c.requires c.new-3.ensures, (fresh_recorded p b.objects c.requires.some pool, tt))

pub returns-clause-bare : goal.returns-clause-bare
returns-clause-bare g c =
    let b = g.B.Board.view c.args.board in
    let u = c.in_ok-union.union in
    let is : c.objects-objects.result ≡ b.objects = c.objects-objects.ensures in
    let few : b.objects < 4294967296 = omega (arith, is, c.objects-objects.type_inv) in
    let room : b.objects ≤ vec_capacity c.in_ok-dying.dying = omega (arith, is, c.in_ok-dying.ensures.exact) in
    let pool : c.in_ok-pool.pool ≡ fresh_objects b.objects = c.in_ok-pool.ensures ∙ ap (λ (n : ℕ). fresh_objects n) is in
    let union = c.in_ok-union.ensures.union ∙ ap (λ (n : ℕ). no_edges n) is in
    let ds = c.in_ok-dying.dying.items in
    let size = vec_capacity c.in_ok-dying.dying in
    let rest : IsAtRest c.new-3.result u c.in_ok-pool.pool c.new-table.result ds size =
    subst (λ (q : Board). IsAtRest q u c.in_ok-pool.pool c.new-table.result ds size) (sym c.new-3.ensures)
    (subst (λ (rows : List (interned.Kept AdjacencyRecord)). IsAtRest b u c.in_ok-pool.pool rows ds size) (sym c.new-table.ensures)
    (subst (λ (xs : List (Option Object)). IsAtRest b u xs [] ds size) (sym pool)
    (subst (λ (es : List ℕ). IsAtRest b u (fresh_objects b.objects) [] es size) (sym c.in_ok-dying.ensures.items)
    (fresh_plane b c.requires few u size union (c.in_ok-union.ensures.workers ∙ c.workers.ensures) c.in_ok-union.ensures.left room)))) in
    let p : Plane = plane_of c.new-3.result u c.in_ok-pool.pool c.new-table.result in
    let told : IsPlane p = told_of p c.new-3.result u c.in_ok-pool.pool c.new-table.result ds size refl rest (subst IsBoard (sym c.new-3.ensures) c.tells.ensures)
    c.count.ensures.interned in
    fresh_bare p b told c.requires c.new-3.ensures b.objects pool c.new-table.ensures
