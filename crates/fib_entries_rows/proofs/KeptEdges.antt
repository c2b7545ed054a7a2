-- Edges by places.
use Rattle.std.proofs.Common.{arith, ◌≡◌, ℕ, zero, suc, ◌<◌, List, [], ◌∷◌, length, Some, refl, sym, ◌∙◌, ap, subst, slice_get}
use Rattle.std.specs.Prelude.{Contains}
use Rattle.std.specs.List.{AllByRecursion}
use Rattle.std.proofs.lemmas.List.Elements.{All-from_recursion}
use Rattle.std.proofs.lemmas.Option.{slice_get_within}
use Rattle.fib_reach.specs.Walks.{Walk, Among}
use Rattle.fib_reach.proofs.Walking.{edge_then}
use Rattle.fib_loops.specs.Loops.{AreEdges, IsLooped}
use Rattle.fib_addr.specs.Prefixes.{Prefix}
use Rattle.fib_resolve.specs.Loops.{Kept}
use Rattle.fib_resolve.specs.Tables.{IsSound}
use Rattle.fib_resolve.specs.declared.types.Tables.{Tables}
use Rattle.fib_resolve.proofs.KeptEdges.{kept_acyclic}
use Rattle.fib_resolve_changes.proofs.Ranking.{wake_edge}
use Rattle.fib_entries_rows.specs.inner.Building.{AreKeptEdges}

some_is : {X : Type 0} (x y : X) → Some x ≡ Some y → x ≡ y
some_is x y e = (cc)

each_in : {X : Type 0} (P : X → Type 0) (xs : List X) → ((x : X) → Contains xs x → P x) → AllByRecursion P xs
each_in P [] h = tt
each_in P (x ∷ xs) h = (h x (0, omega arith, refl), each_in P xs (λ y c. h y (suc c.0, omega (arith, c.1), c.2)))

-- they join places
pub edges_join : (S : Tables) (order : List Prefix) (edges : List (ℕ × ℕ)) → AreKeptEdges S order (length order) edges → AreEdges (length order) edges
edges_join S order edges h = All-from_recursion (λ e. (e.0 < length order) × (e.1 < length order)) edges (each_in (λ e. (e.0 < length order) × (e.1 < length order)) edges
    (λ d c. let k = (h d).0 c in (k.0, slice_get_within order d.1 k.1.1 k.1.3)))

-- a walk by places is one of entries
walk_of : (S : Tables) (order : List Prefix) (edges : List (ℕ × ℕ)) → AreKeptEdges S order (length order) edges → (n x y : ℕ) → Walk (Among edges) n x y → (e t : Prefix) → slice_get order x ≡ Some e → slice_get order y ≡ Some t → Walk (Kept S) n e t
walk_of S order edges h zero x y w e t a b = some_is e t (sym a ∙ ap (slice_get order) w ∙ b)
walk_of S order edges h (suc n) x y w e t a b =
    let k = (h (x, w.0)).0 w.1 in
    let same = some_is k.1.0 e (sym k.1.2 ∙ a) in
    (k.1.1, subst (λ z. Kept S z k.1.1) same (wake_edge S k.1.0 k.1.1 k.1.4), walk_of S order edges h n w.0 y w.2 k.1.1 t k.1.3 b)

-- none lies on a cycle
pub none_looped : (S : Tables) (order : List Prefix) (edges : List (ℕ × ℕ)) → IsSound S → AreKeptEdges S order (length order) edges → (d : ℕ × ℕ) → Contains edges d → IsLooped edges d → ⊥
none_looped S order edges sound h d c l =
    let k = (h d).0 c in
    let back = walk_of S order edges h l.0 d.1 d.0 l.1 k.1.1 k.1.0 k.1.3 k.1.2 in
    kept_acyclic S sound k.1.0 (edge_then (Kept S) k.1.0 k.1.1 k.1.0 (wake_edge S k.1.0 k.1.1 k.1.4) (l.0, back))
