-- A mark changes only on a cycle through a changed entry; a part that is closed under edges decides its own marks.
use Rattle.std.proofs.Common.{arith, ◌≡◌, ℕ, zero, suc, Bool, true, refl, sym, subst, ◌↔◌}
use Rattle.std.specs.Prelude.{Contains}
use Rattle.fib_base_list.proofs.Lists.{Contains-flat_map}
use Rattle.fib_reach.specs.Walks.{Walk, Leads, Reaches, Next}
use Rattle.fib_reach.proofs.Walking.{edge_then, then_reaches, reaches_leads}
use Rattle.fib_addr.specs.Prefixes.{Prefix, host}
use Rattle.fib_resolve.specs.Pairs.{chosen}
use Rattle.fib_resolve.specs.Loops.{targets, kind_targets}
use Rattle.fib_resolve.specs.declared.types.Path.{Path}
use Rattle.fib_resolve.specs.declared.types.PathKind.TheVariants as kinds
use Rattle.fib_resolve.specs.declared.types.Tables.{Tables}
use Rattle.fib_resolve_changes.specs.Causes.{IsThrough, Within}

-- a recursive path is an edge
pub path_edge : (S : Tables) (e : Prefix) (p : Path) (a : ℕ) → Contains (chosen S e) p → p.kind ≡ kinds.Recursive a → Next (targets S) e (host a)
unfolding targets
path_edge S e p a c is = Contains-flat_map (λ q. kind_targets S e q.kind) (chosen S e) p (host a) c (subst (λ k. Contains (kind_targets S e k) (host a)) (sym is) (0, omega arith, refl))

-- the changed entry lies on a cycle, and so does this one, with it
pub through_cycle : (S : Tables) (changed : Prefix → Bool) (e : Prefix) (a : ℕ) (t : IsThrough S changed e a) → Next (targets S) e (host a)
    → Reaches (Next (targets S)) t.at t.at × Reaches (Next (targets S)) e t.at × Reaches (Next (targets S)) t.at e
through_cycle S changed e a t edge =
    let E = Next (targets S) in
    let on : Reaches (Next (targets S)) e t.at = edge_then (Next (targets S)) e (host a) t.at edge t.there in
    (then_reaches (Next (targets S)) t.at e t.at (reaches_leads (Next (targets S)) t.at e t.back) on, on, t.back)

-- who has no dependant lies on no cycle
pub last_edge : {A : Type 0} (E : A → A → Type 0) (n : ℕ) (x y : A) → Walk E (suc n) x y → (z : A) × E z y
last_edge E zero x y w = (x, subst (E x) w.2 w.1)
last_edge E (suc n) x y w = last_edge E n w.0 y w.2

pub no_dependant : (S : Tables) (x : Prefix) → ((d : Prefix) → Contains (targets S d) x → ⊥) → Reaches (Next (targets S)) x x → ⊥
no_dependant S x none r = let l = last_edge (Next (targets S)) r.0 x x r.1 in none l.0 l.1

module _ {A : Type 0} (E : A → A → Type 0) (part : A → Bool) (closed : (x y : A) → part x ≡ true → E x y → part y ≡ true) where
  stays_in : (n : ℕ) (x y : A) → part x ≡ true → Walk E n x y → Walk (Within part E) n x y
  stays_in zero x y is w = w
  stays_in (suc n) x y is w = (w.0, (is, w.1), stays_in n w.0 y (closed x w.0 is w.1) w.2)

  leaves_out : (n : ℕ) (x y : A) → Walk (Within part E) n x y → Walk E n x y
  leaves_out zero x y w = w
  leaves_out (suc n) x y w = (w.0, w.1.1, leaves_out n w.0 y w.2)

  -- a part that is closed under edges decides which of its edges lie on cycles
  pub closed_decides : (x y : A) → part x ≡ true → Leads E x y ↔ Leads (Within part E) x y
  closed_decides x y is = (λ l. (l.0, stays_in l.0 x y is l.1), λ l. (l.0, leaves_out l.0 x y l.1))

pub part_decides : (S : Tables) (part : Prefix → Bool) → ((x y : Prefix) → part x ≡ true → Contains (targets S x) y → part y ≡ true) → (x y : Prefix) → part x ≡ true → Leads (Next (targets S)) x y ↔ Leads (Within part (Next (targets S))) x y
part_decides S part closed x y is = closed_decides (Next (targets S)) part closed x y is
