-- A pass walks along usable edges, and visits no object twice.
use Rattle.std.proofs.Common.{◌≡◌, ℕ, ◌<◌, ◌⊎◌, inl, inr, ⊎_elim, Bool, true, false, List, [], ◌∷◌, refl, sym, subst}
use Rattle.std.specs.Prelude.{slice_index}
use Rattle.std.specs.List.{AllByRecursion}
use Rattle.fib_reach.specs.Walks.{Leads, IsAcyclic, AllDiffer}
use Rattle.fib_reach.proofs.Walking.{leads_then, edge_then, edge_leads, leads_self, acyclic_part}
use Rattle.fib_union.specs.Unions.{owner}
use Rattle.fib_core.specs.Words.{goes, target}
use Rattle.fib_core.specs.Union.{Union, Edge, Usable}
use Rattle.fib_core.specs.Trails.{Load, Walked, visited, stands, arrive_if}
use Rattle.fib_core.proofs.Unions.{usable_lies}

-- the edges of a walk between objects
abbrev pub Along : (ℕ → ℕ → Type 0) → ℕ → ℕ → Type 0
Along Ok x y = (k : ℕ) × (w : ℕ) × (owner k ≡ x) × (target w ≡ y) × (goes w ≡ true) × Ok k w

module _ {P Q : ℕ → Type 0} (f : (x : ℕ) → P x → Q x) where
  each-map : (xs : List ℕ) → AllByRecursion P xs → AllByRecursion Q xs
  each-map [] h = tt
  each-map (x ∷ xs) h = (f x h.0, each-map xs h.1)

module _ (Ok : ℕ → ℕ → Type 0) where
  visited_leads : (t : List Load) → Walked Ok t → AllByRecursion (λ v. Leads (Along Ok) v (stands t)) (visited t)
  visited_leads [] w = (leads_self (Along Ok) 0, tt)
  visited_leads (l ∷ t) w = by_cases (goes l.1) refl (visited_leads t w.2)
    where
      by_cases : (b : Bool) → goes l.1 ≡ b → AllByRecursion (λ v. Leads (Along Ok) v (stands t)) (visited t) → AllByRecursion (λ v. Leads (Along Ok) v (slice_index (arrive_if b (target l.1) (visited t)) 0)) (arrive_if b (target l.1) (visited t))
      by_cases true is rest = (leads_self (Along Ok) (target l.1), each-map (λ v lead. leads_then (Along Ok) v (stands t) (target l.1) lead (edge_leads (Along Ok) (stands t) (target l.1) (l.0, l.1, w.0, refl, is, w.1 is))) (visited t) rest)
      by_cases false is rest = rest

  pub differs : IsAcyclic (Along Ok) → (t : List Load) → Walked Ok t → AllDiffer (visited t)
  differs calm [] w = (tt, tt)
  differs calm (l ∷ t) w = by_cases (goes l.1) refl (differs calm t w.2)
    where
      by_cases : (b : Bool) → goes l.1 ≡ b → AllDiffer (visited t) → AllDiffer (arrive_if b (target l.1) (visited t))
      by_cases true is rest = (each-map (λ v lead same. calm (stands t) (edge_then (Along Ok) (stands t) (target l.1) (stands t) (l.0, l.1, w.0, refl, is, w.1 is) (subst (λ a. Leads (Along Ok) a (stands t)) (sym same) lead))) (visited t) (visited_leads t w.2), rest)
      by_cases false is rest = rest

  pub stays_within : (objects : ℕ) → 0 < objects → ((k w : ℕ) → goes w ≡ true → Ok k w → target w < objects) → (t : List Load) → Walked Ok t → AllByRecursion (λ x. x < objects) (visited t)
  stays_within objects some inside [] w = (some, tt)
  stays_within objects some inside (l ∷ t) w = by_cases (goes l.1) refl (stays_within objects some inside t w.2)
    where
      by_cases : (b : Bool) → goes l.1 ≡ b → AllByRecursion (λ x. x < objects) (visited t) → AllByRecursion (λ x. x < objects) (arrive_if b (target l.1) (visited t))
      by_cases true is rest = (inside l.0 l.1 is (w.1 is), rest)
      by_cases false is rest = rest

  -- where the pass stands, an edge led, or it is the start
  pub stands_at : (t : List Load) → Walked Ok t → (stands t ≡ 0) ⊎ ((x : ℕ) × Along Ok x (stands t))
  stands_at [] w = inl refl
  stands_at (l ∷ t) w = by_cases (goes l.1) refl (stands_at t w.2)
    where
      by_cases : (b : Bool) → goes l.1 ≡ b → (stands t ≡ 0) ⊎ ((x : ℕ) × Along Ok x (stands t)) → (slice_index (arrive_if b (target l.1) (visited t)) 0 ≡ 0) ⊎ ((x : ℕ) × Along Ok x (slice_index (arrive_if b (target l.1) (visited t)) 0))
      by_cases true is rest = inr (stands t, (l.0, l.1, w.0, refl, is, w.1 is))
      by_cases false is rest = rest

  -- each object that it has visited is the start, or an edge leads there
  pub each_reached : (t : List Load) → Walked Ok t → AllByRecursion (λ y. (y ≡ 0) ⊎ ((x : ℕ) × Along Ok x y)) (visited t)
  each_reached [] w = (inl refl, tt)
  each_reached (l ∷ t) w = by_cases (goes l.1) refl (each_reached t w.2)
    where
      by_cases : (b : Bool) → goes l.1 ≡ b → AllByRecursion (λ y. (y ≡ 0) ⊎ ((x : ℕ) × Along Ok x y)) (visited t)
          → AllByRecursion (λ y. (y ≡ 0) ⊎ ((x : ℕ) × Along Ok x y)) (arrive_if b (target l.1) (visited t))
      by_cases true is rest = (inr (stands t, (l.0, l.1, w.0, refl, is, w.1 is)), rest)
      by_cases false is rest = rest

module _ (Ok Ok' : ℕ → ℕ → Type 0) where
  -- it is enough that the edges out of object 0 and of objects with an edge into them stay usable
  pub walked-map : ((k w : ℕ) → goes w ≡ true → (owner k ≡ 0) ⊎ ((x : ℕ) × Along Ok x (owner k)) → Ok k w → Ok' k w) → (t : List Load) → Walked Ok t → Walked Ok' t
  walked-map f [] w = tt
  walked-map f (l ∷ t) w = (w.0, (λ is. f l.0 l.1 is (subst (λ o. (o ≡ 0) ⊎ ((x : ℕ) × Along Ok x o)) (sym w.0) (stands_at Ok t w.2)) (w.1 is)), walked-map f t w.2)

along_edge : (u : Union) (n p x y : ℕ) → Along (Usable u n p) x y → Edge u x y
along_edge u n p x y (k, w, from, to, going, ok) = (k, w, from, to, (going, usable_lies u n p k w ok))

-- no object is visited twice
pub visits_once : (u : Union) (n p : ℕ) (t : List Load) → IsAcyclic (Edge u) → Walked (Usable u n p) t → AllDiffer (visited t)
visits_once u n p t calm w = differs (Usable u n p) (acyclic_part (Along (Usable u n p)) (Edge u) (along_edge u n p) calm) t w

-- each visited object is object 0, or an edge of the union leads there
pub visits_live : (u : Union) (n p : ℕ) (t : List Load) → Walked (Usable u n p) t → AllByRecursion (λ y. (y ≡ 0) ⊎ ((x : ℕ) × Edge u x y)) (visited t)
visits_live u n p t w = each-map
    (λ y (r : (y ≡ 0) ⊎ ((x : ℕ) × Along (Usable u n p) x y)). ⊎_elim
    (λ (z : y ≡ 0). inl z)
    (λ (e : (x : ℕ) × Along (Usable u n p) x y). inr (e.0, along_edge u n p e.0 y e.1))
    r)
    (visited t) (each_reached (Usable u n p) t w)
