-- A walk over acyclic cells comes to an end before it has more edges than there are objects.
use Rattle.std.proofs.Common.{◌≡◌, ◌≢◌, ℕ, zero, suc, ◌+◌, ◌*◌, ◌-◌, ◌/◌, ◌%◌, ◌^◌, ◌<◌, ◌≤◌, inl, ⊎_elim, Bool, true, false, ◌||◌, eqb, ne_eqb, eqb-true, List, [], ◌∷◌, length, refl, sym, ap, ◌∙◌, subst, arith}
use Rattle.std.specs.Prelude.{slice_index}
use Rattle.std.specs.List.{AllByRecursion, IsDistinct, list_any}
use Rattle.std.proofs.lemmas.Map.Steps.{length-le_from_distinct_below}
use Rattle.fib_addr.specs.Prefixes.{nibble}
use Rattle.fib_reach.specs.Walks.{IsAcyclic, AllDiffer}
use Rattle.fib_reach.proofs.Walking.{acyclic_part}
use Rattle.fib_resolve.specs.declared.types.End.{End}
use Rattle.fib_union.specs.Unions.{owner}
use Rattle.fib_core.specs.Words.{decoded, value_of, is_edge, goes, target}
use Rattle.fib_core.specs.Walk.{object_of, Place, ply, balance, adjacency, ended, root, halved, from_ply, from_balance, adjacency_end, after, end_at, walk, Arrives}
use Rattle.fib_core.specs.Union.{Union, Edge}
use Rattle.fib_core.specs.Trails.{Load, visited, arrive_if, stands, Walked, IsGoing}
use Rattle.fib_core.proofs.Numbers.{goes_of, target_of, owner_of}
use Rattle.fib_core.proofs.Passes.{Along, differs, stays_within}
use Rattle.fib_core.proofs.Walks.{after_ended, arrives_once}
use Rattle.fib_core.proofs.Stands.{stands_moved, ply_moves, balance_moves, going_or_ended, low16}

each_apart : (x : ℕ) (xs : List ℕ) → AllByRecursion (λ y. x ≢ y) xs → AllByRecursion (λ y. eqb x y ≡ false) xs
each_apart x [] h = tt
each_apart x (y ∷ ys) h = (ne_eqb x y h.0, each_apart x ys h.1)

distinct : (xs : List ℕ) → AllDiffer xs → IsDistinct eqb xs
unfolding IsDistinct
distinct [] h = tt
distinct (x ∷ xs) h = (each_apart x xs h.0, distinct xs h.1)

below_at : (n q x : ℕ) (b c : Bool) → eqb q x ≡ b → x < n → (c ≡ true → q < n) → b || c ≡ true → q < n
below_at n q x true c e lt rest h = subst (λ i. i < n) (sym (eqb-true q x e)) lt
below_at n q x false c e lt rest h = rest h

each_below : (n q : ℕ) (xs : List ℕ) → AllByRecursion (λ x. x < n) xs → list_any (eqb q) xs ≡ true → q < n
each_below n q [] h e = absurd (cc)
each_below n q (x ∷ xs) h e = below_at n q x (eqb q x) (list_any (eqb q) xs) refl h.0 (λ t. each_below n q xs h.1 t) e

-- different numbers below n are at most n
pub at_most : (n : ℕ) (xs : List ℕ) → AllDiffer xs → AllByRecursion (λ x. x < n) xs → length xs ≤ n
at_most n xs apart below = length-le_from_distinct_below xs n (distinct xs apart) (λ q e. each_below n q xs below e)

module _ (u : Union) (objects a h : ℕ) (some : 0 < objects) (within : (k w : ℕ) → goes w ≡ true → slice_index u.cells k ≡ w → target w < objects) (calm : IsAcyclic (Edge u)) where
  abbrev pub Current : ℕ → ℕ → Type 0
  Current k w = slice_index u.cells k ≡ w

  full : (t : List Load) → Walked Current t → length (visited t) ≤ objects
  full t w = at_most objects (visited t)
      (differs Current (acyclic_part (Along Current) (Edge u) (λ x y e. (e.0, e.1, e.2, e.3, (e.4, inl e.5))) calm) t w)
      (stays_within Current objects some within t w)

  abbrev pub Ends : ℕ → Place → Type 0
  Ends n q = Arrives u.cells a h q (end_at (after u.cells a h n q))

  ends_ended : (n : ℕ) (e : End) → Ends n (ended e)
  ends_ended n e = (0, ap ended (sym (ap end_at (after_ended u.cells a h n e))))

  moves_on : (n : ℕ) (t : List Load) (k : ℕ) (q : Place) → Walked Current t → owner k ≡ stands t → length (visited t) + suc n ≡ objects + 2
      → (IsGoing q → (is_edge (decoded (slice_index u.cells k)) ≡ true) × (object_of q ≡ value_of (decoded (slice_index u.cells k))))
      → ((t' : List Load) (q' : Place) → Walked Current t' → (IsGoing q' → object_of q' ≡ stands t') → length (visited t') + n ≡ objects + 2 → Ends n q')
      → Ends n q
  moves_on n t k q w at size moves rest = ⊎_elim
      (λ (g : IsGoing q).
      let m = moves g in
      let l : Load = (k, slice_index u.cells k) in
      let is : goes l.1 ≡ true = goes_of l.1 (decoded l.1) refl ∙ m.0 in
      let to : target l.1 ≡ value_of (decoded l.1) = target_of l.1 (decoded l.1) refl in
      let longer : length (visited (l ∷ t)) ≡ suc (length (visited t)) = ap (λ b. length (arrive_if b (target l.1) (visited t))) is in
      rest (l ∷ t) q (at, (λ x. refl), w) (λ x. m.1 ∙ sym (stands_moved l t (value_of (decoded l.1)) is to)) (fits (length (visited (l ∷ t))) (length (visited t)) longer size))
      (λ (x : (e : End) × (q ≡ ended e)). subst (Ends n) (sym x.1) (ends_ended n x.0))
      (going_or_ended q)
    where
      fits : (m v : ℕ) → m ≡ suc v → v + suc n ≡ objects + 2 → m + n ≡ objects + 2
      fits m v e f = omega arith

  walks_on : (n : ℕ) (t : List Load) (q : Place) → Walked Current t → (IsGoing q → object_of q ≡ stands t) → length (visited t) + n ≡ objects + 2 → Ends n q
  walks_on zero t q w at size = let most = full t w in absurd (too_many (length (visited t)) most size)
    where
      too_many : (v : ℕ) → v ≤ objects → v + 0 ≡ objects + 2 → ⊥
      too_many v a b = omega arith
  walks_on (suc n) t (ended e) w at size = ends_ended (suc n) e
  walks_on (suc n) t (adjacency o ws) w at size = (1, ap ended (sym (ap end_at (after_ended u.cells a h n (adjacency_end u.cells o)))))
  walks_on (suc n) t (ply o d) w at size =
      let k : ℕ = 16 * o + nibble a d in
      let r = moves_on n t k (from_ply d (decoded (slice_index u.cells k))) w (owner_of o (nibble a d) (low16 (a / 2 ^ (28 - 4 * d))) ∙ at tt) size (ply_moves d (decoded (slice_index u.cells k))) (λ t' q' w' at' size'. walks_on n t' q' w' at' size') in
      (suc r.0, r.1)
  walks_on (suc n) t (balance o m) w at size =
      let k : ℕ = 16 * o + halved h m % 16 in
      let r = moves_on n t k (from_balance m (decoded (slice_index u.cells k))) w (owner_of o (halved h m % 16) (low16 (halved h m)) ∙ at tt) size (balance_moves m (decoded (slice_index u.cells k))) (λ t' q' w' at' size'. walks_on n t' q' w' at' size') in
      (suc r.0, r.1)

  -- the walk of the definition is where the steps end
  pub walk_ends : length u.cells ≡ 16 * objects → Arrives u.cells a h root (walk u.cells a h)
  unfolding walk
  walk_ends size =
      let n : length u.cells / 16 + 1 ≡ objects + 1 = count (length u.cells) size in
      subst (λ m. Arrives u.cells a h root (end_at (after u.cells a h m root))) (sym n) (walks_on (objects + 1) [] root tt (λ g. refl) (start objects))
    where
      count : (l : ℕ) → l ≡ 16 * objects → l / 16 + 1 ≡ objects + 1
      count l e = omega arith

      start : (o : ℕ) → 1 + (o + 1) ≡ o + 2
      start o = omega arith

  -- and where the steps end is the walk of the definition
  pub walk_is : (e : End) → length u.cells ≡ 16 * objects → Arrives u.cells a h root e → walk u.cells a h ≡ e
  walk_is e size to = let w = walk_ends size in arrives_once u.cells a h w.0 to.0 root (walk u.cells a h) e w.1 to.1
