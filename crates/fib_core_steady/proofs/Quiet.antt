-- With one settled version the promise says that the walk over the cells ends as resolution does, from the root and from where each pass stands.
use Rattle.std.proofs.Common.{◌≡◌, ◌≤◌, ◌<◌, inl, ℕ, zero, suc, List, [], ◌∷◌, Some, length, refl, sym, ap, ◌∙◌, subst, arith}
use Rattle.std.specs.Prelude.{Contains, slice_index, slice_get}
use Rattle.std.proofs.lemmas.Option.{slice_get_within}
use Rattle.fib_resolve.specs.Resolution.{Trip, way, resolve}
use Rattle.fib_resolve.specs.Tables.{IsSound}
use Rattle.fib_resolve.specs.declared.types.End.{End}
use Rattle.fib_resolve.specs.declared.types.Tables.{Tables}
use Rattle.fib_core_results.specs.declared.record.Record.{Record}
use Rattle.fib_core_results.specs.declared.record.Version.{Version}
use Rattle.fib_core_results.specs.Trails.{IsAt}
use Rattle.fib_core_results.specs.Steady.{IsSteady}
use Rattle.fib_core.specs.Walk.{Place, ply, balance, adjacency, ended, root, asked, stepped, after, Arrives, IsFlow}
use Rattle.fib_core.specs.Union.{Union, Lies}
use Rattle.fib_core.specs.Trails.{Load, Walked, place, Follows}
use Rattle.fib_core_steady.specs.Names.{Names}
use Rattle.fib_core_steady.specs.Promise.{IsPromised}
use Rattle.fib_core_steady.specs.Undisturbed.{since, WayAlike, IsOnWay, IsUndisturbed}
use Rattle.fib_core_steady.proofs.Lists.{some_same, place_of, from_place}
use Rattle.fib_core_steady.proofs.Blocks.{below_all}
use Rattle.fib_core_steady.proofs.Standing.{IsPlyOf, next_place, ply_here, flow}
use Rattle.fib_core_steady.proofs.Loading.{by_place}

module _ (J : List Tables) (now : Tables) (here : Contains J now) (sound : (S : Tables) → Contains J S → IsSound S) (n : Names) (u : Union) (ok : IsPromised J n u) (a h : ℕ) (serves : IsFlow a h) (trip : Trip) (alike : WayAlike J a h trip) where
  abbrev pub Stands : Place → Type 0
  Stands p = IsPlyOf n u a p × IsOnWay n.balance u.cells trip p

  one_step : (p : Place) → Stands p → Stands (stepped u.cells a h p)
  one_step (ply o d) s = (
    next_place J n u ok.plies a h (ply o d) (asked a h (ply o d), slice_index u.cells (asked a h (ply o d))) refl (λ going. inl refl) s.0,
    by_place J now here sound a h trip alike n u ok serves.0 (ply o d) tt s.0 tt s.1,
  )
  one_step (balance o m) s = (
    next_place J n u ok.plies a h (balance o m) (asked a h (balance o m), slice_index u.cells (asked a h (balance o m))) refl (λ going. inl refl) s.0,
    by_place J now here sound a h trip alike n u ok serves.0 (balance o m) tt s.0 tt s.1,
  )
  one_step (adjacency o read) s = (tt, s.1)
  one_step (ended e) s = s

  steps : (k : ℕ) (p : Place) → Stands p → Stands (after u.cells a h k p)
  steps zero p s = s
  steps (suc k) p s = steps k (stepped u.cells a h p) (one_step p s)

  -- the walk over the cells as they are, from any place on the way, ends as the way does
  pub ends_alike : (p : Place) (e : End) → Stands p → Arrives u.cells a h p e → e ≡ trip.end
  ends_alike p e s arrives = subst (IsOnWay n.balance u.cells trip) arrives.1 (steps arrives.0 p s).1

  pub root_stands : Stands root
  root_stands = ((inl refl, ok.plies.ways.root.0, below_all a serves.0 ∙ sym ok.plies.ways.root.1), tt)

  pub trail_stands : (t : List Load) → Walked (Lies u) t → Follows a h t → IsOnWay n.balance u.cells trip (place t) → Stands (place t)
  trail_stands t walked follows stands = (ply_here J n u ok.plies a h t walked follows, stands)

only : (S T : Tables) → Contains (S ∷ []) T → S ≡ T
only S T (zero, lt, is) = is
only S T (suc k, lt, is) = absurd (omega (arith, lt))

-- settled cells answer as resolution
pub settled_answers : (S : Tables) → IsSound S → (n : Names) (u : Union) → IsPromised (S ∷ []) n u → (a h : ℕ) → IsFlow a h → (e : End) → Arrives u.cells a h root e → e ≡ resolve S a h
unfolding resolve
settled_answers S sound n u ok a h flow e arrives =
    ends_alike (S ∷ []) S (0, omega arith, refl) (λ T c. subst IsSound (only S T c) sound) n u ok a h flow (way S a h) (λ T c. ap (λ X. way X a h) (sym (only S T c))) root e
    (root_stands (S ∷ []) S (0, omega arith, refl) (λ T c. subst IsSound (only S T c) sound) n u ok a h flow (way S a h) (λ T c. ap (λ X. way X a h) (sym (only S T c)))) arrives

-- the last version alone
pub last_alone : (H : List Tables) (k : ℕ) (S : Tables) → length H ≡ suc k → slice_get H k ≡ Some S → (T : Tables) → Contains (since H k) T → S ≡ T
last_alone H k S long at T c =
    let there = place_of H k T c in
    let low : k ≤ there.0 = there.1 in
    let lt : there.0 < length H = slice_get_within H there.0 T there.2 in
    let same : there.0 ≡ k = omega arith in
    some_same S T (slice_get H k) at (ap (slice_get H) (sym same) ∙ there.2)

-- where lo and the version are one settled version, the walk from where the pass stands ends as resolution does
pub pass_answers : (H : List Tables) (k : ℕ) (S : Tables) → length H ≡ suc k → slice_get H k ≡ Some S → IsSound S → (n : Names) (u : Union) → IsPromised (since H k) n u → (t : List Load) → Walked (Lies u) t → IsUndisturbed H n.balance u.cells k t
    → (a h : ℕ) → Follows a h t → (e : End) → Arrives u.cells a h (place t) e → e ≡ resolve S a h
unfolding resolve
pass_answers H k S long at sound n u ok t walked on_way a h follows e arrives =
    let here : Contains (since H k) S = from_place H k k S (same k) at in
    let each : (T : Tables) → Contains (since H k) T → IsSound T = λ T c. subst IsSound (last_alone H k S long at T c) sound in
    let alike : WayAlike (since H k) a h (way S a h) = λ T c. ap (λ X. way X a h) (sym (last_alone H k S long at T c)) in
    ends_alike (since H k) S here each n u ok a h (flow a h t follows) (way S a h) alike (place t) e
    (trail_stands (since H k) S here each n u ok a h (flow a h t follows) (way S a h) alike t walked follows (on_way a h (way S a h) follows alike)) arrives
  where
    same : (n : ℕ) → n ≤ n
    same n = omega arith

-- a steady result of one settled version is resolution's
pub steady_answers : (H : List Tables) (k : ℕ) (S : Tables) (r : Record) → IsAt k r → slice_get H k ≡ Some S → IsSteady H r → r.end ≡ resolve S r.addr r.hash
unfolding resolve
steady_answers H k S r at held steady = steady (way S r.addr r.hash) (λ j T from to there.
    let low : k ≤ j = subst (λ (v : Version). v.settled ≤ j) at.lo from in
    let high : j ≤ k = subst (λ (v : Version). j ≤ v.applied) at.hi to in
    let same : j ≡ k = omega arith in
    ap (λ X. way X r.addr r.hash) (some_same T S (slice_get H k) (ap (slice_get H) (sym same) ∙ there) held))
