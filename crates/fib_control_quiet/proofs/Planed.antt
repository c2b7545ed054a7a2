-- The same of a plane: its words stand for the tables.
use Rattle.std.proofs.Common.{◌≡◌, ℕ, ◌+◌, ◌-◌, ◌*◌, ◌/◌, ◌<◌, ◌⊎◌, inl, inr, ⊎_elim, true, false, true≢false, eqb-true, List, [], ◌∷◌, length, map, refl, sym, ap, ◌∙◌, subst, arith}
use Rattle.std.specs.Prelude.{Option, Some, None, Contains, ◌%◌, option_map, slice_index}
use native.Mathlib.Decide.{ℕ_discrete}
use mathlib.Core.Logic.{dite}
use Rattle.fib_base_list.proofs.Lists.{either}
use Rattle.fib_addr.specs.Prefixes.{Prefix}
use Rattle.fib_base_interned.specs.Interned.{Kept, kept_of}
use Rattle.fib_base_interned.proofs.Finding.{find_place}
use Rattle.fib_reach.specs.Walks.{IsAcyclic}
use Rattle.fib_reach.proofs.Walking.{acyclic_part}
use Rattle.fib_union.specs.Unions as edges
use Rattle.fib_resolve.specs.Sizes.{size}
use Rattle.fib_resolve.specs.declared.types.Tables.{Tables}
use Rattle.fib_core.specs.declared.word.Word.{Word}
use Rattle.fib_core.specs.declared.word.Word.TheVariants as words
use Rattle.fib_core.specs.StandsFor.{Stands, StandsFor, Thing, IsCounted}
use Rattle.fib_core.specs.Walk.{IsFlow, walk, word_at}
use Rattle.fib_core.proofs.Numbers.{owner_of}
use Rattle.fib_core_stands.proofs.Standing.{walk_resolved}
use Rattle.fib_resolve.specs.Resolution.{resolve}
use Rattle.fib_pool.specs.declared.object.AdjacencyRecord.{AdjacencyRecord}
use Rattle.fib_pool.specs.declared.object.Object.{Object}
use Rattle.fib_pool.specs.Objects.{at, free_in}
use Rattle.fib_pool.proofs.Pools.{live_at, live_in}
use Rattle.fib_core_board.specs.Boards.{union_of, word_in}
use Rattle.fib_plane.specs.Planes.{Plane}
use Rattle.fib_plane.specs.Sound as plane
use Rattle.fib_plane.specs.Sound.{record_word}
use Rattle.fib_plane_view.specs.Promise.{Promise}
use Rattle.fib_plane_view.specs.View.{Edge, Goes, IsLive, View, leads}
use Rattle.fib_plane.specs.Views.{copy_seen, view_of}
use Rattle.fib_plane.proofs.Views.Seeing.{cell_down, cell_is, kept_up, live_down, record_down}
use Rattle.fib_plane.proofs.Views.Storing.{edge_down}
use Rattle.fib_stack.specs.Joined.{Parts, balance_in}
use Rattle.fib_control_quiet.specs.Rest.{IsAtRest, IsSeen}
use Rattle.fib_control_quiet.proofs.Counting.{same_number}
use Rattle.fib_control_quiet.proofs.Numbers.{number}
use Rattle.fib_control_quiet.proofs.Drained.{IsOwned, paths}
use Rattle.fib_control_quiet.proofs.Owning.{owned_by}
use Rattle.fib_control_quiet.proofs.Using.{used_live}
use Rattle.fib_control_quiet.proofs.Standing.{found, ply_at_root, seen_apart, seen_live, seen_word}

none_mapped : {A B : Type 0} (f : A → B) (xs : List A) → map f xs ≡ [] → xs ≡ []
none_mapped f [] e = refl
none_mapped f (x ∷ xs) e = absurd (let l = ap length e in omega (arith, l))

module _ (S : Tables) (rank : Prefix → ℕ) (p : Promise) (q : Plane) (s : Parts) (told : plane.IsPlane q) (seen : IsSeen q) (rest : IsAtRest S rank p (view_of q) s) where
  abbrev v : View
  v = view_of q

  written : (r : AdjacencyRecord) (o k : ℕ) → v.record_of r ≡ Some o → k < 16 → v.cell o k ≡ record_word r k
  written r o k e lt =
      let x = record_down q.records told.interned r o e in
      cell_is q.board o k lt ∙ told.records.words o k x.0 x.1 lt ∙ ap (λ (m : AdjacencyRecord). record_word m k) x.2

  below : (x : ℕ) → IsLive v x → x < q.board.objects
  below x live = let lt = live_in q.objects x (live_down q told x live) in let e = told.size in omega (arith, lt, e)

  -- what says another word than Drop isn't free
  full : (y k x : ℕ) (w : Word) → leads w x → Goes v y k w → IsLive v y
  full y k x w l (inr r) = absurd (let h = subst (λ rs. Contains rs (record { from = y; slot = k; word = w })) rest.calm r in let lt = h.1 in omega (arith, lt))
  full y k x w l (inl e) = by_object (at q.objects y) refl
    where
      by_object : (o : Option Object) → at q.objects y ≡ o → IsLive v y
      by_object (Some o) is = used_live q told seen y o is
      by_object None is = absurd (
          let d = cell_down q.board y k w x l e in
          let drop : word_in q.board (16 * y + k) ≡ words.Drop = told.free (16 * y + k) (ap (at q.objects) (owner_of y k d.0) ∙ is) in
          subst (λ (z : Word). leads z x) (sym d.1 ∙ drop) l)

  acyclic : IsAcyclic (Edge v)
  acyclic = acyclic_part (Edge v) (edges.Edge (union_of q.board)) (edge_down q) told.acyclic

  -- whether an object is owned can be told
  kept_owned : (x : ℕ) (o : Option (Kept AdjacencyRecord)) → kept_of q.records x ≡ o → (x ≡ 0 → ⊥) → v.is_held x ≡ false → IsOwned v x ⊎ (IsOwned v x → ⊥)
  kept_owned x (Some k) is ne not = inl (inr (inr (k.content, ap (option_map (λ (l : Kept AdjacencyRecord). l.id)) (kept_up q.records told.interned x k is) ∙ ap Some (let f = find_place _ q.records k is in eqb-true k.id x f.2))))
  kept_owned x None is ne not = inr (λ o. by_owner o)
    where
      by_owner : IsOwned v x → ⊥
      by_owner (inl e) = ne e
      by_owner (inr (inl h)) = true≢false (sym h ∙ not)
      by_owner (inr (inr r)) = let d = record_down q.records told.interned r.0 x r.1 in (let bad : None ≡ Some d.0 = sym is ∙ d.1 in cc)

  owned_or_not : (x : ℕ) → IsOwned v x ⊎ (IsOwned v x → ⊥)
  owned_or_not x = dite (ℕ_discrete x 0) (λ e. inl (inl e)) (λ ne. ⊎_elim (λ (h : v.is_held x ≡ true). inl (inr (inl h))) (λ (not : v.is_held x ≡ false). kept_owned x (kept_of q.records x) refl ne not) (either (v.is_held x)))

  pub owned : (x : ℕ) → IsLive v x → IsOwned v x
  owned x live = ⊎_elim (λ (o : IsOwned v x). o) (λ (none : IsOwned v x → ⊥). absurd (owned_by S rank p v s rest acyclic q.board.objects below full x live none)) (owned_or_not x)

  abbrev names : Thing → ℕ
  names = number (paths S rank p v s rest.drained) (balance_in s) v S

  objects_are : length q.board.union.cells / 16 ≡ q.board.objects
  objects_are = let l = told.board.long in omega (arith, l)

  stands_for : StandsFor q.board.union.cells names S
  stands_for = record {
    root = ply_at_root S rank p v s rest.drained;
    there = λ t c. (let lt = below (names t) (seen_live S rank p v s rest.drained t c) in let e = objects_are in omega (arith, lt, e));
    apart = seen_apart S rank p v s rest.drained;
    holds = λ t k c lt. sym (cell_is q.board (names t) k lt) ∙ seen_word S rank p v s rest written t k c lt;
    others = λ o lt. by_object o (at q.objects o) refl;
  }
    where
      by_object : (o : ℕ) (x : Option Object) → at q.objects o ≡ x → ((t : Thing) × IsCounted S t × (names t ≡ o)) ⊎ ((k : ℕ) → k < 16 → word_at q.board.union.cells o k ≡ words.Drop)
      by_object o None is = inr (λ k lt. told.free (16 * o + k) (ap (at q.objects) (owner_of o k lt) ∙ is))
      by_object o (Some x) is = inl (found S rank p v s rest.drained o (owned o (used_live q told seen o x is)))

  pub stands_at_rest : Stands q.board.union S
  stands_at_rest = record { names = names; prefixes = rest.drained.entries_are; quiet = none_mapped copy_seen q.board.union.retired rest.calm; stands = stands_for }

  -- as many are used as the size says
  pub used_at_rest : length q.objects - free_in q.objects ≡ size S
  used_at_rest = same_number S names q.objects (seen_apart S rank p v s rest.drained)
      (λ t c. live_at q.objects (names t) (live_down q told (names t) (seen_live S rank p v s rest.drained t c)))
      (λ o x is. found S rank p v s rest.drained o (owned o (used_live q told seen o x is)))

  -- each walk over the cells is resolution
  pub walks_at_rest : (a h : ℕ) → IsFlow a h → walk q.board.union.cells a h ≡ resolve S a h
  walks_at_rest = walk_resolved q.board.union q.board.objects names S stands_for rest.drained.sound rest.drained.entries_are told.board.long
