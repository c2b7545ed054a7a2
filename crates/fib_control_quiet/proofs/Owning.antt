-- At rest each object in use is the root, held, or a record's.
use Rattle.std.proofs.Common.{◌≡◌, ℕ, zero, suc, ◌+◌, ◌<◌, ◌⊎◌, inl, inr, Bool, true, false, List, refl, sym, ◌∙◌, subst, arith}
use Rattle.std.specs.Prelude.{Option, Some, None, Contains}
use Rattle.std.specs.List.{range_with_len}
use Rattle.std.proofs.lemmas.List.FromFn.{get_or-range_with_len, length-range_with_len}
use Rattle.fib_addr.specs.Prefixes.{Prefix}
use Rattle.fib_reach.specs.Walks.{IsAcyclic, Walk}
use Rattle.fib_reach.proofs.Walking.{walk_short}
use Rattle.fib_resolve.specs.Aims.{aim}
use Rattle.fib_resolve.specs.declared.aims.Aim.{Aim}
use Rattle.fib_resolve.specs.declared.aims.Aim.TheVariants as aims
use Rattle.fib_resolve.specs.declared.types.End.TheVariants as answers
use Rattle.fib_resolve.specs.declared.types.Tables.{Tables}
use Rattle.fib_core.specs.declared.word.Word.{Word}
use Rattle.fib_core.specs.declared.word.Word.TheVariants as words
use Rattle.fib_core_promise.specs.Stack.{Objects, aim_word, to_adjacency, to_balance}
use Rattle.fib_plane_view.specs.Promise.{Promise}
use Rattle.fib_plane_view.specs.View.{Edge, Goes, IsLive, IsRecord, Retired, View, leads}
use Rattle.fib_ply.specs.Plies.{Has, Mixed}
use Rattle.fib_ply.specs.Served.{Paths}
use Rattle.fib_ply.specs.Fitting.{IsFilled}
use Rattle.fib_ply.proofs.Laws.{held_prefix}
use Rattle.fib_core_promise.specs.Matches.{look_of}
use Rattle.fib_stack.specs.Buckets.{recorded}
use Rattle.fib_stack.specs.Joined.{Parts, balance_in, in_change, table_of}
use Rattle.fib_control_quiet.specs.Rest.{IsAtRest}
use Rattle.fib_control_quiet.proofs.Drained.{IsOwned, paths, placed}
use Rattle.fib_control_quiet.proofs.Ends.{stands}
use Rattle.fib_control_quiet.proofs.Plying.{leaf_balance}

module _ (S : Tables) (rank : Prefix → ℕ) (p : Promise) (v : View) (s : Parts) (rest : IsAtRest S rank p v s) where
  abbrev n : Paths
  n = paths S rank p v s rest.drained

  current : (y k : ℕ) (w : Word) → Goes v y k w → v.cell y k ≡ w
  current y k w (inl c) = c
  current y k w (inr r) = absurd (let h = subst (λ (rs : List Retired). Contains rs (record { from = y; slot = k; word = w })) rest.calm r in let lt = h.1 in omega (arith, lt))

  -- a ply of the table
  abbrev InTable : ℕ → Type 0
  InTable y = (n.is_in y ≡ true) × ((y ≡ 0) ⊎ (0 < n.depth y))

  held_owned : (x : ℕ) → (x ≡ 0) ⊎ (v.is_held x ≡ true) → IsOwned v x
  held_owned x (inl e) = inl e
  held_owned x (inr h) = inr (inl h)

  from_ply : (y k x : ℕ) (w : Word) → InTable y → k < 16 → v.cell y k ≡ w → leads w x → IsOwned v x
  from_ply y k x w is lt at lead = by_word w at (subst (λ (z : Word). IsFilled (Mixed (look_of (balance_in s)) (look_of (balance_in s)) 0) (Has rest.drained.joined.table.0) n y k z) at (rest.drained.joined.table.2.at.fits.cells y k is.0 lt)) lead
    where
      by_word : (z : Word) → v.cell y k ≡ z → IsFilled (Mixed (look_of (balance_in s)) (look_of (balance_in s)) 0) (Has rest.drained.joined.table.0) n y k z → leads z x → IsOwned v x
      by_word (words.ToPly c) at f l = subst (λ (i : ℕ). IsOwned v i) l (held_owned c (rest.drained.joined.table.2.at.fits.held c f.0).1)
      by_word (words.ToBalance o) at f l =
          let e = leaf_balance S (in_change p) (table_of s) v rest.drained.joined.table rest.drained.rows_are rest.drained.entries_are (held_prefix s.rows rest.drained.rows_are) (placed S rank p v s rest.drained) y k o is.0 is.1 lt at in
          subst (λ (i : ℕ). IsOwned v i) l (inr (inl (rest.drained.joined.laid.balances e.0 o e.1).0))
      by_word words.Drop at f l = absurd l
      by_word words.Receive at f l = absurd l
      by_word (words.Glean i) at f l = absurd l
      by_word (words.ToAdjacency o) at f l = absurd f
      by_word (words.Plain i) at f l = absurd l

  abbrev objects : Objects
  objects = record { balance = balance_in s; record_of = recorded v }

  to_held : (t : Prefix) (x : ℕ) (o : Option ℕ) → balance_in s t ≡ o → leads (to_balance o) x → IsOwned v x
  to_held t x None at l = absurd l
  to_held t x (Some o) at l = subst (λ (i : ℕ). IsOwned v i) l (inr (inl (rest.drained.joined.laid.balances t o at).0))

  to_record : (i a : ℕ) (m : Option ℕ) (x : ℕ) (o : Option ℕ) → recorded v (answers.Hop i a m) ≡ o → leads (to_adjacency o) x → IsOwned v x
  to_record i a m x None at l = absurd l
  to_record i a m x (Some o) at l = subst (λ (y : ℕ). IsOwned v y) l (inr (inr (record { interface = i; next_hop = a; mac = m }, at)))

  aim_owned : (m : Aim) (x : ℕ) → leads (aim_word objects m) x → IsOwned v x
  aim_owned (aims.Ends answers.Drop) x l = absurd l
  aim_owned (aims.Ends answers.Receive) x l = absurd l
  aim_owned (aims.Ends (answers.Glean i)) x l = absurd l
  aim_owned (aims.Ends (answers.Hop i a m)) x l = to_record i a m x (recorded v (answers.Hop i a m)) refl l
  aim_owned (aims.On t) x l = to_held t x (balance_in s t) refl l

  from_balance : (e : Prefix) (y k x : ℕ) (w : Word) → balance_in s e ≡ Some y → k < 16 → v.cell y k ≡ w → leads w x → IsOwned v x
  from_balance e y k x w at lt is lead = aim_owned (aim S e k) x (subst (λ (z : Word). leads z x) (sym is ∙ (stands S rank p v s rest n).filled e y k at lt) lead)

  edge_owned : (y x : ℕ) → IsOwned v y → Edge v y x → IsOwned v x
  edge_owned y x (inl e) g = from_ply y g.0 x g.1 (subst (λ (i : ℕ). n.is_in i ≡ true) (sym e) rest.drained.joined.table.2.at.fits.root.0, inl e) (rest.drained.plane.slots y g.0 x g.1 g.2 g.3) (current y g.0 g.1 g.3) g.2
  edge_owned y x (inr (inl h)) g = by_kind (v.is_ply y) refl
    where
      by_kind : (b : Bool) → v.is_ply y ≡ b → IsOwned v x
      by_kind true is = let m = rest.drained.joined.table.4 y is h in from_ply y g.0 x g.1 (m.0, inr m.1) (rest.drained.plane.slots y g.0 x g.1 g.2 g.3) (current y g.0 g.1 g.3) g.2
      by_kind false is = let b = rest.drained.joined.laid.owned y (h, is) in from_balance b.0 y g.0 x g.1 b.1 (rest.drained.plane.slots y g.0 x g.1 g.2 g.3) (current y g.0 g.1 g.3) g.2
  edge_owned y x (inr (inr r)) g = absurd (rest.drained.plane.plain r.0 y g.0 x r.1 (subst (λ (w : Word). leads w x) (sym (current y g.0 g.1 g.3)) g.2))

  -- in use, and nobody's: an edge leads there from another such one, and so on without end
  module _ (acyclic : IsAcyclic (Edge v)) (most : ℕ) (few : (x : ℕ) → IsLive v x → x < most) (empty : (y k x : ℕ) (w : Word) → leads w x → Goes v y k w → IsLive v y) where
    abbrev Stray : ℕ → Type 0
    Stray x = IsLive v x × (IsOwned v x → ⊥)

    before : (x : ℕ) → Stray x → (y : ℕ) × Edge v y x × Stray y
    before x stray = by_live stray.0
      where
        by_live : IsLive v x → (y : ℕ) × Edge v y x × Stray y
        by_live (inl e) = absurd (stray.1 (inl e))
        by_live (inr (inl h)) = absurd (stray.1 (inr (inl h)))
        by_live (inr (inr (inl r))) = absurd (stray.1 (inr (inr r)))
        by_live (inr (inr (inr g))) = (g.0, (g.1, g.2, g.3, g.4), (empty g.0 g.1 x g.2 g.3 g.4, λ o. stray.1 (edge_owned g.0 x o (g.1, g.2, g.3, g.4))))

    back : (n x : ℕ) → Stray x → (y : ℕ) × Stray y × Walk (Edge v) n y x
    back zero x stray = (x, stray, refl)
    back (suc n) x stray = let b = back n x stray in let y = before b.0 b.1 in (y.0, y.2, (b.0, y.1, b.2))

    within : (x : ℕ) → IsLive v x → Contains (range_with_len 0 most) x
    within x live =
        let lt = few x live in
        (x, (let n = length-range_with_len 0 most in omega (arith, n, lt)), get_or-range_with_len 0 most x x lt ∙ (let z : 0 + x ≡ x = omega arith in z))

    pub owned_by : (x : ℕ) → IsLive v x → (IsOwned v x → ⊥) → ⊥
    owned_by x live none =
        let b = back most x (live, none) in
        let short = walk_short (Edge v) acyclic (range_with_len 0 most) (λ a c g. within c (inr (inr (inr (a, g.0, g.1, g.2, g.3))))) most b.0 x (within b.0 b.1.0) b.2 in
        let n = length-range_with_len 0 most in
        omega (arith, short, n)
