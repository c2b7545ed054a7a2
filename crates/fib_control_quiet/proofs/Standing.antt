-- Once nothing is queued what is owned is counted; at rest the cells stand for the tables.
use Rattle.std.proofs.Common.{◌≡◌, ℕ, ◌+◌, ◌*◌, ◌<◌, inl, inr, ⊎_elim, Bool, true, false, true≢false, ◌||◌, cond, List, [], ◌∷◌, refl, sym, ap, ◌∙◌, subst, arith}
use Rattle.std.specs.Prelude.{Option, Some, Contains}
use native.Mathlib.Decide.{ℕ_discrete}
use mathlib.Core.Logic.{dite}
use Rattle.fib_base_list.proofs.Booleans.{or_right}
use Rattle.fib_addr.specs.Longest.{everything}
use Rattle.fib_addr.specs.Prefixes.{IsPrefix, Prefix}
use Rattle.fib_addr.proofs.PrefixLaws.{same_fields}
use Rattle.fib_resolve.specs.Aims.{marked_list}
use Rattle.fib_resolve.specs.Pairs.{entries}
use Rattle.fib_resolve.specs.declared.pairs.Adjacency.{Adjacency}
use Rattle.fib_resolve.specs.declared.types.End.TheVariants as answers
use Rattle.fib_resolve.specs.declared.types.Tables.{Tables}
use Rattle.fib_core.specs.StandsFor.{Thing, ply_of, balance_of, adjacency_of, IsCounted, thing_word}
use Rattle.fib_pool.specs.declared.object.AdjacencyRecord.{AdjacencyRecord}
use Rattle.fib_plane.specs.Sound.{record_word}
use Rattle.fib_stack_ledger.specs.declared.ledger.Use.{Use}
use Rattle.fib_stack_ledger.specs.Ledgers.{record_used, same_record, times, used_by}
use Rattle.fib_core_promise.specs.Kept.{same_end}
use Rattle.fib_plane_view.specs.Promise.{Promise}
use Rattle.fib_plane_view.specs.View.{IsBalance, IsLive, View}
use Rattle.fib_ply.proofs.Laws.{held_prefix}
use Rattle.fib_stack.specs.Joined.{Parts, balance_in, holds_by, in_change, table_of}
use Rattle.fib_stack.specs.Records.{end_used, holds_in}
use Rattle.fib_stack.specs.States.{has_hop}
use Rattle.fib_stack.proofs.Counted.{counted, effective, listed}
use Rattle.fib_stack.proofs.Listing.{record_is}
use Rattle.fib_core_stands.proofs.Nibbles.{ply_root}
use Rattle.fib_ply.specs.Served.{Paths}
use Rattle.fib_control_quiet.specs.Rest.{IsAtRest, IsDrained}
use Rattle.fib_control_quiet.proofs.Drained.{IsOwned, counted_adjacency, done, paths, placed, record_of_end}
use Rattle.fib_control_quiet.proofs.Ends.{adjacency_cell, balance_cell}
use Rattle.fib_control_quiet.proofs.Numbers.{number, or_zero}
use Rattle.fib_control_quiet.proofs.Plying.{IsPly, block, counted_ply, ply_cell, ply_counted, ply_number}
use Rattle.fib_base_interned.proofs.Finding.{none_some}
use Rattle.fib_control_quiet.proofs.Reaching.{balance_at, entry_of}

-- what is used is held
turned : (r q : AdjacencyRecord) → same_record r q ≡ true → same_record q r ≡ true
turned r q e = let is : r ≡ q = record_is r q e in subst (λ (z : AdjacencyRecord). same_record z r ≡ true) is (subst (λ (z : AdjacencyRecord). same_record r z ≡ true) (sym is) e)

times_held : (us : List Use) (i a : ℕ) (x : Option ℕ) → 0 < times (record { interface = i; next_hop = a; mac = x }) us → holds_in us (answers.Hop i a x) ≡ true
times_held [] i a x lt = absurd (omega (arith, lt))
times_held (u ∷ us) i a x lt = by_first (same_record (record { interface = i; next_hop = a; mac = x }) (record_used u)) refl (times_held us i a x)
  where
    by_first : (b : Bool) → same_record (record { interface = i; next_hop = a; mac = x }) (record_used u) ≡ b → (0 < times (record { interface = i; next_hop = a; mac = x }) us → holds_in us (answers.Hop i a x) ≡ true)
        → holds_in (u ∷ us) (answers.Hop i a x) ≡ true
    by_first true e rest = ap (λ b. b || holds_in us (answers.Hop i a x)) (turned (record { interface = i; next_hop = a; mac = x }) (record_used u) e)
    by_first false e rest = or_right (same_end (end_used u) (answers.Hop i a x)) (holds_in us (answers.Hop i a x)) (rest (let z : 0 < cond false 1 0 + times (record { interface = i; next_hop = a; mac = x }) us = subst (λ (b : Bool). 0 < cond b 1 0 + times (record { interface = i; next_hop = a; mac = x }) us) e lt in omega (arith, z)))

module _ (S : Tables) (rank : Prefix → ℕ) (p : Promise) (v : View) (s : Parts) (drained : IsDrained S rank p v s) where
  abbrev names : Thing → ℕ
  names = number (paths S rank p v s drained) (balance_in s) v S

  rows_fine : (q : Prefix) (o : ℕ) → balance_in s q ≡ Some o → IsPrefix q
  rows_fine = held_prefix s.rows drained.rows_are

  there : (e : Prefix) → Contains (entries S) e → (o : ℕ) × (balance_in s e ≡ Some o)
  there e c = balance_at S (balance_in s) drained.entries_are rows_fine (placed S rank p v s drained) e c

  pub ply_at_root : names (ply_of everything) ≡ 0
  ply_at_root =
      let fits = drained.joined.table.2.at.fits in
      let z : 0 * 4294967296 ≡ 0 = omega arith in
      ap (λ q. names (ply_of q)) (sym (same_fields (block 0 0) everything (z, refl)))
      ∙ ply_number S (in_change p) (table_of s) v drained.joined.table drained.rows_are drained.entries_are rows_fine (placed S rank p v s drained) 0 0 0 fits.root.0 fits.root.1 fits.root.2

  abbrev Found : ℕ → Type 0
  Found x = (t : Thing) × IsCounted S t × (names t ≡ x)

  record_found : (m : AdjacencyRecord) (x : ℕ) → v.record_of m ≡ Some x → Found x
  record_found m x at = dite (ℕ_discrete (v.users m) 0)
      (λ z. absurd (none_some x (sym (drained.plane.forgotten m z) ∙ at)))
      (λ ne.
      let u = drained.used m (let c = drained.joined.laid.counted m in omega (arith, ne, c)) in
      let held : holds_by s u.0 (answers.Hop m.interface m.next_hop m.mac) ≡ true = times_held (used_by (s.known u.0)) m.interface m.next_hop m.mac u.1 in
      let has : has_hop (marked_list S u.0) (answers.Hop m.interface m.next_hop m.mac) ≡ true = sym ((done S rank p v s drained u.0).holding (answers.Hop m.interface m.next_hop m.mac)) ∙ held in
      let l = listed S u.0 m.interface m.next_hop m.mac has in
      let a : Adjacency = record { interface = m.interface; next_hop = m.next_hop } in (
        adjacency_of a,
        counted S u.0 l.0 a (effective S rank drained.ranked u.0 m.interface m.next_hop m.mac has) l.1 l.2.0,
        ap (λ y. or_zero (v.record_of (record { interface = m.interface; next_hop = m.next_hop; mac = y }))) l.2.1 ∙ ap or_zero at,
      ))

  -- what is owned is counted
  pub found : (x : ℕ) → IsOwned v x → Found x
  found x (inl e) = (ply_of everything, ply_root S, ply_at_root ∙ sym e)
  found x (inr (inl h)) = by_ply (v.is_ply x) refl
    where
      by_ply : (b : Bool) → v.is_ply x ≡ b → Found x
      by_ply true is =
          let n = paths S rank p v s drained in
          let m = drained.joined.table.4 x is h in (
            ply_of (block (n.depth x) (n.value x)),
            ply_counted S (in_change p) (table_of s) v drained.joined.table drained.rows_are drained.entries_are rows_fine (placed S rank p v s drained) x m.0 (inr m.1),
            ply_number S (in_change p) (table_of s) v drained.joined.table drained.rows_are drained.entries_are rows_fine (placed S rank p v s drained) x (n.depth x) (n.value x) m.0 refl refl,
          )
      by_ply false is = let e = drained.joined.laid.owned x (h, is) in (balance_of e.0, entry_of S (balance_in s) drained.entries_are rows_fine (placed S rank p v s drained) e.0 x e.1, ap or_zero e.1)
  found x (inr (inr r)) = record_found r.0 x r.1

  -- what is counted, in the view
  ply_found : (q : Prefix) (c : IsCounted S (ply_of q)) → (x : IsPly (paths S rank p v s drained) q) × (names (ply_of q) ≡ x.ply)
  ply_found q c =
      let n = paths S rank p v s drained in
      let x = counted_ply S (in_change p) (table_of s) v drained.joined.table drained.rows_are drained.entries_are rows_fine (placed S rank p v s drained) q c in
      (x, ap (λ r. names (ply_of r)) x.is ∙ ply_number S (in_change p) (table_of s) v drained.joined.table drained.rows_are drained.entries_are rows_fine (placed S rank p v s drained) x.ply (n.depth x.ply) (n.value x.ply) x.here refl refl)

  ply_seen : (q : Prefix) → IsCounted S (ply_of q) → v.is_ply (names (ply_of q)) ≡ true
  ply_seen q c = let f = ply_found q c in ap v.is_ply f.1 ∙ (drained.joined.table.2.at.fits.held f.0.ply f.0.here).0

  balance_seen : (e : Prefix) → IsCounted S (balance_of e) → (balance_in s e ≡ Some (names (balance_of e))) × IsBalance v (names (balance_of e))
  balance_seen e c =
      let o = there e c in
      let is : names (balance_of e) ≡ o.0 = ap or_zero o.1 in
      (o.1 ∙ ap Some (sym is), subst (IsBalance v) (sym is) (drained.joined.laid.balances e o.0 o.1))

  adjacency_seen : (x : Adjacency) → IsCounted S (adjacency_of x) → v.record_of (record_of_end S x) ≡ Some (names (adjacency_of x))
  adjacency_seen x c = let o = counted_adjacency S rank p v s drained x c in o.1 ∙ ap Some (sym (ap or_zero o.1))

  pub seen_live : (t : Thing) → IsCounted S t → IsLive v (names t)
  seen_live (ply_of q) c =
      let f = ply_found q c in
      subst (IsLive v) (sym f.1) (⊎_elim (λ (z : f.0.ply ≡ 0). inl z) (λ (h : v.is_held f.0.ply ≡ true). inr (inl h)) (drained.joined.table.2.at.fits.held f.0.ply f.0.here).1)
  seen_live (balance_of e) c = inr (inl (balance_seen e c).1.0)
  seen_live (adjacency_of x) c = inr (inr (inl (record_of_end S x, adjacency_seen x c)))

  ply_not_balance : (q e : Prefix) → IsCounted S (ply_of q) → IsCounted S (balance_of e) → names (ply_of q) ≡ names (balance_of e) → ⊥
  ply_not_balance q e c d is = true≢false (sym (ply_seen q c) ∙ ap v.is_ply is ∙ (balance_seen e d).1.1)

  ply_not_adjacency : (q : Prefix) (x : Adjacency) → IsCounted S (ply_of q) → IsCounted S (adjacency_of x) → names (ply_of q) ≡ names (adjacency_of x) → ⊥
  ply_not_adjacency q x c d is = true≢false (sym (ply_seen q c) ∙ ap v.is_ply is ∙ (drained.plane.records (record_of_end S x) (names (adjacency_of x)) (adjacency_seen x d)).1)

  balance_not_adjacency : (e : Prefix) (x : Adjacency) → IsCounted S (balance_of e) → IsCounted S (adjacency_of x) → names (balance_of e) ≡ names (adjacency_of x) → ⊥
  balance_not_adjacency e x c d is = true≢false (sym (balance_seen e c).1.0 ∙ ap v.is_held is ∙ (drained.plane.records (record_of_end S x) (names (adjacency_of x)) (adjacency_seen x d)).0)

  pub seen_apart : (t u : Thing) → IsCounted S t → IsCounted S u → names t ≡ names u → t ≡ u
  seen_apart (ply_of q) (ply_of r) c d is =
      let f = ply_found q c in
      let g = ply_found r d in
      let n = paths S rank p v s drained in
      ap ply_of (f.0.is ∙ ap (λ i. block (n.depth i) (n.value i)) (sym f.1 ∙ is ∙ g.1) ∙ sym g.0.is)
  seen_apart (ply_of q) (balance_of e) c d is = absurd (ply_not_balance q e c d is)
  seen_apart (ply_of q) (adjacency_of x) c d is = absurd (ply_not_adjacency q x c d is)
  seen_apart (balance_of e) (ply_of q) c d is = absurd (ply_not_balance q e d c (sym is))
  seen_apart (balance_of e) (balance_of f) c d is = ap balance_of ((drained.joined.kept.placed f).apart e (names (balance_of f)) (balance_seen f d).0 ((balance_seen e c).0 ∙ ap Some is))
  seen_apart (balance_of e) (adjacency_of x) c d is = absurd (balance_not_adjacency e x c d is)
  seen_apart (adjacency_of x) (ply_of q) c d is = absurd (ply_not_adjacency q x d c (sym is))
  seen_apart (adjacency_of x) (balance_of e) c d is = absurd (balance_not_adjacency e x d c (sym is))
  seen_apart (adjacency_of x) (adjacency_of y) c d is =
      let same = drained.plane.apart (record_of_end S x) (record_of_end S y) (names (adjacency_of y)) (adjacency_seen x c ∙ ap Some is) (adjacency_seen y d) in
      ap (λ (r : AdjacencyRecord). adjacency_of (record { interface = r.interface; next_hop = r.next_hop })) same

module _ (S : Tables) (rank : Prefix → ℕ) (p : Promise) (v : View) (s : Parts) (rest : IsAtRest S rank p v s) where
  abbrev n : Paths
  n = paths S rank p v s rest.drained

  abbrev d : IsDrained S rank p v s
  d = rest.drained

  pub seen_word : ((r : AdjacencyRecord) (o k : ℕ) → v.record_of r ≡ Some o → k < 16 → v.cell o k ≡ record_word r k) → (t : Thing) (k : ℕ) → IsCounted S t → k < 16 → v.cell ((names S rank p v s d) t) k ≡ thing_word (names S rank p v s d) S t k
  seen_word written (ply_of q) k c lt = ply_cell S (in_change p) (table_of s) v d.joined.table d.rows_are d.entries_are (rows_fine S rank p v s d) (placed S rank p v s d) q c k lt
  seen_word written (balance_of e) k c lt = let o = there S rank p v s d e c in balance_cell S rank p v s rest n e k o.0 o.1 lt
  seen_word written (adjacency_of x) k c lt = adjacency_cell S rank p v s rest n x k (counted_adjacency S rank p v s d x c) (λ r o at. written r o k at lt)
