-- A turn of an entry takes objects for what it makes alone.
use Rattle.std.proofs.Common.{◌≡◌, ◌≢◌, ℕ, ◌+◌, ◌*◌, ◌-◌, ◌/◌, ◌<◌, ◌≤◌, true, List, [], ◌∷◌, ◌++◌, length, map, refl, sym, ap, ◌∙◌, subst, arith}
use Rattle.std.specs.Prelude.{Contains, Option, Some, None}
use Rattle.std.specs.List.{AllByRecursion, range_with_len}
use Rattle.std.proofs.lemmas.List.{length-append, length-map}
use Rattle.std.proofs.lemmas.List.Elements.{All-contains, All-from_recursion}
use Rattle.std.proofs.Math.Nat.{mul-div_cancel}
use Rattle.std.proofs.Math.Pow.{pow_pos}
use Rattle.fib_base_list.proofs.Lists.{each-append, each-map, each-weaker}
use Rattle.fib_addr.specs.Prefixes.{Prefix, IsPrefix, masked, size_of}
use Rattle.fib_reach.specs.Walks.{AllDiffer}
use Rattle.fib_resolve.specs.Aims.{marked_list}
use Rattle.fib_resolve.specs.Pairs.{entries}
use Rattle.fib_resolve.specs.Resolution.{hop_end, mac_of}
use Rattle.fib_resolve.specs.declared.pairs.Adjacency.{Adjacency}
use Rattle.fib_resolve.specs.declared.types.End.TheVariants as answers
use Rattle.fib_resolve.specs.declared.types.Tables.{Tables}
use Rattle.fib_resolve_changes.specs.Ranks.{has_entry}
use Rattle.fib_resolve_changes.proofs.Edits.{any_in}
use Rattle.fib_resolve_changes.proofs.SamePairs.{map_from}
use Rattle.fib_core.specs.StandsFor.{Thing, ply_of, balance_of, adjacency_of, IsCounted}
use Rattle.fib_pool.specs.declared.object.AdjacencyRecord.{AdjacencyRecord}
use Rattle.fib_stack_ledger.specs.Ledgers.{times, used_by}
use Rattle.fib_core_promise.specs.Kept.{same_end}
use Rattle.fib_core_promise.specs.Matches.{look_of}
use Rattle.fib_core_promise.specs.Stack.{is_some}
use Rattle.fib_plane_view.specs.Promise.{Promise, IsBegun}
use Rattle.fib_plane_view.specs.View.{View}
use Rattle.fib_ply.specs.Prefixes.{Needs}
use Rattle.fib_ply.specs.Tables.{Came}
use Rattle.fib_ply.proofs.Needing.{needs_here}
use Rattle.fib_stack.specs.Joined.{Joined, Parts, balance_in, state_in}
use Rattle.fib_stack.specs.Records.{AreNew, LacksFor, TookNew, records_for}
use Rattle.fib_stack.specs.Room.{HasRoomLeft, IsMade, IsSeated, Makes}
use Rattle.fib_stack.specs.States.{has_hop}
use Rattle.fib_stack.specs.Steps.{Restacked}
use Rattle.fib_stack.specs.inner.Readied.{balances_for}
use Rattle.fib_stack.proofs.Assembled.{end_of, hops_listed, some_times}
use Rattle.fib_stack.proofs.Counted.{counted, differ_append, differ_map, listed}
use Rattle.fib_stack.proofs.Finishing.{entry_there}
use Rattle.fib_stack.proofs.Keeping.{some_there}
use Rattle.fib_stack.proofs.Listing.{record_self}
use Rattle.fib_stack.proofs.Rooming.{finds, plies_counted, plies_differ, plies_from, plies_long, plies_made, range_within}

abbrev adjacency_for : AdjacencyRecord → Thing
adjacency_for m = adjacency_of (record { interface = m.interface; next_hop = m.next_hop })

abbrev balance_if : Option ℕ → Prefix → List Thing
balance_if None e = balance_of e ∷ []
balance_if (Some o) e = []

balance_long : (b : Option ℕ) (e : Prefix) → length (balance_if b e) ≡ balances_for b
balance_long None e = refl
balance_long (Some o) e = refl

adjacency_one : (x y : Adjacency) → adjacency_of x ≡ adjacency_of y → x ≡ y
adjacency_one x y is = cc

adjacency_no_balance : (x : Adjacency) (e : Prefix) → adjacency_of x ≡ balance_of e → ⊥
adjacency_no_balance x e is = cc

adjacency_no_ply : (x : Adjacency) (q : Prefix) → adjacency_of x ≡ ply_of q → ⊥
adjacency_no_ply x q is = cc

balance_no_ply : (e q : Prefix) → balance_of e ≡ ply_of q → ⊥
balance_no_ply e q is = cc

none_some : (o : Option ℕ) → o ≡ None → is_some o ≡ true → ⊥
none_some None e h = cc
none_some (Some o) e h = cc

module _ (S : Tables) (rank : Prefix → ℕ) (p : Promise) (v : View) (e : Prefix) (s : Parts) (begun : IsBegun p) (j : Joined S rank p v s) (effective : has_entry S e ≡ true)
    (within : (d : Prefix) (m : AdjacencyRecord) → times m (used_by (s.known d)) ≤ s.total m) where
  there : Contains (entries S) e
  there = entry_there S e effective

  -- a record that the entry lists, and that has no users
  abbrev IsNewRecord : AdjacencyRecord → Type 0
  IsNewRecord m = (v.users m ≡ 0) × Contains (records_for (marked_list S e)) m

  hop_here : (m : AdjacencyRecord) → Contains (records_for (marked_list S e)) m → has_hop (marked_list S e) (end_of m) ≡ true
  hop_here m c = hops_listed (marked_list S e) (end_of m) ∙ any_in (λ r. same_end (end_of r) (end_of m)) (records_for (marked_list S e)) m c (record_self m)

  mac_here : (m : AdjacencyRecord) → Contains (records_for (marked_list S e)) m → mac_of S m.interface m.next_hop ≡ m.mac
  mac_here m c = (listed S e m.interface m.next_hop m.mac (hop_here m c)).2.1

  end_here : (m : AdjacencyRecord) → Contains (records_for (marked_list S e)) m → has_hop (marked_list S e) (hop_end S m.interface m.next_hop) ≡ true
  end_here m c = ap (λ x. has_hop (marked_list S e) (answers.Hop m.interface m.next_hop x)) (mac_here m c) ∙ hop_here m c

  record_one : (m k : AdjacencyRecord) → IsNewRecord m → IsNewRecord k → adjacency_for m ≡ adjacency_for k → m ≡ k
  record_one m k a b is =
      let same = adjacency_one (record { interface = m.interface; next_hop = m.next_hop }) (record { interface = k.interface; next_hop = k.next_hop }) is in
      let i : m.interface ≡ k.interface = ap (λ (x : Adjacency). x.interface) same in
      let h : m.next_hop ≡ k.next_hop = ap (λ (x : Adjacency). x.next_hop) same in
      let x : m.mac ≡ k.mac = sym (mac_here m a.1) ∙ ap (λ (y : Adjacency). mac_of S y.interface y.next_hop) same ∙ mac_here k b.1 in
      λ q. record { interface = i q; next_hop = h q; mac = x q }

  record_counted : (m : AdjacencyRecord) → IsNewRecord m → IsCounted S (adjacency_for m)
  record_counted m a = let l = listed S e m.interface m.next_hop m.mac (hop_here m a.1) in counted S e l.0 (record { interface = m.interface; next_hop = m.next_hop }) there l.1 l.2.0

  -- nobody uses it
  record_new : (m : AdjacencyRecord) → IsNewRecord m → IsMade S (state_in v s) (adjacency_for m) → ⊥
  record_new m a made =
      let used = some_times (used_by (s.known made.0)) m.interface m.next_hop (mac_of S m.interface m.next_hop) made.2 in
      let mine : 0 < times m (used_by (s.known made.0)) = subst (λ (x : Option ℕ). 0 < times (record { interface = m.interface; next_hop = m.next_hop; mac = x }) (used_by (s.known made.0))) (mac_here m a.1) used in
      omega (arith, mine, within made.0 m, j.laid.counted m, a.0)

  abbrev records : List AdjacencyRecord → List Thing
  records ms = map adjacency_for ms

  records_differ : (ms : List AdjacencyRecord) → AreNew v (records_for (marked_list S e)) ms → AllDiffer (records ms)
  records_differ ms h = differ_map adjacency_for IsNewRecord record_one ms h.new h.apart

  records_counted : (ms : List AdjacencyRecord) → AreNew v (records_for (marked_list S e)) ms → AllByRecursion (IsCounted S) (records ms)
  records_counted ms h = each-map (IsCounted S) adjacency_for ms (each-weaker IsNewRecord (λ m. IsCounted S (adjacency_for m)) record_counted ms h.new)

  records_new : (ms : List AdjacencyRecord) → AreNew v (records_for (marked_list S e)) ms → AllByRecursion (λ x. IsMade S (state_in v s) x → ⊥) (records ms)
  records_new ms h = each-map (λ x. IsMade S (state_in v s) x → ⊥) adjacency_for ms (each-weaker IsNewRecord (λ m. IsMade S (state_in v s) (adjacency_for m) → ⊥) record_new ms h.new)

  -- so records are not what a turn lacks an object for
  pub never_lacks : (k : ℕ) → k ≤ 8 → HasRoomLeft S v.free (state_in v s) → LacksFor v (records_for (marked_list S e)) k → ⊥
  never_lacks k le room h =
      let enough = finds S v.free (state_in v s) (records h.0) room (records_differ h.0 h.1) (records_counted h.0 h.1) (records_new h.0 h.1) in
      let long = length-map h.0 adjacency_for in
      omega (arith, enough, long, h.2, le)

  -- the balance
  balance_counted : (b : Option ℕ) → AllByRecursion (IsCounted S) (balance_if b e)
  balance_counted None = (there, tt)
  balance_counted (Some o) = tt

  balance_new : (b : Option ℕ) → balance_in s e ≡ b → AllByRecursion (λ x. IsMade S (state_in v s) x → ⊥) (balance_if b e)
  balance_new None is = (λ made. none_some (balance_in s e) is made.1, tt)
  balance_new (Some o) is = tt

  balance_differ : (b : Option ℕ) → AllDiffer (balance_if b e)
  balance_differ None = (tt, tt)
  balance_differ (Some o) = tt

  -- a ply that came: no prefix of the table needed it
  module _ (count : ℕ) (came : Came (balance_in s) e count) where
    abbrev from : ℕ
    from = (e.len + 3) / 4 - count

    from_is : from + count ≤ (e.len + 3) / 4
    from_is = let f = came.few in omega (arith, f)

    seated_prefix : (d : Prefix) → IsSeated S (state_in v s) d → IsPrefix d
    seated_prefix d seat = let at = some_there (balance_in s d) seat.1 in ((j.fits begun).some d at.0 at.1).0

    ply_new : (k : ℕ) → (from ≤ k) × (k < (e.len + 3) / 4) → IsMade S (state_in v s) (ply_of (masked e.bits (4 * k))) → ⊥
    ply_new k b made =
        let d = made.0 in
        let at = some_there (balance_in s d) made.1.1 in
        let on_way = map_from (λ i. masked d.bits (4 * i)) (range_with_len 0 ((d.len + 3) / 4)) (masked e.bits (4 * k)) made.2 in
        let i = on_way.0 in
        let low : (0 ≤ i) × (i < (d.len + 3) / 4) = All-contains (λ n. (0 ≤ n) × (n < (d.len + 3) / 4)) (range_with_len 0 ((d.len + 3) / 4)) i
        (All-from_recursion (λ n. (0 ≤ n) × (n < (d.len + 3) / 4)) (range_with_len 0 ((d.len + 3) / 4)) (range_within 0 ((d.len + 3) / 4) 0 ((d.len + 3) / 4) (omega arith) (omega arith))) on_way.1 in
        let lens : 4 * i ≡ 4 * k = ap (λ (q : Prefix). q.len) on_way.2 in
        let depth : i ≡ k = omega (arith, lens) in
        let bits : d.bits / size_of (4 * i) * size_of (4 * i) ≡ e.bits / size_of (4 * k) * size_of (4 * k) = ap (λ (q : Prefix). q.bits) on_way.2 in
        let block : d.bits / size_of (4 * k) ≡ e.bits / size_of (4 * k) =
        sym (mul-div_cancel (d.bits / size_of (4 * k)) (pow_pos (32 - 4 * k)))
        ∙ ap (λ x. x / size_of (4 * k)) (ap (λ n. d.bits / size_of (4 * n) * size_of (4 * n)) (sym depth) ∙ bits)
        ∙ mul-div_cancel (e.bits / size_of (4 * k)) (pow_pos (32 - 4 * k)) in
        let longer : 4 * k < d.len = omega (arith, low.1, depth) in
        let few = came.few in
        came.bare k (omega (arith, b.0, b.1, few)) (omega (arith, b.1))
        (subst (λ (w : ℕ). Needs (look_of (balance_in s)) k w) block (needs_here (balance_in s) d k at.0 (seated_prefix d made.1) at.1 longer))

    plies_new : AllByRecursion (λ x. IsMade S (state_in v s) x → ⊥) (plies_from e from count)
    plies_new = each-map (λ x. IsMade S (state_in v s) x → ⊥) (λ k. ply_of (masked e.bits (4 * k))) (range_with_len from count)
        (each-weaker (λ k. (from ≤ k) × (k < (e.len + 3) / 4)) (λ k. IsMade S (state_in v s) (ply_of (masked e.bits (4 * k))) → ⊥) ply_new (range_with_len from count)
        (range_within from ((e.len + 3) / 4) from count (omega arith) from_is))

    module _ (w x : View) (t : Parts) (o : ℕ) (turn : Restacked S e o (state_in v s) (state_in x t)) (took : TookNew v w (records_for (marked_list S e)) (balances_for (balance_in s e))) (free : w.free ≤ x.free + count) where
      abbrev made : List Thing
      made = records took.0 ++ (balance_if (balance_in s e) e ++ plies_from e from count)

      seat : IsSeated S (state_in x t) e
      seat = (effective, ap is_some turn.here)

      records_made : AllByRecursion (IsMade S (state_in x t)) (records took.0)
      records_made = each-map (IsMade S (state_in x t)) adjacency_for took.0 (each-weaker IsNewRecord (λ m. IsMade S (state_in x t) (adjacency_for m))
          (λ m a. (e, end_here m a.1, turn.holding (hop_end S m.interface m.next_hop) ∙ end_here m a.1)) took.0 took.1.new)

      balance_made : (b : Option ℕ) → AllByRecursion (IsMade S (state_in x t)) (balance_if b e)
      balance_made None = (seat, tt)
      balance_made (Some y) = tt

      balance_apart : (b : Option ℕ) → AllByRecursion (λ a. AllByRecursion (λ y. a ≢ y) (plies_from e from count)) (balance_if b e)
      balance_apart None = (each-map (λ y. balance_of e ≢ y) (λ k. ply_of (masked e.bits (4 * k))) (range_with_len from count) (each-weaker (λ k. (from ≤ k) × (k < (e.len + 3) / 4)) (λ k. balance_of e ≢ ply_of (masked e.bits (4 * k))) (λ k b is. balance_no_ply e (masked e.bits (4 * k)) is) (range_with_len from count) (range_within from ((e.len + 3) / 4) from count (omega arith) from_is)), tt)
      balance_apart (Some y) = tt

      record_apart : (m : AdjacencyRecord) (b : Option ℕ) → AllByRecursion (λ y. adjacency_for m ≢ y) (balance_if b e)
      record_apart m None = (λ is. adjacency_no_balance (record { interface = m.interface; next_hop = m.next_hop }) e is, tt)
      record_apart m (Some y) = tt

      records_apart : AllByRecursion (λ a. AllByRecursion (λ y. a ≢ y) (balance_if (balance_in s e) e ++ plies_from e from count)) (records took.0)
      records_apart = each-map (λ a. AllByRecursion (λ y. a ≢ y) (balance_if (balance_in s e) e ++ plies_from e from count)) adjacency_for took.0
          (each-weaker IsNewRecord (λ m. AllByRecursion (λ y. adjacency_for m ≢ y) (balance_if (balance_in s e) e ++ plies_from e from count)) (λ m a. each-append (λ y. adjacency_for m ≢ y) (balance_if (balance_in s e) e) (plies_from e from count) (record_apart m (balance_in s e))
          (each-map (λ y. adjacency_for m ≢ y) (λ k. ply_of (masked e.bits (4 * k))) (range_with_len from count) (each-weaker (λ k. (from ≤ k) × (k < (e.len + 3) / 4)) (λ k. adjacency_for m ≢ ply_of (masked e.bits (4 * k))) (λ k b is. adjacency_no_ply (record { interface = m.interface; next_hop = m.next_hop }) (masked e.bits (4 * k)) is) (range_with_len from count) (range_within from ((e.len + 3) / 4) from count (omega arith) from_is)))) took.0 took.1.new)

      pub makes : Makes S (state_in v s) (state_in x t) v.free x.free
      makes =
          let b = balance_in s e in
          record {
            made = made;
            apart = differ_append (records took.0) (balance_if b e ++ plies_from e from count) (records_differ took.0 took.1) (differ_append (balance_if b e) (plies_from e from count) (balance_differ b) (plies_differ e from count) (balance_apart b)) records_apart;
            counted = each-append (IsCounted S) (records took.0) (balance_if b e ++ plies_from e from count) (records_counted took.0 took.1) (each-append (IsCounted S) (balance_if b e) (plies_from e from count) (balance_counted b) (plies_counted S e from count there from_is));
            new = each-append (λ y. IsMade S (state_in v s) y → ⊥) (records took.0) (balance_if b e ++ plies_from e from count) (records_new took.0 took.1) (each-append (λ y. IsMade S (state_in v s) y → ⊥) (balance_if b e) (plies_from e from count) (balance_new b refl) plies_new);
            there = each-append (IsMade S (state_in x t)) (records took.0) (balance_if b e ++ plies_from e from count) records_made (each-append (IsMade S (state_in x t)) (balance_if b e) (plies_from e from count) (balance_made b) (plies_made S (state_in x t) e from count seat from_is));
            paid = (
                let l = length-append (records took.0) (balance_if b e ++ plies_from e from count) in
                let k = length-append (balance_if b e) (plies_from e from count) in
                let r = length-map took.0 adjacency_for in
                let o = balance_long b e in
                let n = plies_long e from count in
                omega (arith, l, k, r, o, n, took.2, free)
                );
          }
