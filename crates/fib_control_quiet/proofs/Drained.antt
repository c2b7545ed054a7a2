-- Once nothing is queued: the prefix table has the tables' entries, and each Hop end that they list has a record.
use Rattle.std.proofs.Common.{◌≡◌, ℕ, zero, suc, ◌⊎◌, Bool, true, false, [], ◌∷◌, map, refl, sym, ap, ◌∙◌}
use Rattle.std.specs.Prelude.{Option, Some, Contains, ◌==◌, flat_map, if◌then◌else◌}
use Rattle.std.specs.List.{AllByRecursion}
use Rattle.std.proofs.lemmas.List.Elements.{All-contains, All-from_recursion}
use Rattle.fib_base_list.proofs.Lists.{each-weaker, each-flat_map}
use Rattle.fib_addr.specs.Prefixes.{Prefix}
use Rattle.fib_resolve.specs.Aims.{kind_aim, marked, marked_list}
use Rattle.fib_resolve.specs.Pairs.{chosen, entries}
use Rattle.fib_resolve.specs.Resolution.{hop_end, mac_of}
use Rattle.fib_resolve.specs.Sizes.{adjacencies, adjacencies_of, kind_adjacency, same_adjacency}
use Rattle.fib_resolve.specs.declared.aims.Aim.TheVariants as aims
use Rattle.fib_resolve.specs.declared.pairs.Adjacency.{Adjacency}
use Rattle.fib_resolve.specs.declared.types.End.TheVariants as answers
use Rattle.fib_resolve.specs.declared.types.Path.{Path}
use Rattle.fib_resolve.specs.declared.types.PathKind.{PathKind}
use Rattle.fib_resolve.specs.declared.types.PathKind.TheVariants as kinds
use Rattle.fib_resolve.specs.declared.types.Tables.{Tables}
use Rattle.fib_resolve.proofs.OneList.{each-itself}
use Rattle.fib_resolve.proofs.PairLaws.{each-unique}
use Rattle.fib_resolve_changes.specs.Ranks.{has_entry}
use Rattle.fib_resolve_changes.proofs.Edits.{any_in}
use Rattle.fib_pool.specs.declared.object.AdjacencyRecord.{AdjacencyRecord}
use Rattle.fib_core_promise.specs.Stack.{is_some}
use Rattle.fib_core_stands.proofs.Nibbles.{map_at}
use Rattle.fib_plane_view.specs.Promise.{Promise}
use Rattle.fib_plane_view.specs.View.{IsRecord, View}
use Rattle.fib_ply.specs.Served.{Paths}
use Rattle.fib_stack.specs.Buckets.{recorded}
use Rattle.fib_stack.specs.Joined.{Parts, balance_in, holds_by, state_in}
use Rattle.fib_stack.specs.States.{IsDone, ends_there, has_hop}
use Rattle.fib_stack.proofs.Keeping.{some_there}
use Rattle.fib_stack.proofs.Listing.{record_self}
use Rattle.fib_control_quiet.specs.Rest.{IsDrained}

-- root, held, or a kept record's
abbrev pub IsOwned : View → ℕ → Type 0
IsOwned v x = (x ≡ 0) ⊎ ((v.is_held x ≡ true) ⊎ IsRecord v x)

-- the record of a Hop end of the tables
abbrev pub record_of_end : Tables → Adjacency → AdjacencyRecord
record_of_end S x = record { interface = x.interface; next_hop = x.next_hop; mac = mac_of S x.interface x.next_hop }

-- a Hop end that is counted has one
abbrev pub IsRecorded : Tables → View → Adjacency → Type 0
IsRecorded S v x = (o : ℕ) × (v.record_of (record_of_end S x) ≡ Some o)

module _ (S : Tables) (rank : Prefix → ℕ) (p : Promise) (v : View) (s : Parts) (drained : IsDrained S rank p v s) where
  abbrev pub paths : Paths
  paths = drained.joined.table.1

  pub done : (e : Prefix) → IsDone S (state_in v s) e
  done e = drained.joined.kept.done e (drained.none e)

  pub placed : (e : Prefix) → is_some (balance_in s e) ≡ has_entry S e
  placed e = (done e).placed

  -- a Hop end of a marked list has a record
  pub hop_kept : (e : Prefix) (i a : ℕ) (x : Option ℕ) → has_hop (marked_list S e) (answers.Hop i a x) ≡ true → (o : ℕ) × (v.record_of (record { interface = i; next_hop = a; mac = x }) ≡ Some o)
  hop_kept e i a x has =
      let held : holds_by s e (answers.Hop i a x) ≡ true = (done e).holding (answers.Hop i a x) ∙ has in
      some_there (recorded v (answers.Hop i a x)) ((drained.joined.kept.placed e).recorded (answers.Hop i a x) held)

  in_marks : (e : Prefix) (q : Path) (i a : ℕ) → Contains (chosen S e) q → kind_aim S e q.kind ≡ aims.Ends (hop_end S i a) → has_hop (marked_list S e) (hop_end S i a) ≡ true
  unfolding marked_list
  in_marks e q i a c is = any_in (λ m. ends_there (hop_end S i a) m.aim) (map (marked S e) (chosen S e)) (marked S e q) (map_at (marked S e) (chosen S e) q c)
      (ap (ends_there (hop_end S i a)) is ∙ record_self (record_of_end S (record { interface = i; next_hop = a })))

  of_length : (e : Prefix) (q : Path) (i : ℕ) (b : Bool) → Contains (chosen S e) q → kind_aim S e q.kind ≡ aims.Ends (if b then hop_end S i e.bits else answers.Glean i)
      → AllByRecursion (IsRecorded S v) (if b then record { interface = i; next_hop = e.bits } ∷ [] else [])
  of_length e q i true c is = (hop_kept e i e.bits (mac_of S i e.bits) (in_marks e q i e.bits c is), tt)
  of_length e q i false c is = tt

  of_kind : (e : Prefix) (q : Path) (x : PathKind) → x ≡ q.kind → Contains (chosen S e) q → AllByRecursion (IsRecorded S v) (kind_adjacency e x)
  of_kind e q (kinds.Hop a i) is c = (hop_kept e i a (mac_of S i a) (in_marks e q i a c (ap (kind_aim S e) (sym is))), tt)
  of_kind e q (kinds.Attached i) is c = of_length e q i (e.len == 32) c (ap (kind_aim S e) (sym is))
  of_kind e q kinds.Drop is c = tt
  of_kind e q kinds.Local is c = tt
  of_kind e q (kinds.Recursive a) is c = tt
  of_kind e q kinds.Cover is c = tt

  all_recorded : AllByRecursion (IsRecorded S v) (adjacencies S)
  unfolding adjacencies
  all_recorded = each-unique (IsRecorded S v) same_adjacency (flat_map (adjacencies_of S) (entries S)) (each-flat_map (IsRecorded S v) (adjacencies_of S) (entries S)
      (each-weaker (Contains (entries S)) (λ e. AllByRecursion (IsRecorded S v) (adjacencies_of S e)) (λ e c. each-flat_map (IsRecorded S v) (λ q. kind_adjacency e q.kind) (chosen S e)
      (each-weaker (Contains (chosen S e)) (λ q. AllByRecursion (IsRecorded S v) (kind_adjacency e q.kind)) (λ q c'. of_kind e q q.kind refl c') (chosen S e) (each-itself (chosen S e))))
      (entries S) (each-itself (entries S))))

  pub counted_adjacency : (x : Adjacency) → Contains (adjacencies S) x → IsRecorded S v x
  counted_adjacency x c = All-contains (IsRecorded S v) (adjacencies S) x (All-from_recursion (IsRecorded S v) (adjacencies S) all_recorded) c
