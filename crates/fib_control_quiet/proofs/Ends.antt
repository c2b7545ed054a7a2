-- Balances and adjacencies at rest: their cells say what the tables want.
use Rattle.std.proofs.Common.{◌≡◌, ℕ, zero, suc, ◌<◌, Bool, true, false, [], ◌∷◌, map, refl, sym, ap, ◌∙◌}
use Rattle.std.specs.Prelude.{Option, Some, None, Contains, ◌==◌, flat_map, slice_get, if◌then◌else◌}
use Rattle.std.specs.List.{AllByRecursion}
use Rattle.std.proofs.lemmas.List.Elements.{All-contains, All-from_recursion}
use Rattle.fib_base_list.proofs.Lists.{each-weaker, each-flat_map}
use Rattle.fib_addr.specs.Prefixes.{Prefix, host}
use Rattle.fib_resolve.specs.Aims.{aim, kind_aim, marked, marked_list, path_aim}
use Rattle.fib_resolve.specs.Buckets.{wanted}
use Rattle.fib_resolve.specs.Pairs.{chosen, cover, entries}
use Rattle.fib_resolve.specs.Resolution.{hop_end, mac_of}
use Rattle.fib_resolve.specs.Sizes.{adjacencies, adjacencies_of, kind_adjacency, same_adjacency}
use Rattle.fib_resolve.specs.declared.aims.Aim.TheVariants as aims
use Rattle.fib_resolve.specs.declared.pairs.Adjacency.{Adjacency}
use Rattle.fib_resolve.specs.declared.types.End.TheVariants as answers
use Rattle.fib_resolve.specs.declared.types.Path.{Path}
use Rattle.fib_resolve.specs.declared.types.PathKind.{PathKind}
use Rattle.fib_resolve.specs.declared.types.PathKind.TheVariants as kinds
use Rattle.fib_resolve.specs.declared.types.Tables.{Tables}
use Rattle.fib_resolve.proofs.OneList.{each-itself}
use Rattle.fib_resolve.proofs.PairLaws.{each-unique}
use Rattle.fib_resolve_changes.specs.Ranks.{has_entry}
use Rattle.fib_resolve_changes.proofs.Edits.{any_in}
use Rattle.fib_core.specs.StandsFor.{Thing, balance_of, adjacency_of, adjacency_word, bucket_word, kind_word}
use Rattle.fib_core.specs.declared.word.Word.TheVariants as words
use Rattle.fib_pool.specs.declared.object.AdjacencyRecord.{AdjacencyRecord}
use Rattle.fib_plane.specs.Sound.{record_word}
use Rattle.fib_core_promise.specs.Stack.{Objects, aim_word, is_some, to_adjacency, to_balance}
use Rattle.fib_core_stands.proofs.Nibbles.{map_at}
use Rattle.fib_plane_view.specs.Promise.{Promise}
use Rattle.fib_plane_view.specs.View.{View}
use Rattle.fib_ply.specs.Served.{Paths}
use Rattle.fib_stack.specs.Buckets.{recorded}
use Rattle.fib_stack.specs.Joined.{Parts, balance_in, holds_by, state_in}
use Rattle.fib_stack.specs.States.{ends_there, has_hop}
use Rattle.fib_stack.specs.Steps.{StandsFor}
use Rattle.fib_stack.proofs.Keeping.{quiet_stands, some_there}
use Rattle.fib_stack.proofs.Listing.{record_self}
use Rattle.fib_stack.proofs.Settling.{aims_hop, aims_on}
use Rattle.fib_control_quiet.specs.Rest.{IsAtRest}
use Rattle.fib_control_quiet.proofs.Drained.{IsRecorded, hop_kept, placed, record_of_end}
use Rattle.fib_control_quiet.proofs.Numbers.{number, or_zero}

module _ (S : Tables) (rank : Prefix → ℕ) (p : Promise) (v : View) (s : Parts) (rest : IsAtRest S rank p v s) (n : Paths) where
  pub stands : StandsFor S (state_in v s)
  stands = quiet_stands S rank (state_in v s) rest.drained.ranked rest.drained.joined.kept (rest.drained.none, rest.prompt)

  abbrev names : Thing → ℕ
  names = number n (balance_in s) v S

  abbrev pub objects : Objects
  objects = record { balance = balance_in s; record_of = recorded v }

  module _ (e : Prefix) (k : ℕ) where
    hop_word : (i a : ℕ) → aims.Ends (hop_end S i a) ≡ aim S e k → to_adjacency (recorded v (hop_end S i a)) ≡ words.ToAdjacency (names (adjacency_of (record { interface = i; next_hop = a })))
    hop_word i a is =
        let o = hop_kept S rank p v s rest.drained e i a (mac_of S i a) (aims_hop S e k i a (mac_of S i a) (sym is)) in
        ap to_adjacency o.1 ∙ ap (λ x. words.ToAdjacency (or_zero x)) (sym o.1)

    on_word : (t : Prefix) → aims.On t ≡ aim S e k → to_balance (balance_in s t) ≡ words.ToBalance (names (balance_of t))
    on_word t is =
        let some = some_there (balance_in s t) (placed S rank p v s rest.drained t ∙ (rest.drained.ranked.falls e t (rest.drained.ranked.woken e t (aims_on S e t k (sym is)))).0) in
        ap to_balance some.1 ∙ ap (λ x. words.ToBalance (or_zero x)) (sym some.1)

    by_length : (i : ℕ) (b : Bool) → aims.Ends (if b then hop_end S i e.bits else answers.Glean i) ≡ aim S e k
        → aim_word objects (aims.Ends (if b then hop_end S i e.bits else answers.Glean i)) ≡ (if b then words.ToAdjacency (names (adjacency_of (record { interface = i; next_hop = e.bits }))) else words.Glean i)
    by_length i true is = hop_word i e.bits is
    by_length i false is = refl

    by_kind : (x : PathKind) → kind_aim S e x ≡ aim S e k → aim_word objects (kind_aim S e x) ≡ kind_word names S e x
    by_kind kinds.Drop is = refl
    by_kind kinds.Local is = refl
    by_kind (kinds.Attached i) is = by_length i (e.len == 32) is
    by_kind (kinds.Hop a i) is = hop_word i a is
    by_kind (kinds.Recursive a) is = on_word (host a) is
    by_kind kinds.Cover is = on_word (cover S e.bits) is

    by_path : (x : Option Path) → path_aim S e x ≡ aim S e k → aim_word objects (path_aim S e x) ≡ bucket_word names S e x
    by_path None is = refl
    by_path (Some x) is = by_kind x.kind is

    aim_said : aim S e k ≡ path_aim S e (slice_get (wanted S e) k)
    unfolding aim
    aim_said = refl

    pub balance_cell : (o : ℕ) → balance_in s e ≡ Some o → k < 16 → v.cell (names (balance_of e)) k ≡ bucket_word names S e (slice_get (wanted S e) k)
    balance_cell o at lt =
        ap (λ x. v.cell (or_zero x) k) at ∙ stands.filled e o k at lt ∙ ap (aim_word objects) aim_said ∙ by_path (slice_get (wanted S e) k) (sym aim_said)

  pub adjacency_cell : (x : Adjacency) (k : ℕ) → IsRecorded S v x → ((r : AdjacencyRecord) (o : ℕ) → v.record_of r ≡ Some o → v.cell o k ≡ record_word r k) → v.cell (names (adjacency_of x)) k ≡ adjacency_word S x k
  adjacency_cell x k o written = ap (λ y. v.cell (or_zero y) k) o.1 ∙ written (record_of_end S x) o.0 o.1 ∙ same_words k
    where
      same_words : (k : ℕ) → record_word (record_of_end S x) k ≡ adjacency_word S x k
      same_words zero = refl
      same_words (suc zero) = refl
      same_words (suc (suc zero)) = refl
      same_words (suc (suc (suc k))) = refl
