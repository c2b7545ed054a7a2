-- Twenty things that are made whenever the tables have changed: five entries that all tables have, and the plies on the way to two of them.
use Rattle.std.proofs.Common.{◌≡◌, ◌≢◌, ℕ, ◌+◌, ◌*◌, ◌≤◌, Bool, true, false, true≢false, not, ◌&&◌, ◌||◌, ◌==◌, eq-eqb, List, [], ◌∷◌, ◌++◌, map, refl, sym, ap, ◌∙◌, arith}
use Rattle.std.specs.Prelude.{Contains}
use Rattle.std.specs.List.{AllByRecursion, list_any}
use Rattle.std.proofs.lemmas.List.{length-append}
use Rattle.fib_base_list.proofs.Lists.{each-append}
use Rattle.fib_addr.specs.Longest.{everything}
use Rattle.fib_addr.specs.Prefixes.{Prefix, host, same_prefix}
use Rattle.fib_addr.proofs.PrefixLaws.{same_prefix-Decides, same_prefix_equiv}
use Rattle.fib_reach.specs.Walks.{AllDiffer}
use Rattle.fib_resolve.specs.Pairs.{all_pairs, base_pairs, entries, one, pairs, prefix_of, same_pair}
use Rattle.fib_resolve.specs.Sizes.{size}
use Rattle.fib_resolve.specs.declared.pairs.Pair.{Pair}
use Rattle.fib_resolve.specs.declared.types.FibSource.TheVariants as sources
use Rattle.fib_resolve.specs.declared.types.PathKind.TheVariants as kinds
use Rattle.fib_resolve.specs.declared.types.Tables.{Tables}
use Rattle.fib_resolve.proofs.Covering.{unique_in}
use Rattle.fib_resolve.proofs.Touching.{same_pair-Decides, same_pair_equiv}
use Rattle.fib_core.specs.StandsFor.{Thing, ply_of, balance_of, adjacency_of, IsCounted}
use Rattle.fib_core_promise.specs.Stack.{is_some}
use Rattle.fib_core_stands.proofs.Nibbles.{map_at}
use Rattle.fib_plane_view.specs.Promise.{Promise, IsBegun}
use Rattle.fib_plane_view.specs.View.{View}
use Rattle.fib_stack.specs.Joined.{Joined, Parts, state_in}
use Rattle.fib_stack.specs.Room.{IsMade, IsSeated, Took}
use Rattle.fib_stack.specs.States.{State}
use Rattle.fib_stack.proofs.Rooming.{both_differ, few, plies_counted, plies_from, plies_made}
use Rattle.fib_stack.proofs.Settling.{is_entry}

-- what is a pair of all tables gives an entry
entry_of : (S : Tables) (p : Pair) → Contains (all_pairs S) p → Contains (entries S) p.prefix
unfolding entries pairs
entry_of S p c =
    let there : Contains (pairs S) p = (unique_in same_pair same_pair_equiv (λ x y. (same_pair-Decides x y).0) (all_pairs S) p).0 c in
    (unique_in same_prefix same_prefix_equiv (λ x y. (same_prefix-Decides x y).0) (map prefix_of (pairs S)) p.prefix).0 (map_at prefix_of (pairs S) p there)

abbrev many : Prefix
many = record { bits = 0xe0000000; len = 4 }

abbrev spare : Prefix
spare = record { bits = 0xf0000000; len = 4 }

abbrev last : Prefix
last = host 0xffffffff

five : (S : Tables) → Contains (entries S) everything × Contains (entries S) (host 0) × Contains (entries S) many × Contains (entries S) spare × Contains (entries S) last
unfolding all_pairs base_pairs
five S = (
  entry_of S (one everything sources.DefaultRoute kinds.Drop) (0, omega arith, refl),
  entry_of S (one (host 0) sources.Special kinds.Drop) (1, omega arith, refl),
  entry_of S (one many sources.Special kinds.Drop) (2, omega arith, refl),
  entry_of S (one spare sources.Special kinds.Drop) (3, omega arith, refl),
  entry_of S (one last sources.Special kinds.Drop) (4, omega arith, refl),
)

abbrev twenty : List Thing
twenty =
    balance_of everything ∷ balance_of (host 0) ∷ balance_of many ∷ balance_of spare ∷ balance_of last
    ∷ (plies_from (host 0) 0 8 ++ plies_from last 1 7)

-- things by number, as far as these differ
code : Thing → ℕ
code (ply_of p) = 2 * (64 * p.bits + p.len)
code (balance_of p) = 2 * (64 * p.bits + p.len) + 1
code (adjacency_of x) = 0

are_apart : List Thing → Bool
are_apart [] = true
are_apart (x ∷ xs) = not (list_any (λ y. code x == code y) xs) && are_apart xs

none_first : (b c : Bool) → b || c ≡ false → (b ≡ false) × (c ≡ false)
none_first true c e = absurd (true≢false e)
none_first false c e = (refl, e)

both_true : (b c : Bool) → not b && c ≡ true → (b ≡ false) × (c ≡ true)
both_true true c e = absurd (true≢false (sym e))
both_true false c e = (refl, e)

apart_one : (x : Thing) (xs : List Thing) → list_any (λ y. code x == code y) xs ≡ false → AllByRecursion (λ y. x ≢ y) xs
apart_one x [] h = tt
apart_one x (y ∷ ys) h =
    let r = none_first (code x == code y) (list_any (λ y. code x == code y) ys) h in
    (λ is. true≢false (sym (eq-eqb (code x) (code y) (ap code is)) ∙ r.0), apart_one x ys r.1)

apart_all : (xs : List Thing) → are_apart xs ≡ true → AllDiffer xs
unfolding are_apart
apart_all [] h = tt
apart_all (x ∷ xs) h =
    let r = both_true (list_any (λ y. code x == code y) xs) (are_apart xs) h in
    (apart_one x xs r.0, apart_all xs r.1)

twenty_true : are_apart twenty ≡ true
unfolding are_apart code
twenty_true = refl

twenty_apart : AllDiffer twenty
twenty_apart = apart_all twenty twenty_true

module _ (S : Tables) (rank : Prefix → ℕ) (p : Promise) (v : View) (s : Parts) (j : Joined S rank p v s) (begun : IsBegun p) where
  seat : (e : Prefix) → ((T : Tables) → Contains (entries T) e) → IsSeated S (state_in v s) e
  seat e all = (is_entry S e (all S), ap is_some ((j.fits begun).all e (λ T c. all T)).1)

  twenty_counted : AllByRecursion (IsCounted S) twenty
  twenty_counted =
      let plies = each-append (IsCounted S) (plies_from (host 0) 0 8) (plies_from last 1 7) (plies_counted S (host 0) 0 8 (five S).1 (omega arith)) (plies_counted S last 1 7 (five S).4 (omega arith)) in
      ((five S).0, ((five S).1, ((five S).2, ((five S).3, ((five S).4, plies)))))

  twenty_made : AllByRecursion (IsMade S (state_in v s)) twenty
  twenty_made =
      let plies = each-append (IsMade S (state_in v s)) (plies_from (host 0) 0 8) (plies_from last 1 7)
      (plies_made S (state_in v s) (host 0) 0 8 (seat (host 0) (λ T. (five T).1)) (omega arith))
      (plies_made S (state_in v s) last 1 7 (seat last (λ T. (five T).4)) (omega arith)) in
      (seat everything (λ T. (five T).0), (seat (host 0) (λ T. (five T).1), (seat many (λ T. (five T).2), (seat spare (λ T. (five T).3), (seat last (λ T. (five T).4), plies)))))

  -- so what is taken is less by twenty than the size
  pub took_few : (t : State) (free left : ℕ) → Took S (state_in v s) t free left → free + 20 ≤ left + size S
  took_few t free left took =
      let m = took.makes in
      let all = few S (m.made ++ twenty) (both_differ S (state_in v s) m.made twenty m.apart twenty_apart m.new twenty_made) (each-append (IsCounted S) m.made twenty m.counted twenty_counted) in
      let long = length-append m.made twenty in
      let paid = m.paid in
      omega (arith, all, long, paid)
