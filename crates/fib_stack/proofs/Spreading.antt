-- Sixteen buckets are shared among the used paths of a list.
use Rattle.std.proofs.Common.{◌≡◌, ◌<◌, ◌≤◌, Bool, List, [], ◌∷◌, length, map, sym, ap, arith}
use Rattle.std.specs.Prelude.{All, filter, sum, ◌==◌}
use Rattle.std.proofs.lemmas.List.{length-map}
use Rattle.std.proofs.lemmas.List.Elements.{All-filter, All-head, All-map}
use Rattle.std.proofs.lemmas.List.Sums.{length-filter, count_by-le-length, sum_by-cons}
use Rattle.fib_buckets.specs.Shares.{buckets}
use Rattle.fib_addr.specs.Prefixes.{Prefix}
use Rattle.fib_resolve.specs.Aims.{marked, marked_list}
use Rattle.fib_resolve.specs.Pairs.{chosen}
use Rattle.fib_resolve.specs.Tables.{IsSound}
use Rattle.fib_resolve.specs.declared.aims.Marked.{Marked}
use Rattle.fib_resolve.specs.declared.types.Tables.{Tables}
use Rattle.fib_resolve.proofs.PairLaws.{chosen_short}
use Rattle.fib_resolve_changes.specs.Wanted.{least_mark, of_least_mark, spread_marks}

no_longer : (p : Marked → Bool) (ms : List Marked) → length (filter p ms) ≤ length ms
no_longer p ms = omega (arith, length-filter p ms, count_by-le-length p ms)

pub few_used : (p : Marked → Bool) (ms : List Marked) → length ms ≤ 16 → length (of_least_mark (filter p ms)) ≤ 16
few_used p ms few = omega (arith, few, no_longer p ms, no_longer (λ m. m.preference == least_mark (filter p ms)) (filter p ms))

positive : (ms : List Marked) → All (λ m. 0 < m.weight) ms → 0 < length ms → 0 < sum (map (λ m. m.weight) ms)
positive [] h l = absurd (omega (arith, l))
positive (q ∷ qs) h l = omega (arith, All-head (λ m. 0 < m.weight) q qs h, sum_by-cons (λ x. x) q.weight (map (λ m. m.weight) qs))

pub some_used : (p : Marked → Bool) (ms : List Marked) → All (λ m. 0 < m.weight) ms → 0 < length (of_least_mark (filter p ms)) → 0 < sum (map (λ m. m.weight) (of_least_mark (filter p ms)))
some_used p ms h l =
    positive (of_least_mark (filter p ms))
    (All-filter (λ m. m.preference == least_mark (filter p ms)) (λ m. 0 < m.weight) (filter p ms) (All-filter p (λ m. 0 < m.weight) ms h)) l

pub none_spread : (us ms : List Marked) → us ≡ ms → length us ≡ 0 → spread_marks ms ≡ []
unfolding buckets
none_spread [] ms e l = ap spread_marks (sym e)
none_spread (u ∷ us) ms e l = absurd (omega (arith, l))

-- the marked list of an entry is short
pub marked_few : (S : Tables) (e : Prefix) → IsSound S → length (marked_list S e) ≤ 16
unfolding marked_list
marked_few S e sound = let h = (chosen_short S sound e).few in omega (arith, h, length-map (chosen S e) (marked S e))

pub marked_weighted : (S : Tables) (e : Prefix) → IsSound S → All (λ m. 0 < m.weight) (marked_list S e)
unfolding marked_list
marked_weighted S e sound = All-map (λ m. 0 < m.weight) (marked S e) (chosen S e) (chosen_short S sound e).weighted
