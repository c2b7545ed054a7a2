-- A wanted path is a usable one of the chosen list.
use Rattle.std.proofs.Common.{◌≡◌, ℕ, true, List, [], ◌∷◌, map, Option, Some, None}
use Rattle.std.specs.Prelude.{Contains, filter, flat_map, slice_get, option_to_list, IfSome}
use Rattle.std.specs.List.{AllByRecursion}
use Rattle.std.proofs.lemmas.List.Elements.{recursion_from_All, All-contains_itself}
use Rattle.fib_base_list.proofs.Lists.{each-filter, each-weaker, each-append, each-at}
use Rattle.fib_addr.specs.Prefixes.{Prefix}
use Rattle.fib_buckets.specs.Shares.{buckets}
use Rattle.fib_resolve.specs.Pairs.{chosen}
use Rattle.fib_resolve.specs.Forwarding.{usable}
use Rattle.fib_resolve.specs.Buckets.{used, wanted, of_least_preference}
use Rattle.fib_resolve.specs.declared.types.Path.{Path}
use Rattle.fib_resolve.specs.declared.types.Tables.{Tables}

option_each : {X : Type 0} (P : X → Type 0) (o : Option X) → IfSome o P → AllByRecursion P (option_to_list o)
option_each P None h = tt
option_each P (Some x) h = (h, tt)

each-at_places : (P : Path → Type 0) (ps : List Path) (js : List ℕ) → AllByRecursion P ps → AllByRecursion P (flat_map (λ j. option_to_list (slice_get ps j)) js)
each-at_places P ps [] h = tt
each-at_places P ps (j ∷ js) h =
    each-append P (option_to_list (slice_get ps j)) (flat_map (λ k. option_to_list (slice_get ps k)) js) (option_each P (slice_get ps j) (each-at P ps j h)) (each-at_places P ps js h)

-- what holds of a path that is wanted
abbrev pub IsWanted : Tables → Prefix → Path → Type 0
IsWanted S e p = Contains (chosen S e) p × (usable S e p ≡ true)

pub wanted_taken : (S : Tables) (e : Prefix) → AllByRecursion (IsWanted S e) (wanted S e)
unfolding wanted used
wanted_taken S e =
    let good = filter (usable S e) (chosen S e) in
    let usables : AllByRecursion (IsWanted S e) good = each-filter (Contains (chosen S e)) (usable S e) (chosen S e) (recursion_from_All (Contains (chosen S e)) (chosen S e) (All-contains_itself (chosen S e))) in
    let least : AllByRecursion (IsWanted S e) (of_least_preference good) = each-weaker _ (IsWanted S e) (λ x k. k.0) (of_least_preference good) (each-filter (IsWanted S e) _ good usables) in
    each-at_places (IsWanted S e) (of_least_preference good) (buckets (map (λ p. p.weight) (of_least_preference good))) least
