-- At rest as many objects are used as the tables' size says.
use Rattle.std.proofs.Common.{◌≡◌, ◌≢◌, ℕ, zero, suc, ◌+◌, ◌-◌, ◌≤◌, Bool, true, false, true≢false, List, [], ◌∷◌, ◌++◌, length, map, Option, Some, None, refl, sym, ap, ◌∙◌, subst, arith}
use Rattle.std.specs.Prelude.{Contains}
use Rattle.std.specs.List.{AllByRecursion, IsDistinct}
use Rattle.std.proofs.lemmas.List.{length-map}
use Rattle.fib_base_list.proofs.Booleans.{count_by-cons}
use Rattle.fib_base_list.proofs.Lists.{each-append, each-map, each-weaker}
use Rattle.fib_addr.specs.Prefixes.{Prefix, same_prefix}
use Rattle.fib_addr.proofs.PrefixLaws.{same_prefix-Decides}
use Rattle.fib_reach.specs.Walks.{AllDiffer}
use Rattle.fib_reach.proofs.Places.{length-le_from_differ}
use Rattle.fib_resolve.specs.Pairs.{entries}
use Rattle.fib_resolve.specs.Sizes.{adjacencies, plies, same_adjacency, size}
use Rattle.fib_resolve.specs.declared.pairs.Adjacency.{Adjacency}
use Rattle.fib_resolve.specs.declared.types.Tables.{Tables}
use Rattle.fib_resolve.proofs.Covering.{adjacencies_apart, entries_apart, plies_apart}
use Rattle.fib_resolve.proofs.OneList.{each-itself}
use Rattle.fib_resolve.proofs.PairLaws.{each-all}
use Rattle.fib_core_stands.proofs.Nibbles.{map_at}
use Rattle.fib_config.proofs.Within.{same_adjacency-Decides}
use Rattle.fib_core.specs.StandsFor.{Thing, ply_of, balance_of, adjacency_of, IsCounted}
use Rattle.fib_pool.specs.declared.object.Object.{Object}
use Rattle.fib_pool.specs.Objects.{at, free_in, is_free}
use Rattle.fib_stack.proofs.Counted.{differ_append, differ_map, thing_in, things, things_long}

-- lists whose elements differ
pub differ_distinct : {A : Type 0} (eq : A → A → Bool) → ((x y : A) → x ≡ y → eq x y ≡ true) → (xs : List A) → IsDistinct eq xs → AllDiffer xs
unfolding IsDistinct
differ_distinct eq same [] d = tt
differ_distinct eq same (x ∷ xs) d = (each-weaker (λ y. eq x y ≡ false) (λ y. x ≢ y) (λ y no is. true≢false (sym (same x y is) ∙ no)) xs d.0, differ_distinct eq same xs d.1)

pub all_counted : (S : Tables) → AllByRecursion (IsCounted S) (things S)
all_counted S = each-append (IsCounted S) (map ply_of (plies S)) (map balance_of (entries S) ++ map adjacency_of (adjacencies S))
    (each-map (IsCounted S) ply_of (plies S) (each-itself (plies S)))
    (each-append (IsCounted S) (map balance_of (entries S)) (map adjacency_of (adjacencies S)) (each-map (IsCounted S) balance_of (entries S) (each-itself (entries S))) (each-map (IsCounted S) adjacency_of (adjacencies S) (each-itself (adjacencies S))))

pub things_differ : (S : Tables) → AllDiffer (things S)
things_differ S = differ_append (map ply_of (plies S)) (map balance_of (entries S) ++ map adjacency_of (adjacencies S))
    (differ_map ply_of (λ q. Unit {0}) (λ x y a b is. ply_one x y is) (plies S) (each-all (λ q. Unit {0}) (λ q. tt) (plies S)) (differ_distinct same_prefix (λ x y is. (same_prefix-Decides x y).1 is) (plies S) (plies_apart S)))
    (differ_append (map balance_of (entries S)) (map adjacency_of (adjacencies S))
    (differ_map balance_of (λ q. Unit {0}) (λ x y a b is. balance_one x y is) (entries S) (each-all (λ q. Unit {0}) (λ q. tt) (entries S)) (differ_distinct same_prefix (λ x y is. (same_prefix-Decides x y).1 is) (entries S) (entries_apart S)))
    (differ_map adjacency_of (λ q. Unit {0}) (λ x y a b is. adjacency_one x y is) (adjacencies S) (each-all (λ q. Unit {0}) (λ q. tt) (adjacencies S)) (differ_distinct same_adjacency (λ x y is. (same_adjacency-Decides x y).1 is) (adjacencies S) (adjacencies_apart S)))
    (each-map (λ x. AllByRecursion (λ y. x ≢ y) (map adjacency_of (adjacencies S))) balance_of (entries S) (each-all _ (λ e. each-map (λ y. balance_of e ≢ y) adjacency_of (adjacencies S) (each-all _ (λ x is. balance_apart e x is) (adjacencies S))) (entries S))))
    (each-map (λ x. AllByRecursion (λ y. x ≢ y) (map balance_of (entries S) ++ map adjacency_of (adjacencies S))) ply_of (plies S) (each-all _ (λ q. each-append (λ y. ply_of q ≢ y) (map balance_of (entries S)) (map adjacency_of (adjacencies S))
    (each-map (λ y. ply_of q ≢ y) balance_of (entries S) (each-all _ (λ e is. ply_apart q e is) (entries S)))
    (each-map (λ y. ply_of q ≢ y) adjacency_of (adjacencies S) (each-all _ (λ x is. ply_away q x is) (adjacencies S)))) (plies S)))
  where
    ply_one : (x y : Prefix) → ply_of x ≡ ply_of y → x ≡ y
    ply_one x y is = cc

    balance_one : (x y : Prefix) → balance_of x ≡ balance_of y → x ≡ y
    balance_one x y is = cc

    adjacency_one : (x y : Adjacency) → adjacency_of x ≡ adjacency_of y → x ≡ y
    adjacency_one x y is = cc

    balance_apart : (e : Prefix) (x : Adjacency) → balance_of e ≡ adjacency_of x → ⊥
    balance_apart e x is = cc

    ply_apart : (q e : Prefix) → ply_of q ≡ balance_of e → ⊥
    ply_apart q e is = cc

    ply_away : (q : Prefix) (x : Adjacency) → ply_of q ≡ adjacency_of x → ⊥
    ply_away q x is = cc

-- the numbers of the objects that are taken, from k on
abbrev pub taken_from : ℕ → List (Option Object) → List ℕ
taken_from k [] = []
taken_from k (None ∷ xs) = taken_from (suc k) xs
taken_from k (Some x ∷ xs) = k ∷ taken_from (suc k) xs

pub taken_long : (k : ℕ) (xs : List (Option Object)) → length (taken_from k xs) + free_in xs ≡ length xs
unfolding free_in
taken_long k [] = refl
taken_long k (None ∷ xs) = (let r = taken_long (suc k) xs in let c = count_by-cons is_free None xs in omega (arith, r, c))
taken_long k (Some x ∷ xs) = (let r = taken_long (suc k) xs in let c = count_by-cons is_free (Some x) xs in omega (arith, r, c))

taken_above : (k : ℕ) (xs : List (Option Object)) → AllByRecursion (λ o. k ≤ o) (taken_from k xs)
taken_above k [] = tt
taken_above k (None ∷ xs) = each-weaker (λ o. suc k ≤ o) (λ o. k ≤ o) (λ o le. omega (arith, le)) (taken_from (suc k) xs) (taken_above (suc k) xs)
taken_above k (Some x ∷ xs) = (omega arith, each-weaker (λ o. suc k ≤ o) (λ o. k ≤ o) (λ o le. omega (arith, le)) (taken_from (suc k) xs) (taken_above (suc k) xs))

pub taken_differ : (k : ℕ) (xs : List (Option Object)) → AllDiffer (taken_from k xs)
taken_differ k [] = tt
taken_differ k (None ∷ xs) = taken_differ (suc k) xs
taken_differ k (Some x ∷ xs) = (each-weaker (λ o. suc k ≤ o) (λ o. k ≢ o) (λ o le is. omega (arith, le, is)) (taken_from (suc k) xs) (taken_above (suc k) xs), taken_differ (suc k) xs)

pub taken_in : (k o : ℕ) (xs : List (Option Object)) (x : Object) → at xs o ≡ Some x → Contains (taken_from k xs) (k + o)
taken_in k o [] x is = absurd (let bad : None ≡ Some x = is in cc)
taken_in k zero (None ∷ xs) x is = absurd (let bad : None ≡ Some x = is in cc)
taken_in k zero (Some y ∷ xs) x is = (0, omega arith, (let e : k ≡ k + 0 = omega arith in e))
taken_in k (suc o) (None ∷ xs) x is = subst (Contains (taken_from (suc k) xs)) (let e : suc k + o ≡ k + suc o = omega arith in e) (taken_in (suc k) o xs x is)
taken_in k (suc o) (Some y ∷ xs) x is =
    let r : Contains (taken_from (suc k) xs) (k + suc o) = subst (Contains (taken_from (suc k) xs)) (let e : suc k + o ≡ k + suc o = omega arith in e) (taken_in (suc k) o xs x is) in
    (suc r.0, omega (arith, r.1), r.2)

deeper : (k : ℕ) (e : Option Object) (xs : List (Option Object)) → AllByRecursion (λ o. (x : Object) × (at xs (o - suc k) ≡ Some x)) (taken_from (suc k) xs) → AllByRecursion (λ o. suc k ≤ o) (taken_from (suc k) xs)
    → AllByRecursion (λ o. (x : Object) × (at (e ∷ xs) (o - k) ≡ Some x)) (taken_from (suc k) xs)
deeper k e xs all above = both_weaker (taken_from (suc k) xs) all above
  where
    both_weaker : (os : List ℕ) → AllByRecursion (λ o. (x : Object) × (at xs (o - suc k) ≡ Some x)) os → AllByRecursion (λ o. suc k ≤ o) os → AllByRecursion (λ o. (x : Object) × (at (e ∷ xs) (o - k) ≡ Some x)) os
    both_weaker [] a b = tt
    both_weaker (o ∷ os) a b = ((a.0.0, ap (at (e ∷ xs)) (let le = b.0 in let z : o - k ≡ suc (o - suc k) = omega (arith, le) in z) ∙ a.0.1), both_weaker os a.1 b.1)

pub taken_is : (k : ℕ) (xs : List (Option Object)) → AllByRecursion (λ o. (x : Object) × (at xs (o - k) ≡ Some x)) (taken_from k xs)
taken_is k [] = tt
taken_is k (None ∷ xs) = deeper k None xs (taken_is (suc k) xs) (taken_above (suc k) xs)
taken_is k (Some y ∷ xs) = ((y, (let z : k - k ≡ 0 = omega arith in ap (at (Some y ∷ xs)) z)), deeper k (Some y) xs (taken_is (suc k) xs) (taken_above (suc k) xs))

-- numbers that are taken and numbers of what is counted are the same
pub same_number : (S : Tables) (names : Thing → ℕ) (objects : List (Option Object))
    → ((t u : Thing) → IsCounted S t → IsCounted S u → names t ≡ names u → t ≡ u)
    → ((t : Thing) → IsCounted S t → (x : Object) × (at objects (names t) ≡ Some x))
    → ((o : ℕ) (x : Object) → at objects o ≡ Some x → (t : Thing) × IsCounted S t × (names t ≡ o))
    → length objects - free_in objects ≡ size S
same_number S names objects apart there found =
    let all = all_counted S in
    let numbers : List ℕ = map names (things S) in
    let long : length numbers ≡ size S = length-map (things S) names ∙ things_long S in
    let taken : List ℕ = taken_from 0 objects in
    let up : length numbers ≤ length taken = length-le_from_differ numbers taken (differ_map names (IsCounted S) apart (things S) all (things_differ S))
    (each-map (Contains taken) names (things S) (each-weaker (IsCounted S) (λ t. Contains taken (names t)) (λ t c. let x = there t c in subst (Contains taken) (let e : 0 + names t ≡ names t = omega arith in e) (taken_in 0 (names t) objects x.0 x.1)) (things S) all)) in
    let down : length taken ≤ length numbers = length-le_from_differ taken numbers (taken_differ 0 objects)
    (each-weaker (λ o. (x : Object) × (at objects (o - 0) ≡ Some x)) (Contains numbers) (λ o x.
    let is : at objects o ≡ Some x.0 = ap (at objects) (let e : o ≡ o - 0 = omega arith in e) ∙ x.1 in
    let t = found o x.0 is in subst (Contains numbers) t.2 (map_at names (things S) t.0 (thing_in S t.0 t.1))) taken (taken_is 0 objects)) in
    let total = taken_long 0 objects in
    omega (arith, long, up, down, total)
