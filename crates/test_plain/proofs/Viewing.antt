-- What rows and marks say of paths.
use Rattle.std.proofs.Common.{arith, ◌≡◌, ℕ, zero, suc, ◌<◌, ◌≤◌, Bool, false, List, [], ◌∷◌, map, length, get_or, Option, Some, None, refl, sym, ◌∙◌, ap, sum}
use Rattle.std.specs.Prelude.{slice_get, filter, All, ◌==◌, option_map}
use Rattle.std.proofs.lemmas.List.Elements.{All-filter, All-head}
use Rattle.std.proofs.lemmas.List.Sums.{length-filter, count_by-le-length, sum_by-cons}
use Rattle.std.proofs.lemmas.List.{get_or-map, length-map}
use Rattle.fib_addr.specs.Prefixes.{Prefix}
use Rattle.fib_buckets.specs.Shares.{buckets}
use Rattle.fib_resolve.specs.Pairs.{entries, chosen}
use Rattle.fib_resolve.specs.Loops.{looped_one, looped_at}
use Rattle.fib_resolve.specs.Forwarding.{forwards, limit, usable, usable_one, usable_at}
use Rattle.fib_resolve.specs.Buckets.{least_preference, of_least_preference, used, spread, wanted, IsShort}
use Rattle.fib_resolve.specs.declared.types.Path.{Path}
use Rattle.fib_resolve.specs.declared.types.Tables.{Tables}
use Rattle.fib_resolve.proofs.Steady.{never}
use Rattle.fib_resolve.proofs.Entries.{chosen-no_entry}
use Rattle.fib_resolve_pairs.specs.Numbers.{number_in}
use Rattle.test_plain.specs.inner.Rows.{facts_of_path, facts_of, rows_of, usable_now}
use Rattle.test_plain.specs.declared.facts.PathFacts.{PathFacts}
use Rattle.test_plain.proofs.Leading.{Marks, usable_now-is}
use Rattle.fib_resolve_pairs.proofs.Numbers.{numbered, unnumbered}

pub row_numbered : (S : Tables) (e : Prefix) (i : ℕ) (d : List PathFacts) → number_in S e ≡ Some i → get_or (rows_of S) i d ≡ facts_of S e
unfolding rows_of
row_numbered S e i d h =
    let at = numbered S e i h in
    get_or-map (facts_of S) (entries S) i e d at.0 ∙ ap (facts_of S) (at.1 e)

pub row_unnumbered : (S : Tables) (e : Prefix) → number_in S e ≡ None → facts_of S e ≡ []
unfolding facts_of
row_unnumbered S e h = ap (map (facts_of_path S e)) (chosen-no_entry S e (unnumbered S e h))

pub length-rows : (S : Tables) (e : Prefix) (i : ℕ) → number_in S e ≡ Some i → i < length (rows_of S)
unfolding rows_of
length-rows S e i h = omega (arith, (numbered S e i h).0, length-map (entries S) (facts_of S))

forward_marks : (S : Tables) (marks : List Bool) → marks ≡ map (forwards S) (entries S) → Marks S (forwards S) marks
unfolding forwards
forward_marks S marks h = record { kept = h; others = λ p k. never S (limit S) p k }

slice_get-map : {X Y : Type 0} (f : X → Y) (xs : List X) (i : ℕ) → slice_get (map f xs) i ≡ option_map f (slice_get xs i)
slice_get-map f [] i = refl
slice_get-map f (x ∷ xs) zero = refl
slice_get-map f (x ∷ xs) (suc i) = slice_get-map f xs i

some_is : {X : Type 0} (x y : X) → Some x ≡ Some y → x ≡ y
some_is x y h = cc

usable_of : (S : Tables) (marks : List Bool) (e : Prefix) (o : Option Path) (x : PathFacts) → Marks S (forwards S) marks → Some x ≡ option_map (facts_of_path S e) o → usable_now marks x ≡ usable_one S e o
unfolding usable
usable_of S marks e None x m h = cc
usable_of S marks e (Some p) x m h = ap (usable_now marks) (some_is x (facts_of_path S e p) h) ∙ usable_now-is S (forwards S) marks e p m

-- a path that is there
pub usable_there : (S : Tables) (marks : List Bool) (e : Prefix) (row : List PathFacts) (place : ℕ) (x : PathFacts) → marks ≡ map (forwards S) (entries S) → row ≡ facts_of S e → slice_get row place ≡ Some x → usable_now marks x ≡ usable_at S e place
unfolding facts_of
usable_there S marks e row place x h r is =
    usable_of S marks e (slice_get (chosen S e) place) x (forward_marks S marks h) (sym is ∙ (ap (λ (xs : List PathFacts). slice_get xs place) r ∙ slice_get-map (facts_of_path S e) (chosen S e) place))

nothing_of : {X Y : Type 0} (f : X → Y) (o : Option X) → None ≡ option_map f o → o ≡ None
nothing_of f None h = refl
nothing_of f (Some x) h = cc

pub usable_nowhere : (S : Tables) (e : Prefix) (row : List PathFacts) (place : ℕ) → row ≡ facts_of S e → slice_get row place ≡ None → usable_at S e place ≡ false
unfolding facts_of
usable_nowhere S e row place r is =
    ap (usable_one S e) (nothing_of (facts_of_path S e) (slice_get (chosen S e) place) (sym is ∙ (ap (λ (xs : List PathFacts). slice_get xs place) r ∙ slice_get-map (facts_of_path S e) (chosen S e) place)))

looped_of : (S : Tables) (e : Prefix) (o : Option Path) (x : PathFacts) → Some x ≡ option_map (facts_of_path S e) o → x.looped ≡ looped_one S e o
unfolding facts_of_path
looped_of S e None x h = cc
looped_of S e (Some p) x h = ap (λ (y : PathFacts). y.looped) (some_is x (facts_of_path S e p) h)

pub looped_there : (S : Tables) (e : Prefix) (row : List PathFacts) (place : ℕ) (x : PathFacts) → row ≡ facts_of S e → slice_get row place ≡ Some x → x.looped ≡ looped_at S e place
unfolding facts_of
looped_there S e row place x r is =
    looped_of S e (slice_get (chosen S e) place) x (sym is ∙ (ap (λ (xs : List PathFacts). slice_get xs place) r ∙ slice_get-map (facts_of_path S e) (chosen S e) place))

pub looped_nowhere : (S : Tables) (e : Prefix) (row : List PathFacts) (place : ℕ) → row ≡ facts_of S e → slice_get row place ≡ None → looped_at S e place ≡ false
unfolding facts_of
looped_nowhere S e row place r is =
    ap (looped_one S e) (nothing_of (facts_of_path S e) (slice_get (chosen S e) place) (sym is ∙ (ap (λ (xs : List PathFacts). slice_get xs place) r ∙ slice_get-map (facts_of_path S e) (chosen S e) place)))

-- the path at a place, by its place
pub usable_here : (S : Tables) (e : Prefix) (place : ℕ) (p : Path) → slice_get (chosen S e) place ≡ Some p → usable_at S e place ≡ usable S e p
usable_here S e place p h = ap (usable_one S e) h

no_longer : (p : Path → Bool) (ps : List Path) → length (filter p ps) ≤ length ps
no_longer p ps = omega (arith, length-filter p ps, count_by-le-length p ps)

pub few_used : (p : Path → Bool) (ps : List Path) → IsShort ps → length (of_least_preference (filter p ps)) ≤ 16
few_used p ps h = omega (arith, h.few, no_longer p ps, no_longer (λ q. q.preference == least_preference (filter p ps)) (filter p ps))

positive : (ps : List Path) → All (λ q. 0 < q.weight) ps → 0 < length ps → 0 < sum (map (λ q. q.weight) ps)
positive [] h l = absurd (omega (arith, l))
positive (q ∷ qs) h l = omega (arith, All-head (λ p. 0 < p.weight) q qs h, sum_by-cons (λ x. x) q.weight (map (λ p. p.weight) qs))

pub some_used : (p : Path → Bool) (ps : List Path) → IsShort ps → 0 < length (of_least_preference (filter p ps)) → 0 < sum (map (λ q. q.weight) (of_least_preference (filter p ps)))
some_used p ps h l =
    positive (of_least_preference (filter p ps))
    (All-filter (λ q. q.preference == least_preference (filter p ps)) (λ q. 0 < q.weight) (filter p ps) (All-filter p (λ q. 0 < q.weight) ps h.weighted)) l

pub wanted_none : (S : Tables) (e : Prefix) (us : List Path) → us ≡ used S e → length us ≡ 0 → wanted S e ≡ []
unfolding wanted buckets
wanted_none S e [] h l = ap spread (sym h)
wanted_none S e (u ∷ us) h l = absurd (omega (arith, l))
