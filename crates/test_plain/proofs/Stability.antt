-- Marks after rounds.
use Rattle.std.proofs.Common.{arith, add-zero, add-suc, add-one, ◌≡◌, ℕ, zero, suc, ◌+◌, ◌-◌, ◌≤◌, Bool, false, List, [], ◌∷◌, map, length, refl, sym, ◌∙◌, ap}
use mathlib.Core.Path.{fun_ext}
use Rattle.std.specs.List.{list_any}
use Rattle.std.proofs.lemmas.List.{length-map}
use Rattle.fib_base_list.proofs.Lists.{list_any-map}
use Rattle.fib_reach.proofs.Rounds.{Agree}
use Rattle.fib_addr.specs.Prefixes.{Prefix}
use Rattle.fib_resolve.specs.Pairs.{entries, chosen}
use Rattle.fib_resolve.specs.Forwarding.{forwards, forwards_in, forwards_by, limit, usable_by}
use Rattle.fib_resolve.specs.declared.types.Tables.{Tables}
use Rattle.fib_resolve.proofs.Steady.{never, forwards_in-steady, agree_everywhere, next_round}
use Rattle.test_plain.specs.inner.Rows.{rows_of, facts_of, facts_of_path, usable_now}
use Rattle.test_plain.specs.declared.facts.PathFacts.{PathFacts}
use Rattle.test_plain.proofs.Leading.{Marks, usable_now-is}

pub round_marks : (S : Tables) (n : ℕ) (marks : List Bool) → marks ≡ map (forwards_in S n) (entries S) → Marks S (forwards_in S n) marks
round_marks S n marks h = record { kept = h; others = λ p k. never S n p k }

list_any-same : {X : Type 0} (f g : X → Bool) → ((x : X) → f x ≡ g x) → (xs : List X) → list_any f xs ≡ list_any g xs
list_any-same {X} f g h xs = ap (λ (t : X → Bool). list_any t xs) (fun_ext h)

row_forwards : (S : Tables) (n : ℕ) (marks : List Bool) (e : Prefix) → Marks S (forwards_in S n) marks → list_any (usable_now marks) (facts_of S e) ≡ forwards_in S (suc n) e
unfolding facts_of forwards_in forwards_by
row_forwards S n marks e m =
    list_any-map (facts_of_path S e) (usable_now marks) (chosen S e) ∙ list_any-same (λ p. usable_now marks (facts_of_path S e p)) (usable_by S (forwards_in S n) e) (λ p. usable_now-is S (forwards_in S n) marks e p m) (chosen S e)

maps_same : {X Y Z : Type 0} (f : X → Y) (g : Y → Z) (h : X → Z) → ((x : X) → g (f x) ≡ h x) → (xs : List X) → map g (map f xs) ≡ map h xs
maps_same f g h k [] = refl
maps_same f g h k (x ∷ xs) = ap (λ y. y ∷ map g (map f xs)) (k x) ∙ ap (λ ys. h x ∷ ys) (maps_same f g h k xs)

-- one round more
pub next_round-marks : (S : Tables) (n : ℕ) (marks : List Bool) → marks ≡ map (forwards_in S n) (entries S) →
    map (λ row. list_any (usable_now marks) row) (rows_of S) ≡ map (forwards_in S (n + 1)) (entries S)
unfolding rows_of
next_round-marks S n marks h =
    rw add-one (maps_same (facts_of S) (λ row. list_any (usable_now marks) row) (forwards_in S (suc n)) (λ e. row_forwards S n marks e (round_marks S n marks h)) (entries S))

pub first_round-marks : (S : Tables) → map (λ _. false) (rows_of S) ≡ map (forwards_in S 0) (entries S)
unfolding rows_of forwards_in
first_round-marks S = maps_same (facts_of S) (λ _. false) (λ _. false) (λ e. refl) (entries S)

agree_from_maps : {X : Type 0} (f g : X → Bool) (xs : List X) → map f xs ≡ map g xs → Agree f g xs
agree_from_maps f g [] h = tt
agree_from_maps f g (x ∷ xs) h = (heads h, agree_from_maps f g xs (tails h))
  where
    heads : {a b : Bool} {as' bs : List Bool} → a ∷ as' ≡ b ∷ bs → a ≡ b
    heads e = cc

    tails : {a b : Bool} {as' bs : List Bool} → a ∷ as' ≡ b ∷ bs → as' ≡ bs
    tails e = cc

stays : (S : Tables) (n k : ℕ) → forwards_in S n ≡ forwards_in S (suc n) → forwards_in S (n + k) ≡ forwards_in S (suc (n + k))
stays S n zero h = rw add-zero h
stays S n (suc k) h = rw add-suc (next_round S (n + k) (stays S n k h))

from_then_on : (S : Tables) (n k : ℕ) → forwards_in S n ≡ forwards_in S (suc n) → forwards_in S (n + k) ≡ forwards_in S n
from_then_on S n zero h = rw add-zero refl
from_then_on S n (suc k) h = rw add-suc (sym (stays S n k h) ∙ from_then_on S n k h)

-- a round that changes nothing is the last
pub stable-marks : (S : Tables) (n : ℕ) (marks next : List Bool) → n ≤ length (entries S) → marks ≡ map (forwards_in S n) (entries S) → next ≡ map (forwards_in S (n + 1)) (entries S) → marks ≡ next → next ≡ map (forwards S) (entries S)
unfolding forwards limit
stable-marks S n marks next small h k same =
    let agree = agree_everywhere S n (agree_from_maps (forwards_in S n) (forwards_in S (suc n)) (entries S) (sym h ∙ (same ∙ rw add-one at k))) in
    let m = length (entries S) + 1 in
    let split : n + (m - n) ≡ m = omega (arith, small) in
    let last : forwards_in S m ≡ forwards_in S n = rw split at (from_then_on S n (m - n) agree) in
    sym same ∙ (h ∙ ap (λ (f : Prefix → Bool). map f (entries S)) (sym last))

pub length-rows_of : (S : Tables) → length (rows_of S) ≡ length (entries S)
unfolding rows_of
length-rows_of S = length-map (entries S) (facts_of S)

pub last-marks : (S : Tables) (n : ℕ) (marks : List Bool) → marks ≡ map (forwards_in S n) (entries S) → length (entries S) + 1 ≤ n → marks ≡ map (forwards S) (entries S)
unfolding limit
last-marks S n marks h long = h ∙ ap (λ (f : Prefix → Bool). map f (entries S)) (fun_ext (λ e. forwards_in-steady S n e long))

-- what a round makes
pub round_makes : (S : Tables) (n : ℕ) (marks view next : List Bool) (rows : List (List PathFacts)) → rows ≡ rows_of S → view ≡ marks → marks ≡ map (forwards_in S n) (entries S) →
    next ≡ map (λ row. list_any (usable_now view) row) rows → next ≡ map (forwards_in S (n + 1)) (entries S)
round_makes S n marks view next rows r v h k =
    k ∙ (ap (λ (m : List Bool). map (λ row. list_any (usable_now m) row) rows) v ∙ (ap (λ (rs : List (List PathFacts)). map (λ row. list_any (usable_now marks) row) rs) r ∙ next_round-marks S n marks h))
