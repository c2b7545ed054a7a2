-- Places in an order as numbers that fall along edges.
use Rattle.std.proofs.Common.{arith, ◌+◌, ◌≡◌, ℕ, zero, suc, ◌<◌, ◌≤◌, Bool, true, false, List, [], ◌∷◌, length, get_or, inl, inr, refl, sym, ◌∙◌, ap}
use Rattle.std.proofs.Common.{subst}
use Rattle.std.specs.Prelude.{Contains, filter, slice_index, slice_index_or}
use Rattle.std.specs.List.{AllByRecursion}
use Rattle.std.proofs.lemmas.Bool.{cases_eq}
use Rattle.std.proofs.lemmas.List.Elements.{All-contains}
use Rattle.std.proofs.lemmas.Option.{slice_get-get_or}
use Rattle.fib_base_interned.proofs.Finding.{contains_at}
use Rattle.fib_loops.specs.Loops.{AreEdges}
use Rattle.fib_reach.proofs.Places.{length-le_from_differ}
use Rattle.fib_resolve.proofs.Covering.{filter_from}
use Rattle.fib_resolve_changes.proofs.Edits.{in_front, in_rest}
use Rattle.fib_entries_rows.proofs.Ranking.{AreRanked}

upto : ℕ → List ℕ
upto zero = []
upto (suc n) = n ∷ upto n

upto_length : (n : ℕ) → length (upto n) ≡ n
unfolding upto
upto_length zero = refl
upto_length (suc n) = ap suc (upto_length n)

upto_has : (n k : ℕ) → k < n → Contains (upto n) k
unfolding upto
upto_has zero k lt = absurd (omega (arith, lt))
upto_has (suc n) k lt = elim (cases_eq k n) [ inl is ↦ in_front n k (upto n) (sym is) | inr off ↦ in_rest n k (upto n) (upto_has n k (omega (arith, lt, off))) ]

each_in : (P : ℕ → Type 0) (xs : List ℕ) → ((x : ℕ) → Contains xs x → P x) → AllByRecursion P xs
each_in P [] h = tt
each_in P (x ∷ xs) h = (h x (in_front x x xs refl), each_in P xs (λ y c. h y (in_rest x y xs c)))

-- an order that has each node once is no longer than they are many
order_short : (order ranks : List ℕ) (nodes done : ℕ) → AreRanked 0 order ranks nodes done → length order ≤ nodes
order_short order ranks nodes done h =
    let le = length-le_from_differ order (upto nodes) h.once (each_in (Contains (upto nodes)) order (λ x c. upto_has nodes x ((h.all x).0 c))) in
    let n = upto_length nodes in
    omega (arith, le, n)

-- once all are numbered each number is below their count
pub numbers_below : (order ranks : List ℕ) (nodes done : ℕ) → AreRanked 0 order ranks nodes done → length order ≤ done → (n : ℕ) → Contains ranks n → n < nodes
numbers_below order ranks nodes done h full n (i, lt, is) =
    let len = h.len in
    let x = (h.all i).1 (omega (arith, lt, len)) in
    let k = x.0 in
    let inside = x.1 in
    let ranked = h.ranked k (omega (arith, inside, full)) in
    let here : slice_index order k ≡ i = index_is order k i inside x.2 in
    let value : slice_index ranks i ≡ n = index_is ranks i n lt is in
    let own : n ≡ 0 + k = sym value ∙ (ap (slice_index ranks) (sym here) ∙ ranked) in
    let short = order_short order ranks nodes done h in
    omega (arith, own, inside, short)
  where
    index_is : (xs : List ℕ) (i n : ℕ) → i < length xs → slice_index_or xs i n ≡ n → slice_index xs i ≡ n
    index_is [] i n lt is = absurd (omega (arith, lt))
    index_is (x ∷ xs) zero n lt is = is
    index_is (x ∷ xs) (suc i) n lt is = index_is xs i n (omega (arith, lt)) is

filter_short : {X : Type 0} (test : X → Bool) (xs : List X) → length (filter test xs) ≤ length xs
filter_short test [] = omega arith
filter_short test (x ∷ xs) = by (filter_short test xs) (test x) refl
  where
    by : length (filter test xs) ≤ length xs → (b : Bool) → test x ≡ b → length (filter test (x ∷ xs)) ≤ suc (length xs)
    by le true is = rw is (omega (arith, le))
    by le false is = rw is (omega (arith, le))

-- a filter that makes a list no shorter leaves all of it
pub filter_whole : {X : Type 0} (test : X → Bool) (xs : List X) → length (filter test xs) ≡ length xs → filter test xs ≡ xs
filter_whole test [] same = refl
filter_whole test (x ∷ xs) same = by (filter_short test xs) (filter_whole test xs) (test x) refl same
  where
    by : length (filter test xs) ≤ length xs → (length (filter test xs) ≡ length xs → filter test xs ≡ xs) → (b : Bool) → test x ≡ b
        → length (filter test (x ∷ xs)) ≡ suc (length xs) → filter test (x ∷ xs) ≡ x ∷ xs
    by le rest true is = rw is (λ all. ap (λ l. x ∷ l) (rest (omega (arith, all))))
    by le rest false is = rw is (λ short. absurd (omega (arith, le, short)))

-- edges that are left join nodes
pub filter_edges : (nodes : ℕ) (test : ℕ × ℕ → Bool) (edges left : List (ℕ × ℕ)) → left ≡ filter test edges → AreEdges nodes edges → AreEdges nodes left
filter_edges nodes test edges left is all k d lt =
    let x = get_or left k d in
    All-contains (λ (e : ℕ × ℕ). (e.0 < nodes) × (e.1 < nodes)) edges x all
    (filter_from test edges x (subst (λ l. Contains l x) is (contains_at left k x (slice_get-get_or left k d lt)))).0
