-- Maps from what stands in a list to its places, made from behind.
use Rattle.std.proofs.Common.{arith, drop, take, get_or, ◌||◌, ◌++◌, ◌==◌, ◌≡◌, ℕ, ◌+◌, ◌-◌, ◌<◌, Bool, true, false, List, [], ◌∷◌, length, Option, Some, None, refl, sym, ◌∙◌, ap, cond, inl, inr}
use Rattle.std.specs.Prelude.{IfSome, slice_get, find, option_map}
use Rattle.std.specs.List.{position_from, list_any}
use Rattle.std.proofs.lemmas.List.{take_more}
use Rattle.std.proofs.lemmas.List.Folds.{list_any-append}
use Rattle.std.specs.Cmp.{IsEquivalence}
use Rattle.fib_base_list.proofs.Lists.{either}
use Rattle.fib_addr.specs.Prefixes.{Prefix, same_prefix}
use Rattle.fib_addr.proofs.PrefixLaws.{same_prefix-Decides, same_prefix_equiv}
use Rattle.fib_resolve.specs.Pairs.{best_pair, better, is_address}
use Rattle.fib_resolve.specs.Resolution.{is_neighbor}
use Rattle.fib_resolve.specs.Sizes.{same_adjacency}
use Rattle.fib_resolve.specs.declared.pairs.Pair.{Pair}
use Rattle.fib_resolve.specs.declared.pairs.Adjacency.{Adjacency}
use Rattle.fib_resolve.specs.declared.types.Address.{Address}
use Rattle.fib_resolve.specs.declared.types.Neighbor.{Neighbor}
use Rattle.fib_resolve_pairs.specs.inner.Places.{pair_at, AreOwn}

-- an item more in front
pub place_more : {K : Type 0} (eq : K → K → Bool) → IsEquivalence eq → (now was : K → Option ℕ) (x : K) (xs rest : List K) (i : ℕ) → 0 < i → xs ≡ x ∷ rest →
    ((q : K) → now q ≡ cond (eq x q) (Some (i - 1)) (was q)) → ((q : K) → was q ≡ position_from (eq q) i rest) → (q : K) → now q ≡ position_from (eq q) (i - 1) xs
place_more eq laws now was x xs rest i pos front put known q =
    let back : i - 1 + 1 ≡ i = omega (arith, pos) in
    put q ∙ (ap (λ (b : Bool). cond b (Some (i - 1)) (was q)) (laws.symm x q)
    ∙ (ap (λ (o : Option ℕ). cond (eq q x) (Some (i - 1)) o) (known q ∙ ap (λ (n : ℕ). position_from (eq q) n rest) (sym back))
    ∙ sym (ap (position_from (eq q) (i - 1)) front)))

-- a pair more in front: the place of the better one
module _ (now was : Prefix → Option ℕ) (all rest : List Pair) (x : Pair) (xs : List Pair) (place : ℕ) (put : (q : Prefix) → now q ≡ cond (same_prefix x.prefix q) (Some place) (was q)) where
  pub inside_more : (inside : (q : Prefix) → IfSome (was q) (λ k. k < length all)) → place < length all → (q : Prefix) → IfSome (now q) (λ k. k < length all)
  inside_more inside small q =
      elim (either (same_prefix x.prefix q)) [
        | inl is ↦ rw (put q, is) small
        | inr isnt ↦ rw (put q, isnt) (inside q)
      ]

  pub best_more : ((q : Prefix) → pair_at all (was q) ≡ best_pair q rest) → slice_get all place ≡ Some (better x (pair_at all (was x.prefix))) → xs ≡ x ∷ rest →
      (q : Prefix) → pair_at all (now q) ≡ best_pair q xs
  unfolding best_pair
  best_more known better_is front q =
      elim (either (same_prefix x.prefix q)) [
        | inl is ↦ (let same : x.prefix ≡ q = (same_prefix-Decides x.prefix q).0 is in
            let back : same_prefix q x.prefix ≡ true = same_prefix_equiv.symm q x.prefix ∙ is in
            rw (front, put q, is, back) (better_is ∙ ap (λ (o : Option Pair). Some (better x o)) (known x.prefix ∙ ap (λ p. best_pair p rest) same)))
        | inr isnt ↦ (let back : same_prefix q x.prefix ≡ false = same_prefix_equiv.symm q x.prefix ∙ isnt in
            rw (front, put q, isnt, back) (known q))
      ]

pub none_best : (xs : List Pair) (p : Prefix) → None ≡ best_pair p (drop (length xs) xs)
unfolding best_pair
none_best [] p = refl
none_best (x ∷ xs) p = none_best xs p

or_one : (a b : Bool) → cond b true a ≡ a || (b || false)
or_one true true = refl
or_one true false = refl
or_one false true = refl
or_one false false = refl

-- an address more
pub own_more : (xs : List Address) (i : ℕ) (a : Address) (now was : List ℕ) → i < length xs → a ≡ get_or xs i a →
    ((x : ℕ) → list_any (λ n. x == n) now ≡ cond (a.addr == x) true (list_any (λ n. x == n) was)) → AreOwn (take i xs) was → AreOwn (take (i + 1) xs) now
own_more xs i a now was lt is put own x =
    put x
    ∙ (ap (λ (b : Bool). cond (a.addr == x) true b) (own x)
    ∙ (or_one (is_address (take i xs) x) (a.addr == x)
    ∙ (sym (list_any-append (λ b. b.addr == x) (take i xs) (a ∷ []))
    ∙ ap (λ (ys : List Address). is_address ys x) (ap (λ (b : Address). take i xs ++ b ∷ []) is ∙ sym (take_more xs i a lt)))))

-- a neighbor more in front
pub macs_more : (now was : Adjacency → Option ℕ) (n : Neighbor) (rest xs : List Neighbor) → xs ≡ n ∷ rest →
    ((q : Adjacency) → now q ≡ cond (same_adjacency (record { interface = n.interface; next_hop = n.addr }) q) (Some n.mac) (was q)) →
    ((i a : ℕ) → was (record { interface = i; next_hop = a }) ≡ option_map (λ m. m.mac) (find (is_neighbor i a) rest)) →
    (i a : ℕ) → now (record { interface = i; next_hop = a }) ≡ option_map (λ m. m.mac) (find (is_neighbor i a) xs)
macs_more now was n rest xs front put known i a =
    elim (either (is_neighbor i a n)) [
      | inl is ↦ rw (front, put (record { interface = i; next_hop = a }), is) refl
      | inr isnt ↦ rw (front, put (record { interface = i; next_hop = a }), isnt) (known i a)
    ]
