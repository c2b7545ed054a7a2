-- Keys are in a total order, and lists stay sorted by them.
use Rattle.std.proofs.Common.{arith, ◌≡◌, ℕ, ◌<◌, Bool, true, false, ◌==◌, List, [], ◌∷◌, length, ◌⊎◌, inl, inr, refl, sym, ◌∙◌, ap}
use Rattle.std.specs.Prelude.{filter}
use Rattle.std.specs.List.{AllByRecursion}
use Rattle.std.specs.Cmp.{IsTotalOrder, both_tied}
use Rattle.std.specs.declared.cmp.Ordering.{Ordering}
use Rattle.std.specs.declared.cmp.Ordering.TheVariants.{Less, Equal, Greater}
use Rattle.std.specs.Ordering.{is_lt, is_eq, nat_cmp, ordering_reverse}
use Rattle.std.proofs.lemmas.Bool.{false≢true}
use Rattle.std.proofs.lemmas.Bool.Decides.{nat_tests}
use Rattle.std.proofs.lemmas.Cmp.{nat_cmp_total, on_total, then_total}
use Rattle.fib_base_list.proofs.Lists.{either, each-weaker, each-filter}
use Rattle.fib_resolve.specs.Keys.{key_of, same_key, key_cmp, key_lt}
use Rattle.fib_resolve.specs.Tables.{IsSortedByKeys}
use Rattle.fib_resolve.specs.Edits.{set_path, set_paths}
use Rattle.fib_resolve.specs.declared.keys.Key.{Key}
use Rattle.fib_resolve.specs.declared.types.Path.{Path}

pub key_order : IsTotalOrder key_cmp
key_order =
    then_total (on_total (λ (k : Key). k.kind) nat_cmp_total)
    (then_total (on_total (λ (k : Key). k.next_hop) nat_cmp_total)
    (then_total (on_total (λ (k : Key). k.interface) nat_cmp_total) (on_total (λ (k : Key). k.need) nat_cmp_total)))

nat_tied : (x y : ℕ) → (x == y) ≡ is_eq (nat_cmp x y)
nat_tied x y = grind (arith, nat_tests)

same_is_eq : (a b : Key) → same_key a b ≡ is_eq (key_cmp a b)
same_is_eq a b =
    both_tied _ _ _ _ (nat_tied a.kind b.kind)
    (both_tied _ _ _ _ (nat_tied a.next_hop b.next_hop) (both_tied _ _ _ _ (nat_tied a.interface b.interface) (nat_tied a.need b.need)))

abbrev Ordered : Key → Key → Type 0
Ordered a b = (key_lt a b ≡ true) ⊎ ((key_cmp a b ≡ Equal) ⊎ (key_lt b a ≡ true))

by_cmp : (a b : Key) (o : Ordering) → key_cmp a b ≡ o → (key_cmp a b ≡ Less) ⊎ ((key_cmp a b ≡ Equal) ⊎ (key_cmp b a ≡ Less))
by_cmp a b Less e = inl e
by_cmp a b Equal e = inr (inl e)
by_cmp a b Greater e = inr (inr (key_order.antisymm b a ∙ ap ordering_reverse e))

pub key_lt-less : (a b : Key) → key_cmp a b ≡ Less → key_lt a b ≡ true
unfolding key_lt
key_lt-less a b e = ap is_lt e

less_from : (o : Ordering) → is_lt o ≡ true → o ≡ Less
less_from Less h = refl
less_from Equal h = absurd (false≢true h)
less_from Greater h = absurd (false≢true h)

equal_from : (o : Ordering) → is_eq o ≡ true → o ≡ Equal
equal_from Less h = absurd (false≢true h)
equal_from Equal h = refl
equal_from Greater h = absurd (false≢true h)

pub less_key_lt : (a b : Key) → key_lt a b ≡ true → key_cmp a b ≡ Less
unfolding key_lt
less_key_lt a b h = less_from (key_cmp a b) h

pub key_lt-trans : (a b c : Key) → key_lt a b ≡ true → key_lt b c ≡ true → key_lt a c ≡ true
key_lt-trans a b c h k = key_lt-less a c (key_order.trans a b c (less_key_lt a b h) (less_key_lt b c k))

pub key_lt-same : (a b c : Key) → same_key a b ≡ true → key_lt a c ≡ true → key_lt b c ≡ true
key_lt-same a b c h k =
    key_lt-less b c (sym (key_order.congr a b c (equal_from (key_cmp a b) (sym (same_is_eq a b) ∙ h))) ∙ less_key_lt a c k)

-- neither before nor the same is behind
pub key_lt-else : (a b : Key) → key_lt a b ≡ false → same_key a b ≡ false → key_lt b a ≡ true
key_lt-else a b h k =
    elim (by_cmp a b (key_cmp a b) refl) [
      | inl less ↦ absurd (false≢true (sym h ∙ key_lt-less a b less))
      | inr r ↦ elim r [
        | inl same ↦ absurd (false≢true (sym k ∙ (same_is_eq a b ∙ ap is_eq same)))
        | inr more ↦ key_lt-less b a more
      ]
    ]

-- a path set among others has what they have
pub each-set_path : (P : Path → Type 0) (p : Path) (qs : List Path) → P p → AllByRecursion P qs → AllByRecursion P (set_path p qs)
each-set_path P p [] h k = (h, tt)
each-set_path P p (q ∷ qs) h k =
    elim (either (key_lt (key_of q) (key_of p))) [
      | inl before ↦ rw before (k.0, each-set_path P p qs h k.1)
      | inr isnt ↦ elim (either (same_key (key_of q) (key_of p))) [
        | inl same ↦ rw (isnt, same) (h, k.1)
        | inr other ↦ rw (isnt, other) (h, k)
      ]
    ]

pub each-set_paths : (P : Path → Type 0) (old ps : List Path) → AllByRecursion P ps → AllByRecursion P old → AllByRecursion P (set_paths old ps)
each-set_paths P old [] h k = k
each-set_paths P old (p ∷ ps) h k = each-set_paths P (set_path p old) ps h.1 (each-set_path P p old h.0 k)

abbrev IsBehind : Path → Path → Type 0
IsBehind p q = key_lt (key_of p) (key_of q) ≡ true

sorted-set_path : (p : Path) (qs : List Path) → IsSortedByKeys qs → IsSortedByKeys (set_path p qs)
sorted-set_path p [] h = (tt, tt)
sorted-set_path p (q ∷ qs) h =
    elim (either (key_lt (key_of q) (key_of p))) [
      | inl before ↦ rw before (each-set_path (IsBehind q) p qs before h.0, sorted-set_path p qs h.1)
      | inr isnt ↦ elim (either (same_key (key_of q) (key_of p))) [
        | inl same ↦ rw (isnt, same) (each-weaker (IsBehind q) (IsBehind p) (λ x k. key_lt-same (key_of q) (key_of p) (key_of x) same k) qs h.0, h.1)
        | inr other ↦ (let first : IsBehind p q = key_lt-else (key_of q) (key_of p) isnt other in
            rw (isnt, other) ((first, each-weaker (IsBehind q) (IsBehind p) (λ x k. key_lt-trans (key_of p) (key_of q) (key_of x) first k) qs h.0), h))
      ]
    ]

pub sorted-set_paths : (old ps : List Path) → IsSortedByKeys old → IsSortedByKeys (set_paths old ps)
sorted-set_paths old [] h = h
sorted-set_paths old (p ∷ ps) h = sorted-set_paths (set_path p old) ps (sorted-set_path p old h)

pub sorted-filter : (test : Path → Bool) (ps : List Path) → IsSortedByKeys ps → IsSortedByKeys (filter test ps)
sorted-filter test [] h = tt
sorted-filter test (p ∷ ps) h =
    elim (either (test p)) [
      | inl passes ↦ rw passes (each-weaker (λ q. IsBehind p q × (test q ≡ true)) (IsBehind p) (λ q k. k.0) (filter test ps) (each-filter (IsBehind p) test ps h.0), sorted-filter test ps h.1)
      | inr fails ↦ rw fails (sorted-filter test ps h.1)
    ]

length-set_path : (p : Path) (qs : List Path) → 0 < length (set_path p qs)
length-set_path p [] = omega arith
length-set_path p (q ∷ qs) =
    elim (either (key_lt (key_of q) (key_of p))) [
      | inl before ↦ rw before (omega arith)
      | inr isnt ↦ elim (either (same_key (key_of q) (key_of p))) [
        | inl same ↦ rw (isnt, same) (omega arith)
        | inr other ↦ rw (isnt, other) (omega arith)
      ]
    ]

stays : (old ps : List Path) → 0 < length old → 0 < length (set_paths old ps)
stays old [] h = h
stays old (p ∷ ps) h = stays (set_path p old) ps (length-set_path p old)

-- a list in which something is set isn't empty
pub length-set_paths : (old ps : List Path) → 0 < length ps → 0 < length (set_paths old ps)
length-set_paths old [] h = absurd (omega (arith, h))
length-set_paths old (p ∷ ps) h = stays (set_path p old) ps (length-set_path p old)
