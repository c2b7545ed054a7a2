-- Prefixes by groups of four bits, and which plies there are.
use Rattle.std.proofs.Common.{◌≡◌, ℕ, zero, suc, ◌+◌, ◌-◌, ◌*◌, ◌/◌, ◌^◌, ◌<◌, ◌≤◌, ◌⊎◌, inl, inr, true, false, List, [], ◌∷◌, map, refl, sym, ap, ◌∙◌, subst, arith}
use Rattle.std.proofs.lemmas.Bool.{false≢true}
use Rattle.std.proofs.lemmas.Bool.Decides.{nat_tests}
use Rattle.std.proofs.lemmas.Nat.{pow-add}
use Rattle.std.proofs.Math.Nat.{div-div-eq-div-mul, mul-div_cancel, div-mul-le_self}
use Rattle.std.proofs.Math.Pow.{pow_pos}
use Rattle.std.proofs.lemmas.List.FromFn.{get_or-range_with_len, length-range_with_len}
use Rattle.std.proofs.lemmas.Map.Views.{list_any-from_Contains}
use Rattle.std.proofs.lemmas.List.Elements.{All-contains, All-from_recursion}
use Rattle.std.specs.Prelude.{Contains, filter, flat_map, ◌==◌, nat_le}
use Rattle.std.specs.List.{AllByRecursion, range_with_len}
use Rattle.std.specs.Set.{is_member}
use Rattle.fib_base_list.proofs.Lists.{either, each-weaker, each-map, each-flat_map, Contains-flat_map, Contains-nil}
use Rattle.fib_addr.specs.Prefixes.{Prefix, IsPrefix, size_of, contains, masked, same_prefix, nibble}
use Rattle.fib_addr.specs.Longest.{everything}
use Rattle.fib_addr.proofs.PrefixLaws.{same_fields, same_prefix-Decides, same_prefix_equiv}
use Rattle.fib_addr.proofs.LongestLaws.{longest_is_longest, longest_is_unique}
use Rattle.fib_resolve.specs.Pairs.{one, base_pairs, all_pairs, pairs, prefix_of, same_pair, entries, best}
use Rattle.fib_resolve.specs.declared.pairs.Pair.{Pair}
use Rattle.fib_resolve.specs.declared.types.PathKind.TheVariants as kinds
use Rattle.fib_resolve.specs.declared.types.FibSource.TheVariants as sources
use Rattle.fib_resolve.proofs.Touching.{same_pair-Decides, same_pair_equiv}
use Rattle.fib_resolve.specs.Sizes.{plies_of, plies}
use Rattle.fib_resolve.specs.declared.types.Tables.{Tables}
use Rattle.fib_resolve.proofs.Covering.{unique_in, filter_in, filter_from, best_longest}
use Rattle.fib_resolve.proofs.OneList.{each-itself}
use Rattle.fib_resolve.proofs.PairLaws.{each-unique}
use Rattle.fib_core.specs.StandsFor.{below, covering}

-- the prefix of a cell
cut : (d a : ℕ) → d ≤ 7 → a < 2 ^ 32 → a / size_of (4 * d) * size_of (4 * d) + nibble a d * size_of (4 * d + 4) ≡ a / size_of (4 * suc d) * size_of (4 * suc d)
cut zero a le lt = omega arith
cut (suc zero) a le lt = omega arith
cut (suc (suc zero)) a le lt = omega arith
cut (suc (suc (suc zero))) a le lt = omega arith
cut (suc (suc (suc (suc zero)))) a le lt = omega arith
cut (suc (suc (suc (suc (suc zero))))) a le lt = omega arith
cut (suc (suc (suc (suc (suc (suc zero)))))) a le lt = omega arith
cut (suc (suc (suc (suc (suc (suc (suc zero))))))) a le lt = omega arith
cut (suc (suc (suc (suc (suc (suc (suc (suc d)))))))) a le lt = absurd (omega arith)

pub below_masked : (d a : ℕ) → d ≤ 7 → a < 2 ^ 32 → below (masked a (4 * d)) (nibble a d) ≡ masked a (4 * suc d)
below_masked d a le lt = same_fields (below (masked a (4 * d)) (nibble a d)) (masked a (4 * suc d)) (cut d a le lt, omega arith)

-- a shorter prefix has the size of a longer one, some times
size_split : (short long : ℕ) → short ≤ long → long ≤ 32 → size_of short ≡ size_of long * 2 ^ (long - short)
size_split short long le small =
    let e : 32 - short ≡ (32 - long) + (long - short) = omega arith in
    ap (λ n. 2 ^ n) e ∙ pow-add 2 (32 - long) (long - short)

-- what is masked at a place lies in the same shorter prefixes
pub part_masked : (a short long : ℕ) → short ≤ long → long ≤ 32 → (masked a long).bits / size_of short ≡ a / size_of short
part_masked a short long le small =
    let s = size_split short long le small in
    ap (λ n. (masked a long).bits / n) s
    ∙ sym (div-div-eq-div-mul (masked a long).bits (size_of long) (2 ^ (long - short)))
    ∙ ap (λ n. n / 2 ^ (long - short)) (mul-div_cancel (a / size_of long) (pow_pos (32 - long)))
    ∙ div-div-eq-div-mul a (size_of long) (2 ^ (long - short))
    ∙ ap (λ n. a / n) (sym s)

pub contains_masked : (e : Prefix) (a n : ℕ) → e.len ≤ n → n ≤ 32 → contains e (masked a n).bits ≡ contains e a
contains_masked e a n le small = ap (λ x. x == (e.bits / size_of e.len)) (part_masked a e.len n le small)

-- an address in a prefix has its first bits
pub masked_same : (e : Prefix) (a n : ℕ) → contains e a ≡ true → n ≤ e.len → e.len ≤ 32 → masked e.bits n ≡ masked a n
masked_same e a n c le small =
    let s = size_split n e.len le small in
    let parts : a / size_of e.len ≡ e.bits / size_of e.len = grind (arith, nat_tests) in
    let same : e.bits / size_of n ≡ a / size_of n =
    ap (λ m. e.bits / m) s ∙ sym (div-div-eq-div-mul e.bits (size_of e.len) (2 ^ (e.len - n)))
    ∙ ap (λ m. m / 2 ^ (e.len - n)) (sym parts)
    ∙ div-div-eq-div-mul a (size_of e.len) (2 ^ (e.len - n)) ∙ ap (λ m. a / m) (sym s) in
    ap (λ m. record { bits = m * size_of n; len = n }) same

prefix_is : (p q : Prefix) → same_prefix p q ≡ true → p ≡ q
prefix_is p q = (same_prefix-Decides p q).0

pub map_at : {X Y : Type 0} (f : X → Y) (xs : List X) (x : X) → Contains xs x → Contains (map f xs) (f x)
map_at f [] x c = absurd (Contains-nil x c)
map_at f (y ∷ ys) x (zero, lt, is) = (0, omega arith, ap f is)
map_at f (y ∷ ys) x (suc k, lt, is) = let r = map_at f ys x (k, omega (arith, lt), is) in (suc r.0, omega (arith, r.1), r.2)

-- the prefix of every address is an entry
pub everything_entry : (S : Tables) → Contains (entries S) everything
unfolding entries pairs all_pairs base_pairs
everything_entry S =
    let p : Pair = one everything sources.DefaultRoute kinds.Drop in
    let first : Contains (all_pairs S) p = (0, omega arith, refl) in
    let there : Contains (pairs S) p = (unique_in same_pair same_pair_equiv (λ x y. (same_pair-Decides x y).0) (all_pairs S) p).0 first in
    (unique_in same_prefix same_prefix_equiv prefix_is (map prefix_of (pairs S)) everything).0 (map_at prefix_of (pairs S) p there)

-- an entry that is longer makes a ply
pub ply_there : (S : Tables) (e : Prefix) (k : ℕ) → Contains (entries S) e → 4 * k < e.len → Contains (plies S) (masked e.bits (4 * k))
unfolding plies
ply_there S e k c lt =
    let range : Contains (range_with_len 0 ((e.len + 3) / 4)) k = (k, (let n = length-range_with_len 0 ((e.len + 3) / 4) in omega arith), get_or-range_with_len 0 ((e.len + 3) / 4) k k (omega arith) ∙ (let z : 0 + k ≡ k = omega arith in z)) in
    let here : Contains (plies_of e) (masked e.bits (4 * k)) = map_at (λ i. masked e.bits (4 * i)) (range_with_len 0 ((e.len + 3) / 4)) k range in
    let all = Contains-flat_map plies_of (entries S) e (masked e.bits (4 * k)) c here in
    (unique_in same_prefix same_prefix_equiv prefix_is (everything ∷ flat_map plies_of (entries S)) (masked e.bits (4 * k))).0 (suc all.0, omega (arith, all.1), all.2)

pub ply_root : (S : Tables) → Contains (plies S) everything
unfolding plies
ply_root S = (unique_in same_prefix same_prefix_equiv prefix_is (everything ∷ flat_map plies_of (entries S)) everything).0 (0, omega arith, refl)

range_low : (m a n : ℕ) → a + n ≤ m → AllByRecursion (λ k. k < m) (range_with_len a n)
range_low m a zero le = tt
range_low m a (suc n) le = (omega arith, range_low m (a + 1) n (omega arith))

-- plies are at most 28 bits long
pub ply_short : (S : Tables) → ((q : Prefix) → Contains (entries S) q → IsPrefix q) → (q : Prefix) → Contains (plies S) q → q.len ≤ 28
unfolding plies
ply_short S fine q c = All-contains (λ p. p.len ≤ 28) (plies S) q (All-from_recursion (λ p. p.len ≤ 28) (plies S) (each-unique (λ p. p.len ≤ 28) same_prefix (everything ∷ flat_map plies_of (entries S)) (
  omega arith,
  each-flat_map (λ p. p.len ≤ 28) plies_of (entries S)
      (each-weaker (Contains (entries S)) (λ x. AllByRecursion (λ p. p.len ≤ 28) (plies_of x)) (λ x k. each-map (λ p. p.len ≤ 28) (λ i. masked x.bits (4 * i)) (range_with_len 0 ((x.len + 3) / 4))
      (each-weaker (λ i. i < 8) (λ i. 4 * i ≤ 28) (λ i lt. omega arith) (range_with_len 0 ((x.len + 3) / 4)) (range_low 8 0 ((x.len + 3) / 4) (let s = (fine x k).short in omega arith))))
      (entries S) (each-itself (entries S))),
))) c

-- where there is no deeper ply the longest prefix for all addresses of a cell is the best entry of each
module _ (S : Tables) (fine : (q : Prefix) → Contains (entries S) q → IsPrefix q) (a : ℕ) (small : a < 2 ^ 32) where
  fine_everything : IsPrefix everything
  fine_everything = record { short = omega arith; fits = omega arith; cleared = refl }

  fine_member : (p : Prefix) → Contains (entries S) p ⊎ (p ≡ everything) → IsPrefix p
  fine_member p (inl c) = fine p c
  fine_member p (inr e) = subst IsPrefix (sym e) fine_everything

  fitting : ℕ → List Prefix
  fitting n = filter (λ e. nat_le e.len n) (entries S)

  pub covering_best : (n : ℕ) → n ≤ 32 → ((r : Prefix) → Contains (entries S) r → contains r a ≡ true → r.len ≤ n) → covering S (masked a n) ≡ best S a
  covering_best n le none =
      let q : Prefix = masked a n in
      let low : q.bits < 2 ^ 32 = (let d = div-mul-le_self a (size_of n) in omega arith) in
      let c : Prefix = covering S q in
      let L : List Prefix = filter (λ e. nat_le e.len n) (entries S) in
      let is = longest_is_longest q.bits L low in
      let member : Contains (entries S) c ⊎ (c ≡ everything) = elim is.member [ inl k ↦ inl (filter_from (λ e. nat_le e.len n) (entries S) c k).0 | inr e ↦ inr e ] in
      let length_fits : c.len ≤ n = elim is.member [
        | inl k ↦ (let t = (filter_from (λ e. nat_le e.len n) (entries S) c k).1 in grind (arith, nat_tests))
        | inr e ↦ (let z : c.len ≡ 0 = ap (λ (p : Prefix). p.len) e in omega arith)
      ] in
      longest_is_unique a (entries S) c (best S a) (fine_member c member) (fine_member (best S a) (best_longest S a small).member)
      (record {
        member = member;
        matches = sym (contains_masked c a n length_fits le) ∙ is.matches;
        longest = λ r k m. (let fits : r.len ≤ n = none r k m in is.longest r (filter_in (λ e. nat_le e.len n) (entries S) r k (grind (arith, nat_tests))) (contains_masked r a n fits le ∙ m));
      })
      (best_longest S a small)

  -- an entry of the address that is longer makes a ply
  pub no_longer : (k : ℕ) → 4 * k ≤ 32 → is_member same_prefix (plies S) (masked a (4 * k)) ≡ false → (r : Prefix) → Contains (entries S) r → contains r a ≡ true → r.len ≤ 4 * k
  no_longer k le lacks r c m = elim (either (nat_le r.len (4 * k))) [
    | inl t ↦ grind (arith, nat_tests)
    | inr f ↦ (let longer : 4 * k < r.len = grind (arith, nat_tests) in
        let there : Contains (plies S) (masked a (4 * k)) = subst (Contains (plies S)) (masked_same r a (4 * k) m (omega arith) (fine r c).short) (ply_there S r k c longer) in
        absurd (false≢true (sym lacks ∙ list_any-from_Contains same_prefix_equiv (masked a (4 * k)) (plies S) there)))
  ]
