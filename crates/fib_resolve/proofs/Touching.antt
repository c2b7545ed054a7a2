-- What a prefix that isn't touched keeps.
use Rattle.std.proofs.Common.{arith, ◌≡◌, ℕ, zero, suc, ◌≤◌, Bool, true, false, cond, not, ◌||◌, ◌==◌, List, [], ◌∷◌, Option, Some, None, ◌⊎◌, inl, inr, refl, sym, ◌∙◌, ap, subst, Decides, ◌↔◌}
use Rattle.std.specs.Prelude.{Contains, filter}
use Rattle.std.specs.List.{list_any, list_all}
use Rattle.std.specs.Set.{is_member}
use Rattle.std.specs.Cmp.{IsEquivalence, decided}
use Rattle.std.specs.Cmp.Lexicographic.{pointwise}
use Rattle.std.proofs.lemmas.Bool.{false≢true, cases_lt, lt-ltb, le-ltb}
use Rattle.std.proofs.lemmas.Bool.Decides.{Decides-eqb}
use Rattle.std.proofs.lemmas.Map.Views.{Contains-from_any}
use Rattle.fib_base_list.proofs.Lists.{either}
use Rattle.fib_base_list.proofs.Booleans.{and_both}
use Rattle.fib_addr.specs.Prefixes.{Prefix, host, same_prefix}
use Rattle.fib_addr.proofs.PrefixLaws.{same_prefix-Decides}
use Rattle.fib_resolve.specs.Keys.{source_rank, kind_rank, next_hop_of, interface_of, need_rank, same_path}
use Rattle.fib_resolve.specs.Pairs.{pairs, chosen, best_pair, better, paths_of, cover, same_pair}
use Rattle.fib_resolve.specs.Loops.{looped, kind_targets}
use Rattle.fib_resolve.specs.Forwarding.{forwards, usable, usable_kind, is_up, is_met}
use Rattle.fib_resolve.specs.Buckets.{used, wanted, spread, of_least_preference}
use Rattle.fib_resolve.specs.Tables.{IsSound}
use Rattle.fib_resolve.specs.Touched.{pairs_of, same_pairs, differ, kind_changes, is_touched}
use Rattle.fib_resolve.specs.declared.pairs.Pair.{Pair}
use Rattle.fib_resolve.specs.declared.types.Path.{Path}
use Rattle.fib_resolve.specs.declared.types.PathKind.{PathKind}
use Rattle.fib_resolve.specs.declared.types.PathKind.TheVariants as kinds
use Rattle.fib_resolve.specs.declared.types.Need.{Need}
use Rattle.fib_resolve.specs.declared.types.Need.TheVariants as needs
use Rattle.fib_resolve.specs.declared.types.FibSource.{FibSource}
use Rattle.fib_resolve.specs.declared.types.Tables.{Tables}
use Rattle.fib_resolve.proofs.OneList.{one_list, source_by_rank}

-- the test of pairs is equality
kind_from : ℕ → ℕ → ℕ → PathKind
kind_from zero a i = kinds.Drop
kind_from (suc zero) a i = kinds.Local
kind_from (suc (suc zero)) a i = kinds.Attached i
kind_from (suc (suc (suc zero))) a i = kinds.Hop a i
kind_from (suc (suc (suc (suc zero)))) a i = kinds.Recursive a
kind_from (suc (suc (suc (suc (suc n))))) a i = kinds.Cover

kind_back : (kind : PathKind) → kind_from (kind_rank kind) (next_hop_of kind) (interface_of kind) ≡ kind
unfolding kind_from
kind_back kinds.Drop = refl
kind_back kinds.Local = refl
kind_back (kinds.Attached i) = refl
kind_back (kinds.Hop a i) = refl
kind_back (kinds.Recursive a) = refl
kind_back kinds.Cover = refl

need_from : ℕ → Need
need_from zero = needs.Any
need_from (suc zero) = needs.Host
need_from (suc (suc n)) = needs.Attached

need_back : (need : Need) → need_from (need_rank need) ≡ need
unfolding need_from
need_back needs.Any = refl
need_back needs.Host = refl
need_back needs.Attached = refl

same_kind : (k l : PathKind) → kind_rank k ≡ kind_rank l → next_hop_of k ≡ next_hop_of l → interface_of k ≡ interface_of l → k ≡ l
same_kind k l r a i =
    sym (kind_back k)
    ∙ (ap (λ (n : ℕ). kind_from n (next_hop_of k) (interface_of k)) r
    ∙ (ap (λ (n : ℕ). kind_from (kind_rank l) n (interface_of k)) a
    ∙ (ap (λ (n : ℕ). kind_from (kind_rank l) (next_hop_of l) n) i ∙ kind_back l)))

same_need : (m n : Need) → need_rank m ≡ need_rank n → m ≡ n
same_need m n r = sym (need_back m) ∙ (ap need_from r ∙ need_back n)

path_with : PathKind → Need → ℕ → ℕ → Path
path_with kind need weight preference = record { kind = kind; need = need; weight = weight; preference = preference }

record Parts (p q : Path) : Type 0 where
  kinds_are : p.kind ≡ q.kind
  needs_are : p.need ≡ q.need
  weights_are : p.weight ≡ q.weight
  preferences_are : p.preference ≡ q.preference

from_parts : (p q : Path) → Parts p q → p ≡ q
unfolding path_with
from_parts p q h =
    ap (λ k. path_with k p.need p.weight p.preference) h.kinds_are
    ∙ (ap (λ n. path_with q.kind n p.weight p.preference) h.needs_are
    ∙ (ap (λ w. path_with q.kind q.need w p.preference) h.weights_are ∙ ap (λ r. path_with q.kind q.need q.weight r) h.preferences_are))

eq_from : (m n : ℕ) → (m == n) ≡ true → m ≡ n
eq_from m n = (Decides-eqb m n).0

same_path-is : (p q : Path) → same_path p q ≡ true → p ≡ q
same_path-is p q h =
    let a = and_both _ _ h in
    let b = and_both _ _ a.1 in
    let k = and_both _ _ a.0 in
    let l = and_both _ _ k.1 in
    let m = and_both _ _ l.1 in
    from_parts p q (record {
      kinds_are = same_kind p.kind q.kind (eq_from _ _ k.0) (eq_from _ _ l.0) (eq_from _ _ m.0);
      needs_are = same_need p.need q.need (eq_from _ _ m.1);
      weights_are = eq_from _ _ b.0;
      preferences_are = eq_from _ _ b.1;
    })

eq_self : (n : ℕ) → (n == n) ≡ true
eq_self n = (Decides-eqb n n).1 refl

same_path-self : (p : Path) → same_path p p ≡ true
same_path-self p = rw (eq_self (kind_rank p.kind), eq_self (next_hop_of p.kind), eq_self (interface_of p.kind), eq_self (need_rank p.need), eq_self p.weight, eq_self p.preference) refl

same_list-is : (ps qs : List Path) → pointwise same_path ps qs ≡ true → ps ≡ qs
same_list-is [] [] h = refl
same_list-is [] (q ∷ qs) h = absurd (false≢true h)
same_list-is (p ∷ ps) [] h = absurd (false≢true h)
same_list-is (p ∷ ps) (q ∷ qs) h =
    let a = and_both (same_path p q) (pointwise same_path ps qs) h in
    ap (λ (x : Path). x ∷ ps) (same_path-is p q a.0) ∙ ap (λ (xs : List Path). q ∷ xs) (same_list-is ps qs a.1)

same_list-self : (ps : List Path) → pointwise same_path ps ps ≡ true
same_list-self [] = refl
same_list-self (p ∷ ps) = rw (same_path-self p) (same_list-self ps)

pair_with : Prefix → FibSource → List Path → Pair
pair_with prefix source paths = record { prefix = prefix; source = source; paths = paths }

from_pair : (x y : Pair) → x.prefix ≡ y.prefix → x.source ≡ y.source → x.paths ≡ y.paths → x ≡ y
unfolding pair_with
from_pair x y p s l =
    ap (λ q. pair_with q x.source x.paths) p ∙ (ap (λ t. pair_with y.prefix t x.paths) s ∙ ap (λ ps. pair_with y.prefix y.source ps) l)

same_pair-is : (x y : Pair) → same_pair x y ≡ true → x ≡ y
same_pair-is x y h =
    let a = and_both _ _ h in
    let b = and_both _ _ a.1 in
    from_pair x y ((same_prefix-Decides x.prefix y.prefix).0 a.0) (source_by_rank x.source y.source (eq_from _ _ b.0)) (same_list-is x.paths y.paths b.1)

same_pair-self : (x : Pair) → same_pair x x ≡ true
same_pair-self x = rw ((same_prefix-Decides x.prefix x.prefix).1 refl, eq_self (source_rank x.source), same_list-self x.paths) refl

pub same_pair-Decides : (x y : Pair) → Decides (same_pair x y) (x ≡ y)
same_pair-Decides x y = (same_pair-is x y, λ e. subst (λ z. same_pair x z ≡ true) e (same_pair-self x))

pub same_pair_equiv : IsEquivalence same_pair
same_pair_equiv = decided same_pair same_pair-Decides

-- the pairs of a prefix
kept_in : (e : Prefix) (xs : List Pair) (x : Pair) → e ≡ x.prefix → Contains xs x → Contains (filter (λ y. same_prefix e y.prefix) xs) x
kept_in e [] x p c = absurd (omega (arith, c.1))
kept_in e (y ∷ ys) x p (zero, lt, is) =
    let here : same_prefix e y.prefix ≡ true = (same_prefix-Decides e y.prefix).1 (p ∙ ap (λ (z : Pair). z.prefix) (sym is)) in
    rw here (0, omega arith, is)
kept_in e (y ∷ ys) x p (suc k, lt, is) =
    let rest = kept_in e ys x p (k, omega (arith, lt), is) in
    elim (either (same_prefix e y.prefix)) [
      | inl yes_in ↦ rw yes_in (suc rest.0, omega (arith, rest.1), rest.2)
      | inr not_in ↦ rw not_in rest
    ]

kept_from : (e : Prefix) (xs : List Pair) (x : Pair) → Contains (filter (λ y. same_prefix e y.prefix) xs) x → Contains xs x
kept_from e [] x c = c
kept_from e (y ∷ ys) x c =
    elim (either (same_prefix e y.prefix)) [
      | inl yes_in ↦ first_or y x ys (filter (λ z. same_prefix e z.prefix) ys) (rw yes_in at c) (kept_from e ys x)
      | inr not_in ↦ (let rest = kept_from e ys x (rw not_in at c) in (suc rest.0, omega (arith, rest.1), rest.2))
    ]
  where
    first_or : (a b : Pair) (all some : List Pair) → Contains (a ∷ some) b → (Contains some b → Contains all b) → Contains (a ∷ all) b
    first_or a b all some (zero, lt, is) f = (0, omega arith, is)
    first_or a b all some (suc k, lt, is) f = let rest = f (k, omega (arith, lt), is) in (suc rest.0, omega (arith, rest.1), rest.2)

all_at : (test : Pair → Bool) (xs : List Pair) (x : Pair) → list_all test xs ≡ true → Contains xs x → test x ≡ true
all_at test [] x h c = absurd (omega (arith, c.1))
all_at test (y ∷ ys) x h (zero, lt, is) = subst (λ z. test z ≡ true) is (and_both (test y) (list_all test ys) h).0
all_at test (y ∷ ys) x h (suc k, lt, is) = all_at test ys x (and_both (test y) (list_all test ys) h).1 (k, omega (arith, lt), is)

carried : (S T : Tables) (e : Prefix) → list_all (is_member same_pair (pairs_of T e)) (pairs_of S e) ≡ true → (x : Pair) → e ≡ x.prefix → Contains (pairs S) x → Contains (pairs T) x
carried S T e h x p c =
    kept_from e (pairs T) x (Contains-from_any same_pair-is x (pairs_of T e) (all_at (is_member same_pair (pairs_of T e)) (pairs_of S e) x h (kept_in e (pairs S) x p c)))

abbrev untouched : Tables → Tables → Prefix → Type 0
untouched S T e = is_touched S T e ≡ false

not_either : (b c : Bool) → (not b || c) ≡ false → (b ≡ true) × (c ≡ false)
not_either true c h = (refl, h)
not_either false c h = absurd (false≢true (sym h))

same_pairs_of : (S T : Tables) (e : Prefix) → untouched S T e → (same_pairs (pairs_of S e) (pairs_of T e) ≡ true) × (list_any (λ p. kind_changes S T e p.need p.kind) (chosen S e) ≡ false)
unfolding is_touched
same_pairs_of S T e h = not_either (same_pairs (pairs_of S e) (pairs_of T e)) (list_any (λ p. kind_changes S T e p.need p.kind) (chosen S e)) h

-- where the test finds the pairs of both the same, each pair of one is one of the other
pub same_pairs_members : (S T : Tables) (e : Prefix) (x : Pair) → same_pairs (pairs_of S e) (pairs_of T e) ≡ true → e ≡ x.prefix → Contains (pairs S) x ↔ Contains (pairs T) x
same_pairs_members S T e x h p =
    let both = and_both (list_all (is_member same_pair (pairs_of T e)) (pairs_of S e)) (list_all (is_member same_pair (pairs_of S e)) (pairs_of T e)) h in
    (carried S T e both.0 x p, carried T S e both.1 x p)

-- a prefix that isn't touched has the same pairs
pub untouched_pairs : (S T : Tables) (e : Prefix) (x : Pair) → untouched S T e → e ≡ x.prefix → Contains (pairs S) x ↔ Contains (pairs T) x
untouched_pairs S T e x h p = same_pairs_members S T e x (same_pairs_of S T e h).0 p

-- the best pair is one of the prefix, and no other has a better source
pub record IsBest (e : Prefix) (xs : List Pair) (x : Pair) : Type 0 where
  pub member : Contains xs x
  pub own : e ≡ x.prefix
  pub least : (y : Pair) → Contains xs y → e ≡ y.prefix → source_rank x.source ≤ source_rank y.source

abbrev pub BestOf : Prefix → List Pair → Option Pair → Type 0
BestOf e xs None = (y : Pair) → Contains xs y → e ≡ y.prefix → ⊥
BestOf e xs (Some x) = IsBest e xs x

in_cases : (x y : Pair) (xs : List Pair) → Contains (x ∷ xs) y → (x ≡ y) ⊎ Contains xs y
in_cases x y xs (zero, lt, is) = inl is
in_cases x y xs (suc k, lt, is) = inr (k, omega (arith, lt), is)

passed : (e : Prefix) (x : Pair) (xs : List Pair) (o : Option Pair) → same_prefix e x.prefix ≡ false → BestOf e xs o → BestOf e (x ∷ xs) o
passed e x xs None n h = λ y c p. elim (in_cases x y xs c) [
  | inl is ↦ false≢true (sym n ∙ (same_prefix-Decides e x.prefix).1 (p ∙ ap (λ (z : Pair). z.prefix) (sym is)))
  | inr later ↦ h y later p
]
passed e x xs (Some z) n h = record {
  member = (suc h.member.0, omega (arith, h.member.1), h.member.2);
  own = h.own;
  least = λ y c p. elim (in_cases x y xs c) [
    | inl is ↦ absurd (false≢true (sym n ∙ (same_prefix-Decides e x.prefix).1 (p ∙ ap (λ (w : Pair). w.prefix) (sym is))))
    | inr later ↦ h.least y later p
  ];
}

taken_first : (e : Prefix) (x : Pair) (xs : List Pair) → e ≡ x.prefix → ((y : Pair) → Contains xs y → e ≡ y.prefix → source_rank x.source ≤ source_rank y.source) → IsBest e (x ∷ xs) x
taken_first e x xs p h = record {
  member = (0, omega arith, refl);
  own = p;
  least = λ y c q. elim (in_cases x y xs c) [
    | inl is ↦ (let same = ap (λ (z : Pair). source_rank z.source) is in omega (arith, same))
    | inr later ↦ h y later q
  ];
}

better_of : (e : Prefix) (x : Pair) (xs : List Pair) (o : Option Pair) → e ≡ x.prefix → BestOf e xs o → IsBest e (x ∷ xs) (better x o)
better_of e x xs None p h = taken_first e x xs p (λ y c q. absurd (h y c q))
better_of e x xs (Some z) p h =
    elim (cases_lt (source_rank z.source) (source_rank x.source)) [
      | inl lt ↦ rw (lt-ltb (source_rank z.source) (source_rank x.source) lt) (record {
        member = (suc h.member.0, omega (arith, h.member.1), h.member.2);
        own = h.own;
        least = λ y c q. elim (in_cases x y xs c) [
          | inl is ↦ (let same = ap (λ (w : Pair). source_rank w.source) is in omega (arith, same, lt))
          | inr later ↦ h.least y later q
        ];
      })
      | inr ge ↦ rw (le-ltb (source_rank z.source) (source_rank x.source) ge) (taken_first e x xs p (λ y c q. let least = h.least y c q in omega (arith, least, ge)))
    ]

pub best_of : (e : Prefix) (xs : List Pair) → BestOf e xs (best_pair e xs)
unfolding best_pair
best_of e [] = λ y c p. omega (arith, c.1)
best_of e (x ∷ xs) =
    elim (either (same_prefix e x.prefix)) [
      | inl is ↦ rw is (better_of e x xs (best_pair e xs) ((same_prefix-Decides e x.prefix).0 is) (best_of e xs))
      | inr isnt ↦ rw isnt (passed e x xs (best_pair e xs) isnt (best_of e xs))
    ]

-- lists with the same pairs of a prefix, one a source, have one best list of it
pub best_paths_same : (e : Prefix) (xs ys : List Pair) → ((x y : Pair) → Contains ys x → Contains ys y → x.prefix ≡ y.prefix → x.source ≡ y.source → x.paths ≡ y.paths) → ((x : Pair) → e ≡ x.prefix → Contains xs x ↔ Contains ys x) →
    (o q : Option Pair) → BestOf e xs o → BestOf e ys q → paths_of o ≡ paths_of q
best_paths_same e xs ys one same None None h k = refl
best_paths_same e xs ys one same None (Some y) h k = absurd (h y ((same y k.own).1 k.member) k.own)
best_paths_same e xs ys one same (Some x) None h k = absurd (k x ((same x h.own).0 h.member) h.own)
best_paths_same e xs ys one same (Some x) (Some y) h k =
    let there = (same x h.own).0 h.member in
    let up = k.least x there h.own in
    let down = h.least y ((same y k.own).1 k.member) k.own in
    one x y there k.member (sym h.own ∙ k.own) (source_by_rank x.source y.source (omega (arith, up, down)))

pub same_pairs_chosen : (S T : Tables) (e : Prefix) → IsSound T → same_pairs (pairs_of S e) (pairs_of T e) ≡ true → chosen S e ≡ chosen T e
unfolding chosen
same_pairs_chosen S T e sound h =
    best_paths_same e (pairs S) (pairs T) (one_list T sound) (λ x p. same_pairs_members S T e x h p) (best_pair e (pairs S)) (best_pair e (pairs T)) (best_of e (pairs S)) (best_of e (pairs T))

pub untouched_chosen : (S T : Tables) (e : Prefix) → IsSound T → untouched S T e → chosen S e ≡ chosen T e
untouched_chosen S T e sound h = same_pairs_chosen S T e sound (same_pairs_of S T e h).0

same_bits : (b c : Bool) → differ b c ≡ false → b ≡ c
same_bits true true h = refl
same_bits true false h = absurd (false≢true (sym h))
same_bits false true h = absurd (false≢true (sym h))
same_bits false false h = refl

neither : (b c : Bool) → (b || c) ≡ false → (b ≡ false) × (c ≡ false)
neither true c h = absurd (false≢true (sym h))
neither false c h = (refl, h)

not_changed : (b : Bool) → not b ≡ false → b ≡ true
not_changed true h = refl
not_changed false h = absurd (false≢true (sym h))

-- the entries to which a path leads forward in both or in neither
abbrev SameTarget : Tables → Tables → Prefix → PathKind → Type 0
SameTarget S T e kind = (to : Prefix) → Contains (kind_targets S e kind) to → forwards S to ≡ forwards T to

kind_same : (S T : Tables) (e : Prefix) (need : Need) (kind : PathKind) → kind_changes S T e need kind ≡ false → SameTarget S T e kind → usable_kind S (forwards S) e need kind ≡ usable_kind T (forwards T) e need kind
kind_same S T e need kinds.Drop n t = refl
kind_same S T e need kinds.Local n t = refl
kind_same S T e need (kinds.Attached i) n t = same_bits (is_up S i) (is_up T i) (neither _ _ n).0
kind_same S T e need (kinds.Hop a i) n t = same_bits (is_up S i) (is_up T i) (neither _ _ n).0
kind_same S T e need (kinds.Recursive a) n t =
    let both = neither (differ (looped S e a) (looped T e a)) (differ (is_met S need a) (is_met T need a)) n in
    rw (same_bits (looped S e a) (looped T e a) both.0, same_bits (is_met S need a) (is_met T need a) both.1, t (host a) (0, omega arith, refl)) refl
kind_same S T e need kinds.Cover n t =
    t (cover S e.bits) (0, omega arith, refl) ∙ ap (forwards T) ((same_prefix-Decides (cover S e.bits) (cover T e.bits)).0 (not_changed _ n))

any_fails : {X : Type 0} (test : X → Bool) (xs : List X) (x : X) → list_any test xs ≡ false → Contains xs x → test x ≡ false
any_fails test [] x h c = absurd (omega (arith, c.1))
any_fails test (y ∷ ys) x h (zero, lt, is) = subst (λ z. test z ≡ false) is (neither (test y) (list_any test ys) h).0
any_fails test (y ∷ ys) x h (suc k, lt, is) = any_fails test ys x (neither (test y) (list_any test ys) h).1 (k, omega (arith, lt), is)

filter_same : {X : Type 0} (f g : X → Bool) (xs : List X) → ((x : X) → Contains xs x → f x ≡ g x) → filter f xs ≡ filter g xs
filter_same f g [] h = refl
filter_same f g (x ∷ xs) h =
    let rest = filter_same f g xs (λ y c. h y (suc c.0, omega (arith, c.1), c.2)) in
    let here = h x (0, omega arith, refl) in
    ap (λ (b : Bool). cond b (x ∷ filter f xs) (filter f xs)) here ∙ ap (λ ys. cond (g x) (x ∷ ys) ys) rest

usable_same : (S T : Tables) (e : Prefix) → untouched S T e → ((p : Path) → Contains (chosen S e) p → SameTarget S T e p.kind) → (p : Path) → Contains (chosen S e) p → usable S e p ≡ usable T e p
unfolding usable
usable_same S T e h t p c = kind_same S T e p.need p.kind (any_fails (λ q. kind_changes S T e q.need q.kind) (chosen S e) p (same_pairs_of S T e h).1 c) (t p c)

-- and if no target of its chosen list changed whether it forwards, the same paths are wanted
pub untouched_wanted : (S T : Tables) (e : Prefix) → IsSound T → untouched S T e → ((p : Path) → Contains (chosen S e) p → SameTarget S T e p.kind) → wanted S e ≡ wanted T e
unfolding wanted used
untouched_wanted S T e sound h t =
    ap (λ (ps : List Path). spread (of_least_preference ps))
    (filter_same (usable S e) (usable T e) (chosen S e) (usable_same S T e h t) ∙ ap (filter (usable T e)) (untouched_chosen S T e sound h))
