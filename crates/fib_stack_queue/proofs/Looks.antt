-- Both lists of a queue answer a look-up alike.
use Rattle.std.proofs.Common.{arith, ◌≡◌, ℕ, ◌<◌, ◌≤◌, ⊎_elim, inl, inr, true, false, eq-eqb, ne_eqb, List, [], ◌∷◌, Option, Some, None, refl, sym, ap, subst, ◌∙◌}
use Rattle.std.specs.Prelude.{IfSome, slice_get, option_copied}
use Rattle.std.specs.Borrow.{Bor}
use Rattle.std.specs.Slice.{IsItemAt}
use Rattle.std.proofs.lemmas.Option.{slice_get_read, slice_get_past}
use Rattle.std.specs.List.{AllByRecursion}
use Rattle.std.proofs.lemmas.Bool.{true≢false}
use native.Mathlib.Decide.{ℕ_discrete}
use mathlib.Core.Logic.{dite}
use Rattle.fib_addr.specs.Prefixes.{Prefix, IsPrefix, same_prefix}
use Rattle.fib_addr.proofs.PrefixLaws.{same_prefix-Decides}
use Rattle.fib_base_list.proofs.Lists.{either}
use Rattle.fib_base_ordered.specs.Sets.{found, first_of}
use Rattle.fib_stack_queue.specs.Queues.{prefix_key, turn_key, key_in, rank_in, IsLeast}
use Rattle.fib_stack_queue.specs.declared.order.Queued.{Queued}
use Rattle.fib_stack_queue.specs.inner.Steps.{IsIn, AreInStep}
use Rattle.fib_stack_queue.proofs.Keys.{not_true, same_key, short, before_rank}

abbrev pub rank_of : Option Queued → Option ℕ
rank_of None = None
rank_of (Some q) = Some q.rank

same_some : {X : Type 0} (x y : X) → Some x ≡ Some y → x ≡ y
same_some x y e = cc

pub is_same : (q : Queued) (e : Prefix) → same_prefix q.prefix e ≡ true → q.prefix ≡ e
is_same q e h = (same_prefix-Decides q.prefix e).0 h

-- what is found has the key
pub found_key : (kept : List Queued) (k : ℕ) (q : Queued) → found key_in kept k ≡ Some q → key_in q ≡ k
found_key [] k q e = absurd (cc)
found_key (x ∷ kept) k q e = dite (ℕ_discrete (key_in x) k)
    (λ same. let f : Some x ≡ Some q = (rw (eq-eqb (key_in x) k same) at e) in subst (λ (y : Queued). key_in y ≡ k) (same_some x q f) same)
    (λ ne. found_key kept k q (rw (ne_eqb (key_in x) k ne) at e))

pub each_in : (P : Queued → Type 0) (xs : List Queued) (q : Queued) → AllByRecursion P xs → IsIn xs q → P q
each_in P [] q h i = absurd i
each_in P (x ∷ xs) q h (inl e) = subst P e h.0
each_in P (x ∷ xs) q h (inr i) = each_in P xs q h.1 i

module _ (kept : List Queued) (e : Prefix) (lt : e.len < 64) where
  pub not_there : (order : List Queued) → AllByRecursion (λ q. found key_in kept (key_in q) ≡ Some q) order → found key_in kept (prefix_key e) ≡ None → rank_in order e ≡ None
  not_there [] real none = refl
  not_there (x ∷ xs) real none =
      let f : same_prefix x.prefix e ≡ false = not_true (same_prefix x.prefix e) (λ is. let g : found key_in kept (prefix_key e) ≡ Some x = subst (λ (p : Prefix). found key_in kept (prefix_key p) ≡ Some x) (is_same x e is) real.0 in let n : None ≡ Some x = sym none ∙ g in absurd (cc)) in
      rw f (not_there xs real.1 none)

  pub is_there : (order : List Queued) (q : Queued) → AllByRecursion (λ q. IsPrefix q.prefix) order → AllByRecursion (λ q. found key_in kept (key_in q) ≡ Some q) order → found key_in kept (prefix_key e) ≡ Some q → IsIn order q → rank_in order e ≡ Some q.rank
  is_there [] q ps real h i = absurd i
  is_there (x ∷ xs) q ps real h i = ⊎_elim
      (λ (is : same_prefix x.prefix e ≡ true).
      let g : found key_in kept (prefix_key e) ≡ Some x = subst (λ (p : Prefix). found key_in kept (prefix_key p) ≡ Some x) (is_same x e is) real.0 in
      let s : x ≡ q = same_some x q (sym g ∙ h) in
      rw is (ap (λ (y : Queued). Some y.rank) s))
      (λ (isnt : same_prefix x.prefix e ≡ false). rw isnt (is_there xs q ps.1 real.1 h (later isnt i)))
      (either (same_prefix x.prefix e))
    where
      later : same_prefix x.prefix e ≡ false → IsIn (x ∷ xs) q → IsIn xs q
      later isnt (inr j) = j
      later isnt (inl s) =
          let k : key_in q ≡ prefix_key e = found_key kept (prefix_key e) q h in
          let p : x.prefix ≡ e = same_key x.prefix e (short x.prefix ps.0) lt (ap key_in s ∙ k) in
          absurd (true≢false (sym ((same_prefix-Decides x.prefix e).1 p) ∙ isnt))

-- the rank of a prefix is that of what is found
pub looks : (order kept : List Queued) → AreInStep order kept → (e : Prefix) → e.len < 64 → rank_in order e ≡ rank_of (found key_in kept (prefix_key e))
looks order kept h e lt = by_found (found key_in kept (prefix_key e)) refl
  where
    by_found : (o : Option Queued) → found key_in kept (prefix_key e) ≡ o → rank_in order e ≡ rank_of (found key_in kept (prefix_key e))
    by_found None is = not_there kept e lt order h.real is ∙ ap rank_of (sym is)
    by_found (Some q) is = is_there kept e lt order q h.prefixes h.real is (h.there (prefix_key e) q is) ∙ ap rank_of (sym is)

-- what is longer than any prefix isn't queued
pub long_not : (order : List Queued) → AllByRecursion (λ q. IsPrefix q.prefix) order → (e : Prefix) → 64 ≤ e.len → rank_in order e ≡ None
long_not [] ps e le = refl
long_not (x ∷ xs) ps e le =
    let f : same_prefix x.prefix e ≡ false = not_true (same_prefix x.prefix e) (λ is. let l : x.prefix.len ≡ e.len = ap (λ (p : Prefix). p.len) (is_same x e is) in let s : x.prefix.len < 64 = short x.prefix ps.0 in absurd (omega (arith, l, s, le))) in
    rw f (long_not xs ps.1 e le)

-- the first of the list is the least
rank_at : (xs : List Queued) (d : Prefix) (r least : ℕ) → AllByRecursion (λ q. least ≤ q.rank) xs → rank_in xs d ≡ Some r → least ≤ r
rank_at [] d r least h e = absurd (cc)
rank_at (x ∷ xs) d r least h e = ⊎_elim
    (λ (is : same_prefix x.prefix d ≡ true). let f : Some x.rank ≡ Some r = (rw is at e) in subst (λ (n : ℕ). least ≤ n) (same_some x.rank r f) h.0)
    (λ (isnt : same_prefix x.prefix d ≡ false). rank_at xs d r least h.1 (rw isnt at e))
    (either (same_prefix x.prefix d))

no_greater : (x : Queued) (xs : List Queued) → AllByRecursion (λ y. turn_key x < turn_key y) xs → AllByRecursion (λ q. IsPrefix q.prefix) xs → AllByRecursion (λ q. x.rank ≤ q.rank) xs
no_greater x [] h ps = tt
no_greater x (y ∷ ys) h ps = (before_rank x y ps.0 h.0, no_greater x ys h.1 ps.1)

pub first_least : (order kept : List Queued) → AreInStep order kept → (q : Queued) → first_of order ≡ Some q → IsLeast order q
first_least [] kept h q e = absurd (cc)
first_least (x ∷ xs) kept h q e = subst (IsLeast (x ∷ xs)) (same_some x q e) (record {
  here = (let t : same_prefix x.prefix x.prefix ≡ true = (same_prefix-Decides x.prefix x.prefix).1 refl in rw t refl);
  least = λ d r is. rank_at (x ∷ xs) d r x.rank ((let le : x.rank ≤ x.rank = omega arith in le), no_greater x xs h.ordered.0 h.prefixes.1) is;
})

pub least_if : (order kept : List Queued) → AreInStep order kept → (o : Option Queued) → o ≡ first_of order → IfSome o (IsLeast order)
least_if order kept h None e = tt
least_if order kept h (Some q) e = first_least order kept h q (sym e)

pub first_is : (order : List Queued) (o : Option Queued) → o ≡ slice_get order 0 → o ≡ first_of order
first_is [] o e = e
first_is (x ∷ xs) o e = e

-- what a look at a place gives
pub first_copied : (xs : List Queued) (o : Option (Bor Queued)) → IsItemAt xs 0 o → option_copied o ≡ slice_get xs 0
first_copied xs None e = sym (slice_get_past xs 0 e.3)
first_copied xs (Some x) e = sym (slice_get_read xs _ 0 x.now refl e.3.0 e.1)
