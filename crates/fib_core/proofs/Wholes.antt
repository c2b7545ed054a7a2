-- An adjacency is read whole: nothing of it changes while a pass stands there.
use Rattle.std.proofs.Common.{◌≡◌, ◌≢◌, ℕ, Bool, true, false, List, [], ◌∷◌, refl, sym, ap, ◌∙◌, subst, arith, get_or-set_other}
use Rattle.std.specs.Prelude.{slice_index, slice_set}
use Rattle.std.specs.List.{AllByRecursion}
use Rattle.fib_reach.specs.Walks.{AllDiffer}
use Rattle.fib_core.specs.declared.word.Word.{Word}
use Rattle.fib_core.specs.declared.word.Word.TheVariants as words
use Rattle.fib_union.specs.Unions.{owner}
use Rattle.fib_core.specs.Words.{decoded, tag_of, goes, target}
use Rattle.fib_core.specs.Union.{Union, Goes, Usable}
use Rattle.fib_core.specs.Trails.{Load, visited, arrive_if, stands, Walked, edge_if, arrived, StillHolds, IsWhole}
use Rattle.fib_core.proofs.Numbers.{decoded-zero, target_of}
use Rattle.fib_core.proofs.Unions.{usable_lies}

apart_here : (y : ℕ) (t : List Load) → AllByRecursion (λ v. y ≢ v) (visited t) → y ≢ stands t
apart_here y [] h = h.0
apart_here y (l ∷ t) h = by_cases (goes l.1) h (λ k. apart_here y t k)
  where
    by_cases : (b : Bool) → AllByRecursion (λ v. y ≢ v) (arrive_if b (target l.1) (visited t)) → (AllByRecursion (λ v. y ≢ v) (visited t) → y ≢ stands t) → y ≢ slice_index (arrive_if b (target l.1) (visited t)) 0
    by_cases true k rest = k.0
    by_cases false k rest = rest k

-- of an object where the pass never stood nothing was loaded
unread : (Ok : ℕ → ℕ → Type 0) (cells : List ℕ) (y : ℕ) (t : List Load) → Walked Ok t → AllByRecursion (λ v. y ≢ v) (visited t) → StillHolds cells y t
unread Ok cells y [] w h = tt
unread Ok cells y (l ∷ t) w h =
    let before = by_cases (goes l.1) h in
    ((λ e. absurd (apart_here y t before (sym e ∙ w.0))), unread Ok cells y t w.2 before)
  where
    by_cases : (b : Bool) → AllByRecursion (λ v. y ≢ v) (arrive_if b (target l.1) (visited t)) → AllByRecursion (λ v. y ≢ v) (visited t)
    by_cases true k = k.1
    by_cases false k = k

pub whole_on : (Ok : ℕ → ℕ → Type 0) (cells : List ℕ) (k found : ℕ) (t : List Load) → found ≡ slice_index cells k → Walked Ok t → AllDiffer (visited ((k, found) ∷ t)) → IsWhole cells t → IsWhole cells ((k, found) ∷ t)
whole_on Ok cells k found t is w apart old five = by_cases (goes found) five apart
  where
    by_cases : (b : Bool) → tag_of (decoded (edge_if b found (arrived t))) ≡ 5 → AllDiffer (arrive_if b (target found) (visited t)) → (owner k ≡ slice_index (arrive_if b (target found) (visited t)) 0 → slice_index cells k ≡ found) × StillHolds cells (slice_index (arrive_if b (target found) (visited t)) 0) t
    by_cases true f d = ((λ e. sym is), unread Ok cells (target found) t w d.0)
    by_cases false f d = ((λ e. sym is), old f)

pub five_is : (w : Word) → tag_of w ≡ 5 → (o : ℕ) × (w ≡ words.ToAdjacency o)
five_is (words.ToAdjacency o) e = (o, refl)
five_is words.Drop e = absurd (cc)
five_is words.Receive e = absurd (cc)
five_is (words.Glean i) e = absurd (cc)
five_is (words.ToPly o) e = absurd (cc)
five_is (words.ToBalance o) e = absurd (cc)
five_is (words.Plain n) e = absurd (cc)

-- the edge by which a pass came to an adjacency is one of the union
arrived_goes : (u : Union) (n p : ℕ) (t : List Load) → Walked (Usable u n p) t → tag_of (decoded (arrived t)) ≡ 5 → (j : ℕ) × Goes u j (arrived t) × (target (arrived t) ≡ stands t)
arrived_goes u n p [] w five = absurd (none (decoded 0) decoded-zero five)
  where
    none : (x : Word) → x ≡ words.Drop → tag_of x ≡ 5 → ⊥
    none x e f = let z : tag_of x ≡ 0 = ap tag_of e in omega arith
arrived_goes u n p (l ∷ t) w five = by_cases (goes l.1) refl five (λ f. arrived_goes u n p t w.2 f)
  where
    by_cases : (b : Bool) → goes l.1 ≡ b → tag_of (decoded (edge_if b l.1 (arrived t))) ≡ 5
        → (tag_of (decoded (arrived t)) ≡ 5 → (j : ℕ) × Goes u j (arrived t) × (target (arrived t) ≡ stands t))
        → (j : ℕ) × Goes u j (edge_if b l.1 (arrived t)) × (target (edge_if b l.1 (arrived t)) ≡ slice_index (arrive_if b (target l.1) (visited t)) 0)
    by_cases true is f rest = (l.0, (is, usable_lies u n p l.0 l.1 (w.1 is)), refl)
    by_cases false is f rest = rest f

still_stored : (cells : List ℕ) (k w o : ℕ) (t : List Load) → owner k ≢ o → StillHolds cells o t → StillHolds (slice_set cells k w) o t
still_stored cells k w o [] ne h = tt
still_stored cells k w o (l ∷ t) ne h = ((λ e. get_or-set_other cells k l.0 w 0 (λ same. ne (ap owner (sym same) ∙ e)) ∙ h.0 e), still_stored cells k w o t ne h.1)

pub whole_stored : (u : Union) (n p k w : ℕ) (t : List Load) → ((j v o : ℕ) → Goes u j v → decoded v ≡ words.ToAdjacency o → owner k ≢ o) → Walked (Usable u n p) t → IsWhole u.cells t → IsWhole (slice_set u.cells k w) t
whole_stored u n p k w t whole walked old five =
    let a = arrived_goes u n p t walked five in
    let f = five_is (decoded (arrived t)) five in
    let here : f.0 ≡ stands t = sym (target_of (arrived t) (words.ToAdjacency f.0) f.1) ∙ a.2 in
    still_stored u.cells k w (stands t) t (subst (λ o. owner k ≢ o) here (whole a.0 (arrived t) f.0 a.1 f.1)) (old five)
