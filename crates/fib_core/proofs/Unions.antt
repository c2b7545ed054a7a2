-- What a store and a scan do to the union.
use Rattle.std.proofs.Common.{ltb, map, Some, None, ◌&&◌, ◌≡◌, ◌≢◌, ℕ, zero, suc, ◌<◌, ◌≤◌, ◌⊎◌, inl, inr, ⊎_elim, Bool, true, false, true≢false, cond, ◌||◌, eqb, eq-eqb, List, [], ◌∷◌, length, refl, sym, ap, ◌∙◌, subst, arith, get_or-set_same, get_or-set_other, length-set}
use Rattle.std.specs.Prelude.{Contains, if◌then◌else◌, slice_index, slice_set}
use Rattle.std.proofs.lemmas.List.{get_or_past}
use Rattle.std.proofs.lemmas.Bool.Decides.{nat_tests}
use mathlib.Core.Logic.{dite}
use native.Mathlib.Decide.{ℕ_discrete, dec_lt}
use Rattle.fib_reach.specs.Walks.{Leads, Reaches, IsAcyclic, Plus}
use Rattle.fib_reach.proofs.Walking.{acyclic-plus, acyclic_part, reaches_leads}
use Rattle.fib_union.specs.Unions as edges
use Rattle.fib_union.specs.Unions.{owner}
use Rattle.fib_union.proofs.Counts.{has_in_counted}
use Rattle.fib_union.specs.Marks.{is_even, Mark, unseen, first, passed, mark_at, next_mark, looked, is_passed, all_passed}
use Rattle.fib_core.specs.Words.{goes, target}
use Rattle.fib_core.specs.Union.{Retired, Union, AnyOf, Lies, Goes, Edge, IsOpen, Usable, retire_if, stored, drop_if, remark, scan_retired, scanned, edge_in, copy_of, edges_of, must_retire}
use Rattle.fib_core.proofs.Numbers.{goes-zero}

pub or_right : (a b : Bool) → b ≡ true → a || b ≡ true
or_right true b e = refl
or_right false b e = e

pub any-map : {A : Type 0} {P Q : A → Type 0} (f : (x : A) → P x → Q x) (xs : List A) → AnyOf P xs → AnyOf Q xs
any-map f [] h = h
any-map f (x ∷ xs) (inl p) = inl (f x p)
any-map f (x ∷ xs) (inr q) = inr (any-map f xs q)

pub usable_lies : (u : Union) (n p k w : ℕ) → Usable u n p k w → Lies u k w
usable_lies u n p k w (inl h) = inl h
usable_lies u n p k w (inr a) = inr (any-map (λ r q. (q.0, q.1)) u.retired a)

pub and_right : (a b : Bool) → a && b ≡ true → b ≡ true
and_right true b e = e
and_right false b e = absurd (cc)

-- the store

was_retired : (P : Retired → Type 0) (b : Bool) (r : Retired) (rs : List Retired) → AnyOf P (retire_if b r rs) → ((b ≡ true) × P r) ⊎ AnyOf P rs
was_retired P true r rs (inl p) = inl (refl, p)
was_retired P true r rs (inr q) = inr q
was_retired P false r rs q = inr q

beyond : (a b k j : ℕ) → b ≡ a → j ≡ k → (k < a → ⊥) → b ≤ j
beyond a b k j e e' past = omega arith

cell_stored : (cells : List ℕ) (k w j v : ℕ) → slice_index (slice_set cells k w) j ≡ v → goes v ≡ true → (slice_index cells j ≡ v) ⊎ ((j ≡ k) × (v ≡ w))
cell_stored cells k w j v h going = dite (ℕ_discrete j k)
    (λ e. dite (dec_lt k (length cells))
    (λ room. let at : slice_index (slice_set cells k w) j ≡ w = rw e (get_or-set_same cells k w 0 room) in inr (e, sym h ∙ at))
    (λ past. let at : slice_index (slice_set cells k w) j ≡ 0 = get_or_past (slice_set cells k w) j 0 (beyond (length cells) (length (slice_set cells k w)) k j (length-set cells k w) e past) in absurd (true≢false (sym going ∙ ap goes (sym h ∙ at) ∙ goes-zero))))
    (λ ne. let at : slice_index (slice_set cells k w) j ≡ slice_index cells j = get_or-set_other cells k j w 0 ne in inl (sym at ∙ h))

pub goes_stored : (keep : Bool) (fresh : List Mark) (u : Union) (k w j v : ℕ) → Goes (stored keep fresh u k w) j v → Goes u j v ⊎ ((j ≡ k) × (v ≡ w))
goes_stored keep fresh u k w j v (going, inl h) = ⊎_elim (λ (a : slice_index u.cells j ≡ v). inl (going, inl a)) (λ (b : (j ≡ k) × (v ≡ w)). inr b) (cell_stored u.cells k w j v h going)
goes_stored keep fresh u k w j v (going, inr a) =
    let r : Retired = record { cell = k; word = slice_index u.cells k; marks = fresh } in
    ⊎_elim
    (λ (q : (keep && goes (slice_index u.cells k) ≡ true) × ((k ≡ j) × (slice_index u.cells k ≡ v))). inl (going, inl (subst (λ i. slice_index u.cells i ≡ v) q.1.0 q.1.1)))
    (λ (q : AnyOf (λ (s : Retired). (s.cell ≡ j) × (s.word ≡ v)) u.retired). inl (going, inr q))
    (was_retired (λ s. (s.cell ≡ j) × (s.word ≡ v)) (keep && goes (slice_index u.cells k)) r u.retired a)

pub edge_stored : (keep : Bool) (fresh : List Mark) (u : Union) (k w : ℕ) (x y : ℕ) → Edge (stored keep fresh u k w) x y → Edge u x y ⊎ ((goes w ≡ true) × (x ≡ owner k) × (y ≡ target w))
edge_stored keep fresh u k w x y (j, v, from, to, g) = ⊎_elim
    (λ (old : Goes u j v). inl (j, v, from, to, old))
    (λ (q : (j ≡ k) × (v ≡ w)). inr (ap goes (sym q.1) ∙ g.0, sym from ∙ ap owner q.0, sym to ∙ ap target q.1))
    (goes_stored keep fresh u k w j v g)

-- a store keeps the union acyclic where the new edge closes no cycle in it
pub acyclic-stored : (keep : Bool) (fresh : List Mark) (u : Union) (k w : ℕ) → IsAcyclic (Edge u) → (goes w ≡ true → Leads (Edge u) (target w) (owner k) → ⊥) → IsAcyclic (Edge (stored keep fresh u k w))
acyclic-stored keep fresh u k w calm far = by_cases (goes w) refl
  where
    by_cases : (b : Bool) → goes w ≡ b → IsAcyclic (Edge (stored keep fresh u k w))
    by_cases true is = acyclic_part (Edge (stored keep fresh u k w)) (Plus (Edge u) (owner k) (target w)) (λ x y e. ⊎_elim (λ (g : Edge u x y). inl g) (λ (q : (goes w ≡ true) × (x ≡ owner k) × (y ≡ target w)). inr (q.1, q.2)) (edge_stored keep fresh u k w x y e))
        (acyclic-plus (Edge u) (owner k) (target w) calm (λ back. far is (⊎_elim (λ (e : owner k ≡ target w). (0, sym e)) (λ (r : Reaches (Edge u) (target w) (owner k)). reaches_leads (Edge u) (target w) (owner k) r) back)))
    by_cases false is = acyclic_part (Edge (stored keep fresh u k w)) (Edge u) (λ x y e. ⊎_elim (λ (g : Edge u x y). g) (λ (q : (goes w ≡ true) × (x ≡ owner k) × (y ≡ target w)). absurd (true≢false (sym q.0 ∙ is))) (edge_stored keep fresh u k w x y e)) calm

-- a usable edge from another cell stays usable
pub usable_stored_else : (keep : Bool) (fresh : List Mark) (u : Union) (k w n p j v : ℕ) → j ≢ k → Usable u n p j v → Usable (stored keep fresh u k w) n p j v
usable_stored_else keep fresh u k w n p j v ne (inl h) = inl (get_or-set_other u.cells k j w 0 ne ∙ h)
usable_stored_else keep fresh u k w n p j v ne (inr a) = inr (still (keep && goes (slice_index u.cells k)))
  where
    still : (b : Bool) → AnyOf (λ r. (r.cell ≡ j) × (r.word ≡ v) × IsOpen p (mark_at r.marks n)) (retire_if b (record { cell = k; word = slice_index u.cells k; marks = fresh }) u.retired)
    still true = inr a
    still false = a

-- the replaced edge is usable as a retired one
usable_stored_here : (fresh : List Mark) (u : Union) (k w n p v : ℕ) → mark_at fresh n ≡ unseen → goes v ≡ true → Usable u n p k v → Usable (stored true fresh u k w) n p k v
usable_stored_here fresh u k w n p v new going (inl h) =
    let r : Retired = record { cell = k; word = slice_index u.cells k; marks = fresh } in
    let P : Bool → Type 0 = λ b. AnyOf (λ s. (s.cell ≡ k) × (s.word ≡ v) × IsOpen p (mark_at s.marks n)) (retire_if b r u.retired) in
    inr (subst P (sym (ap goes h ∙ going)) (inl (refl, h, subst (IsOpen p) (sym new) tt)))
usable_stored_here fresh u k w n p v new going (inr a) = inr (still (goes (slice_index u.cells k)))
  where
    still : (b : Bool) → AnyOf (λ r. (r.cell ≡ k) × (r.word ≡ v) × IsOpen p (mark_at r.marks n)) (retire_if b (record { cell = k; word = slice_index u.cells k; marks = fresh }) u.retired)
    still true = inr a
    still false = a

pub usable_stored : (fresh : List Mark) (u : Union) (k w n p j v : ℕ) → mark_at fresh n ≡ unseen → goes v ≡ true → Usable u n p j v → Usable (stored true fresh u k w) n p j v
usable_stored fresh u k w n p j v new going h = dite (ℕ_discrete j k)
    (λ e. subst (λ i. Usable (stored true fresh u k w) n p i v) (sym e) (usable_stored_here fresh u k w n p v new going (subst (λ i. Usable u n p i v) e h)))
    (λ ne. usable_stored_else true fresh u k w n p j v ne h)

-- the scan

passed_at : (m : Mark) (ms : List Mark) (n : ℕ) → ((i : ℕ) → all_passed ms ≡ true → mark_at ms i ≡ passed) → is_passed m && all_passed ms ≡ true → mark_at (m ∷ ms) n ≡ passed
passed_at unseen ms n rest e = absurd (cc)
passed_at (first w) ms n rest e = absurd (cc)
passed_at passed ms zero rest e = refl
passed_at passed ms (suc n) rest e = rest n e

not_all : (ms : List Mark) (n : ℕ) → all_passed ms ≡ true → mark_at ms n ≡ passed
not_all [] n e = refl
not_all (m ∷ ms) n e = passed_at m ms n (λ i h. not_all ms i h) e

was_kept : (P : Retired → Type 0) (b : Bool) (r : Retired) (rs : List Retired) → AnyOf P (drop_if b r rs) → P r ⊎ AnyOf P rs
was_kept P true r rs q = inr q
was_kept P false r rs q = q

any_scanned : (n w k v : ℕ) (rs : List Retired) → AnyOf (λ r. (r.cell ≡ k) × (r.word ≡ v)) (scan_retired n w rs) → AnyOf (λ r. (r.cell ≡ k) × (r.word ≡ v)) rs
any_scanned n w k v [] q = q
any_scanned n w k v (r ∷ rs) q = ⊎_elim (λ (a : (r.cell ≡ k) × (r.word ≡ v)). inl a) (λ (b : AnyOf (λ (s : Retired). (s.cell ≡ k) × (s.word ≡ v)) (scan_retired n w rs)). inr (any_scanned n w k v rs b)) (was_kept (λ s. (s.cell ≡ k) × (s.word ≡ v)) (all_passed (looked n w r.marks)) (remark n w r) (scan_retired n w rs) q)

pub goes-scanned : (u : Union) (n w k v : ℕ) → Goes (scanned u n w) k v → Goes u k v
goes-scanned u n w k v (going, inl h) = (going, inl h)
goes-scanned u n w k v (going, inr a) = (going, inr (any_scanned n w k v u.retired a))

-- a scan keeps the union acyclic
pub acyclic-scanned : (u : Union) (n w : ℕ) → IsAcyclic (Edge u) → IsAcyclic (Edge (scanned u n w))
acyclic-scanned u n w calm = acyclic_part (Edge (scanned u n w)) (Edge u) (λ x y e. (e.0, e.1, e.2, e.3, goes-scanned u n w e.0 e.1 e.4)) calm

lt_or_le : (a n : ℕ) → (n < a → ⊥) → a ≤ n
lt_or_le a n h = omega arith

open_next : (w p : ℕ) (m : Mark) → p ≡ w → is_even w ≡ false → IsOpen p m → IsOpen p (next_mark w m)
open_next w p unseen e odd h = subst (λ b. IsOpen p (cond b passed (first w))) (sym odd) (sym e)
open_next w p (first v) e odd h = subst (λ b. IsOpen p (cond b (first v) passed)) (sym (eq-eqb v w (h ∙ e))) h
open_next w p passed e odd h = h

open_marked : (n w m p : ℕ) (marks : List Mark) → (m ≡ n → (p ≡ w) × (is_even w ≡ false)) → IsOpen p (mark_at marks m) → IsOpen p (mark_at (looked n w marks) m)
open_marked n w m p marks same h = dite (ℕ_discrete m n)
    (λ e. dite (dec_lt n (length marks))
    (λ lt. let at : mark_at (looked n w marks) m ≡ next_mark w (mark_at marks n) = rw e (get_or-set_same marks n (next_mark w (mark_at marks n)) passed lt) in
    subst (IsOpen p) (sym at) (open_next w p (mark_at marks n) (same e).0 (same e).1 (subst (λ i. IsOpen p (mark_at marks i)) e h)))
    (λ ge. absurd (subst (IsOpen p) (get_or_past marks m passed (let le : length marks ≤ n = lt_or_le (length marks) n ge in subst (λ i. length marks ≤ i) (sym e) le)) h)))
    (λ ne. subst (IsOpen p) (sym (get_or-set_other marks n m (next_mark w (mark_at marks n)) passed ne)) h)

usable_any : (n w m p k v : ℕ) (rs : List Retired) → (m ≡ n → (p ≡ w) × (is_even w ≡ false)) → AnyOf (λ r. (r.cell ≡ k) × (r.word ≡ v) × IsOpen p (mark_at r.marks m)) rs → AnyOf (λ r. (r.cell ≡ k) × (r.word ≡ v) × IsOpen p (mark_at r.marks m)) (scan_retired n w rs)
usable_any n w m p k v [] same q = q
usable_any n w m p k v (r ∷ rs) same (inl a) = stays (all_passed (looked n w r.marks)) refl
  where
    stays : (b : Bool) → all_passed (looked n w r.marks) ≡ b → AnyOf (λ s. (s.cell ≡ k) × (s.word ≡ v) × IsOpen p (mark_at s.marks m)) (drop_if b (remark n w r) (scan_retired n w rs))
    stays true is = absurd (subst (IsOpen p) (not_all (looked n w r.marks) m is) (open_marked n w m p r.marks same a.2))
    stays false is = inl (a.0, a.1, open_marked n w m p r.marks same a.2)
usable_any n w m p k v (r ∷ rs) same (inr q) = stays (all_passed (looked n w r.marks)) (usable_any n w m p k v rs same q)
  where
    stays : (b : Bool) → AnyOf (λ s. (s.cell ≡ k) × (s.word ≡ v) × IsOpen p (mark_at s.marks m)) (scan_retired n w rs) → AnyOf (λ s. (s.cell ≡ k) × (s.word ≡ v) × IsOpen p (mark_at s.marks m)) (drop_if b (remark n w r) (scan_retired n w rs))
    stays true q' = q'
    stays false q' = inr q'

-- a scan takes no edge from under a pass: its word is what was found, and odd
pub usable-scanned : (u : Union) (n w m p k v : ℕ) → (m ≡ n → (p ≡ w) × (is_even w ≡ false)) → Usable u m p k v → Usable (scanned u n w) m p k v
usable-scanned u n w m p k v same (inl h) = inl h
usable-scanned u n w m p k v same (inr a) = inr (usable_any n w m p k v u.retired same a)

-- an edge between cells and words is one between objects

any_copy : (k w : ℕ) (rs : List Retired) → AnyOf (λ r. (r.cell ≡ k) × (r.word ≡ w)) rs → (r : edges.Retired) × Contains (map copy_of rs) r × (r.cell ≡ k) × (r.to ≡ target w)
any_copy k w [] a = elim a [ ]
any_copy k w (r ∷ rs) (inl a) = (copy_of r, (0, omega arith, refl), a.0, ap target a.1)
any_copy k w (r ∷ rs) (inr a) = (let q = any_copy k w rs a in (q.0, (suc q.1.0, (let lt = q.1.1 in omega arith), q.1.2), q.2, q.3))

pub edge_in_at : (cells : List ℕ) (k : ℕ) → edges.edge_at (map edge_in cells) k ≡ edge_in (slice_index cells k)
edge_in_at [] k = sym (ap (λ (b : Bool). if b then Some (target 0) else None) goes-zero)
edge_in_at (c ∷ cs) zero = refl
edge_in_at (c ∷ cs) (suc k) = edge_in_at cs k

pub edge_in_of : (w : ℕ) → goes w ≡ true → edge_in w ≡ Some (target w)
edge_in_of w going = ap (λ (b : Bool). if b then Some (target w) else None) going

pub goes_edges : (u : Union) (k w : ℕ) → Goes u k w → edges.Goes (edges_of u) k (target w)
goes_edges u k w (going, inl is) = inl (edge_in_at u.cells k ∙ ap edge_in is ∙ edge_in_of w going)
goes_edges u k w (going, inr a) = inr (any_copy k w u.retired a)

pub edge_edges : (u : Union) (x y : ℕ) → Edge u x y → edges.Edge (edges_of u) x y
edge_edges u x y (k, w, from, to, g) = (k, from, subst (edges.Goes (edges_of u) k) to (goes_edges u k w g))

-- where no edge is counted into an object, none leads there
pub none_counted : (u : Union) (o : ℕ) → edges.into (edges_of u) o ≡ 0 → (k w : ℕ) → Goes u k w → target w ≡ o → ⊥
none_counted u o none k w g to = let more = has_in_counted (edges_of u) o (k, subst (edges.Goes (edges_of u) k) to (goes_edges u k w g)) in omega arith

zero_or_more : (n : ℕ) → ltb 0 n ≡ false → n ≡ 0
zero_or_more n e = grind (arith, nat_tests)

-- where the replaced edge leaves at once, its object isn't the root and nothing leads to it
pub retire_needed : (u : Union) (k : ℕ) → must_retire u k ≡ false → (owner k ≢ 0) × ((j w : ℕ) → Goes u j w → target w ≡ owner k → ⊥)
unfolding must_retire edges.must_retire
retire_needed u k e = (
  (λ z. true≢false (sym (ap (λ b. b || ltb 0 (edges.into (edges_of u) (owner k))) (eq-eqb (owner k) 0 z)) ∙ e)),
  none_counted u (owner k) (zero_or_more (edges.into (edges_of u) (owner k)) (right_false (eqb (owner k) 0) (ltb 0 (edges.into (edges_of u) (owner k))) e)),
)
  where
    right_false : (a b : Bool) → a || b ≡ false → b ≡ false
    right_false true b h = absurd (cc)
    right_false false b h = h
