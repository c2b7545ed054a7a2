-- Lists of records, taken and given one by one.
use Rattle.std.proofs.Common.{◌≡◌, ◌≢◌, ℕ, zero, suc, ◌+◌, ◌<◌, ◌≤◌, inl, inr, Bool, true, false, true≢false, cond, eq-eqb, eqb-true, List, [], ◌∷◌, ◌++◌, length, take, get_or, refl, sym, ap, ◌∙◌, subst, arith, add-one, ⊎_elim}
use Rattle.std.specs.Prelude.{◌==◌, ◌&&◌, Option, Some, None, Ok}
use Rattle.std.specs.List.{AllByRecursion}
use Rattle.std.proofs.lemmas.List.{length_push}
use Rattle.fib_base_list.proofs.Lists.{either}
use Rattle.fib_base_list.proofs.Booleans.{and_both}
use Rattle.fib_resolve.specs.Touched.{same_mac}
use Rattle.fib_resolve.specs.declared.aims.Aim.{Aim}
use Rattle.fib_pool.specs.declared.object.AdjacencyRecord.{AdjacencyRecord}
use Rattle.fib_stack_ledger.specs.declared.ledger.Use.{Use}
use Rattle.fib_stack_ledger.specs.Ledgers.{same_record, record_used, times}
use Rattle.fib_plane_view.specs.View.{View, IsPlane, IsSwept, TookRecord, GaveRecord}
use Rattle.fib_stack.specs.Records.{record_for, AreObjects, SameBalances, TookAll, GaveAll, SamePlane, TookFor}
use Rattle.fib_stack_waking.proofs.Woken.{and_join}

same_mac_is : (m k : Option ℕ) → same_mac m k ≡ true → m ≡ k
same_mac_is None None e = refl
same_mac_is None (Some k) e = absurd (cc)
same_mac_is (Some m) None e = absurd (cc)
same_mac_is (Some m) (Some k) e = ap Some (eqb-true m k e)

same_mac_self : (m : Option ℕ) → same_mac m m ≡ true
same_mac_self None = refl
same_mac_self (Some m) = eq-eqb m m refl

pub record_is : (r q : AdjacencyRecord) → same_record r q ≡ true → r ≡ q
record_is r q e =
    let a = and_both (r.interface == q.interface) ((r.next_hop == q.next_hop) && same_mac r.mac q.mac) e in
    let b = and_both (r.next_hop == q.next_hop) (same_mac r.mac q.mac) a.1 in
    ap (λ (i : ℕ). let z : AdjacencyRecord = record { interface = i; next_hop = r.next_hop; mac = r.mac } in z) (eqb-true r.interface q.interface a.0)
    ∙ ap (λ (h : ℕ). let z : AdjacencyRecord = record { interface = q.interface; next_hop = h; mac = r.mac } in z) (eqb-true r.next_hop q.next_hop b.0)
    ∙ ap (λ (k : Option ℕ). let z : AdjacencyRecord = record { interface = q.interface; next_hop = q.next_hop; mac = k } in z) (same_mac_is r.mac q.mac b.1)

pub record_self : (r : AdjacencyRecord) → same_record r r ≡ true
record_self r = and_join (r.interface == r.interface) ((r.next_hop == r.next_hop) && same_mac r.mac r.mac) (eq-eqb r.interface r.interface refl) (and_join (r.next_hop == r.next_hop) (same_mac r.mac r.mac) (eq-eqb r.next_hop r.next_hop refl) (same_mac_self r.mac))

-- counts as the calls say them
one_more : (f g : AdjacencyRecord → ℕ) (m n : AdjacencyRecord) → g m ≡ f m + 1 → ((k : AdjacencyRecord) → k ≢ m → g k ≡ f k) → g n ≡ cond (same_record n m) 1 0 + f n
one_more f g m n mine others = ⊎_elim
    (λ (is : same_record n m ≡ true). let e : n ≡ m = record_is n m is in let c : ◌≡◌ {A = ℕ} (cond (same_record n m) 1 0) 1 = ap (λ b. cond b 1 0) is in let h : g n ≡ f n + 1 = subst (λ (k : AdjacencyRecord). g k ≡ f k + 1) (sym e) mine in omega (arith, c, h))
    (λ (isnt : same_record n m ≡ false). let c : ◌≡◌ {A = ℕ} (cond (same_record n m) 1 0) 0 = ap (λ b. cond b 1 0) isnt in let h : g n ≡ f n = others n (λ e. true≢false (sym (ap (λ (k : AdjacencyRecord). same_record k m) e ∙ record_self m) ∙ isnt)) in omega (arith, c, h))
    (either (same_record n m))

times_next : (m : AdjacencyRecord) (d : Use) (xs : List Use) (i : ℕ) → i < length xs → times m (take (suc i) xs) ≡ cond (same_record m (record_used (get_or xs i d))) 1 0 + times m (take i xs)
times_next m d [] i lt = absurd (omega arith)
times_next m d (x ∷ xs) zero lt = refl
times_next m d (x ∷ xs) (suc i) lt =
    let lt' : i < length xs = omega arith in
    let ih = times_next m d xs i lt' in
    omega (arith, ih)

pub times-take_next : (m : AdjacencyRecord) (d : Use) (xs : List Use) (i : ℕ) → i < length xs → times m (take (i + 1) xs) ≡ cond (same_record m (record_used (get_or xs i d))) 1 0 + times m (take i xs)
times-take_next m d xs i lt = rw add-one (times_next m d xs i lt)

pub times-take_le : (m : AdjacencyRecord) (xs : List Use) (i : ℕ) → times m (take i xs) ≤ times m xs
times-take_le m [] zero = omega arith
times-take_le m [] (suc i) = omega arith
times-take_le m (x ∷ xs) zero = omega arith
times-take_le m (x ∷ xs) (suc i) = omega (arith, times-take_le m xs i)

times_push : (m : AdjacencyRecord) (xs : List Use) (u : Use) → times m (xs ++ u ∷ []) ≡ cond (same_record m (record_used u)) 1 0 + times m xs
times_push m [] u = refl
times_push m (x ∷ xs) u = let ih = times_push m xs u in omega (arith, ih)

pub times_length : (m : AdjacencyRecord) (us : List Use) → times m us ≤ length us
times_length m [] = omega arith
times_length m (u ∷ us) = let h = at_most (same_record m (record_used u)) (times m us) (length us) (times_length m us) in omega (arith, h)
  where
    at_most : (b : Bool) (n k : ℕ) → n ≤ k → cond b 1 0 + n ≤ k + 1
    at_most true n k le = omega (arith, le)
    at_most false n k le = omega (arith, le)

counts_one : (m : AdjacencyRecord) → 0 < cond (same_record m m) 1 0
counts_one m = let P : Bool → Type 0 = λ b. 0 < cond b 1 0 in subst P (sym (record_self m)) (omega arith)

object_at : (v : View) (xs : List Use) (i : ℕ) (d : Use) → i < length xs → AreObjects v xs → v.record_of (record_used (get_or xs i d)) ≡ Some (get_or xs i d).object
object_at v [] i d lt h = absurd (omega arith)
object_at v (x ∷ xs) zero d lt h = h.0
object_at v (x ∷ xs) (suc i) d lt h = let lt' : i < length xs = omega arith in object_at v xs i d lt' h.1

balances_then : (u v w : View) → SameBalances u v → SameBalances v w → SameBalances u w
balances_then u v w f g = record {
  stay = λ x b. g.stay x (f.stay x b);
  fresh = λ x b. f.fresh x (g.fresh x b);
  cells = λ x k b. g.cells x k (f.stay x b) ∙ f.cells x k b;
}

balances_none : (u : View) → SameBalances u u
balances_none u = record { stay = λ x b. b; fresh = λ x b. b; cells = λ x k b. refl }

swept_balances : (u v : View) → IsSwept u v → ((y : ℕ) → v.is_held y ≡ u.is_held y) → SameBalances u v
swept_balances u v swept held = record {
  stay = λ x b. let h = held x ∙ b.0 in (h, swept.kinds x (inr (inl h)) ∙ b.1);
  fresh = λ x b. (sym (held x) ∙ b.0, sym (swept.kinds x (inr (inl b.0))) ∙ b.1);
  cells = λ x k b. swept.cells x k (inr (inl (held x ∙ b.0)));
}

took_balances : (u v : View) (m : AdjacencyRecord) (x : ℕ) → TookRecord u v m x → SameBalances u v
took_balances u v m x t = record {
  stay = λ y b. (t.held y ∙ b.0, t.kinds y (inr (inl b.0)) ∙ b.1);
  fresh = λ y b. let h = sym (t.held y) ∙ b.0 in (h, sym (t.kinds y (inr (inl h))) ∙ b.1);
  cells = λ y k b. t.cells y k (inr (inl b.0));
}

pub user_left : (u v : View) (xs : List Use) (i : ℕ) (r : Use) → i < length xs → get_or xs i r ≡ r → ((m : AdjacencyRecord) → times m xs ≤ u.users m) → GaveAll u v (take i xs) → 0 < v.users (record_used r)
user_left u v xs i r lt is enough gave =
    let m = record_used r in
    let next : times m (take (i + 1) xs) ≡ cond (same_record m m) 1 0 + times m (take i xs) = subst (λ (q : Use). times m (take (i + 1) xs) ≡ cond (same_record m (record_used q)) 1 0 + times m (take i xs)) is (times-take_next m r xs i lt) in
    omega (arith, enough m, gave.users m, next, times-take_le m xs (i + 1), counts_one m)

-- the next one has its object still
pub object_left : (u v : View) (xs : List Use) (i : ℕ) (r : Use) → i < length xs → get_or xs i r ≡ r → ((m : AdjacencyRecord) → times m xs ≤ u.users m) → AreObjects u xs → GaveAll u v (take i xs) → v.record_of (record_used r) ≡ Some r.object
object_left u v xs i r lt is enough objects gave =
    gave.kept (record_used r) (user_left u v xs i r lt is enough gave)
    ∙ subst (λ (q : Use). u.record_of (record_used q) ≡ Some q.object) is (object_at u xs i r lt objects)

pub gave_next : (u v w : View) (xs : List Use) (i : ℕ) (r : Use) → i < length xs → get_or xs i r ≡ r → GaveAll u v (take i xs) → GaveRecord v w (record_used r) → GaveAll u w (take (i + 1) xs)
gave_next u v w xs i r lt is gave next = record {
  users = λ m. let t = subst (λ (q : Use). times m (take (i + 1) xs) ≡ cond (same_record m (record_used q)) 1 0 + times m (take i xs)) is (times-take_next m r xs i lt) in let o = one_more w.users v.users (record_used r) m (sym next.mine) (λ k ne. sym (next.others k ne)) in omega (arith, gave.users m, t, o);
  kept = λ m left. next.kept m left ∙ gave.kept m (let o = one_more w.users v.users (record_used r) m (sym next.mine) (λ k ne. sym (next.others k ne)) in omega (arith, o, left));
  balances = balances_then u v w gave.balances (swept_balances v w next.swept next.held);
  free = omega (arith, gave.free, next.swept.free);
  stored = omega (arith, gave.stored, next.stores.more);
  spare = omega (arith, gave.spare, next.swept.spare);
}

all_pushed : (P : Use → Type 0) (xs : List Use) (y : Use) → AllByRecursion P xs → P y → AllByRecursion P (xs ++ y ∷ [])
all_pushed P [] y h p = (p, tt)
all_pushed P (x ∷ xs) y h p = (h.0, all_pushed P xs y h.1 p)

-- records that have users keep their objects
pub objects_kept : (u v : View) (us : List Use) → ((m : AdjacencyRecord) → 0 < times m us → v.record_of m ≡ u.record_of m) → AreObjects u us → AreObjects v us
objects_kept u v [] kept h = tt
objects_kept u v (x ∷ xs) kept h = (
  kept (record_used x) (let c = counts_one (record_used x) in omega (arith, c)) ∙ h.0,
  objects_kept u v xs (λ m lt. kept m (omega (arith, lt))) h.1,
)

pub took_next : (u v w : View) (us : List Use) (m : AdjacencyRecord) (x : ℕ) → TookAll u v us → TookRecord v w m x → TookAll u w (us ++ (record { interface = m.interface; next_hop = m.next_hop; mac = m.mac; object = x }) ∷ [])
took_next u v w us m x took next =
    let y : Use = record { interface = m.interface; next_hop = m.next_hop; mac = m.mac; object = x } in
    record {
      users = λ n. let t = times_push n us y in let o = one_more v.users w.users m n next.mine next.others in omega (arith, took.users n, t, o);
      kept = λ n there. next.kept n (omega (arith, took.users n, there)) ∙ took.kept n there;
      objects = all_pushed (λ u. w.record_of (record_used u) ≡ Some u.object) us y (objects_kept v w us (λ n lt. next.kept n (omega (arith, took.users n, lt))) took.objects) next.here;
      balances = balances_then u v w took.balances (took_balances v w m x next);
      free = omega (arith, took.free, next.free, length_push us y);
      stored = omega (arith, took.stored, next.stores.more);
      spare = omega (arith, took.spare, next.spare);
    }

-- a step of the loop: the next mark
pub took_for : (u v w : View) (us vs : List Use) (a : Aim) (o : Option AdjacencyRecord) → o ≡ record_for a → TookAll u v us → TookFor v w o us vs (Ok tt) → TookAll u w vs
took_for u v w us vs a None e took (same, is) = subst (λ (q : View). TookAll u q vs) (sym same) (subst (λ (q : List Use). TookAll u v q) (sym is) took)
took_for u v w us vs a (Some m) e took (x, next, is) = subst (λ (q : List Use). TookAll u w q) (sym is) (took_next u v w us m x took next)

pub gave_none : (u : View) (xs : List Use) → GaveAll u u (take 0 xs)
gave_none u xs = record { users = λ m. none xs m; kept = λ m h. refl; balances = balances_none u; free = omega arith; stored = omega arith; spare = omega arith }
  where
    none : (ys : List Use) (m : AdjacencyRecord) → times m (take 0 ys) + u.users m ≡ u.users m
    none [] m = omega arith
    none (y ∷ ys) m = omega arith

pub took_none : (u : View) → TookAll u u []
took_none u = record { users = λ m. omega arith; kept = λ m h. refl; objects = tt; balances = balances_none u; free = omega arith; stored = omega arith; spare = omega arith }

-- taken and given back
pub same_after : (u v w : View) (xs : List Use) → IsPlane u → IsPlane w → TookAll u v xs → GaveAll v w xs → u.free ≤ w.free → SamePlane u w
same_after u v w xs before after took gave free = record {
  free = free;
  users = users;
  record_of = λ m. by_users m (u.users m) refl;
  balances = balances_then u v w took.balances gave.balances;
  stored = omega (arith, took.stored, gave.stored);
  spare = omega (arith, took.spare, gave.spare);
}
  where
    users : (m : AdjacencyRecord) → w.users m ≡ u.users m
    users m = omega (arith, took.users m, gave.users m)

    by_users : (m : AdjacencyRecord) (k : ℕ) → u.users m ≡ k → w.record_of m ≡ u.record_of m
    by_users m zero e = after.forgotten m (users m ∙ e) ∙ sym (before.forgotten m e)
    by_users m (suc k) e = gave.kept m (omega (arith, users m, e)) ∙ took.kept m (omega (arith, e))

pub enough_users : (u v : View) (xs : List Use) → TookAll u v xs → (m : AdjacencyRecord) → times m xs ≤ v.users m
enough_users u v xs took m = omega (arith, took.users m)
