-- The first prefixes of a table.
use native.Mathlib.Decide.{ℕ_discrete}
use mathlib.Core.Logic.{dite}
use Rattle.std.proofs.Common.{inl, inr, ⊎_elim, ◌⊎◌, ◌≡◌, ◌≢◌, ℕ, zero, suc, ◌+◌, ◌*◌, ◌<◌, ◌≤◌, ◌||◌, Bool, true, false, true≢false, List, [], ◌∷◌, ◌++◌, length, map, take, refl, sym, ap, ◌∙◌, subst, arith}
use Rattle.std.specs.Prelude.{Option, Some, None, slice_get, if◌then◌else◌}
use Rattle.std.specs.List.{list_any}
use Rattle.std.proofs.lemmas.List.Folds.{list_any-append}
use Rattle.fib_base_list.proofs.Lists.{either}
use Rattle.fib_addr.specs.Longest.{everything}
use Rattle.fib_addr.specs.Prefixes.{IsPrefix, Prefix, same_prefix}
use Rattle.fib_addr.proofs.PrefixLaws.{same_prefix-Decides}
use Rattle.fib_core.specs.declared.word.Word.TheVariants as words
use Rattle.fib_pool.specs.declared.object.AdjacencyRecord.{AdjacencyRecord}
use Rattle.fib_pool.specs.declared.object.Kind.TheVariants as kinds
use Rattle.fib_plane_view.specs.Frames.{Beside}
use Rattle.fib_plane_view.specs.Promise.{Promise}
use Rattle.fib_plane_view.specs.View.{HasRoom, IsBalance, IsTaken, View}
use Rattle.fib_ply.specs.Tables.{Stands, Table, object_in}
use Rattle.fib_core_promise.specs.Matches.{added}
use Rattle.fib_core_promise.specs.Stack.{is_some}
use Rattle.fib_plane.specs.Views.{IsBare}
use Rattle.fib_control_quiet.specs.Early.{IsEarly, IsTried}
use Rattle.fib_control_quiet.proofs.Early.{still_early}
use Rattle.fib_control.proofs.Queued.{swapped}
use Rattle.fib_stack_waking.specs.Waking.{is_among}
use Rattle.fib_control.specs.inner.Starting.{IsStarted}

named_more : (named : List Prefix) (x e : Prefix) → is_among (named ++ x ∷ []) e ≡ is_among named e || same_prefix x e
named_more named x e = list_any-append (λ y. same_prefix y e) named (x ∷ []) ∙ ap (λ b. is_among named e || b) (or_none (same_prefix x e))
  where
    or_none : (b : Bool) → b || false ≡ b
    or_none true = refl
    or_none false = refl

-- room is no object
pub same_free : (u v : View) → HasRoom u v → v.free ≡ u.free
same_free u v room = ap (λ (w : View). w.free) room.same

length_more : (named : List Prefix) (x : Prefix) → length (named ++ x ∷ []) ≡ suc (length named)
length_more [] x = refl
length_more (y ∷ ys) x = ap suc (length_more ys x)

-- balances from before a prefix is added to after
pub record Went (u v : View) (c : ℕ) : Type 0 where
  pub mine : IsBalance v c
  pub drops : (k : ℕ) → k < 16 → v.cell c k ≡ words.Drop
  pub fresh : IsBalance u c → ⊥
  pub stay : (x : ℕ) → IsBalance u x → IsBalance v x
  pub only : (x : ℕ) → IsBalance v x → (x ≡ c) ⊎ IsBalance u x
  pub cells : (x k : ℕ) → IsBalance u x → v.cell x k ≡ u.cell x k
  pub users : v.users ≡ u.users

pub went : (u0 u1 u2 u3 : View) (c : ℕ) → IsTaken u0 u1 kinds.Balance c → HasRoom u1 u2 → Beside u2 u3 → Went u0 u3 c
went u0 u1 u2 u3 c t room beside = record {
  mine = beside.balances c (still c t.held);
  drops = λ k lt. beside.cells c k (still c t.held) ∙ ap (λ (w : View). w.cell c k) room.same ∙ t.dropped k lt;
  fresh = λ b. true≢false (sym b.0 ∙ t.fresh);
  stay = λ x b. beside.balances x (still x (kept x b));
  only = λ x b. before x (back x (beside.fresh x b));
  cells = λ x k b. beside.cells x k (still x (kept x b)) ∙ ap (λ (w : View). w.cell x k) room.same ∙ t.cells x k;
  users = beside.records.users ∙ ap (λ (w : View). w.users) room.same ∙ t.records.users;
}
  where
    still : (x : ℕ) → IsBalance u1 x → IsBalance u2 x
    still x b = subst (λ (w : View). IsBalance w x) (sym room.same) b

    back : (x : ℕ) → IsBalance u2 x → IsBalance u1 x
    back x b = subst (λ (w : View). IsBalance w x) room.same b

    kept : (x : ℕ) → IsBalance u0 x → IsBalance u1 x
    kept x b = dite (ℕ_discrete x c)
        (λ is. absurd (true≢false (sym b.0 ∙ ap u0.is_held is ∙ t.fresh)))
        (λ ne. let o = t.others x ne in (o.0 ∙ b.0, o.1 ∙ b.1))

    before : (x : ℕ) → IsBalance u1 x → (x ≡ c) ⊎ IsBalance u0 x
    before x b = dite (ℕ_discrete x c) (λ is. inl is) (λ ne. let o = t.others x ne in inr (sym o.0 ∙ b.0, sym o.1 ∙ b.1))

module _ (p q : Promise) (t s : Table) (u v : View) (named : List Prefix) (x : Prefix) (c : ℕ) (i : IsStarted p t u named) (same : q ≡ p) (stands : Stands q s v)
    (is : object_in s ≡ added (object_in t) x c) (w : Went u v c) (plies : s.plies ≤ t.plies + 7) (free : u.free + t.plies ≤ v.free + s.plies + 1) where
  found : (e : Prefix) → object_in s e ≡ added (object_in t) x c e
  found e = ap (λ (f : Prefix → Option ℕ). f e) is

  -- where it stands: the new one's balance, or one of before
  where_at : (e : Prefix) (o : ℕ) → object_in s e ≡ Some o → ((e ≡ x) × (o ≡ c)) ⊎ (object_in t e ≡ Some o)
  where_at e o at = by (same_prefix e x) refl
    where
      by : (b : Bool) → same_prefix e x ≡ b → ((e ≡ x) × (o ≡ c)) ⊎ (object_in t e ≡ Some o)
      by true h = inl ((same_prefix-Decides e x).0 h, (let both : Some c ≡ Some o = sym (ap (λ b. if b then Some c else object_in t e) h) ∙ sym (found e) ∙ at in let z : c ≡ o = cc in sym z))
      by false h = inr (sym (ap (λ b. if b then Some c else object_in t e) h) ∙ sym (found e) ∙ at)

  some_added : (e : Prefix) → is_some (object_in s e) ≡ is_among (named ++ x ∷ []) e
  some_added e = ap is_some (found e) ∙ by (same_prefix e x) ∙ ap (λ b. is_among named e || b) (swapped e x) ∙ sym (named_more named x e)
    where
      or_true : (b : Bool) → true ≡ b || true
      or_true true = refl
      or_true false = refl

      or_none : (b : Bool) → b ≡ b || false
      or_none true = refl
      or_none false = refl

      by : (b : Bool) → is_some (if b then Some c else object_in t e) ≡ is_among named e || b
      by true = or_true (is_among named e)
      by false = i.placed e ∙ or_none (is_among named e)

  -- the new balance is no other's
  not_before : (e : Prefix) (o : ℕ) → object_in t e ≡ Some o → o ≡ c → ⊥
  not_before e o at eq = w.fresh (subst (λ (y : ℕ). IsBalance u y) eq (i.balances e o at))

  pub started_more : (object_in t x ≡ None) → IsStarted q s v (named ++ x ∷ [])
  started_more none = record {
    tried = record { early = still_early p q same i.tried.early; stands = stands };
    placed = some_added;
    apart = λ d e o at there. ⊎_elim
        (λ (a : (d ≡ x) × (o ≡ c)). ⊎_elim
        (λ (b : (e ≡ x) × (o ≡ c)). a.0 ∙ sym b.0)
        (λ (b : object_in t e ≡ Some o). absurd (not_before e o b a.1))
        (where_at e o there))
        (λ (a : object_in t d ≡ Some o). ⊎_elim
        (λ (b : (e ≡ x) × (o ≡ c)). absurd (not_before d o a b.1))
        (λ (b : object_in t e ≡ Some o). i.apart d e o a b)
        (where_at e o there))
        (where_at d o at);
    balances = λ e o at. ⊎_elim
        (λ (a : (e ≡ x) × (o ≡ c)). subst (λ (y : ℕ). IsBalance v y) (sym a.1) w.mine)
        (λ (a : object_in t e ≡ Some o). w.stay o (i.balances e o a))
        (where_at e o at);
    drops = λ e o k at lt. ⊎_elim
        (λ (a : (e ≡ x) × (o ≡ c)). ap (λ y. v.cell y k) a.1 ∙ w.drops k lt)
        (λ (a : object_in t e ≡ Some o). w.cells o k (i.balances e o a) ∙ i.drops e o k a lt)
        (where_at e o at);
    owned = λ o b. ⊎_elim
        (λ (a : o ≡ c). (x, found x ∙ ap (λ b'. if b' then Some c else object_in t x) ((same_prefix-Decides x x).1 refl) ∙ ap (λ (y : ℕ). Some y) (sym a)))
        (λ (a : IsBalance u o). let e = i.owned o a in (e.0, found e.0 ∙ not_x e.0 o e.1))
        (w.only o b);
    users = λ m. ap (λ (f : AdjacencyRecord → ℕ). f m) w.users ∙ i.users m;
    few = one_longer (λ n. s.plies ≤ 7 * n) (let f = i.few in omega (arith, f, plies));
    roomy = one_longer (λ n. 70 ≤ v.free + 8 * n) (let r = i.roomy in omega (arith, r, free, plies));
  }
    where
      one_longer : (P : ℕ → Type 0) → P (suc (length named)) → P (length (named ++ x ∷ []))
      one_longer P h = subst P (sym (length_more named x)) h

      not_x : (e : Prefix) (o : ℕ) → object_in t e ≡ Some o → (if same_prefix e x then Some c else object_in t e) ≡ Some o
      not_x e o at = by (same_prefix e x) refl
        where
          by : (b : Bool) → same_prefix e x ≡ b → (if b then Some c else object_in t e) ≡ Some o
          by true h = absurd (let bad : None ≡ Some o = sym none ∙ sym (ap (object_in t) ((same_prefix-Decides e x).0 h)) ∙ at in cc)
          by false h = at

-- a prefix that is there already
pub started_same : (p : Promise) (t : Table) (u : View) (named : List Prefix) (x : Prefix) → IsStarted p t u named → is_some (object_in t x) ≡ true → IsStarted p t u (named ++ x ∷ [])
started_same p t u named x i there = record {
  tried = i.tried;
  placed = λ e. i.placed e ∙ again e (either (same_prefix x e)) ∙ sym (named_more named x e);
  apart = i.apart;
  balances = i.balances;
  drops = i.drops;
  owned = i.owned;
  users = i.users;
  few = subst (λ n. t.plies ≤ 7 * n) (sym (length_more named x)) (let f = i.few in omega (arith, f));
  roomy = subst (λ n. 70 ≤ u.free + 8 * n) (sym (length_more named x)) (let r = i.roomy in omega (arith, r));
}
  where
    or_none : (b : Bool) → b ≡ b || false
    or_none true = refl
    or_none false = refl

    again : (e : Prefix) → (same_prefix x e ≡ true) ⊎ (same_prefix x e ≡ false) → is_among named e ≡ is_among named e || same_prefix x e
    again e (inl h) = ap (λ b. b) (sym (i.placed e) ∙ sym (ap (λ (y : Prefix). is_some (object_in t y)) ((same_prefix-Decides x e).0 h)) ∙ there) ∙ sym (ap (λ b. b || same_prefix x e) (sym (i.placed e) ∙ sym (ap (λ (y : Prefix). is_some (object_in t y)) ((same_prefix-Decides x e).0 h)) ∙ there))
    again e (inr h) = or_none (is_among named e) ∙ sym (ap (λ b. is_among named e || b) h)

-- the table with 0.0.0.0/0 alone
module _ (p q : Promise) (s : Table) (u v : View) (c : ℕ) (bare : IsBare p u) (same : q ≡ p) (stands : Stands q s v)
    (is : object_in s ≡ added (λ e. None) everything c) (w : Went u v c) (early : IsEarly p) (plies : s.plies ≡ 1) (free : 62 ≤ v.free) where
  first_at : (e : Prefix) (o : ℕ) → object_in s e ≡ Some o → (e ≡ everything) × (o ≡ c)
  first_at e o at = by (same_prefix e everything) refl
    where
      found_at : object_in s e ≡ (if same_prefix e everything then Some c else None)
      found_at = ap (λ (f : Prefix → Option ℕ). f e) is

      by : (b : Bool) → same_prefix e everything ≡ b → (e ≡ everything) × (o ≡ c)
      by true h = ((same_prefix-Decides e everything).0 h, (let both : Some c ≡ Some o = sym (ap (λ b. if b then Some c else None) h) ∙ sym found_at ∙ at in let z : c ≡ o = cc in sym z))
      by false h = absurd (let bad : None ≡ Some o = sym (ap (λ b. if b then Some c else None) h) ∙ sym found_at ∙ at in cc)

  first_placed : (e : Prefix) → is_some (object_in s e) ≡ is_among (everything ∷ []) e
  first_placed e = ap (λ (f : Prefix → Option ℕ). is_some (f e)) is ∙ by (same_prefix e everything) ∙ ap (λ b. b || false) (swapped e everything)
    where
      by : (b : Bool) → is_some (if b then Some c else None) ≡ b || false
      by true = refl
      by false = refl

  pub started_first : IsStarted q s v (everything ∷ [])
  started_first = record {
    tried = record { early = still_early p q same early; stands = stands };
    placed = first_placed;
    apart = λ d e o at there. (first_at d o at).0 ∙ sym (first_at e o there).0;
    balances = λ e o at. subst (λ (y : ℕ). IsBalance v y) (sym (first_at e o at).1) w.mine;
    drops = λ e o k at lt. ap (λ y. v.cell y k) (first_at e o at).1 ∙ w.drops k lt;
    owned = λ o b. ⊎_elim
        (λ (a : o ≡ c). (everything, ap (λ (f : Prefix → Option ℕ). f everything) is ∙ ap (λ (y : ℕ). Some y) (sym a)))
        (λ (a : IsBalance u o). absurd (true≢false (sym a.0 ∙ bare.held o)))
        (w.only o b);
    users = λ m. ap (λ (f : AdjacencyRecord → ℕ). f m) w.users ∙ bare.users m;
    few = omega (arith, plies);
    roomy = omega (arith, free);
  }

-- a loop over a list of prefixes has named one more
pub take_next : (xs : List Prefix) (i : ℕ) (x : Prefix) → slice_get xs i ≡ Some x → take (i + 1) xs ≡ take i xs ++ x ∷ []
take_next xs i x at = ap (λ k. take k xs) (let one : i + 1 ≡ suc i = omega arith in one) ∙ after xs i at
  where
    after : (ys : List Prefix) (k : ℕ) → slice_get ys k ≡ Some x → take (suc k) ys ≡ take k ys ++ x ∷ []
    after [] zero h = absurd (let bad : None ≡ Some x = h in cc)
    after [] (suc k) h = absurd (let bad : None ≡ Some x = h in cc)
    after (y ∷ ys) zero h = (let both : Some y ≡ Some x = h in let same : y ≡ x = cc in ap (λ (z : Prefix). z ∷ []) same)
    after (y ∷ ys) (suc k) h = ap (λ (l : List Prefix). y ∷ l) (after ys k h)
