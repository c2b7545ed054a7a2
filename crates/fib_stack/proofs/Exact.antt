-- A turn of an entry that is in the prefix table stores each cell that differs once.
use Rattle.std.proofs.Common.{◌≡◌, ◌⊎◌, ℕ, ◌+◌, ◌<◌, inl, inr, ⊎_elim, true, true≢false, List, [], ◌∷◌, ◌++◌, refl, sym, ap, ◌∙◌, subst, arith}
use Rattle.std.specs.Prelude.{Option, Some, None, Result, Ok}
use Rattle.std.specs.declared.alloc.AllocError.{AllocError}
use Rattle.std.proofs.lemmas.Bool.{cases_lt}
use Rattle.fib_core.specs.declared.word.Word.{Word}
use Rattle.fib_pool.specs.declared.object.AdjacencyRecord.{AdjacencyRecord}
use Rattle.fib_plane_view.specs.declared.put.Put.{Put}
use Rattle.fib_plane_view.specs.Stores.{IsFreed, StoresEach}
use Rattle.fib_plane_view.specs.View.{View, GaveRecord, HasIn, HasKind, HasRoom, IsBalance, IsLive, IsPlane, IsPut, IsRecord, leads}
use Rattle.fib_plane_view.proofs.Storing.{stores_then, stores_weaker}
use Rattle.fib_stack_ledger.specs.declared.ledger.Use.{Use}
use Rattle.fib_stack_ledger.specs.Ledgers.{record_used}
use Rattle.fib_stack.specs.Records.{AreObjects, IsObjectOf, TookFor}
use Rattle.fib_stack.proofs.Leaving.{led_live}

-- calls that store different cells, each where it may
pub stores_join : (P Q R : ℕ → ℕ → Type 0) (u v w : View) → StoresEach P u v → StoresEach Q v w → ((x s : ℕ) → P x s → R x s) → ((x s : ℕ) → Q x s → R x s)
    → ((x s : ℕ) → P x s → Q x s → ⊥) → StoresEach R u w
stores_join P Q R u v w f g p q apart = stores_then R u v w
    (record { cells = f.cells; once = f.once; each = λ x s h. (let e = f.each x s h in (e.0, p x s e.1)); all = f.all; stored = f.stored })
    (record { cells = g.cells; once = g.once; each = λ x s h. (let e = g.each x s h in (e.0, q x s e.1)); all = g.all; stored = g.stored })
    (λ x s l r. apart x s (f.each x s l).1 (g.each x s r).1)

-- what is in use after a put into a bucket was so before
pub live_put : (u v : View) (o k : ℕ) (w : Word) (a : Put) → IsBalance u o → HasKind u o w → IsPut u v o k w a → (y : ℕ) → IsLive v y → IsLive u y
live_put u v o k w a balance kind put y live = ⊎_elim
    (λ (z : y ≡ 0). inl z)
    (λ (more : (v.is_held y ≡ true) ⊎ (IsRecord v y ⊎ HasIn v y)). ⊎_elim
    (λ (h : v.is_held y ≡ true). inr (inl (sym (put.held y) ∙ h)))
    (λ (last : IsRecord v y ⊎ HasIn v y). ⊎_elim
    (λ (r : IsRecord v y). inr (inr (inl (r.0, ap (λ (f : AdjacencyRecord → Option ℕ). f r.0) (sym put.records.record_of) ∙ r.1))))
    (λ (e : HasIn v y). ⊎_elim
    (λ old. inr (inr (inr (e.0, e.1, e.2, e.3, old))))
    (λ (new : (e.0 ≡ o) × (e.1 ≡ k) × (e.2 ≡ w)). led_live u o w balance.1 kind y (subst (λ (z : Word). leads z y) new.2 e.3))
    (put.edges e.0 e.1 y e.2 e.3 e.4))
    last)
    more)
    live

-- and after a record lost a user
none_some : (x : ℕ) → None ≡ Some x → ⊥
none_some x e = cc

pub live_gave : (u v : View) (m : AdjacencyRecord) → IsPlane v → GaveRecord u v m → (y : ℕ) → IsLive v y → IsLive u y
live_gave u v m plane gave y live = ⊎_elim
    (λ (z : y ≡ 0). inl z)
    (λ (more : (v.is_held y ≡ true) ⊎ (IsRecord v y ⊎ HasIn v y)). ⊎_elim
    (λ (h : v.is_held y ≡ true). inr (inl (sym (gave.held y) ∙ h)))
    (λ (last : IsRecord v y ⊎ HasIn v y). ⊎_elim
    (λ (r : IsRecord v y). inr (inr (inl (r.0, sym (gave.kept r.0 (some_users r.0 y r.1)) ∙ r.1))))
    (λ (e : HasIn v y). inr (inr (inr (e.0, e.1, e.2, e.3, gave.swept.edges e.0 e.1 y e.2 e.3 e.4))))
    last)
    more)
    live
  where
    some_users : (n : AdjacencyRecord) (x : ℕ) → v.record_of n ≡ Some x → 0 < v.users n
    some_users n x e = elim (cases_lt 0 (v.users n)) [ inl lt ↦ lt | inr le ↦ absurd (none_some x (sym (plane.forgotten n (omega (arith, le))) ∙ e)) ]

-- sixteen puts
module _ (u0 u v : View) (o k : ℕ) (alive : (y : ℕ) → IsLive u y → IsLive u0 y) (back : (y : ℕ) → IsLive v y → IsLive u y) (before : IsBalance u o) (after : IsBalance v o) where
  abbrev Done : ℕ → ℕ → Type 0
  Done y t = ((y ≡ o) × (t < k)) ⊎ IsFreed u0 u y

  abbrev Here : ℕ → ℕ → Type 0
  Here y t = ((y ≡ o) × (t ≡ k)) ⊎ IsFreed u v y

  abbrev Next : ℕ → ℕ → Type 0
  Next y t = ((y ≡ o) × (t < k + 1)) ⊎ IsFreed u0 v y

  pub filled_next : StoresEach Done u0 u → StoresEach Here u v → StoresEach Next u0 v
  filled_next f g = stores_join Done Here Next u0 u v f g
      (λ y t d. ⊎_elim (λ (h : (y ≡ o) × (t < k)). inl (h.0, omega (arith, h.1))) (λ (h : IsFreed u0 u y). inr (h.0, λ live. h.1 (back y live))) d)
      (λ y t d. ⊎_elim (λ (h : (y ≡ o) × (t ≡ k)). inl (h.0, omega (arith, h.1))) (λ (h : IsFreed u v y). inr (alive y h.0, h.1)) d)
      (λ y t d e. ⊎_elim
      (λ (a : (y ≡ o) × (t < k)). ⊎_elim
      (λ (h : (y ≡ o) × (t ≡ k)). omega (arith, a.1, h.1))
      (λ (h : IsFreed u v y). h.1 (inr (inl (ap v.is_held a.0 ∙ after.0))))
      e)
      (λ (a : IsFreed u0 u y). ⊎_elim
      (λ (h : (y ≡ o) × (t ≡ k)). a.1 (inr (inl (ap u.is_held h.0 ∙ before.0))))
      (λ (h : IsFreed u v y). a.1 h.0)
      e)
      d)

-- what is given back
pub given_next : (u0 u v : View) → ((y : ℕ) → IsLive u y → IsLive u0 y) → ((y : ℕ) → IsLive v y → IsLive u y)
    → StoresEach (λ y t. IsFreed u0 u y) u0 u → StoresEach (λ y t. IsFreed u v y) u v → StoresEach (λ y t. IsFreed u0 v y) u0 v
given_next u0 u v alive back f g = stores_join (λ y t. IsFreed u0 u y) (λ y t. IsFreed u v y) (λ y t. IsFreed u0 v y) u0 u v f g
    (λ y t h. (h.0, λ live. h.1 (back y live)))
    (λ y t h. (alive y h.0, h.1))
    (λ y t h k. h.1 k.0)

-- what is taken
pub object_more : (us vs : List Use) (y : ℕ) → IsObjectOf us y → IsObjectOf (us ++ vs) y
object_more [] vs y h = absurd h
object_more (u ∷ us) vs y (inl e) = inl e
object_more (u ∷ us) vs y (inr h) = inr (object_more us vs y h)

pub object_last : (us : List Use) (u : Use) → IsObjectOf (us ++ u ∷ []) u.object
object_last [] u = inl refl
object_last (w ∷ us) u = inr (object_last us u)

pub object_recorded : (v : View) (us : List Use) (y : ℕ) → AreObjects v us → IsObjectOf us y → IsRecord v y
object_recorded v [] y all h = absurd h
object_recorded v (u ∷ us) y all (inl e) = (record_used u, all.0 ∙ ap Some e)
object_recorded v (u ∷ us) y all (inr h) = object_recorded v us y all.1 h

pub objects_more : (u v : View) (o : Option AdjacencyRecord) (old new : List Use) (x : Unit {0}) → TookFor u v o old new (Ok x) → (y : ℕ) → IsObjectOf old y → IsObjectOf new y
objects_more u v None old new x t y h = subst (λ (us : List Use). IsObjectOf us y) (sym t.1) h
objects_more u v (Some m) old new x t y h = subst (λ (us : List Use). IsObjectOf us y) (sym t.2) (object_more old _ y h)

pub taken_next : (u0 u v : View) (old new : List Use) → AreObjects u old → ((y : ℕ) → IsObjectOf old y → IsObjectOf new y)
    → StoresEach (λ y t. IsObjectOf old y) u0 u → StoresEach (λ y t. IsObjectOf new y × (IsLive u y → ⊥)) u v → StoresEach (λ y t. IsObjectOf new y) u0 v
taken_next u0 u v old new objects more f g = stores_join (λ y t. IsObjectOf old y) (λ y t. IsObjectOf new y × (IsLive u y → ⊥)) (λ y t. IsObjectOf new y) u0 u v f g
    (λ y t h. more y h)
    (λ y t h. h.0)
    (λ y t h k. k.1 (inr (inr (inl (object_recorded u old y objects h)))))

same_object : (x y : ℕ) → ◌≡◌ {A = Result (Option ℕ) AllocError} (Ok (Some x)) (Ok (Some y)) → x ≡ y
same_object x y is = cc

pub hop_stored : (u v : View) (r : Result (Option ℕ) AllocError) (old : List Use) (w : Use) → r ≡ Ok (Some w.object)
    → StoresEach (λ x s. (r ≡ Ok (Some x)) × (IsLive u x → ⊥)) u v → StoresEach (λ y t. IsObjectOf (old ++ w ∷ []) y × (IsLive u y → ⊥)) u v
hop_stored u v r old w is g = stores_weaker (λ x s. (r ≡ Ok (Some x)) × (IsLive u x → ⊥)) (λ y t. IsObjectOf (old ++ w ∷ []) y × (IsLive u y → ⊥)) u v
    (λ y t ne h. (let same : w.object ≡ y = same_object w.object y (sym is ∙ h.0) in subst (λ (i : ℕ). IsObjectOf (old ++ w ∷ []) i) same (object_last old w), h.1)) g

-- room alone
pub stores_room : (P : ℕ → ℕ → Type 0) (u v w : View) → HasRoom u v → StoresEach P v w → StoresEach P u w
stores_room P u v w room h = again (subst (λ (x : View). StoresEach P x w) room.same h)
  where
    again : StoresEach P (record u { spare = v.spare }) w → StoresEach P u w
    again g = record { cells = g.cells; once = g.once; each = g.each; all = g.all; stored = g.stored }

pub which_here : {Q : Type 0} (b : Option ℕ) (object o : ℕ) → (b ≡ Some object) ⊎ ((b ≡ None) × Q) → b ≡ Some o → b ≡ Some object
which_here b object o (inl is) at = is
which_here b object o (inr none) at = absurd (none_some o (sym none.0 ∙ at))

-- a turn: what was taken stays a record's, and the buckets are held
module _ (u v2 v3 v5 : View) (o : ℕ) (us : List Use) (plane : IsPlane v2) (here2 : IsBalance v2 o) (here5 : IsBalance v5 o) (taken : AreObjects v2 us) (still : AreObjects v5 us)
    (alive : (y : ℕ) → IsLive v3 y → IsLive v2 y) (back : (y : ℕ) → IsLive v5 y → IsLive v3 y) where
  abbrev Bucket : ℕ → ℕ → Type 0
  Bucket y t = (y ≡ o) ⊎ IsFreed v2 v3 y

  abbrev Later : ℕ → ℕ → Type 0
  Later y t = (y ≡ o) ⊎ IsFreed v2 v5 y

  later : StoresEach Bucket v2 v3 → StoresEach (λ y t. IsFreed v3 v5 y) v3 v5 → StoresEach Later v2 v5
  later f g = stores_join Bucket (λ y t. IsFreed v3 v5 y) Later v2 v3 v5 f g
      (λ y t d. ⊎_elim (λ (h : y ≡ o). inl h) (λ (h : IsFreed v2 v3 y). inr (h.0, λ live. h.1 (back y live))) d)
      (λ y t h. inr (alive y h.0, h.1))
      (λ y t d h. ⊎_elim
      (λ (a : y ≡ o). h.1 (inr (inl (ap v5.is_held a ∙ here5.0))))
      (λ (a : IsFreed v2 v3 y). a.1 h.0)
      d)

  pub turn_stores : StoresEach (λ y t. IsObjectOf us y) u v2 → StoresEach Bucket v2 v3 → StoresEach (λ y t. IsFreed v3 v5 y) v3 v5 → StoresEach (λ y t. Unit {0}) u v5
  turn_stores f g h = stores_join (λ y t. IsObjectOf us y) Later (λ y t. Unit {0}) u v2 v5 f (later g h)
      (λ y t d. tt)
      (λ y t d. tt)
      (λ y t l d. ⊎_elim
      (λ (a : y ≡ o). (let at = object_recorded v2 us y taken l in true≢false (sym (ap v2.is_held a ∙ here2.0) ∙ (plane.records at.0 y at.1).0)))
      (λ (a : IsFreed v2 v5 y). a.1 (inr (inr (inl (object_recorded v5 us y still l)))))
      d)
