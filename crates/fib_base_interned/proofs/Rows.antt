-- The entries of the map as contents that are kept.
use Rattle.std.proofs.Common.{arith, ◌≡◌, ℕ, zero, suc, ◌-◌, Bool, true, false, List, [], ◌∷◌, ◌++◌, length, take, map, Option, Some, None, refl, sym, ◌∙◌, ap, subst, slice_get, slice_index_or, slice_set, option_map, inl, inr, cond}
use Rattle.std.specs.List.{IsDistinct, swap_remove}
use Rattle.std.specs.Map.{lookup, lookup_key}
use Rattle.std.proofs.lemmas.Bool.{false≢true}
use Rattle.std.proofs.lemmas.Option.{slice_get-map}
use Rattle.indexmap.specs.Layout.{set_value_at}
use Rattle.fib_base_interned.specs.declared.interned.Held.{Held}
use Rattle.fib_base_list.proofs.Lists.{either}
use Rattle.fib_base_interned.specs.Interned.{Kept, AreInterned, IsAbsent}
use Rattle.fib_base_interned.specs.inner.Book.{IsBook, kept_with}
use Rattle.fib_base_interned.proofs.Finding.{some_is, none_some, each_at}
use Rattle.fib_base_interned.proofs.Books.{book_interned}

module _ {T : Type 0} where
  abbrev pub shown : T × Held → Kept T
  shown e = kept_with e.0 e.1.id e.1.users

  pub map_at : {Y : Type 0} (f : Y → Kept T) (es : List Y) (i : ℕ) (e : Y) → slice_get es i ≡ Some e → slice_get (map f es) i ≡ Some (f e)
  map_at f es i e at = slice_get-map f es i ∙ ap (option_map f) at

  -- a write by place
  pub map_set : (es : List (T × Held)) (i : ℕ) (e : T × Held) (w : Held) → slice_get es i ≡ Some e → map shown (set_value_at es i w) ≡ slice_set (map shown es) i (shown (e.0, w))
  map_set [] i e w at = absurd (none_some e at)
  map_set (x ∷ xs) zero e w at = ap (λ y. shown (y, w) ∷ map shown xs) (ap (λ z. z.0) (some_is x e at))
  map_set (x ∷ xs) (suc i) e w at = ap (λ l. shown x ∷ l) (map_set xs i e w at)

  pub keys_set : (es : List (T × Held)) (i : ℕ) (w : Held) → map (λ e. e.0) (set_value_at es i w) ≡ map (λ e. e.0) es
  keys_set [] i w = refl
  keys_set (x ∷ xs) zero w = refl
  keys_set (x ∷ xs) (suc i) w = ap (λ l. x.0 ∷ l) (keys_set xs i w)

  pub map_push : {Y : Type 0} (f : Y → Kept T) (es : List Y) (e : Y) → map f (es ++ e ∷ []) ≡ map f es ++ f e ∷ []
  map_push f [] e = refl
  map_push f (x ∷ xs) e = ap (λ l. f x ∷ l) (map_push f xs e)

  pub length_map : {Y : Type 0} (f : Y → Kept T) (es : List Y) → length (map f es) ≡ length es
  length_map f [] = refl
  length_map f (x ∷ xs) = ap suc (length_map f xs)

  map_take : {Y : Type 0} (f : Y → Kept T) (n : ℕ) (es : List Y) → map f (take n es) ≡ take n (map f es)
  map_take f zero [] = refl
  map_take f (suc n) [] = refl
  map_take f zero (x ∷ xs) = refl
  map_take f (suc n) (x ∷ xs) = ap (λ l. f x ∷ l) (map_take f n xs)

  map_put : {Y : Type 0} (f : Y → Kept T) (es : List Y) (i : ℕ) (w : Y) → map f (slice_set es i w) ≡ slice_set (map f es) i (f w)
  map_put f [] i w = refl
  map_put f (x ∷ xs) zero w = refl
  map_put f (x ∷ xs) (suc i) w = ap (λ l. f x ∷ l) (map_put f xs i w)

  map_or : {Y : Type 0} (f : Y → Kept T) (es : List Y) (i : ℕ) (d : Y) → f (slice_index_or es i d) ≡ slice_index_or (map f es) i (f d)
  map_or f [] i d = refl
  map_or f (x ∷ xs) zero d = refl
  map_or f (x ∷ xs) (suc i) d = map_or f xs i d

  -- a removal by place
  pub map_swap : {Y : Type 0} (f : Y → Kept T) (es : List Y) (i : ℕ) (e : Y) → map f (swap_remove es i e) ≡ swap_remove (map f es) i (f e)
  map_swap f es i e =
      map_take f (length es - 1) (slice_set es i (slice_index_or es (length es - 1) e))
      ∙ (ap (take (length es - 1)) (map_put f es i (slice_index_or es (length es - 1) e) ∙ ap (slice_set (map f es) i) (map_or f es (length es - 1) e))
      ∙ ap (λ n. take (n - 1) (slice_set (map f es) i (slice_index_or (map f es) (n - 1) (f e)))) (sym (length_map f es)))

  keys_apart : (eq : T → T → Bool) → ((x : T) → eq x x ≡ true) → (keys : List T) → IsDistinct eq keys
      → (i j : ℕ) (x y : T) → slice_get keys i ≡ Some x → slice_get keys j ≡ Some y → x ≡ y → i ≡ j
  unfolding IsDistinct
  keys_apart eq self [] apart i j x y a b e = absurd (none_some x a)
  keys_apart eq self (k ∷ ks) apart zero zero x y a b e = refl
  keys_apart eq self (k ∷ ks) apart zero (suc j) x y a b e =
      absurd (false≢true (sym (each_at (λ z. eq k z ≡ false) ks apart.0 j y b) ∙ subst (λ z. eq k z ≡ true) (some_is k x a ∙ e) (self k)))
  keys_apart eq self (k ∷ ks) apart (suc i) zero x y a b e =
      absurd (false≢true (sym (each_at (λ z. eq k z ≡ false) ks apart.0 i x a) ∙ subst (λ z. eq k z ≡ true) (some_is k y b ∙ sym e) (self k)))
  keys_apart eq self (k ∷ ks) apart (suc i) (suc j) x y a b e = ap suc (keys_apart eq self ks apart.1 i j x y a b e)

  entry_at : (o : Option (T × Held)) (k : Kept T) → option_map shown o ≡ Some k → (e : T × Held) × (o ≡ Some e) × (shown e ≡ k)
  entry_at None k h = absurd (none_some k h)
  entry_at (Some e) k h = (e, refl, some_is (shown e) k h)

  -- what stands at a place of the entries
  pub entry_of : (es : List (T × Held)) (i : ℕ) (k : Kept T) → slice_get (map shown es) i ≡ Some k → (e : T × Held) × (slice_get es i ≡ Some e) × (shown e ≡ k)
  entry_of es i k a = entry_at (slice_get es i) k (sym (slice_get-map shown es i) ∙ a)

  -- as keys of the map stand once, all is interned
  pub rows_interned : (eq : T → T → Bool) → ((x : T) → eq x x ≡ true) → (es : List (T × Held)) (place_of : ℕ → Option ℕ)
      → IsBook (map shown es) place_of → IsDistinct eq (map (λ e. e.0) es) → AreInterned (map shown es)
  rows_interned eq self es place_of book apart = book_interned (map shown es) place_of book (λ i j k l a b e.
      let x = entry_of es i k a in
      let y = entry_of es j l b in
      keys_apart eq self (map (λ z. z.0) es) apart i j x.0.0 y.0.0
      (slice_get-map (λ z. z.0) es i ∙ ap (option_map (λ z. z.0)) x.1)
      (slice_get-map (λ z. z.0) es j ∙ ap (option_map (λ z. z.0)) y.1)
      (ap (λ z. z.content) x.2 ∙ (e ∙ sym (ap (λ z. z.content) y.2))))

  -- a test of keys that fails for each of them
  pub rows_absent : (test : T → Bool) (es : List (T × Held)) → lookup_key test es ≡ None → IsAbsent test (map shown es)
  rows_absent test [] none k c = absurd (let low = c.1 in let bad : ⊥ = omega arith in bad)
  rows_absent test (e ∷ es) none k (zero, low, is) = elim (either (test e.0)) [
    | inl is_so ↦ absurd (none_some e.0 (sym none ∙ ap (λ b. cond b (Some e.0) (lookup_key test es)) is_so))
    | inr isnt ↦ subst (λ (z : Kept T). test z.content ≡ false) is isnt
  ]
  rows_absent test (e ∷ es) none k (suc i, low, is) = elim (either (test e.0)) [
    | inl is_so ↦ absurd (none_some e.0 (sym none ∙ ap (λ b. cond b (Some e.0) (lookup_key test es)) is_so))
    | inr isnt ↦ rows_absent test es (sym (ap (λ b. cond b (Some e.0) (lookup_key test es)) isnt) ∙ none) k (i, omega (arith, low), is)
  ]

  pub absent_rows : (test : T → Bool) (es : List (T × Held)) → IsAbsent test (map shown es) → lookup test es ≡ None
  absent_rows test [] none = refl
  absent_rows test (e ∷ es) none =
      ap (λ b. cond b (Some e.1) (lookup test es)) (none (shown e) (0, omega arith, refl))
      ∙ absent_rows test es (λ k c. none k (suc c.0, omega (arith, c.1), c.2))
