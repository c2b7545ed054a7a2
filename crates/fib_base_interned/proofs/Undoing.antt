-- What is taken back: one user less, and the last place less.
use Rattle.std.proofs.Common.{arith, ◌≡◌, ℕ, zero, suc, ◌+◌, ◌-◌, ◌<◌, true, false, ◌==◌, List, [], ◌∷◌, ◌++◌, length, take, Option, Some, None, inl, inr, refl, sym, ◌∙◌, ap, subst, slice_get, slice_set, slice_index_or, if◌then◌else◌}
use Rattle.std.specs.List.{swap_remove}
use Rattle.std.proofs.lemmas.Bool.Decides.{Decides-eqb}
use Rattle.fib_base_list.proofs.Lists.{either}
use Rattle.fib_base_interned.specs.Interned.{Kept, kept_of, untaken, without_user, TakesBack}
use Rattle.fib_base_interned.specs.inner.Book.{IsBook, kept_with}
use Rattle.fib_base_interned.proofs.Finding.{some_is, none_some, get_push_new}
use Rattle.fib_base_interned.proofs.Books.{eqb_apart, kept_has, one_place, kept_set}

many : (n : ℕ) → 1 < n → (n == 1) ≡ false
many n lt = eqb_apart n 1 (λ e. omega (arith, e, lt))

module _ {T : Type 0} where
  first_not : (x : Kept T) (xs : List (Kept T)) (p id : ℕ) → ((j : ℕ) (l : Kept T) → slice_get (x ∷ xs) j ≡ Some l → l.id ≡ id → j ≡ suc p) → (x.id == id) ≡ false
  first_not x xs p id alone = eqb_apart x.id id (λ e. let z = alone 0 x refl e in omega (arith, z))

  rest_alone : (x : Kept T) (xs : List (Kept T)) (p id : ℕ) → ((j : ℕ) (l : Kept T) → slice_get (x ∷ xs) j ≡ Some l → l.id ≡ id → j ≡ suc p)
      → (j : ℕ) (l : Kept T) → slice_get xs j ≡ Some l → l.id ≡ id → j ≡ p
  rest_alone x xs p id alone j l at is = let z = alone (suc j) l at is in omega (arith, z)

  untaken_here : (k : Kept T) (ks : List (Kept T)) (id : ℕ) → k.id ≡ id → untaken id (k ∷ ks) ≡ without_user k ks
  untaken_here k ks id is = let t : (k.id == id) ≡ true = (Decides-eqb k.id id).1 is in rw t refl

  untaken_later : (k : Kept T) (ks : List (Kept T)) (id : ℕ) → (k.id == id) ≡ false → untaken id (k ∷ ks) ≡ k ∷ untaken id ks
  untaken_later k ks id off = rw off refl

  pub untaken_at : (rows : List (Kept T)) (place : ℕ) (k : Kept T) → slice_get rows place ≡ Some k
      → ((j : ℕ) (l : Kept T) → slice_get rows j ≡ Some l → l.id ≡ k.id → j ≡ place) → 1 < k.users
      → slice_set rows place (kept_with k.content k.id (k.users - 1)) ≡ untaken k.id rows
  untaken_at [] place k at alone lt = absurd (none_some k at)
  untaken_at (x ∷ xs) zero k at alone lt =
      let is = some_is x k at in
      let off = many x.users (subst (λ (z : Kept T). 1 < z.users) (sym is) lt) in
      sym (untaken_here x xs k.id (ap (λ (z : Kept T). z.id) is) ∙ (lower off ∙ ap (λ (z : Kept T). kept_with z.content z.id (z.users - 1) ∷ xs) is))
    where
      lower : (x.users == 1) ≡ false → without_user x xs ≡ kept_with x.content x.id (x.users - 1) ∷ xs
      lower off = rw off refl
  untaken_at (x ∷ xs) (suc p) k at alone lt =
      ap (λ l. x ∷ l) (untaken_at xs p k at (rest_alone x xs p k.id alone) lt) ∙ sym (untaken_later x xs k.id (first_not x xs p k.id alone))

  untaken_end : (rows : List (Kept T)) (n : ℕ) (k : Kept T) → slice_get rows n ≡ Some k
      → ((j : ℕ) (l : Kept T) → slice_get rows j ≡ Some l → l.id ≡ k.id → j ≡ n) → k.users ≡ 1 → length rows ≡ suc n
      → take n rows ≡ untaken k.id rows
  untaken_end [] n k at alone one len = absurd (none_some k at)
  untaken_end (x ∷ []) zero k at alone one len =
      let is = some_is x k at in
      let e : (x.users == 1) ≡ true = (Decides-eqb x.users 1).1 (ap (λ (z : Kept T). z.users) is ∙ one) in
      sym (untaken_here x [] k.id (ap (λ (z : Kept T). z.id) is) ∙ ap (λ b. if b then [] else kept_with x.content x.id (x.users - 1) ∷ []) e)
  untaken_end (x ∷ y ∷ ys) zero k at alone one len = absurd (omega (arith, len))
  untaken_end (x ∷ xs) (suc p) k at alone one len =
      ap (λ l. x ∷ l) (untaken_end xs p k at (rest_alone x xs p k.id alone) one (omega (arith, len))) ∙ sym (untaken_later x xs k.id (first_not x xs p k.id alone))

  set_same : (xs : List (Kept T)) (i : ℕ) (d : Kept T) → slice_set xs i (slice_index_or xs i d) ≡ xs
  set_same [] i d = refl
  set_same (x ∷ xs) zero d = refl
  set_same (x ∷ xs) (suc i) d = ap (λ l. x ∷ l) (set_same xs i d)

  -- the last one goes
  pub untaken_last : (rows : List (Kept T)) (n : ℕ) (k : Kept T) → slice_get rows n ≡ Some k
      → ((j : ℕ) (l : Kept T) → slice_get rows j ≡ Some l → l.id ≡ k.id → j ≡ n) → k.users ≡ 1 → n + 1 ≡ length rows
      → swap_remove rows n k ≡ untaken k.id rows
  untaken_last rows n k at alone one len =
      let last : length rows - 1 ≡ n = omega (arith, len) in
      ap (λ m. take m (slice_set rows n (slice_index_or rows m k))) last
      ∙ (ap (take n) (set_same rows n k) ∙ untaken_end rows n k at alone one (omega (arith, len)))

  untaken_set : (rows : List (Kept T)) (place : ℕ) (k : Kept T) → slice_get rows place ≡ Some k
      → ((j : ℕ) (l : Kept T) → slice_get rows j ≡ Some l → l.id ≡ k.id → j ≡ place) → 0 < k.users
      → untaken k.id (slice_set rows place (kept_with k.content k.id (k.users + 1))) ≡ rows
  untaken_set [] place k at alone lt = absurd (none_some k at)
  untaken_set (x ∷ xs) zero k at alone lt =
      untaken_here (kept_with k.content k.id (k.users + 1)) xs k.id refl
      ∙ (lower (many (k.users + 1) (omega (arith, lt))) ∙ (ap (λ n. kept_with k.content k.id n ∷ xs) (omega arith) ∙ ap (λ (z : Kept T). z ∷ xs) (sym (some_is x k at))))
    where
      lower : ((k.users + 1) == 1) ≡ false → without_user (kept_with k.content k.id (k.users + 1)) xs ≡ kept_with k.content k.id (k.users + 1 - 1) ∷ xs
      lower off = rw off refl
  untaken_set (x ∷ xs) (suc p) k at alone lt =
      untaken_later x (slice_set xs p (kept_with k.content k.id (k.users + 1))) k.id (first_not x xs p k.id alone)
      ∙ ap (λ l. x ∷ l) (untaken_set xs p k at (rest_alone x xs p k.id alone) lt)

  untaken_push : (rows : List (Kept T)) (id : ℕ) (content : T) → kept_of rows id ≡ None → untaken id (rows ++ kept_with content id 1 ∷ []) ≡ rows
  untaken_push [] id content none = untaken_here (kept_with content id 1) [] id refl
  untaken_push (x ∷ xs) id content none = elim (either (x.id == id)) [
    | inl is ↦ absurd (none_some x (sym (rw is at none)))
    | inr isnt ↦ untaken_later x (xs ++ kept_with content id 1 ∷ []) id isnt ∙ ap (λ l. x ∷ l) (untaken_push xs id content (rw isnt at none))
  ]

  -- a user more at a place is taken back
  pub back_set : (rows new : List (Kept T)) (place : ℕ) (k : Kept T) → slice_get rows place ≡ Some k
      → ((j : ℕ) (l : Kept T) → slice_get rows j ≡ Some l → l.id ≡ k.id → j ≡ place) → 0 < k.users
      → new ≡ slice_set rows place (kept_with k.content k.id (k.users + 1)) → kept_of new k.id ≡ Some (kept_with k.content k.id (k.users + 1)) → TakesBack rows new k.id
  back_set rows new place k at alone some set found = record {
    there = kept_has (kept_of new k.id) _ found;
    last = λ o is one. absurd (let n = ap (λ (z : Kept T). z.users) (some_is _ o (sym found ∙ is)) in omega (arith, n, one, some));
    back = ap (untaken k.id) set ∙ untaken_set rows place k at alone some;
  }

  -- a content more is taken back
  pub back_push : (rows new : List (Kept T)) (id : ℕ) (content : T) → kept_of rows id ≡ None → new ≡ rows ++ kept_with content id 1 ∷ []
      → kept_of new id ≡ Some (kept_with content id 1) → TakesBack rows new id
  back_push rows new id content none push found = record {
    there = kept_has (kept_of new id) _ found;
    last = λ o is one. ap (λ l. slice_get l (length l - 1)) push ∙ (ap (slice_get (rows ++ kept_with content id 1 ∷ [])) (end rows (kept_with content id 1))
        ∙ (get_push_new rows (kept_with content id 1) ∙ (sym found ∙ is)));
    back = ap (untaken id) push ∙ untaken_push rows id content none;
  }
    where
      end : (xs : List (Kept T)) (x : Kept T) → length (xs ++ x ∷ []) - 1 ≡ length xs
      end xs x = let n = grow xs x in omega (arith, n)
        where
          grow : (xs : List (Kept T)) (x : Kept T) → length (xs ++ x ∷ []) ≡ suc (length xs)
          grow [] x = refl
          grow (y ∷ ys) x = ap suc (grow ys x)

  module _ (old rows new : List (Kept T)) (place_of : ℕ → Option ℕ) (book : IsBook rows place_of) (same : rows ≡ old) (place : ℕ) (k l : Kept T)
      (at : slice_get rows place ≡ Some k) (is : slice_get old place ≡ Some l) where
    one_kept : k.id ≡ l.id
    one_kept = ap (λ (z : Kept T). z.id) (some_is k l (sym at ∙ (ap (λ z. slice_get z place) same ∙ is)))

    alone_there : (j : ℕ) (m : Kept T) → slice_get rows j ≡ Some m → m.id ≡ k.id → j ≡ place
    alone_there j m there e = one_place rows place_of book j place m k there at e

    pub raised_back : new ≡ slice_set rows place (kept_with k.content k.id (k.users + 1)) → TakesBack old new l.id
    raised_back set = subst (λ z. TakesBack z new l.id) same (subst (TakesBack rows new) one_kept (back_set rows new place k at alone_there (book.used place k at) set
        (ap (λ z. kept_of z k.id) set ∙ kept_set rows place_of book place (k.users + 1) k at (omega arith))))

    pub lowered_back : 1 < k.users → new ≡ slice_set rows place (kept_with k.content k.id (k.users - 1)) → new ≡ untaken l.id old
    lowered_back more set = set ∙ (untaken_at rows place k at alone_there more ∙ (ap (λ n. untaken n rows) one_kept ∙ ap (untaken l.id) same))

    pub gone_back : l.users ≡ 1 → place + 1 ≡ length old → new ≡ swap_remove rows place k → new ≡ untaken l.id old
    gone_back one len gone = gone ∙ (untaken_last rows place k at alone_there (ap (λ (z : Kept T). z.users) (some_is k l (sym at ∙ (ap (λ z. slice_get z place) same ∙ is))) ∙ one) (len ∙ ap (λ z. length z) (sym same)) ∙ (ap (λ n. untaken n rows) one_kept ∙ ap (untaken l.id) same))
