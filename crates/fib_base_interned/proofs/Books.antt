-- A number has the place where it stands: what is kept under it, with another number of users, and with one content more.
use Rattle.std.proofs.Common.{arith, ◌≡◌, ◌≢◌, ℕ, ◌+◌, ◌-◌, ◌<◌, true, false, ◌==◌, List, [], ◌∷◌, ◌++◌, length, Option, Some, None, refl, sym, ◌∙◌, ap, subst, ◌⊎◌, inl, inr, cond, slice_get, slice_set, if◌then◌else◌, is_some}
use Rattle.std.specs.Prelude.{IsSome}
use Rattle.std.proofs.lemmas.Bool.Decides.{Decides-eqb, eqb_tells}
use Rattle.std.proofs.lemmas.Bool.{false≢true, cases_eq}
use Rattle.fib_base_list.proofs.Lists.{either}
use Rattle.fib_base_interned.specs.Interned.{Kept, kept_of, users_in, lowered, AreInterned, Takes, Gives}
use Rattle.fib_base_interned.specs.inner.Book.{IsBook, kept_at, kept_with}
use Rattle.fib_base_interned.proofs.Finding.{some_is, none_some, get_or_at, find_only, find_none, find_place, get_push, get_push_old, get_push_new, get_set_there, get_set_other}

pub place_is : (i j : ℕ) → Some i ≡ Some j → i ≡ j
place_is i j e = (cc)

pub eqb_self : (n : ℕ) → (n == n) ≡ true
eqb_self n = (Decides-eqb n n).1 refl

pub eqb_apart : (a b : ℕ) → a ≢ b → (a == b) ≡ false
eqb_apart a b n = elim (eqb_tells a b) [ inl is ↦ absurd (n is.1) | inr isnt ↦ isnt.0 ]

module _ {T : Type 0} where
  pub kept_there : (o : Option (Kept T)) → IsSome o → (k : Kept T) × (o ≡ Some k)
  kept_there None h = absurd (false≢true h)
  kept_there (Some k) h = (k, refl)

  pub kept_has : (o : Option (Kept T)) (k : Kept T) → o ≡ Some k → IsSome o
  kept_has o k e = ap is_some e

  -- what is kept under a number bears it
  pub kept_id : (rows : List (Kept T)) (id : ℕ) (k : Kept T) → kept_of rows id ≡ Some k → k.id ≡ id
  kept_id rows id k h = let r = find_place (λ z. z.id == id) rows k h in (Decides-eqb k.id id).0 r.2

  abbrev or_kept : Option (Kept T) → Option (Kept T) → Option (Kept T)
  or_kept None o = o
  or_kept (Some k) o = Some k

  or_none : (o : Option (Kept T)) → or_kept o None ≡ o
  or_none None = refl
  or_none (Some k) = refl

  lowered_more : (k : Kept T) → 1 < k.users → lowered (Some k) ≡ Some (kept_with k.content k.id (k.users - 1))
  lowered_more k more = elim (eqb_tells k.users 1) [
    | inl one ↦ (let is = one.1 in absurd (omega (arith, is, more)))
    | inr many ↦ ap (λ b. if b then None else Some (kept_with k.content k.id (k.users - 1))) many.0
  ]

  -- one user less: forgotten exactly with the last one
  pub lowered_gone : (o : Option (Kept T)) (k : Kept T) → o ≡ Some k → k.users ≡ 1 → lowered o ≡ None
  lowered_gone o k is one = ap lowered is ∙ ap (λ b. if b then None else Some (kept_with k.content k.id (k.users - 1))) ((Decides-eqb k.users 1).1 one)

  pub lowered_some : (o : Option (Kept T)) (k : Kept T) → o ≡ Some k → 1 < k.users → lowered o ≡ None → ⊥
  lowered_some o k is more gone = none_some (kept_with k.content k.id (k.users - 1)) (sym gone ∙ (ap lowered is ∙ lowered_more k more))

  -- what is found in a list with one more at its end
  find_push : (rows : List (Kept T)) (k : Kept T) (id : ℕ)
      → kept_of (rows ++ k ∷ []) id ≡ or_kept (kept_of rows id) (if k.id == id then Some k else None)
  find_push [] k id = elim (either (k.id == id)) [ inl is ↦ rw is refl | inr isnt ↦ rw isnt refl ]
  find_push (l ∷ ls) k id = elim (either (l.id == id)) [ inl is ↦ rw is refl | inr isnt ↦ rw isnt (find_push ls k id) ]

  module _ (rows : List (Kept T)) (place_of : ℕ → Option ℕ) (book : IsBook rows place_of) where
    -- the number's place decides what is kept under it
    pub kept_by_place : (id : ℕ) → kept_of rows id ≡ kept_at rows (place_of id)
    kept_by_place id = by (place_of id) refl
      where
        by : (o : Option ℕ) → place_of id ≡ o → kept_of rows id ≡ kept_at rows o
        by None e = find_none (λ k. k.id == id) rows (λ j k at passes.
            let same = (Decides-eqb k.id id).0 passes in
            let there = book.back j k at in
            let clash : None ≡ Some j = sym e ∙ ap place_of (sym same) ∙ there in none_some j clash)
        by (Some place) e =
            let r = book.placed id place e in
            find_only (λ k. k.id == id) rows place r.0 r.1 ((Decides-eqb r.0.id id).1 r.2) (λ j k at passes.
            let same = (Decides-eqb k.id id).0 passes in
            let there = book.back j k at in
            place_is j place (sym there ∙ ap place_of same ∙ e)) ∙ sym r.1

    -- what stands at a place is kept under its number
    pub kept_here : (place : ℕ) (k : Kept T) → slice_get rows place ≡ Some k → kept_of rows k.id ≡ Some k
    kept_here place k at = kept_by_place k.id ∙ (ap (kept_at rows) (book.back place k at) ∙ at)

    -- a number has a place exactly where something is kept under it
    pub has_place : (id : ℕ) → is_some (place_of id) ≡ is_some (kept_of rows id)
    has_place id = by (place_of id) refl
      where
        by : (o : Option ℕ) → place_of id ≡ o → is_some o ≡ is_some (kept_of rows id)
        by None e = sym (ap is_some (kept_by_place id ∙ ap (kept_at rows) e))
        by (Some place) e = let r = book.placed id place e in sym (ap is_some (kept_by_place id ∙ (ap (kept_at rows) e ∙ r.1)))

    pub one_place : (p q : ℕ) (x y : Kept T) → slice_get rows p ≡ Some x → slice_get rows q ≡ Some y → x.id ≡ y.id → p ≡ q
    one_place p q x y a b e = place_is p q (sym (book.back p x a) ∙ ap place_of e ∙ book.back q y b)

    -- where two contents stand at two places, all is interned
    pub book_interned : ((i j : ℕ) (k l : Kept T) → slice_get rows i ≡ Some k → slice_get rows j ≡ Some l → k.content ≡ l.content → i ≡ j)
        → AreInterned rows
    book_interned contents = record {
      used = λ k c. book.used c.0 k (get_or_at rows c.0 k c.1 c.2);
      numbers_apart = one_place;
      contents_apart = contents;
    }

    -- another number of users at a place
    module _ (place n : ℕ) (k : Kept T) (at : slice_get rows place ≡ Some k) (some : 0 < n) where
      abbrev with_users : List (Kept T)
      with_users = slice_set rows place (kept_with k.content k.id n)

      at_set : (p : ℕ) (l : Kept T) → slice_get with_users p ≡ Some l → ((p ≡ place) × (kept_with k.content k.id n ≡ l)) ⊎ (slice_get rows p ≡ Some l)
      at_set p l e = elim (cases_eq p place) [
        | inl same ↦ inl (
          same,
          some_is (kept_with k.content k.id n) l
              (sym (get_set_there rows place (kept_with k.content k.id n) k at) ∙ (ap (slice_get with_users) (sym same) ∙ e)),
        )
        | inr other ↦ inr (sym (get_set_other rows place p (kept_with k.content k.id n) other) ∙ e)
      ]

      pub book_set : IsBook with_users place_of
      book_set = record {
        placed = λ id p e. (let r = book.placed id p e in elim (cases_eq p place) [
          | inl same ↦ (
            kept_with k.content k.id n,
            ap (slice_get with_users) same ∙ get_set_there rows place (kept_with k.content k.id n) k at,
            ap (λ z. z.id) (some_is k r.0 (sym at ∙ ap (slice_get rows) (sym same) ∙ r.1)) ∙ r.2,
          )
          | inr other ↦ (r.0, get_set_other rows place p (kept_with k.content k.id n) other ∙ r.1, r.2)
        ]);
        back = λ p l e. elim (at_set p l e) [
          | inl here ↦ ap place_of (sym (ap (λ z. z.id) here.1)) ∙ book.back place k at ∙ ap Some (sym here.0)
          | inr there ↦ book.back p l there
        ];
        used = λ p l e. elim (at_set p l e) [ inl here ↦ subst (λ z. 0 < z.users) here.1 some | inr there ↦ book.used p l there ];
      }

      other_set : (other : ℕ) → other ≢ k.id → (o : Option ℕ) → place_of other ≡ o → kept_at with_users o ≡ kept_at rows o
      other_set other apart None e = refl
      other_set other apart (Some p) e =
          let r = book.placed other p e in
          let away : p ≢ place = λ same. apart (sym r.2 ∙ ap (λ z. z.id) (some_is r.0 k (sym r.1 ∙ ap (slice_get rows) same ∙ at))) in
          get_set_other rows place p (kept_with k.content k.id n) away

  -- the same places
  pub book_same : (rows : List (Kept T)) (place_of later : ℕ → Option ℕ) → IsBook rows place_of → ((q : ℕ) → later q ≡ place_of q) → IsBook rows later
  book_same rows place_of later book same = record {
    placed = λ id p e. book.placed id p (sym (same id) ∙ e);
    back = λ p k at. same k.id ∙ book.back p k at;
    used = book.used;
  }

  -- what is kept under each number then
  module _ (rows : List (Kept T)) (place_of : ℕ → Option ℕ) (book : IsBook rows place_of) (place n : ℕ) (k : Kept T) (at : slice_get rows place ≡ Some k) (some : 0 < n) where
    pub kept_set : kept_of (slice_set rows place (kept_with k.content k.id n)) k.id ≡ Some (kept_with k.content k.id n)
    kept_set =
        kept_by_place (slice_set rows place (kept_with k.content k.id n)) place_of (book_set rows place_of book place n k at some) k.id
        ∙ (ap (kept_at (slice_set rows place (kept_with k.content k.id n))) (book.back place k at)
        ∙ get_set_there rows place (kept_with k.content k.id n) k at)

    kept_else : (other : ℕ) → other ≢ k.id → kept_of (slice_set rows place (kept_with k.content k.id n)) other ≡ kept_of rows other
    kept_else other apart =
        kept_by_place (slice_set rows place (kept_with k.content k.id n)) place_of (book_set rows place_of book place n k at some) other
        ∙ (other_set rows place_of book place n k at some other apart (place_of other) refl ∙ sym (kept_by_place rows place_of book other))

  module _ (old rows new : List (Kept T)) (place_of : ℕ → Option ℕ) (book : IsBook rows place_of) (same : rows ≡ old) where
    module _ (place : ℕ) (k l : Kept T) (at : slice_get rows place ≡ Some k) (is : slice_get old place ≡ Some l) where
      there : l ≡ k
      there = some_is l k (sym is ∙ (ap (λ z. slice_get z place) (sym same) ∙ at))

      before : kept_of old k.id ≡ Some k
      before = sym (ap (λ z. kept_of z k.id) same) ∙ kept_here rows place_of book place k at

      -- one more user at a place
      pub taken_by : new ≡ slice_set rows place (kept_with k.content k.id (k.users + 1)) → Takes old new l.content l.id
      taken_by set = subst (λ (z : Kept T). Takes old new z.content z.id) (sym there) (record {
        was = λ o at_old. ap (λ z. z.content) (some_is o k (sym at_old ∙ before));
        taken = ap (λ z. kept_of z k.id) set ∙ (kept_set rows place_of book place (k.users + 1) k at (omega arith)
            ∙ ap (λ n. Some (kept_with k.content k.id (n + 1))) (sym (ap users_in before)));
        others = λ other apart. ap (λ z. kept_of z other) set
            ∙ (kept_else rows place_of book place (k.users + 1) k at (omega arith) other apart ∙ ap (λ z. kept_of z other) same);
      })

      -- one user less at a place, and some are left
      pub given_by : 1 < k.users → new ≡ slice_set rows place (kept_with k.content k.id (k.users - 1)) → Gives old new l.id
      given_by more set = subst (λ (z : Kept T). Gives old new z.id) (sym there) (record {
        given = ap (λ z. kept_of z k.id) set ∙ (kept_set rows place_of book place (k.users - 1) k at (omega (arith, more))
            ∙ (sym (lowered_more k more) ∙ ap lowered (sym before)));
        others = λ other apart. ap (λ z. kept_of z other) set
            ∙ (kept_else rows place_of book place (k.users - 1) k at (omega (arith, more)) other apart ∙ ap (λ z. kept_of z other) same);
      })

    -- a content more, under a number that had none
    pub taken_new : (id : ℕ) (content : T) → kept_of old id ≡ None → new ≡ rows ++ kept_with content id 1 ∷ [] → Takes old new content id
    taken_new id content none push = record {
      was = λ o at_old. absurd (none_some o (sym none ∙ at_old));
      taken = ap (λ z. kept_of z id) push ∙ (find_push rows (kept_with content id 1) id
          ∙ (ap (λ o. or_kept o (if id == id then Some (kept_with content id 1) else None)) (ap (λ z. kept_of z id) same ∙ none)
          ∙ (ap (λ b. if b then Some (kept_with content id 1) else None) (eqb_self id)
          ∙ ap (λ n. Some (kept_with content id (n + 1))) (sym (ap users_in none)))));
      others = λ other apart. ap (λ z. kept_of z other) push ∙ (find_push rows (kept_with content id 1) other
          ∙ (ap (λ b. or_kept (kept_of rows other) (if b then Some (kept_with content id 1) else None)) (eqb_apart id other (λ e. apart (sym e)))
          ∙ (or_none (kept_of rows other) ∙ ap (λ z. kept_of z other) same)));
    }

  -- the book with one content more
  module _ (rows : List (Kept T)) (place_of later : ℕ → Option ℕ) (book : IsBook rows place_of) (id : ℕ) (content : T) (none : kept_of rows id ≡ None) where
    new_id : (p : ℕ) (k : Kept T) → slice_get rows p ≡ Some k → id ≢ k.id
    new_id p k at e = none_some k (sym none ∙ (ap (kept_of rows) e ∙ kept_here rows place_of book p k at))

    pub book_push : ((q : ℕ) → later q ≡ cond (id == q) (Some (length rows)) (place_of q)) → IsBook (rows ++ kept_with content id 1 ∷ []) later
    book_push updates = record {
      placed = λ q p e. elim (eqb_tells id q) [
        | inl same ↦ (
          kept_with content id 1,
          (let at : Some (length rows) ≡ Some p = sym (updates q ∙ ap (λ b. cond b (Some (length rows)) (place_of q)) same.0) ∙ e in
              ap (slice_get (rows ++ kept_with content id 1 ∷ [])) (sym (place_is (length rows) p at)) ∙ get_push_new rows (kept_with content id 1)),
          same.1,
        )
        | inr other ↦ (let r = book.placed q p (sym (updates q ∙ ap (λ b. cond b (Some (length rows)) (place_of q)) other.0) ∙ e) in
            (r.0, get_push_old rows (kept_with content id 1) p r.0 r.1, r.2))
      ];
      back = λ p k at. elim (get_push rows (kept_with content id 1) p k at) [
        | inl old ↦ updates k.id ∙ (ap (λ b. cond b (Some (length rows)) (place_of k.id)) (eqb_apart id k.id (new_id p k old)) ∙ book.back p k old)
        | inr new ↦ subst (λ z. later z.id ≡ Some p) new.1
            (updates id ∙ (ap (λ b. cond b (Some (length rows)) (place_of id)) (eqb_self id) ∙ ap Some (sym new.0)))
      ];
      used = λ p k at. elim (get_push rows (kept_with content id 1) p k at) [
        | inl old ↦ book.used p k old
        | inr new ↦ subst (λ z. 0 < z.users) new.1 (omega arith)
      ];
    }
