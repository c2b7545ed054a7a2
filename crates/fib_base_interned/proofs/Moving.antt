-- Where numbers stand once the content at a place is gone and the last one took its place.
use Rattle.std.proofs.Common.{arith, ◌≡◌, ◌≢◌, ℕ, ◌-◌, ◌<◌, ◌≤◌, true, ◌==◌, List, length, Option, Some, None, refl, sym, ◌∙◌, ap, subst, inl, inr, cond, slice_get, get_or, if◌then◌else◌}
use Rattle.std.specs.List.{swap_remove}
use Rattle.std.proofs.lemmas.Bool.Decides.{Decides-eqb, eqb_tells}
use Rattle.std.proofs.lemmas.Bool.{cases_eq, cases_lt}
use Rattle.std.proofs.lemmas.Option.{slice_get_within, slice_get-get_or}
use Rattle.fib_base_interned.specs.Interned.{Kept, kept_of, lowered, Gives}
use Rattle.fib_base_interned.specs.inner.Book.{IsBook, kept_at, kept_with}
use Rattle.fib_base_interned.proofs.Finding.{some_is, none_some, swapped_old, swapped_place, swapped_at}
use Rattle.fib_base_interned.proofs.Books.{place_is, eqb_self, eqb_apart, kept_by_place, kept_here, one_place}

module _ {T : Type 0} where
  -- the last content, where another one is taken out before it
  abbrev pub IsLast : List (Kept T) → ℕ → Kept T → Type 0
  IsLast rows place l = (place < length rows - 1) × (slice_get rows (length rows - 1) ≡ Some l)

  pub record Moves (rows : List (Kept T)) (place_of later : ℕ → Option ℕ) (place : ℕ) (k : Kept T) : Type 0 where
    pub gone : later k.id ≡ None
    pub moved : (l : Kept T) → IsLast rows place l → later l.id ≡ Some place
    pub others : (q : ℕ) → q ≢ k.id → ((l : Kept T) → IsLast rows place l → q ≢ l.id) → later q ≡ place_of q

  module _ (rows : List (Kept T)) (place_of : ℕ → Option ℕ) (place : ℕ) (k : Kept T) (book : IsBook rows place_of) (at : slice_get rows place ≡ Some k) where
    -- the last content itself went
    pub moves_popped : (later : ℕ → Option ℕ) → length rows - 1 ≤ place → ((q : ℕ) → later q ≡ cond (k.id == q) None (place_of q)) → Moves rows place_of later place k
    moves_popped later end updates = record {
      gone = updates k.id ∙ ap (λ b. cond b None (place_of k.id)) (eqb_self k.id);
      moved = λ l last. (let low = last.0 in absurd (omega (arith, end, low)));
      others = λ q apart _. updates q ∙ ap (λ b. cond b None (place_of q)) (eqb_apart k.id q (λ e. apart (sym e)));
    }

    -- another one did
    pub moves_moved : (later : ℕ → Option ℕ) (l : Kept T) → IsLast rows place l
        → ((q : ℕ) → later q ≡ cond (l.id == q) (Some place) (cond (k.id == q) None (place_of q))) → Moves rows place_of later place k
    moves_moved later l last updates =
        let away : l.id ≢ k.id = λ e. (let same = one_place rows place_of book (length rows - 1) place l k last.1 at e in let low = last.0 in omega (arith, low, same)) in
        record {
          gone = updates k.id ∙ (ap (λ b. cond b (Some place) (cond (k.id == k.id) None (place_of k.id))) (eqb_apart l.id k.id away)
              ∙ ap (λ b. cond b None (place_of k.id)) (eqb_self k.id));
          moved = λ m last_too. subst (λ z. later z.id ≡ Some place) (some_is l m (sym last.1 ∙ last_too.1))
              (updates l.id ∙ ap (λ b. cond b (Some place) (cond (k.id == l.id) None (place_of l.id))) (eqb_self l.id));
          others = λ q apart other. updates q ∙ (ap (λ b. cond b (Some place) (cond (k.id == q) None (place_of q))) (eqb_apart l.id q (λ e. other l last (sym e)))
              ∙ ap (λ b. cond b None (place_of q)) (eqb_apart k.id q (λ e. apart (sym e))));
        }

    module _ (later : ℕ → Option ℕ) (m : Moves rows place_of later place k) where
      within : place < length rows
      within = slice_get_within rows place k at

      -- an old place that still counts
      kept_place : (p : ℕ) (x : Kept T) → slice_get rows p ≡ Some x → p ≢ place → p < length rows - 1 → later x.id ≡ Some p
      kept_place p x is apart low =
          m.others x.id (λ e. apart (one_place rows place_of book p place x k is at e))
          (λ l last e. let same = one_place rows place_of book p (length rows - 1) x l is last.1 e in omega (arith, same, low))
          ∙ book.back p x is

      before_end : (p : ℕ) → p ≢ place → p ≡ length rows - 1 → place < length rows - 1
      before_end p off end = let inside = within in elim (cases_lt place (length rows - 1)) [
        | inl lt ↦ lt
        | inr ge ↦ absurd (off (omega (arith, end, inside, ge)))
      ]

      in_front : (p : ℕ) → p ≢ length rows - 1 → p < length rows → p < length rows - 1
      in_front p front inside = elim (cases_lt p (length rows - 1)) [ inl lt ↦ lt | inr ge ↦ absurd (front (omega (arith, inside, ge))) ]

      -- a number that neither went nor moved stands where it stood
      old_one : (id p : ℕ) → id ≢ k.id → ((l : Kept T) → IsLast rows place l → id ≢ l.id) → place_of id ≡ Some p
          → (x : Kept T) × (slice_get (swap_remove rows place k) p ≡ Some x) × (x.id ≡ id) × (slice_get rows p ≡ Some x)
      old_one id p apart other e =
          let r = book.placed id p e in
          let off : p ≢ place = λ same. apart (sym r.2 ∙ ap (λ z. z.id) (some_is r.0 k (sym r.1 ∙ ap (slice_get rows) same ∙ at))) in
          let inside = slice_get_within rows p r.0 r.1 in
          elim (cases_eq p (length rows - 1)) [
            | inl end ↦ absurd (other r.0 (before_end p off end, ap (slice_get rows) (sym end) ∙ r.1) (sym r.2))
            | inr front ↦ (r.0, swapped_old rows place k at p (in_front p front inside) off ∙ r.1, r.2, r.1)
          ]

      -- the last content, where it moves
      last_one : place < length rows - 1 → IsLast rows place (get_or rows (length rows - 1) k)
      last_one here = let inside = within in (here, slice_get-get_or rows (length rows - 1) k (omega (arith, inside)))

      -- its number, or another one
      data Stands (id : ℕ) : Type 0 where
        there : (here : place < length rows - 1) → id ≡ (get_or rows (length rows - 1) k).id → Stands id
        stays : ((l : Kept T) → IsLast rows place l → id ≢ l.id) → Stands id

      stands : (id : ℕ) → Stands id
      stands id = elim (cases_lt place (length rows - 1)) [
        | inl here ↦ elim (eqb_tells id (get_or rows (length rows - 1) k).id) [
          | inl is ↦ there here is.1
          | inr isnt ↦ stays (λ l last same. isnt.1 (same ∙ ap (λ z. z.id) (some_is l (get_or rows (length rows - 1) k) (sym last.1 ∙ (last_one here).1))))
        ]
        | inr end ↦ stays (λ l last same. (let low = last.0 in omega (arith, low, end)))
      ]

      placed_other : (id p : ℕ) → later id ≡ Some p → id ≢ k.id → Stands id → (x : Kept T) × (slice_get (swap_remove rows place k) p ≡ Some x) × (x.id ≡ id)
      placed_other id p e apart (there here is) =
          let one = get_or rows (length rows - 1) k in
          let last = last_one here in
          let spot = place_is place p (sym (ap later is ∙ m.moved one last) ∙ e) in
          (one, ap (slice_get (swap_remove rows place k)) (sym spot) ∙ swapped_place rows place k at one here last.1, sym is)
      placed_other id p e apart (stays other) = let r = old_one id p apart other (sym (m.others id apart other) ∙ e) in (r.0, r.1, r.2)

      pub book_moved : IsBook (swap_remove rows place k) later
      book_moved = record {
        placed = λ id p e. elim (eqb_tells id k.id) [
          | inl is ↦ absurd (none_some p (sym m.gone ∙ (ap later (sym is.1) ∙ e)))
          | inr isnt ↦ placed_other id p e isnt.1 (stands id)
        ];
        back = λ p x is. elim (swapped_at rows place k at p x is) [
          | inl old ↦ kept_place p x old.2 old.0 old.1
          | inr new ↦ m.moved x (new.1, new.2) ∙ ap Some (sym new.0)
        ];
        used = λ p x is. elim (swapped_at rows place k at p x is) [
          | inl old ↦ book.used p x old.2
          | inr new ↦ book.used (length rows - 1) x new.2
        ];
      }

      same_at : (other : ℕ) → other ≢ k.id → ((l : Kept T) → IsLast rows place l → other ≢ l.id) → (q : Option ℕ) → place_of other ≡ q
          → kept_at (swap_remove rows place k) q ≡ kept_at rows q
      same_at other apart away None e = refl
      same_at other apart away (Some p) e = let r = old_one other p apart away e in r.1 ∙ sym r.3

      same_there : (other : ℕ) → other ≢ k.id → Stands other → kept_at (swap_remove rows place k) (later other) ≡ kept_at rows (place_of other)
      same_there other apart (there here is) =
          let one = get_or rows (length rows - 1) k in
          let last = last_one here in
          ap (λ z. kept_at (swap_remove rows place k) (later z)) is ∙ (ap (kept_at (swap_remove rows place k)) (m.moved one last)
          ∙ (swapped_place rows place k at one here last.1
          ∙ sym (ap (λ z. kept_at rows (place_of z)) is ∙ (ap (kept_at rows) (book.back (length rows - 1) one last.1) ∙ last.1))))
      same_there other apart (stays away) =
          ap (kept_at (swap_remove rows place k)) (m.others other apart away) ∙ same_at other apart away (place_of other) refl

      pub given_gone : (old new : List (Kept T)) (l : Kept T) → rows ≡ old → slice_get old place ≡ Some l → l.users ≡ 1 → new ≡ swap_remove rows place k → Gives old new l.id
      given_gone old new l same is one gone =
          let e = some_is k l (sym at ∙ (ap (λ z. slice_get z place) same ∙ is)) in
          let was : kept_of rows k.id ≡ Some k = kept_here rows place_of book place k at in
          let single : (k.users == 1) ≡ true = (Decides-eqb k.users 1).1 (ap (λ z. z.users) e ∙ one) in
          let lost : lowered (kept_of old k.id) ≡ None = ap lowered (sym (ap (λ z. kept_of z k.id) same) ∙ was)
          ∙ ap (λ b. if b then None else Some (kept_with k.content k.id (k.users - 1))) single in
          subst (λ z. Gives old new z.id) e (record {
            given = ap (λ z. kept_of z k.id) gone ∙ (kept_by_place (swap_remove rows place k) later book_moved k.id
                ∙ (ap (kept_at (swap_remove rows place k)) m.gone ∙ sym lost));
            others = λ other apart. ap (λ z. kept_of z other) gone ∙ (kept_by_place (swap_remove rows place k) later book_moved other
                ∙ (same_there other apart (stands other) ∙ (sym (kept_by_place rows place_of book other) ∙ ap (λ z. kept_of z other) same)));
          })
