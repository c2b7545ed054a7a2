use Rattle.std.proofs.Common.{◌≡◌, ◌≢◌, ◌<◌, ◌≤◌, ℕ, ◌-◌, length, map, List, Option, Some, None, ◌==◌, cond, slice_get, get_or, nat_eq, is_some, sym, ap, ◌∙◌, subst, refl, arith, inl, inr}
use Rattle.std.specs.HashMap.{get}
use Rattle.std.specs.List.{swap_remove}
use Rattle.std.proofs.lemmas.Bool.{cases_lt}
use Rattle.std.proofs.lemmas.Option.{slice_get_within, slice_get-get_or}
use Rattle.fib_base_interned.specs.declared.interned.Held.{Held}
use Rattle.fib_base_interned.specs.Interned.{Kept, Gives}
use Rattle.fib_base_interned.specs.inner.Book.{IsBook}
use Rattle.fib_base_interned.proofs.Finding.{some_is, none_some, swapped_at, swapped_place}
use Rattle.fib_base_interned.proofs.Books.{eqb_apart}
use Rattle.fib_base_interned.proofs.Moving.{IsLast, Moves, moves_popped, moves_moved, book_moved, given_gone}
use Rattle.fib_base_interned.proofs.Rows.{shown, map_at, map_swap, length_map, rows_interned}
use Rattle.fib_base_interned.proofs.Undoing.{gone_back}
use Rattle.fib_base_interned.proofs.interned.Interned.forget.Goals as goal

module _ {T : Type 0} (es : List (T × Held)) (place_of : ℕ → Option ℕ) (place : ℕ) (e : T × Held) (book : IsBook (map shown es) place_of) (at : slice_get es place ≡ Some e) where
  -- what stands at the place afterwards stood at the end
  moved_last : (d : T × Held) → slice_get (swap_remove es place e) place ≡ Some d → IsLast (map shown es) place (shown d)
  moved_last d is = elim (swapped_at es place e at place d is) [
    | inl old ↦ absurd (old.0 refl)
    | inr new ↦ (
      subst (λ n. place < n - 1) (sym (length_map shown es)) new.1,
      ap (λ n. slice_get (map shown es) (n - 1)) (length_map shown es) ∙ map_at shown es (length es - 1) d new.2,
    )
  ]

  moved_as : (later : ℕ → Option ℕ) (d : T × Held) → slice_get (swap_remove es place e) place ≡ Some d
      → ((q : ℕ) → later q ≡ cond (d.1.id == q) (Some place) (cond (e.1.id == q) None (place_of q))) → Moves (map shown es) place_of later place (shown e)
  moved_as later d is updates = moves_moved (map shown es) place_of place (shown e) book (map_at shown es place e at) later (shown d) (moved_last d is) updates

  same_place : (a b : ℕ) → Some a ≡ Some b → a < b → ⊥
  same_place a b e lt = let same = some_is a b e in omega (arith, same, lt)

  -- the number of the content that moved has a place
  moved_known : (d : T × Held) → slice_get (swap_remove es place e) place ≡ Some d → cond (e.1.id == d.1.id) None (place_of d.1.id) ≡ None → ⊥
  moved_known d is none =
      let last = moved_last d is in
      let there = book.back (length (map shown es) - 1) (shown d) last.1 in
      let here = book.back place (shown e) (map_at shown es place e at) in
      let away : e.1.id ≢ d.1.id = λ same. same_place place (length (map shown es) - 1) (sym here ∙ (ap place_of same ∙ there)) last.0 in
      none_some (length (map shown es) - 1) (sym none ∙ (ap (λ b. cond b None (place_of d.1.id)) (eqb_apart e.1.id d.1.id away) ∙ there))

  popped_as : (later : ℕ → Option ℕ) → slice_get (swap_remove es place e) place ≡ None → ((q : ℕ) → later q ≡ cond (e.1.id == q) None (place_of q)) → Moves (map shown es) place_of later place (shown e)
  popped_as later none updates =
      let within = slice_get_within es place e at in
      elim (cases_lt place (length es - 1)) [
        | inl here ↦ (let last = slice_get-get_or es (length es - 1) e (omega (arith, within)) in
            absurd (none_some _ (sym none ∙ swapped_place es place e at (get_or es (length es - 1) e) here last)))
        | inr end ↦ moves_popped (map shown es) place_of place (shown e) book (map_at shown es place e at) later
            (subst (λ n. n - 1 ≤ place) (sym (length_map shown es)) end) updates
      ]

  module _ (later : ℕ → Option ℕ) (left : List (T × Held)) (m : Moves (map shown es) place_of later place (shown e)) (is : left ≡ swap_remove es place e) where
    book_left : IsBook (map shown left) later
    book_left = subst (λ l. IsBook l later) (sym (ap (map shown) is ∙ map_swap shown es place e))
        (book_moved (map shown es) place_of place (shown e) book (map_at shown es place e at) later m)

    given_left : (now : List (Kept T)) → map shown es ≡ now → ((k : Kept T) → slice_get now place ≡ Some k → k.users ≡ 1)
        → (k : Kept T) → slice_get now place ≡ Some k → Gives now (map shown left) k.id
    given_left now same one k there = given_gone (map shown es) place_of place (shown e) book (map_at shown es place e at) later m
        now (map shown left) k same there (one k there) (ap (map shown) is ∙ map_swap shown es place e)

pub invariant_of-self : goal.invariant_of-self
invariant_of-self g c =
    let at = sym c.in-Some.ensures.entry in
    let left = c.in-Some.ensures.entries in
    let there = sym c.in-Some-get_index.ensures.entry in
    let known = ap is_some (sym c.in-Some-get_mut.ensures.value) in
    let updates = ((c.get_mut.follows.holds c.args.place).3 known).0 in
    let m = moved_as c.self.inside.rows.entries (get nat_eq c.self.inside.places) c.args.place _ c.self.invariant at (get nat_eq (c.get_mut.follows.lender c.args.place)) _ (ap (λ l. slice_get l c.args.place) (sym left) ∙ there)
    (λ q. updates q ∙ ap (cond (c.in-Some-get_index.moved.now.id == q) (Some c.args.place)) (c.remove.ensures.updates.0 q)) in
    book_left c.self.inside.rows.entries (get nat_eq c.self.inside.places) c.args.place _ c.self.invariant at (get nat_eq (c.get_mut.follows.lender c.args.place)) c.swap_remove_index.new.self.entries m left

pub returns-in-Some-get_mut-clause-given : goal.returns-in-Some-get_mut-clause-given
returns-in-Some-get_mut-clause-given g c =
    let at = sym c.in-Some.ensures.entry in
    let left = c.in-Some.ensures.entries in
    let there = sym c.in-Some-get_index.ensures.entry in
    let known = ap is_some (sym c.in-Some-get_mut.ensures.value) in
    let updates = ((c.get_mut.follows.holds c.args.place).3 known).0 in
    let m = moved_as c.self.inside.rows.entries (get nat_eq c.self.inside.places) c.args.place _ c.self.invariant at (get nat_eq (c.get_mut.follows.lender c.args.place)) _ (ap (λ l. slice_get l c.args.place) (sym left) ∙ there)
    (λ q. updates q ∙ ap (cond (c.in-Some-get_index.moved.now.id == q) (Some c.args.place)) (c.remove.ensures.updates.0 q)) in
    given_left c.self.inside.rows.entries (get nat_eq c.self.inside.places) c.args.place _ c.self.invariant at (get nat_eq (c.get_mut.follows.lender c.args.place)) c.swap_remove_index.new.self.entries m left c.args.self.now c.self.view_is c.requires.held

pub returns-in-Some-get_mut-clause-interned : goal.returns-in-Some-get_mut-clause-interned
returns-in-Some-get_mut-clause-interned g c =
    let at = sym c.in-Some.ensures.entry in
    let left = c.in-Some.ensures.entries in
    let there = sym c.in-Some-get_index.ensures.entry in
    let known = ap is_some (sym c.in-Some-get_mut.ensures.value) in
    let updates = ((c.get_mut.follows.holds c.args.place).3 known).0 in
    let m = moved_as c.self.inside.rows.entries (get nat_eq c.self.inside.places) c.args.place _ c.self.invariant at (get nat_eq (c.get_mut.follows.lender c.args.place)) _ (ap (λ l. slice_get l c.args.place) (sym left) ∙ there)
    (λ q. updates q ∙ ap (cond (c.in-Some-get_index.moved.now.id == q) (Some c.args.place)) (c.remove.ensures.updates.0 q)) in
    rows_interned _ g.met.T.Eq.laws.refl c.swap_remove_index.new.self.entries (get nat_eq (c.get_mut.follows.lender c.args.place)) (book_left c.self.inside.rows.entries (get nat_eq c.self.inside.places) c.args.place _ c.self.invariant at (get nat_eq (c.get_mut.follows.lender c.args.place)) c.swap_remove_index.new.self.entries m left) c.in-Some.ensures.unique

pub invariant_of-self-in_default-get_mut : goal.invariant_of-self-in_default-get_mut
invariant_of-self-in_default-get_mut g c =
    let left = c.in-Some.ensures.entries in
    let there = sym c.in-Some-get_index.ensures.entry in
    absurd (moved_known c.self.inside.rows.entries (get nat_eq c.self.inside.places) c.args.place _ c.self.invariant (sym c.in-Some.ensures.entry) _ (ap (λ l. slice_get l c.args.place) (sym left) ∙ there)
    (sym (c.remove.ensures.updates.0 c.in-Some-get_index.moved.now.id) ∙ sym c.in_default-get_mut.ensures.value))

pub returns-in_default-get_mut-clause-given : goal.returns-in_default-get_mut-clause-given
returns-in_default-get_mut-clause-given g c =
    let left = c.in-Some.ensures.entries in
    let there = sym c.in-Some-get_index.ensures.entry in
    absurd (moved_known c.self.inside.rows.entries (get nat_eq c.self.inside.places) c.args.place _ c.self.invariant (sym c.in-Some.ensures.entry) _ (ap (λ l. slice_get l c.args.place) (sym left) ∙ there)
    (sym (c.remove.ensures.updates.0 c.in-Some-get_index.moved.now.id) ∙ sym c.in_default-get_mut.ensures.value))

pub returns-in_default-get_mut-clause-interned : goal.returns-in_default-get_mut-clause-interned
returns-in_default-get_mut-clause-interned g c =
    let left = c.in-Some.ensures.entries in
    let there = sym c.in-Some-get_index.ensures.entry in
    absurd (moved_known c.self.inside.rows.entries (get nat_eq c.self.inside.places) c.args.place _ c.self.invariant (sym c.in-Some.ensures.entry) _ (ap (λ l. slice_get l c.args.place) (sym left) ∙ there)
    (sym (c.remove.ensures.updates.0 c.in-Some-get_index.moved.now.id) ∙ sym c.in_default-get_mut.ensures.value))

pub invariant_of-self-in_default-get_index : goal.invariant_of-self-in_default-get_index
invariant_of-self-in_default-get_index g c =
    let at = sym c.in-Some.ensures.entry in
    let left = c.in-Some.ensures.entries in
    let none = sym c.in_default-get_index.ensures.entry in
    let m = popped_as c.self.inside.rows.entries (get nat_eq c.self.inside.places) c.args.place _ c.self.invariant at (get nat_eq c.remove.new.self) (ap (λ l. slice_get l c.args.place) (sym left) ∙ none) c.remove.ensures.updates.0 in
    book_left c.self.inside.rows.entries (get nat_eq c.self.inside.places) c.args.place _ c.self.invariant at (get nat_eq c.remove.new.self) c.swap_remove_index.new.self.entries m left

pub returns-in_default-get_index-clause-given : goal.returns-in_default-get_index-clause-given
returns-in_default-get_index-clause-given g c =
    let at = sym c.in-Some.ensures.entry in
    let left = c.in-Some.ensures.entries in
    let none = sym c.in_default-get_index.ensures.entry in
    let m = popped_as c.self.inside.rows.entries (get nat_eq c.self.inside.places) c.args.place _ c.self.invariant at (get nat_eq c.remove.new.self) (ap (λ l. slice_get l c.args.place) (sym left) ∙ none) c.remove.ensures.updates.0 in
    given_left c.self.inside.rows.entries (get nat_eq c.self.inside.places) c.args.place _ c.self.invariant at (get nat_eq c.remove.new.self) c.swap_remove_index.new.self.entries m left c.args.self.now c.self.view_is c.requires.held

pub returns-in_default-get_index-clause-interned : goal.returns-in_default-get_index-clause-interned
returns-in_default-get_index-clause-interned g c =
    let at = sym c.in-Some.ensures.entry in
    let left = c.in-Some.ensures.entries in
    let none = sym c.in_default-get_index.ensures.entry in
    let m = popped_as c.self.inside.rows.entries (get nat_eq c.self.inside.places) c.args.place _ c.self.invariant at (get nat_eq c.remove.new.self) (ap (λ l. slice_get l c.args.place) (sym left) ∙ none) c.remove.ensures.updates.0 in
    rows_interned _ g.met.T.Eq.laws.refl c.swap_remove_index.new.self.entries (get nat_eq c.remove.new.self) (book_left c.self.inside.rows.entries (get nat_eq c.self.inside.places) c.args.place _ c.self.invariant at (get nat_eq c.remove.new.self) c.swap_remove_index.new.self.entries m left) c.in-Some.ensures.unique

pub returns-in_default-get_index-clause-back : goal.returns-in_default-get_index-clause-back
returns-in_default-get_index-clause-back g c =
    let at = map_at shown c.self.inside.rows.entries c.args.place _ (sym c.in-Some.ensures.entry) in
    λ k there len. gone_back c.args.self.now (map shown c.self.inside.rows.entries) _ (get nat_eq c.self.inside.places) c.self.invariant c.self.view_is
    c.args.place _ k at there (c.requires.held k there) len (ap (map shown) c.in-Some.ensures.entries ∙ map_swap shown c.self.inside.rows.entries c.args.place _)
