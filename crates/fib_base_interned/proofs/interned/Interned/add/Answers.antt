use Rattle.std.proofs.Common.{◌≡◌, ℕ, ◌+◌, ◌==◌, Bool, Option, Some, cond, length, map, nat_eq, sym, ap, ◌∙◌, subst}
use Rattle.std.specs.HashMap.{get}
use Rattle.indexmap.proofs.CallerLemmas.{insert_entry-new}
use Rattle.fib_base_interned.specs.Interned.{kept_of, users_in, IsAbsent, TakesBack}
use Rattle.fib_base_interned.specs.inner.Book.{IsBook, kept_with}
use Rattle.fib_base_interned.proofs.Books.{book_push, book_same, taken_new}
use Rattle.fib_base_interned.proofs.Rows.{shown, map_push, length_map, absent_rows, rows_interned}
use Rattle.fib_base_interned.proofs.Undoing.{back_push}
use Rattle.fib_base_interned.proofs.interned.Interned.add.Goals as goal

pub invariant_of-self : goal.invariant_of-self
invariant_of-self g c =
    book_same (map shown c.self.inside.rows.entries) (get nat_eq c.self.inside.places) (get nat_eq c.reserve.new.self) c.self.invariant c.in_err-reserve.ensures.entries.2

pub invariant_of-self-in_err-insert : goal.invariant_of-self-in_err-insert
invariant_of-self-in_err-insert g c =
    subst (λ es. IsBook (map shown es) (get nat_eq c.reserve.new.self)) (sym c.in_err-insert.ensures.err)
    (book_same (map shown c.self.inside.rows.entries) (get nat_eq c.self.inside.places) (get nat_eq c.reserve.new.self) c.self.invariant c.in_ok-reserve.ensures.entries.2)

updated : (b : Bool) (n m : ℕ) (o p : Option ℕ) → n ≡ m → o ≡ p → cond b (Some n) o ≡ cond b (Some m) p
updated b n m o p e f = ap (λ z. cond b (Some z) o) e ∙ ap (λ z. cond b (Some m) z) f

pub invariant_of-self-2 : goal.invariant_of-self-2
invariant_of-self-2 g c =
    let none = absent_rows _ c.self.inside.rows.entries (subst (IsAbsent _) (sym c.self.view_is) c.requires.absent) in
    let pushed = c.in_ok-insert.ensures.entries ∙ insert_entry-new _ c.self.inside.rows c.args.content (record { id = c.args.id; users = 1 }) none in
    let moved = c.in_ok-reserve.ensures.entries.2 in
    subst (λ l. IsBook l (get nat_eq c.insert-2.new.self))
    (sym (ap (map shown) pushed ∙ map_push shown c.self.inside.rows.entries _))
    (book_push (map shown c.self.inside.rows.entries) (get nat_eq c.self.inside.places) (get nat_eq c.insert-2.new.self) c.self.invariant c.args.id c.args.content
    (ap (λ v. kept_of v c.args.id) c.self.view_is ∙ c.requires.number)
    (λ q. c.in-Ok.ensures.updates.0 q ∙ updated (c.args.id == q) c.len-place.result (length (map shown c.self.inside.rows.entries)) _ _
    (c.len-place.ensures.len ∙ sym (length_map shown c.self.inside.rows.entries)) (moved q)))

pub returns-clause-added : goal.returns-clause-added
returns-clause-added g c =
    let none = absent_rows _ c.self.inside.rows.entries (subst (IsAbsent _) (sym c.self.view_is) c.requires.absent) in
    let pushed = c.in_ok-insert.ensures.entries ∙ insert_entry-new _ c.self.inside.rows c.args.content (record { id = c.args.id; users = 1 }) none in
    taken_new c.args.self.now (map shown c.self.inside.rows.entries) _ (get nat_eq c.self.inside.places) c.self.invariant c.self.view_is
    c.args.id c.args.content c.requires.number (ap (map shown) pushed ∙ map_push shown c.self.inside.rows.entries _)

pub returns-clause-interned : goal.returns-clause-interned
returns-clause-interned g c =
    rows_interned _ g.met.T.Eq.laws.refl c.insert.new.self.entries (get nat_eq c.insert-2.new.self) (invariant_of-self-2 g c) c.in_ok-insert.ensures.unique

pub returns-clause-back : goal.returns-clause-back
returns-clause-back g c =
    let none = absent_rows _ c.self.inside.rows.entries (subst (IsAbsent _) (sym c.self.view_is) c.requires.absent) in
    let pushed = c.in_ok-insert.ensures.entries ∙ insert_entry-new _ c.self.inside.rows c.args.content (record { id = c.args.id; users = 1 }) none in
    subst (λ z. TakesBack z (map shown c.insert.new.self.entries) c.args.id) c.self.view_is
    (back_push (map shown c.self.inside.rows.entries) (map shown c.insert.new.self.entries) c.args.id c.args.content
    (ap (λ v. kept_of v c.args.id) c.self.view_is ∙ c.requires.number) (ap (map shown) pushed ∙ map_push shown c.self.inside.rows.entries _)
    ((returns-clause-added g c).taken ∙ ap (λ n. Some (kept_with c.args.content c.args.id (n + 1))) (ap users_in c.requires.number)))
