-- Adjacency records and their objects.
use Rattle.std.proofs.Common.{rules, ◌≡◌, ℕ, zero, suc, ◌<◌, true, List, [], ◌∷◌, set, Option, Some, None, inl, inr, refl, sym, ◌∙◌, ap, subst, ◌==◌}
use Rattle.std.specs.Prelude.{Contains, Result, Ok, Err, IfOk, IfNone, OnErr, is_err}
use Rattle.std.specs.declared.alloc.AllocError.{AllocError}
use Rattle.std.proofs.lemmas.Bool.{cases_eq, false≢true}
use Rattle.fib_base_list.proofs.Lists.{either}
use Rattle.fib_base_interned.specs.Interned.{Kept, kept_of, users_in, users_of, IsFound, IsAbsent, Gives, lowered}
use Rattle.fib_base_interned.proofs.Finding.{find_place, contains_at, none_some}
use Rattle.fib_pool.specs.declared.object.Kind.TheVariants as kinds
use Rattle.fib_pool.specs.declared.object.Object.{Object}
use Rattle.fib_pool.specs.declared.object.AdjacencyRecord.{AdjacencyRecord}
use Rattle.fib_pool.specs.declared.object.TakenRecord.{TakenRecord}
use Rattle.fib_pool.specs.contracts.object.AdjacencyRecordPartialEq.TheImpl.{eq-value}
use Rattle.fib_pool.specs.contracts.object.AdjacencyRecordEq.TheImpl.Laws as laws
use Rattle.fib_pool.specs.Objects.{at, recount, with_count, as_new}
use Rattle.fib_pool.specs.Records.{IsAdjacency, AreAdjacencies, IsNew, IsUsedLess}

-- the derived test tells records apart
pub record_is : (p q : AdjacencyRecord) → eq-value.it p q ≡ true → p ≡ q
record_is p q h = search rules

pub kept_contains : (rows : List (Kept AdjacencyRecord)) (o : ℕ) (k : Kept AdjacencyRecord) → kept_of rows o ≡ Some k → Contains rows k
kept_contains rows o k e = let r = find_place (λ z. z.id == o) rows k e in contains_at rows r.0 k r.1

-- a record that isn't kept passes no test
pub new_absent : (rows : List (Kept AdjacencyRecord)) (r : AdjacencyRecord) → IsNew rows r → IsAbsent (eq-value.it r) rows
new_absent rows r new k c = elim (either (eq-value.it r k.content)) [
  | inl same ↦ absurd (new k c (sym (record_is r k.content same)))
  | inr other ↦ other
]

record_self : (r : AdjacencyRecord) → eq-value.it r r ≡ true
record_self r = laws.laws-law.refl r

-- and where none passes, it isn't kept
pub absent_new : (rows : List (Kept AdjacencyRecord)) (r : AdjacencyRecord) → IsAbsent (eq-value.it r) rows → IsNew rows r
absent_new rows r absent k c same = false≢true (sym (absent k c) ∙ subst (λ q. eq-value.it r q ≡ true) (sym same) (record_self r))

pub found_few : (rows : List (Kept AdjacencyRecord)) (r : AdjacencyRecord) (o most : ℕ) → IsFound (eq-value.it r) rows o → IsUsedLess rows r most → users_of rows o < most
found_few rows r o most f less = subst (λ (q : Option (Kept AdjacencyRecord)). users_in q < most) (sym f.1)
    (less f.0 (kept_contains rows o f.0 f.1) (sym (record_is r f.0.content f.2)))

-- what was taken and given back at once is as it was
undone : (xs : List (Option Object)) (i : ℕ) (x y e : Option Object) → at xs i ≡ e → set (set (set xs i x) i y) i e ≡ xs
undone [] i x y e is = refl
undone (z ∷ zs) zero x y e is = ap (λ (w : Option Object). w ∷ zs) (sym is)
undone (z ∷ zs) (suc i) x y e is = ap (λ (l : List (Option Object)). z ∷ l) (undone zs i x y e is)

pub given_back : (old taken released new : List (Option Object)) (o n : ℕ) → at old o ≡ None → taken ≡ set old o (as_new kinds.Adjacency)
    → released ≡ with_count taken o n → new ≡ set released o None → new ≡ old
given_back old taken released new o n free t r b =
    b ∙ (ap (λ l. set l o None) (r ∙ ap (λ l. set l o (recount n (at taken o))) t)
    ∙ undone old o (as_new kinds.Adjacency) (recount n (at taken o)) None free)

-- records that lose a user keep their objects
pub adjacencies-given : (old new : List (Kept AdjacencyRecord)) (objects : List (Option Object)) (o : ℕ) → Gives old new o → AreAdjacencies old objects → AreAdjacencies new objects
adjacencies-given old new objects o g are other k e = elim (cases_eq other o) [
  | inl same ↦ was (kept_of old o) refl (sym g.given ∙ (ap (kept_of new) (sym same) ∙ e))
  | inr apart ↦ are other k (sym (g.others other apart) ∙ e)
]
  where
    was : (q : Option (Kept AdjacencyRecord)) → kept_of old o ≡ q → lowered (kept_of old o) ≡ Some k → IsAdjacency objects other
    was None is low = absurd (none_some k (sym (ap lowered is) ∙ low))
    was (Some l) is low = elim (cases_eq other o) [
      | inl same ↦ are other l (ap (kept_of old) same ∙ is)
      | inr apart ↦ are other k (sym (g.others other apart) ∙ e)
    ]

pub none_both : (r : Result (Option TakenRecord) AllocError) (P Q : Type 0) → Q → IfOk r (λ o. IfNone o P) → IfOk r (λ o. IfNone o (Q × P))
none_both (Ok None) P Q q h = (q, h)
none_both (Ok (Some t)) P Q q h = tt
none_both (Err e) P Q q h = tt

pub failed : (r : Result (Unit {0}) AllocError) {P : Type 0} → is_err r ≡ true → OnErr r P → P
failed (Ok x) e h = absurd (false≢true e)
failed (Err x) e h = h
