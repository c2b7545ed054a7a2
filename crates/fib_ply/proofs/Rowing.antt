-- Rows are found by their keys.
use Rattle.std.proofs.Common.{arith, ◌≡◌, ℕ, ◌+◌, ◌*◌, ◌-◌, ◌/◌, ◌^◌, ◌<◌, ◌≤◌, ⊎_elim, Bool, true, false, cond, eq-eqb, ne_eqb, List, [], ◌∷◌, ◌++◌, Option, Some, None, refl, sym, ap, ap₂, ◌∙◌}
use Rattle.std.specs.Prelude.{◌==◌, ◌&&◌, if◌then◌else◌, filter}
use Rattle.std.proofs.lemmas.Bool.{false≢true}
use Rattle.std.proofs.lemmas.Nat.{shl-shr}
use native.Mathlib.Decide.{ℕ_discrete}
use mathlib.Core.Logic.{dite}
use mathlib.Core.Path.{fun_ext}
use Rattle.fib_addr.specs.Prefixes.{Prefix, same_prefix}
use Rattle.fib_addr.proofs.PrefixLaws.{same_prefix-Decides}
use Rattle.fib_base_ordered.specs.Sets.{found}
use Rattle.fib_core_promise.specs.Matches.{look_of}
use Rattle.fib_core_promise.specs.Matches as tables
use Rattle.fib_ply.specs.Rows.{held, ArePrefixes, rank}
use Rattle.fib_ply.specs.declared.rows.Row.{Row}
use Rattle.fib_ply.specs.inner.Change as blocks

unfoldable pub object_of : Option Row → Option ℕ
object_of None = None
object_of (Some r) = Some r.object

abbrev pub key : Prefix → ℕ
key e = 64 * e.bits + e.len

same_key : (p q : Prefix) → p.len < 64 → q.len < 64 → key p ≡ key q → p ≡ q
same_key p q lt lt' e =
    let bits : p.bits ≡ q.bits = omega arith in
    let len : p.len ≡ q.len = omega arith in
    ap₂ (λ (b l : ℕ). let r : Prefix = record { bits = b; len = l } in r) bits len

pub not_true : (b : Bool) → (b ≡ true → ⊥) → b ≡ false
not_true true h = absurd (h refl)
not_true false h = refl

pub held_found : (rows : List Row) → ArePrefixes rows → (e : Prefix) → e.len < 64 → held rows e ≡ object_of (found rank rows (key e))
unfolding object_of
held_found [] h e lt = refl
held_found (r ∷ rs) h e lt = dite (ℕ_discrete (rank r) (key e))
    (λ same. let s : r.prefix ≡ e = same_key r.prefix e (let l = h.0.short in omega (arith, l)) lt same in
    let t : same_prefix r.prefix e ≡ true = (same_prefix-Decides r.prefix e).1 s in
    rw (t, eq-eqb (rank r) (key e) same) refl)
    (λ ne. let t : same_prefix r.prefix e ≡ false = not_true (same_prefix r.prefix e) (λ is. ne (ap key ((same_prefix-Decides r.prefix e).0 is))) in
    rw (t, ne_eqb (rank r) (key e) ne) (held_found rs h.1 e lt))

pub held_long : (rows : List Row) → ArePrefixes rows → (e : Prefix) → 64 ≤ e.len → held rows e ≡ None
held_long [] h e le = refl
held_long (r ∷ rs) h e le =
    let t : same_prefix r.prefix e ≡ false = not_true (same_prefix r.prefix e) (λ is. let f : r.prefix.len ≡ e.len = ap (λ (q : Prefix). q.len) ((same_prefix-Decides r.prefix e).0 is) in let l = h.0.short in absurd (omega (arith, f, l))) in
    rw t (held_long rs h.1 e le)

-- keys are equal exactly where prefixes are
test_key : (e p : Prefix) → e.len < 64 → p.len < 64 → (key e == key p) ≡ same_prefix p e
test_key e p lt lt' = dite (ℕ_discrete (key e) (key p))
    (λ same. eq-eqb (key e) (key p) same ∙ sym ((same_prefix-Decides p e).1 (sym (same_key e p lt lt' same))))
    (λ ne. ne_eqb (key e) (key p) ne ∙ sym (not_true (same_prefix p e) (λ is. ne (ap key (sym ((same_prefix-Decides p e).0 is))))))

object_if : (b : Bool) (r d : Option Row) → object_of (if b then r else d) ≡ (if b then object_of r else object_of d)
object_if true r d = refl
object_if false r d = refl

module _ (old new : List Row) (was : ArePrefixes old) (is : ArePrefixes new) (e : Prefix) (lt : e.len < 64) where
  long_not : (p : Prefix) → 64 ≤ p.len → same_prefix p e ≡ false
  long_not p le = not_true (same_prefix p e) (λ t. let f : p.len ≡ e.len = ap (λ (q : Prefix). q.len) ((same_prefix-Decides p e).0 t) in absurd (omega (arith, f)))

  pub held_added : (o : ℕ) (r : Row) → r.object ≡ o → ((k : ℕ) → found rank new k ≡ (if key e == k then Some r else found rank old k)) → held new ≡ tables.added (held old) e o
  unfolding object_of
  held_added o r same finds = fun_ext (λ p. ⊎_elim
      (λ (lt' : p.len < 64). held_found new is p lt' ∙ ap object_of (finds (key p)) ∙ object_if (key e == key p) (Some r) (found rank old (key p))
      ∙ ap (λ b. if b then Some r.object else object_of (found rank old (key p))) (test_key e p lt lt')
      ∙ ap₂ (λ x y. if same_prefix p e then Some x else y) same (sym (held_found old was p lt')))
      (λ (le : 64 ≤ p.len). held_long new is p le ∙ sym (let t = long_not p le in rw t (held_long old was p le)))
      (Rattle.std.proofs.lemmas.Bool.cases_lt p.len 64))

  pub held_removed : ((k : ℕ) → found rank new k ≡ (if key e == k then None else found rank old k)) → held new ≡ tables.removed (held old) e
  unfolding object_of
  held_removed finds = fun_ext (λ p. ⊎_elim
      (λ (lt' : p.len < 64). held_found new is p lt' ∙ ap object_of (finds (key p)) ∙ object_if (key e == key p) None (found rank old (key p))
      ∙ ap (λ b. if b then None else object_of (found rank old (key p))) (test_key e p lt lt')
      ∙ ap (λ y. if same_prefix p e then None else y) (sym (held_found old was p lt')))
      (λ (le : 64 ≤ p.len). held_long new is p le ∙ sym (let t = long_not p le in rw t (held_long old was p le)))
      (Rattle.std.proofs.lemmas.Bool.cases_lt p.len 64))

-- rows that are kept are prefixes' still
pub each_filter : (p : Row → Bool) (rows : List Row) → ArePrefixes rows → ArePrefixes (filter p rows)
each_filter p [] h = tt
each_filter p (r ∷ rs) h = by_bool (p r) (each_filter p rs h.1)
  where
    by_bool : (b : Bool) → ArePrefixes (filter p rs) → ArePrefixes (cond b (r ∷ filter p rs) (filter p rs))
    by_bool true k = (h.0, k)
    by_bool false k = k

pub each_join : (xs ys : List Row) → ArePrefixes xs → ArePrefixes ys → ArePrefixes (xs ++ ys)
each_join [] ys h k = k
each_join (x ∷ xs) ys h k = (h.0, each_join xs ys h.1 k)

-- by length and first bits

same_shift : (a b k : ℕ) → a * 2 ^ k ≡ b * 2 ^ k → a ≡ b
same_shift a b k e = sym (shl-shr a k) ∙ ap (λ i. i / 2 ^ k) e ∙ shl-shr b k

block_test : (l c len top : ℕ) → ((c * 2 ^ (32 - l) == top * 2 ^ (32 - len)) && (l == len)) ≡ ((l == len) && (c == top))
block_test l c len top = dite (ℕ_discrete l len)
    (λ e. dite (ℕ_discrete c top)
    (λ f. rw (eq-eqb l len e, eq-eqb c top f, eq-eqb (c * 2 ^ (32 - l)) (top * 2 ^ (32 - len)) (ap₂ (λ x y. x * 2 ^ (32 - y)) f e)) refl)
    (λ f. rw (eq-eqb l len e, ne_eqb c top f, ne_eqb (c * 2 ^ (32 - l)) (top * 2 ^ (32 - len)) (λ g. f (same_shift c top (32 - len) (ap (λ y. c * 2 ^ (32 - y)) (sym e) ∙ g)))) refl))
    (λ e. rw (ne_eqb l len e) (and_false (c * 2 ^ (32 - l) == top * 2 ^ (32 - len))))
  where
    and_false : (b : Bool) → (b && false) ≡ false
    and_false true = refl
    and_false false = refl

module _ (f : Prefix → Option ℕ) (len top : ℕ) where
  block : Prefix
  block = record { bits = top * 2 ^ (32 - len); len = len }

  pub look_added : (o : ℕ) → look_of (tables.added f (record { bits = top * 2 ^ (32 - len); len = len }) o) ≡ blocks.added (look_of f) len top o
  look_added o = fun_ext (λ l. fun_ext (λ c. ap (λ b. if b then Some o else f (record { bits = c * 2 ^ (32 - l); len = l })) (block_test l c len top)))

  pub look_removed : look_of (tables.removed f (record { bits = top * 2 ^ (32 - len); len = len })) ≡ blocks.removed (look_of f) len top
  look_removed = fun_ext (λ l. fun_ext (λ c. ap (λ b. if b then None else f (record { bits = c * 2 ^ (32 - l); len = l })) (block_test l c len top)))

-- what a search answers
pub found_some : (rows : List Row) → ArePrefixes rows → (e : Prefix) → e.len < 64 → (r : Row) → Some r ≡ found rank rows (key e) → Some r.object ≡ held rows e
unfolding object_of
found_some rows h e lt r is = ap object_of is ∙ sym (held_found rows h e lt)

pub found_none : (rows : List Row) → ArePrefixes rows → (e : Prefix) → e.len < 64 → None ≡ found rank rows (key e) → None ≡ held rows e
unfolding object_of
found_none rows h e lt is = ap object_of is ∙ sym (held_found rows h e lt)

pub absent_row : (rows : List Row) → ArePrefixes rows → (e : Prefix) → e.len < 64 → held rows e ≡ None → found rank rows (key e) ≡ None
unfolding object_of
absent_row rows h e lt none = by_row (found rank rows (key e)) (sym (held_found rows h e lt) ∙ none)
  where
    by_row : (r : Option Row) → object_of r ≡ None → r ≡ None
    by_row None e = refl
    by_row (Some r) e = absurd (cc)
