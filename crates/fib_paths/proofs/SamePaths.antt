-- Equal lists of paths pass the derived test.
use Rattle.std.proofs.Common.{rules, ◌≡◌, true, List, [], ◌∷◌, refl, subst, ap, ◌∙◌}
use Rattle.std.specs.Cmp.Lexicographic.{pointwise}
use Rattle.std.proofs.lemmas.Bool.{false≢true}
use Rattle.fib_base_list.proofs.Booleans.{and_both}
use Rattle.fib_resolve.specs.declared.types.Path.{Path}
use Rattle.fib_resolve.specs.contracts.types.PathPartialEq.TheImpl.{eq-value}
use Rattle.fib_resolve.specs.contracts.types.PathEq.TheImpl.Laws as laws

path_self : (p : Path) → eq-value.it p p ≡ true
path_self p = laws.laws-law.refl p

all_self : (ps : List Path) → pointwise eq-value.it ps ps ≡ true
all_self [] = refl
all_self (p ∷ ps) = rw (path_self p) (all_self ps)

pub same_paths : (ps qs : List Path) → ps ≡ qs → pointwise eq-value.it ps qs ≡ true
same_paths ps qs e = subst (λ xs. pointwise eq-value.it ps xs ≡ true) e (all_self ps)

path_is : (p q : Path) → eq-value.it p q ≡ true → p ≡ q
path_is p q h = search rules

all_is : (ps qs : List Path) → pointwise eq-value.it ps qs ≡ true → ps ≡ qs
all_is [] [] h = refl
all_is [] (q ∷ qs) h = absurd (false≢true h)
all_is (p ∷ ps) [] h = absurd (false≢true h)
all_is (p ∷ ps) (q ∷ qs) h =
    let a = and_both (eq-value.it p q) (pointwise eq-value.it ps qs) h in
    ap (λ (x : Path). x ∷ ps) (path_is p q a.0) ∙ ap (λ (xs : List Path). q ∷ xs) (all_is ps qs a.1)

-- lists that pass are equal
pub lists_are : (ps qs : List Path) → pointwise eq-value.it ps qs ≡ true → ps ≡ qs
lists_are = all_is
