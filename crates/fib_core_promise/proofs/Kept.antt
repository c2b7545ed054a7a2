-- A bucket that keeps no word is loose, and a loose one keeps none.
use Rattle.std.proofs.Common.{◌≡◌, ◌<◌, ◌+◌, ◌*◌, ◌%◌, ◌⊎◌, inl, inr, Bool, true, false, ◌&&◌, ◌==◌, ℕ, zero, suc, List, [], ◌∷◌, Option, Some, None, refl, sym, ap, ◌∙◌, subst, arith}
use Rattle.std.specs.Prelude.{Contains, if◌then◌else◌}
use Rattle.std.specs.List.{list_all, list_any}
use Rattle.std.specs.Set.{is_member}
use Rattle.std.proofs.lemmas.Bool.{false≢true}
use Rattle.std.proofs.lemmas.Bool.Decides.{Decides-eqb}
use Rattle.std.proofs.lemmas.Map.Views.{list_any-from_Contains}
use Rattle.fib_base_list.proofs.Lists.{either}
use Rattle.fib_base_list.proofs.Booleans.{and_both}
use Rattle.fib_addr.specs.Prefixes.{Prefix, same_prefix}
use Rattle.fib_addr.proofs.PrefixLaws.{same_prefix-Decides, same_prefix_equiv}
use Rattle.fib_resolve.specs.Pairs.{entries}
use Rattle.fib_resolve.specs.Touched.{same_mac}
use Rattle.fib_resolve.specs.declared.types.End.{End}
use Rattle.fib_resolve.specs.declared.types.End.TheVariants as answers
use Rattle.fib_resolve.specs.declared.types.Tables.{Tables}
use Rattle.fib_core.specs.declared.word.Word.{Word}
use Rattle.fib_union.specs.Unions.{owner}
use Rattle.fib_core.specs.Walk.{word_at}
use Rattle.fib_core.proofs.Numbers.{owner_of}
use Rattle.fib_resolve.specs.declared.aims.Aim.{Aim}
use Rattle.fib_resolve.specs.declared.aims.Aim.TheVariants as aims
use Rattle.fib_resolve.specs.Aims.{aim}
use Rattle.fib_core_steady.specs.Aims.{IsLasting, WantsAlike}
use Rattle.fib_core_steady.specs.Loose.{IsLoose}
use Rattle.fib_core_promise.specs.Kept.{same_end, same_aim, wants_that, has_object, is_kept, keeps_by}

self : (n : ℕ) → (n == n) ≡ true
self n = (Decides-eqb n n).1 refl

mac_self : (m : Option ℕ) → same_mac m m ≡ true
mac_self None = refl
mac_self (Some n) = self n

end_self : (e : End) → same_end e e ≡ true
end_self answers.Drop = refl
end_self answers.Receive = refl
end_self (answers.Glean i) = self i
end_self (answers.Hop i a m) = rw (self i, self a, mac_self m) refl

aim_self : (m : Aim) → same_aim m m ≡ true
aim_self (aims.Ends e) = end_self e
aim_self (aims.On t) = (same_prefix-Decides t t).1 refl

-- all versions want it: then the test finds it
all_pass : {X : Type 0} (test : X → Bool) (xs : List X) → ((x : X) → Contains xs x → test x ≡ true) → list_all test xs ≡ true
all_pass test [] h = refl
all_pass test (y ∷ ys) h = both (test y) (list_all test ys) (h y (0, omega arith, refl)) (all_pass test ys (λ x c. h x (suc c.0, omega (arith, c.1), c.2)))
  where
    both : (b c : Bool) → b ≡ true → c ≡ true → b && c ≡ true
    both true c e h = h
    both false c e h = absurd (false≢true e)

any_pass : {X : Type 0} (test : X → Bool) (xs : List X) (x : X) → Contains xs x → test x ≡ true → list_any test xs ≡ true
any_pass test [] x c t = absurd (omega (arith, c.1))
any_pass test (y ∷ ys) x (zero, lt, is) t = (let here : test y ≡ true = ap test is ∙ t in rw here refl)
any_pass test (y ∷ ys) x (suc k, lt, is) t = right (test y) (list_any test ys) (any_pass test ys x (k, omega (arith, lt), is) t)
  where
    right : (b c : Bool) → c ≡ true → Rattle.std.specs.Prelude.◌||◌ b c ≡ true
    right true c h = refl
    right false c h = h

both_true : (b c : Bool) → b ≡ true → c ≡ true → b && c ≡ true
both_true true c e h = h
both_true false c e h = absurd (false≢true e)

object_found : (x : Option ℕ) (o : ℕ) → x ≡ Some o → has_object x o ≡ true
object_found None o e = absurd (cc)
object_found (Some y) o e = (Decides-eqb y o).1 (same y o e)
  where
    same : (y o : ℕ) → Some y ≡ Some o → y ≡ o
    same y o e = cc

pub kept_found : (S : Tables) (J : List Tables) (look : Prefix → Option ℕ) (o k : ℕ) (e : Prefix) (m : Aim) → IsLasting (S ∷ J) e → look e ≡ Some o → WantsAlike (S ∷ J) e k m → is_kept (S ∷ J) look o k ≡ true
kept_found S J look o k e m lasting is alike =
    let first : aim S e k ≡ m = alike S (0, omega arith, refl) in
    any_pass (λ p. has_object (look p) o && list_all (wants_that p k (aim S p k)) (S ∷ J)) (entries S) e (lasting S (0, omega arith, refl))
    (both_true (has_object (look e) o) (list_all (wants_that e k (aim S e k)) (S ∷ J)) (object_found (look e) o is)
    (all_pass (wants_that e k (aim S e k)) (S ∷ J) (λ T c. both_true (is_member same_prefix (entries T) e) (same_aim (aim S e k) (aim T e k)) (list_any-from_Contains same_prefix_equiv e (entries T) (lasting T c)) (ap (same_aim (aim S e k)) (alike T c ∙ sym first) ∙ aim_self (aim S e k)))))

cell_parts : (o k : ℕ) → k < 16 → (owner (16 * o + k) ≡ o) × ((16 * o + k) % 16 ≡ k)
cell_parts o k lt = (owner_of o k lt, remainder o k lt)
  where
    remainder : (o k : ℕ) → k < 16 → (16 * o + k) % 16 ≡ k
    remainder o k lt = omega arith

-- what keeps no word is loose; so a put of the kept word, or of any where none is kept, may be made
pub loose_where_none : (S : Tables) (J : List Tables) (look : Prefix → Option ℕ) (o k : ℕ) → k < 16 → is_kept (S ∷ J) look o k ≡ false → IsLoose (S ∷ J) look (16 * o + k)
loose_where_none S J look o k lt none e m lasting is alike =
    let parts = cell_parts o k lt in
    false≢true (sym none ∙ kept_found S J look o k e m lasting (is ∙ ap Some parts.0) (subst (λ (i : ℕ). WantsAlike (S ∷ J) e i m) parts.1 alike))

pub kept_or_loose : (S : Tables) (J : List Tables) (look : Prefix → Option ℕ) (cells : List ℕ) (o k : ℕ) (w : Word) → k < 16 → ((z : Word) → keeps_by (S ∷ J) look cells o k ≡ Some z → w ≡ z) → (word_at cells o k ≡ w) ⊎ IsLoose (S ∷ J) look (16 * o + k)
kept_or_loose S J look cells o k w lt kept = elim (either (is_kept (S ∷ J) look o k)) [
  | inl is ↦ inl (sym (kept (word_at cells o k) (ap (λ b. if b then Some (word_at cells o k) else None) is)))
  | inr isnt ↦ inr (loose_where_none S J look o k lt isnt)
]

-- Between two changes of the versions the promise in terms of objects stays as it is: names of entries that don't last may change, and so may loose buckets.

and_right : (a b c : Bool) → (c ≡ true → a ≡ b) → a && c ≡ b && c
and_right a b true h = ap (λ x. x && true) (h refl)
and_right true true false h = refl
and_right true false false h = refl
and_right false true false h = refl
and_right false false false h = refl

any_same : {X : Type 0} (f g : X → Bool) (xs : List X) → ((x : X) → f x ≡ g x) → list_any f xs ≡ list_any g xs
any_same f g [] h = refl
any_same f g (x ∷ xs) h = ap (λ b. Rattle.std.specs.Prelude.◌||◌ b (list_any f xs)) (h x) ∙ ap (λ b. Rattle.std.specs.Prelude.◌||◌ (g x) b) (any_same f g xs h)

all_at : {X : Type 0} (test : X → Bool) (xs : List X) → list_all test xs ≡ true → (x : X) → Contains xs x → test x ≡ true
all_at test [] h x c = absurd (omega (arith, c.1))
all_at test (y ∷ ys) h x (zero, lt, is) = subst (λ z. test z ≡ true) is (and_both (test y) (list_all test ys) h).0
all_at test (y ∷ ys) h x (suc k, lt, is) = all_at test ys (and_both (test y) (list_all test ys) h).1 x (k, omega (arith, lt), is)

all_last : (J : List Tables) (e : Prefix) (k : ℕ) (m : Aim) → list_all (wants_that e k m) J ≡ true → IsLasting J e
all_last J e k m h S c = Rattle.std.proofs.lemmas.Map.Views.Contains-from_any (λ x y. (same_prefix-Decides x y).0) e (entries S) (and_both (is_member same_prefix (entries S) e) (same_aim m (aim S e k)) (all_at (wants_that e k m) J h S c)).0

pub kept_same : (S : Tables) (J : List Tables) (look now : Prefix → Option ℕ) → ((e : Prefix) → IsLasting (S ∷ J) e → now e ≡ look e) → (o k : ℕ) → is_kept (S ∷ J) now o k ≡ is_kept (S ∷ J) look o k
kept_same S J look now same o k = any_same (λ e. has_object (now e) o && list_all (wants_that e k (aim S e k)) (S ∷ J)) (λ e. has_object (look e) o && list_all (wants_that e k (aim S e k)) (S ∷ J)) (entries S)
    (λ e. and_right (has_object (now e) o) (has_object (look e) o) (list_all (wants_that e k (aim S e k)) (S ∷ J)) (λ all. ap (λ x. has_object x o) (same e (all_last (S ∷ J) e k (aim S e k) all))))
