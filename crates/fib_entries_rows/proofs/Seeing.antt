-- What rows lead to, seen place by place.
use Rattle.std.proofs.Common.{arith, ◌≡◌, ℕ, ◌+◌, ◌<◌, List, [], ◌∷◌, ◌++◌, get_or, Some, None, inl, inr, sym, ◌∙◌, ap, subst, slice_get}
use Rattle.std.specs.Prelude.{Contains}
use Rattle.std.proofs.lemmas.Bool.{cases_lt}
use Rattle.std.proofs.lemmas.Option.{slice_get_within, slice_get-get_or}
use Rattle.std.proofs.lemmas.List.Elements.{Contains-push}
use Rattle.fib_addr.specs.Prefixes.{Prefix}
use Rattle.fib_base_interned.proofs.Finding.{some_is, none_some, contains_at, get_push_old}
use Rattle.fib_entries_rows.specs.inner.Looping.{IsMore}
use Rattle.fib_entries_rows.proofs.PlyOrder.{index_of}

pub more_self : (seen : List Prefix) → IsMore seen seen
more_self seen i e at = at

pub more_then : (a b c : List Prefix) → IsMore a b → IsMore b c → IsMore a c
more_then a b c f g i e at = g i e (f i e at)

pub more_in : (old new : List Prefix) → IsMore old new → (t : Prefix) → Contains old t → Contains new t
more_in old new more t c = let g = index_of old t c in contains_at new g.0 t (more g.0 t g.1)

pub more_push : (old new : List Prefix) (e : Prefix) → new ≡ old ++ e ∷ [] → IsMore old new × Contains new e
more_push old new e is = subst (λ l. IsMore old l × Contains l e) (sym is) (λ i x at. get_push_old old e i x at, Contains-push old e)

-- what is true of each before a place, and of the one at it
module _ {X : Type 0} (P : X → List Prefix → Type 0) (stays : (x : X) (old new : List Prefix) → IsMore old new → P x old → P x new) where
  pub each_more : (xs : List X) (place : ℕ) (x : X) (old new : List Prefix) → slice_get xs place ≡ Some x → IsMore old new → ((i : ℕ) (y : X) → i < place → slice_get xs i ≡ Some y → P y old) → P x new
      → (i : ℕ) (y : X) → i < place + 1 → slice_get xs i ≡ Some y → P y new
  each_more xs place x old new here more before own i y lt at = elim (cases_lt i place) [
    | inl early ↦ stays y old new more (before i y early at)
    | inr late ↦ (let is : place ≡ i = omega (arith, lt, late) in subst (λ z. P z new) (some_is x y (sym here ∙ (ap (slice_get xs) is ∙ at))) own)
  ]

pub past : {X : Type 0} (xs : List X) (k i : ℕ) (x : X) → slice_get xs k ≡ None → slice_get xs i ≡ Some x → i < k
past xs k i x none at = elim (cases_lt i k) [
  | inl lt ↦ lt
  | inr over ↦ (let inside = slice_get_within xs i x at in absurd (none_some (get_or xs k x) (sym none ∙ slice_get-get_or xs k x (omega (arith, over, inside)))))
]
