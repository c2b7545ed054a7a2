-- A search through all to which changed entries lead.
use Rattle.std.proofs.Common.{arith, ◌≡◌, ℕ, zero, suc, ◌+◌, ◌<◌, List, [], ◌∷◌, ◌++◌, length, map, get_or, Some, None, inl, inr, refl, sym, ◌∙◌}
use Rattle.std.proofs.Common.{ap, subst, slice_get}
use Rattle.std.specs.Prelude.{Contains}
use Rattle.std.proofs.lemmas.Bool.{cases_lt}
use Rattle.std.proofs.lemmas.List.Elements.{Contains-append_cases}
use Rattle.std.proofs.lemmas.Option.{slice_get_within, slice_get-get_or}
use Rattle.fib_base_list.proofs.Lists.{Contains-nil}
use Rattle.fib_addr.specs.Prefixes.{Prefix}
use Rattle.fib_reach.specs.Walks.{AllDiffer}
use Rattle.fib_base_interned.proofs.Finding.{contains_at, none_some, some_is}
use Rattle.fib_resolve_changes.proofs.Edits.{in_cases}
use Rattle.fib_resolve_changes.proofs.SamePairs.{map_in}
use Rattle.fib_entries_rows.specs.inner.Looping.{IsMore, Sees}
use Rattle.fib_entries_rows.proofs.PlyOrder.{index_of}
use Rattle.fib_entries_rows.proofs.Seeing.{more_in, more_self, more_then, past}
use Rattle.fib_follow_view.specs.Views.{Seen}
use Rattle.fib_follow_view.specs.inner.Told.{next_before, next_in}
use Rattle.fib_follow_part.specs.inner.Searched.{SeesBoth, SeesOnly}

pub get_map : {X Y : Type 0} (f : X → Y) (xs : List X) (i : ℕ) (x : X) → slice_get xs i ≡ Some x → slice_get (map f xs) i ≡ Some (f x)
get_map f [] i x at = absurd (none_some x at)
get_map f (y ∷ ys) zero x at = ap (λ z. Some (f z)) (some_is y x at)
get_map f (y ∷ ys) (suc i) x at = get_map f ys i x at

pub map_length : {X Y : Type 0} (f : X → Y) (xs : List X) → length (map f xs) ≡ length xs
map_length f [] = refl
map_length f (x ∷ xs) = ap suc (map_length f xs)

-- two lists are seen one after the other
pub sees_two : (xs ys old mid new : List Prefix) → Sees xs old mid → Sees ys mid new → Sees [] old new
sees_two xs ys old mid new a b = (more_then old mid new a.0 b.0, b.1, λ t c. absurd (Contains-nil t c))

pub sees_both : (v : Seen) (e : Prefix) (xs ys old mid new : List Prefix) → xs ≡ next_in v e → ys ≡ next_before v e → Sees xs old mid
    → Sees ys mid new → SeesBoth v e new
sees_both v e xs ys old mid new after before a b = (
  λ t c. more_in mid new b.0 t (a.2 t (subst (λ l. Contains l t) (sym after) c)),
  λ t c. b.2 t (subst (λ l. Contains l t) (sym before) c),
)

-- all to which those before a place lead
abbrev pub SeesSteps : Seen → ℕ → List Prefix → List Prefix → Type 0
SeesSteps v place old new = IsMore old new × AllDiffer new × ((i : ℕ) (x : Prefix) → i < place → slice_get new i ≡ Some x → SeesBoth v x new)

both_stay : (v : Seen) (e : Prefix) (old new : List Prefix) → IsMore old new → SeesBoth v e old → SeesBoth v e new
both_stay v e old new more both = (λ t c. more_in old new more t (both.0 t c), λ t c. more_in old new more t (both.1 t c))

pub steps_none : (v : Seen) (seen : List Prefix) → AllDiffer seen → SeesSteps v 0 seen seen
steps_none v seen once = (more_self seen, once, λ i x lt at. absurd (omega (arith, lt)))

pub steps_more : (v : Seen) (first old new : List Prefix) (place : ℕ) (e : Prefix) → slice_get old place ≡ Some e
    → SeesSteps v place first old → Sees [] old new → SeesBoth v e new → SeesSteps v (place + 1) first new
steps_more v first old new place e here before sees own = (
  more_then first old new before.0 sees.0,
  sees.1,
  λ i x lt at. elim (cases_lt i place) [
    | inl early ↦ (let inside = slice_get_within old place e here in
        let was = slice_get-get_or old i e (omega (arith, early, inside)) in
        let y = get_or old i e in
        subst (λ z. SeesBoth v z new) (some_is y x (sym (sees.0 i y was) ∙ at)) (both_stay v y old new sees.0 (before.2 i y early was)))
    | inr late ↦ (let is : place ≡ i = omega (arith, lt, late)
        in subst (λ z. SeesBoth v z new) (some_is e x (sym (sees.0 place e here) ∙ (ap (slice_get new) is ∙ at))) own)
  ],
)

pub steps_sees : (v : Seen) (place : ℕ) (old new : List Prefix) → SeesSteps v place old new → Sees [] old new
steps_sees v place old new h = (h.0, h.1, λ t c. absurd (Contains-nil t c))

pub steps_until : (v : Seen) (place : ℕ) (old new : List Prefix) → slice_get new place ≡ None → SeesSteps v place old new → (e : Prefix)
    → Contains new e → SeesBoth v e new
steps_until v place old new none h e c = let g = index_of new e c in h.2 g.0 e (past new place g.0 e none g.1) g.1

-- nothing else is seen
pub only_same : (list seen : List Prefix) → SeesOnly list seen seen
only_same list seen t c = inl c

pub only_put : (old new : List Prefix) (e : Prefix) → new ≡ old ++ e ∷ [] → SeesOnly (e ∷ []) old new
only_put old new e made t c = Contains-append_cases old (e ∷ []) t (subst (λ l. Contains l t) made c)

pub only_step : {X : Type 0} (f : X → Prefix) (xs : List X) (place : ℕ) (x : X) (first old new : List Prefix) → slice_get xs place ≡ Some x
    → SeesOnly (map f xs) first old → SeesOnly (f x ∷ []) old new → SeesOnly (map f xs) first new
only_step f xs place x first old new here before one t c = elim (one t c) [
  | inl o ↦ before t o
  | inr mine ↦ elim (in_cases (f x) t [] mine) [
    | inl is ↦ inr (subst (Contains (map f xs)) is (map_in f xs x (contains_at xs place x here)))
    | inr none ↦ absurd (Contains-nil t none)
  ]
]

-- what was seen first, then more
pub then_sees : (list old mid new : List Prefix) → Sees [] old mid → Sees list mid new → Sees [] old new
then_sees list old mid new a b = (more_then old mid new a.0 b.0, b.1, λ t c. absurd (Contains-nil t c))
