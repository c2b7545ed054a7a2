-- Lists that are put together, each member once.
use Rattle.std.proofs.Common.{◌≡◌, ◌≢◌, ℕ, ◌+◌, ◌≤◌, true, false, List, [], ◌∷◌, ◌++◌, map, length, take, get_or, flat_map, Option, Some, inl}
use Rattle.std.proofs.Common.{inr, refl, sym, ◌∙◌, subst, slice_get}
use Rattle.std.specs.Prelude.{Contains, option_to_list}
use Rattle.std.specs.List.{AllByRecursion}
use Rattle.std.specs.Set.{is_member}
use Rattle.std.proofs.lemmas.Bool.{false≢true}
use Rattle.std.proofs.lemmas.List.Elements.{All-contains, All-from_recursion, Contains-append_left, Contains-append_right, Contains-append_cases}
use Rattle.std.proofs.lemmas.Option.{slice_get_within, slice_get-get_or}
use Rattle.fib_base_list.proofs.Lists.{Contains-nil}
use Rattle.fib_base_interned.proofs.Finding.{some_is}
use Rattle.fib_addr.specs.Prefixes.{Prefix, same_prefix}
use Rattle.fib_reach.specs.Walks.{AllDiffer}
use Rattle.fib_resolve_changes.proofs.Edits.{in_cases, in_front, in_rest}
use Rattle.fib_resolve_changes.proofs.SamePairs.{map_from}
use Rattle.fib_entries_rows.proofs.Anew.{take_all, take_more}
use Rattle.fib_entries_rows.proofs.Loopings.{flat_step, flat_whole}
use Rattle.fib_follow_part.proofs.Parting.{among, member_of}
use Rattle.fib_follow_told.specs.inner.Gathered.{Gathers}

pub only : {X : Type 0} (x y : X) → Contains (x ∷ []) y → x ≡ y
only x y c = elim (in_cases x y [] c) [ inl is ↦ is | inr none ↦ absurd (Contains-nil y none) ]

-- lists without repeats
pub each_in : {X : Type 0} (P : X → Type 0) (xs : List X) → ((x : X) → Contains xs x → P x) → AllByRecursion P xs
each_in P [] h = tt
each_in P (x ∷ xs) h = (h x (in_front x x xs refl), each_in P xs (λ y c. h y (in_rest x y xs c)))

pub head_differs : {X : Type 0} (x : X) (xs : List X) → AllByRecursion (λ y. x ≢ y) xs → (y : X) → Contains xs y → x ≢ y
head_differs x xs all y c = All-contains (λ z. x ≢ z) xs y (All-from_recursion (λ z. x ≢ z) xs all) c

pub append_differ : {X : Type 0} (xs ys : List X) → AllDiffer xs → AllDiffer ys → ((x : X) → Contains xs x → Contains ys x → ⊥) → AllDiffer (xs ++ ys)
append_differ [] ys a b off = b
append_differ (x ∷ xs) ys a b off = (
  each_in (λ y. x ≢ y) (xs ++ ys) (λ y c is. elim (Contains-append_cases xs ys y c) [
    | inl early ↦ head_differs x xs a.0 y early is
    | inr late ↦ off x (in_front x x xs refl) (subst (Contains ys) (sym is) late)
  ]),
  append_differ xs ys a.1 b (λ z c d. off z (in_rest x z xs c) d),
)

pub map_differ : {X Y : Type 0} (f : X → Y) (xs : List X) → ((x y : X) → f x ≡ f y → x ≡ y) → AllDiffer xs → AllDiffer (map f xs)
map_differ f [] own d = tt
map_differ f (x ∷ xs) own d = (
  each_in (λ y. f x ≢ y) (map f xs) (λ y c is. (let m = map_from f xs y c in head_differs x xs d.0 m.0 m.1 (own x m.0 (is ∙ sym m.2)))),
  map_differ f xs own d.1,
)

-- what stands at a place
pub value_at : {X : Type 0} (xs : List X) (i : ℕ) (x : X) → slice_get xs i ≡ Some x → x ≡ get_or xs i x
value_at xs i x here = some_is x (get_or xs i x) (sym here ∙ slice_get-get_or xs i x (slice_get_within xs i x here))

pub take_next : {X : Type 0} (xs : List X) (i : ℕ) (x : X) → slice_get xs i ≡ Some x → take (i + 1) xs ≡ take i xs ++ x ∷ []
take_next xs i x here = take_more xs i x (slice_get_within xs i x here) (value_at xs i x here)

-- one prefix is gathered, or more
pub gathers_none : (seen : List Prefix) → AllDiffer seen → Gathers [] seen seen
gathers_none seen once = record {
  once = once;
  each = λ t. (λ c. inl c, λ k. elim k [ inl c ↦ c | inr n ↦ absurd (Contains-nil t n) ]);
}

pub gathers_same : (seen : List Prefix) (e : Prefix) → AllDiffer seen → is_member same_prefix seen e ≡ true → Gathers (e ∷ []) seen seen
gathers_same seen e once there = record {
  once = once;
  each = λ t. (λ c. inl c, λ k. elim k [ inl c ↦ c | inr n ↦ subst (Contains seen) (only e t n) (among seen e there) ]);
}

pub gathers_put : (old new : List Prefix) (e : Prefix) → AllDiffer old → is_member same_prefix old e ≡ false → new ≡ old ++ e ∷ []
    → Gathers (e ∷ []) old new
gathers_put old new e once off made = record {
  once = subst AllDiffer (sym made) (append_differ old (e ∷ []) once (tt, tt)
      (λ x c d. false≢true (sym off ∙ member_of old e (subst (Contains old) (sym (only e x d)) c))));
  each = λ t. (
    λ c. Contains-append_cases old (e ∷ []) t (subst (λ l. Contains l t) made c),
    λ k. subst (λ l. Contains l t) (sym made)
        (elim k [ inl c ↦ Contains-append_left old (e ∷ []) t c | inr n ↦ Contains-append_right old (e ∷ []) t n ]),
  );
}

pub gathers_then : (xs ys old mid new : List Prefix) → Gathers xs old mid → Gathers ys mid new → Gathers (xs ++ ys) old new
gathers_then xs ys old mid new a b = record {
  once = b.once;
  each = λ t. (
    λ c. elim ((b.each t).0 c) [
      | inl early ↦ elim ((a.each t).0 early) [ inl o ↦ inl o | inr x ↦ inr (Contains-append_left xs ys t x) ]
      | inr late ↦ inr (Contains-append_right xs ys t late)
    ],
    λ k. elim k [
      | inl o ↦ (b.each t).1 (inl ((a.each t).1 (inl o)))
      | inr l ↦ elim (Contains-append_cases xs ys t l) [
        | inl x ↦ (b.each t).1 (inl ((a.each t).1 (inr x)))
        | inr y ↦ (b.each t).1 (inr y)
      ]
    ],
  );
}

-- those of a list, place by place
pub each_step : (xs : List Prefix) (i : ℕ) (x : Prefix) (first old new : List Prefix) → slice_get xs i ≡ Some x
    → Gathers (take i xs) first old → Gathers (x ∷ []) old new → Gathers (take (i + 1) xs) first new
each_step xs i x first old new here before one =
    subst (λ l. Gathers l first new) (sym (take_next xs i x here)) (gathers_then (take i xs) (x ∷ []) first old new before one)

pub each_whole : (xs : List Prefix) (i : ℕ) (old new : List Prefix) → length xs ≤ i → Gathers (take i xs) old new → Gathers xs old new
each_whole xs i old new le h = subst (λ l. Gathers l old new) (take_all xs i le) h

pub goals_step : (goals : List (Option Prefix)) (i : ℕ) (g : Option Prefix) (first old new : List Prefix) → slice_get goals i ≡ Some g
    → Gathers (flat_map option_to_list (take i goals)) first old → Gathers (option_to_list g) old new
    → Gathers (flat_map option_to_list (take (i + 1) goals)) first new
goals_step goals i g first old new here before one =
    subst (λ l. Gathers l first new) (flat_step option_to_list goals i g [] (flat_map option_to_list (take i goals))
    (flat_map option_to_list (take i goals) ++ option_to_list g) here refl refl)
    (gathers_then (flat_map option_to_list (take i goals)) (option_to_list g) first old new before one)

pub goals_whole : (goals : List (Option Prefix)) (i : ℕ) (old new : List Prefix) → length goals ≤ i
    → Gathers (flat_map option_to_list (take i goals)) old new → Gathers (flat_map option_to_list goals) old new
goals_whole goals i old new le h = subst (λ l. Gathers l old new)
    (flat_whole option_to_list goals i [] (flat_map option_to_list (take i goals)) le refl) h

-- what is gathered from nothing
pub gathered : (list seen : List Prefix) → Gathers list [] seen → (t : Prefix) → Contains seen t → Contains list t
gathered list seen h t c = elim ((h.each t).0 c) [ inl none ↦ absurd (Contains-nil t none) | inr x ↦ x ]

pub gather : (list seen : List Prefix) → Gathers list [] seen → (t : Prefix) → Contains list t → Contains seen t
gather list seen h t c = (h.each t).1 (inr c)
