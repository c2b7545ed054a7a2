-- Lists without one of their members, and with one more at a place.
use Rattle.std.proofs.Common.{arith, ◌≡◌, ◌≢◌, ℕ, zero, suc, ◌-◌, ◌≤◌, false, List, [], ◌∷◌, map, length, Option, Some, None, ◌⊎◌, inl, inr, refl, sym, ◌∙◌, ap, subst, slice_get, ◌↔◌}
use Rattle.std.specs.Prelude.{Contains, IsSome, option_map}
use Rattle.std.specs.List.{AllByRecursion, insert, remove}
use Rattle.std.specs.List.Sorted.{IsStrictlySortedBy}
use Rattle.std.specs.declared.cmp.Ordering.TheVariants.{Less}
use Rattle.std.proofs.lemmas.Bool.{false≢true}
use Rattle.fib_base_list.proofs.Lists.{Contains-nil}
use Rattle.fib_addr.specs.Prefixes.{Prefix}
use Rattle.fib_cover.specs.Covers.{prefix_cmp, IsAscending}
use Rattle.fib_cover.proofs.Order.{prefix_total}
use Rattle.fib_resolve_changes.proofs.Edits.{in_cases, in_front, in_rest}
use Rattle.fib_base_interned.proofs.Finding.{some_is, none_some, contains_at}
use Rattle.fib_base_interned.specs.Interned.{kept_of}
use Rattle.fib_resolve.specs.declared.types.Path.{Path}
use Rattle.fib_entries_rows.specs.Known.{PathKept, content_of}
use Rattle.fib_entries_rows.specs.inner.Plies.{IsGap}
use Rattle.fib_entries_rows.proofs.Looking.{never}
use Rattle.fib_entries_rows.proofs.PlyOrder.{index_of}

module _ {X : Type 0} where
  pub removed_from : (xs : List X) (k : ℕ) (own s : X) → slice_get xs k ≡ Some own → Contains (remove xs k) s → (j : ℕ) × (j ≢ k) × (slice_get xs j ≡ Some s)
  removed_from [] k own s at c = absurd (none_some own at)
  removed_from (x ∷ xs) zero own s at c = (let g = index_of xs s c in (suc g.0, (λ e. omega (arith, e)), g.1))
  removed_from (x ∷ xs) (suc k) own s at c = elim (in_cases x s (remove xs k) c) [
    | inl is ↦ (0, (λ e. omega (arith, e)), ap Some is)
    | inr later ↦ (let r = removed_from xs k own s at later in (suc r.0, (λ e. r.1 (omega (arith, e))), r.2))
  ]

  pub removed_in : (xs : List X) (k j : ℕ) (s : X) → slice_get xs j ≡ Some s → j ≢ k → Contains (remove xs k) s
  removed_in [] k j s at off = absurd (none_some s at)
  removed_in (x ∷ xs) zero zero s at off = absurd (off refl)
  removed_in (x ∷ xs) zero (suc j) s at off = contains_at xs j s at
  removed_in (x ∷ xs) (suc k) zero s at off = in_front x s (remove xs k) (some_is x s at)
  removed_in (x ∷ xs) (suc k) (suc j) s at off = in_rest x s (remove xs k) (removed_in xs k j s at (λ e. off (omega (arith, e))))

  pub removed_each : (P : X → Type 0) (xs : List X) (k : ℕ) (own : X) → slice_get xs k ≡ Some own → AllByRecursion P xs → AllByRecursion P (remove xs k)
  removed_each P [] k own at all = absurd (none_some own at)
  removed_each P (x ∷ xs) zero own at all = all.1
  removed_each P (x ∷ xs) (suc k) own at all = (all.0, removed_each P xs k own at all.1)

  pub inserted_from : (xs : List X) (k : ℕ) (own s : X) → k ≤ length xs → Contains (insert xs k own) s → (own ≡ s) ⊎ Contains xs s
  inserted_from [] zero own s le c = in_cases own s [] c
  inserted_from [] (suc k) own s le c = absurd (omega (arith, le))
  inserted_from (x ∷ xs) zero own s le c = in_cases own s (x ∷ xs) c
  inserted_from (x ∷ xs) (suc k) own s le c = elim (in_cases x s (insert xs k own) c) [
    | inl is ↦ inr (in_front x s xs is)
    | inr later ↦ elim (inserted_from xs k own s (omega (arith, le)) later) [ inl is ↦ inl is | inr old ↦ inr (in_rest x s xs old) ]
  ]

  pub inserted_old : (xs : List X) (k : ℕ) (own s : X) → k ≤ length xs → Contains xs s → Contains (insert xs k own) s
  inserted_old [] k own s le c = absurd (Contains-nil s c)
  inserted_old (x ∷ xs) zero own s le c = in_rest own s (x ∷ xs) c
  inserted_old (x ∷ xs) (suc k) own s le c = elim (in_cases x s xs c) [
    | inl is ↦ in_front x s (insert xs k own) is
    | inr later ↦ in_rest x s (insert xs k own) (inserted_old xs k own s (omega (arith, le)) later)
  ]

  pub inserted_at : (xs : List X) (k : ℕ) (own : X) → k ≤ length xs → slice_get (insert xs k own) k ≡ Some own
  inserted_at [] zero own le = refl
  inserted_at [] (suc k) own le = absurd (omega (arith, le))
  inserted_at (x ∷ xs) zero own le = refl
  inserted_at (x ∷ xs) (suc k) own le = inserted_at xs k own (omega (arith, le))

  -- what came is taken out again
  pub insert_back : (xs : List X) (k : ℕ) (own : X) → k ≤ length xs → remove (insert xs k own) k ≡ xs
  insert_back [] zero own le = refl
  insert_back [] (suc k) own le = absurd (omega (arith, le))
  insert_back (x ∷ xs) zero own le = refl
  insert_back (x ∷ xs) (suc k) own le = ap (λ l. x ∷ l) (insert_back xs k own (omega (arith, le)))

  pub each_by : (P : X → Type 0) (xs : List X) → ((j : ℕ) (x : X) → slice_get xs j ≡ Some x → P x) → AllByRecursion P xs
  each_by P [] f = tt
  each_by P (x ∷ xs) f = (f 0 x refl, each_by P xs (λ j y at. f (suc j) y at))

  pub each_in : (P : X → Type 0) (xs : List X) (x : X) → AllByRecursion P xs → Contains xs x → P x
  each_in P [] x all c = absurd (Contains-nil x c)
  each_in P (y ∷ ys) x all c = elim (in_cases y x ys c) [ inl is ↦ subst P is all.0 | inr later ↦ each_in P ys x all.1 later ]

  inserted_each : (P : X → Type 0) (xs : List X) (k : ℕ) (own : X) → k ≤ length xs → P own → AllByRecursion P xs → AllByRecursion P (insert xs k own)
  inserted_each P [] zero own le h all = (h, tt)
  inserted_each P [] (suc k) own le h all = absurd (omega (arith, le))
  inserted_each P (x ∷ xs) zero own le h all = (h, all)
  inserted_each P (x ∷ xs) (suc k) own le h all = (all.0, inserted_each P xs k own (omega (arith, le)) h all.1)

pub removed_map : {X Y : Type 0} (f : X → Y) (xs : List X) (k : ℕ) (own : X) → slice_get xs k ≡ Some own → map f (remove xs k) ≡ remove (map f xs) k
removed_map f [] k own at = absurd (none_some own at)
removed_map f (x ∷ xs) zero own at = refl
removed_map f (x ∷ xs) (suc k) own at = ap (λ l. f x ∷ l) (removed_map f xs k own at)

pub inserted_map : {X Y : Type 0} (f : X → Y) (xs : List X) (k : ℕ) (own : X) → k ≤ length xs → map f (insert xs k own) ≡ insert (map f xs) k (f own)
inserted_map f [] zero own le = refl
inserted_map f [] (suc k) own le = absurd (omega (arith, le))
inserted_map f (x ∷ xs) zero own le = refl
inserted_map f (x ∷ xs) (suc k) own le = ap (λ l. f x ∷ l) (inserted_map f xs k own (omega (arith, le)))

pub length_map : {X Y : Type 0} (f : X → Y) (xs : List X) → length (map f xs) ≡ length xs
length_map f [] = refl
length_map f (x ∷ xs) = let e = length_map f xs in omega (arith, e)

pub get_map : {X Y : Type 0} (f : X → Y) (xs : List X) (k : ℕ) (x : X) → slice_get xs k ≡ Some x → slice_get (map f xs) k ≡ Some (f x)
get_map f [] k x at = absurd (none_some x at)
get_map f (y ∷ ys) zero x at = ap (λ z. Some (f z)) (some_is y x at)
get_map f (y ∷ ys) (suc k) x at = get_map f ys k x at

pub removed_ascending : (order : List Prefix) (k : ℕ) (p : Prefix) → slice_get order k ≡ Some p → IsAscending order → IsAscending (remove order k)
unfolding IsStrictlySortedBy
removed_ascending [] k p at asc = absurd (none_some p at)
removed_ascending (x ∷ xs) zero p at asc = asc.1
removed_ascending (x ∷ xs) (suc k) p at asc = (removed_each (λ z. prefix_cmp x z ≡ Less) xs k p at asc.0, removed_ascending xs k p at asc.1)

pub inserted_ascending : (order : List Prefix) (k : ℕ) (p : Prefix) → IsGap order k p → IsAscending order → IsAscending (insert order k p)
unfolding IsStrictlySortedBy
inserted_ascending [] zero p gap asc = (tt, tt)
inserted_ascending [] (suc k) p gap asc = absurd (let le = gap.inside in omega (arith, le))
inserted_ascending (x ∷ xs) zero p gap asc = (each_by (λ z. prefix_cmp p z ≡ Less) (x ∷ xs) (λ j q at. gap.after j q at (omega arith)), asc)
inserted_ascending (x ∷ xs) (suc k) p gap asc =
    let le = gap.inside in (
      inserted_each (λ z. prefix_cmp x z ≡ Less) xs k p (omega (arith, le)) (gap.before 0 x refl (omega arith)) asc.0,
      inserted_ascending xs k p (record {
        inside = omega (arith, le);
        before = λ j q at lt. gap.before (suc j) q at (omega (arith, lt));
        after = λ j q at high. gap.after (suc j) q at (omega (arith, high));
      }) asc.1,
    )

-- ascending lists with the same members are one
pub same_order : (xs ys : List Prefix) → IsAscending xs → IsAscending ys → ((q : Prefix) → Contains xs q ↔ Contains ys q) → xs ≡ ys
unfolding IsStrictlySortedBy
same_order [] [] a b same = refl
same_order [] (y ∷ ys) a b same = absurd (Contains-nil y ((same y).1 (in_front y y ys refl)))
same_order (x ∷ xs) [] a b same = absurd (Contains-nil x ((same x).0 (in_front x x xs refl)))
same_order (x ∷ xs) (y ∷ ys) a b same =
    let first : x ≡ y = elim (in_cases y x ys ((same x).0 (in_front x x xs refl))) [
      | inl is ↦ sym is
      | inr later ↦ elim (in_cases x y xs ((same y).1 (in_front y y ys refl))) [
        | inl is ↦ is
        | inr after ↦ absurd (never x (prefix_total.trans x y x (each_in (λ z. prefix_cmp x z ≡ Less) xs y a.0 after) (each_in (λ z. prefix_cmp y z ≡ Less) ys x b.0 later)))
      ]
    ] in
    ap (λ z. z ∷ xs) first ∙ ap (λ l. y ∷ l) (same_order xs ys a.1 b.1 (λ q. (
      λ c. elim (in_cases y q ys ((same q).0 (in_rest x q xs c))) [
        | inl is ↦ absurd (never q (subst (λ z. prefix_cmp z q ≡ Less) (first ∙ is) (each_in (λ z. prefix_cmp x z ≡ Less) xs q a.0 c)))
        | inr later ↦ later
      ],
      λ c. elim (in_cases x q xs ((same q).1 (in_rest y q ys c))) [
        | inl is ↦ absurd (never q (subst (λ z. prefix_cmp z q ≡ Less) (sym first ∙ is) (each_in (λ z. prefix_cmp y z ≡ Less) ys q b.0 c)))
        | inr later ↦ later
      ],
    )))

-- what is kept has a content
pub some_list : (lists : List PathKept) (id : ℕ) → IsSome (kept_of lists id) → (paths : List Path) × (content_of lists id ≡ Some paths)
some_list lists id kept = by (kept_of lists id) refl kept
  where
    by : (o : Option PathKept) → kept_of lists id ≡ o → IsSome o → (paths : List Path) × (content_of lists id ≡ Some paths)
    by None e h = absurd (false≢true h)
    by (Some k) e h = (k.content, ap (option_map (λ (z : PathKept). z.content)) e)
