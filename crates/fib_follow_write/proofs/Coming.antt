-- Rows and prefixes that come, one after the other.
use Rattle.std.proofs.Common.{◌≡◌, ◌≢◌, ℕ, ◌<◌, ◌≤◌, List, [], ◌∷◌, map, length, Some, None, ◌⊎◌, inl, inr, refl, sym, ◌∙◌, ap, subst, slice_get, ◌↔◌}
use Rattle.std.specs.Prelude.{Contains}
use Rattle.std.specs.List.{remove}
use Rattle.fib_reach.specs.Walks.{AllDiffer}
use Rattle.fib_base_list.proofs.Lists.{Contains-nil}
use Rattle.fib_addr.specs.Prefixes.{Prefix}
use Rattle.fib_cover.specs.Covers.{IsAscending}
use Rattle.fib_base_interned.proofs.Finding.{contains_at}
use Rattle.fib_resolve_changes.proofs.Edits.{in_cases, in_front, in_rest}
use Rattle.fib_entries_rows.specs.Known.{prefix_of, row_of}
use Rattle.fib_entries_rows.specs.Rows.{Row}
use Rattle.fib_entries_rows.proofs.Arriving.{gap_inside, ordered_with}
use Rattle.fib_entries_rows.proofs.Gaps.{taken_back}
use Rattle.fib_entries_rows.proofs.Linking.{no_row_at}
use Rattle.fib_entries_rows.proofs.Looking.{one_place}
use Rattle.fib_entries_rows.proofs.Placing.{each_in, inserted_at, inserted_from, inserted_map, inserted_old}
use Rattle.fib_follow_write.specs.Steps.{AreTaken, Fit}
use Rattle.fib_follow_write.specs.Written.{AreNew, HaveCome, HaveJoined, blank}
use Rattle.fib_follow_write.specs.inner.Stepped.{HasCome, HasJoined, IsToCome, IsToJoin}
use Rattle.fib_follow_write.specs.declared.plan.Edge.{Edge}
use Rattle.fib_follow_write.proofs.Upon.{row_at}

module _ (p : Prefix) (before rows : List Row) (h : HasCome p before rows) where
  inside : h.place ≤ length before
  inside = gap_inside before h.place p h.gap

  pub came_ordered : IsAscending (map prefix_of rows)
  came_ordered = subst (λ z. IsAscending (map prefix_of z)) (sym h.came) (ordered_with before h.place (blank p) h.gap h.ordered)

  came_at : slice_get rows h.place ≡ Some (blank p)
  came_at = ap (λ l. slice_get l h.place) h.came ∙ inserted_at before h.place (blank p) inside

  pub came_there : Contains rows (blank p)
  came_there = contains_at rows h.place (blank p) came_at

  -- what came is taken out
  pub came_back : (new : List Row) (k : ℕ) → slice_get rows k ≡ row_of rows p → k < length rows → new ≡ remove rows k → new ≡ before
  came_back new k is lt gone =
      let g = row_at rows p k is lt in
      let same = one_place prefix_of rows came_ordered k h.place g.0 (blank p) g.1 came_at (sym g.2) in
      taken_back before rows new h.place (blank p) inside h.came (gone ∙ ap (remove rows) same)

  pub came_not : None ≡ row_of rows p → ⊥
  came_not none = no_row_at rows p none (blank p) came_there refl

  pub came_rows : (r : Row) → Contains rows r ↔ Contains before r ⊎ (r ≡ blank p)
  came_rows r = (
    λ c. elim (inserted_from before h.place (blank p) r inside (subst (λ z. Contains z r) h.came c)) [ inl is ↦ inr (sym is) | inr old ↦ inl old ],
    λ d. elim d [
      | inl old ↦ subst (λ z. Contains z r) (sym h.came) (inserted_old before h.place (blank p) r inside old)
      | inr is ↦ subst (Contains rows) (sym is) came_there
    ],
  )

  came_names : (q : Prefix) → Contains (map prefix_of rows) q → (p ≡ q) ⊎ Contains (map prefix_of before) q
  came_names q c = inserted_from (map prefix_of before) h.place p q h.gap.inside
      (subst (λ z. Contains z q) (ap (map prefix_of) h.came ∙ inserted_map prefix_of before h.place (blank p) inside) c)

pub rows_fit : (ps : List Prefix) (rows : List Row) → IsAscending (map prefix_of rows) → AllDiffer ps
    → ((p : Prefix) → Contains ps p → Contains (map prefix_of rows) p → ⊥) → Fit IsToCome HasCome ps rows
rows_fit [] rows asc once absent = tt
rows_fit (p ∷ ps) rows asc once absent = (
  record { ordered = asc; absent = absent p (in_front p p ps refl) },
  λ next h. rows_fit ps next (came_ordered p rows next h) once.1 (λ q c there. elim (came_names p rows next h q there) [
    | inl is ↦ each_in (λ y. p ≢ y) ps q once.0 c is
    | inr old ↦ absent q (in_rest p q ps c) old
  ]),
)

pub rows_come : (ps : List Prefix) (old new : List Row) → IsAscending (map prefix_of old) → AreTaken HasCome ps old new → HaveCome ps old new
rows_come [] old new asc t = record {
  ordered = subst (λ z. IsAscending (map prefix_of z)) (sym t) asc;
  rows = λ r. (
    λ c. inl (subst (λ z. Contains z r) t c),
    λ d. elim d [ inl c ↦ subst (λ z. Contains z r) (sym t) c | inr none ↦ absurd (Contains-nil r.prefix none.0) ],
  );
}
rows_come (p ∷ ps) old new asc (mid, h, t) =
    let later = rows_come ps mid new (came_ordered p old mid h) t in
    record {
      ordered = later.ordered;
      rows = λ r. (
        λ c. elim ((later.rows r).0 c) [
          | inl c ↦ elim ((came_rows p old mid h r).0 c) [
            | inl was ↦ inl was
            | inr is ↦ inr (in_front p r.prefix ps (sym (ap prefix_of is)), is ∙ ap (λ z. blank (prefix_of z)) (sym is))
          ]
          | inr came ↦ inr (in_rest p r.prefix ps came.0, came.1)
        ],
        λ d. elim d [
          | inl was ↦ (later.rows r).1 (inl ((came_rows p old mid h r).1 (inl was)))
          | inr came ↦ elim (in_cases p r.prefix ps came.0) [
            | inl is ↦ (later.rows r).1 (inl ((came_rows p old mid h r).1 (inr (came.1 ∙ ap blank (sym is)))))
            | inr after ↦ (later.rows r).1 (inr (after, came.1))
          ]
        ],
      );
    }

-- blank rows lead nowhere
pub new_on : (ps : List Prefix) (edges : List Edge) (old mid : List Row) → HaveCome ps old mid → AreNew old edges → AreNew mid edges
new_on ps edges old mid h n = record {
  once = n.once;
  absent = λ e r c there to d. elim ((h.rows r).0 there) [
    | inl was ↦ n.absent e r c was to d
    | inr new ↦ Contains-nil e.from (subst (λ (z : Row). Contains z.dependants e.from) new.1 d)
  ];
}

pub set_fits : (ps order : List Prefix) → AllDiffer ps → ((p : Prefix) → Contains ps p → Contains order p → ⊥) → Fit IsToJoin HasJoined ps order
set_fits [] order once absent = tt
set_fits (p ∷ ps) order once absent = (
  absent p (in_front p p ps refl),
  λ next h. set_fits ps next once.1 (λ q c there. elim ((h.members q).0 there) [
    | inl old ↦ absent q (in_rest p q ps c) old
    | inr is ↦ each_in (λ y. p ≢ y) ps q once.0 c (sym is)
  ]),
)

joined_members : (ps old new : List Prefix) → AreTaken HasJoined ps old new → (q : Prefix) → Contains new q ↔ Contains old q ⊎ Contains ps q
joined_members [] old new t q = (
  λ c. inl (subst (λ z. Contains z q) t c),
  λ d. elim d [ inl c ↦ subst (λ z. Contains z q) (sym t) c | inr none ↦ absurd (Contains-nil q none) ],
)
joined_members (p ∷ ps) old new (mid, h, t) q =
    let later = joined_members ps mid new t q in (
      λ c. elim (later.0 c) [
        | inl c ↦ elim ((h.members q).0 c) [ inl was ↦ inl was | inr is ↦ inr (in_front p q ps (sym is)) ]
        | inr came ↦ inr (in_rest p q ps came)
      ],
      λ d. elim d [
        | inl was ↦ later.1 (inl ((h.members q).1 (inl was)))
        | inr came ↦ elim (in_cases p q ps came) [ inl is ↦ later.1 (inl ((h.members q).1 (inr (sym is)))) | inr after ↦ later.1 (inr after) ]
      ],
    )

joined_ordered : (ps old new : List Prefix) → IsAscending old → AreTaken HasJoined ps old new → IsAscending new
joined_ordered [] old new asc t = subst IsAscending (sym t) asc
joined_ordered (p ∷ ps) old new asc (mid, h, t) = joined_ordered ps mid new h.later t

pub set_joined : (ps old new : List Prefix) → IsAscending old → AreTaken HasJoined ps old new → HaveJoined ps old new
set_joined ps old new asc t = record { ordered = joined_ordered ps old new asc t; members = joined_members ps old new t }
