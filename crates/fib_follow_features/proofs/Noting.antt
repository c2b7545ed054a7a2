-- Rows that are noted one after the other, and what stays noted.
use Rattle.std.proofs.Common.{◌≡◌, ◌⊎◌, List, [], ◌∷◌, ◌++◌, inl, inr, refl, sym, ◌∙◌, ap, subst}
use Rattle.std.specs.Prelude.{Contains}
use Rattle.std.proofs.lemmas.List.Elements.{Contains-append_left, Contains-append_right, Contains-append_cases}
use Rattle.fib_base_list.proofs.Lists.{Contains-nil}
use Rattle.fib_addr.specs.Prefixes.{Prefix}
use Rattle.fib_entries_rows.specs.Known.{PathKept}
use Rattle.fib_entries_rows.specs.Rows.{Row}
use Rattle.fib_follow_features.specs.FoundBy.{AreExact, AreNoted, HasStayed, IsWritten, row_features}
use Rattle.fib_follow_features.specs.Holders.{Forgets, Holders, IsFound, Notes, NotesSome}
use Rattle.fib_follow_features.specs.declared.feature.Feature.{Feature}
use Rattle.fib_follow_features.proofs.Holding.{in_one, one_in}

module _ (lists : List PathKept) (order : List Prefix) where
  pub exact_none : AreExact lists order [] []
  exact_none f e = (λ c. absurd (Contains-nil e c), λ d. absurd (Contains-nil d.0 d.1))

  pub exact_more : (rows : List Row) (r : Row) (old new : List Holders) → AreExact lists order rows old
      → Notes old new r.prefix (row_features lists order r) → AreExact lists order (rows ++ r ∷ []) new
  exact_more rows r old new early note f e = (
    λ c. elim ((note f e).0 c) [
      | inl k ↦ (let s = (early f e).0 k in (s.0, Contains-append_left rows (r ∷ []) s.0 s.1, s.2, s.3))
      | inr k ↦ (r, Contains-append_right rows (r ∷ []) r (one_in r r refl), sym k.0, k.1)
    ],
    λ d. (note f e).1 (elim (Contains-append_cases rows (r ∷ []) d.0 d.1) [
      | inl first ↦ inl ((early f e).1 (d.0, first, d.2, d.3))
      | inr last ↦ (let is = in_one r d.0 last in
          inr (sym (ap (λ (z : Row). z.prefix) is ∙ d.2), subst (λ z. Contains (row_features lists order z) f) (sym is) d.3))
    ]),
  )

  pub noted_exact : (rows : List Row) (sets : List Holders) → AreExact lists order rows sets → AreNoted lists order rows sets
  noted_exact rows sets exact r f there c = (exact f r.prefix).1 (r, there, refl, c)

  pub noted_more : (rows : List Row) (old new : List Holders) (e : Prefix) (fs : List Feature) → NotesSome old new e fs
      → AreNoted lists order rows old → AreNoted lists order rows new
  noted_more rows old new e fs some noted r f there c = some.stays f r.prefix (noted r f there c)

  pub noted_less : (rows : List Row) (old new : List Holders) (e : Prefix) (olds news : List Feature) → Forgets old new e olds news
      → ((r : Row) (f : Feature) → Contains rows r → r.prefix ≡ e → Contains (row_features lists order r) f → Contains news f)
      → AreNoted lists order rows old → AreNoted lists order rows new
  noted_less rows old new e olds news forgets has noted r f there c =
      (forgets f r.prefix).1 (noted r f there c, λ gone. gone.2 (has r f there gone.0 c))

pub noted_written : (lists later : List PathKept) (order after : List Prefix) (rows new : List Row) (sets : List Holders)
    → ((r : Row) → Contains new r → IsWritten later after r sets ⊎ HasStayed lists later order after rows r)
    → AreNoted lists order rows sets → AreNoted later after new sets
noted_written lists later order after rows new sets each noted r f there c = elim (each r there) [
  | inl written ↦ written f c
  | inr stayed ↦ subst (IsFound sets f) stayed.2 (noted stayed.0 f stayed.1 (subst (λ l. Contains l f) stayed.3 c))
]
