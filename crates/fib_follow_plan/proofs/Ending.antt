-- Which Hop ends entries beside the changed ones have.
use Rattle.std.proofs.Common.{◌≡◌, ◌+◌, ◌≤◌, ◌||◌, ℕ, Bool, true, false, cond, length, List, [], ◌∷◌, map, take, slice_get}
use Rattle.std.proofs.Common.{Option, Some, None, inl, inr, ◌↔◌, refl, sym, ◌∙◌, ap, subst}
use Rattle.std.specs.Prelude.{Contains, not, option_to_list}
use Rattle.std.specs.List.{list_any}
use Rattle.std.specs.Set.{is_member}
use Rattle.std.proofs.lemmas.Bool.{false≢true}
use Rattle.std.proofs.lemmas.Map.Views.{Contains-from_any, list_any-from_Contains}
use Rattle.fib_base_list.proofs.Booleans.{and_both}
use Rattle.fib_base_list.proofs.Lists.{Contains-flat_map, Contains-nil, either}
use Rattle.fib_addr.specs.Prefixes.{Prefix}
use Rattle.fib_cover.proofs.Sets.{take_whole}
use Rattle.fib_resolve.specs.Pairs.{chosen}
use Rattle.fib_resolve.specs.Sizes.{kind_adjacency, same_adjacency}
use Rattle.fib_resolve.specs.declared.pairs.Adjacency.{Adjacency}
use Rattle.fib_resolve.specs.declared.types.Path.{Path}
use Rattle.fib_resolve.specs.declared.types.PathKind.{PathKind}
use Rattle.fib_resolve.specs.declared.types.Tables.{Tables}
use Rattle.fib_resolve_changes.proofs.CauseLaws.{any_from}
use Rattle.fib_resolve_changes.proofs.Edits.{any_in}
use Rattle.fib_resolve_changes.proofs.SamePairs.{flat_map_from}
use Rattle.fib_entries_rows.specs.Known.{prefix_of, row_of}
use Rattle.fib_entries_rows.proofs.LeafSizes.{adjacency_equiv, adjacency_is}
use Rattle.fib_follow_view.specs.Views.{IsAfter, Seen, is_changed}
use Rattle.fib_follow_view.specs.inner.Told.{chosen_row}
use Rattle.fib_follow_view.proofs.Told.{row_chosen}
use Rattle.fib_follow_sized.specs.Holders.{AreHolders, IsAsked, IsBeside}
use Rattle.fib_follow_features.specs.FoundBy.{AreNoted}
use Rattle.fib_follow_features.specs.Holders.{Holders, holders}
use Rattle.fib_follow_features.specs.declared.feature.Feature.TheVariants as features
use Rattle.fib_follow_features.proofs.Tabled.{end_found}
use Rattle.fib_follow_looked.proofs.Turning.{take_in}
use Rattle.fib_follow_plan.specs.inner.Ends.{AddsEnd, AreEndsAmong, has_end, is_beside, is_end, is_held}

or_false : (b : Bool) → (b || false) ≡ b
or_false true = refl
or_false false = refl

not_true : (b : Bool) → not b ≡ true → b ≡ false
not_true true h = absurd (false≢true h)
not_true false h = refl

pub end_some : (x y : Adjacency) (e : Prefix) (kind : PathKind) (o : Option Adjacency) → o ≡ Some y → option_to_list o ≡ kind_adjacency e kind
    → same_adjacency x y ≡ is_end x e kind
end_some x y e kind o some is = sym (or_false (same_adjacency x y))
    ∙ ap (is_member_of x) (ap option_to_list (sym some) ∙ is)
  where
    is_member_of : Adjacency → List Adjacency → Bool
    is_member_of z ys = list_any (same_adjacency z) ys

pub end_none : (x : Adjacency) (e : Prefix) (kind : PathKind) (o : Option Adjacency) → o ≡ None → option_to_list o ≡ kind_adjacency e kind
    → false ≡ is_end x e kind
end_none x e kind o none is = ap (λ l. is_member same_adjacency l x) (ap option_to_list (sym none) ∙ is)

-- the set with a Hop end more
pub end_put : (test : Bool) (x : Adjacency) (old new : List Adjacency) → test ≡ true
    → ((y : Adjacency) → list_any (same_adjacency y) new ≡ cond (same_adjacency x y) true (list_any (same_adjacency y) old)) → AddsEnd test x old new
end_put test x old new passes put y = (
  λ c. elim (either (same_adjacency x y)) [
    | inl is ↦ inr (adjacency_is x y is, passes)
    | inr isnt ↦ inl (Contains-from_any adjacency_is y old
        (sym (put y ∙ ap (λ b. cond b true (list_any (same_adjacency y) old)) isnt) ∙ list_any-from_Contains adjacency_equiv y new c))
  ],
  λ c. Contains-from_any adjacency_is y new (put y ∙ elim c [
    | inl there ↦ either_true (same_adjacency x y) (list_any (same_adjacency y) old) (list_any-from_Contains adjacency_equiv y old there)
    | inr is ↦ ap (λ b. cond b true (list_any (same_adjacency y) old)) (subst (λ z. same_adjacency x z ≡ true) is.0 (adjacency_equiv.refl x))
  ]),
)
  where
    either_true : (b c : Bool) → c ≡ true → cond b true c ≡ true
    either_true true c h = refl
    either_true false c h = h

pub end_off : (test : Bool) (x : Adjacency) (set : List Adjacency) → test ≡ false → AddsEnd test x set set
end_off test x set fails y = (
  λ c. inl c,
  λ c. elim c [ inl there ↦ there | inr bad ↦ absurd (false≢true (sym fails ∙ bad.1)) ],
)

module _ (test : Adjacency → Bool) where
  pub ends_none : (ends : List Adjacency) → AreEndsAmong test (take 0 ends) []
  ends_none [] y = (λ c. absurd (Contains-nil y c), λ h. absurd (Contains-nil y h.0))
  ends_none (x ∷ xs) y = (λ c. absurd (Contains-nil y c), λ h. absurd (Contains-nil y h.0))

  pub ends_step : (ends : List Adjacency) (k : ℕ) (x : Adjacency) (passes : Bool) (old new : List Adjacency) → slice_get ends k ≡ Some x
      → passes ≡ test x → AreEndsAmong test (take k ends) old → AddsEnd passes x old new → AreEndsAmong test (take (k + 1) ends) new
  ends_step ends k x passes old new here asked before put y = (
    λ c. elim ((put y).0 c) [
      | inl there ↦ (let b = (before y).0 there in ((take_in ends k x y here).1 (inl b.0), b.1))
      | inr is ↦ ((take_in ends k x y here).1 (inr is.0), subst (λ z. test z ≡ true) is.0 (sym asked ∙ is.1))
    ],
    λ h. (put y).1 (elim ((take_in ends k x y here).0 h.0) [
      | inl early ↦ inl ((before y).1 (early, h.1))
      | inr same ↦ inr (same, asked ∙ subst (λ z. test z ≡ true) (sym same) h.1)
    ]),
  )

  pub ends_whole : (ends : List Adjacency) (k : ℕ) (held : List Adjacency) → length ends ≤ k → AreEndsAmong test (take k ends) held
      → AreEndsAmong test ends held
  ends_whole ends k held le h = subst (λ l. AreEndsAmong test l held) (take_whole ends k le) h

module _ (v : Seen) (S T : Tables) (sets : List Holders) (h : IsAfter v S T)
    (noted : AreNoted v.before.lists (map prefix_of v.before.rows) v.before.rows sets) where
  abbrev row_list : Prefix → List Path
  row_list e = chosen_row v.before.lists (row_of v.before.rows e)

  held_from : (x : Adjacency) → is_held v sets x ≡ true → IsBeside v S x
  held_from x t =
      let w = any_from (is_beside v x) (holders sets (features.End x)) t in
      let e = w.0 in
      let b = and_both (not (is_changed v.changed e)) (has_end x e (row_list e)) w.2 in
      let p = any_from (λ q. is_end x e q.kind) (row_list e) b.1 in (
        e,
        not_true (is_changed v.changed e) b.0,
        Contains-flat_map (λ q. kind_adjacency e q.kind) (chosen S e) p.0 x
            (subst (λ l. Contains l p.0) (row_chosen v.before S h.stands e) p.1)
            (Contains-from_any adjacency_is x (kind_adjacency e p.0.kind) p.2),
      )

  held_there : (x : Adjacency) → IsBeside v S x → is_held v sets x ≡ true
  held_there x (e, isnt, c) =
      let p = flat_map_from (λ q. kind_adjacency e q.kind) (chosen S e) x c in
      let has : has_end x e (row_list e) ≡ true =
      any_in (λ q. is_end x e q.kind) (row_list e) p.0 (subst (λ l. Contains l p.0) (sym (row_chosen v.before S h.stands e)) p.1)
      (list_any-from_Contains adjacency_equiv x (kind_adjacency e p.0.kind) p.2) in
      any_in (is_beside v x) (holders sets (features.End x)) e (end_found v.before S sets h.stands noted e x c) (rw isnt has)

  pub are_holders : (ends held : List Adjacency) → ((x : Adjacency) → Contains ends x ↔ IsAsked v S T x) → AreEndsAmong (is_held v sets) ends held
      → AreHolders v S T held
  are_holders ends held all are x asked = (
    λ c. held_from x ((are x).0 c).1,
    λ b. (are x).1 ((all x).1 asked, held_there x b),
  )
