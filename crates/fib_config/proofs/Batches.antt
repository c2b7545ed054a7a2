-- Edits made one after the other, and taken back.
use Rattle.std.proofs.Common.{◌≡◌, ◌↔◌, ℕ, zero, suc, ◌+◌, ◌-◌, List, [], ◌∷◌, ◌++◌, length, refl, sym, ◌∙◌, ap, subst, arith}
use Rattle.std.specs.Prelude.{Contains, Option, Some, None, slice_get}
use Rattle.std.proofs.lemmas.List.Elements.{Contains-append_left, Contains-append_right}
use Rattle.fib_resolve.specs.Tables.{IsSound}
use Rattle.fib_resolve.specs.Edits.{edited, with_neighbors, with_routes}
use Rattle.fib_resolve.specs.declared.types.Neighbor.{Neighbor}
use Rattle.fib_resolve.specs.declared.types.Route.{Route}
use Rattle.fib_resolve.specs.declared.types.Edit.{Edit}
use Rattle.fib_resolve.specs.declared.types.Tables.{Tables}
use Rattle.fib_resolve_changes.specs.Differ.{Differ, change_of}
use Rattle.fib_resolve_changes.specs.declared.change.Change.{Change}
use Rattle.fib_resolve_changes.specs.declared.change.Change.TheVariants as changes
use Rattle.fib_resolve_changes.proofs.Differing.{edit_differs}
use Rattle.fib_config.specs.declared.undo.Undo.{Undo}
use Rattle.fib_config.specs.declared.undo.Undo.TheVariants as undos
use Rattle.fib_config.specs.Undone.{undone, undone_all}

-- the last edit is taken back first
pub undone_last : (us : List Undo) (u : Undo) (S : Tables) → undone_all (us ++ u ∷ []) S ≡ undone_all us (undone u S)
unfolding undone_all
undone_last [] u S = refl
undone_last (v ∷ us) u S = ap (undone v) (undone_last us u S)

-- one more edit that can be taken back
pub undone_more : (us vs : List Undo) (u : Undo) (S T : Tables) → vs ≡ us ++ u ∷ [] → undone u T ≡ S → undone_all vs T ≡ undone_all us S
undone_more us vs u S T is back = ap (λ (xs : List Undo). undone_all xs T) is ∙ undone_last us u T ∙ ap (undone_all us) back

abbrev the_some : Undo → Option Undo
the_some u = Some u

abbrev the_none : Option Undo
the_none = None

-- an edit of a part that the last one takes back whole needs nothing more
pub undone_within : (us : List Undo) (i : ℕ) (k u : Undo) (S : Tables) → i + 1 ≡ length us → slice_get us i ≡ Some k → ((T : Tables) → undone k (undone u T) ≡ undone k T)
    → undone_all us (undone u S) ≡ undone_all us S
unfolding undone_all
undone_within [] i k u S last at within = absurd (omega (arith, last))
undone_within (x ∷ []) zero k u S last at within =
    let same : x ≡ k = (let there : the_some x ≡ the_some k = at in cc) in
    subst (λ (y : Undo). undone y (undone u S) ≡ undone y S) (sym same) (within S)
undone_within (x ∷ y ∷ ys) zero k u S last at within = absurd (omega (arith, last))
undone_within (x ∷ us) (suc i) k u S last at within = ap (undone x) (undone_within us i k u S (omega (arith, last)) at within)

pub undone_within_last : (us : List Undo) (k u : Undo) (S : Tables) → slice_get us (length us - 1) ≡ Some k → ((T : Tables) → undone k (undone u T) ≡ undone k T)
    → undone_all us (undone u S) ≡ undone_all us S
undone_within_last [] k u S at within = absurd (let bad : the_none ≡ the_some k = at in cc)
undone_within_last (x ∷ us) k u S at within = undone_within (x ∷ us) (length (x ∷ us) - 1) k u S (omega arith) at within

-- where the last one has all routes it matters not what they are
pub undone_routes_last : (us : List Undo) (old routes : List Route) (S : Tables) → slice_get us (length us - 1) ≡ Some (undos.Routes old)
    → undone_all us (with_routes S routes) ≡ undone_all us S
unfolding undone
undone_routes_last us old routes S at = undone_within_last us (undos.Routes old) (undos.Routes routes) S at (λ T. refl)

-- or all neighbors
pub undone_neighbors_last : (us : List Undo) (old neighbors : List Neighbor) (S : Tables) → slice_get us (length us - 1) ≡ Some (undos.Neighbors old)
    → undone_all us (with_neighbors S neighbors) ≡ undone_all us S
unfolding undone
undone_neighbors_last us old neighbors S at = undone_within_last us (undos.Neighbors old) (undos.Neighbors neighbors) S at (λ T. refl)

pub undone_none : (us : List Undo) (S : Tables) → us ≡ [] → undone_all us S ≡ S
unfolding undone_all
undone_none us S none = ap (λ (xs : List Undo). undone_all xs S) none

both : {X Y Z : Type 0} → X ↔ Y → Y ↔ Z → X ↔ Z
both p q = (λ x. q.0 (p.0 x), λ z. p.1 (q.1 z))

-- tables differ nowhere from themselves
pub differ_none : (xs : List Change) (S : Tables) → Differ xs S S
differ_none xs S = record {
  flags = λ i other. refl;
  addresses = λ a other. (λ c. c, λ c. c);
  neighbors = λ i a other. refl;
  routes = λ r other. (λ c. c, λ c. c);
}

-- and after two steps at the places of both at most
pub differ_then : (xs ys : List Change) (S T U : Tables) → Differ xs S T → Differ ys T U → Differ (xs ++ ys) S U
differ_then xs ys S T U h k = record {
  flags = λ i other. h.flags i (λ c. other (before (changes.Flag i) c)) ∙ k.flags i (λ c. other (after (changes.Flag i) c));
  addresses = λ a other. both (h.addresses a (λ c. other (before (changes.Address a) c))) (k.addresses a (λ c. other (after (changes.Address a) c)));
  neighbors = λ i a other. h.neighbors i a (λ c. other (before (changes.Neighbor i a) c)) ∙ k.neighbors i a (λ c. other (after (changes.Neighbor i a) c));
  routes = λ r other. both (h.routes r (λ c. other (before (changes.Route r.prefix r.source) c))) (k.routes r (λ c. other (after (changes.Route r.prefix r.source) c)));
}
  where
    before : (x : Change) → Contains xs x → Contains (xs ++ ys) x
    before x c = Contains-append_left xs ys x c

    after : (x : Change) → Contains ys x → Contains (xs ++ ys) x
    after x c = Contains-append_right xs ys x c

-- one more edit changes one more place
pub differ_more : (xs ys : List Change) (S T U : Tables) (e : Edit) → IsSound T → Differ xs S T → U ≡ edited T e → ys ≡ xs ++ change_of T e ∷ [] → Differ ys S U
differ_more xs ys S T U e sound h made is =
    subst (λ (zs : List Change). Differ zs S U) (sym is)
    (subst (λ (V : Tables). Differ (xs ++ change_of T e ∷ []) S V) (sym made) (differ_then xs (change_of T e ∷ []) S T (edited T e) h (edit_differs T e sound)))
