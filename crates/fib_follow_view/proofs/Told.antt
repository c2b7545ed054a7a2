-- What rows tell of the entries before a change.
use Rattle.std.proofs.Common.{arith, ◌≡◌, ℕ, ◌<◌, false, ◌==◌, List, [], ◌∷◌, ◌++◌, map, flat_map, Option, Some, None, cond, ◌⊎◌, inl, inr}
use Rattle.std.proofs.Common.{refl, sym, ◌∙◌, ap, ap₂, subst}
use Rattle.std.specs.Prelude.{Contains, option_to_list}
use Rattle.std.proofs.lemmas.Bool.{false≢true, lt-ltb}
use Rattle.std.proofs.lemmas.List.Elements.{All-contains, All-from_recursion}
use Rattle.fib_base_list.proofs.Lists.{Contains-nil}
use Rattle.fib_addr.specs.Prefixes.{Prefix}
use Rattle.fib_resolve.specs.Aims.{kind_aim, marked, marked_list}
use Rattle.fib_resolve.specs.Keys.{source_rank, is_derived_source}
use Rattle.fib_resolve.specs.Loops.{kind_targets, targets}
use Rattle.fib_resolve.specs.Pairs.{pairs, best_pair, chosen, cover, is_derived, is_derived_pair}
use Rattle.fib_resolve.specs.Tables.{IsSound}
use Rattle.fib_resolve.specs.declared.pairs.Pair.{Pair}
use Rattle.fib_resolve.specs.declared.types.FibSource.{FibSource}
use Rattle.fib_resolve.specs.declared.types.Path.{Path}
use Rattle.fib_resolve.specs.declared.types.PathKind.{PathKind}
use Rattle.fib_resolve.specs.declared.types.PathKind.TheVariants as kinds
use Rattle.fib_resolve.specs.declared.types.Tables.{Tables}
use Rattle.fib_resolve.proofs.Entries.{chosen-no_entry}
use Rattle.fib_resolve.proofs.OneList.{one_list}
use Rattle.fib_resolve.proofs.PairLaws.{cover_short}
use Rattle.fib_resolve.proofs.Touching.{best_of, best_paths_same, BestOf, IsBest}
use Rattle.fib_resolve_changes.specs.Ranks.{has_entry}
use Rattle.fib_resolve_changes.proofs.Edits.{in_cases, in_front, in_rest}
use Rattle.fib_resolve_changes.proofs.Targets.{pair_entry}
use Rattle.fib_resolve_pairs.specs.Numbers.{goal_of}
use Rattle.fib_entries_rows.specs.Known.{Known, StandsFor, ArePairs, IsHeld, row_of}
use Rattle.fib_entries_rows.specs.Rows.{Row}
use Rattle.fib_entries_rows.proofs.Standing.{row_entry, no_entry, pairs_at, never_none, marked_at}
use Rattle.fib_follow_view.specs.inner.Told.{aim_goal, chosen_row, cover_aim, cover_in, cover_row, derived_row, first_derived, first_of}
use Rattle.fib_follow_view.specs.inner.Told.{goals_row, is_row, kind_goal, list_first, paths_in}

-- the best pair is unique in its list and its source
pub best_paths : (S : Tables) (e : Prefix) (x : Pair) → IsSound S → IsBest e (pairs S) x → x.paths ≡ chosen S e
unfolding chosen
best_paths S e x sound best = best_paths_same e (pairs S) (pairs S) (one_list S sound) (λ y own. (λ c. c, λ c. c)) (Some x)
    (best_pair e (pairs S)) best (best_of e (pairs S))

pub best_derived : (S : Tables) (e : Prefix) (x : Pair) → IsBest e (pairs S) x → is_derived_source x.source ≡ is_derived S e
unfolding is_derived
best_derived S e x best = by (best_pair e (pairs S)) (best_of e (pairs S))
  where
    by : (o : Option Pair) → BestOf e (pairs S) o → is_derived_source x.source ≡ is_derived_pair o
    by None k = absurd (k x best.member best.own)
    by (Some y) k = (let up = best.least y k.member k.own in let down = k.least x best.member best.own in ap (λ n. n == 5) (omega (arith, up, down)))

pub no_derived : (S : Tables) (e : Prefix) → ((x : Pair) → Contains (pairs S) x → e ≡ x.prefix → ⊥) → false ≡ is_derived S e
unfolding is_derived
no_derived S e none = by (best_pair e (pairs S)) (best_of e (pairs S))
  where
    by : (o : Option Pair) → BestOf e (pairs S) o → false ≡ is_derived_pair o
    by None k = refl
    by (Some y) k = absurd (none y k.member k.own)

-- lists that are mapped alike
pub map_same : {X Y : Type 0} (f g : X → Y) (xs : List X) → ((x : X) → Contains xs x → f x ≡ g x) → map f xs ≡ map g xs
map_same f g [] same = refl
map_same f g (x ∷ xs) same = ap₂ (λ y ys. y ∷ ys) (same x (in_front x x xs refl)) (map_same f g xs (λ y c. same y (in_rest x y xs c)))

pub map_map : {X Y Z : Type 0} (f : X → Y) (g : Y → Z) (xs : List X) → map g (map f xs) ≡ map (λ x. g (f x)) xs
map_map f g [] = refl
map_map f g (x ∷ xs) = ap (λ l. g (f x) ∷ l) (map_map f g xs)

-- where paths lead
pub aim_is_goal : (S : Tables) (e : Prefix) (kind : PathKind) → aim_goal (kind_aim S e kind) ≡ goal_of S e kind
aim_is_goal S e kinds.Drop = refl
aim_is_goal S e kinds.Local = refl
aim_is_goal S e (kinds.Attached i) = refl
aim_is_goal S e (kinds.Hop a i) = refl
aim_is_goal S e (kinds.Recursive a) = refl
aim_is_goal S e kinds.Cover = refl

pub kind_is_goal : (S : Tables) (e : Prefix) (c : Prefix) (kind : PathKind) → (kind ≡ kinds.Cover → c ≡ cover S e.bits) → kind_goal c kind ≡ goal_of S e kind
kind_is_goal S e c kinds.Drop is = refl
kind_is_goal S e c kinds.Local is = refl
kind_is_goal S e c (kinds.Attached i) is = refl
kind_is_goal S e c (kinds.Hop a i) is = refl
kind_is_goal S e c (kinds.Recursive a) is = refl
kind_is_goal S e c kinds.Cover is = ap Some (is refl)

pub goal_same : (S T : Tables) (e : Prefix) (kind : PathKind) → (kind ≡ kinds.Cover → cover S e.bits ≡ cover T e.bits) → goal_of S e kind ≡ goal_of T e kind
goal_same S T e kinds.Drop is = refl
goal_same S T e kinds.Local is = refl
goal_same S T e (kinds.Attached i) is = refl
goal_same S T e (kinds.Hop a i) is = refl
goal_same S T e (kinds.Recursive a) is = refl
goal_same S T e kinds.Cover is = ap Some (is refl)

-- and so the targets
goal_targets : (S : Tables) (e : Prefix) (kind : PathKind) → option_to_list (goal_of S e kind) ≡ kind_targets S e kind
goal_targets S e kinds.Drop = refl
goal_targets S e kinds.Local = refl
goal_targets S e (kinds.Attached i) = refl
goal_targets S e (kinds.Hop a i) = refl
goal_targets S e (kinds.Recursive a) = refl
goal_targets S e kinds.Cover = refl

flat_goals : (S : Tables) (e : Prefix) (ps : List Path)
    → flat_map option_to_list (map (λ p. goal_of S e p.kind) ps) ≡ flat_map (λ p. kind_targets S e p.kind) ps
flat_goals S e [] = refl
flat_goals S e (p ∷ ps) = ap₂ (λ l m. l ++ m) (goal_targets S e p.kind) (flat_goals S e ps)

pub goals_are_targets : (S : Tables) (e : Prefix) (goals : List (Option Prefix)) → goals ≡ map (λ p. goal_of S e p.kind) (chosen S e)
    → flat_map option_to_list goals ≡ targets S e
unfolding targets
goals_are_targets S e goals is = ap (flat_map option_to_list) is ∙ flat_goals S e (chosen S e)

-- a cover is found by its length
pub cover_of_aim : (S : Tables) (e : Prefix) (kind : PathKind)
    → ((cover_aim (kind_aim S e kind) ≡ None) × (kind ≡ kinds.Cover → ⊥)) ⊎ (cover_aim (kind_aim S e kind) ≡ Some (cover S e.bits))
cover_of_aim S e kinds.Drop = inl (refl, λ k. (cc))
cover_of_aim S e kinds.Local = inl (refl, λ k. (cc))
cover_of_aim S e (kinds.Attached i) = inl (refl, λ k. (cc))
cover_of_aim S e (kinds.Hop a i) = inl (refl, λ k. (cc))
cover_of_aim S e (kinds.Recursive a) = inl (refl, λ k. (cc))
cover_of_aim S e kinds.Cover = inr (ap (λ b. cond b (Some (cover S e.bits)) None) (lt-ltb (cover S e.bits).len 32 (cover_short S e.bits)))

cover_among : (S : Tables) (e : Prefix) (ps : List Path) (p : Path) → Contains ps p → p.kind ≡ kinds.Cover
    → cover_in (map (marked S e) ps) ≡ Some (cover S e.bits)
cover_among S e [] p c is = absurd (Contains-nil p c)
cover_among S e (q ∷ qs) p c is = elim (cover_of_aim S e q.kind) [
  | inr here ↦ ap (λ o. first_of o (cover_in (map (marked S e) qs))) here
  | inl off ↦ ap (λ o. first_of o (cover_in (map (marked S e) qs))) off.0 ∙ elim (in_cases q p qs c) [
    | inl same ↦ absurd (off.1 (ap (λ (z : Path). z.kind) same ∙ is))
    | inr later ↦ cover_among S e qs p later is
  ]
]

pub cover_marked : (S : Tables) (e : Prefix) (p : Path) → Contains (chosen S e) p → p.kind ≡ kinds.Cover → cover_in (marked_list S e) ≡ Some (cover S e.bits)
unfolding marked_list
cover_marked S e p c is = cover_among S e (chosen S e) p c is

marks_goals : (S : Tables) (e : Prefix) (ps : List Path) → map (λ m. aim_goal m.aim) (map (marked S e) ps) ≡ map (λ p. goal_of S e p.kind) ps
marks_goals S e [] = refl
marks_goals S e (p ∷ ps) = ap₂ (λ o l. o ∷ l) (aim_is_goal S e p.kind) (marks_goals S e ps)

pub marked_goals : (S : Tables) (e : Prefix) → map (λ m. aim_goal m.aim) (marked_list S e) ≡ map (λ p. goal_of S e p.kind) (chosen S e)
unfolding marked_list
marked_goals S e = marks_goals S e (chosen S e)

module _ (k : Known) (S : Tables) (h : StandsFor k S) (e : Prefix) where
  -- the first of a row's sources is that of the best pair
  row_best : (r : Row) (p : FibSource × ℕ) (ps : List (FibSource × ℕ)) → row_of k.rows e ≡ Some r → r.pairs ≡ p ∷ ps
      → (x : Pair) × IsBest e (pairs S) x × IsHeld k.lists p x
  row_best r p ps at is =
      let are : ArePairs k.lists S e (p ∷ ps) = subst (ArePairs k.lists S e) is (pairs_at k S h e r at) in
      let x = are.real p (in_front p p ps refl) in (
        x.0,
        record {
          member = x.1;
          own = x.2;
          least = λ y c own. (let f = are.found y c own in elim (in_cases p f.0 ps f.1) [
            | inl same ↦ (let a = ap source_rank (sym x.3.0 ∙ ap (λ (z : FibSource × ℕ). z.0) same ∙ f.2.0) in omega (arith, a))
            | inr later ↦ (let lt = All-contains (λ q. source_rank p.0 < source_rank q.0) ps f.0
                (All-from_recursion (λ q. source_rank p.0 < source_rank q.0) ps are.best_first.0) later in
                let a = ap source_rank x.3.0 in let b = ap source_rank f.2.0 in omega (arith, lt, a, b))
          ]);
        },
        x.3,
      )

  none_here : row_of k.rows e ≡ None → has_entry S e ≡ false
  none_here none = no_entry k S h e none

  pub row_is : is_row (row_of k.rows e) ≡ has_entry S e
  row_is = by (row_of k.rows e) refl
    where
      by : (o : Option Row) → row_of k.rows e ≡ o → is_row o ≡ has_entry S e
      by None at = sym (none_here at)
      by (Some r) at = sym (row_entry k S h e r at)

  pub row_chosen : chosen_row k.lists (row_of k.rows e) ≡ chosen S e
  row_chosen = by (row_of k.rows e) refl
    where
      held : (r : Row) (ps : List (FibSource × ℕ)) → row_of k.rows e ≡ Some r → r.pairs ≡ ps → list_first k.lists ps ≡ chosen S e
      held r [] at is = absurd (never_none k S h e r at is)
      held r (p ∷ ps) at is = (let b = row_best r p ps at is in ap paths_in b.2.1 ∙ best_paths S e b.0 h.sound b.1)

      by : (o : Option Row) → row_of k.rows e ≡ o → chosen_row k.lists o ≡ chosen S e
      by None at = sym (chosen-no_entry S e (none_here at))
      by (Some r) at = held r r.pairs at refl

  pub row_derived : derived_row (row_of k.rows e) ≡ is_derived S e
  row_derived = by (row_of k.rows e) refl
    where
      held : (r : Row) (ps : List (FibSource × ℕ)) → row_of k.rows e ≡ Some r → r.pairs ≡ ps → first_derived ps ≡ is_derived S e
      held r [] at is = absurd (never_none k S h e r at is)
      held r (p ∷ ps) at is = (let b = row_best r p ps at is in ap is_derived_source b.2.0 ∙ best_derived S e b.0 b.1)

      by : (o : Option Row) → row_of k.rows e ≡ o → derived_row o ≡ is_derived S e
      by None at = no_derived S e (λ x c own. false≢true (sym (none_here at) ∙ pair_entry S x e c (sym own)))
      by (Some r) at = held r r.pairs at refl

  pub row_goals : goals_row (row_of k.rows e) ≡ map (λ p. goal_of S e p.kind) (chosen S e)
  row_goals = by (row_of k.rows e) refl
    where
      by : (o : Option Row) → row_of k.rows e ≡ o → goals_row o ≡ map (λ p. goal_of S e p.kind) (chosen S e)
      by None at = sym (ap (map (λ p. goal_of S e p.kind)) (chosen-no_entry S e (none_here at)))
      by (Some r) at = ap (map (λ m. aim_goal m.aim)) (marked_at k S h e r at) ∙ marked_goals S e

  pub row_cover : (p : Path) → Contains (chosen S e) p → p.kind ≡ kinds.Cover → cover_row (row_of k.rows e) ≡ Some (cover S e.bits)
  row_cover p c is = by (row_of k.rows e) refl
    where
      by : (o : Option Row) → row_of k.rows e ≡ o → cover_row o ≡ Some (cover S e.bits)
      by None at = absurd (Contains-nil p (subst (λ l. Contains l p) (chosen-no_entry S e (none_here at)) c))
      by (Some r) at = ap cover_in (marked_at k S h e r at) ∙ cover_marked S e p c is
