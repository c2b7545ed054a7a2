-- What is known of a path says when it is usable.
use Rattle.std.proofs.Common.{arith, ◌≡◌, ℕ, ◌<◌, Bool, true, false, not, ◌&&◌, List, map, length, Option, Some, inl, inr, refl, sym, ◌∙◌, ap}
use Rattle.std.specs.Prelude.{slice_get, is_some}
use Rattle.std.proofs.lemmas.Option.{slice_get-get_or}
use Rattle.std.proofs.lemmas.List.{get_or-map, length-map}
use Rattle.fib_addr.specs.Prefixes.{Prefix, host}
use Rattle.fib_resolve.specs.Pairs.{entries, cover}
use Rattle.fib_resolve.specs.Loops.{looped}
use Rattle.fib_resolve.specs.Forwarding.{is_met, usable_kind, usable_by}
use Rattle.fib_resolve.specs.declared.types.Path.{Path}
use Rattle.fib_resolve.specs.declared.types.PathKind.{PathKind}
use Rattle.fib_resolve.specs.declared.types.PathKind.TheVariants as kinds
use Rattle.fib_resolve.specs.declared.types.Need.{Need}
use Rattle.fib_resolve.specs.declared.types.Tables.{Tables}
use Rattle.fib_resolve_pairs.specs.Numbers.{number_in}
use Rattle.fib_resolve_pairs.specs.inner.Edges.{goal_number}
use Rattle.test_plain.specs.inner.Rows.{is_entry, facts_of_path, marked, target_marked, usable_now}
use Rattle.fib_resolve_pairs.proofs.Numbers.{numbered, unnumbered}
use Rattle.fib_resolve_pairs.proofs.Edges.{numbered_entry}
use Rattle.fib_resolve_pairs.proofs.Members.{some_or_none}

-- what has a number is an entry
pub is_some-number : (S : Tables) (p : Prefix) → is_some (number_in S p) ≡ is_entry S p
is_some-number S p =
    elim (some_or_none (number_in S p)) [
      | inl none ↦ ap is_some none ∙ sym (unnumbered S p none)
      | inr some ↦ ap is_some some.1 ∙ sym (numbered_entry S p some.0 some.1)
    ]

pub ready_recursive : (S : Tables) (e : Prefix) (a : ℕ) (target : Option ℕ) → target ≡ goal_number S e (kinds.Recursive a) → is_some target ≡ is_entry S (host a)
unfolding goal_number
ready_recursive S e a target h = ap is_some h ∙ is_some-number S (host a)

pub ready_cover : (S : Tables) (e : Prefix) (target : Option ℕ) → target ≡ goal_number S e kinds.Cover → is_some target ≡ is_entry S (cover S e.bits)
unfolding goal_number
ready_cover S e target h = ap is_some h ∙ is_some-number S (cover S e.bits)

-- a test of entries that marks keep by number, and that no other prefix passes
pub record Marks (S : Tables) (f : Prefix → Bool) (marks : List Bool) : Type 0 where
  pub kept : marks ≡ map f (entries S)
  pub others : (p : Prefix) → is_entry S p ≡ false → f p ≡ false

mark_is : (S : Tables) (f : Prefix → Bool) (marks : List Bool) (p : Prefix) (i : ℕ) → Marks S f marks → number_in S p ≡ Some i → marked (slice_get marks i) ≡ f p
mark_is S f marks p i m h =
    let at = numbered S p i h in
    let there : i < length (map f (entries S)) = omega (arith, at.0, length-map (entries S) f) in
    ap (λ (xs : List Bool). marked (slice_get xs i)) m.kept
    ∙ (ap marked (slice_get-get_or (map f (entries S)) i (f p) there)
    ∙ (get_or-map f (entries S) i p (f p) at.0 ∙ ap f (at.1 p)))

and_again : (b c : Bool) → (b ≡ false → c ≡ false) → c ≡ (b && c)
and_again true c h = refl
and_again false c h = h refl

-- passing on to a target
goes_on : (S : Tables) (f : Prefix → Bool) (marks : List Bool) (p : Prefix) → Marks S f marks → (is_entry S p && target_marked marks (number_in S p)) ≡ f p
goes_on S f marks p m =
    elim (some_or_none (number_in S p)) [
      | inl none ↦ (let isnt = unnumbered S p none in rw isnt (sym (m.others p isnt)))
      | inr some ↦ rw (numbered_entry S p some.0 some.1, some.1) (mark_is S f marks p some.0 m some.1)
    ]

and_assoc : (a b c : Bool) → ((a && b) && c) ≡ (a && (b && c))
and_assoc true b c = refl
and_assoc false b c = refl

and_true : (a : Bool) → (a && true) ≡ a
and_true true = refl
and_true false = refl

usable_kind-now : (S : Tables) (f : Prefix → Bool) (marks : List Bool) (e : Prefix) (need : Need) (kind : PathKind) → Marks S f marks →
    (usable_kind S (is_entry S) e need kind && target_marked marks (goal_number S e kind)) ≡ usable_kind S f e need kind
unfolding goal_number
usable_kind-now S f marks e need kinds.Drop m = refl
usable_kind-now S f marks e need kinds.Local m = refl
usable_kind-now S f marks e need (kinds.Attached i) m = and_true _
usable_kind-now S f marks e need (kinds.Hop a i) m = and_true _
usable_kind-now S f marks e need (kinds.Recursive a) m =
    and_assoc (not (looped S e a)) (is_met S need a && is_entry S (host a)) (target_marked marks (number_in S (host a)))
    ∙ ap (λ b. not (looped S e a) && b) (and_assoc (is_met S need a) (is_entry S (host a)) (target_marked marks (number_in S (host a))) ∙ ap (λ b. is_met S need a && b) (goes_on S f marks (host a) m))
usable_kind-now S f marks e need kinds.Cover m = goes_on S f marks (cover S e.bits) m

-- a path is usable now where it is usable by what the marks keep
pub usable_now-is : (S : Tables) (f : Prefix → Bool) (marks : List Bool) (e : Prefix) (p : Path) → Marks S f marks → usable_now marks (facts_of_path S e p) ≡ usable_by S f e p
unfolding facts_of_path
usable_now-is S f marks e p m = usable_kind-now S f marks e p.need p.kind m
