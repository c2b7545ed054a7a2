-- The way of a packet, entry by entry.
use Rattle.std.proofs.Common.{arith, ◌≡◌, inl, inr, ℕ, zero, suc, ◌/◌, ◌%◌, true, List, [], ◌∷◌, Option, Some, None, map, refl, sym, ap, ◌∙◌, subst}
use Rattle.std.proofs.lemmas.Bool.{false≢true}
use Rattle.std.specs.Prelude.{Contains, slice_get, drop, IfSome}
use Rattle.std.specs.Set.{is_member}
use Rattle.std.proofs.lemmas.Map.Views.{Contains-from_any}
use Rattle.fib_base_list.proofs.Lists.{either, each-at}
use Rattle.fib_base_list.proofs.Booleans.{and_both}
use Rattle.fib_addr.specs.Prefixes.{Prefix, host, same_prefix}
use Rattle.fib_addr.specs.Longest.{everything}
use Rattle.fib_addr.proofs.PrefixLaws.{same_prefix-Decides, same_prefix_equiv}
use Rattle.fib_resolve.specs.Pairs.{entries, pairs, all_pairs, base_pairs, one, prefix_of, same_pair, cover, best}
use Rattle.fib_resolve.specs.Forwarding.{limit, forwards, usable, usable_kind}
use Rattle.fib_resolve.specs.Buckets.{wanted}
use Rattle.fib_resolve.specs.Resolution.{Step, Trip, follow, way, take_path, take_kind}
use Rattle.fib_resolve.specs.Tables.{IsSound}
use Rattle.fib_resolve.specs.declared.types.Path.{Path}
use Rattle.fib_resolve.specs.declared.types.PathKind.{PathKind}
use Rattle.fib_resolve.specs.declared.types.PathKind.TheVariants as kinds
use Rattle.fib_resolve.specs.declared.types.Need.{Need}
use Rattle.fib_resolve.specs.declared.types.FibSource.TheVariants as sources
use Rattle.fib_resolve.specs.declared.types.Tables.{Tables}
use Rattle.fib_resolve.proofs.FollowLimit.{follow-steady}
use Rattle.fib_resolve.proofs.Taken.{IsWanted, wanted_taken}
use Rattle.fib_resolve.proofs.Steady.{never}
use Rattle.fib_resolve.proofs.Covering.{unique_in}
use Rattle.fib_resolve.proofs.Touching.{same_pair-Decides, same_pair_equiv}
use Rattle.fib_resolve.proofs.PairLaws.{longest_has}
use Rattle.fib_resolve.proofs.OneList.{each-itself}
use Rattle.fib_core.specs.Walk.{halved}
use Rattle.fib_resolve.specs.declared.aims.Aim.TheVariants as aims
use Rattle.fib_resolve.specs.Aims.{aim, path_aim, kind_aim}
use Rattle.fib_core_steady.specs.Aims.{way_from, shown, shown_by}
use Rattle.fib_core_steady.proofs.Lists.{some_same, none_some, map_in}

-- the way without a limit
pub way_from-step : (S : Tables) → IsSound S → (e : Prefix) (h : ℕ) → way_from S e h ≡ take_path S (way_from S) e h (slice_get (wanted S e) (h % 16))
unfolding way_from follow
way_from-step S sound e h = sym (follow-steady S sound (suc (limit S)) e h (omega arith))

pub way-from : (S : Tables) (a h : ℕ) → way S a h ≡ way_from S (best S a) h
unfolding way way_from
way-from S a h = refl

-- a way begins at its entry
abbrev pub Begins : Prefix → Trip → Type 0
Begins e trip = (taken : PathKind) × (rest : List Step) × (trip.steps ≡ record { entry = e; taken = taken } ∷ rest)

kind_begins : (S : Tables) (go : Prefix → ℕ → Trip) (e : Prefix) (h : ℕ) (kind : PathKind) → Begins e (take_kind S go e h kind)
kind_begins S go e h kinds.Drop = (kinds.Drop, [], refl)
kind_begins S go e h kinds.Local = (kinds.Local, [], refl)
kind_begins S go e h (kinds.Attached i) = (kinds.Attached i, [], refl)
kind_begins S go e h (kinds.Hop a i) = (kinds.Hop a i, [], refl)
kind_begins S go e h (kinds.Recursive a) = (kinds.Recursive a, (go (host a) (h / 2)).steps, refl)
kind_begins S go e h kinds.Cover = (kinds.Cover, (go (cover S e.bits) (h / 2)).steps, refl)

path_begins : (S : Tables) (go : Prefix → ℕ → Trip) (e : Prefix) (h : ℕ) (o : Option Path) → Begins e (take_path S go e h o)
path_begins S go e h None = (kinds.Drop, [], refl)
path_begins S go e h (Some p) = kind_begins S go e h p.kind

pub begins : (S : Tables) → IsSound S → (e : Prefix) (h : ℕ) → Begins e (way_from S e h)
begins S sound e h = subst (Begins e) (sym (way_from-step S sound e h)) (path_begins S (way_from S) e h (slice_get (wanted S e) (h % 16)))

-- its first bucket shows in it
shown_on : (s : Step) (e : Prefix) (trip : Trip) → Begins e trip → shown_by (s ∷ trip.steps) trip.end ≡ aims.On e
shown_on s e trip b = ap (λ (steps : List Step). shown_by (s ∷ steps) trip.end) b.2

kind_shown : (S : Tables) → IsSound S → (e : Prefix) (h : ℕ) (kind : PathKind) → shown (take_kind S (way_from S) e h kind) ≡ kind_aim S e kind
kind_shown S sound e h kinds.Drop = refl
kind_shown S sound e h kinds.Local = refl
kind_shown S sound e h (kinds.Attached i) = refl
kind_shown S sound e h (kinds.Hop a i) = refl
kind_shown S sound e h (kinds.Recursive a) = shown_on (record { entry = e; taken = kinds.Recursive a }) (host a) (way_from S (host a) (h / 2)) (begins S sound (host a) (h / 2))
kind_shown S sound e h kinds.Cover = shown_on (record { entry = e; taken = kinds.Cover }) (cover S e.bits) (way_from S (cover S e.bits) (h / 2)) (begins S sound (cover S e.bits) (h / 2))

path_shown : (S : Tables) → IsSound S → (e : Prefix) (h : ℕ) (o : Option Path) → shown (take_path S (way_from S) e h o) ≡ path_aim S e o
path_shown S sound e h None = refl
path_shown S sound e h (Some p) = kind_shown S sound e h p.kind

pub aim-shown : (S : Tables) → IsSound S → (e : Prefix) (h : ℕ) → aim S e (h % 16) ≡ shown (way_from S e h)
unfolding aim
aim-shown S sound e h = sym (ap shown (way_from-step S sound e h) ∙ path_shown S sound e h (slice_get (wanted S e) (h % 16)))

-- entries on the way are effective

forwarding_entry : (S : Tables) (e : Prefix) → forwards S e ≡ true → Contains (entries S) e
unfolding forwards
forwarding_entry S e f =
    elim (either (is_member same_prefix (entries S) e)) [
      | inl is ↦ Contains-from_any (λ x y. (same_prefix-Decides x y).0) e (entries S) is
      | inr isnt ↦ absurd (false≢true (sym (never S (limit S) e isnt) ∙ f))
    ]

abbrev pub Leads : Tables → Prefix → PathKind → Type 0
Leads S e (kinds.Recursive a) = Contains (entries S) (host a)
Leads S e kinds.Cover = Contains (entries S) (cover S e.bits)
Leads S e kinds.Drop = Unit {0}
Leads S e kinds.Local = Unit {0}
Leads S e (kinds.Attached i) = Unit {0}
Leads S e (kinds.Hop a i) = Unit {0}

kind_leads : (S : Tables) (e : Prefix) (need : Need) (kind : PathKind) → usable_kind S (forwards S) e need kind ≡ true → Leads S e kind
kind_leads S e need kinds.Drop u = tt
kind_leads S e need kinds.Local u = tt
kind_leads S e need (kinds.Attached i) u = tt
kind_leads S e need (kinds.Hop a i) u = tt
kind_leads S e need (kinds.Recursive a) u = forwarding_entry S (host a) (and_both _ _ (and_both _ _ u).1).1
kind_leads S e need kinds.Cover u = forwarding_entry S (cover S e.bits) u

taken_leads : (S : Tables) (e : Prefix) (o : Option Path) → IfSome o (IsWanted S e) → IfSome o (λ p. Leads S e p.kind)
unfolding usable
taken_leads S e None t = tt
taken_leads S e (Some p) t = kind_leads S e p.need p.kind t.1

pub leads : (S : Tables) (e : Prefix) (k : ℕ) → IfSome (slice_get (wanted S e) k) (λ p. Leads S e p.kind)
leads S e k = taken_leads S e (slice_get (wanted S e) k) (each-at (IsWanted S e) (wanted S e) k (wanted_taken S e))

-- the way from its so manieth entry on
abbrev pub later : ℕ → Trip → Trip
later k trip = record { steps = drop k trip.steps; end = trip.end }

half_first : (h k : ℕ) → halved (h / 2) k ≡ halved h (suc k)
half_first h zero = refl
half_first h (suc k) = ap (λ (i : ℕ). i / 2) (half_first h k)

abbrev pub GoesOn : Tables → ℕ → ℕ → Step → Trip → Type 0
GoesOn S k h step trip = (way_from S step.entry (halved h k) ≡ later k trip) × Contains (entries S) step.entry

goes_by_kind : (S : Tables) (k : ℕ) (e : Prefix) (h : ℕ) (step : Step) (kind : PathKind) → Leads S e kind →
    ((t : Prefix) → Contains (entries S) t → slice_get (way_from S t (h / 2)).steps k ≡ Some step → GoesOn S k (h / 2) step (way_from S t (h / 2))) →
    slice_get (take_kind S (way_from S) e h kind).steps (suc k) ≡ Some step → GoesOn S (suc k) h step (take_kind S (way_from S) e h kind)
goes_by_kind S k e h step kinds.Drop l next at = absurd (none_some step at)
goes_by_kind S k e h step kinds.Local l next at = absurd (none_some step at)
goes_by_kind S k e h step (kinds.Attached i) l next at = absurd (none_some step at)
goes_by_kind S k e h step (kinds.Hop a i) l next at = absurd (none_some step at)
goes_by_kind S k e h step (kinds.Recursive a) l next at = let all = next (host a) l at in (ap (way_from S step.entry) (sym (half_first h k)) ∙ all.0, all.1)
goes_by_kind S k e h step kinds.Cover l next at = let all = next (cover S e.bits) l at in (ap (way_from S step.entry) (sym (half_first h k)) ∙ all.0, all.1)

goes_by_path : (S : Tables) (k : ℕ) (e : Prefix) (h : ℕ) (step : Step) (o : Option Path) → IfSome o (λ p. Leads S e p.kind) →
    ((t : Prefix) → Contains (entries S) t → slice_get (way_from S t (h / 2)).steps k ≡ Some step → GoesOn S k (h / 2) step (way_from S t (h / 2))) →
    slice_get (take_path S (way_from S) e h o).steps (suc k) ≡ Some step → GoesOn S (suc k) h step (take_path S (way_from S) e h o)
goes_by_path S k e h step None l next at = absurd (none_some step at)
goes_by_path S k e h step (Some p) l next at = goes_by_kind S k e h step p.kind l next at

pub goes_on_at : (S : Tables) → IsSound S → (k : ℕ) (e : Prefix) (h : ℕ) (step : Step) → Contains (entries S) e → slice_get (way_from S e h).steps k ≡ Some step → GoesOn S k h step (way_from S e h)
goes_on_at S sound zero e h step c at =
    let b = begins S sound e h in
    let same : record { entry = e; taken = b.0 } ≡ step = some_same (record { entry = e; taken = b.0 }) step (slice_get (way_from S e h).steps 0) (ap (λ (s : List Step). slice_get s 0) b.2) at in
    let is : e ≡ step.entry = ap (λ (s : Step). s.entry) same in
    (rw (sym is) refl, subst (Contains (entries S)) is c)
goes_on_at S sound (suc k) e h step c at =
    subst (GoesOn S (suc k) h step) (sym (way_from-step S sound e h))
    (goes_by_path S k e h step (slice_get (wanted S e) (h % 16)) (leads S e (h % 16)) (λ t c' at'. goes_on_at S sound k t (h / 2) step c' at')
    (subst (λ (trip : Trip). slice_get trip.steps (suc k) ≡ Some step) (way_from-step S sound e h) at))

-- the best entry is effective

whole_is_entry : (S : Tables) → Contains (entries S) everything
unfolding entries pairs all_pairs base_pairs
whole_is_entry S =
    let first = one everything sources.DefaultRoute kinds.Drop in
    let listed = (unique_in same_pair same_pair_equiv (λ x y. (same_pair-Decides x y).0) (all_pairs S) first).0 (0, omega arith, refl) in
    (unique_in same_prefix same_prefix_equiv (λ x y. (same_prefix-Decides x y).0) (map prefix_of (pairs S)) everything).0 (map_in prefix_of (pairs S) first listed)

pub best_is_entry : (S : Tables) (a : ℕ) → Contains (entries S) (best S a)
unfolding best
best_is_entry S a = longest_has (Contains (entries S)) (whole_is_entry S) a (entries S) (each-itself (entries S))
