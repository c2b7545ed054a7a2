-- Paths that are wanted, entries that drop, and ends.
use Rattle.std.proofs.Common.{arith, add-one, ◌≡◌, ℕ, zero, suc, ◌+◌, ◌/◌, ◌%◌, Bool, true, false, List, [], ◌∷◌, length, Option, Some, None, inl, inr, refl, sym, ◌∙◌, ap, subst}
use Rattle.std.specs.Prelude.{Contains, filter, flat_map, slice_get, IfSome}
use Rattle.std.specs.List.{list_any}
use Rattle.std.specs.Set.{is_member}
use Rattle.std.proofs.lemmas.Bool.{false≢true}
use Rattle.std.proofs.lemmas.List.Elements.{All-contains, All-from_recursion}
use Rattle.std.proofs.lemmas.Map.Views.{Contains-from_any}
use Rattle.fib_base_list.proofs.Lists.{either, each-at, Contains-flat_map, Contains-nil}
use Rattle.fib_base_list.proofs.Booleans.{and_both}
use Rattle.fib_addr.specs.Prefixes.{Prefix, host, same_prefix}
use Rattle.fib_addr.proofs.PrefixLaws.{same_prefix-Decides}
use Rattle.fib_buckets.specs.Shares.{buckets}
use Rattle.fib_resolve.specs.Pairs.{entries, chosen, best, cover}
use Rattle.fib_resolve.specs.Loops.{looped, looped_kind}
use Rattle.fib_resolve.specs.Forwarding.{forwards, forwards_in, forwards_by, limit, usable, usable_by, usable_kind}
use Rattle.fib_resolve.specs.Buckets.{used, wanted, spread, of_least_preference}
use Rattle.fib_resolve.specs.Resolution.{Trip, follow, take_path, take_kind, resolve, way, ends, entry_ends, kind_end}
use Rattle.fib_resolve.specs.declared.types.End.{End}
use Rattle.fib_resolve.specs.declared.types.End.TheVariants as answers
use Rattle.fib_resolve.specs.declared.types.Path.{Path}
use Rattle.fib_resolve.specs.declared.types.PathKind.{PathKind}
use Rattle.fib_resolve.specs.declared.types.PathKind.TheVariants as kinds
use Rattle.fib_resolve.specs.declared.types.Tables.{Tables}
use Rattle.fib_resolve.proofs.Entries.{chosen-no_entry}
use Rattle.fib_resolve.proofs.Steady.{one_more}
use Rattle.fib_resolve.proofs.Taken.{IsWanted, wanted_taken}
use Rattle.fib_resolve.proofs.KeptEdges.{not_true}

forwards_suc : (S : Tables) (n : ℕ) (e : Prefix) → forwards_in S (suc n) e ≡ list_any (usable_by S (forwards_in S n) e) (chosen S e)
unfolding forwards_in forwards_by
forwards_suc S n e = refl

-- an entry forwards exactly where a path of its chosen list is usable
pub forwards_is_usable : (S : Tables) (e : Prefix) → forwards S e ≡ list_any (usable S e) (chosen S e)
unfolding forwards usable limit
forwards_is_usable S e =
    ap (λ (f : Prefix → Bool). f e) (one_more S (length (entries S) + 1) (omega arith)) ∙ forwards_suc S (length (entries S) + 1) e

looped_unusable : (S : Tables) (e : Prefix) (p : Path) (kind : PathKind) → usable_kind S (forwards S) e p.need kind ≡ true → looped_kind S e kind ≡ false
looped_unusable S e p kinds.Drop h = refl
looped_unusable S e p kinds.Local h = refl
looped_unusable S e p (kinds.Attached i) h = refl
looped_unusable S e p (kinds.Hop a i) h = refl
looped_unusable S e p (kinds.Recursive a) h = not_true (looped S e a) (and_both _ _ h).0
looped_unusable S e p kinds.Cover h = refl

pub taken_not_looped : (S : Tables) (e : Prefix) (p : Path) → IsWanted S e p → looped_kind S e p.kind ≡ false
unfolding usable
taken_not_looped S e p h = looped_unusable S e p p.kind h.1

-- no wanted path is looped
pub wanted_not_looped : (S : Tables) (e : Prefix) (p : Path) → Contains (wanted S e) p → looped_kind S e p.kind ≡ false
wanted_not_looped S e p c = taken_not_looped S e p (All-contains (IsWanted S e) (wanted S e) p (All-from_recursion (IsWanted S e) (wanted S e) (wanted_taken S e)) c)

pub none_pass : {X : Type 0} (test : X → Bool) (xs : List X) → list_any test xs ≡ false → filter test xs ≡ []
none_pass test [] h = refl
none_pass test (x ∷ xs) h =
    elim (either (test x)) [
      | inl is ↦ absurd (false≢true (sym h ∙ rw is refl))
      | inr isnt ↦ rw isnt (none_pass test xs (rw isnt at h))
    ]

spread_none : spread [] ≡ []
unfolding buckets
spread_none = refl

-- without a usable path nothing is wanted
pub nothing_wanted : (S : Tables) (e : Prefix) → forwards S e ≡ false → wanted S e ≡ []
unfolding wanted used
nothing_wanted S e h = ap (λ (ps : List Path). spread (of_least_preference ps)) (none_pass (usable S e) (chosen S e) (sym (forwards_is_usable S e) ∙ h)) ∙ spread_none

follow_suc : (S : Tables) (n : ℕ) (e : Prefix) (h : ℕ) → follow S (suc n) e h ≡ take_path S (follow S n) e h (slice_get (wanted S e) (h % 16))
unfolding follow
follow_suc S n e h = refl

follow_more : (S : Tables) (n : ℕ) (e : Prefix) (h : ℕ) → follow S (n + 1) e h ≡ take_path S (follow S n) e h (slice_get (wanted S e) (h % 16))
follow_more S n e h = rw add-one (follow_suc S n e h)

-- an entry without a usable path drops
pub drops : (S : Tables) (a h : ℕ) → forwards S (best S a) ≡ false → resolve S a h ≡ answers.Drop
unfolding resolve way limit
drops S a h none =
    ap (λ (t : Trip). t.end) (follow_more S (length (entries S)) (best S a) h)
    ∙ ap (λ (ps : List Path). (take_path S (follow S (length (entries S))) (best S a) h (slice_get ps (h % 16))).end) (nothing_wanted S (best S a) none)

first_in : {X : Type 0} (x : X) (xs : List X) → Contains (x ∷ xs) x
first_in x xs = (0, omega arith, refl)

later_in : {X : Type 0} (x y : X) (xs : List X) → Contains xs y → Contains (x ∷ xs) y
later_in x y xs h = (suc h.0, omega (arith, h.1), h.2)

usable_in : {X : Type 0} (test : X → Bool) (xs : List X) (x : X) → Contains xs x → test x ≡ true → Contains (filter test xs) x
usable_in test [] x c h = absurd (Contains-nil x c)
usable_in test (y ∷ ys) x (zero, lt, is) h = rw (ap test is ∙ h) (subst (λ z. Contains (z ∷ filter test ys) x) (sym is) (first_in x (filter test ys)))
usable_in test (y ∷ ys) x (suc k, lt, is) h =
    let rest = usable_in test ys x (k, omega (arith, lt), is) h in
    elim (either (test y)) [
      | inl yes_in ↦ rw yes_in (later_in y x (filter test ys) rest)
      | inr not_in ↦ rw not_in rest
    ]

abbrev IsPossible : Tables → End → Type 0
IsPossible S end = Contains (ends S) end

drop_possible : (S : Tables) → IsPossible S answers.Drop
unfolding ends
drop_possible S = first_in answers.Drop (flat_map (entry_ends S) (entries S))

has_path_is_entry : (S : Tables) (e : Prefix) (p : Path) → Contains (chosen S e) p → Contains (entries S) e
has_path_is_entry S e p c =
    elim (either (is_member same_prefix (entries S) e)) [
      | inl is ↦ Contains-from_any (λ x y. (same_prefix-Decides x y).0) e (entries S) is
      | inr isnt ↦ absurd (Contains-nil p (rw (chosen-no_entry S e isnt) at c))
    ]

end_possible : (S : Tables) (e : Prefix) (p : Path) (end : End) → IsWanted S e p → Contains (kind_end S e p.kind) end → IsPossible S end
unfolding ends
end_possible S e p end taken c =
    later_in answers.Drop end (flat_map (entry_ends S) (entries S))
    (Contains-flat_map (entry_ends S) (entries S) e end (has_path_is_entry S e p taken.0)
    (Contains-flat_map (λ q. kind_end S e q.kind) (filter (usable S e) (chosen S e)) p end (usable_in (usable S e) (chosen S e) p taken.0 taken.1) c))

kind_possible : (S : Tables) (e : Prefix) (h : ℕ) (go : Prefix → ℕ → Trip) → ((to : Prefix) (k : ℕ) → IsPossible S (go to k).end) → (p : Path) (kind : PathKind) → p.kind ≡ kind → IsWanted S e p → IsPossible S (take_kind S go e h kind).end
kind_possible S e h go rest p kinds.Drop k t = drop_possible S
kind_possible S e h go rest p kinds.Local k t = end_possible S e p _ t (rw k (first_in _ []))
kind_possible S e h go rest p (kinds.Attached i) k t = end_possible S e p _ t (rw k (first_in _ []))
kind_possible S e h go rest p (kinds.Hop a i) k t = end_possible S e p _ t (rw k (first_in _ []))
kind_possible S e h go rest p (kinds.Recursive a) k t = rest (host a) (h / 2)
kind_possible S e h go rest p kinds.Cover k t = rest (cover S e.bits) (h / 2)

path_possible : (S : Tables) (e : Prefix) (h : ℕ) (go : Prefix → ℕ → Trip) → ((to : Prefix) (k : ℕ) → IsPossible S (go to k).end) → (o : Option Path) → IfSome o (IsWanted S e) → IsPossible S (take_path S go e h o).end
path_possible S e h go rest None t = drop_possible S
path_possible S e h go rest (Some p) t = kind_possible S e h go rest p p.kind refl t

follow_possible : (S : Tables) (n : ℕ) (e : Prefix) (h : ℕ) → IsPossible S (follow S n e h).end
unfolding follow
follow_possible S zero e h = drop_possible S
follow_possible S (suc n) e h = path_possible S e h (follow S n) (follow_possible S n) (slice_get (wanted S e) (h % 16)) (each-at (IsWanted S e) (wanted S e) (h % 16) (wanted_taken S e))

-- every answer is a possible end
pub resolve_possible : (S : Tables) (a h : ℕ) → Contains (ends S) (resolve S a h)
unfolding resolve way
resolve_possible S a h = follow_possible S (limit S) (best S a) h
