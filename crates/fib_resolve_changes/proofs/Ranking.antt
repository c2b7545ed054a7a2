-- The tables with a rank that falls are lawful.
use Rattle.std.proofs.Common.{◌≡◌, ℕ, Bool, true, false, cond, not, ◌&&◌, ◌||◌, ◌==◌, List, [], ◌∷◌, map, refl, sym, ◌∙◌, ap}
use Rattle.std.specs.Prelude.{Contains}
use Rattle.std.specs.List.{list_any}
use Rattle.std.specs.Set.{is_member}
use Rattle.std.proofs.lemmas.Bool.{false≢true}
use Rattle.std.proofs.lemmas.Map.Views.{Contains-from_any}
use Rattle.fib_base_list.proofs.Lists.{list_any-map}
use Rattle.fib_base_list.proofs.Booleans.{and_both}
use Rattle.fib_addr.specs.Prefixes.{Prefix, host, same_prefix}
use Rattle.fib_addr.proofs.PrefixLaws.{same_prefix-Decides}
use Rattle.fib_resolve.specs.Pairs.{chosen}
use Rattle.fib_resolve.specs.Loops.{looped, is_kept, kind_targets, Kept}
use Rattle.fib_resolve.specs.Forwarding.{is_up, is_met, forwards, usable, usable_kind}
use Rattle.fib_resolve.specs.declared.types.Path.{Path}
use Rattle.fib_resolve.specs.declared.types.PathKind.{PathKind}
use Rattle.fib_resolve.specs.declared.types.PathKind.TheVariants as kinds
use Rattle.fib_resolve.specs.declared.types.Need.{Need}
use Rattle.fib_resolve.specs.declared.types.Tables.{Tables}
use Rattle.fib_resolve.proofs.Answering.{forwards_is_usable}
use Rattle.fib_resolve.proofs.Entries.{chosen-no_entry, targets_from_entries}
use Rattle.fib_resolve.proofs.KeptEdges.{kept_target}
use Rattle.fib_resolve.specs.Aims.{kind_aim, kind_counts, marked, marked_list}
use Rattle.fib_resolve.specs.Resolution.{hop_end}
use Rattle.fib_resolve.specs.declared.types.End.TheVariants as answers
use Rattle.fib_resolve.specs.declared.aims.Aim.TheVariants as aims
use Rattle.fib_resolve_changes.specs.Ranks.{leads_on, is_usable_mark, is_aimed_at, wakes, Falls, IsRanked}
use Rattle.fib_resolve_changes.proofs.Targets.{target_entry}
use Rattle.fib_resolve_changes.proofs.CauseLaws.{any_from}
use Rattle.fib_resolve_changes.proofs.Edits.{any_in}

and_true : (b : Bool) → (b && true) ≡ b
and_true true = refl
and_true false = refl

and_assoc : (a b c : Bool) → (a && (b && c)) ≡ ((a && b) && c)
and_assoc true b c = refl
and_assoc false b c = refl

kind_usable : (S : Tables) (f : Prefix → Bool) (e : Prefix) (need : Need) (kind : PathKind) → usable_kind S f e need kind ≡ (kind_counts S e need kind && leads_on f (kind_aim S e kind))
kind_usable S f e need kinds.Drop = refl
kind_usable S f e need kinds.Local = refl
kind_usable S f e need (kinds.Attached i) = by (e.len == 32)
  where
    by : (b : Bool) → is_up S i ≡ (is_up S i && leads_on f (aims.Ends (cond b (hop_end S i e.bits) (answers.Glean i))))
    by true = sym (and_true (is_up S i))
    by false = sym (and_true (is_up S i))
kind_usable S f e need (kinds.Hop a i) = sym (and_true (is_up S i))
kind_usable S f e need (kinds.Recursive a) = and_assoc (not (looped S e a)) (is_met S need a) (f (host a))
kind_usable S f e need kinds.Cover = refl

any_same : {X : Type 0} (f g : X → Bool) (xs : List X) → ((x : X) → f x ≡ g x) → list_any f xs ≡ list_any g xs
any_same f g [] h = refl
any_same f g (x ∷ xs) h = ap (λ b. b || list_any f xs) (h x) ∙ ap (λ b. g x || b) (any_same f g xs h)

usable_marked : (S : Tables) (e : Prefix) (p : Path) → usable S e p ≡ is_usable_mark (forwards S) (marked S e p)
unfolding usable
usable_marked S e p = kind_usable S (forwards S) e p.need p.kind

member_in : (t : Prefix) (qs : List Prefix) → is_member same_prefix qs t ≡ true → Contains qs t
member_in t qs h = Contains-from_any (λ x y. (same_prefix-Decides x y).0) t qs h

pub wake_edge : (S : Tables) (e t : Prefix) → wakes S e t ≡ true → Kept S e t
wake_edge S e t h =
    let r = any_from (λ p. is_kept S e p.kind && is_member same_prefix (kind_targets S e p.kind) t) (chosen S e) h in
    let both = and_both (is_kept S e r.0.kind) (is_member same_prefix (kind_targets S e r.0.kind) t) r.2 in
    (r.0, r.1, both.0, member_in t (kind_targets S e r.0.kind) both.1)

-- an open path is of an edge that wakes
kind_wakes : (S : Tables) (e t : Prefix) (need : Need) (kind : PathKind) → (kind_counts S e need kind && is_aimed_at t (kind_aim S e kind)) ≡ true → (is_kept S e kind && is_member same_prefix (kind_targets S e kind) t) ≡ true
kind_wakes S e t need kinds.Drop h = absurd (false≢true h)
kind_wakes S e t need kinds.Local h = absurd (false≢true (and_both true false h).1)
kind_wakes S e t need (kinds.Attached i) h = absurd (by (e.len == 32) h)
  where
    by : (b : Bool) → (is_up S i && is_aimed_at t (aims.Ends (cond b (hop_end S i e.bits) (answers.Glean i)))) ≡ true → ⊥
    by true k = false≢true (and_both (is_up S i) false k).1
    by false k = false≢true (and_both (is_up S i) false k).1
kind_wakes S e t need (kinds.Hop a i) h = absurd (false≢true (and_both (is_up S i) false h).1)
kind_wakes S e t need (kinds.Recursive a) h =
    let both = and_both (not (looped S e a) && is_met S need a) (same_prefix t (host a)) h in
    rw ((and_both (not (looped S e a)) (is_met S need a) both.0).0, both.1) refl
kind_wakes S e t need kinds.Cover h = rw h refl

pub ranked : (S : Tables) (rank : Prefix → ℕ) → Falls S rank → IsRanked S rank
unfolding marked_list
ranked S rank falling = record {
  forwarding = λ e. forwards_is_usable S e ∙ any_same (usable S e) (λ p. is_usable_mark (forwards S) (marked S e p)) (chosen S e) (usable_marked S e) ∙ sym (list_any-map (marked S e) (is_usable_mark (forwards S)) (chosen S e));
  falls = λ e t h. (let k = wake_edge S e t h in (target_entry S e t k.0 k.1 k.3, falling e t k));
  woken = λ e t h. (let r = any_from (λ p. kind_counts S e p.need p.kind && is_aimed_at t (kind_aim S e p.kind)) (chosen S e) (sym (list_any-map (marked S e) (λ p. p.counts && is_aimed_at t p.aim) (chosen S e)) ∙ h) in
      any_in (λ p. is_kept S e p.kind && is_member same_prefix (kind_targets S e p.kind) t) (chosen S e) r.0 r.1 (kind_wakes S e t r.0.need r.0.kind r.2));
  effective = λ e t h. targets_from_entries S e t (kept_target S e t (wake_edge S e t h));
  absent = λ e h. ap (map (marked S e)) (chosen-no_entry S e h);
}
