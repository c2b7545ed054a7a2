-- Whether a path is usable, by its mark.
use Rattle.std.proofs.Common.{◌≡◌, ℕ, Bool, true, false, not, ◌&&◌, cond, ◌==◌, List, Option, Some, None, refl, sym, ◌∙◌, ap, slice_get}
use Rattle.std.specs.Prelude.{option_map}
use Rattle.std.proofs.lemmas.Option.{slice_get-map}
use Rattle.fib_addr.specs.Prefixes.{Prefix, host}
use Rattle.fib_resolve.specs.Pairs.{chosen}
use Rattle.fib_resolve.specs.Loops.{looped}
use Rattle.fib_resolve.specs.Forwarding.{is_up, is_met, forwards, usable, usable_one, usable_at, usable_kind}
use Rattle.fib_resolve.specs.Aims.{kind_aim, kind_counts, marked, marked_list}
use Rattle.fib_resolve.specs.Resolution.{hop_end}
use Rattle.fib_resolve.specs.declared.aims.Aim.{Aim}
use Rattle.fib_resolve.specs.declared.aims.Aim.TheVariants as aims
use Rattle.fib_resolve.specs.declared.aims.Marked.{Marked}
use Rattle.fib_resolve.specs.declared.types.End.TheVariants as answers
use Rattle.fib_resolve.specs.declared.types.Need.{Need}
use Rattle.fib_resolve.specs.declared.types.Path.{Path}
use Rattle.fib_resolve.specs.declared.types.PathKind.{PathKind}
use Rattle.fib_resolve.specs.declared.types.PathKind.TheVariants as kinds
use Rattle.fib_resolve.specs.declared.types.Tables.{Tables}
use Rattle.fib_resolve_changes.specs.Ranks.{leads_on, is_usable_mark}
use Rattle.fib_print_listing.specs.inner.Forwards.{has_prefix, AreForwarding}

and_true : (b : Bool) → (b && true) ≡ b
and_true true = refl
and_true false = refl

and_assoc : (a b c : Bool) → (a && (b && c)) ≡ ((a && b) && c)
and_assoc true b c = refl
and_assoc false b c = refl

kind_usable : (S : Tables) (f : Prefix → Bool) (e : Prefix) (need : Need) (kind : PathKind) → usable_kind S f e need kind ≡ (kind_counts S e need kind && leads_on f (kind_aim S e kind))
kind_usable S f e need kinds.Drop = refl
kind_usable S f e need kinds.Local = refl
kind_usable S f e need (kinds.Attached i) = by (e.len == 32)
  where
    by : (b : Bool) → is_up S i ≡ (is_up S i && leads_on f (aims.Ends (cond b (hop_end S i e.bits) (answers.Glean i))))
    by true = sym (and_true (is_up S i))
    by false = sym (and_true (is_up S i))
kind_usable S f e need (kinds.Hop a i) = sym (and_true (is_up S i))
kind_usable S f e need (kinds.Recursive a) = and_assoc (not (looped S e a)) (is_met S need a) (f (host a))
kind_usable S f e need kinds.Cover = refl

leads_as : (f g : Prefix → Bool) → ((p : Prefix) → f p ≡ g p) → (a : Aim) → leads_on f a ≡ leads_on g a
leads_as f g same (aims.Ends end) = refl
leads_as f g same (aims.On t) = same t

usable_as : (S : Tables) (ks : List Prefix) → AreForwarding S ks → (e : Prefix) (p : Path) → is_usable_mark (has_prefix ks) (marked S e p) ≡ usable S e p
unfolding usable
usable_as S ks are e p =
    ap (λ b. kind_counts S e p.need p.kind && b) (leads_as (has_prefix ks) (forwards S) are (kind_aim S e p.kind)) ∙ sym (kind_usable S (forwards S) e p.need p.kind)

module _ (S : Tables) (e : Prefix) where
  pub usable_there : (ks : List Prefix) → AreForwarding S ks → (place : ℕ) (m : Marked) → slice_get (marked_list S e) place ≡ Some m → is_usable_mark (has_prefix ks) m ≡ usable_at S e place
  unfolding marked_list
  usable_there ks are place m at = by (slice_get (chosen S e) place) (sym (slice_get-map (marked S e) (chosen S e) place) ∙ at)
    where
      by : (o : Option Path) → option_map (marked S e) o ≡ Some m → is_usable_mark (has_prefix ks) m ≡ usable_one S e o
      by None h = absurd (cc)
      by (Some p) h = (let is : marked S e p ≡ m = (cc) in ap (is_usable_mark (has_prefix ks)) (sym is) ∙ usable_as S ks are e p)

  pub usable_nowhere : (place : ℕ) → slice_get (marked_list S e) place ≡ None → false ≡ usable_at S e place
  unfolding marked_list
  usable_nowhere place none = by (slice_get (chosen S e) place) (sym (slice_get-map (marked S e) (chosen S e) place) ∙ none)
    where
      by : (o : Option Path) → option_map (marked S e) o ≡ None → false ≡ usable_one S e o
      by None h = refl
      by (Some p) h = absurd (cc)
