-- An entry leads over interfaces of the tables alone.
use Rattle.std.proofs.Common.{◌≡◌, ℕ, zero, suc, ◌<◌, Bool, true, ◌&&◌, ◌==◌, List, [], ◌∷◌, length, inl, inr, refl, sym, ap, ◌∙◌, subst, arith}
use Rattle.std.specs.Prelude.{Option, Some, None, slice_get}
use Rattle.std.specs.List.{list_any}
use Rattle.std.proofs.lemmas.Bool.{false≢true}
use Rattle.std.proofs.lemmas.Option.{slice_get_within}
use Rattle.std.proofs.lemmas.Bool.Decides.{nat_tests}
use Rattle.fib_base_list.proofs.Booleans.{or_cases, and_both}
use Rattle.fib_addr.specs.Prefixes.{Prefix, host}
use Rattle.fib_resolve.specs.Pairs.{chosen, cover}
use Rattle.fib_resolve.specs.Forwarding.{forwards, is_up, up_of, usable, limit}
use Rattle.fib_resolve.specs.declared.types.Interface.{Interface}
use Rattle.fib_resolve.specs.declared.types.Need.{Need}
use Rattle.fib_resolve.specs.declared.types.Path.{Path}
use Rattle.fib_resolve.specs.declared.types.PathKind.{PathKind}
use Rattle.fib_resolve.specs.declared.types.PathKind.TheVariants as kinds
use Rattle.fib_resolve.specs.declared.types.Tables.{Tables}
use Rattle.fib_resolve.specs.Forwarding.{usable_kind}
use Rattle.fib_urpf.specs.ReversePath.{is_reverse, kind_leads, leads_in}

up_inside : (S : Tables) (j : ℕ) → is_up S j ≡ true → j < length S.interfaces
up_inside S j up = by_found (slice_get S.interfaces j) refl
  where
    by_found : (o : Option Interface) → slice_get S.interfaces j ≡ o → j < length S.interfaces
    by_found (Some i) is = slice_get_within S.interfaces j i is
    by_found None is = absurd (false≢true (sym (ap up_of is) ∙ up))

same_number : (j i : ℕ) → (j == i) ≡ true → j ≡ i
same_number j i h = grind (arith, nat_tests)

kind_inside : (S : Tables) (i n : ℕ) (g : Prefix → Bool) → ((t : Prefix) → leads_in S i n t ≡ true → i < length S.interfaces) → (e : Prefix) (need : Need) (kind : PathKind)
    → usable_kind S g e need kind && kind_leads S i (leads_in S i n) e kind ≡ true → i < length S.interfaces
kind_inside S i n g below e need kinds.Drop h = absurd (false≢true h)
kind_inside S i n g below e need kinds.Local h = absurd (false≢true h)
kind_inside S i n g below e need (kinds.Attached j) h =
    let both = and_both (is_up S j) (j == i) h in
    subst (λ k. k < length S.interfaces) (same_number j i both.1) (up_inside S j both.0)
kind_inside S i n g below e need (kinds.Hop a j) h =
    let both = and_both (is_up S j) (j == i) h in
    subst (λ k. k < length S.interfaces) (same_number j i both.1) (up_inside S j both.0)
kind_inside S i n g below e need (kinds.Recursive a) h = below (host a) (and_both (usable_kind S g e need (kinds.Recursive a)) (leads_in S i n (host a)) h).1
kind_inside S i n g below e need kinds.Cover h = below (cover S e.bits) (and_both (usable_kind S g e need kinds.Cover) (leads_in S i n (cover S e.bits)) h).1

some_inside : (S : Tables) (i n : ℕ) → ((t : Prefix) → leads_in S i n t ≡ true → i < length S.interfaces) → (e : Prefix) (ps : List Path)
    → list_any (λ p. usable S e p && kind_leads S i (leads_in S i n) e p.kind) ps ≡ true → i < length S.interfaces
unfolding usable
some_inside S i n below e [] h = absurd (false≢true h)
some_inside S i n below e (p ∷ ps) h =
    elim (or_cases (usable S e p && kind_leads S i (leads_in S i n) e p.kind) (list_any (λ q. usable S e q && kind_leads S i (leads_in S i n) e q.kind) ps) h) [
      | inl here ↦ kind_inside S i n (forwards S) below e p.need p.kind here
      | inr there ↦ some_inside S i n below e ps there
    ]

round_inside : (S : Tables) (i n : ℕ) (e : Prefix) → leads_in S i n e ≡ true → i < length S.interfaces
unfolding leads_in
round_inside S i zero e h = absurd (false≢true h)
round_inside S i (suc n) e h = some_inside S i n (round_inside S i n) e (chosen S e) h

pub reverse_inside : (S : Tables) (i : ℕ) (e : Prefix) → is_reverse S i e ≡ true → i < length S.interfaces
unfolding is_reverse
reverse_inside S i e h = round_inside S i (limit S) e h
