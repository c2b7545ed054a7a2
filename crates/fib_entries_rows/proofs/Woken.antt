-- Marks tell who is woken.
use Rattle.std.proofs.Common.{◌≡◌, Bool, true, false, not, ◌&&◌, ◌||◌, List, [], ◌∷◌, map, Some, None, refl, sym, ◌∙◌, ap}
use Rattle.std.specs.List.{list_any}
use Rattle.std.specs.Set.{is_member}
use Rattle.fib_addr.specs.Prefixes.{Prefix, host, same_prefix}
use Rattle.fib_resolve.specs.Aims.{kind_aim, marked, marked_list}
use Rattle.fib_resolve.specs.Pairs.{chosen, cover}
use Rattle.fib_resolve.specs.Loops.{looped_kind, is_kept, kind_targets}
use Rattle.fib_resolve.specs.declared.types.Path.{Path}
use Rattle.fib_resolve.specs.declared.types.PathKind.{PathKind}
use Rattle.fib_resolve.specs.declared.types.PathKind.TheVariants as kinds
use Rattle.fib_resolve.specs.declared.types.Tables.{Tables}
use Rattle.fib_resolve.proofs.Entries.{chosen-no_entry}
use Rattle.fib_resolve_changes.specs.Ranks.{is_aimed_at, wakes}
use Rattle.fib_entries_rows.specs.Known.{Known, StandsFor, row_of}
use Rattle.fib_entries_rows.specs.inner.Waking.{aims_at}
use Rattle.fib_entries_rows.specs.Rows.{Row}
use Rattle.fib_entries_rows.proofs.Standing.{row_there, no_entry, marked_at}

or_none : (b : Bool) → (b || false) ≡ b
or_none true = refl
or_none false = refl

kind_aimed : (S : Tables) (e t : Prefix) (kind : PathKind) → is_aimed_at t (kind_aim S e kind) ≡ is_member same_prefix (kind_targets S e kind) t
kind_aimed S e t kinds.Drop = refl
kind_aimed S e t kinds.Local = refl
kind_aimed S e t (kinds.Attached i) = refl
kind_aimed S e t (kinds.Hop a i) = refl
kind_aimed S e t (kinds.Recursive a) = sym (or_none (same_prefix t (host a)))
kind_aimed S e t kinds.Cover = sym (or_none (same_prefix t (cover S e.bits)))

pub by_marks : (S : Tables) (e t : Prefix) (ps : List Path) → aims_at t (map (marked S e) ps) (map (λ p. looped_kind S e p.kind) ps) ≡ list_any (λ p. is_kept S e p.kind && is_member same_prefix (kind_targets S e p.kind) t) ps
by_marks S e t [] = refl
by_marks S e t (p ∷ ps) =
    ap (λ b. (not (looped_kind S e p.kind) && b) || aims_at t (map (marked S e) ps) (map (λ q. looped_kind S e q.kind) ps)) (kind_aimed S e t p.kind)
    ∙ ap (λ b. (is_kept S e p.kind && is_member same_prefix (kind_targets S e p.kind) t) || b) (by_marks S e t ps)

pub row_wakes : (v : Known) (S : Tables) (h : StandsFor v S) (e t : Prefix) (r : Row) → row_of v.rows e ≡ Some r → aims_at t r.marked r.looped ≡ wakes S e t
unfolding marked_list
row_wakes v S h e t r at =
    let x = row_there v.rows e r at in
    ap (λ l. aims_at t l r.looped) (marked_at v S h e r at)
    ∙ (ap (aims_at t (map (marked S e) (chosen S e))) ((h.rows r x.0).looped ∙ ap (λ z. map (λ p. looped_kind S z p.kind) (chosen S z)) (sym x.1)) ∙ by_marks S e t (chosen S e))

pub none_wakes : (v : Known) (S : Tables) (h : StandsFor v S) (e t : Prefix) → row_of v.rows e ≡ None → false ≡ wakes S e t
none_wakes v S h e t none = sym (ap (list_any (λ p. is_kept S e p.kind && is_member same_prefix (kind_targets S e p.kind) t)) (chosen-no_entry S e (no_entry v S h e none)))
