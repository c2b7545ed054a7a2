-- What is made anew of a prefix is what tables have of it.
use Rattle.std.proofs.Common.{◌≡◌, ◌≢◌, ◌<◌, ℕ, true, false, List, [], ◌∷◌, Option, Some, None, inl, inr, refl, sym, ◌∙◌, ap}
use Rattle.std.specs.Prelude.{Contains}
use Rattle.fib_base_list.proofs.Lists.{either, Contains-nil}
use Rattle.fib_addr.specs.Prefixes.{Prefix, same_prefix}
use Rattle.fib_addr.proofs.PrefixLaws.{same_prefix-Decides}
use Rattle.fib_resolve.specs.Pairs.{attached_of, pairs}
use Rattle.fib_resolve.specs.declared.pairs.Pair.{Pair}
use Rattle.fib_resolve.specs.declared.types.Tables.{Tables}
use Rattle.fib_resolve.specs.Tables.{IsSound}
use Rattle.fib_resolve.specs.declared.types.FibSource.{FibSource}
use Rattle.fib_resolve.proofs.Entries.{is_entry, chosen-no_entry}
use Rattle.fib_resolve_changes.specs.Looked.{attached_at}
use Rattle.fib_resolve_changes.specs.Ranks.{has_entry}
use Rattle.fib_resolve_changes.proofs.CauseLaws.{any_from}
use Rattle.fib_resolve_changes.proofs.Edits.{in_front}
use Rattle.fib_resolve_changes.proofs.Targets.{pair_entry}
use Rattle.fib_entries_rows.specs.Known.{Known, ArePairs, StandsFor}
use Rattle.fib_entries_rows.specs.Rows.{Row}
use Rattle.fib_entries_rows.proofs.Standing.{first_chosen}
use Rattle.fib_follow_pairs.specs.Fresh.{ArePairsAt, IsAround, IsCover, IsFresh, prefix_in}
use Rattle.fib_follow_pairs.specs.inner.Compared.{content_or, paths_held, paths_made}
use Rattle.fib_follow_pairs.specs.inner.Parts.{cover_in}
use Rattle.fib_follow_pairs.specs.declared.host.Host.{Host}
use Rattle.fib_follow_pairs.specs.declared.fresh.Fresh.{Fresh}
use Rattle.fib_follow_pairs.specs.declared.fresh.Fresh.TheVariants as made
use Rattle.fib_follow_pairs.proofs.Hosted.{attached_chosen, first_is_chosen}

-- what has a pair is an entry
pub some_entry : (S : Tables) (e : Prefix) (xs : List Pair) → ArePairsAt (pairs S) e xs → xs ≢ [] → has_entry S e ≡ true
some_entry S e [] h some = absurd (some refl)
some_entry S e (x ∷ xs) h some = (let r = (h.are x).0 (in_front x x xs refl) in pair_entry S x e r.0 (sym r.1))

-- and what has none isn't
pub none_left : (S : Tables) (e : Prefix) (xs : List Pair) → ArePairsAt (pairs S) e xs → xs ≡ [] → has_entry S e ≡ false
none_left S e (x ∷ xs) h none = absurd (cc)
none_left S e [] h none = elim (either (has_entry S e)) [
  | inr isnt ↦ isnt
  | inl is ↦ (let r = any_from (λ x. same_prefix e x.prefix) (pairs S) (sym (is_entry S e) ∙ is) in
      absurd (Contains-nil r.0 ((h.are r.0).1 (r.1, (same_prefix-Decides e r.0.prefix).0 r.2))))
]

pub cover_around : (S : Tables) (e : Prefix) (o : Option Host) → IsAround S e o → IsCover S e (cover_in o)
cover_around S e None h = h
cover_around S e (Some host) h = (h.0, h.1.cover)

-- how a prefix that can cover attaches, by what was made anew of it
pub attached_made : (S : Tables) (f : Fresh) → IsSound S → IsFresh S f → (prefix_in f).len < 32 → attached_of (paths_made f) ≡ attached_at S (prefix_in f)
attached_made S (made.Entry f) sound h short = ap attached_of (first_is_chosen S sound f.prefix f.pairs h.pairs) ∙ attached_chosen S sound f.prefix short
attached_made S (made.Gone e) sound h short = ap attached_of (sym (chosen-no_entry S e h)) ∙ attached_chosen S sound e short

-- and by its row
pub attached_row : (v : Known) (S : Tables) (r : Row) → StandsFor v S → Contains v.rows r → r.prefix.len < 32
    → attached_of (paths_held v.lists r.pairs) ≡ attached_at S r.prefix
attached_row v S r k c short = by r.pairs ((k.rows r c).pairs)
  where
    none : ArePairs v.lists S r.prefix [] → has_entry S r.prefix ≡ false
    none h = elim (either (has_entry S r.prefix)) [
      | inr isnt ↦ isnt
      | inl is ↦ (let x = any_from (λ z. same_prefix r.prefix z.prefix) (pairs S) (sym (is_entry S r.prefix) ∙ is) in
          let f = h.found x.0 x.1 ((same_prefix-Decides r.prefix x.0.prefix).0 x.2) in
          absurd (Contains-nil f.0 f.1))
    ]

    by : (ps : List (FibSource × ℕ)) → ArePairs v.lists S r.prefix ps → attached_of (paths_held v.lists ps) ≡ attached_at S r.prefix
    by [] h = ap attached_of (sym (chosen-no_entry S r.prefix (none h))) ∙ attached_chosen S k.sound r.prefix short
    by (p ∷ ps) h =
        let x = h.real p (in_front p p ps refl) in
        let is = first_chosen v S k r.prefix p ps x.0.paths k.sound h x.3.1 in
        ap (λ o. attached_of (content_or o)) x.3.1 ∙ ap attached_of is ∙ attached_chosen S k.sound r.prefix short
