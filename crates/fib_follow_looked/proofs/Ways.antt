-- Which addresses are next hops after changes: those of the named routes, and those that other routes had before.
use Rattle.std.proofs.Common.{◌≡◌, ℕ, ◌==◌, ◌&&◌, Bool, true, List, refl, sym, ◌∙◌, ◌↔◌, subst}
use Rattle.std.specs.Prelude.{Contains, IsTrue}
use Rattle.std.specs.List.{list_any}
use Rattle.std.proofs.lemmas.Bool.{false≢true}
use Rattle.std.proofs.lemmas.Bool.Decides.{Decides-eqb}
use Rattle.fib_base_list.proofs.Lists.{Contains-flat_map}
use Rattle.fib_base_list.proofs.Booleans.{and_both}
use Rattle.fib_addr.specs.Prefixes.{Prefix, host}
use Rattle.fib_resolve.specs.Pairs.{recursive_hops}
use Rattle.fib_resolve.specs.Tables.{IsSound, is_route}
use Rattle.fib_resolve.specs.declared.types.Tables.{Tables}
use Rattle.fib_resolve_changes.specs.Affected.{has_hop}
use Rattle.fib_resolve_changes.specs.Sources.{all_hops}
use Rattle.fib_resolve_changes.specs.declared.change.Change.{Change}
use Rattle.fib_resolve_changes.specs.declared.change.Change.TheVariants as changes
use Rattle.fib_resolve_changes.proofs.CauseLaws.{any_from}
use Rattle.fib_resolve_changes.proofs.Edits.{any_in, is_itself}
use Rattle.fib_entries_rows.specs.Known.{Known}
use Rattle.fib_follow_pairs.specs.Fresh.{HoldsWays}
use Rattle.fib_follow_pairs.specs.inner.Parts.{is_way}
use Rattle.fib_follow_pairs.proofs.Hosted.{ways_are}
use Rattle.fib_follow_looked.specs.Looks.{AreNamed, IsBefore, led_at}
use Rattle.fib_follow_looked.specs.declared.named.Named.{Named}

led_hop : (T : Tables) (a : ℕ) (c : Change) → led_at T a c ≡ true → Contains (all_hops T) a
led_hop T a (changes.Flag i) h = absurd (false≢true h)
led_hop T a (changes.Address b) h = absurd (false≢true h)
led_hop T a (changes.Neighbor i b) h = absurd (false≢true h)
led_hop T a (changes.Route p s) h =
    let w = any_from (λ z. is_route p s z && list_any (λ b. b == a) (recursive_hops z)) T.routes h in
    let both = and_both (is_route p s w.0) (list_any (λ b. b == a) (recursive_hops w.0)) w.2 in
    let b = any_from (λ b. b == a) (recursive_hops w.0) both.1 in
    Contains-flat_map recursive_hops T.routes w.0 a w.1 (subst (Contains (recursive_hops w.0)) ((Decides-eqb b.0 a).0 b.2) b.1)

module _ (v : Known) (list : List Change) (S T : Tables) (h : IsBefore v list S T) (x : Named) (k : AreNamed list S T x) (a : ℕ) where
  -- a next hop of a named route is one
  pub named_hop : Contains x.hops (host a) → Contains (all_hops T) a
  named_hop c = (let w = any_from (led_at T a) list ((k.hops a).0 c) in led_hop T a w.0 w.2)

  -- each other route that has it had it before
  pub ways_stay : (among : List Prefix) → HoldsWays S a among → (Contains x.hops (host a) → ⊥) → HoldsWays T a among
  ways_stay among known off r c hop =
      let led : has_hop r.prefix r.source T.routes a ≡ true =
      any_in (λ z. is_route r.prefix r.source z && list_any (λ b. b == a) (recursive_hops z)) T.routes r c
      (rw (is_itself r) (any_in (λ b. b == a) (recursive_hops r) a hop ((Decides-eqb a a).1 refl))) in
      known r ((h.differ.routes r (λ d. off ((k.hops a).1 (any_in (led_at T a) list (changes.Route r.prefix r.source) d led)))).1 c) hop

-- with both, it is told whether the address is one
pub hop_is : (T : Tables) → IsSound T → (a : ℕ) (among : List Prefix) (b : Bool) → b ≡ list_any (is_way T a) among → HoldsWays T a among
    → IsTrue b ↔ Contains (all_hops T) a
hop_is T sound a among b is known = (
  λ t. (ways_are T sound a among known).0 (sym is ∙ t),
  λ c. is ∙ (ways_are T sound a among known).1 c,
)
