-- The hosts that are found for asks answer them.
use Rattle.std.proofs.Common.{◌≡◌, ◌+◌, ◌++◌, ℕ, length, List, [], ◌∷◌, map, take, Some, inl, inr, sym, subst, ◌≤◌, filter, slice_get}
use Rattle.std.specs.Prelude.{Contains}
use Rattle.std.proofs.lemmas.List.Elements.{Contains-append_left, Contains-append_right}
use Rattle.fib_base_list.proofs.Lists.{Contains-nil}
use Rattle.fib_addr.specs.Prefixes.{Prefix, host}
use Rattle.fib_cover.specs.Covers.{is_inside}
use Rattle.fib_cover.proofs.Sets.{take_whole}
use Rattle.fib_resolve.specs.declared.types.Tables.{Tables}
use Rattle.fib_resolve_changes.specs.Looked.{IsHosted}
use Rattle.fib_entries_rows.specs.Known.{Known, StandsFor, prefix_of}
use Rattle.fib_follow_features.specs.FoundBy.{AreNoted}
use Rattle.fib_follow_features.specs.Holders.{Holders, holders}
use Rattle.fib_follow_features.specs.declared.feature.Feature.TheVariants as features
use Rattle.fib_follow_features.proofs.Tabled.{host_found, host_inside}
use Rattle.fib_follow_looked.specs.Looks.{AreAnswered, IsAsked}
use Rattle.fib_follow_looked.specs.declared.ask.Ask.{Ask}
use Rattle.fib_follow_looked.specs.declared.ask.Ask.TheVariants as asked
use Rattle.fib_follow_looked.proofs.Turning.{take_in}
use Rattle.fib_follow_plan.specs.inner.Hosts.{AreHostsOf, IsShortAsk, hosts_of}

pub hosts_none : (sets : List Holders) (asks : List Ask) (hosts : List Prefix) → AreHostsOf sets (take 0 asks) hosts
hosts_none sets [] hosts x c = absurd (Contains-nil x c)
hosts_none sets (y ∷ ys) hosts x c = absurd (Contains-nil x c)

pub hosts_step : (sets : List Holders) (asks : List Ask) (k : ℕ) (ask : Ask) (old found new : List Prefix) → slice_get asks k ≡ Some ask
    → AreHostsOf sets (take k asks) old → IsShortAsk ask → found ≡ hosts_of sets ask → new ≡ old ++ found → AreHostsOf sets (take (k + 1) asks) new
hosts_step sets asks k ask old found new here before short is grown x c = elim ((take_in asks k ask x here).0 c) [
  | inl early ↦ ((before x early).0, λ e d. subst (λ l. Contains l e) (sym grown) (Contains-append_left old found e ((before x early).1 e d)))
  | inr same ↦ (
    subst IsShortAsk same short,
    λ e d. subst (λ l. Contains l e) (sym grown)
        (Contains-append_right old found e (subst (λ l. Contains l e) (sym is) (subst (λ z. Contains (hosts_of sets z) e) (sym same) d))),
  )
]

pub hosts_whole : (sets : List Holders) (asks : List Ask) (k : ℕ) (hosts : List Prefix) → length asks ≤ k → AreHostsOf sets (take k asks) hosts
    → AreHostsOf sets asks hosts
hosts_whole sets asks k hosts le h = subst (λ l. AreHostsOf sets l hosts) (take_whole asks k le) h

module _ (v : Known) (S : Tables) (sets : List Holders) (h : StandsFor v S) (noted : AreNoted v.lists (map prefix_of v.rows) v.rows sets) where
  asked_found : (x : Ask) (a : ℕ) → IsHosted S a → IsAsked S x a → IsShortAsk x → Contains (hosts_of sets x) (host a)
  asked_found (asked.Under q) a hosted is short =
      subst (λ p. Contains (holders sets (features.Under p)) (host a)) is (host_found v S sets h noted a hosted)
  asked_found (asked.Inside c q) a hosted is short =
      subst (λ p. Contains (filter (is_inside q) (holders sets (features.Under p))) (host a)) is.0
      (host_inside v S sets h noted a q hosted short is.1)

  pub are_answered : (asks : List Ask) (hosts : List Prefix) → AreHostsOf sets asks hosts → AreAnswered S asks hosts
  are_answered asks hosts are x a c hosted is = (are x c).1 (host a) (asked_found x a hosted is (are x c).0)
