-- What the changes name, the hosts that were found and the neighbors in turned prefixes are all that are to be looked at.
use Rattle.std.proofs.Common.{◌≡◌, ◌==◌, ℕ, true, false, List, [], Option, Some, None, ◌⊎◌, inl, inr, refl, sym, ap, subst}
use Rattle.std.specs.Prelude.{Contains}
use Rattle.std.specs.Set.{is_member}
use Rattle.std.proofs.lemmas.Bool.Decides.{Decides-eqb}
use Rattle.fib_base_list.proofs.Lists.{either, Contains-nil}
use Rattle.fib_base_list.proofs.Booleans.{or_left, or_right}
use Rattle.fib_base_interned.proofs.Finding.{none_some, some_is}
use Rattle.fib_addr.specs.Prefixes.{Prefix, contains, host, same_prefix}
use Rattle.fib_resolve.specs.Pairs.{cover, short_prefixes}
use Rattle.fib_resolve.specs.declared.types.Tables.{Tables}
use Rattle.fib_resolve.proofs.OneList.{each-itself}
use Rattle.fib_resolve.proofs.PairLaws.{longest_has}
use Rattle.fib_resolve_changes.specs.Looked.{IsAbove, IsHosted, attached_at}
use Rattle.fib_resolve_changes.specs.Named.{hop_in, near_in}
use Rattle.fib_resolve_changes.specs.Sources.{HasNeighbor}
use Rattle.fib_resolve_changes.specs.declared.change.Change.{Change}
use Rattle.fib_resolve_changes.proofs.Covers.{whole_there}
use Rattle.fib_resolve_changes.proofs.Edits.{clash}
use Rattle.fib_follow_looked.specs.Looks.{AreAllLooked, AreAnswered, AreAsks, AreNamed, AreShorts, IsMoved, IsNamed, IsOver, IsTurn}
use Rattle.fib_follow_looked.specs.declared.ask.Ask.{Ask}
use Rattle.fib_follow_looked.specs.declared.ask.Ask.TheVariants as asked
use Rattle.fib_follow_looked.specs.declared.named.Named.{Named}
use Rattle.fib_follow_looked.specs.declared.shorts.Shorts.{Shorts}
use Rattle.fib_follow_looked.specs.declared.shorts.Turn.{Turn}
use Rattle.fib_follow_looked.specs.declared.shorts.Turn.TheVariants as turns
use Rattle.fib_follow_looked.specs.inner.Adding.{Adds, AddsMore}
use Rattle.fib_follow_looked.specs.inner.Turning.{HasNearEach, IsNearAny}
use Rattle.fib_follow_looked.proofs.Growth.{is_member_in, member_is}
use Rattle.fib_follow_looked.proofs.Turning.{decide_short, turned_with}

same_or : (o p : Option ℕ) → (o ≡ p) ⊎ (o ≡ p → ⊥)
same_or None None = inl refl
same_or None (Some j) = inr (λ e. none_some j e)
same_or (Some i) None = inr (λ e. none_some i (sym e))
same_or (Some i) (Some j) = elim (either (i == j)) [
  | inl is ↦ inl (ap Some ((Decides-eqb i j).0 is))
  | inr isnt ↦ inr (λ e. clash (i == j) ((Decides-eqb i j).1 (some_is i j e)) isnt)
]

cover_there : (S : Tables) (a : ℕ) → Contains (short_prefixes S) (cover S a)
unfolding cover
cover_there S a = longest_has (Contains (short_prefixes S)) (whole_there S) a (short_prefixes S) (each-itself (short_prefixes S))

module _ (list : List Change) (S T : Tables) (asks : List Ask) (hosts looked : List Prefix) (named : Named) (shorts : Shorts) (are : AreNamed list S T named)
    (short : AreShorts S T shorts) (ask : AreAsks S T asks) (found : AreAnswered S asks hosts)
    (has_named : (q : Prefix) → Contains named.prefixes q → Contains looked q) (has_hosts : (q : Prefix) → Contains hosts q → Contains looked q)
    (has_near : HasNearEach T shorts.turned.items looked) where
  seen : (q : Prefix) → Contains looked q → is_member same_prefix looked q ≡ false → ⊥
  seen q c off = clash (is_member same_prefix looked q) (member_is looked q c) off

  under : (a : ℕ) → is_member same_prefix looked (host a) ≡ false → IsHosted S a
      → IsTurn S T (cover S a) turns.Goes ⊎ IsTurn S T (cover S a) turns.Attaches → ⊥
  under a off hosted turn = seen (host a) (has_hosts (host a) (found (asked.Under (cover S a)) a ((ask (asked.Under (cover S a))).1 turn) hosted refl)) off

  cover_stays : (a : ℕ) → is_member same_prefix looked (host a) ≡ false → IsHosted S a
      → Contains (short_prefixes T) (cover S a) × (attached_at S (cover S a) ≡ attached_at T (cover S a))
  cover_stays a off hosted = elim (decide_short T (cover S a)) [
    | inr gone ↦ absurd (under a off hosted (inl (cover_there S a, gone)))
    | inl still ↦ elim (same_or (attached_at S (cover S a)) (attached_at T (cover S a))) [
      | inl same ↦ (still, same)
      | inr other ↦ absurd (under a off hosted (inr (cover_there S a, still, other)))
    ]
  ]

  none_between : (a : ℕ) → is_member same_prefix looked (host a) ≡ false → (q c : Prefix) → IsHosted S a → Contains (short_prefixes T) q
      → (Contains (short_prefixes S) q → ⊥) → contains q a ≡ true → IsAbove S q c → cover S a ≡ c → ⊥
  none_between a off q c hosted now new holds above is =
      seen (host a) (has_hosts (host a) (found (asked.Inside c q) a ((ask (asked.Inside c q)).1 ((now, new), above)) hosted (is, holds))) off

  near : (q : Prefix) (t : Turn) (c : Prefix) (i a : ℕ) → IsTurn S T q t → IsOver T q t c → attached_at T c ≡ Some i → contains q a ≡ true → HasNeighbor T i a
      → Contains looked (host a)
  near q t c i a turn over at holds n = has_near (turned_with q t) ((short.turned (turned_with q t)).1 turn) c i a over at holds n

  none_came : (a : ℕ) → is_member same_prefix looked (host a) ≡ false → (q : Prefix) (i : ℕ) → Contains (short_prefixes T) q
      → (Contains (short_prefixes S) q → attached_at S q ≡ attached_at T q → ⊥) → contains q a ≡ true → attached_at T q ≡ Some i
      → HasNeighbor T i a → ⊥
  none_came a off q i now other holds at n = elim (decide_short S q) [
    | inl was ↦ seen (host a) (near q turns.Attaches q i a (was, now, other was) refl at holds n) off
    | inr new ↦ seen (host a) (near q turns.Comes q i a (now, new) refl at holds n) off
  ]

  none_went : (a : ℕ) → is_member same_prefix looked (host a) ≡ false → (q c : Prefix) (i : ℕ) → Contains (short_prefixes S) q
      → (Contains (short_prefixes T) q → ⊥) → contains q a ≡ true → IsAbove T q c → attached_at T c ≡ Some i → HasNeighbor T i a → ⊥
  none_went a off q c i was gone holds above at n = seen (host a) (near q turns.Goes c i a (was, gone) above at holds n) off

  pub all_looked : AreAllLooked list S T looked
  all_looked = record {
    own = λ q is. member_is looked q (has_named q ((are.prefixes q).1 (inl is)));
    hop = λ a is. member_is looked (host a) (has_named (host a) ((are.prefixes (host a)).1 (inr (a, refl, or_left (hop_in list S T a) (near_in list a) is))));
    near = λ a is. member_is looked (host a) (has_named (host a) ((are.prefixes (host a)).1 (inr (a, refl, or_right (hop_in list S T a) (near_in list a) is))));
    compared = λ e is off. absurd (clash (is_member same_prefix looked e) is off);
    stays = cover_stays;
    between = none_between;
    came = none_came;
    went = none_went;
  }

-- one set after the other
pub has_all : (xs hosts start first second third : List Prefix) (shorts : Shorts) → Adds (is_member same_prefix xs) start first
    → Adds (is_member same_prefix hosts) first second → AddsMore second third
    → ((q : Prefix) → Contains xs q → Contains third q) × ((q : Prefix) → Contains hosts q → Contains third q)
has_all xs hosts start first second third shorts a b more = (
  λ q c. more q ((b q).1 (inl ((a q).1 (inr (member_is xs q c))))),
  λ q c. more q ((b q).1 (inr (member_is hosts q c))),
)

-- no others are among them
pub only_those : (list : List Change) (S T : Tables) (named : Named) (shorts : Shorts) (hosts xs start first second third : List Prefix)
    → AreNamed list S T named → AreShorts S T shorts → start ≡ [] → xs ≡ named.prefixes → Adds (is_member same_prefix xs) start first
    → Adds (is_member same_prefix hosts) first second
    → ((q : Prefix) → Contains third q → Contains second q ⊎ IsNearAny T shorts.turned.items q) → (q : Prefix) → Contains third q
    → IsNamed list S T q ⊎ (Contains hosts q ⊎ IsMoved S T q)
only_those list S T named shorts hosts xs start first second third are short none same a b only q c = elim (only q c) [
  | inl two ↦ elim ((b q).0 two) [
    | inl one ↦ elim ((a q).0 one) [
      | inl empty ↦ absurd (Contains-nil q (subst (λ l. Contains l q) none empty))
      | inr member ↦ inl ((are.prefixes q).0 (subst (λ l. Contains l q) same (is_member_in xs q member)))
    ]
    | inr member ↦ inr (inl (is_member_in hosts q member))
  ]
  | inr w ↦ inr (inr (w.0, (short.turned w.0).0 w.1, w.2))
]
