-- Where the cells stand for tables, the walk is resolution, and stored ends are the tables' ends.
use Rattle.std.proofs.Common.{◌≡◌, ℕ, zero, suc, ◌+◌, ◌-◌, ◌*◌, ◌/◌, ◌^◌, ◌<◌, ◌≤◌, inl, inr, Bool, true, false, List, length, refl, sym, ap, ◌∙◌, subst, arith}
use Rattle.std.proofs.lemmas.Bool.Decides.{nat_tests}
use Rattle.std.proofs.lemmas.Map.Views.{Contains-from_any}
use Rattle.std.specs.Prelude.{[], Contains, slice_index, nat_lt, if◌then◌else◌}
use Rattle.std.specs.Set.{is_member}
use Rattle.fib_addr.specs.Prefixes.{Prefix, IsPrefix, masked, nibble, same_prefix}
use Rattle.fib_addr.specs.Longest.{everything}
use Rattle.fib_addr.proofs.PrefixLaws.{same_prefix-Decides}
use Rattle.fib_reach.specs.Walks.{IsAcyclic}
use Rattle.fib_resolve.specs.Pairs.{entries, best}
use Rattle.fib_resolve.specs.Forwarding.{limit}
use Rattle.fib_resolve.specs.Resolution.{Trip, way, resolve}
use Rattle.fib_resolve.specs.Sizes.{plies}
use Rattle.fib_resolve.specs.Tables.{IsSound}
use Rattle.fib_resolve.specs.declared.types.End.{End}
use Rattle.fib_resolve.specs.declared.types.End.TheVariants as answers
use Rattle.fib_resolve.specs.declared.types.Tables.{Tables}
use Rattle.fib_resolve.proofs.FollowLimit.{follow-steady}
use Rattle.fib_resolve.proofs.Covering.{best_longest}
use Rattle.fib_core.specs.declared.word.Word.TheVariants as words
use Rattle.fib_core.specs.Words.{goes, target}
use Rattle.fib_core.specs.Walk.{word_at, Place, ply, balance, ended, root, from_ply, after, walk, Arrives, IsFlow}
use Rattle.fib_core.specs.Union.{Union, Edge}
use Rattle.fib_core.specs.StandsFor.{Thing, ply_of, balance_of, covering, ply_word, StandsFor}
use Rattle.fib_core.specs.Trails.{IsGoing}
use Rattle.fib_core.proofs.Endings.{walk_ends}
use Rattle.fib_core_stands.proofs.Calm.{calm, leads_within}
use Rattle.fib_core_stands.proofs.Balances.{balance_follows, low16}
use Rattle.fib_core_stands.proofs.Nibbles.{below_masked, ply_root, ply_short, covering_best, no_longer, everything_entry}

module _ (cells : List ℕ) (names : Thing → ℕ) (S : Tables) (stands : StandsFor cells names S) (sound : IsSound S) (fine : (q : Prefix) → Contains (entries S) q → IsPrefix q) (a h : ℕ) (small : a < 2 ^ 32) where
  not_ended : (p : Place) (x : End) → IsGoing p → p ≡ ended x → ⊥
  not_ended p x going is = subst IsGoing is going

  -- the walk comes to the best entry's balance
  abbrev Comes : ℕ → End → Type 0
  Comes n x = (m : ℕ) × (m ≤ n) × (after cells a h m (balance (names (balance_of (best S a))) 0) ≡ ended x)

  comes_by : (n d : ℕ) (x : End) (b : Bool) → d ≤ 7 → is_member same_prefix (plies S) (masked a (4 * suc d)) ≡ b
      → ((e : End) → Contains (plies S) (masked a (4 * suc d)) → suc d ≤ 7 → after cells a h n (ply (names (ply_of (masked a (4 * suc d)))) (suc d)) ≡ ended x → Comes n x)
      → after cells a h n (from_ply d (if b then words.ToPly (names (ply_of (masked a (4 * suc d)))) else words.ToBalance (names (balance_of (covering S (masked a (4 * suc d))))))) ≡ ended x
      → Comes n x
  comes_by n d x true le is deeper at =
      let there : Contains (plies S) (masked a (4 * suc d)) = Contains-from_any (λ p q. (same_prefix-Decides p q).0) (masked a (4 * suc d)) (plies S) is in
      let short = ply_short S fine (masked a (4 * suc d)) there in
      let lt : nat_lt d 7 ≡ true = grind (arith, nat_tests) in
      deeper x there (omega arith) (ap (λ b. after cells a h n (if b then ply (names (ply_of (masked a (4 * suc d)))) (suc d) else ended answers.Drop)) (sym lt) ∙ at)
  comes_by n d x false le is deeper at =
      let c : covering S (masked a (4 * suc d)) ≡ best S a = covering_best S fine a small (4 * suc d) (omega arith) (no_longer S fine a small (suc d) (omega arith) is) in
      (n, omega arith, ap (λ e. after cells a h n (balance (names (balance_of e)) 0)) (sym c) ∙ at)

  more : (n : ℕ) (x : End) → Comes n x → Comes (suc n) x
  more n x c = let le = c.1 in (c.0, omega arith, c.2)

  comes : (n d : ℕ) (x : End) → d ≤ 7 → Contains (plies S) (masked a (4 * d)) → after cells a h n (ply (names (ply_of (masked a (4 * d)))) d) ≡ ended x → Comes n x
  comes zero d x le there at = absurd (not_ended (ply (names (ply_of (masked a (4 * d)))) d) x tt at)
  comes (suc n) d x le there at =
      let w : word_at cells (names (ply_of (masked a (4 * d)))) (nibble a d) ≡ ply_word names S (masked a (4 * suc d)) =
      stands.holds (ply_of (masked a (4 * d))) (nibble a d) there (low16 (a / 2 ^ (28 - 4 * d))) ∙ ap (ply_word names S) (below_masked d a le small) in
      more n x (comes_by n d x (is_member same_prefix (plies S) (masked a (4 * suc d))) le refl
      (λ e there' le' at'. comes n (suc d) x le' there' at')
      (ap (λ v. after cells a h n (from_ply d v)) (sym w) ∙ at))

  whole_masked : masked a 0 ≡ everything
  whole_masked = let z : a / 4294967296 * 4294967296 ≡ 0 = omega arith in ap (λ b. record { bits = b; len = 0 }) z

  best_there : Contains (entries S) (best S a)
  best_there = elim (best_longest S a small).member [
    | inl c ↦ c
    | inr e ↦ subst (Contains (entries S)) (sym e) (everything_entry S)
  ]

  -- where the steps end is where resolution ends
  pub arrives_resolved : (x : End) → Arrives cells a h root x → resolve S a h ≡ x
  unfolding resolve way
  arrives_resolved x (n, at) =
      let at' : after cells a h n (ply (names (ply_of (masked a 0))) 0) ≡ ended x = ap (λ (o : ℕ). after cells a h n (ply o 0)) (ap (λ p. names (ply_of p)) whole_masked ∙ stands.root) ∙ at in
      let c = comes n 0 x (omega arith) (subst (Contains (plies S)) (sym whole_masked) (ply_root S)) at' in
      let far : limit S ≤ c.0 + limit S = omega arith in
      ap (λ (t : Trip). t.end) (sym (follow-steady S sound (c.0 + limit S) (best S a) h far))
      ∙ balance_follows cells names S stands a h c.0 (best S a) 0 x (c.0 + limit S) best_there (omega arith) c.2

-- the walk is resolution
pub walk_resolved : (u : Union) (objects : ℕ) (names : Thing → ℕ) (S : Tables) → StandsFor u.cells names S → IsSound S → ((q : Prefix) → Contains (entries S) q → IsPrefix q)
    → length u.cells ≡ 16 * objects → (a h : ℕ) → IsFlow a h → walk u.cells a h ≡ resolve S a h
walk_resolved u objects names S stands sound fine long a h f =
    let root = stands.there (ply_of everything) (ply_root S) in
    let some : 0 < objects = omega arith in
    let alone : Union = record { cells = u.cells; retired = [] } in
    sym (arrives_resolved u.cells names S stands sound fine a h f.0 (walk u.cells a h)
    (walk_ends alone objects a h some (leads_within u.cells names S stands objects long) (calm u.cells names S stands sound objects long) long))
