-- Members as a test.
use Rattle.std.proofs.Common.{inl, inr, ⊎_elim, ◌≡◌, ◌≢◌, ◌⊎◌, ℕ, zero, suc, ◌<◌, Bool, true, false, true≢false, List, [], ◌∷◌, length, refl, sym, arith}
use Rattle.std.specs.Prelude.{Contains, ◌↔◌, slice_index_or}
use Rattle.std.specs.Set.{is_member}
use Rattle.std.proofs.lemmas.Map.Views.{Contains-from_any}
use Rattle.fib_base_list.proofs.Booleans.{or_left, or_right}
use Rattle.fib_addr.specs.Prefixes.{Prefix, same_prefix}
use Rattle.fib_addr.proofs.PrefixLaws.{same_prefix-Decides}

at_place : (xs : List Prefix) (e : Prefix) (k : ℕ) → k < length xs → slice_index_or xs k e ≡ e → is_member same_prefix xs e ≡ true
at_place [] e k lt is = absurd (omega arith)
at_place (x ∷ xs) e zero lt is = or_left (same_prefix e x) (is_member same_prefix xs e) ((same_prefix-Decides e x).1 (sym is))
at_place (x ∷ xs) e (suc k) lt is = or_right (same_prefix e x) (is_member same_prefix xs e) (at_place xs e k (omega arith) is)

pub there : (xs : List Prefix) (e : Prefix) → Contains xs e → is_member same_prefix xs e ≡ true
there xs e c = at_place xs e c.0 c.1 c.2

pub back : (xs : List Prefix) (e : Prefix) → is_member same_prefix xs e ≡ true → Contains xs e
back xs e h = Contains-from_any (λ x y. (same_prefix-Decides x y).0) e xs h

pub same_tests : (a b : Bool) → (a ≡ true → b ≡ true) → (b ≡ true → a ≡ true) → a ≡ b
same_tests true b f g = sym (f refl)
same_tests false true f g = absurd (true≢false (sym (g refl)))
same_tests false false f g = refl

none_of : (b : Bool) → (b ≡ true → ⊥) → b ≡ false
none_of true f = absurd (f refl)
none_of false f = refl

module _ (old new : List Prefix) (p : Prefix) where
  pub came_here : ((q : Prefix) → Contains new q ↔ Contains old q ⊎ (q ≡ p)) → is_member same_prefix new p ≡ true
  came_here h = there new p ((h p).1 (inr refl))

  pub came_others : ((q : Prefix) → Contains new q ↔ Contains old q ⊎ (q ≡ p)) → (d : Prefix) → (d ≡ p → ⊥) → is_member same_prefix new d ≡ is_member same_prefix old d
  came_others h d ne = same_tests (is_member same_prefix new d) (is_member same_prefix old d)
      (λ n. there old d (⊎_elim (λ (c : Contains old d). c) (λ (e : d ≡ p). absurd (ne e)) ((h d).0 (back new d n))))
      (λ o. there new d ((h d).1 (inl (back old d o))))

  pub went_here : ((q : Prefix) → Contains new q ↔ Contains old q × (q ≢ p)) → is_member same_prefix new p ≡ false
  went_here h = none_of (is_member same_prefix new p) (λ n. ((h p).0 (back new p n)).1 refl)

  pub went_others : ((q : Prefix) → Contains new q ↔ Contains old q × (q ≢ p)) → (d : Prefix) → (d ≡ p → ⊥) → is_member same_prefix new d ≡ is_member same_prefix old d
  went_others h d ne = same_tests (is_member same_prefix new d) (is_member same_prefix old d)
      (λ n. there old d ((h d).0 (back new d n)).0)
      (λ o. there new d ((h d).1 (back old d o, ne)))
