-- A prefix is touched for a cause: its own, or that of a changed entry to which it leads or which it needs.
use Rattle.std.proofs.Common.{arith, ◌≡◌, ◌≢◌, ℕ, zero, suc, Bool, true, false, not, ◌||◌, List, [], ◌∷◌, ◌⊎◌, inl, inr, refl, sym, ◌∙◌, ap, subst}
use Rattle.std.specs.Prelude.{Contains}
use Rattle.std.specs.List.{list_any, list_all}
use Rattle.std.specs.Set.{is_member}
use Rattle.std.proofs.lemmas.Bool.{false≢true}
use Rattle.fib_base_list.proofs.Lists.{either}
use Rattle.fib_reach.specs.Walks.{Next}
use Rattle.fib_base_list.proofs.Booleans.{or_cases}
use Rattle.fib_addr.specs.Prefixes.{Prefix, host, same_prefix}
use Rattle.fib_addr.proofs.PrefixLaws.{same_prefix-Decides}
use Rattle.fib_resolve.specs.Pairs.{pairs, chosen, cover, same_pair}
use Rattle.fib_resolve.specs.Loops.{targets, looped}
use Rattle.fib_resolve.specs.Forwarding.{is_met}
use Rattle.fib_resolve.specs.Tables.{IsSound}
use Rattle.fib_resolve.specs.Touched.{pairs_of, same_pairs, differ, kind_changes, is_touched}
use Rattle.fib_resolve.specs.declared.types.Path.{Path}
use Rattle.fib_resolve.specs.declared.types.PathKind.{PathKind}
use Rattle.fib_resolve.specs.declared.types.PathKind.TheVariants as kinds
use Rattle.fib_resolve.specs.declared.types.Need.{Need}
use Rattle.fib_resolve.specs.declared.types.Need.TheVariants as needs
use Rattle.fib_resolve.specs.declared.types.Tables.{Tables}
use Rattle.fib_resolve.proofs.LoopTests.{looped-Decides}
use Rattle.fib_resolve.proofs.Touching.{same_pair-Decides}
use Rattle.fib_resolve.proofs.Covering.{filter_in, filter_from}
use Rattle.fib_resolve_changes.specs.Sources.{SamePairs, SameEntry}
use Rattle.fib_resolve_changes.specs.Causes.{IsCaught, IsThrough, means_else, Cause, own, ends, needing, loops}
use Rattle.fib_resolve_changes.proofs.Walks.{walk_or}
use Rattle.fib_resolve_changes.proofs.SamePairs.{same_targets, same_met}

pub any_from : {X : Type 0} (test : X → Bool) (xs : List X) → list_any test xs ≡ true → (x : X) × Contains xs x × (test x ≡ true)
any_from test [] h = absurd (false≢true h)
any_from test (x ∷ xs) h =
    elim (or_cases (test x) (list_any test xs) h) [
      | inl here ↦ (x, (0, omega arith, refl), here)
      | inr later ↦ (let r = any_from test xs later in (r.0, (suc r.1.0, omega (arith, r.1.1), r.1.2), r.2))
    ]

any_in : {X : Type 0} (test : X → Bool) (xs : List X) (x : X) → Contains xs x → test x ≡ true → list_any test xs ≡ true
any_in test [] x c h = absurd (omega (arith, c.1))
any_in test (y ∷ ys) x (zero, lt, is) h = rw (ap test is ∙ h) refl
any_in test (y ∷ ys) x (suc k, lt, is) h = elim (either (test y)) [ inl yes_in ↦ rw yes_in refl | inr not_in ↦ rw not_in (any_in test ys x (k, omega (arith, lt), is) h) ]

all_in : {X : Type 0} (test : X → Bool) (xs : List X) → ((x : X) → Contains xs x → test x ≡ true) → list_all test xs ≡ true
all_in test [] h = refl
all_in test (x ∷ xs) h = rw (h x (0, omega arith, refl)) (all_in test xs (λ y c. h y (suc c.0, omega (arith, c.1), c.2)))

half : (S T : Tables) (e : Prefix) → SamePairs S T e → list_all (is_member same_pair (pairs_of T e)) (pairs_of S e) ≡ true
half S T e same = all_in (is_member same_pair (pairs_of T e)) (pairs_of S e) (λ x c.
    let r = filter_from (λ y. same_prefix e y.prefix) (pairs S) x c in
    let own = (same_prefix-Decides e x.prefix).0 r.1 in
    let there = filter_in (λ y. same_prefix e y.prefix) (pairs T) x ((same x own).0 r.0) r.1 in
    any_in (same_pair x) (pairs_of T e) x there ((same_pair-Decides x x).1 refl))

pub both_halves : (S T : Tables) (e : Prefix) → SamePairs S T e → same_pairs (pairs_of S e) (pairs_of T e) ≡ true
both_halves S T e same = rw (half S T e same) (half T S e (λ x p. ((same x p).1, (same x p).0)))

to_meaning : (S T : Tables) (e : Prefix) → SamePairs S T e → is_touched S T e ≡ true → list_any (λ p. kind_changes S T e p.need p.kind) (chosen S e) ≡ true
unfolding is_touched
to_meaning S T e same h = sym (ap (λ b. not b || list_any (λ p. kind_changes S T e p.need p.kind) (chosen S e)) (both_halves S T e same)) ∙ h

pub differ_self : (b : Bool) → differ b b ≡ true → ⊥
differ_self true h = false≢true h
differ_self false h = false≢true h

differ_cases : (b c : Bool) → differ b c ≡ true → ((b ≡ true) × (c ≡ false)) ⊎ ((b ≡ false) × (c ≡ true))
differ_cases true true h = absurd (false≢true h)
differ_cases true false h = inl (refl, refl)
differ_cases false true h = inr (refl, refl)
differ_cases false false h = absurd (false≢true h)

differ_same : (b c : Bool) → b ≡ c → differ b c ≡ true → ⊥
differ_same b c e h = differ_self c (subst (λ z. differ z c ≡ true) e h)

module _ (S T : Tables) (changed : Prefix → Bool) (sound_before : IsSound S) (sound : IsSound T) (caught : IsCaught S T changed) where
  stays : (x y : Prefix) → changed x ≡ false → Next (targets S) x y → Next (targets T) x y
  stays x y quiet c = subst (λ l. Contains l y) (same_targets S T x sound (caught x quiet)) c

  stayed : (x y : Prefix) → changed x ≡ false → Next (targets T) x y → Next (targets S) x y
  stayed x y quiet c = subst (λ l. Contains l y) (sym (same_targets S T x sound (caught x quiet))) c

  -- a mark changes only where a changed entry lies on the cycle, before or after
  pub marks_through : (e : Prefix) (a : ℕ) → differ (looped S e a) (looped T e a) ≡ true → IsThrough S changed e a ⊎ IsThrough T changed e a
  marks_through e a h =
      elim (differ_cases (looped S e a) (looped T e a) h) [
        | inl gone ↦ (let w = (looped-Decides S e a).0 gone.0 in
            elim (walk_or (Next (targets S)) (Next (targets T)) changed stays w.0 (host a) e w.1) [
              | inl still ↦ absurd (false≢true (sym gone.1 ∙ (looped-Decides T e a).1 (w.0, still)))
              | inr by ↦ inl (record { at = by.0; is_changed = by.1; there = by.2; back = by.3 })
            ])
        | inr come ↦ (let w = (looped-Decides T e a).0 come.1 in
            elim (walk_or (Next (targets T)) (Next (targets S)) changed stayed w.0 (host a) e w.1) [
              | inl still ↦ absurd (false≢true (sym come.0 ∙ (looped-Decides S e a).1 (w.0, still)))
              | inr by ↦ inr (record { at = by.0; is_changed = by.1; there = by.2; back = by.3 })
            ])
      ]

  need_through : (need : Need) (a : ℕ) → differ (is_met S need a) (is_met T need a) ≡ true → (need ≢ needs.Any) × (changed (host a) ≡ true)
  need_through need a h = (
    λ any. differ_self true (subst (λ n. differ (is_met S n a) (is_met T n a) ≡ true) any h),
    elim (either (changed (host a))) [
      | inl is ↦ is
      | inr isnt ↦ absurd (differ_same (is_met S need a) (is_met T need a) (same_met S T need a sound (caught (host a) isnt).pairs) h)
    ],
  )

  by_kind : (e : Prefix) (p : Path) (kind : PathKind) → SameEntry S T e → Contains (chosen S e) p → p.kind ≡ kind → kind_changes S T e p.need kind ≡ true → Cause S T changed e
  by_kind e p kinds.Drop same c is h = absurd (false≢true h)
  by_kind e p kinds.Local same c is h = absurd (false≢true h)
  by_kind e p (kinds.Attached i) same c is h = ends p c (ap (means_else S T e) is ∙ h)
  by_kind e p (kinds.Hop a i) same c is h = ends p c (ap (means_else S T e) is ∙ h)
  by_kind e p (kinds.Recursive a) same c is h =
      elim (or_cases (differ (looped S e a) (looped T e a)) (differ (is_met S p.need a) (is_met T p.need a)) h) [
        | inl mark ↦ loops p a c is (marks_through e a mark)
        | inr met ↦ (let n = need_through p.need a met in needing p a c is n.0 n.1)
      ]
  by_kind e p kinds.Cover same c is h =
      absurd (false≢true (sym (ap not ((same_prefix-Decides (cover S e.bits) (cover T e.bits)).1 (same.cover p c is))) ∙ h))

  -- a touched prefix has a cause
  pub touched_comes : (e : Prefix) → is_touched S T e ≡ true → Cause S T changed e
  touched_comes e h =
      elim (either (changed e)) [
        | inl is ↦ own is
        | inr isnt ↦ (let same = caught e isnt in
            let r = any_from (λ p. kind_changes S T e p.need p.kind) (chosen S e) (to_meaning S T e same.pairs h) in
            by_kind e r.0 r.0.kind same r.1 refl r.2)
      ]

pub touched_causes : (S T : Tables) (changed : Prefix → Bool) (e : Prefix) → IsSound S → IsSound T → IsCaught S T changed → is_touched S T e ≡ true → Cause S T changed e
touched_causes S T changed e before after caught h = touched_comes S T changed before after caught e h

pub marks_through_all : (S T : Tables) (changed : Prefix → Bool) → IsSound S → IsSound T → IsCaught S T changed → (e : Prefix) (a : ℕ) → differ (looped S e a) (looped T e a) ≡ true → IsThrough S changed e a ⊎ IsThrough T changed e a
marks_through_all S T changed before after caught e a h = marks_through S T changed before after caught e a h
