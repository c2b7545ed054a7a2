-- Beside the part to which changed entries lead, no mark of a loop is another and no edge; and ranks that are lowered in the part alone fall.
use Rattle.std.proofs.Common.{arith, ◌≡◌, ℕ, zero, suc, ◌<◌, ◌≤◌, Bool, true, false, not, [], ◌∷◌, inl, inr, refl, sym, ◌∙◌, ap, subst}
use Rattle.std.specs.Prelude.{Contains}
use Rattle.std.proofs.lemmas.Bool.{false≢true}
use Rattle.fib_base_list.proofs.Lists.{either, Contains-flat_map}
use Rattle.fib_reach.specs.Walks.{Walk, Next}
use Rattle.fib_addr.specs.Prefixes.{Prefix, host}
use Rattle.fib_resolve.specs.Pairs.{entries, chosen}
use Rattle.fib_resolve.specs.Loops.{targets, looped, looped_kind, is_kept, kind_targets, Kept}
use Rattle.fib_resolve.specs.Tables.{IsSound}
use Rattle.fib_resolve.specs.Touched.{differ, is_touched}
use Rattle.fib_resolve.specs.declared.types.Path.{Path}
use Rattle.fib_resolve.specs.declared.types.PathKind.{PathKind}
use Rattle.fib_resolve.specs.declared.types.PathKind.TheVariants as kinds
use Rattle.fib_resolve.specs.declared.types.Tables.{Tables}
use Rattle.fib_resolve.proofs.KeptEdges.{kept_target}
use Rattle.fib_resolve_changes.specs.Causes.{IsThrough, Cause, own, ends, needing, loops}
use Rattle.fib_resolve_changes.specs.Ranks.{Falls}
use Rattle.fib_resolve_changes.specs.Reached.{IsReached, HoldsTouched}
use Rattle.fib_resolve_changes.specs.Sources.{SameEntry}
use Rattle.fib_resolve_changes.proofs.CauseLaws.{marks_through_all, touched_causes}
use Rattle.fib_resolve_changes.proofs.Edits.{in_front}
use Rattle.fib_resolve_changes.proofs.SamePairs.{same_chosen}
use Rattle.fib_resolve_changes.proofs.Targets.{edge_entry}

-- only free entries lead to free ones
pub free_back : (S : Tables) (free : Prefix → Bool) → ((x y : Prefix) → free y ≡ true → Contains (targets S x) y → free x ≡ true) → (n : ℕ) (x y : Prefix)
    → free y ≡ true → Walk (Next (targets S)) n x y → free x ≡ true
free_back S free back zero x y is w = subst (λ z. free z ≡ true) (sym w) is
free_back S free back (suc n) x y is w = back x w.0 (free_back S free back n w.0 y is w.2) w.1

clash : (b : Bool) → b ≡ true → b ≡ false → ⊥
clash b is isnt = false≢true (sym isnt ∙ is)

-- a part that is closed under edges, but for those of free entries, has the ends of walks that begin at others
walked : (S : Tables) (part free : Prefix → Bool) → ((x y : Prefix) → free y ≡ true → Contains (targets S x) y → free x ≡ true)
    → ((x y : Prefix) → part x ≡ true → free x ≡ false → Contains (targets S x) y → part y ≡ true) → (n : ℕ) (x y : Prefix) → part x ≡ true
    → free x ≡ false → Walk (Next (targets S)) n x y → part y ≡ true
walked S part free back closed zero x y is off w = subst (λ z. part z ≡ true) w is
walked S part free back closed (suc n) x y is off w =
    walked S part free back closed n w.0 y (closed x w.0 is off w.1) (elim (either (free w.0)) [
      | inl on ↦ absurd (clash (free x) (back x w.0 on w.1) off)
      | inr none ↦ none
    ]) w.2

-- where an edge closes the cycle
through_in : (S : Tables) (changed part free : Prefix → Bool) → ((e : Prefix) → changed e ≡ true → part e ≡ true) → ((e : Prefix) → free e ≡ true → part e ≡ true)
    → ((x y : Prefix) → free y ≡ true → Contains (targets S x) y → free x ≡ true)
    → ((x y : Prefix) → part x ≡ true → free x ≡ false → Contains (targets S x) y → part y ≡ true)
    → (e : Prefix) (a : ℕ) → Contains (targets S e) (host a) → IsThrough S changed e a → part e ≡ true
through_in S changed part free has has_free back closed e a edge t = elim (either (free t.at)) [
  | inl on ↦ has_free e (back e (host a) (free_back S free back t.there.0 (host a) t.at on t.there.1) edge)
  | inr off ↦ walked S part free back closed (suc t.back.0) t.at e (has t.at t.is_changed) off t.back.1
]

hop_edge : (S : Tables) (e : Prefix) (p : Path) (a : ℕ) → Contains (chosen S e) p → p.kind ≡ kinds.Recursive a → Contains (targets S e) (host a)
unfolding targets
hop_edge S e p a c kind =
    Contains-flat_map (λ q. kind_targets S e q.kind) (chosen S e) p (host a) c
    (subst (λ k. Contains (kind_targets S e k) (host a)) (sym kind) (in_front (host a) (host a) [] refl))

same_if : (b c : Bool) → (differ b c ≡ true → ⊥) → b ≡ c
same_if true true h = refl
same_if true false h = absurd (h refl)
same_if false true h = absurd (h refl)
same_if false false h = refl

module _ (S T : Tables) (changed part : Prefix → Bool) (sound_before : IsSound S) (sound : IsSound T) (h : IsReached S T changed part) where
  pub unchanged : (e : Prefix) → part e ≡ false → changed e ≡ false
  unchanged e off = elim (either (changed e)) [ inl is ↦ absurd (clash (part e) (h.has e is) off) | inr isnt ↦ isnt ]

  same_list : (e : Prefix) → part e ≡ false → chosen S e ≡ chosen T e
  same_list e off = same_chosen S T e sound (h.caught e (unchanged e off)).pairs

  -- for a next hop that a path of the chosen list has
  pub looped_beside : (e : Prefix) (p : Path) (a : ℕ) → Contains (chosen S e) p → p.kind ≡ kinds.Recursive a → part e ≡ false → looped S e a ≡ looped T e a
  looped_beside e p a c kind off = same_if (looped S e a) (looped T e a) (λ d. elim (marks_through_all S T changed sound_before sound h.caught e a d) [
    | inl before ↦ clash (part e) (through_in S changed part h.free h.has h.has_free h.free_before h.before e a (hop_edge S e p a c kind) before) off
    | inr after ↦ clash (part e) (through_in T changed part h.free h.has h.has_free h.free_after h.after e a (hop_edge T e p a (subst (λ l. Contains l p) (same_list e off) c) kind) after) off
  ])

  -- an edge that is left after the change was left before it
  pub kept_beside : (e t : Prefix) → part e ≡ false → Kept T e t → Kept S e t
  kept_beside e t off k =
      let there : Contains (chosen S e) k.0 = subst (λ l. Contains l k.0) (sym (same_list e off)) k.1 in
      (k.0, there, by k.0.kind (ap (not) (kind_beside k.0 there k.0.kind refl)) k.2, ends_at k.0 there k.0.kind refl k.3)
    where
      kind_beside : (p : Path) → Contains (chosen S e) p → (kind : PathKind) → p.kind ≡ kind → looped_kind S e kind ≡ looped_kind T e kind
      kind_beside p c (kinds.Recursive a) is = looped_beside e p a c is off
      kind_beside p c kinds.Drop is = refl
      kind_beside p c kinds.Local is = refl
      kind_beside p c (kinds.Attached i) is = refl
      kind_beside p c (kinds.Hop a i) is = refl
      kind_beside p c kinds.Cover is = refl

      by : (kind : PathKind) → is_kept S e kind ≡ is_kept T e kind → is_kept T e kind ≡ true → is_kept S e kind ≡ true
      by kind one two = one ∙ two

      ends_at : (p : Path) → Contains (chosen S e) p → (kind : PathKind) → p.kind ≡ kind → Contains (kind_targets T e kind) t → Contains (kind_targets S e kind) t
      ends_at p c (kinds.Recursive a) is d = d
      ends_at p c kinds.Drop is d = d
      ends_at p c kinds.Local is d = d
      ends_at p c (kinds.Attached i) is d = d
      ends_at p c (kinds.Hop a i) is d = d
      ends_at p c kinds.Cover is d = subst (λ z. Contains (z ∷ []) t) (sym ((h.caught e (unchanged e off)).cover p c is)) d

  pub falls_lowered : (old new : Prefix → ℕ) → Falls S old → ((e : Prefix) → part e ≡ false → new e ≡ old e) → ((x e : Prefix) → part x ≡ false → Contains (targets T x) e → Contains (entries S) e → new e ≤ old e)
      → ((e t : Prefix) → part e ≡ true → Kept T e t → new t < new e) → Falls T new
  falls_lowered old new fall same low inside e t k = elim (either (part e)) [
    | inl is ↦ inside e t is k
    | inr off ↦ (let was = kept_beside e t off k in
        let lt = fall e t was in
        let here = same e off in
        let there = low e t off (kept_target T e t k) (edge_entry S e t (kept_target S e t was)) in
        omega (arith, lt, here, there))
  ]

pub lowered_fall : (S T : Tables) (changed part : Prefix → Bool) (old new : Prefix → ℕ) → IsSound S → IsSound T → IsReached S T changed part → Falls S old
    → ((e : Prefix) → part e ≡ false → new e ≡ old e) → ((x e : Prefix) → part x ≡ false → Contains (targets T x) e → Contains (entries S) e → new e ≤ old e)
    → ((e t : Prefix) → part e ≡ true → Kept T e t → new t < new e) → Falls T new
lowered_fall S T changed part old new before sound h fall same low inside = falls_lowered S T changed part before sound h old new fall same low inside

-- beside what a change can touch nothing is touched
module _ (S T : Tables) (changed part written : Prefix → Bool) (sound_before : IsSound S) (sound : IsSound T) (h : HoldsTouched S T changed part written) where
  by_cause : (e : Prefix) → Cause S T changed e → written e ≡ true
  by_cause e (own is) = h.has_part e (h.reached.has e is)
  by_cause e (ends p c means) = h.ends e p c means
  by_cause e (needing p a c kind need is) = h.needing e p a c kind need is
  by_cause e (loops p a c kind (inl t)) = h.has_part e (through_in S changed part h.reached.free h.reached.has h.reached.has_free h.reached.free_before h.reached.before e a (hop_edge S e p a c kind) t)
  by_cause e (loops p a c kind (inr t)) = elim (either (part e)) [
    | inl is ↦ h.has_part e is
    | inr off ↦ h.has_part e (through_in T changed part h.reached.free h.reached.has h.reached.has_free h.reached.free_after h.reached.after e a
        (hop_edge T e p a (subst (λ l. Contains l p) (same_list S T changed part sound_before sound h.reached e off) c) kind) t)
  ]

  pub quiet : (e : Prefix) → written e ≡ false → is_touched S T e ≡ false
  quiet e off = elim (either (is_touched S T e)) [
    | inl is ↦ absurd (clash (written e) (by_cause e (touched_causes S T changed e sound_before sound h.reached.caught is)) off)
    | inr isnt ↦ isnt
  ]

  pub entry_same : (e : Prefix) → written e ≡ false → SameEntry S T e
  entry_same e off = h.reached.caught e (elim (either (changed e)) [
    | inl is ↦ absurd (clash (written e) (h.has_part e (h.reached.has e is)) off)
    | inr isnt ↦ isnt
  ])

pub quiet_beside : (S T : Tables) (changed part written : Prefix → Bool) → IsSound S → IsSound T → HoldsTouched S T changed part written → (e : Prefix) → written e ≡ false → (is_touched S T e ≡ false) × SameEntry S T e
quiet_beside S T changed part written before sound h e off = (quiet S T changed part written before sound h e off, entry_same S T changed part written before sound h e off)
