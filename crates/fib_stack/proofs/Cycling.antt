-- With nothing queued and nothing retired, no word that a bucket wants closes a cycle.
use Rattle.std.proofs.Common.{◌≡◌, ℕ, zero, suc, ◌<◌, ◌≤◌, inl, inr, ⊎_elim, Bool, false, true≢false, List, [], Option, Some, None, refl, sym, ap, ◌∙◌, subst, arith}
use Rattle.std.specs.Prelude.{Contains, ◌⊎◌}
use Rattle.fib_base_list.proofs.Lists.{Contains-nil}
use Rattle.fib_addr.specs.Prefixes.{Prefix}
use Rattle.fib_reach.specs.Walks.{Walk}
use Rattle.fib_resolve.specs.Aims.{marked_list}
use Rattle.fib_resolve.specs.declared.aims.Aim.{Aim}
use Rattle.fib_resolve.specs.declared.aims.Aim.TheVariants as aims
use Rattle.fib_resolve.specs.declared.types.End.{End}
use Rattle.fib_resolve.specs.declared.types.End.TheVariants as answers
use Rattle.fib_resolve.specs.declared.types.Tables.{Tables}
use Rattle.fib_core.specs.declared.word.Word.{Word}
use Rattle.fib_resolve_changes.specs.Ranks.{IsRanked}
use Rattle.fib_resolve_changes.specs.Wanted.{aim_by}
use Rattle.fib_core_promise.specs.Stack.{Objects, aim_word, to_balance, to_adjacency}
use Rattle.fib_plane_view.specs.View.{View, Retired, Goes, Edge, IsRecord, IsBalance, IsPlane, Closes, leads}
use Rattle.fib_stack.specs.States.{Fits, Kept}
use Rattle.fib_stack.specs.Buckets.{recorded, state_of}
use Rattle.fib_stack.proofs.Aiming.{bucket_on}

module _ (v : View) (balances : Prefix → Option ℕ) where
  abbrev pub names : Objects
  names = record { balance = balances; record_of = recorded v }

  abbrev pub LeadsOn : Aim → ℕ → Type 0
  LeadsOn m y = ((t : Prefix) × (m ≡ aims.On t) × (balances t ≡ Some y)) ⊎ IsRecord v y

  by_balance : (t : Prefix) (y : ℕ) (o : Option ℕ) → balances t ≡ o → leads (to_balance o) y → LeadsOn (aims.On t) y
  by_balance t y None is l = absurd l
  by_balance t y (Some x) is l = inl (t, refl, is ∙ ap Some l)

  by_record : (i a : ℕ) (m : Option ℕ) (y : ℕ) (o : Option ℕ) → recorded v (answers.Hop i a m) ≡ o → leads (to_adjacency o) y → LeadsOn (aims.Ends (answers.Hop i a m)) y
  by_record i a m y None is l = absurd l
  by_record i a m y (Some x) is l = inr (record { interface = i; next_hop = a; mac = m }, is ∙ ap Some l)

  -- what an aim's word leads to
  word_leads : (m : Aim) (y : ℕ) → leads (aim_word names m) y → LeadsOn m y
  word_leads (aims.Ends answers.Drop) y l = absurd l
  word_leads (aims.Ends answers.Receive) y l = absurd l
  word_leads (aims.Ends (answers.Glean i)) y l = absurd l
  word_leads (aims.Ends (answers.Hop i a m)) y l = by_record i a m y (recorded v (answers.Hop i a m)) refl l
  word_leads (aims.On t) y l = by_balance t y (balances t) refl l

module _ (S : Tables) (rank : Prefix → ℕ) (v : View) (balances : Prefix → Option ℕ) (was : Prefix → Bool) (late : Prefix → ℕ → Option Word) (holds : Prefix → End → Bool) (queued : Prefix → Bool)
    (sound : IsRanked S rank) (kept : Kept S (state_of v balances was late holds queued)) (plane : IsPlane v)
    (held : (e : Prefix) (o : ℕ) → balances e ≡ Some o → IsBalance v o)
    (calm : (e : Prefix) → queued e ≡ false) (passed : v.retired ≡ []) where
  current : (o k : ℕ) (w : Word) → Goes v o k w → v.cell o k ≡ w
  current o k w (inl c) = c
  current o k w (inr r) = absurd (Contains-nil (record { from = o; slot = k; word = w }) (subst (λ (rs : List Retired). Contains rs (record { from = o; slot = k; word = w })) passed r))

  no_out : (y z : ℕ) → IsRecord v y → Edge v y z → ⊥
  no_out y z r c = plane.plain r.0 y c.0 z r.1 (subst (λ (w : Word). leads w z) (sym (current y c.0 c.1 c.3)) c.2)

  not_both : (e : Prefix) (y : ℕ) → balances e ≡ Some y → IsRecord v y → ⊥
  not_both e y at r = true≢false (sym (held e y at).0 ∙ (plane.records r.0 y r.1).0)

  -- the entry at which a bucket's word leads has a smaller rank
  falls : (e t : Prefix) (k : ℕ) → aim_by was (marked_list S e) k ≡ aims.On t → rank t < rank e
  falls e t k is = (sound.falls e t (sound.woken e t (bucket_on was (marked_list S e) k t is).0)).1

  fits_leads : (l : Option Word) (c w : Word) (y : ℕ) → Fits l c w → leads c y → leads w y
  fits_leads None c w y f l = subst (λ (z : Word). leads z y) f l
  fits_leads (Some x) c w y f l = absurd (subst (λ (z : Word). leads z y) f.1 l)

  step : (e : Prefix) (o y : ℕ) → balances e ≡ Some o → Edge v o y → ((t : Prefix) × (balances t ≡ Some y) × (rank t < rank e)) ⊎ IsRecord v y
  step e o y at c =
      let lt = plane.slots o c.0 y c.1 c.2 c.3 in
      let l : leads (v.cell o c.0) y = subst (λ (w : Word). leads w y) (sym (current o c.0 c.1 c.3)) c.2 in
      let m = aim_by was (marked_list S e) c.0 in
      let there = word_leads v balances m y (fits_leads (late e c.0) (v.cell o c.0) (aim_word (names v balances) m) y ((kept.done e (calm e)).filled o c.0 at lt) l) in
      ⊎_elim
      (λ (t : (x : Prefix) × (m ≡ aims.On x) × (balances x ≡ Some y)). inl (t.0, t.2, falls e t.0 c.0 t.1))
      (λ (r : IsRecord v y). inr r)
      there

  from_record : (n : ℕ) (e : Prefix) (y o : ℕ) → IsRecord v y → balances e ≡ Some o → Walk (Edge v) n y o → ⊥
  from_record zero e y o r at w = not_both e o at (subst (IsRecord v) w r)
  from_record (suc n) e y o r at w = no_out y w.0 r w.1

  walk_falls : (n : ℕ) (e d : Prefix) (o p : ℕ) → balances e ≡ Some o → balances d ≡ Some p → Walk (Edge v) n o p → rank d ≤ rank e
  walk_falls zero e d o p at there w =
      let same : d ≡ e = (kept.placed e).apart d o at (there ∙ ap Some (sym w)) in
      let eq : rank d ≡ rank e = ap rank same in omega (arith, eq)
  walk_falls (suc n) e d o p at there w = ⊎_elim
      (λ (t : (x : Prefix) × (balances x ≡ Some w.0) × (rank x < rank e)). let le : rank d ≤ rank t.0 = walk_falls n t.0 d w.0 p t.1 there w.2 in let lt : rank t.0 < rank e = t.2 in omega (arith, le, lt))
      (λ (r : IsRecord v w.0). absurd (from_record n d w.0 p r there w.2))
      (step e o w.0 at w.1)

  pub closes_none : (e : Prefix) (o k : ℕ) → balances e ≡ Some o → Closes v o (aim_word (names v balances) (aim_by was (marked_list S e) k)) → ⊥
  closes_none e o k at c = ⊎_elim
      (λ (t : (x : Prefix) × (aim_by was (marked_list S e) k ≡ aims.On x) × (balances x ≡ Some c.0)).
      let le : rank e ≤ rank t.0 = walk_falls c.2.0 t.0 e c.0 o t.2 at c.2.1 in
      let lt : rank t.0 < rank e = falls e t.0 k t.1 in
      absurd (omega (arith, le, lt)))
      (λ (r : IsRecord v c.0). from_record c.2.0 e c.0 o r at c.2.1)
      (word_leads v balances (aim_by was (marked_list S e) k) c.0 c.1)
