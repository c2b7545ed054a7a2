-- The two halves of a store give all that the store asks.
use Rattle.std.proofs.Common.{◌≡◌, ◌≢◌, ◌≤◌, ◌<◌, ◌⊎◌, ◌%◌, inl, inr, ⊎_elim, true, false, ℕ, zero, suc, List, refl, sym, ap, ◌∙◌, subst, arith}
use Rattle.std.specs.Prelude.{slice_index_or}
use Rattle.std.proofs.lemmas.Bool.{cases_eq}
use Rattle.fib_reach.proofs.Walking.{leads-map}
use Rattle.fib_union.specs.Unions as edges
use Rattle.fib_union.specs.Unions.{owner}
use Rattle.fib_union.proofs.Counts.{has_in_counted, counted_has_in}
use Rattle.fib_core.specs.declared.word.Word.{Word}
use Rattle.fib_core.specs.declared.word.Word.TheVariants as words
use Rattle.fib_core.specs.Words.{encoded, decoded, goes, target}
use Rattle.fib_core.specs.Walk.{EndsIn}
use Rattle.fib_core.specs.Union.{Edge, IsPlyWord, HasForm, edges_of}
use Rattle.fib_core.specs.Trails.{IsEndOf}
use Rattle.fib_core.proofs.Numbers.{decoded_encoded}
use Rattle.fib_core.proofs.Unions.{edge_in_of, edge_edges}
use Rattle.fib_core_lawful.specs.State.{Control, View, control}
use Rattle.fib_core_lawful.specs.Frame.{HasView}
use Rattle.fib_core_lawful.specs.May.{MayLead}
use Rattle.fib_core_rule.specs.Rule.{IsLawful}
use Rattle.fib_core_rule.specs.May.{MayStore}
use Rattle.fib_core_rule.specs.Steady.{MayStoreSteadily}
use Rattle.fib_core_rule.specs.Change.{IsReached, MayPlace, MayChange}
use Rattle.fib_core_rule.proofs.Steps.{zero_version}
use Rattle.fib_core_rule.proofs.Keeping.{here}
use Rattle.fib_core_rule.proofs.Tells.{drop_aside}

-- of a word that is no Drop, or in an object that passes may reach
module _ (c : Control) (k : ℕ) (w : Word) (order : c.log.version.settled ≤ c.log.version.applied) (plane : MayPlace c k w) (change : MayChange c k w) where
  back : decoded (encoded w) ≡ w
  back = decoded_encoded w change.roomy

  lead : goes (encoded w) ≡ true → MayLead c.objects c.union k (encoded w)
  lead going = (let to = plane.target (target (encoded w)) (edge_in_of (encoded w) going) in let enter = change.edge going in record {
    within = to.0;
    away = enter.away;
    apart = λ l. to.1 (leads-map (Edge c.union) (edges.Edge (edges_of c.union)) (edge_edges c.union) (target (encoded w)) (owner k) l);
    one_tag = enter.one_tag;
    formed = enter.formed;
    plies = enter.plies;
    shallow = enter.shallow;
    others = enter.others;
  })

  pub halves_give : MayStore c k (encoded w)
  halves_give = record {
    lawful = record {
      inside = plane.inside;
      word = (w, change.roomy, refl);
      other = λ e. plane.other (ap decoded e ∙ back);
      root = λ z. subst (λ (x : Word). IsPlyWord x ⊎ (x ≡ words.Drop)) (sym back) (change.root z);
      form = λ j v g e. subst (HasForm (decoded v) (k % 16)) (sym back) (change.form j v g e);
      whole = change.whole;
      edge = lead;
      end = subst (EndsIn (IsEndOf c.log.history c.log.version.settled c.log.version.applied) c.union.cells) (sym back) change.end;
      during = ⊎_elim
          (λ (lt : c.log.version.settled < c.log.version.applied). inl lt)
          (λ (q : (c.log.version.applied ≡ 0) × ((n : ℕ) → slice_index_or c.desk.out n false ≡ false)). inr (record { fresh = zero_version c.log.version order q.0; home = q.1; drops = change.drops q.0 }))
          plane.allowed;
    };
    steady = change.steady;
    rooted = change.rooted;
  }

drop_or_not : (w : Word) → (w ≡ words.Drop) ⊎ (w ≡ words.Drop → ⊥)
drop_or_not words.Drop = inl refl
drop_or_not words.Receive = inr (λ e. cc)
drop_or_not (words.Glean i) = inr (λ e. cc)
drop_or_not (words.ToPly o) = inr (λ e. cc)
drop_or_not (words.ToBalance o) = inr (λ e. cc)
drop_or_not (words.ToAdjacency o) = inr (λ e. cc)
drop_or_not (words.Plain n) = inr (λ e. cc)

encoded_drop : encoded words.Drop ≡ 0
unfolding encoded
encoded_drop = refl

decoded_zero : decoded 0 ≡ words.Drop
decoded_zero = ap decoded (sym encoded_drop) ∙ decoded_encoded words.Drop tt

none_or_some : (n : ℕ) → (n ≡ 0) ⊎ (0 < n)
none_or_some zero = inl refl
none_or_some (suc n) = inr (omega arith)

module _ (objects : ℕ) (numbers : List ℕ) (views : List View) (s : IsLawful objects numbers views) (seat : ℕ) (c : Control) (mine : HasView views seat (control c)) (k : ℕ) (w : Word) (plane : MayPlace c k w)
    (steadily : w ≡ words.Drop → (IsReached c (owner k) → ⊥) → MayStoreSteadily c k (encoded w)) (seen : (w ≡ words.Drop → IsReached c (owner k)) → MayChange c k w) where
  with_seen : (w ≡ words.Drop → IsReached c (owner k)) → MayStore c k (encoded w)
  with_seen reached = halves_give c k w (here objects numbers views seat s c mine).0.0.log.order plane (seen reached)

  unreached : w ≡ words.Drop → owner k ≢ 0 → edges.into (edges_of c.union) (owner k) ≡ 0 → MayStore c k (encoded w)
  unreached is other none = subst (MayStore c k) (sym (ap encoded is ∙ encoded_drop))
      (drop_aside objects numbers views s seat c mine k plane.inside (λ z. plane.other (ap decoded z ∙ decoded_zero ∙ sym is)) other none plane.allowed (subst (MayStoreSteadily c k) (ap encoded is ∙ encoded_drop) (steadily is not_reached)))
    where
      not_reached : IsReached c (owner k) → ⊥
      not_reached (inl z) = other z
      not_reached (inr h) = (let more = has_in_counted (edges_of c.union) (owner k) h in absurd (let bad : ⊥ = omega arith in bad))

  by_object : w ≡ words.Drop → MayStore c k (encoded w)
  by_object is = elim (cases_eq (owner k) 0) [
    | inl top ↦ with_seen (λ e. inl top)
    | inr other ↦ elim (none_or_some (edges.into (edges_of c.union) (owner k))) [
      | inl none ↦ unreached is other none
      | inr more ↦ with_seen (λ e. inr (counted_has_in (edges_of c.union) (owner k) more))
    ]
  ]

  pub store_gives : MayStore c k (encoded w)
  store_gives = ⊎_elim by_object (λ (ne : w ≡ words.Drop → ⊥). with_seen (λ is. absurd (ne is))) (drop_or_not w)
