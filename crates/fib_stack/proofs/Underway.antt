-- A turn of an entry that is under way meets what its puts ask.
use Rattle.std.proofs.Common.{◌≡◌, ℕ, ◌<◌, ◌≤◌, inl, inr, ⊎_elim, true, List, refl, sym, ap, ◌∙◌, subst, arith}
use Rattle.std.specs.Prelude.{Option, Some, None, ◌⊎◌, slice_get}
use mathlib.Core.Logic.{dite}
use Rattle.fib_addr.specs.Prefixes.{Prefix}
use Rattle.fib_resolve.specs.Aims.{aim, marked_list}
use Rattle.fib_resolve.specs.declared.types.End.{End}
use Rattle.fib_resolve.specs.declared.types.End.TheVariants as answers
use Rattle.fib_resolve.specs.declared.types.Tables.{Tables}
use Rattle.fib_core.specs.declared.word.Word.{Word}
use Rattle.fib_pool.specs.declared.object.AdjacencyRecord.{AdjacencyRecord}
use Rattle.fib_resolve_changes.specs.Wanted.{aim_of}
use Rattle.fib_stack_ledger.specs.Ledgers.{times, used_by}
use Rattle.fib_core_promise.specs.Stack.{Objects, aim_word, is_some}
use Rattle.fib_core_steady.specs.Names.{Names}
use Rattle.fib_plane_view.specs.Promise.{Promise, Serves}
use Rattle.fib_plane_view.specs.View.{View, IsBalance, IsPlane, IsRecord}
use Rattle.fib_stack.specs.Buckets.{IsLooseBucket, recorded}
use Rattle.fib_stack.specs.Joined.{Parts, balance_in, state_in, table_of}
use Rattle.fib_stack.specs.Records.{holds_in}
use Rattle.fib_stack.specs.Runs.{AreReady, IsReady, word_in}
use Rattle.fib_stack.specs.Moments.{Moment}
use Rattle.fib_stack.specs.inner.Readied.{IsUnderway, names_for}
use Rattle.fib_stack.specs.declared.stack.Plan.{Plan}
use Rattle.fib_stack.proofs.Assembled.{aim_here, found_object, holds_hops, some_times}
use Rattle.fib_plane_view.proofs.Storing.{word_discrete}
use Rattle.fib_stack.proofs.Ending.{aim_possible}
use Rattle.fib_stack.proofs.Joining.{begun_of, table_names, word_ends, word_kind}
use Rattle.fib_stack.proofs.Keeping.{word_same}
use Rattle.fib_stack.proofs.Promising.{fresh_is_loose, turn_is_loose}
use Rattle.fib_stack.proofs.Settling.{aims_hop}

some_rank : (o : Option ℕ) → is_some o ≡ true → (r : ℕ) × (o ≡ Some r)
some_rank None h = absurd (cc)
some_rank (Some r) h = (r, refl)

module _ (S : Tables) (rank : Prefix → ℕ) (p : Promise) (v0 : View) (m2 : Moment) (plan : Plan) (h : IsUnderway S rank p v0 m2 plan) where
  abbrev v : View
  v = m2.view

  abbrev s : Parts
  s = m2.parts

  -- a change is being made
  pub waits : p.settled < p.applied
  waits = let q = some_rank _ h.least.queued in h.joined.waiting plan.entry q.0 q.1

  pub the_names : (n : Names) × (n.balance ≡ balance_in s) × Serves p n v0
  the_names = table_names p (table_of s) v0 h.joined.table

  abbrev now : Objects
  now = record { balance = balance_in s; record_of = recorded v }

  word_now : (k : ℕ) → aim_word (names_for s plan.uses.items) (aim_of (slice_get plan.wanted.items k)) ≡ aim_word now (aim S plan.entry k)
  word_now k =
      ap (aim_word (names_for s plan.uses.items)) (aim_here S rank p v0 m2 plan h.ranked h.joined.kept h.least h.readied k)
      ∙ word_same now (names_for s plan.uses.items) (aim S plan.entry k) (λ t is. refl)
      (λ i a x is. found_object v plan.uses.items i a x h.readied.objects (holds_hops plan.uses.items (marked_list S plan.entry) (answers.Hop i a x) h.readied.records ∙ aims_hop S plan.entry k i a x is))

  recorded_is : (end : End) (x : ℕ) → recorded v end ≡ Some x → IsRecord v x
  recorded_is answers.Drop x e = absurd (cc)
  recorded_is answers.Receive x e = absurd (cc)
  recorded_is (answers.Glean i) x e = absurd (cc)
  recorded_is (answers.Hop i a y) x e = (record { interface = i; next_hop = a; mac = y }, e)

  -- a record that the entry used has its object still
  records_stay : ((m : AdjacencyRecord) → times m (used_by (s.known plan.entry)) ≤ s.total m) → (end : End) → holds_in (used_by (s.known plan.entry)) end ≡ true → recorded v end ≡ recorded v0 end
  records_stay counted answers.Drop held = refl
  records_stay counted answers.Receive held = refl
  records_stay counted (answers.Glean i) held = refl
  records_stay counted (answers.Hop i a x) held =
      let m : AdjacencyRecord = record { interface = i; next_hop = a; mac = x } in
      h.readied.kept m (omega (arith, some_times (used_by (s.known plan.entry)) i a x held, counted m, h.joined.laid.counted m))

  loose_at : ((m : AdjacencyRecord) → times m (used_by (s.known plan.entry)) ≤ s.total m) → (k : ℕ) → k < 16 → (v.cell plan.object k ≡ aim_word now (aim S plan.entry k)) ⊎ IsLooseBucket p.versions (balance_in s) plan.object k
  loose_at counted k lt = ⊎_elim
      (λ (at : balance_in s plan.entry ≡ Some plan.object). dite (word_discrete (v.cell plan.object k) (aim_word now (aim S plan.entry k)))
      (λ is. inl is)
      (λ ne. inr (turn_is_loose p.versions S (h.joined.newest (begun_of p waits)) (state_in v0 s) now plan.entry plan.object k (h.joined.steady (begun_of p waits))
      (λ d x is mine. (h.joined.kept.placed plan.entry).apart d x mine is)
      (λ t is. refl)
      (records_stay counted)
      at lt (λ is. ne (h.readied.cells plan.object k (h.joined.laid.balances plan.entry plan.object at) ∙ is)))))
      (λ (new : (balance_in s plan.entry ≡ None) × (IsBalance v0 plan.object → ⊥)). inr (fresh_is_loose p.versions (balance_in s) plan.object k (λ d at. new.1 (h.joined.laid.balances d plan.object at))))
      h.readied.which

  pub ready : IsPlane v → ((m : AdjacencyRecord) → times m (used_by (s.known plan.entry)) ≤ s.total m) → (ws : List Word) → ((k : ℕ) → k < 16 → word_in ws k ≡ aim_word (names_for s plan.uses.items) (aim_of (slice_get plan.wanted.items k)))
      → AreReady p the_names.0 v plan.object 0 ws
  ready plane counted ws words = record {
    serves = h.readied.serves the_names.0 the_names.2;
    ready = λ k le lt.
        let is : aim_word now (aim S plan.entry k) ≡ word_in ws k = sym (words k lt ∙ word_now k) in
        subst (IsReady p the_names.0.balance v plan.object k) is
        (record {
          kind = word_kind v now plan.object h.readied.here (λ t x at. h.readied.stay x (h.joined.laid.balances t x at)) recorded_is (aim S plan.entry k);
          ends = word_ends p v now plane (aim S plan.entry k) (λ end at. (S, h.joined.newest (begun_of p waits), aim_possible S plan.entry k end at)) (λ i a x y at e. e);
          loose = subst (λ (f : Prefix → Option ℕ). (v.cell plan.object k ≡ aim_word now (aim S plan.entry k)) ⊎ IsLooseBucket p.versions f plan.object k) (sym the_names.1) (loose_at counted k lt);
        });
  }
