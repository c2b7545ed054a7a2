-- The steps of a turn of a prefix that left make a turn of the definition.
use Rattle.std.proofs.Common.{◌≡◌, ℕ, ◌<◌, ◌≤◌, true, refl, sym, ap, ◌∙◌, subst, arith}
use Rattle.std.specs.Prelude.{Option, Some, None}
use mathlib.Core.Logic.{dite}
use Rattle.fib_addr.specs.Prefixes.{Prefix}
use Rattle.fib_resolve.specs.declared.types.End.{End}
use Rattle.fib_resolve.specs.declared.types.End.TheVariants as answers
use Rattle.fib_resolve.specs.declared.types.Tables.{Tables}
use Rattle.fib_pool.specs.declared.object.AdjacencyRecord.{AdjacencyRecord}
use Rattle.fib_stack_ledger.specs.declared.ledger.Known.{Known}
use Rattle.fib_stack_ledger.specs.Ledgers.{forwarded_by, times, used_by}
use Rattle.fib_core_promise.specs.Stack.{is_some}
use Rattle.fib_plane_view.specs.View.{View, IsBalance}
use Rattle.fib_stack.specs.Buckets.{recorded}
use Rattle.fib_stack.specs.Joined.{IsLaid, Parts, balance_in, holds_by, state_in}
use Rattle.fib_stack.specs.Records.{AreObjects, holds_in}
use Rattle.fib_stack.specs.States.{Kept}
use Rattle.fib_stack.specs.Steps.{Removed}
use Rattle.fib_stack.specs.Moments.{Moment, state_at}
use Rattle.fib_stack.specs.inner.Leaving.{IsLeft}
use Rattle.fib_stack.proofs.Assembled.{holds_hop_only, some_times}
use Rattle.fib_stack.proofs.Keeping.{prefix_discrete}
use Rattle.fib_stack.proofs.Listing.{objects_kept}

module _ (S : Tables) (m0 : Moment) (v1 : View) (m2 : Moment) (e : Prefix) (kept : Kept S (state_at m0)) (laid : IsLaid m0.view m0.parts) (d : IsLeft e m0 v1 m2) where
  abbrev v0 : View
  v0 = m0.view

  abbrev v2 : View
  v2 = m2.view

  abbrev s : Parts
  s = m0.parts

  abbrev t : Parts
  t = m2.parts

  users1 : (m : AdjacencyRecord) → v1.users m ≡ v0.users m
  users1 m = ap (λ (g : AdjacencyRecord → ℕ). g m) d.went.records.users

  counted : (m : AdjacencyRecord) → v2.users m ≡ t.total m
  counted m = omega (arith, d.back.users m, users1 m, laid.counted m, d.totals m)

  used : (x : Prefix) (i a : ℕ) (y : Option ℕ) → holds_by t x (answers.Hop i a y) ≡ true → 0 < v2.users (record { interface = i; next_hop = a; mac = y })
  used x i a y h =
      let m : AdjacencyRecord = record { interface = i; next_hop = a; mac = y } in
      omega (arith, some_times (used_by (t.known x)) i a y h, d.counted1 x m, counted m)

  records0 : (m : AdjacencyRecord) → 0 < v2.users m → v2.record_of m ≡ v0.record_of m
  records0 m left = d.back.kept m left ∙ ap (λ (g : AdjacencyRecord → Option ℕ). g m) d.went.records.record_of

  -- another prefix's balance stays
  stays : (c : Prefix) (x : ℕ) → (c ≡ e → ⊥) → balance_in s c ≡ Some x → IsBalance v1 x
  stays c x ne at = d.went.stay x (λ is. ne ((kept.placed e).apart c x is at)) (laid.balances c x at)

  held_hop : (c : Prefix) (end : End) → holds_by t c end ≡ true → is_some (recorded v2 end) ≡ true
  held_hop c answers.Drop h = absurd (holds_hop_only (used_by (t.known c)) answers.Drop tt h)
  held_hop c answers.Receive h = absurd (holds_hop_only (used_by (t.known c)) answers.Receive tt h)
  held_hop c (answers.Glean i) h = absurd (holds_hop_only (used_by (t.known c)) (answers.Glean i) tt h)
  held_hop c (answers.Hop i a x) h =
      let q = d.plane.recorded (record { interface = i; next_hop = a; mac = x }) (used c i a x h) in ap is_some q.1

  same_hop : (c b : Prefix) (end : End) → holds_by t c end ≡ true → holds_by s b end ≡ true → recorded v2 end ≡ recorded v0 end
  same_hop c b answers.Drop h h' = refl
  same_hop c b answers.Receive h h' = refl
  same_hop c b (answers.Glean i) h h' = refl
  same_hop c b (answers.Hop i a x) h h' = records0 (record { interface = i; next_hop = a; mac = x }) (used c i a x h)

  pub removed : Removed e (state_in v0 s) (state_in v2 t)
  removed = record {
    gone = d.balance;
    others = d.others_balance;
    forwarded = ap forwarded_by d.known;
    others_was = λ c ne. ap forwarded_by (d.others_known c ne);
    late = d.late;
    others_cell = λ c x k ne at. d.back.balances.cells x k (stays c x ne at) ∙ d.went.cells x k (laid.balances c x at) (stays c x ne at);
    others_late = d.others_late;
    holding = λ end. ap (λ q. holds_in (used_by q) end) d.known;
    others_holding = λ c end ne. ap (λ q. holds_in (used_by q) end) (d.others_known c ne);
    held = held_hop;
    same_record = same_hop;
    queue = d.queue;
  }

  objects_there : (c : Prefix) → AreObjects v2 (used_by (t.known c))
  objects_there c = dite (prefix_discrete c e)
      (λ is. subst (λ (q : Option Known). AreObjects v2 (used_by q)) (sym (ap t.known is ∙ d.known)) tt)
      (λ ne. subst (λ (q : Option Known). AreObjects v2 (used_by q)) (sym (d.others_known c ne))
      (objects_kept v0 v2 (used_by (s.known c))
      (λ m lt. records0 m (omega (arith, counted m, lt, subst (λ (q : Option Known). times m (used_by q) ≤ t.total m) (d.others_known c ne) (d.counted1 c m))))
      (laid.objects c)))

  pub laid_left : IsLaid v2 t
  laid_left = record {
    counted = counted;
    objects = objects_there;
    balances = λ c x at. dite (prefix_discrete c e)
        (λ is. absurd (let bad : None ≡ Some x = sym d.balance ∙ ap (balance_in t) (sym is) ∙ at in cc))
        (λ ne. d.back.balances.stay x (stays c x ne (sym (d.others_balance c ne) ∙ at)));
    owned = λ x b.
        let h = d.went.fresh x (d.back.balances.fresh x b) in
        let w = laid.owned x h.0 in
        (w.0, d.others_balance w.0 (λ is. h.1 (ap (balance_in s) (sym is) ∙ w.1)) ∙ w.1);
  }
