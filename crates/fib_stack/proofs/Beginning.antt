-- A turn of an entry is made ready.
use Rattle.std.proofs.Common.{◌≡◌, ℕ, ◌&&◌, inl, inr, ⊎_elim, map, ap, ◌∙◌, arith}
use Rattle.std.specs.Prelude.{Option, Some, None, filter}
use Rattle.fib_addr.specs.Prefixes.{Prefix}
use Rattle.fib_resolve.specs.Aims.{marked_list}
use Rattle.fib_resolve.specs.Touched.{differ}
use Rattle.fib_resolve.specs.declared.types.Tables.{Tables}
use Rattle.fib_pool.specs.declared.object.AdjacencyRecord.{AdjacencyRecord}
use Rattle.fib_resolve_changes.specs.Ranks.{IsRanked, is_usable_mark, wakes}
use Rattle.fib_resolve_changes.specs.Wanted.{of_least_mark, spread_marks}
use Rattle.fib_stack_ledger.specs.Ledgers.{record_used}
use Rattle.fib_core_steady.specs.Names.{Names}
use Rattle.fib_plane_view.specs.Frames.{IsQuiet}
use Rattle.fib_plane_view.specs.Promise.{Promise, Serves}
use Rattle.fib_plane_view.specs.View.{View, HasRoom, IsBalance}
use Rattle.fib_stack.specs.Joined.{Parts, balance_in, was_by}
use Rattle.fib_stack.specs.Records.{TookAll, records_for}
use Rattle.fib_stack.specs.States.{forwards_by}
use Rattle.fib_stack.specs.inner.Readied.{GotObject, IsReadied, IsUnderway}
use Rattle.fib_stack.specs.inner.Turning.{IsTurnOf}
use Rattle.fib_stack_waking.specs.Waking.{are_among, have_ranks}
use Rattle.fib_stack.specs.declared.stack.Plan.{Plan}
use Rattle.fib_stack.proofs.Leaving.{quiet_then}
use Rattle.fib_stack.proofs.Listing.{objects_kept}
use Rattle.fib_stack.proofs.Readying.{room_quiet, room_same, room_serves}

module _ (S : Tables) (rank : Prefix → ℕ) (p : Promise) (v0 v1 v2 v3 : View) (s : Parts) (plan : Plan)
    (ranked : IsRanked S rank) (turn : IsTurnOf S rank p (record { view = v0; parts = s }) plan.entry)
    (does : plan.forwards ≡ forwards_by (was_by s) (marked_list S plan.entry))
    (wanted : plan.wanted.items ≡ spread_marks (of_least_mark (filter (is_usable_mark (was_by s)) (marked_list S plan.entry))))
    (woken : (d : Prefix) → are_among plan.woken.items d ≡ differ (was_by s plan.entry) plan.forwards && wakes S d plan.entry)
    (ranks : have_ranks rank plan.woken.items)
    (room : HasRoom v0 v1) (took : TookAll v1 v2 plan.uses.items) (records : map record_used plan.uses.items ≡ records_for (marked_list S plan.entry))
    (quiet2 : (look : Prefix → Option ℕ) → IsQuiet look v1 v2) (serves2 : (n : Names) → Serves p n v1 → Serves p n v2)
    (got : GotObject v2 v3 (balance_in s) plan.entry plan.object)
    (quiet3 : (look : Prefix → Option ℕ) → IsQuiet look v2 v3) (serves3 : (n : Names) → Serves p n v2 → Serves p n v3) where
  stay2 : (x : ℕ) → IsBalance v0 x → IsBalance v2 x
  stay2 x b = took.balances.stay x ((room_same v0 v1 room).balances.stay x b)

  readied : IsReadied S p v0 (record { view = v3; parts = s }) plan
  readied = record {
    users = λ m. ap (λ (f : AdjacencyRecord → ℕ). f m) got.records.users ∙ (let r = (room_same v0 v1 room).users m in let t = took.users m in omega (arith, r, t));
    kept = λ m there.
        let r = (room_same v0 v1 room).users m in
        ap (λ (f : AdjacencyRecord → Option ℕ). f m) got.records.record_of ∙ took.kept m (omega (arith, r, there)) ∙ (room_same v0 v1 room).record_of m;
    objects = objects_kept v2 v3 plan.uses.items (λ m lt. ap (λ (f : AdjacencyRecord → Option ℕ). f m) got.records.record_of) took.objects;
    records = records;
    stay = λ x b. got.stay x (stay2 x b);
    fresh = λ x b. ⊎_elim (λ (h : IsBalance v2 x). inl ((room_same v0 v1 room).balances.fresh x (took.balances.fresh x h))) (λ (is : x ≡ plan.object). inr is) (got.fresh x b);
    cells = λ x k b.
        let r = room_same v0 v1 room in
        got.cells x k (stay2 x b) ∙ took.balances.cells x k (r.balances.stay x b) ∙ r.balances.cells x k b;
    which = ⊎_elim
        (λ (a : balance_in s plan.entry ≡ Some plan.object). inl a)
        (λ (b : (balance_in s plan.entry ≡ None) × (IsBalance v2 plan.object → ⊥)). inr (b.0, λ h. b.1 (stay2 plan.object h)))
        got.which;
    here = got.here;
    does = does;
    wanted = wanted;
    quiet = λ look. quiet_then look v0 v1 v3 (room_quiet v0 v1 room look) (quiet_then look v1 v2 v3 (quiet2 look) (quiet3 look));
    serves = λ n h. serves3 n (serves2 n (room_serves p n v0 v1 room h));
    stored = let r = (room_same v0 v1 room).stored in omega (arith, r, took.stored, got.stored);
  }

  pub underway : IsUnderway S rank p v0 (record { view = v3; parts = s }) plan
  underway = record {
    ranked = ranked;
    joined = turn.joined;
    least = turn.least;
    effective = turn.effective;
    readied = readied;
    woken = woken;
    ranks = ranks;
    free = got.free;
  }
