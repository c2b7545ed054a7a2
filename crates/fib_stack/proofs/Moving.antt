-- What others do in between keeps what stands.
use Rattle.std.proofs.Common.{◌≡◌, ℕ, ◌<◌, ◌≤◌, inl, inr, true, refl, sym, ap, ◌∙◌, subst, arith}
use Rattle.std.specs.Prelude.{Option}
use native.Mathlib.Decide.{ℕ_discrete}
use mathlib.Core.Logic.{dite}
use Rattle.fib_addr.specs.Prefixes.{Prefix}
use Rattle.fib_resolve.specs.Aims.{marked_list}
use Rattle.fib_resolve.specs.declared.aims.Aim.{Aim}
use Rattle.fib_resolve.specs.declared.aims.Aim.TheVariants as aims
use Rattle.fib_resolve.specs.declared.types.End.{End}
use Rattle.fib_resolve.specs.declared.types.End.TheVariants as answers
use Rattle.fib_resolve.specs.declared.types.Tables.{Tables}
use Rattle.fib_pool.specs.declared.object.AdjacencyRecord.{AdjacencyRecord}
use Rattle.fib_resolve_changes.specs.Wanted.{aim_by}
use Rattle.fib_stack_ledger.specs.Ledgers.{times, used_by}
use Rattle.fib_stack_ledger.specs.Deferred.{late_at}
use Rattle.fib_core_steady.specs.Names.{Names}
use Rattle.fib_core_promise.specs.Stack.{Anchored, Objects, aim_word, is_some}
use Rattle.fib_plane_view.specs.Frames.{IsQuiet}
use Rattle.fib_plane_view.specs.Promise.{Allows, Promise, Serves}
use Rattle.fib_plane_view.specs.View.{View, HasRoom, IsPlane, IsScanned}
use Rattle.fib_ply.specs.Tables.{Stands}
use Rattle.fib_ply.proofs.Quiet.{quiet_stands}
use Rattle.fib_stack.specs.Buckets.{recorded}
use Rattle.fib_stack.specs.Joined.{Joined, Parts, balance_in, holds_by, in_change, state_in, table_of, was_by}
use Rattle.fib_stack.specs.Records.{SamePlane}
use Rattle.fib_stack.specs.States.{IsDone, State}
use Rattle.fib_stack.specs.Steps.{IsLeast, Removed}
use Rattle.fib_stack.specs.Steadiness.{Holding, ledger_of}
use Rattle.fib_stack.specs.inner.Leaving.{IsLeaving}
use Rattle.fib_stack.specs.inner.Moved.{IsMoved}
use Rattle.fib_stack.proofs.Aiming.{bucket_hop}
use Rattle.fib_stack.proofs.Assembled.{holds_hop_only, some_times}
use Rattle.fib_stack.proofs.Clearing.{scan_serves}
use Rattle.fib_stack.proofs.Joining.{kept_by, serves_change, table_names}
use Rattle.fib_stack.proofs.Keeping.{fits_at, word_same}
use Rattle.fib_stack.proofs.Leaving.{scan_quiet}
use Rattle.fib_stack.proofs.Listing.{objects_kept}
use Rattle.fib_stack.proofs.Readying.{room_quiet, room_same, room_serves}
use Rattle.fib_stack.proofs.Settling.{anchor_hop}

module _ (S : Tables) (rank : Prefix → ℕ) (p : Promise) (u v : View) (s : Parts) (j : Joined S rank p u s) (m : IsMoved p u v) (plane : IsPlane v)
    (counted : (d : Prefix) (r : AdjacencyRecord) → times r (used_by (s.known d)) ≤ s.total r) where
  used : (d : Prefix) (i a : ℕ) (x : Option ℕ) → holds_by s d (answers.Hop i a x) ≡ true → 0 < u.users (record { interface = i; next_hop = a; mac = x })
  used d i a x h =
      let r : AdjacencyRecord = record { interface = i; next_hop = a; mac = x } in
      omega (arith, some_times (used_by (s.known d)) i a x h, counted d r, j.laid.counted r)

  same_hop : (d : Prefix) (i a : ℕ) (x : Option ℕ) → holds_by s d (answers.Hop i a x) ≡ true → recorded v (answers.Hop i a x) ≡ recorded u (answers.Hop i a x)
  same_hop d i a x h = m.records (record { interface = i; next_hop = a; mac = x }) (used d i a x h)

  abbrev before : Objects
  before = record { balance = balance_in s; record_of = recorded u }

  abbrev after : Objects
  after = record { balance = balance_in s; record_of = recorded v }

  done_still : (e : Prefix) → IsDone S (state_in u s) e → IsDone S (state_in v s) e
  done_still e d = record {
    placed = d.placed;
    known = d.known;
    filled = λ o k at lt. fits_at (late_at s.late e k) (late_at s.late e k) (u.cell o k) (v.cell o k) (aim_word before (aim_by (was_by s) (marked_list S e) k)) (aim_word after (aim_by (was_by s) (marked_list S e) k))
        refl (m.cells o k (j.laid.balances e o at))
        (word_same before after (aim_by (was_by s) (marked_list S e) k) (λ t is. refl) (λ i a x is. same_hop e i a x (d.holding (answers.Hop i a x) ∙ bucket_hop (was_by s) (marked_list S e) k i a x is)))
        (d.filled o k at lt);
    holding = d.holding;
  }

  recorded_still : (e : Prefix) (end : End) → holds_by s e end ≡ true → is_some (recorded v end) ≡ true
  recorded_still e answers.Drop h = absurd (holds_hop_only (used_by (s.known e)) answers.Drop tt h)
  recorded_still e answers.Receive h = absurd (holds_hop_only (used_by (s.known e)) answers.Receive tt h)
  recorded_still e (answers.Glean i) h = absurd (holds_hop_only (used_by (s.known e)) (answers.Glean i) tt h)
  recorded_still e (answers.Hop i a x) h =
      let r : AdjacencyRecord = record { interface = i; next_hop = a; mac = x } in
      let q = plane.recorded r (subst (λ (n : ℕ). 0 < n) (sym (m.users r)) (used e i a x h)) in ap is_some q.1

  anchored_still : (e : Prefix) (w : Aim) → Anchored before (ledger_of (state_in u s)) e w → Anchored after (ledger_of (state_in v s)) e w
  anchored_still e (aims.Ends answers.Drop) h = h
  anchored_still e (aims.Ends answers.Receive) h = h
  anchored_still e (aims.Ends (answers.Glean i)) h = h
  anchored_still e (aims.Ends (answers.Hop i a x)) h = h
  anchored_still e (aims.On t) h = h

  holding_still : (e : Prefix) (k : ℕ) (w : Aim) → Holding (state_in u s) e k w → Holding (state_in v s) e k w
  holding_still e k w h = record {
    object = h.object;
    here = h.here;
    cell = m.cells h.object k (j.laid.balances e h.object h.here) ∙ h.cell
        ∙ sym (word_same before after w (λ t is. refl) (λ i a x is. same_hop e i a x (anchor_hop (state_in u s) e i a x w h.anchored is)));
    on_time = h.on_time;
    anchored = anchored_still e w h.anchored;
  }

  in_change_allows : Allows (in_change p)
  in_change_allows = dite (ℕ_discrete p.applied 0) (λ z. inr (z, refl)) (λ ne. inl (omega (arith, ne)))

  table_still : Stands (in_change p) (table_of s) v
  table_still =
      let t = table_of s in
      let n = table_names p t u j.table in
      quiet_stands (in_change p) t u v j.table (m.quiet (balance_in s)) plane.kinds
      (kept_by (in_change p) (in_change p) t u v n.0 in_change_allows refl refl j.table.2.at.kept n.1 (serves_change p n.0 v (m.serves n.0 n.2)))
      (λ z l c o k at lt. m.cells o k (j.table.2.at.sound.balance l c o at) ∙ j.table.2.at.sound.still z l c o k at lt)

  pub moved_joined : Joined S rank p v s
  moved_joined = record {
    kept = record {
      done = λ e q. done_still e (j.kept.done e q);
      placed = λ e. let w = j.kept.placed e in record { forwarded = w.forwarded; recorded = recorded_still e; late = w.late; apart = w.apart };
    };
    laid = record {
      counted = λ r. m.users r ∙ j.laid.counted r;
      objects = λ e. objects_kept u v (used_by (s.known e)) (λ r lt. m.records r (omega (arith, lt, counted e r, j.laid.counted r))) (j.laid.objects e);
      balances = λ e o at. m.stay o (j.laid.balances e o at);
      owned = λ o b. j.laid.owned o (m.fresh o b);
    };
    table = table_still;
    fits = j.fits;
    steady = λ b. let w = j.steady b in record { named = w.named; holding = λ e k a lt lasts alike. holding_still e k a (w.holding e k a lt lasts alike) };
    newest = j.newest;
    ranked = j.ranked;
    waiting = j.waiting;
    deferred = j.deferred;
  }

-- room was made
pub room_moved : (p : Promise) (u v : View) → HasRoom u v → IsMoved p u v
room_moved p u v h =
    let same = room_same u v h in
    record {
      users = same.users;
      records = λ r lt. same.record_of r;
      stay = same.balances.stay;
      fresh = same.balances.fresh;
      cells = same.balances.cells;
      quiet = room_quiet u v h;
      serves = λ n. room_serves p n u v h;
    }

pub room_state : (u v : View) (s : Parts) → HasRoom u v → state_in v s ≡ state_in u s
room_state u v s h = subst (λ (w : View). state_in w s ≡ state_in u s) (sym h.same) refl

pub roomy_least : (rank : Prefix → ℕ) (u v : View) (s : Parts) (e : Prefix) → HasRoom u v → IsLeast rank (state_in u s) e → IsLeast rank (state_in v s) e
roomy_least rank u v s e h least = subst (λ (q : State). IsLeast rank q e) (sym (room_state u v s h)) least

pub roomy_removed : (u v : View) (s : Parts) (e : Prefix) (t : State) → HasRoom u v → Removed e (state_in v s) t → Removed e (state_in u s) t
roomy_removed u v s e t h r = subst (λ (q : State). Removed e q t) (room_state u v s h) r

-- the prefix leaves over a plane with room as it did
pub roomy_leaving : (S : Tables) (rank : Prefix → ℕ) (p q : Promise) (u v : View) (s : Parts) (e : Prefix) → q ≡ p → HasRoom u v → IsPlane v
    → ((d : Prefix) (r : AdjacencyRecord) → times r (used_by (s.known d)) ≤ s.total r)
    → IsLeaving S rank p (record { view = u; parts = s }) e → IsLeaving S rank q (record { view = v; parts = s }) e
roomy_leaving S rank p q u v s e same room plane counted h = record {
  ranked = h.ranked;
  joined = subst (λ (r : Promise). Joined S rank r v s) (sym same) (moved_joined S rank p u v s h.joined (room_moved p u v room) plane counted);
  least = roomy_least rank u v s e room h.least;
  gone = h.gone;
}

-- a scan, or what was taken and given back
pub scan_moved : (p : Promise) (u v : View) (left : ℕ) → IsPlane v → IsScanned u v left → IsMoved p u v
scan_moved p u v left plane scan = record {
  users = λ r. ap (λ (f : AdjacencyRecord → ℕ). f r) scan.records.users;
  records = λ r lt. ap (λ (f : AdjacencyRecord → Option ℕ). f r) scan.records.record_of;
  stay = λ x b. let h = scan.held x ∙ b.0 in (h, scan.swept.kinds x (inr (inl h)) ∙ b.1);
  fresh = λ x b. (sym (scan.held x) ∙ b.0, sym (scan.swept.kinds x (inr (inl b.0))) ∙ b.1);
  cells = λ x k b. scan.swept.cells x k (inr (inl (scan.held x ∙ b.0)));
  quiet = scan_quiet u v left plane scan;
  serves = λ n. scan_serves p n u v left scan;
}

pub same_moved : (p : Promise) (u v : View) → SamePlane u v → ((look : Prefix → Option ℕ) → IsQuiet look u v) → ((n : Names) → Serves p n u → Serves p n v) → IsMoved p u v
same_moved p u v same quiet serves = record {
  users = same.users;
  records = λ r lt. same.record_of r;
  stay = same.balances.stay;
  fresh = same.balances.fresh;
  cells = same.balances.cells;
  quiet = quiet;
  serves = serves;
}
