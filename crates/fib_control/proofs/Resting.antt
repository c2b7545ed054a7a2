-- A control of which nothing is queued is drained; where nothing is deferred or retired either, its plane is at rest.
use Rattle.std.proofs.Common.{◌≡◌, ℕ, ◌<◌, ◌≤◌, Bool, false, List, [], map, refl, sym, ap, ◌∙◌, subst, arith}
use Rattle.std.specs.Prelude.{Contains, Option, Some, None}
use Rattle.fib_addr.specs.Prefixes.{Prefix, IsPrefix}
use Rattle.fib_resolve.specs.Pairs.{entries}
use Rattle.fib_resolve_changes.proofs.SamePairs.{map_from}
use Rattle.fib_resolve_changes.proofs.Ranking.{ranked}
use Rattle.fib_resolve_changes.specs.Ranks.{IsRanked}
use Rattle.fib_core.specs.declared.word.Word.{Word}
use Rattle.fib_core.specs.Union.{Retired}
use Rattle.fib_entries_rows.specs.Known.{prefix_of}
use Rattle.fib_pool.specs.declared.object.AdjacencyRecord.{AdjacencyRecord}
use Rattle.fib_stack_ledger.specs.Deferred.{late_at}
use Rattle.fib_stack_ledger.specs.declared.late.Late.{Late}
use Rattle.fib_stack_ledger.specs.Ledgers.{times, used_by}
use Rattle.fib_stack_queue.specs.Queues.{rank_in}
use Rattle.fib_stack_queue.specs.declared.order.Queued.{Queued}
use Rattle.fib_ply.specs.Rows.{ArePrefixes}
use Rattle.fib_core_board.specs.Told.{IsHistory}
use Rattle.fib_plane_view.specs.View.{IsPlane}
use Rattle.fib_core_promise.specs.Stack.{is_some}
use Rattle.fib_plane.specs.Views.{copy_seen}
use Rattle.fib_control_quiet.specs.Rest.{IsAtRest, IsDrained}
use Rattle.fib_control.specs.Controls.{Control, IsQuiet, is_queued, parts_in, promise_in, rank_by, tables_in, view_in}
use Rattle.fib_control.specs.inner.Standing.{IsStanding}

abbrev pub AreUsed : Control → Type 0
AreUsed c = (m : AdjacencyRecord) → 0 < (parts_in c).total m → (e : Prefix) × (0 < times m (used_by ((parts_in c).known e)))

pub is_ranked : (c : Control) → IsStanding c → IsRanked (tables_in c) (rank_by c)
is_ranked c i = ranked (tables_in c) (rank_by c) i.stands.falls

entries_are : (c : Control) → IsStanding c → (q : Prefix) → Contains (entries (tables_in c)) q → IsPrefix q
entries_are c i q k =
    let r = map_from prefix_of c.entries.rows q ((i.stands.entries q).1 k) in
    subst IsPrefix r.2 (i.stands.rows r.0 r.1).prefix

module _ (c : Control) (i : IsStanding c) (plane : IsPlane (view_in c)) (rows : ArePrefixes c.rows) (used : AreUsed c) where
  draining : ((e : Prefix) → is_queued c e ≡ false) → IsDrained (tables_in c) (rank_by c) (promise_in c) (view_in c) (parts_in c)
  draining none = record {
    sound = i.stands.sound;
    ranked = is_ranked c i;
    entries_are = entries_are c i;
    rows_are = rows;
    plane = plane;
    joined = i.joined;
    used = used;
    none = none;
  }

  no_rank : c.queue ≡ [] → (e : Prefix) → is_queued c e ≡ false
  no_rank empty e = ap (λ (xs : List Queued). is_some (rank_in xs e)) empty

  pub drained : c.queue ≡ [] → IsDrained (tables_in c) (rank_by c) (promise_in c) (view_in c) (parts_in c)
  drained empty = draining (no_rank empty)

  no_copies : c.plane.board.union.retired ≡ [] → (view_in c).retired ≡ []
  no_copies calm = ap (λ (xs : List Retired). map copy_seen xs) calm

  pub quiet_rests : IsQuiet c → IsAtRest (tables_in c) (rank_by c) (promise_in c) (view_in c) (parts_in c)
  quiet_rests q = record {
    drained = drained q.queued;
    prompt = λ e k. ap (λ (xs : List Late). late_at xs e k) q.deferred;
    calm = no_copies q.retired;
  }

  -- before the first change nothing waits
  module _ (early : c.plane.board.log.version.applied ≡ 0) (h : IsHistory c.plane.board) where
    none_queued : (e : Prefix) (o : Option ℕ) → rank_in c.queue e ≡ o → is_some o ≡ false
    none_queued e None at = refl
    none_queued e (Some r) at = absurd (let w = i.joined.waiting e r at in omega (arith, w, early))

    none_late : (e : Prefix) (k : ℕ) (o : Option Word) → late_at c.late e k ≡ o → o ≡ None
    none_late e k None at = refl
    none_late e k (Some w) at = absurd (let lt = i.joined.deferred e k w at in omega (arith, lt, early))

    pub first_rests : IsAtRest (tables_in c) (rank_by c) (promise_in c) (view_in c) (parts_in c)
    first_rests = record {
      drained = draining (λ e. none_queued e (rank_in c.queue e) refl);
      prompt = λ e k. none_late e k (late_at c.late e k) refl;
      calm = no_copies (i.calm (let o = h.order in omega (arith, o, early)));
    }
