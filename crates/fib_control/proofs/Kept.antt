-- What stands of a control stays so.
use Rattle.std.proofs.Common.{inl, inr, ⊎_elim, ◌≡◌, ◌⊎◌, ℕ, zero, suc, ◌+◌, ◌-◌, ◌^◌, ◌<◌, ◌≤◌, ◌||◌, Bool, true, false, List, [], ◌∷◌, ◌++◌, length, refl, sym, ap, ◌∙◌, subst, arith}
use Rattle.std.specs.Prelude.{Contains, Option, Some, None, slice_get}
use Rattle.fib_addr.specs.Prefixes.{Prefix}
use Rattle.fib_core_lawful.proofs.Histories.{get_last}
use Rattle.fib_resolve.specs.Resolution.{resolve}
use Rattle.fib_resolve.specs.Sizes.{size}
use Rattle.fib_resolve.specs.Tables.{IsSound, fresh}
use Rattle.fib_resolve.specs.Touched.{is_touched}
use Rattle.fib_resolve.specs.declared.types.Tables.{Tables}
use Rattle.fib_core.specs.StandsFor.{Stands}
use Rattle.fib_core.specs.Walk.{IsFlow, walk}
use Rattle.fib_core.specs.Trails.{Trail}
use Rattle.fib_config.specs.Config.{Setup}
use Rattle.fib_entries_rows.specs.Known.{Known, StandsFor, rank_of}
use Rattle.fib_pool.specs.Objects.{free_in}
use Rattle.fib_pool.proofs.Pools.{free_few}
use Rattle.fib_ply.specs.Rows.{ArePrefixes}
use Rattle.fib_core_board.specs.Boards.{Pass, board_begun, board_settled}
use Rattle.fib_core_board.specs.May.{MayBegin, MaySettle}
use Rattle.fib_plane.specs.Planes.{Plane}
use Rattle.fib_plane.specs.Sound.{IsPlane as IsTold}
use Rattle.fib_stack_queue.specs.Queues.{rank_in}
use Rattle.fib_stack_queue.specs.declared.order.Queued.{Queued}
use Rattle.fib_plane_view.specs.View.{IsPlane}
use Rattle.fib_core_promise.specs.Stack.{is_some}
use Rattle.fib_plane.specs.Views.{promise_of, view_of}
use Rattle.fib_stack.specs.Joined.{Joined, queued_in}
use Rattle.fib_stack.proofs.Ordering.{begun_in_order}
use Rattle.fib_stack.proofs.Rooming.{room_at_change}
use Rattle.fib_control_quiet.specs.Rest.{IsAccounted, IsAtRest, IsSeen}
use Rattle.fib_control_quiet.proofs.Versions.{joined_begun, joined_first, joined_settled}
use Rattle.fib_control_quiet.proofs.Planed.{stands_at_rest, used_at_rest, walks_at_rest}
use Rattle.fib_control_quiet.proofs.Using.{accounted}
use Rattle.fib_control_quiet.proofs.Workers.{same_versions}
use Rattle.fib_control.specs.Controls.{Control, IsQuiet, is_queued, parts_in, promise_in, rank_by, state_now, tables_in, view_in}
use Rattle.fib_control.specs.inner.Standing.{IsStanding}
use Rattle.fib_control.proofs.Resting.{AreUsed, drained, first_rests, quiet_rests}

-- what the parts of a control tell
pub record Tells (c : Control) : Type 0 where
  pub plane : IsPlane (view_in c)
  pub told : IsTold c.plane
  pub seen : IsSeen c.plane
  pub rows : ArePrefixes c.rows
  pub used : AreUsed c

-- the control after a change
abbrev pub changed_to : Control → Tables → Known → List Queued → Control
changed_to c T v queue = record c {
  setup = record c.setup { tables = T };
  entries = v;
  plane = record c.plane { board = board_begun c.plane.board T };
  queue = queue;
  done = [];
}

module _ (c : Control) (i : IsStanding c) (t : Tells c) where
  at_first : c.plane.board.log.version.applied ≡ 0 → IsAtRest (tables_in c) (rank_by c) (promise_in c) (view_in c) (parts_in c)
  at_first early = first_rests c i t.plane t.rows t.used early t.told.board.history

  -- at the first change the tables are the fresh ones, and the cells stand for them
  fresh_tables : c.plane.board.log.version.applied ≡ 0 → tables_in c ≡ fresh
  fresh_tables early =
      let both : Some (tables_in c) ≡ Some fresh = sym i.newest ∙ ap (slice_get c.plane.board.log.history) early ∙ t.told.board.history.first in
      cc

  pub may_begin : (T : Tables) → IsSound T → c.plane.board.log.version.applied < 2 ^ 32 - 1 → MayBegin c.plane.board T
  may_begin T sound few = record {
    room = omega (arith, few);
    sound = sound;
    first = λ early. subst (λ (S : Tables). Stands c.plane.board.union S) (fresh_tables early)
        (stands_at_rest (tables_in c) (rank_by c) (promise_in c) c.plane (parts_in c) t.told t.seen (at_first early));
  }

  module _ (T : Tables) (v : Known) (queue : List Queued) (stands : StandsFor v T)
      (queued : (e : Prefix) → is_some (rank_in queue e) ≡ is_queued c e || is_touched (tables_in c) T e)
      (ranks : (e : Prefix) (k : ℕ) → rank_in queue e ≡ Some k → k ≡ rank_of v.rows e)
      (fits : size T ≤ c.setup.room) (free : size T ≤ (view_in c).free) where
    joined_later : (n : ℕ) → c.plane.board.log.version.applied ≡ n → Joined T (rank_of v.rows) (promise_of (board_begun c.plane.board T)) (view_in c) (record (parts_in c) { queue = queue })
    joined_later zero early = joined_first (tables_in c) (rank_by c) c.plane (parts_in c) t.told t.seen (at_first early) i.newest T (rank_of v.rows) queue early stands.sound queued ranks
    joined_later (suc n) late = joined_begun (tables_in c) T (rank_by c) (rank_of v.rows) c.plane (parts_in c) queue t.told i.joined (omega (arith, late)) stands.sound queued ranks

    pub changed_standing : IsStanding (changed_to c T v queue)
    changed_standing = record {
      stands = stands;
      joined = joined_later c.plane.board.log.version.applied refl;
      newest = subst (λ (k : ℕ). slice_get (c.plane.board.log.history ++ T ∷ []) k ≡ Some T) t.told.board.history.long (get_last c.plane.board.log.history T);
      calm = λ same. absurd (let o = t.told.board.history.order in omega (arith, o, same));
      roomy = λ begun. room_at_change T (rank_of v.rows) (promise_of (board_begun c.plane.board T)) (view_in c) (record (parts_in c) { queue = queue }) (joined_later c.plane.board.log.version.applied refl) begun free;
      ordered = begun_in_order (rank_of v.rows) (state_now (changed_to c T v queue));
      once = tt;
      fits = fits;
      room = i.room;
      half = i.half;
    }

  -- a quiet control has as many objects free as any tables within its room take
  pub never_crowded : IsQuiet c → (n : ℕ) → n ≤ c.setup.room → free_in c.plane.objects < n → ⊥
  never_crowded q n fits few =
      let used = used_at_rest (tables_in c) (rank_by c) (promise_in c) c.plane (parts_in c) t.told t.seen (quiet_rests c i t.plane t.rows t.used q) in
      let all = free_few c.plane.objects in
      let h = i.half in
      let f = i.fits in
      let s = t.told.size in
      omega (arith, used, all, h, f, s, fits, few)

  -- its walks are resolution, and as many are used as the size says
  pub walks_quiet : IsQuiet c → (a h : ℕ) → IsFlow a h → walk c.plane.board.union.cells a h ≡ resolve (tables_in c) a h
  walks_quiet q = walks_at_rest (tables_in c) (rank_by c) (promise_in c) c.plane (parts_in c) t.told t.seen (quiet_rests c i t.plane t.rows t.used q)

  pub used_quiet : IsQuiet c → length c.plane.objects - free_in c.plane.objects ≡ size (tables_in c)
  used_quiet q = used_at_rest (tables_in c) (rank_by c) (promise_in c) c.plane (parts_in c) t.told t.seen (quiet_rests c i t.plane t.rows t.used q)

  -- already where nothing is queued each object that is used is counted, or an edge leads to it
  pub used_drained : c.queue ≡ [] → IsAccounted (tables_in c) c.plane
  used_drained empty = accounted (tables_in c) (rank_by c) (promise_in c) c.plane (parts_in c) t.told t.seen (drained c i t.plane t.rows t.used empty)

  pub may_settle : IsQuiet c → MaySettle c.plane.board
  may_settle q = record {
    tables = tables_in c;
    held = i.newest;
    sound = i.stands.sound;
    stands = stands_at_rest (tables_in c) (rank_by c) (promise_in c) c.plane (parts_in c) t.told t.seen (quiet_rests c i t.plane t.rows t.used q);
  }

  pub settled_standing : IsQuiet c → IsStanding (record c { plane = record c.plane { board = board_settled c.plane.board } })
  settled_standing q = record {
    stands = i.stands;
    joined = joined_settled (tables_in c) (rank_by c) c.plane (parts_in c) t.told t.seen (quiet_rests c i t.plane t.rows t.used q) i.newest;
    newest = i.newest;
    calm = λ same. q.retired;
    roomy = i.roomy;
    ordered = i.ordered;
    once = i.once;
    fits = i.fits;
    room = i.room;
    half = i.half;
  }

-- the same, as its parts come
pub changed_like : (c : Control) (T : Tables) (v : Known) (queue : List Queued) (s : Setup) (p : Plane) (ds : List Prefix) → s ≡ record c.setup { tables = T } → p ≡ record c.plane { board = board_begun c.plane.board T } → ds ≡ []
    → IsStanding (changed_to c T v queue) → IsStanding (record c { setup = s; entries = v; plane = p; queue = queue; done = ds })
changed_like c T v queue s p ds setup plane none h =
    subst (λ (x : Setup). IsStanding (record c { setup = x; entries = v; plane = p; queue = queue; done = ds })) (sym setup)
    (subst (λ (x : Plane). IsStanding (record c { setup = record c.setup { tables = T }; entries = v; plane = x; queue = queue; done = ds })) (sym plane)
    (subst (λ (x : List Prefix). IsStanding (record c { setup = record c.setup { tables = T }; entries = v; plane = record c.plane { board = board_begun c.plane.board T }; queue = queue; done = x })) (sym none) h))

-- passes begin, hop and end, and workers leave and come home: of the board only who is out, pass words, passes, trails and claims are other
pub passed_standing : (c : Control) (out : List Bool) (rests : List ℕ) (passes : List (Option Pass)) (trails : List Trail) (gathered : List ℕ) → IsStanding c
    → IsStanding (record c { plane = record c.plane { board = record c.plane.board { out = out; rests = rests; passes = passes; trails = trails; gathered = gathered } } })
passed_standing c out rests passes trails gathered i = record {
  stands = i.stands;
  joined = same_versions (tables_in c) (rank_by c) (promise_in c) (promise_of (record c.plane.board { out = out; rests = rests; passes = passes; trails = trails; gathered = gathered })) (view_in c) (parts_in c) i.joined refl refl refl;
  newest = i.newest;
  calm = i.calm;
  roomy = i.roomy;
  ordered = i.ordered;
  once = i.once;
  fits = i.fits;
  room = i.room;
  half = i.half;
}
