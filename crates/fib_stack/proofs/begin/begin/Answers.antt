use Rattle.std.proofs.Common.{◌≡◌, ◌∙◌, ◌&&◌, ℕ, List, length, map, ap, inl, sym, subst, arith}
use Rattle.std.specs.Prelude.{Option, filter}
use Rattle.std.specs.List.{AllByRecursion}
use Rattle.fib_base_list.proofs.Lists.{each-weaker}
use Rattle.fib_addr.specs.Prefixes.{Prefix}
use Rattle.fib_resolve.specs.Aims.{marked_list}
use Rattle.fib_resolve.specs.Touched.{differ}
use Rattle.fib_resolve_changes.specs.Ranks.{is_usable_mark, wakes}
use Rattle.fib_resolve_changes.specs.Wanted.{of_least_mark, spread_marks}
use Rattle.fib_resolve_changes.proofs.Ranking.{ranked}
use Rattle.fib_entries_rows.specs.Known.{rank_of}
use Rattle.fib_stack_ledger.specs.declared.ledger.Use.{Use}
use Rattle.fib_stack_ledger.specs.Ledgers.{record_used}
use Rattle.fib_stack_ledger.proofs.Books.{total_few}
use Rattle.fib_plane_view.specs.Promise.{Promise, MayClear, Serves}
use Rattle.fib_plane_view.specs.Stores.{StoresEach}
use Rattle.fib_plane_view.specs.View.{View}
use Rattle.fib_stack.specs.Joined.{Parts, balance_in, in_change, table_of, was_by}
use Rattle.fib_stack.specs.Records.{Freed, GaveAll, IsAlone, IsObjectOf, TookNew, records_for}
use Rattle.fib_stack.specs.States.{forwards_by}
use Rattle.fib_stack.specs.declared.records.Want.TheVariants as wants
use Rattle.fib_stack.specs.Moments.{parts_of}
use Rattle.fib_stack.specs.inner.Readied.{GotObject, IsUnderway, balances_for}
use Rattle.fib_stack.specs.inner.Turning.{IsTurnOf}
use Rattle.fib_stack_waking.specs.Waking.{are_among}
use Rattle.fib_stack.specs.declared.stack.Plan.{Plan}
use Rattle.fib_stack.proofs.Exact.{stores_room}
use Rattle.fib_stack.proofs.Calling.{takes_room, takes_then}
use Rattle.fib_stack.proofs.Beginning.{underway}
use Rattle.fib_stack.proofs.Finishing.{waits_of}
use Rattle.fib_stack.proofs.Joining.{table_names}
use Rattle.fib_stack.proofs.Leaving.{quiet_then}
use Rattle.fib_stack.proofs.Listing.{same_after}
use Rattle.fib_stack.proofs.Freeing.{given_back}
use Rattle.fib_stack.proofs.Newly.{lacks_roomy, lacks_then, new_then}
use Rattle.fib_stack.proofs.Readying.{handed_on, none_same, none_short, room_quiet, room_same, room_serves, same_then}
use Rattle.fib_stack.proofs.Taking.{uses_few}
use Rattle.fib_stack.proofs.begin.begin.Goals as goal

pub returns-in_default-make_room-clause-quiet : goal.returns-in_default-make_room-clause-quiet
returns-in_default-make_room-clause-quiet g c = room_quiet _ _ c.make_room.ensures.same

pub take_all-requires-clause-few : goal.take_all-requires-clause-few
take_all-requires-clause-few g c = λ m.
    let t = c.requires.turn.2 in
    let u = (room_same (g.P.Objects.view c.args.on.now) (g.P.Objects.view c.make_room.new.on) c.make_room.ensures.same).users m in
    let s = ap (λ (q : Parts). q.total m) c.make_room.ensures.parts in
    omega (arith, u, s, t.joined.laid.counted m, total_few c.make_room.new.stack.ledger.rows m, c.in-Ok-make_room.ensures.room.few, c.len.ensures)

pub take_all-requires-clause-promise : goal.take_all-requires-clause-promise
take_all-requires-clause-promise g c =
    let t = c.requires.turn.2 in
    let p = g.P.Objects.promise c.args.on.now in
    let s = parts_of c.args.table.now c.args.stack.now c.args.queue.now in
    let n = table_names p (table_of s) (g.P.Objects.view c.args.on.now) t.joined.table in
    subst (λ (q : Promise). MayClear q (g.P.Objects.view c.make_room.new.on)) (sym c.make_room.ensures.promise)
    (inl (waits_of c.requires.turn.0 _ p _ s c.args.entry t.joined t.least), (n.0, room_serves p n.0 _ _ c.make_room.ensures.same n.2))

pub returns-in_err-take_all-clause-quiet : goal.returns-in_err-take_all-clause-quiet
returns-in_err-take_all-clause-quiet g c = λ look. quiet_then look _ (g.P.Objects.view c.make_room.new.on) _ (room_quiet _ _ c.make_room.ensures.same look) (c.take_all.ensures.quiet look)

pub give_all-requires-clause-promise : goal.give_all-requires-clause-promise
give_all-requires-clause-promise g c =
    let t = c.requires.turn.2 in
    let p = g.P.Objects.promise c.args.on.now in
    let s = parts_of c.args.table.now c.args.stack.now c.args.queue.now in
    let n = table_names p (table_of s) (g.P.Objects.view c.args.on.now) t.joined.table in
    let s1 = room_serves p n.0 _ (g.P.Objects.view c.make_room.new.on) c.make_room.ensures.same n.2 in
    let s2 = subst (λ (q : Promise). Serves q n.0 (g.P.Objects.view c.make_room.new.on) → Serves q n.0 (g.P.Objects.view c.take_all.new.on)) c.make_room.ensures.promise (c.take_all.ensures.serves n.0) s1 in
    let s3 = subst (λ (q : Promise). Serves q n.0 (g.P.Objects.view c.take_all.new.on) → Serves q n.0 (g.P.Objects.view c.object_for.new.on)) (c.take_all.ensures.promise ∙ c.make_room.ensures.promise) (c.object_for.ensures.serves n.0) s2 in
    subst (λ (q : Promise). MayClear q (g.P.Objects.view c.object_for.new.on)) (sym (c.object_for.ensures.promise ∙ c.take_all.ensures.promise ∙ c.make_room.ensures.promise))
    (inl (waits_of c.requires.turn.0 _ p _ s c.args.entry t.joined t.least), (n.0, s3))

pub returns-in_default-object_for-clause-err : goal.returns-in_default-object_for-clause-err
returns-in_default-object_for-clause-err g c =
    let v1 = g.P.Objects.view c.make_room.new.on in
    let v2 = g.P.Objects.view c.take_all.new.on in
    let v5 = g.P.Objects.view c.give_all.new.on in
    let same : g.P.Objects.view c.object_for.new.on ≡ v2 = none_same v2 (g.P.Objects.view c.object_for.new.on) c.object_for.result c.object_for.ensures.none c.in_default-object_for.is in
    same_then _ v1 v5 (room_same _ v1 c.make_room.ensures.same)
    (same_after v1 v2 v5 c.take_all.new.uses.items (g.met.P.Objects.sound c.make_room.new.on) (g.met.P.Objects.sound c.give_all.new.on) c.in_ok-take_all.ensures.ok
    (subst (λ (w : View). GaveAll w v5 c.take_all.new.uses.items) same (subst (λ (us : List Use). GaveAll (g.P.Objects.view c.object_for.new.on) v5 us) c.as_slice.ensures.value c.give_all.ensures.gave))
    (let new = c.in_ok-take_all.ensures.new in
    given_back v1 v2 v5 c.take_all.new.uses.items (records_for c.marked-marks.result.now) new.0 c.in_ok-take_all.ensures.ok c.in_ok-take_all.ensures.records new.1 (omega (arith, new.2))
    (subst (λ (w : View). Freed w v5 c.take_all.new.uses.items new.0) same
    (subst (λ (us : List Use). Freed (g.P.Objects.view c.object_for.new.on) v5 us new.0) c.as_slice.ensures.value
    (c.give_all.ensures.freed new.0 (subst (λ (w : View). AllByRecursion (IsAlone w) new.0) (sym same) (each-weaker _ (IsAlone v2) (λ m q. c.in_ok-take_all.ensures.alone m q.0) new.0 new.1.new)))))))

pub returns-in_default-object_for-clause-quiet : goal.returns-in_default-object_for-clause-quiet
returns-in_default-object_for-clause-quiet g c = λ look.
    quiet_then look _ (g.P.Objects.view c.make_room.new.on) _ (room_quiet _ _ c.make_room.ensures.same look)
    (quiet_then look _ (g.P.Objects.view c.take_all.new.on) _ (c.take_all.ensures.quiet look)
    (quiet_then look _ (g.P.Objects.view c.object_for.new.on) _ (c.object_for.ensures.quiet look) (c.give_all.ensures.quiet look)))

pub returns-clause-quiet : goal.returns-clause-quiet
returns-clause-quiet g c = λ look.
    quiet_then look _ (g.P.Objects.view c.make_room.new.on) _ (room_quiet _ _ c.make_room.ensures.same look)
    (quiet_then look _ (g.P.Objects.view c.take_all.new.on) _ (c.take_all.ensures.quiet look) (c.object_for.ensures.quiet look))

pub returns-clause-room : goal.returns-clause-room
returns-clause-room g c =
    let r = c.in-Ok-make_room.ensures.room in
    let few = uses_few c.take_all.new.uses.items c.marked-marks.result.now c.in_ok-take_all.ensures.records in
    record {
      late = r.late;
      known = r.known;
      rows = r.rows;
      queue = omega (arith, r.queue, c.len.ensures);
      spare = omega (arith, r.spare, c.in_ok-take_all.ensures.ok.spare, c.in-Some.ensures.some.spare);
      few = omega (arith, r.few, few);
    }

pub returns-clause-underway : goal.returns-clause-underway
returns-clause-underway g c = λ S st t.
    let e = c.args.entry in
    let rank = rank_of c.args.entries.now.rows in
    let p = g.P.Objects.promise c.args.on.now in
    let v0 = g.P.Objects.view c.args.on.now in
    let v1 = g.P.Objects.view c.make_room.new.on in
    let v2 = g.P.Objects.view c.take_all.new.on in
    let v3 = g.P.Objects.view c.object_for.new.on in
    let s = parts_of c.args.table.now c.args.stack.now c.args.queue.now in
    let plan : Plan = record { entry = c.in-Ok.plan.entry; object = c.in-Some.object; forwards = c.in-Ok.plan.forwards; wanted = c.in-Ok.plan.wanted; uses = c.take_all.new.uses; woken = c.in-Ok.plan.woken } in
    let r = c.in-Ok.ensures S st in
    let balances = ap balance_in c.make_room.ensures.parts in
    subst (λ (q : Parts). IsUnderway S rank p v0 (record { view = v3; parts = q }) plan) (sym c.make_room.ensures.parts)
    (underway S rank p v0 v1 v2 v3 s plan (ranked S rank st.falls)
    (subst (λ (x : Prefix). IsTurnOf S rank p (record { view = v0; parts = s }) x) (sym r.entry) t)
    (subst (λ (x : Prefix). plan.forwards ≡ forwards_by (was_by s) (marked_list S x)) (sym r.entry) r.does)
    (subst (λ (x : Prefix). plan.wanted.items ≡ spread_marks (of_least_mark (filter (is_usable_mark (was_by s)) (marked_list S x)))) (sym r.entry) r.wanted)
    (subst (λ (x : Prefix). (d : Prefix) → are_among plan.woken.items d ≡ differ (was_by s x) plan.forwards && wakes S d x) (sym r.entry) r.woken)
    r.ranks c.make_room.ensures.same c.in_ok-take_all.ensures.ok
    (subst (λ (x : Prefix). map record_used plan.uses.items ≡ records_for (marked_list S x)) (sym r.entry) (c.in_ok-take_all.ensures.records ∙ ap records_for (c.marked-marks.ensures S st)))
    c.take_all.ensures.quiet
    (λ n. subst (λ (q : Promise). Serves q n v1 → Serves q n v2) c.make_room.ensures.promise (c.take_all.ensures.serves n))
    (subst (λ (x : Prefix). GotObject v2 v3 (balance_in s) x plan.object) (sym r.entry) (subst (λ (f : Prefix → Option ℕ). GotObject v2 v3 f e plan.object) balances c.in-Some.ensures.some))
    c.object_for.ensures.quiet
    (λ n. subst (λ (q : Promise). Serves q n v2 → Serves q n v3) (c.take_all.ensures.promise ∙ c.make_room.ensures.promise) (c.object_for.ensures.serves n)))

pub returns-in_default-make_room-clause-serves : goal.returns-in_default-make_room-clause-serves
returns-in_default-make_room-clause-serves g c = λ n. room_serves (g.P.Objects.promise c.args.on.now) n _ _ c.make_room.ensures.same

pub returns-in_err-take_all-clause-serves : goal.returns-in_err-take_all-clause-serves
returns-in_err-take_all-clause-serves g c = λ n h.
    subst (λ (q : Promise). Serves q n (g.P.Objects.view c.make_room.new.on) → Serves q n (g.P.Objects.view c.take_all.new.on)) c.make_room.ensures.promise (c.take_all.ensures.serves n)
    (room_serves (g.P.Objects.promise c.args.on.now) n _ (g.P.Objects.view c.make_room.new.on) c.make_room.ensures.same h)

pub returns-in_err-take_all-clause-short : goal.returns-in_err-take_all-clause-short
returns-in_err-take_all-clause-short g c = λ S st is.
    let room = ap (λ (w : View). w.free) c.make_room.ensures.same.same in
    let marks = ap length (c.marked-marks.ensures S st) in
    let short = c.take_all.ensures.short (handed_on _ _ c.take_all.result c.from_residual.result _ wants.Object c.in_err-take_all.was c.from_residual.ensures.1 is) in
    omega (arith, room, marks, short)

pub returns-in_default-object_for-clause-serves : goal.returns-in_default-object_for-clause-serves
returns-in_default-object_for-clause-serves g c = λ n h.
    let p0 = c.make_room.ensures.promise in
    let s1 = room_serves (g.P.Objects.promise c.args.on.now) n _ (g.P.Objects.view c.make_room.new.on) c.make_room.ensures.same h in
    let s2 = subst (λ (q : Promise). Serves q n (g.P.Objects.view c.make_room.new.on) → Serves q n (g.P.Objects.view c.take_all.new.on)) p0 (c.take_all.ensures.serves n) s1 in
    let s3 = subst (λ (q : Promise). Serves q n (g.P.Objects.view c.take_all.new.on) → Serves q n (g.P.Objects.view c.object_for.new.on)) (c.take_all.ensures.promise ∙ p0) (c.object_for.ensures.serves n) s2 in
    subst (λ (q : Promise). Serves q n (g.P.Objects.view c.object_for.new.on) → Serves q n (g.P.Objects.view c.give_all.new.on)) (c.object_for.ensures.promise ∙ c.take_all.ensures.promise ∙ p0) (c.give_all.ensures.serves n) s3

pub returns-in_default-object_for-clause-short : goal.returns-in_default-object_for-clause-short
returns-in_default-object_for-clause-short g c = λ S st is.
    let room = ap (λ (w : View). w.free) c.make_room.ensures.same.same in
    let marks = ap length (c.marked-marks.ensures S st) in
    let few = uses_few c.take_all.new.uses.items c.marked-marks.result.now c.in_ok-take_all.ensures.records in
    let short = none_short (g.P.Objects.view c.take_all.new.on).free c.object_for.result c.object_for.ensures.short c.in_default-object_for.is in
    omega (arith, room, marks, few, short, c.in_ok-take_all.ensures.ok.free)

pub returns-clause-serves : goal.returns-clause-serves
returns-clause-serves g c = λ n h.
    let p0 = c.make_room.ensures.promise in
    let s1 = room_serves (g.P.Objects.promise c.args.on.now) n _ (g.P.Objects.view c.make_room.new.on) c.make_room.ensures.same h in
    let s2 = subst (λ (q : Promise). Serves q n (g.P.Objects.view c.make_room.new.on) → Serves q n (g.P.Objects.view c.take_all.new.on)) p0 (c.take_all.ensures.serves n) s1 in
    subst (λ (q : Promise). Serves q n (g.P.Objects.view c.take_all.new.on) → Serves q n (g.P.Objects.view c.object_for.new.on)) (c.take_all.ensures.promise ∙ p0) (c.object_for.ensures.serves n) s2

pub returns-in_err-take_all-clause-lacks : goal.returns-in_err-take_all-clause-lacks
returns-in_err-take_all-clause-lacks g c = λ S st is.
    lacks_roomy (g.P.Objects.view c.args.on.now) (g.P.Objects.view c.make_room.new.on) (records_for c.marked-marks.result.now) (records_for (marked_list S c.args.entry)) 1 8 c.make_room.ensures.same
    (ap records_for (c.marked-marks.ensures S st)) (omega arith)
    (c.take_all.ensures.lacks (handed_on _ _ c.take_all.result c.from_residual.result _ wants.Object c.in_err-take_all.was c.from_residual.ensures.1 is))

pub returns-in_default-object_for-clause-lacks : goal.returns-in_default-object_for-clause-lacks
returns-in_default-object_for-clause-lacks g c = λ S st is.
    lacks_then (g.P.Objects.view c.args.on.now) (g.P.Objects.view c.make_room.new.on) (g.P.Objects.view c.take_all.new.on) (records_for c.marked-marks.result.now) (records_for (marked_list S c.args.entry)) 8 c.make_room.ensures.same
    (ap records_for (c.marked-marks.ensures S st)) c.in_ok-take_all.ensures.new
    (none_short (g.P.Objects.view c.take_all.new.on).free c.object_for.result c.object_for.ensures.short c.in_default-object_for.is)

pub returns-clause-taken : goal.returns-clause-taken
returns-clause-taken g c = λ S st.
    subst (λ (q : Parts). TookNew (g.P.Objects.view c.args.on.now) (g.P.Objects.view c.object_for.new.on) (records_for (marked_list S c.args.entry)) (balances_for (balance_in q c.args.entry))) c.make_room.ensures.parts
    (new_then (g.P.Objects.view c.args.on.now) (g.P.Objects.view c.make_room.new.on) (g.P.Objects.view c.take_all.new.on) (g.P.Objects.view c.object_for.new.on) (records_for c.marked-marks.result.now) (records_for (marked_list S c.args.entry))
    (balances_for (balance_in (parts_of c.make_room.new.table c.make_room.new.stack c.make_room.new.queue) c.args.entry)) c.make_room.ensures.same
    (ap records_for (c.marked-marks.ensures S st)) c.in_ok-take_all.ensures.new c.object_for.ensures.taken)

pub make_room-requires : goal.make_room-requires
make_room-requires g c = let t = c.requires.turn.2 in record { stands = (in_change (g.P.Objects.promise c.args.on.now), t.joined.table) }

pub returns-clause-calls : goal.returns-clause-calls
returns-clause-calls g c =
    takes_then _ (g.P.Objects.view c.make_room.new.on) _ (takes_room _ _ c.make_room.ensures.same)
    (takes_then _ (g.P.Objects.view c.take_all.new.on) _ c.in_ok-take_all.ensures.taken c.object_for.ensures.calls)

pub returns-clause-stores : goal.returns-clause-stores
returns-clause-stores g c = λ o at.
    let same = c.object_for.ensures.same o (ap (λ (q : Parts). balance_in q c.args.entry) c.make_room.ensures.parts ∙ at) in
    let uses = c.take_all.new.uses.items in
    subst (λ (v : View). StoresEach (λ y k. IsObjectOf uses y) (g.P.Objects.view c.args.on.now) v) (sym same)
    (stores_room (λ y k. IsObjectOf uses y) (g.P.Objects.view c.args.on.now) (g.P.Objects.view c.make_room.new.on) (g.P.Objects.view c.take_all.new.on) c.make_room.ensures.same c.in_ok-take_all.ensures.stores)
