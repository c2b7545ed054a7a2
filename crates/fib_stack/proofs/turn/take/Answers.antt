use Rattle.std.proofs.Common.{◌≡◌, ◌≤◌, ◌∙◌, inl, inr, true≢false, refl, sym, subst}
use Rattle.fib_resolve_changes.proofs.Ranking.{ranked}
use Rattle.fib_entries_rows.specs.Known.{rank_of}
use Rattle.fib_stack.proofs.Finishing.{both_err, both_ok, either_way, on_ok, some_length_left}
use Rattle.fib_stack.specs.Joined.{Parts, state_in}
use Rattle.fib_stack.specs.Moments.{moment, parts_of}
use Rattle.fib_stack.specs.Records.{SamePlane}
use Rattle.fib_stack.specs.Room.{HasRoomLeft, Took}
use Rattle.fib_stack.specs.Steps.{Removed}
use Rattle.fib_stack.specs.inner.Leaving.{IsLeaving}
use Rattle.fib_stack.specs.inner.Turning.{EntryTurned}
use Rattle.fib_stack.proofs.Rooming.{made_alike, made_removed, room_left, took_none}
use Rattle.fib_stack.proofs.turn.take.Goals as goal

pub restack-requires : goal.restack-requires
restack-requires g c =
    let t = c.requires.turn in
    record { turn = (t.0, t.1, record { joined = t.2.joined; least = t.2.least; effective = sym (c.is_entry.ensures t.0 t.1) ∙ c.if-is_entry.true }) }

pub returns-then-is_entry-clause-turn : goal.returns-then-is_entry-clause-turn
returns-then-is_entry-clause-turn g c = λ S st next.
    let before = moment (g.P.Objects.view c.args.on.now) c.args.table.now c.args.stack.now c.args.queue.now in
    let after = moment (g.P.Objects.view c.restack.new.on) c.restack.new.table c.restack.new.stack c.restack.new.queue in
    let is = sym (c.is_entry.ensures S st) ∙ c.if-is_entry.true in
    on_ok c.restack.result
    (λ (r : EntryTurned S c.args.entry before after). record { turn = (next.least, inl (is, r.restacked)); run = λ _. r.run; exact = λ _. r.exact })
    (c.restack.ensures.turn S st (record { joined = next.joined; least = next.least; effective = is }))

pub returns-then-is_entry-clause-leaves : goal.returns-then-is_entry-clause-leaves
returns-then-is_entry-clause-leaves g c = λ S st next. c.restack.ensures.leaves S st (record { joined = next.joined; least = next.least; effective = sym (c.is_entry.ensures S st) ∙ c.if-is_entry.true })

pub drop_out-requires-clause-left : goal.drop_out-requires-clause-left
drop_out-requires-clause-left g c =
    let t = c.requires.turn in
    let rank = rank_of c.args.entries.now.rows in
    (t.0, rank, record { ranked = ranked t.0 rank t.1.falls; joined = t.2.joined; least = t.2.least; gone = sym (c.is_entry.ensures t.0 t.1) ∙ c.if-is_entry.false })

pub drop_out-requires-clause-prefix : goal.drop_out-requires-clause-prefix
drop_out-requires-clause-prefix g c =
    let t = c.requires.turn in
    some_length_left t.0 c.args.entry c.len-length.ensures.prefix (sym (c.is_entry.ensures t.0 t.1) ∙ c.if-is_entry.false)

pub returns-clause-turn : goal.returns-clause-turn
returns-clause-turn g c = λ S st next.
    let rank = rank_of c.args.entries.now.rows in
    let before = moment (g.P.Objects.view c.args.on.now) c.args.table.now c.args.stack.now c.args.queue.now in
    let after = moment (g.P.Objects.view c.drop_out.new.on) c.drop_out.new.table c.drop_out.new.stack c.drop_out.new.queue in
    let gone = sym (c.is_entry.ensures S st) ∙ c.if-is_entry.false in
    on_ok c.drop_out.result
    (λ (r : Removed c.args.entry (state_in before.view before.parts) (state_in after.view after.parts)). record { turn = (next.least, inr (gone, r)); run = λ is. absurd (true≢false (sym is ∙ gone)); exact = λ is. absurd (true≢false (sym is ∙ gone)) })
    (c.drop_out.ensures.turn S rank (record { ranked = ranked S rank st.falls; joined = next.joined; least = next.least; gone = gone }))

pub returns-clause-short : goal.returns-clause-short
returns-clause-short g c = λ S st is. absurd (c.drop_out.ensures.short is)

pub returns-clause-leaves : goal.returns-clause-leaves
returns-clause-leaves g c = λ S st next.
    let rank = rank_of c.args.entries.now.rows in
    let u = g.P.Objects.view c.args.on.now in
    let v = g.P.Objects.view c.drop_out.new.on in
    let old = parts_of c.args.table.now c.args.stack.now c.args.queue.now in
    let new = parts_of c.drop_out.new.table c.drop_out.new.stack c.drop_out.new.queue in
    let gone = sym (c.is_entry.ensures S st) ∙ c.if-is_entry.false in
    let leaving : IsLeaving S rank (g.P.Objects.promise c.args.on.now) (record { view = u; parts = old }) c.args.entry = record { ranked = ranked S rank st.falls; joined = next.joined; least = next.least; gone = gone } in
    record {
      joined = c.drop_out.ensures.joined S rank leaving;
      finds = λ room is. c.drop_out.ensures.short is;
      room = record {
        left = λ room. either_way c.drop_out.result
            (λ (did : Removed c.args.entry (state_in u old) (state_in v new) × (u.free ≤ v.free)). room_left S (state_in u old) (state_in v new) u.free v.free did.1 (made_removed S rank c.args.entry (state_in u old) (state_in v new) (ranked S rank st.falls) gone did.0) room)
            (λ (same : SamePlane u v × (new ≡ old)). subst (λ (q : Parts). HasRoomLeft S v.free (state_in v q)) (sym same.1) (room_left S (state_in u old) (state_in v old) u.free v.free same.0.free (made_alike S (state_in u old) (state_in v old) refl refl) room))
            (both_ok c.drop_out.result (λ r free. (r, free)) (c.drop_out.ensures.turn S rank leaving) c.drop_out.ensures.free)
            (both_err c.drop_out.result (λ a b. (a, b)) c.drop_out.ensures.err c.drop_out.ensures.parts);
        takes = either_way c.drop_out.result
            (λ (did : Removed c.args.entry (state_in u old) (state_in v new) × (u.free ≤ v.free)). took_none S (state_in u old) (state_in v new) u.free v.free did.1 (made_removed S rank c.args.entry (state_in u old) (state_in v new) (ranked S rank st.falls) gone did.0))
            (λ (same : SamePlane u v × (new ≡ old)). subst (λ (q : Parts). Took S (state_in u old) (state_in v q) u.free v.free) (sym same.1) (took_none S (state_in u old) (state_in v old) u.free v.free same.0.free (made_alike S (state_in u old) (state_in v old) refl refl)))
            (both_ok c.drop_out.result (λ r free. (r, free)) (c.drop_out.ensures.turn S rank leaving) c.drop_out.ensures.free)
            (both_err c.drop_out.result (λ a b. (a, b)) c.drop_out.ensures.err c.drop_out.ensures.parts);
      };
    }
