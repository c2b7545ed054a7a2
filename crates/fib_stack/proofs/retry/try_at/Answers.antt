use Rattle.std.proofs.Common.{◌∙◌, sym, true≢false}
use Rattle.fib_stack.specs.Moments.{parts_of}
use Rattle.fib_stack.proofs.Retrying.{dropped_joined, dropped_retried, dropped_stays, late_kind, late_may, late_placed, late_spare, late_target, opened, read_there, stays_at, stored_joined, stored_retried, there_or, tried_grew, tried_quiet}
use Rattle.fib_stack.proofs.retry.try_at.Goals as goal

pub unreachable-requires : goal.unreachable-requires
unreachable-requires g c =
    let j = c.requires.joined.2 in
    late_placed _ _ _ _ _ c.at-next.result j (read_there _ c.args.place c.at-next.result c.requires.place c.len-listed.ensures.apart c.at-next.ensures) (sym c.object.ensures ∙ c.in_default.is)

pub put-requires-clause-target : goal.put-requires-clause-target
put-requires-clause-target g c =
    late_target _ _ _ _ _ _ _ (opened _ _ _ _ _ c.args.place c.at-next.result c.in-Some.object c.is_queued.result c.requires.joined.2 (g.met.P.Objects.sound c.args.on.now) c.requires.place c.len-listed.ensures.apart c.len-listed.ensures.slots c.at-next.ensures c.is_queued.ensures.1 c.if-is_queued.false (sym c.object.ensures ∙ c.in-Some.is))

pub put-requires-clause-kind : goal.put-requires-clause-kind
put-requires-clause-kind g c =
    late_kind _ _ _ _ _ _ _ (opened _ _ _ _ _ c.args.place c.at-next.result c.in-Some.object c.is_queued.result c.requires.joined.2 (g.met.P.Objects.sound c.args.on.now) c.requires.place c.len-listed.ensures.apart c.len-listed.ensures.slots c.at-next.ensures c.is_queued.ensures.1 c.if-is_queued.false (sym c.object.ensures ∙ c.in-Some.is))

pub put-requires-clause-spare : goal.put-requires-clause-spare
put-requires-clause-spare g c =
    late_spare _ _ _ _ _ _ _ (opened _ _ _ _ _ c.args.place c.at-next.result c.in-Some.object c.is_queued.result c.requires.joined.2 (g.met.P.Objects.sound c.args.on.now) c.requires.place c.len-listed.ensures.apart c.len-listed.ensures.slots c.at-next.ensures c.is_queued.ensures.1 c.if-is_queued.false (sym c.object.ensures ∙ c.in-Some.is))

pub put-requires-clause-promise : goal.put-requires-clause-promise
put-requires-clause-promise g c =
    late_may _ _ _ _ _ _ _ (opened _ _ _ _ _ c.args.place c.at-next.result c.in-Some.object c.is_queued.result c.requires.joined.2 (g.met.P.Objects.sound c.args.on.now) c.requires.place c.len-listed.ensures.apart c.len-listed.ensures.slots c.at-next.ensures c.is_queued.ensures.1 c.if-is_queued.false (sym c.object.ensures ∙ c.in-Some.is))

pub returns-in-Dropped-clause-tried : goal.returns-in-Dropped-clause-tried
returns-in-Dropped-clause-tried g c = λ S rank j. record {
  retried =
      dropped_retried _ _ _ _ _ _ _ (opened S rank _ _ _ c.args.place c.at-next.result c.in-Some.object c.is_queued.result j (g.met.P.Objects.sound c.args.on.now) c.requires.place c.len-listed.ensures.apart c.len-listed.ensures.slots c.at-next.ensures c.is_queued.ensures.1 c.if-is_queued.false (sym c.object.ensures ∙ c.in-Some.is))
      (g.P.Objects.view c.put.new.self) _ c.in-Dropped.ensures.put (g.met.P.Objects.sound c.put.new.self) c.in-Dropped.ensures.put.answered.1;
  joined =
      dropped_joined _ _ _ _ _ _ _ (opened S rank _ _ _ c.args.place c.at-next.result c.in-Some.object c.is_queued.result j (g.met.P.Objects.sound c.args.on.now) c.requires.place c.len-listed.ensures.apart c.len-listed.ensures.slots c.at-next.ensures c.is_queued.ensures.1 c.if-is_queued.false (sym c.object.ensures ∙ c.in-Some.is))
      (g.P.Objects.view c.put.new.self) _ c.in-Dropped.ensures.put (g.met.P.Objects.sound c.put.new.self) c.in-Dropped.ensures.put.answered.1;
}

pub returns-in-Dropped-clause-why : goal.returns-in-Dropped-clause-why
returns-in-Dropped-clause-why g c = λ _ d at.
    stays_at (g.P.Objects.view c.put.new.self) (parts_of c.args.table.now c.args.stack.now c.args.queue.now) c.args.stack.now.late.members c.args.place c.at-next.result d c.requires.place c.at-next.ensures at
    (dropped_stays _ _ _ _ _ _ _ (opened _ _ _ _ _ c.args.place c.at-next.result c.in-Some.object c.is_queued.result c.requires.joined.2 (g.met.P.Objects.sound c.args.on.now) c.requires.place c.len-listed.ensures.apart c.len-listed.ensures.slots c.at-next.ensures c.is_queued.ensures.1 c.if-is_queued.false (sym c.object.ensures ∙ c.in-Some.is))
    (g.P.Objects.view c.put.new.self) _ c.in-Dropped.ensures.put (g.met.P.Objects.sound c.put.new.self) c.in-Dropped.ensures.put.answered.2)

pub returns-in-Dropped-clause-grew : goal.returns-in-Dropped-clause-grew
returns-in-Dropped-clause-grew g c =
    tried_grew _ _ _ _ _ _ _ (opened _ _ _ _ _ c.args.place c.at-next.result c.in-Some.object c.is_queued.result c.requires.joined.2 (g.met.P.Objects.sound c.args.on.now) c.requires.place c.len-listed.ensures.apart c.len-listed.ensures.slots c.at-next.ensures c.is_queued.ensures.1 c.if-is_queued.false (sym c.object.ensures ∙ c.in-Some.is))
    (g.P.Objects.view c.put.new.self) _ c.in-Dropped.ensures.put (g.met.P.Objects.sound c.put.new.self)

pub returns-in-Dropped-clause-quiet : goal.returns-in-Dropped-clause-quiet
returns-in-Dropped-clause-quiet g c =
    tried_quiet _ _ _ _ _ _ _ (opened _ _ _ _ _ c.args.place c.at-next.result c.in-Some.object c.is_queued.result c.requires.joined.2 (g.met.P.Objects.sound c.args.on.now) c.requires.place c.len-listed.ensures.apart c.len-listed.ensures.slots c.at-next.ensures c.is_queued.ensures.1 c.if-is_queued.false (sym c.object.ensures ∙ c.in-Some.is))
    (g.P.Objects.view c.put.new.self) _ c.in-Dropped.ensures.put (g.met.P.Objects.sound c.put.new.self)

pub returns-in-Same : goal.returns-in-Same
returns-in-Same g c =
    let now = there_or (g.P.Objects.view c.args.on.now) c.in-Some.object c.at-next.result.slot c.at-next.result.word _ c.put.result c.put.ensures.put.answered c.in-Same.is in
    record {
      tried = λ S rank j. record {
        retried =
            stored_retried _ _ _ _ _ _ _ (opened S rank _ _ _ c.args.place c.at-next.result c.in-Some.object c.is_queued.result j (g.met.P.Objects.sound c.args.on.now) c.requires.place c.len-listed.ensures.apart c.len-listed.ensures.slots c.at-next.ensures c.is_queued.ensures.1 c.if-is_queued.false (sym c.object.ensures ∙ c.in-Some.is))
            (g.P.Objects.view c.put.new.self) _ c.put.ensures.put (g.met.P.Objects.sound c.put.new.self) _ c.args.place c.requires.place c.len-listed.ensures.apart c.at-next.ensures c.take_out.ensures.members now;
        joined =
            stored_joined _ _ _ _ _ _ _ (opened S rank _ _ _ c.args.place c.at-next.result c.in-Some.object c.is_queued.result j (g.met.P.Objects.sound c.args.on.now) c.requires.place c.len-listed.ensures.apart c.len-listed.ensures.slots c.at-next.ensures c.is_queued.ensures.1 c.if-is_queued.false (sym c.object.ensures ∙ c.in-Some.is))
            (g.P.Objects.view c.put.new.self) _ c.put.ensures.put (g.met.P.Objects.sound c.put.new.self) _ c.args.place c.requires.place c.len-listed.ensures.apart c.at-next.ensures c.take_out.ensures.members now;
      };
      done = λ _. c.take_out.ensures.members;
      left = λ no. absurd (true≢false no);
      why = λ no. absurd (true≢false no);
      grew =
          tried_grew _ _ _ _ _ _ _ (opened _ _ _ _ _ c.args.place c.at-next.result c.in-Some.object c.is_queued.result c.requires.joined.2 (g.met.P.Objects.sound c.args.on.now) c.requires.place c.len-listed.ensures.apart c.len-listed.ensures.slots c.at-next.ensures c.is_queued.ensures.1 c.if-is_queued.false (sym c.object.ensures ∙ c.in-Some.is))
          (g.P.Objects.view c.put.new.self) _ c.put.ensures.put (g.met.P.Objects.sound c.put.new.self);
      quiet =
          tried_quiet _ _ _ _ _ _ _ (opened _ _ _ _ _ c.args.place c.at-next.result c.in-Some.object c.is_queued.result c.requires.joined.2 (g.met.P.Objects.sound c.args.on.now) c.requires.place c.len-listed.ensures.apart c.len-listed.ensures.slots c.at-next.ensures c.is_queued.ensures.1 c.if-is_queued.false (sym c.object.ensures ∙ c.in-Some.is))
          (g.P.Objects.view c.put.new.self) _ c.put.ensures.put (g.met.P.Objects.sound c.put.new.self);
      promise = c.put.ensures.promise;
    }
