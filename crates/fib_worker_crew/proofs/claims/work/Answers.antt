use Rattle.std.proofs.Common.{◌≡◌, ◌≤◌, ◌+◌, ◌*◌, ◌++◌, ◌∷◌, [], List, length, sym, ap, subst, ◌∙◌, arith}
use Rattle.std.proofs.lemmas.List.{length-append}
use Rattle.fib_worker_crew.specs.Frames.{frame, frames}
use Rattle.fib_worker_crew.specs.Packets.{span}
use Rattle.fib_worker_crew.specs.Results.{HasForwarded}
use Rattle.fib_worker_crew.specs.Work.{HasWorked, steps_so_far}
use Rattle.fib_worker_crew.specs.declared.claims.Frame.{Frame}
use Rattle.fib_worker_crew.proofs.Spans.{frame_is, frames_of_span}
use Rattle.fib_worker_crew.proofs.Works.{stopped_full, stopped_missed, worked_frame, worked_last, worked_none}
use Rattle.fib_worker_crew.proofs.claims.work.Goals as goal

pub loop-made-init : goal.loop-made-init
loop-made-init g c =
    let taken = span c.args.packets.now.packets c.args.taken.first c.args.taken.to in
    record {
      worked = subst (λ (xs : List Frame). HasWorked c.args.taken.opened c.args.taken.first c.args.taken.base 0 taken c.args.worker c.args.worker (steps_so_far xs)) (sym c.new-list.ensures.items)
          (worked_none c.args.taken.opened c.args.taken.first c.args.taken.base taken c.args.worker);
      long = ap (length {A = Frame}) c.new-list.ensures.items;
    }

pub returns-in_default-clause-worked : goal.returns-in_default-clause-worked
returns-in_default-clause-worked g c = λ done.
    let taken = span c.args.packets.now.packets c.args.taken.first c.args.taken.to in
    let count : c.frames-count.result ≡ frames taken = c.frames-count.ensures.value ∙ frames_of_span c.args.packets.now.packets c.args.taken.first c.args.taken.to c.requires.order c.requires.inside in
    let lt = c.loop-made-test.true in
    worked_last c.args.taken.opened c.args.taken.first c.args.taken.base c.loop-made.made (frames taken + 1) taken c.args.worker c.loop-made.worker c.claim-claim.new.self c.loop-made.list.items c.claim-claim.result
    c.loop-made.invariant.worked c.claim-claim.ensures
    (λ le. (let past = c.frame_of.ensures.none c.in_default.is le in omega (arith, past, count)))
    (omega (arith, lt, count))

pub loop-made-preserved : goal.loop-made-preserved
loop-made-preserved g c =
    let packets = c.args.packets.now.packets in
    let taken = span packets c.args.taken.first c.args.taken.to in
    let n = c.in-Some.number in
    let f : Frame = record { number = n; results = c.forward_span-worker.new.results } in
    let count : c.frames-count.result ≡ frames taken = c.frames-count.ensures.value ∙ frames_of_span packets c.args.taken.first c.args.taken.to c.requires.order c.requires.inside in
    let named = c.in-Some.ensures.some in
    let lt = named.0 in
    let order = c.requires.order in
    let value = c.frames-count.ensures.value in
    let start : c.args.taken.first + 256 * n ≤ c.args.taken.to = omega (arith, lt, value, order) in
    let whole : frame taken n ≡ span packets (c.args.taken.first + 256 * n) (c.args.taken.first + 256 * n + c.min-size.result) =
    frame_is packets c.args.taken.first c.args.taken.to n c.min-size.result start c.min-size.ensures in
    let forwarded : HasForwarded c.claim-claim.new.self c.forward_span-worker.result (c.args.taken.first + 256 * n) (frame taken n) [] f.results.list =
    subst (λ xs. HasForwarded c.claim-claim.new.self c.forward_span-worker.result (c.args.taken.first + 256 * n) (frame taken n) xs f.results.list) c.in-Ok.ensures.empty
    (subst (λ ps. HasForwarded c.claim-claim.new.self c.forward_span-worker.result (c.args.taken.first + 256 * n) ps c.in-Ok.results.list f.results.list) (sym whole) c.forward_span-worker.ensures) in
    let kept : c.push_reserved.new.self.items ≡ c.loop-made.list.items ++ f ∷ [] = c.push_reserved.ensures.items ∙ ap (λ (xs : List Frame). xs ++ f ∷ []) c.room_for.ensures.kept in
    record {
      worked = subst (λ (xs : List Frame). HasWorked c.args.taken.opened c.args.taken.first c.args.taken.base (c.loop-made.made + 1) taken c.args.worker c.forward_span-worker.result (steps_so_far xs)) (sym kept)
          (worked_frame c.args.taken.opened c.args.taken.first c.args.taken.base c.loop-made.made taken c.args.worker c.loop-made.worker c.claim-claim.new.self c.forward_span-worker.result c.loop-made.list.items c.claim-claim.result f
          c.requires.may.knows c.loop-made.invariant.worked c.claim-claim.ensures named.1 (omega (arith, lt, count)) forwarded);
      long = (let e = ap (length {A = Frame}) kept in let l = length-append c.loop-made.list.items (f ∷ []) in let i = c.loop-made.invariant.long in omega (arith, e, l, i));
    }
