use Rattle.std.proofs.Common.{◌≡◌, ◌≤◌, ◌+◌, ◌++◌, [], arith, rules, ap, sym, subst, ◌∙◌, length}
use Rattle.std.specs.Prelude.{All, map, Some, slice_get}
use Rattle.std.specs.List.{AllByRecursion}
use Rattle.std.proofs.lemmas.List.{length-map}
use Rattle.fib_core_lawful.specs.Claims.{times}
use Rattle.fib_core_board.specs.Boards.{Board}
use Rattle.fib_control.specs.Controls.{tables_in}
use Rattle.fib_worker_crew.specs.Claims.{IsDrawnOnce}
use Rattle.fib_worker_crew.specs.Frames.{frames}
use Rattle.fib_worker_crew.specs.Packets.{span}
use Rattle.fib_rounds_homing.specs.Stations.{AreBack, IsCrew, IsReady, pasts_of}
use Rattle.fib_rounds.proofs.Forwarding.{count_is, written_back}
use Rattle.fib_counter.specs.CountOutput.{class_count}
use Rattle.fib_counter.specs.inner.Posts.{HasCounted, IsFreshPost, IsReadyPost, counted_by, station_of}
use Rattle.fib_counter.proofs.Posting.{all_home, back_posts, counted_all, counted_home, ready_posts}
use Rattle.fib_counter.proofs.Summing.{span_all, totals_are}
use Rattle.fib_counter.proofs.count.count_packets.Goals as goal

pub work_posts-requires-clause-ready : goal.work_posts-requires-clause-ready
work_posts-requires-clause-ready g c κs within =
    let ps = c.args.task.now.packets.now.packets in
    let s = c.requires.settled in
    let k = c.version.result.applied in
    let n = frames (span ps 0 c.count.result) in
    let is = ap (λ v. v.applied) c.version.ensures in
    let few = c.frames.ensures.few in
    let inside : c.count.result ≤ length ps = omega (arith, c.count.ensures) in
    let count = count_is ps 0 c.count.result (omega arith) inside ∙ sym c.frames.ensures.value in
    let ready = c.send_out.ensures.ready k c.frames.result (record { settled = omega (arith, is, s.settled); applied = omega (arith, is) })
    (λ i lt. omega (arith, s.left i lt, few)) (omega (arith, few)) in
    let stations : All (IsReady k n) (map station_of c.muster.new.posts.items) = subst (All (IsReady k n)) (sym c.muster.ensures.stations) (subst (λ m. All (IsReady k m) c.send_out.new.crew.items) (sym count) ready) in
    subst (All (IsReadyPost k n)) (sym c.as_mut_slice.ensures.value) (ready_posts k n c.muster.new.posts.items stations)

pub dismiss-counted-requires-clause-counted : goal.dismiss-counted-requires-clause-counted
dismiss-counted-requires-clause-counted g c =
    let taken = span c.args.task.now.packets.now.packets 0 c.count.result in
    let id = c.args.keeper.now.id in
    let before = c.as_mut_slice.result.now in
    let after = c.work_posts.new.posts in
    let fresh = subst (AllByRecursion (IsFreshPost id)) (sym c.as_mut_slice.ensures.value) c.muster.ensures.fresh in
    let counted = counted_all id c.version.result.applied 0 c.gathered.result taken before after fresh c.work_posts.ensures.long c.work_posts.ensures.each in
    let len : length after ≡ c.muster.new.posts.len = search rules in
    rw (written_back c.muster.new.posts.len after _ len, c.muster.ensures.id) counted

pub bring_home-done-requires-clause-back : goal.bring_home-done-requires-clause-back
bring_home-done-requires-clause-back g c =
    let taken = span c.args.task.now.packets.now.packets 0 c.count.result in
    let k = c.version.result.applied in
    let base = c.gathered.result in
    let A = c.args.control.now.plane.board in
    let C = c.send_out.new.control.plane.board in
    let before = c.as_mut_slice.result.now in
    let after = c.work_posts.new.posts in
    let len : length after ≡ c.muster.new.posts.len = search rules in
    let mustered = subst (λ p. IsCrew A 0 (map station_of p)) (sym c.as_mut_slice.ensures.value) (subst (IsCrew A 0) (sym c.muster.ensures.stations) c.send_out.ensures.crew) in
    let back = back_posts A k 0 base 0 taken before after mustered c.work_posts.ensures.long c.work_posts.ensures.each in
    let home = c.dismiss-counted.ensures.stations ∙ ap (map station_of) (written_back c.muster.new.posts.len after _ len) in
    let id : C.id ≡ A.id = ap (λ (x : Board). x.id) c.send_out.ensures.sent in
    let rests : C.rests ≡ A.rests = ap (λ (x : Board). x.rests) c.send_out.ensures.sent in
    subst (AreBack C.id C.rests k 0 base 0 taken) (sym home)
    (subst (λ t. AreBack t C.rests k 0 base 0 taken (map station_of after)) (sym id) (subst (λ ls. AreBack A.id ls k 0 base 0 taken (map station_of after)) (sym rests) back))

pub bring_home-done-requires-clause-others : goal.bring_home-done-requires-clause-others
bring_home-done-requires-clause-others g c =
    let after = c.work_posts.new.posts in
    let len : length after ≡ c.muster.new.posts.len = search rules in
    let home = c.dismiss-counted.ensures.stations ∙ ap (map station_of) (written_back c.muster.new.posts.len after _ len) in
    let same : length after ≡ length c.muster.new.posts.items = c.work_posts.ensures.long ∙ ap length c.as_mut_slice.ensures.value in
    let mustered : length c.muster.new.posts.items ≡ c.args.task.now.settings.workers =
    sym (length-map c.muster.new.posts.items station_of) ∙ (ap length c.muster.ensures.stations ∙ c.send_out.ensures.all) in
    let all : length c.dismiss-counted.new.crew.items ≡ c.args.task.now.settings.workers = ap length home ∙ (length-map after station_of ∙ (same ∙ mustered)) in
    λ n le. c.send_out.ensures.others n (omega (arith, le, all))

pub returns-then-done-clause-out : goal.returns-then-done-clause-out
returns-then-done-clause-out g c =
    let after = c.work_posts.new.posts in
    let len : length after ≡ c.muster.new.posts.len = search rules in
    let same : length after ≡ length c.muster.new.posts.items = c.work_posts.ensures.long ∙ ap length c.as_mut_slice.ensures.value in
    all_home _ after c.muster.new.posts.items c.send_out.new.crew.items _ _ _ (written_back c.muster.new.posts.len after _ len) same c.muster.ensures.stations
    c.requires.none c.muster.ensures.out c.dismiss-counted.ensures.out

pub returns-then-done-clause-totals : goal.returns-then-done-clause-totals
returns-then-done-clause-totals g c = λ w lt.
    let ps = c.args.task.now.packets.now.packets in
    let taken = span ps 0 c.count.result in
    let s = c.requires.settled in
    let k = c.version.result.applied in
    let base = c.gathered.result in
    let S = tables_in c.args.control.now in
    let A = c.args.control.now.plane.board in
    let C = c.send_out.new.control.plane.board in
    let D = c.bring_home-done.new.control.plane.board in
    let before = c.as_mut_slice.result.now in
    let after = c.work_posts.new.posts in
    let len : length after ≡ c.muster.new.posts.len = search rules in
    let written = written_back c.muster.new.posts.len after _ len in
    let mustered = subst (λ p. IsCrew A 0 (map station_of p)) (sym c.as_mut_slice.ensures.value) (subst (IsCrew A 0) (sym c.muster.ensures.stations) c.send_out.ensures.crew) in
    let back = back_posts A k 0 base 0 taken before after mustered c.work_posts.ensures.long c.work_posts.ensures.each in
    let crew : c.dismiss-counted.new.crew.items ≡ map station_of after = c.dismiss-counted.ensures.stations ∙ ap (map station_of) written in
    let counted : AllByRecursion HasCounted after = subst (AllByRecursion HasCounted) written (c.dismiss-counted.ensures.counted c.if-counted.true) in
    let brought = c.bring_home-done.ensures in
    let sent = c.send_out.ensures.sent in
    let is = ap (λ v. v.applied) c.version.ensures in
    let gathered : C.gathered ≡ [] = ap (λ (x : Board). x.gathered) sent ∙ s.gathered in
    let none : C.trails ≡ [] = ap (λ (x : Board). x.trails) sent ∙ s.trails in
    let history : D.log.history ≡ A.log.history = ap (λ (x : Board). x.log.history) brought.keeps ∙ ap (λ (x : Board). x.log.history) sent in
    let newest : slice_get D.log.history k ≡ Some S = ap (λ h. slice_get h k) history ∙ (ap (slice_get A.log.history) is ∙ s.newest) in
    let count : length D.log.history ≡ k + 1 = ap length history ∙ (s.count ∙ ap (λ n. n + 1) (sym is)) in
    let base_is : base ≡ 0 = c.gathered.ensures ∙ ap length s.gathered in
    let drawn : IsDrawnOnce C.gathered = subst IsDrawnOnce (sym (ap (λ (x : Board). x.gathered) sent)) c.send_out.ensures.drawn in
    let totals = totals_are A.id A.rests k base (length c.dismiss-counted.new.crew.items) w S taken C D c.bring_home-done.new.places after (brought.home c.if-done.true) back counted
    (brought.trails ∙ ap (λ t. C.trails ++ pasts_of t) crew) none gathered base_is drawn brought.drawn newest count lt in
    let tally : c.dismiss-counted.new.keeper.tally ≡ counted_by after =
    counted_home _ after c.muster.new.keeper.tally c.dismiss-counted.new.keeper.tally written (c.muster.ensures.tally ∙ c.requires.fresh) c.dismiss-counted.ensures.tally in
    let whole : taken ≡ ps = ap (span ps 0) c.count.ensures ∙ span_all ps in
    ap (times w) tally ∙ (totals ∙ ap (λ t. class_count S t w) whole)
