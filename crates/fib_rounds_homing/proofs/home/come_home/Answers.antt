use Rattle.std.proofs.Common.{◌≡◌, ◌++◌, ◌∙◌, [], ap, length, refl, rules, sym}
use Rattle.std.specs.Prelude.{◌&&◌}
use Rattle.std.proofs.Math.Bool.{true-and}
use Rattle.std.proofs.lemmas.List.{nil_from_length}
use Rattle.fib_control.specs.Controls.{Control}
use Rattle.fib_worker_crew.specs.Packets.{span}
use Rattle.fib_rounds_homing.proofs.Arriving.{coming_more, coming_none, may_come}
use Rattle.fib_rounds_homing.specs.Stations.{all_done, pasts_of, rests_of}
use Rattle.fib_rounds_homing.proofs.Boarding.{both_true, ended_more, ended_none, pasts_more, pasts_none, rests_more, rests_none, with_step}
use Rattle.fib_rounds_homing.proofs.home.come_home.Goals as goal

pub loop-station-preserved : goal.loop-station-preserved
loop-station-preserved c =
    let i = c.loop-station.invariant in
    let t = c.args.taken in
    let taken = span c.args.packets.now.packets t.first t.to in
    let coming = rw c.in-Some.ensures.steps.0 at i.coming in
    let back = coming.back.0 in
    let home = c.come_one-came.ensures.home back.worker back.has in
    let a = c.args.control.now in
    let b = c.loop-station.control in
    record {
      same = with_step a b c.come_one-came.new.control _ i.same home;
      coming = coming_more t.opened t.first t.base (length c.args.crew.items) taken a.plane.board b.plane.board c.come_one-came.new.control.plane.board c.args.places.now c.loop-station.places
          c.come_one-came.new.places c.loop-station.done c.both-done.result c.in-Some.station c.next.new.self.rest.items back.worker coming back.has (ap (λ (x : Control). x.plane.board) home)
          (λ yes. (let two = both_true c.loop-station.done c.come_one-came.result (sym c.both-done.ensures ∙ yes) in (two.0, sym c.come_one-came.ensures.ended ∙ two.1, c.come_one-came.ensures.places two.1)))
          c.come_one-came.ensures.long;
      trails = ap (λ (x : Control). x.plane.board.trails ++ pasts_of c.next.new.self.rest.items) home
          ∙ (pasts_more b.plane.board.trails c.in-Some.station c.next.new.self.rest.items back.worker back.has ∙ rw c.in-Some.ensures.steps.0 at i.trails);
      rests = ap (λ (x : Control). rests_of x.plane.board.rests c.next.new.self.rest.items) home
          ∙ (rests_more b.plane.board.rests c.in-Some.station c.next.new.self.rest.items back.worker back.has ∙ rw c.in-Some.ensures.steps.0 at i.rests);
      ended = ap (λ d. d && all_done c.next.new.self.rest.items) c.both-done.ensures
          ∙ (ended_more c.loop-station.done c.come_one-came.result c.in-Some.station c.next.new.self.rest.items c.come_one-came.ensures.ended ∙ rw c.in-Some.ensures.steps.0 at i.ended);
      places = i.places;
    }

pub come_one-came-requires-clause-of : goal.come_one-came-requires-clause-of
come_one-came-requires-clause-of c =
    let i = c.loop-station.invariant in
    let t = c.args.taken in
    (may_come t.opened t.first t.base (length c.args.crew.items) (span c.args.packets.now.packets t.first t.to) c.args.control.now.plane.board c.loop-station.control.plane.board c.args.places.now
    c.loop-station.places c.loop-station.done c.in-Some.station c.next.new.self.rest.items (rw c.in-Some.ensures.steps.0 at i.coming) i.places).0

pub come_one-came-requires-clause-inside : goal.come_one-came-requires-clause-inside
come_one-came-requires-clause-inside c =
    let i = c.loop-station.invariant in
    let t = c.args.taken in
    (may_come t.opened t.first t.base (length c.args.crew.items) (span c.args.packets.now.packets t.first t.to) c.args.control.now.plane.board c.loop-station.control.plane.board c.args.places.now
    c.loop-station.places c.loop-station.done c.in-Some.station c.next.new.self.rest.items (rw c.in-Some.ensures.steps.0 at i.coming) i.places).1

pub loop-station-init : goal.loop-station-init
loop-station-init c =
    let t = c.args.taken in
    let taken = span c.args.packets.now.packets t.first t.to in
    record {
      same = refl;
      coming = rw c.into_iter-station-iterator.ensures.into_iter_gives.0
          (coming_none t.opened t.first t.base (length c.args.crew.items) taken c.args.control.now.plane.board c.args.places.now c.args.crew.items c.requires.back refl c.requires.others);
      trails = rw c.into_iter-station-iterator.ensures.into_iter_gives.0 refl;
      rests = rw c.into_iter-station-iterator.ensures.into_iter_gives.0 refl;
      ended = rw c.into_iter-station-iterator.ensures.into_iter_gives.0 (true-and (all_done c.args.crew.items));
      places = c.requires.places;
    }

pub returns-clause-trails : goal.returns-clause-trails
returns-clause-trails c =
    let rest = c.loop-station.station-iterator.rest in
    let len : length rest.items ≡ rest.len = search rules in
    pasts_none c.loop-station.control.plane.board.trails _ rest.items c.loop-station.invariant.trails (nil_from_length rest.items (len ∙ c.in-None.ensures.steps.0))

pub returns-clause-rests : goal.returns-clause-rests
returns-clause-rests c =
    let rest = c.loop-station.station-iterator.rest in
    let len : length rest.items ≡ rest.len = search rules in
    rests_none c.loop-station.control.plane.board.rests _ rest.items c.loop-station.invariant.rests (nil_from_length rest.items (len ∙ c.in-None.ensures.steps.0))

pub returns-clause-ended : goal.returns-clause-ended
returns-clause-ended c =
    let rest = c.loop-station.station-iterator.rest in
    let len : length rest.items ≡ rest.len = search rules in
    ended_none c.loop-station.done _ rest.items c.loop-station.invariant.ended (nil_from_length rest.items (len ∙ c.in-None.ensures.steps.0))
