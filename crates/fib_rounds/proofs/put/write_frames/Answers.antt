use Rattle.std.proofs.Common.{◌≡◌, ◌-◌, ◌+◌, arith, rules}
use Rattle.std.specs.Prelude.{min}
use Rattle.fib_rounds.proofs.Writing.{on_err}
use Rattle.fib_rounds.proofs.Laid.{frames_more, frames_cut, frames_end, laid_some}
use Rattle.fib_rounds.proofs.Handing.{pairs_more, pairs_cut, pairs_end}
use Rattle.fib_rounds.proofs.put.write_frames.Goals as goal
use Rattle.fib_rounds.proofs.put.write_frames.Goals.{in-Some+in_ok-write_frame, in_default}

pub returns-in_err-write_frame-clause-err : goal.returns-in_err-write_frame-clause-err
returns-in_err-write_frame-clause-err g c =
    let inv = c.frames.invariant in
    let next : c.frames.at + c.min.result ≡ c.frames.at + min (c.args.round.to - c.frames.at) 256 = search rules in
    on_err c.from_residual.result
    (frames_cut _ _ _ c.args.page.now.tables.now c.args.page.now.packets.now.packets c.frames.at (c.frames.at + c.min.result) c.args.round.to c.args.places.now c.frames.place-index c.place-item.result c.in-Some.results _ c.frames-test.true c.place-item.is c.in-Some.is inv.high c.requires.inside inv.laid next inv.written c.in_err-write_frame.ensures.err)

pub returns-in_err-write_frame-clause-took_some : goal.returns-in_err-write_frame-clause-took_some
returns-in_err-write_frame-clause-took_some g c =
    let inv = c.frames.invariant in
    on_err c.from_residual.result
    (pairs_cut _ _ _ c.args.page.now.packets.now.packets c.frames.at c.args.round.to c.args.places.now c.frames.place-index c.place-item.result c.in-Some.results _ c.frames-test.true c.place-item.is c.in-Some.is inv.high c.requires.inside inv.laid inv.taken c.in_err-write_frame.ensures.took_some)

pub frames-preserved : goal.frames-preserved
frames-preserved g c = elim c.match-place.branch [
  | in-Some+in_ok-write_frame w ↦
      let inv = c.frames.invariant in
      let next : c.frames.at + w.min.result ≡ c.frames.at + min (c.args.round.to - c.frames.at) 256 = search rules in
      let told = frames_more _ _ _ c.args.page.now.tables.now c.args.page.now.packets.now.packets c.frames.at (c.frames.at + w.min.result) c.args.round.to c.args.places.now c.frames.place-index c.place-item.result w.in-Some.results _ c.frames-test.true c.place-item.is w.in-Some.is inv.high c.requires.inside inv.laid next inv.written w.in_ok-write_frame.ensures.ok in
      let took = pairs_more _ _ _ c.args.page.now.packets.now.packets c.frames.at (c.frames.at + w.min.result) c.args.round.to c.args.places.now c.frames.place-index c.place-item.result w.in-Some.results _ c.frames-test.true c.place-item.is w.in-Some.is inv.high c.requires.inside inv.laid next inv.taken w.in_ok-write_frame.ensures.took in
      rw (w.at-is, w.out-is, w.tap-is) (record {
        high = omega (arith, next, inv.high);
        laid = told.0;
        written = told.1;
        taken = took;
        counted = omega (arith, inv.counted, w.in_ok-write_frame.ensures.counted);
        tapped = omega (arith, inv.tapped, w.in_ok-write_frame.ensures.tapped);
      })
  | in_default w ↦ absurd (laid_some c.args.page.now.packets.now.packets c.frames.at c.args.round.to c.args.places.now c.frames.place-index c.place-item.result c.frames-test.true c.place-item.is c.frames.invariant.laid w.in_default.is)
]

pub returns-clause-ok : goal.returns-clause-ok
returns-clause-ok g c =
    frames_end _ _ c.args.page.now.tables.now c.args.page.now.packets.now.packets c.frames.at c.args.round.to c.args.places.now c.frames.place-index _ (omega (arith, c.frames-test.false)) c.frames.invariant.laid c.frames.invariant.written

pub returns-clause-took : goal.returns-clause-took
returns-clause-took g c =
    pairs_end _ _ c.args.page.now.packets.now.packets c.frames.at c.args.round.to c.args.places.now c.frames.place-index _ (omega (arith, c.frames-test.false)) c.frames.invariant.laid c.frames.invariant.taken
