use Rattle.std.proofs.Common.{inl, sym, subst}
use Rattle.fib_cover.proofs.Sets.{take_whole}
use Rattle.fib_follow_features.specs.Holders.{Notes, NotesSome}
use Rattle.fib_follow_plan.specs.Noted.{AreFoundAll}
use Rattle.fib_follow_plan.proofs.Growing.{take_none}
use Rattle.fib_follow_plan.proofs.Keeping.{found_more, only_more, stays_noted, stays_notes, stays_some}
use Rattle.fib_follow_plan.proofs.noting.note_all.Goals as goal

pub loop-x-init : goal.loop-x-init
loop-x-init c = (λ f e k. k, λ y f k m. absurd (take_none c.args.list.now y k), λ f e k. inl k)

pub loop-x-preserved : goal.loop-x-preserved
loop-x-preserved c =
    let x = c.x-item.result in
    let notes = subst (Notes c.loop-x.features c.note.new.self x.prefix) c.as_slice.ensures.value c.in_ok-note.ensures.ok in (
      stays_notes c.args.features.now c.loop-x.features c.note.new.self x.prefix x.new.items c.loop-x.invariant.0 notes,
      found_more c.args.list.now c.loop-x.x-index x c.loop-x.features c.note.new.self c.loop-x-test.true c.x-item.is c.loop-x.invariant.1 notes,
      only_more c.args.list.now x c.args.features.now c.loop-x.features c.note.new.self
          (c.loop-x.x-index, c.loop-x-test.true, sym c.x-item.is) c.loop-x.invariant.2 (λ f q. (notes f q).0),
    )

pub returns-in_err-note-clause-stays : goal.returns-in_err-note-clause-stays
returns-in_err-note-clause-stays c =
    let x = c.x-item.result in
    stays_noted c.args.features.now c.note.new.self
    (stays_some c.args.features.now c.loop-x.features c.note.new.self x.prefix c.as_slice.result.now c.loop-x.invariant.0 c.in_err-note.ensures.err)

pub returns-in_err-note-clause-only : goal.returns-in_err-note-clause-only
returns-in_err-note-clause-only c =
    let x = c.x-item.result in
    only_more c.args.list.now x c.args.features.now c.loop-x.features c.note.new.self
    (c.loop-x.x-index, c.loop-x-test.true, sym c.x-item.is) c.loop-x.invariant.2
    (subst (NotesSome c.loop-x.features c.note.new.self x.prefix) c.as_slice.ensures.value c.in_err-note.ensures.err).real

pub returns-clause-only : goal.returns-clause-only
returns-clause-only c = c.loop-x.invariant.2

pub returns-clause-stays : goal.returns-clause-stays
returns-clause-stays c = stays_noted c.args.features.now c.loop-x.features c.loop-x.invariant.0

pub returns-clause-noted : goal.returns-clause-noted
returns-clause-noted c =
    subst (λ l. AreFoundAll l c.loop-x.features) (take_whole c.args.list.now c.loop-x.x-index c.loop-x-test.false) c.loop-x.invariant.1
