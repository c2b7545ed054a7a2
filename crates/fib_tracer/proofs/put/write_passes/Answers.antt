use Rattle.std.proofs.Common.{◌≡◌, ◌∙◌, [], ap, arith, drop}
use Rattle.std.proofs.lemmas.List.{drop_all}
use Rattle.fib_rounds.proofs.Writing.{on_err}
use Rattle.fib_tracer.specs.Passes.{passes_text}
use Rattle.fib_tracer.proofs.Moving.{moved_cut, moved_end, moved_next, moved_none, moved_some}
use Rattle.fib_tracer.proofs.Printing.{text_end}
use Rattle.fib_tracer.proofs.put.write_passes.Goals as goal

pub loop-at-init : goal.loop-at-init
loop-at-init g c = record {
  moved = moved_none _ _;
  each = c.requires;
  counted = omega arith;
}

pub loop-at-preserved : goal.loop-at-preserved
loop-at-preserved g c =
    let i = c.loop-at.invariant in
    let next = c.in_ok-rest.ensures in
    record {
      moved = moved_next _ _ _ _ c.loop-at.text.items _ c.put_next.new.text.items _ _ i.moved next.text c.in_ok-write_piece.ensures.ok;
      each = next.each;
      counted = omega (arith, i.counted, c.in_ok-write_piece.ensures.counted);
    }

pub returns-in_err-rest-clause-some : goal.returns-in_err-rest-clause-some
returns-in_err-rest-clause-some g c = on_err c.from_residual.result (moved_some _ _ _ _ c.loop-at.invariant.moved)

pub returns-in_err-write_piece-clause-some : goal.returns-in_err-write_piece-clause-some
returns-in_err-write_piece-clause-some g c =
    on_err c.from_residual-in_err-write_piece.result
    (moved_cut _ _ _ _ c.loop-at.text.items _ c.put_next.new.text.items _ c.loop-at.invariant.moved c.in_ok-rest.ensures.text c.in_err-write_piece.ensures.some)

pub returns-clause-ok : goal.returns-clause-ok
returns-clause-ok g c =
    moved_end _ _ _ c.loop-at.text.items _ (text_end c.args.tables.now c.loop-at.at c.args.packets.now.packets c.loop-at.rest.now (omega (arith, c.loop-at-test.false))) c.loop-at.invariant.moved
