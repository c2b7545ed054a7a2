use Rattle.std.proofs.Common.{◌++◌, ◌+◌, ◌∙◌, arith, ap, sym, subst}
use Rattle.fib_outside.specs.Outside.{Appends}
use Rattle.fib_rounds.specs.Writes.{AppendsSome}
use Rattle.fib_rounds.proofs.Moves.{Appends-none}
use Rattle.fib_rounds.proofs.Writing.{on_err}
use Rattle.fib_frames.specs.Frames.{AreInside, expired_text}
use Rattle.fib_frames.proofs.Sending.{expired_parts, expired_none}
use Rattle.fib_frames.proofs.Piecing.{piece, piece_cut, piece_more, piece_none}
use Rattle.fib_frames.proofs.send.write_expired.Goals as goal

pub pieces-init : goal.pieces-init
pieces-init g c = record {
  within = omega arith;
  written = subst (Appends _ _) (sym (expired_none c.args.seen.now.bytes.items c.args.seen.now.spans)) (Appends-none _);
  counted = omega arith;
}

pub put_expired-requires : goal.put_expired-requires
put_expired-requires g c = subst (λ b. AreInside b c.args.seen.now.spans) (sym c.deref.ensures.value) c.requires

pub returns-in_err-put_expired-clause-err : goal.returns-in_err-put_expired-clause-err
returns-in_err-put_expired-clause-err g c =
    let bytes = c.args.seen.now.bytes.items in
    let spans = c.args.seen.now.spans in
    on_err c.from_residual.result (piece_none (expired_text bytes spans) (expired_parts bytes spans) c.args.results.now c.pieces.at _ _ c.pieces.invariant.written)

pub returns-in_err-put_all-clause-err : goal.returns-in_err-put_all-clause-err
returns-in_err-put_all-clause-err g c =
    let bytes = c.args.seen.now.bytes.items in
    let spans = c.args.seen.now.spans in
    let next = c.pieces.at + c.min.result in
    let part = piece c.args.results.now c.pieces.at next in
    let text = c.deref-in-pieces.ensures.value ∙ (c.in_ok-put_expired.ensures ∙ (ap (λ t. t ++ expired_text c.deref.result.now spans part) c.clear.ensures.items ∙ ap (λ b. expired_text b spans part) c.deref.ensures.value)) in
    on_err c.from_residual-in_err-put_all.result (piece_cut (expired_text bytes spans) (expired_parts bytes spans) c.args.results.now c.pieces.at next _ _ _ c.pieces.invariant.written (subst (AppendsSome _ _) text c.in_err-put_all.ensures.err))

pub pieces-preserved : goal.pieces-preserved
pieces-preserved g c =
    let bytes = c.args.seen.now.bytes.items in
    let spans = c.args.seen.now.spans in
    let next = c.pieces.at + c.min.result in
    let part = piece c.args.results.now c.pieces.at next in
    let text = c.deref-in-pieces.ensures.value ∙ (c.in_ok-put_expired.ensures ∙ (ap (λ t. t ++ expired_text c.deref.result.now spans part) c.clear.ensures.items ∙ ap (λ b. expired_text b spans part) c.deref.ensures.value)) in
    record {
      within = omega (arith, c.min.ensures, c.pieces-test.true);
      written = piece_more (expired_text bytes spans) (expired_parts bytes spans) c.args.results.now c.pieces.at next _ _ _ (omega arith) c.pieces.invariant.written (subst (Appends _ _) text c.in_ok-put_all.ensures.ok);
      counted = omega (arith, c.pieces.invariant.counted, c.in_ok-put_all.ensures.counted);
    }
