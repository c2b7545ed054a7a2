use Rattle.std.proofs.Common.{arith, ◌≡◌, false, ℕ, ◌++◌, ◌∷◌, [], ◌∙◌, ap, subst}
use Rattle.std.specs.Prelude.{slice_index_or}
use Rattle.std.proofs.lemmas.List.{length_push}
use Rattle.fib_core_board.specs.Boards.{Board}
use Rattle.fib_plane.proofs.Scanning.{look_loose, look_counts, scans_workers, scans_more, scans_out, rests_more}
use Rattle.fib_plane.proofs.scan.look_all.Goals as goal

pub scan-word-requires : goal.scan-word-requires
scan-word-requires g c =
    let i = c.loop-worker.invariant in
    let e = ap (λ (q : Board). q.workers) i.scans ∙ scans_workers 0 i.words c.args.board.now in
    omega (arith, e, c.workers-worker-end.ensures, c.loop-worker-test.true)

pub look-requires : goal.look-requires
look-requires g c =
    let i = c.loop-worker.invariant in
    let e = ap (λ (q : Board). q.workers) i.scans ∙ scans_workers 0 i.words c.args.board.now in
    omega (arith, e, i.loose.workers, c.workers-worker-end.ensures, c.loop-worker-test.true)

pub loop-worker-preserved : goal.loop-worker-preserved
loop-worker-preserved g c =
    let i = c.loop-worker.invariant in
    let b = c.args.board.now in
    let m = c.loop-worker.board in
    let n = c.scan-word.new.self in
    let u = c.loop-worker.union in
    let v = c.look.new.self in
    let e = c.look.ensures in
    record {
      loose = look_loose m n u v c.args.pool.now c.loop-worker.worker c.scan-word.result i.loose c.scan-word.ensures.board e.union e.left e.workers;
      words = i.words ++ c.scan-word.result ∷ [];
      each = (let l = length_push i.words c.scan-word.result in omega (arith, l, i.each));
      scans = scans_more i.words c.scan-word.result c.loop-worker.worker b m n i.each i.scans c.scan-word.ensures.board;
      rests = rests_more b i.words c.scan-word.result (λ at. c.scan-word.ensures.rests (ap (λ (q : Board). slice_index_or q.out c.loop-worker.worker false) i.scans ∙ (scans_out 0 i.words b c.loop-worker.worker ∙ subst (λ (n : ℕ). slice_index_or b.out n false ≡ false) i.each at))) i.rests;
      counts = λ o. look_counts m n u v c.loop-worker.worker c.scan-word.result o i.loose.same c.scan-word.ensures.board e.left ∙ i.counts o;
      spare = omega (arith, i.spare, e.spare);
    }
