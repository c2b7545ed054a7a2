use Rattle.std.proofs.Common.{refl, sym, subst, ◌∙◌, ◌≡◌, ℕ, ◌+◌, ◌*◌, ◌-◌, ◌^◌, ◌<◌, inl, inr, arith}
use Rattle.std.proofs.lemmas.Nat.{shr_below}
use Rattle.fib_plane_view.proofs.Frames.{beside_none, beside_then}
use Rattle.fib_ply.proofs.Undropped.{none_self, none_then}
use Rattle.fib_ply.proofs.Prunes.{found_leaf, prunes_none, prunes_more, can_more, prunes_done}
use Rattle.fib_ply.proofs.pruning.prune.Goals as goal

pub loop-leaf-init : goal.loop-leaf-init
loop-leaf-init g c =
    let ready = found_leaf _ _ c.args.addr _ _ _ _ _ c.requires c.find_leaf-leaf.ensures in
    record { ready = ready; pruned = prunes_none _ c.args.addr _ _ _ _ _ c.find_leaf-leaf.ensures; few = let h = ready.4.cell.few.1 in omega (arith, h); free = omega arith; promise = refl; beside = beside_none _; none_dropped = none_self _ }

pub loop-leaf-preserved : goal.loop-leaf-preserved
loop-leaf-preserved g c =
    let i = c.loop-leaf.invariant in
    record {
      ready = can_more _ _ _ c.args.addr _ _ _ _ c.unlink-leaf.ensures.promise i.ready c.unlink-leaf.ensures.next;
      pruned = prunes_more _ c.args.addr _ _ _ _ _ _ i.pruned c.unlink-leaf.ensures.next;
      few = omega (arith, i.few, c.unlink-leaf.ensures.higher);
      free = omega (arith, i.free, c.unlink-leaf.ensures.free);
      promise = c.unlink-leaf.ensures.promise ∙ i.promise;
      beside = beside_then _ _ _ i.beside c.unlink-leaf.ensures.beside;
      none_dropped = none_then _ _ _ i.none_dropped c.unlink-leaf.ensures.none_dropped;
    }

pub returns-else-not-needs : goal.returns-else-not-needs
returns-else-not-needs g c = let i = c.loop-leaf.invariant in record { few = omega (arith, i.few); free = i.free; promise = i.promise; beside = i.beside; none_dropped = i.none_dropped; pruned = prunes_done _ c.args.addr _ _ _ _ _ _ _ (inr (c.needs.ensures.0 c.if-not-needs.false)) i.pruned }

pub returns-after-loop-leaf : goal.returns-after-loop-leaf
returns-after-loop-leaf g c = let i = c.loop-leaf.invariant in record { few = omega (arith, i.few); free = i.free; promise = i.promise; beside = i.beside; none_dropped = i.none_dropped; pruned = prunes_done _ c.args.addr _ _ _ _ _ _ _ (inl (omega (arith, c.loop-leaf-test.false))) i.pruned }

pub needs-requires-clause-value : goal.needs-requires-clause-value
needs-requires-clause-value g c =
    let d = c.loop-leaf.leaf.depth in
    let f : 4 * d + (32 - 4 * d) ≡ 32 = omega (arith, c.loop-leaf.invariant.few) in
    shr_below c.args.addr (4 * d) (32 - 4 * d) (subst (λ (i : ℕ). c.args.addr < 2 ^ i) (sym f) c.ranges.addr.fits)
