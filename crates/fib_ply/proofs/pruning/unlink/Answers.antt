use Rattle.std.proofs.Common.{subst, ℕ, ◌*◌, ◌-◌, ◌/◌, ◌%◌, ◌^◌, inl, inr, sym, ◌∙◌}
use Rattle.fib_core.specs.declared.word.Word.TheVariants.{ToBalance}
use Rattle.fib_plane_view.specs.Promise.{Promise, MayPut, MayLetGo}
use Rattle.fib_plane_view.specs.View.{IsLive}
use Rattle.fib_plane_view.proofs.Frames.{beside_then}
use Rattle.fib_ply.proofs.Undropped.{none_then}
use Rattle.fib_ply.proofs.Prunes.{leaf_best, leaf_live, unlink_may, unlink_kind, unlink_calm, unlink_held, unlink_ply, unlink_target, unlink_kept, unlink_let_go, unlink_spare, unlink_trie, unlinked, unlink_freed, ending, unlink_higher}
use Rattle.fib_ply.proofs.pruning.unlink.Goals as goal

pub word-requires-clause-live : goal.word-requires-clause-live
word-requires-clause-live g c =
    let q = c.requires.ready in
    let u = g.P.Objects.view c.args.on.now in
    let look = g.S.Prefixes.look c.args.set.now in
    let l = c.args.leaf in
    leaf_live q.0 look c.args.addr u l.above l.ply l.depth l.slot q.1 q.2 q.3 q.4 c.requires.deep c.requires.free c.ranges.addr.fits

pub put-requires-clause-promise : goal.put-requires-clause-promise
put-requires-clause-promise g c =
    let q = c.requires.ready in
    let u = g.P.Objects.view c.args.on.now in
    let look = g.S.Prefixes.look c.args.set.now in
    let l = c.args.leaf in
    let is = leaf_best q.0 look c.args.addr u l.above l.ply l.depth l.slot q.1 q.2 q.3 q.4 c.requires.deep c.requires.free c.ranges.addr.fits c.in-ToBalance.object (sym c.word.ensures ∙ c.in-ToBalance.is) in
    subst (λ (r : Promise). MayPut r u l.above (c.args.addr / 2 ^ (32 - 4 * l.depth) % 16) (ToBalance c.in-ToBalance.object)) q.5 (unlink_may q.0 look c.args.addr u l.above l.ply l.depth l.slot q.1 q.2 q.3 q.4 c.requires.deep c.requires.free c.ranges.addr.fits c.in-ToBalance.object is)

pub put-requires-clause-ply : goal.put-requires-clause-ply
put-requires-clause-ply g c =
    let q = c.requires.ready in
    let u = g.P.Objects.view c.args.on.now in
    let look = g.S.Prefixes.look c.args.set.now in
    let l = c.args.leaf in
    let is = leaf_best q.0 look c.args.addr u l.above l.ply l.depth l.slot q.1 q.2 q.3 q.4 c.requires.deep c.requires.free c.ranges.addr.fits c.in-ToBalance.object (sym c.word.ensures ∙ c.in-ToBalance.is) in
    unlink_ply q.0 look c.args.addr u l.above l.ply l.depth l.slot q.1 q.2 q.3 q.4 c.requires.deep c.requires.free c.ranges.addr.fits c.in-ToBalance.object is

pub put-requires-clause-spare : goal.put-requires-clause-spare
put-requires-clause-spare g c =
    let q = c.requires.ready in
    let u = g.P.Objects.view c.args.on.now in
    let look = g.S.Prefixes.look c.args.set.now in
    let l = c.args.leaf in
    let is = leaf_best q.0 look c.args.addr u l.above l.ply l.depth l.slot q.1 q.2 q.3 q.4 c.requires.deep c.requires.free c.ranges.addr.fits c.in-ToBalance.object (sym c.word.ensures ∙ c.in-ToBalance.is) in
    λ y k. unlink_spare q.0 look c.args.addr u l.above l.ply l.depth l.slot q.1 q.2 q.3 q.4 c.requires.deep c.requires.free c.ranges.addr.fits c.in-ToBalance.object is q.6

pub put-requires-clause-target : goal.put-requires-clause-target
put-requires-clause-target g c =
    let q = c.requires.ready in
    let u = g.P.Objects.view c.args.on.now in
    let look = g.S.Prefixes.look c.args.set.now in
    let l = c.args.leaf in
    let is = leaf_best q.0 look c.args.addr u l.above l.ply l.depth l.slot q.1 q.2 q.3 q.4 c.requires.deep c.requires.free c.ranges.addr.fits c.in-ToBalance.object (sym c.word.ensures ∙ c.in-ToBalance.is) in
    λ y k. subst (λ (i : ℕ). IsLive u i) k (inr (inl (unlink_target q.0 look c.args.addr u l.above l.ply l.depth l.slot q.1 q.2 q.3 q.4 c.requires.deep c.requires.free c.ranges.addr.fits c.in-ToBalance.object is)))

pub put-requires-clause-kind : goal.put-requires-clause-kind
put-requires-clause-kind g c =
    let q = c.requires.ready in
    let u = g.P.Objects.view c.args.on.now in
    let look = g.S.Prefixes.look c.args.set.now in
    let l = c.args.leaf in
    let is = leaf_best q.0 look c.args.addr u l.above l.ply l.depth l.slot q.1 q.2 q.3 q.4 c.requires.deep c.requires.free c.ranges.addr.fits c.in-ToBalance.object (sym c.word.ensures ∙ c.in-ToBalance.is) in
    unlink_kind q.0 look c.args.addr u l.above l.ply l.depth l.slot q.1 q.2 q.3 q.4 c.requires.deep c.requires.free c.ranges.addr.fits c.in-ToBalance.object is

pub put-requires-clause-calm : goal.put-requires-clause-calm
put-requires-clause-calm g c =
    let q = c.requires.ready in
    let u = g.P.Objects.view c.args.on.now in
    let look = g.S.Prefixes.look c.args.set.now in
    let l = c.args.leaf in
    let is = leaf_best q.0 look c.args.addr u l.above l.ply l.depth l.slot q.1 q.2 q.3 q.4 c.requires.deep c.requires.free c.ranges.addr.fits c.in-ToBalance.object (sym c.word.ensures ∙ c.in-ToBalance.is) in
    unlink_calm q.0 look c.args.addr u l.above l.ply l.depth l.slot q.1 q.2 q.3 q.4 c.requires.deep c.requires.free c.ranges.addr.fits c.in-ToBalance.object is

pub let_go-requires-clause-ply : goal.let_go-requires-clause-ply
let_go-requires-clause-ply g c =
    let q = c.requires.ready in
    let u = g.P.Objects.view c.args.on.now in
    let look = g.S.Prefixes.look c.args.set.now in
    let l = c.args.leaf in
    let is = leaf_best q.0 look c.args.addr u l.above l.ply l.depth l.slot q.1 q.2 q.3 q.4 c.requires.deep c.requires.free c.ranges.addr.fits c.in-ToBalance.object (sym c.word.ensures ∙ c.in-ToBalance.is) in
    (unlink_held q.0 look c.args.addr u l.above l.ply l.depth l.slot q.1 q.2 q.3 q.4 c.requires.deep c.requires.free c.ranges.addr.fits c.in-ToBalance.object is (g.P.Objects.view c.put.new.on) c.put.ensures.put, unlink_kept q.0 look c.args.addr u l.above l.ply l.depth l.slot q.1 q.2 q.3 q.4 c.requires.deep c.requires.free c.ranges.addr.fits c.in-ToBalance.object is (g.P.Objects.view c.put.new.on) c.put.ensures.put)

pub let_go-requires-clause-promise : goal.let_go-requires-clause-promise
let_go-requires-clause-promise g c =
    let q = c.requires.ready in
    let u = g.P.Objects.view c.args.on.now in
    let look = g.S.Prefixes.look c.args.set.now in
    let l = c.args.leaf in
    let is = leaf_best q.0 look c.args.addr u l.above l.ply l.depth l.slot q.1 q.2 q.3 q.4 c.requires.deep c.requires.free c.ranges.addr.fits c.in-ToBalance.object (sym c.word.ensures ∙ c.in-ToBalance.is) in
    subst (λ (r : Promise). MayLetGo r (g.P.Objects.view c.put.new.on) l.ply) (q.5 ∙ sym c.put.ensures.promise) (unlink_let_go q.0 look c.args.addr u l.above l.ply l.depth l.slot q.1 q.2 q.3 q.4 c.requires.deep c.requires.free c.ranges.addr.fits c.in-ToBalance.object is (g.P.Objects.view c.put.new.on) c.put.ensures.put c.put.ensures.beside (g.met.P.Objects.sound c.put.new.on).kinds)

pub find_leaf-requires : goal.find_leaf-requires
find_leaf-requires g c =
    let q = c.requires.ready in
    let u = g.P.Objects.view c.args.on.now in
    let look = g.S.Prefixes.look c.args.set.now in
    let l = c.args.leaf in
    let is = leaf_best q.0 look c.args.addr u l.above l.ply l.depth l.slot q.1 q.2 q.3 q.4 c.requires.deep c.requires.free c.ranges.addr.fits c.in-ToBalance.object (sym c.word.ensures ∙ c.in-ToBalance.is) in
    unlink_trie q.0 look c.args.addr u l.above l.ply l.depth l.slot q.1 q.2 q.3 q.4 c.requires.deep c.requires.free c.ranges.addr.fits c.in-ToBalance.object is (g.P.Objects.view c.put.new.on) (g.P.Objects.view c.let_go.new.on) c.put.ensures.put c.let_go.ensures.gone c.put.ensures.beside c.let_go.ensures.beside (g.met.P.Objects.sound c.put.new.on).kinds (g.met.P.Objects.sound c.let_go.new.on).kinds

pub returns-clause-beside : goal.returns-clause-beside
returns-clause-beside g c =
    beside_then _ _ _ c.put.ensures.beside c.let_go.ensures.beside

pub returns-clause-none_dropped : goal.returns-clause-none_dropped
returns-clause-none_dropped g c =
    none_then _ _ _ c.put.ensures.none_dropped c.let_go.ensures.none_dropped

pub returns-clause-next : goal.returns-clause-next
returns-clause-next g c = λ wants there n pruned ended.
    (let q = c.requires.ready in
    let u = g.P.Objects.view c.args.on.now in
    let look = g.S.Prefixes.look c.args.set.now in
    let l = c.args.leaf in
    let r = c.find_leaf.result in
    let is = leaf_best q.0 look c.args.addr u l.above l.ply l.depth l.slot q.1 q.2 q.3 q.4 c.requires.deep c.requires.free c.ranges.addr.fits c.in-ToBalance.object (sym c.word.ensures ∙ c.in-ToBalance.is) in (
      _,
      _,
      unlinked wants look c.args.addr u l.above l.ply l.depth l.slot there n pruned ended c.requires.deep c.requires.free c.ranges.addr.fits c.in-ToBalance.object is (g.P.Objects.view c.put.new.on) (g.P.Objects.view c.let_go.new.on) c.put.ensures.put c.let_go.ensures.gone c.put.ensures.beside c.let_go.ensures.beside (g.met.P.Objects.sound c.put.new.on).kinds (g.met.P.Objects.sound c.let_go.new.on).kinds,
      ending wants look c.args.addr u l.above l.ply l.depth l.slot there n pruned ended c.requires.deep c.requires.free c.ranges.addr.fits c.in-ToBalance.object is (g.P.Objects.view c.put.new.on) (g.P.Objects.view c.let_go.new.on) c.put.ensures.put c.let_go.ensures.gone c.put.ensures.beside c.let_go.ensures.beside (g.met.P.Objects.sound c.put.new.on).kinds (g.met.P.Objects.sound c.let_go.new.on).kinds r.above r.ply r.depth r.slot c.find_leaf.ensures,
      unlink_freed wants look c.args.addr u l.above l.ply l.depth l.slot there n pruned ended c.requires.deep c.requires.free c.ranges.addr.fits c.in-ToBalance.object is (g.P.Objects.view c.put.new.on) (g.P.Objects.view c.let_go.new.on) c.put.ensures.put c.let_go.ensures.gone c.put.ensures.beside c.let_go.ensures.beside (g.met.P.Objects.sound c.put.new.on).kinds (g.met.P.Objects.sound c.let_go.new.on).kinds,
    ))

pub returns-clause-higher : goal.returns-clause-higher
returns-clause-higher g c =
    let q = c.requires.ready in
    let u = g.P.Objects.view c.args.on.now in
    let look = g.S.Prefixes.look c.args.set.now in
    let l = c.args.leaf in
    let is = leaf_best q.0 look c.args.addr u l.above l.ply l.depth l.slot q.1 q.2 q.3 q.4 c.requires.deep c.requires.free c.ranges.addr.fits c.in-ToBalance.object (sym c.word.ensures ∙ c.in-ToBalance.is) in
    unlink_higher q.0 look c.args.addr u l.above l.ply l.depth l.slot q.1 q.2 q.3 q.4 c.requires.deep c.requires.free c.ranges.addr.fits c.in-ToBalance.object is (g.P.Objects.view c.put.new.on) (g.P.Objects.view c.let_go.new.on) c.put.ensures.put c.let_go.ensures.gone c.put.ensures.beside c.let_go.ensures.beside (g.met.P.Objects.sound c.put.new.on).kinds (g.met.P.Objects.sound c.let_go.new.on).kinds c.find_leaf.result.above c.find_leaf.result.ply c.find_leaf.result.depth c.find_leaf.result.slot c.find_leaf.ensures
