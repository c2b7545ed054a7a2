use Rattle.std.proofs.Common.{refl, sym, ◌∙◌, inl, arith}
use Rattle.fib_ply.proofs.Paths.{path_begins, path_goes, path_led, path_ends, path_live, path_shallow}
use Rattle.fib_ply.proofs.places.find.Goals as goal

pub loop-depth-init : goal.loop-depth-init
loop-depth-init g c = λ n trie. (path_begins n (g.P.Objects.view c.args.on.now) trie c.args.addr c.ranges.addr.fits, inl refl)

pub word-requires-clause-live : goal.word-requires-clause-live
word-requires-clause-live g c = let q = c.requires in let i = c.loop-depth.invariant q.0 q.1 in path_live q.0 (g.P.Objects.view c.args.on.now) q.1 c.args.addr c.loop-depth.ply c.loop-depth.depth i.0

pub loop-depth-preserved : goal.loop-depth-preserved
loop-depth-preserved g c = λ n trie.
    let i = c.loop-depth.invariant n trie in
    let is = sym c.in-ToPly.is ∙ c.word.ensures in (
      path_goes n (g.P.Objects.view c.args.on.now) trie c.args.addr c.loop-depth.ply c.loop-depth.depth i.0 _ refl c.in-ToPly.child is,
      path_led n (g.P.Objects.view c.args.on.now) trie c.args.addr c.loop-depth.ply c.loop-depth.depth i.0 _ refl c.in-ToPly.child is,
    )

pub returns-in_default : goal.returns-in_default
returns-in_default g c = λ n trie.
    let i = c.loop-depth.invariant n trie in
    path_ends n (g.P.Objects.view c.args.on.now) trie c.args.addr c.loop-depth.ply c.loop-depth.depth i.0 _ refl i.1 c.word.result c.word.ensures c.in_default.not-ToPly

pub unreachable-requires : goal.unreachable-requires
unreachable-requires g c = let q = c.requires in let i = c.loop-depth.invariant q.0 q.1 in let h = path_shallow q.0 (g.P.Objects.view c.args.on.now) q.1 c.args.addr c.loop-depth.ply c.loop-depth.depth i.0 in absurd (omega (arith, h))
