use Rattle.std.proofs.Common.{◌≡◌, ℕ, ◌*◌, ◌/◌, ◌%◌, ◌^◌, ◌-◌, refl, sym, ◌∙◌, subst, inl, arith}
use Rattle.fib_core.specs.declared.word.Word.TheVariants.{ToPly}
use Rattle.fib_ply.specs.inner.Change.{IsOnPath}
use Rattle.fib_ply.proofs.Paths.{path_begins, path_goes, path_led, path_ends, path_live}
use Rattle.fib_ply.proofs.places.find_leaf.Goals as goal

pub loop-depth-init : goal.loop-depth-init
loop-depth-init g c = λ n trie. (path_begins n (g.P.Objects.view c.args.on.now) trie c.args.addr c.ranges.addr.fits, inl refl, λ e same. absurd (omega arith))

pub word-requires-clause-live : goal.word-requires-clause-live
word-requires-clause-live g c = let q = c.requires in let i = c.loop-depth.invariant q.0 q.1 in path_live q.0 (g.P.Objects.view c.args.on.now) q.1 c.args.addr c.loop-depth.ply c.loop-depth.depth i.0

pub loop-depth-preserved : goal.loop-depth-preserved
loop-depth-preserved g c = λ n trie.
    let i = c.loop-depth.invariant n trie in
    let is = sym c.in-ToPly.is ∙ c.word.ensures in (
      path_goes n (g.P.Objects.view c.args.on.now) trie c.args.addr c.loop-depth.ply c.loop-depth.depth i.0 _ refl c.in-ToPly.child is,
      path_led n (g.P.Objects.view c.args.on.now) trie c.args.addr c.loop-depth.ply c.loop-depth.depth i.0 _ refl c.in-ToPly.child is,
      λ e same. let f : c.loop-depth.depth ≡ e = omega arith in subst (λ (j : ℕ). IsOnPath n c.args.addr c.loop-depth.ply j × ((g.P.Objects.view c.args.on.now).cell c.loop-depth.ply (c.args.addr / 2 ^ (28 - 4 * j) % 16) ≡ ToPly c.in-ToPly.child)) f (i.0, sym is),
    )

pub returns-in_default : goal.returns-in_default
returns-in_default g c = λ n trie.
    let i = c.loop-depth.invariant n trie in
    record { cell = path_ends n (g.P.Objects.view c.args.on.now) trie c.args.addr c.loop-depth.ply c.loop-depth.depth i.0 _ refl i.1 c.word.result c.word.ensures c.in_default.not-ToPly; last = i.2 }
