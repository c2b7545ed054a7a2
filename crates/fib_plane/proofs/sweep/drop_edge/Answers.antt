use Rattle.std.proofs.Common.{arith, ◌≡◌, ◌<◌, ◌++◌, ◌∷◌, [], vec_len, vec_capacity, inl, inr, refl}
use Rattle.std.proofs.lemmas.Bool.{false≢true}
use Rattle.std.proofs.lemmas.Grind.{common_steps}
use Rattle.fib_plane.proofs.Clearing.{drop_dying}
use Rattle.fib_plane.proofs.sweep.drop_edge.Goals as goal

pub unreachable-requires : goal.unreachable-requires
unreachable-requires c =
    let room : vec_len c.args.dying.now < vec_capacity c.args.dying.now = omega (arith, c.requires.room, c.args.dying.now.ok.0) in
    let done = c.push.ensures.succeeds room in
    grind (arith, common_steps, done)

pub returns-else-is_err-clause-dying : goal.returns-else-is_err-clause-dying
returns-else-is_err-clause-dying c =
    let pushed : c.push.new.self.items ≡ c.args.dying.now.items ++ c.in-Some.target ∷ [] = rw (c.push.ensures.items, c.if-is_err.ensures.negation) refl in
    λ ps h. rw c.release.ensures.counted (drop_dying c.args.pool.now c.in-Some.target c.args.dying.now.items c.push.new.self.items (c.requires.live c.in-Some.target c.in-Some.is) (inl (c.if-release.ensures.last.0 refl, pushed)) ps h)

pub returns-else-release-clause-dying : goal.returns-else-release-clause-dying
returns-else-release-clause-dying c =
    λ ps h. rw c.release.ensures.counted (drop_dying c.args.pool.now c.in-Some.target c.args.dying.now.items c.args.dying.now.items (c.requires.live c.in-Some.target c.in-Some.is) (inr (λ one. false≢true (c.if-release.ensures.last.1 one), refl)) ps h)
