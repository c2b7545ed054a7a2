use Rattle.std.proofs.Common.{arith, ◌≡◌, ◌+◌, ◌∷◌, [], ◌++◌, ap, sym, take, ◌∙◌}
use Rattle.std.proofs.lemmas.List.{take_more}
use Rattle.fib_config.specs.inner.Digest.{neighbor_key}
use Rattle.fib_config.proofs.Keying.{keys_last}
use Rattle.fib_config.proofs.digest.of_neighbors.Goals as goal

pub loop-place-preserved : goal.loop-place-preserved
loop-place-preserved c =
    let ns = c.args.neighbors.now in
    let i = c.loop-place.place in
    let n = c.index-n.result.now in
    let more : take (i + 1) ns ≡ take i ns ++ n ∷ [] = take_more ns i n (omega (arith, c.loop-place-test.true, c.len-place-end.ensures)) ∙ ap (λ x. take i ns ++ x ∷ []) (sym c.index-n.ensures) in
    keys_last neighbor_key (take i ns) (take (i + 1) ns) n c.loop-place.keys c.with_last-keys.result more c.loop-place.invariant c.with_last-keys.ensures
