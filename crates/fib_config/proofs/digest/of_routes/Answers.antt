use Rattle.std.proofs.Common.{arith, ◌≡◌, ℕ, ◌+◌, ◌∷◌, [], ◌++◌, ap, subst, sym, take, ◌∙◌}
use Rattle.std.proofs.lemmas.List.{take_more}
use Rattle.fib_config.specs.inner.Digest.{Follows, route_key}
use Rattle.fib_config.proofs.Keying.{keys_last}
use Rattle.fib_config.proofs.digest.of_routes.Goals as goal

pub loop-place-preserved : goal.loop-place-preserved
loop-place-preserved c =
    let rs = c.args.routes.now in
    let i = c.loop-place.place in
    let r = c.index-r.result.now in
    let more : take (i + 1) rs ≡ take i rs ++ r ∷ [] = take_more rs i r (omega (arith, c.loop-place-test.true, c.len-place-end.ensures)) ∙ ap (λ x. take i rs ++ x ∷ []) (sym c.index-r.ensures) in
    keys_last route_key (take i rs) (take (i + 1) rs) r c.loop-place.keys c.with_last-keys.result more c.loop-place.invariant
    (subst (λ (m : ℕ). Follows (λ ks. ks ++ (r.prefix, m) ∷ []) c.loop-place.keys c.with_last-keys.result) c.rank.ensures.value c.with_last-keys.ensures)
