use Rattle.std.proofs.Common.{◌∙◌, ◌<◌, ℕ, ap, subst}
use Rattle.fib_config.specs.Undone.{put_back}
use Rattle.fib_config.specs.inner.Digest.{route_key}
use Rattle.fib_config.proofs.Keying.{keys_removed}
use Rattle.fib_config.proofs.Places.{gone_back}
use Rattle.fib_config.proofs.edits.drop_route.Goals as goal

pub returns-in_ok-old-in-Reserved-clause-back : goal.returns-in_ok-old-in-Reserved-clause-back
returns-in_ok-old-in-Reserved-clause-back c =
    let got = c.in_ok-old-in-Reserved in
    let place = c.place_of_route-place.result in
    ap (put_back place got.old got.spare) got.ensures.list
    ∙ gone_back c.args.routes.now place got.spare got.old (subst (λ (n : ℕ). place < n) c.len.ensures c.if-place-len.true) got.ensures.value got.ensures.spare

pub returns-in_ok-old-in-Reserved-clause-keys : goal.returns-in_ok-old-in-Reserved-clause-keys
returns-in_ok-old-in-Reserved-clause-keys c =
    let got = c.in_ok-old-in-Reserved in
    keys_removed route_key c.args.routes.now c.take_spared.new.list c.place_of_route-place.result c.args.keys.now c.take_at-key.new.keys got.ensures.list c.requires.keys c.take_at-key.ensures

pub returns-in_ok-take_copied-in_default-clause-keys : goal.returns-in_ok-take_copied-in_default-clause-keys
returns-in_ok-take_copied-in_default-clause-keys c =
    let got = c.in_ok-take_copied-in_default in
    keys_removed route_key c.args.routes.now c.take_copied.new.list c.place_of_route-place.result c.args.keys.now c.take_copied.new.keys got.ensures.list c.requires.keys got.ensures.keys
