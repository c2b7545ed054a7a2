use Rattle.std.proofs.Common.{ap, sym, ◌∙◌}
use Rattle.std.specs.List.{position_or_len}
use Rattle.fib_base_keyed.proofs.Keys.{beyond, none_equal}
use Rattle.fib_base_keyed.proofs.keyed.Keyed.place_of.Goals as goal

pub returns-in-None : goal.returns-in-None
returns-in-None g c =
    let eq = g.K.PartialEq.eq in
    let rows = c.self.inside.rows in
    c.len.ensures
    ∙ sym (beyond eq g.met.K.Eq.laws rows c.args.key (none_equal eq g.met.K.Eq.laws c.self.inside.stamps rows c.args.key (sym c.in-None.ensures.value) c.self.invariant.known))
    ∙ ap (position_or_len (eq c.args.key)) c.self.view_is
