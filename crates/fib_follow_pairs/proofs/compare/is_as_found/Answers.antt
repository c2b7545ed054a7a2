use Rattle.std.proofs.Common.{◌∙◌, ap, sym, option_copied}
use Rattle.fib_follow_pairs.specs.inner.Compared.{row_stays}
use Rattle.fib_follow_pairs.proofs.Compared.{unchanged_is}
use Rattle.fib_follow_pairs.proofs.compare.is_as_found.Goals as goal

pub returns : goal.returns
returns c v S T lists at stands made =
    unchanged_is v S T stands c.args.fresh.now (option_copied c.args.found) c.row_stays.result
    (c.row_stays.ensures ∙ ap (λ l. row_stays l (option_copied c.args.found) c.args.fresh.now) (sym lists)) at made
