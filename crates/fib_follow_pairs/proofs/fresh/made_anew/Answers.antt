use Rattle.std.proofs.Common.{◌∙◌, length, sym}
use Rattle.std.proofs.lemmas.Bool.Decides.{Decides-eqb}
use Rattle.std.proofs.lemmas.List.{nil_from_length}
use Rattle.fib_follow_pairs.proofs.Made.{none_left}
use Rattle.fib_follow_pairs.proofs.fresh.made_anew.Goals as goal

pub returns-then-is_empty-clause-fresh : goal.returns-then-is_empty-clause-fresh
returns-then-is_empty-clause-fresh c =
    none_left c.args.config.now.tables c.args.prefix c.in_ok-found.found.items c.in_ok-found.ensures
    (sym c.as_slice.ensures.value ∙ nil_from_length c.as_slice.result.now ((Decides-eqb (length c.as_slice.result.now) 0).0 (sym c.is_empty.ensures ∙ c.if-is_empty.true)))
