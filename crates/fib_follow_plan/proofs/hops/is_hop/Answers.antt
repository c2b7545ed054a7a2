use Rattle.std.proofs.Common.{ap, sym, ◌∙◌}
use Rattle.std.specs.Prelude.{option_copied}
use Rattle.fib_follow_features.specs.Holders.{members_of}
use Rattle.fib_follow_plan.proofs.Hopping.{hop_given}
use Rattle.fib_follow_plan.proofs.hops.is_hop.Goals as goal

pub returns-in-Some : goal.returns-in-Some
returns-in-Some c = hop_given c.args.after.now.tables c.args.named.now c.args.features.now c.args.addr c.in-Some.among.now c.is_hop_after.result
    (ap (λ o. members_of (option_copied o)) (sym c.in-Some.is) ∙ c.holders.ensures) c.is_hop_after.ensures

pub returns-in-None : goal.returns-in-None
returns-in-None c = hop_given c.args.after.now.tables c.args.named.now c.args.features.now c.args.addr c.new-none.result c.is_hop_after-in-None.result
    (c.new-none.ensures ∙ (ap (λ o. members_of (option_copied o)) (sym c.in-None.is) ∙ c.holders.ensures)) c.is_hop_after-in-None.ensures
