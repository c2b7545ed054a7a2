use Rattle.std.proofs.Common.{sym, ap, ◌∙◌}
use Rattle.fib_plane.proofs.Boarding.{edge_word, target_is}
use Rattle.fib_plane.proofs.replace.target.Goals as goal

pub returns-in-ToPly : goal.returns-in-ToPly
returns-in-ToPly c = ap edge_word (sym c.in-ToPly.is) ∙ target_is c.args.word c.requires

pub returns-in-ToBalance : goal.returns-in-ToBalance
returns-in-ToBalance c = ap edge_word (sym c.in-ToBalance.is) ∙ target_is c.args.word c.requires

pub returns-in-ToAdjacency : goal.returns-in-ToAdjacency
returns-in-ToAdjacency c = ap edge_word (sym c.in-ToAdjacency.is) ∙ target_is c.args.word c.requires

pub returns-in-Drop : goal.returns-in-Drop
returns-in-Drop c = ap edge_word (sym c.in-Drop.is) ∙ target_is c.args.word c.requires

pub returns-in-Receive : goal.returns-in-Receive
returns-in-Receive c = ap edge_word (sym c.in-Receive.is) ∙ target_is c.args.word c.requires

pub returns-in-Glean : goal.returns-in-Glean
returns-in-Glean c = ap edge_word (sym c.in-Glean.is) ∙ target_is c.args.word c.requires

pub returns-in-Plain : goal.returns-in-Plain
returns-in-Plain c = ap edge_word (sym c.in-Plain.is) ∙ target_is c.args.word c.requires
