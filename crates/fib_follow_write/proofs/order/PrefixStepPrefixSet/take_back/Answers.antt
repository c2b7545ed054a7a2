use Rattle.fib_entries_rows.proofs.Arriving.{set_back}
use Rattle.fib_follow_write.proofs.order.PrefixStepPrefixSet.take_back.Goals as goal

pub returns : goal.returns
returns c = λ before h.
    set_back before c.args.state.now c.remove.new.self c.args.self.now h.ordered c.remove.ensures.ordered h.absent h.members c.remove.ensures.members
