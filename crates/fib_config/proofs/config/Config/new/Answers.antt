use Rattle.fib_config.proofs.config.Config.new.Goals as goal

pub invariant_of-result : goal.invariant_of-result
invariant_of-result c = record {
  fine = record { sound = c.fresh.ensures.sound; room = c.requires.most };
  digest = c.unknown.ensures _;
}
