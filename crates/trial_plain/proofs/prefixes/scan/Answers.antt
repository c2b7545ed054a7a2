use Rattle.fib_control_quiet.proofs.Early.{tried_clear}
use Rattle.trial_plain.proofs.prefixes.scan.Goals as goal

pub scan-requires : goal.scan-requires
scan-requires g c = tried_clear (g.P.Objects.promise c.args.on.now) c.args.table.now (g.P.Objects.view c.args.on.now) c.requires
