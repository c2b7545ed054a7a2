use Rattle.std.proofs.Common.{◌∙◌}
use Rattle.fib_control_quiet.proofs.Early.{blank_of, still_early}
use Rattle.trial_plain.proofs.prefixes.begun.Goals as goal

pub ready-requires-clause-blank : goal.ready-requires-clause-blank
ready-requires-clause-blank g c = blank_of (g.P.Objects.promise c.args.on.now) (g.P.Objects.view c.args.on.now) c.requires.empty c.args.object c.requires.balance

pub ready-requires-clause-none : goal.ready-requires-clause-none
ready-requires-clause-none g c = c.in_ok-reserve.ensures.members ∙ c.new-table.ensures.members

pub ready-requires-clause-room : goal.ready-requires-clause-room
ready-requires-clause-room g c = c.in_ok-reserve.ensures.room

pub returns-clause-tried : goal.returns-clause-tried
returns-clause-tried g c = record {
  early = still_early (g.P.Objects.promise c.args.on.now) (g.P.Objects.promise c.ready.new.on) c.ready.ensures.promise c.requires.empty.early;
  stands = c.ready.ensures.stands;
}
