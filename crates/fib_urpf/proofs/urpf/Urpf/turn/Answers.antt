use Rattle.fib_entries_rows.specs.Known.{rank_of}
use Rattle.fib_urpf.proofs.Turning.{same_for, stands_after}
use Rattle.fib_urpf.proofs.urpf.Urpf.turn.Goals as goal

pub returns-in_err-take-clause-stands : goal.returns-in_err-take-clause-stands
returns-in_err-take-clause-stands c = same_for c.args.tables.now (rank_of c.args.entries.now.rows) c.args.self.now c.take.new.self c.in_err-take.ensures.err c.requires.before

pub returns-clause-stands : goal.returns-clause-stands
returns-clause-stands c =
    let b = c.requires.before in
    stands_after c.args.tables.now (rank_of c.args.entries.now.rows) c.in-Some.next.prefix c.args.self.now c.take.new.self b
    (c.in_ok-take.ensures.turned c.args.tables.now c.requires.stands b.ranked) (c.in_ok-take.ensures.ranked b.ranked)
