use Rattle.fib_entries_rows.proofs.Loopings.{edge_none, edge_put, place_found, place_missed}
use Rattle.fib_follow_part.proofs.Leaving.{out_none, out_put}
use Rattle.fib_base_interned.proofs.Finding.{contains_at}
use Rattle.fib_follow_part.proofs.edges.add_edge.Goals as goal

pub returns-in_ok-push-in-Some-clause-edges : goal.returns-in_ok-push-in-Some-clause-edges
returns-in_ok-push-in-Some-clause-edges c =
    edge_put c.args.seen.now c.args.from c.in-Some.to c.args.target c.args.edges.now.items c.push.new.self.items c.requires.once
    (place_found c.args.seen.now c.args.target c.in-Some.to c.in-Some.ensures) c.in_ok-push-in-Some.ensures.items

pub returns-in_ok-push-in-Some-clause-out : goal.returns-in_ok-push-in-Some-clause-out
returns-in_ok-push-in-Some-clause-out c =
    out_none c.args.seen.now c.args.from c.args.target c.args.out.now.items
    (contains_at c.args.seen.now c.in-Some.to c.args.target (place_found c.args.seen.now c.args.target c.in-Some.to c.in-Some.ensures))

pub returns-in_ok-push-in-None-clause-edges : goal.returns-in_ok-push-in-None-clause-edges
returns-in_ok-push-in-None-clause-edges c =
    edge_none c.args.seen.now c.args.from c.args.target c.args.edges.now.items (place_missed c.args.seen.now c.args.target c.in-None.ensures)

pub returns-in_ok-push-in-None-clause-out : goal.returns-in_ok-push-in-None-clause-out
returns-in_ok-push-in-None-clause-out c =
    out_put c.args.seen.now c.args.from c.args.target c.args.out.now.items c.push-in-None.new.self.items
    (place_missed c.args.seen.now c.args.target c.in-None.ensures) c.in_ok-push-in-None.ensures.items
