use Rattle.std.proofs.Common.{ap, arith, subst, sym, ◌∙◌}
use Rattle.fib_core.specs.Walk.{ply, balance, ended}
use Rattle.fib_core.specs.Trails.{place}
use Rattle.fib_core.specs.Stages.{StandsAt}
use Rattle.fib_worker.proofs.Passing.{Reading, adjacency_hopped, balance_hopped, balance_nears, loaded_place, place3, ply_hopped, ply_low, ply_nears, proper3}
use Rattle.fib_trace.proofs.Telling.{found, read_three}
use Rattle.fib_trace.proofs.pass.hop.Goals as goal

pub nibble-requires : goal.nibble-requires
nibble-requires c =
    let at = subst (StandsAt c.args.hash (place c.args.seat.now.worker.trail)) c.in-Ply.is c.requires.running.at in
    let low = ply_low c.args.addr c.args.hash _ _ c.args.seat.now.worker at c.requires.running.follows c.requires.running.sound in
    omega arith

reading : (c : goal.After-load-mac)
    → Reading c.args.addr c.args.hash c.in-Adjacency.object c.args.seat.now.worker c.load-interface.new.seat.worker c.load-next_hop.new.seat.worker c.load-mac.new.seat.worker
    c.load-interface.result c.load-next_hop.result c.load-mac.result
reading c =
    read_three _ _ _ c.args.seat.now c.load-interface.new.seat c.load-next_hop.new.seat c.load-mac.new.seat _ _ _ _ c.requires.running c.in-Adjacency.is
    c.load-interface.ensures.loaded c.load-next_hop.ensures.loaded c.load-mac.ensures.loaded

reading_after : (c : goal.After-adjacency_end)
    → Reading c.args.addr c.args.hash c.in-Adjacency.object c.args.seat.now.worker c.load-interface.new.seat.worker c.load-next_hop.new.seat.worker c.load-mac.new.seat.worker
    c.load-interface.result c.load-next_hop.result c.load-mac.result
reading_after c =
    read_three _ _ _ c.args.seat.now c.load-interface.new.seat c.load-next_hop.new.seat c.load-mac.new.seat _ _ _ _ c.requires.running c.in-Adjacency.is
    c.load-interface.ensures.loaded c.load-next_hop.ensures.loaded c.load-mac.ensures.loaded

pub adjacency_end-requires-clause-interface : goal.adjacency_end-requires-clause-interface
adjacency_end-requires-clause-interface c = (proper3 c.args.addr c.args.hash _ _ _ _ _ _ _ _ (reading c)).0

pub adjacency_end-requires-clause-hop : goal.adjacency_end-requires-clause-hop
adjacency_end-requires-clause-hop c = (proper3 c.args.addr c.args.hash _ _ _ _ _ _ _ _ (reading c)).1

pub adjacency_end-requires-clause-mac : goal.adjacency_end-requires-clause-mac
adjacency_end-requires-clause-mac c = (proper3 c.args.addr c.args.hash _ _ _ _ _ _ _ _ (reading c)).2

pub returns-in-Ply-clause-hopped : goal.returns-in-Ply-clause-hopped
returns-in-Ply-clause-hopped c =
    ply_hopped c.args.addr c.args.hash c.in-Ply.object c.in-Ply.depth c.nibble.result c.args.seat.now.worker c.load-word.new.seat.worker c.load-word.result
    (subst (StandsAt c.args.hash (place c.args.seat.now.worker.trail)) c.in-Ply.is c.requires.running.at) c.nibble.ensures.value
    c.requires.running.follows c.requires.running.sound (found _ _ c.nibble.result _ c.load-word.ensures.loaded)

pub returns-in-Ply-clause-at : goal.returns-in-Ply-clause-at
returns-in-Ply-clause-at c =
    let at = subst (StandsAt c.args.hash (place c.args.seat.now.worker.trail)) c.in-Ply.is c.requires.running.at in
    subst (λ p. StandsAt c.args.hash p c.after_ply.result)
    (sym (loaded_place c.args.addr c.args.hash c.args.seat.now.worker c.load-word.new.seat.worker _ c.load-word.result (ply c.in-Ply.object c.in-Ply.depth) at
    (found _ _ c.nibble.result _ c.load-word.ensures.loaded)))
    c.after_ply.ensures

pub returns-in-Ply-clause-nears : goal.returns-in-Ply-clause-nears
returns-in-Ply-clause-nears c =
    ply_nears c.args.addr c.args.hash c.in-Ply.object c.in-Ply.depth _ c.args.seat.now.worker c.load-word.new.seat.worker c.load-word.result c.after_ply.result
    (subst (StandsAt c.args.hash (place c.args.seat.now.worker.trail)) c.in-Ply.is c.requires.running.at)
    (found _ _ c.nibble.result _ c.load-word.ensures.loaded) c.after_ply.ensures

pub returns-in-Balance-clause-hopped : goal.returns-in-Balance-clause-hopped
returns-in-Balance-clause-hopped c =
    let at = subst (StandsAt c.args.hash (place c.args.seat.now.worker.trail)) c.in-Balance.is c.requires.running.at in
    balance_hopped c.args.addr c.args.hash c.in-Balance.object at.0 c.in-Balance.left c.args.seat.now.worker c.load-word-in-Balance.new.seat.worker
    c.load-word-in-Balance.result at.1 at.2 c.requires.running.follows c.requires.running.sound (found _ _ _ _ c.load-word-in-Balance.ensures.loaded)

pub returns-in-Balance-clause-at : goal.returns-in-Balance-clause-at
returns-in-Balance-clause-at c =
    let at = subst (StandsAt c.args.hash (place c.args.seat.now.worker.trail)) c.in-Balance.is c.requires.running.at in
    subst (λ p. StandsAt c.args.hash p c.after_balance.result)
    (sym (loaded_place c.args.addr c.args.hash c.args.seat.now.worker c.load-word-in-Balance.new.seat.worker _ c.load-word-in-Balance.result
    (balance c.in-Balance.object at.0) at.1 (found _ _ _ _ c.load-word-in-Balance.ensures.loaded)))
    (c.after_balance.ensures c.args.hash at.0 at.2)

pub returns-in-Balance-clause-nears : goal.returns-in-Balance-clause-nears
returns-in-Balance-clause-nears c =
    let at = subst (StandsAt c.args.hash (place c.args.seat.now.worker.trail)) c.in-Balance.is c.requires.running.at in
    balance_nears c.args.addr c.args.hash c.in-Balance.object at.0 _ c.args.seat.now.worker c.load-word-in-Balance.new.seat.worker c.load-word-in-Balance.result
    c.after_balance.result at.1 (found _ _ _ _ c.load-word-in-Balance.ensures.loaded) (c.after_balance.ensures c.args.hash at.0 at.2)

pub returns-in-Adjacency-clause-hopped : goal.returns-in-Adjacency-clause-hopped
returns-in-Adjacency-clause-hopped c = adjacency_hopped c.args.addr c.args.hash _ _ _ _ _ _ _ _ (reading_after c)

pub returns-in-Adjacency-clause-at : goal.returns-in-Adjacency-clause-at
returns-in-Adjacency-clause-at c = place3 c.args.addr c.args.hash _ _ _ _ _ _ _ _ (reading_after c) ∙ ap ended (sym c.adjacency_end.ensures)
