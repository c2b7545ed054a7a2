use Rattle.std.proofs.Common.{ap, arith, subst, sym, ◌∙◌}
use Rattle.fib_core.specs.declared.word.Word.TheVariants as words
use Rattle.fib_core.specs.Walk.{ply, balance, ended}
use Rattle.fib_core.specs.Trails.{place}
use Rattle.fib_core.specs.Stages.{StandsAt}
use Rattle.fib_worker.proofs.Passing.{Reading, reading_first, reading_second, reading_third, adjacency_hopped, balance_hopped, balance_nears, loaded, loaded_place, place3, ply_hopped, ply_low, ply_nears, proper3}
use Rattle.fib_worker.proofs.hops.hop_on.Goals as goal

pub nibble-requires : goal.nibble-requires
nibble-requires c =
    let at = subst (StandsAt c.args.hash (place c.args.seat.now.worker.trail)) c.in-Ply.is c.requires.at in
    let low = ply_low c.args.addr c.args.hash _ _ c.args.seat.now.worker at c.requires.follows c.requires.sound in
    omega arith

reading : (c : goal.After-number-mac)
    → Reading c.args.addr c.args.hash c.in-Adjacency.object c.args.seat.now.worker c.number-interface.new.self.worker c.number-hop.new.self.worker c.number-mac.new.self.worker
    (words.Plain c.number-interface.result) (words.Plain c.number-hop.result) (words.Plain c.number-mac.result)
reading c = record {
  at = subst (StandsAt c.args.hash (place c.args.seat.now.worker.trail)) c.in-Adjacency.is c.requires.at;
  follows = c.requires.follows;
  first = loaded _ _ 0 _ c.number-interface.ensures.loaded c.number-interface.ensures.roomy;
  second = loaded _ _ 1 _ c.number-hop.ensures.loaded c.number-hop.ensures.roomy;
  third = loaded _ _ 2 _ c.number-mac.ensures.loaded c.number-mac.ensures.roomy;
  sound = c.requires.sound;
  sound1 = c.number-interface.ensures.sound;
  sound2 = c.number-hop.ensures.sound;
  sound3 = c.number-mac.ensures.sound;
}

reading_after : (c : goal.After-adjacency_end)
    → Reading c.args.addr c.args.hash c.in-Adjacency.object c.args.seat.now.worker c.number-interface.new.self.worker c.number-hop.new.self.worker c.number-mac.new.self.worker
    (words.Plain c.number-interface.result) (words.Plain c.number-hop.result) (words.Plain c.number-mac.result)
reading_after c = record {
  at = subst (StandsAt c.args.hash (place c.args.seat.now.worker.trail)) c.in-Adjacency.is c.requires.at;
  follows = c.requires.follows;
  first = loaded _ _ 0 _ c.number-interface.ensures.loaded c.number-interface.ensures.roomy;
  second = loaded _ _ 1 _ c.number-hop.ensures.loaded c.number-hop.ensures.roomy;
  third = loaded _ _ 2 _ c.number-mac.ensures.loaded c.number-mac.ensures.roomy;
  sound = c.requires.sound;
  sound1 = c.number-interface.ensures.sound;
  sound2 = c.number-hop.ensures.sound;
  sound3 = c.number-mac.ensures.sound;
}

pub number-interface-requires-clause-reading : goal.number-interface-requires-clause-reading
number-interface-requires-clause-reading c =
    reading_first c.args.addr c.args.hash c.in-Adjacency.object c.args.seat.now.worker
    (subst (StandsAt c.args.hash (place c.args.seat.now.worker.trail)) c.in-Adjacency.is c.requires.at) c.requires.follows

pub number-hop-requires-clause-reading : goal.number-hop-requires-clause-reading
number-hop-requires-clause-reading c =
    reading_second c.args.addr c.args.hash c.in-Adjacency.object c.args.seat.now.worker c.number-interface.new.self.worker (words.Plain c.number-interface.result)
    (subst (StandsAt c.args.hash (place c.args.seat.now.worker.trail)) c.in-Adjacency.is c.requires.at) c.requires.follows c.requires.sound
    (loaded _ _ 0 _ c.number-interface.ensures.loaded c.number-interface.ensures.roomy)

pub number-mac-requires-clause-reading : goal.number-mac-requires-clause-reading
number-mac-requires-clause-reading c =
    reading_third c.args.addr c.args.hash c.in-Adjacency.object c.args.seat.now.worker c.number-interface.new.self.worker c.number-hop.new.self.worker
    (words.Plain c.number-interface.result) (words.Plain c.number-hop.result)
    (subst (StandsAt c.args.hash (place c.args.seat.now.worker.trail)) c.in-Adjacency.is c.requires.at) c.requires.follows c.requires.sound
    (loaded _ _ 0 _ c.number-interface.ensures.loaded c.number-interface.ensures.roomy) c.number-interface.ensures.sound
    (loaded _ _ 1 _ c.number-hop.ensures.loaded c.number-hop.ensures.roomy)

pub adjacency_end-requires-clause-interface : goal.adjacency_end-requires-clause-interface
adjacency_end-requires-clause-interface c = (proper3 c.args.addr c.args.hash _ _ _ _ _ _ _ _ (reading c)).0

pub adjacency_end-requires-clause-hop : goal.adjacency_end-requires-clause-hop
adjacency_end-requires-clause-hop c = (proper3 c.args.addr c.args.hash _ _ _ _ _ _ _ _ (reading c)).1

pub adjacency_end-requires-clause-mac : goal.adjacency_end-requires-clause-mac
adjacency_end-requires-clause-mac c = (proper3 c.args.addr c.args.hash _ _ _ _ _ _ _ _ (reading c)).2

pub returns-in-Ply-clause-hopped : goal.returns-in-Ply-clause-hopped
returns-in-Ply-clause-hopped c =
    ply_hopped c.args.addr c.args.hash c.in-Ply.object c.in-Ply.depth c.nibble.result c.args.seat.now.worker c.word-word.new.self.worker c.word-word.result
    (subst (StandsAt c.args.hash (place c.args.seat.now.worker.trail)) c.in-Ply.is c.requires.at) c.nibble.ensures.value
    c.requires.follows c.requires.sound (loaded _ _ c.nibble.result _ c.word-word.ensures.loaded c.word-word.ensures.roomy)

pub returns-in-Ply-clause-at : goal.returns-in-Ply-clause-at
returns-in-Ply-clause-at c =
    let at = subst (StandsAt c.args.hash (place c.args.seat.now.worker.trail)) c.in-Ply.is c.requires.at in
    subst (λ p. StandsAt c.args.hash p c.after_ply.result)
    (sym (loaded_place c.args.addr c.args.hash c.args.seat.now.worker c.word-word.new.self.worker _ c.word-word.result (ply c.in-Ply.object c.in-Ply.depth) at (loaded _ _ c.nibble.result _ c.word-word.ensures.loaded c.word-word.ensures.roomy)))
    c.after_ply.ensures

pub returns-in-Ply-clause-nears : goal.returns-in-Ply-clause-nears
returns-in-Ply-clause-nears c =
    ply_nears c.args.addr c.args.hash c.in-Ply.object c.in-Ply.depth _ c.args.seat.now.worker c.word-word.new.self.worker c.word-word.result c.after_ply.result
    (subst (StandsAt c.args.hash (place c.args.seat.now.worker.trail)) c.in-Ply.is c.requires.at)
    (loaded _ _ c.nibble.result _ c.word-word.ensures.loaded c.word-word.ensures.roomy) c.after_ply.ensures

pub returns-in-Balance-clause-hopped : goal.returns-in-Balance-clause-hopped
returns-in-Balance-clause-hopped c =
    let at = subst (StandsAt c.args.hash (place c.args.seat.now.worker.trail)) c.in-Balance.is c.requires.at in
    balance_hopped c.args.addr c.args.hash c.in-Balance.object at.0 c.in-Balance.left c.args.seat.now.worker c.word-word-in-Balance.new.self.worker c.word-word-in-Balance.result at.1 at.2
    c.requires.follows c.requires.sound (loaded _ _ _ _ c.word-word-in-Balance.ensures.loaded c.word-word-in-Balance.ensures.roomy)

pub returns-in-Balance-clause-at : goal.returns-in-Balance-clause-at
returns-in-Balance-clause-at c =
    let at = subst (StandsAt c.args.hash (place c.args.seat.now.worker.trail)) c.in-Balance.is c.requires.at in
    subst (λ p. StandsAt c.args.hash p c.after_balance.result)
    (sym (loaded_place c.args.addr c.args.hash c.args.seat.now.worker c.word-word-in-Balance.new.self.worker _ c.word-word-in-Balance.result (balance c.in-Balance.object at.0) at.1
    (loaded _ _ _ _ c.word-word-in-Balance.ensures.loaded c.word-word-in-Balance.ensures.roomy)))
    (c.after_balance.ensures c.args.hash at.0 at.2)

pub returns-in-Balance-clause-nears : goal.returns-in-Balance-clause-nears
returns-in-Balance-clause-nears c =
    let at = subst (StandsAt c.args.hash (place c.args.seat.now.worker.trail)) c.in-Balance.is c.requires.at in
    balance_nears c.args.addr c.args.hash c.in-Balance.object at.0 _ c.args.seat.now.worker c.word-word-in-Balance.new.self.worker c.word-word-in-Balance.result c.after_balance.result at.1
    (loaded _ _ _ _ c.word-word-in-Balance.ensures.loaded c.word-word-in-Balance.ensures.roomy) (c.after_balance.ensures c.args.hash at.0 at.2)

pub returns-in-Adjacency-clause-hopped : goal.returns-in-Adjacency-clause-hopped
returns-in-Adjacency-clause-hopped c = adjacency_hopped c.args.addr c.args.hash _ _ _ _ _ _ _ _ (reading_after c)

pub returns-in-Adjacency-clause-at : goal.returns-in-Adjacency-clause-at
returns-in-Adjacency-clause-at c = place3 c.args.addr c.args.hash _ _ _ _ _ _ _ _ (reading_after c) ∙ ap ended (sym c.adjacency_end.ensures)
