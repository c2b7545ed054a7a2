use Rattle.std.proofs.Common.{arith, ◌∙◌, sym, ap, length, map, List, false}
use Rattle.test_plain.specs.declared.facts.PathFacts.{PathFacts}
use Rattle.test_plain.proofs.Stability.{first_round-marks, round_makes, stable-marks, last-marks, length-rows_of}
use Rattle.test_plain.proofs.rounds.marks.Goals as goal

pub loop-n-init : goal.loop-n-init
loop-n-init c = c.in_ok-marks.ensures ∙ (ap (λ (rows : List (List PathFacts)). map (λ _. false) rows) c.requires ∙ first_round-marks c.args.tables.now)

pub returns-then-is_same : goal.returns-then-is_same
returns-then-is_same c =
    let S = c.args.tables.now in
    let made = round_makes S c.loop-n._n c.loop-n.marks.items _ c.in_ok-next.next.items c.args.rows.now c.requires c.as_slice.ensures.value c.loop-n.invariant c.in_ok-next.ensures in
    stable-marks S c.loop-n._n c.loop-n.marks.items c.in_ok-next.next.items (omega (arith, c.loop-n-test.true, ap length c.requires, length-rows_of S)) c.loop-n.invariant made
    (sym c.as_slice-in-loop-n.ensures.value ∙ (c.if-is_same.ensures ∙ c.as_slice-in-loop-n-2.ensures.value))

pub loop-n-preserved : goal.loop-n-preserved
loop-n-preserved c =
    round_makes c.args.tables.now c.loop-n._n c.loop-n.marks.items _ c.in_ok-next.next.items c.args.rows.now c.requires c.as_slice.ensures.value c.loop-n.invariant c.in_ok-next.ensures

pub returns : goal.returns
returns c =
    let S = c.args.tables.now in
    last-marks S c.loop-n._n c.loop-n.marks.items c.loop-n.invariant (omega (arith, c.loop-n-test.false, ap length c.requires, length-rows_of S))
