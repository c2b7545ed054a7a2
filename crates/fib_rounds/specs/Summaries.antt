-- The counts of a run.
use Rattle.std.specs.Prelude.{ℕ, ◌+◌, ◌∷◌, [], List, Bool, true, false, Some, None, if◌then◌else◌, length}
use Rattle.fib_resolve.specs.Tables.{fresh}
use Rattle.fib_resolve.specs.declared.types.Tables.{Tables}
use Rattle.fib_resolve.specs.declared.types.End.{End}
use Rattle.fib_resolve.specs.declared.types.End.TheVariants as ends
use Rattle.fib_core_results.specs.declared.record.Record.{Record}
use Rattle.fib_capture.specs.Captures.{Capture}
use Rattle.fib_rounds_turns.specs.Routers.{Router, new_router}
use Rattle.fib_rounds_turns.specs.Turns.{turn_of, asks, end_turn}
use Rattle.fib_rounds.specs.declared.summary.Summary.{Summary}
use Rattle.fib_rounds.specs.Stages.{Round, first_round, opened_by}
use Rattle.fib_rounds.specs.Packets.{answers}
use Rattle.fib_rounds.specs.Frozen.{by_asked}

abbrev pub zero_counts : Summary
zero_counts = record { accepted = 0; refused = 0; packets = 0; quiet = 0; drops = 0; receives = 0; gleans = 0; adjs = 0; incompletes = 0 }

-- one more packet of that end
abbrev pub with_end : Summary → End → Summary
with_end c ends.Drop = record c { drops = c.drops + 1 }
with_end c ends.Receive = record c { receives = c.receives + 1 }
with_end c (ends.Glean i) = record c { gleans = c.gleans + 1 }
with_end c (ends.Hop i a None) = record c { incompletes = c.incompletes + 1 }
with_end c (ends.Hop i a (Some mac)) = record c { adjs = c.adjs + 1 }

unfoldable pub with_ends : Summary → List Record → Summary
with_ends c [] = c
with_ends c (r ∷ results) = with_ends (with_end c r.end) results

-- n packets more, which are quiet or not; where they are, the ends of their results count too
abbrev pub with_results : Summary → Bool → ℕ → List Record → Summary
with_results c quiet n results =
    if quiet
    then with_ends (record c { packets = c.packets + n; quiet = c.quiet + n }) results
    else record c { packets = c.packets + n }

-- a round closes: its packets are quiet where it had no line
abbrev pub with_round : Summary → Bool → Round → Tables → Summary
with_round c quiet o S = with_results c quiet (length o.taken) (answers o.opened S o.taken)

-- the accepted changes and the refused lines of the whole run
abbrev pub with_router : Summary → Router → Summary
with_router c r = record c { accepted = r.changes; refused = r.refused }

-- the counts from line n on, to those so far, while a round is open that had a line or none
unfoldable pub counted : Capture → ℕ → Bool → Round → Tables → Router → List (List ℕ) → Summary → Summary
counted packets n quiet o S r [] c = with_router (with_round c quiet o S) (end_turn r).0
counted packets n quiet o S r (line ∷ lines) c = by_asked (asks r line)
    (counted packets (n + 1) false o S (turn_of n r line).0 lines c)
    (λ k. counted packets (n + 1) true (opened_by k packets.packets o r.changes) r.config.tables r lines (with_round c quiet o S))

-- The counts of a script over a capture, with that room for objects. The packets of a round without lines see one version alone, so the
-- counts are those of resolution over it.
abbrev pub summary_of : ℕ → List (List ℕ) → Capture → Summary
summary_of room script packets = counted packets 1 true first_round fresh (new_router room) script zero_counts
