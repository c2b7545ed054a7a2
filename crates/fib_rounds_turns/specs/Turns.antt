-- What a line does, and what it prints.
use Rattle.std.specs.Prelude.{ℕ, ◌++◌, [], List, Option, Some, None, Result, Ok, Err, codes, slice_get, unwrap_or, if◌then◌else◌}
use Rattle.fib_resolve.specs.Edits.{edited}
use Rattle.fib_resolve.specs.Refusals.{refused, FirstRefused, edited_in_turn}
use Rattle.fib_resolve.specs.Resolution.{resolve}
use Rattle.fib_resolve.specs.declared.types.Edit.{Edit}
use Rattle.fib_resolve.specs.declared.types.Refusal.{Refusal}
use Rattle.fib_resolve.specs.declared.types.Tables.{Tables}
use Rattle.fib_commands.specs.Lines.{line_of}
use Rattle.fib_commands.specs.declared.types.Line.{Line}
use Rattle.fib_commands.specs.declared.types.Line.TheVariants as lines
use Rattle.fib_print.specs.Ends.{end_text}
use Rattle.fib_print.specs.Lines.{message, refusal_text, batch_text}
use Rattle.fib_print.specs.declared.lines.BatchFault.TheVariants as faults
use Rattle.fib_print_listing.specs.Entries.{fib_text}
use Rattle.fib_print_listing.specs.PathLists.{lists_text}
use Rattle.fib_print_listing.specs.Adjacencies.{adjacencies_text}
use Rattle.fib_rounds_turns.specs.declared.progress.Batch.{Batch}
use Rattle.fib_rounds_turns.specs.Routers.{Router, changed, refusing, with_batch, new_batch, spoiled, with_edit}

-- the router after a line, and what the line prints
abbrev pub Turn : Type 0
Turn = Router × List ℕ

-- line n is refused, with that text
abbrev pub refusal_turn : ℕ → Router → List ℕ → Turn
refusal_turn n r text = (refusing r, message n text)

-- an edit is made, or refused with its cause
abbrev pub by_refusal : ℕ → Router → Edit → Option Refusal → Turn
by_refusal n r edit None = (changed r (edited r.config.tables edit), [])
by_refusal n r edit (Some refusal) = refusal_turn n r (refusal_text refusal)

unfoldable pub change_turn : ℕ → Router → Edit → Turn
change_turn n r edit = by_refusal n r edit (refused r.config.tables r.config.room edit)

unfoldable pub lookup_text : Tables → ℕ → ℕ → List ℕ
lookup_text S a h = end_text S (resolve S a h) ++ codes "\n"

-- a line outside a batch; one that forwards packets changes nothing and prints nothing itself
abbrev pub alone : ℕ → Router → Option Line → Turn
alone n r None = refusal_turn n r (codes "syntax")
alone n r (Some lines.Nothing) = (r, [])
alone n r (Some (lines.Change edit)) = change_turn n r edit
alone n r (Some (lines.Lookup a h)) = (r, lookup_text r.config.tables a h)
alone n r (Some lines.ShowFib) = (r, fib_text r.config.tables)
alone n r (Some lines.ShowPathLists) = (r, lists_text r.config.tables)
alone n r (Some lines.ShowAdj) = (r, adjacencies_text r.config.tables)
alone n r (Some (lines.Forward k)) = (r, [])
alone n r (Some lines.Begin) = (with_batch r (Some (new_batch n)), [])
alone n r (Some lines.Commit) = refusal_turn n r (batch_text faults.NoBatch)

-- the number of the line that wrote the edit at that place of the batch
abbrev pub line_at : Batch → ℕ → ℕ
line_at b place = unwrap_or (slice_get b.lines place) 0

-- all edits are made as one change, or the first that is refused is named and nothing changes
abbrev pub by_first_refused : Router → Batch → Result Tables FirstRefused → Turn
by_first_refused r b (Ok tables) = (changed r tables, [])
by_first_refused r b (Err stop) = refusal_turn (line_at b stop.place) r (refusal_text stop.refusal)

unfoldable pub commit_turn : ℕ → Router → Batch → Turn
commit_turn n r b =
    if b.spoiled
    then refusal_turn n r (batch_text faults.Spoiled)
    else by_first_refused r b (edited_in_turn r.config.tables r.config.room b.edits)

-- a line that may not stand in a batch spoils it
abbrev pub spoiling : ℕ → Router → Batch → List ℕ → Turn
spoiling n r b text = refusal_turn n (with_batch r (Some (spoiled b))) text

-- a line within this batch, of which the router knows nothing
abbrev pub within : ℕ → Router → Batch → Option Line → Turn
within n r b None = spoiling n r b (codes "syntax")
within n r b (Some lines.Nothing) = (with_batch r (Some b), [])
within n r b (Some (lines.Change edit)) = (with_batch r (Some (with_edit b n edit)), [])
within n r b (Some (lines.Lookup a h)) = spoiling n r b (batch_text faults.InBatch)
within n r b (Some lines.ShowFib) = spoiling n r b (batch_text faults.InBatch)
within n r b (Some lines.ShowPathLists) = spoiling n r b (batch_text faults.InBatch)
within n r b (Some lines.ShowAdj) = spoiling n r b (batch_text faults.InBatch)
within n r b (Some (lines.Forward k)) = spoiling n r b (batch_text faults.InBatch)
within n r b (Some lines.Begin) = spoiling n r b (batch_text faults.InBatch)
within n r b (Some lines.Commit) = commit_turn n r b

abbrev pub turn_in : Option Batch → ℕ → Router → Option Line → Turn
turn_in None n r said = alone n r said
turn_in (Some b) n r said = within n (with_batch r None) b said

-- what line n does
unfoldable pub turn_of : ℕ → Router → List ℕ → Turn
turn_of n r line = turn_in r.batch n r (line_of line)

-- how many packets a line asks for: one that forwards packets, outside a batch
abbrev pub asks_in : Option Batch → Option Line → Option ℕ
asks_in None (Some (lines.Forward k)) = Some k
asks_in batch said = None

unfoldable pub asks : Router → List ℕ → Option ℕ
asks r line = asks_in r.batch (line_of line)

-- what is printed of a batch that the script's end leaves: its first line is refused
abbrev pub left_turn : Router → Option Batch → Turn
left_turn r None = (r, [])
left_turn r (Some b) = refusal_turn b.begun r (batch_text faults.NotCommitted)

unfoldable pub end_turn : Router → Turn
end_turn r = left_turn r r.batch

-- a line of a program that knows changes alone: any other line of the grammar is refused with this text
abbrev pub change_line : List ℕ → ℕ → Router → Option Line → Turn
change_line text n r None = refusal_turn n r (codes "syntax")
change_line text n r (Some lines.Nothing) = (r, [])
change_line text n r (Some (lines.Change edit)) = change_turn n r edit
change_line text n r (Some (lines.Lookup a h)) = refusal_turn n r text
change_line text n r (Some lines.ShowFib) = refusal_turn n r text
change_line text n r (Some lines.ShowPathLists) = refusal_turn n r text
change_line text n r (Some lines.ShowAdj) = refusal_turn n r text
change_line text n r (Some (lines.Forward k)) = refusal_turn n r text
change_line text n r (Some lines.Begin) = refusal_turn n r text
change_line text n r (Some lines.Commit) = refusal_turn n r text

-- what line n does there
unfoldable pub change_turn_of : List ℕ → ℕ → Router → List ℕ → Turn
change_turn_of text n r line = change_line text n r (line_of line)
