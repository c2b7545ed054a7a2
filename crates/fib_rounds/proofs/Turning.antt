-- What a line does to the version and to the tables.
use Rattle.std.proofs.Common.{◌≡◌, ◌+◌, ℕ, List, Bool, true, false, Option, Some, None, Result, Ok, Err, refl, inl, inr, ◌⊎◌}
use Rattle.std.specs.Prelude.{if◌then◌else◌, []}
use Rattle.fib_resolve.specs.Refusals.{refused, FirstRefused, edited_in_turn}
use Rattle.fib_resolve.specs.declared.types.Edit.{Edit}
use Rattle.fib_resolve.specs.declared.types.Refusal.{Refusal}
use Rattle.fib_resolve.specs.declared.types.Tables.{Tables}
use Rattle.fib_commands.specs.Lines.{line_of}
use Rattle.fib_commands.specs.declared.types.Line.{Line}
use Rattle.fib_commands.specs.declared.types.Line.TheVariants as lines
use Rattle.fib_rounds_turns.specs.declared.progress.Batch.{Batch}
use Rattle.fib_rounds_turns.specs.Routers.{Router, with_batch}
use Rattle.fib_rounds_turns.specs.Turns.{Turn, by_refusal, change_turn, alone, by_first_refused, commit_turn, within, turn_in, turn_of, asks_in, asks, left_turn, end_turn, refusal_turn, change_line, change_turn_of}
use Rattle.fib_print.specs.Lines.{batch_text}
use Rattle.fib_print.specs.declared.lines.BatchFault.TheVariants as faults

-- the tables stay, or one change was accepted
abbrev pub Steps : Router → Router → Type 0
Steps r s = ((s.changes ≡ r.changes) × (s.config.tables ≡ r.config.tables)) ⊎ (s.changes ≡ r.changes + 1)

stays : (r : Router) → Steps r r
stays r = inl (refl, refl)

by_refusal_steps : (n : ℕ) (r : Router) (edit : Edit) (o : Option Refusal) → Steps r (by_refusal n r edit o).0
by_refusal_steps n r edit None = inr refl
by_refusal_steps n r edit (Some refusal) = inl (refl, refl)

change_steps : (n : ℕ) (r : Router) (edit : Edit) → Steps r (change_turn n r edit).0
unfolding change_turn
change_steps n r edit = by_refusal_steps n r edit (refused r.config.tables r.config.room edit)

by_first_refused_steps : (r : Router) (b : Batch) (made : Result Tables FirstRefused) → Steps r (by_first_refused r b made).0
by_first_refused_steps r b (Ok tables) = inr refl
by_first_refused_steps r b (Err stop) = inl (refl, refl)

by_spoiled : (n : ℕ) (r : Router) (b : Batch) (spoiled : Bool) (t : Turn) → Steps r t.0 → Steps r (if spoiled then refusal_turn n r (batch_text faults.Spoiled) else t).0
by_spoiled n r b true t h = inl (refl, refl)
by_spoiled n r b false t h = h

commit_steps : (n : ℕ) (r : Router) (b : Batch) → Steps r (commit_turn n r b).0
unfolding commit_turn
commit_steps n r b = by_spoiled n r b b.spoiled _ (by_first_refused_steps r b (edited_in_turn r.config.tables r.config.room b.edits))

alone_steps : (n : ℕ) (r : Router) (said : Option Line) → Steps r (alone n r said).0
alone_steps n r None = inl (refl, refl)
alone_steps n r (Some lines.Nothing) = inl (refl, refl)
alone_steps n r (Some (lines.Change edit)) = change_steps n r edit
alone_steps n r (Some (lines.Lookup a h)) = inl (refl, refl)
alone_steps n r (Some lines.ShowFib) = inl (refl, refl)
alone_steps n r (Some lines.ShowPathLists) = inl (refl, refl)
alone_steps n r (Some lines.ShowAdj) = inl (refl, refl)
alone_steps n r (Some (lines.Forward k)) = inl (refl, refl)
alone_steps n r (Some lines.Begin) = inl (refl, refl)
alone_steps n r (Some lines.Commit) = inl (refl, refl)

within_steps : (n : ℕ) (r : Router) (b : Batch) (said : Option Line) → Steps r (within n r b said).0
within_steps n r b None = inl (refl, refl)
within_steps n r b (Some lines.Nothing) = inl (refl, refl)
within_steps n r b (Some (lines.Change edit)) = inl (refl, refl)
within_steps n r b (Some (lines.Lookup a h)) = inl (refl, refl)
within_steps n r b (Some lines.ShowFib) = inl (refl, refl)
within_steps n r b (Some lines.ShowPathLists) = inl (refl, refl)
within_steps n r b (Some lines.ShowAdj) = inl (refl, refl)
within_steps n r b (Some (lines.Forward k)) = inl (refl, refl)
within_steps n r b (Some lines.Begin) = inl (refl, refl)
within_steps n r b (Some lines.Commit) = commit_steps n r b

in_steps : (o : Option Batch) (n : ℕ) (r : Router) (said : Option Line) → Steps r (turn_in o n r said).0
in_steps None n r said = alone_steps n r said
in_steps (Some b) n r said = within_steps n (with_batch r None) b said

pub turn_steps : (n : ℕ) (r : Router) (line : List ℕ) → Steps r (turn_of n r line).0
unfolding turn_of
turn_steps n r line = in_steps r.batch n r (line_of line)

change_line_steps : (text : List ℕ) (n : ℕ) (r : Router) (said : Option Line) → Steps r (change_line text n r said).0
change_line_steps text n r None = inl (refl, refl)
change_line_steps text n r (Some lines.Nothing) = inl (refl, refl)
change_line_steps text n r (Some (lines.Change edit)) = change_steps n r edit
change_line_steps text n r (Some (lines.Lookup a h)) = inl (refl, refl)
change_line_steps text n r (Some lines.ShowFib) = inl (refl, refl)
change_line_steps text n r (Some lines.ShowPathLists) = inl (refl, refl)
change_line_steps text n r (Some lines.ShowAdj) = inl (refl, refl)
change_line_steps text n r (Some (lines.Forward k)) = inl (refl, refl)
change_line_steps text n r (Some lines.Begin) = inl (refl, refl)
change_line_steps text n r (Some lines.Commit) = inl (refl, refl)

-- in a program that knows changes alone too
pub change_turn_steps : (text : List ℕ) (n : ℕ) (r : Router) (line : List ℕ) → Steps r (change_turn_of text n r line).0
unfolding change_turn_of
change_turn_steps text n r line = change_line_steps text n r (line_of line)

none_is : (k : ℕ) (o : Option ℕ) → o ≡ None → o ≡ Some k → ⊥
none_is k o a b = cc

asked_in_stays : (o : Option Batch) (n : ℕ) (r : Router) (said : Option Line) (k : ℕ) → asks_in o said ≡ Some k → turn_in o n r said ≡ (r, [])
asked_in_stays (Some b) n r said k e = absurd (none_is k None refl e)
asked_in_stays None n r None k e = absurd (none_is k None refl e)
asked_in_stays None n r (Some (lines.Forward j)) k e = refl
asked_in_stays None n r (Some lines.Nothing) k e = absurd (none_is k None refl e)
asked_in_stays None n r (Some (lines.Change edit)) k e = absurd (none_is k None refl e)
asked_in_stays None n r (Some (lines.Lookup a h)) k e = absurd (none_is k None refl e)
asked_in_stays None n r (Some lines.ShowFib) k e = absurd (none_is k None refl e)
asked_in_stays None n r (Some lines.ShowPathLists) k e = absurd (none_is k None refl e)
asked_in_stays None n r (Some lines.ShowAdj) k e = absurd (none_is k None refl e)
asked_in_stays None n r (Some lines.Begin) k e = absurd (none_is k None refl e)
asked_in_stays None n r (Some lines.Commit) k e = absurd (none_is k None refl e)

-- a line that asks for packets does nothing else
pub asked_stays : (n : ℕ) (r : Router) (line : List ℕ) (k : ℕ) → asks r line ≡ Some k → turn_of n r line ≡ (r, [])
unfolding turn_of asks
asked_stays n r line k e = asked_in_stays r.batch n r (line_of line) k e

left_keeps : (r : Router) (o : Option Batch) → (left_turn r o).0.config.tables ≡ r.config.tables
left_keeps r None = refl
left_keeps r (Some b) = refl

-- the end changes no table
pub end_keeps : (r : Router) → (end_turn r).0.config.tables ≡ r.config.tables
unfolding end_turn
end_keeps r = left_keeps r r.batch

left_counts : (r : Router) (o : Option Batch) → (left_turn r o).0.changes ≡ r.changes
left_counts r None = refl
left_counts r (Some b) = refl

-- and is none
pub end_counts : (r : Router) → (end_turn r).0.changes ≡ r.changes
unfolding end_turn
end_counts r = left_counts r r.batch
