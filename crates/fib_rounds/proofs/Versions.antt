-- The history that lines make is that of the changes that they try.
use Rattle.std.proofs.Common.{◌≡◌, ◌+◌, ◌++◌, ◌∷◌, [], ℕ, List, Bool, true, false, Option, Some, None, Result, Ok, Err, arith, refl, ap, ap₂, ◌∙◌, sym}
use Rattle.std.specs.Prelude.{◌==◌, if◌then◌else◌}
use Rattle.std.proofs.lemmas.List.{append_assoc, append-nil}
use Rattle.std.proofs.lemmas.Bool.Decides.{nat_tests}
use Rattle.fib_config.specs.Config.{Setup}
use Rattle.fib_resolve.specs.Edits.{edited}
use Rattle.fib_resolve.specs.Refusals.{FirstRefused, edited_from, edited_in_turn, refused, unless_refused}
use Rattle.fib_resolve.specs.declared.types.Edit.{Edit}
use Rattle.fib_resolve.specs.declared.types.Refusal.{Refusal}
use Rattle.fib_resolve.specs.declared.types.Tables.{Tables}
use Rattle.fib_commands.specs.Lines.{line_of}
use Rattle.fib_commands.specs.declared.types.Line.{Line}
use Rattle.fib_commands.specs.declared.types.Line.TheVariants as lines
use Rattle.fib_rounds_turns.specs.declared.progress.Batch.{Batch}
use Rattle.fib_rounds_turns.specs.Routers.{Router, with_batch}
use Rattle.fib_rounds_turns.specs.Turns.{Turn, by_refusal, change_turn, alone, by_first_refused, commit_turn, within, turn_in, turn_of}
use Rattle.fib_rounds.specs.Stages.{Stage, after_line, grown, start}
use Rattle.fib_rounds.specs.Runs.{stage_after}
use Rattle.fib_rounds.specs.History.{Begun, HistoryIsOfChanges, RunHasHistory, Tried, by_made, changes_in, tried_alone, tried_in, tried_within, versions}

by_same : (H more : List Tables) (a b : ℕ) → a ≡ b → (if a == b then H else more) ≡ H
by_same H more a b e = grind (arith, nat_tests)

by_other : (H more : List Tables) (a b : ℕ) → a ≡ b + 1 → (if a == b then H else more) ≡ more
by_other H more a b e = grind (arith, nat_tests)

abbrev begun_of : Option Batch → Option Begun
begun_of None = None
begun_of (Some b) = Some (record { spoiled = b.spoiled; edits = b.edits })

-- from the router r to s a line tried this
record Makes (r s : Router) (t : Tried) : Type 0 where
  room : s.config.room ≡ r.config.room
  batch : begun_of s.batch ≡ t.1
  more : (H : List Tables) (later : List (List Edit)) → grown H r s ++ versions r.config.room s.config.tables later ≡ H ++ versions r.config.room r.config.tables (t.0 ++ later)

-- no change was tried
nothing : (r s : Router) (batch : Option Begun) → s.changes ≡ r.changes → s.config ≡ r.config → begun_of s.batch ≡ batch → Makes r s ([], batch)
nothing r s batch same config is = record {
  room = ap (λ (c : Setup). c.room) config;
  batch = is;
  more = λ H later. ap₂ (λ X (c : Setup). X ++ versions r.config.room c.tables later) (by_same H (H ++ s.config.tables ∷ []) s.changes r.changes same) config;
}

-- one was, and is refused
refused_one : (r s : Router) (edits : List Edit) (stop : FirstRefused) → s.changes ≡ r.changes → s.config ≡ r.config → begun_of s.batch ≡ None → edited_in_turn r.config.tables r.config.room edits ≡ Err stop
    → Makes r s (edits ∷ [], None)
refused_one r s edits stop same config is err = record {
  room = ap (λ (c : Setup). c.room) config;
  batch = is;
  more = λ H later.
      ap₂ (λ X (c : Setup). X ++ versions r.config.room c.tables later) (by_same H (H ++ s.config.tables ∷ []) s.changes r.changes same) config
      ∙ sym (ap (λ (made : Result Tables FirstRefused). H ++ by_made made (λ T. T ∷ versions r.config.room T later) (versions r.config.room r.config.tables later)) err);
}

-- and is accepted
accepted_one : (r s : Router) (edits : List Edit) (T : Tables) → s.changes ≡ r.changes + 1 → s.config ≡ record { tables = T; room = r.config.room } → begun_of s.batch ≡ None → edited_in_turn r.config.tables r.config.room edits ≡ Ok T
    → Makes r s (edits ∷ [], None)
accepted_one r s edits T one config is ok = record {
  room = ap (λ (c : Setup). c.room) config;
  batch = is;
  more = λ H later.
      ap (λ X. X ++ versions r.config.room s.config.tables later) (by_other H (H ++ s.config.tables ∷ []) s.changes r.changes one)
      ∙ (ap (λ (c : Setup). (H ++ c.tables ∷ []) ++ versions r.config.room c.tables later) config
      ∙ (append_assoc H (T ∷ []) (versions r.config.room T later)
      ∙ sym (ap (λ (made : Result Tables FirstRefused). H ++ by_made made (λ S. S ∷ versions r.config.room S later) (versions r.config.room r.config.tables later)) ok)));
}

-- an edit alone
one_edit : (S : Tables) (room : ℕ) (edit : Edit) (o : Option Refusal) → refused S room edit ≡ o → edited_in_turn S room (edit ∷ []) ≡ unless_refused o 0 (Ok (edited S edit))
unfolding edited_from
one_edit S room edit o is = ap (λ (x : Option Refusal). unless_refused x 0 (Ok (edited S edit))) is

by_refusal_makes : (n : ℕ) (r : Router) (edit : Edit) (o : Option Refusal) → r.batch ≡ None → refused r.config.tables r.config.room edit ≡ o → Makes r (by_refusal n r edit o).0 ((edit ∷ []) ∷ [], None)
by_refusal_makes n r edit None none is = accepted_one r _ (edit ∷ []) (edited r.config.tables edit) refl refl refl (one_edit r.config.tables r.config.room edit None is)
by_refusal_makes n r edit (Some refusal) none is = refused_one r _ (edit ∷ []) _ refl refl (ap begun_of none) (one_edit r.config.tables r.config.room edit (Some refusal) is)

change_makes : (n : ℕ) (r : Router) (edit : Edit) → r.batch ≡ None → Makes r (change_turn n r edit).0 ((edit ∷ []) ∷ [], None)
unfolding change_turn
change_makes n r edit none = by_refusal_makes n r edit (refused r.config.tables r.config.room edit) none refl

-- a batch
by_first_makes : (r : Router) (b : Batch) (made : Result Tables FirstRefused) → edited_in_turn r.config.tables r.config.room b.edits ≡ made → Makes r (by_first_refused (with_batch r None) b made).0 (b.edits ∷ [], None)
by_first_makes r b (Ok T) is = accepted_one r _ b.edits T refl refl refl is
by_first_makes r b (Err stop) is = refused_one r _ b.edits stop refl refl refl is

by_spoiled : (r : Router) (spoiled : Bool) (edits : List Edit) (t u : Turn) → Makes r t.0 ([], None) → Makes r u.0 (edits ∷ [], None) → Makes r (if spoiled then t else u).0 (if spoiled then [] else edits ∷ [], None)
by_spoiled r true edits t u none one = none
by_spoiled r false edits t u none one = one

commit_makes : (n : ℕ) (r : Router) (b : Batch) → Makes r (commit_turn n (with_batch r None) b).0 (if b.spoiled then [] else b.edits ∷ [], None)
unfolding commit_turn
commit_makes n r b = by_spoiled r b.spoiled b.edits _ _ (nothing r _ None refl refl refl) (by_first_makes r b (edited_in_turn r.config.tables r.config.room b.edits) refl)

alone_makes : (n : ℕ) (r : Router) (said : Option Line) → r.batch ≡ None → Makes r (alone n r said).0 (tried_alone said)
alone_makes n r None none = nothing r _ None refl refl (ap begun_of none)
alone_makes n r (Some lines.Nothing) none = nothing r _ None refl refl (ap begun_of none)
alone_makes n r (Some (lines.Change edit)) none = change_makes n r edit none
alone_makes n r (Some (lines.Lookup a h)) none = nothing r _ None refl refl (ap begun_of none)
alone_makes n r (Some lines.ShowFib) none = nothing r _ None refl refl (ap begun_of none)
alone_makes n r (Some lines.ShowPathLists) none = nothing r _ None refl refl (ap begun_of none)
alone_makes n r (Some lines.ShowAdj) none = nothing r _ None refl refl (ap begun_of none)
alone_makes n r (Some (lines.Forward k)) none = nothing r _ None refl refl (ap begun_of none)
alone_makes n r (Some lines.Begin) none = nothing r _ _ refl refl refl
alone_makes n r (Some lines.Commit) none = nothing r _ None refl refl (ap begun_of none)

within_makes : (n : ℕ) (r : Router) (b : Batch) (said : Option Line) → Makes r (within n (with_batch r None) b said).0 (tried_within (record { spoiled = b.spoiled; edits = b.edits }) said)
within_makes n r b None = nothing r _ _ refl refl refl
within_makes n r b (Some lines.Nothing) = nothing r _ _ refl refl refl
within_makes n r b (Some (lines.Change edit)) = nothing r _ _ refl refl refl
within_makes n r b (Some (lines.Lookup a h)) = nothing r _ _ refl refl refl
within_makes n r b (Some lines.ShowFib) = nothing r _ _ refl refl refl
within_makes n r b (Some lines.ShowPathLists) = nothing r _ _ refl refl refl
within_makes n r b (Some lines.ShowAdj) = nothing r _ _ refl refl refl
within_makes n r b (Some (lines.Forward k)) = nothing r _ _ refl refl refl
within_makes n r b (Some lines.Begin) = nothing r _ _ refl refl refl
within_makes n r b (Some lines.Commit) = commit_makes n r b

in_makes : (o : Option Batch) (n : ℕ) (r : Router) (said : Option Line) → r.batch ≡ o → Makes r (turn_in o n r said).0 (tried_in (begun_of o) said)
in_makes None n r said is = alone_makes n r said is
in_makes (Some b) n r said is = within_makes n r b said

turn_makes : (n : ℕ) (r : Router) (line : List ℕ) → Makes r (turn_of n r line).0 (tried_in (begun_of r.batch) (line_of line))
unfolding turn_of
turn_makes n r line = in_makes r.batch n r (line_of line) refl

-- the history after lines
history_after : (n : ℕ) (at : Stage) (lines : List (List ℕ))
    → (stage_after n at lines).history ≡ at.history ++ versions at.router.config.room at.router.config.tables (changes_in (begun_of at.router.batch) lines)
history_after n at [] = sym (append-nil at.history)
history_after n at (line ∷ lines) =
    let r = at.router in
    let s = (turn_of n at.router line).0 in
    let made = turn_makes n at.router line in
    history_after (n + 1) (after_line n at line) lines
    ∙ (ap₂ (λ (room : ℕ) (batch : Option Begun). grown at.history r s ++ versions room s.config.tables (changes_in batch lines)) made.room made.batch
    ∙ made.more at.history (changes_in (tried_in (begun_of r.batch) (line_of line)).1 lines))

pub history_is_of_changes : HistoryIsOfChanges
history_is_of_changes room script = history_after 1 (start room) script

pub run_has_history : RunHasHistory
run_has_history workers room script packets c results out run = run.history ∙ history_is_of_changes room script
