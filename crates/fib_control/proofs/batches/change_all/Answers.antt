use Rattle.std.proofs.Common.{ℕ, List, ap, ◌∙◌, subst, sym}
use Rattle.fib_resolve.specs.Refusals.{edited_in_turn}
use Rattle.fib_resolve_changes.specs.Differ.{Differ}
use Rattle.fib_resolve_changes.specs.declared.change.Change.{Change}
use Rattle.fib_config.specs.Config.{TellsFirstRefused}
use Rattle.fib_control.proofs.Telling.{turns_fit, wants_more}
use Rattle.fib_control.proofs.batches.change_all.Goals as goal

pub returns-in-Err-clause-why : goal.returns-in-Err-clause-why
returns-in-Err-clause-why c =
    let S = c.args.config.now.tables in
    c.refused_of.ensures S c.args.limits c.args.edits.now
    (subst (λ (r : ℕ). TellsFirstRefused (edited_in_turn S r c.args.edits.now) c.in-Err.error) (sym c.requires.same) c.in-Err.ensures.refused)

pub follow_all-requires-clause-before : goal.follow_all-requires-clause-before
follow_all-requires-clause-before c =
    let S = c.args.config.now.tables in
    (S, c.requires.stands, subst (λ (list : List Change). Differ list S c.change_all.new.self.tables) (sym c.as_slice.ensures.value) c.in-Ok.ensures.places, c.requires.fits)

pub returns-in-Ok-follow_all-clause-made : goal.returns-in-Ok-follow_all-clause-made
returns-in-Ok-follow_all-clause-made c = ap (λ (r : ℕ). edited_in_turn c.args.config.now.tables r c.args.edits.now) c.requires.same ∙ c.in-Ok.ensures.made

pub returns-in-Ok-follow_all-clause-queued : goal.returns-in-Ok-follow_all-clause-queued
returns-in-Ok-follow_all-clause-queued c =
    let S = c.args.config.now.tables in
    c.in-Ok-follow_all.ensures.queued S c.requires.stands (subst (λ (list : List Change). Differ list S c.change_all.new.self.tables) (sym c.as_slice.ensures.value) c.in-Ok.ensures.places)

-- the tables after the last edit fit the room, as each of the others did
pub crowded_of-requires : goal.crowded_of-requires
crowded_of-requires c =
    let T = c.change_all.new.self.tables in
    let made = ap (λ (r : ℕ). edited_in_turn c.args.config.now.tables r c.args.edits.now) c.requires.same ∙ c.in-Ok.ensures.made in
    wants_more T c.args.limits c.in-Err-follow_all.error (turns_fit c.args.edits.now 0 c.args.limits.room c.args.config.now.tables T c.requires.fits made) c.in-Err-follow_all.ensures.why
