-- A line of a program that knows changes alone leaves no batch.
use Rattle.std.proofs.Common.{◌≡◌, ◌++◌, ℕ, List, Option, Some, None, Result, Ok, Err, OnOk, refl, ap, ◌∙◌}
use Rattle.std.specs.declared.alloc.AllocError.{AllocError}
use Rattle.fib_resolve.specs.Refusals.{refused}
use Rattle.fib_resolve.specs.declared.types.Edit.{Edit}
use Rattle.fib_resolve.specs.declared.types.Refusal.{Refusal}
use Rattle.fib_commands.specs.declared.types.Line.{Line}
use Rattle.fib_commands.specs.declared.types.Line.TheVariants as lines
use Rattle.fib_control.specs.Controls.{Control}
use Rattle.fib_rounds_turns.specs.Routers.{Progress, Router, router_of}
use Rattle.fib_rounds_turns.specs.Turns.{by_refusal, change_line, change_turn}

by_refusal_alone : (n : ℕ) (r : Router) (edit : Edit) (why : Option Refusal) → r.batch ≡ None → (by_refusal n r edit why).0.batch ≡ None
by_refusal_alone n r edit None alone = refl
by_refusal_alone n r edit (Some refusal) alone = alone

change_alone : (n : ℕ) (r : Router) (edit : Edit) → r.batch ≡ None → (change_turn n r edit).0.batch ≡ None
unfolding change_turn
change_alone n r edit alone = by_refusal_alone n r edit (refused r.config.tables r.config.room edit) alone

pub line_alone : (text : List ℕ) (n : ℕ) (r : Router) (said : Option Line) → r.batch ≡ None → (change_line text n r said).0.batch ≡ None
line_alone text n r None alone = alone
line_alone text n r (Some lines.Nothing) alone = alone
line_alone text n r (Some (lines.Change edit)) alone = change_alone n r edit alone
line_alone text n r (Some (lines.Lookup a h)) alone = alone
line_alone text n r (Some lines.ShowFib) alone = alone
line_alone text n r (Some lines.ShowPathLists) alone = alone
line_alone text n r (Some lines.ShowAdj) alone = alone
line_alone text n r (Some (lines.Forward k)) alone = alone
line_alone text n r (Some lines.Begin) alone = alone
line_alone text n r (Some lines.Commit) alone = alone

-- what is kept of the script has the router's batch
pub kept_alone : {X : Type 0} (c : Control) (q : Progress) (s : Router) (out text : List ℕ) (result : Result X AllocError) → s.batch ≡ None
    → OnOk result ((router_of c q ≡ s) × (out ≡ text)) → OnOk result (q.batch ≡ None)
kept_alone c q s out text (Ok x) alone done = ap (λ (r : Router). r.batch) done.0 ∙ alone
kept_alone c q s out text (Err e) alone done = tt
