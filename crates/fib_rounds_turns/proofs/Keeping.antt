-- What calls on a control plane keep, one after the other.
use Rattle.std.proofs.Common.{◌≡◌, ◌+◌, ◌++◌, ◌∷◌, [], ℕ, List, Option, Some, None, Result, Ok, Err, refl, ap, sym, ◌∙◌}
use Rattle.std.specs.declared.alloc.AllocError.{AllocError}
use Rattle.fib_resolve.specs.Edits.{edited}
use Rattle.fib_resolve.specs.Refusals.{edited_in_turn, refused}
use Rattle.fib_resolve.specs.declared.types.Edit.{Edit}
use Rattle.fib_resolve.specs.declared.types.Refusal.{Refusal}
use Rattle.fib_resolve.specs.declared.types.Tables.{Tables}
use Rattle.fib_config.specs.Config.{Setup}
use Rattle.fib_core_board.specs.Boards.{Board}
use Rattle.fib_plane.specs.Planes.{Plane}
use Rattle.fib_plane_view.specs.Promise.{Promise}
use Rattle.fib_control.specs.Controls.{Control, IsBeneath, IsChanged, but_settled, tables_in}
use Rattle.fib_rounds_turns.specs.declared.changes.Unmade.{Unmade}
use Rattle.fib_rounds_turns.specs.Routers.{KeepsCrew, applied_in, but_versions, history_in}
use Rattle.fib_rounds_turns.specs.Changes.{Changes, HasApplied, HasAppliedAll, Stays}

pub beneath_same : (c : Control) → IsBeneath c c
beneath_same c = record { setup = refl; entries = refl; promise = refl }

pub same_stays : (c d : Control) → d ≡ c → Stays c d
same_stays c d e = record { setup = ap (λ (x : Control). x.setup) e; applied = ap applied_in e; history = ap history_in e }

pub same_keeps : (c d : Control) → d ≡ c → KeepsCrew c d
same_keeps c d e = ap (λ (x : Control). but_versions x.plane.board) e

pub keeps_then : (c m d : Control) → KeepsCrew c m → KeepsCrew m d → KeepsCrew c d
keeps_then c m d p q = q ∙ p

pub stays_then : (c m d : Control) → Stays c m → Stays m d → Stays c d
stays_then c m d p q = record { setup = q.setup ∙ p.setup; applied = q.applied ∙ p.applied; history = q.history ∙ p.history }

pub beneath_stays : (c d : Control) → IsBeneath c d → Stays c d
beneath_stays c d is = record {
  setup = is.setup;
  applied = ap (λ (p : Promise). p.applied) is.promise;
  history = ap (λ (p : Promise). p.rest.log.history) is.promise;
}

pub beneath_keeps : (c d : Control) → IsBeneath c d → KeepsCrew c d
beneath_keeps c d is = ap (λ (p : Promise). but_versions p.rest) is.promise

pub settled_stays : (c d : Control) → d.setup ≡ c.setup → but_settled d.plane.board ≡ but_settled c.plane.board → Stays c d
settled_stays c d setup board = record {
  setup = setup;
  applied = ap (λ (b : Board). b.log.version.applied) board;
  history = ap (λ (b : Board). b.log.history) board;
}

pub settled_keeps : (c d : Control) → but_settled d.plane.board ≡ but_settled c.plane.board → KeepsCrew c d
settled_keeps c d board = ap but_versions board

pub changed_changes : (c d : Control) (T : Tables) → IsChanged c d T → Changes c T d
changed_changes c d T is = record {
  setup = is.setup;
  applied = ap (λ (p : Plane). p.board.log.version.applied) is.plane;
  history = ap (λ (p : Plane). p.board.log.history) is.plane;
}

pub changed_keeps : (c d : Control) (T : Tables) → IsChanged c d T → KeepsCrew c d
changed_keeps c d T is = ap (λ (p : Plane). but_versions p.board) is.plane

-- a change after calls that made none
pub changes_later : (c m d : Control) (T : Tables) → Stays c m → Changes m T d → Changes c T d
changes_later c m d T p q = record {
  setup = q.setup ∙ ap (λ (s : Setup). record { tables = T; room = s.room }) p.setup;
  applied = q.applied ∙ ap (λ (n : ℕ). n + 1) p.applied;
  history = q.history ∙ ap (λ (H : List Tables). H ++ T ∷ []) p.history;
}

pub applied_later : (c m d : Control) (edit : Edit) (r : Result (Option Refusal) AllocError) → Stays c m → HasApplied m d edit r → HasApplied c d edit r
applied_later c m d edit (Err e) p a = stays_then c m d p a
applied_later c m d edit (Ok None) p a = (
  sym (ap (λ (s : Setup). refused s.tables s.room edit) p.setup) ∙ a.0,
  changes_later c m d (edited (tables_in c) edit) p (rw (sym (ap (λ (s : Setup). edited s.tables edit) p.setup)) a.1),
)
applied_later c m d edit (Ok (Some why)) p a =
    (sym (ap (λ (s : Setup). refused s.tables s.room edit) p.setup) ∙ a.0, stays_then c m d p a.1)

pub applied_all_later : (c m d : Control) (edits : List Edit) (r : Result (Option Unmade) AllocError) → Stays c m → HasAppliedAll m d edits r → HasAppliedAll c d edits r
applied_all_later c m d edits (Err e) p a = stays_then c m d p a
applied_all_later c m d edits (Ok None) p a =
    (sym (ap (λ (s : Setup). edited_in_turn s.tables s.room edits) p.setup) ∙ a.0, changes_later c m d (tables_in d) p a.1)
applied_all_later c m d edits (Ok (Some u)) p a =
    (sym (ap (λ (s : Setup). edited_in_turn s.tables s.room edits) p.setup) ∙ a.0, stays_then c m d p a.1)
