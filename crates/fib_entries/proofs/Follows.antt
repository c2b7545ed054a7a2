-- The tables of before and after an edit differ where it says, and the entries stand for those after.
use Rattle.std.proofs.Common.{◌≡◌, ◌∷◌, [], subst, sym}
use Rattle.fib_resolve.specs.Edits.{edited}
use Rattle.fib_resolve.specs.Tables.{IsSound}
use Rattle.fib_resolve.specs.declared.types.Edit.{Edit}
use Rattle.fib_resolve.specs.declared.types.Tables.{Tables}
use Rattle.fib_resolve_changes.specs.Differ.{Differ, change_of}
use Rattle.fib_resolve_changes.specs.declared.change.Change.{Change}
use Rattle.fib_resolve_changes.proofs.Differing.{edit_differs}

pub differs : (S T : Tables) (e : Edit) (x : Change) → IsSound S → x ≡ change_of S e → T ≡ edited S e → Differ (x ∷ []) S T
differs S T e x sound at is = subst (λ (y : Change). Differ (y ∷ []) S T) (sym at) (subst (λ (V : Tables). Differ (change_of S e ∷ []) S V) (sym is) (edit_differs S e sound))
