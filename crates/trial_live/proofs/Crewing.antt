-- What calls of a control plane make of its board's workers.
use Rattle.std.proofs.Common.{◌≡◌, true, not, Bool, ℕ, List, ap, ◌∙◌, sym}
use Rattle.std.specs.List.{list_any}
use Rattle.fib_core_board.specs.Boards.{Board}
use Rattle.fib_plane_view.specs.Promise.{Promise}
use Rattle.fib_plane.specs.Planes.{Plane}
use Rattle.fib_plane.specs.Views.{promise_of}
use Rattle.fib_resolve.specs.declared.types.Tables.{Tables}
use Rattle.fib_control.specs.Controls.{Control, IsBeneath, IsChanged, IsSettled, but_settled}
use Rattle.trial_live.specs.Crewed.{Crew, IsHome, IsManned, SameCrew, crew_of, manned}

pub crew_promised : (b c : Board) → promise_of c ≡ promise_of b → SameCrew b c
crew_promised b c same = ap (λ (p : Promise). crew_of p.rest) same

pub crew_beneath : (c d : Control) → IsBeneath c d → SameCrew c.plane.board d.plane.board
crew_beneath c d same = crew_promised c.plane.board d.plane.board same.promise

pub crew_changed : (c d : Control) (T : Tables) → IsChanged c d T → SameCrew c.plane.board d.plane.board
crew_changed c d T is = ap (λ (p : Plane). crew_of p.board) is.plane

pub crew_settled : (b c : Board) → but_settled c ≡ but_settled b → SameCrew b c
crew_settled b c same = ap crew_of same

pub manned_by : (n : ℕ) (b c : Board) → IsManned n b → SameCrew b c → IsManned n c
manned_by n b c is same = same ∙ (is ∙ ap (λ (x : List ℕ). manned n x) (sym (ap (λ k. k.id) same)))

pub home_manned : (n : ℕ) (b : Board) → IsManned n b → IsHome b
home_manned n b is = ap (λ (k : Crew). k.out) is

pub alone_home : (b : Board) → IsHome b → (promise_of b).alone ≡ true
alone_home b is = ap (λ (out : List Bool). not (list_any (λ away. away) out)) is
