-- A put stores its word, or Drop where that would close a cycle.
use Rattle.std.proofs.Common.{◌≡◌, ◌≢◌, ◌+◌, ◌*◌, ◌<◌, ◌≤◌, ℕ, Bool, true, false, List, [], Option, Some, inl, inr, refl, sym, ◌∙◌}
use Rattle.std.specs.Prelude.{◌==◌, ◌||◌, if◌then◌else◌}
use Rattle.fib_union.proofs.Stores.{some_none}
use Rattle.fib_pool.specs.declared.object.Object.{Object}
use Rattle.fib_pool.specs.Objects.{IsLive, at}
use Rattle.fib_core.specs.declared.word.Word.{Word}
use Rattle.fib_core.specs.declared.word.Word.TheVariants as words
use Rattle.fib_core.specs.Words.{IsRoomy}
use Rattle.fib_core_board.specs.Boards.{board_stored, edge_of, word_in}
use Rattle.fib_core_board.specs.May.{HoldsPromise, MayStore}
use Rattle.fib_core_board.proofs.Serving.{edge_drop}
use Rattle.fib_plane_view.specs.declared.put.Put.TheVariants as puts
use Rattle.fib_plane.specs.Planes.{Holds, Plane}
use Rattle.fib_plane.specs.Puts.{Closes, IsPlanePut, IsStored, MayPut}
use Rattle.fib_plane.specs.Views.{is_ply_at, is_ply_of}
use Rattle.fib_plane.proofs.Resting.{may_drop, may_put}

-- an object that was taken as a ply
pub ply_of : (xs : List (Option Object)) (x : ℕ) → is_ply_at (at xs x) ≡ true → is_ply_of xs x ≡ true
ply_of xs x e = either (x == 0) (is_ply_at (at xs x)) e
  where
    either : (a b : Bool) → b ≡ true → (a || b) ≡ true
    either true b h = refl
    either false b h = h

-- what a put stores
abbrev pub left : Bool → Word → Word
left t w = if t then words.Drop else w

module _ (p : Plane) (o s : ℕ) (w : Word) (small : s < 16) (inside : o < p.board.objects) (may : MayPut p (16 * o + s) w) (other : word_in p.board (16 * o + s) ≢ w) where
  pub left_may : (t : Bool) → ((y : ℕ) → edge_of w ≡ Some y → y < p.board.objects) → (t ≡ true → Closes p.board (16 * o + s) w) → (t ≡ false → Closes p.board (16 * o + s) w → ⊥)
      → (t ≡ true → word_in p.board (16 * o + s) ≢ words.Drop) → MayStore p.board (16 * o + s) (left t w)
  left_may true target closes far filled = may_drop p o s w small inside may other (closes refl) (filled refl)
  left_may false target closes far filled = may_put p o s w small inside may other target (far refl)

  pub left_serves : (t : Bool) → (t ≡ true → Closes p.board (16 * o + s) w) → (t ≡ false → Closes p.board (16 * o + s) w → ⊥)
      → (t ≡ true → word_in p.board (16 * o + s) ≢ words.Drop) → HoldsPromise (board_stored p.board (16 * o + s) (left t w)) (Holds p)
  left_serves true closes far filled = may.serves words.Drop (inr (refl, closes refl)) (filled refl)
  left_serves false closes far filled = may.serves w (inl (refl, far refl)) other

  pub left_answers : (q : Plane) (t : Bool) → (t ≡ true → Closes p.board (16 * o + s) w) → (t ≡ false → Closes p.board (16 * o + s) w → ⊥)
      → (t ≡ true → word_in p.board (16 * o + s) ≢ words.Drop) → IsStored p q (16 * o + s) (left t w) → IsPlanePut p q (16 * o + s) w (if t then puts.Dropped else puts.Stored)
  left_answers q true closes far filled st = (other, closes refl, inr (filled refl, st))
  left_answers q false closes far filled st = (other, far refl, st)

pub left_roomy : (w : Word) → IsRoomy w → (t : Bool) → IsRoomy (left t w)
left_roomy w roomy true = tt
left_roomy w roomy false = roomy

pub left_target : (xs : List (Option Object)) (w : Word) → ((y : ℕ) → edge_of w ≡ Some y → IsLive xs y) → (t : Bool) → (y : ℕ) → edge_of (left t w) ≡ Some y → IsLive xs y
left_target xs w target true y e = absurd (some_none y (sym edge_drop ∙ e))
left_target xs w target false y e = target y e
