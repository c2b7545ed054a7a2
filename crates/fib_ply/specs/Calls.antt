-- The calls of a plane that the prefix table makes: none of its stores is dropped.
use Rattle.std.specs.Prelude.{◌≡◌, ◌≢◌, ◌⊎◌, ℕ, true}
use Rattle.fib_reach.specs.Walks.{Leads}
use Rattle.fib_core.specs.declared.word.Word.{Word}
use Rattle.fib_pool.specs.declared.object.Kind.TheVariants as kinds
use Rattle.fib_plane_view.specs.declared.put.Put.{Put}
use Rattle.fib_plane_view.specs.declared.put.Put.TheVariants as puts
use Rattle.fib_plane_view.specs.View.{View, HasKind, IsLetGo, IsPut, IsTaken}

-- an edge is put into a ply's cell, and not dropped
pub record IsEdgePut (u v : View) : Type 0 where
  pub ply : ℕ
  pub slot : ℕ
  pub word : Word
  pub answer : Put
  pub into : u.is_ply ply ≡ true
  pub kind : HasKind u ply word
  pub put : IsPut u v ply slot word answer
  pub kept : answer ≢ puts.Dropped

-- such a put, or a ply is taken, or let go
abbrev pub IsCall : View → View → Type 0
IsCall u v = IsEdgePut u v ⊎ (((c : ℕ) × IsTaken u v kinds.Ply c) ⊎ ((c : ℕ) × (u.is_ply c ≡ true) × IsLetGo u v c))

-- such calls alone lead from one view to the other
abbrev pub DropsNone : View → View → Type 0
DropsNone u v = Leads IsCall u v
