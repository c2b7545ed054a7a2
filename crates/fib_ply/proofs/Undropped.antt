-- Calls of which none is a dropped store.
use Rattle.std.proofs.Common.{◌≡◌, ℕ, inl, inr, true, subst}
use Rattle.fib_core.specs.declared.word.Word.{Word}
use Rattle.fib_pool.specs.declared.object.Kind.TheVariants as kinds
use Rattle.fib_plane_view.specs.declared.put.Put.{Put}
use Rattle.fib_plane_view.specs.declared.put.Put.TheVariants as puts
use Rattle.fib_plane_view.specs.View.{View, Answered, HasKind, IsLetGo, IsPut, IsTaken}
use Rattle.fib_reach.proofs.Walking.{edge_leads, leads_self, leads_then}
use Rattle.fib_ply.specs.Calls.{DropsNone, IsCall}
use Rattle.fib_ply.specs.inner.Change.{IsCalm}
use Rattle.fib_ply.proofs.Promises.{calm_none}

pub none_self : (u : View) → DropsNone u u
none_self u = leads_self IsCall u

pub none_then : (u v w : View) → DropsNone u v → DropsNone v w → DropsNone u w
none_then u v w f g = leads_then IsCall u v w f g

-- an edge that closes no cycle isn't dropped
pub none_put : (u v : View) (x s : ℕ) (w : Word) (a : Put) → u.is_ply x ≡ true → HasKind u x w → IsCalm u x w → IsPut u v x s w a → DropsNone u v
none_put u v x s w a is kind calm put = edge_leads IsCall u v (inl (record {
  ply = x;
  slot = s;
  word = w;
  answer = a;
  into = is;
  kind = kind;
  put = put;
  kept = λ e. (let h : Answered u x s w (v.cell x s) puts.Dropped = subst (λ (b : Put). Answered u x s w (v.cell x s) b) e put.answered in calm_none u x w calm h.2);
}))

pub none_taken : (u v : View) (c : ℕ) → IsTaken u v kinds.Ply c → DropsNone u v
none_taken u v c take = edge_leads IsCall u v (inr (inl (c, take)))

pub none_let_go : (u v : View) (c : ℕ) → u.is_ply c ≡ true → IsLetGo u v c → DropsNone u v
none_let_go u v c is go = edge_leads IsCall u v (inr (inr (c, is, go)))
