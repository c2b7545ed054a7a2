-- Once nothing is queued each object that is used is counted, or an edge of the union leads to it.
use Rattle.std.proofs.Common.{◌≡◌, ℕ, ◌+◌, ◌*◌, ◌<◌, ◌⊎◌, inl, inr, refl, ap, ◌∙◌, arith}
use Rattle.std.specs.Prelude.{Some}
use Rattle.fib_addr.specs.Prefixes.{Prefix}
use Rattle.fib_union.specs.Unions.{owner}
use Rattle.fib_resolve.specs.declared.types.Tables.{Tables}
use Rattle.fib_core.specs.StandsFor.{IsCounted, Thing}
use Rattle.fib_core.specs.Union.{Edge}
use Rattle.fib_core.proofs.Numbers.{target_of}
use Rattle.fib_pool.specs.declared.object.Object.{Object}
use Rattle.fib_pool.specs.Objects.{at, count_in, count_of}
use Rattle.fib_pool.proofs.Pools.{live_at}
use Rattle.fib_plane.specs.Planes.{Plane}
use Rattle.fib_plane.specs.Sound.{IsPlane}
use Rattle.fib_plane_view.specs.Promise.{Promise}
use Rattle.fib_plane_view.specs.View.{HasIn, IsLive, View}
use Rattle.fib_plane.specs.Views.{view_of}
use Rattle.fib_plane.proofs.Views.Seeing.{goes_down, leads_edge, live_down}
use Rattle.fib_stack.specs.Joined.{Parts, balance_in}
use Rattle.fib_control_quiet.specs.Rest.{IsAccounted, IsDrained, IsSeen, IsUsed}
use Rattle.fib_control_quiet.proofs.Drained.{paths}
use Rattle.fib_control_quiet.proofs.Numbers.{number}
use Rattle.fib_control_quiet.proofs.Standing.{found, seen_apart, seen_live}

-- what is used is in use as the plane's users see it
pub used_live : (q : Plane) → IsPlane q → IsSeen q → (o : ℕ) (x : Object) → at q.objects o ≡ Some x → IsLive (view_of q) o
used_live q told seen o x is = seen o (let c = told.taken o x is in let n : count_of q.objects o ≡ x.count = ap count_in is in omega (arith, c, n))

-- an edge that they see is one of the union
edge_in_union : (q : Plane) (y : ℕ) → HasIn (view_of q) y → (x : ℕ) × Edge q.board.union x y
edge_in_union q y (x, s, w, l, g) =
    let down = goes_down q x s w y l g in
    (owner (16 * x + s), (16 * x + s, down.1, refl, target_of down.1 w down.2 ∙ (leads_edge w y l).1, down.3))

module _ (S : Tables) (rank : Prefix → ℕ) (p : Promise) (q : Plane) (s : Parts) (told : IsPlane q) (seen : IsSeen q) (drained : IsDrained S rank p (view_of q) s) where
  abbrev v : View
  v = view_of q

  abbrev names : Thing → ℕ
  names = number (paths S rank p v s drained) (balance_in s) v S

  abbrev Kept : ℕ → Type 0
  Kept o = ((t : Thing) × IsCounted S t × (names t ≡ o)) ⊎ ((x : ℕ) × Edge q.board.union x o)

  kept : (o : ℕ) → IsLive v o → Kept o
  kept o (inl e) = inl (found S rank p v s drained o (inl e))
  kept o (inr (inl h)) = inl (found S rank p v s drained o (inr (inl h)))
  kept o (inr (inr (inl r))) = inl (found S rank p v s drained o (inr (inr r)))
  kept o (inr (inr (inr g))) = inr (edge_in_union q o g)

  pub accounted : IsAccounted S q
  accounted = record {
    names = names;
    there = λ t c. live_at q.objects (names t) (live_down q told (names t) (seen_live S rank p v s drained t c));
    apart = seen_apart S rank p v s drained;
    others = λ o x. kept o (used_live q told seen o x.0 x.1);
  }
