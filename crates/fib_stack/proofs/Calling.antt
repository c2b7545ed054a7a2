-- What leads from view to view before a turn's first put, and after its last.
use Rattle.std.proofs.Common.{◌≡◌, inl, inr, ℕ, List, sym}
use Rattle.std.specs.Prelude.{Option, Some, None, Ok, IfSome, IfNone}
use Rattle.fib_pool.specs.declared.object.AdjacencyRecord.{AdjacencyRecord}
use Rattle.fib_pool.specs.declared.object.Kind.TheVariants as kinds
use Rattle.fib_plane_view.specs.View.{View, GaveRecord, HasRoom, IsTaken}
use Rattle.fib_ply.specs.Calls.{DropsNone, IsCall}
use Rattle.fib_reach.proofs.Walking.{edge_leads, leads-map, leads_self, leads_then}
use Rattle.fib_stack_ledger.specs.declared.ledger.Use.{Use}
use Rattle.fib_stack.specs.Calls.{GivesOnly, IsGiving, IsTaking, TakesOnly}
use Rattle.fib_stack.specs.Records.{TookFor}

pub takes_none : (u v : View) → v ≡ u → TakesOnly u v
takes_none u v same = (0, sym same)

pub takes_then : (u v w : View) → TakesOnly u v → TakesOnly v w → TakesOnly u w
takes_then u v w f g = leads_then IsTaking u v w f g

pub takes_room : (u v : View) → HasRoom u v → TakesOnly u v
takes_room u v room = edge_leads IsTaking u v (inl room)

pub takes_balance : (u v : View) (c : ℕ) → IsTaken u v kinds.Balance c → TakesOnly u v
takes_balance u v c taken = edge_leads IsTaking u v (inr (inr (c, taken)))

-- a record for an aim, if it has one
pub takes_for : (u v : View) (o : Option AdjacencyRecord) (old new : List Use) (x : Unit {0}) → TookFor u v o old new (Ok x) → TakesOnly u v
takes_for u v None old new x t = takes_none u v t.0
takes_for u v (Some m) old new x t = edge_leads IsTaking u v (inr (inl (m, t.0, t.1)))

pub gives_none : (u : View) → GivesOnly u u
gives_none u = leads_self IsGiving u

pub gives_then : (u v w : View) → GivesOnly u v → GivesOnly v w → GivesOnly u w
gives_then u v w f g = leads_then IsGiving u v w f g

pub gives_record : (u v : View) (m : AdjacencyRecord) → GaveRecord u v m → GivesOnly u v
gives_record u v m gave = edge_leads IsGiving u v (inl (m, gave))

pub gives_calls : (u v : View) → DropsNone u v → GivesOnly u v
gives_calls u v calls = leads-map IsCall IsGiving (λ x y c. inr c) u v calls

-- a balance, if there is one
pub maybe_takes : (u v : View) (r : Option ℕ) → IfSome r (λ c. IsTaken u v kinds.Balance c) → IfNone r (v ≡ u) → TakesOnly u v
maybe_takes u v None some none = takes_none u v none
maybe_takes u v (Some c) some none = takes_balance u v c some
