-- How the words, the running passes and the rule of the shared words belong together.
use Rattle.std.specs.Prelude.{◌≡◌, ℕ, ◌+◌, ◌%◌, ◌^◌, ◌<◌, false, true, List, [], Option, Some, None, option_map, length, slice_index, slice_index_or, slice_set}
use mathlib.Core.Option.{some, none}
use Rattle.atomic_table.specs.Table.{Step, Me}
use Rattle.fib_resolve.specs.declared.types.Tables.{Tables}
use Rattle.fib_core.specs.Trails.{Trail, Follows, place}
use Rattle.fib_core_lawful.specs.State.{Control, Worker, View, control, worker, stored_union}
use Rattle.fib_core_lawful.specs.Frame.{HasView}
use Rattle.fib_core_rule.specs.Rule.{IsLawful}
use Rattle.fib_core.specs.Stages.{StandsAt}
use Rattle.fib_core_board.specs.Boards.{Board, Pass, as_control, board_begun, board_settled, board_scanned}
use Rattle.fib_core_board.specs.Told.{IsWithinLimits}
use Rattle.fib_core_plainboard.specs.declared.running.Running.{Running}
use Rattle.fib_core_plainboard.specs.Passes.{pass_of, hopped_on, pass_ended}

-- the control plane's view, with the trails that came home and the number that was picked last
abbrev pub control_with : Board → List Trail → ℕ → Control
control_with b home picked = record {
  objects = b.objects;
  workers = b.workers;
  union = b.union;
  desk = record { out = b.out; rests = b.rests; picked = picked };
  log = b.log;
  home = home;
  gathered = b.gathered;
  stores = b.stored;
}

-- the view of a running pass's seat
abbrev pub view_of : Board → ℕ → Pass → Worker
view_of b n q = record {
  objects = b.objects;
  number = n;
  pass = slice_index b.rests n + 1;
  walks = true;
  version_loads = 0;
  knows = q.lo;
  lo = q.lo;
  trail = q.loads;
  hi = None;
  past = [];
  claims = [];
}

pub record Sits (views : List View) (b : Board) (n : ℕ) (q : Pass) : Type 0 where
  pub seat : ℕ
  pub has : HasView views seat (worker (view_of b n q))
  pub follows : Follows q.addr q.hash q.loads
  pub left : slice_index b.rests n + 2 < 2 ^ 64

-- the words and some views meet the rule; the control plane's view is the board's, and each running pass has its seat
pub record IsPlain (words : List ℕ) (p : Board) : Type 0 where
  pub views : List View
  pub home : List Trail
  pub picked : ℕ
  pub lawful : IsLawful p.objects words views
  pub mine : HasView views 0 (control (control_with p home picked))
  pub limits : IsWithinLimits p.objects p.workers
  pub claims : p.gathered ≡ []
  pub trails : p.trails ≡ []
  pub even : (n : ℕ) → slice_index p.rests n % 2 ≡ 0
  pub long : length p.passes ≡ 8
  pub sits : (n : ℕ) (q : Pass) → pass_of p n ≡ Some q → Sits views p n q
  pub rests : (n : ℕ) → pass_of p n ≡ None → slice_index_or p.out n false ≡ false

-- what the code keeps of a running pass
abbrev pub Keeps : Option Running → Option Pass → Type 0
Keeps None None = Unit {0}
Keeps None (Some q) = ⊥
Keeps (Some r) None = ⊥
Keeps (Some r) (Some q) = (r.addr ≡ q.addr) × (r.hash ≡ q.hash) × (r.lo ≡ q.lo) × StandsAt q.hash (place q.loads) r.stage

pub record HoldsBoard (objects workers : ℕ) (running : List (Option Running)) (p : Board) : Type 0 where
  pub all : p.objects ≡ objects
  pub crew : p.workers ≡ workers
  pub long : length running ≡ 8
  pub keeps : (n : ℕ) → Keeps (slice_index_or running n None) (pass_of p n)

-- what each step of the memory tells
abbrev pub Telling : Type 1
Telling = Step Tables → Me Tables Board → ℕ → Me Tables Board → Type 0

abbrev pub Gives : (Board → ℕ → ℕ → Board) → Telling
Gives f s v n u = u ≡ (f v.0 s.first s.second, [])

abbrev pub put_at : Board → ℕ → ℕ → Board
put_at b k w = record b { union = stored_union (as_control b) k w; stored = b.stored + 1 }

abbrev pub looked_at : Board → ℕ → ℕ → Board
looked_at b n found = board_scanned n found b

abbrev pub settled_at : Board → ℕ → ℕ → Board
settled_at b m n = board_settled b

abbrev pub begun_with : Board → mathlib.Core.Option.Option Tables → Board
begun_with b (some next) = board_begun b next
begun_with b none = b

abbrev pub Begins : Telling
Begins s v n u = u ≡ (begun_with v.0 s.said, [])

-- a step tells two numbers, so a pass begins in two: first its address is known, then its hash
abbrev pub sent_at : Board → ℕ → ℕ → Board
sent_at b n a = record b {
  out = slice_set b.out n true;
  passes = slice_set b.passes n (Some (record { addr = a; hash = 0; lo = b.log.version; loads = [] }));
}

abbrev pub with_hash : ℕ → Pass → Pass
with_hash h q = record { addr = q.addr; hash = h; lo = q.lo; loads = q.loads }

abbrev pub aimed_at : Board → ℕ → ℕ → Board
aimed_at b n h = record b { passes = slice_set b.passes n (option_map (with_hash h) (pass_of b n)) }

abbrev pub hopped_at : Board → ℕ → ℕ → Board
hopped_at b n m = hopped_on b n

abbrev pub ended_at : Board → ℕ → ℕ → Board
ended_at b n m = pass_ended b n
