-- What each seat of the table knows, and what each event makes of it: one function an event.
--
-- Layout says where the table's words lie. One event is one sequentially consistent operation on one word, or a move of seats. Each seat
-- has a view: what it knows by its own operations and by the notes that it was given.
use Rattle.std.specs.Prelude.{ℕ, ◌+◌, ◌-◌, ◌*◌, ◌/◌, ◌^◌, max, Bool, true, false, List, [], ◌∷◌, ◌++◌, Option, Some, None, slice_index, slice_set, replicate}
use Rattle.fib_resolve.specs.Tables.{fresh}
use Rattle.fib_resolve.specs.declared.types.Tables.{Tables}
use Rattle.fib_core_results.specs.declared.record.Version.{Version}
use Rattle.fib_core_results.specs.Trails.{version_at}
use Rattle.fib_core_results.specs.Versions.{unpacked}
use Rattle.fib_union.specs.Marks.{Mark, unseen}
use Rattle.fib_core.specs.Union.{Union, must_retire, stored, scanned}
use Rattle.fib_core.specs.Trails.{Load, Trail, finished}

-- how many passes a pass word leaves
abbrev pub left_of : ℕ → ℕ
left_of pass = 2 ^ 63 - 1 - pass / 2

-- which workers' numbers are out, the pass word of each number when it was last at rest, and the number that was picked for the next seat
pub record Desk : Type 0 where
  pub out : List Bool
  pub rests : List ℕ
  pub picked : ℕ

-- the tables of each version, the fresh ones first, and the version
pub record Log : Type 0 where
  pub history : List Tables
  pub version : Version

-- the control plane's view. home are the finished trails and gathered the claims of the seats that came home; stores counts the stores so far
pub record Control : Type 0 where
  pub objects : ℕ
  pub workers : ℕ
  pub union : Union
  pub desk : Desk
  pub log : Log
  pub home : List Trail
  pub gathered : List ℕ
  pub stores : ℕ

-- a worker's view. It walks from the start of a pass to its stop: its pass word is odd then, and even at rest. version_loads counts its
-- loads of the version; lo is the version that it knew at the first load of its trail, hi the one that it loaded after the last; past are
-- its finished trails
pub record Worker : Type 0 where
  pub objects : ℕ
  pub number : ℕ
  pub pass : ℕ
  pub walks : Bool
  pub version_loads : ℕ
  pub knows : Version
  pub lo : Version
  pub trail : List Load
  pub hi : Option Version
  pub past : List Trail
  pub claims : List ℕ

-- a note knows a version; a note that was joined, or a seat that came home, is spent
pub data View : Type 0 where
  control : Control → View
  worker : Worker → View
  note : Version → View
  spent : View

-- the events of a worker

-- 1: it stores an odd number p into its pass word, and a pass begins
abbrev pub started : Worker → ℕ → Worker
started v p = record v { pass = p; walks = true; lo = v.knows; trail = []; hi = None }

-- 2: it loads the version word
abbrev pub learned : Worker → ℕ → Worker
learned v found = record v { version_loads = v.version_loads + 1; knows = unpacked found; hi = Some (unpacked found) }

-- 3: it loads the cell k of the object where it stands
abbrev pub lo_at : List Load → Version → Version → Version
lo_at [] lo knows = knows
lo_at (l ∷ t) lo knows = lo

abbrev pub hopped : Worker → ℕ → ℕ → Worker
hopped v k found = record v { lo = lo_at v.trail v.lo v.knows; trail = (k, found) ∷ v.trail; hi = None }

-- 4: it stores an even number p into its pass word, and a finished trail is one of its past
abbrev pub stopped : Worker → ℕ → Worker
stopped v p = record v { pass = p; walks = false; trail = []; hi = None; past = v.past ++ finished v.lo v.trail v.hi }

-- 11: it is told what a note knows
abbrev pub greater : Version → Version → Version
greater v w = record { settled = max v.settled w.settled; applied = max v.applied w.applied }

abbrev pub told : Worker → Version → Worker
told v n = record v { knows = greater v.knows n }

-- 13: it adds 1 to the claim word
abbrev pub claimed : Worker → ℕ → Worker
claimed v found = record v { claims = v.claims ++ found ∷ [] }

-- the events of the control plane

-- 5: it stores w into the cell k
abbrev pub fresh_marks : Control → List Mark
fresh_marks c = replicate c.workers unseen

abbrev pub stored_union : Control → ℕ → ℕ → Union
stored_union c k w = stored (must_retire c.union k) (fresh_marks c) c.union k w

abbrev pub put : Control → ℕ → ℕ → Control
put c k w = record c { union = stored_union c k w; stores = c.stores + 1 }

-- 6: it stores the version: one more begins, or the last is settled
abbrev pub with_log : Control → Log → Control
with_log c l = record c { log = l }

abbrev pub begun : Log → Tables → Log
begun l next = record {
  history = l.history ++ next ∷ [];
  version = record { settled = l.version.settled; applied = l.version.applied + 1 };
}

abbrev pub settled : Log → Log
settled l = record { history = l.history; version = version_at l.version.applied }

-- 7: it loads the pass word of the worker n
abbrev pub looked : Control → ℕ → ℕ → Control
looked c n found = record c { union = scanned c.union n found }

-- 8: it picks the number n for the next seat, whose pass word it knows from when that number came home
abbrev pub with_desk : Control → Desk → Control
with_desk c d = record c { desk = d }

abbrev pub picking : Control → ℕ → Control
picking c n = with_desk c (record { out = c.desk.out; rests = c.desk.rests; picked = n })

-- 9: a worker's seat with the picked number is split off
abbrev pub sent : Control → Control
sent c = with_desk c (record { out = slice_set c.desk.out c.desk.picked true; rests = c.desk.rests; picked = c.desk.picked })

abbrev pub new_worker : Control → Worker
new_worker c = record {
  objects = c.objects;
  number = c.desk.picked;
  pass = slice_index c.desk.rests c.desk.picked;
  walks = false;
  version_loads = 0;
  knows = c.log.version;
  lo = c.log.version;
  trail = [];
  hi = None;
  past = [];
  claims = [];
}

-- 10: a note is split off, which changes nothing here

-- 12: a worker's seat comes home
abbrev pub taken_home : Control → Worker → Control
taken_home c v = record c {
  desk = record {
    out = slice_set c.desk.out v.number false;
    rests = slice_set c.desk.rests v.number v.pass;
    picked = c.desk.picked;
  };
  home = c.home ++ v.past;
  gathered = c.gathered ++ v.claims;
}

-- what the first seat knows of a fresh table
abbrev pub first_control : ℕ → ℕ → Control
first_control objects workers = record {
  objects = objects;
  workers = workers;
  union = record { cells = replicate (16 * objects) 0; retired = [] };
  desk = record { out = replicate 8 false; rests = replicate 8 0; picked = 0 };
  log = record { history = fresh ∷ []; version = version_at 0 };
  home = [];
  gathered = [];
  stores = 0;
}
