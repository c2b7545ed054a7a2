-- Workers' seats that leave a board and come home, as contracts see them.
use Rattle.std.specs.Prelude.{◌≡◌, ℕ, ◌<◌, ◌^◌, ◌++◌, false, true, List, length, slice_index, slice_index_or, slice_set, [], None}
use Rattle.fib_core_results.specs.declared.record.Version.{Version}
use Rattle.fib_core_lawful.specs.State.{Worker}
use Rattle.fib_core_board.specs.Boards.{Board}

-- a worker's seat at rest: whose words it shares, and what it knows
pub record Seated : Type 0 where
  pub id : List ℕ
  pub worker : Worker

-- a note that tells a seat a version
pub record Noted : Type 0 where
  pub id : List ℕ
  pub version : Version

-- worker n is out
abbrev pub IsOut : Board → ℕ → Type 0
IsOut b n = slice_index_or b.out n false ≡ true

-- a seat may leave with the number n
pub record MaySend (b : Board) (n : ℕ) : Type 0 where
  pub one : n < b.workers
  pub home : slice_index_or b.out n false ≡ false
  pub few : length b.gathered < 2 ^ 60

-- it leaves
abbrev pub board_sent : Board → ℕ → Board
board_sent b n = record b { out = slice_set b.out n true }

-- with its pass word as it last came home; it knows the version, and has neither trails nor claims
abbrev pub new_seat : Board → ℕ → Seated
new_seat b n = record {
  id = b.id;
  worker = record {
    objects = b.objects;
    number = n;
    pass = slice_index b.rests n;
    walks = false;
    version_loads = 0;
    knows = b.log.version;
    lo = b.log.version;
    trail = [];
    hi = None;
    past = [];
    claims = [];
  };
}

-- a seat comes home with its trails, its claims and its pass word
abbrev pub board_joined : Board → Worker → Board
board_joined b v = record b {
  out = slice_set b.out v.number false;
  rests = slice_set b.rests v.number v.pass;
  trails = b.trails ++ v.past;
  gathered = b.gathered ++ v.claims;
}
