-- What else the rule holds, what each step tells its seat, and how a seat's fields and its view belong together.
use Rattle.std.specs.Prelude.{◌≡◌, ℕ, ◌+◌, ◌-◌, ◌*◌, ◌^◌, ◌<◌, List, [], length}
use Rattle.atomic_table.specs.Table.{Step, Me}
use Rattle.fib_core_lawful.specs.Claims.{times}
use Rattle.fib_counts.specs.Counts.{View, keeper, seat, spent, Keep, Tally, counted, total, outs, first_keep, added, sent, new_tally, taken_home, IsCounted}

abbrev pub is_seat : View → ℕ
is_seat (keeper k) = 0
is_seat (seat t) = 1
is_seat spent = 0

abbrev pub outs_in : View → ℕ
outs_in (keeper k) = outs k.out
outs_in (seat t) = 0
outs_in spent = 0

abbrev pub came_in : View → ℕ
came_in (keeper k) = k.came
came_in (seat t) = 0
came_in spent = 0

abbrev pub made_in : View → ℕ
made_in (keeper k) = k.made
made_in (seat t) = 0
made_in spent = 0

abbrev pub count_in : View → ℕ
count_in v = length (counted v)

-- how many additions a seat may still make, and one more
abbrev pub left_in : View → ℕ
left_in (keeper k) = 0
left_in (seat t) = 2 ^ 32 - length t.words
left_in spent = 0

-- how many additions there can be of the seats that are out now
abbrev pub spare_of : Keep → ℕ
spare_of k = length k.tally + outs k.out * 2 ^ 32

abbrev pub spare_in : View → ℕ
spare_in (keeper k) = spare_of k
spare_in (seat t) = 0
spare_in spent = 0

-- sums over all views, from which no word ever wraps
pub record IsRoomy (views : List View) : Type 0 where
  pub count : total is_seat views ≡ total outs_in views
  pub made : total outs_in views + total came_in views ≡ total made_in views
  pub room : total count_in views + total left_in views ≡ total spare_in views
  pub spare : total spare_in views < 2 ^ 60 + 2 ^ 35

pub record IsRuled (words : List ℕ) (views : List View) : Type 0 where
  pub counted : IsCounted words views
  pub roomy : IsRoomy views

-- what a seat knows

abbrev pub keep_of : View → Keep
keep_of (keeper k) = k
keep_of (seat t) = first_keep
keep_of spent = first_keep

abbrev pub tally_of : View → Tally
tally_of (keeper k) = record { number = 0; words = [] }
tally_of (seat t) = t
tally_of spent = record { number = 0; words = [] }

-- the seat holds no slot, and its view is of its kind
abbrev pub IsKeeper : Me ℕ View → Type 0
IsKeeper me = me ≡ (keeper (keep_of me.0), [])

abbrev pub IsSeat : Me ℕ View → Type 0
IsSeat me = me ≡ (seat (tally_of me.0), [])

abbrev pub Telling : Type 1
Telling = Step ℕ → Me ℕ View → ℕ → Me ℕ View → Type 0

abbrev pub Adds : Telling
Adds s v n w = w ≡ (seat (added (tally_of v.0) s.word), [])

-- what the rule tells of the keeper
pub record IsFit (k : Keep) : Type 0 where
  pub made : outs k.out + k.came ≡ k.made
  pub spare : spare_of k < 2 ^ 60 + 2 ^ 35

-- a load by the keeper: it stays as it is, and where no seat is out what it finds is its own count
abbrev pub Reads : Telling
Reads s v n w = (w ≡ v) × IsFit (keep_of v.0) × (outs (keep_of v.0).out ≡ 0 → n ≡ times s.word (keep_of v.0).tally)

abbrev pub left_at_home : View → View
left_at_home v = keeper (sent (keep_of v))

abbrev pub sent_out : View → View
sent_out v = seat (new_tally (keep_of v))

abbrev pub both_of : View → View → View
both_of v w = keeper (taken_home (keep_of v) (tally_of w))
