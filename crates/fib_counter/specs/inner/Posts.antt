-- Workers at posts, each with a seat that counts the ends of its results.
use Rattle.std.specs.Prelude.{ℕ, ◌≡◌, ◌++◌, [], ◌∷◌, true, Bool, List, nat_lt, map, filter}
use Rattle.fib_core_results.specs.declared.record.Record.{Record}
use Rattle.fib_capture.specs.declared.packet.Packet.{Packet}
use Rattle.fib_worker_crew.specs.Results.{results_of}
use Rattle.fib_worker_crew.specs.declared.claims.Frame.{Frame}
use Rattle.fib_rounds_homing.specs.Stations.{HasDone, IsReady}
use Rattle.fib_rounds_homing.specs.declared.station.Station.{Station}
use Rattle.fib_counts.specs.Counts.{word_of}
use Rattle.fib_counter.specs.declared.posts.Post.{Post}

-- the words that there are, among these
abbrev pub is_word : ℕ → Bool
is_word w = nat_lt w 770

abbrev pub kept_words : List ℕ → List ℕ
kept_words words = filter is_word words

-- the word that counts a result's end
abbrev pub end_word : Record → ℕ
end_word r = word_of r.end

-- those of results, and of the results of frames
abbrev pub words_of : List Record → List ℕ
words_of results = kept_words (map end_word results)

abbrev pub results_by : List Frame → List Record
results_by [] = []
results_by (f ∷ list) = results_of f.results.list ++ results_by list

abbrev pub station_of : Post → Station
station_of p = p.station

-- the words that the seats counted, one seat after the other
abbrev pub counted_by : List Post → List ℕ
counted_by [] = []
counted_by (p ∷ posts) = p.seat.tally.words ++ counted_by posts

-- a post before its work: its seat is one of these counters, and counted nothing
pub record IsFreshPost (table : List ℕ) (p : Post) : Type 0 where
  pub id : p.seat.id ≡ table
  pub none : p.seat.tally.words ≡ []

abbrev pub IsReadyPost : ℕ → ℕ → Post → Type 0
IsReadyPost k count p = IsReady k count p.station

-- of a round that opened at version k with these packets, of which the first has that number: the worker did its work, and its seat counted the
-- results, where it says that it did
pub record HasWorkedPost (k first base : ℕ) (taken : List Packet) (p q : Post) : Type 0 where
  pub station : HasDone k first base taken p.station q.station
  pub id : q.seat.id ≡ p.seat.id
  pub counted : q.counted ≡ true → q.seat.tally.words ≡ p.seat.tally.words ++ words_of (results_by q.station.frames.items)

-- a post after its work: it has the same seat, and where it says so the seat counted what its worker forwarded, and nothing else
pub record IsCountedPost (table : List ℕ) (p : Post) : Type 0 where
  pub id : p.seat.id ≡ table
  pub words : p.counted ≡ true → p.seat.tally.words ≡ words_of (results_by p.station.frames.items)

-- its worker came to the round's end, and the seat counted what it forwarded
pub record HasCounted (p : Post) : Type 0 where
  pub done : p.station.done ≡ true
  pub words : p.seat.tally.words ≡ words_of (results_by p.station.frames.items)
