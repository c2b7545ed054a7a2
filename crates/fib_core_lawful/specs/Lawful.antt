-- The parts of the lawful state.
use Rattle.std.specs.Prelude.{◌≡◌, ℕ, ◌+◌, ◌*◌, ◌%◌, ◌^◌, ◌<◌, ◌≤◌, ◌⊎◌, List, [], ◌∷◌, length, slice_index, slice_get, Some}
use Rattle.fib_reach.specs.Walks.{IsAcyclic}
use Rattle.fib_resolve.specs.Tables.{fresh}
use Rattle.fib_resolve.specs.Resolution.{resolve}
use Rattle.fib_resolve.specs.declared.types.End.{End}
use Rattle.fib_resolve.specs.declared.types.End.TheVariants as answers
use Rattle.fib_resolve.specs.declared.types.Tables.{Tables}
use Rattle.fib_core_results.specs.declared.record.Version.{Version}
use Rattle.fib_core_results.specs.Trails.{version_at, AtLeast}
use Rattle.fib_core.specs.Words.{IsWord, decoded, target}
use Rattle.fib_core.specs.Walk.{IsFlow, walk, Arrives, ReadsWhole, Heads, EndsIn}
use Rattle.fib_core.specs.Union.{Union, Goes, Edge, Usable, IsTyped}
use Rattle.fib_core.specs.Trails.{Load, Walked, IsWhole, IsProper, LastFormed, place, Follows, finished, AreLawful, IsEndOf}
use Rattle.fib_core_results.specs.Versions.{packed}
use Rattle.fib_core_lawful.specs.Layout.{version_word, cell_word, words_for}
use Rattle.fib_core_lawful.specs.State.{Log, Control, Worker}
use Rattle.fib_core_lawful.specs.Frame.{Parts}
use Rattle.fib_core_lawful.specs.Claims.{IsSpare, one_if}

-- the words behind the first sixteen are the cells that the control plane knows
pub record IsCopied (objects : ℕ) (words cells : List ℕ) : Type 0 where
  pub size : length words ≡ words_for objects
  pub long : length cells ≡ 16 * objects
  pub same : (k : ℕ) → k < 16 * objects → slice_index words (cell_word k) ≡ slice_index cells k

-- each cell is a word, and each edge leads to an object
pub record IsWithin (objects : ℕ) (u : Union) : Type 0 where
  pub words : (k : ℕ) → IsWord (slice_index u.cells k)
  pub edges : (k w : ℕ) → Goes u k w → target w < objects

-- the history in order, and the version word
pub record IsLog (words : List ℕ) (l : Log) : Type 0 where
  pub packed : slice_index words version_word ≡ packed l.version
  pub fits : l.version.applied < 2 ^ 32
  pub order : l.version.settled ≤ l.version.applied
  pub long : length l.history ≡ l.version.applied + 1
  pub first : slice_get l.history 0 ≡ Some fresh

-- settled cells answer as resolution does, and nothing is retired
pub record AnswersAt (u : Union) (k : ℕ) (S : Tables) : Type 0 where
  pub answers : (a h : ℕ) → IsFlow a h → walk u.cells a h ≡ resolve S a h
  pub quiet : 0 < k → u.retired ≡ []

abbrev pub IsSettled : Union → Log → Type 0
IsSettled u l =
    (k : ℕ) (S : Tables) → l.version ≡ version_at k → slice_get l.history k ≡ Some S → AnswersAt u k S

-- stored ends are possible ends of a version from settled to applied
abbrev pub HoldsEnds : List ℕ → Log → Type 0
HoldsEnds cells l =
    (k : ℕ) → EndsIn (IsEndOf l.history l.version.settled l.version.applied) cells (decoded (slice_index cells k))

-- the facts on the control plane's view
pub record OfControl (objects : ℕ) (words : List ℕ) (c : Control) : Type 0 where
  pub known : c.objects ≡ objects
  pub any : 0 < objects
  pub few : c.workers ≤ 8
  pub copied : IsCopied objects words c.union.cells
  pub within : IsWithin objects c.union
  pub typed : IsTyped c.union
  pub acyclic : IsAcyclic (Edge c.union)
  pub log : IsLog words c.log
  pub settled : IsSettled c.union c.log
  pub ends : HoldsEnds c.union.cells c.log
  pub home : AreLawful c.log.history c.home
  pub spare : IsSpare c.gathered c.desk.out
  pub rested : (n : ℕ) → slice_index c.desk.rests n % 2 ≡ 0

-- running passes walk the union
pub record IsWalk (u : Union) (number pass : ℕ) (trail : List Load) : Type 0 where
  pub odd : (trail ≡ []) ⊎ (pass % 2 ≡ 1)
  pub walked : Walked (Usable u number pass) trail

-- what a seat or note knows is no later than the version
pub record IsTold (now knows : Version) : Type 0 where
  pub order : knows.settled ≤ knows.applied
  pub last : AtLeast knows now

-- Drop, or an end of a version since then
abbrev pub IsEndSince : Log → ℕ → End → Type 0
IsEndSince l low e = (e ≡ answers.Drop) ⊎ IsEndOf l.history low l.version.applied e

-- a running trail ends lawfully: adjacencies are read whole, the end that it has or will have is one of the versions since
-- lo, and where lo and the version are one settled version the walk from where it stands ends as resolution does
pub record EndsLawfully (cells : List ℕ) (l : Log) (lo : Version) (trail : List Load) : Type 0 where
  pub low : IsTold l.version lo
  pub read : (a h : ℕ) → Follows a h trail → ReadsWhole cells (place trail)
  pub heads : (a h : ℕ) → Follows a h trail → Heads (IsEndSince l lo.settled) cells (place trail)
  pub right : (a h k : ℕ) (S : Tables) → Follows a h trail → lo ≡ version_at k → l.version ≡ version_at k
      → slice_get l.history k ≡ Some S → Arrives cells a h (place trail) (resolve S a h)

abbrev pub AimsOnce : List ℕ → Log → Version → List Load → Type 0
AimsOnce cells l lo [] = Unit {0}
AimsOnce cells l lo (load ∷ t) = EndsLawfully cells l lo (load ∷ t)

-- the facts on a worker's view, beside the control plane's
pub record OfWorker (objects : ℕ) (words : List ℕ) (c : Control) (w : Worker) : Type 0 where
  pub known : w.objects ≡ objects
  pub number : w.number < c.workers
  pub walk : IsWalk c.union w.number w.pass w.trail
  pub whole : IsWhole c.union.cells w.trail
  pub proper : (a h : ℕ) → Follows a h w.trail → IsProper (place w.trail) × LastFormed w.trail
  pub told : IsTold c.log.version w.knows
  pub aimed : AimsOnce c.union.cells c.log w.lo w.trail
  pub done : AreLawful c.log.history (finished w.lo w.trail w.hi)
  pub past : AreLawful c.log.history w.past
  pub few_claims : length w.claims < 2 ^ 32
  -- its pass word is odd while it walks, and even at rest
  pub paced : w.pass % 2 ≡ one_if w.walks

abbrev pub lawful : ℕ → Parts
lawful objects = record {
  of_control = OfControl objects;
  of_worker = OfWorker objects;
  of_note = λ words c n. IsTold c.log.version n;
}
