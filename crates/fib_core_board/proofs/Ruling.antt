-- For those who keep the rule: what a board's calls ask is what the rule's events ask, and the rule tells what holds of a board.
use Rattle.std.proofs.Common.{◌≡◌, ℕ, List, Option, arith, refl, sym, subst}
use Rattle.fib_core.specs.declared.word.Word.{Word}
use Rattle.fib_core.specs.Words.{encoded}
use Rattle.fib_core.specs.Trails.{Trail, AreLawful}
use Rattle.fib_core.proofs.Edges.{acyclic_edges}
use Rattle.fib_resolve.specs.declared.types.Tables.{Tables}
use Rattle.fib_core_lawful.specs.State.{Control, View, control, put, looked, with_log, begun, settled}
use Rattle.fib_core_lawful.specs.Frame.{HasView}
use Rattle.fib_core_rule.specs.Rule.{IsLawful}
use Rattle.fib_core_rule.specs.Change as rule
use Rattle.fib_core_rule.specs.May as events
use Rattle.fib_core_rule.specs.Steady.{AreSteady, MayStoreSteadily}
use Rattle.fib_core_rule.proofs.Keeping.{here}
use Rattle.fib_core_rule.proofs.Changing.{store_gives}
use Rattle.fib_core_rule.proofs.Tells.{gathered_all}
use Rattle.fib_core_board.specs.Boards.{Pass, board_of, board_stored, board_scanned, board_begun, board_settled}
use Rattle.fib_core_board.specs.May.{MayChange, MayStore, MayBegin}
use Rattle.fib_core_board.specs.Told.{IsWithinLimits, IsBoard}

module _ (id : List ℕ) (trails : List Trail) (passes : List (Option Pass)) (c : Control) where
  change_is : (k : ℕ) (w : Word) → MayChange (board_of id trails passes c) k w → rule.MayChange c k w
  change_is k w m = record {
    roomy = m.roomy;
    root = m.root;
    form = m.form;
    whole = m.whole;
    edge = m.edge;
    end = m.end;
    drops = m.drops;
    steady = m.steady;
    rooted = m.rooted;
  }

  -- a store is the rule's event
  pub store_allowed : (objects : ℕ) (numbers : List ℕ) (views : List View) → IsLawful objects numbers views → (seat : ℕ) → HasView views seat (control c) → (k : ℕ) (w : Word) → MayStore (board_of id trails passes c) k w → events.MayStore c k (encoded w)
  store_allowed objects numbers views s seat mine k w may =
      let place = may.place in
      store_gives objects numbers views s seat c mine k w
      (record { inside = place.inside; other = place.other; target = place.target; allowed = place.allowed })
      (λ is away. subst (λ (v : Word). MayStoreSteadily c k (encoded v)) (sym is) (may.aside is away))
      (λ reached. change_is k w (may.seen reached))

  -- so is the beginning of a version
  pub begin_allowed : (next : Tables) → MayBegin (board_of id trails passes c) next → events.MayBegin c next
  begin_allowed next m = record { room = m.room; sound = m.sound; first = m.first }

  -- the board after an event is the event's
  pub stored_is : (k : ℕ) (w : Word) → board_stored (board_of id trails passes c) k w ≡ board_of id trails passes (put c k (encoded w))
  stored_is k w = refl

  pub scanned_is : (n found : ℕ) → board_scanned n found (board_of id trails passes c) ≡ board_of id trails passes (looked c n found)
  scanned_is n found = refl

  pub begun_is : (next : Tables) → board_begun (board_of id trails passes c) next ≡ board_of id trails passes (with_log c (begun c.log next))
  begun_is next = refl

  pub settled_is : board_settled (board_of id trails passes c) ≡ board_of id trails passes (with_log c (settled c.log))
  settled_is = refl

  -- what the rule tells of it
  pub told : (objects : ℕ) (numbers : List ℕ) (views : List View) → IsLawful objects numbers views → (seat : ℕ) → HasView views seat (control c) → IsWithinLimits c.objects c.workers
      → AreLawful c.log.history trails → AreSteady c.log.history trails → IsBoard (board_of id trails passes c)
  told objects numbers views s seat mine limits right still =
      let h = here objects numbers views seat s c mine in
      let f = h.0.0 in
      let known = f.known in
      let long = f.copied.long in
      record {
        limits = limits;
        long = omega arith;
        words = f.within.words;
        history = record { fits = f.log.fits; order = f.log.order; long = f.log.long; first = f.log.first; sound = h.0.1.sound };
        typed = f.typed;
        acyclic = acyclic_edges c.union h.1.edges f.acyclic;
        hangs = h.1;
        settled = f.settled;
        lawful = right;
        steady = still;
        claims = λ home n. (gathered_all objects numbers views s seat c mine home).1 n;
      }

-- where the trails are those that came home
pub told_home : (id : List ℕ) (passes : List (Option Pass)) (c : Control) (objects : ℕ) (numbers : List ℕ) (views : List View) → IsLawful objects numbers views → (seat : ℕ) → HasView views seat (control c) → IsWithinLimits c.objects c.workers → IsBoard (board_of id c.home passes c)
told_home id passes c objects numbers views s seat mine limits =
    let h = here objects numbers views seat s c mine in
    told id c.home passes c objects numbers views s seat mine limits h.0.0.home h.0.1.home
