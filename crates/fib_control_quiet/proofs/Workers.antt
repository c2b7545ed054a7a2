-- Workers that leave and come home change nothing that stands between the plane, the prefix table, the stack and the queue.
use native.Mathlib.Decide.{ℕ_discrete}
use mathlib.Core.Logic.{dite}
use Rattle.std.proofs.Common.{inl, inr, ◌≡◌, ℕ, ◌<◌, true, List, refl, sym, subst, arith}
use Rattle.std.specs.Prelude.{Contains}
use Rattle.fib_addr.specs.Prefixes.{Prefix}
use Rattle.fib_resolve.specs.declared.types.Tables.{Tables}
use Rattle.fib_core_promise.specs.Matches.{FitsVersions, look_of}
use Rattle.fib_core_board.specs.Boards.{Board}
use Rattle.fib_plane_view.specs.Promise.{IsBegun, Promise}
use Rattle.fib_plane_view.specs.View.{View}
use Rattle.fib_ply.specs.Rows.{held}
use Rattle.fib_ply.specs.Tables.{Stands, Table, watch_of}
use Rattle.fib_ply.proofs.Rewatching.{rewatch}
use Rattle.fib_stack.specs.Joined.{Joined, Parts, balance_in, in_change, state_in, table_of}
use Rattle.fib_stack.specs.Steadiness.{IsSteady}

-- a change of these versions
abbrev change_of : ℕ → List Tables → Board → Promise
change_of a J rest = record { settled = 0; applied = a; versions = J; alone = true; rest = rest }

-- what else the board keeps is not asked for
change_beside : (a : ℕ) (J : List Tables) (b c : Board) (t : Table) (v : View) → Stands (change_of a J b) t v → Stands (change_of a J c) t v
change_beside a J b c t v s = (
  s.0,
  s.1,
  rewatch (watch_of (change_of a J b) t) (watch_of (change_of a J c) t) (λ x o h. h) (λ z. z) (look_of (held t.rows.members)) s.0 s.1 v
      (record { allowed = dite (ℕ_discrete a 0) (λ z. inr (z, refl)) (λ ne. inl (omega (arith, ne))); newest = s.2.at.kept.newest; older = s.2.at.kept.older; versions = s.2.at.kept.versions; buckets = s.2.at.kept.buckets; still = s.2.at.kept.still }) s.2,
  s.3,
  s.4,
)

change_same : (p q : Promise) (t : Table) (v : View) → q.applied ≡ p.applied → q.versions ≡ p.versions → Stands (in_change p) t v → Stands (in_change q) t v
change_same p q t v applied versions s = change_beside q.applied q.versions p.rest q.rest t v
    (subst (λ (J : List Tables). Stands (change_of q.applied J p.rest) t v) (sym versions) (subst (λ (a : ℕ). Stands (change_of a p.versions p.rest) t v) (sym applied) s))

pub same_versions : (S : Tables) (rank : Prefix → ℕ) (p q : Promise) (v : View) (s : Parts) → Joined S rank p v s → q.settled ≡ p.settled → q.applied ≡ p.applied → q.versions ≡ p.versions → Joined S rank q v s
same_versions S rank p q v s j settled applied versions =
    let before : IsBegun q → IsBegun p = (λ b. omega (arith, b, applied)) in
    let still : p.settled < p.applied → q.settled < q.applied = (λ lt. omega (arith, lt, settled, applied)) in
    record {
      kept = j.kept;
      laid = j.laid;
      table = change_same p q (table_of s) v applied versions j.table;
      fits = λ b. subst (λ (J : List Tables). FitsVersions J (balance_in s)) (sym versions) (j.fits (before b));
      steady = λ b. subst (λ (J : List Tables). IsSteady J (state_in v s)) (sym versions) (j.steady (before b));
      newest = λ b. subst (λ (J : List Tables). Contains J S) (sym versions) (j.newest (before b));
      ranked = j.ranked;
      waiting = λ e r at. still (j.waiting e r at);
      deferred = λ e k w at. still (j.deferred e k w at);
    }
