-- A further list of parts joins the rule: its own obligations may use the facts of the parts below it, before and after.
use Rattle.std.proofs.Common.{◌≡◌, ℕ, ◌+◌, ◌<◌, true, List}
use Rattle.std.specs.Prelude.{slice_index, slice_index_or, false}
use Rattle.fib_core_results.specs.declared.record.Version.{Version}
use Rattle.fib_core_lawful.specs.Layout.{pass_word}
use Rattle.fib_core_lawful.specs.State.{Control, Worker, View, control, worker, note, spent, sent, new_worker, taken_home}
use Rattle.fib_core_lawful.specs.Frame.{Parts, Fits, Rule, both}
use Rattle.fib_core_lawful.proofs.Framing.{WorkerOwes, ControlOwes, SendOwes, HomeOwes}

module _ (P Q : Parts) (words : List ℕ) (views : List View) where
  pub joined_worker : (words' : List ℕ) (v w : Worker) → WorkerOwes P words views words' v w
      → ((c : Control) → P.of_control words c → P.of_worker words c v → Q.of_control words c → Q.of_worker words c v → P.of_worker words' c w
      → Q.of_control words' c × Q.of_worker words' c w × ((u : Worker) → P.of_worker words c u → Q.of_worker words c u → Q.of_worker words' c u) × ((n : Version) → P.of_note words c n → Q.of_note words c n → Q.of_note words' c n))
      → WorkerOwes (both P Q) words views words' v w
  joined_worker words' v w below more c h f =
      let p = below c h.0 f.0 in
      let q = more c h.0 f.0 h.1 f.1 p.1 in
      ((p.0, q.0), (p.1, q.1), (λ u g. (p.2 u g.0, q.2 u g.0 g.1)), λ n m. (p.3 n m.0, q.3 n m.0 m.1))

  pub joined_control : (words' : List ℕ) (c d : Control) → ControlOwes P words views words' c d
      → (P.of_control words c → Q.of_control words c → P.of_control words' d
      → Q.of_control words' d × ((u : Worker) → u.number < 8 → slice_index_or c.desk.out u.number false ≡ true → slice_index words (pass_word u.number) ≡ u.pass → P.of_worker words c u → Q.of_worker words c u → P.of_worker words' d u → Q.of_worker words' d u) × ((n : Version) → P.of_note words c n → Q.of_note words c n → Q.of_note words' d n))
      → ControlOwes (both P Q) words views words' c d
  joined_control words' c d below more h =
      let p = below h.0 in
      let q = more h.0 h.1 p.0 in
      ((p.0, q.0), (λ u lt away pass g. (p.1 u lt away pass g.0, q.1 u lt away pass g.0 g.1 (p.1 u lt away pass g.0))), λ n m. (p.2 n m.0, q.2 n m.0 m.1))

  pub joined_send : (c : Control) → SendOwes P words views c
      → (P.of_control words c → Q.of_control words c
      → Q.of_control words (sent c) × Q.of_worker words (sent c) (new_worker c) × ((u : Worker) → P.of_worker words c u → Q.of_worker words c u → Q.of_worker words (sent c) u) × ((n : Version) → P.of_note words c n → Q.of_note words c n → Q.of_note words (sent c) n))
      → SendOwes (both P Q) words views c
  joined_send c below more h =
      let p = below h.0 in
      let q = more h.0 h.1 in
      ((p.0, q.0), (p.1, q.1), (λ u g. (p.2 u g.0, q.2 u g.0 g.1)), λ n m. (p.3 n m.0, q.3 n m.0 m.1))

  pub joined_home : (c : Control) (v : Worker) → HomeOwes P words views c v
      → (slice_index_or c.desk.out v.number false ≡ true → P.of_control words c → P.of_worker words c v → Q.of_control words c → Q.of_worker words c v
      → Q.of_control words (taken_home c v) × ((u : Worker) → P.of_worker words c u → Q.of_worker words c u → Q.of_worker words (taken_home c v) u) × ((n : Version) → P.of_note words c n → Q.of_note words c n → Q.of_note words (taken_home c v) n))
      → HomeOwes (both P Q) words views c v
  joined_home c v below more away h f =
      let p = below away h.0 f.0 in
      let q = more away h.0 f.0 h.1 f.1 in
      ((p.0, q.0), (λ u g. (p.1 u g.0, q.1 u g.0 g.1)), λ n m. (p.2 n m.0, q.2 n m.0 m.1))

  -- the parts below still hold
  pub fits_below : (c : Control) (seat_of : ℕ → ℕ) (seat : ℕ) (v : View) → Fits (both P Q) words c seat_of seat v → Fits P words c seat_of seat v
  fits_below c seat_of seat (control d) f = f
  fits_below c seat_of seat (worker w) f = (f.0, f.1.0)
  fits_below c seat_of seat (note n) f = f.0
  fits_below c seat_of seat spent f = tt

  unfoldable pub rule_below : Rule (both P Q) words views → Rule P words views
  rule_below s = (s.0, s.1, record { size = s.2.size; desk = s.2.desk; here = s.2.here.0; fits = λ seat v at. fits_below s.0 s.1 seat v (s.2.fits seat v at) })
