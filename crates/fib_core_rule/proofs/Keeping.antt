-- Each event keeps the whole rule.
use Rattle.std.proofs.Common.{◌≡◌, ◌<◌, ◌+◌, ⊎_elim, ℕ, List, [], ◌∷◌, ◌++◌, length, refl, ap, subst, arith, ◌∙◌}
use Rattle.std.specs.Prelude.{slice_index, slice_set, slice_get}
use Rattle.fib_resolve.specs.Tables.{fresh}
use Rattle.fib_resolve.specs.declared.types.Tables.{Tables}
use Rattle.fib_core_results.specs.declared.record.Version.{Version}
use Rattle.fib_core_results.specs.Versions.{packed}
use Rattle.fib_core_lawful.specs.Layout.{version_word, pass_word, claim_word, cell_word}
use Rattle.fib_core_lawful.specs.State.{Control, Worker, View, control, worker, note, spent, started, learned, hopped, stopped, claimed, told, stored_union, put, looked, with_log, begun, settled, picking, sent, new_worker, taken_home}
use Rattle.fib_core_lawful.specs.Frame.{Parts, HasView, both, Rule}
use Rattle.fib_core_lawful.specs.Lawful.{OfControl, lawful}
use Rattle.fib_core_lawful.specs.Rule.{Holds}
use Rattle.fib_core_lawful.specs.May.{MaySettle}
use Rattle.fib_core_lawful.proofs.Framing.{own, WorkerOwes, ControlOwes, SendOwes, HomeOwes}
use Rattle.fib_core_lawful.proofs.Sockets.{joined_worker, joined_control, joined_send, joined_home, rule_below}
use Rattle.fib_core_lawful.proofs.Events as lawfully
use Rattle.fib_core_lawful.proofs.Moves as moves
use Rattle.fib_core_steady.specs.Names.{Names}
use Rattle.fib_core_steady.specs.Promise.{IsPromised}
use Rattle.fib_core_steady.specs.Undisturbed.{since}
use Rattle.fib_core_steady.specs.Rooted.{PliesHang}
use Rattle.fib_core_steady.proofs.Events.{later_too, asks_less}
use Rattle.fib_core_steady.proofs.Hanging.{hangs_stored, hangs_scanned}
use Rattle.fib_core_rule.specs.Steady.{versions, IsBegun, steady}
use Rattle.fib_core_rule.specs.Rule.{hangs, parts, IsLawful}
use Rattle.fib_core_rule.specs.May.{MayStart, MayStop, MayComeHome, MayStore, MayBegin, MaySend, MayLoad, MayDraw}
use Rattle.fib_core_rule.proofs.Steps as steadily
use Rattle.fib_core_rule.proofs.Steps.{begun_or_not, not_both}
use Rattle.fib_core_rule.proofs.Renaming.{renamed}
use Rattle.fib_core_rule.proofs.Settled.{stands_at}

-- the part that plies hang together speaks of the control plane's view alone
module _ (objects : ℕ) (words : List ℕ) (views : List View) (n : Names) where
  abbrev pub Two : Parts
  Two = both (lawful objects) (steady n)

  hang_worker : (words' : List ℕ) (v w : Worker) → WorkerOwes Two words views words' v w → WorkerOwes (parts objects n) words views words' v w
  hang_worker words' v w below = joined_worker (both (lawful objects) (steady n)) hangs words views words' v w below (λ c p f q g w'. (q, tt, (λ u a b. tt), λ m a b. tt))

  hang_control : (words' : List ℕ) (c d : Control) → (OfControl objects words c → PliesHang c.workers c.union → PliesHang d.workers d.union)
      → ControlOwes Two words views words' c d → ControlOwes (parts objects n) words views words' c d
  hang_control words' c d more below = joined_control (both (lawful objects) (steady n)) hangs words views words' c d below (λ p q p'. (more p.0 q, (λ u lt away pass a b a'. tt), λ m a b. tt))

  hang_send : (c : Control) → SendOwes Two words views c → SendOwes (parts objects n) words views c
  hang_send c below = joined_send (both (lawful objects) (steady n)) hangs words views c below (λ p q. (q, tt, (λ u a b. tt), λ m a b. tt))

  hang_home : (c : Control) (v : Worker) → HomeOwes Two words views c v → HomeOwes (parts objects n) words views c v
  hang_home c v below = joined_home (both (lawful objects) (steady n)) hangs words views c v below (λ away p f q g. (q, (λ u a b. tt), λ m a b. tt))

module _ (objects : ℕ) (words : List ℕ) (views : List View) (id : ℕ) (s : IsLawful objects words views) where
  -- a worker's events

  pub starts : (v : Worker) (p : ℕ) → MayStart p → HasView views id (worker v) → IsLawful objects (slice_set words (pass_word v.number) p) (slice_set views id (worker (started v p)))
  starts v p may at =
      let words' : List ℕ = slice_set words (pass_word v.number) p in
      record { names = s.names; holds = moves.starts (parts objects s.names) words views id s.holds v p at (hang_worker objects words views s.names (slice_set words (pass_word v.number) p) v (started v p) (steadily.starts_owes objects words views s.names v p words' (lawfully.starts_owes objects words views v p may))) }

  pub learns : (v : Worker) → HasView views id (worker v) → IsLawful objects words (slice_set views id (worker (learned v (slice_index words version_word))))
  learns v at = record { names = s.names; holds = moves.learns (parts objects s.names) words views id s.holds v (slice_index words version_word) at (hang_worker objects words views s.names words v (learned v (slice_index words version_word)) (steadily.learns_owes objects words views s.names v (lawfully.learns_owes objects words views v))) }

  pub hops : (v : Worker) (k : ℕ) → MayLoad v k → HasView views id (worker v) → IsLawful objects words (slice_set views id (worker (hopped v k (slice_index words (cell_word k)))))
  hops v k may at = record { names = s.names; holds = moves.hops (parts objects s.names) words views id s.holds v k (slice_index words (cell_word k)) at (hang_worker objects words views s.names words v (hopped v k (slice_index words (cell_word k))) (steadily.hops_owes objects words views s.names v k may.inside (lawfully.hops_owes objects words views v k may.walking may.inside may.here))) }

  pub stops : (v : Worker) (p : ℕ) → MayStop p → HasView views id (worker v) → IsLawful objects (slice_set words (pass_word v.number) p) (slice_set views id (worker (stopped v p)))
  stops v p may at =
      let words' : List ℕ = slice_set words (pass_word v.number) p in
      record { names = s.names; holds = moves.stops (parts objects s.names) words views id s.holds v p at (hang_worker objects words views s.names (slice_set words (pass_word v.number) p) v (stopped v p) (steadily.stops_owes objects words views s.names v p words' (lawfully.stops_owes objects words views v p may))) }

  pub draws : (v : Worker) → MayDraw v → HasView views id (worker v) → IsLawful objects (slice_set words claim_word (slice_index words claim_word + 1)) (slice_set views id (worker (claimed v (slice_index words claim_word))))
  draws v may at =
      let next : ℕ = slice_index words claim_word + 1 in
      let words' : List ℕ = slice_set words claim_word next in
      record { names = s.names; holds = moves.draws (parts objects s.names) words views id s.holds v at (hang_worker objects words views s.names (slice_set words claim_word (slice_index words claim_word + 1)) v (claimed v (slice_index words claim_word)) (steadily.draws_owes objects words views s.names v (slice_index words claim_word) words' (lawfully.draws_owes objects words views v next may))) }

  pub tells : (other : ℕ) (v : Worker) (m : Version) → HasView views id (worker v) → (other ≡ id → ⊥) → HasView (slice_set views id (worker (told v m))) other (note m) → IsLawful objects words (slice_set (slice_set views id (worker (told v m))) other spent)
  tells other v m at apart there = record { names = s.names; holds = moves.tells (parts objects s.names) words views id s.holds other v m at apart there (λ c f k. ((lawfully.tells_owes objects words views v m c f.0.0 k.0.0, steadily.tells_owes objects words views s.names v m c f.0.1), tt)) }

  -- the control plane's events

  pub here : (c : Control) → HasView views id (control c) → (parts objects s.names).of_control words c
  here c at = (own (parts objects s.names) words views id c s.holds.rule at).1.1.here

  own_view : (c : Control) → HasView views id (control c) → c ≡ s.holds.rule.0
  own_view c at = (s.holds.rule.2.fits id (control c) at).1

  -- the same state under other names
  under : (c : Control) → HasView views id (control c) → (m : Names) → (IsBegun c.log → IsPromised (versions c.log) m c.union) → Holds (parts objects m) words views
  under c at m also = renamed objects words views s.names m s.holds (subst (λ (d : Control). IsBegun d.log → IsPromised (versions d.log) m d.union) (own_view c at) also)

  pub puts : (c : Control) (k w : ℕ) → MayStore c k w → HasView views id (control c) → IsLawful objects (slice_set words (cell_word k) w) (slice_set views id (control (put c k w)))
  puts c k w may at = ⊎_elim
      (λ (z : c.log.version.applied ≡ 0). with_same s.names (λ lt. absurd (not_both c.log.version.applied z lt)) (λ lt. absurd (not_both c.log.version.applied z lt)))
      (λ (lt : 0 < c.log.version.applied). let names = may.steady lt in with_same names.0 (λ b. names.1) (λ b. names.2))
      (begun_or_not c.log.version.applied)
    where
      room : OfControl objects words c → k < length c.union.cells
      room p = (let inside = may.lawful.inside in let known = p.known in let long = p.copied.long in omega arith)

      with_same : (m : Names) → (IsBegun c.log → IsPromised (versions c.log) m c.union) → (IsBegun c.log → IsPromised (versions c.log) m (stored_union c k w)) → IsLawful objects (slice_set words (cell_word k) w) (slice_set views id (control (put c k w)))
      with_same m before after = record {
        names = m;
        holds = moves.puts (parts objects m) words views id (under c at m before) c k w at
            (hang_control objects words views m (slice_set words (cell_word k) w) c (put c k w) (λ p q. hangs_stored c.workers c.union k w q p.acyclic (room p) may.rooted)
            (steadily.puts_owes objects words views m c k w (slice_set words (cell_word k) w) may.lawful after (lawfully.puts_owes objects words views c k w may.lawful)));
      }

  -- the first change: nothing is settled but the fresh tables
  first_promised : (c : Control) → OfControl objects words c → c.log.version.applied ≡ 0 → (T : Tables) → MayBegin c T → (n : Names) × IsPromised (versions c.log) n c.union
  first_promised c p z T may = stands_at c.log.history c.log.version.settled fresh (ap (slice_get c.log.history) settled_zero ∙ p.log.first) c.union objects p.copied.long (may.first z)
    where
      settled_zero : c.log.version.settled ≡ 0
      settled_zero = (let order = p.log.order in omega arith)

  pub begins : (c : Control) (T : Tables) → MayBegin c T → HasView views id (control c) → IsLawful objects (slice_set words version_word (packed (begun c.log T).version)) (slice_set views id (control (with_log c (begun c.log T))))
  begins c T may at = ⊎_elim
      (λ (z : c.log.version.applied ≡ 0). let names = first_promised c (here c at).0.0 z T may in with_same names.0 (λ lt. absurd (not_both c.log.version.applied z lt)) (λ e. names.1))
      (λ (lt : 0 < c.log.version.applied). with_same s.names (here c at).0.1.promised (λ z. absurd (not_both c.log.version.applied z lt)))
      (begun_or_not c.log.version.applied)
    where
      w : ℕ
      w = packed (begun c.log T).version

      with_same : (m : Names) → (IsBegun c.log → IsPromised (versions c.log) m c.union) → (c.log.version.applied ≡ 0 → IsPromised (versions c.log) m c.union) → IsLawful objects (slice_set words version_word (packed (begun c.log T).version)) (slice_set views id (control (with_log c (begun c.log T))))
      with_same m before first = record {
        names = m;
        holds = moves.logs (parts objects m) words views id (under c at m before) c (begun c.log T) at
            (hang_control objects words views m (slice_set words version_word (packed (begun c.log T).version)) c (with_log c (begun c.log T)) (λ p q. q)
            (steadily.begins_owes objects words views m c T (slice_set words version_word (packed (begun c.log T).version)) may.sound first
            (lawfully.begins_owes objects words views c T (packed (begun c.log T).version) refl may.room)));
      }

  pub settles : (c : Control) → MaySettle c.union c.log → HasView views id (control c) → IsLawful objects (slice_set words version_word (packed (settled c.log).version)) (slice_set views id (control (with_log c (settled c.log))))
  settles c may at =
      let p = (here c at).0.0 in
      let names = stands_at c.log.history c.log.version.applied may.tables may.held c.union objects p.copied.long may.stands in
      let before : IsPromised (versions c.log) names.0 c.union = asks_less (since c.log.history c.log.version.applied) (versions c.log) (later_too c.log.history c.log.version.settled c.log.version.applied p.log.order) names.0 c.union names.1 in
      record {
        names = names.0;
        holds = moves.logs (parts objects names.0) words views id (under c at names.0 (λ lt. before)) c (settled c.log) at
            (hang_control objects words views names.0 (slice_set words version_word (packed (settled c.log).version)) c (with_log c (settled c.log)) (λ p q. q)
            (steadily.settles_owes objects words views names.0 c (slice_set words version_word (packed (settled c.log).version)) (λ lt. names.1)
            (lawfully.settles_owes objects words views c (packed (settled c.log).version) refl may)));
      }

  pub looks : (c : Control) (number : ℕ) → HasView views id (control c) → IsLawful objects words (slice_set views id (control (looked c number (slice_index words (pass_word number)))))
  looks c number at = record {
    names = s.names;
    holds = moves.looks (parts objects s.names) words views id s.holds c number (slice_index words (pass_word number)) at
        (hang_control objects words views s.names words c (looked c number (slice_index words (pass_word number))) (λ p q. hangs_scanned c.workers c.union number (slice_index words (pass_word number)) q)
        (steadily.looks_owes objects words views s.names c number (slice_index words (pass_word number)) words (lawfully.looks_owes objects words views c number)));
  }

  pub picks : (c : Control) (number : ℕ) → HasView views id (control c) → IsLawful objects words (slice_set views id (control (picking c number)))
  picks c number at = record {
    names = s.names;
    holds = moves.picks (parts objects s.names) words views id s.holds c number at
        (hang_control objects words views s.names words c (picking c number) (λ p q. q)
        (steadily.picks_owes objects words views s.names c number words (lawfully.picks_owes objects words views c number)));
  }

  pub sends : (c : Control) → MaySend c → HasView views id (control c) → IsLawful objects words (slice_set views id (control (sent c)) ++ worker (new_worker c) ∷ [])
  sends c may at =
      let mine = (own (parts objects s.names) words views id c s.holds.rule at).1.1 in
      let few = (here c at).0.0.few in
      let known = may.known in
      let eight : c.desk.picked < 8 = omega arith in
      record {
        names = s.names;
        holds = moves.sends (parts objects s.names) words views id s.holds c eight may.home at
            (hang_send objects words views s.names c (steadily.sends_owes objects words views s.names c (lawfully.sends_owes objects words views c may.known may.few mine.desk.outs)));
      }

  pub notes : (c : Control) → HasView views id (control c) → IsLawful objects words (slice_set views id (control c) ++ note c.log.version ∷ [])
  notes c at = record { names = s.names; holds = moves.notes (parts objects s.names) words views id s.holds c c.log.version at (λ h. ((lawfully.notes_owes objects words views c h.0.0, tt), tt)) }

  pub homes : (other : ℕ) (c : Control) (v : Worker) → MayComeHome v → HasView views id (control c) → (other ≡ id → ⊥) → HasView (slice_set views id (control (taken_home c v))) other (worker v) → IsLawful objects words (slice_set (slice_set views id (control (taken_home c v))) other spent)
  homes other c v may at apart there = record {
    names = s.names;
    holds = moves.homes (parts objects s.names) words views id s.holds other c v at apart there
        (hang_home objects words views s.names c v (steadily.homes_owes objects words views s.names c v (lawfully.homes_owes objects words views c v may)));
  }

  -- what the parts below say alone
  unfoldable pub lawful_rule : Rule (lawful objects) words views
  lawful_rule = rule_below (lawful objects) (steady s.names) words views (rule_below (both (lawful objects) (steady s.names)) hangs words views s.holds.rule)
