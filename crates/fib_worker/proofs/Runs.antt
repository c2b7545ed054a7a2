-- What holds of a pass as it begins, goes on and ends.
use Rattle.std.proofs.Common.{◌≡◌, ℕ, suc, ◌+◌, ◌-◌, ◌^◌, ◌<◌, ◌≤◌, ◌⊎◌, inl, inr, ⊎_elim, true, List, [], ◌∷◌, ◌++◌, length, refl, sym, ap, ◌∙◌, subst, arith}
use Rattle.fib_resolve.specs.declared.types.End.{End}
use Rattle.fib_core_results.specs.declared.record.Version.{Version}
use Rattle.fib_core.specs.Words.{decoded, is_edge}
use Rattle.fib_core.specs.declared.word.Word.{Word}
use Rattle.fib_core.specs.Walk.{Place, ply, balance, adjacency, ended, next, from_ply, from_balance, root}
use Rattle.fib_core.specs.Trails.{Load, visited, place, IsGoing, Follows, IsSoundTrail}
use Rattle.fib_core.proofs.Numbers.{goes_of}
use Rattle.fib_core.proofs.Stands.{balance_moves, goes_on, ply_moves}
use Rattle.fib_core.proofs.Endings.{at_most}
use Rattle.fib_core_lawful.specs.State.{Worker, lo_at}
use Rattle.fib_core.specs.declared.stage.Stage.{Stage}
use Rattle.fib_core.specs.declared.stage.Stage.TheVariants as stages
use Rattle.fib_core.specs.Stages.{StandsAt}
use Rattle.fib_core_board.specs.Crews.{Seated}
use Rattle.fib_cells.specs.Seats.{seat_learned, seat_started}
use Rattle.fib_worker.specs.Passes.{FoundEdge, HasHopped, IsHop, Passing, hopped_by, loads_at}
use Rattle.fib_worker.specs.inner.Runs.{IsOn, IsUnderWay, IsRunning, rest_in, IsOnItsWay, IsAtItsEnd, WithTrail, Nears}

pub on_unless : (s : Stage) → ((e : End) → s ≡ stages.Ended e → ⊥) → IsOn s
on_unless (stages.Ended e) h = h e refl
on_unless (stages.Ply o d) h = tt
on_unless (stages.Balance o left) h = tt
on_unless (stages.Adjacency o) h = tt

on_going : (h : ℕ) (q : Place) (s : Stage) → IsGoing q → StandsAt h q s → IsOn s
on_going h q (stages.Ended e) going at = subst IsGoing at going
on_going h q (stages.Ply o d) going at = tt
on_going h q (stages.Balance o left) going at = tt
on_going h q (stages.Adjacency o) going at = tt

going_on : (h : ℕ) (q : Place) (s : Stage) → IsOn s → StandsAt h q s → IsGoing q
going_on h q (stages.Ended e) on at = absurd on
going_on h q (stages.Ply o d) on at = subst IsGoing (sym at) tt
going_on h q (stages.Balance o left) on at = subst IsGoing (sym at.1) tt
going_on h q (stages.Adjacency o) on at = subst IsGoing (sym at) tt

-- there is a load at each place that goes on
some_load : (q : Place) → IsGoing q → 0 < loads_at q
some_load (ply o d) g = omega arith
some_load (balance o n) g = omega arith
some_load (adjacency o read) g = omega arith
some_load (ended e) g = absurd g

lo_stays : (v : Worker) (loads : List Load) → 0 < length loads
    → lo_at (hopped_by v loads).trail (hopped_by v loads).lo (hopped_by v loads).knows ≡ lo_at v.trail v.lo v.knows
lo_stays v [] some = absurd (omega arith)
lo_stays v (l ∷ ls) some = refl

pub some_loads : (a h : ℕ) (v w : Worker) (s : Stage) → IsRunning a h v s → (p : HasHopped a h v w) → 0 < length p.loads
some_loads a h v w s r p =
    let n = some_load (place v.trail) (going_on h (place v.trail) s r.on r.at) in
    let e = p.count in
    omega arith

pub hop_keeps : (a h : ℕ) (v w : Worker) (s : Stage) → IsRunning a h v s → HasHopped a h v w → WithTrail v w
hop_keeps a h v w s r p =
    record {
      objects = ap (λ (u : Worker). u.objects) p.known;
      number = ap (λ (u : Worker). u.number) p.known;
      pass = ap (λ (u : Worker). u.pass) p.known;
      version_loads = ap (λ (u : Worker). u.version_loads) p.known;
      knows = ap (λ (u : Worker). u.knows) p.known;
      past = ap (λ (u : Worker). u.past) p.known;
      claims = ap (λ (u : Worker). u.claims) p.known;
      lo = ap (λ (u : Worker). lo_at u.trail u.lo u.knows) p.known ∙ lo_stays v p.loads (some_loads a h v w s r p);
    }

-- how many objects a pass has visited
few_visited : (v : Worker) → IsSoundTrail v.objects v.trail → length (visited v.trail) ≤ v.objects
few_visited v sound = at_most v.objects (visited v.trail) sound.apart sound.below

pub few_hops : (a h : ℕ) (v : Worker) (s : Stage) (lo : Version) (hops : ℕ) → IsOnItsWay a h v s lo hops → hops < v.objects
few_hops a h v s lo hops p = (let most = few_visited v p.running.sound in let count = p.count in omega arith)

pub one_more : (v w : Worker) (s : Stage) → IsOn s → Nears v w s → length (visited w.trail) ≡ suc (length (visited v.trail))
one_more v w (stages.Ended e) on near = absurd on
one_more v w (stages.Ply o d) on near = near
one_more v w (stages.Balance o left) on near = near
one_more v w (stages.Adjacency o) on near = near

-- what was read of the place where it stands
read_of : Place → ℕ
read_of (ply o d) = 0
read_of (balance o n) = 0
read_of (adjacency o read) = length read
read_of (ended e) = 0

none_read : (h : ℕ) (q : Place) (s : Stage) → IsOn s → StandsAt h q s → read_of q ≡ 0
unfolding read_of
none_read h q (stages.Ended e) on at = absurd on
none_read h q (stages.Ply o d) on at = ap read_of at
none_read h q (stages.Balance o left) on at = ap read_of at.1
none_read h q (stages.Adjacency o) on at = ap read_of at

found : (h : ℕ) (q : Place) (W : Word) (s : Stage) → IsOn s → StandsAt h (next q W) s → is_edge W ≡ true
unfolding read_of
found h (ply o d) W s on at = (ply_moves d W (going_on h (from_ply d W) s on at)).0
found h (balance o n) W s on at = (balance_moves n W (going_on h (from_balance n W) s on at)).0
found h (adjacency o []) W s on at = (let none : ◌≡◌ {A = ℕ} 1 0 = none_read h (adjacency o (W ∷ [])) s on at in absurd (omega arith))
found h (adjacency o (i ∷ [])) W s on at = (let none : ◌≡◌ {A = ℕ} 2 0 = none_read h (adjacency o (i ∷ W ∷ [])) s on at in absurd (omega arith))
found h (adjacency o (i ∷ g ∷ more)) W s on at = absurd (going_on h (next (adjacency o (i ∷ g ∷ more)) W) s on at)
found h (ended e) W s on at = absurd (going_on h (ended e) s on at)

-- a pass that goes on loaded an edge last
pub on_edge : (h : ℕ) (v w : Worker) (s : Stage) (loads : List Load) → 0 < length loads → w ≡ hopped_by v loads → IsOn s → StandsAt h (place w.trail) s
    → FoundEdge w.trail
on_edge h v w s [] some known on at = absurd (omega arith)
on_edge h v w s (l ∷ ls) some known on at =
    subst (λ (u : Worker). FoundEdge u.trail) (sym known)
    (goes_of l.1 (decoded l.1) refl
    ∙ found h (place (ls ++ v.trail)) (decoded l.1) s on (subst (λ (u : Worker). StandsAt h (place u.trail) s) known at))

-- a hop of a walk that is under way
pub running_on : (a h : ℕ) (v : Worker) (s : Stage) → IsUnderWay a h v s → IsOn s → IsRunning a h v s
running_on a h v s u on = record { follows = u.follows; at = u.at; on = on; sound = u.sound }

rest_on : (v : Worker) (s : Stage) → IsOn s → rest_in v s ≡ suc (v.objects - length (visited v.trail))
rest_on v (stages.Ended e) on = absurd on
rest_on v (stages.Ply o d) on = refl
rest_on v (stages.Balance o left) on = refl
rest_on v (stages.Adjacency o) on = refl

on_or_ended : (s : Stage) → IsOn s ⊎ ((v : Worker) → rest_in v s ≡ 0)
on_or_ended (stages.Ended e) = inr (λ v. refl)
on_or_ended (stages.Ply o d) = inl tt
on_or_ended (stages.Balance o left) = inl tt
on_or_ended (stages.Adjacency o) = inl tt

pub rest_falls : (a h : ℕ) (v w : Worker) (s t : Stage) → IsUnderWay a h v s → IsOn s → HasHopped a h v w → IsSoundTrail w.objects w.trail → Nears v w t
    → rest_in w t < rest_in v s
rest_falls a h v w s t u on p sound near = ⊎_elim
    (λ (more : IsOn t).
    let longer = one_more v w t more near in
    let most = few_visited w sound in
    let all : w.objects ≡ v.objects = ap (λ (x : Worker). x.objects) p.known in
    let old = rest_on v s on in
    let new = rest_on w t more in
    omega arith)
    (λ (none : (x : Worker) → rest_in x t ≡ 0). let z = none w in let old = rest_on v s on in omega arith)
    (on_or_ended t)

pub trail_trans : (u v w : Worker) → WithTrail u v → WithTrail v w → WithTrail u w
trail_trans u v w p q = record {
  objects = q.objects ∙ p.objects;
  number = q.number ∙ p.number;
  pass = q.pass ∙ p.pass;
  version_loads = q.version_loads ∙ p.version_loads;
  knows = q.knows ∙ p.knows;
  past = q.past ∙ p.past;
  claims = q.claims ∙ p.claims;
  lo = q.lo ∙ p.lo;
}

module _ (a h : ℕ) (v w : Worker) (s t : Stage) (lo : Version) (hops : ℕ) (p : IsOnItsWay a h v s lo hops)
    (hop : HasHopped a h v w) (at : StandsAt h (place w.trail) t) (sound : IsSoundTrail w.objects w.trail) (near : Nears v w t) where
  kept : WithTrail v w
  kept = hop_keeps a h v w s p.running hop

  -- it has its end
  pub comes_to : (e : End) → t ≡ stages.Ended e → IsAtItsEnd a h w e lo (hops + 1)
  comes_to e is = record {
    follows = hop.follows;
    at = subst (StandsAt h (place w.trail)) is at;
    low = kept.lo ∙ p.low;
    knows = kept.knows ∙ p.knows;
    few = (let most = few_hops a h v s lo hops p in let all = kept.objects in omega arith);
  }

  -- the objects not yet visited are fewer
  pub fewer : IsOn t → w.objects - length (visited w.trail) < v.objects - length (visited v.trail)
  fewer on =
      let more = one_more v w t on near in
      let most = few_visited w sound in
      let all = kept.objects in
      omega arith

  -- it goes on exactly where the last load was of an edge
  pub on_found : IsOn t → FoundEdge w.trail
  on_found on = on_edge h v w t hop.loads (some_loads a h v w s p.running hop) hop.known on at

  pub edge_on : FoundEdge w.trail → IsOn t
  edge_on edge = on_going h (place w.trail) t (by_trail w.trail hop.follows sound edge) at
    where
      by_trail : (l : List Load) → Follows a h l → IsSoundTrail w.objects l → FoundEdge l → IsGoing (place l)
      by_trail [] f s edge = absurd edge
      by_trail (l ∷ ls) f s edge = goes_on (place ls) (decoded l.1) (s.proper a h f).1 (sym (goes_of l.1 (decoded l.1) refl) ∙ edge) f.1

-- a pass as it begins
pub begins_so : (a h : ℕ) (v : Worker) (lo : Version) (s : Stage) → a < 2 ^ 32 → h < 2 ^ 32 → v.trail ≡ [] → v.knows ≡ lo → v.objects ≤ 131072
    → IsSoundTrail v.objects v.trail → StandsAt h (place []) s → IsOn s → IsOnItsWay a h v s lo 0
begins_so a h v lo s la lh none knows few sound at on = record {
  running = record { follows = subst (Follows a h) (sym none) (la, lh); at = subst (λ l. StandsAt h (place l) s) (sym none) at; on = on; sound = sound };
  low = ap (λ l. lo_at l v.lo v.knows) none ∙ knows;
  knows = knows;
  few = few;
  count = ap (λ l. length (visited l)) (sym none);
}

on_first : (s : Stage) → StandsAt 0 root s → IsOn s
on_first s at = on_going 0 root s tt at

pub begins_with : (a h : ℕ) (first started learned : Seated) (lo : Version) (s : Stage) → started ≡ seat_started first → learned ≡ seat_learned started lo
    → IsSoundTrail started.worker.objects started.worker.trail → started.worker.objects ≤ 131072 → a < 2 ^ 32 → h < 2 ^ 32
    → ((hash : ℕ) → StandsAt hash root s) → IsOnItsWay a h learned.worker s lo 0
begins_with a h first started learned lo s is then sound few la lh at =
    begins_so a h learned.worker lo s la lh none (ap (λ (x : Seated). x.worker.knows) then)
    (subst (λ (x : Seated). x.worker.objects ≤ 131072) (sym then) few)
    (subst (λ (x : Seated). IsSoundTrail x.worker.objects x.worker.trail) (sym then) sound) (at h) (on_first s (at 0))
  where
    none : learned.worker.trail ≡ []
    none = ap (λ (x : Seated). x.worker.trail) then ∙ ap (λ (x : Seated). x.worker.trail) is

pub is_hop : (old : Passing) (v w : Seated) (a h : ℕ) (lo : Version) (n : ℕ) → record { seat = v; addr = a; hash = h; lo = lo; hops = n } ≡ old
    → w.id ≡ v.id → HasHopped a h v.worker w.worker → IsSoundTrail w.worker.objects w.worker.trail → IsHop old (record { seat = w; addr = a; hash = h; lo = lo; hops = n + 1 })
is_hop old v w a h lo n is id p sound =
    subst (λ (o : Passing). IsHop o (record { seat = w; addr = a; hash = h; lo = lo; hops = n + 1 })) is
    (record { id = id; hopped = p; apart = sound.apart; below = sound.below; addr = refl; hash = refl; lo = refl; hops = refl })
