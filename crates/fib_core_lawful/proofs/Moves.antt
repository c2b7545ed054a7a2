-- Each event keeps the rule, whatever the parts are, where it keeps the parts.
use Rattle.std.proofs.Common.{◌≡◌, ◌≢◌, ℕ, ◌+◌, ◌*◌, ◌^◌, ◌<◌, ◌≤◌, ⊎_elim, true, false, true≢false, eqb, List, [], ◌∷◌, ◌++◌, length, refl, sym, ap, ◌∙◌, subst, arith, get_or-set_same, get_or-set_other, length-set}
use Rattle.std.specs.Prelude.{slice_index, slice_index_or, slice_set, nat_lt, if◌then◌else◌}
use Rattle.std.proofs.lemmas.List.{append-nil}
use Rattle.fib_core_results.specs.declared.record.Version.{Version}
use Rattle.fib_core_results.specs.Versions.{packed}
use Rattle.fib_core_lawful.specs.Layout.{version_word, pass_word, claim_word, cell_word}
use Rattle.fib_core_lawful.specs.State.{Log, Control, Worker, View, control, worker, note, spent, started, learned, hopped, stopped, claimed, told, put, looked, with_log, picking, sent, new_worker, taken_home}
use Rattle.fib_core_lawful.specs.Frame.{Parts, HasView, IsFramed}
use Rattle.fib_core_lawful.specs.Lawful.{OfControl, OfWorker}
use Rattle.fib_core_lawful.specs.Claims.{times, times_in, count_in, total, one_if, outs, IsSeats}
use Rattle.fib_core_lawful.specs.Rule.{Holds}
use Rattle.fib_core_lawful.proofs.Views.{at_set}
use Rattle.fib_core_lawful.proofs.Framing.{own, WorkerOwes, ControlOwes, SendOwes, HomeOwes, worker_acts, control_acts, note_splits, note_joins, worker_splits, worker_joins}
use Rattle.fib_core_lawful.proofs.Claiming.{claims_kept, claims_split, claims_joined, claims_drawn, total_set, total_none}
use Rattle.fib_core_lawful.proofs.Seating.{seats_kept, seats_split, seats_joined, out_more, out_less, few_claims}

plus_none : (a : ℕ) → a ≡ a + 0
plus_none a = omega arith

module _ (P : Parts) (words : List ℕ) (views : List View) (id : ℕ) (s : Holds P words views) where
  abbrev pub After : List ℕ → List View → Type 0
  After words' views' = Holds P words' views'

  pass_apart : (v : Worker) → HasView views id (worker v) → (p : ℕ) → slice_index (slice_set words (pass_word v.number) p) claim_word ≡ slice_index words claim_word
  pass_apart v at p = (let below = (s.rule.2.fits id (worker v) at).0.below in get_or-set_other words (pass_word v.number) claim_word p 0 (omega arith))

  own_out : (c : Control) → HasView views id (control c) → c.desk.out ≡ s.rule.0.desk.out
  own_out c at = ap (λ d. d.desk.out) (s.rule.2.fits id (control c) at).1

  seats_here : (c : Control) → HasView views id (control c) → IsSeats views c.desk.out
  seats_here c at = subst (IsSeats views) (sym (own_out c at)) s.seats

  -- a worker's events

  -- it changes the table's words at most at its own pass word, and no claim
  passes : (v w : Worker) (p : ℕ) → HasView views id (worker v) → w.number ≡ v.number → w.pass ≡ p → w.claims ≡ v.claims
      → WorkerOwes P words views (slice_set words (pass_word v.number) p) v w → After (slice_set words (pass_word v.number) p) (slice_set views id (worker w))
  passes v w p at number pass claims owes = record {
    rule = (
        let r = worker_acts P words views (slice_set words (pass_word v.number) p) id v w s.rule at (length-set words (pass_word v.number) p)
        (λ j lt ne. get_or-set_other words (pass_word v.number) (pass_word j) p 0 (λ e. ne (omega arith))) number (λ was room. get_or-set_same words (pass_word v.number) p 0 room ∙ sym pass) owes in
        (s.rule.0, r.0, r.1));
    claims = claims_kept words (slice_set words (pass_word v.number) p) views id (worker v) (worker w) at claims (pass_apart v at p) s.claims;
    seats = seats_kept views id (worker v) (worker w) s.rule.0.desk.out at (λ m. ap (λ n. one_if (eqb n m)) number) s.seats;
  }

  -- it only loads
  loads : (v w : Worker) → HasView views id (worker v) → w.number ≡ v.number → w.pass ≡ v.pass → w.claims ≡ v.claims
      → WorkerOwes P words views words v w → After words (slice_set views id (worker w))
  loads v w at number pass claims owes = record {
    rule = (let r = worker_acts P words views words id v w s.rule at refl (λ j lt ne. refl) number (λ was room. was ∙ sym pass) owes in (s.rule.0, r.0, r.1));
    claims = claims_kept words words views id (worker v) (worker w) at claims refl s.claims;
    seats = seats_kept views id (worker v) (worker w) s.rule.0.desk.out at (λ m. ap (λ n. one_if (eqb n m)) number) s.seats;
  }

  pub starts : (v : Worker) (p : ℕ) → HasView views id (worker v) → WorkerOwes P words views (slice_set words (pass_word v.number) p) v (started v p)
      → After (slice_set words (pass_word v.number) p) (slice_set views id (worker (started v p)))
  starts v p at owes = passes v (started v p) p at refl refl refl owes

  pub stops : (v : Worker) (p : ℕ) → HasView views id (worker v) → WorkerOwes P words views (slice_set words (pass_word v.number) p) v (stopped v p)
      → After (slice_set words (pass_word v.number) p) (slice_set views id (worker (stopped v p)))
  stops v p at owes = passes v (stopped v p) p at refl refl refl owes

  pub learns : (v : Worker) (found : ℕ) → HasView views id (worker v) → WorkerOwes P words views words v (learned v found)
      → After words (slice_set views id (worker (learned v found)))
  learns v found at owes = loads v (learned v found) at refl refl refl owes

  pub hops : (v : Worker) (k found : ℕ) → HasView views id (worker v) → WorkerOwes P words views words v (hopped v k found)
      → After words (slice_set views id (worker (hopped v k found)))
  hops v k found at owes = loads v (hopped v k found) at refl refl refl owes

  pub draws : (v : Worker) → HasView views id (worker v)
      → WorkerOwes P words views (slice_set words claim_word (slice_index words claim_word + 1)) v (claimed v (slice_index words claim_word))
      → After (slice_set words claim_word (slice_index words claim_word + 1)) (slice_set views id (worker (claimed v (slice_index words claim_word))))
  draws v at owes =
      let n : ℕ = slice_index words claim_word + 1 in
      let size = s.rule.2.size in
      let below = (s.rule.2.fits id (worker v) at).0.below in
      record {
        rule = (
            let r = worker_acts P words views (slice_set words claim_word n) id v (claimed v (slice_index words claim_word)) s.rule at (length-set words claim_word n)
            (λ j lt ne. get_or-set_other words claim_word (pass_word j) n 0 (omega arith)) refl (λ was lt. get_or-set_other words claim_word (pass_word v.number) n 0 (omega arith) ∙ was) owes in
            (s.rule.0, r.0, r.1));
        claims = claims_drawn words views id v (omega arith) at s.claims;
        seats = seats_kept views id (worker v) (worker (claimed v (slice_index words claim_word))) s.rule.0.desk.out at (λ m. refl) s.seats;
      }

  pub tells : (other : ℕ) (v : Worker) (n : Version) → HasView views id (worker v) → (other ≡ id → ⊥) → HasView (slice_set views id (worker (told v n))) other (note n)
      → ((c : Control) → P.of_worker words c v → P.of_note words c n → P.of_worker words c (told v n))
      → After words (slice_set (slice_set views id (worker (told v n))) other spent)
  tells other v n at apart there owes = record {
    rule = (let r = note_joins P words views id other v (told v n) n s.rule at apart there refl refl owes in (s.rule.0, r.0, r.1));
    claims = claims_joined words views id other (worker v) (worker (told v n)) (note n) at there (sym (append-nil v.claims)) s.claims;
    seats = seats_joined views id other (worker v) (worker (told v n)) (note n) s.rule.0.desk.out s.rule.0.desk.out at there (λ m. refl) s.seats (λ m. plus_none (one_if (slice_index_or s.rule.0.desk.out m false)));
  }

  -- the control plane's events

  -- it changes no pass word and no claim, and nobody comes or goes
  acts : (c d : Control) (words' : List ℕ) → HasView views id (control c) → length words' ≡ length words → ((j : ℕ) → j < 8 → slice_index words' (pass_word j) ≡ slice_index words (pass_word j))
      → slice_index words' claim_word ≡ slice_index words claim_word → d.desk.out ≡ c.desk.out → d.desk.rests ≡ c.desk.rests → d.gathered ≡ c.gathered
      → ControlOwes P words views words' c d → After words' (slice_set views id (control d))
  acts c d words' at long same ninth outs rests gathered owes = record {
    rule = (let r = control_acts P words views words' id c d s.rule at long same outs rests owes in (d, r.0, r.1));
    claims = claims_kept words words' views id (control c) (control d) at gathered ninth s.claims;
    seats = seats_kept views id (control c) (control d) d.desk.out at (λ m. refl) (subst (IsSeats views) (sym outs) (seats_here c at));
  }

  pub puts : (c : Control) (k w : ℕ) → HasView views id (control c) → ControlOwes P words views (slice_set words (cell_word k) w) c (put c k w)
      → After (slice_set words (cell_word k) w) (slice_set views id (control (put c k w)))
  puts c k w at owes = acts c (put c k w) (slice_set words (cell_word k) w) at (length-set words (cell_word k) w)
      (λ j small. get_or-set_other words (cell_word k) (pass_word j) w 0 (omega arith)) (get_or-set_other words (cell_word k) claim_word w 0 (omega arith)) refl refl refl owes

  pub logs : (c : Control) (l : Log) → HasView views id (control c) → ControlOwes P words views (slice_set words version_word (packed l.version)) c (with_log c l)
      → After (slice_set words version_word (packed l.version)) (slice_set views id (control (with_log c l)))
  logs c l at owes =
      let w : ℕ = packed l.version in
      acts c (with_log c l) (slice_set words version_word w) at (length-set words version_word w)
      (λ j small. get_or-set_other words version_word (pass_word j) w 0 (omega arith)) (get_or-set_other words version_word claim_word w 0 (omega arith)) refl refl refl owes

  pub looks : (c : Control) (n found : ℕ) → HasView views id (control c) → ControlOwes P words views words c (looked c n found)
      → After words (slice_set views id (control (looked c n found)))
  looks c n found at owes = acts c (looked c n found) words at refl (λ j small. refl) refl refl refl refl owes

  pub picks : (c : Control) (n : ℕ) → HasView views id (control c) → ControlOwes P words views words c (picking c n)
      → After words (slice_set views id (control (picking c n)))
  picks c n at owes = acts c (picking c n) words at refl (λ j small. refl) refl refl refl refl owes

  pub sends : (c : Control) → c.desk.picked < 8 → slice_index_or c.desk.out c.desk.picked false ≡ false → HasView views id (control c) → SendOwes P words views c
      → After words (slice_set views id (control (sent c)) ++ worker (new_worker c) ∷ [])
  sends c small home at owes =
      let eight = (own P words views id c s.rule at).1.1.desk.outs in
      record {
        rule = (let r = worker_splits P words views id c s.rule at small home owes in (sent c, r.0, r.1));
        claims = claims_split words views id (control c) (control (sent c)) (worker (new_worker c)) at refl refl s.claims;
        seats = seats_split views id (control c) (control (sent c)) (worker (new_worker c)) c.desk.out (slice_set c.desk.out c.desk.picked true) at (λ m. refl) (seats_here c at) (out_more c.desk.out c.desk.picked (omega arith) home);
      }

  pub notes : (c : Control) (n : Version) → HasView views id (control c) → (P.of_control words c → P.of_note words c n) → After words (slice_set views id (control c) ++ note n ∷ [])
  notes c n at owes = record {
    rule = (let r = note_splits P words views id c n s.rule at owes in (c, r.0, r.1));
    claims = claims_split words views id (control c) (control c) (note n) at refl refl s.claims;
    seats = seats_split views id (control c) (control c) (note n) c.desk.out c.desk.out at (λ m. refl) (seats_here c at) (λ m. plus_none (one_if (slice_index_or c.desk.out m false)));
  }

  pub homes : (other : ℕ) (c : Control) (v : Worker) → HasView views id (control c) → (other ≡ id → ⊥) → HasView (slice_set views id (control (taken_home c v))) other (worker v)
      → HomeOwes P words views c v → After words (slice_set (slice_set views id (control (taken_home c v))) other spent)
  homes other c v at apart there owes =
      let k = own P words views id c s.rule at in
      let before : HasView views other (worker v) = ⊎_elim
      (λ (x : (other ≡ id) × (control (taken_home c v) ≡ worker v)). absurd (apart x.0))
      (λ (x : (other ≢ id) × HasView views other (worker v)). x.1)
      (at_set views id other (control (taken_home c v)) (worker v) there) in
      let sat = (k.1.1.fits other (worker v) before).0 in
      let below = sat.below in
      let away = sat.away in
      let eight = k.1.1.desk.outs in
      record {
        rule = (let r = worker_joins P words views id other c v s.rule at apart there owes in (taken_home c v, r.0, r.1));
        claims = claims_joined words views id other (control c) (control (taken_home c v)) (worker v) at there refl s.claims;
        seats = seats_joined views id other (control c) (control (taken_home c v)) (worker v) c.desk.out (slice_set c.desk.out v.number false) at there (λ m. refl) (seats_here c at) (out_less c.desk.out v.number (omega arith) away);
      }

  -- a sum over the views is the control plane's, where no worker is out
  total_alone : (c : Control) → HasView views id (control c) → ((n : ℕ) → slice_index_or c.desk.out n false ≡ false) → (f : View → ℕ) → f spent ≡ 0 → ((n : Version) → f (note n) ≡ 0) → total f views ≡ f (control c)
  total_alone c at home f fs fn =
      let k = own P words views id c s.rule at in
      let none : total f (slice_set views id spent) ≡ 0 = total_none f (slice_set views id spent) (λ j u e. ⊎_elim
      (λ (x : (j ≡ id) × (spent ≡ u)). ap f (sym x.1) ∙ fs)
      (λ (x : (j ≢ id) × HasView views j u). other k.0 k.1.0 k.1.1 j u x.0 x.1)
      (at_set views id j spent u e)) in
      let t = total_set f views id (control c) spent at in
      left (total f (slice_set views id spent)) (f (control c)) (total f views) (f spent) t none fs
    where
      left : (a b c d : ℕ) → a + b ≡ c + d → a ≡ 0 → d ≡ 0 → c ≡ b
      left a b c d x y z = omega arith

      other : id ≡ 0 → (seat_of : ℕ → ℕ) → IsFramed P words views c seat_of → (j : ℕ) (u : View) → j ≢ id → HasView views j u → f u ≡ 0
      other z seat_of k j (control d) ne e = absurd (ne ((k.fits j (control d) e).0 ∙ sym z))
      other z seat_of k j (worker v) ne e = absurd (true≢false (sym (k.fits j (worker v) e).0.away ∙ home v.number))
      other z seat_of k j (note n) ne e = fn n
      other z seat_of k j spent ne e = fs

  -- then the gathered claims are the numbers below the claim word, each once
  pub gathered_all : (c : Control) → HasView views id (control c) → ((n : ℕ) → slice_index_or c.desk.out n false ≡ false)
      → (slice_index words claim_word ≡ length c.gathered) × ((n : ℕ) → times n c.gathered ≡ (if nat_lt n (length c.gathered) then 1 else 0))
  gathered_all c at home =
      let all : slice_index words claim_word ≡ length c.gathered = s.claims.all ∙ total_alone c at home count_in refl (λ n. refl) in
      (all, λ n. sym (total_alone c at home (times_in n) refl (λ m. refl)) ∙ s.claims.each n ∙ ap (λ m. if nat_lt n m then 1 else 0) all)

  -- the claim word never wraps, where the parts are lawful
  pub claim_room : (objects : ℕ) → ((c : Control) → P.of_control words c → OfControl objects words c) → ((c : Control) (w : Worker) → P.of_worker words c w → OfWorker objects words c w) → slice_index words claim_word + 1 < 2 ^ 64
  claim_room objects here_too worker_too =
      let c : Control = s.rule.0 in
      let most = few_claims views c c.desk.out (λ j d e. s.rule.2.fits j (control d) e) s.rule.2.desk.outs s.seats (λ j w e. (let f = s.rule.2.fits j (worker w) e in (f.0.below, (worker_too c w f.1).few_claims))) in
      let all = s.claims.all in
      let spare = (here_too c s.rule.2.here).spare in
      small (slice_index words claim_word) (total count_in views) (length c.gathered) (outs c.desk.out) all most spare
    where
      small : (w t a b : ℕ) → w ≡ t → t ≤ a + b * 4294967296 → a + b * 4294967296 < 1152921504606846976 + 34359738368 → w + 1 < 18446744073709551616
      small w t a b x y z = omega arith
