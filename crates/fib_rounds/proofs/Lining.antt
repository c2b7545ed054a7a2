-- The lines of a round, one more at a time.
use Rattle.std.proofs.Common.{◌≡◌, ◌<◌, ◌≤◌, ◌+◌, ◌++◌, ◌∷◌, [], ℕ, List, Bool, true, false, length, drop, arith, refl, ap, ap₂, ◌∙◌, sym, subst, Option, Some, None}
use Rattle.std.specs.Prelude.{is_some, slice_get, ◌==◌, if◌then◌else◌}
use Rattle.std.proofs.lemmas.List.{append_assoc, append-nil, drop_all}
use Rattle.std.proofs.lemmas.Bool.Decides.{nat_tests}
use Rattle.fib_resolve.specs.declared.types.Tables.{Tables}
use Rattle.fib_core_results.specs.declared.record.Record.{Record}
use Rattle.fib_capture.specs.Captures.{Capture}
use Rattle.fib_control.specs.Controls.{Control, tables_in}
use Rattle.fib_rounds_turns.specs.Routers.{HasGrown, Progress, Router, applied_in, history_in, router_of}
use Rattle.fib_rounds_turns.specs.Turns.{turn_of, asks}
use Rattle.fib_rounds.specs.declared.summary.Summary.{Summary}
use Rattle.fib_rounds.specs.Stages.{IsHistory, Stage, Round, opened_by, after_line, grown}
use Rattle.fib_rounds.specs.Frozen.{by_asked}
use Rattle.fib_rounds.specs.Output.{Prints, ByAsked, Closes}
use Rattle.fib_rounds.specs.Summaries.{counted, with_round}
use Rattle.fib_rounds.specs.Runs.{stage_after, rounds_from}
use Rattle.fib_rounds.specs.Rounds.{StopsAt, GoesOn, is_still_quiet, lines_run, stage_of}
use Rattle.fib_rounds.proofs.Turning.{Steps, asked_stays, turn_steps}
use Rattle.fib_rounds.proofs.Histories.{grown_is}
use Rattle.fib_worker_crew.proofs.Spans.{drop_at}

-- ---- the stage after a line

abbrev stage_with : Router → List Tables → Stage
stage_with r H = record { router = r; history = H }

by_same : (H more : List Tables) (a b : ℕ) → a ≡ b → (if a == b then H else more) ≡ H
by_same H more a b e = grind (arith, nat_tests)

pub stage_line : (n : ℕ) (c d : Control) (p q : Progress) (line : List ℕ) → HasGrown c d → router_of d q ≡ (turn_of n (router_of c p) line).0
    → stage_of d q ≡ after_line n (stage_of c p) line
stage_line n c d p q line more is =
    ap (stage_with (router_of d q)) more ∙ ap (λ (r : Router). stage_with r (grown (history_in c) (router_of c p) r)) is

-- the history ends with the tables after a line too
pub history_line : (n : ℕ) (c d : Control) (p q : Progress) (line : List ℕ) → HasGrown c d → router_of d q ≡ (turn_of n (router_of c p) line).0
    → IsHistory (stage_of c p) → IsHistory (stage_of d q)
history_line n c d p q line more is h =
    subst IsHistory (sym (stage_line n c d p q line more is)) (grown_is (stage_of c p) (turn_of n (router_of c p) line).0 (turn_steps n (router_of c p) line) h)

-- and after any call that makes a change or none
pub history_by : (c d : Control) (p q : Progress) (s : Router) → HasGrown c d → router_of d q ≡ s → Steps (router_of c p) s → IsHistory (stage_of c p) → IsHistory (stage_of d q)
history_by c d p q s more is steps h =
    subst IsHistory (sym (ap (stage_with (router_of d q)) more ∙ ap (λ (r : Router). stage_with r (grown (history_in c) (router_of c p) r)) is)) (grown_is (stage_of c p) s steps h)

-- ---- going on

quiet_same : (quiet : Bool) (a : ℕ) → is_still_quiet quiet a a ≡ quiet
quiet_same quiet a = grind (arith, nat_tests)

quiet_later : (quiet : Bool) (a b : ℕ) → a < b → is_still_quiet quiet a b ≡ false
quiet_later quiet a b lt = grind (arith, nat_tests, lt)

pub on_none : (script : List (List ℕ)) (from : ℕ) (at : Stage) (text : List ℕ) → GoesOn script from at text from at text
on_none script from at text = record {
  said = [];
  text = sym (append-nil text);
  prints = λ packets o results rest p. p;
  rounds = λ packets o. refl;
  last = refl;
  counts = λ packets o S quiet c. ap (λ q. counted packets (from + 1) q o S at.router (drop from script) c) (quiet_same quiet from);
  quiet = λ e. refl;
}

asked_none : (packets : Capture) (n : ℕ) (o : Round) (at : Stage) (line : List ℕ) (lines : List (List ℕ)) (results : List Record) (rest : List ℕ) (a : Option ℕ) → a ≡ None
    → Prints packets (n + 1) o (after_line n at line) lines results rest
    → ByAsked a
    ((r : List ℕ) × Prints packets (n + 1) o (after_line n at line) lines results r × ((turn_of n at.router line).1 ++ rest ≡ (turn_of n at.router line).1 ++ r))
    (λ k. (mine later : List Record) × (text r : List ℕ) × Closes o at mine text × Prints packets (n + 1) (opened_by k packets.packets o at.router.changes) at lines later r
    × (results ≡ mine ++ later) × ((turn_of n at.router line).1 ++ rest ≡ text ++ r))
asked_none packets n o at line lines results rest None e p = (rest, p, refl)
asked_none packets n o at line lines results rest (Some k) e p = absurd (some_none e)
  where
    some_none : Some k ≡ None → ⊥
    some_none e = cc

rounds_none : (packets : Capture) (n : ℕ) (o : Round) (at : Stage) (line : List ℕ) (lines : List (List ℕ)) → asks at.router line ≡ None → rounds_from packets n o at (line ∷ lines) ≡ rounds_from packets (n + 1) o (after_line n at line) lines
rounds_none packets n o at line lines none = ap (λ (a : Option ℕ). by_asked a
    (rounds_from packets (n + 1) o (after_line n at line) lines)
    (λ k. o ∷ rounds_from packets (n + 1) (opened_by k packets.packets o at.router.changes) at lines)) none

counted_next : (packets : Capture) (n : ℕ) (quiet : Bool) (o : Round) (S : Tables) (r : Router) (line : List ℕ) (lines : List (List ℕ)) (c : Summary) → asks r line ≡ None
    → counted packets n quiet o S r (line ∷ lines) c ≡ counted packets (n + 1) false o S (turn_of n r line).0 lines c
unfolding counted
counted_next packets n quiet o S r line lines c none = ap (λ (a : Option ℕ). by_asked a
    (counted packets (n + 1) false o S (turn_of n r line).0 lines c)
    (λ k. counted packets (n + 1) true (opened_by k packets.packets o r.changes) r.config.tables r lines (with_round c quiet o S))) none

-- after one more line, which asks for no packets
pub on_more : (script : List (List ℕ)) (from : ℕ) (before : Stage) (old : List ℕ) (place : ℕ) (mid : Stage) (text : List ℕ) (after : Stage) (new line : List ℕ)
    → GoesOn script from before old place mid text → from ≤ place → slice_get script place ≡ Some line → asks mid.router line ≡ None
    → after ≡ after_line (place + 1) mid line → new ≡ text ++ (turn_of (place + 1) mid.router line).1 → GoesOn script from before old (place + 1) after new
on_more script from before old place mid text after new line h le at none is_after is_new =
    let rest = drop (place + 1) script in
    let next = after_line (place + 1) mid line in
    let says = (turn_of (place + 1) mid.router line).1 in
    let lines : drop place script ≡ line ∷ rest = drop_at script place line at in
    let whole : GoesOn script from before old (place + 1) next new = record {
      said = h.said ++ says;
      text = is_new ∙ (ap (λ t. t ++ says) h.text ∙ append_assoc old h.said says);
      prints = λ packets o results more p.
          let one : Prints packets (place + 1) o mid (line ∷ rest) results (says ++ more) = asked_none packets (place + 1) o mid line rest results more (asks mid.router line) none p in
          subst (Prints packets (from + 1) o before (drop from script) results) (sym (append_assoc h.said says more))
          (h.prints packets o results (says ++ more) (subst (λ ls. Prints packets (place + 1) o mid ls results (says ++ more)) (sym lines) one));
      rounds = λ packets o. sym (rounds_none packets (place + 1) o mid line rest none) ∙ (ap (rounds_from packets (place + 1) o mid) (sym lines) ∙ h.rounds packets o);
      last = ap (stage_after (place + 1) mid) (sym lines) ∙ h.last;
      counts = λ packets o S quiet c.
          let q = is_still_quiet quiet from place in
          ap (λ b. counted packets (place + 1 + 1) b o S next.router rest c) (quiet_later quiet from (place + 1) (omega (arith, le)))
          ∙ (sym (counted_next packets (place + 1) q o S mid.router line rest c none) ∙ (ap (λ ls. counted packets (place + 1) q o S mid.router ls c) (sym lines) ∙ h.counts packets o S quiet c));
      quiet = λ e. absurd (omega (arith, e, le));
    } in
    subst (λ s. GoesOn script from before old (place + 1) s new) (sym is_after) whole

-- a line that asks for packets leaves all as it was
pub asked_is_same : (n : ℕ) (r s : Router) (line text out : List ℕ) (asked : Option ℕ) → asked ≡ asks r line → is_some asked ≡ true → s ≡ (turn_of n r line).0 → out ≡ text ++ (turn_of n r line).1
    → (s ≡ r) × (out ≡ text)
asked_is_same n r s line text out None is some is_s is_out = absurd (off some)
  where
    off : false ≡ true → ⊥
    off e = cc
asked_is_same n r s line text out (Some k) is some is_s is_out =
    let same = asked_stays n r line k (sym is) in
    (is_s ∙ ap (λ t. t.0) same, is_out ∙ (ap (λ t. text ++ t.1) same ∙ append-nil text))

-- and the history
pub asked_stage : (c d : Control) (p q : Progress) → router_of d q ≡ router_of c p → HasGrown c d → stage_of d q ≡ stage_of c p
asked_stage c d p q same more =
    ap₂ stage_with same (more ∙ by_same (history_in c) (history_in c ++ tables_in d ∷ []) (applied_in d) (applied_in c) (ap (λ (r : Router). r.changes) same))

pub stops_here : (script : List (List ℕ)) (place : ℕ) (r : Router) (line : List ℕ) (asked : Option ℕ) → slice_get script place ≡ Some line → asked ≡ asks r line → is_some asked ≡ true → StopsAt (drop place script) r asked
stops_here script place r line None at is some = absurd (off some)
  where
    off : false ≡ true → ⊥
    off e = cc
stops_here script place r line (Some k) at is some = (line, drop (place + 1) script, drop_at script place line at, sym is)

pub lines_asked : (n place : ℕ) (asked : Option ℕ) → is_some asked ≡ true → n ≡ place + 1 → n ≡ lines_run place asked
lines_asked n place None some is = absurd (off some)
  where
    off : false ≡ true → ⊥
    off e = cc
lines_asked n place (Some k) some is = is

pub asks_none : (asked o : Option ℕ) → asked ≡ o → is_some asked ≡ false → o ≡ None
asks_none None o is none = sym is
asks_none (Some k) o is none = absurd (off none)
  where
    off : true ≡ false → ⊥
    off e = cc

pub stops_at_end : (script : List (List ℕ)) (place : ℕ) (r : Router) → length script ≤ place → StopsAt (drop place script) r None
stops_at_end script place r le = drop_all place script le
