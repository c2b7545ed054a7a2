-- A round that was run.
use Rattle.std.proofs.Common.{◌≡◌, ◌≤◌, ◌+◌, ◌-◌, ◌*◌, ◌++◌, ◌∷◌, [], ℕ, List, Bool, true, false, length, drop, take, arith, refl, ap, ap₂, ◌∙◌, sym, subst, Option, Some, None}
use Rattle.std.proofs.Math.Decide.{ℕ_discrete}
use Rattle.std.proofs.Math.Logic.{dite}
use Rattle.std.proofs.lemmas.Bool.Decides.{nat_tests}
use Rattle.std.specs.Prelude.{IfSome, min, ◌==◌, slice_get, slice_index, slice_index_or}
use Rattle.std.proofs.lemmas.List.{append_assoc, drop_all, length-append}
use Rattle.fib_config.specs.Config.{Setup}
use Rattle.fib_core_lawful.specs.State.{left_of}
use Rattle.fib_core_board.specs.Boards.{Board}
use Rattle.fib_control.specs.Controls.{Control}
use Rattle.fib_resolve.specs.declared.types.Tables.{Tables}
use Rattle.fib_core_results.specs.declared.record.Record.{Record}
use Rattle.fib_capture.specs.Captures.{Capture}
use Rattle.fib_capture.specs.declared.packet.Packet.{Packet}
use Rattle.fib_rounds_turns.specs.Routers.{KeepsCrew, Progress, applied_in, history_in}
use Rattle.fib_rounds_turns.specs.Changes.{Stays}
use Rattle.fib_worker_crew.specs.Frames.{frames, frame}
use Rattle.fib_worker_crew.specs.Results.{Kept, numbered, results_of}
use Rattle.fib_worker_crew.specs.Packets.{IsOf, Matched, span}
use Rattle.fib_worker_crew.proofs.Spans.{frame_is, length_span, span_none}
use Rattle.fib_worker_crew.proofs.Matching.{matched_weaker}
use Rattle.fib_rounds_homing.specs.Homes.{claims_of}
use Rattle.fib_rounds_homing.specs.Places.{AreFilled, IsFilled, IsRightOf, joined, parts_of}
use Rattle.fib_rounds.specs.declared.lines.Stop.{Stop}
use Rattle.fib_rounds.specs.declared.opening.Opening.{Opening}
use Rattle.fib_rounds.specs.declared.summary.Summary.{Summary}
use Rattle.fib_rounds.specs.Stages.{IsHistory, Stage}
use Rattle.fib_rounds.specs.Packets.{answers, packets_text, IsAnswer}
use Rattle.fib_rounds.specs.Summaries.{counted, with_results, with_round}
use Rattle.fib_rounds.specs.Writes.{AreLaid, IsLaid}
use Rattle.fib_rounds.specs.Rounds.{StopsAt, GoesOn, is_still_quiet, stage_of, round_at, PrintsFrom, counts_from, closed_text, closed_by, lines_run, next_opening, HasRun}
use Rattle.fib_rounds.specs.inner.Forwarded.{HasForwardedRound, IsAtRest}
use Rattle.fib_rounds.proofs.Closing.{closed_stage, closes_prints, closes_rounds, closes_history, counts_close, still_is}
use Rattle.fib_rounds.proofs.Quiet.{all_settled}
use Rattle.fib_rounds.proofs.Turning.{end_counts, end_keeps}
use Rattle.fib_rounds_turns.specs.Turns.{end_turn}

-- a right result is an answer
pub answer_of : (k : ℕ) (H : List Tables) (a h : ℕ) (r : Record) → IsRightOf k H a h r → IsAnswer k H a h r
answer_of k H a h r m = record { addr = m.asked.of.addr; hash = m.asked.of.hash; later = m.asked.later; right = m.right.right; steady = m.right.steady }

-- the results of all places are the answers to the round's flows
pub all_answered : (k : ℕ) (H : List Tables) (ps : List Packet) (places : List (Option Kept)) → Matched (IsRightOf k H) ps (joined (parts_of places)) → Matched (IsAnswer k H) ps (joined (parts_of places))
all_answered k H ps places m = matched_weaker (IsRightOf k H) (IsAnswer k H) (answer_of k H) ps (joined (parts_of places)) m

pub has_run : (script : List (List ℕ)) (packets : Capture) (o : Opening) (before mid after : Stage) (mid_text out : List ℕ) (place : ℕ) (asked : Option ℕ) (next : Option Opening) (mine : List Record)
    → o.first ≤ o.to → o.to ≤ length packets.packets → GoesOn script o.place before [] place mid mid_text → StopsAt (drop place script) mid.router asked
    → Matched (IsAnswer before.router.changes mid.history) (span packets.packets o.first o.to) mine
    → after ≡ closed_stage mid asked → next ≡ next_opening packets.packets place o.to asked
    → out ≡ (mid_text ++ closed_text mid.router asked) ++ packets_text mid.router.config.tables o.first (span packets.packets o.first o.to) mine
    → HasRun script packets before o after next mine out
has_run script packets o before mid after mid_text out place asked next mine le lt on stops answered is_after is_next is_out =
    let here = round_at packets.packets before.router.changes o in
    let text = packets_text mid.router.config.tables o.first here.taken mine in
    let closing = closed_text mid.router asked in
    let said : on.said ≡ mid_text = sym on.text in
    let whole : HasRun script packets before o (closed_stage mid asked) (next_opening packets.packets place o.to asked) mine out = record {
      prints = λ later rest p.
          let tail = closes_prints packets script o before.router.changes place mid asked mine later rest le lt stops answered p in
          let all = on.prints packets here (mine ++ later) (closing ++ (text ++ rest)) tail in
          let parts : on.said ++ (closing ++ (text ++ rest)) ≡ out ++ rest =
          ap (λ t. t ++ (closing ++ (text ++ rest))) said ∙ (sym (append_assoc mid_text closing (text ++ rest)) ∙ (sym (append_assoc (mid_text ++ closing) text rest) ∙ ap (λ t. t ++ rest) (sym is_out))) in
          subst (PrintsFrom packets script before (Some o) (mine ++ later)) parts all;
      rounds = sym (on.rounds packets here) ∙ closes_rounds packets script o before.router.changes place mid asked le lt stops;
      history = closes_history script packets o.to place mid asked stops ∙ ap (λ (s : Stage). s.history) on.last;
    } in
    subst (λ (s : Stage). HasRun script packets before o s next mine out) (sym is_after) (subst (λ (x : Option Opening). HasRun script packets before o (closed_stage mid asked) x mine out) (sym is_next) whole)

if_same : (quiet : Bool) (c : Summary) (n : ℕ) (xs ys : List Record) → (quiet ≡ true → xs ≡ ys) → with_results c quiet n xs ≡ with_results c quiet n ys
if_same true c n xs ys e = ap (with_results c true n) (e refl)
if_same false c n xs ys e = refl

eq_of_test : (a b : ℕ) → (a == b) ≡ true → a ≡ b
eq_of_test a b e = grind (arith, nat_tests, e)

pub has_counted : (packets : Capture) (script : List (List ℕ)) (o : Opening) (before mid after : Stage) (old mid_text : List ℕ) (place : ℕ) (quiet : Bool) (asked : Option ℕ) (next : Option Opening) (c d : Summary) (mine : List Record)
    → o.first ≤ o.to → o.to ≤ length packets.packets → IsHistory before → GoesOn script o.place before old place mid mid_text → StopsAt (drop place script) mid.router asked
    → Matched (IsAnswer before.router.changes mid.history) (span packets.packets o.first o.to) mine
    → after ≡ closed_stage mid asked → next ≡ next_opening packets.packets place o.to asked → quiet ≡ (place == o.place) → d ≡ with_results c quiet (o.to - o.first) mine
    → counts_from packets script after next d ≡ counts_from packets script before (Some o) c
has_counted packets script o before mid after old mid_text place quiet asked next c d mine le lt history on stops answered is_after is_next is_quiet is_d =
    let k : ℕ = before.router.changes in
    let S = before.router.config.tables in
    let here = round_at packets.packets k o in
    let still : is_still_quiet true o.place place ≡ quiet = still_is o.place place ∙ sym is_quiet in
    let frozen : quiet ≡ true → mine ≡ answers k S here.taken = λ yes.
    let same : mid ≡ before = on.quiet (eq_of_test place o.place (sym is_quiet ∙ yes)) in
    all_settled before.history k S here.taken mine history.newest history.count (subst (λ (s : Stage). Matched (IsAnswer k s.history) here.taken mine) same answered) in
    let n : o.to - o.first ≡ length here.taken = sym (length_span packets.packets o.first o.to le lt) in
    let is : d ≡ with_round c quiet here S = is_d ∙ (if_same quiet c (o.to - o.first) mine (answers k S here.taken) frozen ∙ ap (λ m. with_results c quiet m (answers k S here.taken)) n) in
    ap₂ (λ (s : Stage) (x : Option Opening). counts_from packets script s x d) is_after is_next
    ∙ (ap (counts_from packets script (closed_stage mid asked) (next_opening packets.packets place o.to asked)) is
    ∙ (counts_close packets script o k S place mid quiet c asked le lt stops
    ∙ (ap (λ q. counted packets (place + 1) q here S mid.router (drop place script) c) (sym still) ∙ on.counts packets here S true c)))

-- ---- frames from place to place

-- past the last frame there is none
frame_past : (ps : List Packet) (f : ℕ) → length ps ≤ 256 * f → frame ps f ≡ []
frame_past ps f le = ap (take 256) (drop_all (256 * f) ps le)

frame_at : (ps : List Packet) (first to f at : ℕ) → first ≤ to → to ≤ length ps → at ≡ min (first + 256 * f) to → frame (span ps first to) f ≡ span ps at (at + min (to - at) 256)
frame_at ps first to f at le lt is = dite (ℕ_discrete (first + 256 * f - to) 0)
    (λ e.
    let here : at ≡ first + 256 * f = omega (arith, is, e) in
    frame_is ps first to f (min (to - (first + 256 * f)) 256) (omega (arith, e)) refl ∙ ap (λ n. span ps n (n + min (to - n) 256)) (sym here))
    (λ ne.
    let here : at ≡ to = omega (arith, is, ne) in
    let none : at + min (to - at) 256 ≡ at = omega (arith, here) in
    frame_past (span ps first to) f (omega (arith, ne, le, lt, length_span ps first to le lt)) ∙ (sym (span_none ps at) ∙ ap (λ n. span ps at n) (sym none)))

-- numbered from the frame's own place, or there is nothing to number
numbers_at : (ps : List Packet) (first to f at : ℕ) (rs : List Record) → at ≡ min (first + 256 * f) to
    → numbered (first + 256 * f) (span ps at (at + min (to - at) 256)) rs ≡ numbered at (span ps at (at + min (to - at) 256)) rs
numbers_at ps first to f at rs is = dite (ℕ_discrete (first + 256 * f - to) 0)
    (λ e. let here : first + 256 * f ≡ at = omega (arith, is, e) in ap (λ n. numbered n (span ps at (at + min (to - at) 256)) rs) here)
    (λ ne.
    let none : at + min (to - at) 256 ≡ at = omega (arith, is, ne) in
    let empty : span ps at (at + min (to - at) 256) ≡ [] = ap (λ n. span ps at n) none ∙ span_none ps at in
    ap (λ qs. numbered (first + 256 * f) qs rs) empty ∙ ap (λ qs. numbered at qs rs) (sym empty))

-- a frame's results are those of the packets from its place up to the next one's
laid_one : (k : ℕ) (H : List Tables) (ps : List Packet) (first to f at : ℕ) (kept : Kept) → first ≤ to → to ≤ length ps → at ≡ min (first + 256 * f) to → IsFilled k first H (span ps first to) f kept → IsLaid ps at (at + min (to - at) 256) kept
laid_one k H ps first to f at kept le lt is filled =
    let same = frame_at ps first to f at le lt is in
    record {
      of = subst (λ qs. Matched IsOf qs (results_of kept.list)) same (matched_weaker (IsRightOf k H) IsOf (λ a h r m. m.asked.of) (frame (span ps first to) f) (results_of kept.list) filled.answered);
      list = filled.list ∙ (ap (λ qs. numbered (first + 256 * f) qs (results_of kept.list)) same ∙ numbers_at ps first to f at (results_of kept.list) is);
    }

pub laid_of : (k : ℕ) (H : List Tables) (ps : List Packet) (first to f at : ℕ) (places : List (Option Kept)) → first ≤ to → to ≤ length ps → at ≡ min (first + 256 * f) to → AreFilled k first H (span ps first to) f places → AreLaid ps at to places
laid_of k H ps first to f at [] le lt is filled =
    let none = ap length (sym (frame_at ps first to f at le lt is) ∙ filled) in
    let size : length (span ps at (at + min (to - at) 256)) ≡ min (to - at) 256 = omega (arith, length_span ps at (at + min (to - at) 256) (omega arith) (omega (arith, is, lt))) in
    omega (arith, none, size, is)
laid_of k H ps first to f at (None ∷ places) le lt is filled = absurd filled
laid_of k H ps first to f at (Some kept ∷ places) le lt is filled = (
  laid_one k H ps first to f at kept le lt is filled.0,
  laid_of k H ps first to (f + 1) (at + min (to - at) 256) places le lt (omega (arith, is)) filled.1,
)

pub laid_start : (k : ℕ) (H : List Tables) (ps : List Packet) (first to : ℕ) (places : List (Option Kept)) → first ≤ to → to ≤ length ps → AreFilled k first H (span ps first to) 0 places → AreLaid ps first to places
laid_start k H ps first to places le lt filled = laid_of k H ps first to 0 first places le lt (omega (arith, le)) filled

-- ---- the calls of a round in turn

abbrev stage_by : Setup → ℕ → List Tables → Progress → Stage
stage_by S n H p = record { router = record { config = S; changes = n; refused = p.refused; batch = p.batch }; history = H }

pub stage_stays : (c d : Control) (p : Progress) → Stays c d → stage_of d p ≡ stage_of c p
stage_stays c d p s =
    ap (λ (S : Setup). stage_by S (applied_in d) (history_in d) p) s.setup
    ∙ (ap (λ (n : ℕ). stage_by c.setup n (history_in d) p) s.applied ∙ ap (λ (H : List Tables). stage_by c.setup (applied_in c) H p) s.history)

-- the stage at the close, by the round that is next
pub closed_next : (at : Stage) (ps : List Packet) (place to : ℕ) (asked : Option ℕ) (next : Option Opening) → next ≡ next_opening ps place to asked → closed_by at next ≡ closed_stage at asked
closed_next at ps place to asked next is = ap (closed_by at) is ∙ by_asked_next asked
  where
    by_asked_next : (asked : Option ℕ) → closed_by at (next_opening ps place to asked) ≡ closed_stage at asked
    by_asked_next None = refl
    by_asked_next (Some k) = refl

pub closed_is : (c d : Control) (p : Progress) (ps : List Packet) (place to : ℕ) (asked : Option ℕ) (next : Option Opening) → Stays c d → next ≡ next_opening ps place to asked
    → closed_by (stage_of d p) next ≡ closed_stage (stage_of c p) asked
closed_is c d p ps place to asked next s is = ap (λ (x : Stage). closed_by x next) (stage_stays c d p s) ∙ closed_next (stage_of c p) ps place to asked next is

-- the script's end changes no table
pub closed_history : (at : Stage) (next : Option Opening) → IsHistory at → IsHistory (closed_by at next)
closed_history at (Some o) h = h
closed_history at None h = record { count = h.count ∙ ap (λ n. n + 1) (sym (end_counts at.router)); newest = ended h.newest }
  where
    ended : slice_get at.history at.router.changes ≡ Some at.router.config.tables → slice_get at.history (end_turn at.router).0.changes ≡ Some (end_turn at.router).0.config.tables
    ended e = ap (slice_get at.history) (end_counts at.router) ∙ (e ∙ ap (λ (T : Tables). Some T) (sym (end_keeps at.router)))

claims_few : (n : ℕ) (ps : List Packet) → claims_of n ps ≤ frames ps + n
claims_few n [] = omega arith
claims_few n (p ∷ ps) = omega arith

-- A are the control plane at the opening, B with its workers home, C once it is settled
pub next_rests : (script : List (List ℕ)) (ps : List Packet) (o : Opening) (workers : ℕ) (A B C : Control) (early late : Progress) (old new : List ℕ) (stop : Stop) (places : List (Option Kept)) (next : Option Opening)
    → IsAtRest workers o.place A → workers ≤ 8 → HasForwardedRound script ps o A early old stop B late new places → KeepsCrew B C → C.plane.board.log.version.settled ≡ applied_in C → next ≡ next_opening ps stop.place o.to stop.asked
    → IfSome next (λ n. IsAtRest workers n.place C)
next_rests script ps o workers A B C early late old new stop places next rests most f keeps settled is = subst (λ x. IfSome x (λ n. IsAtRest workers n.place C)) (sym is) (by_asked_stop stop.asked)
  where
    by_asked_stop : (asked : Option ℕ) → IfSome (next_opening ps stop.place o.to asked) (λ n. IsAtRest workers n.place C)
    by_asked_stop None = tt
    by_asked_stop (Some k) = record {
      all = ap (λ (b : Board). b.workers) keeps ∙ (f.workers ∙ rests.all);
      none = λ n. ap (λ (b : Board). slice_index_or b.out n false) keeps ∙ f.none n;
      few = omega (arith, ap (λ (b : Board). length b.gathered) keeps, ap length f.home.brought, length-append A.plane.board.gathered f.home.claims, f.home.gathered.count, claims_few A.plane.board.workers (span ps o.first o.to), f.fewer, rests.all, most, rests.few, f.later);
      passes = λ n lt. omega (arith, ap (λ (b : Board). left_of (slice_index b.rests n)) keeps, f.passes n, rests.passes n lt, f.later);
      settled = settled;
    }

-- how many lines were run, and how many changes made, before the next round
pub next_lines : (ps : List Packet) (place to n : ℕ) (asked : Option ℕ) (next : Option Opening) → n ≡ lines_run place asked → next ≡ next_opening ps place to asked → IfSome next (λ o. n ≡ o.place)
next_lines ps place to n asked next lines is = subst (λ x. IfSome x (λ (o : Opening). n ≡ o.place)) (sym is) (by_asked_lines asked lines)
  where
    by_asked_lines : (asked : Option ℕ) → n ≡ lines_run place asked → IfSome (next_opening ps place to asked) (λ o. n ≡ o.place)
    by_asked_lines None e = tt
    by_asked_lines (Some k) e = e

-- the packets of the next round follow on those of this one
pub next_first : (ps : List Packet) (place to : ℕ) (asked : Option ℕ) (next : Option Opening) → next ≡ next_opening ps place to asked → IfSome next (λ o. o.first ≡ to)
next_first ps place to asked next is = subst (λ x. IfSome x (λ (o : Opening). o.first ≡ to)) (sym is) (by_asked_first asked)
  where
    by_asked_first : (asked : Option ℕ) → IfSome (next_opening ps place to asked) (λ o. o.first ≡ to)
    by_asked_first None = tt
    by_asked_first (Some k) = refl

pub next_few : (ps : List Packet) (place to n : ℕ) (asked : Option ℕ) (next : Option Opening) → n ≤ place → next ≡ next_opening ps place to asked → IfSome next (λ o. n ≤ o.place)
next_few ps place to n asked next le is = subst (λ x. IfSome x (λ (o : Opening). n ≤ o.place)) (sym is) (by_asked_few asked)
  where
    by_asked_few : (asked : Option ℕ) → IfSome (next_opening ps place to asked) (λ o. n ≤ o.place)
    by_asked_few None = tt
    by_asked_few (Some k) = omega (arith, le)
