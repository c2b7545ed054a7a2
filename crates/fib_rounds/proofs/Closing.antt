-- A round from its parts.
use Rattle.std.proofs.Common.{◌≡◌, ◌<◌, ◌≤◌, ◌+◌, ◌-◌, ◌++◌, ◌∷◌, [], ℕ, List, Bool, true, false, length, take, drop, arith, refl, ap, ap₂, ◌∙◌, sym, subst, Option, Some, None}
use Rattle.std.specs.Prelude.{IfSome, min, if◌then◌else◌, ◌==◌}
use Rattle.std.proofs.lemmas.Bool.Decides.{nat_tests}
use Rattle.std.proofs.lemmas.List.{append-nil, drop-drop, length-drop}
use Rattle.fib_resolve.specs.declared.types.Tables.{Tables}
use Rattle.fib_core_results.specs.declared.record.Record.{Record}
use Rattle.fib_capture.specs.Captures.{Capture}
use Rattle.fib_capture.specs.declared.packet.Packet.{Packet}
use Rattle.fib_rounds_turns.specs.Routers.{Router}
use Rattle.fib_rounds_turns.specs.Turns.{asks, end_turn, turn_of}
use Rattle.fib_rounds.specs.Counts.{IsSmall}
use Rattle.fib_rounds.specs.declared.opening.Opening.{Opening}
use Rattle.fib_rounds.specs.declared.summary.Summary.{Summary}
use Rattle.fib_rounds.specs.Stages.{Stage, Round, opened_by, after_line, grown}
use Rattle.fib_worker_crew.specs.Packets.{Matched, span}
use Rattle.fib_rounds.specs.Packets.{packets_text, IsAnswer}
use Rattle.fib_rounds.specs.Frozen.{by_asked}
use Rattle.fib_rounds.specs.Output.{Prints, ByAsked, Closes}
use Rattle.fib_rounds.specs.Summaries.{counted, with_round}
use Rattle.fib_rounds.specs.Runs.{stage_after, rounds_from}
use Rattle.fib_rounds.specs.Rounds.{StopsAt, is_still_quiet, round_at, PrintsFrom, rounds_at, history_at, counts_from, closed_router, closed_text, MayOpen, next_opening}
use Rattle.fib_rounds.proofs.Turning.{end_keeps, asked_stays}
use Rattle.fib_worker_crew.proofs.Spans.{length_span}
use Rattle.fib_rounds.proofs.Spans.{span_taken}

pub closed_keeps : (r : Router) (asked : Option ℕ) → (closed_router r asked).config.tables ≡ r.config.tables
closed_keeps r None = end_keeps r
closed_keeps r (Some k) = refl

drop_next : {A : Type 0} (xs : List A) (i : ℕ) (x : A) (rest : List A) → drop i xs ≡ x ∷ rest → drop (i + 1) xs ≡ rest
drop_next xs i x rest is = sym (drop-drop 1 i xs) ∙ ap (drop 1) is

-- the round that the next line opens
round_next : (ps : List Packet) (v w k place : ℕ) (o : Opening) → o.first ≤ o.to → o.to ≤ length ps
    → opened_by k ps (round_at ps w o) v ≡ round_at ps v (record { place = place + 1; first = o.to; to = o.to + min k (length ps - o.to) })
round_next ps v w k place o le lt =
    let at : o.first + length (span ps o.first o.to) ≡ o.to = omega (arith, le, length_span ps o.first o.to le lt) in
    let one : opened_by k ps (round_at ps w o) v ≡ record { opened = v; first = o.to; taken = take k (drop o.to ps) } = ap (λ (n : ℕ). record { opened = v; first = n; taken = take k (drop n ps) }) at in
    one ∙ ap (λ (ts : List Packet). record { opened = v; first = o.to; taken = ts }) (sym (span_taken ps o.to k lt))

by_some : {A : Type 0} (a : Option ℕ) (k : ℕ) (x : A) (f : ℕ → A) → a ≡ Some k → by_asked a x f ≡ f k
by_some a k x f e = ap (λ b. by_asked b x f) e

counted_asked : (packets : Capture) (n : ℕ) (quiet : Bool) (o : Round) (S : Tables) (r : Router) (line : List ℕ) (rest : List (List ℕ)) (c : Summary) (k : ℕ) → asks r line ≡ Some k
    → counted packets n quiet o S r (line ∷ rest) c ≡ counted packets (n + 1) true (opened_by k packets.packets o r.changes) r.config.tables r rest (with_round c quiet o S)
unfolding counted
counted_asked packets n quiet o S r line rest c k is = by_some (asks r line) k _ _ is

-- the stage at the close
abbrev pub closed_stage : Stage → Option ℕ → Stage
closed_stage at asked = record { router = closed_router at.router asked; history = at.history }

pub counts_close : (packets : Capture) (script : List (List ℕ)) (o : Opening) (v : ℕ) (S : Tables) (place : ℕ) (mid : Stage) (quiet : Bool) (c : Summary) (asked : Option ℕ) → o.first ≤ o.to → o.to ≤ length packets.packets
    → StopsAt (drop place script) mid.router asked
    → counts_from packets script (closed_stage mid asked) (next_opening packets.packets place o.to asked) (with_round c quiet (round_at packets.packets v o) S)
    ≡ counted packets (place + 1) quiet (round_at packets.packets v o) S mid.router (drop place script) c
unfolding counted
counts_close packets script o v S place mid quiet c None le lt stops = ap (λ ls. counted packets (place + 1) quiet (round_at packets.packets v o) S mid.router ls c) (sym stops)
counts_close packets script o v S place mid quiet c (Some k) le lt stops =
    let r = mid.router in
    let line = stops.0 in
    let rest = stops.1 in
    let here = round_at packets.packets v o in
    let next : Opening = record { place = place + 1; first = o.to; to = o.to + min k (length packets.packets - o.to) } in
    let same : opened_by k packets.packets here r.changes ≡ round_at packets.packets r.changes next = round_next packets.packets r.changes v k place o le lt in
    let left : rest ≡ drop (place + 1) script = sym (drop_next script place line rest stops.2) in
    let first = ap (λ ls. counted packets (place + 1) quiet here S r ls c) stops.2 ∙ counted_asked packets (place + 1) quiet here S r line rest c k stops.3 in
    let later = ap₂ (λ (x : Round) (ls : List (List ℕ)). counted packets (place + 1 + 1) true x r.config.tables r ls (with_round c quiet here S)) same left in
    sym (first ∙ later)

if_self : (b : Bool) → (if b then true else false) ≡ b
if_self true = refl
if_self false = refl

pub still_is : (from to : ℕ) → is_still_quiet true from to ≡ (to == from)
still_is from to = if_self (to == from)

pub next_may : (script : List (List ℕ)) (ps : List Packet) (r : Router) (place to : ℕ) (asked : Option ℕ) → StopsAt (drop place script) r asked → to ≤ length ps → IfSome (next_opening ps place to asked) (MayOpen script ps)
next_may script ps r place to None stops le = tt
next_may script ps r place to (Some k) stops le = record {
  place = omega (arith, ap length stops.2, length-drop place script);
  order = omega arith;
  inside = omega (arith, le);
}

pub next_later : (ps : List Packet) (place to from : ℕ) (asked : Option ℕ) → from ≤ place → IfSome (next_opening ps place to asked) (λ o. from < o.place)
next_later ps place to from None le = tt
next_later ps place to from (Some k) le = omega (arith, le)

pub next_small : (ps : List Packet) (place to : ℕ) (asked : Option ℕ) (c : Summary) → IsSmall (to + to) c → IfSome (next_opening ps place to asked) (λ o. IsSmall (o.first + o.first) c)
next_small ps place to None c h = tt
next_small ps place to (Some k) c h = h

-- ---- what is printed

by_same : (H more : List Tables) (a : ℕ) → (if a == a then H else more) ≡ H
by_same H more a = grind (arith, nat_tests)

-- a line that asks for packets leaves the stage
abbrev stage_with : Router → List Tables → Stage
stage_with r H = record { router = r; history = H }

asked_leaves : (n : ℕ) (at : Stage) (line : List ℕ) (k : ℕ) → asks at.router line ≡ Some k → after_line n at line ≡ at
asked_leaves n at line k is =
    let same : (turn_of n at.router line).0 ≡ at.router = ap (λ t. t.0) (asked_stays n at.router line k is) in
    ap (λ (r : Router). stage_with r (grown at.history at.router r)) same ∙ ap (stage_with at.router) (by_same at.history (at.history ++ at.router.config.tables ∷ []) at.router.changes)

rounds_asked : (packets : Capture) (n : ℕ) (o : Round) (at : Stage) (line : List ℕ) (rest : List (List ℕ)) (k : ℕ) → asks at.router line ≡ Some k
    → rounds_from packets n o at (line ∷ rest) ≡ o ∷ rounds_from packets (n + 1) (opened_by k packets.packets o at.router.changes) at rest
rounds_asked packets n o at line rest k is = by_some (asks at.router line) k _ _ is

prints_asked : (packets : Capture) (n : ℕ) (o : Round) (at : Stage) (line : List ℕ) (lines : List (List ℕ)) (results mine later : List Record) (out text rest : List ℕ) (k : ℕ) (a : Option ℕ) → a ≡ Some k
    → Closes o at mine text → Prints packets (n + 1) (opened_by k packets.packets o at.router.changes) at lines later rest → results ≡ mine ++ later → out ≡ text ++ rest
    → ByAsked a
    ((r : List ℕ) × Prints packets (n + 1) o (after_line n at line) lines results r × (out ≡ (turn_of n at.router line).1 ++ r))
    (λ j. (m l : List Record) × (t r : List ℕ) × Closes o at m t × Prints packets (n + 1) (opened_by j packets.packets o at.router.changes) at lines l r × (results ≡ m ++ l) × (out ≡ t ++ r))
prints_asked packets n o at line lines results mine later out text rest k None e c p rs ts = absurd (none_some e)
  where
    none_some : None ≡ Some k → ⊥
    none_some e = cc
prints_asked packets n o at line lines results mine later out text rest k (Some j) e c p rs ts =
    let same : k ≡ j = some_same (sym e) in
    (mine, later, text, rest, c, subst (λ i. Prints packets (n + 1) (opened_by i packets.packets o at.router.changes) at lines later rest) same p, rs, ts)
  where
    some_same : {x y : ℕ} → Some x ≡ Some y → x ≡ y
    some_same e = cc

-- a round closes: what is left is what the next round leaves
pub closes_prints : (packets : Capture) (script : List (List ℕ)) (o : Opening) (v place : ℕ) (mid : Stage) (asked : Option ℕ) (mine later : List Record) (rest : List ℕ) → o.first ≤ o.to → o.to ≤ length packets.packets
    → StopsAt (drop place script) mid.router asked → Matched (IsAnswer v mid.history) (span packets.packets o.first o.to) mine
    → PrintsFrom packets script (closed_stage mid asked) (next_opening packets.packets place o.to asked) later rest
    → Prints packets (place + 1) (round_at packets.packets v o) mid (drop place script) (mine ++ later) (closed_text mid.router asked ++ (packets_text mid.router.config.tables o.first (span packets.packets o.first o.to) mine ++ rest))
closes_prints packets script o v place mid None mine later rest le lt stops answered p =
    let here = round_at packets.packets v o in
    let text = packets_text mid.router.config.tables o.first here.taken mine in
    let all : mine ≡ mine ++ later = sym (append-nil mine) ∙ ap (λ rs. mine ++ rs) (sym p.0) in
    let closes : Closes here mid (mine ++ later) text = record { answered = subst (Matched (IsAnswer v mid.history) here.taken) all answered; text = ap (packets_text mid.router.config.tables o.first here.taken) all } in
    subst (λ ls. Prints packets (place + 1) here mid ls (mine ++ later) ((end_turn mid.router).1 ++ (text ++ rest))) (sym stops) (text, closes, ap (λ t. (end_turn mid.router).1 ++ (text ++ t)) p.1)
closes_prints packets script o v place mid (Some k) mine later rest le lt stops answered p =
    let here = round_at packets.packets v o in
    let r = mid.router in
    let line = stops.0 in
    let lines = stops.1 in
    let text = packets_text r.config.tables o.first here.taken mine in
    let next : Opening = record { place = place + 1; first = o.to; to = o.to + min k (length packets.packets - o.to) } in
    let same : round_at packets.packets r.changes next ≡ opened_by k packets.packets here r.changes = sym (round_next packets.packets r.changes v k place o le lt) in
    let left : drop (place + 1) script ≡ lines = drop_next script place line lines stops.2 in
    let q : Prints packets (place + 1 + 1) (opened_by k packets.packets here r.changes) mid lines later rest =
    subst (λ ls. Prints packets (place + 1 + 1) (opened_by k packets.packets here r.changes) mid ls later rest) left (subst (λ (x : Round). Prints packets (place + 1 + 1) x mid (drop (place + 1) script) later rest) same p) in
    let closes : Closes here mid mine text = record { answered = answered; text = refl } in
    subst (λ ls. Prints packets (place + 1) here mid ls (mine ++ later) (text ++ rest)) (sym stops.2)
    (prints_asked packets (place + 1) here mid line lines (mine ++ later) mine later (text ++ rest) text rest k (asks r line) stops.3 closes q refl refl)

pub closes_rounds : (packets : Capture) (script : List (List ℕ)) (o : Opening) (v place : ℕ) (mid : Stage) (asked : Option ℕ) → o.first ≤ o.to → o.to ≤ length packets.packets → StopsAt (drop place script) mid.router asked
    → rounds_from packets (place + 1) (round_at packets.packets v o) mid (drop place script) ≡ round_at packets.packets v o ∷ rounds_at packets script (closed_stage mid asked) (next_opening packets.packets place o.to asked)
closes_rounds packets script o v place mid None le lt stops = ap (rounds_from packets (place + 1) (round_at packets.packets v o) mid) stops
closes_rounds packets script o v place mid (Some k) le lt stops =
    let here = round_at packets.packets v o in
    let r = mid.router in
    let line = stops.0 in
    let lines = stops.1 in
    let next : Opening = record { place = place + 1; first = o.to; to = o.to + min k (length packets.packets - o.to) } in
    let same : opened_by k packets.packets here r.changes ≡ round_at packets.packets r.changes next = round_next packets.packets r.changes v k place o le lt in
    let left : lines ≡ drop (place + 1) script = sym (drop_next script place line lines stops.2) in
    ap (rounds_from packets (place + 1) here mid) stops.2
    ∙ (rounds_asked packets (place + 1) here mid line lines k stops.3 ∙ ap (λ rs. here ∷ rs) (ap₂ (λ (x : Round) (ls : List (List ℕ)). rounds_from packets (place + 1 + 1) x mid ls) same left))

pub closes_history : (script : List (List ℕ)) (packets : Capture) (to place : ℕ) (mid : Stage) (asked : Option ℕ) → StopsAt (drop place script) mid.router asked
    → history_at script (closed_stage mid asked) (next_opening packets.packets place to asked) ≡ (stage_after (place + 1) mid (drop place script)).history
closes_history script packets to place mid None stops = ap (λ ls. (stage_after (place + 1) mid ls).history) (sym stops)
closes_history script packets to place mid (Some k) stops =
    let line = stops.0 in
    let lines = stops.1 in
    let left : drop (place + 1) script ≡ lines = drop_next script place line lines stops.2 in
    ap (λ ls. (stage_after (place + 1 + 1) mid ls).history) left
    ∙ (ap (λ (s : Stage). (stage_after (place + 1 + 1) s lines).history) (sym (asked_leaves (place + 1) mid line k stops.3)) ∙ ap (λ ls. (stage_after (place + 1) mid ls).history) (sym stops.2))
