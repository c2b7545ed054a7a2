-- Where no round with packets has a change, a run prints what workers print who forward by the tables at their round's opening.
use Rattle.std.proofs.Common.{◌≡◌, ◌+◌, ◌++◌, ◌∷◌, [], ℕ, List, length, arith, refl, ap, ◌∙◌, Option, Some, None, inl, inr}
use Rattle.std.specs.Prelude.{slice_get}
use Rattle.fib_resolve.specs.Resolution.{resolve}
use Rattle.fib_resolve.specs.Tables.{fresh}
use Rattle.fib_resolve.specs.declared.types.End.{End}
use Rattle.fib_resolve.specs.declared.types.Tables.{Tables}
use Rattle.fib_core_results.specs.declared.record.Record.{Record}
use Rattle.fib_core_results.specs.declared.record.Version.{Version}
use Rattle.fib_core_results.specs.Trails.{IsAt, version_at, settled_answer}
use Rattle.fib_capture.specs.Captures.{Capture}
use Rattle.fib_capture.specs.declared.packet.Packet.{Packet}
use Rattle.fib_capture.specs.declared.packet.Packet.TheVariants.{Flow, NotIpv4, BadHeader}
use Rattle.fib_rounds_turns.specs.Turns.{turn_of, asks, end_turn}
use Rattle.fib_rounds.specs.Stages.{Stage, Round, start, first_round, after_line, opened_by}
use Rattle.fib_worker_crew.specs.Packets.{Matched}
use Rattle.fib_rounds.specs.Packets.{IsAnswer, packets_text, last_text, answers}
use Rattle.fib_rounds.specs.Output.{Closes, Prints, ByAsked, Output}
use Rattle.fib_rounds.specs.Frozen.{frozen, by_asked, round_text, frozen_output}
use Rattle.fib_rounds.specs.Quiet.{IsStill, AllStill, HasQuietRounds}
use Rattle.fib_rounds.proofs.Histories.{start_is}
use Rattle.fib_rounds.proofs.Outputs.{Opened, opened_after}

abbrev version_of : ℕ → ℕ → Version
version_of settled applied = record { settled = settled; applied = applied }

version_is : (v : Version) (k : ℕ) → v.settled ≡ k → v.applied ≡ k → v ≡ version_at k
version_is v k es ea = ap (λ (n : ℕ). version_of n v.applied) es ∙ ap (λ (n : ℕ). version_of k n) ea

abbrev record_of : ℕ → ℕ → Version → Version → End → Record
record_of a h lo hi end = record { addr = a; hash = h; lo = lo; hi = hi; end = end }

record_is : (r s : Record) → r.addr ≡ s.addr → r.hash ≡ s.hash → r.lo ≡ s.lo → r.hi ≡ s.hi → r.end ≡ s.end → r ≡ s
record_is r s ea eh el ei ee =
    ap (λ (a : ℕ). record_of a r.hash r.lo r.hi r.end) ea
    ∙ ap (λ (h : ℕ). record_of s.addr h r.lo r.hi r.end) eh
    ∙ ap (λ (v : Version). record_of s.addr s.hash v r.hi r.end) el
    ∙ ap (λ (v : Version). record_of s.addr s.hash s.lo v r.end) ei
    ∙ ap (λ (e : End). record_of s.addr s.hash s.lo s.hi e) ee

end_is : (S : Tables) (a b h g : ℕ) → a ≡ b → h ≡ g → resolve S a h ≡ resolve S b g
end_is S a b h g ea eh = cc

-- an answer over a history that ends with version k, and of no version before it, is the settled one
answer_is_settled : (H : List Tables) (k a h : ℕ) (S : Tables) (r : Record) → slice_get H k ≡ Some S → length H ≡ k + 1 → IsAnswer k H a h r → r ≡ settled_answer S k a h
answer_is_settled H k a h S r held last is =
    let ls : r.lo.settled ≡ k = omega (arith, last, is.later.settled, is.right.low, is.right.order.applied, is.right.inside) in
    let la : r.lo.applied ≡ k = omega (arith, last, is.later.applied, is.right.order.applied, is.right.inside) in
    let hs : r.hi.settled ≡ k = omega (arith, last, is.later.settled, is.right.order.settled, is.right.high, is.right.inside) in
    let ha : r.hi.applied ≡ k = omega (arith, last, is.later.applied, is.right.order.applied, is.right.inside) in
    let at : IsAt k r = record { lo = version_is r.lo k ls la; hi = version_is r.hi k hs ha } in
    record_is r (settled_answer S k a h) is.addr is.hash at.lo at.hi (is.right.quiet k S at held ∙ end_is S r.addr a r.hash h is.addr is.hash)

cons_is : (r s : Record) (rs ss : List Record) → r ≡ s → rs ≡ ss → r ∷ rs ≡ s ∷ ss
cons_is r s rs ss e es = cc

pub all_settled : (H : List Tables) (k : ℕ) (S : Tables) (ps : List Packet) (rs : List Record) → slice_get H k ≡ Some S → length H ≡ k + 1 → Matched (IsAnswer k H) ps rs → rs ≡ answers k S ps
unfolding answers
all_settled H k S [] [] held last m = refl
all_settled H k S [] (r ∷ rs) held last m = absurd m
all_settled H k S (NotIpv4 ∷ ps) rs held last m = all_settled H k S ps rs held last m
all_settled H k S (BadHeader ∷ ps) rs held last m = all_settled H k S ps rs held last m
all_settled H k S (Flow a h ∷ ps) [] held last m = absurd m
all_settled H k S (Flow a h ∷ ps) (r ∷ rs) held last m = cons_is r (settled_answer S k a h) rs (answers k S ps) (answer_is_settled H k a h S r held last m.0) (all_settled H k S ps rs held last m.1)

-- no packets print nothing
none_text : (T : Tables) (n : ℕ) (ps : List Packet) (rs ss : List Record) → ps ≡ [] → packets_text T n ps rs ≡ packets_text T n ps ss
unfolding packets_text
none_text T n ps rs ss e = rw e refl

still_text : (o : Round) (S : Tables) (at : Stage) (rs : List Record) (text : List ℕ) → Opened o S at → Closes o at rs text → IsStill o at → text ≡ round_text o S at.router.config.tables
still_text o S at rs text h c (inl none) = c.text ∙ none_text at.router.config.tables o.first o.taken rs (answers o.opened S o.taken) none
still_text o S at rs text h c (inr same) =
    let is : rs ≡ answers o.opened S o.taken = all_settled at.history o.opened S o.taken rs h.held (omega (arith, h.history.count, same)) c.answered in
    c.text ∙ ap (λ (xs : List Record). packets_text at.router.config.tables o.first o.taken xs) is

-- what is left to print where the line that comes asks for packets or does not, given that one thing alone may be printed after it
by_line : (packets : Capture) (n : ℕ) (o : Round) (S : Tables) (at : Stage) (line : List ℕ) (lines : List (List ℕ)) (results : List Record) (out here : List ℕ) (there : ℕ → List ℕ) → Opened o S at
    → ((rest : List ℕ) → Prints packets (n + 1) o (after_line n at line) lines results rest → AllStill packets (n + 1) o (after_line n at line) lines → rest ≡ here)
    → ((k : ℕ) (later : List Record) (rest : List ℕ) → Prints packets (n + 1) (opened_by k packets.packets o at.router.changes) at lines later rest
    → AllStill packets (n + 1) (opened_by k packets.packets o at.router.changes) at lines → rest ≡ there k)
    → (a : Option ℕ)
    → ByAsked a
    ((rest : List ℕ) × Prints packets (n + 1) o (after_line n at line) lines results rest × (out ≡ (turn_of n at.router line).1 ++ rest))
    (λ k. (mine later : List Record) × (text rest : List ℕ) × Closes o at mine text × Prints packets (n + 1) (opened_by k packets.packets o at.router.changes) at lines later rest
    × (results ≡ mine ++ later) × (out ≡ text ++ rest))
    → ByAsked a
    (AllStill packets (n + 1) o (after_line n at line) lines)
    (λ k. IsStill o at × AllStill packets (n + 1) (opened_by k packets.packets o at.router.changes) at lines)
    → out ≡ by_asked a ((turn_of n at.router line).1 ++ here) (λ k. round_text o S at.router.config.tables ++ there k)
by_line packets n o S at line lines results out here there h one other None (rest, prints, e) still =
    e ∙ ap (λ (xs : List ℕ). (turn_of n at.router line).1 ++ xs) (one rest prints still)
by_line packets n o S at line lines results out here there h one other (Some k) (mine, later, text, rest, closes, prints, both, e) still =
    e ∙ ap (λ (xs : List ℕ). text ++ xs) (other k later rest prints still.1) ∙ ap (λ (xs : List ℕ). xs ++ there k) (still_text o S at mine text h closes still.0)

pub quiet_is_frozen : (packets : Capture) (n : ℕ) (o : Round) (S : Tables) (at : Stage) (lines : List (List ℕ)) (results : List Record) (out : List ℕ) → Opened o S at
    → Prints packets n o at lines results out → AllStill packets n o at lines → out ≡ frozen packets n o S at.router lines
unfolding frozen
quiet_is_frozen packets n o S at [] results out h (text, closes, e) still =
    e ∙ ap (λ (xs : List ℕ). (end_turn at.router).1 ++ (xs ++ last_text packets.cut)) (still_text o S at results text h closes still)
quiet_is_frozen packets n o S at (line ∷ lines) results out h prints still = by_line packets n o S at line lines results out _ _ h
    (λ rest after quiet. quiet_is_frozen packets (n + 1) o S (after_line n at line) lines results rest (opened_after n o S at line h) after quiet)
    (λ k later rest after quiet. quiet_is_frozen packets (n + 1) (opened_by k packets.packets o at.router.changes) at.router.config.tables at lines later rest
    (record { history = h.history; held = h.history.newest }) after quiet)
    (asks at.router line) prints still

pub quiet_output_is_frozen : (room : ℕ) (script : List (List ℕ)) (packets : Capture) (out : List ℕ) → HasQuietRounds room script packets → Output room script packets out → out ≡ frozen_output room script packets
quiet_output_is_frozen room script packets out still prints = quiet_is_frozen packets 1 first_round fresh (start room) script prints.0 out
    (record { history = start_is room; held = refl }) prints.1 still
