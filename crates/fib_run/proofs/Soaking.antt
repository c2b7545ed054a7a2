-- The counts of a generated run, line by line and round by round.
use Rattle.std.proofs.Common.{arith, ◌≡◌, ◌∙◌, ℕ, zero, suc, ◌+◌, ◌*◌, ◌<◌, ◌≤◌, ◌++◌, ◌∷◌, [], List, Bool, true, false, Option, Some, None, length, refl, sym, ap, subst}
use Rattle.std.specs.Prelude.{take, drop}
use Rattle.std.specs.List.{AllByRecursion}
use Rattle.std.proofs.lemmas.List.{append_assoc, append-nil, length-take, length-drop}
use Rattle.fib_base_list.proofs.Lists.{each-append}
use Rattle.fib_resolve.specs.Tables.{fresh}
use Rattle.fib_resolve.specs.Refusals.{refused}
use Rattle.fib_resolve.specs.declared.types.Tables.{Tables}
use Rattle.fib_resolve.specs.declared.types.Edit.{Edit}
use Rattle.fib_resolve.specs.declared.types.Refusal.{Refusal}
use Rattle.fib_commands.specs.declared.types.Line.{Line}
use Rattle.fib_commands.specs.declared.types.Line.TheVariants as lines
use Rattle.fib_commands.specs.Lines.{line_of}
use Rattle.fib_capture.specs.Captures.{Capture}
use Rattle.fib_capture.specs.declared.packet.Packet.{Packet}
use Rattle.fib_soak.specs.Draws.{repeated, after_4}
use Rattle.fib_soak.specs.Flows.{flow_at, flows, soak_flows}
use Rattle.fib_soak.specs.Scripts.{forward_line, changes, after_round, round_lines, rounds, soak_lines}
use Rattle.fib_soak.specs.Kinds.{MayChange}
use Rattle.fib_soak.proofs.Again.{script_again}
use Rattle.fib_soak.proofs.Changing.{change_forms, forward_asks}
use Rattle.fib_soak.proofs.Counts.{all_lines, all_flows, length-lines_for}
use Rattle.fib_soak.proofs.Parts.{first_lines, first_state, script_parts, length-first, each-first, each-changes}
use Rattle.fib_rounds_turns.specs.declared.progress.Batch.{Batch}
use Rattle.fib_rounds_turns.specs.Routers.{Router, new_router}
use Rattle.fib_rounds_turns.specs.Turns.{alone, by_refusal, change_turn, turn_in, turn_of, asks_in, asks, end_turn}
use Rattle.fib_rounds.specs.declared.summary.Summary.{Summary}
use Rattle.fib_rounds.specs.Stages.{Round, first_round, next_packet, opened_by}
use Rattle.fib_rounds.specs.Summaries.{zero_counts, with_round, counted, summary_of}
use Rattle.fib_rounds.specs.Closed.{IsFlow, all_ends}
use Rattle.fib_rounds.proofs.Tallies.{by_round, flows_add_up}
use Rattle.fib_run.specs.Output.{soak_capture}
use Rattle.fib_run.specs.SoakCounts.{AddUp, SoakCountsAddUp}

-- a run between two lines: the number of the next one, whether the round had none so far, the round and the tables at its opening, the
-- router, and the counts of the rounds before
pub record At : Type 0 where
  pub n : ℕ
  pub quiet : Bool
  pub o : Round
  pub S : Tables
  pub r : Router
  pub c : Summary

abbrev pub counted_at : Capture → At → List (List ℕ) → Summary
counted_at P a ls = counted P a.n a.quiet a.o a.S a.r ls a.c

-- and those with the round that is open
abbrev pub closing : At → Summary
closing a = with_round a.c a.quiet a.o a.S

-- accepted changes and refused lines
abbrev pub answers : Router → ℕ
answers r = r.changes + r.refused

-- these lines lead from one to the other
abbrev pub Leads : Capture → List (List ℕ) → At → At → Type 0
Leads P ls a b = (ys : List (List ℕ)) → counted_at P a (ls ++ ys) ≡ counted_at P b ys

-- a line was accepted or refused, and there is no batch
pub record Turned (r t : Router) : Type 0 where
  pub batch : t.batch ≡ None
  pub tally : answers t ≡ answers r + 1

by_change : (n : ℕ) (r : Router) (e : Edit) (refusal : Option Refusal) → r.batch ≡ None → Turned r (by_refusal n r e refusal).0
by_change n r e None b = record { batch = refl; tally = omega arith }
by_change n r e (Some refusal) b = record { batch = b; tally = omega arith }

outside : (n : ℕ) (r : Router) (said : Option Line) → r.batch ≡ None → MayChange said → Turned r (alone n r said).0
unfolding change_turn
outside n r None b m = record { batch = b; tally = omega arith }
outside n r (Some (lines.Change e)) b m = by_change n r e (refused r.config.tables r.config.room e) b
outside n r (Some lines.Nothing) b m = absurd m.kind
outside n r (Some (lines.Lookup a h)) b m = absurd m.kind
outside n r (Some lines.ShowFib) b m = absurd m.kind
outside n r (Some lines.ShowPathLists) b m = absurd m.kind
outside n r (Some lines.ShowAdj) b m = absurd m.kind
outside n r (Some (lines.Forward k)) b m = absurd m.kind
outside n r (Some lines.Begin) b m = absurd m.kind
outside n r (Some lines.Commit) b m = absurd m.kind

line_turn : (n : ℕ) (r : Router) (line : List ℕ) → r.batch ≡ None → MayChange (line_of line) → Turned r (turn_of n r line).0
unfolding turn_of
line_turn n r line b m = subst (λ (batch : Option Batch). Turned r (turn_in batch n r (line_of line)).0) (sym b) (outside n r (line_of line) b m)

none_asked : (said : Option Line) → MayChange said → asks_in None said ≡ None
none_asked None m = refl
none_asked (Some (lines.Change e)) m = refl
none_asked (Some lines.Nothing) m = refl
none_asked (Some (lines.Lookup a h)) m = refl
none_asked (Some lines.ShowFib) m = refl
none_asked (Some lines.ShowPathLists) m = refl
none_asked (Some lines.ShowAdj) m = refl
none_asked (Some (lines.Forward k)) m = absurd m.kind
none_asked (Some lines.Begin) m = refl
none_asked (Some lines.Commit) m = refl

no_asks : (r : Router) (line : List ℕ) → r.batch ≡ None → MayChange (line_of line) → asks r line ≡ None
unfolding asks
no_asks r line b m = rw b (none_asked (line_of line) m)

forward_asked : (r : Router) → r.batch ≡ None → asks r forward_line ≡ Some 500
unfolding asks
forward_asked r b = rw (b, forward_asks) refl

-- after a line that changes, and after one that forwards
abbrev stepped : At → List ℕ → At
stepped a line = record { n = a.n + 1; quiet = false; o = a.o; S = a.S; r = (turn_of a.n a.r line).0; c = a.c }

abbrev forwarded : Capture → At → At
forwarded P a = record { n = a.n + 1; quiet = true; o = opened_by 500 P.packets a.o a.r.changes; S = a.r.config.tables; r = a.r; c = closing a }

one_line : (P : Capture) (a : At) (line : List ℕ) → a.r.batch ≡ None → MayChange (line_of line) → (ys : List (List ℕ)) → counted_at P a (line ∷ ys) ≡ counted_at P (stepped a line) ys
unfolding counted
one_line P a line b m ys = rw (no_asks a.r line b m) refl

one_forward : (P : Capture) (a : At) → a.r.batch ≡ None → (ys : List (List ℕ)) → counted_at P a (forward_line ∷ ys) ≡ counted_at P (forwarded P a) ys
unfolding counted
one_forward P a b ys = rw (forward_asked a.r b) refl

-- lines that change lead there
pub record Changed (P : Capture) (ls : List (List ℕ)) (a b : At) : Type 0 where
  pub leads : Leads P ls a b
  pub stays : a.quiet ≡ false → b.quiet ≡ false
  pub some : 0 < length ls → b.quiet ≡ false
  pub round : b.o ≡ a.o
  pub counts : b.c ≡ a.c
  pub batch : b.r.batch ≡ None
  pub tally : answers b.r ≡ answers a.r + length ls

changes_lead : (P : Capture) (ls : List (List ℕ)) → AllByRecursion (λ line. MayChange (line_of line)) ls → (a : At) → a.r.batch ≡ None → (b : At) × Changed P ls a b
changes_lead P [] each a none =
    (a, record { leads = λ ys. refl; stays = λ e. e; some = λ lt. absurd (omega (arith, lt)); round = refl; counts = refl; batch = none; tally = omega arith })
changes_lead P (line ∷ ls) each a none =
    let t = line_turn a.n a.r line none each.0 in
    let more = changes_lead P ls each.1 (stepped a line) t.batch in (
      more.0,
      record {
        leads = λ ys. one_line P a line none each.0 (ls ++ ys) ∙ more.1.leads ys;
        stays = λ e. more.1.stays refl;
        some = λ lt. more.1.stays refl;
        round = more.1.round;
        counts = more.1.counts;
        batch = more.1.batch;
        tally = omega (arith, more.1.tally, t.tally);
      },
    )

-- after i rounds of two forward lines each
pub record After (P : Capture) (i : ℕ) (a : At) : Type 0 where
  pub batch : a.r.batch ≡ None
  pub tally : answers a.r ≡ 2108 + 20 * i
  pub next : next_packet a.o ≡ 1000 * i
  pub packets : (closing a).packets ≡ 1000 * i
  pub quiet : (closing a).quiet ≡ 500 * i

taken_500 : (k : ℕ) (packets : List Packet) → k + 500 ≤ length packets → length (take 500 (drop k packets)) ≡ 500
taken_500 k packets enough = omega (arith, length-take 500 (drop k packets), length-drop k packets, enough)

closed_packets : (a : At) → (closing a).packets ≡ a.c.packets + length a.o.taken
closed_packets a = omega (arith, (by_round a.c a.quiet a.o a.S).packets)

closed_quiet : (c : Summary) (o : Round) (S : Tables) → (with_round c true o S).quiet ≡ c.quiet + length o.taken
closed_quiet c o S = omega (arith, (by_round c true o S).quiet)

not_quiet : (a : At) → a.quiet ≡ false → (closing a).quiet ≡ a.c.quiet
not_quiet a e = rw e refl

one_round : (P : Capture) (i x : ℕ) (a : At) → After P i a → 1000 * i + 1000 ≤ length P.packets → (b : At) × Leads P (round_lines x) a b × After P (i + 1) b
one_round P i x a h enough =
    let opened = forwarded P a in
    let between = changes_lead P (changes 20 x) (each-changes (λ line. MayChange (line_of line)) change_forms 20 x) opened h.batch in
    let mid = between.0 in
    let m = between.1 in
    let twenty : length (changes 20 x) ≡ 20 = length-lines_for _ 20 in
    let reopened = forwarded P mid in
    let one : length opened.o.taken ≡ 500 = taken_500 (next_packet a.o) P.packets (omega (arith, h.next, enough)) in
    let same : length mid.o.taken ≡ 500 = ap (λ (o : Round). length o.taken) m.round ∙ one in
    let next : next_packet mid.o ≡ 1000 * i + 500 = ap (λ (o : Round). next_packet o) m.round ∙ omega (arith, h.next, one) in
    let two : length reopened.o.taken ≡ 500 = taken_500 (next_packet mid.o) P.packets (omega (arith, next, enough)) in
    let carried : mid.c.packets ≡ 1000 * i = ap (λ (c : Summary). c.packets) m.counts ∙ h.packets in
    let carried_quiet : mid.c.quiet ≡ 500 * i = ap (λ (c : Summary). c.quiet) m.counts ∙ h.quiet in
    let silent : (closing mid).quiet ≡ 500 * i = not_quiet mid (m.some (omega (arith, twenty))) ∙ carried_quiet in
    let led : Leads P (round_lines x) a reopened = λ ys.
    ap (λ (ls : List (List ℕ)). counted_at P a ls) (append_assoc (forward_line ∷ changes 20 x) (forward_line ∷ []) ys)
    ∙ one_forward P a h.batch (changes 20 x ++ forward_line ∷ ys) ∙ m.leads (forward_line ∷ ys) ∙ one_forward P mid m.batch ys in (
      reopened,
      led,
      record {
        batch = m.batch;
        tally = omega (arith, h.tally, m.tally, twenty);
        next = omega (arith, next, same, two);
        packets = omega (arith, closed_packets reopened, closed_packets mid, carried, same, two);
        quiet = omega (arith, closed_quiet (closing mid) reopened.o reopened.S, silent, two);
      },
    )

rounds_lead : (P : Capture) (x : ℕ) (a : At) → After P 0 a → (n : ℕ) → 1000 * n ≤ length P.packets → (b : At) × Leads P (rounds n x) a b × After P n b
unfolding rounds
rounds_lead P x a h zero enough = (a, (λ ys. refl), h)
rounds_lead P x a h (suc n) enough =
    let before = rounds_lead P x a h n (omega (arith, enough)) in
    let y = repeated after_round n x in
    let one = one_round P n y before.0 before.2 (omega (arith, enough)) in
    (one.0, (λ ys. ap (λ (ls : List (List ℕ)). counted_at P a ls) (append_assoc (rounds n x) (round_lines y) ys) ∙ before.1 (round_lines y ++ ys) ∙ one.1 ys), subst (λ k. After P k one.0) (omega arith) one.2)

-- what is counted where no line is left
pub record Ends (s : Summary) : Type 0 where
  pub changes : s.accepted + s.refused ≡ 2908
  pub packets : s.packets ≡ 40000
  pub quiet : s.quiet ≡ 20000

at_end : (P : Capture) (a : At) → After P 40 a → Ends (counted_at P a [])
unfolding counted end_turn
at_end P a h = rw h.batch (record { changes = omega (arith, h.tally); packets = omega (arith, h.packets); quiet = omega (arith, h.quiet) })

-- before the first line
abbrev begun : ℕ → At
begun room = record { n = 1; quiet = true; o = first_round; S = fresh; r = new_router room; c = zero_counts }

none_quiet : (q : Bool) (c : Summary) (o : Round) (S : Tables) → c ≡ zero_counts → o ≡ first_round → (with_round c q o S).quiet ≡ 500 * 0
none_quiet true c o S e f = omega (arith, closed_quiet c o S, ap (λ (x : Round). length x.taken) f, ap (λ (x : Summary). x.quiet) e)
none_quiet false c o S e f = ap (λ (x : Summary). x.quiet) e

none_taken : (P : Capture) (a : At) → a.r.batch ≡ None → answers a.r ≡ 2108 → a.o ≡ first_round → a.c ≡ zero_counts → After P 0 a
none_taken P a b t o c =
    let none : length a.o.taken ≡ 0 = ap (λ (x : Round). length x.taken) o in
    let packets : a.c.packets ≡ 0 = ap (λ (x : Summary). x.packets) c in
    record {
      batch = b;
      tally = omega (arith, t);
      next = ap (λ (x : Round). next_packet x) o;
      packets = omega (arith, closed_packets a, none, packets);
      quiet = none_quiet a.quiet a.c a.o a.S c o;
    }

whole : (room seed : ℕ) → Ends (summary_of room (soak_lines seed) (soak_capture seed))
whole room seed =
    let P = soak_capture seed in
    let before = changes_lead P (first_lines seed) (each-first (λ line. MayChange (line_of line)) change_forms seed) (begun room) refl in
    let f = before.1 in
    let start = none_taken P before.0 f.batch (omega (arith, f.tally, length-first seed)) f.round f.counts in
    let after = rounds_lead P (first_state seed) before.0 start 40 (omega (arith, all_flows seed)) in
    let same : summary_of room (soak_lines seed) P ≡ counted_at P after.0 [] =
    ap (λ (ls : List (List ℕ)). counted_at P (begun room) ls) (script_parts seed)
    ∙ f.leads (rounds 40 (first_state seed))
    ∙ ap (λ (ls : List (List ℕ)). counted_at P before.0 ls) (sym (append-nil (rounds 40 (first_state seed))))
    ∙ after.1 [] in
    subst (λ (s : Summary). Ends s) (sym same) (at_end P after.0 after.2)

each_flow : (n x : ℕ) → AllByRecursion IsFlow (flows n x)
unfolding flows flow_at
each_flow zero x = tt
each_flow (suc n) x = each-append IsFlow (flows n x) (flow_at (repeated after_4 n x) ∷ []) (each_flow n x) (tt, tt)

all_are_flows : (seed : ℕ) → AllByRecursion IsFlow (soak_flows seed)
unfolding soak_flows
all_are_flows seed = each_flow 40000 (seed + 1)

added : (n : ℕ) (s : Summary) → n ≡ 2988 → Ends s → all_ends s ≡ s.quiet → AddUp n s
added n s count h e = record { lines = count; changes = h.changes; packets = h.packets; quiet = h.quiet; ends = e ∙ h.quiet }

pub soak_counts_add_up : SoakCountsAddUp
soak_counts_add_up room seed =
    rw (script_again seed) (added (length (soak_lines seed)) (summary_of room (soak_lines seed) (soak_capture seed))
    (all_lines seed) (whole room seed) (flows_add_up room (soak_lines seed) (soak_capture seed) (all_are_flows seed)))
