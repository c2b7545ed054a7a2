-- Counts are those of the rounds that closed.
use Rattle.std.proofs.Common.{arith, ◌≡◌, ◌∙◌, ℕ, zero, suc, ◌+◌, ◌∷◌, ◌++◌, [], List, Bool, true, false, cond, Option, Some, None, length, map, length-append, refl, sym, ap, subst, ◌⊎◌, inl, inr}
use Rattle.std.specs.Prelude.{take, drop}
use Rattle.std.specs.List.{count_by, AllByRecursion}
use Rattle.std.proofs.lemmas.List.Sums.{sum_by-append}
use Rattle.std.proofs.lemmas.List.{append-nil}
use Rattle.fib_base_list.proofs.Lists.{either}
use Rattle.fib_resolve.specs.Resolution.{resolve}
use Rattle.fib_resolve.specs.declared.types.Tables.{Tables}
use Rattle.fib_resolve.specs.declared.types.End.{End}
use Rattle.fib_resolve.specs.declared.types.End.TheVariants as ends
use Rattle.fib_core_results.specs.declared.record.Record.{Record}
use Rattle.fib_capture.specs.Captures.{Capture}
use Rattle.fib_capture.specs.declared.packet.Packet.{Packet}
use Rattle.fib_capture.specs.declared.packet.Packet.TheVariants.{Flow, NotIpv4, BadHeader}
use Rattle.fib_rounds_turns.specs.Routers.{Router, new_router}
use Rattle.fib_rounds_turns.specs.Turns.{turn_of, asks, end_turn}
use Rattle.fib_resolve.specs.Tables.{fresh}
use Rattle.fib_rounds.specs.declared.summary.Summary.{Summary}
use Rattle.fib_rounds.specs.Stages.{Round, first_round, next_packet, opened_by}
use Rattle.fib_rounds.specs.Packets.{answers}
use Rattle.fib_rounds.specs.Summaries.{zero_counts, with_end, with_ends, with_round, with_router, counted}
use Rattle.fib_rounds.specs.Closed.{Closed, closed, closed_from, rounds_of, ends_over, quiet_ones, quiet_ends, packets_in, is_drop, is_receive, is_glean, is_adjacency, is_incomplete, CountsAreOfQuietFlows, IsFlow, FlowsAddUp}

-- counts grew by so many packets, so many quiet ones, and these ends
pub record Grew (p q : ℕ) (es : List End) (c s : Summary) : Type 0 where
  pub packets : s.packets ≡ c.packets + p
  pub quiet : s.quiet ≡ c.quiet + q
  pub drops : s.drops ≡ c.drops + count_by is_drop es
  pub receives : s.receives ≡ c.receives + count_by is_receive es
  pub gleans : s.gleans ≡ c.gleans + count_by is_glean es
  pub adjs : s.adjs ≡ c.adjs + count_by is_adjacency es
  pub incompletes : s.incompletes ≡ c.incompletes + count_by is_incomplete es

both_counts : (test : End → Bool) (es fs : List End) → count_by test (es ++ fs) ≡ count_by test es + count_by test fs
both_counts test es fs = sum_by-append (λ e. cond (test e) 1 0) es fs

grew_twice : (p q u v : ℕ) (es fs : List End) (c d s : Summary) → Grew p q es c d → Grew u v fs d s → Grew (p + u) (q + v) (es ++ fs) c s
grew_twice p q u v es fs c d s h k = record {
  packets = omega (arith, h.packets, k.packets);
  quiet = omega (arith, h.quiet, k.quiet);
  drops = omega (arith, h.drops, k.drops, both_counts is_drop es fs);
  receives = omega (arith, h.receives, k.receives, both_counts is_receive es fs);
  gleans = omega (arith, h.gleans, k.gleans, both_counts is_glean es fs);
  adjs = omega (arith, h.adjs, k.adjs, both_counts is_adjacency es fs);
  incompletes = omega (arith, h.incompletes, k.incompletes, both_counts is_incomplete es fs);
}

grew_not : (c : Summary) → Grew 0 0 [] c c
grew_not c = record { packets = omega arith; quiet = omega arith; drops = omega arith; receives = omega arith; gleans = omega arith; adjs = omega arith; incompletes = omega arith }

one_end : (c : Summary) (e : End) → Grew 0 0 (e ∷ []) c (with_end c e)
one_end c ends.Drop = record { packets = omega arith; quiet = omega arith; drops = omega arith; receives = omega arith; gleans = omega arith; adjs = omega arith; incompletes = omega arith }
one_end c ends.Receive = record { packets = omega arith; quiet = omega arith; drops = omega arith; receives = omega arith; gleans = omega arith; adjs = omega arith; incompletes = omega arith }
one_end c (ends.Glean i) = record { packets = omega arith; quiet = omega arith; drops = omega arith; receives = omega arith; gleans = omega arith; adjs = omega arith; incompletes = omega arith }
one_end c (ends.Hop i a None) = record { packets = omega arith; quiet = omega arith; drops = omega arith; receives = omega arith; gleans = omega arith; adjs = omega arith; incompletes = omega arith }
one_end c (ends.Hop i a (Some m)) = record { packets = omega arith; quiet = omega arith; drops = omega arith; receives = omega arith; gleans = omega arith; adjs = omega arith; incompletes = omega arith }

by_results : (c : Summary) (results : List Record) → Grew 0 0 (map (λ r. r.end) results) c (with_ends c results)
unfolding with_ends
by_results c [] = grew_not c
by_results c (r ∷ results) =
    grew_twice 0 0 0 0 (r.end ∷ []) (map (λ r. r.end) results) c (with_end c r.end) (with_ends (with_end c r.end) results)
    (one_end c r.end) (by_results (with_end c r.end) results)

-- the answers of passes that see these tables alone are what resolution gives
answered : (k : ℕ) (S : Tables) (packets : List Packet) → map (λ r. r.end) (answers k S packets) ≡ ends_over S packets
unfolding answers
answered k S [] = refl
answered k S (NotIpv4 ∷ packets) = answered k S packets
answered k S (BadHeader ∷ packets) = answered k S packets
answered k S (Flow a h ∷ packets) = ap (λ (es : List End). resolve S a h ∷ es) (answered k S packets)

same_grew : (p q u v : ℕ) (es fs : List End) (c s : Summary) → p ≡ u → q ≡ v → es ≡ fs → Grew p q es c s → Grew u v fs c s
same_grew p q u v es fs c s a b e h = subst (λ (x : ℕ). Grew x v fs c s) a (subst (λ (x : ℕ). Grew p x fs c s) b (subst (λ (xs : List End). Grew p q xs c s) e h))

-- so many packets more, all of them quiet
taking : (n : ℕ) (c : Summary) → Grew n n [] c (record c { packets = c.packets + n; quiet = c.quiet + n })
taking n c = record { packets = refl; quiet = refl; drops = omega arith; receives = omega arith; gleans = omega arith; adjs = omega arith; incompletes = omega arith }

-- a round closed
pub by_round : (c : Summary) (quiet : Bool) (o : Round) (S : Tables)
    → Grew (packets_in (closed quiet o S ∷ [])) (packets_in (quiet_ones (closed quiet o S ∷ []))) (quiet_ends (closed quiet o S ∷ [])) c (with_round c quiet o S)
by_round c false o S = record { packets = omega arith; quiet = omega arith; drops = omega arith; receives = omega arith; gleans = omega arith; adjs = omega arith; incompletes = omega arith }
by_round c true o S =
    let n = length o.taken in
    let results = answers o.opened S o.taken in
    let d : Summary = record c { packets = c.packets + n; quiet = c.quiet + n } in
    let all = grew_twice n n 0 0 [] (map (λ r. r.end) results) c d (with_ends d results) (taking n c) (by_results d results) in
    same_grew (n + 0) (n + 0) (packets_in (closed true o S ∷ [])) (packets_in (quiet_ones (closed true o S ∷ [])))
    (map (λ r. r.end) results) (quiet_ends (closed true o S ∷ [])) c (with_ends d results)
    (omega arith) (omega arith) (answered o.opened S o.taken ∙ sym (append-nil (ends_over S o.taken))) all

-- one round and more
more_packets : (x : Closed) (xs : List Closed) → packets_in (x ∷ xs) ≡ packets_in (x ∷ []) + packets_in xs
more_packets x xs = sum_by-append (λ c. length c.taken) (x ∷ []) xs

more_quiet : (x : Closed) (xs : List Closed) → packets_in (quiet_ones (x ∷ xs)) ≡ packets_in (quiet_ones (x ∷ [])) + packets_in (quiet_ones xs)
more_quiet x xs =
    elim (either x.quiet) [
      | inl is ↦ rw is (sum_by-append (λ c. length c.taken) (x ∷ []) (quiet_ones xs))
      | inr isnt ↦ rw isnt (omega arith)
    ]

more_ends : (x : Closed) (xs : List Closed) → quiet_ends (x ∷ xs) ≡ quiet_ends (x ∷ []) ++ quiet_ends xs
more_ends x xs =
    elim (either x.quiet) [
      | inl is ↦ rw is (ap (λ (es : List End). es ++ quiet_ends xs) (sym (append-nil (ends_over x.tables x.taken))))
      | inr isnt ↦ rw isnt refl
    ]

-- counts grew by these rounds
abbrev pub GrewBy : List Closed → Summary → Summary → Type 0
GrewBy rounds c s = Grew (packets_in rounds) (packets_in (quiet_ones rounds)) (quiet_ends rounds) c s

grew_more : (x : Closed) (xs : List Closed) (c d s : Summary) → GrewBy (x ∷ []) c d → GrewBy xs d s → GrewBy (x ∷ xs) c s
grew_more x xs c d s h k =
    let p = packets_in (x ∷ []) + packets_in xs in
    let q = packets_in (quiet_ones (x ∷ [])) + packets_in (quiet_ones xs) in
    same_grew p q (packets_in (x ∷ xs)) (packets_in (quiet_ones (x ∷ xs))) (quiet_ends (x ∷ []) ++ quiet_ends xs) (quiet_ends (x ∷ xs)) c s
    (sym (more_packets x xs)) (sym (more_quiet x xs)) (sym (more_ends x xs))
    (grew_twice (packets_in (x ∷ [])) (packets_in (quiet_ones (x ∷ []))) (packets_in xs) (packets_in (quiet_ones xs)) (quiet_ends (x ∷ [])) (quiet_ends xs) c d s h k)

-- what the router counts is apart
apart : (p q : ℕ) (es : List End) (c s : Summary) (r : Router) → Grew p q es c s → Grew p q es c (with_router s r)
apart p q es c s r h = record { packets = h.packets; quiet = h.quiet; drops = h.drops; receives = h.receives; gleans = h.gleans; adjs = h.adjs; incompletes = h.incompletes }

-- a line asks for packets or not
asked_cases : (asked : Option ℕ) → (asked ≡ None) ⊎ ((k : ℕ) × (asked ≡ Some k))
asked_cases None = inl refl
asked_cases (Some k) = inr (k, refl)

grown : (packets : Capture) (n : ℕ) (quiet : Bool) (o : Round) (S : Tables) (r : Router) (lines : List (List ℕ)) (c : Summary)
    → GrewBy (closed_from packets n quiet o S r lines) c (counted packets n quiet o S r lines c)
unfolding closed_from counted
grown packets n quiet o S r [] c =
    apart (packets_in (closed quiet o S ∷ [])) (packets_in (quiet_ones (closed quiet o S ∷ []))) (quiet_ends (closed quiet o S ∷ []))
    c (with_round c quiet o S) (end_turn r).0 (by_round c quiet o S)
grown packets n quiet o S r (line ∷ lines) c =
    elim (asked_cases (asks r line)) [
      | inl e ↦ rw e (grown packets (n + 1) false o S (turn_of n r line).0 lines c)
      | inr h ↦
          let later = opened_by h.0 packets.packets o r.changes in
          let d = with_round c quiet o S in
          rw h.1 (grew_more (closed quiet o S) (closed_from packets (n + 1) true later r.config.tables r lines)
          c d (counted packets (n + 1) true later r.config.tables r lines d)
          (by_round c quiet o S) (grown packets (n + 1) true later r.config.tables r lines d))
    ]

-- each end is of one of the five kinds
abbrev kinds : List End → ℕ
kinds es = count_by is_drop es + count_by is_receive es + count_by is_glean es + count_by is_adjacency es + count_by is_incomplete es

one_kind : (e : End) → kinds (e ∷ []) ≡ 1
one_kind ends.Drop = refl
one_kind ends.Receive = refl
one_kind (ends.Glean i) = refl
one_kind (ends.Hop i a None) = refl
one_kind (ends.Hop i a (Some m)) = refl

five : (es : List End) → kinds es ≡ length es
five [] = refl
five (e ∷ es) =
    omega (
      arith,
      five es,
      one_kind e,
      both_counts is_drop (e ∷ []) es,
      both_counts is_receive (e ∷ []) es,
      both_counts is_glean (e ∷ []) es,
      both_counts is_adjacency (e ∷ []) es,
      both_counts is_incomplete (e ∷ []) es,
    )

pub counts_are_of_quiet_flows : CountsAreOfQuietFlows
counts_are_of_quiet_flows room script packets =
    let h = grown packets 1 true first_round fresh (new_router room) script zero_counts in
    let es = quiet_ends (rounds_of room script packets) in
    record {
      packets = omega (arith, h.packets);
      quiet = omega (arith, h.quiet);
      drops = omega (arith, h.drops);
      receives = omega (arith, h.receives);
      gleans = omega (arith, h.gleans);
      adjs = omega (arith, h.adjs);
      incompletes = omega (arith, h.incompletes);
      all = omega (arith, h.drops, h.receives, h.gleans, h.adjs, h.incompletes, five es);
    }

-- packets that are all flows
abbrev pub AllFlows : List Packet → Type 0
AllFlows packets = AllByRecursion IsFlow packets

flows_taken : (n : ℕ) (packets : List Packet) → AllFlows packets → AllFlows (take n packets)
flows_taken zero packets h = tt
flows_taken (suc n) [] h = tt
flows_taken (suc n) (p ∷ packets) h = (h.0, flows_taken n packets h.1)

flows_left : (n : ℕ) (packets : List Packet) → AllFlows packets → AllFlows (drop n packets)
flows_left zero packets h = h
flows_left (suc n) [] h = tt
flows_left (suc n) (p ∷ packets) h = flows_left n packets h.1

all_end : (S : Tables) (packets : List Packet) → AllFlows packets → length (ends_over S packets) ≡ length packets
all_end S [] h = refl
all_end S (NotIpv4 ∷ packets) h = absurd h.0
all_end S (BadHeader ∷ packets) h = absurd h.0
all_end S (Flow a k ∷ packets) h = omega (arith, all_end S packets h.1)

-- each round took flows alone
taken_flows : (packets : Capture) → AllFlows packets.packets → (n : ℕ) (quiet : Bool) (o : Round) (S : Tables) (r : Router) (lines : List (List ℕ)) → AllFlows o.taken
    → AllByRecursion (λ c. AllFlows c.taken) (closed_from packets n quiet o S r lines)
unfolding closed_from
taken_flows packets h n quiet o S r [] t = (t, tt)
taken_flows packets h n quiet o S r (line ∷ lines) t =
    elim (asked_cases (asks r line)) [
      | inl e ↦ rw e (taken_flows packets h (n + 1) false o S (turn_of n r line).0 lines t)
      | inr k ↦
          let later = opened_by k.0 packets.packets o r.changes in
          rw k.1 (
            t,
            taken_flows packets h (n + 1) true later r.config.tables r lines
                (flows_taken k.0 (drop (next_packet o) packets.packets) (flows_left (next_packet o) packets.packets h)),
          )
    ]

alone_end : (x : Closed) → AllFlows x.taken → length (quiet_ends (x ∷ [])) ≡ packets_in (quiet_ones (x ∷ []))
alone_end x h =
    elim (either x.quiet) [
      | inl is ↦ rw (is, append-nil (ends_over x.tables x.taken)) (omega (arith, all_end x.tables x.taken h))
      | inr isnt ↦ rw isnt refl
    ]

all_quiet_end : (rounds : List Closed) → AllByRecursion (λ c. AllFlows c.taken) rounds → length (quiet_ends rounds) ≡ packets_in (quiet_ones rounds)
all_quiet_end [] h = refl
all_quiet_end (x ∷ xs) h =
    omega (arith, all_quiet_end xs h.1, more_quiet x xs, ap (λ (es : List End). length es) (more_ends x xs), length-append (quiet_ends (x ∷ [])) (quiet_ends xs), alone_end x h.0)

pub flows_add_up : FlowsAddUp
flows_add_up room script packets flows =
    let h = counts_are_of_quiet_flows room script packets in
    h.all ∙ all_quiet_end (rounds_of room script packets) (taken_flows packets flows 1 true first_round fresh (new_router room) script tt) ∙ sym h.quiet
