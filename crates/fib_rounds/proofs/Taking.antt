-- What a tap has taken of a run so far, and what is left to it.
use Rattle.std.proofs.Common.{◌≡◌, ◌≤◌, ◌++◌, ◌∷◌, [], ℕ, ◌+◌, ◌-◌, List, Option, Some, None, length, drop, sym, ap, ◌∙◌, subst, refl, arith}
use Rattle.std.proofs.lemmas.List.{append_assoc, append-nil, take-append-drop, drop-drop, length-take, length-drop}
use Rattle.fib_core_results.specs.declared.record.Record.{Record}
use Rattle.fib_capture.specs.declared.packet.Packet.{Packet}
use Rattle.fib_capture.specs.declared.packet.Packet.TheVariants.{Flow, NotIpv4, BadHeader}
use Rattle.fib_worker_crew.specs.Packets.{Matched, span}
use Rattle.fib_worker_crew.specs.Results.{numbered}
use Rattle.fib_worker_crew.proofs.Matching.{numbered_append}
use Rattle.fib_rounds_taps.specs.Taps.{Pairs, Takes, TakesSome}
use Rattle.fib_rounds_taps.proofs.Moves.{Takes-none, Takes-more, Takes-cut}

-- a round takes the packets from one place up to another; the others are later ones
pub numbered_round : (P : ℕ → ℕ → Record → Type 0) (ps : List Packet) (first to : ℕ) (mine later : List Record) → first ≤ to → to ≤ length ps → Matched P (span ps first to) mine
    → numbered first (drop first ps) (mine ++ later) ≡ numbered first (span ps first to) mine ++ numbered to (drop to ps) later
numbered_round P ps first to mine later le inside m =
    let cut : span ps first to ++ drop to ps ≡ drop first ps =
    ap (λ (n : ℕ). span ps first to ++ drop n ps) (let e : to ≡ first + (to - first) = omega (arith, le) in e) ∙ (ap (λ (qs : List Packet). span ps first to ++ qs) (sym (drop-drop (to - first) first ps)) ∙ take-append-drop (to - first) (drop first ps)) in
    let at : first + length (span ps first to) ≡ to = omega (arith, length-take (to - first) (drop first ps), length-drop first ps) in
    ap (λ qs. numbered first qs (mine ++ later)) (sym cut)
    ∙ (numbered_append P first (span ps first to) (drop to ps) mine later m ∙ ap (λ k. numbered first (span ps first to) mine ++ numbered k (drop to ps) later) at)

-- no result, no pair
pub numbered_none : (n : ℕ) (ps : List Packet) → numbered n ps [] ≡ []
numbered_none n [] = refl
numbered_none n (NotIpv4 ∷ ps) = numbered_none (n + 1) ps
numbered_none n (BadHeader ∷ ps) = numbered_none (n + 1) ps
numbered_none n (Flow a h ∷ ps) = refl

-- the pairs of the results to come: from the next round's first packet on, or after the last round
abbrev pub left_to : List Packet → Option ℕ → List Record → Pairs
left_to ps None later = []
left_to ps (Some first) later = numbered first (drop first ps) later

-- after the last round no result comes
abbrev pub Fits : Option ℕ → List Record → Type 0
Fits None later = later ≡ []
Fits (Some first) later = Unit {0}

-- so many results were printed, and the tap has taken their pairs
pub record Went (ps : List Packet) (next : Option ℕ) (results : List Record) (before now : Option Pairs) : Type 0 where
  pub pairs : Pairs
  pub told : Takes before now pairs
  pub on : (later : List Record) → Fits next later → numbered 0 ps (results ++ later) ≡ pairs ++ left_to ps next later

-- the next round opens where this one ends, or none does
abbrev pub Goes : ℕ → Option ℕ → Type 0
Goes to None = Unit {0}
Goes to (Some first) = first ≡ to

-- after one more round
pub went_more : (P : ℕ → ℕ → Record → Type 0) (ps : List Packet) (first to : ℕ) (next : Option ℕ) (results mine : List Record) (before mid now : Option Pairs)
    → Went ps (Some first) results before mid → first ≤ to → to ≤ length ps → Matched P (span ps first to) mine → Goes to next
    → Takes mid now (numbered first (span ps first to) mine) → Went ps next (results ++ mine) before now
went_more P ps first to next results mine before mid now w le inside m goes took =
    let here = numbered first (span ps first to) mine in
    record {
      pairs = w.pairs ++ here;
      told = Takes-more before mid now w.pairs here w.told took;
      on = λ later fits.
          ap (numbered 0 ps) (append_assoc results mine later) ∙ (w.on (mine ++ later) tt
          ∙ (ap (λ t. w.pairs ++ t) (numbered_round P ps first to mine later le inside m ∙ ap (λ t. here ++ t) (rest next later goes fits))
          ∙ sym (append_assoc w.pairs here (left_to ps next later))));
    }
  where
    rest : (next : Option ℕ) (later : List Record) → Goes to next → Fits next later → numbered to (drop to ps) later ≡ left_to ps next later
    rest None later g fits = ap (numbered to (drop to ps)) fits ∙ numbered_none to (drop to ps)
    rest (Some x) later g fits = ap (λ (n : ℕ). numbered n (drop n ps) later) (sym g)

-- a fault within a round: some of its pairs were taken, whatever would have followed
pub went_cut : (P : ℕ → ℕ → Record → Type 0) (ps : List Packet) (first to : ℕ) (results mine later : List Record) (before mid now : Option Pairs)
    → Went ps (Some first) results before mid → first ≤ to → to ≤ length ps → Matched P (span ps first to) mine
    → TakesSome mid now (numbered first (span ps first to) mine) → TakesSome before now (numbered 0 ps (results ++ (mine ++ later)))
went_cut P ps first to results mine later before mid now w le inside m some =
    Takes-cut before mid now w.pairs (numbered first (span ps first to) mine) (numbered to (drop to ps) later) (numbered 0 ps (results ++ (mine ++ later))) w.told some
    (sym (w.on (mine ++ later) tt ∙ ap (λ t. w.pairs ++ t) (numbered_round P ps first to mine later le inside m)))

-- a fault before a round's lines were written
pub went_stops : (ps : List Packet) (next : Option ℕ) (results later : List Record) (before now : Option Pairs) → Went ps next results before now → Fits next later
    → TakesSome before now (numbered 0 ps (results ++ later))
went_stops ps next results later before now w fits =
    Takes-cut before now now w.pairs [] (left_to ps next later) (numbered 0 ps (results ++ later)) w.told (0, Takes-none now) (sym (w.on later fits))

-- the end
pub went_ends : (ps : List Packet) (results : List Record) (before now : Option Pairs) → Went ps None results before now → Takes before now (numbered 0 ps (results ++ []))
went_ends ps results before now w = subst (Takes before now) (sym (w.on [] refl ∙ append-nil w.pairs)) w.told

-- before the first round
pub went_first : (ps : List Packet) (before : Option Pairs) → Went ps (Some 0) [] before before
went_first ps before = record { pairs = []; told = Takes-none before; on = λ later fits. refl }
