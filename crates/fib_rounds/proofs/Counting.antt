-- Counts of ends.
use Rattle.std.proofs.Common.{◌≡◌, ◌<◌, ◌≤◌, ◌+◌, ◌-◌, ◌∷◌, ◌++◌, [], ℕ, List, length, drop, arith, refl, Some, None, ap}
use Rattle.std.specs.Prelude.{slice_index_or}
use Rattle.std.proofs.lemmas.List.{drop_more, drop_all}
use Rattle.fib_resolve.specs.declared.types.End.{End}
use Rattle.fib_resolve.specs.declared.types.End.TheVariants as ends
use Rattle.fib_core_results.specs.declared.record.Record.{Record}
use Rattle.fib_worker_crew.specs.Results.{results_of}
use Rattle.fib_rounds.specs.declared.summary.Summary.{Summary}
use Rattle.fib_rounds.specs.Summaries.{with_end, with_ends}
use Rattle.fib_rounds.specs.Counts.{IsSmall}

pub with_end_small : (n : ℕ) (c : Summary) (e : End) → IsSmall n c → IsSmall (n + 1) (with_end c e)
with_end_small n c ends.Drop h = record { packets = omega (arith, h.packets); quiet = omega (arith, h.quiet); drops = omega (arith, h.drops); receives = omega (arith, h.receives); gleans = omega (arith, h.gleans); adjs = omega (arith, h.adjs); incompletes = omega (arith, h.incompletes) }
with_end_small n c ends.Receive h = record { packets = omega (arith, h.packets); quiet = omega (arith, h.quiet); drops = omega (arith, h.drops); receives = omega (arith, h.receives); gleans = omega (arith, h.gleans); adjs = omega (arith, h.adjs); incompletes = omega (arith, h.incompletes) }
with_end_small n c (ends.Glean i) h = record { packets = omega (arith, h.packets); quiet = omega (arith, h.quiet); drops = omega (arith, h.drops); receives = omega (arith, h.receives); gleans = omega (arith, h.gleans); adjs = omega (arith, h.adjs); incompletes = omega (arith, h.incompletes) }
with_end_small n c (ends.Hop i a None) h = record { packets = omega (arith, h.packets); quiet = omega (arith, h.quiet); drops = omega (arith, h.drops); receives = omega (arith, h.receives); gleans = omega (arith, h.gleans); adjs = omega (arith, h.adjs); incompletes = omega (arith, h.incompletes) }
with_end_small n c (ends.Hop i a (Some m)) h = record { packets = omega (arith, h.packets); quiet = omega (arith, h.quiet); drops = omega (arith, h.drops); receives = omega (arith, h.receives); gleans = omega (arith, h.gleans); adjs = omega (arith, h.adjs); incompletes = omega (arith, h.incompletes) }

pub smaller : (n m : ℕ) (c : Summary) → n ≤ m → IsSmall n c → IsSmall m c
smaller n m c le h = record { packets = omega (arith, le, h.packets); quiet = omega (arith, le, h.quiet); drops = omega (arith, le, h.drops); receives = omega (arith, le, h.receives); gleans = omega (arith, le, h.gleans); adjs = omega (arith, le, h.adjs); incompletes = omega (arith, le, h.incompletes) }

-- the counts after the first of the results that are left
pub with_ends_head : (c : Summary) (list : List (ℕ × Record)) (i : ℕ) (d : ℕ × Record) → i < length list
    → with_ends c (results_of (drop i list)) ≡ with_ends (with_end c (slice_index_or list i d).1.end) (results_of (drop (i + 1) list))
unfolding with_ends
with_ends_head c list i d lt = ap (λ xs. with_ends c (results_of xs)) (drop_more list i d lt)

pub ends_none : (c : Summary) (list : List (ℕ × Record)) (i : ℕ) → length list ≤ i → with_ends c (results_of (drop i list)) ≡ c
unfolding with_ends
ends_none c list i le = ap (λ xs. with_ends c (results_of xs)) (drop_all i list le)

pub with_no_ends : (c : Summary) → with_ends c [] ≡ c
unfolding with_ends
with_no_ends c = refl

pub with_ends_append : (c : Summary) (xs ys : List Record) → with_ends c (xs ++ ys) ≡ with_ends (with_ends c xs) ys
unfolding with_ends
with_ends_append c [] ys = refl
with_ends_append c (x ∷ xs) ys = with_ends_append (with_end c x.end) xs ys

pub counted_small : (c : Summary) (first to taken : ℕ) → first ≤ to → taken ≡ to - first → IsSmall (first + first) c
    → IsSmall (first + to) (record { accepted = c.accepted; refused = c.refused; packets = c.packets + taken; quiet = c.quiet + taken; drops = c.drops; receives = c.receives; gleans = c.gleans; adjs = c.adjs; incompletes = c.incompletes })
counted_small c first to taken order is h = record {
  packets = omega (arith, order, is, h.packets);
  quiet = omega (arith, order, is, h.quiet);
  drops = omega (arith, order, h.drops);
  receives = omega (arith, order, h.receives);
  gleans = omega (arith, order, h.gleans);
  adjs = omega (arith, order, h.adjs);
  incompletes = omega (arith, order, h.incompletes);
}
