-- Objects that go to records without users: as many as there are such records, each counted once.
use Rattle.std.proofs.Common.{◌≡◌, ◌≢◌, ℕ, zero, suc, ◌+◌, ◌<◌, ◌≤◌, inl, inr, Bool, true, false, cond, List, [], ◌∷◌, ◌++◌, length, map, take, get_or, refl, sym, ap, ◌∙◌, subst, arith, add-one}
use Rattle.std.specs.Prelude.{Contains, Option, Some, None, Ok, option_to_list}
use Rattle.std.proofs.lemmas.List.Elements.{Contains-append_cases, Contains-append_left, Contains-append_right}
use native.Mathlib.Decide.{ℕ_discrete}
use mathlib.Core.Logic.{dite}
use Rattle.fib_base_list.proofs.Lists.{Contains-nil, each-weaker}
use Rattle.fib_resolve.specs.declared.aims.Marked.{Marked}
use Rattle.fib_pool.specs.declared.object.AdjacencyRecord.{AdjacencyRecord}
use Rattle.fib_stack_ledger.specs.declared.ledger.Use.{Use}
use Rattle.fib_stack_ledger.specs.Ledgers.{record_used, same_record, times}
use Rattle.fib_plane_view.specs.View.{View, HasRoom}
use Rattle.fib_stack.specs.Records.{AreNew, LacksFor, TookAll, TookFor, TookNew, record_for, records_for}
use Rattle.fib_stack.proofs.Listing.{record_self}
use Rattle.fib_stack.proofs.Taking.{records_take}

-- a record of the list has a user for it
one_at_least : (b : Bool) (n : ℕ) → b ≡ true → 0 < cond b 1 0 + n
one_at_least true n e = omega arith
one_at_least false n e = absurd (cc)

more_at_least : (b : Bool) (n : ℕ) → 0 < n → 0 < cond b 1 0 + n
more_at_least true n lt = omega (arith, lt)
more_at_least false n lt = omega (arith, lt)

pub listed_times : (us : List Use) (m : AdjacencyRecord) → Contains (map record_used us) m → 0 < times m us
listed_times [] m c = absurd (Contains-nil m c)
listed_times (u ∷ us) m (zero, lt, is) = one_at_least (same_record m (record_used u)) (times m us) (subst (λ (r : AdjacencyRecord). same_record m r ≡ true) (sym is) (record_self m))
listed_times (u ∷ us) m (suc k, lt, is) = more_at_least (same_record m (record_used u)) (times m us) (listed_times us m (k, omega (arith, lt), is))

-- in a longer list
pub new_in : (u : View) (rs qs ms : List AdjacencyRecord) → ((m : AdjacencyRecord) → Contains rs m → Contains qs m) → AreNew u rs ms → AreNew u qs ms
new_in u rs qs ms more h = record { apart = h.apart; new = each-weaker (λ m. (u.users m ≡ 0) × Contains rs m) (λ m. (u.users m ≡ 0) × Contains qs m) (λ m q. (q.0, more m q.1)) ms h.new }

taken_in : (ms : List Marked) (i : ℕ) (m : AdjacencyRecord) → Contains (records_for (take i ms)) m → Contains (records_for ms) m
taken_in [] zero m c = c
taken_in [] (suc i) m c = c
taken_in (x ∷ ms) zero m c = absurd (Contains-nil m c)
taken_in (x ∷ ms) (suc i) m c = elim (Contains-append_cases (option_to_list (record_for x.aim)) (records_for (take i ms)) m c) [
  | inl here ↦ Contains-append_left (option_to_list (record_for x.aim)) (records_for ms) m here
  | inr later ↦ Contains-append_right (option_to_list (record_for x.aim)) (records_for ms) m (taken_in ms i m later)
]

pub new_none : (u : View) (rs : List AdjacencyRecord) → TookNew u u rs 0
new_none u rs = ([], record { apart = tt; new = tt }, omega arith)

-- the next record: it takes an object only where it is new
took_step : (u0 u v : View) (us vs : List Use) (rs : List AdjacencyRecord) (o : Option AdjacencyRecord) (x : Unit) → TookAll u0 u us → map record_used us ≡ rs → TookNew u0 u rs 0 → TookFor u v o us vs (Ok x) → TookNew u0 v (rs ++ option_to_list o) 0
took_step u0 u v us vs rs None x took listed h step =
    let free : v.free ≡ u.free = ap (λ (w : View). w.free) step.0 in
    (h.0, new_in u0 rs (rs ++ []) h.0 (λ m c. Contains-append_left rs [] m c) h.1, omega (arith, h.2, free))
took_step u0 u v us vs rs (Some m) x took listed h step =
    let more : AreNew u0 (rs ++ m ∷ []) h.0 = new_in u0 rs (rs ++ m ∷ []) h.0 (λ r c. Contains-append_left rs (m ∷ []) r c) h.1 in
    dite (ℕ_discrete (u.users m) 0)
    (λ none.
    let without : u0.users m ≡ 0 = omega (arith, none, took.users m) in
    let last : Contains (rs ++ m ∷ []) m = Contains-append_right rs (m ∷ []) m (0, omega arith, refl) in (
      m ∷ h.0,
      record {
        apart = (each-weaker (λ r. (u0.users r ≡ 0) × Contains rs r) (λ r. m ≢ r) (λ r q is. let some : 0 < times r us = listed_times us r (subst (λ (l : List AdjacencyRecord). Contains l r) (sym listed) q.1) in let mine : 0 < times m us = subst (λ (k : AdjacencyRecord). 0 < times k us) (sym is) some in omega (arith, none, mine, took.users m)) h.0 h.1.new, h.1.apart);
        new = ((without, last), more.new);
      },
      omega (arith, h.2, step.1.free),
    ))
    (λ some. (h.0, more, (let same = step.1.same (omega (arith, some)) in omega (arith, h.2, same))))

pub new_next : (u0 u v : View) (us vs : List Use) (ms : List Marked) (i : ℕ) (m : Marked) (x : Unit) → i < length ms → get_or ms i m ≡ m → TookAll u0 u us → map record_used us ≡ records_for (take i ms) → TookNew u0 u (records_for (take i ms)) 0 → TookFor u v (record_for m.aim) us vs (Ok x) → TookNew u0 v (records_for (take (i + 1) ms)) 0
new_next u0 u v us vs ms i m x lt is took listed h step =
    subst (λ (l : List AdjacencyRecord). TookNew u0 v l 0)
    (sym (rw add-one (records_take ms i m lt ∙ ap (λ (q : Marked). records_for (take i ms) ++ option_to_list (record_for q.aim)) is)))
    (took_step u0 u v us vs (records_for (take i ms)) (record_for m.aim) x took listed h step)

pub new_all : (u v : View) (ms : List Marked) (i k : ℕ) → TookNew u v (records_for (take i ms)) k → TookNew u v (records_for ms) k
new_all u v ms i k h = (h.0, new_in u (records_for (take i ms)) (records_for ms) h.0 (taken_in ms i) h.1, h.2)

-- where none is free for the next one, there are fewer than the new records need
pub lacks_next : (u v : View) (ms : List Marked) (i : ℕ) → TookNew u v (records_for (take i ms)) 0 → v.free ≡ 0 → LacksFor u (records_for ms) 1
lacks_next u v ms i h none = let a = new_all u v ms i 0 h in (a.0, a.1, omega (arith, a.2, none))

-- after room was made, and as other objects are taken
pub new_roomy : (u v : View) (rs ms : List AdjacencyRecord) → HasRoom u v → AreNew v rs ms → AreNew u rs ms
new_roomy u v rs ms h new = subst (λ (w : View). AreNew w rs ms → AreNew u rs ms) (sym h.same) (λ n. record { apart = n.apart; new = n.new }) new

pub new_then : (u0 u v w : View) (rs qs : List AdjacencyRecord) (k : ℕ) → HasRoom u0 u → rs ≡ qs → TookNew u v rs 0 → v.free ≤ w.free + k → TookNew u0 w qs k
new_then u0 u v w rs qs k room is h free =
    let same = ap (λ (x : View). x.free) room.same in
    (h.0, subst (λ (l : List AdjacencyRecord). AreNew u0 l h.0) is (new_roomy u0 u rs h.0 room h.1), omega (arith, h.2, free, same))

pub lacks_roomy : (u0 u : View) (rs qs : List AdjacencyRecord) (k n : ℕ) → HasRoom u0 u → rs ≡ qs → k ≤ n → LacksFor u rs k → LacksFor u0 qs n
lacks_roomy u0 u rs qs k n room is le h =
    let same = ap (λ (x : View). x.free) room.same in
    (h.0, subst (λ (l : List AdjacencyRecord). AreNew u0 l h.0) is (new_roomy u0 u rs h.0 room h.1), omega (arith, h.2, same, le))

pub lacks_then : (u0 u v : View) (rs qs : List AdjacencyRecord) (k : ℕ) → HasRoom u0 u → rs ≡ qs → TookNew u v rs 0 → v.free < k → LacksFor u0 qs k
lacks_then u0 u v rs qs k room is h less =
    let same = ap (λ (x : View). x.free) room.same in
    (h.0, subst (λ (l : List AdjacencyRecord). AreNew u0 l h.0) is (new_roomy u0 u rs h.0 room h.1), omega (arith, h.2, same, less))
