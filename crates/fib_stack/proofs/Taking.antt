-- A mark's record is taken, where there is one.
use Rattle.std.proofs.Common.{◌≡◌, ℕ, zero, suc, ◌+◌, ◌<◌, ◌≤◌, List, [], ◌∷◌, ◌++◌, length, map, take, get_or, refl, sym, ap, ◌∙◌, subst, arith, add-one}
use Rattle.std.specs.Prelude.{Option, Some, None, Result, Ok, Err, option_to_list}
use Rattle.std.proofs.lemmas.List.{length-map, length_push}
use Rattle.fib_addr.specs.Prefixes.{Prefix}
use Rattle.fib_resolve.specs.declared.aims.Marked.{Marked}
use Rattle.fib_pool.specs.declared.object.AdjacencyRecord.{AdjacencyRecord}
use Rattle.fib_stack_ledger.specs.declared.ledger.Use.{Use}
use Rattle.fib_stack_ledger.specs.Ledgers.{record_used}
use Rattle.fib_core_steady.specs.Names.{Names}
use Rattle.fib_plane_view.specs.Frames.{IsQuiet}
use Rattle.fib_plane_view.specs.Promise.{Promise, Serves}
use Rattle.fib_plane_view.specs.View.{View, IsPlane}
use Rattle.fib_stack.specs.Records.{TookAll, TookFor, record_for, records_for}
use Rattle.fib_stack.specs.declared.records.Want.{Want}
use Rattle.fib_stack.specs.declared.records.Want.TheVariants as wants
use Rattle.fib_stack.proofs.Clearing.{took_serves}
use Rattle.fib_stack.proofs.Leaving.{quiet_none, took_quiet}
use Rattle.fib_stack.proofs.Listing.{took_next}

-- what could not be had left all as it was
pub failed_same : (u v : View) (o : Option AdjacencyRecord) (us vs : List Use) (e : Want) → TookFor u v o us vs (Err e) → (v ≡ u) × (vs ≡ us)
failed_same u v None us vs e h = absurd h
failed_same u v (Some m) us vs e h = (h.0, h.1)

pub failed_kept : (u v : View) (o : Option AdjacencyRecord) (us vs : List Use) (e : Want) (r : Result Unit Want) → r ≡ Err e → TookFor u v o us vs r → (v ≡ u) × (vs ≡ us)
failed_kept u v o us vs e r is took = failed_same u v o us vs e (subst (λ (q : Result Unit Want). TookFor u v o us vs q) is took)

-- want of an object says that none is free
pub failed_short : (u v : View) (o : Option AdjacencyRecord) (us vs : List Use) (e : Want) (r : Result Unit Want) → r ≡ Err e → TookFor u v o us vs r → e ≡ wants.Object → u.free ≡ 0
failed_short u v o us vs e r is took = by_record o (subst (λ (q : Result Unit Want). TookFor u v o us vs q) is took)
  where
    by_record : (m : Option AdjacencyRecord) → TookFor u v m us vs (Err e) → e ≡ wants.Object → u.free ≡ 0
    by_record None h = absurd h
    by_record (Some m) h = h.2

pub took_quietly : (u v : View) (o : Option AdjacencyRecord) (us vs : List Use) (r : Result Unit Want) → IsPlane u → IsPlane v → TookFor u v o us vs r → (look : Prefix → Option ℕ) → IsQuiet look u v
took_quietly u v None us vs (Ok x) before plane h look = subst (λ (q : View). IsQuiet look u q) (sym h.0) (quiet_none look u)
took_quietly u v None us vs (Err e) before plane h look = absurd h
took_quietly u v (Some m) us vs (Ok x) before plane h look = took_quiet u v m h.0 before plane h.1 look
took_quietly u v (Some m) us vs (Err e) before plane h look = subst (λ (q : View). IsQuiet look u q) (sym h.0) (quiet_none look u)

pub took_serving : (p : Promise) (n : Names) (u v : View) (o : Option AdjacencyRecord) (us vs : List Use) (r : Result Unit Want) → TookFor u v o us vs r → Serves p n u → Serves p n v
took_serving p n u v None us vs (Ok x) h s = subst (λ (q : View). Serves p n q) (sym h.0) s
took_serving p n u v None us vs (Err e) h s = absurd h
took_serving p n u v (Some m) us vs (Ok x) h s = took_serves p n u v m h.0 h.1 s
took_serving p n u v (Some m) us vs (Err e) h s = subst (λ (q : View). Serves p n q) (sym h.0) s

pub took_step : (u v w : View) (us vs : List Use) (o : Option AdjacencyRecord) (x : Unit) → TookAll u v us → TookFor v w o us vs (Ok x) → TookAll u w vs
took_step u v w us vs None x took h = subst (λ (q : View). TookAll u q vs) (sym h.0) (subst (λ (q : List Use). TookAll u v q) (sym h.1) took)
took_step u v w us vs (Some m) x took h = subst (λ (q : List Use). TookAll u w q) (sym h.2) (took_next u v w us m h.0 took h.1)

map_push : (us : List Use) (y : Use) → map record_used (us ++ y ∷ []) ≡ map record_used us ++ record_used y ∷ []
map_push [] y = refl
map_push (u ∷ us) y = ap (λ l. record_used u ∷ l) (map_push us y)

append_none : (rs : List AdjacencyRecord) → rs ≡ rs ++ []
append_none [] = refl
append_none (r ∷ rs) = ap (λ l. r ∷ l) (append_none rs)

records_step : (v w : View) (us vs : List Use) (o : Option AdjacencyRecord) (x : Unit) → TookFor v w o us vs (Ok x) → map record_used vs ≡ map record_used us ++ option_to_list o
records_step v w us vs None x h = ap (map record_used) h.1 ∙ append_none (map record_used us)
records_step v w us vs (Some m) x h = ap (map record_used) h.2 ∙ map_push us (record { interface = m.interface; next_hop = m.next_hop; mac = m.mac; object = h.0 })

assoc : (a b c : List AdjacencyRecord) → a ++ (b ++ c) ≡ (a ++ b) ++ c
assoc [] b c = refl
assoc (x ∷ a) b c = ap (λ l. x ∷ l) (assoc a b c)

pub records_take : (ms : List Marked) (i : ℕ) (d : Marked) → i < length ms → records_for (take (suc i) ms) ≡ records_for (take i ms) ++ option_to_list (record_for (get_or ms i d).aim)
records_take [] i d lt = absurd (omega arith)
records_take (m ∷ ms) zero d lt = sym (append_none (option_to_list (record_for m.aim)))
records_take (m ∷ ms) (suc i) d lt =
    let lt' : i < length ms = omega arith in
    ap (λ l. option_to_list (record_for m.aim) ++ l) (records_take ms i d lt') ∙ assoc (option_to_list (record_for m.aim)) (records_for (take i ms)) (option_to_list (record_for (get_or ms i d).aim))

pub records_next : (v w : View) (us vs : List Use) (ms : List Marked) (i : ℕ) (m : Marked) (x : Unit) → i < length ms → get_or ms i m ≡ m → map record_used us ≡ records_for (take i ms) → TookFor v w (record_for m.aim) us vs (Ok x) → map record_used vs ≡ records_for (take (i + 1) ms)
records_next v w us vs ms i m x lt is before h =
    records_step v w us vs (record_for m.aim) x h
    ∙ ap (λ l. l ++ option_to_list (record_for m.aim)) before
    ∙ sym (rw add-one (records_take ms i m lt ∙ ap (λ (q : Marked). records_for (take i ms) ++ option_to_list (record_for q.aim)) is))

pub few_step : (v w : View) (us vs : List Use) (o : Option AdjacencyRecord) (x : Unit) → TookFor v w o us vs (Ok x) → length vs ≤ length us + 1
few_step v w us vs None x h = let e = ap length h.1 in omega (arith, e)
few_step v w us vs (Some m) x h = let e = ap length h.2 in omega (arith, e, length_push us (record { interface = m.interface; next_hop = m.next_hop; mac = m.mac; object = h.0 }))

-- after what could not be had, all is as the records before it were taken
pub failed_took : (u0 u v : View) (o : Option AdjacencyRecord) (us vs : List Use) (e : Want) (r : Result Unit Want) → r ≡ Err e → TookAll u0 u us → TookFor u v o us vs r → TookAll u0 v vs
failed_took u0 u v o us vs e r is took h =
    let same = failed_same u v o us vs e (subst (λ (q : Result Unit Want). TookFor u v o us vs q) is h) in
    subst (λ (w : View). TookAll u0 w vs) (sym same.0) (subst (λ (l : List Use). TookAll u0 u l) (sym same.1) took)

one_record : (o : Option AdjacencyRecord) (rs : List AdjacencyRecord) → length (option_to_list o ++ rs) ≤ length rs + 1
one_record None rs = omega arith
one_record (Some m) rs = omega arith

records_few : (ms : List Marked) → length (records_for ms) ≤ length ms
records_few [] = omega arith
records_few (m ∷ ms) = omega (arith, one_record (record_for m.aim) (records_for ms), records_few ms)

pub uses_few : (us : List Use) (ms : List Marked) → map record_used us ≡ records_for ms → length us ≤ length ms
uses_few us ms e = let l = ap length e in omega (arith, l, length-map us record_used, records_few ms)
