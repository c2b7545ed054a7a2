-- Spans of packets, and the texts of their lines.
use Rattle.std.proofs.Common.{◌≡◌, ◌<◌, ◌≤◌, ◌+◌, ◌-◌, ◌++◌, ◌∷◌, [], ℕ, List, length, take, drop, arith, refl, ap, ◌∙◌, sym, zero, suc}
use Rattle.std.specs.Prelude.{slice_index_or, slice_get, min, Some}
use Rattle.std.proofs.lemmas.List.{length-drop, append_assoc}
use Rattle.fib_resolve.specs.declared.types.Tables.{Tables}
use Rattle.fib_core_results.specs.declared.record.Record.{Record}
use Rattle.fib_worker_crew.specs.Packets.{Matched, IsOf, span}
use Rattle.fib_worker_crew.specs.Results.{results_of}
use Rattle.fib_print.specs.Packets.{packet_text, not_ipv4_text, bad_header_text}
use Rattle.fib_capture.specs.declared.packet.Packet.{Packet}
use Rattle.fib_capture.specs.declared.packet.Packet.TheVariants.{Flow, NotIpv4, BadHeader}
use Rattle.fib_worker_crew.proofs.Spans.{length_span, span_head, span_join, span_none}
use Rattle.fib_rounds.specs.Packets.{packets_text}

-- the packets that are left, or fewer
pub span_taken : (ps : List Packet) (a n : ℕ) → a ≤ length ps → span ps a (a + min n (length ps - a)) ≡ take n (drop a ps)
span_taken ps a n le =
    let e : a + min n (length ps - a) - a ≡ min n (length (drop a ps)) = omega (arith, length-drop a ps) in
    ap (λ k. take k (drop a ps)) e ∙ take_min n (drop a ps)
  where
    take_min : (n : ℕ) (xs : List Packet) → take (min n (length xs)) xs ≡ take n xs
    take_min zero xs = let e : min 0 (length xs) ≡ 0 = omega arith in rw e refl
    take_min (suc n) [] = let e : min (suc n) (length {A = Packet} []) ≡ 0 = omega arith in rw e refl
    take_min (suc n) (x ∷ xs) = let e : min (suc n) (length (x ∷ xs)) ≡ suc (min n (length xs)) = omega arith in rw e (ap (λ ys. x ∷ ys) (take_min n xs))

-- ---- lines of packets

pub text_none : (T : Tables) (n : ℕ) (ps : List Packet) (a b : ℕ) (rs : List Record) → a ≡ b → packets_text T n (span ps a b) rs ≡ []
unfolding packets_text
text_none T n ps a b rs e = ap (λ qs. packets_text T n qs rs) (ap (λ k. span ps k b) e ∙ span_none ps b)

-- ---- results of spans

pub length_results : (list : List (ℕ × Record)) → length (results_of list) ≡ length list
length_results [] = refl
length_results (p ∷ list) = omega (arith, length_results list)

pub matched_few : (P : ℕ → ℕ → Record → Type 0) (ps : List Packet) (rs : List Record) → Matched P ps rs → length rs ≤ length ps
matched_few P [] [] m = omega arith
matched_few P [] (r ∷ rs) m = absurd m
matched_few P (NotIpv4 ∷ ps) rs m = omega (arith, matched_few P ps rs m)
matched_few P (BadHeader ∷ ps) rs m = omega (arith, matched_few P ps rs m)
matched_few P (Flow a h ∷ ps) [] m = absurd m
matched_few P (Flow a h ∷ ps) (r ∷ rs) m = omega (arith, matched_few P ps rs m.1)

-- the lines of two parts of the packets
pub text_append : (T : Tables) (n : ℕ) (ps qs : List Packet) (rs ss : List Record) → Matched IsOf ps rs
    → packets_text T n (ps ++ qs) (rs ++ ss) ≡ packets_text T n ps rs ++ packets_text T (n + length ps) qs ss
unfolding packets_text
text_append T n [] qs [] ss m = ap (λ k. packets_text T k qs ss) same
  where
    same : n ≡ n + length {A = Packet} []
    same = omega arith
text_append T n [] qs (r ∷ rs) ss m = absurd m
text_append T n (NotIpv4 ∷ ps) qs rs ss m =
    let e : (n + 1) + length ps ≡ n + length (NotIpv4 ∷ ps) = omega arith in
    ap (λ t. not_ipv4_text n ++ t) (text_append T (n + 1) ps qs rs ss m) ∙ (sym (append_assoc (not_ipv4_text n) _ _)
    ∙ ap (λ k. (not_ipv4_text n ++ packets_text T (n + 1) ps rs) ++ packets_text T k qs ss) e)
text_append T n (BadHeader ∷ ps) qs rs ss m =
    let e : (n + 1) + length ps ≡ n + length (BadHeader ∷ ps) = omega arith in
    ap (λ t. bad_header_text n ++ t) (text_append T (n + 1) ps qs rs ss m) ∙ (sym (append_assoc (bad_header_text n) _ _)
    ∙ ap (λ k. (bad_header_text n ++ packets_text T (n + 1) ps rs) ++ packets_text T k qs ss) e)
text_append T n (Flow a h ∷ ps) qs [] ss m = absurd m
text_append T n (Flow a h ∷ ps) qs (r ∷ rs) ss m =
    let e : (n + 1) + length ps ≡ n + length (Flow a h ∷ ps) = omega arith in
    ap (λ t. packet_text T n r ++ t) (text_append T (n + 1) ps qs rs ss m.1) ∙ (sym (append_assoc (packet_text T n r) _ _)
    ∙ ap (λ k. (packet_text T n r ++ packets_text T (n + 1) ps rs) ++ packets_text T k qs ss) e)

-- the lines of the next frame, and the rest
pub text_next : (T : Tables) (ps : List Packet) (at next to : ℕ) (rs ss : List Record) → at ≤ next → next ≤ to → to ≤ length ps → Matched IsOf (span ps at next) rs
    → packets_text T at (span ps at to) (rs ++ ss) ≡ packets_text T at (span ps at next) rs ++ packets_text T next (span ps next to) ss
text_next T ps at next to rs ss le me lt m =
    let e : at + length (span ps at next) ≡ next = omega (arith, le, length_span ps at next le (omega (arith, me, lt))) in
    ap (λ qs. packets_text T at qs (rs ++ ss)) (sym (span_join ps at next to le me))
    ∙ (text_append T at (span ps at next) (span ps next to) rs ss m ∙ ap (λ n. packets_text T at (span ps at next) rs ++ packets_text T n (span ps next to) ss) e)

pub text_at_not_ipv4 : (T : Tables) (n : ℕ) (ps : List Packet) (a b : ℕ) (rs : List Record) → a < b → slice_get ps a ≡ Some NotIpv4
    → packets_text T n (span ps a b) rs ≡ not_ipv4_text n ++ packets_text T (n + 1) (span ps (a + 1) b) rs
unfolding packets_text
text_at_not_ipv4 T n ps a b rs lt is = ap (λ qs. packets_text T n qs rs) (span_head ps a b NotIpv4 lt is)

pub text_at_bad_header : (T : Tables) (n : ℕ) (ps : List Packet) (a b : ℕ) (rs : List Record) → a < b → slice_get ps a ≡ Some BadHeader
    → packets_text T n (span ps a b) rs ≡ bad_header_text n ++ packets_text T (n + 1) (span ps (a + 1) b) rs
unfolding packets_text
text_at_bad_header T n ps a b rs lt is = ap (λ qs. packets_text T n qs rs) (span_head ps a b BadHeader lt is)

pub text_at_flow : (T : Tables) (n : ℕ) (ps : List Packet) (a b x h : ℕ) (r : Record) (rs : List Record) → a < b → slice_get ps a ≡ Some (Flow x h)
    → packets_text T n (span ps a b) (r ∷ rs) ≡ packet_text T n r ++ packets_text T (n + 1) (span ps (a + 1) b) rs
unfolding packets_text
text_at_flow T n ps a b x h r rs lt is = ap (λ qs. packets_text T n qs (r ∷ rs)) (span_head ps a b (Flow x h) lt is)

pub text_at_missing : (T : Tables) (n : ℕ) (ps : List Packet) (a b x h : ℕ) → a < b → slice_get ps a ≡ Some (Flow x h) → packets_text T n (span ps a b) [] ≡ []
unfolding packets_text
text_at_missing T n ps a b x h lt is = ap (λ qs. packets_text T n qs []) (span_head ps a b (Flow x h) lt is)

pub short_none : {A : Type 0} (xs : List A) → length xs < 1 → xs ≡ []
short_none [] h = refl
short_none (x ∷ xs) h = absurd (omega (arith, h))

pub append_step : (text new out rest all : List ℕ) → new ≡ text ++ out → text ++ (out ++ rest) ≡ all → new ++ rest ≡ all
append_step text new out rest all grown is = ap (λ t. t ++ rest) grown ∙ (append_assoc text out rest ∙ is)

pub first_rest : (xs : List (ℕ × Record)) (x : ℕ × Record) → 1 ≤ length xs → x ≡ slice_index_or xs 0 x → xs ≡ x ∷ drop 1 xs
first_rest [] x h is = absurd (omega (arith, h))
first_rest (y ∷ xs) x h is = ap (λ z. z ∷ xs) (sym is)
