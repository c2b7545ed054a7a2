-- Frames and lines, one result after the other.
use Rattle.std.proofs.Common.{◌≡◌, ◌++◌, ◌∷◌, ◌<◌, ◌≤◌, [], ℕ, ◌+◌, List, Some, Bool, true, false, length, drop, refl, sym, ap, ◌∙◌}
use Rattle.std.specs.Prelude.{not, flat_map, slice_index_or, cond}
use Rattle.std.proofs.lemmas.List.{append-nil, append_assoc, drop_more, drop_all}
use Rattle.fib_capture.specs.Spans.{Span}
use Rattle.fib_capture.specs.Written.{record_bytes}
use Rattle.fib_capture.specs.declared.packet.Order.TheVariants.{Little}
use Rattle.fib_rewrite.specs.Sent.{has_expired, sent, sent_record}
use Rattle.fib_rounds_taps.specs.Taps.{Pairs}
use Rattle.fib_core_results.specs.declared.record.Record.{Record}
use Rattle.fib_resolve.specs.declared.types.End.{End}
use Rattle.fib_resolve.specs.declared.types.End.TheVariants as ends
use Rattle.fib_frames.specs.Frames.{sent_by, expires_by, frames_in, expired_in, records_in, expired_text, expired_line, packet_in}

pub flat_append : {A : Type 0} (f : A → List ℕ) (xs ys : List A) → flat_map f (xs ++ ys) ≡ flat_map f xs ++ flat_map f ys
flat_append f [] ys = refl
flat_append f (x ∷ xs) ys = ap (λ t. f x ++ t) (flat_append f xs ys) ∙ sym (append_assoc (f x) (flat_map f xs) (flat_map f ys))

-- a packet whose end is a neighbor with a known address
pub sent_is : (old new packet : List ℕ) (i a mac : ℕ) (live : Bool) (end : End) → end ≡ ends.Hop i a (Some mac) → live ≡ not (has_expired packet) → (live ≡ true → new ≡ old ++ sent_record packet i mac) → (live ≡ false → new ≡ old)
    → new ≡ old ++ flat_map (record_bytes Little) (sent_by packet end)
unfolding sent_record
sent_is old new packet i a mac live end is same some none = by (has_expired packet) same ∙ ap (λ e. old ++ flat_map (record_bytes Little) (sent_by packet e)) (sym is)
  where
    by : (b : Bool) → live ≡ not b → new ≡ old ++ flat_map (record_bytes Little) (cond b [] (sent packet i mac ∷ []))
    by true e = none e ∙ sym (append-nil old)
    by false e = some e ∙ ap (λ t. old ++ t) (sym (append-nil (record_bytes Little (sent packet i mac))))

-- the head of what is left
pub next_result : (pairs : Pairs) (i : ℕ) (p : ℕ × Record) → i < length pairs → p ≡ slice_index_or pairs i p → drop i pairs ≡ p ∷ drop (i + 1) pairs
next_result pairs i p lt is = drop_more pairs i p lt ∙ ap (λ t. t ∷ drop (i + 1) pairs) (sym is)

-- a text that was appended for a result, and what is left
pub one_more : (old new whole mine rest all : List ℕ) → old ++ all ≡ whole → new ≡ old ++ mine → all ≡ mine ++ rest → new ++ rest ≡ whole
one_more old new whole mine rest all before put is = ap (λ t. t ++ rest) put ∙ (append_assoc old mine rest ∙ (ap (λ t. old ++ t) (sym is) ∙ before))

pub none_left : (old whole all : List ℕ) → old ++ all ≡ whole → all ≡ [] → old ≡ whole
none_left old whole all before is = sym (append-nil old) ∙ (ap (λ t. old ++ t) (sym is) ∙ before)

-- the records from one result on, and the lines
pub records_step : (bytes : List ℕ) (spans : List Span) (pairs : Pairs) (i : ℕ) (p : ℕ × Record) → i < length pairs → p ≡ slice_index_or pairs i p
    → records_in bytes spans (drop i pairs) ≡ flat_map (record_bytes Little) (sent_by (packet_in bytes spans p.0) p.1.end) ++ records_in bytes spans (drop (i + 1) pairs)
unfolding frames_in
records_step bytes spans pairs i p lt is =
    ap (records_in bytes spans) (next_result pairs i p lt is) ∙ flat_append (record_bytes Little) (sent_by (packet_in bytes spans p.0) p.1.end) (frames_in bytes spans (drop (i + 1) pairs))

pub records_end : (bytes : List ℕ) (spans : List Span) (pairs : Pairs) (i : ℕ) → length pairs ≤ i → records_in bytes spans (drop i pairs) ≡ []
unfolding frames_in
records_end bytes spans pairs i le = ap (records_in bytes spans) (drop_all i pairs le)

pub expired_step : (bytes : List ℕ) (spans : List Span) (pairs : Pairs) (i : ℕ) (p : ℕ × Record) → i < length pairs → p ≡ slice_index_or pairs i p
    → expired_text bytes spans (drop i pairs) ≡ flat_map expired_line (cond (expires_by (packet_in bytes spans p.0) p.1.end) (p.0 ∷ []) []) ++ expired_text bytes spans (drop (i + 1) pairs)
unfolding expired_in
expired_step bytes spans pairs i p lt is =
    ap (expired_text bytes spans) (next_result pairs i p lt is) ∙ flat_append expired_line (cond (expires_by (packet_in bytes spans p.0) p.1.end) (p.0 ∷ []) []) (expired_in bytes spans (drop (i + 1) pairs))

pub expired_end : (bytes : List ℕ) (spans : List Span) (pairs : Pairs) (i : ℕ) → length pairs ≤ i → expired_text bytes spans (drop i pairs) ≡ []
unfolding expired_in
expired_end bytes spans pairs i le = ap (expired_text bytes spans) (drop_all i pairs le)

-- in two parts
pub records_parts : (bytes : List ℕ) (spans : List Span) (xs ys : Pairs) → records_in bytes spans (xs ++ ys) ≡ records_in bytes spans xs ++ records_in bytes spans ys
unfolding frames_in
records_parts bytes spans [] ys = refl
records_parts bytes spans (p ∷ xs) ys =
    let mine = sent_by (packet_in bytes spans p.0) p.1.end in
    let f = record_bytes Little in
    flat_append f mine (frames_in bytes spans (xs ++ ys))
    ∙ (ap (λ t. flat_map f mine ++ t) (records_parts bytes spans xs ys)
    ∙ (sym (append_assoc (flat_map f mine) (records_in bytes spans xs) (records_in bytes spans ys)) ∙ ap (λ t. t ++ records_in bytes spans ys) (sym (flat_append f mine (frames_in bytes spans xs)))))

pub expired_parts : (bytes : List ℕ) (spans : List Span) (xs ys : Pairs) → expired_text bytes spans (xs ++ ys) ≡ expired_text bytes spans xs ++ expired_text bytes spans ys
unfolding expired_in
expired_parts bytes spans [] ys = refl
expired_parts bytes spans (p ∷ xs) ys =
    let mine = cond (expires_by (packet_in bytes spans p.0) p.1.end) (p.0 ∷ []) [] in
    let f = expired_line in
    flat_append f mine (expired_in bytes spans (xs ++ ys))
    ∙ (ap (λ t. flat_map f mine ++ t) (expired_parts bytes spans xs ys)
    ∙ (sym (append_assoc (flat_map f mine) (expired_text bytes spans xs) (expired_text bytes spans ys)) ∙ ap (λ t. t ++ expired_text bytes spans ys) (sym (flat_append f mine (expired_in bytes spans xs)))))

-- of no result
pub records_none : (bytes : List ℕ) (spans : List Span) → records_in bytes spans [] ≡ []
unfolding frames_in
records_none bytes spans = refl

pub expired_none : (bytes : List ℕ) (spans : List Span) → expired_text bytes spans [] ≡ []
unfolding expired_in
expired_none bytes spans = refl
