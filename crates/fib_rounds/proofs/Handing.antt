-- A round's results go to a tap, frame by frame.
use Rattle.std.proofs.Common.{◌≡◌, ◌<◌, ◌≤◌, ◌+◌, ◌-◌, ◌++◌, ◌∷◌, [], ℕ, List, length, drop, arith, ap, ◌∙◌, sym, subst, Option, Some}
use Rattle.std.specs.Prelude.{slice_index_or, min}
use Rattle.std.proofs.lemmas.List.{drop_all, append_assoc, append-nil}
use Rattle.fib_capture.specs.declared.packet.Packet.{Packet}
use Rattle.fib_worker_crew.specs.Packets.{IsOf, span}
use Rattle.fib_worker_crew.specs.Results.{Kept, numbered, results_of}
use Rattle.fib_worker_crew.proofs.Spans.{length_span, span_join, span_none}
use Rattle.fib_worker_crew.proofs.Matching.{numbered_append}
use Rattle.fib_rounds_homing.specs.Places.{joined, parts_of}
use Rattle.fib_rounds_taps.specs.Taps.{Pairs, Takes, TakesSome}
use Rattle.fib_rounds_taps.proofs.Moves.{Takes-more, Takes-cut}
use Rattle.fib_rounds.specs.Writes.{AreLaid}
use Rattle.fib_rounds.proofs.Laid.{drop_head}

-- the pairs from a frame on
abbrev rest_of : List Packet → ℕ → ℕ → List (Option Kept) → Pairs
rest_of ps at to places = numbered at (span ps at to) (joined (parts_of places))

-- the pairs of the next frame
laid_pairs : (ps : List Packet) (at to : ℕ) (places : List (Option Kept)) (i : ℕ) (s : Option Kept) (kept : Kept) → i < length places → s ≡ slice_index_or places i s → s ≡ Some kept → at ≤ to → to ≤ length ps → AreLaid ps at to (drop i places)
    → rest_of ps at to (drop i places) ≡ kept.list ++ rest_of ps (at + min (to - at) 256) to (drop (i + 1) places)
laid_pairs ps at to places i s kept lt is some le me laid =
    let next : ℕ = at + min (to - at) 256 in
    let head : drop i places ≡ Some kept ∷ drop (i + 1) places = drop_head places i s lt is ∙ ap (λ t. t ∷ drop (i + 1) places) some in
    let here = subst (AreLaid ps at to) head laid in
    let rest = joined (parts_of (drop (i + 1) places)) in
    let size : at + length (span ps at next) ≡ next = omega (arith, length_span ps at next (omega arith) (omega (arith, le, me))) in
    ap (λ xs. numbered at (span ps at to) (joined (parts_of xs))) head
    ∙ (ap (λ qs. numbered at qs (results_of kept.list ++ rest)) (sym (span_join ps at next to (omega arith) (omega (arith, le))))
    ∙ (numbered_append IsOf at (span ps at next) (span ps next to) (results_of kept.list) rest here.0.of
    ∙ (ap (λ n. numbered at (span ps at next) (results_of kept.list) ++ numbered n (span ps next to) rest) size
    ∙ ap (λ t. t ++ numbered next (span ps next to) rest) (sym here.0.list))))

-- what was taken, and then what is left, is the whole
abbrev pub HasHanded : Option Pairs → Option Pairs → Pairs → Pairs → Type 0
HasHanded before now rest whole = (done : Pairs) × Takes before now done × (done ++ rest ≡ whole)

-- the tap took one frame's results more
pub pairs_more : (before mid now : Option Pairs) (ps : List Packet) (at next to : ℕ) (places : List (Option Kept)) (i : ℕ) (s : Option Kept) (kept : Kept) (whole : Pairs) → i < length places → s ≡ slice_index_or places i s → s ≡ Some kept → at ≤ to → to ≤ length ps → AreLaid ps at to (drop i places)
    → next ≡ at + min (to - at) 256 → HasHanded before mid (rest_of ps at to (drop i places)) whole → Takes mid now kept.list → HasHanded before now (rest_of ps next to (drop (i + 1) places)) whole
pairs_more before mid now ps at next to places i s kept whole lt is some le me laid same w took =
    let rest = rest_of ps next to (drop (i + 1) places) in
    let all : rest_of ps at to (drop i places) ≡ kept.list ++ rest =
    laid_pairs ps at to places i s kept lt is some le me laid ∙ ap (λ (n : ℕ). kept.list ++ rest_of ps n to (drop (i + 1) places)) (sym same) in
    (w.0 ++ kept.list, Takes-more before mid now w.0 kept.list w.1 took, append_assoc w.0 kept.list rest ∙ (ap (λ t. w.0 ++ t) (sym all) ∙ w.2))

-- it failed within a frame
pub pairs_cut : (before mid now : Option Pairs) (ps : List Packet) (at to : ℕ) (places : List (Option Kept)) (i : ℕ) (s : Option Kept) (kept : Kept) (whole : Pairs) → i < length places → s ≡ slice_index_or places i s → s ≡ Some kept → at ≤ to → to ≤ length ps → AreLaid ps at to (drop i places)
    → HasHanded before mid (rest_of ps at to (drop i places)) whole → TakesSome mid now kept.list → TakesSome before now whole
pairs_cut before mid now ps at to places i s kept whole lt is some le me laid w took =
    let rest = rest_of ps (at + min (to - at) 256) to (drop (i + 1) places) in
    Takes-cut before mid now w.0 kept.list rest whole w.1 took (ap (λ t. w.0 ++ t) (sym (laid_pairs ps at to places i s kept lt is some le me laid)) ∙ w.2)

-- no frame is left
pub pairs_end : (before now : Option Pairs) (ps : List Packet) (at to : ℕ) (places : List (Option Kept)) (i : ℕ) (whole : Pairs) → length places ≤ i → AreLaid ps at to (drop i places)
    → HasHanded before now (rest_of ps at to (drop i places)) whole → Takes before now whole
pairs_end before now ps at to places i whole le laid w =
    let here : at ≡ to = subst (AreLaid ps at to) (drop_all i places le) laid in
    let none : rest_of ps at to (drop i places) ≡ [] = ap (λ qs. numbered at qs (joined (parts_of (drop i places)))) (ap (λ (k : ℕ). span ps k to) here ∙ span_none ps to) in
    subst (Takes before now) (sym (append-nil w.0) ∙ (ap (λ t. w.0 ++ t) (sym none) ∙ w.2)) w.1
