-- Over the places of a round's results, one more at a time.
use Rattle.std.proofs.Common.{◌≡◌, ◌<◌, ◌≤◌, ◌+◌, ◌-◌, ◌++◌, ◌∷◌, [], ℕ, List, length, drop, arith, ap, ◌∙◌, sym, subst, Option, Some, None}
use Rattle.std.specs.Prelude.{slice_index_or, min}
use Rattle.std.proofs.lemmas.List.{drop_more, drop_all, append_assoc, append-nil}
use Rattle.fib_outside.specs.Outside.{Appends}
use Rattle.fib_resolve.specs.declared.types.Tables.{Tables}
use Rattle.fib_capture.specs.declared.packet.Packet.{Packet}
use Rattle.fib_worker_crew.specs.Results.{Kept, results_of}
use Rattle.fib_rounds_homing.specs.Places.{joined, parts_of, results_at}
use Rattle.fib_worker_crew.specs.Packets.{span}
use Rattle.fib_rounds.specs.Packets.{packets_text}
use Rattle.fib_rounds.specs.Writes.{AreLaid, AppendsSome}
use Rattle.fib_rounds.proofs.Moves.{Appends-more}
use Rattle.fib_rounds.proofs.Writing.{cut_off}
use Rattle.fib_rounds.proofs.Spans.{text_next, text_none}

pub drop_head : (places : List (Option Kept)) (i : ℕ) (s : Option Kept) → i < length places → s ≡ slice_index_or places i s → drop i places ≡ s ∷ drop (i + 1) places
drop_head places i s lt is = drop_more places i s lt ∙ ap (λ t. t ∷ drop (i + 1) places) (sym is)

pub places_head : (places : List (Option Kept)) (i : ℕ) (s : Option Kept) → i < length places → s ≡ slice_index_or places i s → joined (parts_of (drop i places)) ≡ results_at s ++ joined (parts_of (drop (i + 1) places))
places_head places i s lt is = ap (λ xs. joined (parts_of xs)) (drop_head places i s lt is)

pub places_end : (places : List (Option Kept)) (i : ℕ) → length places ≤ i → joined (parts_of (drop i places)) ≡ []
places_end places i le = ap (λ xs. joined (parts_of xs)) (drop_all i places le)

-- the lines of the next frame
pub laid_text : (T : Tables) (ps : List Packet) (at to : ℕ) (places : List (Option Kept)) (i : ℕ) (s : Option Kept) (kept : Kept) → i < length places → s ≡ slice_index_or places i s → s ≡ Some kept → at ≤ to → to ≤ length ps → AreLaid ps at to (drop i places)
    → packets_text T at (span ps at to) (joined (parts_of (drop i places))) ≡ packets_text T at (span ps at (at + min (to - at) 256)) (results_of kept.list) ++ packets_text T (at + min (to - at) 256) (span ps (at + min (to - at) 256) to) (joined (parts_of (drop (i + 1) places)))
laid_text T ps at to places i s kept lt is some le me laid =
    let next : ℕ = at + min (to - at) 256 in
    let head : drop i places ≡ Some kept ∷ drop (i + 1) places = drop_head places i s lt is ∙ ap (λ t. t ∷ drop (i + 1) places) some in
    let here = subst (AreLaid ps at to) head laid in
    ap (λ xs. packets_text T at (span ps at to) (joined (parts_of xs))) head ∙ text_next T ps at next to (results_of kept.list) (joined (parts_of (drop (i + 1) places))) (omega arith) (omega (arith, le)) me here.0.of

pub laid_next : (ps : List Packet) (at to : ℕ) (places : List (Option Kept)) (i : ℕ) (s : Option Kept) (kept : Kept) → i < length places → s ≡ slice_index_or places i s → s ≡ Some kept → AreLaid ps at to (drop i places) → AreLaid ps (at + min (to - at) 256) to (drop (i + 1) places)
laid_next ps at to places i s kept lt is some laid =
    let head : drop i places ≡ Some kept ∷ drop (i + 1) places = drop_head places i s lt is ∙ ap (λ t. t ∷ drop (i + 1) places) some in
    (subst (AreLaid ps at to) head laid).1

pub laid_some : (ps : List Packet) (at to : ℕ) (places : List (Option Kept)) (i : ℕ) (s : Option Kept) → i < length places → s ≡ slice_index_or places i s → AreLaid ps at to (drop i places) → s ≡ None → ⊥
laid_some ps at to places i s lt is laid none = subst (AreLaid ps at to) (drop_head places i s lt is ∙ ap (λ t. t ∷ drop (i + 1) places) none) laid

pub laid_end : (T : Tables) (ps : List Packet) (at to : ℕ) (places : List (Option Kept)) (i : ℕ) → length places ≤ i → AreLaid ps at to (drop i places) → packets_text T at (span ps at to) (joined (parts_of (drop i places))) ≡ []
laid_end T ps at to places i le laid =
    let here : at ≡ to = subst (AreLaid ps at to) (drop_all i places le) laid in
    text_none T at ps at to (joined (parts_of (drop i places))) here

-- ---- what was written, frame by frame

pub frames_more : (before mid now : Option (List ℕ)) (T : Tables) (ps : List Packet) (at next to : ℕ) (places : List (Option Kept)) (i : ℕ) (s : Option Kept) (kept : Kept) (whole : List ℕ) → i < length places → s ≡ slice_index_or places i s → s ≡ Some kept → at ≤ to → to ≤ length ps → AreLaid ps at to (drop i places)
    → next ≡ at + min (to - at) 256 → ((done : List ℕ) × Appends before mid done × (done ++ packets_text T at (span ps at to) (joined (parts_of (drop i places))) ≡ whole)) → Appends mid now (packets_text T at (span ps at next) (results_of kept.list))
    → (AreLaid ps next to (drop (i + 1) places)) × ((done : List ℕ) × Appends before now done × (done ++ packets_text T next (span ps next to) (joined (parts_of (drop (i + 1) places))) ≡ whole))
frames_more before mid now T ps at next to places i s kept whole lt is some le me laid same w told =
    let piece = packets_text T at (span ps at next) (results_of kept.list) in
    let rest = packets_text T next (span ps next to) (joined (parts_of (drop (i + 1) places))) in
    let text : packets_text T at (span ps at to) (joined (parts_of (drop i places))) ≡ piece ++ rest =
    laid_text T ps at to places i s kept lt is some le me laid ∙ ap (λ (n : ℕ). packets_text T at (span ps at n) (results_of kept.list) ++ packets_text T n (span ps n to) (joined (parts_of (drop (i + 1) places)))) (sym same) in (
      subst (λ n. AreLaid ps n to (drop (i + 1) places)) (sym same) (laid_next ps at to places i s kept lt is some laid),
      (w.0 ++ piece, Appends-more before mid now w.0 piece w.1 told, append_assoc w.0 piece rest ∙ (ap (λ t. w.0 ++ t) (sym text) ∙ w.2)),
    )

pub frames_cut : (before mid now : Option (List ℕ)) (T : Tables) (ps : List Packet) (at next to : ℕ) (places : List (Option Kept)) (i : ℕ) (s : Option Kept) (kept : Kept) (whole : List ℕ) → i < length places → s ≡ slice_index_or places i s → s ≡ Some kept → at ≤ to → to ≤ length ps → AreLaid ps at to (drop i places)
    → next ≡ at + min (to - at) 256 → ((done : List ℕ) × Appends before mid done × (done ++ packets_text T at (span ps at to) (joined (parts_of (drop i places))) ≡ whole)) → AppendsSome mid now (packets_text T at (span ps at next) (results_of kept.list))
    → AppendsSome before now whole
frames_cut before mid now T ps at next to places i s kept whole lt is some le me laid same w told =
    let piece = packets_text T at (span ps at next) (results_of kept.list) in
    let rest = packets_text T next (span ps next to) (joined (parts_of (drop (i + 1) places))) in
    let text : packets_text T at (span ps at to) (joined (parts_of (drop i places))) ≡ piece ++ rest =
    laid_text T ps at to places i s kept lt is some le me laid ∙ ap (λ (n : ℕ). packets_text T at (span ps at n) (results_of kept.list) ++ packets_text T n (span ps n to) (joined (parts_of (drop (i + 1) places)))) (sym same) in
    cut_off before mid now w.0 piece rest whole w.1 told (ap (λ t. w.0 ++ t) (sym text) ∙ w.2)

pub frames_end : (before now : Option (List ℕ)) (T : Tables) (ps : List Packet) (at to : ℕ) (places : List (Option Kept)) (i : ℕ) (whole : List ℕ) → length places ≤ i → AreLaid ps at to (drop i places)
    → ((done : List ℕ) × Appends before now done × (done ++ packets_text T at (span ps at to) (joined (parts_of (drop i places))) ≡ whole)) → Appends before now whole
frames_end before now T ps at to places i whole le laid w =
    let none = laid_end T ps at to places i le laid in
    subst (Appends before now) (sym (append-nil w.0) ∙ (ap (λ t. w.0 ++ t) (sym none) ∙ w.2)) w.1
