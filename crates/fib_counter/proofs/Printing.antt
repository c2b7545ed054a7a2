-- Totals, one after the other, and whole outputs.
use Rattle.std.proofs.Common.{◌≡◌, ◌<◌, ◌+◌, ◌++◌, ◌∷◌, [], ℕ, zero, suc, List, Result, Ok, Err, OnOk, length, arith, refl, ap, ap₂, ◌∙◌, sym}
use Rattle.std.proofs.lemmas.List.{append_assoc, append-nil}
use Rattle.fib_resolve.specs.declared.types.Tables.{Tables}
use Rattle.fib_capture.specs.Captures.{Capture}
use Rattle.fib_capture.specs.declared.packet.Packet.{Packet}
use Rattle.fib_rounds_turns.specs.Routers.{new_router}
use Rattle.fib_rounds.specs.Packets.{last_text}
use Rattle.fib_counter.specs.CountOutput.{all_totals, class_count, count_output, lines_turn, total_line, totals_text}

-- all words are left
pub totals_begin : (S : Tables) (f : ℕ → ℕ) (out : List ℕ) (more : ℕ) → 0 + more ≡ 770 → out ++ totals_text S f 0 more ≡ out ++ all_totals S f
unfolding all_totals
totals_begin S f out more is = (let all : more ≡ 770 = omega (arith, is) in ap (λ m. out ++ totals_text S f 0 m) all)

-- one line more
pub totals_more : (S : Tables) (f : ℕ → ℕ) (w more total : ℕ) (old new all : List ℕ) → total ≡ f w → new ≡ old ++ total_line S w total
    → old ++ totals_text S f w (suc more) ≡ all → new ++ totals_text S f (w + 1) more ≡ all
totals_more S f w more total old new all is text h =
    let later = totals_text S f (w + 1) more in
    ap (λ xs. xs ++ later) text ∙ (append_assoc old (total_line S w total) later ∙ (ap (λ n. old ++ (total_line S w n ++ later)) is ∙ h))

-- no word is left
pub totals_end : (S : Tables) (f : ℕ → ℕ) (w : ℕ) (out all : List ℕ) → out ++ totals_text S f w 0 ≡ all → out ≡ all
totals_end S f w out all h = sym (append-nil out) ∙ h

same_from : (S : Tables) (f g : ℕ → ℕ) (end : ℕ) → ((w : ℕ) → w < end → f w ≡ g w) → (w more : ℕ) → w + more ≡ end → totals_text S f w more ≡ totals_text S g w more
same_from S f g end each w zero e = refl
same_from S f g end each w (suc more) e =
    ap₂ (λ (a b : List ℕ). a ++ b) (ap (total_line S w) (each w (omega (arith, e)))) (same_from S f g end each (w + 1) more (omega (arith, e)))

same_totals : (S : Tables) (f g : ℕ → ℕ) → ((w : ℕ) → w < 770 → f w ≡ g w) → all_totals S f ≡ all_totals S g
unfolding all_totals
same_totals S f g each = same_from S f g 770 each 0 770 refl

-- totals that count the same over the same tables print the same
pub counts_told : {A E : Type 0} (r : Result A E) (S T : Tables) (f g : ℕ → ℕ) (old new : List ℕ) → T ≡ S → ((w : ℕ) → w < 770 → f w ≡ g w)
    → OnOk r (new ≡ old ++ all_totals T f) → OnOk r (new ≡ old ++ all_totals S g)
counts_told (Ok x) S T f g old new same each h = h ∙ ap (λ t. old ++ t) (ap (λ U. all_totals U f) same ∙ same_totals S f g each)
counts_told (Err e) S T f g old new same each h = tt

none_from : (S : Tables) (f : ℕ → ℕ) → ((w : ℕ) → f w ≡ 0) → (w more : ℕ) → totals_text S f w more ≡ []
unfolding total_line
none_from S f none w zero = refl
none_from S f none w (suc more) = ap (λ n. total_line S w n ++ totals_text S f (w + 1) more) (none w) ∙ none_from S f none (w + 1) more

none_counted : (S : Tables) (w : ℕ) → class_count S [] w ≡ 0
unfolding class_count
none_counted S w = refl

none_told : (S : Tables) (f : ℕ → ℕ) → ((w : ℕ) → f w ≡ 0) → all_totals S f ≡ []
unfolding all_totals
none_told S f none = none_from S f none 0 770

-- without packets no total is told
pub no_counts : (S : Tables) (ps : List Packet) (old : List ℕ) → length ps ≡ 0 → old ≡ old ++ all_totals S (class_count S ps)
no_counts S [] old e = sym (ap (λ t. old ++ t) (none_told S (class_count S []) (none_counted S)) ∙ append-nil old)
no_counts S (p ∷ ps) old e = absurd (omega (arith, e))

-- what the lines printed, what the totals added to it, and what the cut packet did, are the whole output
pub whole_output : (room : ℕ) (script : List (List ℕ)) (packets : Capture) (S : Tables) (none lines totals last : List ℕ) → none ≡ []
    → lines ≡ none ++ (lines_turn 1 (new_router room) script).1 → S ≡ (lines_turn 1 (new_router room) script).0.config.tables
    → totals ≡ lines ++ all_totals S (class_count S packets.packets) → last ≡ totals ++ last_text packets.cut → last ≡ count_output room script packets
unfolding count_output
whole_output room script packets S none lines totals last empty said same counted cut =
    let turn = lines_turn 1 (new_router room) script in
    let T = turn.0.config.tables in
    let text = last_text packets.cut in
    let here : lines ≡ turn.1 = said ∙ ap (λ xs. xs ++ turn.1) empty in
    cut ∙ (ap (λ xs. xs ++ text) (counted ∙ (ap (λ xs. xs ++ all_totals S (class_count S packets.packets)) here ∙ ap (λ U. turn.1 ++ all_totals U (class_count U packets.packets)) same))
    ∙ append_assoc turn.1 (all_totals T (class_count T packets.packets)) text)
