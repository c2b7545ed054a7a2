-- A text to which something was appended begins with what it was.
use Rattle.std.proofs.Common.{◌≡◌, ℕ, List, length, take, drop, ◌++◌, sym, ◌∙◌, ap, append_assoc}
use Rattle.std.proofs.Math.Seq.{take-append_seam, take-length}
use Rattle.std.proofs.lemmas.List.{take-append-drop}

-- so does what is appended to it in turn
pub kept_on : (old mid text new : List ℕ) → mid ≡ old ++ text → take (length mid) new ≡ mid → take (length old) new ≡ old
kept_on old mid text new is kept =
    let rest = drop (length mid) new in
    let whole : new ≡ old ++ (text ++ rest) = sym (take-append-drop (length mid) new) ∙ ap (λ l. l ++ rest) (kept ∙ is) ∙ append_assoc old text rest in
    ap (take (length old)) whole ∙ take-append_seam old (text ++ rest)

pub kept_one : (old text new : List ℕ) → new ≡ old ++ text → take (length old) new ≡ old
kept_one old text new is = ap (take (length old)) is ∙ take-append_seam old text

pub kept_all : (old new : List ℕ) → new ≡ old → take (length old) new ≡ old
kept_all old new is = ap (take (length old)) is ∙ take-length old
