-- A text that is written piece by piece.
use Rattle.std.proofs.Common.{◌≡◌, ◌++◌, [], ℕ, List, Option, take, drop, refl, ap, ◌∙◌, sym, subst, append_assoc, take-append-drop}
use Rattle.std.proofs.lemmas.List.{append-nil}
use Rattle.fib_outside.specs.Outside.{Appends}
use Rattle.fib_rounds.specs.Writes.{AppendsSome}
use Rattle.fib_rounds.proofs.Moves.{Appends-more, Appends-none}
use Rattle.fib_rounds.proofs.Writing.{cut_off, stopped}
use Rattle.fib_tracer.specs.inner.Printing.{HasMoved}

pub moved_none : (a : Option (List ℕ)) (text : List ℕ) → HasMoved a a text text
moved_none a text = ([], Appends-none a, refl)

-- all of it
pub moved_all : (a b : Option (List ℕ)) (text : List ℕ) → Appends a b text → HasMoved a b text []
moved_all a b text told = (text, told, sym (append-nil text))

-- a piece more was printed, and some of it was written
pub moved_next : (a b c : Option (List ℕ)) (whole text left printed later kept : List ℕ) → HasMoved a b whole (text ++ left) → printed ++ later ≡ text ++ left → HasMoved b c printed kept
    → HasMoved a c whole (kept ++ later)
moved_next a b c whole text left printed later kept m same n =
    let part = m.0 in
    let piece = n.0 in (
      part ++ piece,
      Appends-more a b c part piece m.1 n.1,
      m.2 ∙ (ap (λ t. part ++ t) (sym same ∙ (ap (λ t. t ++ later) n.2 ∙ append_assoc piece kept later)) ∙ sym (append_assoc part piece (kept ++ later))),
    )

pub moved_end : (a b : Option (List ℕ)) (whole text left : List ℕ) → left ≡ [] → HasMoved a b whole (text ++ left) → HasMoved a b whole text
moved_end a b whole text left none m = subst (HasMoved a b whole) (ap (λ t. text ++ t) none ∙ append-nil text) m

-- where it stops, a first part was written
pub moved_some : (a b : Option (List ℕ)) (whole rest : List ℕ) → HasMoved a b whole rest → AppendsSome a b whole
moved_some a b whole rest m = stopped a b m.0 rest whole m.1 (sym m.2)

-- and where a write fails
pub moved_cut : (a b c : Option (List ℕ)) (whole text left printed later : List ℕ) → HasMoved a b whole (text ++ left) → printed ++ later ≡ text ++ left → AppendsSome b c printed
    → AppendsSome a c whole
moved_cut a b c whole text left printed later m same cut =
    cut_off a b c m.0 printed later whole m.1 cut (ap (λ t. m.0 ++ t) same ∙ sym m.2)

-- a first part of a text is one of a longer text
pub some_more : (a b : Option (List ℕ)) (text more : List ℕ) → AppendsSome a b text → AppendsSome a b (text ++ more)
some_more a b text more told =
    stopped a b (take told.0 text) (drop told.0 text ++ more) (text ++ more) told.1
    (sym (append_assoc (take told.0 text) (drop told.0 text) more) ∙ ap (λ t. t ++ more) (take-append-drop told.0 text))

-- ---- the whole

-- the last line is printed behind the packets, and all is written
pub moved_last : (a b c : Option (List ℕ)) (text packets kept last printed : List ℕ) → HasMoved a b (text ++ packets) kept → printed ≡ kept ++ last → Appends b c printed
    → Appends a c (text ++ (packets ++ last))
moved_last a b c text packets kept last printed m is told =
    subst (Appends a c) (ap (λ t. m.0 ++ t) is ∙ (sym (append_assoc m.0 kept last) ∙ (ap (λ t. t ++ last) (sym m.2) ∙ append_assoc text packets last)))
    (Appends-more a b c m.0 printed m.1 told)

pub last_some : (a b : Option (List ℕ)) (text packets last : List ℕ) → AppendsSome a b (text ++ packets) → AppendsSome a b (text ++ (packets ++ last))
last_some a b text packets last told = subst (AppendsSome a b) (append_assoc text packets last) (some_more a b (text ++ packets) last told)

pub last_cut : (a b c : Option (List ℕ)) (text packets kept last printed : List ℕ) → HasMoved a b (text ++ packets) kept → printed ≡ kept ++ last → AppendsSome b c printed
    → AppendsSome a c (text ++ (packets ++ last))
last_cut a b c text packets kept last printed m is cut =
    cut_off a b c m.0 printed [] (text ++ (packets ++ last)) m.1 cut
    (ap (λ t. m.0 ++ t) (append-nil printed ∙ is) ∙ (sym (append_assoc m.0 kept last) ∙ (ap (λ t. t ++ last) (sym m.2) ∙ append_assoc text packets last)))
