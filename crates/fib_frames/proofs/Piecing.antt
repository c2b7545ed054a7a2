-- A text of results that goes to a sink in pieces.
use Rattle.std.proofs.Common.{◌≡◌, ◌≤◌, ◌+◌, ◌-◌, ◌++◌, [], ℕ, List, length, take, drop, Option, Result, Ok, Err, OnErr, arith, ap, sym, ◌∙◌, subst, take-append-drop}
use Rattle.std.proofs.lemmas.List.{append-nil, take_all}
use Rattle.std.proofs.Math.Seq.{take-add}
use Rattle.fib_outside.specs.Outside.{Appends}
use Rattle.fib_rounds_taps.specs.Taps.{Pairs}
use Rattle.fib_rounds.specs.Writes.{AppendsSome}
use Rattle.fib_rounds.proofs.Moves.{Appends-more}
use Rattle.fib_rounds.proofs.Running.{some_of_both}
use Rattle.fib_rounds.proofs.Writing.{cut_off, stopped}

-- the text of results in two parts is those of the parts
abbrev pub Joins : (Pairs → List ℕ) → Type 0
Joins f = (xs ys : Pairs) → f (xs ++ ys) ≡ f xs ++ f ys

-- the results from one place up to another
abbrev pub piece : Pairs → ℕ → ℕ → Pairs
piece pairs at next = take (next - at) (drop at pairs)

pub piece_more : (f : Pairs → List ℕ) → Joins f → (pairs : Pairs) (at next : ℕ) (before mid now : Option (List ℕ)) → at ≤ next → Appends before mid (f (take at pairs)) → Appends mid now (f (piece pairs at next)) → Appends before now (f (take next pairs))
piece_more f joins pairs at next before mid now le told more =
    let e : at + (next - at) ≡ next = omega (arith, le) in
    let whole = sym (joins (take at pairs) (piece pairs at next)) ∙ (ap f (sym (take-add at (next - at) pairs)) ∙ ap (λ n. f (take n pairs)) e) in
    subst (Appends before now) whole (Appends-more before mid now (f (take at pairs)) (f (piece pairs at next)) told more)

-- a write failed within a piece
pub piece_cut : (f : Pairs → List ℕ) → Joins f → (pairs : Pairs) (at next : ℕ) (before mid now : Option (List ℕ)) → Appends before mid (f (take at pairs)) → AppendsSome mid now (f (piece pairs at next)) → AppendsSome before now (f pairs)
piece_cut f joins pairs at next before mid now told some =
    let rest = drop (next - at) (drop at pairs) in
    let left : f (piece pairs at next) ++ f rest ≡ f (drop at pairs) = sym (joins (piece pairs at next) rest) ∙ ap f (take-append-drop (next - at) (drop at pairs)) in
    let whole : f (take at pairs) ++ (f (piece pairs at next) ++ f rest) ≡ f pairs =
    ap (λ t. f (take at pairs) ++ t) left ∙ (sym (joins (take at pairs) (drop at pairs)) ∙ ap f (take-append-drop at pairs)) in
    cut_off before mid now (f (take at pairs)) (f (piece pairs at next)) (f rest) (f pairs) told some whole

-- memory was wanted before a piece
pub piece_none : (f : Pairs → List ℕ) → Joins f → (pairs : Pairs) (at : ℕ) (before now : Option (List ℕ)) → Appends before now (f (take at pairs)) → AppendsSome before now (f pairs)
piece_none f joins pairs at before now told = stopped before now (f (take at pairs)) (f (drop at pairs)) (f pairs) told (sym (joins (take at pairs) (drop at pairs)) ∙ ap f (take-append-drop at pairs))

-- no piece is left
pub piece_end : (f : Pairs → List ℕ) (pairs : Pairs) (at : ℕ) (before now : Option (List ℕ)) → length pairs ≤ at → Appends before now (f (take at pairs)) → Appends before now (f pairs)
piece_end f pairs at before now le told = subst (Appends before now) (ap f (take_all at pairs le)) told

-- all of a text is a first part of it
pub whole_some : (before now : Option (List ℕ)) (text : List ℕ) → Appends before now text → AppendsSome before now text
whole_some before now text told = stopped before now text [] text told (append-nil text)

-- what a call wrote of the second part after the first
pub second_cut : {A E : Type 0} (r : Result A E) (before mid now : Option (List ℕ)) (text rest : List ℕ) → Appends before mid text → OnErr r (AppendsSome mid now rest) → OnErr r (AppendsSome before now (text ++ rest))
second_cut (Ok x) before mid now text rest told some = tt
second_cut (Err e) before mid now text rest told some = some_of_both before mid now text rest told some
