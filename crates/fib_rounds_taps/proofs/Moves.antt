-- Results that a tap takes in turn.
use Rattle.std.proofs.Common.{◌≡◌, ◌++◌, [], length, take, drop, Option, Some, None, sym, ap, ◌∙◌, subst}
use Rattle.std.proofs.lemmas.List.{append_assoc, append-nil, take-append-drop}
use Rattle.std.proofs.Math.Seq.{take-append_seam}
use Rattle.fib_rounds_taps.specs.Taps.{Pairs, Takes, TakesSome}

pub Takes-none : (a : Option Pairs) → Takes a a []
Takes-none None = tt
Takes-none (Some xs) = sym (append-nil xs)

pub Takes-more : (a b c : Option Pairs) (x y : Pairs) → Takes a b x → Takes b c y → Takes a c (x ++ y)
Takes-more a b None x y p q = tt
Takes-more a None (Some z) x y p q = absurd q
Takes-more None (Some w) (Some z) x y p q = absurd p
Takes-more (Some v) (Some w) (Some z) x y p q = q ∙ ap (λ (front : Pairs). front ++ y) p ∙ append_assoc v x y

-- all of the first, and some of the others, are some of the whole
pub Takes-cut : (before mid now : Option Pairs) (done pairs rest all : Pairs) → Takes before mid done → TakesSome mid now pairs → done ++ (pairs ++ rest) ≡ all → TakesSome before now all
Takes-cut before mid now done pairs rest all told some is =
    let part = take some.0 pairs in
    let left = drop some.0 pairs in
    let whole : (done ++ part) ++ (left ++ rest) ≡ all =
    append_assoc done part (left ++ rest) ∙ (ap (λ t. done ++ t) (sym (append_assoc part left rest)) ∙ (ap (λ t. done ++ (t ++ rest)) (take-append-drop some.0 pairs) ∙ is)) in
    (length (done ++ part), subst (Takes before now) (sym (ap (take (length (done ++ part))) (sym whole) ∙ take-append_seam (done ++ part) (left ++ rest))) (Takes-more before mid now done part told some.1))
