-- The loop over the paths of a line.
use Rattle.std.proofs.Common.{◌≡◌, ◌++◌, ◌∷◌, [], ℕ, ◌+◌, ◌-◌, ◌<◌, true, false, List, Option, Some, None, option_map, refl, sym, ap, ◌∙◌, arith, suc}
use Rattle.std.proofs.lemmas.List.{append_assoc, append-nil}
use Rattle.fib_resolve.specs.declared.types.PathSpec.{PathSpec}
use Rattle.fib_commands.specs.declared.types.LineError.{LineError}
use Rattle.fib_commands.specs.declared.types.LineError.TheVariants.{Memory, Syntax}
use Rattle.fib_base_lines.specs.LineWords.{has_word}
use Rattle.fib_commands.specs.Names.{Lacks}
use Rattle.fib_commands.specs.Paths.{path_of, paths_of}

-- what a loop has read, before what it will read
abbrev pub with_front : List PathSpec → Option (List PathSpec) → Option (List PathSpec)
with_front front read = option_map (λ rest. front ++ rest) read

pub paths_end : (n : ℕ) (words : List (List ℕ)) (front : List PathSpec) → has_word words ≡ false → with_front front (paths_of n words) ≡ Some front
unfolding paths_of
paths_end n [] front none = ap Some (append-nil front)
paths_end n (w ∷ ws) front none = cc

pub paths_over : (words : List (List ℕ)) (front : List PathSpec) → has_word words ≡ true → with_front front (paths_of 0 words) ≡ None
unfolding paths_of
paths_over [] front some = cc
paths_over (w ∷ ws) front some = refl

pub paths_fail : (n : ℕ) (words : List (List ℕ)) (front : List PathSpec) → has_word words ≡ true → path_of words ≡ None → with_front front (paths_of (suc n) words) ≡ None
unfolding paths_of
paths_fail n [] front some fail = cc
paths_fail n (w ∷ ws) front some fail = rw fail refl

push : (front : List PathSpec) (path : PathSpec) (o : Option (List PathSpec)) → with_front front (option_map (λ rest. path ∷ rest) o) ≡ with_front (front ++ path ∷ []) o
push front path None = refl
push front path (Some rest) = ap Some (sym (append_assoc front (path ∷ []) rest))

next : (n : ℕ) (words rest : List (List ℕ)) (path : PathSpec) → has_word words ≡ true → path_of words ≡ Some (path, rest) → paths_of (suc n) words ≡ option_map (λ more. path ∷ more) (paths_of n rest)
unfolding paths_of
next n [] rest path some is = cc
next n (w ∷ ws) rest path some is = rw is (map_bind path (paths_of n rest))
  where
    map_bind : (path : PathSpec) (o : Option (List PathSpec)) → elim o as (λ _. Option (List PathSpec)) [ None ↦ None | Some more ↦ Some (path ∷ more) ] ≡ option_map (λ more. path ∷ more) o
    map_bind path None = refl
    map_bind path (Some more) = refl

pub paths_more : (n : ℕ) (words rest : List (List ℕ)) (front : List PathSpec) (path : PathSpec) → has_word words ≡ true → path_of words ≡ Some (path, rest) → with_front front (paths_of (suc n) words) ≡ with_front (front ++ path ∷ []) (paths_of n rest)
paths_more n words rest front path some is = ap (with_front front) (next n words rest path some is) ∙ push front path (paths_of n rest)

-- the step of the loop, with the numbers as the code has them
pub paths_step : (most i : ℕ) (words rest : List (List ℕ)) (front : List PathSpec) (path : PathSpec) → i < most → has_word words ≡ true → path_of words ≡ Some (path, rest) → with_front (front ++ path ∷ []) (paths_of (most - (i + 1)) rest) ≡ with_front front (paths_of (most - i) words)
paths_step most i words rest front path lt some is =
    let n : most - i ≡ suc (most - (i + 1)) = omega arith in
    rw n (sym (paths_more (most - (i + 1)) words rest front path some is))

-- a fault of one path is one of all
pub lacks_all : (e : LineError) (most i : ℕ) (words : List (List ℕ)) (front : List PathSpec) (read : Option (List PathSpec)) → i < most → has_word words ≡ true → Lacks e (path_of words) → with_front front (paths_of (most - i) words) ≡ read → Lacks e read
lacks_all Memory most i words front read lt some none is = tt
lacks_all Syntax most i words front read lt some none is =
    let n : most - i ≡ suc (most - (i + 1)) = omega arith in
    sym is ∙ ap (λ (k : ℕ). with_front front (paths_of k words)) n ∙ paths_fail (most - (i + 1)) words front some none
