-- The runs of the buckets, one after another.
use Rattle.std.proofs.Common.{arith, zero-add, ◌≡◌, ℕ, ◌+◌, ◌<◌, ◌≤◌, List, [], ◌∷◌, ◌++◌, length, get_or, take, replicate, ◌∙◌, ap, sum}
use Rattle.std.specs.Prelude.{flat_map}
use Rattle.std.specs.List.{enumerate_from}
use Rattle.std.proofs.Math.ListN.{length-replicate}
use Rattle.std.proofs.lemmas.List.{take_more, take_all}
use Rattle.std.proofs.lemmas.List.Concat.{flat_map-append}
use Rattle.std.proofs.Common.{append-nil, length-append}
use Rattle.std.proofs.lemmas.List.Folds.{length-flat_map-take}
use Rattle.std.proofs.lemmas.List.FromFn.{length-enumerate_from, get_or-enumerate_from}
use Rattle.fib_buckets.specs.Shares.{share_of, buckets}
use Rattle.fib_buckets.proofs.Sixteen.{length-buckets}

-- the buckets of one path
abbrev pub run : List ℕ → ℕ × ℕ → List ℕ
run ws p = replicate (share_of ws p) p.0

abbrev pub runs : List ℕ → ℕ → List ℕ
runs ws j = flat_map (run ws) (take j (enumerate_from 0 ws))

at_place : (ws : List ℕ) (j : ℕ) → j < length ws → get_or (enumerate_from 0 ws) j (0, 0) ≡ (j, get_or ws j 0)
at_place ws j h = get_or-enumerate_from 0 ws j (0, 0) h ∙ ap (λ (n : ℕ). (n, get_or ws j 0)) (zero-add j)

pub runs_more : (ws : List ℕ) (j : ℕ) → j < length ws → runs ws (j + 1) ≡ runs ws j ++ run ws (j, get_or ws j 0)
runs_more ws j h =
    let es = enumerate_from 0 ws in
    let n = length-enumerate_from 0 ws in
    ap (flat_map (run ws)) (take_more es j (0, 0) (omega (arith, h, n)))
    ∙ (flat_map-append (run ws) (take j es) (get_or es j (0, 0) ∷ [])
    ∙ (ap (λ xs. runs ws j ++ xs) (append-nil (run ws (get_or es j (0, 0))))
    ∙ ap (λ p. runs ws j ++ run ws p) (at_place ws j h)))

whole : (ws : List ℕ) → 0 < sum ws → length (flat_map (run ws) (enumerate_from 0 ws)) ≡ 16
unfolding buckets
whole ws pos = length-buckets ws pos

pub length-runs_more : (ws : List ℕ) (j : ℕ) → j < length ws → length (runs ws (j + 1)) ≡ length (runs ws j) + share_of ws (j, get_or ws j 0)
length-runs_more ws j h =
    omega (arith, ap length (runs_more ws j h), length-append (runs ws j) (run ws (j, get_or ws j 0)), length-replicate (share_of ws (j, get_or ws j 0)) j)

pub runs_all : (ws : List ℕ) (j : ℕ) → length ws ≤ j → runs ws j ≡ buckets ws
unfolding buckets
runs_all ws j h = ap (flat_map (run ws)) (take_all j (enumerate_from 0 ws) (omega (arith, h, length-enumerate_from 0 ws)))

pub run_fits : (ws : List ℕ) (j : ℕ) → 0 < sum ws → j < length ws → length (runs ws j) + share_of ws (j, get_or ws j 0) ≤ 16
run_fits ws j pos h =
    let es = enumerate_from 0 ws in
    let n = length-enumerate_from 0 ws in
    let all : length (flat_map (run ws) es) ≡ 16 = whole ws pos in
    omega (arith, all, length-flat_map-take (run ws) es j (0, 0) (omega (arith, h, n)), length-replicate (share_of ws (get_or es j (0, 0))) (get_or es j (0, 0)).0, ap (share_of ws) (at_place ws j h))
