-- What there is one of for each flow, put together from parts.
use Rattle.std.proofs.Common.{◌≡◌, ◌+◌, ◌++◌, ◌∷◌, [], ℕ, List, length, arith, refl, ap, ◌∙◌}
use Rattle.fib_core_results.specs.declared.record.Record.{Record}
use Rattle.fib_core_results.specs.declared.record.Version.{Version}
use Rattle.fib_core_results.specs.Trails.{AtLeast}
use Rattle.fib_capture.specs.declared.packet.Packet.{Packet}
use Rattle.fib_capture.specs.declared.packet.Packet.TheVariants.{Flow, NotIpv4, BadHeader}
use Rattle.fib_core.specs.Trails.{Trail}
use Rattle.fib_worker_crew.specs.Packets.{Matched, IsAsked}
use Rattle.fib_worker_crew.specs.Results.{numbered, results_of, Told}

pub matched_append : {X : Type 0} (P : ℕ → ℕ → X → Type 0) (ps qs : List Packet) (rs ss : List X) → Matched P ps rs → Matched P qs ss → Matched P (ps ++ qs) (rs ++ ss)
matched_append P [] qs [] ss m n = n
matched_append P [] qs (r ∷ rs) ss m n = absurd m
matched_append P (NotIpv4 ∷ ps) qs rs ss m n = matched_append P ps qs rs ss m n
matched_append P (BadHeader ∷ ps) qs rs ss m n = matched_append P ps qs rs ss m n
matched_append P (Flow a h ∷ ps) qs [] ss m n = absurd m
matched_append P (Flow a h ∷ ps) qs (r ∷ rs) ss m n = (m.0, matched_append P ps qs rs ss m.1 n)

pub matched_weaker : {X : Type 0} (P Q : ℕ → ℕ → X → Type 0) → ((a h : ℕ) (r : X) → P a h r → Q a h r) → (ps : List Packet) (rs : List X) → Matched P ps rs → Matched Q ps rs
matched_weaker P Q f [] [] m = tt
matched_weaker P Q f [] (r ∷ rs) m = absurd m
matched_weaker P Q f (NotIpv4 ∷ ps) rs m = matched_weaker P Q f ps rs m
matched_weaker P Q f (BadHeader ∷ ps) rs m = matched_weaker P Q f ps rs m
matched_weaker P Q f (Flow a h ∷ ps) [] m = absurd m
matched_weaker P Q f (Flow a h ∷ ps) (r ∷ rs) m = (f a h r m.0, matched_weaker P Q f ps rs m.1)

pub at_least_trans : (u v w : Version) → AtLeast u v → AtLeast v w → AtLeast u w
at_least_trans u v w a b = record { settled = omega (arith, a.settled, b.settled); applied = omega (arith, a.applied, b.applied) }

pub asked_lower : (u v : Version) → AtLeast u v → (ps : List Packet) (rs : List Record) → Matched (IsAsked v) ps rs → Matched (IsAsked u) ps rs
asked_lower u v le = matched_weaker (IsAsked v) (IsAsked u) (λ a h r m. record { of = m.of; later = at_least_trans u v r.lo le m.later })

pub told_append : (ts us : List Trail) (rs ss : List Record) → Told ts rs → Told us ss → Told (ts ++ us) (rs ++ ss)
told_append [] us [] ss m n = n
told_append [] us (r ∷ rs) ss m n = absurd m
told_append (t ∷ ts) us [] ss m n = absurd m
told_append (t ∷ ts) us (r ∷ rs) ss m n = (m.0, told_append ts us rs ss m.1 n)

pub numbered_append : (P : ℕ → ℕ → Record → Type 0) (n : ℕ) (ps qs : List Packet) (rs ss : List Record) → Matched P ps rs → numbered n (ps ++ qs) (rs ++ ss) ≡ numbered n ps rs ++ numbered (n + length ps) qs ss
numbered_append P n [] qs [] ss m = ap (λ k. numbered k qs ss) same
  where
    same : n ≡ n + length {A = Packet} []
    same = omega arith
numbered_append P n [] qs (r ∷ rs) ss m = absurd m
numbered_append P n (NotIpv4 ∷ ps) qs rs ss m =
    let e : (n + 1) + length ps ≡ n + length (NotIpv4 ∷ ps) = omega arith in
    numbered_append P (n + 1) ps qs rs ss m ∙ ap (λ k. numbered (n + 1) ps rs ++ numbered k qs ss) e
numbered_append P n (BadHeader ∷ ps) qs rs ss m =
    let e : (n + 1) + length ps ≡ n + length (BadHeader ∷ ps) = omega arith in
    numbered_append P (n + 1) ps qs rs ss m ∙ ap (λ k. numbered (n + 1) ps rs ++ numbered k qs ss) e
numbered_append P n (Flow a h ∷ ps) qs [] ss m = absurd m
numbered_append P n (Flow a h ∷ ps) qs (r ∷ rs) ss m =
    let e : (n + 1) + length ps ≡ n + length (Flow a h ∷ ps) = omega arith in
    ap (λ xs. (n, r) ∷ xs) (numbered_append P (n + 1) ps qs rs ss m.1 ∙ ap (λ k. numbered (n + 1) ps rs ++ numbered k qs ss) e)

pub results_numbered : (P : ℕ → ℕ → Record → Type 0) (n : ℕ) (ps : List Packet) (rs : List Record) → Matched P ps rs → results_of (numbered n ps rs) ≡ rs
results_numbered P n [] [] m = refl
results_numbered P n [] (r ∷ rs) m = absurd m
results_numbered P n (NotIpv4 ∷ ps) rs m = results_numbered P (n + 1) ps rs m
results_numbered P n (BadHeader ∷ ps) rs m = results_numbered P (n + 1) ps rs m
results_numbered P n (Flow a h ∷ ps) [] m = absurd m
results_numbered P n (Flow a h ∷ ps) (r ∷ rs) m = ap (λ xs. r ∷ xs) (results_numbered P (n + 1) ps rs m.1)
