-- Spans and frames of packets.
use Rattle.std.proofs.Common.{◌≡◌, ◌<◌, ◌≤◌, ◌+◌, ◌-◌, ◌*◌, ◌/◌, ◌++◌, ◌∷◌, [], ℕ, List, length, take, drop, arith, refl, ap, ◌∙◌, sym, zero, suc}
use Rattle.std.specs.Prelude.{slice_get, min, Some}
use Rattle.std.proofs.lemmas.List.{drop_more, length-drop, length-take, drop-drop, drop-take}
use Rattle.std.proofs.lemmas.Option.{slice_get_within, get_or_from_slice_get}
use Rattle.std.proofs.Math.Seq.{take-add}
use Rattle.fib_capture.specs.declared.packet.Packet.{Packet}
use Rattle.fib_worker_crew.specs.Packets.{span}
use Rattle.fib_worker_crew.specs.Frames.{frame, frames}

take_cons : {A : Type 0} (n : ℕ) (x : A) (xs : List A) → 0 < n → take n (x ∷ xs) ≡ x ∷ take (n - 1) xs
take_cons zero x xs lt = absurd (omega (arith, lt))
take_cons (suc n) x xs lt = let e : suc n - 1 ≡ n = omega arith in rw e refl

pub drop_at : {A : Type 0} (xs : List A) (i : ℕ) (x : A) → slice_get xs i ≡ Some x → drop i xs ≡ x ∷ drop (i + 1) xs
drop_at xs i x e = drop_more xs i x (slice_get_within xs i x e) ∙ ap (λ y. y ∷ drop (i + 1) xs) (get_or_from_slice_get xs i x x e)

pub span_none : (ps : List Packet) (a : ℕ) → span ps a a ≡ []
span_none ps a = let e : a - a ≡ 0 = omega arith in ap (λ k. take k (drop a ps)) e

pub span_head : (ps : List Packet) (a b : ℕ) (p : Packet) → a < b → slice_get ps a ≡ Some p → span ps a b ≡ p ∷ span ps (a + 1) b
span_head ps a b p lt e =
    let f : b - a - 1 ≡ b - (a + 1) = omega arith in
    ap (take (b - a)) (drop_at ps a p e) ∙ (take_cons (b - a) p (drop (a + 1) ps) (omega (arith, lt)) ∙ ap (λ k. p ∷ take k (drop (a + 1) ps)) f)

pub span_join : (ps : List Packet) (a b c : ℕ) → a ≤ b → b ≤ c → span ps a b ++ span ps b c ≡ span ps a c
span_join ps a b c le me =
    let e : (b - a) + (c - b) ≡ c - a = omega arith in
    let f : a + (b - a) ≡ b = omega arith in
    ap (λ xs. span ps a b ++ take (c - b) xs) (ap (λ k. drop k ps) (sym f) ∙ sym (drop-drop (b - a) a ps))
    ∙ (sym (take-add (b - a) (c - b) (drop a ps)) ∙ ap (λ k. take k (drop a ps)) e)

pub span_one : (ps : List Packet) (a : ℕ) (p : Packet) → slice_get ps a ≡ Some p → span ps a (a + 1) ≡ p ∷ []
span_one ps a p e = span_head ps a (a + 1) p (omega arith) e ∙ ap (λ xs. p ∷ xs) (span_none ps (a + 1))

pub span_more : (ps : List Packet) (a b : ℕ) (p : Packet) → a ≤ b → slice_get ps b ≡ Some p → span ps a (b + 1) ≡ span ps a b ++ p ∷ []
span_more ps a b p le e = sym (span_join ps a b (b + 1) le (omega arith)) ∙ ap (λ xs. span ps a b ++ xs) (span_one ps b p e)

pub length_span : (ps : List Packet) (a b : ℕ) → a ≤ b → b ≤ length ps → length (span ps a b) ≡ b - a
length_span ps a b le lt = omega (arith, le, lt, length-take (b - a) (drop a ps), length-drop a ps)

-- a frame of a span is a span
take_take : {A : Type 0} (n m : ℕ) (xs : List A) → take n (take m xs) ≡ take (min m n) xs
take_take zero m xs = let e : min m 0 ≡ 0 = omega arith in rw e refl
take_take (suc n) zero xs = let e : min 0 (suc n) ≡ 0 = omega arith in rw e refl
take_take (suc n) (suc m) [] = let e : min (suc m) (suc n) ≡ suc (min m n) = omega arith in rw e refl
take_take (suc n) (suc m) (x ∷ xs) = let e : min (suc m) (suc n) ≡ suc (min m n) = omega arith in rw e (ap (λ ys. x ∷ ys) (take_take n m xs))

pub frame_is : (ps : List Packet) (first to f size : ℕ) → first + 256 * f ≤ to → size ≡ min (to - (first + 256 * f)) 256 → frame (span ps first to) f ≡ span ps (first + 256 * f) (first + 256 * f + size)
frame_is ps first to f size le is =
    let n : ℕ = 256 * f in
    let m : ℕ = to - (first + 256 * f) in
    let all : n + m ≡ to - first = omega (arith, le) in
    let some : first + 256 * f + size - (first + 256 * f) ≡ min m 256 = omega (arith, is) in
    ap (λ k. take 256 (drop n (take k (drop first ps)))) (sym all)
    ∙ (ap (take 256) (drop-take n m (drop first ps))
    ∙ (take_take 256 m (drop n (drop first ps))
    ∙ (ap (take (min m 256)) (drop-drop n first ps) ∙ ap (λ k. take k (drop (first + 256 * f) ps)) (sym some))))

-- how many frames a span has
pub frames_of_span : (ps : List Packet) (a b : ℕ) → a ≤ b → b ≤ length ps → (b - a + 255) / 256 ≡ frames (span ps a b)
frames_of_span ps a b le lt = (let l = length_span ps a b le lt in omega (arith, l))
