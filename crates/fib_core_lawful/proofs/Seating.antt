-- How many seats there are, and that the claim word never wraps.
use Rattle.std.proofs.Common.{◌≡◌, ℕ, zero, suc, ◌+◌, ◌*◌, ◌^◌, ◌<◌, ◌≤◌, Bool, true, false, true≢false, eqb, eq-eqb, ne_eqb, List, [], ◌∷◌, ◌++◌, length, refl, sym, ap, ◌∙◌, subst, arith, get_or-set_same, get_or-set_other}
use Rattle.std.specs.Prelude.{slice_index_or, slice_set}
use mathlib.Core.Option.{some}
use mathlib.Core.Logic.{dite}
use native.Mathlib.Decide.{ℕ_discrete}
use lib.ListN.{get_elem?}
use Rattle.fib_core_lawful.specs.State.{Control, Worker, View, control, worker, note, spent}
use Rattle.fib_core_lawful.specs.Claims.{count_in, total, one_if, sits, IsSeats, outs}
use Rattle.fib_core_lawful.proofs.Claiming.{total_set, total_same, total_end, total_none}

-- a step of a seat that stays what it is
pub seats_kept : (views : List View) (id : ℕ) (v w : View) (out : List Bool) → get_elem? views id ≡ some v → ((n : ℕ) → sits n w ≡ sits n v) → IsSeats views out → IsSeats (slice_set views id w) out
seats_kept views id v w out at same s n = total_same (sits n) views id v w at (same n) ∙ s n

pub seats_split : (views : List View) (id : ℕ) (v w u : View) (out out' : List Bool) → get_elem? views id ≡ some v → ((n : ℕ) → sits n w ≡ sits n v) → IsSeats views out
    → ((n : ℕ) → one_if (slice_index_or out' n false) ≡ one_if (slice_index_or out n false) + sits n u)
    → IsSeats (slice_set views id w ++ u ∷ []) out'
seats_split views id v w u out out' at same s more n =
    total_end (sits n) (slice_set views id w) u ∙ ap (λ m. m + sits n u) (total_same (sits n) views id v w at (same n) ∙ s n) ∙ sym (more n)

pub seats_joined : (views : List View) (id other : ℕ) (v w u : View) (out out' : List Bool) → get_elem? views id ≡ some v → get_elem? (slice_set views id w) other ≡ some u → ((n : ℕ) → sits n w ≡ sits n v) → IsSeats views out
    → ((n : ℕ) → one_if (slice_index_or out n false) ≡ one_if (slice_index_or out' n false) + sits n u)
    → IsSeats (slice_set (slice_set views id w) other spent) out'
seats_joined views id other v w u out out' at there same s less n =
    let a = total_set (sits n) (slice_set views id w) other u spent there in
    let b = total_same (sits n) views id v w at (same n) ∙ s n ∙ less n in
    fewer (total (sits n) (slice_set (slice_set views id w) other spent)) (sits n u) (total (sits n) (slice_set views id w)) (one_if (slice_index_or out' n false)) a b
  where
    fewer : (a b c d : ℕ) → a + b ≡ c + 0 → c ≡ d + b → a ≡ d
    fewer a b c d x y = omega arith

-- a number leaves
pub out_more : (out : List Bool) (m : ℕ) → m < length out → slice_index_or out m false ≡ false → (n : ℕ) → one_if (slice_index_or (slice_set out m true) n false) ≡ one_if (slice_index_or out n false) + one_if (eqb m n)
out_more out m lt home n = dite (ℕ_discrete n m)
    (λ e. subst (λ i. one_if (slice_index_or (slice_set out m true) i false) ≡ one_if (slice_index_or out i false) + one_if (eqb m i)) (sym e)
    (ap one_if (get_or-set_same out m true false lt) ∙ sym (ap (λ b. one_if b + one_if (eqb m m)) home ∙ ap (λ b. 0 + one_if b) (eq-eqb m m refl))))
    (λ ne. ap one_if (get_or-set_other out m n true false ne) ∙ sym (ap (λ b. one_if (slice_index_or out n false) + one_if b) (ne_eqb m n (λ e. ne (sym e))) ∙ plain (one_if (slice_index_or out n false))))
  where
    plain : (a : ℕ) → a + 0 ≡ a
    plain a = omega arith

-- a number comes home
pub out_less : (out : List Bool) (m : ℕ) → m < length out → slice_index_or out m false ≡ true → (n : ℕ) → one_if (slice_index_or out n false) ≡ one_if (slice_index_or (slice_set out m false) n false) + one_if (eqb m n)
out_less out m lt away n = dite (ℕ_discrete n m)
    (λ e. subst (λ i. one_if (slice_index_or out i false) ≡ one_if (slice_index_or (slice_set out m false) i false) + one_if (eqb m i)) (sym e)
    (ap one_if away ∙ sym (ap (λ b. one_if b + one_if (eqb m m)) (get_or-set_same out m false false lt) ∙ ap (λ b. 0 + one_if b) (eq-eqb m m refl))))
    (λ ne. sym (ap (λ b. one_if (slice_index_or (slice_set out m false) n false) + one_if b) (ne_eqb m n (λ e. ne (sym e))) ∙ plain (one_if (slice_index_or (slice_set out m false) n false)) ∙ ap one_if (get_or-set_other out m n false false ne)))
  where
    plain : (a : ℕ) → a + 0 ≡ a
    plain a = omega arith

pub outs_more : (out : List Bool) (m : ℕ) → outs (slice_set out m true) ≤ outs out + 1
outs_more [] m = omega arith
outs_more (b ∷ bs) zero = few b
  where
    few : (b : Bool) → 1 + outs bs ≤ one_if b + outs bs + 1
    few true = omega arith
    few false = omega arith
outs_more (b ∷ bs) (suc m) = let r = outs_more bs m in omega arith

pub outs_less : (out : List Bool) (m : ℕ) → slice_index_or out m false ≡ true → outs (slice_set out m false) + 1 ≡ outs out
outs_less [] m away = absurd (true≢false (sym away))
outs_less (b ∷ bs) zero away = head b away
  where
    head : (b : Bool) → b ≡ true → 0 + outs bs + 1 ≡ one_if b + outs bs
    head true is = omega arith
    head false is = absurd (true≢false (sym is))
outs_less (b ∷ bs) (suc m) away = let r = outs_less bs m away in omega arith

pub outs_most : (out : List Bool) → outs out ≤ length out
outs_most [] = omega arith
outs_most (true ∷ bs) = let r = outs_most bs in omega arith
outs_most (false ∷ bs) = let r = outs_most bs in omega arith

-- sums of sums
pub total_plus : (f g : View → ℕ) (views : List View) → total (λ v. f v + g v) views ≡ total f views + total g views
total_plus f g [] = omega arith
total_plus f g (v ∷ vs) = let r = total_plus f g vs in four (f v) (g v) (total (λ v. f v + g v) vs) (total f vs) (total g vs) r
  where
    four : (a b c d e : ℕ) → c ≡ d + e → a + b + c ≡ a + d + (b + e)
    four a b c d e h = omega arith

total_le : (f g : View → ℕ) (views : List View) → ((j : ℕ) (u : View) → get_elem? views j ≡ some u → f u ≤ g u) → total f views ≤ total g views
total_le f g [] h = omega arith
total_le f g (v ∷ vs) h = let a = h zero v refl in let r = total_le f g vs (λ j u e. h (suc j) u e) in omega arith

-- how many seats of the numbers from n on
sits_from : List Bool → ℕ → View → ℕ
sits_from [] n v = 0
sits_from (b ∷ bs) n v = sits n v + sits_from bs (suc n) v

total_zero : (views : List View) → total (λ v. 0) views ≡ 0
total_zero [] = refl
total_zero (v ∷ vs) = let r = total_zero vs in omega arith

total_sits : (views : List View) (bs : List Bool) (n : ℕ) → ((k : ℕ) → total (sits (n + k)) views ≡ one_if (slice_index_or bs k false)) → total (sits_from bs n) views ≡ outs bs
unfolding sits_from
total_sits views [] n h = total_zero views
total_sits views (b ∷ bs) n h =
    let zero_at : n + 0 ≡ n = omega arith in
    let here : total (sits n) views ≡ one_if b = ap (λ m. total (sits m) views) (sym zero_at) ∙ h 0 in
    let later = total_sits views bs (suc n) (λ k. (let next : suc n + k ≡ n + suc k = omega arith in ap (λ m. total (sits m) views) next ∙ h (suc k))) in
    total_plus (sits n) (sits_from bs (suc n)) views ∙ ap (λ m. m + total (sits_from bs (suc n)) views) here ∙ ap (λ m. one_if b + m) later

-- a worker's number is among them
sits_one : (bs : List Bool) (n m : ℕ) (w : Worker) → w.number ≡ n + m → m < length bs → 1 ≤ sits_from bs n (worker w)
unfolding sits_from
sits_one [] n m w is lt = absurd (omega arith)
sits_one (b ∷ bs) n zero w is lt =
    let e : eqb w.number n ≡ true = eq-eqb w.number n (is ∙ (let z : n + 0 ≡ n = omega arith in z)) in
    let one : one_if (eqb w.number n) ≡ 1 = ap one_if e in omega arith
sits_one (b ∷ bs) n (suc m) w is lt = let r = sits_one bs (suc n) m w (is ∙ (let z : n + suc m ≡ suc n + m = omega arith in z)) (omega arith) in omega arith

-- the claims of the control's view alone
own_claims : View → ℕ
own_claims (control c) = length c.gathered
own_claims (worker w) = 0
own_claims (note n) = 0
own_claims spent = 0

total_scale : (f : View → ℕ) (views : List View) → total (λ v. f v * 4294967296) views ≡ total f views * 4294967296
total_scale f [] = refl
total_scale f (v ∷ vs) = let r = total_scale f vs in scaled (f v) (total (λ u. f u * 4294967296) vs) (total f vs) r
  where
    scaled : (a b c : ℕ) → b ≡ c * 4294967296 → a * 4294967296 + b ≡ (a + c) * 4294967296
    scaled a b c h = omega arith

-- the control's view stands first, if anywhere
total_own : (views : List View) (c : Control) → ((j : ℕ) (d : Control) → get_elem? views j ≡ some (control d) → (j ≡ 0) × (d ≡ c)) → total own_claims views ≤ length c.gathered
unfolding own_claims
total_own [] c alone = omega arith
total_own (x ∷ xs) c alone =
    let rest : total own_claims xs ≡ 0 = total_none own_claims xs others in
    let mine : own_claims x ≤ length c.gathered = head x (λ d e. (alone 0 d e).1) in
    omega arith
  where
    others : (j : ℕ) (u : View) → get_elem? xs j ≡ some u → own_claims u ≡ 0
    others j (control d) e = absurd (not_first j (alone (suc j) d e).0)
      where
        not_first : (j : ℕ) → suc j ≡ 0 → ⊥
        not_first j e = omega arith
    others j (worker w) e = refl
    others j (note n) e = refl
    others j spent e = refl

    head : (x : View) → ((d : Control) → some x ≡ some (control d) → d ≡ c) → own_claims x ≤ length c.gathered
    head (control d) same = let e : length d.gathered ≡ length c.gathered = ap (λ k. length k.gathered) (same d refl) in omega arith
    head (worker w) same = omega arith
    head (note n) same = omega arith
    head spent same = omega arith

-- the claims in all views are few
pub few_claims : (views : List View) (c : Control) (out : List Bool) → ((j : ℕ) (d : Control) → get_elem? views j ≡ some (control d) → (j ≡ 0) × (d ≡ c)) → length out ≡ 8 → IsSeats views out
    → ((j : ℕ) (w : Worker) → get_elem? views j ≡ some (worker w) → (w.number < 8) × (length w.claims < 2 ^ 32))
    → total count_in views ≤ length c.gathered + outs out * 2 ^ 32
unfolding own_claims sits_from
few_claims views c out alone eight seats few =
    let all = total_le count_in (λ v. own_claims v + sits_from out 0 v * 4294967296) views each in
    let two = total_plus own_claims (λ v. sits_from out 0 v * 4294967296) views in
    let own = total_own views c alone in
    let sat = total_sits views out 0 (λ k. (let z : 0 + k ≡ k = omega arith in ap (λ m. total (sits m) views) z ∙ seats k)) in
    let scale = total_scale (sits_from out 0) views ∙ ap (λ m. m * 4294967296) sat in
    last (total count_in views) (total (λ v. own_claims v + sits_from out 0 v * 4294967296) views) (total own_claims views) (total (λ v. sits_from out 0 v * 4294967296) views) (length c.gathered) (outs out) all two own scale
  where
    last : (a b c d e f : ℕ) → a ≤ b → b ≡ c + d → c ≤ e → d ≡ f * 4294967296 → a ≤ e + f * 4294967296
    last a b c d e f x y z w = omega arith

    each : (j : ℕ) (u : View) → get_elem? views j ≡ some u → count_in u ≤ own_claims u + sits_from out 0 u * 4294967296
    each j (control d) e = omega arith
    each j (worker w) e =
        let f = few j w e in
        let lt = f.1 in
        let below = f.0 in
        let one = sits_one out 0 w.number w (let z : 0 + w.number ≡ w.number = omega arith in sym z) (omega arith) in
        enough (length w.claims) (sits_from out 0 (worker w)) lt one
      where
        enough : (a b : ℕ) → a < 4294967296 → 1 ≤ b → a ≤ 0 + b * 4294967296
        enough a b x y = omega arith
    each j (note n) e = omega arith
    each j spent e = omega arith
