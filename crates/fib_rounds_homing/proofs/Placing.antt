-- The results of frames in their places.
use Rattle.std.proofs.Common.{◌≡◌, ◌<◌, ◌≤◌, ◌+◌, ◌-◌, ◌*◌, ◌++◌, ◌∷◌, [], ℕ, List, length, take, drop, arith, refl, ap, ◌∙◌, sym, subst, zero, suc, Option, Some, None}
use Rattle.std.proofs.Math.Decide.{ℕ_discrete}
use Rattle.std.proofs.Math.Logic.{dite}
use Rattle.std.specs.Prelude.{slice_set, slice_index_or}
use Rattle.std.specs.List.{AllByRecursion}
use Rattle.std.proofs.lemmas.List.{length-set, get_or-set_same, get_or-set_other, drop_all, length-drop, length-take, take-append-drop, drop-drop}
use Rattle.fib_resolve.specs.declared.types.Tables.{Tables}
use Rattle.fib_core_results.specs.declared.record.Record.{Record}
use Rattle.fib_capture.specs.declared.packet.Packet.{Packet}
use Rattle.fib_core_lawful.specs.Claims.{times}
use Rattle.fib_worker_crew.specs.Packets.{Matched, IsOf}
use Rattle.fib_worker_crew.specs.Frames.{frame}
use Rattle.fib_worker_crew.specs.Results.{Kept, results_of}
use Rattle.fib_worker_crew.specs.Work.{frames_in, results_in, Named}
use Rattle.fib_worker_crew.specs.declared.claims.Frame.{Frame}
use Rattle.fib_worker_crew.proofs.Drawn.{numbers_of, times_head, times_tail, one_same, one_other}
use Rattle.fib_worker_crew.proofs.Matching.{matched_append, matched_weaker}
use Rattle.fib_rounds_homing.specs.Homes.{claimed}
use Rattle.fib_rounds_homing.specs.Places.{placed, results_at, parts_of, joined, IsFilled, IsRightOf, AreFilled}

pub length_placed : (places : List (Option Kept)) (fs : List Frame) → length (placed places fs) ≡ length places
length_placed places [] = refl
length_placed places (f ∷ fs) = length_placed (slice_set places f.number (Some f.results)) fs ∙ length-set places f.number (Some f.results)

pub placed_append : (places : List (Option Kept)) (fs gs : List Frame) → placed places (fs ++ gs) ≡ placed (placed places fs) gs
placed_append places [] gs = refl
placed_append places (f ∷ fs) gs = placed_append (slice_set places f.number (Some f.results)) fs gs

-- a place that no frame has stays
placed_other : (places : List (Option Kept)) (fs : List Frame) (k : ℕ) → times k (numbers_of fs) ≡ 0 → slice_index_or (placed places fs) k None ≡ slice_index_or places k None
placed_other places [] k none = refl
placed_other places (f ∷ fs) k none =
    let ne : k ≡ f.number → ⊥ = λ e. (let o = one_same f.number k (sym e) in omega (arith, none, o)) in
    placed_other (slice_set places f.number (Some f.results)) fs k (omega (arith, none)) ∙ get_or-set_other places f.number k (Some f.results) None ne

-- where no number comes twice, each frame's results are in its place
abbrev pub IsPlacedIn : List (Option Kept) → Frame → Type 0
IsPlacedIn places f = slice_index_or places f.number None ≡ Some f.results

pub placed_all : (places : List (Option Kept)) (fs : List Frame) → ((k : ℕ) → times k (numbers_of fs) ≤ 1) → AllByRecursion (λ f. f.number < length places) fs
    → AllByRecursion (IsPlacedIn (placed places fs)) fs
placed_all places [] once within = tt
placed_all places (f ∷ fs) once within =
    let next = slice_set places f.number (Some f.results) in
    let most = once f.number in
    let one = one_same f.number f.number refl in
    let none : times f.number (numbers_of fs) ≡ 0 = omega (arith, most, one) in
    let len : length next ≡ length places = length-set places f.number (Some f.results) in (
      placed_other next fs f.number none ∙ get_or-set_same places f.number (Some f.results) None within.0,
      placed_all next fs (λ k. (let o = once k in omega (arith, o))) (subst (λ n. AllByRecursion (λ (g : Frame). g.number < n) fs) (sym len) within.1),
    )

-- the frame of a number that stands once
pub frame_of_number : (P : Frame → Type 0) (fs : List Frame) (k : ℕ) → AllByRecursion P fs → 0 < times k (numbers_of fs) → (f : Frame) × (f.number ≡ k) × P f
frame_of_number P [] k all some = absurd (omega (arith, some))
frame_of_number P (f ∷ fs) k all some = dite (ℕ_discrete f.number k)
    (λ e. (f, e, all.0))
    (λ ne. frame_of_number P fs k all.1 (let o = one_other f.number k ne in omega (arith, some, o)))

-- ---- places that are filled

pub frame_past : {A : Type 0} (xs : List A) (f : ℕ) → length xs ≤ 256 * f → frame xs f ≡ []
frame_past xs f le = ap (take 256) (drop_all (256 * f) xs le)

none_some : {A : Type 0} {x : A} → None ≡ Some x → ⊥
none_some e = cc

some_same : {A : Type 0} {x y : A} → Some x ≡ Some y → x ≡ y
some_same e = cc

take_none : {A : Type 0} (xs : List A) → take 256 xs ≡ [] → xs ≡ []
take_none [] e = refl
take_none (x ∷ xs) e = absurd (let l = ap length e in let t = length-take 256 (x ∷ xs) in omega (arith, l, t))

-- a list from a frame on: the frame, and the list from the next one on
pub frame_rest : {A : Type 0} (xs : List A) (f : ℕ) → drop (256 * f) xs ≡ frame xs f ++ drop (256 * (f + 1)) xs
frame_rest xs f =
    let e : 256 * f + 256 ≡ 256 * (f + 1) = omega arith in
    sym (take-append-drop 256 (drop (256 * f) xs)) ∙ ap (λ ys. frame xs f ++ ys) (drop-drop 256 (256 * f) xs ∙ ap (λ n. drop n xs) e)

module _ (k first : ℕ) (H : List Tables) (taken : List Packet) where
  pub filled_by : (f : ℕ) (places : List (Option Kept)) → length taken ≤ 256 * (f + length places)
      → ((j : ℕ) → j < length places → (kept : Kept) × (slice_index_or places j None ≡ Some kept) × IsFilled k first H taken (f + j) kept) → AreFilled k first H taken f places
  filled_by f [] le each = frame_past taken f (omega (arith, le))
  filled_by f (None ∷ places) le each = absurd (none_some (each 0 (omega arith)).1)
  filled_by f (Some kept ∷ places) le each =
      let here = each 0 (omega arith) in
      let at : f + 0 ≡ f = omega arith in (
        subst (λ n. IsFilled k first H taken n kept) at (subst (IsFilled k first H taken (f + 0)) (some_same (sym here.1)) here.2),
        filled_by (f + 1) places (omega (arith, le)) (λ j lt.
            let e : f + suc j ≡ (f + 1) + j = omega arith in
            let there = each (suc j) (omega (arith, lt)) in
            (there.0, there.1, subst (λ n. IsFilled k first H taken n there.0) e there.2)),
      )

  -- all results, one for each flow
  pub filled_whole : (f : ℕ) (places : List (Option Kept)) → AreFilled k first H taken f places → Matched (IsRightOf k H) (drop (256 * f) taken) (joined (parts_of places))
  filled_whole f [] m = subst (λ ps. Matched (IsRightOf k H) ps []) (sym (take_none (drop (256 * f) taken) m)) tt
  filled_whole f (None ∷ places) m = absurd m
  filled_whole f (Some kept ∷ places) m =
      subst (λ ps. Matched (IsRightOf k H) ps (results_of kept.list ++ joined (parts_of places))) (sym (frame_rest taken f))
      (matched_append (IsRightOf k H) (frame taken f) (drop (256 * (f + 1)) taken) (results_of kept.list) (joined (parts_of places)) m.0.answered (filled_whole (f + 1) places m.1))

  -- and cut into frames as the packets are
  pub filled_each : (f : ℕ) (places : List (Option Kept)) → AreFilled k first H taken f places → (j : ℕ) → Matched IsOf (frame taken (f + j)) (slice_index_or (parts_of places) j [])
  filled_each f [] m j =
      let none = ap length (take_none (drop (256 * f) taken) m) in
      let short = length-drop (256 * f) taken in
      subst (λ ps. Matched IsOf ps []) (sym (frame_past taken (f + j) (omega (arith, none, short)))) tt
  filled_each f (None ∷ places) m j = absurd m
  filled_each f (Some kept ∷ places) m zero =
      let e : f ≡ f + 0 = omega arith in
      subst (λ n. Matched IsOf (frame taken n) (results_of kept.list)) e
      (matched_weaker (IsRightOf k H) IsOf (λ a h r is. is.asked.of) (frame taken f) (results_of kept.list) m.0.answered)
  filled_each f (Some kept ∷ places) m (suc j) =
      let e : (f + 1) + j ≡ f + suc j = omega arith in
      subst (λ n. Matched IsOf (frame taken n) (slice_index_or (parts_of places) j [])) e (filled_each (f + 1) places m.1 j)

-- ---- the claims name the parts

pub length_parts : (places : List (Option Kept)) → length (parts_of places) ≡ length places
length_parts [] = refl
length_parts (s ∷ places) = (let l = length_parts places in omega (arith, l))

part_past : (xs : List (List Record)) (j : ℕ) → length xs ≤ j → slice_index_or xs j [] ≡ []
part_past [] j le = refl
part_past (x ∷ xs) zero le = absurd (omega (arith, le))
part_past (x ∷ xs) (suc j) le = part_past xs j (omega (arith, le))

part_at : (places : List (Option Kept)) (j : ℕ) → slice_index_or (parts_of places) j [] ≡ results_at (slice_index_or places j None)
part_at [] j = refl
part_at (s ∷ places) zero = refl
part_at (s ∷ places) (suc j) = part_at places j

pub named_parts : (base count : ℕ) (cs : List ℕ) (ss : List (Option Frame)) (places : List (Option Kept)) → Named base count cs ss → length places ≡ count → ((c : ℕ) → 0 < times c cs → base ≤ c)
    → AllByRecursion (IsPlacedIn places) (frames_in ss) → claimed base (parts_of places) cs ≡ results_in ss
named_parts base count [] [] places m len low all = refl
named_parts base count [] (s ∷ ss) places m len low all = absurd m
named_parts base count (c ∷ cs) [] places m len low all = absurd m
named_parts base count (c ∷ cs) (None ∷ ss) places m len low all =
    let le : base + count ≤ c = m.0 (low c (times_head c cs)) in
    let parts = length_parts places in
    let none : slice_index_or (parts_of places) (c - base) [] ≡ [] = part_past (parts_of places) (c - base) (omega (arith, le, len, parts)) in
    ap (λ rs. rs ++ claimed base (parts_of places) cs) none ∙ named_parts base count cs ss places m.1 len (λ d lt. low d (times_tail d c cs lt)) all
named_parts base count (c ∷ cs) (Some f ∷ ss) places m len low all =
    let is = m.0 in
    let at : c - base ≡ f.number = omega (arith, is) in
    let here : slice_index_or (parts_of places) (c - base) [] ≡ results_of f.results.list = ap (λ j. slice_index_or (parts_of places) j []) at ∙ (part_at places f.number ∙ ap results_at all.0) in
    ap (λ rs. rs ++ claimed base (parts_of places) cs) here
    ∙ ap (λ rs. results_of f.results.list ++ rs) (named_parts base count cs ss places m.2 len (λ d lt. low d (times_tail d c cs lt)) all.1)
