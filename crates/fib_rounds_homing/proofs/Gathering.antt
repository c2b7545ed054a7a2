-- What the workers of a round bring home, one by one and altogether.
use Rattle.std.proofs.Common.{◌≡◌, ◌<◌, ◌≤◌, ◌+◌, ◌-◌, ◌++◌, ◌∷◌, [], ℕ, List, length, arith, refl, ap, ◌∙◌, sym, subst, Option, Some, None}
use Rattle.std.proofs.Math.Decide.{ℕ_discrete}
use Rattle.std.proofs.Math.Logic.{dite}
use Rattle.std.specs.Prelude.{slice_index_or}
use Rattle.std.specs.List.{AllByRecursion}
use Rattle.std.proofs.lemmas.List.{append_assoc, append-nil, length-append}
use Rattle.fib_base_list.proofs.Lists.{each-append}
use Rattle.fib_resolve.specs.declared.types.Tables.{Tables}
use Rattle.fib_core_results.specs.declared.record.Record.{Record}
use Rattle.fib_core_results.specs.Trails.{version_at}
use Rattle.fib_capture.specs.declared.packet.Packet.{Packet}
use Rattle.fib_capture.specs.declared.packet.Packet.TheVariants.{Flow, NotIpv4, BadHeader}
use Rattle.fib_core.specs.Trails.{AreLawful, IsLawfulTrail, Trail}
use Rattle.fib_core_steady.specs.Undisturbed.{IsSteadyTrail}
use Rattle.fib_core_rule.specs.Steady.{AreSteady}
use Rattle.fib_core_lawful.specs.Claims.{times}
use Rattle.fib_core_board.specs.Boards.{Board}
use Rattle.fib_core_board.specs.Crews.{Seated, board_joined}
use Rattle.fib_worker_crew.specs.Claims.{IsDrawnOnce}
use Rattle.fib_worker_crew.specs.Packets.{Matched, IsAsked, IsOf}
use Rattle.fib_worker_crew.specs.Frames.{frame, frames}
use Rattle.fib_worker_crew.specs.Results.{Kept, results_of, Told, IsResultOf}
use Rattle.fib_worker_crew.specs.Work.{IsForwarded, frames_in, results_in, Named, HasWorked, steps_of}
use Rattle.fib_worker_crew.specs.declared.claims.Frame.{Frame}
use Rattle.fib_worker_crew.proofs.Matching.{told_append}
use Rattle.fib_worker_crew.proofs.Works.{frames_append, results_append, named_append}
use Rattle.fib_worker_crew.proofs.Drawn.{numbers_in, each_once, drawn_within}
use Rattle.fib_rounds_homing.specs.Homes.{claims_of, IsHome}
use Rattle.fib_rounds_homing.specs.Places.{placed, IsRight, IsRightOf, IsFilled, AreFilled, parts_of}
use Rattle.fib_rounds_homing.specs.inner.Coming.{IsBrought}
use Rattle.fib_rounds_homing.proofs.Placing.{length_placed, placed_append, placed_all, IsPlacedIn, frame_of_number, filled_by, filled_whole, filled_each, named_parts}

-- ---- results of lawful and steady trails

told_right : (H : List Tables) (ts : List Trail) (rs : List Record) → Told ts rs → AreLawful H ts → AreSteady H ts → AllByRecursion (IsRight H) rs
told_right H [] [] told lawful steady = tt
told_right H [] (r ∷ rs) told lawful steady = absurd told
told_right H (t ∷ ts) [] told lawful steady = absurd told
told_right H (t ∷ ts) (r ∷ rs) told lawful steady = (right_of t r told.0 lawful.0 steady.0, told_right H ts rs told.1 lawful.1 steady.1)
  where
    right_of : (t : Trail) (r : Record) → IsResultOf t r → IsLawfulTrail H t → IsSteadyTrail H t → IsRight H r
    right_of t r is ok calm = subst (IsRight H) (sym is.result) (record { right = ok.right r.addr r.hash is.follows; steady = calm r.addr r.hash is.follows })

each_left : {A : Type 0} (P : A → Type 0) (xs ys : List A) → AllByRecursion P (xs ++ ys) → AllByRecursion P xs
each_left P [] ys h = tt
each_left P (x ∷ xs) ys h = (h.0, each_left P xs ys h.1)

each_right : {A : Type 0} (P : A → Type 0) (xs ys : List A) → AllByRecursion P (xs ++ ys) → AllByRecursion P ys
each_right P [] ys h = h
each_right P (x ∷ xs) ys h = each_right P xs ys h.1

lawful_right : (H : List Tables) (xs ys : List Trail) → AreLawful H (xs ++ ys) → AreLawful H ys
lawful_right H [] ys h = h
lawful_right H (x ∷ xs) ys h = lawful_right H xs ys h.1

-- the frame's results are right and steady
abbrev AreRight : List Tables → Frame → Type 0
AreRight H f = AllByRecursion (IsRight H) (results_of f.results.list)

-- by frames
right_frames : (H : List Tables) (ss : List (Option Frame)) → AllByRecursion (IsRight H) (results_in ss) → AllByRecursion (AreRight H) (frames_in ss)
right_frames H [] h = tt
right_frames H (None ∷ ss) h = right_frames H ss h
right_frames H (Some f ∷ ss) h = (each_left (IsRight H) (results_of f.results.list) (results_in ss) h, right_frames H ss (each_right (IsRight H) (results_of f.results.list) (results_in ss) h))

-- ---- one worker more

pub brought_none : (k first base : ℕ) (taken : List Packet) (b : Board) (places : List (Option Kept)) → IsBrought k first base 0 taken b b places places
brought_none k first base taken b places = record {
  steps = [];
  trails = [];
  came = sym (append-nil b.trails);
  told = tt;
  claims = [];
  gathered = sym (append-nil b.gathered);
  named = tt;
  lasts = refl;
  each = tt;
  places = refl;
}

length_named : (base count : ℕ) (cs : List ℕ) (ss : List (Option Frame)) → Named base count cs ss → length cs ≡ length ss
length_named base count [] [] m = refl
length_named base count [] (s ∷ ss) m = absurd m
length_named base count (c ∷ cs) [] m = absurd m
length_named base count (c ∷ cs) (None ∷ ss) m = (let l = length_named base count cs ss m.1 in omega (arith, l))
length_named base count (c ∷ cs) (Some f ∷ ss) m = (let l = length_named base count cs ss m.2 in omega (arith, l))

length_steps : (fs : List Frame) → length (steps_of fs) ≡ length (frames_in (steps_of fs)) + 1
length_steps [] = refl
length_steps (f ∷ fs) = (let l = length_steps fs in omega (arith, l))

pub frames_of_steps : (fs : List Frame) → frames_in (steps_of fs) ≡ fs
frames_of_steps [] = refl
frames_of_steps (f ∷ fs) = ap (λ gs. f ∷ gs) (frames_of_steps fs)

pub brought_more : (k first base n m : ℕ) (taken : List Packet) (a b : Board) (old mid new : List (Option Kept)) (v w : Seated) (fs : List Frame) → IsBrought k first base n taken a b old mid
    → v.worker.past ≡ [] → v.worker.claims ≡ [] → HasWorked k first base m taken v w (steps_of fs) → new ≡ placed mid fs → IsBrought k first base (n + 1) taken a (board_joined b w.worker) old new
brought_more k first base n m taken a b old mid new v w fs h past claims work places =
    let ss = steps_of fs in
    let results : results_in (h.steps ++ ss) ≡ results_in h.steps ++ results_in ss = results_append h.steps ss in
    let inner : frames_in (h.steps ++ ss) ≡ frames_in h.steps ++ frames_in ss = frames_append h.steps ss in
    let trails : w.worker.past ≡ work.trails = work.past ∙ ap (λ ts. ts ++ work.trails) past in
    let drawn : w.worker.claims ≡ work.claims = work.claimed ∙ ap (λ cs. cs ++ work.claims) claims in
    record {
      steps = h.steps ++ ss;
      trails = h.trails ++ work.trails;
      came = ap (λ ts. b.trails ++ ts) trails ∙ (ap (λ ts. ts ++ work.trails) h.came ∙ append_assoc a.trails h.trails work.trails);
      told = subst (Told (h.trails ++ work.trails)) (sym results) (told_append h.trails work.trails (results_in h.steps) (results_in ss) h.told work.told);
      claims = h.claims ++ work.claims;
      gathered = ap (λ cs. b.gathered ++ cs) drawn ∙ (ap (λ cs. cs ++ work.claims) h.gathered ∙ append_assoc a.gathered h.claims work.claims);
      named = named_append base (frames taken) h.claims work.claims h.steps ss h.named work.named;
      lasts = (let x = length-append h.claims work.claims in let y = h.lasts in let z = length_named base (frames taken) work.claims ss work.named in let l = length_steps fs in
          let i = ap length inner in let j = length-append (frames_in h.steps) (frames_in ss) in omega (arith, x, y, z, l, i, j));
      each = subst (AllByRecursion (IsForwarded k first taken)) (sym inner) (each-append (IsForwarded k first taken) (frames_in h.steps) (frames_in ss) h.each work.each);
      places = places ∙ (ap (placed mid) (sym (frames_of_steps fs)) ∙ (ap (λ xs. placed xs (frames_in ss)) h.places ∙ (sym (placed_append old (frames_in h.steps) (frames_in ss)) ∙ ap (placed old) (sym inner))));
    }

-- ---- all are home

answered : (k : ℕ) (H : List Tables) (ps : List Packet) (rs : List Record) → Matched (IsAsked (version_at k)) ps rs → AllByRecursion (IsRight H) rs → Matched (IsRightOf k H) ps rs
answered k H [] [] m ok = tt
answered k H [] (r ∷ rs) m ok = absurd m
answered k H (NotIpv4 ∷ ps) rs m ok = answered k H ps rs m ok
answered k H (BadHeader ∷ ps) rs m ok = answered k H ps rs m ok
answered k H (Flow a x ∷ ps) [] m ok = absurd m
answered k H (Flow a x ∷ ps) (r ∷ rs) m ok = (record { asked = m.0; right = ok.0 }, answered k H ps rs m.1 ok.1)

record IsDue (k first : ℕ) (H : List Tables) (taken : List Packet) (places : List (Option Kept)) (f : Frame) : Type 0 where
  forwarded : IsForwarded k first taken f
  right : AreRight H f
  placed : IsPlacedIn places f

all_due : (k first : ℕ) (H : List Tables) (taken : List Packet) (places : List (Option Kept)) (fs : List Frame) → AllByRecursion (IsForwarded k first taken) fs → AllByRecursion (AreRight H) fs
    → AllByRecursion (IsPlacedIn places) fs → AllByRecursion (IsDue k first H taken places) fs
all_due k first H taken places [] a b c = tt
all_due k first H taken places (f ∷ fs) a b c = (record { forwarded = a.0; right = b.0; placed = c.0 }, all_due k first H taken places fs a.1 b.1 c.1)

pub all_inside : (k first n : ℕ) (taken : List Packet) (fs : List Frame) → frames taken ≡ n → AllByRecursion (IsForwarded k first taken) fs → AllByRecursion (λ f. f.number < n) fs
all_inside k first n taken [] e h = tt
all_inside k first n taken (f ∷ fs) e h = ((let i = h.0.inside in omega (arith, i, e)), all_inside k first n taken fs e h.1)

claims_some : (n : ℕ) (taken : List Packet) → 0 < length taken → claims_of n taken ≡ frames taken + n
claims_some n [] lt = absurd (omega (arith, lt))
claims_some n (p ∷ taken) lt = refl

filled_due : (k first : ℕ) (H : List Tables) (taken : List Packet) (places : List (Option Kept)) (f : Frame) → IsDue k first H taken places f → IsFilled k first H taken f.number f.results
filled_due k first H taken places f due = record {
  answered = answered k H (frame taken f.number) (results_of f.results.list) due.forwarded.asked due.right;
  list = due.forwarded.list;
}

pub home : (k first n : ℕ) (taken : List Packet) (a b : Board) (old new : List (Option Kept)) → IsBrought k first (length a.gathered) n taken a b old new → length old ≡ frames taken → 0 < length taken → 0 < n
    → IsDrawnOnce a.gathered → IsDrawnOnce b.gathered → AreLawful b.log.history b.trails → AreSteady b.log.history b.trails → IsHome k first (length a.gathered) n taken a b new
home k first n taken a b old new h len any some before after lawful steady =
    let base : ℕ = length a.gathered in
    let count : ℕ = frames taken in
    let H : List Tables = b.log.history in
    let fs : List Frame = frames_in h.steps in
    let drawn : IsDrawnOnce (a.gathered ++ h.claims) = subst IsDrawnOnce h.gathered after in
    let once = each_once count n a.gathered h.claims h.steps before drawn h.named h.lasts some in
    let most : (j : ℕ) → times j (numbers_in h.steps) ≤ 1 = λ j. at_most count j (times j (numbers_in h.steps)) (once.once j) (once.none j) in
    let there : AllByRecursion (IsPlacedIn new) fs =
    subst (λ xs. AllByRecursion (IsPlacedIn xs) fs) (sym h.places) (placed_all old fs most (all_inside k first (length old) taken fs (sym len) h.each)) in
    let long : length new ≡ count = ap length h.places ∙ (length_placed old fs ∙ len) in
    let right : AllByRecursion (IsRight H) (results_in h.steps) =
    told_right H h.trails (results_in h.steps) h.told (lawful_right H a.trails h.trails (subst (AreLawful H) h.came lawful))
    (each_right (IsSteadyTrail H) a.trails h.trails (subst (AreSteady H) h.came steady)) in
    let due : AllByRecursion (IsDue k first H taken new) fs = all_due k first H taken new fs h.each (right_frames H h.steps right) there in
    let each : (j : ℕ) → j < length new → (kept : Kept) × (slice_index_or new j None ≡ Some kept) × IsFilled k first H taken (0 + j) kept = λ j lt.
    let one = once.once j (omega (arith, lt, long)) in
    let f = frame_of_number (IsDue k first H taken new) fs j due (omega (arith, one)) in (
      f.0.results,
      ap (λ m. slice_index_or new m None) (sym f.1) ∙ f.2.placed,
      subst (λ m. IsFilled k first H taken m f.0.results) (f.1 ∙ zero_more j) (filled_due k first H taken new f.0 f.2),
    ) in
    let filled : AreFilled k first H taken 0 new = filled_by k first H taken 0 new (omega (arith, long)) each in
    let low : (c : ℕ) → 0 < times c h.claims → base ≤ c = λ c lt. (drawn_within a.gathered h.claims c before drawn lt).0 in
    record {
      filled = filled;
      answered = filled_whole k first H taken 0 new filled;
      trails = h.trails;
      came = h.came;
      claims = h.claims;
      brought = h.gathered;
      gathered = record {
        parts = parts_of new;
        whole = refl;
        each = λ f. subst (λ m. Matched IsOf (frame taken m) (slice_index_or (parts_of new) f [])) (sym (zero_more f)) (filled_each k first H taken 0 new filled f);
        count = once.claims ∙ sym (claims_some n taken any);
        told = subst (Told h.trails) (sym (named_parts base count h.claims h.steps new h.named long low there)) h.told;
      };
    }
  where
    zero_more : (j : ℕ) → j ≡ 0 + j
    zero_more j = omega arith

    at_most : (n j t : ℕ) → (j < n → t ≡ 1) → (n ≤ j → t ≡ 0) → t ≤ 1
    at_most n j t a b = dite (ℕ_discrete (n - j) 0) (λ e. (let z = b (omega (arith, e)) in omega (arith, z))) (λ ne. (let z = a (omega (arith, ne)) in omega (arith, z)))
