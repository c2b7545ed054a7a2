-- A round from the calls on its workers.
use Rattle.std.proofs.Common.{◌≡◌, ◌<◌, ◌≤◌, ◌+◌, ◌-◌, ◌*◌, ◌/◌, ◌^◌, ◌++◌, ◌∷◌, [], ℕ, suc, List, Bool, true, false, not, length, take, drop, arith, refl, ap, ap₂, ◌∙◌, sym, subst, Option}
use Rattle.std.specs.Prelude.{slice_index, slice_index_or}
use Rattle.std.specs.List.{list_any}
use Rattle.fib_plane.specs.Views.{is_alone}
use Rattle.std.proofs.lemmas.List.{append-nil, drop_all}
use Rattle.std.proofs.Math.Seq.{take-append_seam}
use Rattle.fib_config.specs.Config.{Setup}
use Rattle.fib_core_results.specs.Trails.{AtLeast, version_at}
use Rattle.fib_capture.specs.declared.packet.Packet.{Packet}
use Rattle.fib_core_lawful.specs.State.{Log, left_of}
use Rattle.fib_core_board.specs.Boards.{Board}
use Rattle.fib_control.specs.Controls.{Control, with_board}
use Rattle.fib_worker_crew.specs.Frames.{frames, frame}
use Rattle.fib_worker_crew.specs.Results.{Kept}
use Rattle.fib_worker_crew.specs.Packets.{IsOf, Matched, span}
use Rattle.fib_worker_crew.proofs.Spans.{length_span, span_none}
use Rattle.fib_rounds_homing.specs.Homes.{HasGathered, IsHome, NoneOut, but_crew, but_out}
use Rattle.fib_rounds_homing.specs.Places.{AreFilled, IsRightOf, joined, parts_of}
use Rattle.fib_rounds_turns.specs.Routers.{KeepsCrew, Progress, applied_in, router_of}
use Rattle.fib_rounds.specs.declared.lines.Stop.{Stop}
use Rattle.fib_rounds.specs.declared.opening.Opening.{Opening}
use Rattle.fib_rounds.specs.Stages.{IsHistory, Stage}
use Rattle.fib_rounds.specs.Rounds.{GoesOn, StopsAt, lines_run, stage_of}
use Rattle.fib_rounds.specs.inner.Forwarded.{HasForwardedRound, IsAtRest}

pub written_back : {A : Type 0} (n : ℕ) (xs ys : List A) → length xs ≡ n → take n (xs ++ ys) ≡ xs
written_back n xs ys e = ap (λ k. take k (xs ++ ys)) (sym e) ∙ take-append_seam xs ys

abbrev stage_with : Setup → Log → Progress → Stage
stage_with s l p = record { router = record { config = s; changes = l.version.applied; refused = p.refused; batch = p.batch }; history = l.history }

-- a call on workers leaves where the run stands
pub stage_kept : (c d : Control) (p : Progress) → d.setup ≡ c.setup → d.plane.board.log ≡ c.plane.board.log → stage_of d p ≡ stage_of c p
stage_kept c d p s l = ap₂ (λ (x : Setup) (y : Log). stage_with x y p) s l

pub board_setup : (c d : Control) (b : Board) → d ≡ with_board c b → d.setup ≡ c.setup
board_setup c d b e = ap (λ (x : Control). x.setup) e

pub count_is : (ps : List Packet) (first to : ℕ) → first ≤ to → to ≤ length ps → frames (span ps first to) ≡ (to - first + 255) / 256
count_is ps first to le lt = ap (λ n. (n + 255) / 256) (length_span ps first to le lt)

-- where nobody is out the control plane is alone
none_away : (away : List Bool) → ((n : ℕ) → slice_index_or away n false ≡ false) → list_any (λ is. is) away ≡ false
none_away [] home = refl
none_away (true ∷ away) home = absurd (off (home 0))
  where
    off : true ≡ false → ⊥
    off e = cc
none_away (false ∷ away) home = none_away away (λ n. home (suc n))

pub alone_again : (b : Board) → NoneOut b → is_alone b ≡ true
alone_again b home = ap not (none_away b.out home)

-- enough passes are left for a round
pub enough_left : (workers place count : ℕ) (c : Control) → IsAtRest workers place c → place ≤ 65535 → count ≤ 2 ^ 24 → (n : ℕ) → n < workers → 256 * (count + 1) ≤ left_of (slice_index c.plane.board.rests n)
enough_left workers place count c rests few most n lt = omega (arith, rests.passes n lt, few, most)

-- the version at the opening is settled
pub knows_opened : (workers place k : ℕ) (c : Control) → IsAtRest workers place c → k ≡ applied_in c → AtLeast (version_at k) c.plane.board.log.version
knows_opened workers place k c rests is = record { settled = omega (arith, is, rests.settled); applied = omega (arith, is) }

home_is : (k j first base bottom n m : ℕ) (taken : List Packet) (a c b : Board) (places : List (Option Kept)) → k ≡ j → base ≡ bottom → n ≡ m → a.trails ≡ c.trails → a.gathered ≡ c.gathered
    → IsHome k first base n taken a b places → IsHome j first bottom m taken c b places
home_is k j first base bottom n m taken a c b places ek eb en et ec h = record {
  filled = subst (λ x. AreFilled x first b.log.history taken 0 places) ek h.filled;
  answered = subst (λ x. Matched (IsRightOf x b.log.history) taken (joined (parts_of places))) ek h.answered;
  trails = h.trails;
  came = h.came ∙ ap (λ xs. xs ++ h.trails) et;
  claims = h.claims;
  brought = h.brought ∙ ap (λ xs. xs ++ h.claims) ec;
  gathered = subst (λ x. HasGathered x bottom taken (joined (parts_of places)) h.claims h.trails) en (subst (λ x. HasGathered n x taken (joined (parts_of places)) h.claims h.trails) eb h.gathered);
}

-- A are the control plane at the opening, B with its workers out, C after the lines, D with its workers home
pub forwarded : (script : List (List ℕ)) (ps : List Packet) (round : Opening) (workers : ℕ) (A B C D : Control) (early late : Progress) (old new : List ℕ) (stop : Stop) (places : List (Option Kept)) (k base n : ℕ)
    → IsAtRest workers round.place A → B.setup ≡ A.setup → but_out B.plane.board ≡ but_out A.plane.board → KeepsCrew B C → D.setup ≡ C.setup → but_crew D.plane.board ≡ but_crew C.plane.board
    → GoesOn script round.place (stage_of B early) old stop.place (stage_of C late) new → StopsAt (drop stop.place script) (router_of C late) stop.asked → round.place ≤ stop.place → stop.place ≤ length script → stop.place ≤ 65535
    → applied_in C ≤ stop.place → late.lines ≡ lines_run stop.place stop.asked → (IsHistory (stage_of B early) → IsHistory (stage_of C late))
    → k ≡ applied_in A → base ≡ length A.plane.board.gathered → n ≡ workers
    → IsHome k round.first base n (span ps round.first round.to) C.plane.board D.plane.board places → NoneOut D.plane.board
    → ((i : ℕ) → left_of (slice_index C.plane.board.rests i) ≤ left_of (slice_index D.plane.board.rests i) + 256 * (frames (span ps round.first round.to) + 1))
    → frames (span ps round.first round.to) ≤ 2 ^ 24 → HasForwardedRound script ps round A early old stop D late new places
forwarded script ps round workers A B C D early late old new stop places k base n rests b_setup b_board keeps d_setup d_board on stops later inside short few lines history is_k is_base is_n home none passes most =
    let b_log : B.plane.board.log ≡ A.plane.board.log = ap (λ (x : Board). x.log) b_board in
    let d_log : D.plane.board.log ≡ C.plane.board.log = ap (λ (x : Board). x.log) d_board in
    let stage0 : stage_of B early ≡ stage_of A early = stage_kept A B early b_setup b_log in
    let stage2 : stage_of D late ≡ stage_of C late = stage_kept C D late d_setup d_log in
    let router2 : router_of D late ≡ router_of C late = ap (λ (s : Stage). s.router) stage2 in
    let trails : C.plane.board.trails ≡ A.plane.board.trails = ap (λ (x : Board). x.trails) keeps ∙ ap (λ (x : Board). x.trails) b_board in
    let claims : C.plane.board.gathered ≡ A.plane.board.gathered = ap (λ (x : Board). x.gathered) keeps ∙ ap (λ (x : Board). x.gathered) b_board in
    let left : C.plane.board.rests ≡ A.plane.board.rests = ap (λ (x : Board). x.rests) keeps ∙ ap (λ (x : Board). x.rests) b_board in
    record {
      on = subst (λ s. GoesOn script round.place s old stop.place (stage_of D late) new) stage0 (subst (λ s. GoesOn script round.place (stage_of B early) old stop.place s new) (sym stage2) on);
      stops = subst (λ r. StopsAt (drop stop.place script) r stop.asked) (sym router2) stops;
      later = later;
      inside = inside;
      short = short;
      few = omega (arith, few, ap (λ (l : Log). l.version.applied) d_log);
      lines = lines;
      history = λ h. subst IsHistory (sym stage2) (history (subst IsHistory (sym stage0) h));
      home = home_is k (applied_in A) round.first base (length A.plane.board.gathered) n A.plane.board.workers (span ps round.first round.to) C.plane.board A.plane.board D.plane.board places is_k is_base (is_n ∙ sym rests.all) trails claims home;
      none = none;
      fewer = most;
      passes = λ i. omega (arith, passes i, most, ap (λ xs. left_of (slice_index xs i)) left);
      workers = ap (λ (x : Board). x.workers) d_board ∙ (ap (λ (x : Board). x.workers) keeps ∙ ap (λ (x : Board). x.workers) b_board);
    }

-- ---- a round without packets

alone_home : (k first base workers : ℕ) (ps : List Packet) (a b : Board) → ps ≡ [] → b.trails ≡ a.trails → b.gathered ≡ a.gathered → IsHome k first base workers ps a b []
alone_home k first base workers ps a b none trails claims = subst (λ qs. IsHome k first base workers qs a b []) (sym none) (record {
  filled = no_frame 0;
  answered = tt;
  trails = [];
  came = trails ∙ sym (append-nil a.trails);
  claims = [];
  brought = claims ∙ sym (append-nil a.gathered);
  gathered = record {
    parts = [];
    whole = refl;
    each = λ f. subst (λ qs. Matched IsOf qs []) (sym (no_frame f)) tt;
    count = refl;
    told = tt;
  };
})
  where
    no_frame : (f : ℕ) → frame {A = Packet} [] f ≡ []
    no_frame f = ap (take 256) (drop_all {X = Packet} (256 * f) [] (omega arith))

pub alone_ran : (script : List (List ℕ)) (ps : List Packet) (round : Opening) (workers : ℕ) (A B : Control) (early late : Progress) (old new : List ℕ) (stop : Stop) → round.first ≡ round.to → IsAtRest workers round.place A → KeepsCrew A B
    → GoesOn script round.place (stage_of A early) old stop.place (stage_of B late) new → StopsAt (drop stop.place script) (router_of B late) stop.asked → round.place ≤ stop.place → stop.place ≤ length script → stop.place ≤ 65535
    → applied_in B ≤ stop.place → late.lines ≡ lines_run stop.place stop.asked → (IsHistory (stage_of A early) → IsHistory (stage_of B late)) → HasForwardedRound script ps round A early old stop B late new []
alone_ran script ps round workers A B early late old new stop none rests keeps on stops later inside short few lines history =
    let empty : span ps round.first round.to ≡ [] = ap (λ n. span ps n round.to) none ∙ span_none ps round.to in
    record {
      on = on;
      stops = stops;
      later = later;
      inside = inside;
      short = short;
      few = few;
      lines = lines;
      history = history;
      home = alone_home (applied_in A) round.first (length A.plane.board.gathered) A.plane.board.workers (span ps round.first round.to) A.plane.board B.plane.board empty (ap (λ (x : Board). x.trails) keeps) (ap (λ (x : Board). x.gathered) keeps);
      none = λ n. ap (λ (x : Board). slice_index_or x.out n false) keeps ∙ rests.none n;
      fewer = omega (arith, ap length empty);
      passes = λ n. omega (arith, ap (λ (x : Board). left_of (slice_index x.rests n)) keeps);
      workers = ap (λ (x : Board). x.workers) keeps;
    }
