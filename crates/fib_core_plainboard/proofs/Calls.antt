-- What each call of a plain board owes, of its fields.
use Rattle.std.proofs.Common.{◌≡◌, ℕ, zero, suc, ◌+◌, ◌-◌, ◌/◌, ◌%◌, ◌^◌, ◌<◌, true, false, List, [], ◌∷◌, length, get_or, refl, sym, ap, ◌∙◌, subst, arith, get_or-set_same, get_or-set_other, length-set}
use Rattle.std.specs.Prelude.{slice_index, slice_index_or, slice_set, replicate, Option, Some, None, option_map, is_some, IsTrue, IfNone, IfSome}
use Rattle.std.proofs.lemmas.Grind.{get_or_default_zero}
use Rattle.std.proofs.lemmas.List.{set-set}
use Rattle.std.proofs.lemmas.Bool.{eq-eqb, false≢true}
use mathlib.Core.Logic.{dite}
use mathlib.Core.Option.{some}
use native.Mathlib.Decide.{ℕ_discrete}
use Rattle.fib_resolve.specs.declared.types.End.{End}
use Rattle.fib_resolve.specs.declared.types.Tables.{Tables}
use Rattle.fib_core_results.specs.declared.record.Version.{Version}
use Rattle.fib_core_results.specs.Trails.{version_at}
use Rattle.fib_core_results.specs.Versions.{packed}
use Rattle.fib_union.specs.Marks.{is_even}
use Rattle.fib_core.specs.declared.word.Word.{Word}
use Rattle.fib_core.specs.Words.{encoded}
use Rattle.fib_core.specs.Walk.{Place, ended, end_at, root}
use Rattle.fib_core.specs.Trails.{IsGoing, place}
use Rattle.fib_core.proofs.Numbers.{zeros}
use Rattle.fib_core_lawful.specs.Layout.{version_word, pass_word, first_cell, cell_word, words_for}
use Rattle.fib_core_lawful.specs.State.{control, first_control, left_of}
use Rattle.fib_core_rule.proofs.Fresh.{fresh_lawful}
use Rattle.fib_core.specs.declared.stage.Stage.{Stage}
use Rattle.fib_core.specs.declared.stage.Stage.TheVariants as stages
use Rattle.fib_core.specs.Stages.{StandsAt, end_in}
use Rattle.fib_core_board.specs.May.{MayStore, MayBegin, MaySettle}
use Rattle.fib_core_board.specs.Told.{IsWithinLimits}
use Rattle.fib_core_board.specs.Boards.{Board, Pass}
use Rattle.fib_core_plainboard.specs.declared.running.Running.{Running}
use Rattle.fib_core_plainboard.specs.Passes.{IsAlong, pass_of, fresh_plain, IsRunning, IsOnItsWay, HasEnd, pass_begun, pass_hopped, pass_ended, answer_of, loads_in, FoundEdge}
use Rattle.fib_core_plainboard.specs.inner.Reads.{IsReadable, IsNext}
use Rattle.fib_core_plainboard.specs.inner.Sits.{IsPlain, HoldsBoard, Keeps, put_at, looked_at, settled_at, begun_with, sent_at, aimed_at, with_hash, ended_at, hopped_at}
use Rattle.fib_core_plainboard.proofs.Keeping as keep
use Rattle.fib_core_plainboard.proofs.Passing as passing
use Rattle.fib_core_plainboard.proofs.Passing.{some_is, some_none, pass_same, pass_other, inside}
use Rattle.fib_core_plainboard.proofs.Hopping as hopping
use Rattle.fib_core_plainboard.proofs.Ending as ending

-- what an index of words gives
pub found : (xs : List ℕ) (i j r : ℕ) → i ≡ j → r ≡ get_or xs i r → j < length xs → slice_index xs j ≡ r
found xs i j r is e lt = sym (e ∙ ap (λ k. get_or xs k r) is ∙ get_or_default_zero xs j r lt)

-- the same word stored, by its name
pub stored_at : (words : List ℕ) (i j v : ℕ) (new : Board) (K : Type 0) → i ≡ j → IsPlain (slice_set words j v) new × K → IsPlain (slice_set words i v) new × K
stored_at words i j v new K is h = (subst (λ m. IsPlain (slice_set words m v) new) (sym is) h.0, h.1)

same_in : {A : Type 0} (x : A) (m n : ℕ) → slice_index_or (replicate m x) n x ≡ x
same_in x zero n = refl
same_in x (suc m) zero = refl
same_in x (suc m) (suc n) = same_in x m n

-- a fresh board
module _ (objects workers : ℕ) (limits : IsWithinLimits objects workers) where
  pub fresh_is : IsPlain (replicate (words_for objects) 0) (fresh_plain objects workers)
  fresh_is = record {
    views = control (first_control objects workers) ∷ [];
    home = [];
    picked = 0;
    lawful = fresh_lawful objects workers (let least = limits.least in omega arith) limits.eight;
    mine = refl;
    limits = limits;
    claims = refl;
    trails = refl;
    even = λ n. ap (λ x. x % 2) (zeros 8 n);
    long = refl;
    sits = λ n q e. absurd (some_none q (sym e ∙ same_in None 8 n));
    rests = λ n e. same_in false 8 n;
  }

  both : (r : Option Running) (q : Option Pass) → r ≡ None → q ≡ None → Keeps r q
  both r q x y = subst (λ a. Keeps a q) (sym x) (subst (Keeps None) (sym y) tt)

  pub fresh_kept : HoldsBoard objects workers (replicate 8 None) (fresh_plain objects workers)
  fresh_kept = record {
    all = refl;
    crew = refl;
    long = refl;
    keeps = λ n. both (slice_index_or (replicate 8 None) n None) (pass_of (fresh_plain objects workers) n) (same_in None 8 n) (same_in None 8 n);
  }

-- a stage at an end is that end
abbrev end_of_stage : Stage → End → End
end_of_stage (stages.Ply o d) e = e
end_of_stage (stages.Balance o left) e = e
end_of_stage (stages.Adjacency o) e = e
end_of_stage (stages.Ended x) e = x

ended_is : (x y : End) → stages.Ended x ≡ stages.Ended y → x ≡ y
ended_is x y e = ap (λ s. end_of_stage s x) e

ended_stage : (h : ℕ) (at : Place) (stage : Stage) (e : End) → StandsAt h at stage → at ≡ ended e → stage ≡ stages.Ended e
ended_stage h at (stages.Ply o d) e is end = absurd (subst IsGoing (sym is ∙ end) tt)
ended_stage h at (stages.Balance o left) e is end = absurd (subst IsGoing (sym is.1 ∙ end) tt)
ended_stage h at (stages.Adjacency o) e is end = absurd (subst IsGoing (sym is ∙ end) tt)
ended_stage h at (stages.Ended x) e is end = ap (λ p. stages.Ended (end_at p)) (sym is ∙ end)

-- two steps of the memory begin a pass
pub begun_is : (p : Board) (n a h : ℕ) → n < length p.passes → aimed_at (sent_at p n a) n h ≡ pass_begun p n a h
begun_is p n a h lt =
    let none : Pass = record { addr = a; hash = 0; lo = p.log.version; loads = [] } in
    let all : Pass = record { addr = a; hash = h; lo = p.log.version; loads = [] } in
    ap (λ o. record p { out = slice_set p.out n true; passes = slice_set (slice_set p.passes n (Some none)) n (option_map (with_hash h) o) }) (pass_same p.passes n (Some none) lt)
    ∙ ap (λ ps. record p { out = slice_set p.out n true; passes = ps }) (set-set p.passes n (Some none) (Some all))

-- what is kept of a pass and the pass change together
module _ (running : List (Option Running)) (passes : List (Option Pass)) (n : ℕ) (r : Option Running) (q : Option Pass) where
  pub keeps_set : ((m : ℕ) → Keeps (slice_index_or running m None) (slice_index_or passes m None)) → n < length running → n < length passes → Keeps r q
      → (m : ℕ) → Keeps (slice_index_or (slice_set running n r) m None) (slice_index_or (slice_set passes n q) m None)
  keeps_set all there inside new m = dite (ℕ_discrete m n)
      (λ same. subst (λ i. Keeps (slice_index_or (slice_set running n r) i None) (slice_index_or (slice_set passes n q) i None)) (sym same)
      (both (slice_index_or (slice_set running n r) n None) (slice_index_or (slice_set passes n q) n None) r q
      (get_or-set_same running n r None there) (get_or-set_same passes n q None inside) new))
      (λ ne. both (slice_index_or (slice_set running n r) m None) (slice_index_or (slice_set passes n q) m None) (slice_index_or running m None) (slice_index_or passes m None)
      (get_or-set_other running n m r None ne) (get_or-set_other passes n m q None ne) (all m))
    where
      both : (a : Option Running) (b : Option Pass) (c : Option Running) (d : Option Pass) → a ≡ c → b ≡ d → Keeps c d → Keeps a b
      both a b c d x y h = subst (λ (u : Option Running). Keeps u b) (sym x) (subst (Keeps c) (sym y) h)

-- it is then on its way
pub begun_on : (p : Board) (n a h : ℕ) → n < length p.passes → IsOnItsWay (pass_begun p n a h) n
begun_on p n a h lt =
    let first : Pass = record { addr = a; hash = h; lo = p.log.version; loads = [] } in
    (first, pass_same p.passes n (Some first) lt, tt)

module _ (words : List ℕ) (p : Board) (s : IsPlain words p) (objects workers : ℕ) (running : List (Option Running)) (k : HoldsBoard objects workers running p) where
  pub in_words : (i : ℕ) → i < first_cell → i < length words
  in_words i lt = (let long = keep.words_long words p s in omega arith)

  abbrev pub Holds : List ℕ → Board → Type 0
  Holds words' new = IsPlain words' new × HoldsBoard objects workers running new

  -- the control plane's calls
  pub stored : (cell code : ℕ) (w : Word) (new : Board) → code ≡ encoded w → new ≡ put_at p cell code → MayStore p cell w → Holds (slice_set words (cell_word cell) code) new
  stored cell code w new is then may = subst (Holds (slice_set words (cell_word cell) code)) (sym then) (
    subst (λ x. IsPlain (slice_set words (cell_word cell) x) (put_at p cell x)) (sym is) (keep.stores words p s cell w may),
    record { all = k.all; crew = k.crew; long = k.long; keeps = k.keeps },
  )

  pub begun : (next : Tables) (v : Version) (code : ℕ) (new : Board) → v ≡ p.log.version → code ≡ packed (record { settled = v.settled; applied = v.applied + 1 })
      → new ≡ begun_with p (some next) → MayBegin p next → Holds (slice_set words version_word code) new
  begun next v code new now is then may = subst (Holds (slice_set words version_word code)) (sym then) (
    subst (λ x. IsPlain (slice_set words version_word x) (begun_with p (some next)))
        (sym (is ∙ ap (λ (u : Version). packed (record { settled = u.settled; applied = u.applied + 1 })) now)) (keep.begins words p s next may),
    record { all = k.all; crew = k.crew; long = k.long; keeps = k.keeps },
  )

  pub settled : (v at : Version) (code : ℕ) (new : Board) → v ≡ p.log.version → at ≡ version_at v.applied → code ≡ packed at → new ≡ settled_at p 0 0 → MaySettle p → Holds (slice_set words version_word code) new
  settled v at code new now last is then may = subst (Holds (slice_set words version_word code)) (sym then) (
    subst (λ x. IsPlain (slice_set words version_word x) (settled_at p 0 0))
        (sym (is ∙ ap packed last ∙ ap (λ (u : Version). packed (version_at u.applied)) now)) (keep.settles words p s may),
    record { all = k.all; crew = k.crew; long = k.long; keeps = k.keeps },
  )

  pub looked : (n word : ℕ) (new : Board) → slice_index words (pass_word n) ≡ word → new ≡ looked_at p n word → Holds words new
  looked n word new is then = subst (Holds words) (sym then) (
    subst (λ x. IsPlain words (looked_at p n x)) is (keep.looks words p s n),
    record { all = k.all; crew = k.crew; long = k.long; keeps = k.keeps },
  )

  -- a worker that isn't out is at rest
  pub rests_even : (n word : ℕ) → n < 8 → slice_index_or p.out n false ≡ false → slice_index words (pass_word n) ≡ word → is_even word ≡ true
  rests_even n word lt home is = by_pass (pass_of p n) refl
    where
      by_pass : (o : Option Pass) → pass_of p n ≡ o → is_even word ≡ true
      by_pass None e = eq-eqb (word % 2) 0 (ap (λ x. x % 2) (sym is ∙ keep.rest_now words p s n lt e) ∙ s.even n)
      by_pass (Some q) e = absurd (false≢true (sym home ∙ keep.out_now words p s n q e))

  -- how many passes are left
  pub left_now : (n : ℕ) → n < 8 → left_of (slice_index words (pass_word n)) ≡ left_of (slice_index p.rests n)
  left_now n lt = by_pass (pass_of p n) refl
    where
      half : (x : ℕ) → x % 2 ≡ 0 → (x + 1) / 2 ≡ x / 2
      half x even = omega arith

      by_pass : (o : Option Pass) → pass_of p n ≡ o → left_of (slice_index words (pass_word n)) ≡ left_of (slice_index p.rests n)
      by_pass None e = ap left_of (keep.rest_now words p s n lt e)
      by_pass (Some q) e = ap left_of (keep.pass_now words p s n q e) ∙ ap (λ x. 2 ^ 63 - 1 - x) (half (slice_index p.rests n) (s.even n))

  -- a pass begins
  module _ (n a h : ℕ) (known : n < p.workers) (none : pass_of p n ≡ None) (left : 0 < left_of (slice_index p.rests n)) where
    pub eight : n < 8
    eight = (let most = s.limits.eight in omega arith)

    pub first_room : slice_index p.rests n + 2 < 2 ^ 64
    first_room = (let lt = left in omega arith)

    pub word_then : (r : ℕ) → slice_index words (pass_word n) ≡ r → r ≡ slice_index p.rests n
    word_then r is = sym is ∙ keep.rest_now words p s n eight none

    pub begins_kept : (r : ℕ) (kept : Running) (new : Board) → slice_index words (pass_word n) ≡ r → new ≡ aimed_at (sent_at p n a) n h → (a < 2 ^ 32) × (h < 2 ^ 32)
        → kept.addr ≡ a → kept.hash ≡ h → kept.lo ≡ p.log.version → StandsAt h root kept.stage
        → IsPlain (slice_set words (pass_word n) (r + 1)) new × HoldsBoard objects workers (slice_set running n (Some kept)) new
    begins_kept r kept new is then flow x y z at =
        let in_passes : n < length p.passes = (let long = s.long in let lt = eight in omega arith) in
        subst (λ q. IsPlain (slice_set words (pass_word n) (r + 1)) q × HoldsBoard objects workers (slice_set running n (Some kept)) q) (sym (then ∙ begun_is p n a h in_passes)) (
          subst (λ m. IsPlain (slice_set words (pass_word n) (m + 1)) (pass_begun p n a h)) (sym (word_then r is)) (passing.begins words p s n a h known none flow first_room),
          record {
            all = k.all;
            crew = k.crew;
            long = length-set running n (Some kept) ∙ k.long;
            keeps = keeps_set running p.passes n (Some kept) (Some (record { addr = a; hash = h; lo = p.log.version; loads = [] })) k.keeps (let long = k.long in let lt = eight in omega arith) in_passes (x, y, z, at);
          },
        )

  -- a pass runs
  module _ (n : ℕ) (q : Pass) (runs : pass_of p n ≡ Some q) (kept : Running) (is : slice_index_or running n None ≡ Some kept) where
    in_running : n < length running
    in_running = (let lt = inside p.passes n q runs in let long = s.long in let same = k.long in omega arith)

    pub is_kept : (kept.addr ≡ q.addr) × (kept.hash ≡ q.hash) × (kept.lo ≡ q.lo) × StandsAt q.hash (place q.loads) kept.stage
    is_kept = subst (λ (o : Option Pass). Keeps (Some kept) o) runs (subst (λ (r : Option Running). Keeps r (pass_of p n)) is (k.keeps n))

    pub readable : IsGoing (place q.loads) → IsReadable words kept.stage
    readable going = hopping.readable words p s n q runs kept.stage is_kept.3 going

    -- and hops
    module _ (going : IsGoing (place q.loads)) (then_kept : Running) (new : Board) (then : new ≡ hopped_at p n 0)
        (same : (then_kept.addr ≡ kept.addr) × (then_kept.hash ≡ kept.hash) × (then_kept.lo ≡ kept.lo)) (next : IsNext words kept.addr kept.hash kept.stage then_kept.stage) where
      next_is : IsNext words q.addr q.hash kept.stage then_kept.stage
      next_is = subst (λ (x : ℕ × ℕ). IsNext words x.0 x.1 kept.stage then_kept.stage) (λ i. (is_kept.0 i, is_kept.1 i)) next

      hop_stands : StandsAt q.hash (place (pass_hopped p.union.cells q).loads) then_kept.stage
      hop_stands = hopping.stands_at words p s n q runs kept.stage then_kept.stage is_kept.3 going next_is

      hop_runs : pass_of new n ≡ Some (pass_hopped p.union.cells q)
      hop_runs = ap (λ (r : Board). pass_of r n) then ∙ hopping.hopped_runs words p s n q runs

      pub hop_kept : IsPlain words new × HoldsBoard objects workers (slice_set running n (Some then_kept)) new
      hop_kept = subst (λ r. IsPlain words r × HoldsBoard objects workers (slice_set running n (Some then_kept)) r) (sym then) (
        hopping.hops words p s n q runs kept.stage is_kept.3 going,
        record {
          all = k.all;
          crew = k.crew;
          long = length-set running n (Some then_kept) ∙ k.long;
          keeps = keeps_set running p.passes n (Some then_kept) (option_map (pass_hopped p.union.cells) (pass_of p n)) k.keeps in_running (inside p.passes n q runs)
              (subst (λ o. Keeps (Some then_kept) (option_map (pass_hopped p.union.cells) o)) (sym runs)
              (same.0 ∙ is_kept.0, same.1 ∙ is_kept.1, same.2 ∙ is_kept.2, hopping.stands_at words p s n q runs kept.stage then_kept.stage is_kept.3 going next_is));
        },
      )

      -- along the union
      pub hop_along : IsAlong new (loads_in (pass_of new n))
      hop_along = subst (λ (o : Option Pass). IsAlong new (loads_in o)) (sym hop_runs) (passing.along words new hop_kept.0 n (pass_hopped p.union.cells q) hop_runs)

      -- its answer
      module _ (r : Option End) (gives : (h : ℕ) (at : Place) → StandsAt h at then_kept.stage → r ≡ end_in at) where
        pub hop_on : IfNone r (IsOnItsWay new n × FoundEdge (loads_in (pass_of new n)))
        hop_on = hopping.none_on new n (pass_hopped p.union.cells q) hop_runs r (gives q.hash (place (pass_hopped p.union.cells q).loads) hop_stands)
            (hopping.on_edge words p s n q runs kept.stage is_kept.3 going)

        pub hop_ended : IfSome r (λ e. HasEnd new n e × (FoundEdge (loads_in (pass_of new n)) → ⊥))
        hop_ended = hopping.some_ended new n (pass_hopped p.union.cells q) hop_runs r (gives q.hash (place (pass_hopped p.union.cells q).loads) hop_stands)
            (hopping.edge_on words p s n q runs kept.stage is_kept.3 going)

    -- and ends
    module _ (e : End) (at : place q.loads ≡ ended e) where
      pub last_word : (r : ℕ) → slice_index words (pass_word n) ≡ r → r ≡ slice_index p.rests n + 1
      last_word r found = sym found ∙ keep.pass_now words p s n q runs

      pub end_room : (r : ℕ) → slice_index words (pass_word n) ≡ r → r + 1 < 2 ^ 64
      end_room r found = (let x = last_word r found in let left = (s.sits n q runs).left in omega arith)

      pub stage_is : kept.stage ≡ stages.Ended e
      stage_is = ended_stage q.hash (place q.loads) kept.stage e is_kept.3 at

      pub end_kept : (r : ℕ) (new : Board) → slice_index words (pass_word n) ≡ r → new ≡ ended_at p n 0
          → IsPlain (slice_set words (pass_word n) (r + 1)) new × HoldsBoard objects workers (slice_set running n None) new
      end_kept r new found then = subst (λ x. IsPlain (slice_set words (pass_word n) (r + 1)) x × HoldsBoard objects workers (slice_set running n None) x) (sym then) (
        subst (λ m. IsPlain (slice_set words (pass_word n) m) (pass_ended p n)) (sym (ap (λ m. m + 1) (last_word r found) ∙ two (slice_index p.rests n))) (ending.ends words p s n q runs),
        record {
          all = k.all;
          crew = k.crew;
          long = length-set running n None ∙ k.long;
          keeps = keeps_set running p.passes n None None k.keeps in_running (inside p.passes n q runs) tt;
        },
      )
        where
          two : (x : ℕ) → x + 1 + 1 ≡ x + 2
          two x = omega arith

      pub answer_is : (hi : Version) (end : End) → hi ≡ p.log.version → kept.stage ≡ stages.Ended end
          → record { addr = kept.addr; hash = kept.hash; lo = kept.lo; hi = hi; end = end } ≡ answer_of q p.log.version
      answer_is hi end now then =
          let same : end ≡ end_at (place q.loads) = ended_is end e (sym then ∙ stage_is) ∙ sym (ap end_at at) in
          λ i. record { addr = is_kept.0 i; hash = is_kept.1 i; lo = is_kept.2 i; hi = now i; end = same i }

  -- whether a pass runs
  by_pass : (n : ℕ) (r : Option Running) (o : Option Pass) → Keeps r o → pass_of p n ≡ o → (IsTrue (is_some r) → IsRunning p n) × (IsRunning p n → IsTrue (is_some r))
  by_pass n None None h e = (λ t. absurd (false≢true t), λ run. absurd (some_none run.0 (sym run.1 ∙ e)))
  by_pass n None (Some q) h e = absurd h
  by_pass n (Some r) None h e = absurd h
  by_pass n (Some r) (Some q) h e = (λ t. (q, e), λ run. refl)

  pub runs_iff : (n : ℕ) → (IsTrue (is_some (slice_index_or running n None)) → IsRunning p n) × (IsRunning p n → IsTrue (is_some (slice_index_or running n None)))
  runs_iff n = by_pass n (slice_index_or running n None) (pass_of p n) (k.keeps n) refl

  out_by : (n : ℕ) (r : Option Running) (o : Option Pass) → Keeps r o → pass_of p n ≡ o → slice_index_or p.out n false ≡ is_some r
  out_by n None None h e = s.rests n e
  out_by n None (Some q) h e = absurd h
  out_by n (Some r) None h e = absurd h
  out_by n (Some r) (Some q) h e = keep.out_now words p s n q e

  pub runs_out : (n : ℕ) → slice_index_or p.out n false ≡ is_some (slice_index_or running n None)
  runs_out n = out_by n (slice_index_or running n None) (pass_of p n) (k.keeps n) refl
