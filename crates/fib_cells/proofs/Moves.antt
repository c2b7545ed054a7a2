-- Each step may be taken, at any table of the rule: by the rule's event of its name.
use Rattle.std.proofs.Common.{◌≡◌, ℕ, ◌+◌, ◌-◌, ◌*◌, ◌%◌, ◌^◌, ◌<◌, ◌==◌, true, false, List, [], ◌∷◌, refl, sym, ap, ◌∙◌, subst, arith}
use Rattle.std.proofs.lemmas.Bool.Decides.{nat_tests}
use Rattle.std.specs.Prelude.{slice_index, slice_index_or, slice_set}
use Rattle.std.proofs.lemmas.List.{set-get_or}
use mathlib.Core.Option.{some, none}
use prog.Atomic.{either}
use Rattle.atomic_table.specs.Table.{State, Me, step, keeps, Allows, Splits, Joins}
use Rattle.fib_resolve.specs.declared.types.Tables.{Tables}
use Rattle.fib_core_results.specs.declared.record.Version.{Version}
use Rattle.fib_core_results.specs.Versions.{packed}
use Rattle.fib_core.specs.declared.word.Word.{Word}
use Rattle.fib_core.specs.Words.{encoded}
use Rattle.fib_core.specs.Trails.{IsSoundTrail}
use Rattle.fib_core_lawful.specs.Layout.{version_word, pass_word, claim_word, cell_word, cell_of, worker_at}
use Rattle.fib_core_lawful.specs.State.{Control, Worker, View, control, worker, note, spent}
use Rattle.fib_core_lawful.specs.State.{started, learned, hopped, stopped, claimed, told}
use Rattle.fib_core_lawful.specs.State.{put, looked, with_log, begun, settled, picking, sent, new_worker, taken_home}
use Rattle.fib_core_lawful.specs.Frame.{HasView}
use Rattle.fib_core_lawful.specs.May.{MaySettle}
use Rattle.fib_core_lawful.proofs.Framing.{own}
use Rattle.fib_core_lawful.proofs.Views.{set_there}
use Rattle.fib_core_rule.specs.Rule.{IsLawful, parts}
use Rattle.fib_core_rule.specs.May.{MayComeHome, MayDraw, MayLoad, MaySend, MayStart, MayStop}
use Rattle.fib_core_rule.proofs.Keeping as keep
use Rattle.fib_core_rule.proofs.Tells as tell
use Rattle.fib_core_board.specs.Boards.{board_of}
use Rattle.fib_core_board.specs.May as asked
use Rattle.fib_core_board.proofs.Ruling.{store_allowed, begin_allowed, told_home}
use Rattle.fib_cells.specs.inner.Told.{control_of, worker_of, note_of, IsControl, IsWorker, IsNote, Tells}
use Rattle.fib_cells.specs.inner.Told.{Starts, Learns, Hops, Stops, Draws, Stores, Begins, Settles, Looks, Picks, Recalls}
use Rattle.fib_cells.specs.inner.Told.{left_at_home, sent_out, noted_by, noted_on, both_of, told_of}

abbrev pub holds : ℕ → State Tables View → Type 0
holds objects s = IsLawful objects s.words s.views

module _ (objects slots id : ℕ) where
  same_words : (words : List ℕ) (views : List View) (i : ℕ) → IsLawful objects words views
      → IsLawful objects (slice_set words i (slice_index words i)) views
  same_words words views i h = subst (λ ws. IsLawful objects ws views) (sym (set-get_or words i 0)) h

  -- the view that a step left
  set_view : (views : List View) (v w : View) → HasView views id v → HasView (slice_set views id w) id w
  set_view views v w at = set_there views id v w at

  told_of_board : (words : List ℕ) (views : List View) (c : Control) → IsLawful objects words views → HasView views id (control c) → Tells c
  told_of_board words views c s at limits name passes = told_home name passes c objects words views s id at limits

  -- the steps of a worker

  pub starts : (v : Worker) (p : ℕ) → MayStart p
      → Allows (holds objects) slots id (worker v, []) (pass_word v.number) (λ _. p) (λ _. Starts (step slots (pass_word v.number) p 0 none) (worker v, []) p)
  starts v p may s h homes at fits =
      let known : v.objects ≡ objects = (h.holds.rule.2.fits id (worker v) at).1.0.0.known in
      let next = keep.starts objects s.words s.views id h v p may at in (
        worker (started v p),
        keeps,
        tt,
        next,
        (
          refl,
          subst (λ m. IsSoundTrail m []) (sym known)
              (tell.trail_sound objects (slice_set s.words (pass_word v.number) p) (slice_set s.views id (worker (started v p))) next id (started v p) (set_view s.views (worker v) (worker (started v p)) at)),
        ),
      )

  pub learns : (v : Worker) → Allows (holds objects) slots id (worker v, []) version_word (λ n. n) (Learns (step slots version_word 0 0 none) (worker v, []))
  learns v s h homes at fits =
      let w : View = worker (learned v (slice_index s.words version_word)) in (
        w,
        keeps,
        tt,
        same_words s.words (slice_set s.views id w) version_word (keep.learns objects s.words s.views id h v at),
        (refl, tell.known_before objects s.words s.views h id v at),
      )

  pub hops : (v : Worker) (k : ℕ) → MayLoad v k
      → Allows (holds objects) slots id (worker v, []) (cell_word k) (λ n. n) (Hops (step slots (cell_word k) 0 0 none) (worker v, []))
  hops v k may s h homes at fits =
      let known : v.objects ≡ objects = (h.holds.rule.2.fits id (worker v) at).1.0.0.known in
      let found : ℕ = slice_index s.words (cell_word k) in
      let next = keep.hops objects s.words s.views id h v k may at in
      let back : k ≡ cell_of (cell_word k) = omega arith in (
        worker (hopped v k found),
        keeps,
        tt,
        same_words s.words (slice_set s.views id (worker (hopped v k found))) (cell_word k) next,
        (
          ap (λ i. (worker (hopped v i found), [])) back,
          tell.word_found objects s.words s.views h k (subst (λ m. k < 16 * m) known may.inside),
          subst (λ (x : ℕ × ℕ). IsSoundTrail x.0 ((x.1, found) ∷ v.trail)) (λ i. (sym known i, back i))
              (tell.trail_sound objects s.words (slice_set s.views id (worker (hopped v k found))) next id (hopped v k found) (set_view s.views (worker v) (worker (hopped v k found)) at)),
        ),
      )

  pub stops : (v : Worker) (p : ℕ) → MayStop p
      → Allows (holds objects) slots id (worker v, []) (pass_word v.number) (λ _. p) (λ _. Stops (step slots (pass_word v.number) p 0 none) (worker v, []) p)
  stops v p may s h homes at fits = (worker (stopped v p), keeps, tt, keep.stops objects s.words s.views id h v p may at, refl)

  pub draws : (v : Worker) → MayDraw v
      → Allows (holds objects) slots id (worker v, []) claim_word (λ n. (n + 1) % 2 ^ 64) (Draws (step slots claim_word 1 0 none) (worker v, []))
  draws v may s h homes at fits =
      let n : ℕ = slice_index s.words claim_word in
      let small : n + 1 < 18446744073709551616 = tell.claim_room objects s.words s.views h in
      let whole : n + 1 ≡ (n + 1) % 18446744073709551616 = omega arith in (
        worker (claimed v n),
        keeps,
        tt,
        subst (λ m. IsLawful objects (slice_set s.words claim_word m) (slice_set s.views id (worker (claimed v n)))) whole
            (keep.draws objects s.words s.views id h v may at),
        refl,
      )

  -- the steps of the control plane

  pub stores : (c : Control) (name : List ℕ) (k : ℕ) (w : Word) → asked.MayStore (board_of name c.home [] c) k w
      → Allows (holds objects) slots id (control c, []) (cell_word k) (λ _. encoded w) (λ _. Stores (step slots (cell_word k) (encoded w) 0 none) (control c, []) (encoded w))
  stores c name k w may s h homes at fits =
      let back : k ≡ cell_of (cell_word k) = omega arith in
      let d : Control = put c k (encoded w) in
      let next = keep.puts objects s.words s.views id h c k (encoded w) (store_allowed name c.home [] c objects s.words s.views h id at k w may) at in (
        control d,
        keeps,
        tt,
        next,
        subst (λ i. (◌≡◌ {A = Me Tables View} (control d, []) (control (put c i (encoded w)), [])) × Tells (put c i (encoded w))) back
            (refl, told_of_board (slice_set s.words (cell_word k) (encoded w)) (slice_set s.views id (control d)) d next (set_view s.views (control c) (control d) at)),
      )

  pub begins : (c : Control) (name : List ℕ) (T : Tables) (old new : ℕ) → old ≡ packed c.log.version → new ≡ packed (begun c.log T).version
      → asked.MayBegin (board_of name c.home [] c) T
      → Allows (holds objects) slots id (control c, []) version_word (λ n. either (n == old) new n) (Begins (step slots version_word old new (some T)) (control c, []))
  begins c name T old new is next may s h homes at fits =
      let d : Control = with_log c (begun c.log T) in
      let now : slice_index s.words version_word ≡ old = (keep.here objects s.words s.views id h c at).0.0.log.packed ∙ sym is in
      let hit : (slice_index s.words version_word == old) ≡ true = grind (arith, nat_tests) in
      let then = keep.begins objects s.words s.views id h c T (begin_allowed name c.home [] c T may) at in (
        control d,
        keeps,
        tt,
        subst (λ m. IsLawful objects (slice_set s.words version_word m) (slice_set s.views id (control d)))
            (sym (ap (λ b. either b new (slice_index s.words version_word)) hit ∙ next)) then,
        (refl, told_of_board (slice_set s.words version_word (packed (begun c.log T).version)) (slice_set s.views id (control d)) d then (set_view s.views (control c) (control d) at)),
      )

  pub settles : (c : Control) (new : ℕ) → new ≡ packed (settled c.log).version → MaySettle c.union c.log
      → Allows (holds objects) slots id (control c, []) version_word (λ _. new) (λ _. Settles (step slots version_word new 0 none) (control c, []) new)
  settles c new is may s h homes at fits =
      let d : Control = with_log c (settled c.log) in
      let then = keep.settles objects s.words s.views id h c may at in (
        control d,
        keeps,
        tt,
        subst (λ m. IsLawful objects (slice_set s.words version_word m) (slice_set s.views id (control d))) (sym is) then,
        (refl, told_of_board (slice_set s.words version_word (packed (settled c.log).version)) (slice_set s.views id (control d)) d then (set_view s.views (control c) (control d) at)),
      )

  pub looks : (c : Control) (n : ℕ) → Allows (holds objects) slots id (control c, []) (pass_word n) (λ m. m) (Looks (step slots (pass_word n) 0 0 none) (control c, []))
  looks c n s h homes at fits =
      let back : n ≡ worker_at (pass_word n) = omega arith in
      let found : ℕ = slice_index s.words (pass_word n) in
      let d : Control = looked c n found in
      let next = keep.looks objects s.words s.views id h c n at in
      let desk = (own (parts objects h.names) s.words s.views id c h.holds.rule at).1.1.desk in (
        control d,
        keeps,
        tt,
        same_words s.words (slice_set s.views id (control d)) (pass_word n) next,
        subst (λ i. ((◌≡◌ {A = Me Tables View} (control d, []) (control (looked c i found), [])) × Tells (looked c i found))
            × (i < 8 → slice_index_or c.desk.out i false ≡ false → found ≡ slice_index c.desk.rests i)) back
            ((refl, told_of_board s.words (slice_set s.views id (control d)) d next (set_view s.views (control c) (control d) at)), desk.same n),
      )

  pub picks : (c : Control) (n : ℕ) → Allows (holds objects) slots id (control c, []) (pass_word n) (λ m. m) (Picks (step slots (pass_word n) 0 0 none) (control c, []))
  picks c n s h homes at fits =
      let back : n ≡ worker_at (pass_word n) = omega arith in (
        control (picking c n),
        keeps,
        tt,
        same_words s.words (slice_set s.views id (control (picking c n))) (pass_word n) (keep.picks objects s.words s.views id h c n at),
        ap (λ i. (control (picking c i), [])) back,
      )

  pub recalls : (c : Control) → Allows (holds objects) slots id (control c, []) version_word (λ m. m) (Recalls (step slots version_word 0 0 none) (control c, []))
  recalls c s h homes at fits =
      let next = keep.picks objects s.words s.views id h c c.desk.picked at in (
        control c,
        keeps,
        tt,
        same_words s.words (slice_set s.views id (control c)) 0 next,
        (
          (refl, told_of_board s.words (slice_set s.views id (control c)) c next (set_view s.views (control c) (control c) at)),
          (keep.here objects s.words s.views id h c at).0.0.spare,
        ),
      )

  -- seats that are split off and joined

  pub sends : (c : Control) → MaySend c → Splits (holds objects) id (control c) (control (sent c)) (worker (new_worker c))
  sends c may s h at = keep.sends objects s.words s.views id h c may at

  pub notes : (c : Control) → Splits (holds objects) id (control c) (control c) (note c.log.version)
  notes c s h at = keep.notes objects s.words s.views id h c at

  pub homes_seat : (c : Control) (other : ℕ) (v : Worker) → MayComeHome v → Joins (holds objects) id (control c) other (worker v) (control (taken_home c v)) spent
  homes_seat c other v may s h at apart there = keep.homes objects s.words s.views id h other c v may at apart there

  pub tells : (v : Worker) (other : ℕ) (n : Version) → Joins (holds objects) id (worker v) other (note n) (worker (told v n)) spent
  tells v other n s h at apart there = keep.tells objects s.words s.views id h other v n at apart there

-- the same in terms of what a seat knows

module _ (key slots id : ℕ) (me : Me Tables View) where
  pub may_start : (number p i : ℕ) → IsWorker me → (worker_of me.0).number ≡ number → MayStart p → i ≡ pass_word number
      → Allows (holds key) slots id me i (λ _. p) (λ _. Starts (step slots i p 0 none) me p)
  may_start number p i sat named odd is =
      subst (λ (x : Me Tables View × ℕ). Allows (holds key) slots id x.0 x.1 (λ _. p) (λ _. Starts (step slots x.1 p 0 none) x.0 p))
      (λ j. (sym sat j, (ap pass_word named ∙ sym is) j)) (starts key slots id (worker_of me.0) p odd)

  pub may_stop : (number p i : ℕ) → IsWorker me → (worker_of me.0).number ≡ number → MayStop p → i ≡ pass_word number
      → Allows (holds key) slots id me i (λ _. p) (λ _. Stops (step slots i p 0 none) me p)
  may_stop number p i sat named even is =
      subst (λ (x : Me Tables View × ℕ). Allows (holds key) slots id x.0 x.1 (λ _. p) (λ _. Stops (step slots x.1 p 0 none) x.0 p))
      (λ j. (sym sat j, (ap pass_word named ∙ sym is) j)) (stops key slots id (worker_of me.0) p even)

  pub may_learn : (i : ℕ) → IsWorker me → i ≡ version_word → Allows (holds key) slots id me i (λ n. n) (Learns (step slots i 0 0 none) me)
  may_learn i sat is =
      subst (λ (x : Me Tables View × ℕ). Allows (holds key) slots id x.0 x.1 (λ n. n) (Learns (step slots x.1 0 0 none) x.0))
      (λ j. (sym sat j, sym is j)) (learns key slots id (worker_of me.0))

  pub may_hop : (k i : ℕ) → IsWorker me → MayLoad (worker_of me.0) k → i ≡ cell_word k
      → Allows (holds key) slots id me i (λ n. n) (Hops (step slots i 0 0 none) me)
  may_hop k i sat may is =
      subst (λ (x : Me Tables View × ℕ). Allows (holds key) slots id x.0 x.1 (λ n. n) (Hops (step slots x.1 0 0 none) x.0))
      (λ j. (sym sat j, sym is j)) (hops key slots id (worker_of me.0) k may)

  pub may_draw : (i : ℕ) → IsWorker me → MayDraw (worker_of me.0) → i ≡ claim_word
      → Allows (holds key) slots id me i (λ n. (n + 1) % 2 ^ 64) (Draws (step slots i 1 0 none) me)
  may_draw i sat may is =
      subst (λ (x : Me Tables View × ℕ). Allows (holds key) slots id x.0 x.1 (λ n. (n + 1) % 2 ^ 64) (Draws (step slots x.1 1 0 none) x.0))
      (λ j. (sym sat j, sym is j)) (draws key slots id (worker_of me.0) may)

  pub may_store : (name : List ℕ) (k code i : ℕ) (w : Word) → IsControl me → code ≡ encoded w → i ≡ cell_word k
      → asked.MayStore (board_of name (control_of me.0).home [] (control_of me.0)) k w
      → Allows (holds key) slots id me i (λ _. code) (λ _. Stores (step slots i code 0 none) me code)
  may_store name k code i w sat said is may =
      subst (λ (x : Me Tables View × ℕ × ℕ). Allows (holds key) slots id x.0 x.1 (λ _. x.2) (λ _. Stores (step slots x.1 x.2 0 none) x.0 x.2))
      (λ j. (sym sat j, sym is j, sym said j)) (stores key slots id (control_of me.0) name k w may)

  pub may_begin : (name : List ℕ) (v : Version) (T : Tables) (old new i : ℕ) → IsControl me → (control_of me.0).log.version ≡ v
      → old ≡ packed v → new ≡ packed (record { settled = v.settled; applied = v.applied + 1 }) → i ≡ version_word
      → asked.MayBegin (board_of name (control_of me.0).home [] (control_of me.0)) T
      → Allows (holds key) slots id me i (λ n. either (n == old) new n) (Begins (step slots i old new (some T)) me)
  may_begin name v T old new i sat is was next here may =
      subst (λ (x : Me Tables View × ℕ). Allows (holds key) slots id x.0 x.1 (λ n. either (n == old) new n) (Begins (step slots x.1 old new (some T)) x.0))
      (λ j. (sym sat j, sym here j))
      (begins key slots id (control_of me.0) name T old new (was ∙ ap packed (sym is))
      (next ∙ ap (λ (w : Version). packed (record { settled = w.settled; applied = w.applied + 1 })) (sym is)) may)

  pub may_settle : (new i : ℕ) → IsControl me → new ≡ packed (settled (control_of me.0).log).version → i ≡ version_word
      → MaySettle (control_of me.0).union (control_of me.0).log
      → Allows (holds key) slots id me i (λ _. new) (λ _. Settles (step slots i new 0 none) me new)
  may_settle new i sat next is may =
      subst (λ (x : Me Tables View × ℕ). Allows (holds key) slots id x.0 x.1 (λ _. new) (λ _. Settles (step slots x.1 new 0 none) x.0 new))
      (λ j. (sym sat j, sym is j)) (settles key slots id (control_of me.0) new next may)

  pub may_look : (n i : ℕ) → IsControl me → i ≡ pass_word n → Allows (holds key) slots id me i (λ m. m) (Looks (step slots i 0 0 none) me)
  may_look n i sat is =
      subst (λ (x : Me Tables View × ℕ). Allows (holds key) slots id x.0 x.1 (λ m. m) (Looks (step slots x.1 0 0 none) x.0))
      (λ j. (sym sat j, sym is j)) (looks key slots id (control_of me.0) n)

  pub may_pick : (n i : ℕ) → IsControl me → i ≡ pass_word n → Allows (holds key) slots id me i (λ m. m) (Picks (step slots i 0 0 none) me)
  may_pick n i sat is =
      subst (λ (x : Me Tables View × ℕ). Allows (holds key) slots id x.0 x.1 (λ m. m) (Picks (step slots x.1 0 0 none) x.0))
      (λ j. (sym sat j, sym is j)) (picks key slots id (control_of me.0) n)

  pub may_recall : (i : ℕ) → IsControl me → i ≡ version_word → Allows (holds key) slots id me i (λ n. n) (Recalls (step slots i 0 0 none) me)
  may_recall i sat is =
      subst (λ (x : Me Tables View × ℕ). Allows (holds key) slots id x.0 x.1 (λ n. n) (Recalls (step slots x.1 0 0 none) x.0))
      (λ j. (sym sat j, sym is j)) (recalls key slots id (control_of me.0))

  pub may_note : IsControl me → Splits (holds key) id me.0 (noted_by me.0) (noted_on me.0)
  may_note sat = subst (λ v. Splits (holds key) id v (noted_by v) (noted_on v)) (sym (ap (λ m. m.0) sat)) (notes key slots id (control_of me.0))

  -- where a number was picked
  pub may_send : (c : Control) → me ≡ (control c, []) → MaySend c → Splits (holds key) id me.0 (left_at_home me.0) (sent_out me.0)
  may_send c sat may = subst (λ v. Splits (holds key) id v (left_at_home v) (sent_out v)) (sym (ap (λ m. m.0) sat)) (sends key slots id c may)

  pub may_home : (other : ℕ) (you : Me Tables View) → IsControl me → IsWorker you → MayComeHome (worker_of you.0)
      → Joins (holds key) id me.0 other you.0 (both_of me.0 you.0) spent
  may_home other you sat there rests =
      subst (λ (x : View × View). Joins (holds key) id x.0 other x.1 (both_of x.0 x.1) spent)
      (λ i. (sym (ap (λ m. m.0) sat) i, sym (ap (λ m. m.0) there) i)) (homes_seat key slots id (control_of me.0) other (worker_of you.0) rests)

  pub may_tell : (other : ℕ) (you : Me Tables View) → IsWorker me → IsNote you
      → Joins (holds key) id me.0 other you.0 (told_of me.0 you.0) spent
  may_tell other you sat there =
      subst (λ (x : View × View). Joins (holds key) id x.0 other x.1 (told_of x.0 x.1) spent)
      (λ i. (sym (ap (λ m. m.0) sat) i, sym (ap (λ m. m.0) there) i)) (tells key slots id (worker_of me.0) other (note_of you.0))
