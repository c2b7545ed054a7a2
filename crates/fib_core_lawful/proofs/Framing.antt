-- What each kind of step owes, whatever the parts are.
use Rattle.std.proofs.Common.{◌≡◌, ◌≢◌, ℕ, zero, suc, ◌+◌, ◌<◌, ◌≤◌, ◌⊎◌, inl, inr, ⊎_elim, true, false, true≢false, cond, eqb, eq-eqb, ne_eqb, List, [], ◌∷◌, ◌++◌, length, refl, sym, ap, ◌∙◌, subst, arith, get_or-set_same, get_or-set_other, length-set}
use Rattle.std.specs.Prelude.{slice_index, slice_index_or, slice_set}
use mathlib.Core.Option.{some, some-injective, some-ne-none}
use mathlib.Core.Logic.{dite}
use native.Mathlib.Decide.{ℕ_discrete}
use lib.ListN.{get_elem?}
use Rattle.fib_core_lawful.specs.Layout.{pass_word, first_cell}
use Rattle.fib_core_lawful.proofs.Views.{at_set}
use Rattle.fib_core_results.specs.declared.record.Version.{Version}
use Rattle.fib_core_lawful.specs.State.{Control, Worker, View, control, worker, note, spent, sent, new_worker, taken_home}
use Rattle.fib_core_lawful.specs.Frame.{Parts, IsSeated, Fits, IsFramed, Rule}

at_end : {A : Type 0} (l : List A) (a b : A) (j : ℕ) → get_elem? (l ++ a ∷ []) j ≡ some b → (get_elem? l j ≡ some b) ⊎ ((j ≡ length l) × (a ≡ b))
at_end [] a b zero e = inr (refl, some-injective a b e)
at_end [] a b (suc j) e = absurd (some-ne-none b (sym e))
at_end (x ∷ xs) a b zero e = inl e
at_end (x ∷ xs) a b (suc j) e = ⊎_elim (λ (h : get_elem? xs j ≡ some b). inl h) (λ (h : (j ≡ length xs) × (a ≡ b)). inr (ap suc h.0, h.1)) (at_end xs a b j e)

each_set : (Q : ℕ → View → Type 0) (views : List View) (by : ℕ) (w : View) → ((j : ℕ) (u : View) → j ≢ by → get_elem? views j ≡ some u → Q j u) → Q by w → (j : ℕ) (u : View) → get_elem? (slice_set views by w) j ≡ some u → Q j u
each_set Q views by w others mine j u e = ⊎_elim
    (λ (x : (j ≡ by) × (w ≡ u)). subst (λ (y : ℕ × View). Q y.0 y.1) (λ i. (sym x.0 i, x.1 i)) mine)
    (λ (x : (j ≢ by) × (get_elem? views j ≡ some u)). others j u x.0 x.1)
    (at_set views by j w u e)

module _ (P : Parts) (words : List ℕ) (views : List View) where
  -- the control's seat knows the rule's own view
  pub own : (id : ℕ) (c : Control) → Rule P words views → get_elem? views id ≡ some (control c) → (id ≡ 0) × ((seat_of : ℕ → ℕ) × IsFramed P words views c seat_of)
  own id c s at =
      let e = s.2.fits id (control c) at in
      (e.0, (s.1, subst (λ d. IsFramed P words views d s.1) (sym e.1) s.2))

  -- what a worker's step owes
  abbrev pub WorkerOwes : List ℕ → Worker → Worker → Type 0
  WorkerOwes words' v w = (c : Control) → P.of_control words c → P.of_worker words c v
      → P.of_control words' c × P.of_worker words' c w × ((u : Worker) → P.of_worker words c u → P.of_worker words' c u) × ((n : Version) → P.of_note words c n → P.of_note words' c n)

  pub worker_acts : (words' : List ℕ) (id : ℕ) (v w : Worker) (s : Rule P words views) → get_elem? views id ≡ some (worker v)
      → length words' ≡ length words
      → ((j : ℕ) → j < 8 → j ≢ v.number → slice_index words' (pass_word j) ≡ slice_index words (pass_word j))
      → w.number ≡ v.number
      → (slice_index words (pass_word v.number) ≡ v.pass → pass_word v.number < length words → slice_index words' (pass_word v.number) ≡ w.pass)
      → WorkerOwes words' v w
      → (seat_of : ℕ → ℕ) × IsFramed P words' (slice_set views id (worker w)) s.0 seat_of
  worker_acts words' id v w s at long same number pass owes =
      let c : Control = s.0 in
      let f = (s.2.fits id (worker v) at).0 in
      let below : v.number < 8 = f.below in
      let away = f.away in
      let size = s.2.size in
      let o = owes s.0 s.2.here (s.2.fits id (worker v) at).1 in (
        s.1,
        record {
          size = subst (λ n. first_cell ≤ n) (sym long) s.2.size;
          desk = record { outs = s.2.desk.outs; count = s.2.desk.count; same = λ n lt home. same n lt (λ e. true≢false (sym away ∙ subst (λ m. slice_index_or c.desk.out m false ≡ false) e home)) ∙ s.2.desk.same n lt home };
          here = o.0;
          fits = each_set (Fits P words' s.0 s.1) views id (worker w) (others f o.2 o.3)
              (record { below = subst (λ n. n < 8) (sym number) f.below; mine = ap s.1 number ∙ f.mine; away = ap (λ n. slice_index_or c.desk.out n false) number ∙ f.away; holds = ap (λ n. slice_index words' (pass_word n)) number ∙ pass f.holds (omega arith) }, o.1);
        },
      )
    where
      others : IsSeated words s.0.desk s.1 id v.number v.pass → ((u : Worker) → P.of_worker words s.0 u → P.of_worker words' s.0 u) → ((n : Version) → P.of_note words s.0 n → P.of_note words' s.0 n) → (j : ℕ) (u : View) → j ≢ id → get_elem? views j ≡ some u → Fits P words' s.0 s.1 j u
      others f more notes j (control d) ne e = s.2.fits j (control d) e
      others f more notes j (worker u) ne e =
          let g = s.2.fits j (worker u) e in
          (record { below = g.0.below; mine = g.0.mine; away = g.0.away; holds = same u.number g.0.below (λ n. ne (sym g.0.mine ∙ ap s.1 n ∙ f.mine)) ∙ g.0.holds }, more u g.1)
      others f more notes j (note n) ne e = notes n (s.2.fits j (note n) e)
      others f more notes j spent ne e = tt

  -- what the control's step owes
  abbrev pub ControlOwes : List ℕ → Control → Control → Type 0
  ControlOwes words' c d = P.of_control words c
      → P.of_control words' d × ((u : Worker) → u.number < 8 → slice_index_or c.desk.out u.number false ≡ true → slice_index words (pass_word u.number) ≡ u.pass → P.of_worker words c u → P.of_worker words' d u) × ((n : Version) → P.of_note words c n → P.of_note words' d n)

  pub control_acts : (words' : List ℕ) (id : ℕ) (c d : Control) → Rule P words views → get_elem? views id ≡ some (control c)
      → length words' ≡ length words
      → ((j : ℕ) → j < 8 → slice_index words' (pass_word j) ≡ slice_index words (pass_word j))
      → d.desk.out ≡ c.desk.out → d.desk.rests ≡ c.desk.rests
      → ControlOwes words' c d
      → (seat_of : ℕ → ℕ) × IsFramed P words' (slice_set views id (control d)) d seat_of
  control_acts words' id c d s at long same outs rests owes =
      let k = own id c s at in
      let o = owes k.1.1.here in
      let desk = k.1.1.desk in (
        k.1.0,
        record {
          size = subst (λ n. first_cell ≤ n) (sym long) k.1.1.size;
          desk = record { outs = ap length outs ∙ desk.outs; count = ap length rests ∙ desk.count; same = λ n lt home. same n lt ∙ desk.same n lt (ap (λ l. slice_index_or l n false) (sym outs) ∙ home) ∙ ap (λ l. slice_index l n) (sym rests) };
          here = o.0;
          fits = each_set (Fits P words' d k.1.0) views id (control d) (others k.1.0 k.1.1 k.0 o.1 o.2) (k.0, refl);
        },
      )
    where
      others : (seat_of : ℕ → ℕ) → IsFramed P words views c seat_of → id ≡ 0 → ((u : Worker) → u.number < 8 → slice_index_or c.desk.out u.number false ≡ true → slice_index words (pass_word u.number) ≡ u.pass → P.of_worker words c u → P.of_worker words' d u) → ((n : Version) → P.of_note words c n → P.of_note words' d n) → (j : ℕ) (u : View) → j ≢ id → get_elem? views j ≡ some u → Fits P words' d seat_of j u
      others seat_of k z more notes j (control e) ne h = absurd (ne ((k.fits j (control e) h).0 ∙ sym z))
      others seat_of k z more notes j (worker u) ne h =
          let g = k.fits j (worker u) h in
          (record { below = g.0.below; mine = g.0.mine; away = ap (λ l. slice_index_or l u.number false) outs ∙ g.0.away; holds = same u.number g.0.below ∙ g.0.holds }, more u g.0.below g.0.away g.0.holds g.1)
      others seat_of k z more notes j (note n) ne h = notes n (k.fits j (note n) h)
      others seat_of k z more notes j spent ne h = tt

  -- a note is split off: it owes its own part
  pub note_splits : (id : ℕ) (c : Control) (n : Version) → Rule P words views → get_elem? views id ≡ some (control c) → (P.of_control words c → P.of_note words c n) → (seat_of : ℕ → ℕ) × IsFramed P words (slice_set views id (control c) ++ note n ∷ []) c seat_of
  note_splits id c n s at owes =
      let k = own id c s at in (
        k.1.0,
        record {
          size = k.1.1.size;
          desk = k.1.1.desk;
          here = k.1.1.here;
          fits = λ j u e. ⊎_elim
              (λ (old : get_elem? (slice_set views id (control c)) j ≡ some u). each_set (Fits P words c k.1.0) views id (control c) (λ i w ne g. k.1.1.fits i w g) (k.0, refl) j u old)
              (λ (new : (j ≡ length (slice_set views id (control c))) × (note n ≡ u)). subst (Fits P words c k.1.0 j) new.1 (owes k.1.1.here))
              (at_end (slice_set views id (control c)) (note n) u j e);
        },
      )

  -- a note is joined into a worker's seat
  pub note_joins : (id other : ℕ) (v w : Worker) (n : Version) (s : Rule P words views) → get_elem? views id ≡ some (worker v) → (other ≡ id → ⊥) → get_elem? (slice_set views id (worker w)) other ≡ some (note n)
      → w.number ≡ v.number → w.pass ≡ v.pass
      → ((c : Control) → P.of_worker words c v → P.of_note words c n → P.of_worker words c w)
      → (seat_of : ℕ → ℕ) × IsFramed P words (slice_set (slice_set views id (worker w)) other spent) s.0 seat_of
  note_joins id other v w n s at apart there number pass owes =
      let g = s.2.fits id (worker v) at in
      let before : get_elem? views other ≡ some (note n) = ⊎_elim (λ (x : (other ≡ id) × (worker w ≡ note n)). absurd (apart x.0)) (λ (x : (other ≢ id) × (get_elem? views other ≡ some (note n))). x.1) (at_set views id other (worker w) (note n) there) in
      let c : Control = s.0 in (
        s.1,
        record {
          size = s.2.size;
          desk = s.2.desk;
          here = s.2.here;
          fits = each_set (Fits P words s.0 s.1) (slice_set views id (worker w)) other spent
              (λ j u ne e. each_set (Fits P words s.0 s.1) views id (worker w) (λ i x ne' e'. s.2.fits i x e')
              (record { below = subst (λ m. m < 8) (sym number) g.0.below; mine = ap s.1 number ∙ g.0.mine; away = ap (λ m. slice_index_or c.desk.out m false) number ∙ g.0.away; holds = ap (λ m. slice_index words (pass_word m)) number ∙ g.0.holds ∙ sym pass }, owes s.0 g.1 (s.2.fits other (note n) before))
              j u e)
              tt;
        },
      )

  -- a worker's seat is split off: its number isn't out, and its word is the one that it came home with
  abbrev pub SendOwes : Control → Type 0
  SendOwes c = P.of_control words c
      → P.of_control words (sent c) × P.of_worker words (sent c) (new_worker c) × ((u : Worker) → P.of_worker words c u → P.of_worker words (sent c) u) × ((n : Version) → P.of_note words c n → P.of_note words (sent c) n)

  pub worker_splits : (id : ℕ) (c : Control) → Rule P words views → get_elem? views id ≡ some (control c)
      → c.desk.picked < 8 → slice_index_or c.desk.out c.desk.picked false ≡ false → SendOwes c
      → (seat_of : ℕ → ℕ) × IsFramed P words (slice_set views id (control (sent c)) ++ worker (new_worker c) ∷ []) (sent c) seat_of
  worker_splits id c s at small there owes =
      let k = own id c s at in
      let desk = k.1.1.desk in
      let outs = desk.outs in
      let room : c.desk.picked < length c.desk.out = omega arith in
      let o = owes k.1.1.here in (
        seats k.1.0,
        record {
          size = k.1.1.size;
          desk = record { outs = length-set c.desk.out c.desk.picked true ∙ desk.outs; count = desk.count; same = λ n lt home. desk.same n lt (sym (get_or-set_other c.desk.out c.desk.picked n true false (λ e. true≢false (sym (get_or-set_same c.desk.out c.desk.picked true false room) ∙ subst (λ m. slice_index_or (slice_set c.desk.out c.desk.picked true) m false ≡ false) e home))) ∙ home) };
          here = o.0;
          fits = λ j u e. ⊎_elim
              (λ (old : get_elem? (slice_set views id (control (sent c))) j ≡ some u). each_set (Fits P words (sent c) (seats k.1.0)) views id (control (sent c)) (others k.1.0 k.1.1 k.0 o.2 o.3) (k.0, refl) j u old)
              (λ (new : (j ≡ length (slice_set views id (control (sent c)))) × (worker (new_worker c) ≡ u)). subst (Fits P words (sent c) (seats k.1.0) j) new.1 (fresh k.1.0 room (desk.same c.desk.picked small there) j new.0, o.1))
              (at_end (slice_set views id (control (sent c))) (worker (new_worker c)) u j e);
        },
      )
    where
      seats : (ℕ → ℕ) → ℕ → ℕ
      seats seat_of m = cond (eqb m c.desk.picked) (length (slice_set views id (control (sent c)))) (seat_of m)

      fresh : (seat_of : ℕ → ℕ) → c.desk.picked < length c.desk.out → slice_index words (pass_word c.desk.picked) ≡ slice_index c.desk.rests c.desk.picked → (j : ℕ) → j ≡ length (slice_set views id (control (sent c))) → IsSeated words (sent c).desk (seats seat_of) j (new_worker c).number (new_worker c).pass
      fresh seat_of room same j e = record {
        below = small;
        mine = ap (λ b. cond b (length (slice_set views id (control (sent c)))) (seat_of c.desk.picked)) (eq-eqb c.desk.picked c.desk.picked refl) ∙ sym e;
        away = get_or-set_same c.desk.out c.desk.picked true false room;
        holds = same;
      }

      others : (seat_of : ℕ → ℕ) → IsFramed P words views c seat_of → id ≡ 0 → ((u : Worker) → P.of_worker words c u → P.of_worker words (sent c) u) → ((n : Version) → P.of_note words c n → P.of_note words (sent c) n) → (j : ℕ) (u : View) → j ≢ id → get_elem? views j ≡ some u → Fits P words (sent c) (seats seat_of) j u
      others seat_of k z more notes j (control e) ne h = absurd (ne ((k.fits j (control e) h).0 ∙ sym z))
      others seat_of k z more notes j (worker u) ne h =
          let g = k.fits j (worker u) h in
          let apart : u.number ≢ c.desk.picked = λ e. true≢false (sym g.0.away ∙ subst (λ m. slice_index_or c.desk.out m false ≡ false) (sym e) there) in
          (record { below = g.0.below; mine = ap (λ b. cond b (length (slice_set views id (control (sent c)))) (seat_of u.number)) (ne_eqb u.number c.desk.picked apart) ∙ g.0.mine; away = get_or-set_other c.desk.out c.desk.picked u.number true false apart ∙ g.0.away; holds = g.0.holds }, more u g.1)
      others seat_of k z more notes j (note n) ne h = notes n (k.fits j (note n) h)
      others seat_of k z more notes j spent ne h = tt

  -- a worker's seat comes home
  abbrev pub HomeOwes : Control → Worker → Type 0
  HomeOwes c v = slice_index_or c.desk.out v.number false ≡ true → P.of_control words c → P.of_worker words c v
      → P.of_control words (taken_home c v) × ((u : Worker) → P.of_worker words c u → P.of_worker words (taken_home c v) u) × ((n : Version) → P.of_note words c n → P.of_note words (taken_home c v) n)

  pub worker_joins : (id other : ℕ) (c : Control) (v : Worker) → Rule P words views → get_elem? views id ≡ some (control c)
      → (other ≡ id → ⊥) → get_elem? (slice_set views id (control (taken_home c v))) other ≡ some (worker v) → HomeOwes c v
      → (seat_of : ℕ → ℕ) × IsFramed P words (slice_set (slice_set views id (control (taken_home c v))) other spent) (taken_home c v) seat_of
  worker_joins id other c v s at apart there owes =
      let k = own id c s at in
      let desk = k.1.1.desk in
      let before : get_elem? views other ≡ some (worker v) = ⊎_elim (λ (x : (other ≡ id) × (control (taken_home c v) ≡ worker v)). absurd (apart x.0)) (λ (x : (other ≢ id) × (get_elem? views other ≡ some (worker v))). x.1) (at_set views id other (control (taken_home c v)) (worker v) there) in
      let f = k.1.1.fits other (worker v) before in
      let below : v.number < 8 = f.0.below in
      let count = desk.count in
      let o = owes f.0.away k.1.1.here f.1 in (
        k.1.0,
        record {
          size = k.1.1.size;
          desk = record {
            outs = length-set c.desk.out v.number false ∙ desk.outs;
            count = length-set c.desk.rests v.number v.pass ∙ desk.count;
            same = λ n lt home. dite (ℕ_discrete n v.number)
                (λ e. subst (λ m. slice_index words (pass_word m) ≡ slice_index (slice_set c.desk.rests v.number v.pass) m) (sym e) (f.0.holds ∙ sym (get_or-set_same c.desk.rests v.number v.pass 0 (omega arith))))
                (λ ne. desk.same n lt (sym (get_or-set_other c.desk.out v.number n false false ne) ∙ home) ∙ sym (get_or-set_other c.desk.rests v.number n v.pass 0 ne));
          };
          here = o.0;
          fits = each_set (Fits P words (taken_home c v) k.1.0) (slice_set views id (control (taken_home c v))) other spent
              (λ j u ne e. each_here k.1.0 k.1.1 k.0 f.0.mine o.1 o.2 j u ne e)
              tt;
        },
      )
    where
      each_here : (seat_of : ℕ → ℕ) → IsFramed P words views c seat_of → id ≡ 0 → seat_of v.number ≡ other → ((u : Worker) → P.of_worker words c u → P.of_worker words (taken_home c v) u) → ((n : Version) → P.of_note words c n → P.of_note words (taken_home c v) n) → (j : ℕ) (u : View) → j ≢ other → get_elem? (slice_set views id (control (taken_home c v))) j ≡ some u → Fits P words (taken_home c v) seat_of j u
      each_here seat_of k z mine more notes j u ne e = ⊎_elim
          (λ (x : (j ≡ id) × (control (taken_home c v) ≡ u)). subst (Fits P words (taken_home c v) seat_of j) x.1 (x.0 ∙ z, refl))
          (λ (x : (j ≢ id) × (get_elem? views j ≡ some u)). rest j u ne x.0 x.1)
          (at_set views id j (control (taken_home c v)) u e)
        where
          rest : (j : ℕ) (u : View) → j ≢ other → j ≢ id → get_elem? views j ≡ some u → Fits P words (taken_home c v) seat_of j u
          rest j (control e) ne ne' h = absurd (ne' ((k.fits j (control e) h).0 ∙ sym z))
          rest j (worker u) ne ne' h =
              let g = k.fits j (worker u) h in
              (record { below = g.0.below; mine = g.0.mine; away = get_or-set_other c.desk.out v.number u.number false false (λ e. ne (sym g.0.mine ∙ ap seat_of e ∙ mine)) ∙ g.0.away; holds = g.0.holds }, more u g.1)
          rest j (note n) ne ne' h = notes n (k.fits j (note n) h)
          rest j spent ne ne' h = tt
