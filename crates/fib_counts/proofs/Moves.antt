-- Each step keeps the rule.
use Rattle.std.proofs.Common.{◌≡◌, ℕ, zero, suc, ◌+◌, ◌-◌, ◌%◌, ◌^◌, ◌<◌, Bool, true, false, eqb, eq-eqb, ne_eqb, List, [], ◌∷◌, ◌++◌, length, length-append, length-set, refl, sym, ap, ◌∙◌, subst, arith, get_or-set_same, get_or-set_other}
use Rattle.std.specs.Prelude.{slice_index, slice_index_or, slice_set, if◌then◌else◌, replicate}
use mathlib.Core.Option.{some, none}
use mathlib.Core.Logic.{dite}
use native.Mathlib.Decide.{ℕ_discrete}
use lib.ListN.{get_elem?}
use Rattle.atomic_table.specs.Table.{State, Me, step, keeps, Allows, Splits, Joins}
use Rattle.fib_counts.specs.Counts.{View, keeper, seat, spent, Keep, Tally, counted, times_in, total, one_if, sits, outs_at, outs, free_in, first_keep, no_number, added, sent, new_tally, taken_home, IsCounted}
use Rattle.fib_counts.specs.Counts as counts
use Rattle.fib_core_lawful.specs.Claims.{times}
use Rattle.fib_core_lawful.proofs.Claiming.{times_append}
use Rattle.atomic_table.specs.Seated.{TableId}
use Rattle.fib_counts.specs.Seats.{id_of}
use Rattle.fib_counts.specs.inner.Told.{is_seat, outs_in, came_in, made_in, count_in, left_in, spare_of, spare_in, IsRoomy, IsRuled, keep_of, tally_of, IsKeeper, IsSeat, Adds, IsFit, Reads, left_at_home, sent_out, both_of}
use Rattle.fib_counts.proofs.Sums.{total_set, total_end, total_le, times_most, none_counted, keeper_alone, free_small, free_home, out_more, outs_more, out_less, outs_less, away_inside}

abbrev pub holds : State ℕ View → Type 0
holds s = IsRuled s.words s.views

-- from the change of one view to the change of a sum
same_sum : (a b x y : ℕ) → a + x ≡ b + y → y ≡ x → a ≡ b
same_sum a b x y h e = omega arith

module _ (f : View → ℕ) (views : List View) (id : ℕ) (v w : View) (at : get_elem? views id ≡ some v) where
  pub sum_same : f w ≡ f v → total f (slice_set views id w) ≡ total f views
  sum_same same = same_sum (total f (slice_set views id w)) (total f views) (f v) (f w) (total_set f views id v w at) same

-- the words

-- no word wraps
word_room : (words : List ℕ) (views : List View) (w : ℕ) → w < 770 → IsRuled words views → slice_index words w + 1 < 2 ^ 64
word_room words views w lt r =
    let each = r.counted.each w lt in
    let most = total_le (times_in w) count_in (λ v. times_most w (counted v)) views in
    let room = r.roomy.room in
    let spare = r.roomy.spare in
    omega arith

one_more : (w x : ℕ) (t : Tally) → times_in x (seat (added t w)) ≡ times x t.words + (if eqb w x then 1 else 0)
one_more w x t = times_append x t.words (w ∷ []) ∙ plain (times x t.words) (if eqb w x then 1 else 0)
  where
    plain : (a b : ℕ) → a + (b + 0) ≡ a + b
    plain a b = omega arith

-- one is added
pub adds_rule : (words : List ℕ) (views : List View) (id : ℕ) (t : Tally) (w : ℕ) → w < 770 → length t.words < 2 ^ 32 - 1 → get_elem? views id ≡ some (seat t)
    → IsRuled words views → IsRuled (slice_set words w (slice_index words w + 1)) (slice_set views id (seat (added t w)))
adds_rule words views id t w lt few at r = record {
  counted = record {
    size = length-set words w (slice_index words w + 1) ∙ c.size;
    each = λ x small. each x small;
    one = sum_same counts.keeps views id (seat t) next at refl ∙ c.one;
    seats = λ n. sum_same (sits n) views id (seat t) next at refl ∙ c.seats n ∙ sym (sum_same (outs_at n) views id (seat t) next at refl);
  };
  roomy = record {
    count = sum_same is_seat views id (seat t) next at refl ∙ m.count ∙ sym (sum_same outs_in views id (seat t) next at refl);
    made = ap (λ n. n + total came_in (slice_set views id next)) (sum_same outs_in views id (seat t) next at refl)
        ∙ ap (λ n. total outs_in views + n) (sum_same came_in views id (seat t) next at refl) ∙ m.made ∙ sym (sum_same made_in views id (seat t) next at refl);
    room = (let more = total_set count_in views id (seat t) next at in
        let less = total_set left_in views id (seat t) next at in
        let long = length-append t.words (w ∷ []) in
        let same = sum_same spare_in views id (seat t) next at refl in
        let room = m.room in
        moved (total count_in (slice_set views id next)) (total left_in (slice_set views id next)) (total count_in views) (total left_in views) (total spare_in (slice_set views id next)) (total spare_in views) (length t.words) (length (t.words ++ w ∷ [])) more less long same room few);
    spare = (let same = sum_same spare_in views id (seat t) next at refl in let spare = m.spare in omega arith);
  };
}
  where
    c : IsCounted words views
    c = r.counted

    m : IsRoomy views
    m = r.roomy

    next : View
    next = seat (added t w)

    inside : w < length words
    inside = (let size = c.size in omega arith)

    moved : (a b c d s u x y : ℕ) → a + x ≡ c + y → b + (2 ^ 32 - x) ≡ d + (2 ^ 32 - y) → y ≡ x + 1 → s ≡ u → c + d ≡ u → x < 2 ^ 32 - 1 → a + b ≡ s
    moved a b c d s u x y p q e f g h = omega arith

    each : (x : ℕ) → x < 770 → slice_index (slice_set words w (slice_index words w + 1)) x ≡ total (times_in x) (slice_set views id next)
    each x small =
        let sum = total_set (times_in x) views id (seat t) next at in
        let more = one_more w x t in
        let was = c.each x small in
        dite (ℕ_discrete x w)
        (λ e. (let here = get_or-set_same words w (slice_index words w + 1) 0 inside in
        let one : (if eqb w x then 1 else 0) ≡ 1 = ap (λ b. if b then 1 else 0) (eq-eqb w x (sym e)) in
        let word : slice_index (slice_set words w (slice_index words w + 1)) x ≡ slice_index words x + 1 = ap (slice_index (slice_set words w (slice_index words w + 1))) e ∙ here ∙ ap (λ i. slice_index words i + 1) (sym e) in
        grew (slice_index (slice_set words w (slice_index words w + 1)) x) (slice_index words x) (total (times_in x) (slice_set views id next)) (total (times_in x) views) (times x t.words) (times_in x next) (if eqb w x then 1 else 0) word was sum more one))
        (λ ne. (let there = get_or-set_other words w x (slice_index words w + 1) 0 ne in
        let differs : (if eqb w x then 1 else 0) ≡ 0 = ap (λ b. if b then 1 else 0) (ne_eqb w x (λ e. ne (sym e))) in
        stayed (slice_index (slice_set words w (slice_index words w + 1)) x) (slice_index words x) (total (times_in x) (slice_set views id next)) (total (times_in x) views) (times x t.words) (times_in x next) (if eqb w x then 1 else 0) there was sum more differs))
      where
        grew : (a b s u x y i : ℕ) → a ≡ b + 1 → b ≡ u → s + x ≡ u + y → y ≡ x + i → i ≡ 1 → a ≡ s
        grew a b s u x y i p q e f g = omega arith

        stayed : (a b s u x y i : ℕ) → a ≡ b → b ≡ u → s + x ≡ u + y → y ≡ x + i → i ≡ 0 → a ≡ s
        stayed a b s u x y i p q e f g = omega arith

-- what the rule tells the keeper
pub fit : (words : List ℕ) (views : List View) (id : ℕ) (k : Keep) → get_elem? views id ≡ some (keeper k) → IsRuled words views → IsFit k
fit words views id k at r = record {
  made = (let o = alone outs_in refl in let a = alone came_in refl in let b = alone made_in refl in
      let zo = nothing outs_in outs_none in let za = nothing came_in came_none in let zb = nothing made_in made_none in
      let made = r.roomy.made in omega arith);
  spare = (let s = alone spare_in refl in let spare = r.roomy.spare in omega arith);
}
  where
    others : List View
    others = slice_set views id spent

    alone : (f : View → ℕ) → f spent ≡ 0 → total f others + f (keeper k) ≡ total f views
    alone f gone = keeper_alone f views id (keeper k) at gone

    no_keeper : total counts.keeps others ≡ 0
    no_keeper = (let a = alone counts.keeps refl in let one = r.counted.one in omega arith)

    nothing : (f : View → ℕ) → ((vs : List View) → total counts.keeps vs ≡ 0 → total f vs ≡ 0) → total f others ≡ 0
    nothing f h = h others no_keeper

    outs_none : (vs : List View) → total counts.keeps vs ≡ 0 → total outs_in vs ≡ 0
    outs_none [] z = refl
    outs_none (keeper d ∷ vs) z = absurd (omega arith)
    outs_none (seat t ∷ vs) z = let r = outs_none vs (omega arith) in omega arith
    outs_none (spent ∷ vs) z = let r = outs_none vs (omega arith) in omega arith

    came_none : (vs : List View) → total counts.keeps vs ≡ 0 → total came_in vs ≡ 0
    came_none [] z = refl
    came_none (keeper d ∷ vs) z = absurd (omega arith)
    came_none (seat t ∷ vs) z = let r = came_none vs (omega arith) in omega arith
    came_none (spent ∷ vs) z = let r = came_none vs (omega arith) in omega arith

    made_none : (vs : List View) → total counts.keeps vs ≡ 0 → total made_in vs ≡ 0
    made_none [] z = refl
    made_none (keeper d ∷ vs) z = absurd (omega arith)
    made_none (seat t ∷ vs) z = let r = made_none vs (omega arith) in omega arith
    made_none (spent ∷ vs) z = let r = made_none vs (omega arith) in omega arith

-- the one keeper's share of a sum
module _ (words : List ℕ) (views : List View) (id : ℕ) (k : Keep) (at : get_elem? views id ≡ some (keeper k)) (r : IsRuled words views) where
  no_keeper : total counts.keeps (slice_set views id spent) ≡ 0
  no_keeper = (let a = keeper_alone counts.keeps views id (keeper k) at refl in let one = r.counted.one in omega arith)

  out_alone : (n : ℕ) → total (outs_at n) views ≡ one_if (slice_index_or k.out n false)
  out_alone n =
      let a = keeper_alone (outs_at n) views id (keeper k) at refl in
      let z = nothing (slice_set views id spent) no_keeper in
      omega arith
    where
      nothing : (vs : List View) → total counts.keeps vs ≡ 0 → total (outs_at n) vs ≡ 0
      nothing [] z = refl
      nothing (keeper d ∷ vs) z = absurd (omega arith)
      nothing (seat t ∷ vs) z = let r = nothing vs (omega arith) in omega arith
      nothing (spent ∷ vs) z = let r = nothing vs (omega arith) in omega arith

  outs_alone : total outs_in views ≡ outs k.out
  outs_alone =
      let a = keeper_alone outs_in views id (keeper k) at refl in
      let z = nothing (slice_set views id spent) no_keeper in
      omega arith
    where
      nothing : (vs : List View) → total counts.keeps vs ≡ 0 → total outs_in vs ≡ 0
      nothing [] z = refl
      nothing (keeper d ∷ vs) z = absurd (omega arith)
      nothing (seat t ∷ vs) z = let r = nothing vs (omega arith) in omega arith
      nothing (spent ∷ vs) z = let r = nothing vs (omega arith) in omega arith

  spare_alone : total spare_in views ≡ spare_of k
  spare_alone =
      let a = keeper_alone spare_in views id (keeper k) at refl in
      let z = nothing (slice_set views id spent) no_keeper in
      omega arith
    where
      nothing : (vs : List View) → total counts.keeps vs ≡ 0 → total spare_in vs ≡ 0
      nothing [] z = refl
      nothing (keeper d ∷ vs) z = absurd (omega arith)
      nothing (seat t ∷ vs) z = let r = nothing vs (omega arith) in omega arith
      nothing (spent ∷ vs) z = let r = nothing vs (omega arith) in omega arith

  -- where no seat is out a word is the keeper's own count
  pub exact : (w : ℕ) → w < 770 → outs k.out ≡ 0 → slice_index words w ≡ times w k.tally
  exact w lt home =
      let a = keeper_alone (times_in w) views id (keeper k) at refl in
      let s = keeper_alone is_seat views id (keeper k) at refl in
      let count = r.roomy.count in
      let o = outs_alone in
      let z = none_counted w (slice_set views id spent) no_keeper (omega arith) in
      let each = r.counted.each w lt in
      omega arith

  -- a seat leaves
  pub sends_rule : length k.out ≡ 8 → outs k.out < 8 → length k.tally < 2 ^ 60 → IsRuled words (slice_set views id (keeper (sent k)) ++ seat (new_tally k) ∷ [])
  sends_rule eight few room = record {
    counted = record {
      size = c.size;
      each = λ w lt. c.each w lt ∙ sym (kept (times_in w) refl refl);
      one = kept counts.keeps refl refl ∙ c.one;
      seats = λ n. (let a = grown (sits n) in let b = grown (outs_at n) in
          let more = out_more k.out (free_in k.out) small home n in let was = c.seats n in
          seated (total (sits n) after) (total (sits n) views) (total (outs_at n) after) (total (outs_at n) views) (one_if (slice_index_or k.out n false)) (one_if (slice_index_or (sent k).out n false)) (one_if (eqb (free_in k.out) n)) a b more was);
    };
    roomy = record {
      count = (let a = grown is_seat in let b = grown outs_in in let was = m.count in let l = longer in omega arith);
      made = (let a = grown outs_in in let b = grown came_in in let d = grown made_in in let was = m.made in let l = longer in omega arith);
      room = (let a = grown count_in in let b = grown left_in in let d = grown spare_in in let was = m.room in let l = longer in omega arith);
      spare = (let d = grown spare_in in let s = spare_alone in let l = longer in omega arith);
    };
  }
    where
      c : IsCounted words views
      c = r.counted

      m : IsRoomy views
      m = r.roomy

      small : free_in k.out < length k.out
      small = free_small k.out (omega arith)

      home : slice_index_or k.out (free_in k.out) false ≡ false
      home = free_home k.out

      longer : outs (sent k).out ≡ outs k.out + 1
      longer = outs_more k.out (free_in k.out) small home

      after : List View
      after = slice_set views id (keeper (sent k)) ++ seat (new_tally k) ∷ []

      grown : (f : View → ℕ) → total f after + f (keeper k) ≡ total f views + f (keeper (sent k)) + f (seat (new_tally k))
      grown f =
          let a = total_set f views id (keeper k) (keeper (sent k)) at in
          let b = total_end f (slice_set views id (keeper (sent k))) (seat (new_tally k)) in
          omega arith

      kept : (f : View → ℕ) → f (keeper (sent k)) ≡ f (keeper k) → f (seat (new_tally k)) ≡ 0 → total f after ≡ total f views
      kept f same fresh = let g = grown f in omega arith

      seated : (a u b v x y i : ℕ) → a + 0 ≡ u + 0 + i → b + x ≡ v + y + 0 → y ≡ x + i → u ≡ v → a ≡ b
      seated a u b v x y i p q e f = omega arith

  -- a seat comes home
  module _ (other : ℕ) (t : Tally) (there : get_elem? (slice_set views id (keeper (taken_home k t))) other ≡ some (seat t)) where
    changed : (f : View → ℕ) → f spent ≡ 0
        → total f (slice_set (slice_set views id (keeper (taken_home k t))) other spent) + f (seat t) + f (keeper k) ≡ total f views + f (keeper (taken_home k t))
    changed f gone =
        let a = total_set f views id (keeper k) (keeper (taken_home k t)) at in
        let b = total_set f (slice_set views id (keeper (taken_home k t))) other (seat t) spent there in
        omega arith

    was_out : slice_index_or k.out t.number false ≡ true
    was_out = by_cases (slice_index_or k.out t.number false) refl
      where
        by_cases : (b : Bool) → slice_index_or k.out t.number false ≡ b → slice_index_or k.out t.number false ≡ true
        by_cases true is = is
        by_cases false is =
            let d = changed (sits t.number) refl in
            let o = out_alone t.number in
            let s = r.counted.seats t.number in
            let one : one_if (eqb t.number t.number) ≡ 1 = ap one_if (eq-eqb t.number t.number refl) in
            let zero_out : one_if (slice_index_or k.out t.number false) ≡ 0 = ap one_if is in
            absurd (omega arith)

    pub homes_rule : length t.words < 2 ^ 32 → IsRuled words (slice_set (slice_set views id (keeper (taken_home k t))) other spent)
    homes_rule few = record {
      counted = record {
        size = c.size;
        each = λ w lt. (let d = changed (times_in w) refl in let e = c.each w lt in let a = times_append w k.tally t.words in
            moved (slice_index words w) (total (times_in w) after) (total (times_in w) views) (times w t.words) (times w k.tally) (times w (k.tally ++ t.words)) e d a);
        one = (let d = changed counts.keeps refl in let one = c.one in omega arith);
        seats = λ n. (let a = changed (sits n) refl in let b = changed (outs_at n) refl in
            let less = out_less k.out t.number (away_inside k.out t.number was_out) was_out n in let was = c.seats n in
            seated (total (sits n) after) (total (sits n) views) (total (outs_at n) after) (total (outs_at n) views) (one_if (slice_index_or k.out n false)) (one_if (slice_index_or (slice_set k.out t.number false) n false)) (one_if (eqb t.number n)) a b less was);
      };
      roomy = record {
        count = (let a = changed is_seat refl in let b = changed outs_in refl in let was = m.count in let l = fewer in omega arith);
        made = (let a = changed outs_in refl in let b = changed came_in refl in let d = changed made_in refl in let was = m.made in let l = fewer in omega arith);
        room = (let a = changed count_in refl in let b = changed left_in refl in let d = changed spare_in refl in let was = m.room in let l = fewer in let long = length-append k.tally t.words in omega arith);
        spare = (let d = changed spare_in refl in let s = m.spare in let l = fewer in let long = length-append k.tally t.words in omega arith);
      };
    }
      where
        c : IsCounted words views
        c = r.counted

        m : IsRoomy views
        m = r.roomy

        after : List View
        after = slice_set (slice_set views id (keeper (taken_home k t))) other spent

        fewer : outs (slice_set k.out t.number false) + 1 ≡ outs k.out
        fewer = outs_less k.out t.number was_out

        moved : (n a u x y z : ℕ) → n ≡ u → a + x + y ≡ u + z → z ≡ y + x → n ≡ a
        moved n a u x y z p q e = omega arith

        seated : (a u b v x y i : ℕ) → a + i + 0 ≡ u + 0 → b + 0 + x ≡ v + y → x ≡ y + i → u ≡ v → a ≡ b
        seated a u b v x y i p q e f = omega arith

-- at first
pub fresh_rule : (words : List ℕ) → words ≡ replicate 770 0 → IsRuled words (keeper first_keep ∷ [])
fresh_rule words is = record {
  counted = record { size = ap length is; each = λ w lt. ap (λ ws. slice_index ws w) is ∙ zeros 770 w; one = refl; seats = λ n. sym (nobody n) };
  roomy = record { count = refl; made = refl; room = refl; spare = omega arith };
}
  where
    zeros : (n w : ℕ) → slice_index (replicate n 0) w ≡ 0
    zeros zero w = refl
    zeros (suc n) zero = refl
    zeros (suc n) (suc w) = zeros n w

    flags : (n m : ℕ) → slice_index_or (replicate n false) m false ≡ false
    flags zero m = refl
    flags (suc n) zero = refl
    flags (suc n) (suc m) = flags n m

    nobody : (n : ℕ) → one_if (slice_index_or no_number n false) + 0 ≡ 0
    nobody n = ap (λ b. one_if b + 0) (flags 8 n)

-- the steps

module _ (slots id : ℕ) where
  pub adds : (t : Tally) (w : ℕ) → w < 770 → length t.words < 2 ^ 32 - 1
      → Allows holds slots id (seat t, []) w (λ n. (n + 1) % 2 ^ 64) (Adds (step slots w 1 0 none) (seat t, []))
  adds t w lt few s h homes at fits =
      let n : ℕ = slice_index s.words w in
      let small : n + 1 < 18446744073709551616 = word_room s.words s.views w lt h in
      let whole : n + 1 ≡ (n + 1) % 18446744073709551616 = omega arith in (
        seat (added t w),
        keeps,
        tt,
        subst (λ m. IsRuled (slice_set s.words w m) (slice_set s.views id (seat (added t w)))) whole (adds_rule s.words s.views id t w lt few at h),
        refl,
      )

  pub reads : (k : Keep) (w : ℕ) → w < 770
      → Allows holds slots id (keeper k, []) w (λ n. n) (Reads (step slots w 0 0 none) (keeper k, []))
  reads k w lt s h homes at fits = (
    keeper k,
    keeps,
    tt,
    subst (λ ws. IsRuled ws (slice_set s.views id (keeper k))) (sym (set_same s.words w)) (subst (IsRuled s.words) (sym (put_same s.views id (keeper k) at)) h),
    (refl, fit s.words s.views id k at h, λ home. exact s.words s.views id k at h w lt home),
  )
    where
      set_same : (ws : List ℕ) (i : ℕ) → slice_set ws i (slice_index ws i) ≡ ws
      set_same [] i = refl
      set_same (x ∷ ws) zero = refl
      set_same (x ∷ ws) (suc i) = ap (λ l. x ∷ l) (set_same ws i)

      put_same : (vs : List View) (i : ℕ) (v : View) → get_elem? vs i ≡ some v → slice_set vs i v ≡ vs
      put_same [] i v at = refl
      put_same (x ∷ vs) zero v at = ap (λ y. y ∷ vs) (sym (mathlib.Core.Option.some-injective x v at))
      put_same (x ∷ vs) (suc i) v at = ap (λ l. x ∷ l) (put_same vs i v at)

  pub sends : (k : Keep) → length k.out ≡ 8 → outs k.out < 8 → length k.tally < 2 ^ 60 → Splits holds id (keeper k) (keeper (sent k)) (seat (new_tally k))
  sends k eight few room s h at = sends_rule s.words s.views id k at h eight few room

  pub homes_seat : (k : Keep) (other : ℕ) (t : Tally) → length t.words < 2 ^ 32 → Joins holds id (keeper k) other (seat t) (keeper (taken_home k t)) spent
  homes_seat k other t few s h at apart there = homes_rule s.words s.views id k at h other t there few

-- the same in terms of what a seat knows

module _ (slots id : ℕ) (me : Me ℕ View) where
  pub may_add : (w : ℕ) → IsSeat me → w < 770 → length (tally_of me.0).words < 2 ^ 32 - 1
      → Allows holds slots id me w (λ n. (n + 1) % 2 ^ 64) (Adds (step slots w 1 0 none) me)
  may_add w sat lt few = subst (λ x. Allows holds slots id x w (λ n. (n + 1) % 2 ^ 64) (Adds (step slots w 1 0 none) x)) (sym sat) (adds slots id (tally_of me.0) w lt few)

  pub may_read : (w : ℕ) → IsKeeper me → w < 770 → Allows holds slots id me w (λ n. n) (Reads (step slots w 0 0 none) me)
  may_read w sat lt = subst (λ x. Allows holds slots id x w (λ n. n) (Reads (step slots w 0 0 none) x)) (sym sat) (reads slots id (keep_of me.0) w lt)

  pub may_send : IsKeeper me → length (keep_of me.0).out ≡ 8 → outs (keep_of me.0).out < 8 → length (keep_of me.0).tally < 2 ^ 60
      → Splits holds id me.0 (left_at_home me.0) (sent_out me.0)
  may_send sat eight few room = subst (λ v. Splits holds id v (left_at_home v) (sent_out v)) (sym (ap (λ m. m.0) sat)) (sends slots id (keep_of me.0) eight few room)

  pub may_home : (other : ℕ) (you : Me ℕ View) → IsKeeper me → IsSeat you → length (tally_of you.0).words < 2 ^ 32
      → Joins holds id me.0 other you.0 (both_of me.0 you.0) spent
  may_home other you sat there few =
      subst (λ (x : View × View). Joins holds id x.0 other x.1 (both_of x.0 x.1) spent)
      (λ i. (sym (ap (λ m. m.0) sat) i, sym (ap (λ m. m.0) there) i)) (homes_seat slots id (keep_of me.0) other (tally_of you.0) few)

-- tables of one id are one
abbrev head_of : List ℕ → ℕ
head_of [] = 0
head_of (x ∷ xs) = x

abbrev rest_of : List ℕ → List ℕ
rest_of [] = []
rest_of (x ∷ xs) = xs

pub same_table : (y z : TableId) → id_of y ≡ id_of z → y ≡ z
same_table y z e = λ i. record {
  words = head_of (e i);
  slots = head_of (rest_of (e i));
  views_name = head_of (rest_of (rest_of (e i)));
  atom = head_of (rest_of (rest_of (rest_of (e i))));
  block = head_of (rest_of (rest_of (rest_of (rest_of (e i)))));
  offset = head_of (rest_of (rest_of (rest_of (rest_of (rest_of (e i))))));
  slot_names = rest_of (rest_of (rest_of (rest_of (rest_of (rest_of (e i))))));
}

-- the keeper after a seat left
pub is_keeper_sent : (me w : Me ℕ View) → IsKeeper me → w ≡ (left_at_home me.0, me.1) → IsKeeper w
is_keeper_sent me w sat e = e ∙ ap (λ l. (left_at_home me.0, l)) (ap (λ m. m.1) sat) ∙ ap (λ v. (keeper (keep_of v), [])) (sym (ap (λ m. m.0) e))

pub more_out : (out : List Bool) → length out ≡ 8 → outs out < 8 → outs (slice_set out (free_in out) true) ≡ outs out + 1
more_out out eight few = outs_more out (free_in out) (free_small out (omega arith)) (free_home out)

pub fit_sent : (k : Keep) → length k.out ≡ 8 → outs k.out < 8 → length k.tally < 2 ^ 60 → IsFit k → IsFit (sent k)
fit_sent k eight few room f = record {
  made = (let m = f.made in let l = more_out k.out eight few in omega arith);
  spare = (let l = more_out k.out eight few in omega arith);
}
