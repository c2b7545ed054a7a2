-- Lines that are run one by one.
use Rattle.std.proofs.Common.{◌≡◌, ◌<◌, ◌≤◌, ◌+◌, ◌-◌, ◌++◌, ◌∷◌, [], ℕ, zero, suc, List, true, false, length, take, drop, arith, refl, ap, ◌∙◌, sym, Some, add-one, append_assoc, ◌⊎◌, inl, inr}
use Rattle.std.specs.Prelude.{slice_get, if◌then◌else◌, min, codes, None, ◌==◌}
use Rattle.std.proofs.lemmas.Bool.Decides.{nat_tests}
use Rattle.std.proofs.Math.Seq.{take-suc, take-length}
use Rattle.std.proofs.lemmas.List.{append-nil, drop_all, length-drop, length-take}
use Rattle.std.proofs.lemmas.Option.{slice_get_within, get_or_from_slice_get}
use Rattle.fib_resolve.specs.declared.types.Tables.{Tables}
use Rattle.fib_control.specs.Controls.{Control}
use Rattle.fib_worker_crew.proofs.Spans.{drop_at}
use Rattle.fib_rounds_turns.specs.Routers.{HasGrown, Progress, Router, applied_in, counted, history_in, one_refused, refusing, router_of}
use Rattle.fib_rounds_turns.specs.Turns.{change_turn_of, refusal_turn}
use Rattle.fib_rounds.specs.Stages.{Stage, grown, start}
use Rattle.fib_rounds.specs.Rounds.{stage_of}
use Rattle.fib_tracer.specs.Lines.{after_line, after_trace, before_trace, behind, closing, is_trace, lines_text, opening, stage_from, text_from, traced_turn}
use Rattle.fib_tracer.specs.inner.Going.{HasGone}

-- ---- parts of lists

pub take_one : {A : Type 0} (xs : List A) (i : ℕ) (x : A) → slice_get xs i ≡ Some x → take (i + 1) xs ≡ take i xs ++ x ∷ []
take_one xs i x e =
    ap (λ n. take n xs) (add-one i)
    ∙ (take-suc xs i x (slice_get_within xs i x e) ∙ ap (λ y. take i xs ++ y ∷ []) (get_or_from_slice_get xs i x x e))

pub taken_at : {A : Type 0} (xs : List A) (n i : ℕ) (x : A) → i < n → slice_get xs i ≡ Some x → slice_get (take n xs) i ≡ Some x
taken_at xs zero i x lt e = absurd (omega (arith, lt))
taken_at [] (suc n) i x lt e = e
taken_at (y ∷ xs) (suc n) zero x lt e = e
taken_at (y ∷ xs) (suc n) (suc i) x lt e = taken_at xs n i x (omega (arith, lt)) e

-- ---- the line `trace`

pub before_at : (script : List (List ℕ)) (place : ℕ) (line : List ℕ) → slice_get script place ≡ Some line → is_trace line ≡ false
    → before_trace script ≡ take place script ++ before_trace (drop place script) → before_trace script ≡ take (place + 1) script ++ before_trace (drop (place + 1) script)
before_at script place line at other all =
    let rest = before_trace (drop (place + 1) script) in
    let head : before_trace (drop place script) ≡ line ∷ rest = ap before_trace (drop_at script place line at) ∙ ap (λ b. if b then [] else line ∷ rest) other in
    all ∙ (ap (λ t. take place script ++ t) head ∙ (sym (append_assoc (take place script) (line ∷ []) rest) ∙ ap (λ t. t ++ rest) (sym (take_one script place line at))))

pub after_at : (script : List (List ℕ)) (place : ℕ) (line : List ℕ) → slice_get script place ≡ Some line → is_trace line ≡ false
    → after_trace script ≡ after_trace (drop place script) → after_trace script ≡ after_trace (drop (place + 1) script)
after_at script place line at other all =
    all ∙ (ap after_trace (drop_at script place line at) ∙ ap (λ b. if b then drop (place + 1) script else after_trace (drop (place + 1) script)) other)

pub before_found : (script : List (List ℕ)) (place : ℕ) (line : List ℕ) → slice_get script place ≡ Some line → is_trace line ≡ true
    → before_trace script ≡ take place script ++ before_trace (drop place script) → take place script ≡ before_trace script
before_found script place line at found all =
    let none : before_trace (drop place script) ≡ [] =
    ap before_trace (drop_at script place line at) ∙ ap (λ b. if b then [] else line ∷ before_trace (drop (place + 1) script)) found in
    sym (all ∙ (ap (λ t. take place script ++ t) none ∙ append-nil (take place script)))

pub after_found : (script : List (List ℕ)) (place : ℕ) (line : List ℕ) → slice_get script place ≡ Some line → is_trace line ≡ true
    → after_trace script ≡ after_trace (drop place script) → drop (place + 1) script ≡ after_trace script
after_found script place line at found all =
    sym (all ∙ (ap after_trace (drop_at script place line at) ∙ ap (λ b. if b then drop (place + 1) script else after_trace (drop (place + 1) script)) found))

-- there is none
pub before_end : (script : List (List ℕ)) (place : ℕ) → length script ≤ place → before_trace script ≡ take place script ++ before_trace (drop place script)
    → take place script ≡ before_trace script
before_end script place le all =
    let none : before_trace (drop place script) ≡ [] = ap before_trace (drop_all place script le) in
    sym (all ∙ (ap (λ t. take place script ++ t) none ∙ append-nil (take place script)))

pub after_end : (script : List (List ℕ)) (place : ℕ) → length script ≤ place → after_trace script ≡ after_trace (drop place script) → drop (place + 1) script ≡ after_trace script
after_end script place le all = drop_all (place + 1) script (omega (arith, le)) ∙ sym (all ∙ ap after_trace (drop_all place script le))

-- ---- the stage after a line

abbrev stage_with : Router → List Tables → Stage
stage_with r H = record { router = r; history = H }

pub stage_line : (n : ℕ) (c d : Control) (p q : Progress) (line : List ℕ) → HasGrown c d → router_of d q ≡ (traced_turn n (router_of c p) line).0
    → stage_of d q ≡ after_line n (stage_of c p) line
stage_line n c d p q line more is =
    ap (stage_with (router_of d q)) more ∙ ap (λ (r : Router). stage_with r (grown (history_in c) (router_of c p) r)) is

-- ---- going on

pub gone_none : (lines : List (List ℕ)) (from : ℕ) (at : Stage) (text : List ℕ) → HasGone lines from at text from at text
gone_none lines from at text = record { said = []; text = sym (append-nil text); rest = refl; last = refl }

pub gone_more : (lines : List (List ℕ)) (from : ℕ) (before : Stage) (old : List ℕ) (place : ℕ) (mid : Stage) (text : List ℕ) (after : Stage) (new line : List ℕ)
    → HasGone lines from before old place mid text → slice_get lines place ≡ Some line → after ≡ after_line (place + 1) mid line
    → new ≡ text ++ (traced_turn (place + 1) mid.router line).1 → HasGone lines from before old (place + 1) after new
gone_more lines from before old place mid text after new line g at is_after is_new =
    let rest = drop (place + 1) lines in
    let says = (traced_turn (place + 1) mid.router line).1 in
    let whole : drop place lines ≡ line ∷ rest = drop_at lines place line at in
    record {
      said = g.said ++ says;
      text = is_new ∙ (ap (λ t. t ++ says) g.text ∙ append_assoc old g.said says);
      rest = g.rest ∙ (ap (λ xs. g.said ++ text_from (place + 1) mid xs) whole
          ∙ (ap (λ s. g.said ++ (says ++ text_from (place + 1 + 1) s rest)) (sym is_after) ∙ sym (append_assoc g.said says (text_from (place + 1 + 1) after rest))));
      last = g.last ∙ (ap (stage_from (place + 1) mid) whole ∙ ap (λ s. stage_from (place + 1 + 1) s rest) (sym is_after));
    }

-- all of the lines were run
pub gone_text : (lines : List (List ℕ)) (from : ℕ) (before : Stage) (old : List ℕ) (to : ℕ) (after : Stage) (new : List ℕ) → length lines ≤ to
    → HasGone lines from before old to after new → new ≡ old ++ text_from (from + 1) before (drop from lines)
gone_text lines from before old to after new le g =
    let none : text_from (to + 1) after (drop to lines) ≡ [] = ap (text_from (to + 1) after) (drop_all to lines le) in
    g.text ∙ ap (λ t. old ++ t) (sym (g.rest ∙ (ap (λ t. g.said ++ t) none ∙ append-nil g.said)))

pub gone_stage : (lines : List (List ℕ)) (from : ℕ) (before : Stage) (old : List ℕ) (to : ℕ) (after : Stage) (new : List ℕ) → length lines ≤ to
    → HasGone lines from before old to after new → after ≡ stage_from (from + 1) before (drop from lines)
gone_stage lines from before old to after new le g = sym (g.last ∙ ap (stage_from (to + 1) after) (drop_all to lines le))

-- ---- behind the line

drop_min : {A : Type 0} (n : ℕ) (xs : List A) → drop (min n (length xs)) xs ≡ drop n xs
drop_min {A} zero xs = (let e : min 0 (length xs) ≡ 0 = omega arith in ap (λ k. drop k xs) e)
drop_min {A} (suc n) [] = (let e : min (suc n) (length {A = A} []) ≡ 0 = omega arith in ap (λ k. drop {A = A} k []) e)
drop_min {A} (suc n) (x ∷ xs) = (let e : min (suc n) (length (x ∷ xs)) ≡ suc (min n (length xs)) = omega arith in ap (λ k. drop k (x ∷ xs)) e ∙ drop_min n xs)

-- the first line behind it has its number, where there is one
numbered : (script : List (List ℕ)) (place from : ℕ) → place ≤ length script → take place script ≡ before_trace script → drop (place + 1) script ≡ after_trace script
    → from ≡ min (place + 1) (length script) → (rest : List (List ℕ)) → after_trace script ≡ rest → (from + 1 ≡ behind script) ⊎ (after_trace script ≡ [])
numbered script place from le before after is [] e = inr e
numbered script place from le before after is (line ∷ rest) e =
    let long : length script - (place + 1) ≡ length (line ∷ rest) = sym (length-drop (place + 1) script) ∙ ap length (after ∙ e) in
    let count : length (before_trace script) ≡ place = ap length (sym before) ∙ (length-take place script ∙ shorter) in
    inl (omega (arith, long, count, is))
  where
    shorter : min place (length script) ≡ place
    shorter = omega (arith, le)

text_any : (n m : ℕ) (at : Stage) (lines : List (List ℕ)) → (n ≡ m) ⊎ (lines ≡ []) → text_from n at lines ≡ text_from m at lines
text_any n m at lines (inl e) = ap (λ k. text_from k at lines) e
text_any n m at lines (inr e) = ap (text_from n at) e ∙ sym (ap (text_from m at) e)

stage_any : (n m : ℕ) (at : Stage) (lines : List (List ℕ)) → (n ≡ m) ⊎ (lines ≡ []) → stage_from n at lines ≡ stage_from m at lines
stage_any n m at lines (inl e) = ap (λ k. stage_from k at lines) e
stage_any n m at lines (inr e) = ap (stage_from n at) e ∙ sym (ap (stage_from m at) e)

-- a script that was run in two parts
module _ (room : ℕ) (script : List (List ℕ)) (place from : ℕ) (s1 s2 s3 : Stage) (t1 t2 : List ℕ) (le : place ≤ length script)
    (before : take place script ≡ before_trace script) (after : drop (place + 1) script ≡ after_trace script) (is : from ≡ min (place + 1) (length script))
    (first : HasGone (take place script) 0 (start room) [] place s1 t1) (same : s2 ≡ s1)
    (second : HasGone (take (length script) script) from s2 t1 (length script) s3 t2) where
  short : length (take place script) ≤ place
  short = omega (arith, length-take place script)

  pub opened_at : s2 ≡ opening room script
  opened_at = same ∙ (gone_stage (take place script) 0 (start room) [] place s1 t1 short first ∙ ap (stage_from 1 (start room)) before)

  all : length (take (length script) script) ≤ length script
  all = omega (arith, length-take (length script) script)

  rest : drop from (take (length script) script) ≡ after_trace script
  rest = ap (drop from) (take-length script) ∙ (ap (λ k. drop k script) is ∙ (drop_min (place + 1) script ∙ after))

  number : (from + 1 ≡ behind script) ⊎ (after_trace script ≡ [])
  number = numbered script place from le before after is (after_trace script) refl

  pub closed_at : s3 ≡ closing room script
  closed_at =
      gone_stage (take (length script) script) from s2 t1 (length script) s3 t2 all second
      ∙ (ap (stage_from (from + 1) s2) rest ∙ (stage_any (from + 1) (behind script) s2 (after_trace script) number ∙ ap (λ s. stage_from (behind script) s (after_trace script)) opened_at))

  pub printed : t2 ≡ lines_text room script
  printed =
      gone_text (take (length script) script) from s2 t1 (length script) s3 t2 all second
      ∙ (ap (λ t. t ++ text_from (from + 1) s2 (drop from (take (length script) script))) early
      ∙ ap (λ t. text_from 1 (start room) (before_trace script) ++ t)
      (ap (text_from (from + 1) s2) rest ∙ (text_any (from + 1) (behind script) s2 (after_trace script) number ∙ ap (λ s. text_from (behind script) s (after_trace script)) opened_at)))
    where
      early : t1 ≡ text_from 1 (start room) (before_trace script)
      early = gone_text (take place script) 0 (start room) [] place s1 t1 short first ∙ ap (text_from 1 (start room)) before

-- ---- a line

pub turn_trace : (n : ℕ) (r : Router) (line : List ℕ) → is_trace line ≡ true → traced_turn n r line ≡ refusal_turn n r (codes "not traced")
unfolding traced_turn
turn_trace n r line e = ap (λ b. if b then refusal_turn n r (codes "not traced") else change_turn_of (codes "not traced") n r line) e

pub turn_other : (n : ℕ) (r : Router) (line : List ℕ) → is_trace line ≡ false → traced_turn n r line ≡ change_turn_of (codes "not traced") n r line
unfolding traced_turn
turn_other n r line e = ap (λ b. if b then refusal_turn n r (codes "not traced") else change_turn_of (codes "not traced") n r line) e

-- a line that is refused
pub refused_router : (c : Control) (p q : Progress) → q ≡ one_refused (counted p) → p.batch ≡ None → router_of c q ≡ refusing (router_of c p)
refused_router c p q is alone =
    ap (router_of c) is ∙ ap (λ b. record { config = c.setup; changes = applied_in c; refused = p.refused + 1; batch = b }) (sym alone)

pub not_grown : (c : Control) → HasGrown c c
not_grown c = grind (arith, nat_tests)
