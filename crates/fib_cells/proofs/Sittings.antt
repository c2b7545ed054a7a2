-- What a seat knows before and after each of its steps.
use Rattle.std.proofs.Common.{◌≡◌, ℕ, ◌+◌, ◌*◌, ◌%◌, ◌^◌, ◌<◌, Bool, true, false, List, [], ◌∷◌, length, refl, sym, ap, ◌∙◌, subst, arith, get_or-set_same, get_or-set_other, length-set, length-append, true≢false}
use Rattle.std.specs.Prelude.{replicate, slice_index, slice_set, if◌then◌else◌}
use mathlib.Core.Logic.{dite}
use native.Mathlib.Decide.{ℕ_discrete}
use Rattle.std.specs.List.{AllByRecursion}
use Rattle.atomic_table.specs.Table.{Me}
use Rattle.atomic_table.specs.Seated.{TableId}
use Rattle.fib_resolve.specs.declared.types.Tables.{Tables}
use Rattle.fib_core_results.specs.declared.record.Version.{Version}
use Rattle.fib_core_results.specs.Trails.{version_at}
use Rattle.fib_core.specs.declared.word.Word.{Word}
use Rattle.fib_core.specs.declared.word.Word.TheVariants as said
use Rattle.fib_core.specs.Walk.{asked, object_of}
use Rattle.fib_core.specs.Words.{IsWord, encoded, decoded, is_edge, value_of, goes, target}
use Rattle.fib_core.specs.Trails.{Load, stands, visited, arrive_if, place, IsFormed, IsGoing, IsSoundTrail}
use Rattle.fib_core.proofs.Numbers.{decoded_encoded, goes_of, owner_of, plain_decoded, target_of, zeros}
use Rattle.fib_core.proofs.Stands.{stands_moved, stands_stayed}
use Rattle.fib_core_lawful.specs.Layout.{cell_word, words_for}
use Rattle.fib_core_lawful.specs.State.{Control, Worker, View, control, worker, hopped, first_control}
use Rattle.fib_core_lawful.specs.State.{put, looked, with_log, begun, settled, picking, sent, taken_home}
use Rattle.fib_core_rule.specs.May.{MayLoad}
use Rattle.fib_core_rule.proofs.Fresh.{fresh_lawful}
use Rattle.fib_core_board.specs.Told.{IsWithinLimits}
use Rattle.fib_core_board.proofs.Ruling.{told_home}
use Rattle.fib_cells.specs.Seats.{IsReading, id_of}
use Rattle.fib_cells.specs.inner.Told.{control_of, worker_of, Becomes, Tells}
use Rattle.fib_cells.specs.inner.Sits.{IsWalking, IsLive, moved_to}

-- tables of one id are one
abbrev head_of : List ℕ → ℕ
head_of [] = 0
head_of (x ∷ xs) = x

abbrev rest_of : List ℕ → List ℕ
rest_of [] = []
rest_of (x ∷ xs) = xs

pub same_table : (y z : TableId) → id_of y ≡ id_of z → y ≡ z
same_table y z e = λ i. record {
  words = head_of (e i);
  slots = head_of (rest_of (e i));
  views_name = head_of (rest_of (rest_of (e i)));
  atom = head_of (rest_of (rest_of (rest_of (e i))));
  block = head_of (rest_of (rest_of (rest_of (rest_of (e i)))));
  offset = head_of (rest_of (rest_of (rest_of (rest_of (rest_of (e i))))));
  slot_names = rest_of (rest_of (rest_of (rest_of (rest_of (rest_of (e i))))));
}

-- what is the code of a word is that of the word that it says
pub code_is : (n : ℕ) → IsWord n → n ≡ encoded (decoded n)
code_is n (w, room, is) = is ∙ ap encoded (sym (ap decoded is ∙ decoded_encoded w room))

-- the object where a walking seat stands is one
pub stands_below : (objects : ℕ) (t : List Load) → AllByRecursion (λ x. x < objects) (visited t) → stands t < objects
stands_below objects [] h = h.0
stands_below objects (l ∷ t) h = by_cases (goes l.1) h (λ k. stands_below objects t k)
  where
    by_cases : (b : Bool) → AllByRecursion (λ x. x < objects) (arrive_if b (target l.1) (visited t))
        → (AllByRecursion (λ x. x < objects) (visited t) → stands t < objects)
        → slice_index (arrive_if b (target l.1) (visited t)) 0 < objects
    by_cases true k rest = k.0
    by_cases false k rest = rest k

module _ (words : ℕ) (me : Me Tables View) (number pass : ℕ) (knows : Version) (left at : ℕ) (r : IsWalking words me number pass knows left at) where
  pub at_inside : at < (worker_of me.0).objects
  at_inside = subst (λ n. n < (worker_of me.0).objects) r.stays (stands_below (worker_of me.0).objects (worker_of me.0).trail r.sound.below)

  pub cell_inside : (slot : ℕ) → slot < 16 → cell_word (16 * at + slot) < words
  cell_inside slot low = (let lt = at_inside in let size = r.seat.size in omega arith)

  pub may_load : (slot : ℕ) → slot < 16 → MayLoad (worker_of me.0) (16 * at + slot)
  may_load slot low = record {
    walking = ap (λ n. n % 2) r.seat.passes ∙ r.odd;
    inside = (let lt = at_inside in omega arith);
    here = owner_of at slot low ∙ sym r.stays;
  }

  -- a word of an adjacency is a number
  pub number_found : (slot i found : ℕ) → IsReading (worker_of me.0) slot → i ≡ 16 * at + slot
      → IsSoundTrail (worker_of me.0).objects ((i, found) ∷ (worker_of me.0).trail) → decoded found ≡ said.Plain (found % 2 ^ 56)
  number_found slot i found reading is sound =
      let v : Worker = worker_of me.0 in
      let going : IsGoing (place v.trail) = subst IsGoing (sym reading.at) tt in
      let here : at ≡ reading.object = sym r.stays ∙ sym (r.sound.stood reading.addr reading.hash reading.follows going) ∙ ap object_of reading.at in
      let asks : i ≡ asked reading.addr reading.hash (place v.trail) = is ∙ ap (λ o. 16 * o + slot) here ∙ ap (λ n. 16 * reading.object + n) (sym reading.count)
      ∙ sym (ap (asked reading.addr reading.hash) reading.at) in
      let formed = (sound.proper reading.addr reading.hash (asks, going, reading.follows)).1 in
      plain_decoded found (subst (λ p. IsFormed p (decoded found)) reading.at formed)

-- where the seat stands after a load
pub stands_after : (k found at : ℕ) (t : List Load) → stands t ≡ at → stands ((k, found) ∷ t) ≡ moved_to (decoded found) at
stands_after k found at t here = by_cases (is_edge (decoded found)) refl
  where
    by_cases : (b : Bool) → is_edge (decoded found) ≡ b → stands ((k, found) ∷ t) ≡ (if b then value_of (decoded found) else at)
    by_cases true is = stands_moved (k, found) t (value_of (decoded found)) (goes_of found (decoded found) refl ∙ is) (target_of found (decoded found) refl)
    by_cases false is = stands_stayed (k, found) t (goes_of found (decoded found) refl ∙ is) ∙ here

-- a walking seat after a load
pub has_loaded : (words : ℕ) (me w : Me Tables View) (number pass : ℕ) (knows : Version) (left at k i found : ℕ) (W : Word)
    → IsWalking words me number pass knows left at → i ≡ k → W ≡ decoded found
    → (w ≡ (worker (hopped (worker_of me.0) i found), [])) × IsWord found × IsSoundTrail (worker_of me.0).objects ((i, found) ∷ (worker_of me.0).trail)
    → IsWalking words w number pass knows left (moved_to W at)
has_loaded words me w number pass knows left at k i found W r is word told =
    subst (λ m. IsWalking words m number pass knows left (moved_to W at)) (sym told.0)
    (record {
      seat = record {
        sat = refl;
        size = r.seat.size;
        few = r.seat.few;
        named = r.seat.named;
        small = r.seat.small;
        passes = r.seat.passes;
        version = r.seat.version;
        claims = r.seat.claims;
      };
      odd = r.odd;
      room = r.room;
      stays = stands_after i found at (worker_of me.0).trail r.stays ∙ ap (λ x. moved_to x at) (sym word);
      sound = told.2;
    })

-- and what it knows then
pub loaded_is : (me w : Me Tables View) (k i found : ℕ) (W : Word) → i ≡ k → W ≡ decoded found
    → (w ≡ (worker (hopped (worker_of me.0) i found), [])) × IsWord found × IsSoundTrail (worker_of me.0).objects ((i, found) ∷ (worker_of me.0).trail)
    → worker_of w.0 ≡ hopped (worker_of me.0) k (encoded W)
loaded_is me w k i found W is word told =
    ap (λ (m : Me Tables View). worker_of m.0) told.0
    ∙ (λ j. hopped (worker_of me.0) (is j) ((code_is found told.1 ∙ ap encoded (sym word)) j))

-- a fresh seat
pub fresh_lives : (words objects workers : ℕ) (me : Me Tables View) (copy : List ℕ) (version : Version) → IsWithinLimits objects workers
    → words ≡ words_for objects → me ≡ (control (first_control objects workers), []) → copy ≡ replicate (16 * objects) 0 → version ≡ version_at 0
    → IsLive words objects workers me copy version (replicate 8 false) (replicate 8 0) 0
fresh_lives words objects workers me copy version limits size is copied settled =
    subst (λ m. IsLive words objects workers m copy version (replicate 8 false) (replicate 8 0) 0) (sym is)
    (record {
      sat = refl;
      size = size;
      limits = limits;
      all = refl;
      crew = refl;
      cells = sym copied;
      now = sym settled;
      outs = refl;
      eight = refl;
      rested = refl;
      also = refl;
      even = λ n. ap (λ x. x % 2) (zeros 8 n);
      count = refl;
      told = λ also id passes. told_home id passes (first_control objects workers) objects (replicate (words_for objects) 0)
          (control (first_control objects workers) ∷ []) (fresh_lawful objects workers (let least = limits.least in omega arith) limits.eight) 0 refl also;
    })

-- a step keeps the table
pub walks_on : (after words : ℕ) (me : Me Tables View) (number pass : ℕ) (knows : Version) (left at at' : ℕ) → after ≡ words → at' ≡ at
    → IsWalking words me number pass knows left at → IsWalking after me number pass knows left at'
walks_on after words me number pass knows left at at' e f r =
    subst (λ (x : ℕ × ℕ). IsWalking x.0 me number pass knows left x.1) (λ i. (sym e i, sym f i)) r

pub lives_on : (after words objects workers : ℕ) (me : Me Tables View) (copy : List ℕ) (version : Version) (out : List Bool) (rests : List ℕ) (gathered : ℕ)
    → after ≡ words → IsLive words objects workers me copy version out rests gathered → IsLive after objects workers me copy version out rests gathered
lives_on after words objects workers me copy version out rests gathered e l =
    subst (λ n. IsLive n objects workers me copy version out rests gathered) (sym e) l

module _ (words objects workers : ℕ) (me : Me Tables View) (copy : List ℕ) (version : Version) (out : List Bool) (rests : List ℕ) (gathered : ℕ)
    (l : IsLive words objects workers me copy version out rests gathered) where
  abbrev pub Known : Control
  Known = control_of me.0

  pub within : IsWithinLimits Known.objects Known.workers
  within = subst (λ (x : ℕ × ℕ). IsWithinLimits x.0 x.1) (λ i. (sym l.all i, sym l.crew i)) l.limits

  -- the seat after a step that tells what holds of its board
  live : (w : Me Tables View) (d : Control) (copy' : List ℕ) (version' : Version) (out' : List Bool) (rests' : List ℕ) (gathered' : ℕ)
      → Becomes w d → d.objects ≡ Known.objects → d.workers ≡ Known.workers → d.union.cells ≡ copy' → d.log.version ≡ version'
      → d.desk.out ≡ out' → length out' ≡ 8 → d.desk.rests ≡ rests' → length rests' ≡ 8 → ((n : ℕ) → slice_index rests' n % 2 ≡ 0)
      → length d.gathered ≡ gathered' → IsLive words objects workers w copy' version' out' rests' gathered'
  live w d copy' version' out' rests' gathered' b all crew cells now outs eight rested also even count =
      subst (λ m. IsLive words objects workers m copy' version' out' rests' gathered') (sym b.0)
      (record {
        sat = refl;
        size = l.size;
        limits = l.limits;
        all = all ∙ l.all;
        crew = crew ∙ l.crew;
        cells = cells;
        now = now;
        outs = outs;
        eight = eight;
        rested = rested;
        also = also;
        even = even;
        count = count;
        told = b.1;
      })

  pub has_looked : (w : Me Tables View) (n found : ℕ) → Becomes w (looked Known n found) → IsLive words objects workers w copy version out rests gathered
  has_looked w n found b =
      live w (looked Known n found) copy version out rests gathered b refl refl l.cells l.now l.outs l.eight l.rested l.also l.even l.count

  pub has_stored : (w : Me Tables View) (k i code : ℕ) → i ≡ k → Becomes w (put Known i code)
      → IsLive words objects workers w (slice_set copy k code) version out rests gathered
  has_stored w k i code is b =
      live w (put Known i code) (slice_set copy k code) version out rests gathered b refl refl
      (λ j. slice_set (l.cells j) (is j) code) l.now l.outs l.eight l.rested l.also l.even l.count

  pub has_begun : (w : Me Tables View) (T : Tables) (v : Version) → v ≡ record { settled = version.settled; applied = version.applied + 1 }
      → Becomes w (with_log Known (begun Known.log T)) → IsLive words objects workers w copy v out rests gathered
  has_begun w T v is b =
      live w (with_log Known (begun Known.log T)) copy v out rests gathered b refl refl l.cells
      (ap (λ (u : Version). record { settled = u.settled; applied = u.applied + 1 }) l.now ∙ sym is) l.outs l.eight l.rested l.also l.even l.count

  pub has_settled : (w : Me Tables View) (v : Version) → v ≡ version_at version.applied
      → Becomes w (with_log Known (settled Known.log)) → IsLive words objects workers w copy v out rests gathered
  has_settled w v is b =
      live w (with_log Known (settled Known.log)) copy v out rests gathered b refl refl l.cells
      (ap (λ (u : Version). version_at u.applied) l.now ∙ sym is) l.outs l.eight l.rested l.also l.even l.count

  -- a seat leaves: one is out then, so of the claims nothing is said
  sent_told : (n : ℕ) → n < 8 → Tells Known → Tells (sent (picking Known n))
  sent_told n lt told limits id passes =
      let b = told limits id passes in
      record {
        limits = b.limits;
        long = b.long;
        words = b.words;
        history = record { fits = b.history.fits; order = b.history.order; long = b.history.long; first = b.history.first; sound = b.history.sound };
        typed = b.typed;
        acyclic = b.acyclic;
        hangs = b.hangs;
        settled = b.settled;
        lawful = b.lawful;
        steady = b.steady;
        claims = λ home m. absurd (true≢false (sym (get_or-set_same Known.desk.out n true false inside) ∙ home n));
      }
    where
      inside : n < length Known.desk.out
      inside = (let eight = l.eight in let e = ap length l.outs in omega arith)

  pub has_sent : (w : Me Tables View) (n i : ℕ) → i ≡ n → n < 8 → w ≡ (control (sent (picking Known i)), [])
      → IsLive words objects workers w copy version (slice_set out n true) rests gathered
  has_sent w n i is lt b =
      live w (sent (picking Known n)) copy version (slice_set out n true) rests gathered
      (b ∙ ap (λ m. (control (sent (picking Known m)), [])) is, sent_told n lt l.told) refl refl l.cells l.now
      (ap (λ o. slice_set o n true) l.outs) (length-set out n true ∙ l.eight) l.rested l.also l.even l.count

  -- a seat comes home
  even_set : (number pass : ℕ) → number < 8 → pass % 2 ≡ 0 → (n : ℕ) → slice_index (slice_set rests number pass) n % 2 ≡ 0
  even_set number pass small even n = dite (ℕ_discrete n number)
      (λ e. ap (λ m. slice_index (slice_set rests number pass) m % 2) e
      ∙ ap (λ x. x % 2) (get_or-set_same rests number pass 0 (let also = l.also in omega arith)) ∙ even)
      (λ ne. ap (λ x. x % 2) (get_or-set_other rests number n pass 0 ne) ∙ l.even n)

  pub has_come : (w : Me Tables View) (v : Worker) (number pass sum : ℕ) → v.number ≡ number → v.pass ≡ pass → number < 8 → pass % 2 ≡ 0
      → sum ≡ gathered + length v.claims → Becomes w (taken_home Known v)
      → IsLive words objects workers w copy version (slice_set out number false) (slice_set rests number pass) sum
  has_come w v number pass sum named passes small even is b =
      live w (taken_home Known v) copy version (slice_set out number false) (slice_set rests number pass) sum b refl refl l.cells l.now
      (λ i. slice_set (l.outs i) (named i) false) (length-set out number false ∙ l.eight)
      (λ i. slice_set (l.rested i) (named i) (passes i)) (length-set rests number pass ∙ l.also) (even_set number pass small even)
      (length-append Known.gathered v.claims ∙ ap (λ n. n + length v.claims) l.count ∙ sym is)

  -- its copy of a cell
  pub cell_inside_copy : (k : ℕ) → k < 16 * objects → k < length copy
  cell_inside_copy k lt = (let long = (l.told within [] []).long in let all = l.all in let e = ap length l.cells in omega arith)

  pub copy_word : (k : ℕ) → IsWord (slice_index copy k)
  copy_word k = subst (λ cs. IsWord (slice_index cs k)) l.cells ((l.told within [] []).words k)
