-- Each event keeps the rule: one record of lemmas, a part each. What an event owes stands apart from the frame, so that further parts may join it.
use Rattle.std.proofs.Common.{◌≡◌, ℕ, ◌+◌, ◌*◌, ◌%◌, ◌^◌, ◌<◌, ◌≤◌, ◌⊎◌, inl, inr, ⊎_elim, true, false, true≢false, List, [], ◌∷◌, ◌++◌, length, refl, sym, ap, ◌∙◌, subst, arith, get_or-set_same, get_or-set_other, length-set, length-append}
use Rattle.std.specs.Prelude.{Some, slice_index, slice_set}
use Rattle.std.proofs.lemmas.List.{get_or_past}
use mathlib.Core.Logic.{dite}
use native.Mathlib.Decide.{ℕ_discrete, dec_lt}
use Rattle.fib_resolve.specs.declared.types.Tables.{Tables}
use Rattle.fib_core_results.specs.declared.record.Version.{Version}
use Rattle.fib_union.specs.Unions.{owner}
use Rattle.fib_union.specs.Marks.{is_even}
use Rattle.fib_core.specs.Words.{IsWord, decoded, target}
use Rattle.fib_core.specs.Walk.{ReadsWhole, asked}
use Rattle.fib_core.specs.Union.{Usable, scanned, must_retire}
use Rattle.fib_core.specs.Trails.{Load, stands, Walked, place, Follows, IsProper, IsFormed, AreLawful, finished, IsEndOf}
use Rattle.fib_core.proofs.Wholes.{whole_on, whole_stored}
use Rattle.fib_core.proofs.Numbers.{odd_not_even, roomy_decoded}
use Rattle.fib_core.proofs.Stands.{backed, proper_on, formed_on}
use Rattle.fib_core.proofs.Unions.{goes-scanned, acyclic-stored, acyclic-scanned, usable-scanned}
use Rattle.fib_core.proofs.Passes.{walked-map, visits_once}
use Rattle.fib_core_results.specs.Versions.{packed, unpacked}
use Rattle.fib_core_lawful.specs.Layout.{version_word, pass_word, claim_word, first_cell, cell_word}
use Rattle.fib_core_lawful.specs.State.{Log, Control, Worker, View, started, learned, lo_at, hopped, stopped, claimed, told, fresh_marks, stored_union, put, looked, with_log, begun, settled, picking}
use Rattle.fib_core_lawful.specs.Frame.{Parts}
use Rattle.fib_core_lawful.specs.Claims.{one_if, outs}
use Rattle.fib_core_lawful.proofs.Seating.{outs_most, outs_less}
use Rattle.fib_core_lawful.specs.Lawful.{HoldsEnds, IsWalk, IsTold, EndsLawfully, AimsOnce, OfControl, OfWorker, lawful}
use Rattle.fib_core_lawful.specs.May.{MayStoreLawfully, HasNext, MaySettle, IsFilling}
use Rattle.fib_core_lawful.proofs.Framing.{WorkerOwes, ControlOwes, SendOwes, HomeOwes}
use Rattle.fib_core_results.proofs.Versions.{unpacked_packed}
use Rattle.fib_core_lawful.proofs.Histories.{all_grow, all_append, told_self, told_later, told_greater, finished_right}
use Rattle.fib_core_stands.proofs.Standing.{walk_resolved}
use Rattle.fib_core_stands.proofs.Settling.{settled_ends}
use Rattle.fib_core_lawful.proofs.Typing.{typed_stored}
use Rattle.fib_core_lawful.proofs.Parts.{copied_else, log_else, aimed_start, aimed_on, copied_stored, within_stored, all_ends_stored, settled_pending, settled_filling, aims_stored, walked_stored, fresh_unseen, typed-scanned, settled-scanned, log_begun, begun_later, settled_begun, ends_begun, aims_begun, log_settled, settled_later, settled_now, aims_settled}

-- all stay even where an even one is set
rests_even : (rests : List ℕ) (k p : ℕ) → p % 2 ≡ 0 → ((n : ℕ) → slice_index rests n % 2 ≡ 0) → (n : ℕ) → slice_index (slice_set rests k p) n % 2 ≡ 0
rests_even rests k p even all n = dite (ℕ_discrete n k)
    (λ e. ap (λ m. slice_index (slice_set rests k p) m % 2) e ∙ ⊎_elim
    (λ (lt : k < length rests). ap (λ x. x % 2) (get_or-set_same rests k p 0 lt) ∙ even)
    (λ (le : length rests ≤ k). ap (λ x. x % 2) (get_or_past (slice_set rests k p) k 0 (subst (λ m. m ≤ k) (sym (length-set rests k p)) le)))
    (inside_or_past k (length rests)))
    (λ ne. ap (λ x. x % 2) (get_or-set_other rests k n p 0 ne) ∙ all n)
  where
    inside_or_past : (k m : ℕ) → (k < m) ⊎ (m ≤ k)
    inside_or_past k m = dite (dec_lt k m) (λ lt. inl lt) (λ ge. inr (omega arith))

-- a word below the cells and above the version is stored
control_else : (objects i n : ℕ) (words : List ℕ) (c : Control) → version_word < i → i < first_cell → OfControl objects words c → OfControl objects (slice_set words i n) c
control_else objects i n words c low high h = record { known = h.known; any = h.any; few = h.few; copied = copied_else objects i n words c.union.cells high h.copied; within = h.within; typed = h.typed; acyclic = h.acyclic; log = log_else i n words c.log low h.log; settled = h.settled; ends = h.ends; home = h.home; spare = h.spare; rested = h.rested }

-- no fact on a worker's view reads the words
worker_still : (objects : ℕ) (words words' : List ℕ) (c : Control) (u : Worker) → OfWorker objects words c u → OfWorker objects words' c u
worker_still objects words words' c u h = record { known = h.known; number = h.number; walk = h.walk; whole = h.whole; proper = h.proper; told = h.told; aimed = h.aimed; done = h.done; past = h.past; few_claims = h.few_claims; paced = h.paced }

reads_of : (cells : List ℕ) (l : Log) (lo : Version) (t : List Load) → AimsOnce cells l lo t → (a h : ℕ) → Follows a h t → ReadsWhole cells (place t)
reads_of cells l lo [] aimed a h f = tt
reads_of cells l lo (x ∷ t) aimed a h f = aimed.read a h f

-- the facts on a walking seat
aimed_next : (cells : List ℕ) (l : Log) (lo knows : Version) (t : List Load) (k found : ℕ) → (EndsLawfully cells l knows []) → found ≡ slice_index cells k → HoldsEnds cells l → AimsOnce cells l lo t → EndsLawfully cells l (lo_at t lo knows) ((k, found) ∷ t)
aimed_next cells l lo knows [] k found start is ends old = aimed_on cells l knows [] k found is ends start
aimed_next cells l lo knows (x ∷ t) k found start is ends old = aimed_on cells l lo (x ∷ t) k found is ends old

module _ (objects : ℕ) (words : List ℕ) (views : List View) where
  P : Parts
  P = lawful objects

  -- 1: the pass word becomes odd
  pub starts_owes : (v : Worker) (p : ℕ) → p % 2 ≡ 1 → WorkerOwes (lawful objects) words views (slice_set words (pass_word v.number) p) v (started v p)
  starts_owes v p odd c h f =
      let below = f.number in
      let few = h.few in (
        control_else objects (pass_word v.number) p words c (omega arith) (omega arith) h,
        record { known = f.known; number = f.number; walk = record { odd = inl refl; walked = tt }; whole = λ five. tt; proper = λ a b fol. (omega arith, tt); told = f.told; aimed = tt; done = tt; past = f.past; few_claims = f.few_claims; paced = odd },
        worker_still objects words (slice_set words (pass_word v.number) p) c,
        λ n m. m,
      )

  -- 2: the version is loaded
  pub learns_owes : (v : Worker) → WorkerOwes (lawful objects) words views words v (learned v (slice_index words version_word))
  learns_owes v c h f =
      let now : unpacked (slice_index words version_word) ≡ c.log.version = ap unpacked h.log.packed ∙ unpacked_packed c.log.version h.log.fits in
      let long = h.log.long in
      let fits : c.log.version.applied < length c.log.history = omega arith in (
        h,
        record {
          known = f.known;
          number = f.number;
          walk = f.walk;
          whole = f.whole;
          proper = f.proper;
          told = subst (IsTold c.log.version) (sym now) (told_self c.log.version h.log.order);
          aimed = f.aimed;
          done = subst (λ x. AreLawful c.log.history (finished v.lo v.trail (Some x))) (sym now) (finished_right c.union.cells c.log v.lo v.trail fits h.log.order f.aimed (visits_once c.union v.number v.pass v.trail h.acyclic f.walk.walked));
          past = f.past;
          few_claims = f.few_claims;
          paced = f.paced;
        },
        λ u g. g,
        λ n m. m,
      )

  -- 3: a cell of the object where the pass stands is loaded
  longer : (v : Worker) (k : ℕ) (c : Control) → k < 16 * v.objects → owner k ≡ stands v.trail → OfControl objects words c → OfWorker objects words c v → Walked (Usable c.union v.number v.pass) ((k, slice_index words (cell_word k)) ∷ v.trail)
  longer v k c lt here h f = (here, (λ e. inl (sym (h.copied.same k (subst (λ m. k < 16 * m) f.known lt)))), f.walk.walked)

  proper_next : (v : Worker) (k : ℕ) (c : Control) → slice_index words (cell_word k) ≡ slice_index c.union.cells k → OfControl objects words c → OfWorker objects words c v → (a b : ℕ) → Follows a b ((k, slice_index words (cell_word k)) ∷ v.trail)
      → IsProper (place ((k, slice_index words (cell_word k)) ∷ v.trail)) × IsFormed (place v.trail) (decoded (slice_index words (cell_word k)))
  proper_next v k c is h f a b fol =
      let found : ℕ = slice_index words (cell_word k) in
      let there : decoded found ≡ decoded (slice_index c.union.cells (asked a b (place v.trail))) = ap decoded (is ∙ ap (λ i. slice_index c.union.cells i) fol.0) in
      let behind = backed c.union v.number v.pass a b v.trail fol.2 f.walk.walked in
      let read = reads_of c.union.cells c.log v.lo v.trail f.aimed a b fol.2 in (
        proper_on c.union a b h.typed (place v.trail) (decoded found) (roomy_decoded found (subst IsWord (sym is) (h.within.words k))) there behind read (f.proper a b fol.2).0,
        formed_on c.union a b h.typed (place v.trail) (decoded found) there behind read,
      )

  pub hops_owes : (v : Worker) (k : ℕ) → v.pass % 2 ≡ 1 → k < 16 * v.objects → owner k ≡ stands v.trail → WorkerOwes (lawful objects) words views words v (hopped v k (slice_index words (cell_word k)))
  hops_owes v k odd lt here c h f = (
    h,
    record {
      known = f.known;
      number = f.number;
      walk = record { odd = inr odd; walked = longer v k c lt here h f };
      whole = whole_on (Usable c.union v.number v.pass) c.union.cells k (slice_index words (cell_word k)) v.trail (h.copied.same k (subst (λ m. k < 16 * m) f.known lt)) f.walk.walked (visits_once c.union v.number v.pass ((k, slice_index words (cell_word k)) ∷ v.trail) h.acyclic (longer v k c lt here h f)) f.whole;
      proper = proper_next v k c (h.copied.same k (subst (λ m. k < 16 * m) f.known lt)) h f;
      told = f.told;
      aimed = aimed_next c.union.cells c.log v.lo v.knows v.trail k (slice_index words (cell_word k)) (aimed_start objects c.union c.log v.knows h.any h.copied.long h.within h.acyclic h.settled f.told) (h.copied.same k (subst (λ m. k < 16 * m) f.known lt)) h.ends f.aimed;
      done = tt;
      past = f.past;
      few_claims = f.few_claims;
      paced = f.paced;
    },
    (λ u g. g),
    λ n m. m,
  )

  -- 4: the pass word becomes even
  pub stops_owes : (v : Worker) (p : ℕ) → p % 2 ≡ 0 → WorkerOwes (lawful objects) words views (slice_set words (pass_word v.number) p) v (stopped v p)
  stops_owes v p even c h f =
      let below = f.number in
      let few = h.few in (
        control_else objects (pass_word v.number) p words c (omega arith) (omega arith) h,
        record { known = f.known; number = f.number; walk = record { odd = inl refl; walked = tt }; whole = λ five. tt; proper = λ a b fol. (omega arith, tt); told = f.told; aimed = tt; done = tt; past = all_append c.log.history v.past (finished v.lo v.trail v.hi) f.past f.done; few_claims = f.few_claims; paced = even },
        worker_still objects words (slice_set words (pass_word v.number) p) c,
        λ n m. m,
      )

  -- 13: a claim is drawn
  pub draws_owes : (v : Worker) (n : ℕ) → length v.claims + 1 < 2 ^ 32 → WorkerOwes (lawful objects) words views (slice_set words claim_word n) v (claimed v (slice_index words claim_word))
  draws_owes v n room c h f = (
    control_else objects claim_word n words c (omega arith) (omega arith) h,
    record { known = f.known; number = f.number; walk = f.walk; whole = f.whole; proper = f.proper; told = f.told; aimed = f.aimed; done = f.done; past = f.past; few_claims = (let l = length-append v.claims (slice_index words claim_word ∷ []) in omega arith); paced = f.paced },
    worker_still objects words (slice_set words claim_word n) c,
    λ n m. m,
  )

  -- 5: a cell is stored
  pub puts_owes : (c : Control) (k w : ℕ) → MayStoreLawfully c.objects c.union c.log c.desk.out k w → ControlOwes (lawful objects) words views (slice_set words (cell_word k) w) c (put c k w)
  puts_owes c k w may h =
      let small : k < 16 * objects = subst (λ m. k < 16 * m) h.known may.inside in
      let room : k < length c.union.cells = subst (λ m. k < m) (sym h.copied.long) small in (
        record {
          known = h.known;
          any = h.any;
          few = h.few;
          copied = copied_stored objects k w words c.union.cells small h.copied;
          within = within_stored objects (must_retire c.union k) (fresh_marks c) c.union k w room may.word (λ e. subst (λ m. target w < m) h.known (may.edge e).within) h.within;
          typed = typed_stored c.objects c.union c.log c.desk.out k w (must_retire c.union k) (fresh_marks c) may h.typed room;
          acyclic = acyclic-stored (must_retire c.union k) (fresh_marks c) c.union k w h.acyclic (λ e. (may.edge e).apart);
          log = log_else (cell_word k) w words c.log (omega arith) h.log;
          settled = ⊎_elim
              (λ (lt : c.log.version.settled < c.log.version.applied). settled_pending (stored_union c k w) c.log lt)
              (λ (x : IsFilling c.union c.log c.desk.out k w). settled_filling (stored_union c k w) words c.log x.fresh h.log x.drops)
              may.during;
          ends = all_ends_stored (IsEndOf c.log.history c.log.version.settled c.log.version.applied) c.union k w room may.whole (λ e. (may.edge e).apart) may.end h.ends;
          home = h.home;
          spare = h.spare;
          rested = h.rested;
        },
        (λ u below away pass f. record {
          known = f.known;
          number = f.number;
          walk = record { odd = f.walk.odd; walked = walked_stored (must_retire c.union k) (fresh_marks c) c.union k w u.number u.pass u.trail refl (fresh_unseen c.workers u.number f.number) f.walk.walked };
          whole = whole_stored c.union u.number u.pass k w u.trail may.whole f.walk.walked f.whole;
          proper = f.proper;
          told = f.told;
          aimed = ⊎_elim
              (λ (lt : c.log.version.settled < c.log.version.applied). aims_stored c.union c.log u.lo u.trail u.number u.pass k w may.whole lt f.walk.walked f.aimed)
              (λ (x : IsFilling c.union c.log c.desk.out k w). absurd (true≢false (sym away ∙ x.home u.number)))
              may.during;
          done = f.done;
          past = f.past;
          few_claims = f.few_claims;
          paced = f.paced;
        }),
        λ n m. m,
      )

  -- 6: a version begins
  pub begins_owes : (c : Control) (S : Tables) (w : ℕ) → w ≡ packed (begun c.log S).version → HasNext c.log → ControlOwes (lawful objects) words views (slice_set words version_word w) c (with_log c (begun c.log S))
  begins_owes c S w is may h =
      let size = h.copied.size in (
        record {
          known = h.known;
          any = h.any;
          few = h.few;
          copied = copied_else objects 0 w words c.union.cells (omega arith) h.copied;
          within = h.within;
          typed = h.typed;
          acyclic = h.acyclic;
          log = log_begun words c.log S w is may (omega arith) h.log;
          settled = settled_begun c.union c.log S h.log.order;
          ends = ends_begun c.union.cells c.log S h.ends;
          home = all_grow c.log.history S c.home h.home;
          spare = h.spare;
          rested = h.rested;
        },
        (λ u below away pass f. record {
          known = f.known;
          number = f.number;
          walk = f.walk;
          whole = f.whole;
          proper = f.proper;
          told = told_later c.log.version (begun c.log S).version u.knows (begun_later c.log S) f.told;
          aimed = aims_begun c.union.cells c.log S u.lo u.trail h.log.order f.aimed;
          done = all_grow c.log.history S (finished u.lo u.trail u.hi) f.done;
          past = all_grow c.log.history S u.past f.past;
          few_claims = f.few_claims;
          paced = f.paced;
        }),
        λ n m. told_later c.log.version (begun c.log S).version n (begun_later c.log S) m,
      )

  -- 6: the version is settled
  pub settles_owes : (c : Control) (w : ℕ) → w ≡ packed (settled c.log).version → MaySettle c.union c.log → ControlOwes (lawful objects) words views (slice_set words version_word w) c (with_log c (settled c.log))
  settles_owes c w is may h =
      let size = h.copied.size in (
        record {
          known = h.known;
          any = h.any;
          few = h.few;
          copied = copied_else objects 0 w words c.union.cells (omega arith) h.copied;
          within = h.within;
          typed = h.typed;
          acyclic = h.acyclic;
          log = log_settled words c.log w is (omega arith) h.log;
          settled = settled_now c.union c.log may.tables may.held may.stands.quiet (walk_resolved c.union objects may.stands.names may.tables may.stands.stands may.sound may.stands.prefixes h.copied.long);
          ends = settled_ends c.union.cells may.stands.names may.tables c.log.history c.log.version.applied objects may.stands.stands may.held h.copied.long;
          home = h.home;
          spare = h.spare;
          rested = h.rested;
        },
        (λ u below away pass f. record {
          known = f.known;
          number = f.number;
          walk = f.walk;
          whole = f.whole;
          proper = f.proper;
          told = told_later c.log.version (settled c.log).version u.knows (settled_later c.log h.log.order) f.told;
          aimed = aims_settled c.union.cells c.log u.lo u.trail h.log.order f.aimed;
          done = f.done;
          past = f.past;
          few_claims = f.few_claims;
          paced = f.paced;
        }),
        λ n m. told_later c.log.version (settled c.log).version n (settled_later c.log h.log.order) m,
      )

  -- 7: a pass word is loaded
  pub looks_owes : (c : Control) (n : ℕ) → ControlOwes (lawful objects) words views words c (looked c n (slice_index words (pass_word n)))
  looks_owes c n h = (
    record {
      known = h.known;
      any = h.any;
      few = h.few;
      copied = h.copied;
      within = record { words = h.within.words; edges = λ k w g. h.within.edges k w (goes-scanned c.union n (slice_index words (pass_word n)) k w g) };
      typed = typed-scanned c.union n (slice_index words (pass_word n)) h.typed;
      acyclic = acyclic-scanned c.union n (slice_index words (pass_word n)) h.acyclic;
      log = h.log;
      settled = settled-scanned c.union n (slice_index words (pass_word n)) c.log h.settled;
      ends = h.ends;
      home = h.home;
      spare = h.spare;
      rested = h.rested;
    },
    (λ u below away pass f. record { known = f.known; number = f.number; walk = record { odd = f.walk.odd; walked = walks u pass f.walk }; whole = f.whole; proper = f.proper; told = f.told; aimed = f.aimed; done = f.done; past = f.past; few_claims = f.few_claims; paced = f.paced }),
    λ n m. m,
  )
    where
      walks : (u : Worker) → slice_index words (pass_word u.number) ≡ u.pass → IsWalk c.union u.number u.pass u.trail → Walked (Usable (scanned c.union n (slice_index words (pass_word n))) u.number u.pass) u.trail
      walks u pass f = ⊎_elim
          (λ (none : u.trail ≡ []). subst (Walked (Usable (scanned c.union n (slice_index words (pass_word n))) u.number u.pass)) (sym none) tt)
          (λ (odd : u.pass % 2 ≡ 1). walked-map (Usable c.union u.number u.pass) (Usable (scanned c.union n (slice_index words (pass_word n))) u.number u.pass)
          (λ i w going led ok. usable-scanned c.union n (slice_index words (pass_word n)) u.number u.pass i w (λ e. let same : u.pass ≡ slice_index words (pass_word n) = sym pass ∙ ap (λ m. slice_index words (pass_word m)) e in (same, ap is_even (sym same) ∙ odd_not_even u.pass odd)) ok)
          u.trail f.walked)
          f.odd

  -- 7: a pass word is loaded to pick its number
  pub picks_owes : (c : Control) (n : ℕ) → ControlOwes (lawful objects) words views words c (picking c n)
  picks_owes c n h = (
    record { known = h.known; any = h.any; few = h.few; copied = h.copied; within = h.within; typed = h.typed; acyclic = h.acyclic; log = h.log; settled = h.settled; ends = h.ends; home = h.home; spare = h.spare; rested = h.rested },
    (λ u below away pass f. record { known = f.known; number = f.number; walk = f.walk; whole = f.whole; proper = f.proper; told = f.told; aimed = f.aimed; done = f.done; past = f.past; few_claims = f.few_claims; paced = f.paced }),
    λ n m. m,
  )

  -- 9: a worker's seat is split off
  pub sends_owes : (c : Control) → c.desk.picked < c.workers → length c.gathered < 2 ^ 60 → length c.desk.out ≡ 8 → SendOwes (lawful objects) words views c
  sends_owes c small room eight h = (
    record { known = h.known; any = h.any; few = h.few; copied = h.copied; within = h.within; typed = h.typed; acyclic = h.acyclic; log = h.log; settled = h.settled; ends = h.ends; home = h.home; spare = (let most = outs_most (slice_set c.desk.out c.desk.picked true) in let l = length-set c.desk.out c.desk.picked true in omega arith); rested = h.rested },
    record { known = h.known; number = small; walk = record { odd = inl refl; walked = tt }; whole = λ five. tt; proper = λ a b fol. (omega arith, tt); told = told_self c.log.version h.log.order; aimed = tt; done = tt; past = tt; few_claims = omega arith; paced = h.rested c.desk.picked },
    (λ u f. record { known = f.known; number = f.number; walk = f.walk; whole = f.whole; proper = f.proper; told = f.told; aimed = f.aimed; done = f.done; past = f.past; few_claims = f.few_claims; paced = f.paced }),
    λ n m. m,
  )

  -- 12: a worker's seat comes home
  pub homes_owes : (c : Control) (v : Worker) → v.walks ≡ false → HomeOwes (lawful objects) words views c v
  homes_owes c v rests away h f = (
    record { known = h.known; any = h.any; few = h.few; copied = h.copied; within = h.within; typed = h.typed; acyclic = h.acyclic; log = h.log; settled = h.settled; ends = h.ends; home = all_append c.log.history c.home v.past h.home f.past; spare = (let less = outs_less c.desk.out v.number away in let few = f.few_claims in let l = length-append c.gathered v.claims in let old = h.spare in fewer (length (c.gathered ++ v.claims)) (length c.gathered) (length v.claims) (outs (slice_set c.desk.out v.number false)) (outs c.desk.out) l less few old); rested = even },
    (λ u g. record { known = g.known; number = g.number; walk = g.walk; whole = g.whole; proper = g.proper; told = g.told; aimed = g.aimed; done = g.done; past = g.past; few_claims = g.few_claims; paced = g.paced }),
    λ n m. m,
  )
    where
      even : (n : ℕ) → slice_index (slice_set c.desk.rests v.number v.pass) n % 2 ≡ 0
      even n = rests_even c.desk.rests v.number v.pass (f.paced ∙ ap one_if rests) h.rested n

      fewer : (a b d o o' : ℕ) → a ≡ b + d → o + 1 ≡ o' → d < 4294967296 → b + o' * 4294967296 < 1152921504606846976 + 34359738368 → a + o * 4294967296 < 1152921504606846976 + 34359738368
      fewer a b d o o' x y z w = omega arith

  -- 10: a note is split off
  pub notes_owes : (c : Control) → OfControl objects words c → IsTold c.log.version c.log.version
  notes_owes c h = told_self c.log.version h.log.order

  -- 11: a note is joined into a worker's seat
  pub tells_owes : (v : Worker) (n : Version) (c : Control) → OfWorker objects words c v → IsTold c.log.version n → OfWorker objects words c (told v n)
  tells_owes v n c f m = record { known = f.known; number = f.number; walk = f.walk; whole = f.whole; proper = f.proper; told = told_greater c.log.version v.knows n f.told m; aimed = f.aimed; done = f.done; past = f.past; few_claims = f.few_claims; paced = f.paced }
