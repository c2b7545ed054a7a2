-- Each event keeps the promise and the way of every pass that isn't disturbed.
use Rattle.std.proofs.Common.{◌≡◌, ◌≢◌, ◌≤◌, ◌<◌, ◌-◌, inl, inr, ℕ, zero, suc, List, [], ◌∷◌, ◌++◌, length, Option, Some, None, refl, sym, ap, ◌∙◌, subst, arith}
use Rattle.std.specs.Prelude.{Contains, slice_get, slice_index, slice_set, IfSome}
use Rattle.std.specs.List.{AllByRecursion}
use Rattle.std.proofs.lemmas.Option.{slice_get_within}
use Rattle.fib_base_list.proofs.Lists.{each-at}
use Rattle.fib_addr.specs.Prefixes.{Prefix}
use Rattle.fib_resolve.specs.Resolution.{Trip, resolve}
use Rattle.fib_resolve.specs.Tables.{IsSound}
use Rattle.fib_resolve.specs.declared.types.End.{End}
use Rattle.fib_resolve.specs.declared.types.Tables.{Tables}
use Rattle.fib_core_results.specs.declared.record.Record.{Record}
use Rattle.fib_core_results.specs.Trails.{IsAt, IsRecordOk}
use Rattle.fib_core_results.specs.Steady.{IsSteady}
use Rattle.fib_core.specs.declared.word.Word.{Word}
use Rattle.fib_core.specs.declared.word.Word.TheVariants as words
use Rattle.fib_union.specs.Unions.{owner}
use Rattle.fib_core.specs.Words.{decoded}
use Rattle.fib_core.specs.Walk.{Place, ply, balance, adjacency, ended, asked, next, word_at, end_at, ReadsWhole}
use Rattle.fib_core.specs.Union.{Union, Goes, Lies, Usable, scanned}
use Rattle.fib_core.specs.Trails.{Load, Walked, place, Follows, Trail}
use Rattle.fib_core.proofs.Walks.{Backed, adjacency_stored, reads_on}
use Rattle.fib_core.proofs.Stands.{backed}
use Rattle.fib_core.proofs.Unions.{goes-scanned}
use Rattle.fib_core_steady.specs.Names.{Names, IsWalked}
use Rattle.fib_core_steady.specs.Promise.{IsRight, IsPromised}
use Rattle.fib_core_steady.specs.Undisturbed.{since, WayAlike, IsOnWay, IsUndisturbed, IsCurrent, IsSteadyTrail}
use Rattle.fib_core_steady.proofs.Edges.{child_of, ways_by}
use Rattle.fib_core_steady.proofs.Lists.{some_same, place_of, from_place, get_longer}
use Rattle.fib_core_steady.proofs.Standing.{flow}
use Rattle.fib_core_steady.proofs.Loading.{load_on_way}
use Rattle.fib_core_steady.proofs.Renames.{renamed}

-- the versions of a window

some_sound : (S : Tables) (o : Option Tables) → IfSome o IsSound → o ≡ Some S → IsSound S
some_sound S None all e = absurd (cc)
some_sound S (Some T) all e = subst IsSound (some_same T S (Some T) refl e) all

pub each_sound : (H : List Tables) (from : ℕ) → AllByRecursion IsSound H → (S : Tables) → Contains (since H from) S → IsSound S
each_sound H from sound S c = let at = place_of H from S c in some_sound S (slice_get H at.0) (each-at IsSound H at.0 sound) at.2

pub newest : (H : List Tables) (from : ℕ) → from < length H → (S : Tables) × Contains (since H from) S
newest [] from lt = absurd (omega arith)
newest (S ∷ H) zero lt = (S, (0, omega arith, refl))
newest (S ∷ H) (suc from) lt = newest H from (omega arith)

pub later_too : (H : List Tables) (lo settled : ℕ) → lo ≤ settled → (S : Tables) → Contains (since H settled) S → Contains (since H lo) S
later_too H lo settled le S c =
    let at = place_of H settled S c in
    let le' : settled ≤ at.0 = at.1 in
    from_place H lo at.0 S (omega arith) at.2

pub longer_too : (H : List Tables) (T : Tables) (from : ℕ) (S : Tables) → Contains (since H from) S → Contains (since (H ++ T ∷ []) from) S
longer_too H T from S c = let at = place_of H from S c in from_place (H ++ T ∷ []) from at.0 S at.1 (get_longer H (T ∷ []) at.0 S at.2)

-- more versions ask less
module _ (J K : List Tables) (more : (S : Tables) → Contains J S → Contains K S) (n : Names) (u : Union) where
  fewer_right : (x s : ℕ) (w : Word) → IsRight J n x s w → IsRight K n x s w
  fewer_right x s (words.ToPly c) right = tt
  fewer_right x s (words.ToBalance o) right = λ a e inside alike. right a e inside (λ S c. alike S (more S c))
  fewer_right x s words.Drop right = right
  fewer_right x s words.Receive right = right
  fewer_right x s (words.Glean i) right = right
  fewer_right x s (words.ToAdjacency y) right = right
  fewer_right x s (words.Plain m) right = right

  pub asks_less : IsPromised J n u → IsPromised K n u
  asks_less ok = record {
    buckets = record {
      named = λ e lasting. ok.buckets.named e (λ S c. lasting S (more S c));
      held = λ e o lasting is. tt;
      aimed = λ e o k m lasting is lt alike. ok.buckets.aimed e o k m (λ S c. lasting S (more S c)) is lt (λ S c. alike S (more S c));
    };
    plies = record { ways = ok.plies.ways; right = λ x s walked lt. fewer_right x s (word_at u.cells x s) (ok.plies.right x s walked lt) };
  }

-- a version begins

pub promised_begins : (H : List Tables) (T : Tables) (settled : ℕ) (n : Names) (u : Union) → IsPromised (since H settled) n u → IsPromised (since (H ++ T ∷ []) settled) n u
promised_begins H T settled n u ok = asks_less (since H settled) (since (H ++ T ∷ []) settled) (longer_too H T settled) n u ok

pub undisturbed_begins : (H : List Tables) (T : Tables) (balances : Prefix → Option ℕ) (cells : List ℕ) (lo : ℕ) (t : List Load) → IsUndisturbed H balances cells lo t → IsUndisturbed (H ++ T ∷ []) balances cells lo t
undisturbed_begins H T balances cells lo t ok a h trip follows alike = ok a h trip follows (λ S c. alike S (longer_too H T lo S c))

module _ (H : List Tables) (settled : ℕ) (sound : AllByRecursion IsSound H) (some : settled < length H) (n : Names) (u : Union) (ok : IsPromised (since H settled) n u) where
  -- a cell is loaded
  pub undisturbed_loads : (lo : ℕ) (t : List Load) (k : ℕ) → lo ≤ settled → Walked (Lies u) t → ((a h : ℕ) → Follows a h t → ReadsWhole u.cells (place t)) → IsUndisturbed H n.balance u.cells lo t → IsUndisturbed H n.balance u.cells lo ((k, slice_index u.cells k) ∷ t)
  undisturbed_loads lo t k le walked whole on_way a h trip follows alike =
      let now = newest H settled some in
      subst (λ (i : ℕ). IsOnWay n.balance u.cells trip (next (place t) (decoded (slice_index u.cells i)))) (sym follows.0)
      (load_on_way (since H settled) now.0 now.1 (each_sound H settled sound) a h trip (λ S c. alike S (later_too H lo settled le S c)) n u ok t walked follows.2 follows.1 (whole a h follows.2) (on_way a h trip follows.2 alike))

  -- names change
  pub undisturbed_renames : (m : Names) → IsPromised (since H settled) m u → (lo : ℕ) (t : List Load) → lo ≤ settled → IsUndisturbed H n.balance u.cells lo t → IsUndisturbed H m.balance u.cells lo t
  undisturbed_renames m also lo t le on_way a h trip follows alike =
      let now = newest H settled some in
      renamed (since H settled) n m u ok also a h (flow a h t follows).0 now.0 now.1 (each_sound H settled sound) trip (λ S c. alike S (later_too H lo settled le S c)) (place t) (on_way a h trip follows alike)

-- the first change begins: each load of a running pass is what its cell holds
module _ (H : List Tables) (sound : AllByRecursion IsSound H) (some : 0 < length H) (n : Names) (u : Union) (ok : IsPromised (since H 0) n u) (a h : ℕ) (trip : Trip) (alike : WayAlike (since H 0) a h trip) where
  first_on_way : (t : List Load) → Walked (Lies u) t → IsCurrent u.cells t → Follows a h t → ReadsWhole u.cells (place t) × IsOnWay n.balance u.cells trip (place t)
  first_on_way [] walked current follows = (tt, tt)
  first_on_way (l ∷ t) walked current follows =
      let before = first_on_way t walked.2 current.1 follows.2 in
      let now = newest H 0 some in
      let word : decoded (slice_index u.cells (asked a h (place t))) ≡ decoded l.1 = ap decoded (ap (slice_index u.cells) (sym follows.0) ∙ current.0) in (
        reads_on u.cells a h (place t) (decoded l.1) (sym word) follows.1 before.0,
        subst (λ (w : Word). IsOnWay n.balance u.cells trip (next (place t) w)) word (load_on_way (since H 0) now.0 now.1 (each_sound H 0 sound) a h trip alike n u ok t walked.2 follows.2 follows.1 before.0 before.1),
      )

pub undisturbed_first : (H : List Tables) → AllByRecursion IsSound H → 0 < length H → (n : Names) (u : Union) → IsPromised (since H 0) n u → (t : List Load) → Walked (Lies u) t → IsCurrent u.cells t → IsUndisturbed H n.balance u.cells 0 t
undisturbed_first H sound some n u ok t walked current a h trip follows alike = (first_on_way H sound some n u ok a h trip alike t walked current follows).1

-- a cell is stored, and it is none of an adjacency into which the union leads
module _ (u : Union) (k w : ℕ) (beside : (j v o : ℕ) → Goes u j v → decoded v ≡ words.ToAdjacency o → owner k ≢ o) where
  stored_on_way : (balances : Prefix → Option ℕ) (trip : Trip) (at : Place) → Backed u at → IsOnWay balances u.cells trip at → IsOnWay balances (slice_set u.cells k w) trip at
  stored_on_way balances trip (ply o d) from stands = tt
  stored_on_way balances trip (balance o m) from stands = stands
  stored_on_way balances trip (adjacency o read) from stands = adjacency_stored u.cells k w o (beside from.0 from.1 o from.3 from.2) ∙ stands
  stored_on_way balances trip (ended e) from stands = stands

  pub undisturbed_stores : (H : List Tables) (balances : Prefix → Option ℕ) (lo number pass : ℕ) (t : List Load) → Walked (Usable u number pass) t → IsUndisturbed H balances u.cells lo t → IsUndisturbed H balances (slice_set u.cells k w) lo t
  undisturbed_stores H balances lo number pass t walked on_way a h trip follows alike = stored_on_way balances trip (place t) (backed u number pass a h t follows walked) (on_way a h trip follows alike)

-- a trail is finished
pub finishes_steady : (H : List Tables) (balances : Prefix → Option ℕ) (cells : List ℕ) (t : Trail) (e : End) → place t.loads ≡ ended e → t.hi.applied ≡ length H - 1 → IsUndisturbed H balances cells t.lo.settled t.loads → IsSteadyTrail H t
finishes_steady H balances cells t e done is on_way a h follows trip keeps =
    ap end_at done ∙ subst (λ (at : Place). IsOnWay balances cells trip at) done (on_way a h trip follows (λ S c.
    let at = place_of H t.lo.settled S c in
    let lt : at.0 < length H = slice_get_within H at.0 S at.2 in
    keeps at.0 S at.1 (omega arith) at.2))

-- and stays steady
pub steady_begins : (H : List Tables) (T : Tables) (t : Trail) → IsSteadyTrail H t → IsSteadyTrail (H ++ T ∷ []) t
steady_begins H T t steady a h follows trip keeps = steady a h follows trip (λ j S from to at. keeps j S from to (get_longer H (T ∷ []) j S at))

-- with one settled version alone this is what the result's own law says
pub quiet_steady : (H : List Tables) (k : ℕ) (S : Tables) (r : Record) → IsAt k r → slice_get H k ≡ Some S → IsRecordOk H r → IsSteady H r
unfolding resolve
quiet_steady H k S r at held ok trip keeps =
    let low : r.lo.settled ≤ k = subst (λ v. v.settled ≤ k) (sym at.lo) (same k) in
    let high : k ≤ r.hi.applied = subst (λ v. k ≤ v.applied) (sym at.hi) (same k) in
    ok.quiet k S at held ∙ ap (λ (t : Trip). t.end) (keeps k S low high held)
  where
    same : (n : ℕ) → n ≤ n
    same n = omega arith

-- a pass word is loaded
module _ (J : List Tables) (n : Names) (u : Union) (number found : ℕ) where
  walked_scanned : (x : ℕ) → IsWalked (scanned u number found) x → IsWalked u x
  walked_scanned x (inl is) = inl is
  walked_scanned x (inr (y, (k, w, from, is, g))) = inr (y, (k, w, from, is, goes-scanned u number found k w g))

  pub promised_scans : IsPromised J n u → IsPromised J n (scanned u number found)
  promised_scans ok = record {
    buckets = ok.buckets;
    plies = record {
      ways = ways_by n (scanned u number found) ok.plies.ways.root
          (λ k w c g is. child_of n u ok.plies.ways k w c (goes-scanned u number found k w g) is);
      right = λ x s walked lt. ok.plies.right x s (walked_scanned x walked) lt;
    };
  }
