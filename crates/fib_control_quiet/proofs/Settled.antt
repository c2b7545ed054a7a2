-- At rest what stands between all holds for the one version too: so a version may be settled, and the first one begun.
use Rattle.std.proofs.Common.{◌≡◌, ℕ, ◌<◌, ◌^◌, inl, inr, true, true≢false, List, [], ◌∷◌, refl, sym, ap, ◌∙◌, subst, arith}
use Rattle.std.specs.Prelude.{Some, None, Contains}
use native.Mathlib.Decide.{ℕ_discrete}
use mathlib.Core.Logic.{dite}
use Rattle.fib_addr.specs.Prefixes.{Prefix, IsPrefix}
use Rattle.fib_resolve.specs.Aims.{aim}
use Rattle.fib_resolve.specs.declared.aims.Aim.{Aim}
use Rattle.fib_resolve.specs.declared.aims.Aim.TheVariants as aims
use Rattle.fib_resolve.specs.declared.types.End.TheVariants as answers
use Rattle.fib_resolve.specs.declared.types.Tables.{Tables}
use Rattle.fib_core.specs.declared.word.Word.{Word}
use Rattle.fib_core.specs.declared.word.Word.TheVariants as words
use Rattle.fib_core_promise.specs.Matches.{FitsVersions, best_block, look_of, promised_by}
use Rattle.fib_core_promise.specs.Stack.{aim_word, is_some, to_adjacency, to_balance}
use Rattle.fib_core_promise.proofs.Answers.{promised_answer, promised_from}
use Rattle.fib_plane_view.specs.Promise.{KeepsBuckets, Promise}
use Rattle.fib_core_steady.specs.Promise.{IsAimed}
use Rattle.fib_plane_view.specs.View.{IsLive, View, adjacency_end}
use Rattle.fib_ply.specs.Prefixes.{Look}
use Rattle.fib_ply.specs.Tables.{Stands, watch_of}
use Rattle.fib_ply.specs.Plies.{Has, IsSound, Mixed}
use Rattle.fib_ply.specs.Served.{KeepsBeside, IsRight, IsWalked, Paths, Wanted, Watch}
use Rattle.fib_ply.specs.Fitting.{IsFilled}
use Rattle.fib_ply.proofs.Laws.{held_prefix}
use Rattle.fib_ply.proofs.Rewatching.{wanted_begun}
use Rattle.fib_stack_ledger.specs.Deferred.{late_at}
use Rattle.fib_stack_queue.specs.Queues.{rank_in}
use Rattle.fib_stack.specs.Joined.{Joined, Parts, balance_in, in_change, state_in, table_of}
use Rattle.fib_stack.specs.Steadiness.{IsSteady}
use Rattle.fib_stack.proofs.Settling.{aims_hop, aims_on, settled_steady}
use Rattle.fib_control_quiet.specs.Rest.{IsAtRest}
use Rattle.fib_control_quiet.proofs.Drained.{IsOwned, hop_kept, paths, placed}
use Rattle.fib_control_quiet.proofs.Ends.{objects, stands}
use Rattle.fib_stack.proofs.Keeping.{some_there}
use Rattle.fib_control_quiet.proofs.Reaching.{balance_at, entry_of}

module _ (S : Tables) (rank : Prefix → ℕ) (p : Promise) (v : View) (s : Parts) (rest : IsAtRest S rank p v s) (owned : (x : ℕ) → IsLive v x → IsOwned v x)
    (q : Promise) (one : q.versions ≡ S ∷ []) (early : q.applied ≡ 0 → p.applied ≡ 0) where
  here : Contains (S ∷ []) S
  here = (0, omega arith, refl)

  rows_fine : (e : Prefix) (o : ℕ) → balance_in s e ≡ Some o → IsPrefix e
  rows_fine = held_prefix s.rows rest.drained.rows_are

  abbrev n : Paths
  n = paths S rank p v s rest.drained

  fits : FitsVersions (S ∷ []) (balance_in s)
  fits = record {
    some = λ e o at. (rows_fine e o at, (S, here, entry_of S (balance_in s) rest.drained.entries_are rows_fine (placed S rank p v s rest.drained) e o at));
    all = λ e lasts. balance_at S (balance_in s) rest.drained.entries_are rows_fine (placed S rank p v s rest.drained) e (lasts S here);
  }

  steady : IsSteady (S ∷ []) (state_in v s)
  steady = settled_steady S rank (state_in v s) rest.drained.ranked (rest.drained.none, rest.prompt) (stands S rank p v s rest n)

  -- what a bucket holds does what it is for
  aimed : (e : Prefix) (k : ℕ) (m : Aim) → aim S e k ≡ m → IsAimed (balance_in s) (adjacency_end v) m (aim_word (objects S rank p v s rest n) m)
  aimed e k (aims.Ends answers.Drop) is = refl
  aimed e k (aims.Ends answers.Receive) is = refl
  aimed e k (aims.Ends (answers.Glean i)) is = refl
  aimed e k (aims.Ends (answers.Hop i a x)) is =
      let o = hop_kept S rank p v s rest.drained e i a x (aims_hop S e k i a x is) in
      (o.0, ap to_adjacency o.1, rest.drained.plane.written (record { interface = i; next_hop = a; mac = x }) o.0 o.1)
  aimed e k (aims.On t) is =
      let o = some_there (balance_in s t) (placed S rank p v s rest.drained t ∙ (rest.drained.ranked.falls e t (rest.drained.ranked.woken e t (aims_on S e t k is))).0) in
      (o.0, ap to_balance o.1, o.1)

  buckets : KeepsBuckets (S ∷ []) (balance_in s) v
  buckets = record {
    named = λ e lasts. balance_at S (balance_in s) rest.drained.entries_are rows_fine (placed S rank p v s rest.drained) e (lasts S here);
    held = λ e o lasts at. rest.drained.joined.laid.balances e o at;
    aimed = λ e o k m lasts at lt alike.
        let word : v.cell o k ≡ aim_word (objects S rank p v s rest n) m = (stands S rank p v s rest n).filled e o k at lt ∙ ap (aim_word (objects S rank p v s rest n)) (alike S here) in
        subst (IsAimed (balance_in s) (adjacency_end v) m) (sym word) (aimed e k m (alike S here));
  }

  abbrev look : Look
  look = look_of (balance_in s)

  abbrev w : Watch
  w = watch_of (in_change q) (table_of s)

  -- what is promised is the table's answer
  answers_all : (a r : ℕ) → a < 2 ^ 32 → Wanted w a r → best_block look 32 a ≡ Some r
  answers_all a r lt want =
      let b = wanted_begun w a r want in
      let whole = rest.drained.joined.table.2.at.sound.whole in
      promised_answer (S ∷ []) S here (balance_in s) whole.0 whole.1 fits a r lt
      (promised_from (S ∷ []) (balance_in s) a r (subst (λ (J : List Tables). promised_by J (balance_in s) a ≡ Some r) one b.1))

  -- a ply on which a pass may stand is the table's
  walked_in : (x : ℕ) → IsWalked v x → n.is_in x ≡ true
  walked_in x (inl e) = subst (λ (i : ℕ). n.is_in i ≡ true) (sym e) rest.drained.joined.table.2.at.fits.root.0
  walked_in x (inr g) = by_owner (owned x (inr (inr (inr (g.0, g.1, words.ToPly x, refl, g.3)))))
    where
      is_ply : v.is_ply x ≡ true
      is_ply = (rest.drained.plane.kinds.ply g.0 g.1 x g.3).1

      by_owner : IsOwned v x → n.is_in x ≡ true
      by_owner (inl e) = subst (λ (i : ℕ). n.is_in i ≡ true) (sym e) rest.drained.joined.table.2.at.fits.root.0
      by_owner (inr (inl h)) = (rest.drained.joined.table.4 x is_ply h).0
      by_owner (inr (inr r)) = absurd (true≢false (sym is_ply ∙ (rest.drained.plane.records r.0 x r.1).1))

  right : (x k : ℕ) (z : Word) → IsFilled (Mixed look look 0) (Has rest.drained.joined.table.0) n x k z → IsRight (Wanted w) n x k z
  right x k (words.ToPly c) f = tt
  right x k (words.ToBalance o) f = λ a r inside want.
      (let mine : best_block look 32 a ≡ Some o = (f.1 a inside).1 (omega arith) in
      let both : Some o ≡ Some r = sym mine ∙ answers_all a r inside.0 want in cc)
  right x k words.Drop f = absurd f
  right x k words.Receive f = absurd f
  right x k (words.Glean i) f = absurd f
  right x k (words.ToAdjacency o) f = absurd f
  right x k (words.Plain i) f = absurd f

  sound_now : IsSound w look v
  sound_now = let was = rest.drained.joined.table.2.at.sound in record { balance = was.balance; whole = was.whole; still = λ z. was.still (early z) }

  kept_now : KeepsBeside w v
  kept_now = record {
    allowed = dite (ℕ_discrete q.applied 0) (λ z. inr (z, refl)) (λ ne. inl (omega (arith, ne)));
    newest = S;
    older = [];
    versions = one;
    buckets = λ b. subst (λ (J : List Tables). KeepsBuckets J (balance_in s) v) (sym one) buckets;
    still = λ z. rest.drained.joined.table.2.at.kept.still (early z);
  }

  table_now : Stands (in_change q) (table_of s) v
  table_now =
      let was = rest.drained.joined.table.2 in (
        rest.drained.joined.table.0,
        n,
        record {
          at = record {
            fits = was.at.fits;
            wider = was.at.wider;
            served = record {
              root = was.at.served.root;
              paths = was.at.served.paths;
              right = λ x k walked lt. right x k (v.cell x k) (was.at.fits.cells x k (walked_in x walked) lt);
            };
            kinds = was.at.kinds;
            promised = λ a r lt want. (answers_all a r lt want, answers_all a r lt want);
            was = sound_now;
            sound = sound_now;
            kept = kept_now;
            list = was.at.list;
          };
          exact = was.exact;
        },
        rest.drained.joined.table.3,
        rest.drained.joined.table.4,
      )

  not_queued : (e : Prefix) (r : ℕ) → rank_in s.queue e ≡ Some r → ⊥
  not_queued e r at = true≢false (ap is_some (sym at) ∙ rest.drained.none e)

  not_late : (e : Prefix) (k : ℕ) (z : Word) → late_at s.late e k ≡ Some z → ⊥
  not_late e k z at = (let bad : None ≡ Some z = sym (rest.prompt e k) ∙ at in cc)

  pub joined_at_rest : Joined S rank q v s
  joined_at_rest = record {
    kept = rest.drained.joined.kept;
    laid = rest.drained.joined.laid;
    table = table_now;
    fits = λ b. subst (λ (J : List Tables). FitsVersions J (balance_in s)) (sym one) fits;
    steady = λ b. subst (λ (J : List Tables). IsSteady J (state_in v s)) (sym one) steady;
    newest = λ b. subst (λ (J : List Tables). Contains J S) (sym one) here;
    ranked = rest.drained.joined.ranked;
    waiting = λ e r at. absurd (not_queued e r at);
    deferred = λ e k z at. absurd (not_late e k z at);
  }
