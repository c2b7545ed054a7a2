-- What begins stands joined: all that the fresh tables want drops.
use Rattle.std.proofs.Common.{◌≡◌, ℕ, ⊎_elim, Bool, true, false, true≢false, ◌&&◌, List, refl, sym, ap, ◌∙◌, subst, arith}
use Rattle.std.specs.Prelude.{Option, Some, None, Contains, IfSome}
use Rattle.std.specs.List.{AllByRecursion, list_any}
use Rattle.std.proofs.lemmas.List.Elements.{All-contains, All-from_recursion}
use Rattle.fib_base_list.proofs.Lists.{each-map, each-weaker}
use Rattle.fib_addr.specs.Prefixes.{Prefix}
use Rattle.fib_resolve.specs.Aims.{kind_aim, kind_counts, marked, marked_list}
use Rattle.fib_resolve.specs.Pairs.{all_pairs, base_pairs, best_pair, chosen, pairs, paths_of, same_pair}
use Rattle.fib_resolve.specs.Tables.{fresh}
use Rattle.fib_resolve.specs.declared.aims.Aim.{Aim}
use Rattle.fib_resolve.specs.declared.aims.Aim.TheVariants as aims
use Rattle.fib_resolve.specs.declared.aims.Marked.{Marked}
use Rattle.fib_resolve.specs.declared.pairs.Pair.{Pair}
use Rattle.fib_resolve.specs.declared.types.End.{End}
use Rattle.fib_resolve.specs.declared.types.End.TheVariants as answers
use Rattle.fib_resolve.specs.declared.types.Path.{Path}
use Rattle.fib_resolve.specs.declared.types.PathKind.TheVariants as kinds
use Rattle.fib_resolve.proofs.PairLaws.{best_has, each-unique}
use Rattle.fib_resolve_changes.specs.Ranks.{is_aimed_at, is_usable_mark, leads_on}
use Rattle.fib_resolve_changes.specs.Wanted.{aim_by}
use Rattle.fib_resolve_changes.proofs.CauseLaws.{any_from}
use Rattle.fib_core.specs.declared.word.Word.TheVariants as words
use Rattle.fib_stack_ledger.specs.declared.ledger.Known.{Known}
use Rattle.fib_stack_ledger.specs.declared.late.Late.{Late}
use Rattle.fib_stack_ledger.specs.Deferred.{late_at}
use Rattle.fib_stack_ledger.specs.Ledgers.{forwarded_by, used_by}
use Rattle.fib_stack_queue.specs.Queues.{rank_in}
use Rattle.fib_stack_queue.specs.declared.order.Queued.{Queued}
use Rattle.fib_core_promise.specs.Stack.{Objects, aim_word}
use Rattle.fib_plane_view.specs.Promise.{IsBegun, Promise}
use Rattle.fib_plane_view.specs.View.{View}
use Rattle.fib_stack.specs.Joined.{Joined, Parts, state_in}
use Rattle.fib_stack.specs.Records.{AreObjects, holds_in}
use Rattle.fib_stack.specs.States.{ends_there, forwards_by, has_hop}
use Rattle.fib_stack.proofs.Aiming.{bucket_end, bucket_on}
use Rattle.fib_stack.proofs.Keeping.{fits_at}
use Rattle.fib_control_quiet.specs.Rest.{IsBeginning}

abbrev Drops : List Path → Type 0
Drops qs = AllByRecursion (λ q. q.kind ≡ kinds.Drop) qs

all_drop : AllByRecursion (λ (x : Pair). Drops x.paths) (pairs fresh)
unfolding pairs all_pairs base_pairs
all_drop = each-unique (λ x. Drops x.paths) same_pair (all_pairs fresh) ((refl, tt), ((refl, tt), ((refl, tt), ((refl, tt), ((refl, tt), tt)))))

chosen_drop : (e : Prefix) → Drops (chosen fresh e)
unfolding chosen
chosen_drop e = by_pair (best_pair e (pairs fresh)) (best_has (λ x. Drops x.paths) e (pairs fresh) all_drop)
  where
    by_pair : (o : Option Pair) → IfSome o (λ x. Drops x.paths × (e ≡ x.prefix)) → Drops (paths_of o)
    by_pair None h = tt
    by_pair (Some x) h = h.0

-- a path that drops counts for nothing
pub record DropsAway (m : Marked) : Type 0 where
  pub aim : m.aim ≡ aims.Ends answers.Drop
  pub counts : m.counts ≡ false

marks_drop : (e : Prefix) → AllByRecursion DropsAway (marked_list fresh e)
unfolding marked_list
marks_drop e = each-map DropsAway (marked fresh e) (chosen fresh e) (each-weaker (λ q. q.kind ≡ kinds.Drop) (λ q. DropsAway (marked fresh e q)) (λ q is. record {
  aim = ap (kind_aim fresh e) is;
  counts = ap (kind_counts fresh e q.need) is;
}) (chosen fresh e) (chosen_drop e))

mark_drops : (e : Prefix) (m : Marked) → Contains (marked_list fresh e) m → DropsAway m
mark_drops e m c = All-contains DropsAway (marked_list fresh e) m (All-from_recursion DropsAway (marked_list fresh e) (marks_drop e)) c

-- so no test that asks for more holds of one
none_any : (e : Prefix) (test : Marked → Bool) → ((m : Marked) → DropsAway m → test m ≡ false) → list_any test (marked_list fresh e) ≡ false
none_any e test fails = by_answer (list_any test (marked_list fresh e)) refl
  where
    by_answer : (b : Bool) → list_any test (marked_list fresh e) ≡ b → list_any test (marked_list fresh e) ≡ false
    by_answer false is = is
    by_answer true is = absurd (let m = any_from test (marked_list fresh e) is in true≢false (sym m.2 ∙ fails m.0 (mark_drops e m.0 m.1)))

nothing_forwards : (f : Prefix → Bool) (e : Prefix) → forwards_by f (marked_list fresh e) ≡ false
nothing_forwards f e = none_any e (is_usable_mark f) (λ m d. ap (λ b. b && leads_on f m.aim) d.counts)

no_hops : (e : Prefix) (end : End) → has_hop (marked_list fresh e) end ≡ false
no_hops e end = none_any e (λ m. ends_there end m.aim) (λ m d. ap (ends_there end) d.aim)

-- every bucket drops
aims_drop : (f : Prefix → Bool) (e : Prefix) (k : ℕ) → aim_by f (marked_list fresh e) k ≡ aims.Ends answers.Drop
aims_drop f e k = by_aim (aim_by f (marked_list fresh e) k) refl
  where
    by_aim : (m : Aim) → aim_by f (marked_list fresh e) k ≡ m → aim_by f (marked_list fresh e) k ≡ aims.Ends answers.Drop
    by_aim (aims.Ends end) is = ⊎_elim
        (λ (drop : end ≡ answers.Drop). is ∙ ap aims.Ends drop)
        (λ q. absurd (let d = mark_drops e q.0 q.1 in true≢false (sym q.2 ∙ d.counts)))
        (bucket_end f (marked_list fresh e) k end is)
    by_aim (aims.On t) is = absurd (
        let on = (bucket_on f (marked_list fresh e) k t is).0 in
        true≢false (sym on ∙ none_any e (λ m. m.counts && is_aimed_at t m.aim) (λ m d. ap (λ b. b && is_aimed_at t m.aim) d.counts)))

module _ (rank : Prefix → ℕ) (p : Promise) (v : View) (s : Parts) (b : IsBeginning p v s) where
  bit_off : (e : Prefix) → forwarded_by (s.known e) ≡ false
  bit_off e = ap forwarded_by (b.unknown e)

  holds_none : (e : Prefix) (end : End) → holds_in (used_by (s.known e)) end ≡ false
  holds_none e end = ap (λ (k : Option Known). holds_in (used_by k) end) (b.unknown e)

  late_none : (e : Prefix) (k : ℕ) → late_at s.late e k ≡ None
  late_none e k = ap (λ (xs : List Late). late_at xs e k) b.late

  not_begun : IsBegun p → ⊥
  not_begun begun = let z = b.early in omega (arith, begun, z)

  abbrev objects : Objects
  objects = (state_in v s).objects

  word_drops : (e : Prefix) (k : ℕ) → aim_word objects (aim_by (state_in v s).was (marked_list fresh e) k) ≡ words.Drop
  word_drops e k = ap (aim_word objects) (aims_drop (state_in v s).was e k)

  pub begins_joined : Joined fresh rank p v s
  begins_joined = record {
    kept = record {
      done = λ e q. record {
        placed = b.placed e;
        known = bit_off e ∙ sym (nothing_forwards (state_in v s).was e);
        filled = λ o k at lt. fits_at None (late_at s.late e k) words.Drop (v.cell o k) words.Drop (aim_word objects (aim_by (state_in v s).was (marked_list fresh e) k)) (late_none e k) (b.drops e o k at lt) (word_drops e k) refl;
        holding = λ end. holds_none e end ∙ sym (no_hops e end);
      };
      placed = λ e. record {
        forwarded = λ on_it. absurd (true≢false (sym on_it ∙ bit_off e));
        recorded = λ end held. absurd (true≢false (sym held ∙ holds_none e end));
        late = λ k gone. late_none e k;
        apart = λ d o at there. b.apart d e o there at;
      };
    };
    laid = record {
      counted = λ m. (b.unused m).1 ∙ sym (b.unused m).0;
      objects = λ e. subst (λ (k : Option Known). AreObjects v (used_by k)) (sym (b.unknown e)) tt;
      balances = b.balances;
      owned = b.owned;
    };
    table = b.table;
    fits = λ begun. absurd (not_begun begun);
    steady = λ begun. absurd (not_begun begun);
    newest = λ begun. absurd (not_begun begun);
    ranked = λ e r at. absurd (no_rank e r at);
    waiting = λ e r at. absurd (no_rank e r at);
    deferred = λ e k w at. absurd (let bad : None ≡ Some w = sym (late_none e k) ∙ at in cc);
  }
    where
      no_rank : (e : Prefix) (r : ℕ) → rank_in s.queue e ≡ Some r → ⊥
      no_rank e r at = (let bad : None ≡ Some r = sym (ap (λ (xs : List Queued). rank_in xs e) b.queue) ∙ at in cc)
