-- A change, and the beginning.
use Rattle.std.proofs.Common.{⊎_elim, ◌≡◌, ◌⊎◌, ℕ, false, ◌||◌, List, [], sym, ap, ◌∙◌, subst}
use Rattle.std.specs.Prelude.{Contains, Some, None, is_some, ◌↔◌}
use Rattle.std.specs.Set.{is_member}
use Rattle.fib_base_list.proofs.Lists.{Contains-nil}
use Rattle.fib_addr.specs.Prefixes.{Prefix, same_prefix}
use Rattle.fib_addr.proofs.PrefixLaws.{same_prefix-Decides}
use Rattle.fib_reach.specs.Walks.{AllDiffer}
use Rattle.fib_resolve.specs.Pairs.{entries}
use Rattle.fib_resolve.specs.Tables.{IsSound}
use Rattle.fib_resolve.specs.declared.types.Tables.{Tables}
use Rattle.fib_resolve_changes.specs.Ranks.{Falls, has_entry}
use Rattle.fib_resolve_changes.proofs.CauseLaws.{any_from}
use Rattle.fib_resolve_changes.proofs.Edits.{any_in}
use Rattle.fib_resolve_changes.proofs.Ranking.{ranked}
use Rattle.fib_entries_rows.specs.Changes.{AreTouched}
use Rattle.fib_stack_queue.specs.Queues.{rank_in}
use Rattle.fib_stack_queue.specs.declared.order.Queued.{Queued}
use Rattle.fib_stack_waking.specs.Waking.{AreRanked, is_among}
use Rattle.fib_stack_waking.proofs.Woken.{among_touched, self_same}
use Rattle.fib_urpf.specs.Marks.{marks_lead}
use Rattle.fib_urpf.specs.Sets.{kept_in}
use Rattle.fib_urpf.specs.Kept.{IsFor, Kept, state_of}
use Rattle.fib_urpf.specs.States.{Followed, IsDone, over}
use Rattle.fib_urpf.proofs.Keeping.{follow_keeps}
use Rattle.fib_urpf.proofs.Members.{back, same_tests, there}

pub followed : (S T : Tables) (v w : Kept) (mid : List Queued) (touched : List Prefix) → AreTouched S T touched
    → ((d : Prefix) → is_some (rank_in mid d) ≡ is_some (rank_in v.queue d))
    → ((d : Prefix) → is_some (rank_in w.queue d) ≡ is_some (rank_in mid d) || is_among touched d)
    → w.rows ≡ v.rows → w.members ≡ v.members → w.done ≡ [] → Followed S T (state_of v) (state_of w)
followed S T v w mid touched are rekeyed queued rows members done = record {
  kept = ap (λ l e i. kept_in l i e) rows;
  known = ap (λ l e. is_member same_prefix l e) members;
  queue = λ e. queued e ∙ ap (λ b. b || is_among touched e) (rekeyed e) ∙ ap (λ b. is_some (rank_in v.queue e) || b) (among_touched S T touched e are);
  done = done;
}

pub stands_followed : (S T : Tables) (old rank : Prefix → ℕ) (v w : Kept) → IsFor v S old → IsSound T → Falls T rank → Followed S T (state_of v) (state_of w) → AreRanked rank w.queue → IsFor w T rank
stands_followed S T old rank v w for sound falls f ranks = record {
  sound = sound;
  falls = falls;
  stands = follow_keeps S T old rank (state_of v) (state_of w) sound for.stands f;
  ranked = ranks;
}

-- at first all entries are queued
pub among_entries : (S : Tables) (ds : List Prefix) (d : Prefix) → ((e : Prefix) → Contains ds e ↔ Contains (entries S) e) → is_among ds d ≡ has_entry S d
among_entries S ds d same = same_tests (is_among ds d) (has_entry S d)
    (λ is. let r = any_from (λ x. same_prefix x d) ds is in
    there (entries S) d ((same d).0 (subst (λ (x : Prefix). Contains ds x) ((same_prefix-Decides r.0 d).0 r.2) r.1)))
    (λ is. any_in (λ x. same_prefix x d) ds d ((same d).1 (back (entries S) d is)) (self_same d))

pub stands_first : (T : Tables) (rank : Prefix → ℕ) (u : Kept) → IsSound T → Falls T rank → AreRanked rank u.queue → ((e : Prefix) → is_some (rank_in u.queue e) ≡ has_entry T e)
    → u.rows ≡ [] → u.members ≡ [] → u.done ≡ [] → IsFor u T rank
stands_first T rank u sound falls ranks queued rows members done = record {
  sound = sound;
  falls = falls;
  stands = record {
    done = first_done;
    taken = λ e c. absurd (Contains-nil e (subst (λ (l : List Prefix). Contains l e) done c));
    lower = λ e d c q. absurd (Contains-nil e (subst (λ (l : List Prefix). Contains l e) done c));
    once = subst AllDiffer (sym done) tt;
  };
  ranked = ranks;
}
  where
    first_done : (e : Prefix) → is_some (rank_in u.queue e) ≡ false → IsDone T (state_of u) e
    first_done e none =
        let absent : has_entry T e ≡ false = sym (queued e) ∙ none in
        record {
          known = ap (λ l. is_member same_prefix l e) members ∙ sym absent;
          set = λ i few. ap (λ l. kept_in l i e) rows ∙ ap (marks_lead i (over (state_of u) i)) (sym ((ranked T rank falls).absent e absent));
        }

module _ (before mid after : List Queued) (none : before ≡ []) (kept : mid ≡ before) where
  pub queued_first : (S : Tables) (ds all : List Prefix) → ds ≡ all → ((e : Prefix) → Contains all e ↔ Contains (entries S) e)
      → ((d : Prefix) → is_some (rank_in after d) ≡ is_some (rank_in mid d) || is_among ds d) → (e : Prefix) → is_some (rank_in after e) ≡ has_entry S e
  queued_first S ds all is same queued e =
      queued e ∙ ap (λ l. is_some (rank_in l e) || is_among ds e) (kept ∙ none)
      ∙ among_entries S ds e (subst (λ (l : List Prefix). (d : Prefix) → Contains l d ↔ Contains (entries S) d) (sym is) same)

  pub ranked_first : (rank : Prefix → ℕ) → ((d : Prefix) (r : ℕ) → rank_in after d ≡ Some r → (rank_in mid d ≡ Some r) ⊎ (r ≡ rank d)) → AreRanked rank after
  ranked_first rank came d r at = ⊎_elim
      (λ (m : rank_in mid d ≡ Some r). absurd (let bad : None ≡ Some r = sym (ap (λ l. rank_in l d) (kept ∙ none)) ∙ m in cc))
      (λ (is : r ≡ rank d). is)
      (came d r at)
