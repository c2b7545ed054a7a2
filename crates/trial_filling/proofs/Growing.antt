-- A ply grows in object 20, in the midst of a change that touches nothing, and leaves again: each of these stores keeps the promise of steady traffic.
use Rattle.std.proofs.Common.{◌≡◌, ◌≢◌, ◌⊎◌, inl, inr, ⊎_elim, ℕ, suc, length, ◌-◌, ◌+◌, ◌*◌, ◌%◌, ◌<◌, ◌≤◌, true, Some, refl, sym, ap, ◌∙◌, subst, arith}
use Rattle.std.specs.Prelude.{◌==◌, ◌&&◌, slice_index, [], ◌∷◌, List}
use Rattle.std.proofs.lemmas.Bool.{cases_lt, eqb-true}
use Rattle.fib_base_list.proofs.Booleans.{and_both}
use Rattle.fib_addr.specs.Prefixes.{Prefix}
use Rattle.fib_resolve.specs.Tables.{fresh}
use Rattle.fib_resolve.specs.declared.types.Tables.{Tables}
use Rattle.fib_union.specs.Unions.{owner}
use Rattle.fib_core.specs.declared.word.Word.{Word}
use Rattle.fib_core.specs.declared.word.Word.TheVariants as words
use Rattle.fib_core.specs.Words.{decoded, encoded, target}
use Rattle.fib_core.specs.Walk.{word_at}
use Rattle.fib_core.specs.Union.{AnyOf, Goes, Retired, Union, must_retire}
use Rattle.fib_core.proofs.Numbers.{cell_of, target_of}
use Rattle.fib_core.proofs.Unions.{goes_stored}
use Rattle.fib_core_lawful.specs.State.{Log, fresh_marks, stored_union}
use Rattle.fib_core_steady.specs.Aims.{IsLasting}
use Rattle.fib_core_steady.specs.Names.{Names}
use Rattle.fib_core_steady.specs.Promise.{IsPromised, IsRight}
use Rattle.fib_core_steady.specs.Undisturbed.{since}
use Rattle.fib_core_steady.proofs.Storing.{IsBeside, aside_stored}
use Rattle.fib_core_promise.proofs.PlyStores.{linked_promised, placed, placed_promised, sent_promised}
use Rattle.fib_core_rule.proofs.Named.{names_of}
use Rattle.fib_core_board.specs.Boards.{Board, as_control, board_begun, board_stored}
use Rattle.fib_core_board.specs.May.{Allows, MayStore, HoldsPromise}
use Rattle.trial_filling.specs.inner.Filled.{Fits}
use Rattle.trial_filling.specs.inner.Fresh.{after_stores, all_below, cell_at, forest, number_of, same_word, word_of_store}
use Rattle.trial_filling.specs.inner.Filling.{HasStores, IsChanging, IsGrowing, IsReady}
use Rattle.trial_filling.proofs.Changing as changing
use Rattle.trial_filling.proofs.Fills as fills
use Rattle.trial_filling.proofs.Freshly.{in_range, same_is}

-- the stores, computed
fills_twenty : all_below 16 (λ r. same_word (word_of_store (254 + r)) (words.ToBalance 15) && (owner (cell_at (254 + r)) == 20)) ≡ true
fills_twenty = refl

twenty_filled : all_below 16 (λ s. same_word (after_stores 270 (16 * 20 + s)) (words.ToBalance 15)) ≡ true
unfolding after_stores
twenty_filled = refl

root_leads : after_stores 254 1 ≡ words.ToBalance 15
unfolding after_stores
root_leads = refl

no_ply : (d : ℕ) → words.ToBalance 15 ≡ words.ToPly d → ⊥
no_ply d e = cc

drop_no_ply : (w : Word) (y : ℕ) → w ≡ words.Drop → w ≡ words.ToPly y → ⊥
drop_no_ply w y e f = cc

abbrev J : List Tables
J = fresh ∷ fresh ∷ []

abbrev grown : Names
grown = placed (names_of number_of fresh) 20 1 1

-- where the change begins, object 20 gets the path of the root's cell 1
pub begins_growing : (b c : Board) (next : Tables) → IsReady b → next ≡ fresh → c ≡ board_begun b next → IsGrowing 254 c
begins_growing b c next r same is = record {
  log = change.log;
  all = change.all;
  alone = ap (λ (d : Board). d.workers) is ∙ r.first.alone;
  stores = subst (λ (d : Board). HasStores 254 d.union) (sym is) r.stores;
  free = λ lt. change.free;
  names = grown;
  path = ((let z = promised.plies.ways.root.0 in omega arith), (let z = promised.plies.ways.root.1 in omega arith), omega arith);
  balances = changing.balances c change;
  right = subst (λ (w : Word). IsRight J grown 0 1 w) root_word (promised.plies.right 0 1 (inl refl) (omega arith));
  promised = promised;
}
  where
    change : IsChanging c
    change = changing.begins_changing b c next r same is

    above : (k v : ℕ) → Goes c.union k v → decoded v ≡ words.ToPly 20 → ⊥
    above k v g e = change.free k v g (target_of v (words.ToPly 20) e)

    below : (k v y : ℕ) → Goes c.union k v → decoded v ≡ words.ToPly y → owner k ≢ 20
    below k v y (going, inl cell) e own =
        let at : 16 * 20 + k % 16 ≡ k = ap (λ (o : ℕ). 16 * o + k % 16) (sym own) ∙ sym (cell_of k) in
        drop_no_ply (decoded v) y (ap decoded (sym cell) ∙ ap (λ (n : ℕ). decoded (slice_index c.union.cells n)) (sym at) ∙ changing.free_cells c change (k % 16) (omega arith)) e
    below k v y (going, inr copy) e own = subst (AnyOf (λ (q : Retired). (q.cell ≡ k) × (q.word ≡ v))) change.quiet copy

    promised : IsPromised J grown c.union
    promised = placed_promised J (names_of number_of fresh) 20 1 1 c.union (omega arith) above below (changing.promised c change)

    root_word : word_at c.union.cells 0 1 ≡ words.ToBalance 15
    root_word = ap (λ (d : Board). word_at d.union.cells 0 1) is ∙ r.stores.says 1 (omega arith) ∙ root_leads

-- passes go on, and a hold ends
pub still_growing : (i : ℕ) (b c : Board) → IsGrowing i b → c.union ≡ b.union → c.log ≡ b.log → c.objects ≡ b.objects → c.workers ≡ b.workers → IsGrowing i c
still_growing i b c g union log all alone = record {
  log = log ∙ g.log;
  all = all ∙ g.all;
  alone = alone ∙ g.alone;
  stores = subst (HasStores i) (sym union) g.stores;
  free = λ lt. subst (λ (u : Union). (j v : ℕ) → Goes u j v → target v ≡ 20 → ⊥) (sym union) (g.free lt);
  names = g.names;
  path = g.path;
  balances = g.balances;
  right = g.right;
  promised = subst (IsPromised J g.names) (sym union) g.promised;
}

module _ (i : ℕ) (b : Board) (g : IsGrowing i b) where
  pub allows : Allows b
  allows = inl (subst (λ (l : Log). l.version.settled < l.version.applied) (sym g.log) (omega arith))

  -- the promise, over the versions from settled to applied
  over_versions : (u : Union) → IsPromised J g.names u → IsPromised (since b.log.history b.log.version.settled) g.names u
  over_versions u ok = subst (λ (l : Log). IsPromised (since l.history l.version.settled) g.names u) (sym g.log) ok

  pub serves : (Held : ℕ → Type 0) → ((o : ℕ) → 14 < o → o < 20 → Held o) → HoldsPromise b Held
  serves Held held begun = (
    g.names,
    over_versions b.union g.promised,
    λ e o lasting is. (let low = g.balances e o is in held o low.0 low.1),
  )

  abbrev K : ℕ
  K = cell_at i

  abbrev W : Word
  W = word_of_store i

  module _ (from : 254 ≤ i) (lt : i < 272) where
    back : decoded (encoded W) ≡ W
    back = fills.back i lt b g.all g.alone g.stores

    -- into the ply that isn't linked yet
    module _ (early : i < 270) where
      both : (same_word (word_of_store (254 + (i - 254))) (words.ToBalance 15) ≡ true) × ((owner (cell_at (254 + (i - 254))) == 20) ≡ true)
      both = and_both (same_word (word_of_store (254 + (i - 254))) (words.ToBalance 15)) (owner (cell_at (254 + (i - 254))) == 20)
          (in_range 16 (λ r. same_word (word_of_store (254 + r)) (words.ToBalance 15) && (owner (cell_at (254 + r)) == 20)) (i - 254) fills_twenty (omega arith))

      index : 254 + (i - 254) ≡ i
      index = omega arith

      word_is : W ≡ words.ToBalance 15
      word_is = ap word_of_store (sym index) ∙ same_is (word_of_store (254 + (i - 254))) (words.ToBalance 15) both.0

      own : owner K ≡ 20
      own = ap (λ (n : ℕ). owner (cell_at n)) (sym index) ∙ eqb-true (owner (cell_at (254 + (i - 254)))) 20 both.1

      aside : IsPromised J g.names (stored_union (as_control b) K (encoded W))
      aside = aside_stored J g.names b.union (must_retire b.union K) (fresh_marks (as_control b)) K (encoded W)
          (λ z. let o = own in let bad : ⊥ = omega arith in bad)
          (λ j v e to. g.free (omega arith) j v e (to ∙ own))
          (λ e lasting is. let l = (g.balances e (owner K) is).1 in let o = own in let bad : ⊥ = omega arith in bad)
          (λ c e. no_ply c (sym (back ∙ word_is) ∙ e))
          g.promised

      still_free : (j v : ℕ) → Goes (stored_union (as_control b) K (encoded W)) j v → target v ≡ 20 → ⊥
      still_free j v e to = ⊎_elim
          (λ (old : Goes b.union j v). g.free (omega arith) j v old to)
          (λ (new : (j ≡ K) × (v ≡ encoded W)). let t : target (encoded W) ≡ 15 = target_of (encoded W) (words.ToBalance 15) (back ∙ word_is) in let same : target v ≡ target (encoded W) = ap target new.1 in let bad : ⊥ = omega arith in bad)
          (goes_stored (must_retire b.union K) (fresh_marks (as_control b)) b.union K (encoded W) j v e)

  -- into the root's cell 1
  beside : IsBeside b.union 1
  beside j v o e is same = subst (Fits forest (owner j)) is (g.stores.filled.copies j v e)

  here : 1 < length b.union.cells
  here = (let l = g.stores.long in omega arith)

  apart : (e : Prefix) → IsLasting J e → g.names.balance e ≡ Some 0 → ⊥
  apart e lasting is = (let l = (g.balances e 0 is).0 in omega arith)

  sends : decoded (encoded (words.ToBalance 15)) ≡ words.ToBalance 15 → IsPromised J g.names (stored_union (as_control b) 1 (encoded (words.ToBalance 15)))
  sends back = sent_promised J g.names b.union (must_retire b.union 1) (fresh_marks (as_control b)) 1 (encoded (words.ToBalance 15)) beside here apart g.promised 15 back g.right

  links : ((s : ℕ) → s < 16 → word_at b.union.cells 20 s ≡ words.ToBalance 15) → decoded (encoded (words.ToPly 20)) ≡ words.ToPly 20 → IsPromised J g.names (stored_union (as_control b) 1 (encoded (words.ToPly 20)))
  links filled back = linked_promised J g.names b.union (must_retire b.union 1) (fresh_marks (as_control b)) 1 (encoded (words.ToPly 20)) beside here apart g.promised 20 (words.ToBalance 15) back g.path (omega arith) no_ply g.right filled

-- the ply is filled before it is linked
filled_then : (b : Board) → IsGrowing 270 b → (s : ℕ) → s < 16 → word_at b.union.cells 20 s ≡ words.ToBalance 15
filled_then b g s lt = g.stores.says (16 * 20 + s) (omega arith)
    ∙ same_is (after_stores 270 (16 * 20 + s)) (words.ToBalance 15) (in_range 16 (λ t. same_word (after_stores 270 (16 * 20 + t)) (words.ToBalance 15)) s twenty_filled lt)

by_store : (i : ℕ) → 254 ≤ i → i < 272 → (i < 270) ⊎ ((i ≡ 270) ⊎ (i ≡ 271))
by_store i from lt = elim (cases_lt i 270) [
  | inl early ↦ inl early
  | inr late ↦ elim (cases_lt i 271) [ inl first ↦ inr (inl (omega arith)) | inr second ↦ inr (inr (omega arith)) ]
]

abbrev KeepsPromise : Board → Names → ℕ → Type 0
KeepsPromise b n i = IsPromised J n (stored_union (as_control b) (cell_at i) (encoded (word_of_store i)))

promise_kept : (i : ℕ) → 254 ≤ i → i < 272 → (b : Board) → (g : IsGrowing i b) → KeepsPromise b g.names i
promise_kept i from lt b g = elim (by_store i from lt) [
  | inl early ↦ aside i b g from lt early
  | inr late ↦ elim late [
    | inl first ↦ (let q : IsGrowing 270 b = subst (λ (n : ℕ). IsGrowing n b) first g in subst (KeepsPromise b g.names) (sym first) (links i b g (filled_then b q) (back 270 b q (omega arith) (omega arith))))
    | inr second ↦ (let q : IsGrowing 271 b = subst (λ (n : ℕ). IsGrowing n b) second g in subst (KeepsPromise b g.names) (sym second) (sends i b g (back 271 b q (omega arith) (omega arith))))
  ]
]

pub may_grow : (i : ℕ) → 254 ≤ i → i < 272 → (b : Board) → IsGrowing i b → MayStore b (cell_at i) (word_of_store i)
may_grow i from lt b g = fills.may i lt b g.all g.alone g.stores (allows i b g)
    (λ begun. (g.names, over_versions i b g b.union g.promised, over_versions i b g (stored_union (as_control b) (cell_at i) (encoded (word_of_store i))) (promise_kept i from lt b g)))

pub grown_then : (i : ℕ) → 254 ≤ i → i < 272 → (b c : Board) → IsGrowing i b → c ≡ board_stored b (cell_at i) (word_of_store i) → IsGrowing (i + 1) c
grown_then i from lt b c g is =
    let next : suc i ≡ i + 1 = omega arith in
    subst (λ (n : ℕ). IsGrowing n c) next (subst (IsGrowing (suc i)) (sym is) (record {
      log = g.log;
      all = g.all;
      alone = g.alone;
      stores = fills.stored_has i lt b g.all g.alone g.stores;
      free = λ more. still_free i b g from lt (omega arith);
      names = g.names;
      path = g.path;
      balances = g.balances;
      right = g.right;
      promised = promise_kept i from lt b g;
    }))
