-- Beneath a pass a number is stored into an object that no pass can reach, and cleared again: the stores of a change that touches nothing.
use Rattle.std.proofs.Common.{◌≡◌, inl, inr, ⊎_elim, ℕ, ◌+◌, ◌*◌, ◌/◌, ◌^◌, ◌<◌, true, false, List, [], ◌∷◌, length, refl, sym, ap, ◌∙◌, subst, arith, length-set}
use Rattle.std.specs.Prelude.{Bool, IfNone, None, Option, Some, is_some, if◌then◌else◌, slice_get, slice_index, slice_set, ◌&&◌}
use mathlib.Core.Logic.{dite}
use native.Mathlib.Decide.{ℕ_discrete}
use Rattle.std.specs.Set.{is_member}
use Rattle.std.proofs.lemmas.Bool.{false≢true}
use Rattle.std.proofs.lemmas.Map.Made.{is_member-Decides}
use Rattle.fib_addr.specs.Prefixes.{Prefix, same_prefix}
use Rattle.fib_addr.proofs.PrefixLaws.{same_prefix-Decides}
use Rattle.fib_resolve.specs.Pairs.{entries}
use Rattle.fib_resolve.specs.Tables.{IsSound, fresh}
use Rattle.fib_resolve.specs.declared.types.End.{End}
use Rattle.fib_resolve.specs.declared.types.Tables.{Tables}
use Rattle.fib_resolve.proofs.Sound.{sound_fresh}
use Rattle.fib_union.specs.Unions as edges
use Rattle.fib_union.specs.Unions.{owner}
use Rattle.fib_core.specs.declared.word.Word.{Word}
use Rattle.fib_core.specs.declared.word.Word.TheVariants as words
use Rattle.fib_core.specs.Words.{decoded, encoded, goes, target}
use Rattle.fib_core.specs.StandsFor.{IsCounted, StandsFor, Thing, balance_of}
use Rattle.fib_core.specs.Walk.{word_at}
use Rattle.fib_core.specs.Union.{AreEdges, Goes, Retired, Union, edges_of, must_retire, retire_if, scan_retired, scanned}
use Rattle.fib_core.proofs.Edges.{edge_is, goes_words}
use Rattle.fib_core.proofs.Numbers.{decoded_encoded, goes_of, target_of}
use Rattle.fib_core.proofs.Unions.{goes_stored}
use Rattle.fib_core_lawful.specs.State.{Log, begun, first_control, fresh_marks, stored_union}
use Rattle.fib_core_steady.specs.Names.{Names}
use Rattle.fib_core_steady.specs.Promise.{IsPromised}
use Rattle.fib_core_steady.specs.Undisturbed.{since}
use Rattle.fib_core_steady.proofs.Events.{asks_less, later_too}
use Rattle.fib_core_steady.proofs.Lists.{none_some, some_same}
use Rattle.fib_core_steady.proofs.Storing.{aside_stored}
use Rattle.fib_core_rule.specs.Change.{MayChange, MayPlace}
use Rattle.fib_core_rule.proofs.Named.{names_of}
use Rattle.fib_core_rule.proofs.Settled.{stands_since}
use Rattle.fib_core_board.specs.Boards.{Board, as_control, board_begun, board_stored}
use Rattle.fib_core_board.proofs.Serving.{clear_empties}
use Rattle.fib_core_board.specs.May.{IsReached, MayBegin, MayClear, MaySettle, MayStore}
use Rattle.trial_filling.specs.inner.Fresh.{number_of}
use Rattle.trial_filling.specs.inner.Filling.{HasNumber, IsChanging, IsReady, seven}
use Rattle.trial_filling.proofs.Forests.{set_else, set_there_is}
use Rattle.trial_filling.proofs.Freshly.{entries_are_prefixes, entry_low, low}

seven_back : decoded seven ≡ words.Plain 7
seven_back = decoded_encoded (words.Plain 7) (omega arith)

seven_stays : goes seven ≡ false
seven_stays = goes_of seven (words.Plain 7) seven_back

plain_no_ply : (w : Word) (c : ℕ) → w ≡ words.Plain 7 → w ≡ words.ToPly c → ⊥
plain_no_ply w c e f = cc

drop_no_ply : (w : Word) (c : ℕ) → w ≡ words.Drop → w ≡ words.ToPly c → ⊥
drop_no_ply w c e f = cc

drop_no_plain : (w : Word) → w ≡ words.Drop → w ≡ words.Plain 7 → ⊥
drop_no_plain w e f = cc

-- what is no edge isn't retired
none_retired : (keep b : Bool) (r : Retired) → b ≡ false → retire_if (keep && b) r [] ≡ []
none_retired true b r is = ap (λ (c : Bool). retire_if c r []) is
none_retired false b r is = refl

retired_by : (keep : Bool) (r : Retired) (rs : List Retired) → goes r.word ≡ false → rs ≡ [] → retire_if (keep && goes r.word) r rs ≡ []
retired_by keep r rs is none = ap (retire_if (keep && goes r.word) r) none ∙ none_retired keep (goes r.word) r is

-- the first version but one
pub begins_changing : (b c : Board) (next : Tables) → IsReady b → next ≡ fresh → c ≡ board_begun b next → IsChanging c
begins_changing b c next r same is = subst IsChanging (sym is) (record {
  log = (λ i. begun (r.first.log i) (same i));
  all = r.first.all;
  named = r.named;
  quiet = r.stands.quiet;
  long = r.stores.long;
  free = r.free;
})

pub ready_begins : (b : Board) (next : Tables) → IsReady b → next ≡ fresh → MayBegin b next
ready_begins b next r same = record {
  room = subst (λ (l : Log). l.version.applied + 1 < 2 ^ 32) (sym r.first.log) (omega arith);
  sound = subst IsSound (sym same) sound_fresh;
  first = λ z. r.stands;
}

-- passes go on
pub still_changing : (b c : Board) → IsChanging b → c.union ≡ b.union → c.log ≡ b.log → c.objects ≡ b.objects → IsChanging c
still_changing b c r union log all = record {
  log = log ∙ r.log;
  all = all ∙ r.all;
  named = subst (λ (u : Union). StandsFor u.cells number_of fresh) (sym union) r.named;
  quiet = ap (λ (u : Union). u.retired) union ∙ r.quiet;
  long = ap (λ (u : Union). length u.cells) union ∙ r.long;
  free = subst (λ (u : Union). (j v : ℕ) → Goes u j v → target v ≡ 20 → ⊥) (sym union) r.free;
}

pub still_numbered : (b c : Board) → HasNumber b → c.union ≡ b.union → c.log ≡ b.log → c.objects ≡ b.objects → HasNumber c
still_numbered b c r union log all = record { before = r.before; was = r.was; log = log ∙ r.log; all = all ∙ r.all; union = union ∙ r.union }

pub changing_settles : (b : Board) → IsChanging b → MaySettle b
changing_settles b r = record {
  tables = fresh;
  held = subst (λ (l : Log). slice_get l.history l.version.applied ≡ Some fresh) (sym r.log) refl;
  sound = sound_fresh;
  stands = record { names = number_of; prefixes = entries_are_prefixes; quiet = r.quiet; stands = r.named };
}

module _ (b : Board) (r : IsChanging b) where
  abbrev pub History : List Tables
  History = fresh ∷ fresh ∷ []

  -- the promise holds by the numbers
  abbrev pub names : Names
  names = names_of number_of fresh

  pub free_cells : (s : ℕ) → s < 16 → word_at b.union.cells 20 s ≡ words.Drop
  free_cells = ⊎_elim
      (λ (h : (x : Thing) × IsCounted fresh x × (number_of x ≡ 20)). absurd (let lt = low h.0 h.1 in let is = h.2 in let bad : ⊥ = omega arith in bad))
      (λ (drops : (s : ℕ) → s < 16 → word_at b.union.cells 20 s ≡ words.Drop). drops)
      (r.named.others 20 (let long = r.long in omega arith))

  empty : decoded (slice_index b.union.cells 320) ≡ words.Drop
  empty = free_cells 0 (omega arith)

  pub balances : (e : Prefix) (o : ℕ) → names.balance e ≡ Some o → (14 < o) × (o < 20)
  balances e o is = by_test (is_member same_prefix (entries fresh) e) refl
    where
      by_test : (t : Bool) → is_member same_prefix (entries fresh) e ≡ t → (14 < o) × (o < 20)
      by_test true there =
          let named : Some (number_of (balance_of e)) ≡ Some o = sym (ap (λ (t : Bool). if t then Some (number_of (balance_of e)) else None) there) ∙ is in
          subst (λ (n : ℕ). (14 < n) × (n < 20)) (some_same (number_of (balance_of e)) o (Some (number_of (balance_of e))) refl named) (entry_low e ((is_member-Decides same_prefix-Decides (entries fresh) e).0 there))
      by_test false there = absurd (none_some o (sym (ap (λ (t : Bool). if t then Some (number_of (balance_of e)) else None) there) ∙ is))

  unnamed : (e : Prefix) → names.balance e ≡ Some 20 → ⊥
  unnamed e is = (let lt = (balances e 20 is).1 in omega arith)

  pub promised : IsPromised History names b.union
  promised = asks_less (since History 1) (since History 0) (later_too History 0 1 (omega arith)) names b.union
      (stands_since History 1 fresh refl b.union number_of r.quiet r.named entries_are_prefixes 64 r.long)

  abbrev Then : Union
  Then = stored_union (as_control b) 320 seven

  promised_then : IsPromised History names Then
  promised_then = aside_stored History names b.union (must_retire b.union 320) (fresh_marks (as_control b)) 320 seven (omega arith) r.free (λ e lasting is. unnamed e is)
      (λ c is. plain_no_ply (decoded seven) c seven_back is) promised

  no_goes_seven : goes seven ≡ true → ⊥
  no_goes_seven is = false≢true (sym seven_stays ∙ is)

  place : MayPlace (as_control b) 320 (words.Plain 7)
  place = record {
    inside = (let all = r.all in omega arith);
    other = λ e. drop_no_plain (decoded (slice_index b.union.cells 320)) empty e;
    target = λ y e. absurd (no_goes_seven (edge_is seven y e).0);
    allowed = inl (subst (λ (l : Log). l.version.settled < l.version.applied) (sym r.log) (omega arith));
  }

  change : MayChange (as_control b) 320 (words.Plain 7)
  change = record {
    roomy = omega arith;
    root = λ z. absurd (let bad : ⊥ = omega (arith, z) in bad);
    form = λ j v g e. absurd (r.free j v g e);
    whole = λ j v o g is e. r.free j v g (target_of v (words.ToAdjacency o) is ∙ sym e);
    edge = λ is. absurd (no_goes_seven is);
    end = tt;
    drops = λ z. absurd (let one : b.log.version.applied ≡ 1 = ap (λ (l : Log). l.version.applied) r.log in let bad : ⊥ = omega arith in bad);
    steady = λ begun. (
      names,
      subst (λ (l : Log). IsPromised (since l.history l.version.settled) names b.union) (sym r.log) promised,
      subst (λ (l : Log). IsPromised (since l.history l.version.settled) names Then) (sym r.log) promised_then,
    );
    rooted = record {
      links = λ c is. absurd (plain_no_ply (decoded seven) c seven_back is);
      unlinks = λ c is. absurd (drop_no_ply (decoded (slice_index b.union.cells 320)) c empty is);
    };
  }

  pub may_number : MayStore b 320 (words.Plain 7)
  may_number = record {
    place = place;
    seen = λ reached. change;
    aside = λ is. absurd (drop_no_plain (words.Plain 7) is refl);
  }

pub numbered : (b c : Board) → IsChanging b → c ≡ board_stored b 320 (words.Plain 7) → HasNumber c
numbered b c r is = subst HasNumber (sym is) (record { before = b; was = r; log = refl; all = r.all; union = refl })

-- the number is cleared
module _ (b : Board) (h : HasNumber b) where
  abbrev Old : Board
  Old = h.before

  abbrev With : Union
  With = stored_union (as_control Old) 320 seven

  there : slice_index With.cells 320 ≡ seven
  there = set_there_is Old.union.cells 320 seven (let long = h.was.long in omega arith)

  none_left : With.retired ≡ []
  none_left = retired_by (must_retire Old.union 320) (record { cell = 320; word = slice_index Old.union.cells 320; marks = fresh_marks (as_control Old) }) Old.union.retired
      (goes_of (slice_index Old.union.cells 320) words.Drop (empty Old h.was)) h.was.quiet

  none_leads : (j v : ℕ) → Goes With j v → target v ≡ 20 → ⊥
  none_leads j v g e = ⊎_elim
      (λ (old : Goes Old.union j v). h.was.free j v old e)
      (λ (new : (j ≡ 320) × (v ≡ seven)). no_goes_seven Old h.was (ap goes (sym new.1) ∙ g.0))
      (goes_stored (must_retire Old.union 320) (fresh_marks (as_control Old)) Old.union 320 seven j v g)

  none_reached : edges.HasIn (edges_of With) 20 → ⊥
  none_reached (k, g) = (let q = goes_words With (subst AreEdges (sym none_left) tt) k 20 g in none_leads k q.0 q.2 q.1)

  log_is : b.log ≡ begun (first_control 64 1).log fresh
  log_is = h.log ∙ h.was.log

  clear : MayClear b 20
  clear begun = (
    names Old h.was,
    subst (λ (x : Union × Log). IsPromised (since x.1.history x.1.version.settled) (names Old h.was) x.0) (λ i. (sym h.union i, sym log_is i)) (promised_then Old h.was),
    λ e lasting is. unnamed Old h.was e is,
  )

  not_seen : IsReached b 20 → ⊥
  not_seen (inl z) = omega (arith, z)
  not_seen (inr g) = none_reached (subst (λ (u : Union). edges.HasIn (edges_of u) 20) h.union g)

  zero_code : encoded words.Drop ≡ 0
  unfolding encoded
  zero_code = refl

  zero_stays : goes (encoded words.Drop) ≡ false
  zero_stays = goes_of (encoded words.Drop) words.Drop (decoded_encoded words.Drop tt)

  pub may_clear : MayStore b 320 words.Drop
  may_clear = record {
    place = record {
      inside = (let all = h.all in omega arith);
      other = λ e. drop_no_plain words.Drop refl (sym e ∙ ap decoded (ap (λ (u : Union). slice_index u.cells 320) h.union ∙ there) ∙ seven_back);
      target = λ y e. absurd (false≢true (sym zero_stays ∙ (edge_is (encoded words.Drop) y e).0));
      allowed = inl (subst (λ (l : Log). l.version.settled < l.version.applied) (sym log_is) (omega arith));
    };
    seen = λ reached. absurd (not_seen (reached refl));
    aside = λ is far. clear_empties b 320 far clear;
  }

  -- then all is as it was
  abbrev Last : Union
  Last = stored_union (as_control b) 320 (encoded words.Drop)

  same_words : (k : ℕ) → decoded (slice_index (slice_set (slice_set Old.union.cells 320 seven) 320 (encoded words.Drop)) k) ≡ decoded (slice_index Old.union.cells k)
  same_words k = dite (ℕ_discrete k 320)
      (λ same. ap decoded (ap (slice_index (slice_set (slice_set Old.union.cells 320 seven) 320 (encoded words.Drop))) same
      ∙ set_there_is (slice_set Old.union.cells 320 seven) 320 (encoded words.Drop) (let long = h.was.long in let l = length-set Old.union.cells 320 seven in omega arith))
      ∙ decoded_encoded words.Drop tt ∙ sym (empty Old h.was) ∙ ap (λ i. decoded (slice_index Old.union.cells i)) (sym same))
      (λ ne. ap decoded (set_else (slice_set Old.union.cells 320 seven) 320 k (encoded words.Drop) ne ∙ set_else Old.union.cells 320 k seven ne))

  pub cleared : (c : Board) → c ≡ board_stored b 320 words.Drop → IsChanging c
  cleared c is = subst IsChanging (sym is) (record {
    log = log_is;
    all = h.all;
    named = as_named;
    quiet = retired_by (must_retire b.union 320) (record { cell = 320; word = slice_index b.union.cells 320; marks = fresh_marks (as_control b) }) b.union.retired
        (ap goes (ap (λ (u : Union). slice_index u.cells 320) h.union ∙ there) ∙ seven_stays) (ap (λ (u : Union). u.retired) h.union ∙ none_left);
    long = length-set b.union.cells 320 (encoded words.Drop) ∙ ap (λ (u : Union). length u.cells) h.union ∙ length-set Old.union.cells 320 seven ∙ h.was.long;
    free = λ j v g e. ⊎_elim
        (λ (old : Goes b.union j v). none_leads j v (subst (λ (u : Union). Goes u j v) h.union old) e)
        (λ (new : (j ≡ 320) × (v ≡ encoded words.Drop)). false≢true (sym zero_stays ∙ ap goes (sym new.1) ∙ g.0))
        (goes_stored (must_retire b.union 320) (fresh_marks (as_control b)) b.union 320 (encoded words.Drop) j v g);
  })
    where
      cells_are : slice_set b.union.cells 320 (encoded words.Drop) ≡ slice_set (slice_set Old.union.cells 320 seven) 320 (encoded words.Drop)
      cells_are = ap (λ (u : Union). slice_set u.cells 320 (encoded words.Drop)) h.union

      words_are : (k : ℕ) → decoded (slice_index (slice_set b.union.cells 320 (encoded words.Drop)) k) ≡ decoded (slice_index Old.union.cells k)
      words_are k = ap (λ cs. decoded (slice_index cs k)) cells_are ∙ same_words k

      lengths : length (slice_set b.union.cells 320 (encoded words.Drop)) ≡ length Old.union.cells
      lengths = ap length cells_are ∙ length-set (slice_set Old.union.cells 320 seven) 320 (encoded words.Drop) ∙ length-set Old.union.cells 320 seven

      as_named : StandsFor (slice_set b.union.cells 320 (encoded words.Drop)) number_of fresh
      as_named =
          let was = h.was.named in
          record {
            root = was.root;
            there = λ x counted. subst (λ n. number_of x < n / 16) (sym lengths) (was.there x counted);
            apart = was.apart;
            holds = λ x s counted small. words_are (16 * number_of x + s) ∙ was.holds x s counted small;
            others = λ o lt. ⊎_elim
                (λ (q : (x : Thing) × IsCounted fresh x × (number_of x ≡ o)). inl q)
                (λ (drops : (s : ℕ) → s < 16 → word_at Old.union.cells o s ≡ words.Drop). inr (λ s small. words_are (16 * o + s) ∙ drops s small))
                (was.others o (subst (λ n. o < n / 16) lengths lt));
          }

-- a look where nothing is retired
pub looked_same : (u : Union) (n found : ℕ) → u.retired ≡ [] → scanned u n found ≡ u
looked_same u n found none = ap (λ rs. record { cells = u.cells; retired = rs }) (ap (scan_retired n found) none ∙ sym none)

-- a hop that answered nothing
pub none_of : (r : Option End) (P : Type 0) → is_some r ≡ false → IfNone r P → P
none_of None P is p = p
none_of (Some e) P is p = absurd (false≢true (sym is))
