-- What a put asks, on a board on which nothing has been changed yet.
use Rattle.std.proofs.Common.{arith, ◌≡◌, ◌≢◌, ◌≤◌, ◌<◌, inl, inr, ⊎_elim, ℕ, zero, suc, ◌+◌, ◌*◌, ◌/◌, ◌%◌, List, [], length, Option, Some, refl, sym, ap, ◌∙◌, subst, get_or-set_same, get_or-set_other, true≢false}
use Rattle.std.specs.Prelude.{slice_index, slice_set}
use native.Mathlib.Decide.{ℕ_discrete}
use mathlib.Core.Logic.{dite}
use Rattle.fib_addr.specs.Prefixes.{nibble}
use Rattle.fib_reach.specs.Walks.{Leads}
use Rattle.fib_resolve.specs.declared.types.End.TheVariants as answers
use Rattle.fib_union.specs.Unions as edges
use Rattle.fib_union.specs.Unions.{owner, Edge, no_edges}
use Rattle.fib_union.proofs.Stores.{some_none}
use Rattle.fib_core.specs.declared.word.Word.{Word}
use Rattle.fib_core.specs.declared.word.Word.TheVariants as words
use Rattle.fib_core.specs.Words.{encoded, decoded, goes, target}
use Rattle.fib_core.specs.Walk.{root, from_ply, after, end_at, walk, word_at}
use Rattle.fib_core.specs.Union as unions
use Rattle.fib_core.specs.Union.{HasForm}
use Rattle.fib_base_interned.specs.Interned.{Kept}
use Rattle.fib_pool.specs.declared.object.Object.{Object}
use Rattle.fib_pool.specs.declared.object.AdjacencyRecord.{AdjacencyRecord}
use Rattle.fib_core.proofs.Numbers.{decoded_encoded, goes-zero, target_of}
use Rattle.fib_core.proofs.Walks.{after_ended}
use Rattle.fib_core_lawful.specs.State.{first_control}
use Rattle.fib_core_lawful.specs.May.{IsFilling}
use Rattle.fib_core_lawful.proofs.Begins.{falses}
use Rattle.fib_core_steady.proofs.Blocks.{nibble_small}
use Rattle.fib_core_rule.specs.May as events
use Rattle.fib_core_rule.proofs.Example.{first_store}
use Rattle.fib_core_board.specs.Boards.{Board, Pass, board_of, union_of, word_in}
use Rattle.fib_core_board.specs.May.{Allows, MayChange}
use Rattle.fib_core_board.proofs.Serving.{drop_zero, edge_drop, edge_some}
use Rattle.fib_plane.specs.Planes.{Plane}
use Rattle.fib_plane.specs.Puts.{Closes, MayPut}
use Rattle.fib_plane.specs.Sound.{IsPlane}
use Rattle.fib_plane.proofs.Beginning.{map_zero, no_goes}

not_before : (n : ℕ) → n ≡ 0 → 0 < n → ⊥
not_before n z lt = omega arith

no_drop : (o : ℕ) → words.ToBalance o ≡ words.Drop → ⊥
no_drop o e = cc

no_ply : (o c : ℕ) (w : Word) → w ≡ words.ToBalance o → w ≡ words.ToPly c → ⊥
no_ply o c w e f = cc

drop_no_ply : (c : ℕ) (w : Word) → w ≡ words.Drop → w ≡ words.ToPly c → ⊥
drop_no_ply c w e f = cc

module _ (id : List ℕ) (passes : List (Option Pass)) (objects workers : ℕ) (some : 1 < objects) where
  abbrev Fresh : Board
  Fresh = board_of id [] passes (first_control objects workers)

  may : events.MayStore (first_control objects workers) 0 (encoded (words.ToBalance 1))
  may = first_store objects some workers

  back : decoded (encoded (words.ToBalance 1)) ≡ words.ToBalance 1
  back = decoded_encoded (words.ToBalance 1) (omega arith)

  first_change : MayChange Fresh 0 (words.ToBalance 1)
  first_change = record {
    roomy = omega arith;
    root = λ z. inl tt;
    form = λ j v g e. subst (HasForm (decoded v) (0 % 16)) back (may.lawful.form j v g e);
    whole = may.lawful.whole;
    edge = λ going. (let l = may.lawful.edge going in record {
      away = l.away;
      one_tag = l.one_tag;
      formed = l.formed;
      plies = l.plies;
      shallow = l.shallow;
      others = l.others;
    });
    end = tt;
    drops = λ z a h flow. ⊎_elim
        (λ (lt : 0 < 0). absurd (not_before 0 refl lt))
        (λ (q : IsFilling Fresh.union Fresh.log Fresh.out 0 (encoded (words.ToBalance 1))). q.drops a h flow)
        may.lawful.during;
    steady = may.steady;
    rooted = may.rooted;
  }

  fresh_union : union_of Fresh ≡ no_edges objects
  fresh_union = ap (λ (es : List (Option ℕ)). record { edges = es; retired = [] }) (map_zero (16 * objects))

  none_closes : Closes Fresh 0 (words.ToBalance 1) → ⊥
  none_closes (y, e, l) =
      let one : Some y ≡ Some 1 = sym e ∙ edge_some (words.ToBalance 1) (omega arith) refl in
      let is : y ≡ 1 = cc in
      by_length y is (subst (λ (u : edges.Union). Leads (Edge u) y 0) fresh_union l)
    where
      by_length : (y : ℕ) → y ≡ 1 → Leads (Edge (no_edges objects)) y 0 → ⊥
      by_length y is (zero, same) = omega arith
      by_length y is (suc n, w) = no_goes objects w.1.0 w.0 w.1.2

  fresh_put : (objs : List (Option Object)) (rows : List (Kept AdjacencyRecord)) (spare : ℕ) → MayPut (record { board = Fresh; objects = objs; records = rows; spare = spare }) 0 (words.ToBalance 1)
  fresh_put objs rows spare = record {
    allowed = inr (refl, falses 8);
    roomy = omega arith;
    seen = λ other far f. first_change;
    dropped = λ closes. absurd (none_closes closes);
    aside = λ other either. absurd (⊎_elim (λ (e : words.ToBalance 1 ≡ words.Drop). no_drop 1 e) none_closes either);
    serves = λ z puts other begun. absurd (not_before 0 refl begun);
  }

  pub first_put : (p : Plane) → p.board ≡ board_of id [] passes (first_control objects workers) → MayPut p 0 (words.ToBalance 1)
  first_put p is = subst (λ (q : Board). MayPut (record { board = q; objects = p.objects; records = p.records; spare = p.spare }) 0 (words.ToBalance 1)) (sym is) (fresh_put p.objects p.records p.spare)

-- the root's only edge leaves
module _ (p : Plane) (o : ℕ) (told : IsPlane p) (allowed : Allows p.board) (none : p.board.log.version.applied ≡ 0) (edge : word_in p.board 0 ≡ words.ToBalance o) (rest : (s : ℕ) → s < 16 → s ≢ 0 → word_in p.board s ≡ words.Drop) where
  abbrev Emptied : List ℕ
  Emptied = slice_set p.board.union.cells 0 (encoded words.Drop)

  small : 0 < length p.board.union.cells
  small = (let l = told.board.long in let m = told.board.limits.least in omega arith)

  back_drop : decoded (encoded words.Drop) ≡ words.Drop
  back_drop = decoded_encoded words.Drop tt

  root_drops : (s : ℕ) → s < 16 → word_at Emptied 0 s ≡ words.Drop
  root_drops s lt =
      ap (λ (n : ℕ). decoded (slice_index Emptied n)) (let e : 16 * 0 + s ≡ s = omega arith in e)
      ∙ dite (ℕ_discrete s 0)
      (λ z. ap (λ (n : ℕ). decoded (slice_index Emptied n)) z ∙ ap decoded (get_or-set_same p.board.union.cells 0 (encoded words.Drop) 0 small) ∙ back_drop)
      (λ ne. ap decoded (get_or-set_other p.board.union.cells 0 s (encoded words.Drop) 0 ne) ∙ rest s lt ne)

  steps : (a h m : ℕ) → end_at (after Emptied a h (suc m) root) ≡ answers.Drop
  steps a h m = ap (λ (w : Word). end_at (after Emptied a h m (from_ply 0 w))) (root_drops (nibble a 0) (nibble_small a 0)) ∙ ap end_at (after_ended Emptied a h m answers.Drop)

  walks : (a h : ℕ) → walk Emptied a h ≡ answers.Drop
  unfolding walk
  walks a h = by_count (length Emptied / 16 + 1) (omega arith)
    where
      by_count : (n : ℕ) → 1 ≤ n → end_at (after Emptied a h n root) ≡ answers.Drop
      by_count zero le = absurd (omega arith)
      by_count (suc m) le = steps a h m

  rootless : (j v : ℕ) → unions.Goes p.board.union j v → target v ≡ owner 0 → ⊥
  rootless j v g e = told.board.typed.rootless j v g e

  empty_change : MayChange p.board 0 words.Drop
  empty_change = record {
    roomy = tt;
    root = λ z. inr refl;
    form = λ j v g e. absurd (rootless j v g e);
    whole = λ j v y g is same. rootless j v g (target_of v (words.ToAdjacency y) is ∙ sym same);
    edge = λ going. absurd (true≢false (sym going ∙ (ap goes drop_zero ∙ goes-zero)));
    end = tt;
    drops = λ z a h flow. walks a h;
    steady = λ begun. absurd (not_before p.board.log.version.applied none begun);
    rooted = record {
      links = λ c is. absurd (drop_no_ply c (decoded (encoded words.Drop)) back_drop is);
      unlinks = λ c is. absurd (no_ply o c (word_in p.board 0) edge is);
    };
  }

  no_cycle : Closes p.board 0 words.Drop → ⊥
  no_cycle (y, e, l) = some_none y (sym edge_drop ∙ e)

  pub empty_put : MayPut p 0 words.Drop
  empty_put = record {
    allowed = allowed;
    roomy = tt;
    seen = λ other far f. empty_change;
    dropped = λ closes. absurd (no_cycle closes);
    aside = λ other either away. absurd (away (inl refl));
    serves = λ z puts other begun. absurd (not_before p.board.log.version.applied none begun);
  }
