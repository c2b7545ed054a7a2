-- Numbers in the cells of an object that was just taken.
use Rattle.std.proofs.Common.{arith, ◌≡◌, ◌≢◌, ℕ, ◌+◌, ◌-◌, ◌*◌, ◌<◌, ◌≤◌, ◌^◌, inl, inr, true, false, true≢false, Bool, List, length, Option, Some, None, refl, sym, ◌∙◌, ap, subst, zero, suc, get_or-set_same, get_or-set_other, length-set}
use Rattle.std.specs.Prelude.{◌==◌, IfSome, IsSome, option_map, if◌then◌else◌, slice_index, slice_set}
use Rattle.std.proofs.lemmas.Bool.{cases_eq}
use Rattle.std.proofs.lemmas.Bool.Decides.{nat_tests}
use Rattle.fib_base_interned.specs.Interned as interned
use Rattle.fib_resolve.specs.Tables.{fresh}
use Rattle.fib_resolve.specs.declared.types.End.TheVariants as answers
use Rattle.fib_union.specs.Unions as edges
use Rattle.fib_union.specs.Unions.{owner, Edge, one, into, must_retire, left_at_once}
use Rattle.fib_union.proofs.Stores.{some_none}
use Rattle.fib_core.specs.declared.word.Word.{Word}
use Rattle.fib_core.specs.declared.word.Word.TheVariants as words
use Rattle.fib_core.specs.Words.{IsRoomy, encoded, decoded}
use Rattle.fib_core.specs.Walk.{IsFlow, walk}
use Rattle.fib_core.specs.StandsFor.{mac_word}
use Rattle.fib_core.proofs.Numbers.{decoded_encoded, goes_of, target_of}
use Rattle.fib_core.proofs.Unions.{none_counted}
use Rattle.fib_core.specs.Union as unions
use Rattle.fib_core_lawful.specs.State.{fresh_marks}
use Rattle.fib_core_lawful.proofs.Fresh.{fresh_drops}
use Rattle.fib_core_steady.proofs.Storing.{aside_stored}
use Rattle.fib_core_rule.specs.Steady.{versions}
use Rattle.fib_core_rule.proofs.Aside.{walk_aside}
use Rattle.fib_core_rule.proofs.Steps.{zero_version}
use Rattle.fib_pool.specs.declared.object.Kind.TheVariants as kinds
use Rattle.fib_pool.specs.declared.object.Object.{Object}
use Rattle.fib_pool.specs.declared.object.AdjacencyRecord.{AdjacencyRecord}
use Rattle.fib_pool.specs.Objects.{at, count_in, count_of, with_count, as_new, TookObject, IsLive}
use Rattle.fib_pool.specs.Records.{AreAdjacencies, IsKeptAs}
use Rattle.fib_pool.proofs.Pools.{none_some}
use Rattle.fib_core_board.specs.Boards.{Board, as_control, edge_of, union_of, word_in, board_stored}
use Rattle.fib_core_board.specs.May.{Allows, MayChange, MayStore, HoldsPromise}
use Rattle.fib_core_board.specs.Told.{IsBoard}
use Rattle.fib_core_board.proofs.Serving.{edge_none, edge_at_drop, serves_held}
use Rattle.fib_plane.specs.Planes.{Plane, IsHeld, released, counted_more, uncounted}
use Rattle.fib_plane.specs.Sound.{AreRecords, IsInRange, record_word}
use Rattle.fib_plane.specs.Records.{board_filled, given_objects}
use Rattle.fib_plane.specs.inner.Joined.{IsIdle, IsAtRest, HoldsBut}
use Rattle.fib_plane.proofs.Boarding.{leaves, left_is, into_stored, word_same, word_other}
use Rattle.fib_plane.proofs.Storing.{stored_joined, stored_acyclic, owner_is}
use Rattle.fib_plane.proofs.Resting.{live_in, taken_plane}
use Rattle.fib_plane.proofs.Recording.{records_given, records_released, records_shared, given_last}

no_ply : (n c : ℕ) (w : Word) → w ≡ words.Plain n → w ≡ words.ToPly c → ⊥
no_ply n c w e f = cc

not_both : (c : ℕ) (w : Word) → w ≡ words.Drop → w ≡ words.ToPly c → ⊥
not_both c w e f = cc

no_drop : (n : ℕ) → words.Drop ≡ words.Plain n → ⊥
no_drop n e = cc

module _ (b : Board) (u : edges.Kept) (xs : List (Option Object)) (o s n : ℕ) (idle : IsIdle b u xs o) (told : IsBoard b) (small : s < 16) (few : n < 2 ^ 56) (empty : word_in b (16 * o + s) ≡ words.Drop) where
  abbrev k : ℕ
  k = 16 * o + s

  abbrev w : Word
  w = words.Plain n

  own : owner k ≡ o
  own = owner_is o s small

  inside : k < 16 * b.objects
  inside = (let i = live_in b u xs idle.joined o idle.live in omega arith)

  here : k < length b.union.cells
  here = (let i = inside in let l = idle.joined.long in omega arith)

  other : owner k ≢ 0
  other z = idle.other (sym own ∙ z)

  none : into (union_of b) (owner k) ≡ 0
  none = ap (λ (q : ℕ). into (union_of b) q) own ∙ idle.alone

  back : decoded (encoded w) ≡ w
  back = decoded_encoded w few

  no_edge : edge_of w ≡ None
  no_edge = edge_none w few refl

  pub set_none : left_at_once (union_of b) k ≡ None
  set_none = left_is b k other none ∙ edge_at_drop (slice_index b.union.cells k) empty

  pub set_spares : must_retire (union_of b) k ≡ false
  set_spares = leaves b k other none

  still_drops : b.log.version.applied ≡ 0 → (a h : ℕ) → IsFlow a h → walk (slice_set b.union.cells k (encoded w)) a h ≡ answers.Drop
  still_drops z a h flow =
      walk_aside b.union k (encoded w) a h other (none_counted b.union (owner k) none)
      ∙ (told.settled 0 fresh (zero_version b.log.version told.history.order z) told.history.first).answers a h flow
      ∙ fresh_drops a h

  change : MayChange b k w
  change = record {
    roomy = few;
    root = λ z. absurd (other z);
    form = λ j v g e. absurd (none_counted b.union (owner k) none j v g e);
    whole = λ j v y g is same. none_counted b.union (owner k) none j v g (target_of v (words.ToAdjacency y) is ∙ sym same);
    edge = λ going. absurd (true≢false (sym going ∙ goes_of (encoded w) w back));
    end = tt;
    drops = still_drops;
    steady = λ begun. (let names = idle.serves begun in (
      names.0,
      names.1,
      aside_stored (versions b.log) names.0 b.union (unions.must_retire b.union k) (fresh_marks (as_control b)) k (encoded w) other (none_counted b.union (owner k) none)
          (λ e lasting is. (names.2 e (owner k) lasting is).1 own) (λ c is. no_ply n c (decoded (encoded w)) back is) names.1,
    ));
    rooted = record {
      links = λ c is. absurd (no_ply n c (decoded (encoded w)) back is);
      unlinks = λ c is. absurd (not_both c (word_in b k) empty is);
    };
  }

  pub number_may : MayStore b k w
  number_may = record {
    place = record {
      inside = inside;
      other = λ e. no_drop n (sym empty ∙ e);
      target = λ y e. absurd (some_none y (sym no_edge ∙ e));
      allowed = idle.allowed;
    };
    seen = λ f. change;
    aside = λ is away. absurd (no_drop n (sym is));
  }

  pub into_same : (z : ℕ) → into (union_of (board_stored b k w)) z ≡ into (union_of b) z
  into_same z =
      let i = into_stored b k w z here in
      let l : ◌≡◌ {A = ℕ} (one z (left_at_once (union_of b) k)) 0 = ap (one z) set_none in
      let e : ◌≡◌ {A = ℕ} (one z (edge_of w)) 0 = ap (one z) no_edge in
      omega arith

  source : IsLive xs (owner k)
  source = subst (λ (q : ℕ). IsLive xs q) (sym own) idle.live

  target : (y : ℕ) → edge_of w ≡ Some y → IsLive xs y
  target y e = absurd (some_none y (sym no_edge ∙ e))

  same_pool : xs ≡ uncounted (left_at_once (union_of b) k) (counted_more (edge_of w) xs)
  same_pool = sym (ap (λ (e : Option ℕ). uncounted e (counted_more (edge_of w) xs)) set_none ∙ ap (λ (e : Option ℕ). counted_more e xs) no_edge)

  held_same : (z : ℕ) → HoldsBut b xs o z → HoldsBut (board_stored b k w) xs o z
  held_same z h = (let i = into_same z in let held = h.0 in (omega arith, h.1))

  served : HoldsPromise (board_stored b k w) (HoldsBut (board_stored b k w) xs o)
  served = serves_held (board_stored b k w) (HoldsBut b xs o) (HoldsBut (board_stored b k w) xs o) held_same
      (λ begun. (let names = idle.serves begun in (
        names.0,
        aside_stored (versions b.log) names.0 b.union (unions.must_retire b.union k) (fresh_marks (as_control b)) k (encoded w) other (none_counted b.union (owner k) none)
            (λ e lasting is. (names.2 e (owner k) lasting is).1 own) (λ c is. no_ply n c (decoded (encoded w)) back is) names.1,
        names.2,
      )))

  pub number_idle : (c : Board) (v : edges.Kept) → c ≡ board_stored b k w → v.union ≡ edges.stored u.workers u.union k None → v.workers ≡ u.workers → v.left ≡ u.left → length v.union.retired < 4294967296 → IsIdle c v xs o
  number_idle c v is union workers left short = subst (λ (q : Board). IsIdle q v xs o) (sym is) (record {
    joined = stored_joined b u xs idle.joined k w here source target (board_stored b k w) v xs refl same_pool (union ∙ ap (λ (e : Option ℕ). edges.stored u.workers u.union k e) (sym no_edge)) workers left short;
    acyclic = stored_acyclic b u xs idle.joined k w idle.acyclic (λ q. some_none q.0 (sym no_edge ∙ q.1));
    live = idle.live;
    other = idle.other;
    alone = into_same o ∙ idle.alone;
    allowed = idle.allowed;
    serves = served;
  })

-- just after the object was taken
module _ (b : Board) (u : edges.Kept) (xs ys : List (Option Object)) (rows : List (interned.Kept AdjacencyRecord)) (ds : List ℕ) (room o : ℕ) (p : IsAtRest b u xs rows ds room) (taken : TookObject xs ys o kinds.Adjacency) where
  free : count_of xs o ≡ 0
  free = ap count_in taken.free

  apart_root : o ≢ 0
  apart_root z = (let r = p.joined.root in let c : count_of xs 0 ≡ count_of xs o = ap (λ (q : ℕ). count_of xs q) (sym z) in let f = free in absurd (let bad : ⊥ = omega arith in bad))

  alone : into (union_of b) o ≡ 0
  alone = (let l = (p.joined.counted o).least in let f = free in omega arith)

  at_new : at ys o ≡ as_new kinds.Adjacency
  at_new = ap (λ (zs : List (Option Object)). at zs o) taken.taken ∙ get_or-set_same xs o (as_new kinds.Adjacency) None taken.inside

  still_held : (z : ℕ) → IsHeld b xs z → HoldsBut b ys o z
  still_held z held =
      let apart : z ≢ o = λ same. (let c : count_of xs z ≡ count_of xs o = ap (λ (q : ℕ). count_of xs q) same in let f = free in absurd (let bad : ⊥ = omega arith in bad)) in
      let c : count_of ys z ≡ count_of xs z = ap (λ (zs : List (Option Object)). count_of zs z) taken.taken ∙ ap count_in (get_or-set_other xs o z (as_new kinds.Adjacency) None apart) in
      (omega arith, apart)

  with_new : IsAtRest b u ys rows ds room
  with_new = subst (λ (zs : List (Option Object)). IsAtRest b u zs rows ds room) (sym taken.taken) (taken_plane b u xs rows ds room p o kinds.Adjacency taken.inside taken.free)

  pub fresh_idle : Allows b → HoldsPromise b (IsHeld b xs) → IsIdle b u ys o
  fresh_idle allowed serves = record {
    joined = with_new.joined;
    acyclic = p.acyclic;
    live = (let c : count_of ys o ≡ 1 = ap count_in at_new in omega arith);
    other = apart_root;
    alone = alone;
    allowed = allowed;
    serves = serves_held b (IsHeld b xs) (HoldsBut b ys o) still_held serves;
  }

  pub fresh_empty : (s : ℕ) → s < 16 → word_in b (16 * o + s) ≡ words.Drop
  fresh_empty s lt = p.joined.free (16 * o + s) (ap (λ (q : ℕ). at xs q) (owner_is o s lt) ∙ taken.free)

-- the words of a filled object
module _ (b : Board) (o : ℕ) (r : AdjacencyRecord) (long : 16 * o + 16 ≤ length b.union.cells) (interface : r.interface < 2 ^ 32) (next_hop : r.next_hop < 2 ^ 32) (mac : IsRoomy (mac_word r.mac)) where
  abbrev one_in : Board
  one_in = board_stored b (16 * o + 0) (words.Plain r.interface)

  abbrev two_in : Board
  two_in = board_stored one_in (16 * o + 1) (words.Plain r.next_hop)

  pub filled_else : (k : ℕ) → owner k ≢ o → word_in (board_filled b o r) k ≡ word_in b k
  filled_else k ne =
      word_other two_in (16 * o + 2) k (mac_word r.mac) (λ e. ne (ap owner e ∙ owner_is o 2 (omega arith)))
      ∙ word_other one_in (16 * o + 1) k (words.Plain r.next_hop) (λ e. ne (ap owner e ∙ owner_is o 1 (omega arith)))
      ∙ word_other b (16 * o + 0) k (words.Plain r.interface) (λ e. ne (ap owner e ∙ owner_is o 0 (omega arith)))

  pub filled_words : ((s : ℕ) → s < 16 → word_in b (16 * o + s) ≡ words.Drop) → (s : ℕ) → s < 16 → word_in (board_filled b o r) (16 * o + s) ≡ record_word r s
  filled_words empty zero lt =
      word_other two_in (16 * o + 2) (16 * o + 0) (mac_word r.mac) (λ e. absurd (let bad : ⊥ = omega arith in bad))
      ∙ word_other one_in (16 * o + 1) (16 * o + 0) (words.Plain r.next_hop) (λ e. absurd (let bad : ⊥ = omega arith in bad))
      ∙ word_same b (16 * o + 0) (words.Plain r.interface) (omega arith) (omega arith)
  filled_words empty (suc zero) lt =
      word_other two_in (16 * o + 2) (16 * o + 1) (mac_word r.mac) (λ e. absurd (let bad : ⊥ = omega arith in bad))
      ∙ word_same one_in (16 * o + 1) (words.Plain r.next_hop) (omega arith) (let l = long_one in omega arith)
    where
      long_one : length one_in.union.cells ≡ length b.union.cells
      long_one = length-set b.union.cells (16 * o + 0) (encoded (words.Plain r.interface))
  filled_words empty (suc (suc zero)) lt = word_same two_in (16 * o + 2) (mac_word r.mac) mac (let l = long_two in omega arith)
    where
      long_two : length two_in.union.cells ≡ length b.union.cells
      long_two = length-set one_in.union.cells (16 * o + 1) (encoded (words.Plain r.next_hop)) ∙ length-set b.union.cells (16 * o + 0) (encoded (words.Plain r.interface))
  filled_words empty (suc (suc (suc s))) lt =
      word_other two_in (16 * o + 2) (16 * o + suc (suc (suc s))) (mac_word r.mac) (λ e. absurd (let bad : ⊥ = omega arith in bad))
      ∙ word_other one_in (16 * o + 1) (16 * o + suc (suc (suc s))) (words.Plain r.next_hop) (λ e. absurd (let bad : ⊥ = omega arith in bad))
      ∙ word_other b (16 * o + 0) (16 * o + suc (suc (suc s))) (words.Plain r.interface) (λ e. absurd (let bad : ⊥ = omega arith in bad))
      ∙ empty (suc (suc (suc s))) lt

-- a fresh record
pub records_fresh : (b c : Board) (xs ys : List (Option Object)) (rows new : List (interned.Kept AdjacencyRecord)) (o : ℕ) (r : AdjacencyRecord) → AreRecords b xs rows → interned.Takes rows new r o → TookObject xs ys o kinds.Adjacency → AreAdjacencies new ys
    → ((z : ℕ) → into (union_of c) z ≡ into (union_of b) z) → into (union_of b) o ≡ 0 → o ≢ 0 → ((k : ℕ) → owner k ≢ o → word_in c k ≡ word_in b k) → ((s : ℕ) → s < 16 → word_in c (16 * o + s) ≡ record_word r s) → IsInRange r → AreRecords c ys new
records_fresh b c xs ys rows new o r ok takes taken adjacencies same none other beside filled range = record {
  adjacencies = adjacencies;
  other = λ z k e. elim (cases_eq z o) [ inl at_o ↦ (λ zero_is. other (sym at_o ∙ zero_is)) | inr ne ↦ ok.other z k (sym (takes.others z ne) ∙ e) ];
  held = λ z k e. elim (cases_eq z o) [
    | inl at_o ↦ (let a = adjacencies z k e in let n : count_of ys z ≡ a.count = ap count_in a.taken in let live = a.live in let i = same z in let j : into (union_of b) z ≡ into (union_of b) o = ap (λ (q : ℕ). into (union_of b) q) at_o in omega arith)
    | inr ne ↦ (let h = ok.held z k (sym (takes.others z ne) ∙ e) in let i = same z in let n : count_of ys z ≡ count_of xs z = ap (λ (zs : List (Option Object)). count_of zs z) taken.taken ∙ ap count_in (get_or-set_other xs o z (as_new kinds.Adjacency) None ne) in omega arith)
  ];
  words = λ z s k e lt. elim (cases_eq z o) [
    | inl at_o ↦ (let is : Some k ≡ Some (record { id = o; content = r; users = interned.users_of rows o + 1 }) = sym e ∙ (ap (λ (q : ℕ). interned.kept_of new q) at_o ∙ takes.taken) in
        let one : k ≡ record { id = o; content = r; users = interned.users_of rows o + 1 } = cc in
        ap (λ (q : ℕ). word_in c (16 * q + s)) at_o ∙ filled s lt ∙ ap (λ (q : interned.Kept AdjacencyRecord). record_word q.content s) (sym one))
    | inr ne ↦ beside (16 * z + s) (λ own. ne (sym (owner_is z s lt) ∙ own)) ∙ ok.words z s k (sym (takes.others z ne) ∙ e) lt
  ];
  ranges = λ z k e. elim (cases_eq z o) [
    | inl at_o ↦ (let is : Some k ≡ Some (record { id = o; content = r; users = interned.users_of rows o + 1 }) = sym e ∙ (ap (λ (q : ℕ). interned.kept_of new q) at_o ∙ takes.taken) in
        let one : k ≡ record { id = o; content = r; users = interned.users_of rows o + 1 } = cc in
        subst (λ (q : interned.Kept AdjacencyRecord). IsInRange q.content) (sym one) range)
    | inr ne ↦ ok.ranges z k (sym (takes.others z ne) ∙ e)
  ];
}

-- a plane with a fresh record
pub fresh_rest : (b c : Board) (u v : edges.Kept) (xs ys : List (Option Object)) (rows new : List (interned.Kept AdjacencyRecord)) (ds : List ℕ) (room o : ℕ) (r : AdjacencyRecord) → IsAtRest b u xs rows ds room → TookObject xs ys o kinds.Adjacency → interned.Takes rows new r o → AreAdjacencies new ys
    → c ≡ board_filled b o r → IsIdle c v ys o → ((z : ℕ) → into (union_of c) z ≡ into (union_of b) z) → r.interface < 2 ^ 32 → r.next_hop < 2 ^ 32 → IsRoomy (mac_word r.mac) → IfSome r.mac (λ m. m < 2 ^ 48) → IsAtRest c v ys new ds room
fresh_rest b c u v xs ys rows new ds room o r p taken takes adjacencies filled idle counts interface next_hop mac few = record {
  joined = idle.joined;
  acyclic = idle.acyclic;
  none = (with_new b u xs ys rows ds room o p taken).none;
  calm = p.calm;
  roomy = (let e : c.objects ≡ b.objects = ap (λ (q : Board). q.objects) filled in let l = p.roomy in omega arith);
  records = records_fresh b c xs ys rows new o r p.records takes taken adjacencies counts (alone b u xs ys rows ds room o p taken) (apart_root b u xs ys rows ds room o p taken)
      (λ k ne. ap (λ (q : Board). word_in q k) filled ∙ filled_else b o r long interface next_hop mac k ne)
      (λ s lt. ap (λ (q : Board). word_in q (16 * o + s)) filled ∙ filled_words b o r long interface next_hop mac (fresh_empty b u xs ys rows ds room o p taken) s lt)
      (record { interface = interface; next_hop = next_hop; mac = few });
}
  where
    long : 16 * o + 16 ≤ length b.union.cells
    long = (let i = taken.inside in let s = p.joined.size in let l = p.joined.long in omega arith)

-- nothing was taken
pub same_rest : (b : Board) (u : edges.Kept) (xs ys : List (Option Object)) (rows new : List (interned.Kept AdjacencyRecord)) (ds : List ℕ) (room : ℕ) → new ≡ rows → ys ≡ xs → IsAtRest b u xs rows ds room → IsAtRest b u ys new ds room
same_rest b u xs ys rows new ds room same pool p = subst (λ (zs : List (Option Object)). IsAtRest b u zs new ds room) (sym pool) (subst (λ (r : List (interned.Kept AdjacencyRecord)). IsAtRest b u xs r ds room) (sym same) p)

-- a record that is kept has one user more
pub shared_rest : (b : Board) (u : edges.Kept) (xs ys : List (Option Object)) (rows new : List (interned.Kept AdjacencyRecord)) (ds : List ℕ) (room : ℕ) (r : AdjacencyRecord) (o : ℕ) → interned.Takes rows new r o → IsKeptAs rows r o → ys ≡ xs → IsAtRest b u xs rows ds room → IsAtRest b u ys new ds room
shared_rest b u xs ys rows new ds room r o takes was pool p = subst (λ (zs : List (Option Object)). IsAtRest b u zs new ds room) (sym pool) (record {
  joined = p.joined;
  acyclic = p.acyclic;
  none = p.none;
  calm = p.calm;
  roomy = p.roomy;
  records = records_shared b xs rows new r o takes was p.records;
})

-- the record that was taken is the one that was asked for
pub content_is : (e : Option (interned.Kept AdjacencyRecord)) (k : interned.Kept AdjacencyRecord) (r : AdjacencyRecord) → option_map (λ (j : interned.Kept AdjacencyRecord). j.content) e ≡ Some r → e ≡ Some k → r ≡ k.content
content_is e k r told is = (let same : Some r ≡ Some k.content = sym told ∙ ap (λ (q : Option (interned.Kept AdjacencyRecord)). option_map (λ (j : interned.Kept AdjacencyRecord). j.content) q) is in cc)

-- a record lost a user
pub given_rest : (b : Board) (u : edges.Kept) (xs : List (Option Object)) (rows new : List (interned.Kept AdjacencyRecord)) (ds : List ℕ) (room o : ℕ) → interned.Gives rows new o → IsAtRest b u xs rows ds room → IsAtRest b u xs new ds room
given_rest b u xs rows new ds room o gives p = record {
  joined = p.joined;
  acyclic = p.acyclic;
  none = p.none;
  calm = p.calm;
  roomy = p.roomy;
  records = records_given b xs rows new o gives p.records;
}

-- or its last one
some_kept : (e : Option (interned.Kept AdjacencyRecord)) → IsSome e → (k : interned.Kept AdjacencyRecord) × (e ≡ Some k)
some_kept None is = absurd (let bad : ⊥ = cc in bad)
some_kept (Some k) is = (k, refl)

pub kept_held : (b : Board) (xs : List (Option Object)) (rows : List (interned.Kept AdjacencyRecord)) (o : ℕ) → AreRecords b xs rows → IsSome (interned.kept_of rows o) → IsHeld b xs o × (o ≢ 0)
kept_held b xs rows o ok is = (let k = some_kept (interned.kept_of rows o) is in (ok.held o k.0 k.1, ok.other o k.0 k.1))

pub records_forgotten : (b : Board) (xs ys : List (Option Object)) (rows new : List (interned.Kept AdjacencyRecord)) (o : ℕ) → AreRecords b xs rows → interned.Gives rows new o → interned.users_of rows o ≡ 1 → IsLive xs o → ys ≡ with_count xs o (count_of xs o - 1) → AreRecords b ys new
records_forgotten b xs ys rows new o ok gives one live pool = subst (λ (zs : List (Option Object)). AreRecords b zs new) (sym pool)
    (records_released b xs new (records_given b xs rows new o gives ok) o live (given_last rows new o gives one))

pub given_released : (p : Plane) (o : ℕ) → interned.users_of p.records o ≡ 1 → given_objects p o ≡ released p o
given_released p o one = ap (λ (t : Bool). if t then released p o else p.objects) (let t : (interned.users_of p.records o == 1) ≡ true = ap (λ (n : ℕ). n == 1) one in t)

pub given_same : (p : Plane) (o : ℕ) → interned.users_of p.records o ≢ 1 → given_objects p o ≡ p.objects
given_same p o more = ap (λ (t : Bool). if t then released p o else p.objects) (let t : (interned.users_of p.records o == 1) ≡ false = not_one (interned.users_of p.records o) more in t)
  where
    not_one : (n : ℕ) → n ≢ 1 → (n == 1) ≡ false
    not_one n ne = grind (arith, nat_tests)

-- a free object is no record's
pub taken_apart : (b : Board) (xs ys : List (Option Object)) (rows : List (interned.Kept AdjacencyRecord)) (o : ℕ) → AreRecords b xs rows → TookObject xs ys o kinds.Adjacency → (k : interned.Kept AdjacencyRecord) → interned.kept_of rows o ≡ Some k → ⊥
taken_apart b xs ys rows o ok taken k e = (let a = ok.adjacencies o k e in none_some (sym taken.free ∙ a.taken))
