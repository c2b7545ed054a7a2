-- A hop makes the walk's next load, or reads an adjacency.
use Rattle.std.proofs.Common.{◌≡◌, ℕ, ◌+◌, ◌*◌, ◌/◌, ◌-◌, ◌%◌, ◌^◌, ◌<◌, List, [], ◌∷◌, length, refl, sym, ap, ◌∙◌, subst, arith}
use Rattle.std.specs.Prelude.{slice_index, slice_set, Option, Some, option_map, IfSome, IfNone}
use Rattle.std.proofs.lemmas.List.{set-set}
use Rattle.fib_addr.specs.Prefixes.{nibble}
use Rattle.fib_resolve.specs.declared.types.End.{End}
use Rattle.fib_core.specs.declared.word.Word.{Word}
use Rattle.fib_core.specs.Words.{decoded, value_of}
use Rattle.fib_core.specs.Walk.{Place, ply, balance, adjacency, ended, object_of, asked, next, from_ply, from_balance, halved, hop_of, mac_in}
use Rattle.fib_core.specs.Trails.{Load, Follows, IsGoing, IsMac, IsProper, IsProperEnd, IsSoundTrail, place}
use Rattle.fib_core.proofs.Numbers.{goes_of}
use Rattle.fib_core.proofs.Stands.{low16, ply_moves, balance_moves, goes_on}
use Rattle.fib_core.specs.declared.stage.Stage.{Stage}
use Rattle.fib_core.specs.declared.stage.Stage.TheVariants as stages
use Rattle.fib_core.specs.Stages.{StandsAt, end_in}
use Rattle.fib_core_board.specs.Boards.{Board, Pass}
use Rattle.fib_core_plainboard.specs.Passes.{pass_of, load_of, further, pass_hopped, hopped_on, loads_in, FoundEdge, IsOnItsWay, HasEnd}
use Rattle.fib_core_plainboard.specs.inner.Reads.{word_in, IsIn, IsReadable, IsNext}
use Rattle.fib_core_plainboard.specs.inner.Sits.{IsPlain}
use Rattle.fib_core_plainboard.proofs.Keeping.{cell_now, word_now, words_long}
use Rattle.fib_core_plainboard.proofs.Passing.{with_pass, with_load, pass_same, inside, sound, place_inside, hops_once}

-- a pass whose last load was of an edge goes on
pub edge_going : (a h objects : ℕ) (t : List Load) → Follows a h t → IsSoundTrail objects t → FoundEdge t → IsGoing (place t)
edge_going a h objects [] f s edge = absurd edge
edge_going a h objects (l ∷ t) f s edge =
    goes_on (place t) (decoded l.1) (s.proper a h f).1 (sym (goes_of l.1 (decoded l.1) refl) ∙ edge) f.1

abbrev pub hopped_by : List ℕ → Pass → Place → Pass
hopped_by cells q at = record { addr = q.addr; hash = q.hash; lo = q.lo; loads = further cells q.addr q.hash at q.loads }

module _ (words : List ℕ) (p : Board) (s : IsPlain words p) (n : ℕ) (q : Pass) (runs : pass_of p n ≡ Some q) where
  abbrev Cells : List ℕ
  Cells = p.union.cells

  follows : Follows q.addr q.hash q.loads
  follows = (s.sits n q runs).follows

  in_passes : n < length p.passes
  in_passes = inside p.passes n q runs

  word_now_is : (k : ℕ) → k < 16 * p.objects → word_in words k ≡ decoded (slice_index Cells k)
  word_now_is k lt = ap decoded (cell_now words p s k lt)

  is_in : (o : ℕ) → o < p.objects → IsIn words o
  is_in o lt = record {
    room = (let long = words_long words p s in omega arith);
    found = λ t low. word_now words p s (16 * o + t) (omega arith);
  }

  -- the three words of the adjacency o
  module _ (o : ℕ) (at : place q.loads ≡ adjacency o []) where
    abbrev Interface : Word
    Interface = decoded (slice_index Cells (16 * o + 0))

    abbrev Hop : Word
    Hop = decoded (slice_index Cells (16 * o + 1))

    abbrev Mac : Word
    Mac = decoded (slice_index Cells (16 * o + 2))

    abbrev One : Pass
    One = with_load q (load_of Cells (16 * o + 0))

    abbrev Two : Pass
    Two = with_load One (load_of Cells (16 * o + 1))

    abbrev Three : Pass
    Three = with_load Two (load_of Cells (16 * o + 2))

    abbrev First : Board
    First = with_pass p n One

    abbrev Second : Board
    Second = with_pass First n Two

    place_one : place One.loads ≡ adjacency o (Interface ∷ [])
    place_one = ap (λ x. next x Interface) at

    place_two : place Two.loads ≡ adjacency o (Interface ∷ Hop ∷ [])
    place_two = ap (λ x. next x Hop) place_one

    pub place_three : place Three.loads ≡ ended (hop_of Interface Hop Mac)
    place_three = ap (λ x. next x Mac) place_two

    first_kept : IsPlain words First
    first_kept = hops_once words p s n q runs (16 * o + 0) 0 (subst IsGoing (sym at) tt) (ap (asked q.addr q.hash) (sym at))
        (ap (λ x. 16 * object_of x + 0) (sym at)) (omega arith)

    first_runs : pass_of First n ≡ Some One
    first_runs = pass_same p.passes n (Some One) in_passes

    second_kept : IsPlain words Second
    second_kept = hops_once words First first_kept n One first_runs (16 * o + 1) 1 (subst IsGoing (sym place_one) tt)
        (ap (asked q.addr q.hash) (sym place_one)) (ap (λ x. 16 * object_of x + 1) (sym place_one)) (omega arith)

    second_runs : pass_of Second n ≡ Some Two
    second_runs = pass_same First.passes n (Some Two) (inside First.passes n One first_runs)

    third_kept : IsPlain words (with_pass Second n Three)
    third_kept = hops_once words Second second_kept n Two second_runs (16 * o + 2) 2 (subst IsGoing (sym place_two) tt)
        (ap (asked q.addr q.hash) (sym place_two)) (ap (λ x. 16 * object_of x + 2) (sym place_two)) (omega arith)

    pub adjacency_kept : IsPlain words (with_pass p n Three)
    adjacency_kept = subst (λ ps. IsPlain words (record p { passes = ps }))
        (set-set (slice_set p.passes n (Some One)) n (Some Two) (Some Three) ∙ set-set p.passes n (Some One) (Some Three))
        third_kept

    three_runs : pass_of (with_pass p n Three) n ≡ Some Three
    three_runs = pass_same p.passes n (Some Three) in_passes

    pub adjacency_proper : IsProperEnd (hop_of Interface Hop Mac)
    adjacency_proper =
        let k : IsPlain words (with_pass p n Three) = adjacency_kept in
        subst IsProper place_three ((sound words (with_pass p n Three) k n Three three_runs).proper q.addr q.hash (k.sits n Three three_runs).follows).0

  -- by the stage

  kept_at : (stage : Stage) → StandsAt q.hash (place q.loads) stage → IsGoing (place q.loads) → IsPlain words (with_pass p n (hopped_by Cells q (place q.loads)))
  kept_at (stages.Ply o d) at going = subst (λ x. IsPlain words (with_pass p n (hopped_by Cells q x))) (sym at)
      (hops_once words p s n q runs (16 * o + nibble q.addr d) (nibble q.addr d) going (ap (asked q.addr q.hash) (sym at))
      (ap (λ x. 16 * object_of x + nibble q.addr d) (sym at)) (low16 (q.addr / 2 ^ (28 - 4 * d))))
  kept_at (stages.Balance o left) at going = subst (λ x. IsPlain words (with_pass p n (hopped_by Cells q x))) (sym at.1)
      (hops_once words p s n q runs (16 * o + halved q.hash at.0 % 16) (halved q.hash at.0 % 16) going (ap (asked q.addr q.hash) (sym at.1))
      (ap (λ x. 16 * object_of x + halved q.hash at.0 % 16) (sym at.1)) (low16 (halved q.hash at.0)))
  kept_at (stages.Adjacency o) at going = subst (λ x. IsPlain words (with_pass p n (hopped_by Cells q x))) (sym at) (adjacency_kept o at)
  kept_at (stages.Ended e) at going = absurd (subst IsGoing at going)

  pub hopped_is : hopped_on p n ≡ with_pass p n (pass_hopped Cells q)
  hopped_is = ap (λ o. record p { passes = slice_set p.passes n (option_map (pass_hopped Cells) o) }) runs

  pub hops : (stage : Stage) → StandsAt q.hash (place q.loads) stage → IsGoing (place q.loads) → IsPlain words (hopped_on p n)
  hops stage at going = subst (IsPlain words) (sym hopped_is) (kept_at stage at going)

  pub hopped_runs : pass_of (hopped_on p n) n ≡ Some (pass_hopped Cells q)
  hopped_runs = ap (λ (r : Board). pass_of r n) hopped_is ∙ pass_same p.passes n (Some (pass_hopped Cells q)) in_passes

  pub readable : (stage : Stage) → StandsAt q.hash (place q.loads) stage → IsGoing (place q.loads) → IsReadable words stage
  readable (stages.Ply o d) at going = (
    subst IsProper at ((sound words p s n q runs).proper q.addr q.hash follows).0,
    is_in o (subst (λ x. object_of x < p.objects) at (place_inside words p s n q runs going)),
  )
  readable (stages.Balance o left) at going = is_in o (subst (λ x. object_of x < p.objects) at.1 (place_inside words p s n q runs going))
  readable (stages.Adjacency o) at going =
      let lt : o < p.objects = subst (λ x. object_of x < p.objects) at (place_inside words p s n q runs going) in
      let proper = adjacency_proper o at in (
        is_in o lt,
        record {
          interface = subst (λ (w : Word). value_of w < 2 ^ 32) (sym (word_now_is (16 * o + 0) (omega arith))) proper.0;
          hop = subst (λ (w : Word). value_of w < 2 ^ 32) (sym (word_now_is (16 * o + 1) (omega arith))) proper.1;
          mac = subst (λ (w : Word). IsMac (mac_in (value_of w))) (sym (word_now_is (16 * o + 2) (omega arith))) proper.2;
        },
      )
  readable (stages.Ended e) at going = tt

  -- where it stands then
  pub stands_at : (stage then_at : Stage) → StandsAt q.hash (place q.loads) stage → IsGoing (place q.loads) → IsNext words q.addr q.hash stage then_at
      → StandsAt q.hash (place (further Cells q.addr q.hash (place q.loads) q.loads)) then_at
  stands_at (stages.Ply o d) r at going is =
      let lt : o < p.objects = subst (λ x. object_of x < p.objects) at (place_inside words p s n q runs going) in
      let low = low16 (q.addr / 2 ^ (28 - 4 * d)) in
      subst (λ x. StandsAt q.hash x r)
      (ap (from_ply d) (word_now_is (16 * o + nibble q.addr d) (omega arith))
      ∙ sym (ap (λ x. place (further Cells q.addr q.hash x q.loads)) at ∙ ap (λ x. next x (decoded (slice_index Cells (16 * o + nibble q.addr d)))) at))
      is
  stands_at (stages.Balance o left) r at going is =
      let lt : o < p.objects = subst (λ x. object_of x < p.objects) at.1 (place_inside words p s n q runs going) in
      let low = low16 (halved q.hash at.0) in
      subst (λ x. StandsAt q.hash x r)
      (ap (λ m. from_balance at.0 (word_in words (16 * o + m % 16))) (sym at.2)
      ∙ ap (from_balance at.0) (word_now_is (16 * o + halved q.hash at.0 % 16) (omega arith))
      ∙ sym (ap (λ x. place (further Cells q.addr q.hash x q.loads)) at.1 ∙ ap (λ x. next x (decoded (slice_index Cells (16 * o + halved q.hash at.0 % 16)))) at.1))
      (is at.0 at.2)
  stands_at (stages.Adjacency o) r at going is =
      let lt : o < p.objects = subst (λ x. object_of x < p.objects) at (place_inside words p s n q runs going) in
      let i : word_in words (16 * o + 0) ≡ decoded (slice_index Cells (16 * o + 0)) = word_now_is (16 * o + 0) (omega arith) in
      let g : word_in words (16 * o + 1) ≡ decoded (slice_index Cells (16 * o + 1)) = word_now_is (16 * o + 1) (omega arith) in
      let m : word_in words (16 * o + 2) ≡ decoded (slice_index Cells (16 * o + 2)) = word_now_is (16 * o + 2) (omega arith) in
      subst (StandsAt q.hash (place (further Cells q.addr q.hash (place q.loads) q.loads))) (sym is)
      (ap (λ x. place (further Cells q.addr q.hash x q.loads)) at ∙ place_three o at ∙ (λ j. ended (hop_of (sym i j) (sym g j) (sym m j))))
  stands_at (stages.Ended e) r at going is = absurd (subst IsGoing at going)

  -- it goes on exactly where it loaded an edge
  going_at : (stage : Stage) → StandsAt q.hash (place q.loads) stage → IsGoing (place q.loads)
      → IsGoing (place (further Cells q.addr q.hash (place q.loads) q.loads)) → FoundEdge (further Cells q.addr q.hash (place q.loads) q.loads)
  going_at (stages.Ply o d) at going on =
      let on' : IsGoing (from_ply d (decoded (slice_index Cells (16 * o + nibble q.addr d)))) = subst IsGoing (ap (λ x. place (further Cells q.addr q.hash x q.loads)) at ∙ ap (λ x. next x (decoded (slice_index Cells (16 * o + nibble q.addr d)))) at) on in
      subst (λ x. FoundEdge (further Cells q.addr q.hash x q.loads)) (sym at)
      (goes_of (slice_index Cells (16 * o + nibble q.addr d)) (decoded (slice_index Cells (16 * o + nibble q.addr d))) refl
      ∙ (ply_moves d (decoded (slice_index Cells (16 * o + nibble q.addr d))) on').0)
  going_at (stages.Balance o left) at going on =
      let k : ℕ = 16 * o + halved q.hash at.0 % 16 in
      let on' : IsGoing (from_balance at.0 (decoded (slice_index Cells (16 * o + halved q.hash at.0 % 16)))) = subst IsGoing (ap (λ x. place (further Cells q.addr q.hash x q.loads)) at.1 ∙ ap (λ x. next x (decoded (slice_index Cells (16 * o + halved q.hash at.0 % 16)))) at.1) on in
      subst (λ x. FoundEdge (further Cells q.addr q.hash x q.loads)) (sym at.1)
      (goes_of (slice_index Cells (16 * o + halved q.hash at.0 % 16)) (decoded (slice_index Cells (16 * o + halved q.hash at.0 % 16))) refl
      ∙ (balance_moves at.0 (decoded (slice_index Cells (16 * o + halved q.hash at.0 % 16))) on').0)
  going_at (stages.Adjacency o) at going on = absurd (subst IsGoing (ap (λ x. place (further Cells q.addr q.hash x q.loads)) at ∙ place_three o at) on)
  going_at (stages.Ended e) at going on = absurd (subst IsGoing at going)

  pub on_edge : (stage : Stage) → StandsAt q.hash (place q.loads) stage → IsGoing (place q.loads)
      → IsGoing (place (pass_hopped Cells q).loads) → FoundEdge (pass_hopped Cells q).loads
  on_edge = going_at

  pub edge_on : (stage : Stage) → StandsAt q.hash (place q.loads) stage → IsGoing (place q.loads)
      → FoundEdge (pass_hopped Cells q).loads → IsGoing (place (pass_hopped Cells q).loads)
  edge_on stage at going =
      let k : IsPlain words (hopped_on p n) = hops stage at going in
      edge_going q.addr q.hash p.objects (further Cells q.addr q.hash (place q.loads) q.loads)
      (k.sits n (pass_hopped Cells q) hopped_runs).follows (sound words (hopped_on p n) k n (pass_hopped Cells q) hopped_runs)

-- None exactly where the last load was of an edge
module _ (p : Board) (n : ℕ) (q : Pass) (runs : pass_of p n ≡ Some q) (r : Option End) (is : r ≡ end_in (place q.loads)) where
  pub none_on : (IsGoing (place q.loads) → FoundEdge q.loads) → IfNone r (IsOnItsWay p n × FoundEdge (loads_in (pass_of p n)))
  none_on on = subst (λ x. IfNone x (IsOnItsWay p n × FoundEdge (loads_in (pass_of p n)))) (sym is) (by_place (place q.loads) (λ g. g))
    where
      going : IsGoing (place q.loads) → IsOnItsWay p n × FoundEdge (loads_in (pass_of p n))
      going g = ((q, runs, g), subst (λ o. FoundEdge (loads_in o)) (sym runs) (on g))

      by_place : (x : Place) → (IsGoing x → IsGoing (place q.loads)) → IfNone (end_in x) (IsOnItsWay p n × FoundEdge (loads_in (pass_of p n)))
      by_place (ply o d) same = going (same tt)
      by_place (balance o m) same = going (same tt)
      by_place (adjacency o read) same = going (same tt)
      by_place (ended e) same = tt

  pub some_ended : (FoundEdge q.loads → IsGoing (place q.loads)) → IfSome r (λ e. HasEnd p n e × (FoundEdge (loads_in (pass_of p n)) → ⊥))
  some_ended on = subst (λ x. IfSome x (λ e. HasEnd p n e × (FoundEdge (loads_in (pass_of p n)) → ⊥))) (sym is) (by_place (place q.loads) refl)
    where
      by_place : (x : Place) → place q.loads ≡ x → IfSome (end_in x) (λ e. HasEnd p n e × (FoundEdge (loads_in (pass_of p n)) → ⊥))
      by_place (ply o d) at = tt
      by_place (balance o m) at = tt
      by_place (adjacency o read) at = tt
      by_place (ended e) at = ((q, runs, at), λ edge. subst IsGoing at (on (subst (λ o. FoundEdge (loads_in o)) runs edge)))
