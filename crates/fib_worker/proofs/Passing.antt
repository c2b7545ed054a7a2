-- A pass goes on: each load is the next of the walk that it serves.
use Rattle.std.proofs.Common.{◌≡◌, ℕ, suc, ◌+◌, ◌*◌, ◌%◌, ◌≤◌, true, [], ◌∷◌, length, refl, sym, ap, ◌∙◌, subst}
use Rattle.fib_addr.specs.Prefixes.{nibble}
use Rattle.fib_core.specs.declared.word.Word.{Word}
use Rattle.fib_core.specs.Words.{IsRoomy, encoded, decoded, is_edge, goes, target}
use Rattle.fib_core.specs.Walk.{object_of, Place, ply, balance, adjacency, ended, halved, asked, hop_of, from_ply, from_balance, next}
use Rattle.fib_core.specs.Trails.{stands, visited, arrive_if, place, IsGoing, Follows, IsProper, IsSoundTrail}
use Rattle.fib_core.proofs.Numbers.{decoded_encoded, goes_of}
use Rattle.fib_core.proofs.Stands.{ply_moves, balance_moves}
use Rattle.fib_core_lawful.specs.State.{Worker, hopped}
use Rattle.fib_core.specs.declared.stage.Stage.{Stage}
use Rattle.fib_core.specs.declared.stage.Stage.TheVariants as stages
use Rattle.fib_core.specs.Stages.{StandsAt}
use Rattle.fib_core_board.specs.Crews.{Seated}
use Rattle.fib_cells.specs.Seats.{IsReading, seat_loaded}
use Rattle.fib_worker.specs.Passes.{HasHopped, loads_at}
use Rattle.fib_worker.specs.inner.Runs.{Nears}

-- this word was loaded from the cell
pub record IsLoaded (v : Worker) (cell : ℕ) (W : Word) (w : Worker) : Type 0 where
  pub known : w ≡ hopped v cell (encoded W)
  pub word : decoded (encoded W) ≡ W

pub loaded : (s t : Seated) (slot : ℕ) (W : Word) → t ≡ seat_loaded s slot W → IsRoomy W
    → IsLoaded s.worker (16 * stands s.worker.trail + slot) W t.worker
loaded s t slot W is roomy = record { known = ap (λ x. x.worker) is; word = decoded_encoded W roomy }

module _ (a h : ℕ) where
  -- the asked cell was loaded
  loaded_follows : (v w : Worker) (cell : ℕ) (W : Word) (q : Place) → place v.trail ≡ q → IsGoing q → cell ≡ asked a h q
      → Follows a h v.trail → IsLoaded v cell W w → Follows a h w.trail
  loaded_follows v w cell W q is going asks f l =
      subst (λ (u : Worker). Follows a h u.trail) (sym l.known) (asks ∙ ap (asked a h) (sym is), subst IsGoing (sym is) going, f)

  pub loaded_place : (v w : Worker) (cell : ℕ) (W : Word) (q : Place) → place v.trail ≡ q → IsLoaded v cell W w → place w.trail ≡ next q W
  loaded_place v w cell W q is l =
      ap (λ (u : Worker). place u.trail) l.known ∙ ap (λ p. next p (decoded (encoded W))) is ∙ ap (next q) l.word

  here : (objects : ℕ) (v : Worker) (q : Place) → place v.trail ≡ q → IsGoing q → Follows a h v.trail → IsSoundTrail objects v.trail
      → stands v.trail ≡ object_of q
  here objects v q is going f s = sym (s.stood a h f (subst IsGoing (sym is) going)) ∙ ap object_of is

  ply_follows : (o d slot : ℕ) (v w : Worker) (W : Word) → place v.trail ≡ ply o d → slot ≡ nibble a d
      → Follows a h v.trail → IsSoundTrail v.objects v.trail → IsLoaded v (16 * stands v.trail + slot) W w → Follows a h w.trail
  ply_follows o d slot v w W is at f s l =
      loaded_follows v w (16 * stands v.trail + slot) W (ply o d) is tt
      (ap (λ m. 16 * m + slot) (here v.objects v (ply o d) is tt f s) ∙ ap (λ m. 16 * o + m) at) f l

  balance_follows : (o n left : ℕ) (v w : Worker) (W : Word) → place v.trail ≡ balance o n → halved h n ≡ left
      → Follows a h v.trail → IsSoundTrail v.objects v.trail → IsLoaded v (16 * stands v.trail + left % 16) W w → Follows a h w.trail
  balance_follows o n left v w W is at f s l =
      loaded_follows v w (16 * stands v.trail + left % 16) W (balance o n) is tt
      (ap (λ m. 16 * m + left % 16) (here v.objects v (balance o n) is tt f s) ∙ ap (λ m. 16 * o + m % 16) (sym at)) f l

  -- one load is a hop
  one : (v w : Worker) (cell : ℕ) (W : Word) → loads_at (place v.trail) ≡ 1 → IsLoaded v cell W w → Follows a h w.trail → HasHopped a h v w
  one v w cell W count l f = record { loads = (cell, encoded W) ∷ []; count = sym count; known = l.known; follows = f }

  pub ply_hopped : (o d slot : ℕ) (v w : Worker) (W : Word) → place v.trail ≡ ply o d → slot ≡ nibble a d
      → Follows a h v.trail → IsSoundTrail v.objects v.trail → IsLoaded v (16 * stands v.trail + slot) W w → HasHopped a h v w
  ply_hopped o d slot v w W is at f s l =
      one v w (16 * stands v.trail + slot) W (ap loads_at is) l (ply_follows o d slot v w W is at f s l)

  pub balance_hopped : (o n left : ℕ) (v w : Worker) (W : Word) → place v.trail ≡ balance o n → halved h n ≡ left
      → Follows a h v.trail → IsSoundTrail v.objects v.trail → IsLoaded v (16 * stands v.trail + left % 16) W w → HasHopped a h v w
  balance_hopped o n left v w W is at f s l =
      one v w (16 * stands v.trail + left % 16) W (ap loads_at is) l (balance_follows o n left v w W is at f s l)

  -- what was read of an adjacency, word by word
  pub reading_first : (o : ℕ) (v : Worker) → place v.trail ≡ adjacency o [] → Follows a h v.trail → IsReading v 0
  reading_first o v is f = record { addr = a; hash = h; object = o; read = []; follows = f; at = is; count = refl }

  pub reading_second : (o : ℕ) (v w : Worker) (i : Word) → place v.trail ≡ adjacency o [] → Follows a h v.trail → IsSoundTrail v.objects v.trail
      → IsLoaded v (16 * stands v.trail + 0) i w → IsReading w 1
  reading_second o v w i is f s l = record {
    addr = a;
    hash = h;
    object = o;
    read = i ∷ [];
    follows = loaded_follows v w (16 * stands v.trail + 0) i (adjacency o []) is tt (ap (λ n. 16 * n + 0) (here v.objects v (adjacency o []) is tt f s)) f l;
    at = loaded_place v w (16 * stands v.trail + 0) i (adjacency o []) is l;
    count = refl;
  }

  pub reading_third : (o : ℕ) (u v w : Worker) (i g : Word) → place u.trail ≡ adjacency o [] → Follows a h u.trail → IsSoundTrail u.objects u.trail
      → IsLoaded u (16 * stands u.trail + 0) i v → IsSoundTrail v.objects v.trail → IsLoaded v (16 * stands v.trail + 1) g w → IsReading w 2
  reading_third o u v w i g at f t k s l =
      let is : place v.trail ≡ adjacency o (i ∷ []) = loaded_place u v (16 * stands u.trail + 0) i (adjacency o []) at k in
      let then : Follows a h v.trail = loaded_follows u v (16 * stands u.trail + 0) i (adjacency o []) at tt
      (ap (λ n. 16 * n + 0) (here u.objects u (adjacency o []) at tt f t)) f k in
      record {
        addr = a;
        hash = h;
        object = o;
        read = i ∷ g ∷ [];
        follows = loaded_follows v w (16 * stands v.trail + 1) g (adjacency o (i ∷ [])) is tt
            (ap (λ n. 16 * n + 1) (here v.objects v (adjacency o (i ∷ [])) is tt then s)) then l;
        at = loaded_place v w (16 * stands v.trail + 1) g (adjacency o (i ∷ [])) is l;
        count = refl;
      }

  -- the three words of an adjacency
  pub record Reading (o : ℕ) (v v1 v2 v3 : Worker) (i g m : Word) : Type 0 where
    pub at : place v.trail ≡ adjacency o []
    pub follows : Follows a h v.trail
    pub first : IsLoaded v (16 * stands v.trail + 0) i v1
    pub second : IsLoaded v1 (16 * stands v1.trail + 1) g v2
    pub third : IsLoaded v2 (16 * stands v2.trail + 2) m v3
    pub sound : IsSoundTrail v.objects v.trail
    pub sound1 : IsSoundTrail v1.objects v1.trail
    pub sound2 : IsSoundTrail v2.objects v2.trail
    pub sound3 : IsSoundTrail v3.objects v3.trail

  module _ (o : ℕ) (v v1 v2 v3 : Worker) (i g m : Word) (r : Reading o v v1 v2 v3 i g m) where
    place1 : place v1.trail ≡ adjacency o (i ∷ [])
    place1 = loaded_place v v1 (16 * stands v.trail + 0) i (adjacency o []) r.at r.first

    place2 : place v2.trail ≡ adjacency o (i ∷ g ∷ [])
    place2 = loaded_place v1 v2 (16 * stands v1.trail + 1) g (adjacency o (i ∷ [])) place1 r.second

    pub place3 : place v3.trail ≡ ended (hop_of i g m)
    place3 = loaded_place v2 v3 (16 * stands v2.trail + 2) m (adjacency o (i ∷ g ∷ [])) place2 r.third

    follows1 : Follows a h v1.trail
    follows1 = loaded_follows v v1 (16 * stands v.trail + 0) i (adjacency o []) r.at tt
        (ap (λ n. 16 * n + 0) (here v.objects v (adjacency o []) r.at tt r.follows r.sound)) r.follows r.first

    follows2 : Follows a h v2.trail
    follows2 = loaded_follows v1 v2 (16 * stands v1.trail + 1) g (adjacency o (i ∷ [])) place1 tt
        (ap (λ n. 16 * n + 1) (here v1.objects v1 (adjacency o (i ∷ [])) place1 tt follows1 r.sound1)) follows1 r.second

    follows3 : Follows a h v3.trail
    follows3 = loaded_follows v2 v3 (16 * stands v2.trail + 2) m (adjacency o (i ∷ g ∷ [])) place2 tt
        (ap (λ n. 16 * n + 2) (here v2.objects v2 (adjacency o (i ∷ g ∷ [])) place2 tt follows2 r.sound2)) follows2 r.third

    pub proper3 : IsProper (ended (hop_of i g m))
    proper3 = subst IsProper place3 (r.sound3.proper a h follows3).0

    pub adjacency_hopped : HasHopped a h v v3
    adjacency_hopped = record {
      loads = (16 * stands v2.trail + 2, encoded m) ∷ (16 * stands v1.trail + 1, encoded g) ∷ (16 * stands v.trail + 0, encoded i) ∷ [];
      count = sym (ap loads_at r.at);
      known = r.third.known
          ∙ ap (λ (u : Worker). hopped u (16 * stands v2.trail + 2) (encoded m)) (r.second.known
          ∙ ap (λ (u : Worker). hopped u (16 * stands v1.trail + 1) (encoded g)) r.first.known);
      follows = follows3;
    }

  pub ply_low : (o d : ℕ) (v : Worker) → place v.trail ≡ ply o d → Follows a h v.trail → IsSoundTrail v.objects v.trail → d ≤ 7
  ply_low o d v is f s = subst IsProper is (s.proper a h f).0

  -- a pass that goes on stands on one object more
  longer : (v w : Worker) (cell : ℕ) (W : Word) → IsLoaded v cell W w → is_edge W ≡ true → length (visited w.trail) ≡ suc (length (visited v.trail))
  longer v w cell W l edge =
      let is : goes (encoded W) ≡ true = goes_of (encoded W) W l.word ∙ edge in
      ap (λ (u : Worker). length (visited u.trail)) l.known ∙ ap (λ b. length (arrive_if b (target (encoded W)) (visited v.trail))) is

  nears : (v w : Worker) (cell : ℕ) (W : Word) (q : Place) (s : Stage) → place v.trail ≡ q → IsLoaded v cell W w
      → (IsGoing (next q W) → is_edge W ≡ true) → StandsAt h (next q W) s → Nears v w s
  nears v w cell W q (stages.Ended e) is l moves at = tt
  nears v w cell W q (stages.Ply o d) is l moves at = longer v w cell W l (moves (subst IsGoing (sym at) tt))
  nears v w cell W q (stages.Balance o left) is l moves at = longer v w cell W l (moves (subst IsGoing (sym at.1) tt))
  nears v w cell W q (stages.Adjacency o) is l moves at = longer v w cell W l (moves (subst IsGoing (sym at) tt))

  pub ply_nears : (o d cell : ℕ) (v w : Worker) (W : Word) (s : Stage) → place v.trail ≡ ply o d → IsLoaded v cell W w
      → StandsAt h (from_ply d W) s → Nears v w s
  ply_nears o d cell v w W s is l at = nears v w cell W (ply o d) s is l (λ g. (ply_moves d W g).0) at

  pub balance_nears : (o n cell : ℕ) (v w : Worker) (W : Word) (s : Stage) → place v.trail ≡ balance o n → IsLoaded v cell W w
      → StandsAt h (from_balance n W) s → Nears v w s
  balance_nears o n cell v w W s is l at = nears v w cell W (balance o n) s is l (λ g. (balance_moves n W g).0) at
