-- What a plane asks of a store follows from what is asked by the view.
use Rattle.std.proofs.Common.{arith, ◌≡◌, ◌≢◌, ℕ, zero, suc, ◌+◌, ◌*◌, ◌%◌, ◌/◌, ◌^◌, ◌<◌, ◌≤◌, ◌⊎◌, inl, inr, Bool, true, false, List, length, Option, Some, None, refl, sym, ◌∙◌, ap, subst}
use Rattle.std.specs.Prelude.{IfSome, nat_lt, if◌then◌else◌}
use Rattle.std.proofs.lemmas.Bool.{true≢false}
use Rattle.std.proofs.lemmas.Option.{slice_get_within}
use Rattle.fib_addr.specs.Prefixes.{nibble}
use Rattle.fib_reach.specs.Walks.{Walk}
use Rattle.fib_resolve.specs.declared.types.End.{End}
use Rattle.fib_resolve.specs.declared.types.End.TheVariants as answers
use Rattle.fib_union.specs.Unions.{owner}
use Rattle.fib_core.specs.declared.word.Word.{Word}
use Rattle.fib_core.specs.declared.word.Word.TheVariants as words
use Rattle.fib_core.specs.Words.{IsRoomy, decoded, encoded, goes, tag_of, target, value_of}
use Rattle.fib_core.specs.Walk.{after, balance, deeper, end_at, from_balance, from_ply, halved, ply, root, walk, word_at}
use Rattle.fib_core.specs.Walk as walks
use Rattle.fib_core.specs.Union as core
use Rattle.fib_core.specs.Union.{HasForm, IsAdjacencyWord, IsBucketWord, IsPlyWord, PlyEdge}
use Rattle.fib_core.specs.Trails as trails
use Rattle.fib_core.specs.StandsFor.{mac_word}
use Rattle.fib_core.proofs.Numbers.{decoded_encoded, goes_of, owner_of, target_of}
use Rattle.fib_core.proofs.Walks.{after_ended}
use Rattle.fib_pool.specs.declared.object.AdjacencyRecord.{AdjacencyRecord}
use Rattle.fib_core_steady.specs.Names.{Names, IsChild}
use Rattle.fib_core_steady.specs.Rooted.{IsRootedStore}
use Rattle.fib_core_steady.proofs.Lists.{place_of}
use Rattle.fib_core_rule.specs.Change.{MayEnter}
use Rattle.fib_core_rule.specs.Steady.{MayStoreSteadily, versions}
use Rattle.fib_core_steady.proofs.Blocks.{nibble_small}
use Rattle.fib_core_board.specs.Boards.{Board, as_control, word_in}
use Rattle.fib_core_board.specs.May as may
use Rattle.fib_core_board.specs.May.{MayChange}
use Rattle.fib_plane.specs.Planes.{Plane, Holds}
use Rattle.fib_plane.specs.Sound as sound
use Rattle.fib_plane.specs.Sound.{IsInRange, record_word}
use Rattle.fib_plane_view.specs.View.{View, Goes, HasKind, IsPlane, IsRecord, IsStanding, adjacency_end, leads}
use Rattle.fib_plane_view.specs.Promise as joined
use Rattle.fib_plane_view.specs.Promise.{EndsIn, HasPaths, IsStill, KeepsRooted, Serves}
use Rattle.fib_plane.specs.Views.{promise_of, view_of}
use Rattle.fib_plane.proofs.Views.Seeing.{cell_down, cell_is, edge_leads, goes_up, held_down, record_down}
use Rattle.fib_plane.proofs.Views.Promising.{adjacency_same, promised_down}
use Rattle.fib_plane.proofs.Views.Storing.{After, fits_bucket, fits_ply, stored_view}

-- a record's words have the form of an adjacency
mac_form : (m : Option ℕ) → IfSome m (λ n. n < 2 ^ 48) → IsAdjacencyWord 2 (mac_word m)
mac_form None h = record { plain = refl; below = omega arith }
mac_form (Some m) h = record { plain = refl; below = (let small = h in omega arith) }

record_form : (r : AdjacencyRecord) → IsInRange r → (t : ℕ) → IsAdjacencyWord t (record_word r t)
record_form r range zero = record { plain = refl; below = range.interface }
record_form r range (suc zero) = record { plain = refl; below = range.next_hop }
record_form r range (suc (suc zero)) = mac_form r.mac range.mac
record_form r range (suc (suc (suc t))) = refl

tag_ply : (w : Word) → tag_of w ≡ 3 → (c : ℕ) × (w ≡ words.ToPly c)
tag_ply words.Drop e = absurd (let bad : ⊥ = omega arith in bad)
tag_ply words.Receive e = absurd (let bad : ⊥ = omega arith in bad)
tag_ply (words.Glean i) e = absurd (let bad : ⊥ = omega arith in bad)
tag_ply (words.ToPly c) e = (c, refl)
tag_ply (words.ToBalance o) e = absurd (let bad : ⊥ = omega arith in bad)
tag_ply (words.ToAdjacency o) e = absurd (let bad : ⊥ = omega arith in bad)
tag_ply (words.Plain n) e = absurd (let bad : ⊥ = omega arith in bad)

-- an end of a version is one of the history's
ends_of : (b : Board) → length b.log.history ≡ b.log.version.applied + 1 → (e : End) → joined.IsEndOf (promise_of b) e → trails.IsEndOf b.log.history b.log.version.settled b.log.version.applied e
ends_of b long e (S, there, end) =
    let at = place_of b.log.history b.log.version.settled S there in
    let far = slice_get_within b.log.history at.0 S at.2 in
    record { version = at.0; tables = S; from = at.1; to = omega arith; held = at.2; end = end }

module _ (p : Plane) (told : sound.IsPlane p) (was : IsPlane (view_of p)) where
  abbrev u : View
  u = view_of p

  edge_at : (j v : ℕ) → core.Goes p.board.union j v → (w : Word) → decoded v ≡ w → Goes u (owner j) (j % 16) w
  edge_at j v g w is = subst (λ (a : Word). Goes u (owner j) (j % 16) a) is (goes_up p j v g)

  -- an edge has the kind of the one with the same target
  same_tag : (x y t o : ℕ) (a z : Word) → leads a o → leads z o → Goes u y t a → HasKind u x z → tag_of a ≡ tag_of z
  same_tag x y t o (words.ToPly c) (words.ToPly d) la lz g h = refl
  same_tag x y t o (words.ToPly c) (words.ToBalance d) la lz g h = absurd (true≢false (sym (was.kinds.ply y t c g).1 ∙ (ap u.is_ply (la ∙ sym lz) ∙ h.1)))
  same_tag x y t o (words.ToPly c) (words.ToAdjacency d) la lz g h = absurd (true≢false (sym (was.kinds.ply y t c g).1 ∙ (ap u.is_ply (la ∙ sym lz) ∙ (was.records h.1.0 d h.1.1).1)))
  same_tag x y t o (words.ToPly c) words.Drop la lz g h = absurd lz
  same_tag x y t o (words.ToPly c) words.Receive la lz g h = absurd lz
  same_tag x y t o (words.ToPly c) (words.Glean i) la lz g h = absurd lz
  same_tag x y t o (words.ToPly c) (words.Plain n) la lz g h = absurd lz
  same_tag x y t o (words.ToBalance c) (words.ToPly d) la lz g h = absurd (true≢false (sym h.1 ∙ (ap u.is_ply (lz ∙ sym la) ∙ (was.kinds.balance y t c g).0)))
  same_tag x y t o (words.ToBalance c) (words.ToBalance d) la lz g h = refl
  same_tag x y t o (words.ToBalance c) (words.ToAdjacency d) la lz g h = absurd ((was.kinds.balance y t c g).1 (subst (IsRecord u) (lz ∙ sym la) h.1))
  same_tag x y t o (words.ToBalance c) words.Drop la lz g h = absurd lz
  same_tag x y t o (words.ToBalance c) words.Receive la lz g h = absurd lz
  same_tag x y t o (words.ToBalance c) (words.Glean i) la lz g h = absurd lz
  same_tag x y t o (words.ToBalance c) (words.Plain n) la lz g h = absurd lz
  same_tag x y t o (words.ToAdjacency c) (words.ToPly d) la lz g h = absurd (true≢false (sym h.1 ∙ (ap u.is_ply (lz ∙ sym la) ∙ (was.kinds.adjacency y t c g).0)))
  same_tag x y t o (words.ToAdjacency c) (words.ToBalance d) la lz g h = absurd (true≢false (sym h.0 ∙ (ap u.is_held (lz ∙ sym la) ∙ (was.kinds.adjacency y t c g).1)))
  same_tag x y t o (words.ToAdjacency c) (words.ToAdjacency d) la lz g h = refl
  same_tag x y t o (words.ToAdjacency c) words.Drop la lz g h = absurd lz
  same_tag x y t o (words.ToAdjacency c) words.Receive la lz g h = absurd lz
  same_tag x y t o (words.ToAdjacency c) (words.Glean i) la lz g h = absurd lz
  same_tag x y t o (words.ToAdjacency c) (words.Plain n) la lz g h = absurd lz
  same_tag x y t o words.Drop z la lz g h = absurd la
  same_tag x y t o words.Receive z la lz g h = absurd la
  same_tag x y t o (words.Glean i) z la lz g h = absurd la
  same_tag x y t o (words.Plain n) z la lz g h = absurd la

  -- and what it leads to has the form
  has_form : (x : ℕ) (z : Word) → HasKind u x z → (y : ℕ) → leads z y → (t : ℕ) → t < 16 → HasForm z t (u.cell y t)
  has_form x (words.ToPly c) h y l t lt = subst (λ (i : ℕ). IsPlyWord (u.cell i t)) l (h.2 t lt)
  has_form x (words.ToBalance o) h y l t lt = subst (λ (i : ℕ). IsBucketWord (u.cell i t)) l (was.buckets o t h lt)
  has_form x (words.ToAdjacency o) h y l t lt =
      let k = record_down p.records told.interned h.1.0 o h.1.1 in
      let is : u.cell o t ≡ record_word k.0.content t = cell_is p.board o t lt ∙ told.records.words o t k.0 k.1 lt in
      subst (λ (i : ℕ). IsAdjacencyWord t (u.cell i t)) l (subst (IsAdjacencyWord t) (sym is) (record_form k.0.content (told.records.ranges o k.0 k.1) t))
  has_form x words.Drop h y l t lt = tt
  has_form x words.Receive h y l t lt = tt
  has_form x (words.Glean i) h y l t lt = tt
  has_form x (words.Plain n) h y l t lt = tt

  -- by its names a ply lies where its edges say
  module _ (n : Names) (paths : HasPaths n u) where
    edge_depth : (a c : ℕ) → PlyEdge p.board.union a c → (n.depth c ≡ n.depth a + 1) × (n.depth c ≤ 7)
    edge_depth a c (k, w, from, is, g) = (let child = paths.paths (owner k) (k % 16) c (edge_at k w g (words.ToPly c) is) in (child.0 ∙ ap (λ (i : ℕ). n.depth i + 1) from, child.2))

    walk_depth : (m a c : ℕ) → n.depth a ≤ 7 → Walk (PlyEdge p.board.union) m a c → (n.depth c ≡ n.depth a + m) × (n.depth c ≤ 7)
    walk_depth zero a c low w = (let none : n.depth a ≡ n.depth a + 0 = omega arith in (ap n.depth (sym w) ∙ none, subst (λ (i : ℕ). n.depth i ≤ 7) w low))
    walk_depth (suc m) a c low w =
        let first = edge_depth a w.0 w.1 in
        let rest = walk_depth m w.0 c first.1 w.2 in
        let e : n.depth w.0 ≡ n.depth a + 1 = first.0 in
        let f : n.depth c ≡ n.depth w.0 + m = rest.0 in
        (omega arith, rest.1)

    shallow : (x s c i j y : ℕ) → IsChild n x s c → Walk (PlyEdge p.board.union) i 0 x → Walk (PlyEdge p.board.union) j c y → i + 1 + j ≤ 7
    shallow x s c i j y child above below =
        let top : n.depth 0 ≡ 0 = paths.root.0 in
        let low : n.depth 0 ≤ 7 = omega arith in
        let to : n.depth x ≡ n.depth 0 + i = (walk_depth i 0 x low above).0 in
        let next : n.depth c ≡ n.depth x + 1 = child.0 in
        let far = walk_depth j c y child.2 below in
        let end : n.depth y ≡ n.depth c + j = far.0 in
        let most : n.depth y ≤ 7 = far.1 in
        omega arith

  module _ (x s : ℕ) (lt : s < 16) (standing : IsStanding u x) where
    own : owner (16 * x + s) ≡ x
    own = owner_of x s lt

    no_adjacency : u.is_ply x ≡ false → u.is_held x ≡ false → ⊥
    no_adjacency flat loose = by_standing standing
      where
        by_standing : IsStanding u x → ⊥
        by_standing (inl top) = true≢false (sym was.root.0 ∙ (ap u.is_ply (sym top) ∙ flat))
        by_standing (inr held) = true≢false (sym held ∙ loose)

    module _ (z : Word) (kind : HasKind u x z) where
      form : (j v : ℕ) → core.Goes p.board.union j v → target v ≡ owner (16 * x + s) → HasForm (decoded v) ((16 * x + s) % 16) z
      form j v g to = by_word (decoded v) refl
        where
          by_word : (w : Word) → decoded v ≡ w → HasForm w ((16 * x + s) % 16) z
          by_word (words.ToPly c) is = (let here : c ≡ x = sym (target_of v (words.ToPly c) is) ∙ (to ∙ own) in fits_ply u x z (ap u.is_ply (sym here) ∙ (was.kinds.ply (owner j) (j % 16) c (edge_at j v g (words.ToPly c) is)).1) kind)
          by_word (words.ToBalance c) is = (let here : c ≡ x = sym (target_of v (words.ToBalance c) is) ∙ (to ∙ own) in fits_bucket u x z (ap u.is_ply (sym here) ∙ (was.kinds.balance (owner j) (j % 16) c (edge_at j v g (words.ToBalance c) is)).0) kind)
          by_word (words.ToAdjacency c) is =
              let here : c ≡ x = sym (target_of v (words.ToAdjacency c) is) ∙ (to ∙ own) in
              let k = was.kinds.adjacency (owner j) (j % 16) c (edge_at j v g (words.ToAdjacency c) is) in
              absurd (no_adjacency (ap u.is_ply (sym here) ∙ k.0) (ap u.is_held (sym here) ∙ k.1))
          by_word words.Drop is = tt
          by_word words.Receive is = tt
          by_word (words.Glean i) is = tt
          by_word (words.Plain n) is = tt

      whole : (j v o : ℕ) → core.Goes p.board.union j v → decoded v ≡ words.ToAdjacency o → owner (16 * x + s) ≢ o
      whole j v o g is same =
          let here : o ≡ x = sym same ∙ own in
          let k = was.kinds.adjacency (owner j) (j % 16) o (edge_at j v g (words.ToAdjacency o) is) in
          no_adjacency (ap u.is_ply (sym here) ∙ k.0) (ap u.is_held (sym here) ∙ k.1)

      top_word : owner (16 * x + s) ≡ 0 → IsPlyWord z ⊎ (z ≡ words.Drop)
      top_word top = inl (fits_ply u x z (ap u.is_ply (sym own ∙ top) ∙ was.root.0) kind)

      -- where an edge to a ply leaves
      from_ply_only : tag_of z ≡ 3 → (j v : ℕ) → core.Goes p.board.union j v → target v ≡ owner (16 * x + s) → tag_of (decoded v) ≡ 3
      from_ply_only tag j v g to =
          let c = tag_ply z tag in
          let is_ply : u.is_ply x ≡ true = (subst (HasKind u x) c.1 kind).0 in
          by_word is_ply (decoded v) refl
        where
          by_word : u.is_ply x ≡ true → (w : Word) → decoded v ≡ w → tag_of w ≡ 3
          by_word is_ply (words.ToPly c) is = refl
          by_word is_ply (words.ToBalance c) is = (let here : c ≡ x = sym (target_of v (words.ToBalance c) is) ∙ (to ∙ own) in absurd (true≢false (sym is_ply ∙ (ap u.is_ply (sym here) ∙ (was.kinds.balance (owner j) (j % 16) c (edge_at j v g (words.ToBalance c) is)).0))))
          by_word is_ply (words.ToAdjacency c) is = (let here : c ≡ x = sym (target_of v (words.ToAdjacency c) is) ∙ (to ∙ own) in absurd (true≢false (sym is_ply ∙ (ap u.is_ply (sym here) ∙ (was.kinds.adjacency (owner j) (j % 16) c (edge_at j v g (words.ToAdjacency c) is)).0))))
          by_word is_ply words.Drop is = absurd (true≢false (sym g.0 ∙ goes_of v words.Drop is))
          by_word is_ply words.Receive is = absurd (true≢false (sym g.0 ∙ goes_of v words.Receive is))
          by_word is_ply (words.Glean i) is = absurd (true≢false (sym g.0 ∙ goes_of v (words.Glean i) is))
          by_word is_ply (words.Plain n) is = absurd (true≢false (sym g.0 ∙ goes_of v (words.Plain n) is))

    -- where another edge leads no edge to a ply leaves
    no_ply_below : (z : Word) → HasKind u x z → (tag_of z ≡ 3 → ⊥) → (y : ℕ) → leads z y → u.is_ply y ≡ false
    no_ply_below (words.ToPly c) h ne y l = absurd (ne refl)
    no_ply_below (words.ToBalance o) h ne y l = ap u.is_ply (sym l) ∙ h.1
    no_ply_below (words.ToAdjacency o) h ne y l = ap u.is_ply (sym l) ∙ (was.records h.1.0 o h.1.1).1
    no_ply_below words.Drop h ne y l = absurd l
    no_ply_below words.Receive h ne y l = absurd l
    no_ply_below (words.Glean i) h ne y l = absurd l
    no_ply_below (words.Plain n) h ne y l = absurd l

    not_top : (n : Names) → (n.depth 0 ≡ 0) → (z : Word) → HasKind u x z → ((c : ℕ) → z ≡ words.ToPly c → IsChild n x s c) → (y : ℕ) → leads z y → y ≢ 0
    not_top n top (words.ToPly c) h child y l e =
        let ch : n.depth c ≡ n.depth x + 1 = (child c refl).0 in
        let same : n.depth c ≡ n.depth 0 = ap n.depth (l ∙ e) in
        absurd (let bad : ⊥ = omega arith in bad)
    not_top n top (words.ToBalance o) h child y l e = true≢false (sym h.0 ∙ (ap u.is_held (l ∙ e) ∙ was.root.1))
    not_top n top (words.ToAdjacency o) h child y l e = (let k = record_down p.records told.interned h.1.0 o h.1.1 in told.records.other o k.0 k.1 (l ∙ e))
    not_top n top words.Drop h child y l e = absurd l
    not_top n top words.Receive h child y l e = absurd l
    not_top n top (words.Glean i) h child y l e = absurd l
    not_top n top (words.Plain m) h child y l e = absurd l

    -- an edge may come
    module _ (z : Word) (roomy : IsRoomy z) (kind : HasKind u x z) (n : Names) (paths : HasPaths n u) (child : (c : ℕ) → z ≡ words.ToPly c → IsChild n x s c) where
      back : decoded (encoded z) ≡ z
      back = decoded_encoded z roomy

      to : target (encoded z) ≡ value_of z
      to = target_of (encoded z) z back

      tag : tag_of (decoded (encoded z)) ≡ tag_of z
      tag = ap tag_of back

      may_enter : goes (encoded z) ≡ true → MayEnter p.board.union (16 * x + s) (encoded z)
      may_enter going =
          let led : leads z (value_of z) = edge_leads z (value_of z) (sym (goes_of (encoded z) z back) ∙ going) refl in
          record {
            away = λ e. not_top n paths.root.0 z kind child (value_of z) led (sym to ∙ e);
            one_tag = λ j v g e. (
                let l : leads (decoded v) (value_of z) = edge_leads (decoded v) (value_of z) (sym (goes_of v (decoded v) refl) ∙ g.0) (sym (target_of v (decoded v) refl) ∙ (e ∙ to)) in
                same_tag x (owner j) (j % 16) (value_of z) (decoded v) z l led (edge_at j v g (decoded v) refl) kind ∙ sym tag);
            formed = λ t small. subst (λ (w : Word). HasForm w t (word_at p.board.union.cells (target (encoded z)) t)) (sym back)
                (subst (λ (i : ℕ). HasForm z t (word_at p.board.union.cells i t)) (sym to) (subst (HasForm z t) (cell_is p.board (value_of z) t small) (has_form x z kind (value_of z) led t small)));
            plies = λ three j v g e. from_ply_only z kind (sym tag ∙ three) j v g e;
            shallow = λ three i j y above below. (
                let c = tag_ply z (sym tag ∙ three) in
                let is : value_of z ≡ c.0 = ap value_of c.1 in
                shallow n paths x s c.0 i j y (child c.0 c.1) (subst (λ (a : ℕ). Walk (PlyEdge p.board.union) i 0 a) own above) (subst (λ (a : ℕ). Walk (PlyEdge p.board.union) j a y) (to ∙ is) below));
            others = λ ne j v g three same. (
                let c = tag_ply (decoded v) three in
                let is_ply : u.is_ply (owner j) ≡ true = (was.kinds.ply (owner j) (j % 16) c.0 (edge_at j v g (words.ToPly c.0) c.1)).0 in
                let flat : u.is_ply (value_of z) ≡ false = no_ply_below z kind (λ e. ne (tag ∙ e)) (value_of z) led in
                true≢false (sym is_ply ∙ (ap u.is_ply (same ∙ to) ∙ flat)));
          }

-- ends
ends_down : (p : Plane) → sound.IsPlane p → (z : Word) → EndsIn (promise_of p.board) (view_of p) z → walks.EndsIn (trails.IsEndOf p.board.log.history p.board.log.version.settled p.board.log.version.applied) p.board.union.cells z
ends_down p told words.Receive e = ends_of p.board told.board.history.long answers.Receive e
ends_down p told (words.Glean i) e = ends_of p.board told.board.history.long (answers.Glean i) e
ends_down p told (words.ToAdjacency o) e =
    let same : adjacency_end (view_of p) o ≡ walks.adjacency_end p.board.union.cells o = adjacency_same p.board (view_of p) (λ y t l. cell_is p.board y t l) (goes_up p) o in
    subst (trails.IsEndOf p.board.log.history p.board.log.version.settled p.board.log.version.applied) same (ends_of p.board told.board.history.long (adjacency_end (view_of p) o) e)
ends_down p told words.Drop e = tt
ends_down p told (words.ToPly c) e = tt
ends_down p told (words.ToBalance o) e = tt
ends_down p told (words.Plain n) e = tt

-- before the first change every walk ends in Drop
module _ (b : Board) (v : View) (cells : (x s : ℕ) → s < 16 → v.cell x s ≡ word_in b (16 * x + s)) (still : IsStill v) (a h : ℕ) where
  abbrev cs : List ℕ
  cs = b.union.cells

  empty_drops : (n o m : ℕ) → ((t : ℕ) → t < 16 → word_at cs o t ≡ words.Drop) → end_at (after cs a h n (balance o m)) ≡ answers.Drop
  empty_drops zero o m none = refl
  empty_drops (suc n) o m none = ap (λ (w : Word). end_at (after cs a h n (from_balance m w))) (none (halved h m % 16) (omega arith)) ∙ ap end_at (after_ended cs a h n answers.Drop)

  ply_drops : (n o d : ℕ) → end_at (after cs a h n (ply o d)) ≡ answers.Drop
  ply_drops zero o d = refl
  ply_drops (suc n) o d = by_word (λ c. ply_drops n c (suc d)) (word_at cs o (nibble a d)) refl
    where
      ended : end_at (after cs a h n (walks.ended answers.Drop)) ≡ answers.Drop
      ended = ap end_at (after_ended cs a h n answers.Drop)

      goes_deeper : (c : ℕ) → end_at (after cs a h n (ply c (suc d))) ≡ answers.Drop → (t : Bool) → end_at (after cs a h n (if t then ply c (suc d) else walks.ended answers.Drop)) ≡ answers.Drop
      goes_deeper c rest true = rest
      goes_deeper c rest false = ended

      by_word : ((c : ℕ) → end_at (after cs a h n (ply c (suc d))) ≡ answers.Drop) → (w : Word) → word_at cs o (nibble a d) ≡ w → end_at (after cs a h n (from_ply d (word_at cs o (nibble a d)))) ≡ answers.Drop
      by_word rest (words.ToPly c) is = ap (λ (w : Word). end_at (after cs a h n (from_ply d w))) is ∙ goes_deeper c (rest c) (nat_lt d 7)
      by_word rest (words.ToBalance c) is = ap (λ (w : Word). end_at (after cs a h n (from_ply d w))) is ∙ empty_drops n c 0 (λ t lt. sym (cells c t lt) ∙ still o (nibble a d) c t (inl (cells o (nibble a d) (nibble_small a d) ∙ is)) lt)
      by_word rest words.Drop is = ap (λ (w : Word). end_at (after cs a h n (from_ply d w))) is ∙ ended
      by_word rest words.Receive is = ap (λ (w : Word). end_at (after cs a h n (from_ply d w))) is ∙ ended
      by_word rest (words.Glean i) is = ap (λ (w : Word). end_at (after cs a h n (from_ply d w))) is ∙ ended
      by_word rest (words.ToAdjacency c) is = ap (λ (w : Word). end_at (after cs a h n (from_ply d w))) is ∙ ended
      by_word rest (words.Plain m) is = ap (λ (w : Word). end_at (after cs a h n (from_ply d w))) is ∙ ended

  still_drops : walk cs a h ≡ answers.Drop
  unfolding walk
  still_drops = ply_drops (length cs / 16 + 1) 0 0

-- a store of z whose view keeps the promise, for names for which it was kept
module _ (p : Plane) (told : sound.IsPlane p) (was : IsPlane (view_of p)) (x s : ℕ) (lt : s < 16) (inside : 16 * x + s < length p.board.union.cells) (z : Word) (roomy : IsRoomy z)
    (n : Names) (before : Serves (promise_of p.board) n (view_of p)) (later : Serves (promise_of p.board) n (stored_view p x s lt inside z roomy)) where
  abbrev b : Board
  b = p.board

  abbrev c : Board
  c = After p x s lt inside z roomy

  abbrev v : View
  v = stored_view p x s lt inside z roomy

  abbrev q : Plane
  q = record p { board = c }

  pub may_steadily : MayStoreSteadily (as_control b) (16 * x + s) (encoded z)
  may_steadily begun = (
    n,
    promised_down b (view_of p) (λ y t l. cell_is b y t l) (goes_up p) (versions b.log) n before.paths (before.promised begun),
    promised_down c v (λ y t l. cell_is c y t l) (goes_up q) (versions b.log) n later.paths (later.promised begun),
  )

  pub serves_stored : may.HoldsPromise c (Holds p)
  serves_stored begun = (
    n,
    promised_down c v (λ y t l. cell_is c y t l) (goes_up q) (versions b.log) n later.paths (later.promised begun),
    λ e o lasting is. (held_down b p.objects o ((later.promised begun).buckets.held e o lasting is).0).1,
  )

  rooted_down : KeepsRooted (view_of p) x s z → IsRootedStore b.union.cells (16 * x + s) (encoded z)
  rooted_down h = record {
    links = λ d is ne. (
        let l = h.links d (sym (decoded_encoded z roomy) ∙ is) (λ e. ne (owner_of x s lt ∙ e)) in
        let at = cell_down b l.0 l.1 (words.ToPly x) x refl l.2 in
        (16 * l.0 + l.1, at.1 ∙ ap (λ (i : ℕ). words.ToPly i) (sym (owner_of x s lt))));
    unlinks = λ d is. inl (λ j e from to. h.unlinks d (cell_is b x s lt ∙ is) (j % 16) e (ap (λ (i : ℕ). (view_of p).cell i (j % 16)) (sym from) ∙ (cell_is b (owner j) (j % 16) (omega arith) ∙ (ap (λ (i : ℕ). word_in b i) (let e : 16 * owner j + j % 16 ≡ j = omega arith in e) ∙ to))));
  }

  pub may_change : IsStanding (view_of p) x → HasKind (view_of p) x z → ((d : ℕ) → z ≡ words.ToPly d → IsChild n x s d) → KeepsRooted (view_of p) x s z → EndsIn (promise_of b) (view_of p) z → MayChange b (16 * x + s) z
  may_change standing kind child rooted end = record {
    roomy = roomy;
    root = top_word p told was x s lt standing z kind;
    form = form p told was x s lt standing z kind;
    whole = whole p told was x s lt standing z kind;
    edge = may_enter p told was x s lt standing z roomy kind n before.paths child;
    end = ends_down p told z end;
    drops = λ first a h flow. still_drops c v (λ y t l. cell_is c y t l) (later.still first) a h;
    steady = may_steadily;
    rooted = rooted_down rooted;
  }
