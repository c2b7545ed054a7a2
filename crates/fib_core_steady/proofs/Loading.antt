-- A load of a running pass: it stays on its packet's way.
use Rattle.std.proofs.Common.{◌≡◌, ◌≤◌, ◌<◌, ◌^◌, ◌/◌, ◌%◌, ℕ, suc, ◌+◌, ◌*◌, ◌-◌, List, [], ◌∷◌, Option, Some, refl, sym, ap, ◌∙◌, subst, arith}
use Rattle.std.specs.Prelude.{Contains, slice_get, slice_index, drop}
use Rattle.fib_addr.specs.Prefixes.{Prefix, nibble}
use Rattle.fib_resolve.specs.Pairs.{entries, best}
use Rattle.fib_resolve.specs.Resolution.{Step, Trip}
use Rattle.fib_resolve.specs.Tables.{IsSound}
use Rattle.fib_resolve.specs.declared.types.End.{End}
use Rattle.fib_resolve.specs.declared.types.End.TheVariants as answers
use Rattle.fib_resolve.specs.declared.types.Tables.{Tables}
use Rattle.fib_core.specs.declared.word.Word.{Word}
use Rattle.fib_core.specs.declared.word.Word.TheVariants as words
use Rattle.fib_core.specs.Words.{decoded}
use Rattle.fib_core.specs.Walk.{Place, ply, balance, adjacency, ended, asked, halved, next, deeper, from_ply, from_balance, word_at, adjacency_end, hop_of, ReadsWhole}
use Rattle.fib_core.specs.Union.{Union, Lies}
use Rattle.fib_core.specs.Trails.{Load, Walked, place, IsGoing, Follows}
use Rattle.fib_core_steady.specs.Aims.{way_from, shown, shown_by, IsLasting, WantsAlike, BestAlike}
use Rattle.fib_core_steady.specs.Names.{Names, IsIn}
use Rattle.fib_core_steady.specs.Promise.{IsEndWord, IsAimed, IsRight, IsPromised}
use Rattle.fib_core_steady.specs.Undisturbed.{WayAlike, IsOnWay}
use Rattle.fib_core_steady.proofs.Lists.{some_same, drop_at, at_drop}
use Rattle.fib_core_steady.proofs.Blocks.{below_next, nibble_small}
use Rattle.fib_core_steady.proofs.Ways.{way-from, begins, aim-shown, goes_on_at, best_is_entry, later}
use Rattle.fib_core_steady.proofs.Standing.{IsPlyOf, walked_depth, ply_here, flow, current_child}

mod_small : (n : ℕ) → n % 16 < 16
mod_small n = omega arith

-- a word that ends a packet where the way ends
end_word : (balances : Prefix → Option ℕ) (cells : List ℕ) (trip : Trip) (k : ℕ) (end : End) (w : Word) → end ≡ trip.end → IsEndWord (adjacency_end cells) end w → IsOnWay balances cells trip (from_balance k w)
end_word balances cells trip k answers.Drop w is word = subst (λ (z : Word). IsOnWay balances cells trip (from_balance k z)) (sym word) is
end_word balances cells trip k answers.Receive w is word = subst (λ (z : Word). IsOnWay balances cells trip (from_balance k z)) (sym word) is
end_word balances cells trip k (answers.Glean i) w is word = subst (λ (z : Word). IsOnWay balances cells trip (from_balance k z)) (sym word) is
end_word balances cells trip k (answers.Hop i a m) w is word = subst (λ (z : Word). IsOnWay balances cells trip (from_balance k z)) (sym word.1) (word.2 ∙ is)

-- a word that does what the way shows
shown_word : (balances : Prefix → Option ℕ) (cells : List ℕ) (trip : Trip) (k : ℕ) (w : Word) (step : Step) (steps : List Step) → drop (suc k) trip.steps ≡ steps → IsAimed balances (adjacency_end cells) (shown_by (step ∷ steps) trip.end) w → IsOnWay balances cells trip (from_balance k w)
shown_word balances cells trip k w step [] is word = end_word balances cells trip k trip.end w refl word
shown_word balances cells trip k w step (s ∷ steps) is word = subst (λ (z : Word). IsOnWay balances cells trip (from_balance k z)) (sym word.1) (s, at_drop trip.steps (suc k) s steps is, word.2)

module _ (J : List Tables) (now : Tables) (here : Contains J now) (sound : (S : Tables) → Contains J S → IsSound S) (a h : ℕ) (trip : Trip) (alike : WayAlike J a h trip) where
  -- the way from its so manieth entry on is one and the same in all versions
  pub from_entry : (k : ℕ) (step : Step) → slice_get trip.steps k ≡ Some step → (S : Tables) → Contains J S → (way_from S step.entry (halved h k) ≡ later k trip) × Contains (entries S) step.entry
  from_entry k step at S c =
      let e : trip ≡ way_from S (best S a) h = sym (alike S c) ∙ way-from S a h in
      let all = goes_on_at S (sound S c) k (best S a) h step (best_is_entry S a) (subst (λ (t : Trip). slice_get t.steps k ≡ Some step) e at) in
      (all.0 ∙ ap (later k) (sym e), all.1)

  pub lasting : (k : ℕ) (step : Step) → slice_get trip.steps k ≡ Some step → IsLasting J step.entry
  lasting k step at S c = (from_entry k step at S c).1

  pub wants_alike : (k : ℕ) (step : Step) → slice_get trip.steps k ≡ Some step → WantsAlike J step.entry (halved h k % 16) (shown_by (step ∷ drop (suc k) trip.steps) trip.end)
  wants_alike k step at S c = aim-shown S (sound S c) step.entry (halved h k) ∙ ap shown (from_entry k step at S c).0 ∙ ap (λ (steps : List Step). shown_by steps trip.end) (drop_at trip.steps k step at)

  -- the best entry is one and the same, and the way begins at it
  pub first_entry : (step : Step) × (slice_get trip.steps 0 ≡ Some step) × BestAlike J a step.entry
  first_entry =
      let b = begins now (sound now here) (best now a) h in
      let e : trip ≡ way_from now (best now a) h = sym (alike now here) ∙ way-from now a h in
      let step : Step = record { entry = best now a; taken = b.0 } in
      let at : slice_get trip.steps 0 ≡ Some step = ap (λ (t : Trip). slice_get t.steps 0) e ∙ ap (λ (s : List Step). slice_get s 0) b.2 in
      (step, at, λ S c. same S c step at)
    where
      same : (S : Tables) → Contains J S → (step : Step) → slice_get trip.steps 0 ≡ Some step → best S a ≡ step.entry
      same S c step at =
          let b = begins S (sound S c) (best S a) h in
          let e : trip ≡ way_from S (best S a) h = sym (alike S c) ∙ way-from S a h in
          let there : slice_get trip.steps 0 ≡ Some (record { entry = best S a; taken = b.0 }) = ap (λ (t : Trip). slice_get t.steps 0) e ∙ ap (λ (s : List Step). slice_get s 0) b.2 in
          ap (λ (s : Step). s.entry) (some_same (record { entry = best S a; taken = b.0 }) step (slice_get trip.steps 0) there at)

  module _ (n : Names) (u : Union) (ok : IsPromised J n u) where
    -- first point: a load of a bucket
    at_balance : (x k : ℕ) → IsOnWay n.balance u.cells trip (balance x k) → IsOnWay n.balance u.cells trip (from_balance k (word_at u.cells x (halved h k % 16)))
    at_balance x k stands =
        let step : Step = stands.0 in
        shown_word n.balance u.cells trip k (word_at u.cells x (halved h k % 16)) step (drop (suc k) trip.steps) refl
        (ok.buckets.aimed step.entry x (halved h k % 16) (shown_by (step ∷ drop (suc k) trip.steps) trip.end) (lasting k step stands.1) stands.2 (mod_small (halved h k)) (wants_alike k step stands.1))

    -- second point: a load of a ply's cell
    at_ply : (x d : ℕ) → a < 2 ^ 32 → IsPlyOf n u a (ply x d) → (w : Word) → ((c : ℕ) → w ≡ words.ToPly c → IsOnWay n.balance u.cells trip (deeper d c)) → IsRight J n x (nibble a d) w → IsOnWay n.balance u.cells trip (from_ply d w)
    at_ply x d fits p (words.ToPly y) down right = down y refl
    at_ply x d fits p (words.ToBalance y) down right =
        let first = first_entry in
        let deep : n.depth x ≡ d = p.1 in
        let le : d ≤ 7 = subst (λ (i : ℕ). i ≤ 7) deep (walked_depth J n u ok.plies a h x p.0) in
        let inside : IsIn n x (nibble a d) a = (fits, ap (λ i. a / 2 ^ (32 - 4 * (i + 1))) deep ∙ below_next a d (n.value x) le p.2) in
        (first.0, first.1, right a first.0.entry inside first.2)
    at_ply x d fits p words.Drop down right = absurd right
    at_ply x d fits p words.Receive down right = absurd right
    at_ply x d fits p (words.Glean i) down right = absurd right
    at_ply x d fits p (words.ToAdjacency y) down right = absurd right
    at_ply x d fits p (words.Plain m) down right = absurd right

    pub by_place : a < 2 ^ 32 → (at : Place) → IsGoing at → IsPlyOf n u a at → ReadsWhole u.cells at → IsOnWay n.balance u.cells trip at → IsOnWay n.balance u.cells trip (next at (decoded (slice_index u.cells (asked a h at))))
    by_place fits (ply x d) going p whole stands = at_ply x d fits p (word_at u.cells x (nibble a d)) (λ c is. down c is) (ok.plies.right x (nibble a d) p.0 (nibble_small a d))
      where
        down : (c : ℕ) → word_at u.cells x (nibble a d) ≡ words.ToPly c → IsOnWay n.balance u.cells trip (deeper d c)
        down c is = subst (IsOnWay n.balance u.cells trip) (sym (current_child J n u ok.plies a h x d c is p)) tt
    by_place fits (balance x k) going p whole stands = at_balance x k stands
    by_place fits (adjacency x []) going p whole stands = stands
    by_place fits (adjacency x (i ∷ [])) going p whole stands = stands
    by_place fits (adjacency x (i ∷ g ∷ [])) going p whole stands =
        ap (λ z. hop_of z g (word_at u.cells x 2)) (sym whole.0) ∙ ap (λ z. hop_of (word_at u.cells x 0) z (word_at u.cells x 2)) (sym whole.1) ∙ stands
    by_place fits (adjacency x (i ∷ g ∷ m ∷ more)) going p whole stands = absurd whole
    by_place fits (ended e) going p whole stands = absurd going

    pub load_on_way : (t : List Load) → Walked (Lies u) t → Follows a h t → IsGoing (place t) → ReadsWhole u.cells (place t) → IsOnWay n.balance u.cells trip (place t) → IsOnWay n.balance u.cells trip (next (place t) (decoded (slice_index u.cells (asked a h (place t)))))
    load_on_way t walked follows going whole stands = by_place (flow a h t follows).0 (place t) going (ply_here J n u ok.plies a h t walked follows) whole stands
