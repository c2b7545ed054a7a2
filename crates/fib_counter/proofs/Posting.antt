-- Posts before and after their work.
use Rattle.std.proofs.Common.{◌≡◌, ◌<◌, ◌+◌, ◌++◌, ◌∷◌, [], ℕ, List, zero, suc, length, true, arith, refl, ap, ◌∙◌, sym}
use Rattle.std.specs.Prelude.{All, map, slice_index_or}
use Rattle.std.specs.List.{AllByRecursion}
use Rattle.std.proofs.lemmas.List.{append_assoc, append-nil, length-map, map-append}
use Rattle.std.proofs.lemmas.List.Elements.{All-cons, All-head, All-nil, All-tail}
use Rattle.fib_base_list.proofs.Lists.{each-append}
use Rattle.fib_capture.specs.declared.packet.Packet.{Packet}
use Rattle.fib_core_board.specs.Boards.{Board}
use Rattle.fib_rounds_homing.specs.Stations.{AreBack, HasDone, IsCrew, IsReady}
use Rattle.fib_rounds_homing.specs.declared.station.Station.{Station}
use Rattle.fib_rounds_homing.proofs.Mustering.{back_all}
use Rattle.fib_counter.specs.declared.posts.Post.{Post}
use Rattle.fib_counter.specs.inner.Posts.{HasCounted, HasWorkedPost, IsCountedPost, IsFreshPost, IsReadyPost, counted_by, results_by, station_of, words_of}

-- the stations are ready, and so are their posts
pub ready_posts : (k count : ℕ) (posts : List Post) → All (IsReady k count) (map station_of posts) → All (IsReadyPost k count) posts
ready_posts k count [] h = All-nil (IsReadyPost k count)
ready_posts k count (p ∷ posts) h =
    All-cons (IsReadyPost k count) p posts (All-head (IsReady k count) p.station (map station_of posts) h) (ready_posts k count posts (All-tail (IsReady k count) p.station (map station_of posts) h))

-- one post more
pub fresh_more : (id : List ℕ) (posts : List Post) (p : Post) → AllByRecursion (IsFreshPost id) posts → IsFreshPost id p → AllByRecursion (IsFreshPost id) (posts ++ p ∷ [])
fresh_more id posts p h one = each-append (IsFreshPost id) posts (p ∷ []) h (one, tt)

abbrev AllWorked : ℕ → ℕ → ℕ → List Packet → List Post → List Post → Type 0
AllWorked k first base taken before after = (i : ℕ) (d : Post) → i < length before → HasWorkedPost k first base taken (slice_index_or before i d) (slice_index_or after i d)

counted_one : (id : List ℕ) (k first base : ℕ) (taken : List Packet) (p q : Post) → IsFreshPost id p → HasWorkedPost k first base taken p q → IsCountedPost id q
counted_one id k first base taken p q fresh work = record {
  id = work.id ∙ fresh.id;
  words = λ yes. work.counted yes ∙ ap (λ ws. ws ++ words_of (results_by q.station.frames.items)) fresh.none;
}

-- after the work each seat has counted what its post says
pub counted_all : (id : List ℕ) (k first base : ℕ) (taken : List Packet) (before after : List Post) → AllByRecursion (IsFreshPost id) before → length after ≡ length before
    → AllWorked k first base taken before after → AllByRecursion (IsCountedPost id) after
counted_all id k first base taken before [] fresh len each = tt
counted_all id k first base taken [] (q ∷ after) fresh len each = absurd (omega (arith, len))
counted_all id k first base taken (p ∷ before) (q ∷ after) fresh len each = (
  counted_one id k first base taken p q fresh.0 (each 0 p (omega arith)),
  counted_all id k first base taken before after fresh.1 (omega (arith, len)) (λ i d lt. each (suc i) d (omega (arith, lt))),
)

-- and the stations have their workers back
pub back_posts : (b : Board) (k first base at : ℕ) (taken : List Packet) (before after : List Post) → IsCrew b at (map station_of before) → length after ≡ length before
    → AllWorked k first base taken before after → AreBack b.id b.rests k first base at taken (map station_of after)
back_posts b k first base at taken [] [] crew len each = tt
back_posts b k first base at taken [] (q ∷ after) crew len each = absurd (omega (arith, len))
back_posts b k first base at taken (p ∷ before) [] crew len each = absurd (omega (arith, len))
back_posts b k first base at taken (p ∷ before) (q ∷ after) crew len each = (
  (back_all b k first base at taken (p.station ∷ []) (q.station ∷ []) (crew.0, tt) refl (λ i d lt. one i d lt)).0,
  back_posts b k first base (at + 1) taken before after crew.1 (omega (arith, len)) (λ i d lt. each (suc i) d (omega (arith, lt))),
)
  where
    here : HasDone k first base taken p.station q.station
    here = (each 0 p (omega arith)).station

    one : (i : ℕ) (d : Station) → i < length (p.station ∷ []) → HasDone k first base taken (slice_index_or (p.station ∷ []) i d) (slice_index_or (q.station ∷ []) i d)
    one zero d lt = here
    one (suc i) d lt = absurd (omega (arith, lt))

-- ---- posts that are dismissed one by one

-- one post's words are home
pub tally_more : (old : List ℕ) (p : Post) (rest : List Post) → (old ++ p.seat.tally.words) ++ counted_by rest ≡ old ++ counted_by (p ∷ rest)
tally_more old p rest = append_assoc old p.seat.tally.words (counted_by rest)

pub stations_more : (crew : List Station) (p : Post) (rest : List Post) → (crew ++ p.station ∷ []) ++ map station_of rest ≡ crew ++ map station_of (p ∷ rest)
stations_more crew p rest = append_assoc crew (p.station ∷ []) (map station_of rest)

pub mustered_more : (posts : List Post) (p : Post) (s : Station) (rest all : List Station) → p.station ≡ s → map station_of posts ++ s ∷ rest ≡ all → map station_of (posts ++ p ∷ []) ++ rest ≡ all
mustered_more posts p s rest all is h =
    ap (λ xs. xs ++ rest) (map-append station_of posts (p ∷ [])) ∙ (append_assoc (map station_of posts) (p.station ∷ []) rest ∙ (ap (λ x. map station_of posts ++ x ∷ rest) is ∙ h))

-- nothing is left
pub none_left : {A : Type 0} (xs ys all : List A) → xs ++ ys ≡ all → ys ≡ [] → xs ≡ all
none_left xs ys all h none = sym (ap (λ zs. xs ++ zs) none ∙ append-nil xs) ∙ h

-- the post says that it counted, and its station that it came to the end
pub counted_by_says : (id : List ℕ) (p : Post) → IsCountedPost id p → p.counted ≡ true → p.station.done ≡ true → HasCounted p
counted_by_says id p h counted done = record { done = done; words = h.words counted }

-- what all seats brought home, where none had counted before
pub counted_home : (posts after : List Post) (old new : List ℕ) → posts ≡ after → old ≡ [] → new ≡ old ++ counted_by posts → new ≡ counted_by after
counted_home posts after old new same none h = h ∙ (ap (λ t. t ++ counted_by posts) none ∙ ap counted_by same)

-- as many seats come home as left
pub all_home : (posts after before : List Post) (crew : List Station) (start sent home : ℕ) → posts ≡ after → length after ≡ length before → map station_of before ≡ crew
    → start ≡ 0 → sent ≡ start + length crew → home + length posts ≡ sent → home ≡ 0
all_home posts after before crew start sent home same len stations none out back =
    let here = ap length same in
    let mustered = sym (length-map before station_of) ∙ ap length stations in
    omega (arith, here, len, mustered, none, out, back)
