-- What seats brought home counts as all results do, and these as resolution over the tables.
use Rattle.std.proofs.Common.{◌≡◌, ◌<◌, ◌≤◌, ◌+◌, ◌-◌, ◌*◌, ◌++◌, ◌∷◌, [], ℕ, List, length, take, arith, refl, ap, ◌∙◌, sym, subst, Option, Some}
use Rattle.std.specs.Prelude.{map, slice_get, slice_index_or}
use Rattle.std.specs.List.{AllByRecursion}
use Rattle.std.proofs.lemmas.List.{drop_all, map-append}
use Rattle.std.proofs.lemmas.List.Elements.{filter-append}
use Rattle.fib_resolve.specs.Resolution.{resolve}
use Rattle.fib_resolve.specs.declared.types.Tables.{Tables}
use Rattle.fib_core_results.specs.declared.record.Record.{Record}
use Rattle.fib_capture.specs.declared.packet.Packet.{Packet}
use Rattle.fib_capture.specs.declared.packet.Packet.TheVariants.{Flow, NotIpv4, BadHeader}
use Rattle.fib_core.specs.Trails.{Trail, place}
use Rattle.fib_core.specs.Walk.{end_at}
use Rattle.fib_core_lawful.specs.Claims.{times}
use Rattle.fib_core_board.specs.Boards.{Board}
use Rattle.fib_worker_crew.specs.Claims.{IsDrawnOnce}
use Rattle.fib_worker_crew.specs.Frames.{frame, frames}
use Rattle.fib_worker_crew.specs.Packets.{IsOf, Matched, span}
use Rattle.fib_worker_crew.specs.Results.{Kept, Told, results_of}
use Rattle.fib_worker_crew.specs.Work.{results_in, steps_of}
use Rattle.fib_worker_crew.specs.declared.claims.Frame.{Frame}
use Rattle.fib_counts.specs.Counts.{word_of}
use Rattle.fib_rounds_homing.specs.Homes.{IsHome, claimed, claims_of}
use Rattle.fib_rounds_homing.specs.Places.{joined, parts_of}
use Rattle.fib_rounds_homing.specs.Stations.{AreBack, IsBack, past_of, pasts_of}
use Rattle.fib_rounds_homing.proofs.Drawing.{drawn_counts}
use Rattle.fib_rounds.specs.Closed.{ends_over}
use Rattle.fib_rounds.specs.Packets.{answers}
use Rattle.fib_rounds.proofs.Quiet.{all_settled}
use Rattle.fib_rounds.proofs.Rounding.{all_answered}
use Rattle.fib_counter.specs.CountOutput.{class_count}
use Rattle.fib_counter.specs.declared.posts.Post.{Post}
use Rattle.fib_counter.specs.inner.Posts.{HasCounted, counted_by, end_word, is_word, kept_words, results_by, station_of}
use Rattle.fib_counter.proofs.Tallying.{times_count, times_kept}

-- ---- trails and their results

abbrev trail_word : Trail → ℕ
trail_word t = word_of (end_at (place t.loads))

told_words : (ts : List Trail) (rs : List Record) → Told ts rs → map end_word rs ≡ map trail_word ts
told_words [] [] told = refl
told_words [] (r ∷ rs) told = absurd told
told_words (t ∷ ts) [] told = absurd told
told_words (t ∷ ts) (r ∷ rs) told = both (end_word r) (trail_word t) (map end_word rs) (map trail_word ts) (ap end_word told.0.result) (told_words ts rs told.1)
  where
    both : (x y : ℕ) (xs ys : List ℕ) → x ≡ y → xs ≡ ys → x ∷ xs ≡ y ∷ ys
    both x y xs ys e es = cc

results_of_steps : (fs : List Frame) → results_in (steps_of fs) ≡ results_by fs
results_of_steps [] = refl
results_of_steps (f ∷ fs) = ap (λ rs. results_of f.results.list ++ rs) (results_of_steps fs)

-- ---- what the seats counted

some_same : {A : Type 0} {x y : A} → Some x ≡ Some y → x ≡ y
some_same e = cc

-- one seat counted the ends of its worker's trails
post_words : (words rests : List ℕ) (k first base number : ℕ) (taken : List Packet) (p : Post) → IsBack words rests k first base number taken p.station → HasCounted p
    → p.seat.tally.words ≡ kept_words (map trail_word (past_of p.station.worker))
post_words words rests k first base number taken p back counted =
    let worked = back.back.worked counted.done in
    let past : back.worker.worker.past ≡ worked.trails = worked.past ∙ ap (λ ts. ts ++ worked.trails) back.new.past in
    let told : map end_word (results_by p.station.frames.items) ≡ map trail_word worked.trails =
    ap (map end_word) (sym (results_of_steps p.station.frames.items)) ∙ told_words worked.trails (results_in (steps_of p.station.frames.items)) worked.told in
    counted.words ∙ ap kept_words (told ∙ ap (map trail_word) (sym past ∙ ap past_of (sym back.has)))

posts_words : (words rests : List ℕ) (k first base at : ℕ) (taken : List Packet) (posts : List Post) → AreBack words rests k first base at taken (map station_of posts)
    → AllByRecursion HasCounted posts → counted_by posts ≡ kept_words (map trail_word (pasts_of (map station_of posts)))
posts_words words rests k first base at taken [] back counted = refl
posts_words words rests k first base at taken (p ∷ posts) back counted =
    let here = past_of p.station.worker in
    let there = pasts_of (map station_of posts) in
    ap (λ ws. ws ++ counted_by posts) (post_words words rests k first base at taken p back.0 counted.0)
    ∙ (ap (λ ws. kept_words (map trail_word here) ++ ws) (posts_words words rests k first base (at + 1) taken posts back.1 counted.1)
    ∙ sym (ap kept_words (map-append trail_word here there) ∙ filter-append is_word (map trail_word here) (map trail_word there)))

-- ---- what resolution says

ends_settled : (k : ℕ) (S : Tables) (ps : List Packet) → map end_word (answers k S ps) ≡ map word_of (ends_over S ps)
unfolding answers
ends_settled k S [] = refl
ends_settled k S (NotIpv4 ∷ ps) = ends_settled k S ps
ends_settled k S (BadHeader ∷ ps) = ends_settled k S ps
ends_settled k S (Flow a h ∷ ps) = ap (λ ws. word_of (resolve S a h) ∷ ws) (ends_settled k S ps)

-- ---- the parts that claims name

none_matched : (ps : List Packet) (rs : List Record) → Matched IsOf ps rs → ps ≡ [] → rs ≡ []
none_matched [] [] m e = refl
none_matched [] (r ∷ rs) m e = absurd m
none_matched (p ∷ ps) rs m e = absurd (cc)

frame_past : (taken : List Packet) (f : ℕ) → frames taken ≤ f → frame taken f ≡ []
frame_past taken f le = ap (take 256) (drop_all (256 * f) taken (omega (arith, le)))

enough_claims : (workers : ℕ) (taken : List Packet) → frames taken ≤ claims_of workers taken
enough_claims workers [] = omega arith
enough_claims workers (p ∷ taken) = omega arith

-- all packets are from the first to the last
pub span_all : (ps : List Packet) → span ps 0 (length ps) ≡ ps
span_all ps = ap (λ n. take n ps) (plain (length ps)) ∙ whole ps
  where
    plain : (n : ℕ) → n - 0 ≡ n
    plain n = omega arith

    whole : (xs : List Packet) → take (length xs) xs ≡ xs
    whole [] = refl
    whole (x ∷ xs) = ap (λ ys. x ∷ ys) (whole xs)

-- ---- all together

-- a was the board as the first worker left, b is it with all home
pub totals_are : (words rests : List ℕ) (k base workers w : ℕ) (S : Tables) (taken : List Packet) (a b : Board) (places : List (Option Kept)) (posts : List Post)
    → IsHome k 0 base workers taken a b places → AreBack words rests k 0 base 0 taken (map station_of posts) → AllByRecursion HasCounted posts
    → b.trails ≡ a.trails ++ pasts_of (map station_of posts) → a.trails ≡ [] → a.gathered ≡ [] → base ≡ 0 → IsDrawnOnce a.gathered → IsDrawnOnce b.gathered
    → slice_get b.log.history k ≡ Some S → length b.log.history ≡ k + 1 → w < 770
    → times w (counted_by posts) ≡ class_count S taken w
unfolding class_count
totals_are words rests k base workers w S taken a b places posts home back counted trails none gathered is before after newest count lt =
    let g = home.gathered in
    let results = joined (parts_of places) in
    let pasts : home.trails ≡ pasts_of (map station_of posts) =
    sym (ap (λ ts. ts ++ home.trails) none) ∙ (sym home.came ∙ (trails ∙ ap (λ ts. ts ++ pasts_of (map station_of posts)) none)) in
    let drawn : IsDrawnOnce (a.gathered ++ home.claims) = subst IsDrawnOnce home.brought after in
    let past_last : (m : ℕ) → length home.claims ≤ m → slice_index_or g.parts m [] ≡ [] = λ m le.
    none_matched (frame taken m) (slice_index_or g.parts m []) (g.each m) (frame_past taken m (let e = enough_claims workers taken in let c = g.count in omega (arith, le, e, c))) in
    let bottom : base ≡ length a.gathered = is ∙ sym (ap length gathered) in
    let parts : times w (map end_word (claimed base g.parts home.claims)) ≡ times w (map end_word (joined g.parts)) =
    ap (λ m. times w (map end_word (claimed m g.parts home.claims))) bottom ∙ drawn_counts end_word w g.parts a.gathered home.claims before drawn past_last in
    let settled : results ≡ answers k S taken = all_settled b.log.history k S taken results newest count (all_answered k b.log.history taken places home.answered) in
    ap (times w) (posts_words words rests k 0 base 0 taken posts back counted)
    ∙ (times_kept w (map trail_word (pasts_of (map station_of posts))) lt
    ∙ (ap (λ ts. times w (map trail_word ts)) (sym pasts)
    ∙ (ap (times w) (sym (told_words home.trails (claimed base g.parts home.claims) g.told))
    ∙ (parts
    ∙ (ap (λ rs. times w (map end_word rs)) (sym g.whole ∙ settled)
    ∙ (ap (times w) (ends_settled k S taken)
    ∙ times_count w (ends_over S taken)))))))
