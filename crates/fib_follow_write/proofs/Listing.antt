-- Lists that get users and that lose them, one after the other.
use Rattle.std.proofs.Common.{arith, ◌≡◌, ◌≢◌, ℕ, ◌+◌, ◌<◌, Bool, true, false, List, [], ◌∷◌, Some, refl, sym, ◌∙◌, ap, subst, if◌then◌else◌}
use Rattle.std.specs.Prelude.{Contains, IsSome, count_by, option_map}
use Rattle.std.specs.Cmp.Lexicographic.{pointwise}
use Rattle.fib_base_list.proofs.Booleans.{unit_of, count_by-cons}
use Rattle.fib_resolve.specs.Keys.{same_path}
use Rattle.fib_resolve.specs.declared.types.FibSource.{FibSource}
use Rattle.fib_resolve.specs.declared.types.Path.{Path}
use Rattle.fib_base_interned.specs.Interned.{AreInterned, Gives, IsLastToGo, kept_of, untaken}
use Rattle.fib_entries_rows.specs.Known.{PathKept, content_of}
use Rattle.fib_entries_rows.specs.inner.Compare.{is_content}
use Rattle.fib_entries_rows.specs.inner.Fields.{AreCounted}
use Rattle.fib_entries_rows.specs.inner.Used.{has_content}
use Rattle.fib_entries_rows.proofs.Naming.{some_content}
use Rattle.fib_entries_rows.proofs.Placing.{some_list}
use Rattle.fib_entries_rows.proofs.Taking.{is_kept}
use Rattle.fib_entries_rows.proofs.Telling.{kept_some, one_number}
use Rattle.fib_entries_rows.proofs.Using.{counted_given, counted_taken, given_stays, once, recounted, taken_stays, unit_same}
use Rattle.fib_follow_write.specs.Steps.{AreTaken, Fit}
use Rattle.fib_follow_write.specs.Written.{GivesPairs, IsSpent, TakesLists, is_list, lists_of}
use Rattle.fib_follow_write.specs.inner.Stepped.{AreTakenFor, IsTaken}
use Rattle.fib_follow_write.specs.inner.Spent.{IsLeft}
use Rattle.fib_follow_write.specs.declared.plan.Listed.{Listed}
use Rattle.fib_follow_write.specs.declared.plan.Paired.{Paired}
use Rattle.fib_follow_write.proofs.Halves.{joined}

-- steps that ask nothing fit
pub free : {S W : Type 0} (fits : S → W → Type 0) (makes : S → W → W → Type 0) → ((s : S) (w : W) → fits s w) → (steps : List S) (w : W)
    → Fit fits makes steps w
free fits makes all [] w = tt
free fits makes all (s ∷ steps) w = (all s w, λ v m. free fits makes all steps v)

module _ (l : Listed) (before lists : List PathKept) (h : IsTaken l before lists) where
  taken_own : content_of lists h.id ≡ Some l.paths
  taken_own = ap (option_map (λ k. k.content)) h.taken.taken

  taken_number : (id : ℕ) → content_of lists id ≡ Some l.paths → h.id ≡ id
  taken_number id is = one_number lists h.apart h.id id l.paths taken_own is

  pub taken_there : (id : ℕ) → content_of lists id ≡ Some l.paths → IsSome (kept_of lists id)
  taken_there id is = subst (λ z. IsSome (kept_of lists z)) (taken_number id is) h.back.there

  pub taken_last : (id : ℕ) → content_of lists id ≡ Some l.paths → IsLastToGo lists id
  taken_last id is = subst (IsLastToGo lists) (taken_number id is) h.back.last

  -- what was taken is taken back
  pub taken_back : (new : List PathKept) (id : ℕ) → content_of lists id ≡ Some l.paths → new ≡ untaken id lists → new ≡ before
  taken_back new id is made = made ∙ (ap (λ z. untaken z lists) (sym (taken_number id is)) ∙ h.back.back)

  pub taken_found : ((k : PathKept) → Contains lists k → k.content ≢ l.paths) → ⊥
  taken_found none = (let k = kept_some lists h.id l.paths taken_own in none k.0 (is_kept lists h.id k.0 k.1) k.2)

once_is : (content paths : List Path) → unit_of (pointwise same_path content paths) ≡ once content paths
unfolding once
once_is content paths = bit (pointwise same_path content paths)
  where
    bit : (b : Bool) → unit_of b ≡ (if b then 1 else 0)
    bit true = refl
    bit false = refl

taken_count : (paths : List Path) (l : Listed) (ls : List Listed) → count_by (is_list paths) (l ∷ ls) ≡ once l.paths paths + count_by (is_list paths) ls
taken_count paths l ls = count_by-cons (is_list paths) l ls ∙ ap (λ n. n + count_by (is_list paths) ls) (once_is l.paths paths)

lists_taken : (ls : List Listed) (f : List Path → ℕ) (old new : List PathKept) → AreTaken IsTaken ls old new → AreCounted old f
    → AreCounted new (λ paths. f paths + count_by (is_list paths) ls) ×
    ((id : ℕ) (paths : List Path) → content_of old id ≡ Some paths → content_of new id ≡ Some paths)
lists_taken [] f old new t c = (
  subst (λ z. AreCounted z (λ paths. f paths + count_by (is_list paths) [])) (sym t)
      (recounted old f (λ paths. f paths + count_by (is_list paths) []) (λ paths. omega arith) c),
  λ id paths is. ap (λ z. content_of z id) t ∙ is,
)
lists_taken (l ∷ ls) f old new (mid, h, t) c =
    let own = counted_taken old mid l.paths h.id h.taken h.apart f c in
    let r = lists_taken ls (λ paths. f paths + once l.paths paths) mid new t own in (
      recounted new (λ paths. (f paths + once l.paths paths) + count_by (is_list paths) ls) (λ paths. f paths + count_by (is_list paths) (l ∷ ls))
          (λ paths. sums (f paths) (once l.paths paths) (count_by (is_list paths) ls) (count_by (is_list paths) (l ∷ ls)) (taken_count paths l ls)) r.0,
      λ id paths is. r.1 id paths (taken_stays old mid l.paths h.id h.taken h.apart f c id paths is),
    )
  where
    sums : (a b d e : ℕ) → e ≡ b + d → (a + b) + d ≡ a + e
    sums a b d e is = omega (arith, is)

flat : (bs : List Paired) (old new : List PathKept) → AreTaken AreTakenFor bs old new → AreTaken IsTaken (lists_of bs) old new
flat [] old new t = t
flat (b ∷ bs) old new t = joined IsTaken b.pairs (lists_of bs) old t.0 new t.1 (flat bs t.0 new t.2)

pub all_taken : (bs : List Paired) (f : List Path → ℕ) (old new : List PathKept) → AreTaken AreTakenFor bs old new → TakesLists (lists_of bs) f old new
all_taken bs f old new t = record {
  counted = λ c. (lists_taken (lists_of bs) f old new (flat bs old new t) c).0;
  stays = λ c. (lists_taken (lists_of bs) f old new (flat bs old new t) c).1;
}

-- what is given

pub spent_start : (g : List Path → ℕ) (old : List PathKept) (pairs : List (FibSource × ℕ)) → IsSpent g old pairs → IsLeft g old old pairs
spent_start g old pairs c = record { counted = c; stays = λ id paths pos is. is }

pub spent_end : (g : List Path → ℕ) (old new : List PathKept) (left : List (FibSource × ℕ)) → left ≡ [] → IsLeft g old new left → GivesPairs g old new
spent_end g old new left is h = (let e = subst (IsLeft g old new) is h in record {
  counted = recounted new (λ paths. g paths + count_by (has_content old paths) []) g (λ paths. omega arith) e.counted;
  stays = λ id paths pos at. e.stays id paths (more (g paths) pos) at;
})
  where
    more : (n : ℕ) → 0 < n → 0 < n + 0
    more n pos = omega (arith, pos)

module _ (g : List Path → ℕ) (old cur : List PathKept) (q : FibSource × ℕ) (left : List (FibSource × ℕ)) (h : IsLeft g old cur (q ∷ left))
    (kept : IsSome (kept_of old q.1)) where
  own : (paths : List Path) × (content_of old q.1 ≡ Some paths)
  own = some_list old q.1 kept

  spent_count : (paths : List Path) → count_by (has_content old paths) (q ∷ left) ≡ once own.0 paths + count_by (has_content old paths) left
  spent_count paths = count_by-cons (has_content old paths) q left
      ∙ ap (λ n. n + count_by (has_content old paths) left) (ap (λ o. unit_of (is_content o paths)) own.1 ∙ once_is own.0 paths)

  spent_now : content_of cur q.1 ≡ Some own.0
  spent_now = h.stays q.1 own.0 (some (g own.0) (once own.0 own.0) (count_by (has_content old own.0) left) (count_by (has_content old own.0)
      (q ∷ left)) (spent_count own.0) (unit_same own.0 own.0 refl)) own.1
    where
      some : (a b d e : ℕ) → e ≡ b + d → b ≡ 1 → 0 < a + e
      some a b d e is one = omega (arith, is, one)

  pub spent_kept : IsSome (kept_of cur q.1)
  spent_kept = some_content (kept_of cur q.1) own.0 spent_now

  spent_step : (paths : List Path)
      → g paths + count_by (has_content old paths) (q ∷ left) ≡ (g paths + count_by (has_content old paths) left) + once own.0 paths
  spent_step paths = sums (g paths) (once own.0 paths) (count_by (has_content old paths) left) (count_by (has_content old paths) (q ∷ left))
      (spent_count paths)
    where
      sums : (a b d e : ℕ) → e ≡ b + d → a + e ≡ (a + d) + b
      sums a b d e is = omega (arith, is)

  pub spent_more : (new : List PathKept) → Gives cur new q.1 → AreInterned new → IsLeft g old new left
  spent_more new gives apart =
      let f : List Path → ℕ = λ paths. g paths + count_by (has_content old paths) (q ∷ left) in
      let f' : List Path → ℕ = λ paths. g paths + count_by (has_content old paths) left in
      record {
        counted = counted_given cur new own.0 q.1 spent_now gives apart f f' h.counted spent_step;
        stays = λ id paths pos is. given_stays cur new own.0 q.1 spent_now gives apart f f' h.counted spent_step id paths pos
            (h.stays id paths (more (g paths) (once own.0 paths) (count_by (has_content old paths) left)
            (count_by (has_content old paths) (q ∷ left)) (spent_count paths) pos) is);
      }
    where
      more : (a b d e : ℕ) → e ≡ b + d → 0 < a + d → 0 < a + e
      more a b d e is pos = omega (arith, is, pos)
