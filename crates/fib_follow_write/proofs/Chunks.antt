-- Lists of which chunks of pairs are given, one after the other.
use Rattle.std.proofs.Common.{arith, ◌≡◌, ℕ, ◌+◌, ◌<◌, Bool, true, List, [], ◌∷◌, ◌++◌, Some, inl, inr, refl, sym, ◌∙◌, ap}
use Rattle.std.specs.Prelude.{Contains, count_by}
use Rattle.std.proofs.lemmas.List.Elements.{Contains-append_left}
use Rattle.fib_base_list.proofs.Booleans.{unit_of, count_by-cons}
use Rattle.fib_base_list.proofs.Lists.{Contains-nil}
use Rattle.fib_resolve.specs.declared.types.FibSource.{FibSource}
use Rattle.fib_resolve.specs.declared.types.Path.{Path}
use Rattle.fib_resolve_changes.proofs.Edits.{in_cases, in_front, in_rest}
use Rattle.fib_base_interned.specs.Interned.{kept_of}
use Rattle.fib_entries_rows.specs.Known.{PathKept, content_of}
use Rattle.fib_entries_rows.specs.inner.Compare.{is_content}
use Rattle.fib_entries_rows.specs.inner.Fields.{AreCounted}
use Rattle.fib_entries_rows.specs.inner.Used.{has_content}
use Rattle.fib_entries_rows.proofs.Named.{count_append}
use Rattle.fib_entries_rows.proofs.Naming.{some_content}
use Rattle.fib_entries_rows.proofs.Placing.{some_list}
use Rattle.fib_entries_rows.proofs.Taking.{list_self}
use Rattle.fib_entries_rows.proofs.Using.{recounted}
use Rattle.fib_follow_write.specs.Written.{AreFound, AreKept, GivesPairs, IsSpent, TakesLists, is_list}
use Rattle.fib_follow_write.specs.inner.Spent.{IsLeft}
use Rattle.fib_follow_write.specs.declared.plan.Listed.{Listed}

pub count_alike : {X : Type 0} (f g : X → Bool) (xs : List X) → ((x : X) → Contains xs x → f x ≡ g x) → count_by f xs ≡ count_by g xs
count_alike f g [] same = refl
count_alike f g (x ∷ xs) same =
    count_by-cons f x xs ∙ (ap (λ b. unit_of b + count_by f xs) (same x (in_front x x xs refl))
    ∙ (ap (λ n. unit_of (g x) + n) (count_alike f g xs (λ y c. same y (in_rest x y xs c))) ∙ sym (count_by-cons g x xs)))

pub count_some : {X : Type 0} (f : X → Bool) (xs : List X) (x : X) → Contains xs x → f x ≡ true → 0 < count_by f xs
count_some f [] x c is = absurd (Contains-nil x c)
count_some f (y ∷ ys) x c is = elim (in_cases y x ys c) [
  | inl same ↦ here (count_by f (y ∷ ys)) (unit_of (f y)) (count_by f ys) (count_by-cons f y ys) (ap unit_of (ap f same ∙ is))
  | inr later ↦ there (count_by f (y ∷ ys)) (unit_of (f y)) (count_by f ys) (count_by-cons f y ys) (count_some f ys x later is)
]
  where
    here : (n u m : ℕ) → n ≡ u + m → u ≡ 1 → 0 < n
    here n u m e one = omega (arith, e, one)

    there : (n u m : ℕ) → n ≡ u + m → 0 < m → 0 < n
    there n u m e pos = omega (arith, e, pos)

-- what was taken is kept
pub all_found : (ls : List Listed) (f : List Path → ℕ) (old new : List PathKept) → AreCounted old f → TakesLists ls f old new → AreFound new ls
all_found ls f old new a t l c = (t.counted a).found l.paths
    (more (f l.paths) (count_by (is_list l.paths) ls) (count_some (is_list l.paths) ls l c (list_self l.paths)))
  where
    more : (a b : ℕ) → 0 < b → 0 < a + b
    more a b pos = omega (arith, pos)

module _ (g : List Path → ℕ) (old cur : List PathKept) (chunk rest : List (FibSource × ℕ)) (h : IsLeft g old cur (chunk ++ rest))
    (kept : AreKept old chunk) where
  -- what is still to be given is under its number
  chunk_now : (q : FibSource × ℕ) → Contains chunk q → (paths : List Path) × (content_of old q.1 ≡ Some paths) × (content_of cur q.1 ≡ Some paths)
  chunk_now q c =
      let own = some_list old q.1 (kept q c) in
      let some = count_some (has_content old own.0) (chunk ++ rest) q (Contains-append_left chunk rest q c)
      (ap (λ o. is_content o own.0) own.1 ∙ list_self own.0) in
      (own.0, own.1, h.stays q.1 own.0 (more (g own.0) (count_by (has_content old own.0) (chunk ++ rest)) some) own.1)
    where
      more : (a b : ℕ) → 0 < b → 0 < a + b
      more a b pos = omega (arith, pos)

  pub chunk_kept : AreKept cur chunk
  chunk_kept q c = let n = chunk_now q c in some_content (kept_of cur q.1) n.0 n.2

  same : (paths : List Path) → count_by (has_content old paths) chunk ≡ count_by (has_content cur paths) chunk
  same paths = count_alike (has_content old paths) (has_content cur paths) chunk
      (λ q c. (let n = chunk_now q c in ap (λ o. is_content o paths) (n.1 ∙ sym n.2)))

  pub chunk_spent : IsSpent (λ paths. g paths + count_by (has_content old paths) rest) cur chunk
  chunk_spent = recounted cur (λ paths. g paths + count_by (has_content old paths) (chunk ++ rest))
      (λ paths. (g paths + count_by (has_content old paths) rest) + count_by (has_content cur paths) chunk)
      (λ paths. sums (g paths) (count_by (has_content old paths) (chunk ++ rest)) (count_by (has_content old paths) chunk)
      (count_by (has_content old paths) rest) (count_by (has_content cur paths) chunk)
      (count_append (has_content old paths) chunk rest) (same paths)) h.counted
    where
      sums : (a n b d e : ℕ) → n ≡ b + d → b ≡ e → a + n ≡ (a + d) + e
      sums a n b d e is other = omega (arith, is, other)

  pub chunk_more : (new : List PathKept) → GivesPairs (λ paths. g paths + count_by (has_content old paths) rest) cur new → IsLeft g old new rest
  chunk_more new gives = record {
    counted = gives.counted;
    stays = λ id paths pos is. gives.stays id paths pos
        (h.stays id paths (wider (g paths) (count_by (has_content old paths) (chunk ++ rest)) (count_by (has_content old paths) chunk)
        (count_by (has_content old paths) rest)
        (count_append (has_content old paths) chunk rest) pos) is);
  }
    where
      wider : (a n b d : ℕ) → n ≡ b + d → 0 < a + d → 0 < a + n
      wider a n b d is pos = omega (arith, is, pos)

  pub chunk_some : (f : List Path → ℕ) × IsSpent f cur chunk
  chunk_some = (λ paths. g paths + count_by (has_content old paths) rest, chunk_spent)

  pub chunk_given : (new : List PathKept) → ((f : List Path → ℕ) → IsSpent f cur chunk → GivesPairs f cur new) → IsLeft g old new rest
  chunk_given new given = chunk_more new (given (λ paths. g paths + count_by (has_content old paths) rest) chunk_spent)
