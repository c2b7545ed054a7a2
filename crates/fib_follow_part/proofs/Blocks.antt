-- A block of ranks below others.
use Rattle.std.proofs.Common.{arith, ◌≡◌, ℕ, ◌+◌, ◌<◌, ◌≤◌, ◌⊎◌, List, [], ◌∷◌, ◌++◌, map, length, take, get_or, Some, inl, inr, refl, sym}
use Rattle.std.proofs.Common.{◌∙◌, ap, subst, slice_get}
use Rattle.std.specs.Prelude.{Contains}
use Rattle.std.proofs.lemmas.Bool.{cases_lt}
use Rattle.std.proofs.lemmas.Option.{slice_get_within, slice_get-get_or}
use Rattle.fib_base_interned.proofs.Finding.{contains_at, some_is}
use Rattle.fib_resolve_changes.proofs.SamePairs.{map_from}
use Rattle.fib_entries_rows.proofs.Anew.{take_all, take_more}
use Rattle.fib_entries_rows.proofs.PlyOrder.{index_of}
use Rattle.fib_follow_part.specs.inner.Ranked.{IsBlock}

-- the least of the first ranks, one of them all
abbrev pub IsLeastOf : List ℕ → ℕ → ℕ → Type 0
IsLeastOf ranks place found = ((i n : ℕ) → i < place → slice_get ranks i ≡ Some n → found ≤ n) × Contains ranks found

pub least_none : (ranks : List ℕ) (first : ℕ) → slice_get ranks 0 ≡ Some first → IsLeastOf ranks 0 first
least_none ranks first at = (λ i n lt here. absurd (omega (arith, lt)), contains_at ranks 0 first at)

pub least_step : (ranks : List ℕ) (place r old new : ℕ) → slice_get ranks place ≡ Some r → IsLeastOf ranks place old → new ≤ old → new ≤ r
    → (new ≡ old) ⊎ (new ≡ r) → IsLeastOf ranks (place + 1) new
least_step ranks place r old new here before low_old low_r one = (
  λ i n lt at. elim (cases_lt i place) [
    | inl early ↦ (let le = before.0 i n early at in omega (arith, le, low_old))
    | inr late ↦ (let is : place ≡ i = omega (arith, lt, late) in let same = some_is r n (sym here ∙ (ap (slice_get ranks) is ∙ at))
        in omega (arith, same, low_r))
  ],
  elim one [ inl is ↦ subst (Contains ranks) (sym is) before.1 | inr is ↦ subst (Contains ranks) (sym is) (contains_at ranks place r here) ],
)

pub least_whole : (ranks : List ℕ) (place found : ℕ) → length ranks ≤ place → IsLeastOf ranks place found → (n : ℕ) → Contains ranks n → found ≤ n
least_whole ranks place found le h n c = let g = index_of ranks n c in let inside = slice_get_within ranks g.0 n g.1
    in h.0 g.0 n (omega (arith, inside, le)) g.1

map_append : (f : ℕ → ℕ) (xs ys : List ℕ) → map f (xs ++ ys) ≡ map f xs ++ map f ys
map_append f [] ys = refl
map_append f (x ∷ xs) ys = ap (λ l. f x ∷ l) (map_append f xs ys)

pub map_step : (f : ℕ → ℕ) (xs out new : List ℕ) (i x : ℕ) → slice_get xs i ≡ Some x → out ≡ map f (take i xs) → new ≡ out ++ f x ∷ []
    → new ≡ map f (take (i + 1) xs)
map_step f xs out new i x here before after =
    let inside = slice_get_within xs i x here in
    let is : x ≡ get_or xs i x = some_is x (get_or xs i x) (sym here ∙ slice_get-get_or xs i x inside) in
    after ∙ (ap (λ l. l ++ f x ∷ []) before ∙ (sym (map_append f (take i xs) (x ∷ [])) ∙ ap (map f) (sym (take_more xs i x inside is))))

pub map_whole : (f : ℕ → ℕ) (xs out : List ℕ) (i : ℕ) → length xs ≤ i → out ≡ map f (take i xs) → out ≡ map f xs
map_whole f xs out i le before = before ∙ ap (map f) (take_all xs i le)

-- a block that begins below the least by the count of the numbers
pub is_block : (ranks numbers block : List ℕ) (least base : ℕ) → base + length numbers ≡ least → ((n : ℕ) → Contains ranks n → least ≤ n)
    → ((n : ℕ) → Contains numbers n → n < length numbers) → block ≡ map (λ n. base + n) numbers → IsBlock ranks numbers block
is_block ranks numbers block least base sum low below is = record {
  base = base;
  made = is;
  low = λ n m c d. (let r = map_from (λ k. base + k) numbers n (subst (λ l. Contains l n) is c) in
      let small = below r.0 r.1 in
      let same = r.2 in
      let le = low m d in
      omega (arith, small, same, le, sum));
}
