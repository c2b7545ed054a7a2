-- Where the old and the new lists of a prefix are kept in one place, their numbers tell whether its pairs differ.
use Rattle.std.proofs.Common.{◌≡◌, ℕ, List, Option, Some, None, refl, sym, ◌∙◌, ap, ◌==◌, slice_get}
use Rattle.std.specs.Prelude.{option_map}
use Rattle.fib_addr.specs.Prefixes.{Prefix}
use Rattle.fib_resolve.specs.declared.pairs.Pair.{Pair}
use Rattle.fib_resolve.specs.declared.types.Path.{Path}
use Rattle.fib_resolve.specs.declared.types.FibSource.{FibSource}
use Rattle.fib_base_interned.specs.Interned.{kept_of, AreInterned}
use Rattle.fib_base_interned.proofs.Finding.{find_place, none_some}
use Rattle.std.proofs.lemmas.Bool.Decides.{Decides-eqb}
use Rattle.fib_entries_rows.specs.Known.{PathKept, content_of}

some_is : {X : Type 0} (x y : X) → Some x ≡ Some y → x ≡ y
some_is x y e = (cc)

pub pair_with : Prefix → FibSource → List Path → Pair
pair_with prefix source paths = record { prefix = prefix; source = source; paths = paths }

pub from_pair : (x y : Pair) → x.prefix ≡ y.prefix → x.source ≡ y.source → x.paths ≡ y.paths → x ≡ y
unfolding pair_with
from_pair x y p s l =
    ap (λ q. pair_with q x.source x.paths) p ∙ (ap (λ t. pair_with y.prefix t x.paths) s ∙ ap (λ ps. pair_with y.prefix y.source ps) l)

pub kept_some : (lists : List PathKept) (id : ℕ) (paths : List Path) → content_of lists id ≡ Some paths → (k : PathKept) × (kept_of lists id ≡ Some k) × (k.content ≡ paths)
kept_some lists id paths h = by (kept_of lists id) refl h
  where
    by : (o : Option PathKept) → kept_of lists id ≡ o → option_map (λ k. k.content) o ≡ Some paths → (k : PathKept) × (kept_of lists id ≡ Some k) × (k.content ≡ paths)
    by None e g = absurd (none_some paths g)
    by (Some k) e g = (k, e, some_is k.content paths g)

-- one content, one number
pub one_number : (lists : List PathKept) → AreInterned lists → (i j : ℕ) (paths : List Path) → content_of lists i ≡ Some paths → content_of lists j ≡ Some paths → i ≡ j
one_number lists kept i j paths a b =
    let k = kept_some lists i paths a in
    let l = kept_some lists j paths b in
    let x = find_place (λ z. z.id == i) lists k.0 k.1 in
    let y = find_place (λ z. z.id == j) lists l.0 l.1 in
    let place = kept.contents_apart x.0 y.0 k.0 l.0 x.1 y.1 (k.2 ∙ sym l.2) in
    let same = some_is k.0 l.0 (sym x.1 ∙ ap (slice_get lists) place ∙ y.1) in
    sym ((Decides-eqb k.0.id i).0 x.2) ∙ ap (λ z. z.id) same ∙ (Decides-eqb l.0.id j).0 y.2
