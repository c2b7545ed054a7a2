-- Paths set in a list: it never gets shorter, and has a Drop or Local path exactly where it had one or one was set.
use Rattle.std.proofs.Common.{arith, ◌≡◌, ◌≤◌, ◌<◌, Bool, true, false, ◌||◌, List, [], ◌∷◌, map, length, Some, inl, inr, refl, sym, ◌∙◌, ap}
use Rattle.std.specs.Prelude.{nat_lt}
use Rattle.std.specs.List.{list_any}
use Rattle.std.proofs.lemmas.Bool.{lt-ltb}
use Rattle.std.proofs.lemmas.Bool.Decides.{Decides-eqb}
use Rattle.fib_base_list.proofs.Lists.{either}
use Rattle.fib_base_list.proofs.Booleans.{and_both}
use Rattle.fib_resolve.specs.Keys.{key_of, key_lt, same_key, kind_rank, is_drop_or_local}
use Rattle.fib_resolve.specs.Edits.{set_path, set_paths, path_of, kind_of}
use Rattle.fib_resolve.specs.Refusals.{first_reason}
use Rattle.fib_resolve.specs.declared.types.Path.{Path}
use Rattle.fib_resolve.specs.declared.types.PathSpec.{PathSpec}
use Rattle.fib_resolve.specs.declared.types.SpecKind.{SpecKind}
use Rattle.fib_resolve.specs.declared.types.SpecKind.TheVariants as written
use Rattle.fib_resolve.specs.declared.types.Refusal.TheVariants as refusals
use Rattle.fib_resolve.specs.declared.types.Tables.{Tables}
use Rattle.fib_config.specs.inner.Lists.{list_reasons, writes_drop_or_local}

abbrev ends_all : Path → Bool
ends_all p = is_drop_or_local p.kind

longer_one : (p : Path) (qs : List Path) → length qs ≤ length (set_path p qs)
longer_one p [] = omega arith
longer_one p (q ∷ qs) =
    elim (either (key_lt (key_of q) (key_of p))) [
      | inl below ↦ rw below (omega (arith, longer_one p qs))
      | inr above ↦ rw above (elim (either (same_key (key_of q) (key_of p))) [ inl same ↦ rw same (omega arith) | inr other ↦ rw other (omega arith) ])
    ]

longer : (qs ps : List Path) → length qs ≤ length (set_paths qs ps)
longer qs [] = omega arith
longer qs (p ∷ ps) = omega (arith, longer_one p qs, longer (set_path p qs) ps)

same_end : (q p : Path) → same_key (key_of q) (key_of p) ≡ true → ends_all q ≡ ends_all p
same_end q p same = ap (λ n. nat_lt n 2) ((Decides-eqb (kind_rank q.kind) (kind_rank p.kind)).0 (and_both _ _ same).0)

or_swap : (a b c : Bool) → (b || (a || c)) ≡ (a || (b || c))
or_swap true true c = refl
or_swap true false c = refl
or_swap false true c = refl
or_swap false false c = refl

or_same : (a b c : Bool) → a ≡ b → (b || c) ≡ (b || (a || c))
or_same true b c e = rw (sym e) refl
or_same false b c e = rw (sym e) refl

any_one : (p : Path) (qs : List Path) → list_any ends_all (set_path p qs) ≡ (ends_all p || list_any ends_all qs)
any_one p [] = refl
any_one p (q ∷ qs) =
    elim (either (key_lt (key_of q) (key_of p))) [
      | inl below ↦ rw below (ap (λ b. ends_all q || b) (any_one p qs) ∙ or_swap (ends_all p) (ends_all q) (list_any ends_all qs))
      | inr above ↦ rw above (elim (either (same_key (key_of q) (key_of p))) [
        | inl same ↦ rw same (or_same (ends_all q) (ends_all p) (list_any ends_all qs) (same_end q p same))
        | inr other ↦ rw other refl
      ])
    ]

any_set : (qs ps : List Path) → list_any ends_all (set_paths qs ps) ≡ (list_any ends_all qs || list_any ends_all ps)
any_set qs [] = no_more (list_any ends_all qs)
  where
    no_more : (b : Bool) → b ≡ (b || false)
    no_more true = refl
    no_more false = refl
any_set qs (p ∷ ps) =
    any_set (set_path p qs) ps ∙ (ap (λ b. b || list_any ends_all ps) (any_one p qs) ∙ turned (ends_all p) (list_any ends_all qs) (list_any ends_all ps))
  where
    turned : (a b c : Bool) → ((a || b) || c) ≡ (b || (a || c))
    turned true true c = refl
    turned true false c = refl
    turned false true c = refl
    turned false false c = refl

kind_ends : (S : Tables) (k : SpecKind) → is_drop_or_local (kind_of S k) ≡ writes_drop_or_local k
kind_ends S written.Drop = refl
kind_ends S written.Local = refl
kind_ends S (written.Attached name) = refl
kind_ends S (written.Hop a name) = refl
kind_ends S (written.Recursive a) = refl

any_written : (S : Tables) (specs : List PathSpec) → list_any ends_all (map (path_of S) specs) ≡ list_any (λ spec. writes_drop_or_local spec.kind) specs
any_written S [] = refl
any_written S (spec ∷ specs) = ap (λ b. b || list_any ends_all (map (path_of S) specs)) (kind_ends S spec.kind) ∙ ap (λ b. writes_drop_or_local spec.kind || b) (any_written S specs)

-- a list of seventeen paths is refused, whatever is set in it
module _ (S : Tables) (qs : List Path) (specs : List PathSpec) (long : 16 < length qs) where
  two : nat_lt 1 (length (set_paths qs (map (path_of S) specs))) ≡ true
  two = (let most = longer qs (map (path_of S) specs) in lt-ltb 1 (length (set_paths qs (map (path_of S) specs))) (omega (arith, most, long)))

  over : nat_lt 16 (length (set_paths qs (map (path_of S) specs))) ≡ true
  over = (let most = longer qs (map (path_of S) specs) in lt-ltb 16 (length (set_paths qs (map (path_of S) specs))) (omega (arith, most, long)))

  ended : list_any ends_all (set_paths qs (map (path_of S) specs)) ≡ (list_any ends_all qs || list_any (λ spec. writes_drop_or_local spec.kind) specs)
  ended = any_set qs (map (path_of S) specs) ∙ ap (λ b. list_any ends_all qs || b) (any_written S specs)

  pub long_mixed : (list_any ends_all qs || list_any (λ spec. writes_drop_or_local spec.kind) specs) ≡ true → first_reason (list_reasons (set_paths qs (map (path_of S) specs))) ≡ Some refusals.MixedPaths
  long_mixed is = rw (two, ended ∙ is) refl

  pub long_long : (list_any ends_all qs || list_any (λ spec. writes_drop_or_local spec.kind) specs) ≡ false → first_reason (list_reasons (set_paths qs (map (path_of S) specs))) ≡ Some refusals.TooManyPaths
  long_long isnt = rw (two, ended ∙ isnt, over) refl
