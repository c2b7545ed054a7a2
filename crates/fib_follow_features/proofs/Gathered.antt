-- Features of lists and pairs, gathered one after the other.
use Rattle.std.proofs.Common.{◌≡◌, ◌==◌, ◌++◌, ℕ, Bool, List, [], ◌∷◌, map, Option, None, inl, inr, cond, refl, sym, ◌∙◌, ap, ap₂}
use Rattle.std.specs.Prelude.{flat_map, option_to_list, unwrap_or}
use Rattle.std.specs.List.{AllZip, list_any}
use Rattle.std.proofs.lemmas.List.{append_assoc}
use Rattle.fib_base_list.proofs.Lists.{either, list_any-map}
use Rattle.fib_addr.specs.Prefixes.{Prefix}
use Rattle.std.proofs.lemmas.Bool.Decides.{Decides-eqb}
use Rattle.fib_resolve.specs.declared.pairs.Pair.{Pair}
use Rattle.fib_resolve.specs.declared.types.FibSource.{FibSource}
use Rattle.fib_resolve.specs.declared.types.Path.{Path}
use Rattle.fib_entries_rows.specs.Known.{IsHeld, PathKept}
use Rattle.fib_entries_rows.specs.Rows.{Row}
use Rattle.fib_follow_features.specs.FoundBy.{Listed, chosen_list, cover_among, features_of, held_list, host_under, is_by_cover, pair_features, pair_list}
use Rattle.fib_follow_features.specs.FoundBy.{path_features, row_features, under_of, written_features}
use Rattle.fib_follow_features.specs.declared.feature.Feature.{Feature}

pub flat_of_map : {X Y Z : Type 0} (f : X → Y) (g : Y → List Z) (xs : List X) → flat_map g (map f xs) ≡ flat_map (λ x. g (f x)) xs
flat_of_map f g [] = refl
flat_of_map f g (x ∷ xs) = ap (λ l. g (f x) ++ l) (flat_of_map f g xs)

pub three : {X : Type 0} (old a b c one two new : List X) → one ≡ old ++ a → two ≡ one ++ b → new ≡ two ++ c → new ≡ old ++ (a ++ b ++ c)
three old a b c one two new first second third =
    third ∙ (ap (λ l. l ++ c) (second ∙ ap (λ l. l ++ b) first ∙ append_assoc old a b) ∙ append_assoc old (a ++ b) c)

-- of a row's lists or of pairs, where `list` gives the list of each
module _ {X : Type 0} (list : X → Listed) (e cover : Prefix) (xs : List X) where
  pub gathered : (one two new : List Feature) (best : List Path) (under : Option Feature)
      → best ≡ chosen_list (map list xs) → one ≡ [] ++ flat_map (path_features e) best
      → two ≡ one ++ flat_map (λ x. written_features (list x)) xs → under ≡ under_of e cover (map list xs)
      → new ≡ two ++ option_to_list under → new ≡ features_of e cover (map list xs)
  gathered one two new best under chosen first second by third =
      third ∙ ap₂ (λ l o. l ++ option_to_list o)
      (second ∙ ap₂ (λ l m. l ++ m) (first ∙ ap (flat_map (path_features e)) chosen) (sym (flat_of_map list written_features xs))) by

  pub under_is : (b : Bool) → b ≡ list_any (λ x. is_by_cover (list x).0) xs → cond b (host_under e cover) None ≡ under_of e cover (map list xs)
  under_is b is = ap (λ z. cond z (host_under e cover) None) (is ∙ sym (list_any-map list (λ l. is_by_cover l.0) xs))

-- the lists that stand for pairs are theirs
held_pairs : (lists : List PathKept) (held : List (FibSource × ℕ)) (pairs : List Pair) → AllZip (IsHeld lists) held pairs
    → map (held_list lists) held ≡ map pair_list pairs
held_pairs lists [] [] all = refl
held_pairs lists [] (x ∷ xs) all = absurd all
held_pairs lists (q ∷ qs) [] all = absurd all
held_pairs lists (q ∷ qs) (x ∷ xs) all =
    ap₂ (λ l ls. l ∷ ls) (ap₂ (λ s o. (s, unwrap_or o [])) all.0.0 all.0.1) (held_pairs lists qs xs all.1)

-- the cover counts for hosts alone
under_same : (e c d : Prefix) (ls : List Listed) → (e.len ≡ 32 → c ≡ d) → under_of e c ls ≡ under_of e d ls
under_same e c d ls same = ap (λ o. cond (list_any (λ l. is_by_cover l.0) ls) o None) (elim (either (e.len == 32)) [
  | inl is ↦ ap (host_under e) (same ((Decides-eqb e.len 32).0 is))
  | inr off ↦ rw off refl
])

pub pairs_tell : (lists : List PathKept) (order : List Prefix) (r : Row) (cover : Prefix) (pairs : List Pair)
    → AllZip (IsHeld lists) r.pairs pairs → (r.prefix.len ≡ 32 → cover ≡ cover_among order r.prefix)
    → row_features lists order r ≡ pair_features r.prefix cover pairs
pairs_tell lists order r cover pairs all same =
    ap (features_of r.prefix (cover_among order r.prefix)) (held_pairs lists r.pairs pairs all)
    ∙ ap (λ o. flat_map (path_features r.prefix) (chosen_list (map pair_list pairs)) ++ flat_map written_features (map pair_list pairs)
    ++ option_to_list o) (sym (under_same r.prefix cover (cover_among order r.prefix) (map pair_list pairs) same))
