-- Prefixes that are held each once.
use Rattle.std.proofs.Common.{arith, ◌≡◌, ◌≢◌, ℕ, zero, suc, ◌<◌, true, false, ◌||◌, List, [], ◌∷◌, ◌++◌, take, get_or, length, refl, sym, ◌∙◌, ap, if◌then◌else◌, inl, inr}
use Rattle.std.specs.Prelude.{Contains}
use Rattle.std.specs.List.{AllByRecursion}
use Rattle.std.specs.Set.{is_member}
use Rattle.std.proofs.lemmas.Bool.{false≢true}
use Rattle.indexmap.specs.IndexSet.{IndexSet, UpdatesBy, IsUnique, insert_key}
use Rattle.fib_base_list.proofs.Lists.{either}
use Rattle.fib_reach.specs.Walks.{AllDiffer}
use Rattle.fib_addr.specs.Prefixes.{Prefix, same_prefix}
use Rattle.fib_addr.proofs.PrefixLaws.{same_prefix-Decides}
use Rattle.fib_resolve_changes.proofs.Edits.{any_in}
use Rattle.fib_entries_rows.specs.inner.Dependants.{IsWithout}
use Rattle.fib_entries_rows.proofs.Anew.{distinct_differ}
use Rattle.fib_entries_rows.proofs.Linking.{member_in}

held : (list : List Prefix) (d : Prefix) → Contains list d → is_member same_prefix list d ≡ true
held list d c = any_in (same_prefix d) list d c ((same_prefix-Decides d d).1 refl)

apart : (p d : Prefix) → p ≢ d → same_prefix p d ≡ false
apart p d off = elim (either (same_prefix p d)) [ inl is ↦ absurd (off ((same_prefix-Decides p d).0 is)) | inr isnt ↦ isnt ]

-- the prefix was taken out, as a set says it
pub without_by : {S : Type 0} (p : Prefix) (old new : IndexSet Prefix S) → UpdatesBy same_prefix (same_prefix p) old new false → IsUnique same_prefix new → IsWithout p old.keys new.keys
without_by p old new u once = record {
  gone = λ c. false≢true (sym u.1 ∙ held new.keys p c);
  others = λ d off. (
    λ c. member_in old.keys d (sym (u.2 d (apart p d off)) ∙ held new.keys d c),
    λ c. member_in new.keys d (u.2 d (apart p d off) ∙ held old.keys d c),
  );
  once = distinct_differ new.keys once;
}

-- one that wasn't there comes last
pub put_last : (keys : List Prefix) (p : Prefix) → is_member same_prefix keys p ≡ false → insert_key same_prefix keys p ≡ keys ++ p ∷ []
put_last keys p new = ap (λ b. if b then keys else keys ++ p ∷ []) new

at_in : (P : Prefix → Type 0) (xs : List Prefix) (i : ℕ) (d : Prefix) → AllByRecursion P xs → i < length xs → P (get_or xs i d)
at_in P [] i d all lt = absurd (omega (arith, lt))
at_in P (x ∷ xs) zero d all lt = all.0
at_in P (x ∷ xs) (suc i) d all lt = at_in P xs i d all.1 (omega (arith, lt))

-- of a list that has each once, each is new behind those before it
pub new_behind : (xs : List Prefix) (i : ℕ) (d : Prefix) → AllDiffer xs → i < length xs → is_member same_prefix (take i xs) (get_or xs i d) ≡ false
new_behind [] i d all lt = absurd (omega (arith, lt))
new_behind (x ∷ xs) zero d all lt = refl
new_behind (x ∷ xs) (suc i) d all lt =
    let y = get_or xs i d in
    ap (λ b. b || is_member same_prefix (take i xs) y) (apart y x (λ is. at_in (λ z. x ≢ z) xs i d all.0 (omega (arith, lt)) (sym is))) ∙ new_behind xs i d all.1 (omega (arith, lt))
