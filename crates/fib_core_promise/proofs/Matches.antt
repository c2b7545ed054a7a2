-- Where an address has one best entry in all versions, the prefix table's longest match is that entry, before and after a change.
use Rattle.std.proofs.Common.{◌≡◌, ◌≤◌, ◌<◌, ◌^◌, ◌*◌, ◌-◌, ◌/◌, ◌%◌, ◌⊎◌, inl, inr, Bool, true, false, ℕ, List, Option, Some, None, refl, sym, ap, ◌∙◌, subst, arith}
use Rattle.std.specs.Prelude.{Contains, if◌then◌else◌}
use Rattle.std.proofs.lemmas.Bool.Decides.{Decides-eqb}
use Rattle.std.proofs.lemmas.Nat.{pow_pos}
use Rattle.std.proofs.Math.Nat.{mul-div_cancel, mod-eq-sub-div-mul, div-mul-le_self}
use Rattle.fib_base_list.proofs.Lists.{either}
use Rattle.fib_addr.specs.Prefixes.{Prefix, IsPrefix, contains, same_prefix, size_of}
use Rattle.fib_addr.proofs.PrefixLaws.{same_prefix-Decides}
use Rattle.fib_resolve.specs.Pairs.{entries}
use Rattle.fib_resolve.proofs.Covering.{best_longest}
use Rattle.fib_resolve.specs.declared.types.Tables.{Tables}
use Rattle.fib_core_steady.specs.Aims.{IsLasting, BestAlike}
use Rattle.fib_core_promise.specs.Matches.{IsSometime, FitsVersions, IsMatch, added, removed, Promised, look_of, IsLongestBlock}
use Rattle.fib_core_steady.proofs.Lists.{some_same, none_some}
use Rattle.fib_core_steady.proofs.Ways.{best_is_entry}

pub best_lasts : (J : List Tables) (a : ℕ) (e : Prefix) → BestAlike J a e → IsLasting J e
best_lasts J a e alike S c = subst (Contains (entries S)) (alike S c) (best_is_entry S a)

-- no prefix of the table that contains the address is longer than the entry that is best in all versions
pub match_alike : (J : List Tables) (now : Tables) → Contains J now → (look : Prefix → Option ℕ) → FitsVersions J look → (a : ℕ) (e : Prefix) → a < 2 ^ 32 → BestAlike J a e → (o : ℕ) × IsMatch look a e o
match_alike J now here look fits a e small alike =
    let at = fits.all e (best_lasts J a e alike) in (
      at.0,
      record {
        there = at.1;
        matches = subst (λ p. contains p a ≡ true) (alike now here) (best_longest now a small).matches;
        longest = λ q p is inside.
            let some = (fits.some q p is).1 in
            subst (λ (r : Prefix). q.len ≤ r.len) (alike some.0 some.1) ((best_longest some.0 a small).longest q some.2 inside);
      },
    )

-- by these further conditions the table fits the versions after the change too

is_else : (b : Bool) (x y : Option ℕ) (o : ℕ) → (if b then x else y) ≡ Some o → ((b ≡ true) × (x ≡ Some o)) ⊎ ((b ≡ false) × (y ≡ Some o))
is_else true x y o is = inl (refl, is)
is_else false x y o is = inr (refl, is)

pub fits_added : (J : List Tables) (look : Prefix → Option ℕ) (e : Prefix) (o : ℕ) → IsPrefix e → IsSometime J e → FitsVersions J look → FitsVersions J (added look e o)
fits_added J look e o prefix sometime fits = record {
  some = λ p q is. elim (is_else (same_prefix p e) (Some o) (look p) q is) [
    | inl new ↦ subst (λ r. IsPrefix r × IsSometime J r) (sym ((same_prefix-Decides p e).0 new.0)) (prefix, sometime)
    | inr old ↦ fits.some p q old.1
  ];
  all = λ p lasting. elim (either (same_prefix p e)) [
    | inl new ↦ (o, ap (λ b. if b then Some o else look p) new)
    | inr old ↦ (let at = fits.all p lasting in (at.0, ap (λ b. if b then Some o else look p) old ∙ at.1))
  ];
}

pub fits_removed : (J : List Tables) (look : Prefix → Option ℕ) (e : Prefix) → (IsLasting J e → ⊥) → FitsVersions J look → FitsVersions J (removed look e)
fits_removed J look e leaves fits = record {
  some = λ p q is. elim (is_else (same_prefix p e) None (look p) q is) [
    | inl new ↦ absurd (none_some q new.1)
    | inr old ↦ fits.some p q old.1
  ];
  all = λ p lasting. elim (either (same_prefix p e)) [
    | inl new ↦ absurd (leaves (subst (IsLasting J) ((same_prefix-Decides p e).0 new) lasting))
    | inr old ↦ (let at = fits.all p lasting in (at.0, ap (λ b. if b then None else look p) old ∙ at.1))
  ];
}

-- and a lasting entry keeps its balance
pub same_added : (J : List Tables) (look : Prefix → Option ℕ) (e : Prefix) (o : ℕ) → look e ≡ None → FitsVersions J look → (p : Prefix) → IsLasting J p → added look e o p ≡ look p
same_added J look e o absent fits p lasting = elim (either (same_prefix p e)) [
  | inl new ↦ (let at = fits.all p lasting in absurd (none_some at.0 (sym absent ∙ ap look (sym ((same_prefix-Decides p e).0 new)) ∙ at.1)))
  | inr old ↦ ap (λ b. if b then Some o else look p) old
]

pub same_removed : (J : List Tables) (look : Prefix → Option ℕ) (e : Prefix) → (IsLasting J e → ⊥) → (p : Prefix) → IsLasting J p → removed look e p ≡ look p
same_removed J look e leaves p lasting = elim (either (same_prefix p e)) [
  | inl new ↦ absurd (leaves (subst (IsLasting J) ((same_prefix-Decides p e).0 new) lasting))
  | inr old ↦ ap (λ b. if b then None else look p) old
]

-- a match as a longest block

inside_of : (e : Prefix) (a : ℕ) → contains e a ≡ true → a / size_of e.len ≡ e.bits / size_of e.len
inside_of e a is = (Decides-eqb _ _).0 is

same_difference : (b t m : ℕ) → m ≡ b - t → t ≤ b → m ≡ 0 → t ≡ b
same_difference b t m e le z = omega arith

cleared_bits : (bits size : ℕ) → bits % size ≡ 0 → bits / size * size ≡ bits
cleared_bits bits size is = same_difference bits (bits / size * size) (bits % size) (mod-eq-sub-div-mul bits size) (div-mul-le_self bits size) is

pub match_block : (look : Prefix → Option ℕ) (a : ℕ) (e : Prefix) (o : ℕ) → IsPrefix e → IsMatch look a e o → IsLongestBlock (look_of look) 32 a o
match_block look a e o prefix is = record {
  len = e.len;
  within = prefix.short;
  there = ap look same ∙ is.there;
  longest = λ m more le. none_of (look_of look m (a / 2 ^ (32 - m))) (λ p there. absurd (let lt : m ≤ e.len = is.longest (record { bits = a / 2 ^ (32 - m) * 2 ^ (32 - m); len = m }) p there (masked_contains m) in omega arith));
}
  where
    none_of : (x : Option ℕ) → ((p : ℕ) → x ≡ Some p → ⊥) → x ≡ None
    none_of None h = refl
    none_of (Some p) h = absurd (h p refl)

    same : record { bits = a / 2 ^ (32 - e.len) * 2 ^ (32 - e.len); len = e.len } ≡ e
    same = ap (λ (b : ℕ). record { bits = b; len = e.len }) (ap (λ i. i * size_of e.len) (inside_of e a is.matches) ∙ cleared_bits e.bits (size_of e.len) prefix.cleared)

    masked_contains : (m : ℕ) → contains (record { bits = a / 2 ^ (32 - m) * 2 ^ (32 - m); len = m }) a ≡ true
    masked_contains m = (Decides-eqb _ _).1 (sym (mul-div_cancel (a / 2 ^ (32 - m)) (pow_pos (32 - m))))

-- what fib_ply's changes ask of the promise: both tables answer a promised address with the promised balance
pub match_of : (J : List Tables) (now : Tables) → Contains J now → (look : Prefix → Option ℕ) → FitsVersions J look → (a o : ℕ) → a < 2 ^ 32 → (p : Promised J look a o) → IsMatch look a p.0 o
match_of J now here look fits a o small p =
    let found = match_alike J now here look fits a p.0 small p.1 in
    subst (IsMatch look a p.0) (some_same found.0 o (look p.0) found.1.there p.2) found.1

pub match_added : (J : List Tables) (now : Tables) → Contains J now → (look : Prefix → Option ℕ) (e : Prefix) (q : ℕ) → look e ≡ None → IsPrefix e → IsSometime J e → FitsVersions J look → (a o : ℕ) → a < 2 ^ 32 → (p : Promised J look a o) → IsMatch (added look e q) a p.0 o
match_added J now here look e q absent prefix sometime fits a o small p =
    match_of J now here (added look e q) (fits_added J look e q prefix sometime fits) a o small
    (p.0, p.1, same_added J look e q absent fits p.0 (best_lasts J a p.0 p.1) ∙ p.2)

pub match_removed : (J : List Tables) (now : Tables) → Contains J now → (look : Prefix → Option ℕ) (e : Prefix) → (IsLasting J e → ⊥) → FitsVersions J look → (a o : ℕ) → a < 2 ^ 32 → (p : Promised J look a o) → IsMatch (removed look e) a p.0 o
match_removed J now here look e leaves fits a o small p =
    match_of J now here (removed look e) (fits_removed J look e leaves fits) a o small
    (p.0, p.1, same_removed J look e leaves p.0 (best_lasts J a p.0 p.1) ∙ p.2)
