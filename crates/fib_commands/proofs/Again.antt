-- A canonical line is read back to its edit.
use Rattle.std.proofs.Common.{arith, ◌≡◌, ◌&&◌, ◌||◌, ◌++◌, ◌∷◌, [], ℕ, ◌/◌, ◌%◌, ◌^◌, ◌<◌, ◌≤◌, Bool, true, false, nat_lt, List, length, get_or, decimal, Option, Some, None, ◌⊎◌, inl, inr, refl, sym, ◌∙◌, ap}
use Rattle.std.specs.Prelude.{codes, slice_index}
use Rattle.std.specs.Char.{is_ascii_digit}
use Rattle.std.specs.Str.{bytes_eq, all_ascii_digits}
use Rattle.std.proofs.lemmas.Slice.Eq.{bytes_eq-Decides}
use Rattle.std.proofs.lemmas.List.{get_or_append_left}
use Rattle.std.proofs.lemmas.Bool.{false≢true}
use Rattle.std.proofs.lemmas.Bool.Decides.{nat_tests}
use Rattle.std.proofs.lemmas.Fmt.{digits_decimal, decimal_nonempty}
use Rattle.fib_base_list.proofs.Lists.{either}
use Rattle.fib_addr.proofs.Reading.{model}
use Rattle.fib_addr.proofs.RoundTrip.{address_again, number_of_decimal}
use Rattle.fib_addr.specs.Texts.{address_text, number_of}
use Rattle.fib_resolve.specs.declared.types.Need.{Need}
use Rattle.fib_resolve.specs.declared.types.Need.TheVariants as needs
use Rattle.fib_resolve.specs.declared.types.SpecKind.{SpecKind}
use Rattle.fib_resolve.specs.declared.types.SpecKind.TheVariants as kinds
use Rattle.fib_resolve.specs.Reachable.{WritesNeed}
use Rattle.fib_commands.specs.declared.options.Options.{Options}
use Rattle.fib_resolve.specs.Names.{is_letter, is_reserved}
use Rattle.fib_commands.specs.Names.{Words, keyword}
use Rattle.fib_commands.specs.Paths.{no_options, value_of, with_weight, with_preference, with_need, option_of, options_of, is_path_word, hop_of, via_of, attached_of, addressed_of, led_by, target_of, written_of}
use Rattle.fib_commands.specs.Canonical.{kind_words, need_words, IsCanonicalKind}
use Rattle.fib_commands.proofs.Inks.{name_facts}

or_split : (x y : Bool) → (x || y) ≡ false → (x ≡ false) × (y ≡ false)
or_split true y e = cc
or_split false y e = (refl, e)

-- a name is none of the words of paths
pub record Free (name : List ℕ) : Type 0 where
  pub drop_word : bytes_eq name (codes "drop") ≡ false
  pub local_word : bytes_eq name (codes "local") ≡ false
  pub via_word : bytes_eq name (codes "via") ≡ false
  pub weight_word : bytes_eq name (codes "weight") ≡ false
  pub preference_word : bytes_eq name (codes "preference") ≡ false
  pub host_word : bytes_eq name (codes "resolve-via-host") ≡ false
  pub attached_word : bytes_eq name (codes "resolve-via-attached") ≡ false

free : (name : List ℕ) → is_reserved name ≡ false → Free name
free name e =
    let h = or_split _ (bytes_eq name (codes "resolve-via-attached")) e in
    let g = or_split _ (bytes_eq name (codes "resolve-via-host")) h.0 in
    let f = or_split _ (bytes_eq name (codes "del")) g.0 in
    let d = or_split _ (bytes_eq name (codes "preference")) f.0 in
    let c = or_split _ (bytes_eq name (codes "weight")) d.0 in
    let b = or_split _ (bytes_eq name (codes "via")) c.0 in
    let a = or_split (bytes_eq name (codes "drop")) (bytes_eq name (codes "local")) b.0 in
    record { drop_word = a.0; local_word = a.1; via_word = b.1; weight_word = c.1; preference_word = d.1; host_word = g.1; attached_word = h.1 }

head_digit : (ds : List ℕ) → 0 < length ds → all_ascii_digits ds ≡ true → is_ascii_digit (get_or ds 0 0) ≡ true
head_digit [] some e = absurd (omega arith)
head_digit (d ∷ ds) some e = first (is_ascii_digit d) (all_ascii_digits ds) e
  where
    first : (x y : Bool) → (x && y) ≡ true → x ≡ true
    first true y e = refl
    first false y e = cc

decimal_head : (n : ℕ) → n < 2 ^ 64 → is_ascii_digit (get_or (decimal n) 0 0) ≡ true
decimal_head n small = head_digit (decimal n) (decimal_nonempty n small) (digits_decimal model n small)

-- an address begins with a digit
address_head : (a : ℕ) → is_ascii_digit (slice_index (address_text a) 0) ≡ true
unfolding address_text
address_head a =
    let n = a / 2 ^ 24 % 256 in
    rw (get_or_append_left (decimal n) _ 0 0 (decimal_nonempty n (omega arith))) (decimal_head n (omega arith))

digit_no_letter : (c : ℕ) → is_ascii_digit c ≡ true → is_letter c ≡ false
digit_no_letter c e = grind (arith, nat_tests)

not_word : (text word : List ℕ) → is_ascii_digit (slice_index text 0) ≡ true → is_ascii_digit (slice_index word 0) ≡ false → bytes_eq text word ≡ false
not_word text word digit other =
    elim (either (bytes_eq text word)) [
      | inl is ↦ absurd (false≢true (sym other ∙ ap (λ (xs : List ℕ). is_ascii_digit (slice_index xs 0)) (sym ((bytes_eq-Decides text word).0 is)) ∙ digit))
      | inr isnt ↦ isnt
    ]

-- the words behind a path: none, or another path
abbrev pub IsEnd : Words → Type 0
IsEnd rest = (rest ≡ []) ⊎ ((more : Words) × (rest ≡ codes "via" ∷ more))

abbrev pub need_option : Need → Option Need
need_option needs.Any = None
need_option needs.Host = Some needs.Host
need_option needs.Attached = Some needs.Attached

abbrev pub options_for : ℕ → ℕ → Need → Options
options_for w p need = record { weight = Some w; preference = Some p; need = need_option need }

byte_again : (n : ℕ) → n ≤ 255 → number_of 10 255 (decimal n) ≡ Some n
byte_again n small = number_of_decimal 10 255 n (omega arith) (omega arith) small (omega arith)

not_below : (n least : ℕ) → least ≤ n → nat_lt n least ≡ false
not_below n least h = grind (arith, nat_tests)

value_again : (text : List ℕ) (least n : ℕ) (rest : Words) → keyword text (text ∷ decimal n ∷ rest) ≡ Some (decimal n ∷ rest) → least ≤ n → n ≤ 255 → value_of text least (text ∷ decimal n ∷ rest) ≡ Some (n, rest)
unfolding value_of
value_again text least n rest key above small = rw (key, byte_again n small, not_below n least above) refl

weight_again : (w : ℕ) (rest : Words) → 0 < w → w ≤ 255 → option_of no_options (codes "weight" ∷ decimal w ∷ rest) ≡ Some (record { weight = Some w; preference = None; need = None }, rest)
unfolding option_of with_weight keyword
weight_again w rest above small = rw (value_again (codes "weight") 1 w rest refl (omega arith) small) refl

preference_again : (w p : ℕ) (rest : Words) → p ≤ 255
    → option_of (record { weight = Some w; preference = None; need = None }) (codes "preference" ∷ decimal p ∷ rest) ≡ Some (record { weight = Some w; preference = Some p; need = None }, rest)
unfolding option_of with_preference keyword
preference_again w p rest small = rw (value_again (codes "preference") 0 p rest refl (omega arith) small) refl

nothing_more : (given : Options) (rest : Words) → IsEnd rest → option_of given rest ≡ Some (given, rest)
unfolding option_of
nothing_more given rest (inl e) = rw e refl
nothing_more given rest (inr h) = rw h.1 refl

need_again : (w p : ℕ) (need : Need) (rest : Words) → IsEnd rest
    → option_of (record { weight = Some w; preference = Some p; need = None }) (need_words need ++ rest) ≡ Some (options_for w p need, rest)
unfolding option_of with_need keyword
need_again w p needs.Any rest end = nothing_more _ rest end
need_again w p needs.Host rest end = refl
need_again w p needs.Attached rest end = refl

pub options_again : (w p : ℕ) (need : Need) (rest : Words) → 0 < w → w ≤ 255 → p ≤ 255 → IsEnd rest
    → options_of (codes "weight" ∷ decimal w ∷ codes "preference" ∷ decimal p ∷ (need_words need ++ rest)) ≡ Some (options_for w p need, rest)
unfolding options_of
options_again w p need rest above small fits end = rw (weight_again w _ above small, preference_again w p _ fits, need_again w p need rest end) refl

-- what stands behind a target begins with its weight
abbrev pub WeightFirst : Words → Type 0
WeightFirst rest = (more : Words) × (rest ≡ codes "weight" ∷ more)

name_path_word : (name : List ℕ) (rest : Words) → Free name → is_path_word (name ∷ rest) ≡ false
unfolding is_path_word
name_path_word name rest f = rw (f.via_word, f.weight_word, f.preference_word, f.host_word, f.attached_word) refl

pub target_again : (k : SpecKind) (rest : Words) → IsCanonicalKind k → WeightFirst rest → target_of (kind_words k ++ rest) ≡ Some (k, rest)
unfolding target_of led_by attached_of addressed_of via_of hop_of is_path_word
target_again kinds.Drop rest is first = refl
target_again kinds.Local rest is first = refl
target_again (kinds.Attached name) rest is first =
    let f = name_facts name is in let g = free name f.free in rw (g.drop_word, g.local_word, f.letter, is) refl
target_again (kinds.Hop a name) rest is first =
    let f = name_facts name is.1 in let g = free name f.free in
    let head = address_head a in
    rw (not_word (address_text a) (codes "drop") head refl, not_word (address_text a) (codes "local") head refl, digit_no_letter _ head, address_again a is.0, g.via_word, g.weight_word, g.preference_word, g.host_word, g.attached_word, is.1) refl
target_again (kinds.Recursive a) rest is first =
    let head = address_head a in
    rw (not_word (address_text a) (codes "drop") head refl, not_word (address_text a) (codes "local") head refl, digit_no_letter _ head, address_again a is, first.1) refl

pub written_again : (k : SpecKind) (w p : ℕ) (need : Need) → WritesNeed need k → written_of k (options_for w p need) ≡ Some (record { kind = k; weight = w; preference = p; need = need })
unfolding written_of
written_again (kinds.Recursive a) w p needs.Any h = refl
written_again (kinds.Recursive a) w p needs.Host h = refl
written_again (kinds.Recursive a) w p needs.Attached h = refl
written_again kinds.Drop w p need h = rw h refl
written_again kinds.Local w p need h = rw h refl
written_again (kinds.Attached name) w p need h = rw h refl
written_again (kinds.Hop a name) w p need h = rw h refl
