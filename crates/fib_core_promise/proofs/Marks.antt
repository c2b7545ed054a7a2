-- What an entry wants, by its marked list; and what a prefix that isn't touched keeps.
use Rattle.std.proofs.Common.{◌≡◌, inl, inr, Bool, true, false, cond, not, ◌&&◌, ◌||◌, ◌==◌, ℕ, zero, suc, List, [], ◌∷◌, ◌++◌, map, Option, Some, None, refl, sym, ap, ◌∙◌, subst, arith}
use Rattle.std.specs.Prelude.{Contains, filter, flat_map, fold, min, option_to_list, option_map, slice_get, if◌then◌else◌}
use Rattle.std.specs.List.{list_any}
use Rattle.std.specs.Set.{is_member}
use Rattle.std.proofs.lemmas.Bool.{false≢true}
use Rattle.std.proofs.lemmas.Bool.Decides.{Decides-eqb}
use Rattle.std.proofs.lemmas.Option.{slice_get-map}
use Rattle.fib_base_list.proofs.Lists.{either}
use Rattle.fib_addr.specs.Prefixes.{Prefix, host, same_prefix}
use Rattle.fib_addr.proofs.PrefixLaws.{same_prefix-Decides}
use Rattle.fib_buckets.specs.Shares.{buckets}
use Rattle.fib_resolve.specs.Pairs.{pairs, entries, chosen, cover}
use Rattle.fib_resolve.specs.Loops.{looped}
use Rattle.fib_resolve.specs.Forwarding.{is_up, is_met, forwards, usable, usable_kind}
use Rattle.fib_resolve.specs.Buckets.{wanted, used, spread, of_least_preference, least_preference}
use Rattle.fib_resolve.specs.Resolution.{mac_of, hop_end, attached_end}
use Rattle.fib_resolve.specs.Tables.{IsSound}
use Rattle.fib_resolve.specs.Touched.{pairs_of, same_pairs, is_touched, kind_changes, differ, same_mac, other_mac, other_flag}
use Rattle.fib_resolve.specs.declared.pairs.Pair.{Pair}
use Rattle.fib_resolve.specs.declared.types.Need.{Need}
use Rattle.fib_resolve.specs.declared.types.Path.{Path}
use Rattle.fib_resolve.specs.declared.types.PathKind.{PathKind}
use Rattle.fib_resolve.specs.declared.types.PathKind.TheVariants as kinds
use Rattle.fib_resolve.specs.declared.types.End.{End}
use Rattle.fib_resolve.specs.declared.types.End.TheVariants as answers
use Rattle.fib_resolve.specs.declared.types.Tables.{Tables}
use Rattle.fib_resolve.proofs.Touching.{untouched_chosen, untouched_pairs}
use Rattle.fib_resolve.proofs.Entries.{is_entry}
use Rattle.fib_resolve.specs.declared.aims.Aim.{Aim}
use Rattle.fib_resolve.specs.declared.aims.Aim.TheVariants as aims
use Rattle.fib_resolve.specs.Aims.{kind_aim, path_aim, aim, kind_counts, marked, marked_list}
use Rattle.fib_resolve.specs.declared.aims.Marked.{Marked}
use Rattle.fib_resolve_changes.specs.Ranks.{leads_on, is_usable_mark}
use Rattle.fib_core_promise.specs.Marks.{least, of_least, spread_marks, aim_of, aim_by}

-- lists under a map

map_cond : {X Y : Type 0} (f : X → Y) (b c : Bool) (x : X) (xs : List X) (ys : List Y) → b ≡ c → map f xs ≡ ys → map f (cond b (x ∷ xs) xs) ≡ cond c (f x ∷ ys) ys
map_cond f true true x xs ys e rest = ap (λ zs. f x ∷ zs) rest
map_cond f true false x xs ys e rest = absurd (false≢true (sym e))
map_cond f false true x xs ys e rest = absurd (false≢true e)
map_cond f false false x xs ys e rest = rest

map_filter : {X Y : Type 0} (f : X → Y) (s : X → Bool) (t : Y → Bool) → ((x : X) → s x ≡ t (f x)) → (xs : List X) → map f (filter s xs) ≡ filter t (map f xs)
map_filter f s t same [] = refl
map_filter f s t same (x ∷ xs) = map_cond f (s x) (t (f x)) x (filter s xs) (filter t (map f xs)) (same x) (map_filter f s t same xs)

map_append : {X Y : Type 0} (f : X → Y) (xs ys : List X) → map f (xs ++ ys) ≡ map f xs ++ map f ys
map_append f [] ys = refl
map_append f (x ∷ xs) ys = ap (λ zs. f x ∷ zs) (map_append f xs ys)

map_option : {X Y : Type 0} (f : X → Y) (o : Option X) → map f (option_to_list o) ≡ option_to_list (option_map f o)
map_option f None = refl
map_option f (Some x) = refl

map_places : {X Y : Type 0} (f : X → Y) (xs : List X) (js : List ℕ) → map f (flat_map (λ j. option_to_list (slice_get xs j)) js) ≡ flat_map (λ j. option_to_list (slice_get (map f xs) j)) js
map_places f xs [] = refl
map_places f xs (j ∷ js) =
    map_append f (option_to_list (slice_get xs j)) (flat_map (λ i. option_to_list (slice_get xs i)) js)
    ∙ ap (λ ys. ys ++ map f (flat_map (λ i. option_to_list (slice_get xs i)) js)) (map_option f (slice_get xs j) ∙ ap option_to_list (sym (slice_get-map f xs j)))
    ∙ ap (λ ys. option_to_list (slice_get (map f xs) j) ++ ys) (map_places f xs js)

map_map : {X Y : Type 0} (f : X → Y) (g : Y → ℕ) (h : X → ℕ) → ((x : X) → g (f x) ≡ h x) → (xs : List X) → map g (map f xs) ≡ map h xs
map_map f g h same [] = refl
map_map f g h same (x ∷ xs) = ap (λ y. y ∷ map g (map f xs)) (same x) ∙ ap (λ ys. h x ∷ ys) (map_map f g h same xs)

-- the bucket rule sees weights and preferences alone

module _ (S : Tables) (e : Prefix) where
  least_same : (n : ℕ) (ps : List Path) → fold (λ m p. min m p.preference) n ps ≡ fold (λ m q. min m q.preference) n (map (marked S e) ps)
  least_same n [] = refl
  least_same n (p ∷ ps) = least_same (min n p.preference) ps

  of_least_same : (ps : List Path) → map (marked S e) (of_least_preference ps) ≡ of_least (map (marked S e) ps)
  of_least_same ps = map_filter (marked S e) (λ p. p.preference == least_preference ps) (λ m. m.preference == least (map (marked S e) ps)) (λ p. ap (λ (n : ℕ). p.preference == n) (least_same 255 ps)) ps

  spread_same : (ps : List Path) → map (marked S e) (spread ps) ≡ spread_marks (map (marked S e) ps)
  spread_same ps =
      map_places (marked S e) ps (buckets (map (λ p. p.weight) ps))
      ∙ ap (λ ws. flat_map (λ j. option_to_list (slice_get (map (marked S e) ps) j)) (buckets ws)) (sym (map_map (marked S e) (λ m. m.weight) (λ p. p.weight) (λ p. refl) ps))

  assoc : (a b c : Bool) → a && (b && c) ≡ (a && b) && c
  assoc true b c = refl
  assoc false b c = refl

  both_true : (b : Bool) → b ≡ b && true
  both_true true = refl
  both_true false = refl

  usable_same : (f : Prefix → Bool) (need : Need) (kind : PathKind) → usable_kind S f e need kind ≡ kind_counts S e need kind && leads_on f (kind_aim S e kind)
  usable_same f need kinds.Drop = refl
  usable_same f need kinds.Local = refl
  usable_same f need (kinds.Attached i) = both_true (is_up S i)
  usable_same f need (kinds.Hop a i) = both_true (is_up S i)
  usable_same f need (kinds.Recursive a) = assoc (not (looped S e a)) (is_met S need a) (f (host a))
  usable_same f need kinds.Cover = refl

  path_same : (o : Option Path) → path_aim S e o ≡ aim_of (option_map (marked S e) o)
  path_same None = refl
  path_same (Some p) = refl

  wanted_same : map (marked S e) (wanted S e) ≡ spread_marks (of_least (filter (is_usable_mark (forwards S)) (marked_list S e)))
  unfolding wanted used marked_list usable
  wanted_same =
      spread_same (of_least_preference (filter (usable S e) (chosen S e)))
      ∙ ap spread_marks (of_least_same (filter (usable S e) (chosen S e)) ∙ ap of_least (map_filter (marked S e) (usable S e) (is_usable_mark (forwards S)) (λ p. usable_same (forwards S) p.need p.kind) (chosen S e)))

  -- what the tables want of a bucket, by the marked list and by which entries forward
  pub aim_is : (k : ℕ) → aim S e k ≡ aim_by (forwards S) (marked_list S e) k
  unfolding aim aim_by
  aim_is k =
      path_same (slice_get (wanted S e) k)
      ∙ ap aim_of (sym (slice_get-map (marked S e) (wanted S e) k))
      ∙ ap (λ (ms : List Marked). aim_of (slice_get ms k)) wanted_same

-- a prefix that isn't touched keeps its marked list

same_bits : (b c : Bool) → differ b c ≡ false → b ≡ c
same_bits true true h = refl
same_bits true false h = absurd (false≢true (sym h))
same_bits false true h = absurd (false≢true (sym h))
same_bits false false h = refl

neither : (b c : Bool) → (b || c) ≡ false → (b ≡ false) × (c ≡ false)
neither true c h = absurd (false≢true (sym h))
neither false c h = (refl, h)

not_either : (b c : Bool) → (not b || c) ≡ false → (b ≡ true) × (c ≡ false)
not_either true c h = (refl, h)
not_either false c h = absurd (false≢true (sym h))

not_changed : (b : Bool) → not b ≡ false → b ≡ true
not_changed true h = refl
not_changed false h = absurd (false≢true (sym h))

any_fails : {X : Type 0} (test : X → Bool) (xs : List X) (x : X) → list_any test xs ≡ false → Contains xs x → test x ≡ false
any_fails test [] x h c = absurd (omega (arith, c.1))
any_fails test (y ∷ ys) x h (zero, lt, is) = subst (λ z. test z ≡ false) is (neither (test y) (list_any test ys) h).0
any_fails test (y ∷ ys) x h (suc k, lt, is) = any_fails test ys x (neither (test y) (list_any test ys) h).1 (k, omega (arith, lt), is)

map_same : {X Y : Type 0} (f g : X → Y) (xs : List X) → ((x : X) → Contains xs x → f x ≡ g x) → map f xs ≡ map g xs
map_same f g [] h = refl
map_same f g (x ∷ xs) h = ap (λ y. y ∷ map f xs) (h x (0, omega arith, refl)) ∙ ap (λ ys. g x ∷ ys) (map_same f g xs (λ y c. h y (suc c.0, omega (arith, c.1), c.2)))

mac_same : (m n : Option ℕ) → not (same_mac m n) ≡ false → m ≡ n
mac_same None None h = refl
mac_same None (Some n) h = absurd (false≢true (sym h))
mac_same (Some m) None h = absurd (false≢true (sym h))
mac_same (Some m) (Some n) h = ap Some ((Decides-eqb m n).0 (not_changed (m == n) h))

hop_same : (S T : Tables) (i a : ℕ) → other_mac S T i a ≡ false → hop_end S i a ≡ hop_end T i a
hop_same S T i a h = ap (λ (m : Option ℕ). answers.Hop i a m) (mac_same (mac_of S i a) (mac_of T i a) h)

attached_same : (S T : Tables) (e : Prefix) (i : ℕ) (b : Bool) → (b && other_mac S T i e.bits) ≡ false → (if b then hop_end S i e.bits else answers.Glean i) ≡ (if b then hop_end T i e.bits else answers.Glean i)
attached_same S T e i true h = hop_same S T i e.bits h
attached_same S T e i false h = refl

mark_with : Aim → Bool → Path → Marked
mark_with m b p = record { aim = m; counts = b; weight = p.weight; preference = p.preference }

kind_keeps : (S T : Tables) (e : Prefix) (p : Path) (kind : PathKind) → kind_changes S T e p.need kind ≡ false → mark_with (kind_aim S e kind) (kind_counts S e p.need kind) p ≡ mark_with (kind_aim T e kind) (kind_counts T e p.need kind) p
unfolding mark_with
kind_keeps S T e p kinds.Drop h = refl
kind_keeps S T e p kinds.Local h = refl
kind_keeps S T e p (kinds.Attached i) h =
    let both = neither (other_flag S T i) ((e.len == 32) && other_mac S T i e.bits) h in
    ap (λ (end : End). mark_with (aims.Ends end) (is_up S i) p) (attached_same S T e i (e.len == 32) both.1) ∙ ap (λ b. mark_with (aims.Ends (attached_end T e i)) b p) (same_bits (is_up S i) (is_up T i) both.0)
kind_keeps S T e p (kinds.Hop a i) h =
    let both = neither (other_flag S T i) (other_mac S T i a) h in
    ap (λ (end : End). mark_with (aims.Ends end) (is_up S i) p) (hop_same S T i a both.1) ∙ ap (λ b. mark_with (aims.Ends (hop_end T i a)) b p) (same_bits (is_up S i) (is_up T i) both.0)
kind_keeps S T e p (kinds.Recursive a) h =
    let both = neither (differ (looped S e a) (looped T e a)) (differ (is_met S p.need a) (is_met T p.need a)) h in
    ap (λ b. mark_with (aims.On (host a)) (not b && is_met S p.need a) p) (same_bits (looped S e a) (looped T e a) both.0) ∙ ap (λ b. mark_with (aims.On (host a)) (not (looped T e a) && b) p) (same_bits (is_met S p.need a) (is_met T p.need a) both.1)
kind_keeps S T e p kinds.Cover h =
    ap (λ q. mark_with (aims.On q) true p) ((same_prefix-Decides (cover S e.bits) (cover T e.bits)).0 (not_changed _ h))

changes_none : (S T : Tables) (e : Prefix) → is_touched S T e ≡ false → list_any (λ p. kind_changes S T e p.need p.kind) (chosen S e) ≡ false
unfolding is_touched
changes_none S T e h = (not_either (same_pairs (pairs_of S e) (pairs_of T e)) (list_any (λ p. kind_changes S T e p.need p.kind) (chosen S e)) h).1

pub untouched_marked : (S T : Tables) (e : Prefix) → IsSound T → is_touched S T e ≡ false → marked_list S e ≡ marked_list T e
unfolding marked_list mark_with
untouched_marked S T e sound h =
    map_same (marked S e) (marked T e) (chosen S e) (λ p c. kind_keeps S T e p p.kind (any_fails (λ q. kind_changes S T e q.need q.kind) (chosen S e) p (changes_none S T e h) c))
    ∙ ap (map (marked T e)) (untouched_chosen S T e sound h)

-- and stays an entry or stays none
entry_pair : (S T : Tables) (e : Prefix) (xs : List Pair) → ((x : Pair) → e ≡ x.prefix → Contains xs x → list_any (λ y. same_prefix e y.prefix) (pairs T) ≡ true) → list_any (λ y. same_prefix e y.prefix) xs ≡ true → list_any (λ y. same_prefix e y.prefix) (pairs T) ≡ true
entry_pair S T e [] f h = absurd (false≢true h)
entry_pair S T e (x ∷ xs) f h = elim (either (same_prefix e x.prefix)) [
  | inl is ↦ f x ((same_prefix-Decides e x.prefix).0 is) (0, omega arith, refl)
  | inr isnt ↦ entry_pair S T e xs (λ y p c. f y p (suc c.0, omega (arith, c.1), c.2)) (rw isnt at h)
]

any_of : (e : Prefix) (xs : List Pair) (x : Pair) → e ≡ x.prefix → Contains xs x → list_any (λ y. same_prefix e y.prefix) xs ≡ true
any_of e [] x p c = absurd (omega (arith, c.1))
any_of e (y ∷ ys) x p (zero, lt, is) = (let here : same_prefix e y.prefix ≡ true = (same_prefix-Decides e y.prefix).1 (p ∙ ap (λ (z : Pair). z.prefix) (sym is)) in rw here refl)
any_of e (y ∷ ys) x p (suc k, lt, is) = (let rest = any_of e ys x p (k, omega (arith, lt), is) in or_right (same_prefix e y.prefix) (list_any (λ z. same_prefix e z.prefix) ys) rest)
  where
    or_right : (b c : Bool) → c ≡ true → (b || c) ≡ true
    or_right true c h = refl
    or_right false c h = h

pub untouched_stays : (S T : Tables) (e : Prefix) → is_touched S T e ≡ false → is_member same_prefix (entries S) e ≡ true → is_member same_prefix (entries T) e ≡ true
untouched_stays S T e h member = is_entry T e ∙ entry_pair S T e (pairs S) (λ x p c. any_of e (pairs T) x p ((untouched_pairs S T e x h p).0 c)) (sym (is_entry S e) ∙ member)

pub untouched_came : (S T : Tables) (e : Prefix) → is_touched S T e ≡ false → is_member same_prefix (entries T) e ≡ true → is_member same_prefix (entries S) e ≡ true
untouched_came S T e h member = is_entry S e ∙ entry_pair T S e (pairs T) (λ x p c. any_of e (pairs S) x p ((untouched_pairs S T e x h p).1 c)) (sym (is_entry T e) ∙ member)

-- the aims of a marked list depend on whether its open targets forward
leads_same : (f g : Prefix → Bool) (m : Marked) → ((t : Prefix) → m.counts ≡ true → m.aim ≡ aims.On t → f t ≡ g t) → is_usable_mark f m ≡ is_usable_mark g m
leads_same f g m h = by_count m.counts m.aim (λ t c i. h t c i)
  where
    by_count : (b : Bool) (w : Aim) → ((t : Prefix) → b ≡ true → w ≡ aims.On t → f t ≡ g t) → b && leads_on f w ≡ b && leads_on g w
    by_count false w h = refl
    by_count true (aims.Ends x) h = refl
    by_count true (aims.On t) h = h t refl refl

filter_same : {X : Type 0} (f g : X → Bool) (xs : List X) → ((x : X) → Contains xs x → f x ≡ g x) → filter f xs ≡ filter g xs
filter_same f g [] h = refl
filter_same f g (x ∷ xs) h =
    let rest = filter_same f g xs (λ y c. h y (suc c.0, omega (arith, c.1), c.2)) in
    let here = h x (0, omega arith, refl) in
    ap (λ (b : Bool). cond b (x ∷ filter f xs) (filter f xs)) here ∙ ap (λ ys. cond (g x) (x ∷ ys) ys) rest

pub aims_same : (f g : Prefix → Bool) (ms : List Marked) → ((m : Marked) (t : Prefix) → Contains ms m → m.counts ≡ true → m.aim ≡ aims.On t → f t ≡ g t) → (k : ℕ) → aim_by f ms k ≡ aim_by g ms k
unfolding aim_by
aims_same f g ms h k = ap (λ (qs : List Marked). aim_of (slice_get (spread_marks (of_least qs)) k)) (filter_same (is_usable_mark f) (is_usable_mark g) ms (λ m c. leads_same f g m (λ t counts is. h m t c counts is)))

-- so a prefix that no change touches, and whose open targets forward as before, wants the same of each bucket
pub untouched_aims : (S T : Tables) (e : Prefix) → IsSound T → is_touched S T e ≡ false → ((m : Marked) (t : Prefix) → Contains (marked_list S e) m → m.counts ≡ true → m.aim ≡ aims.On t → forwards S t ≡ forwards T t) → (k : ℕ) → aim S e k ≡ aim T e k
untouched_aims S T e sound h targets k =
    aim_is S e k ∙ aims_same (forwards S) (forwards T) (marked_list S e) targets k ∙ ap (λ (ms : List Marked). aim_by (forwards T) ms k) (untouched_marked S T e sound h) ∙ sym (aim_is T e k)
