-- How a control begins.
use Rattle.std.proofs.Common.{inl, inr, zero, suc, ◌≡◌, ℕ, ◌+◌, ◌-◌, ◌*◌, ◌/◌, ◌^◌, ◌<◌, ◌≤◌, Bool, true, false, true≢false, cond, List, [], ◌∷◌, length, map, refl, sym, ap, ap₂, ◌∙◌, subst, arith}
use Rattle.std.specs.Prelude.{Contains, Option, Some, None, count_by, replicate, slice_get}
use Rattle.std.proofs.lemmas.Map.Made.{is_member-Decides}
use Rattle.std.proofs.lemmas.List.Folds.{sum_by-replicate}
use Rattle.fib_base_list.proofs.Booleans.{count_by-cons}
use Rattle.fib_base_list.proofs.Lists.{either}
use Rattle.fib_addr.specs.Longest.{everything}
use Rattle.fib_addr.specs.Prefixes.{Prefix, same_prefix}
use Rattle.fib_addr.proofs.PrefixLaws.{same_prefix-Decides}
use Rattle.fib_resolve.specs.Pairs.{all_pairs, base_pairs, best_pair, chosen, entries, pairs}
use Rattle.fib_resolve.specs.Sizes.{adjacencies, plies, size}
use Rattle.fib_resolve.specs.Tables.{fresh}
use Rattle.fib_resolve.specs.declared.types.Tables.{Tables}
use Rattle.fib_core_stands.proofs.Nibbles.{everything_entry}
use Rattle.fib_resolve_changes.specs.Ranks.{has_entry}
use Rattle.fib_resolve_changes.proofs.CauseLaws.{any_from}
use Rattle.fib_resolve_changes.proofs.Edits.{any_in}
use Rattle.fib_config.specs.Config.{Setup}
use Rattle.fib_entries_rows.specs.Known.{Known, StandsFor, prefix_of, rank_of}
use Rattle.fib_core_board.specs.Boards.{Board, IsFresh}
use Rattle.fib_stack_ledger.proofs.Books.{times_within}
use Rattle.fib_stack_ledger.specs.Ledgers.{known_of, total}
use Rattle.fib_stack_ledger.specs.declared.late.Late.{Late}
use Rattle.fib_stack_ledger.specs.declared.ledger.Known.{Known as KnownOf}
use Rattle.fib_stack_queue.specs.declared.order.Queued.{Queued}
use Rattle.fib_pool.specs.Objects as pool
use Rattle.fib_pool.specs.Objects.{free_in}
use Rattle.fib_pool.specs.declared.object.Kind.TheVariants as kinds
use Rattle.fib_pool.specs.declared.object.Object.{Object}
use Rattle.fib_ply.specs.declared.rows.Row.{Row}
use Rattle.fib_plane.specs.Planes.{Plane}
use Rattle.fib_plane_view.specs.Promise.{Promise}
use Rattle.fib_plane_view.specs.View.{IsPlane, IsScanned, View}
use Rattle.fib_core_lawful.specs.State.{Log}
use Rattle.fib_ply.specs.Tables.{Stands, Table}
use Rattle.fib_plane.specs.Views.{promise_of, view_of}
use Rattle.fib_stack.specs.Joined.{Joined, Parts, in_change, table_of}
use Rattle.fib_stack.proofs.Moving.{moved_joined, scan_moved}
use Rattle.fib_stack.proofs.Ordering.{begun_in_order}
use Rattle.fib_control_quiet.specs.Rest.{IsBeginning}
use Rattle.fib_control_quiet.proofs.Early.{same_stands}
use Rattle.fib_control_quiet.proofs.Fresh.{begins_joined}
use Rattle.fib_stack_waking.specs.Waking.{is_among}
use Rattle.fib_control.specs.Controls.{Control, parts_in, promise_in, state_now, view_in}
use Rattle.fib_control.specs.inner.Standing.{IsStanding}
use Rattle.fib_control.specs.inner.Starting.{IsStarted}

fresh_small : size fresh ≤ 20
unfolding size plies entries pairs all_pairs base_pairs chosen best_pair adjacencies
fresh_small = omega arith

-- what was named are the entries of the fresh tables
named_entries : (v : Known) → StandsFor v fresh → (e : Prefix) → is_among (everything ∷ map prefix_of v.rows) e ≡ has_entry fresh e
named_entries v stands e = elim (either (has_entry fresh e)) [
  | inl is ↦ named ((is_member-Decides same_prefix-Decides (entries fresh) e).0 is) ∙ sym is
  | inr none ↦ elim (either (is_among (everything ∷ map prefix_of v.rows) e)) [
    | inl is ↦ absurd (true≢false (sym (there is) ∙ none))
    | inr absent ↦ absent ∙ sym none
  ]
]
  where
    later : Contains (map prefix_of v.rows) e → Contains (everything ∷ map prefix_of v.rows) e
    later (k, lt, at) = (suc k, omega (arith, lt), at)

    named : Contains (entries fresh) e → is_among (everything ∷ map prefix_of v.rows) e ≡ true
    named k = any_in (λ x. same_prefix x e) (everything ∷ map prefix_of v.rows) e (later ((stands.entries e).1 k)) ((same_prefix-Decides e e).1 refl)

    by : (x : Prefix) → Contains (everything ∷ map prefix_of v.rows) x → Contains (entries fresh) x
    by x (zero, lt, at) = subst (λ (y : Prefix). Contains (entries fresh) y) at (everything_entry fresh)
    by x (suc k, lt, at) = (stands.entries x).0 (k, omega (arith, lt), at)

    there : is_among (everything ∷ map prefix_of v.rows) e ≡ true → has_entry fresh e ≡ true
    there is =
        let r = any_from (λ x. same_prefix x e) (everything ∷ map prefix_of v.rows) is in
        (is_member-Decides same_prefix-Decides (entries fresh) e).1 (subst (λ (x : Prefix). Contains (entries fresh) x) ((same_prefix-Decides r.0 e).0 r.2) (by r.0 r.1))

abbrev bare_parts : Table → Parts
bare_parts t = record { rows = t.rows.members; plies = t.plies; known = known_of []; total = total []; late = []; queue = [] }

module _ (p : Promise) (v : Known) (t : Table) (u : View) (stands : StandsFor v fresh) (settled : p.settled ≡ 0) (i : IsStarted p t u (everything ∷ map prefix_of v.rows)) where
  -- a change would be made at the same versions, while nobody is out
  same_change : in_change p ≡ p
  same_change = ap₂ (λ (a : ℕ) (b : Bool). (let r : Promise = record p { settled = a; alone = b } in r)) (sym settled) (sym i.tried.early.alone)

  beginning : IsBeginning p u (bare_parts t)
  beginning = record {
    early = i.tried.early.first;
    table = subst (λ (r : Promise). Stands r (table_of (bare_parts t)) u) (sym same_change) (same_stands p t (table_of (bare_parts t)) u refl refl i.tried.stands);
    placed = λ e. i.placed e ∙ named_entries v stands e;
    apart = i.apart;
    drops = i.drops;
    balances = i.balances;
    owned = i.owned;
    unknown = λ e. refl;
    unused = λ m. (refl, i.users m);
    late = refl;
    queue = refl;
  }

  module _ (w : View) (left : ℕ) (plane : IsPlane w) (scan : IsScanned u w left) where
    pub born_joined : Joined fresh (rank_of v.rows) p w (bare_parts t)
    born_joined = moved_joined fresh (rank_of v.rows) p u w (bare_parts t) (begins_joined (rank_of v.rows) p u (bare_parts t) beginning) (scan_moved p u w left plane scan) plane (λ d r. times_within [] d r)

-- the log and the objects of a fresh board, as long as only its words changed
module _ (b : Board) (q : Plane) (new : IsFresh b) (same : promise_of q.board ≡ promise_of b) where
  pub fresh_log : (q.board.log.version.applied ≡ 0) × (slice_get q.board.log.history q.board.log.version.applied ≡ Some fresh)
  fresh_log =
      let log : q.board.log ≡ b.log = ap (λ (p : Promise). p.rest.log) same in
      let whole = log ∙ ap (λ (c : Board). c.log) new.fresh in
      (ap (λ (l : Log). l.version.applied) whole, ap (λ (l : Log). slice_get l.history l.version.applied) whole)

  pub fresh_objects : q.board.objects ≡ b.objects
  fresh_objects = ap (λ (p : Promise). p.rest.objects) same

-- all objects are free but the root's
none_free : (m : ℕ) → count_by pool.is_free (replicate m None) ≡ m
none_free m = (let h = sum_by-replicate (λ (x : Option Object). cond (pool.is_free x) 1 0) m None in omega (arith, h))

free_fresh : (n : ℕ) → 0 < n → free_in (pool.fresh_objects n) + 1 ≡ n
unfolding free_in
free_fresh zero some = absurd (omega (arith, some))
free_fresh (suc m) some = (let h = none_free m in let c = count_by-cons pool.is_free (pool.as_new kinds.Ply) (replicate m None) in omega (arith, h, c))

pub fresh_free : (objects : List (Option Object)) (n : ℕ) → objects ≡ pool.fresh_objects n → 0 < n → free_in objects + 1 ≡ n
fresh_free objects n is some = ap (λ (xs : List (Option Object)). free_in xs + 1) is ∙ free_fresh n some

-- so it stands
pub born : (b : Board) (new : IsFresh b) (s : Setup) (v : Known) (q : Plane) (t : Table) (u : View) (left : ℕ)
    → 64 ≤ b.objects → b.objects ≤ 131072 → s ≡ record { tables = fresh; room = b.objects / 2 } → StandsFor v fresh → promise_of q.board ≡ promise_of b → (promise_of b).settled ≡ 0
    → IsStarted (promise_of q.board) t u (everything ∷ map prefix_of v.rows) → IsPlane (view_of q) → IsScanned u (view_of q) left → q.board.union.retired ≡ []
    → IsStanding (record { setup = s; entries = v; plane = q; rows = t.rows.members; plies = t.plies; known = []; late = []; queue = []; done = [] })
born b new s v q t u left least most setup stands same settled i plane scan calm = subst (λ (x : Setup). IsStanding (record { setup = x; entries = v; plane = q; rows = t.rows.members; plies = t.plies; known = []; late = []; queue = []; done = [] })) (sym setup) whole
  where
    c : Control
    c = record { setup = record { tables = fresh; room = b.objects / 2 }; entries = v; plane = q; rows = t.rows.members; plies = t.plies; known = []; late = []; queue = []; done = [] }

    whole : IsStanding (record { setup = record { tables = fresh; room = b.objects / 2 }; entries = v; plane = q; rows = t.rows.members; plies = t.plies; known = []; late = []; queue = []; done = [] })
    whole = record {
      stands = stands;
      joined = born_joined (promise_of q.board) v t u stands (ap (λ (p : Promise). p.settled) same ∙ settled) i (view_of q) left plane scan;
      newest = (fresh_log b q new same).1;
      calm = λ z. calm;
      roomy = λ begun. absurd (let z = (fresh_log b q new same).0 in omega (arith, z, begun));
      ordered = begun_in_order (rank_of v.rows) (state_now c);
      once = tt;
      fits = (let f = fresh_small in omega (arith, f, least));
      room = omega (arith, most);
      half = (let o = fresh_objects b q new same in omega (arith, o));
    }

-- the lists of what is new are empty
pub born_like : (s : Setup) (v : Known) (q : Plane) (rows : List Row) (n : ℕ) (ks : List (Prefix × KnownOf)) (ls : List Late) (qs : List Queued) (ds : List Prefix) → ks ≡ [] → ls ≡ [] → qs ≡ [] → ds ≡ []
    → IsStanding (record { setup = s; entries = v; plane = q; rows = rows; plies = n; known = []; late = []; queue = []; done = [] })
    → IsStanding (record { setup = s; entries = v; plane = q; rows = rows; plies = n; known = ks; late = ls; queue = qs; done = ds })
born_like s v q rows n ks ls qs ds k l w d i =
    subst (λ (x : List (Prefix × KnownOf)). IsStanding (record { setup = s; entries = v; plane = q; rows = rows; plies = n; known = x; late = ls; queue = qs; done = ds })) (sym k)
    (subst (λ (x : List Late). IsStanding (record { setup = s; entries = v; plane = q; rows = rows; plies = n; known = []; late = x; queue = qs; done = ds })) (sym l)
    (subst (λ (x : List Queued). IsStanding (record { setup = s; entries = v; plane = q; rows = rows; plies = n; known = []; late = []; queue = x; done = ds })) (sym w)
    (subst (λ (x : List Prefix). IsStanding (record { setup = s; entries = v; plane = q; rows = rows; plies = n; known = []; late = []; queue = []; done = x })) (sym d) i)))
