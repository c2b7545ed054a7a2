-- What a bucket ends packets at is a possible end.
use Rattle.std.proofs.Common.{◌≡◌, ℕ, zero, suc, Bool, true, ⊎_elim, List, [], ◌∷◌, map, refl, sym, ap, ◌∙◌, subst, arith}
use Rattle.std.specs.Prelude.{Contains, IfSome, Option, Some, None, slice_get, flat_map}
use Rattle.fib_addr.specs.Prefixes.{Prefix}
use Rattle.fib_resolve.specs.Aims.{aim, kind_aim, kind_counts, marked, marked_list, path_aim}
use Rattle.fib_resolve.specs.Forwarding.{forwards, usable, usable_kind}
use Rattle.fib_resolve.specs.declared.aims.Marked.{Marked}
use Rattle.fib_resolve.specs.declared.types.Need.{Need}
use Rattle.fib_resolve.specs.Buckets.{wanted}
use Rattle.fib_resolve.specs.Pairs.{chosen, entries}
use Rattle.fib_resolve.specs.Resolution.{attached_end, ends, entry_ends, hop_end}
use Rattle.fib_resolve.specs.declared.aims.Aim.{Aim}
use Rattle.fib_resolve.specs.declared.aims.Aim.TheVariants as aims
use Rattle.fib_resolve.specs.declared.types.End.{End}
use Rattle.fib_resolve.specs.declared.types.End.TheVariants as answers
use Rattle.fib_resolve.specs.declared.types.Path.{Path}
use Rattle.fib_resolve.specs.declared.types.PathKind.{PathKind}
use Rattle.fib_resolve.specs.declared.types.PathKind.TheVariants as kinds
use Rattle.fib_resolve.specs.declared.types.Tables.{Tables}
use Rattle.fib_resolve.proofs.Taken.{IsWanted}
use Rattle.fib_core_stands.proofs.Listed.{at_bucket, end_possible, first_in}
use Rattle.fib_resolve_changes.specs.Wanted.{aim_by}
use Rattle.fib_stack.proofs.Aiming.{bucket_end}

end_is : (f end : End) → aims.Ends f ≡ aims.Ends end → f ≡ end
end_is f end e = ap (λ (m : Aim). end_in m) e
  where
    end_in : Aim → End
    end_in (aims.Ends x) = x
    end_in (aims.On t) = f

drop_possible : (S : Tables) → Contains (ends S) answers.Drop
unfolding ends
drop_possible S = first_in answers.Drop (flat_map (entry_ends S) (entries S))

kind_possible : (S : Tables) (e : Prefix) (p : Path) (kind : PathKind) → p.kind ≡ kind → IsWanted S e p → (end : End) → kind_aim S e kind ≡ aims.Ends end → Contains (ends S) end
kind_possible S e p kinds.Drop k t end is = subst (Contains (ends S)) (end_is answers.Drop end is) (drop_possible S)
kind_possible S e p kinds.Local k t end is = subst (Contains (ends S)) (end_is answers.Receive end is) (end_possible S e p answers.Receive t (rw k (first_in answers.Receive [])))
kind_possible S e p (kinds.Attached i) k t end is = subst (Contains (ends S)) (end_is (attached_end S e i) end is) (end_possible S e p (attached_end S e i) t (rw k (first_in (attached_end S e i) [])))
kind_possible S e p (kinds.Hop a i) k t end is = subst (Contains (ends S)) (end_is (hop_end S i a) end is) (end_possible S e p (hop_end S i a) t (rw k (first_in (hop_end S i a) [])))
kind_possible S e p (kinds.Recursive a) k t end is = absurd (cc)
kind_possible S e p kinds.Cover k t end is = absurd (cc)

path_possible : (S : Tables) (e : Prefix) (o : Option Path) → IfSome o (IsWanted S e) → (end : End) → path_aim S e o ≡ aims.Ends end → Contains (ends S) end
path_possible S e None t end is = subst (Contains (ends S)) (end_is answers.Drop end is) (drop_possible S)
path_possible S e (Some p) t end is = kind_possible S e p p.kind refl t end is

pub aim_possible : (S : Tables) (e : Prefix) (k : ℕ) (end : End) → aim S e k ≡ aims.Ends end → Contains (ends S) end
unfolding aim
aim_possible S e k end is = path_possible S e (slice_get (wanted S e) k) (at_bucket S e k) end is

-- a path that counts and ends packets does so at a possible end
counts_usable : (S : Tables) (e : Prefix) (need : Need) (kind : PathKind) (end : End) → kind_aim S e kind ≡ aims.Ends end → kind_counts S e need kind ≡ true → usable_kind S (forwards S) e need kind ≡ true
counts_usable S e need kinds.Drop end is c = c
counts_usable S e need kinds.Local end is c = c
counts_usable S e need (kinds.Attached i) end is c = c
counts_usable S e need (kinds.Hop a i) end is c = c
counts_usable S e need (kinds.Recursive a) end is c = absurd (cc)
counts_usable S e need kinds.Cover end is c = absurd (cc)

path_ends : (S : Tables) (e : Prefix) (p : Path) → Contains (chosen S e) p → (end : End) → (marked S e p).aim ≡ aims.Ends end → (marked S e p).counts ≡ true → Contains (ends S) end
unfolding usable
path_ends S e p c end is counts = kind_possible S e p p.kind refl (c, counts_usable S e p.need p.kind end is counts) end is

marked_from : (S : Tables) (e : Prefix) (ps : List Path) (q : Marked) → Contains (map (marked S e) ps) q → (p : Path) × Contains ps p × (marked S e p ≡ q)
marked_from S e [] q c = absurd (omega (arith, c.1))
marked_from S e (p ∷ ps) q (zero, lt, is) = (p, (0, omega arith, refl), is)
marked_from S e (p ∷ ps) q (suc k, lt, is) = let r = marked_from S e ps q (k, omega (arith, lt), is) in (r.0, (suc r.1.0, omega (arith, r.1.1), r.1.2), r.2)

pub mark_possible : (S : Tables) (e : Prefix) (q : Marked) (end : End) → Contains (marked_list S e) q → q.counts ≡ true → q.aim ≡ aims.Ends end → Contains (ends S) end
unfolding marked_list
mark_possible S e q end c counts is =
    let r = marked_from S e (chosen S e) q c in
    path_ends S e r.0 r.1 end (ap (λ (m : Marked). m.aim) r.2 ∙ is) (ap (λ (m : Marked). m.counts) r.2 ∙ counts)

pub end_counted : (S : Tables) (f : Prefix → Bool) (e : Prefix) (k : ℕ) (end : End) → aim_by f (marked_list S e) k ≡ aims.Ends end → Contains (ends S) end
end_counted S f e k end is = ⊎_elim
    (λ (drop : end ≡ answers.Drop). subst (Contains (ends S)) (sym drop) (drop_possible S))
    (λ (q : (m : Marked) × Contains (marked_list S e) m × (m.counts ≡ true) × (m.aim ≡ aims.Ends end)). mark_possible S e q.0 end q.1 q.2 q.3)
    (bucket_end f (marked_list S e) k end is)
