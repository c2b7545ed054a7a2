-- The ends of all usable paths are those of each entry in turn.
use Rattle.std.proofs.Common.{◌≡◌, List, [], ◌∷◌, ◌++◌, map, refl, ◌∙◌, ap}
use Rattle.std.specs.Prelude.{filter, flat_map, filter_map}
use Rattle.std.proofs.lemmas.List.Elements.{filter_map-append}
use Rattle.fib_addr.specs.Prefixes.{Prefix}
use Rattle.fib_resolve.specs.Pairs.{entries, chosen}
use Rattle.fib_resolve.specs.Forwarding.{usable}
use Rattle.fib_resolve.specs.Resolution.{kind_end, entry_ends, ends, attached_end, hop_end}
use Rattle.fib_resolve.specs.declared.types.End.{End}
use Rattle.fib_resolve.specs.declared.types.End.TheVariants as answers
use Rattle.fib_resolve.specs.declared.types.Path.{Path}
use Rattle.fib_resolve.specs.declared.types.PathKind.{PathKind}
use Rattle.fib_resolve.specs.declared.types.PathKind.TheVariants as kinds
use Rattle.fib_resolve.specs.declared.types.Tables.{Tables}
use Rattle.test_plain.specs.inner.Exits.{exit_of, exits_of, exits, exit_end}
use Rattle.test_plain.specs.declared.possible.Exit.{Exit}

-- one path more
one_more : (S : Tables) (e : Prefix) (k : PathKind) (xs : List Exit) (ends' : List End) → filter_map (exit_end S) xs ≡ ends' → filter_map (exit_end S) (record { entry = e; kind = k } ∷ xs) ≡ kind_end S e k ++ ends'
one_more S e kinds.Local xs ends' h = ap (λ (es : List End). answers.Receive ∷ es) h
one_more S e (kinds.Attached i) xs ends' h = ap (λ (es : List End). attached_end S e i ∷ es) h
one_more S e (kinds.Hop a i) xs ends' h = ap (λ (es : List End). hop_end S i a ∷ es) h
one_more S e kinds.Drop xs ends' h = h
one_more S e (kinds.Recursive a) xs ends' h = h
one_more S e kinds.Cover xs ends' h = h

-- the ends of these paths of the entry
path_ends : (S : Tables) (e : Prefix) (ps : List Path) → filter_map (exit_end S) (map (exit_of e) ps) ≡ flat_map (λ p. kind_end S e p.kind) ps
path_ends S e [] = refl
path_ends S e (p ∷ ps) = one_more S e p.kind (map (exit_of e) ps) _ (path_ends S e ps)

all_ends : (S : Tables) (es : List Prefix) → filter_map (exit_end S) (flat_map (exits_of S) es) ≡ flat_map (entry_ends S) es
all_ends S [] = refl
all_ends S (e ∷ es) =
    filter_map-append (exit_end S) (exits_of S e) (flat_map (exits_of S) es)
    ∙ (ap (λ (xs : List End). xs ++ filter_map (exit_end S) (flat_map (exits_of S) es)) (path_ends S e (filter (usable S e) (chosen S e)))
    ∙ ap (λ (xs : List End). entry_ends S e ++ xs) (all_ends S es))

pub ends_are : (S : Tables) → answers.Drop ∷ filter_map (exit_end S) (exits S) ≡ ends S
unfolding ends
ends_are S = ap (λ (es : List End). answers.Drop ∷ es) (all_ends S (entries S))
