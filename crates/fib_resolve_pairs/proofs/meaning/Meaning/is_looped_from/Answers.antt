use Rattle.std.proofs.Common.{◌≡◌, ◌∙◌, sym, ap, subst, List, Bool, false, slice_index_or}
use Rattle.std.specs.Prelude.{Contains}
use Rattle.fib_resolve.specs.Pairs.{chosen}
use Rattle.fib_resolve.specs.Loops.{looped}
use Rattle.fib_resolve.specs.declared.types.Path.{Path}
use Rattle.fib_resolve.specs.declared.types.PathKind.TheVariants as kinds
use Rattle.fib_resolve_pairs.specs.Numbers.{number_in}
use Rattle.fib_resolve_pairs.proofs.Cycles.{looped_start}
use Rattle.fib_resolve_pairs.proofs.meaning.Meaning.is_looped_from.Goals as goal

pub returns-then-not-is_start : goal.returns-then-not-is_start
returns-then-not-is_start c =
    let s = c.self.inside in
    let a = c.args.a in
    looped_start s.known c.args.e a c.args.number s.on_cycles.keys s.starts.items c.self.invariant.loops_are c.self.invariant.starts_are
    (ap (λ S. number_in S c.args.e) c.self.view_is ∙ c.requires.number)
    (subst (λ S. (p : Path) × Contains (chosen S c.args.e) p × (p.kind ≡ kinds.Recursive a)) (sym c.self.view_is) c.requires.there)
    (ap (λ (l : List Bool). slice_index_or l c.args.number false) (sym c.as_slice.ensures.value) ∙ (sym c.is_start.ensures ∙ c.if-not-is_start.true))
    ∙ ap (λ S. looped S c.args.e a) c.self.view_is

pub returns : goal.returns
returns c = c.is_looped.ensures ∙ ap (λ S. looped S c.args.e c.args.a) c.self.view_is
