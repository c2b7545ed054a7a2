use Rattle.std.proofs.Common.{Some, sym, ap, ◌∙◌, inl, inr}
use Rattle.std.proofs.lemmas.Bool.{false≢true}
use Rattle.fib_follow_plan.proofs.asked.short_cover.Goals as goal

pub returns-then-has_pairs : goal.returns-then-has_pairs
returns-then-has_pairs c = λ z h. elim h.1 [
  | inl a ↦ absurd (false≢true (sym a.0 ∙ (sym c.has_pairs.ensures ∙ c.if-has_pairs.true)))
  | inr b ↦ c.come_under.ensures z b.1 b.2
]

pub returns : goal.returns
returns c = λ z h. elim h.1 [
  | inl a ↦ ap Some (sym a.1)
  | inr b ↦ absurd (false≢true (sym c.if-has_pairs.false ∙ (c.has_pairs.ensures ∙ b.0)))
]
