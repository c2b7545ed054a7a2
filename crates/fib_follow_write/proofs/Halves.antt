-- Steps in two halves.
use Rattle.std.proofs.Common.{◌≡◌, ℕ, List, [], ◌∷◌, ◌++◌, take, drop, refl, sym, ◌∙◌, ap, subst}
use Rattle.std.proofs.lemmas.List.{take-append-drop}
use Rattle.fib_follow_write.specs.Steps.{AreTaken, Fit}

module _ {S W : Type 0} (fits : S → W → Type 0) (makes : S → W → W → Type 0) where
  pub fit_low : (ls rs : List S) (w : W) → Fit fits makes (ls ++ rs) w → Fit fits makes ls w
  fit_low [] rs w f = tt
  fit_low (s ∷ ls) rs w f = (f.0, λ v m. fit_low ls rs v (f.1 v m))

  pub fit_high : (ls rs : List S) (w v : W) → Fit fits makes (ls ++ rs) w → AreTaken makes ls w v → Fit fits makes rs v
  fit_high [] rs w v f t = subst (Fit fits makes rs) (sym t) f
  fit_high (s ∷ ls) rs w v f t = fit_high ls rs t.0 v (f.1 t.0 t.1) t.2

module _ {S W : Type 0} (makes : S → W → W → Type 0) where
  pub joined : (ls rs : List S) (w v u : W) → AreTaken makes ls w v → AreTaken makes rs v u → AreTaken makes (ls ++ rs) w u
  joined [] rs w v u a b = subst (λ z. AreTaken makes rs z u) a b
  joined (s ∷ ls) rs w v u a b = (a.0, a.1, joined ls rs a.0 v u a.2 b)

  pub parted : (ls rs : List S) (w u : W) → AreTaken makes (ls ++ rs) w u → (v : W) × AreTaken makes ls w v × AreTaken makes rs v u
  parted [] rs w u t = (w, refl, t)
  parted (s ∷ ls) rs w u t = (let p = parted ls rs t.0 u t.2 in (p.0, (t.0, t.1, p.1), p.2))

pub whole : {S : Type 0} (n : ℕ) (ss ls rs : List S) → ls ≡ take n ss → rs ≡ drop n ss → ss ≡ ls ++ rs
whole n ss ls rs l r = sym (take-append-drop n ss) ∙ (ap (λ z. z ++ drop n ss) (sym l) ∙ ap (λ z. ls ++ z) (sym r))
