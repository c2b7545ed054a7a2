-- What a check prints, and what a refused change leaves.
use Rattle.std.proofs.Common.{◌≡◌, ℕ, Bool, List, refl, sym, ap, ◌∙◌, subst}
use Rattle.std.specs.Prelude.{Some}
use Rattle.fib_config.proofs.Made.{made_large}
use Rattle.fib_config.specs.Config.{Setup}
use Rattle.fib_entries_rows.specs.Known.{Known}
use Rattle.fib_entries.specs.Following.{TellsChange}
use Rattle.fib_entries.specs.declared.errors.ChangeError.TheVariants as changes
use Rattle.fib_resolve.specs.Edits.{edited}
use Rattle.fib_resolve.specs.Refusals.{refused}
use Rattle.fib_resolve.specs.declared.types.Edit.{Edit}
use Rattle.fib_resolve.specs.declared.types.Refusal.TheVariants as refusals
use Rattle.fib_resolve.specs.Tables.{interface_named}
use Rattle.fib_resolve.specs.declared.types.Tables.{Tables}
use Rattle.fib_urpf.specs.ReversePath.{loose, strict}
use Rattle.fib_checker.specs.Checks.{check_over, check_text, verdicts}
use Rattle.fib_checker.specs.Ready.{IsReady}
use Rattle.fib_checker.specs.declared.checker.Checker.{Checker}

pub check_said : (n : ℕ) (S T : Tables) (a : ℕ) (name : List ℕ) (i : ℕ) (s l : Bool) → T ≡ S → Some i ≡ interface_named T name → s ≡ strict S a i → l ≡ loose S a → verdicts s l ≡ check_text n S a name
unfolding check_text
check_said n S T a name i s l same at p q =
    ap (λ b. verdicts b l) p ∙ ap (λ b. verdicts (strict S a i) b) q ∙ ap (check_over n S a) (at ∙ ap (λ U. interface_named U name) same)

-- a checker of which nothing is other is ready for the same tables
pub same_ready : (S : Tables) (c : Checker) (f : Setup) (v : Known) → f ≡ c.config → v ≡ c.entries → IsReady S c → IsReady S (record { config = f; entries = v; urpf = c.urpf })
same_ready S c f v config entries ready =
    subst (λ (x : Known). IsReady S (record { config = f; entries = x; urpf = c.urpf })) (sym entries)
    (subst (λ (x : Setup). IsReady S (record { config = x; entries = c.entries; urpf = c.urpf })) (sym config) ready)

pub too_large : (S : Tables) (room : ℕ) (e : Edit) (told : ℕ) → TellsChange S room e (changes.TooMany told) → refused S room e ≡ Some refusals.TooLarge
too_large S room e told h = made_large S (edited S e) room e refl h.1.above h.0
