-- How clap's command is put together, and what an error of it says.
use Rattle.std.proofs.Common.{◌≡◌, ◌∙◌, ◌∷◌, [], ap, ap₂, refl, sym, true, false, inl, inr, arith, ne_eqb, Result, Ok, Err, Option, option_map}
use Rattle.std.specs.Result.{result_ok}
use Rattle.fib_addr.specs.Texts.{Reads}
use Rattle.clap.specs.Words.{App, Rule, Text, app_of, rule_of, new_app, with_rule, AddsArg}
use Rattle.clap.specs.Faults.{is_simple_and_free}
use Rattle.clap.specs.Simple.{on_top, app_of_fields, is_simple}
use Rattle.clap.specs.Kinds.{Kinds, HasKind}
use Rattle.clap.specs.Values.{kind_of}
use Rattle.clap.specs.Walk.{is_empty}
use Rattle.clap.specs.declared.builder.arg.Arg.{Arg}
use Rattle.clap.specs.declared.builder.command.Command.{Command}
use Rattle.clap.specs.declared.builder.command.Command.TheViews.{out-Command as fields_of}
use Rattle.clap.specs.declared.error.Error.{Error}
use Rattle.clap.specs.declared.error.kind.ErrorKind.TheVariants.{OutOfMemory}
use Rattle.clap.proofs.OnLiterals.{clap_on_literals}
use Rattle.fib_words.specs.Words.{fib_command}

-- the command before its first argument
pub flagged : (start mid new : Command) (t : Text) → app_of start ≡ new_app t
    → fields_of mid ≡ record (fields_of start) { no_binary_name = true }
    → fields_of new ≡ record (fields_of mid) { disable_help_flag = true }
    → app_of new ≡ on_top (λ s. record s { no_binary_name = true; disable_help_flag = true }) (new_app t)
flagged start mid new t is first second =
    ap app_of_fields second
    ∙ (ap (λ f. app_of_fields (record f { disable_help_flag = true })) first
    ∙ ap (on_top (λ s. record s { no_binary_name = true; disable_help_flag = true })) is)

-- the command with one argument more
pub added : (old new : Command) (a : Arg) (app : App) (r : Rule) → AddsArg old a new → a.global ≡ false → app_of old ≡ app → rule_of a ≡ r → app_of new ≡ with_rule app r
added old new a app r h local is rule = h.shape local ∙ ap₂ with_rule is rule

-- clap's definitions speak of this command
pub fib_is_simple_and_free : is_simple_and_free fib_command ≡ true
unfolding fib_command clap_on_literals
fib_is_simple_and_free = refl

pub fib_is_simple : is_simple fib_command ≡ true
unfolding fib_command clap_on_literals
fib_is_simple = refl

-- no fault shows that the words are taken
pub taken : (kinds : Kinds) → kinds ≡ [] → is_empty kinds ≡ true
taken kinds e = rw e refl

-- an error of another kind than memory shows that the words aren't taken
pub not_taken : (kinds : Kinds) (e : Error) → HasKind kinds e → (kind_of e ≡ OutOfMemory → ⊥) → is_empty kinds ≡ false
not_taken [] e h other = elim h [ inl memory ↦ absurd (other memory) | inr among ↦ absurd among ]
not_taken (k ∷ ks) e h other = ne_eqb _ _ (λ same. omega (arith, same))

-- a reader's answer as an option
pub read_as_option : {X Y E : Type 0} (view : X → Y) (r : Result X E) (value : Option Y) → Reads view r value → option_map view (result_ok r) ≡ value
read_as_option view (Ok x) value h = sym h
read_as_option view (Err e) value h = sym h
