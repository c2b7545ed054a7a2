-- An example: what the first store into a fresh table asks can be met.
use Rattle.std.proofs.Common.{◌≡◌, ◌≢◌, ◌≤◌, ◌<◌, inl, inr, ◌+◌, ◌*◌, ◌/◌, ◌%◌, ℕ, zero, suc, List, [], length, replicate, refl, sym, ap, ◌∙◌, subst, arith, get_or-set_same, get_or-set_other, length-set}
use Rattle.std.specs.Prelude.{slice_index, slice_set}
use native.Mathlib.Decide.{ℕ_discrete}
use mathlib.Core.Logic.{dite}
use Rattle.fib_addr.specs.Prefixes.{nibble}
use Rattle.fib_reach.specs.Walks.{Leads}
use Rattle.fib_resolve.specs.declared.types.End.TheVariants as answers
use Rattle.fib_core.specs.declared.word.Word.{Word}
use Rattle.fib_core.specs.declared.word.Word.TheVariants as words
use Rattle.fib_core.specs.Words.{encoded, decoded, tag_of, target}
use Rattle.fib_core.specs.Walk.{root, balance, halved, from_ply, from_balance, word_at, after, end_at, walk, EndsIn}
use Rattle.fib_core.specs.Union.{Union, Edge, IsPlyWord, IsBucketWord, HasForm}
use Rattle.fib_core.specs.Trails.{IsEndOf}
use Rattle.fib_core.proofs.Numbers.{zeros, decoded_encoded, target_of}
use Rattle.fib_core.proofs.Walks.{after_ended}
use Rattle.fib_core_lawful.specs.State.{first_control}
use Rattle.fib_core_lawful.specs.May.{MayLead}
use Rattle.fib_core_lawful.proofs.Begins.{falses, length_zeros, no_goes, drop_at}
use Rattle.fib_core_rule.specs.May.{MayStore}

-- the word: on to the balance in object 1
abbrev Says : Word
Says = words.ToBalance 1

abbrev pub first_word : ℕ
first_word = encoded (words.ToBalance 1)

back : decoded (encoded (words.ToBalance 1)) ≡ words.ToBalance 1
back = decoded_encoded (words.ToBalance 1) (omega arith)

leads : target (encoded (words.ToBalance 1)) ≡ 1
leads = target_of (encoded (words.ToBalance 1)) (words.ToBalance 1) back

not_zero : 0 ≡ encoded (words.ToBalance 1) → ⊥
unfolding encoded
not_zero e = omega arith

four : tag_of (decoded (encoded (words.ToBalance 1))) ≡ 3 → ⊥
four e = absurd (let is : tag_of (decoded (encoded (words.ToBalance 1))) ≡ 4 = ap tag_of back in omega arith)

no_ply : (w : Word) (c : ℕ) → w ≡ words.ToBalance 1 → w ≡ words.ToPly c → ⊥
no_ply w c e f = cc

drop_no_ply : (w : Word) (c : ℕ) → w ≡ words.Drop → w ≡ words.ToPly c → ⊥
drop_no_ply w c e f = cc

module _ (objects : ℕ) (some : 1 < objects) where
  abbrev Cells : List ℕ
  Cells = replicate (16 * objects) 0

  abbrev Filled : List ℕ
  Filled = slice_set (replicate (16 * objects) 0) 0 (encoded (words.ToBalance 1))

  abbrev Empty : Union
  Empty = record { cells = replicate (16 * objects) 0; retired = [] }

  -- every cell but the first still says Drop
  still : (o s : ℕ) → 0 < 16 * o + s → word_at Filled o s ≡ words.Drop
  still o s lt = ap decoded (get_or-set_other Cells 0 (16 * o + s) (encoded (words.ToBalance 1)) 0 (λ e. omega arith)) ∙ drop_at (16 * objects) (16 * o + s)

  none_there : Leads (Edge Empty) 1 0 → ⊥
  none_there (zero, e) = omega arith
  none_there (suc n, w) = no_goes (16 * objects) w.1.0 w.1.1 w.1.4

  -- the walk drops by either cell
  from_one : (a h m : ℕ) → end_at (after Filled a h (suc m) (balance 1 0)) ≡ answers.Drop
  from_one a h m =
      ap (λ (w : Word). end_at (after Filled a h m (from_balance 0 w))) (still 1 (halved h 0 % 16) (omega arith))
      ∙ ap end_at (after_ended Filled a h m answers.Drop)

  first_cell : (a : ℕ) → nibble a 0 ≡ 0 → word_at Filled 0 (nibble a 0) ≡ words.ToBalance 1
  first_cell a z = ap (λ (s : ℕ). word_at Filled 0 s) z ∙ ap decoded (get_or-set_same Cells 0 (encoded (words.ToBalance 1)) 0 (let long : length Cells ≡ 16 * objects = length_zeros (16 * objects) 0 in omega arith)) ∙ back

  other_cell : (a : ℕ) → nibble a 0 ≢ 0 → word_at Filled 0 (nibble a 0) ≡ words.Drop
  other_cell a ne = still 0 (nibble a 0) (more (nibble a 0) ne)
    where
      more : (n : ℕ) → n ≢ 0 → 0 < 16 * 0 + n
      more n ne = omega arith

  steps : (a h m : ℕ) → end_at (after Filled a h (suc (suc m)) root) ≡ answers.Drop
  steps a h m = dite (ℕ_discrete (nibble a 0) 0)
      (λ z. ap (λ (w : Word). end_at (after Filled a h (suc m) (from_ply 0 w))) (first_cell a z) ∙ from_one a h m)
      (λ ne. ap (λ (w : Word). end_at (after Filled a h (suc m) (from_ply 0 w))) (other_cell a ne) ∙ ap end_at (after_ended Filled a h (suc m) answers.Drop))

  drops : (a h : ℕ) → walk Filled a h ≡ answers.Drop
  unfolding walk
  drops a h = by_count (length Filled / 16 + 1) (let long : length Cells ≡ 16 * objects = length_zeros (16 * objects) 0 in let same : length Filled ≡ length Cells = length-set Cells 0 (encoded (words.ToBalance 1)) in omega arith)
    where
      by_count : (n : ℕ) → 2 ≤ n → end_at (after Filled a h n root) ≡ answers.Drop
      by_count zero le = absurd (omega arith)
      by_count (suc zero) le = absurd (omega arith)
      by_count (suc (suc m)) le = steps a h m

  lead : MayLead objects Empty 0 (encoded (words.ToBalance 1))
  lead = record {
    within = subst (λ t. t < objects) (sym leads) some;
    away = λ e. (let bad : ◌≡◌ {A = ℕ} 1 0 = sym leads ∙ e in omega arith);
    apart = λ l. none_there (subst (λ t. Leads (Edge Empty) t 0) leads l);
    one_tag = λ j v g e. absurd (no_goes (16 * objects) j v g);
    formed = λ s lt. subst (λ (w : Word). HasForm w s (word_at Cells (target (encoded (words.ToBalance 1))) s)) (sym back) (subst IsBucketWord (sym (drop_at (16 * objects) (16 * target (encoded (words.ToBalance 1)) + s))) tt);
    plies = λ three. absurd (four three);
    shallow = λ three. absurd (four three);
    others = λ three j v g. absurd (no_goes (16 * objects) j v g);
  }

  pub first_store : (workers : ℕ) → MayStore (first_control objects workers) 0 (encoded (words.ToBalance 1))
  first_store workers = record {
    lawful = record {
      inside = omega arith;
      word = (words.ToBalance 1, omega arith, refl);
      other = λ e. not_zero (sym (zeros (16 * objects) 0) ∙ e);
      root = λ z. inl (subst IsPlyWord (sym back) tt);
      form = λ j v g e. absurd (no_goes (16 * objects) j v g);
      whole = λ j v o g. absurd (no_goes (16 * objects) j v g);
      edge = λ going. lead;
      end = subst (EndsIn (IsEndOf (first_control objects workers).log.history 0 0) Cells) (sym back) tt;
      during = inr (record { fresh = refl; home = falses 8; drops = λ a h flow. drops a h });
    };
    steady = λ begun. absurd (omega arith);
    rooted = record {
      links = λ c is. absurd (no_ply (decoded (encoded (words.ToBalance 1))) c back is);
      unlinks = λ c is. absurd (drop_no_ply (decoded (slice_index Cells 0)) c (drop_at (16 * objects) 0) is);
    };
  }
