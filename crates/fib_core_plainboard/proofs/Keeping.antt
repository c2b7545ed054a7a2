-- The control plane's calls keep what belongs together.
use Rattle.std.proofs.Common.{◌≡◌, ℕ, ◌+◌, ◌*◌, ◌<◌, true, false, List, length, sym, ap, ◌∙◌, subst}
use Rattle.std.specs.Prelude.{slice_index, slice_index_or, slice_set, Some, None}
use Rattle.fib_resolve.specs.declared.types.Tables.{Tables}
use Rattle.fib_core_results.specs.Versions.{packed, unpacked}
use Rattle.fib_core_results.proofs.Versions.{unpacked_packed}
use Rattle.fib_core.specs.declared.word.Word.{Word}
use Rattle.fib_core.specs.Words.{IsWord, encoded}
use Rattle.fib_core.specs.Union.{Union, scanned}
use Rattle.fib_core.specs.Trails.{AreLawful}
use Rattle.fib_core_lawful.specs.Layout.{version_word, pass_word, cell_word, words_for}
use Rattle.fib_core_lawful.specs.State.{Control, Log, control, worker, stored_union, begun, settled}
use Rattle.fib_core_lawful.specs.Frame.{IsDesk}
use Rattle.fib_core_lawful.specs.Lawful.{OfControl}
use Rattle.fib_core_lawful.proofs.Framing.{own}
use Rattle.fib_core_lawful.proofs.Views.{set_there}
use Rattle.fib_core_rule.specs.Rule.{IsLawful, parts}
use Rattle.fib_core_rule.specs.Steady.{AreSteady}
use Rattle.fib_core_rule.proofs.Keeping as keep
use Rattle.fib_core_rule.proofs.Tells.{pass_known}
use Rattle.fib_core_board.specs.Boards.{Board, Pass, as_control, board_begun, board_settled}
use Rattle.fib_core_board.specs.May.{MayStore, MayBegin, MaySettle}
use Rattle.fib_core_board.specs.Told.{IsBoard}
use Rattle.fib_core_board.proofs.Ruling.{store_allowed, begin_allowed, told}
use Rattle.fib_core_plainboard.specs.Passes.{pass_of}
use Rattle.fib_core_plainboard.specs.inner.Sits.{control_with, view_of, Sits, IsPlain, put_at, looked_at}
use Rattle.fib_core_plainboard.proofs.Views.{at_other, worker_apart}

module _ (words : List ℕ) (p : Board) (s : IsPlain words p) where
  abbrev pub Own : Control
  Own = control_with p s.home s.picked

  pub facts : OfControl p.objects words Own
  facts = (keep.here p.objects words s.views 0 s.lawful Own s.mine).0.0

  pub desk : IsDesk words (record { out = p.out; rests = p.rests; picked = s.picked })
  desk = (own (parts p.objects s.lawful.names) words s.views 0 Own s.lawful.holds.rule s.mine).1.1.desk

  pub words_long : length words ≡ words_for p.objects
  words_long = facts.copied.size

  pub version_now : unpacked (slice_index words version_word) ≡ p.log.version
  version_now = ap unpacked facts.log.packed ∙ unpacked_packed p.log.version facts.log.fits

  pub cell_now : (k : ℕ) → k < 16 * p.objects → slice_index words (cell_word k) ≡ slice_index p.union.cells k
  cell_now k lt = facts.copied.same k lt

  pub word_now : (k : ℕ) → k < 16 * p.objects → IsWord (slice_index words (cell_word k))
  word_now k lt = subst IsWord (sym (cell_now k lt)) (facts.within.words k)

  pub is_board : IsBoard p
  is_board = told p.id p.trails p.passes Own p.objects words s.views s.lawful 0 s.mine s.limits
      (subst (λ ts. AreLawful p.log.history ts) (sym s.trails) tt)
      (subst (λ ts. AreSteady p.log.history ts) (sym s.trails) tt)

  -- the pass words: while a pass runs, one more than at rest
  pub rest_now : (n : ℕ) → n < 8 → pass_of p n ≡ None → slice_index words (pass_word n) ≡ slice_index p.rests n
  rest_now n lt none = desk.same n lt (s.rests n none)

  pub pass_now : (n : ℕ) (q : Pass) → pass_of p n ≡ Some q → slice_index words (pass_word n) ≡ slice_index p.rests n + 1
  pass_now n q runs = pass_known p.objects words s.views s.lawful (s.sits n q runs).seat (view_of p n q) (s.sits n q runs).has

  pub out_now : (n : ℕ) (q : Pass) → pass_of p n ≡ Some q → slice_index_or p.out n false ≡ true
  out_now n q runs = subst (λ (d : Control). slice_index_or d.desk.out n false ≡ true) (sym (s.lawful.holds.rule.2.fits 0 (control Own) s.mine).1)
      (s.lawful.holds.rule.2.fits (s.sits n q runs).seat (worker (view_of p n q)) (s.sits n q runs).has).0.away

  -- an event that leaves seats and pass words as they are
  moved : (u : Union) (l : Log) (m : ℕ) (words' : List ℕ)
      → IsLawful p.objects words' (slice_set s.views 0 (control (control_with (record p { union = u; log = l; stored = m }) s.home s.picked)))
      → IsPlain words' (record p { union = u; log = l; stored = m })
  moved u l m words' lawful =
      let c : Control = control_with (record p { union = u; log = l; stored = m }) s.home s.picked in
      record {
        views = slice_set s.views 0 (control c);
        home = s.home;
        picked = s.picked;
        lawful = lawful;
        mine = set_there s.views 0 (control Own) (control c) s.mine;
        limits = s.limits;
        claims = s.claims;
        trails = s.trails;
        even = s.even;
        long = s.long;
        sits = λ n q e. still n q (s.sits n q e);
        rests = s.rests;
      }
    where
      still : (n : ℕ) (q : Pass) → Sits s.views p n q
          → Sits (slice_set s.views 0 (control (control_with (record p { union = u; log = l; stored = m }) s.home s.picked))) (record p { union = u; log = l; stored = m }) n q
      still n q t = record {
        seat = t.seat;
        has = at_other s.views 0 t.seat (control (control_with (record p { union = u; log = l; stored = m }) s.home s.picked)) (worker (view_of p n q))
            (worker_apart s.views Own (view_of p n q) t.seat s.mine t.has) t.has;
        follows = t.follows;
        left = t.left;
      }

  pub stores : (k : ℕ) (w : Word) → MayStore p k w → IsPlain (slice_set words (cell_word k) (encoded w)) (put_at p k (encoded w))
  stores k w may = moved (stored_union (as_control p) k (encoded w)) p.log (p.stored + 1) (slice_set words (cell_word k) (encoded w))
      (keep.puts p.objects words s.views 0 s.lawful Own k (encoded w)
      (store_allowed p.id p.trails p.passes Own p.objects words s.views s.lawful 0 s.mine k w may) s.mine)

  pub begins : (next : Tables) → MayBegin p next
      → IsPlain (slice_set words version_word (packed (begun p.log next).version)) (board_begun p next)
  begins next may = moved p.union (begun p.log next) p.stored (slice_set words version_word (packed (begun p.log next).version))
      (keep.begins p.objects words s.views 0 s.lawful Own next (begin_allowed p.id p.trails p.passes Own next may) s.mine)

  pub settles : MaySettle p → IsPlain (slice_set words version_word (packed (settled p.log).version)) (board_settled p)
  settles may = moved p.union (settled p.log) p.stored (slice_set words version_word (packed (settled p.log).version))
      (keep.settles p.objects words s.views 0 s.lawful Own may s.mine)

  pub looks : (n : ℕ) → IsPlain words (looked_at p n (slice_index words (pass_word n)))
  looks n = moved (scanned p.union n (slice_index words (pass_word n))) p.log p.stored words
      (keep.looks p.objects words s.views 0 s.lawful Own n s.mine)
