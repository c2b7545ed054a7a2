-- A run so far.
use Rattle.std.proofs.Common.{◌≡◌, ◌+◌, ◌++◌, ◌∷◌, [], ℕ, List, length, drop, arith, refl, ap, ap₂, ◌∙◌, sym, subst, Option, Some, None}
use Rattle.std.specs.Prelude.{IfSome}
use Rattle.std.proofs.lemmas.List.{append_assoc, append-nil, length-append}
use Rattle.std.proofs.Math.Seq.{take-length}
use Rattle.fib_core_results.specs.declared.record.Record.{Record}
use Rattle.fib_capture.specs.Captures.{Capture}
use Rattle.fib_outside.specs.Outside.{Appends}
use Rattle.fib_core.specs.Trails.{Trail}
use Rattle.fib_resolve.specs.Tables.{fresh}
use Rattle.fib_resolve.specs.declared.types.Tables.{Tables}
use Rattle.fib_config.specs.Config.{Setup}
use Rattle.fib_core_results.specs.Trails.{version_at}
use Rattle.fib_core_results.specs.declared.record.Version.{Version}
use Rattle.fib_core_board.specs.Boards.{Board}
use Rattle.fib_control.specs.Controls.{Control}
use Rattle.fib_rounds_turns.specs.Routers.{Progress, applied_in, history_in, new_progress}
use Rattle.fib_rounds.specs.declared.summary.Summary.{Summary}
use Rattle.fib_rounds.specs.Summaries.{zero_counts, summary_of}
use Rattle.fib_worker_crew.specs.Packets.{span}
use Rattle.fib_rounds_homing.specs.Homes.{IsHome}
use Rattle.fib_rounds_homing.specs.Places.{IsRightOf, joined, parts_of}
use Rattle.fib_worker_crew.specs.Results.{Kept, numbered}
use Rattle.fib_rounds.specs.declared.opening.Opening.{Opening}
use Rattle.fib_rounds.specs.Stages.{IsHistory, Stage, start}
use Rattle.fib_rounds.specs.Packets.{last_text}
use Rattle.fib_rounds_taps.specs.Taps.{Pairs, Takes, TakesSome}
use Rattle.fib_rounds_taps.proofs.Moves.{Takes-none}
use Rattle.fib_rounds.specs.Output.{OutputWith}
use Rattle.fib_rounds.specs.Writes.{AppendsSome}
use Rattle.fib_rounds.specs.Runs.{Brought, GainsPart, GainsRun, IsNew, rounds_of, stage_after}
use Rattle.fib_rounds.specs.Rounds.{round_at, PrintsFrom, rounds_at, history_at, closed_by, counts_from, stage_of, HasRun, MayOpen}
use Rattle.fib_rounds.specs.inner.Forwarded.{IsAtRest}
use Rattle.fib_rounds.proofs.Moves.{Appends-more, Appends-none}
use Rattle.fib_rounds.proofs.Writing.{cut_off, stopped}
use Rattle.fib_rounds.proofs.Taking.{Fits, Goes, Went, went_cut, went_ends, went_first, went_more, went_stops}
use Rattle.fib_rounds.specs.Frozen.{frozen_output}
use Rattle.fib_rounds.proofs.Histories.{start_is}
use Rattle.fib_rounds.proofs.Turning.{end_counts}
use Rattle.fib_rounds.proofs.Outputs.{frozen_is_one, frozen_output_is_one}

-- where the packets begin of the next round
abbrev pub first_of : Option Opening → Option ℕ
first_of None = None
first_of (Some o) = Some o.first

-- what was printed, taken and brought home, and what is left
pub record Going (workers room : ℕ) (script : List (List ℕ)) (packets : Capture) (at : Stage) (next : Option Opening) (crew : Board) (before now : Option (List ℕ)) (old taken : Option Pairs) : Type 0 where
  pub text : List ℕ
  pub told : Appends before now text
  pub results : List Record
  pub output : (later : List Record) (more : List ℕ) → PrintsFrom packets script at next later more → OutputWith room script packets (results ++ later) (text ++ more)
  pub brought : (later : List Record) (claims : List ℕ) (trails : List Trail) → Brought workers (length crew.gathered) (rounds_at packets script at next) later claims trails
      → Brought workers 0 (rounds_of room script packets) (results ++ later) (crew.gathered ++ claims) (crew.trails ++ trails)
  pub history : history_at script at next ≡ (stage_after 1 (start room) script).history
  pub went : Went packets.packets (first_of next) results old taken

-- after one more round
pub going_more : (workers room : ℕ) (script : List (List ℕ)) (packets : Capture) (at after : Stage) (o : Opening) (next : Option Opening) (k : ℕ) (a b : Board) (places : List (Option Kept)) (out : List ℕ) (before mid now : Option (List ℕ)) (old some taken : Option Pairs)
    → Going workers room script packets at (Some o) a before mid old some → HasRun script packets at o after next (joined (parts_of places)) out
    → IsHome k o.first (length a.gathered) workers (span packets.packets o.first o.to) a b places → MayOpen script packets.packets o → IfSome next (λ n. n.first ≡ o.to) → Appends mid now out
    → Takes some taken (numbered o.first (span packets.packets o.first o.to) (joined (parts_of places))) → Going workers room script packets after next b before now old taken
going_more workers room script packets at after o next k a b places out before mid now old some taken g run home may goes told took =
    let mine = joined (parts_of places) in
    record {
      text = g.text ++ out;
      told = Appends-more before mid now g.text out g.told told;
      results = g.results ++ mine;
      output = λ later more p.
          let whole = g.output (mine ++ later) (out ++ more) (run.prints later more p) in
          subst (λ t. OutputWith room script packets ((g.results ++ mine) ++ later) t) (sym (append_assoc g.text out more))
          (subst (λ rs. OutputWith room script packets rs (g.text ++ (out ++ more))) (sym (append_assoc g.results mine later)) whole);
      brought = λ later claims trails p.
          let base : length b.gathered ≡ length a.gathered + length home.claims = ap length home.brought ∙ length-append a.gathered home.claims in
          let rest = subst (λ n. Brought workers n (rounds_at packets script after next) later claims trails) base p in
          let here : Brought workers (length a.gathered) (round_at packets.packets at.router.changes o ∷ rounds_at packets script after next) (mine ++ later) (home.claims ++ claims) (home.trails ++ trails) =
          (mine, later, home.claims, claims, home.trails, trails, home.gathered, rest, refl, refl, refl) in
          let whole = g.brought (mine ++ later) (home.claims ++ claims) (home.trails ++ trails) (subst (λ rs. Brought workers (length a.gathered) rs (mine ++ later) (home.claims ++ claims) (home.trails ++ trails)) (sym run.rounds) here) in
          let cs : a.gathered ++ (home.claims ++ claims) ≡ b.gathered ++ claims = sym (append_assoc a.gathered home.claims claims) ∙ ap (λ xs. xs ++ claims) (sym home.brought) in
          let ts : a.trails ++ (home.trails ++ trails) ≡ b.trails ++ trails = sym (append_assoc a.trails home.trails trails) ∙ ap (λ xs. xs ++ trails) (sym home.came) in
          subst (λ rs. Brought workers 0 (rounds_of room script packets) rs (b.gathered ++ claims) (b.trails ++ trails)) (sym (append_assoc g.results mine later))
          (subst (λ xs. Brought workers 0 (rounds_of room script packets) (g.results ++ (mine ++ later)) (b.gathered ++ claims) xs) ts (subst (λ xs. Brought workers 0 (rounds_of room script packets) (g.results ++ (mine ++ later)) xs (a.trails ++ (home.trails ++ trails))) cs whole));
      history = run.history ∙ g.history;
      went = went_more (IsRightOf k b.log.history) packets.packets o.first o.to (first_of next) g.results mine old some taken g.went may.order may.inside home.answered (goes_on next goes) took;
    }
  where
    goes_on : (x : Option Opening) → IfSome x (λ n. n.first ≡ o.to) → Goes o.to (first_of x)
    goes_on None e = tt
    goes_on (Some n) e = e

-- each start of an output can be ended
pub some_more : (script : List (List ℕ)) (packets : Capture) (at : Stage) (next : Option Opening) → IsHistory at → (later : List Record) × (more : List ℕ) × PrintsFrom packets script at next later more
some_more script packets at None history = ([], last_text packets.cut, (refl, refl))
some_more script packets at (Some o) history =
    let p = frozen_is_one packets (o.place + 1) (round_at packets.packets at.router.changes o) at.router.config.tables at (drop o.place script) (record { history = history; held = history.newest }) in
    (p.0, _, p.1)

fits_of : (script : List (List ℕ)) (packets : Capture) (at : Stage) (next : Option Opening) (later : List Record) (more : List ℕ) → PrintsFrom packets script at next later more → Fits (first_of next) later
fits_of script packets at None later more p = p.0
fits_of script packets at (Some o) later more p = tt

pub going_stops : (workers room : ℕ) (script : List (List ℕ)) (packets : Capture) (at : Stage) (next : Option Opening) (crew : Board) (before now : Option (List ℕ)) (old taken : Option Pairs) → Going workers room script packets at next crew before now old taken → IsHistory at
    → GainsPart room script packets before now old taken
going_stops workers room script packets at next crew before now old taken g history =
    let more = some_more script packets at next history in (
      g.results ++ more.0,
      g.text ++ more.1,
      g.output more.0 more.1 more.2,
      stopped before now g.text more.1 (g.text ++ more.1) g.told refl,
      went_stops packets.packets (first_of next) g.results more.0 old taken g.went (fits_of script packets at next more.0 more.1 more.2),
    )

-- a fault came within what is printed next
pub going_cut : (workers room : ℕ) (script : List (List ℕ)) (packets : Capture) (at : Stage) (next : Option Opening) (crew : Board) (out : List ℕ) (before mid now : Option (List ℕ)) (old some taken : Option Pairs) (later : List Record) (more : List ℕ)
    → (g : Going workers room script packets at next crew before mid old some) → PrintsFrom packets script at next later (out ++ more) → AppendsSome mid now out
    → TakesSome old taken (numbered 0 packets.packets (g.results ++ later)) → GainsPart room script packets before now old taken
going_cut workers room script packets at next crew out before mid now old some taken later more g p part took =
    (g.results ++ later, g.text ++ (out ++ more), g.output later (out ++ more) p, cut_off before mid now g.text out more (g.text ++ (out ++ more)) g.told part refl, took)

-- the end
pub going_ends : (workers room : ℕ) (script : List (List ℕ)) (packets : Capture) (at : Stage) (control : Control) (before mid now : Option (List ℕ)) (old taken : Option Pairs) → Going workers room script packets at None control.plane.board before mid old taken
    → Appends mid now (last_text packets.cut) → history_in control ≡ at.history → control.plane.board.log.version.settled ≡ applied_in control → GainsRun workers room script packets control before now old taken
going_ends workers room script packets at control before mid now old taken g told history settled = (
  g.results ++ [],
  g.text ++ last_text packets.cut,
  record {
    output = g.output [] (last_text packets.cut) (refl, refl);
    brought = subst (λ ts. Brought workers 0 (rounds_of room script packets) (g.results ++ []) control.plane.board.gathered ts) (append-nil control.plane.board.trails)
        (subst (λ cs. Brought workers 0 (rounds_of room script packets) (g.results ++ []) cs (control.plane.board.trails ++ [])) (append-nil control.plane.board.gathered) (g.brought [] [] [] (refl, refl, refl)));
    history = history ∙ g.history;
    settled = settled;
  },
  Appends-more before mid now g.text (last_text packets.cut) g.told told,
  went_ends packets.packets g.results old taken g.went,
)

-- the counts at the end are those of the rounds and of the router
pub counts_end : (packets : Capture) (script : List (List ℕ)) (at : Stage) (next : Option Opening) (c : Summary) (accepted refused : ℕ) (whole : Summary) → next ≡ None
    → counts_from packets script (closed_by at next) next c ≡ whole → accepted ≡ at.router.changes → refused ≡ (closed_by at next).router.refused
    → record c { accepted = accepted; refused = refused } ≡ whole
counts_end packets script at (Some o) c accepted refused whole none is changes lines = absurd (some_none none)
  where
    some_none : Some o ≡ None → ⊥
    some_none e = cc
counts_end packets script at None c accepted refused whole none is changes lines =
    ap₂ (λ (x y : ℕ). record c { accepted = x; refused = y }) (changes ∙ sym (end_counts at.router)) lines ∙ is

-- ---- the beginning

abbrev stage_by : Setup → Version → List Tables → Progress → Stage
stage_by S v H p = record { router = record { config = S; changes = v.applied; refused = p.refused; batch = p.batch }; history = H }

pub stage_fresh : (workers room : ℕ) (c : Control) (p : Progress) → IsNew workers room c → p ≡ new_progress → stage_of c p ≡ start room
stage_fresh workers room c p f is =
    ap (λ (S : Setup). stage_by S c.plane.board.log.version (history_in c) p) f.setup
    ∙ (ap (λ (v : Version). stage_by (record { tables = fresh; room = room }) v (history_in c) p) f.version
    ∙ (ap (λ (H : List Tables). stage_by (record { tables = fresh; room = room }) (version_at 0) H p) f.history
    ∙ ap (λ (q : Progress). stage_by (record { tables = fresh; room = room }) (version_at 0) (fresh ∷ []) q) is))

abbrev first_opening : Opening
first_opening = record { place = 0; first = 0; to = 0 }

going_first : (workers room : ℕ) (script : List (List ℕ)) (packets : Capture) (before : Option (List ℕ)) (old : Option Pairs) (c : Board) → c.gathered ≡ [] → c.trails ≡ [] → Going workers room script packets (start room) (Some first_opening) c before before old old
going_first workers room script packets before old c claims trails = record {
  text = [];
  told = Appends-none before;
  results = [];
  output = λ later more p. p;
  brought = λ later cs ts p.
      subst (λ xs. Brought workers 0 (rounds_of room script packets) later (xs ++ cs) (c.trails ++ ts)) (sym claims)
      (subst (λ xs. Brought workers 0 (rounds_of room script packets) later cs (xs ++ ts)) (sym trails) (subst (λ n. Brought workers n (rounds_of room script packets) later cs ts) (ap length claims) p));
  history = refl;
  went = went_first packets.packets old;
}

pub going_fresh : (workers room : ℕ) (script : List (List ℕ)) (packets : Capture) (before : Option (List ℕ)) (old : Option Pairs) (c : Control) (p : Progress) → IsNew workers room c → p ≡ new_progress
    → Going workers room script packets (stage_of c p) (Some first_opening) c.plane.board before before old old
going_fresh workers room script packets before old c p f is =
    subst (λ s. Going workers room script packets s (Some first_opening) c.plane.board before before old old) (sym (stage_fresh workers room c p f is)) (going_first workers room script packets before old c.plane.board f.gathered f.trails)

pub counts_fresh : (workers room : ℕ) (script : List (List ℕ)) (packets : Capture) (c : Control) (p : Progress) (s : Summary) → IsNew workers room c → p ≡ new_progress → s ≡ zero_counts
    → counts_from packets script (stage_of c p) (Some first_opening) s ≡ summary_of room script packets
counts_fresh workers room script packets c p s f is zero =
    ap (λ (x : Stage). counts_from packets script x (Some first_opening) s) (stage_fresh workers room c p f is) ∙ ap (counts_from packets script (start room) (Some first_opening)) zero

pub history_fresh : (workers room : ℕ) (c : Control) (p : Progress) → IsNew workers room c → p ≡ new_progress → IsHistory (stage_of c p)
history_fresh workers room c p f is = subst IsHistory (sym (stage_fresh workers room c p f is)) (start_is room)

pub rests_fresh : (workers room : ℕ) (c : Control) → IsNew workers room c → IsAtRest workers 0 c
rests_fresh workers room c f = record {
  all = f.all;
  none = f.none;
  few = omega (arith, ap length f.gathered);
  passes = λ n lt. omega (arith, f.left n lt);
  settled = ap (λ (v : Version). v.settled) f.version ∙ sym (ap (λ (v : Version). v.applied) f.version);
}

-- ---- the texts of a round

pub some_of_first : (mid now : Option (List ℕ)) (text frames : List ℕ) → AppendsSome mid now text → AppendsSome mid now (text ++ frames)
some_of_first mid now text frames some = cut_off mid mid now [] text frames (text ++ frames) (Appends-none mid) some refl

pub some_of_both : (mid next now : Option (List ℕ)) (text frames : List ℕ) → Appends mid next text → AppendsSome next now frames → AppendsSome mid now (text ++ frames)
some_of_both mid next now text frames told some = cut_off mid next now text frames [] (text ++ frames) told some (ap (λ t. text ++ t) (append-nil frames))

-- a fault came within a round
pub round_cut : (workers room : ℕ) (script : List (List ℕ)) (packets : Capture) (at after : Stage) (o : Opening) (next : Option Opening) (k : ℕ) (a b : Board) (places : List (Option Kept)) (out : List ℕ) (before mid now : Option (List ℕ)) (old some taken : Option Pairs)
    → Going workers room script packets at (Some o) a before mid old some → HasRun script packets at o after next (joined (parts_of places)) out → IsHistory after
    → IsHome k o.first (length a.gathered) workers (span packets.packets o.first o.to) a b places → MayOpen script packets.packets o → AppendsSome mid now out
    → TakesSome some taken (numbered o.first (span packets.packets o.first o.to) (joined (parts_of places))) → GainsPart room script packets before now old taken
round_cut workers room script packets at after o next k a b places out before mid now old some taken g run history home may part took =
    let more = some_more script packets after next history in
    let mine = joined (parts_of places) in
    going_cut workers room script packets at (Some o) a out before mid now old some taken (mine ++ more.0) more.1 g (run.prints more.0 more.1 more.2) part
    (went_cut (IsRightOf k b.log.history) packets.packets o.first o.to g.results mine more.0 old some taken g.went may.order may.inside home.answered took)

-- nothing was taken of these
pub none_taken : (old : Option Pairs) (pairs : Pairs) → TakesSome old old pairs
none_taken old pairs = (0, Takes-none old)

-- all of them were
pub all_taken : (old taken : Option Pairs) (pairs : Pairs) → Takes old taken pairs → TakesSome old taken pairs
all_taken old taken pairs took = (length pairs, subst (Takes old taken) (sym (take-length pairs)) took)

-- nothing was written yet
pub none_yet : (room : ℕ) (script : List (List ℕ)) (packets : Capture) (before : Option (List ℕ)) (old : Option Pairs) → GainsPart room script packets before before old old
none_yet room script packets before old =
    let whole = frozen_output_is_one room script packets in
    (whole.0, frozen_output room script packets, whole.1, (0, Appends-none before), none_taken old (numbered 0 packets.packets whole.0))
