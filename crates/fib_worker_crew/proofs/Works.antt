-- One frame more.
use Rattle.std.proofs.Common.{◌≡◌, ◌<◌, ◌≤◌, ◌+◌, ◌*◌, ◌++◌, ◌∷◌, [], ℕ, List, length, drop, arith, refl, ap, ◌∙◌, sym, subst, Option, Some, None, inl, inr}
use Rattle.std.specs.List.{AllByRecursion}
use Rattle.std.proofs.lemmas.List.{append_assoc, append-nil, length-append, length-take}
use Rattle.fib_base_list.proofs.Lists.{each-append}
use Rattle.fib_core_results.specs.Trails.{AtLeast, version_at}
use Rattle.fib_capture.specs.declared.packet.Packet.{Packet}
use Rattle.fib_core_board.specs.Crews.{Seated}
use Rattle.fib_cells.specs.Seats.{seat_claimed}
use Rattle.fib_worker_crew.specs.Packets.{Matched, IsAsked}
use Rattle.fib_worker_crew.specs.Frames.{frame, frames}
use Rattle.fib_worker_crew.specs.Results.{numbered, results_of, Told, HasForwarded}
use Rattle.fib_worker_crew.specs.Work.{IsForwarded, frames_in, results_in, Named, HasStopped, HasWorked, steps_of, steps_so_far}
use Rattle.fib_worker_crew.specs.declared.claims.Frame.{Frame}
use Rattle.fib_worker_crew.proofs.Matching.{asked_lower, told_append, results_numbered, at_least_trans}

-- ---- steps in two parts

pub steps_more : (fs : List Frame) (f : Frame) → steps_so_far (fs ++ f ∷ []) ≡ steps_so_far fs ++ Some f ∷ []
steps_more [] f = refl
steps_more (g ∷ fs) f = ap (λ ss. Some g ∷ ss) (steps_more fs f)

pub steps_end : (fs : List Frame) → steps_of fs ≡ steps_so_far fs ++ None ∷ []
steps_end [] = refl
steps_end (g ∷ fs) = ap (λ ss. Some g ∷ ss) (steps_end fs)

pub frames_append : (ss us : List (Option Frame)) → frames_in (ss ++ us) ≡ frames_in ss ++ frames_in us
frames_append [] us = refl
frames_append (None ∷ ss) us = frames_append ss us
frames_append (Some f ∷ ss) us = ap (λ fs. f ∷ fs) (frames_append ss us)

pub results_append : (ss us : List (Option Frame)) → results_in (ss ++ us) ≡ results_in ss ++ results_in us
results_append [] us = refl
results_append (None ∷ ss) us = results_append ss us
results_append (Some f ∷ ss) us = ap (λ rs. results_of f.results.list ++ rs) (results_append ss us) ∙ sym (append_assoc (results_of f.results.list) (results_in ss) (results_in us))

pub named_append : (base count : ℕ) (cs ds : List ℕ) (ss us : List (Option Frame)) → Named base count cs ss → Named base count ds us → Named base count (cs ++ ds) (ss ++ us)
named_append base count [] ds [] us m n = n
named_append base count [] ds (s ∷ ss) us m n = absurd m
named_append base count (c ∷ cs) ds [] us m n = absurd m
named_append base count (c ∷ cs) ds (None ∷ ss) us m n = (m.0, named_append base count cs ds ss us m.1 n)
named_append base count (c ∷ cs) ds (Some f ∷ ss) us m n = (m.0, m.1, named_append base count cs ds ss us m.2 n)

-- ---- a worker's work

pub worked_none : (k first base : ℕ) (taken : List Packet) (v : Seated) → HasWorked k first base 0 taken v v (steps_so_far [])
worked_none k first base taken v = record {
  id = refl;
  number = refl;
  knows = record { settled = omega arith; applied = omega arith };
  left = omega arith;
  trails = [];
  past = sym (append-nil v.worker.past);
  told = tt;
  passes = omega arith;
  loads = omega arith;
  claims = [];
  claimed = sym (append-nil v.worker.claims);
  few = omega arith;
  named = tt;
  each = tt;
}

pub worked_frame : (k first base n : ℕ) (taken : List Packet) (v w x u : Seated) (fs : List Frame) (claim : ℕ) (f : Frame)
    → AtLeast (version_at k) v.worker.knows → HasWorked k first base n taken v w (steps_so_far fs) → x ≡ seat_claimed w claim → claim ≡ base + f.number → f.number < frames taken
    → HasForwarded x u (first + 256 * f.number) (frame taken f.number) [] f.results.list → HasWorked k first base (n + 1) taken v u (steps_so_far (fs ++ f ∷ []))
worked_frame k first base n taken v w x u fs claim f low h claimed is lt done =
    let rs = done.mine in
    let same : results_of f.results.list ≡ rs = ap results_of done.list ∙ results_numbered (IsAsked x.worker.knows) (first + 256 * f.number) (frame taken f.number) rs done.asked in
    let knows : AtLeast v.worker.knows x.worker.knows = subst (AtLeast v.worker.knows) (sym (ap (λ (s : Seated). s.worker.knows) claimed)) h.knows in
    let asked : Matched (IsAsked (version_at k)) (frame taken f.number) rs = asked_lower (version_at k) x.worker.knows (at_least_trans (version_at k) v.worker.knows x.worker.knows low knows) (frame taken f.number) rs done.asked in
    let one : IsForwarded k first taken f = record {
      inside = lt;
      asked = subst (Matched (IsAsked (version_at k)) (frame taken f.number)) (sym same) asked;
      list = done.list ∙ ap (numbered (first + 256 * f.number) (frame taken f.number)) (sym same);
    } in
    let ss = steps_so_far fs in
    let steps : steps_so_far (fs ++ f ∷ []) ≡ ss ++ Some f ∷ [] = steps_more fs f in
    let results : results_in (ss ++ Some f ∷ []) ≡ results_in ss ++ rs =
    results_append ss (Some f ∷ []) ∙ ap (λ xs. results_in ss ++ xs) (append-nil (results_of f.results.list) ∙ same) in
    let whole : HasWorked k first base (n + 1) taken v u (ss ++ Some f ∷ []) = record {
      id = done.id ∙ (ap (λ (s : Seated). s.id) claimed ∙ h.id);
      number = done.number ∙ (ap (λ (s : Seated). s.worker.number) claimed ∙ h.number);
      knows = at_least_trans v.worker.knows x.worker.knows u.worker.knows knows done.knows;
      left = (let l = h.left in let e = ap (λ (s : Seated). s.worker.pass) claimed in let d = done.left in let t = length-take 256 (drop (256 * f.number) taken) in omega (arith, l, e, d, t));
      trails = h.trails ++ done.trails;
      past = done.past ∙ (ap (λ xs. xs ++ done.trails) (ap (λ (s : Seated). s.worker.past) claimed ∙ h.past) ∙ append_assoc v.worker.past h.trails done.trails);
      told = subst (Told (h.trails ++ done.trails)) (sym results) (told_append h.trails done.trails (results_in ss) rs h.told done.told);
      passes = (let q = h.passes in let e = ap (λ (s : Seated). s.worker.pass) claimed in let d = done.passes in let l = length-append h.trails done.trails in omega (arith, q, e, d, l));
      loads = (let q = h.loads in let e = ap (λ (s : Seated). s.worker.version_loads) claimed in let d = done.loads in let l = length-append h.trails done.trails in omega (arith, q, e, d, l));
      claims = h.claims ++ claim ∷ [];
      claimed = done.claims ∙ (ap (λ (s : Seated). s.worker.claims) claimed ∙ (ap (λ xs. xs ++ claim ∷ []) h.claimed ∙ append_assoc v.worker.claims h.claims (claim ∷ [])));
      few = (let l = h.few in let m = length-append h.claims (claim ∷ []) in omega (arith, l, m));
      named = named_append base (frames taken) h.claims (claim ∷ []) ss (Some f ∷ []) h.named (is, lt, tt);
      each = subst (AllByRecursion (IsForwarded k first taken)) (sym (frames_append ss (Some f ∷ []))) (each-append (IsForwarded k first taken) (frames_in ss) (f ∷ []) h.each (one, tt));
    } in
    subst (HasWorked k first base (n + 1) taken v u) (sym steps) whole

pub worked_last : (k first base n m : ℕ) (taken : List Packet) (v w x : Seated) (fs : List Frame) (claim : ℕ)
    → HasWorked k first base n taken v w (steps_so_far fs) → x ≡ seat_claimed w claim → (base ≤ claim → base + frames taken ≤ claim) → n + 1 ≤ m → HasWorked k first base m taken v x (steps_of fs)
worked_last k first base n m taken v w x fs claim h claimed none le =
    let ss = steps_so_far fs in
    let results : results_in (ss ++ None ∷ []) ≡ results_in ss = results_append ss (None ∷ []) ∙ append-nil (results_in ss) in
    let inner : frames_in (ss ++ None ∷ []) ≡ frames_in ss = frames_append ss (None ∷ []) ∙ append-nil (frames_in ss) in
    let whole : HasWorked k first base m taken v x (ss ++ None ∷ []) = record {
      id = ap (λ (s : Seated). s.id) claimed ∙ h.id;
      number = ap (λ (s : Seated). s.worker.number) claimed ∙ h.number;
      knows = subst (AtLeast v.worker.knows) (sym (ap (λ (s : Seated). s.worker.knows) claimed)) h.knows;
      left = (let l = h.left in let e = ap (λ (s : Seated). s.worker.pass) claimed in omega (arith, l, e, le));
      trails = h.trails;
      past = ap (λ (s : Seated). s.worker.past) claimed ∙ h.past;
      told = subst (Told h.trails) (sym results) h.told;
      passes = (let q = h.passes in let e = ap (λ (s : Seated). s.worker.pass) claimed in omega (arith, q, e));
      loads = (let q = h.loads in let e = ap (λ (s : Seated). s.worker.version_loads) claimed in omega (arith, q, e));
      claims = h.claims ++ claim ∷ [];
      claimed = ap (λ (s : Seated). s.worker.claims) claimed ∙ (ap (λ xs. xs ++ claim ∷ []) h.claimed ∙ append_assoc v.worker.claims h.claims (claim ∷ []));
      few = (let l = h.few in let m = length-append h.claims (claim ∷ []) in omega (arith, l, m, le));
      named = named_append base (frames taken) h.claims (claim ∷ []) ss (None ∷ []) h.named (none, tt);
      each = subst (AllByRecursion (IsForwarded k first taken)) (sym inner) h.each;
    } in
    subst (HasWorked k first base m taken v x) (sym (steps_end fs)) whole

-- more claims than it made
pub worked_within : (k first base n m : ℕ) (taken : List Packet) (v w : Seated) (ss : List (Option Frame)) → HasWorked k first base n taken v w ss → n ≤ m → HasWorked k first base m taken v w ss
worked_within k first base n m taken v w ss h le = record {
  id = h.id;
  number = h.number;
  knows = h.knows;
  left = (let l = h.left in omega (arith, l, le));
  trails = h.trails;
  past = h.past;
  told = h.told;
  passes = h.passes;
  loads = h.loads;
  claims = h.claims;
  claimed = h.claimed;
  few = (let l = h.few in omega (arith, l, le));
  named = h.named;
  each = h.each;
}

pub stopped_missed : (k first base n : ℕ) (taken : List Packet) (v w x : Seated) (fs : List Frame) (claim f : ℕ) → HasWorked k first base n taken v w (steps_so_far fs) → n ≤ frames taken + 1
    → x ≡ seat_claimed w claim → claim ≡ base + f → f < frames taken → HasStopped k first base taken v x fs
stopped_missed k first base n taken v w x fs claim f h le claimed is lt = record {
  between = w;
  worked = worked_within k first base n (frames taken + 1) taken v w (steps_so_far fs) h le;
  last = inl (record { frame = f; inside = lt; claimed = claimed ∙ ap (seat_claimed w) is });
}

pub stopped_full : (k first base n : ℕ) (taken : List Packet) (v w : Seated) (fs : List Frame) → HasWorked k first base n taken v w (steps_so_far fs) → n ≡ frames taken + 1 → length fs ≡ n
    → HasStopped k first base taken v w fs
stopped_full k first base n taken v w fs h all long = record {
  between = w;
  worked = subst (λ m. HasWorked k first base m taken v w (steps_so_far fs)) all h;
  last = inr (refl, long ∙ all);
}
