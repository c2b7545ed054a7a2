-- One packet more.
use Rattle.std.proofs.Common.{◌≡◌, ◌<◌, ◌≤◌, ◌+◌, ◌++◌, ◌∷◌, [], ℕ, List, length, arith, refl, ap, ◌∙◌, sym, subst}
use Rattle.std.specs.Prelude.{slice_get, Some}
use Rattle.std.proofs.lemmas.List.{append_assoc, append-nil, length-append}
use Rattle.fib_core_results.specs.declared.record.Record.{Record}
use Rattle.fib_core_results.specs.Trails.{AtLeast}
use Rattle.fib_capture.specs.declared.packet.Packet.{Packet}
use Rattle.fib_capture.specs.declared.packet.Packet.TheVariants.{Flow, NotIpv4, BadHeader}
use Rattle.fib_core_lawful.specs.State.{left_of}
use Rattle.fib_core_board.specs.Crews.{Seated}
use Rattle.fib_worker.specs.Passes.{HasForwarded as HasPassed}
use Rattle.fib_worker_crew.specs.Packets.{Matched, IsAsked, IsOf, span}
use Rattle.fib_worker_crew.specs.Results.{numbered, Told, IsResultOf, HasForwarded}
use Rattle.fib_worker_crew.specs.inner.Single.{HasForwardedOne}
use Rattle.fib_worker_crew.proofs.Spans.{span_none, span_more, length_span}
use Rattle.fib_worker_crew.proofs.Matching.{matched_append, told_append, numbered_append, at_least_trans}

pub forwarded_none : (v : Seated) (n : ℕ) (ps : List Packet) (a : ℕ) (old : List (ℕ × Record)) → HasForwarded v v n (span ps a a) old old
forwarded_none v n ps a old =
    let none : span ps a a ≡ [] = span_none ps a in
    record {
      mine = [];
      asked = subst (λ qs. Matched (IsAsked v.worker.knows) qs []) (sym none) tt;
      list = sym (append-nil old) ∙ ap (λ qs. old ++ numbered n qs []) (sym none);
      trails = [];
      past = sym (append-nil v.worker.past);
      told = tt;
      passes = omega arith;
      loads = omega arith;
      id = refl;
      number = refl;
      claims = refl;
      knows = record { settled = omega arith; applied = omega arith };
      left = omega arith;
    }

-- a packet that is no flow
pub forwarded_other : (v w : Seated) (ps : List Packet) (a b : ℕ) (old new : List (ℕ × Record)) (p : Packet) → a ≤ b → b < length ps → slice_get ps b ≡ Some p → Matched (IsAsked v.worker.knows) (p ∷ []) [] → numbered b (p ∷ []) [] ≡ []
    → HasForwarded v w a (span ps a b) old new → HasForwarded v w a (span ps a (b + 1)) old new
forwarded_other v w ps a b old new p le lt is other none f =
    let grown : span ps a (b + 1) ≡ span ps a b ++ p ∷ [] = span_more ps a b p le is in
    let at : a + length (span ps a b) ≡ b = omega (arith, le, lt, length_span ps a b le (omega (arith, lt))) in
    let both : Matched (IsAsked v.worker.knows) (span ps a b ++ p ∷ []) (f.mine ++ []) = matched_append (IsAsked v.worker.knows) (span ps a b) (p ∷ []) f.mine [] f.asked other in
    let parts : numbered a (span ps a b ++ p ∷ []) (f.mine ++ []) ≡ numbered a (span ps a b) f.mine =
    numbered_append (IsAsked v.worker.knows) a (span ps a b) (p ∷ []) f.mine [] f.asked ∙ (ap (λ k. numbered a (span ps a b) f.mine ++ numbered k (p ∷ []) []) at ∙ (ap (λ xs. numbered a (span ps a b) f.mine ++ xs) none ∙ append-nil (numbered a (span ps a b) f.mine))) in
    record {
      mine = f.mine ++ [];
      asked = subst (λ qs. Matched (IsAsked v.worker.knows) qs (f.mine ++ [])) (sym grown) both;
      list = f.list ∙ (ap (λ xs. old ++ xs) (sym parts) ∙ ap (λ qs. old ++ numbered a qs (f.mine ++ [])) (sym grown));
      trails = f.trails;
      past = f.past;
      told = subst (Told f.trails) (sym (append-nil f.mine)) f.told;
      passes = f.passes;
      loads = f.loads;
      id = f.id;
      number = f.number;
      claims = f.claims;
      knows = f.knows;
      left = omega (arith, f.left, ap length grown, length-append (span ps a b) (p ∷ []));
    }

pub forwarded_flow : (v w u : Seated) (ps : List Packet) (a b : ℕ) (old mid new : List (ℕ × Record)) (x h : ℕ) (r : Record) → a ≤ b → b < length ps → slice_get ps b ≡ Some (Flow x h)
    → HasForwarded v w a (span ps a b) old mid → HasPassed x h w u r → new ≡ mid ++ (b, r) ∷ [] → HasForwarded v u a (span ps a (b + 1)) old new
forwarded_flow v w u ps a b old mid new x h r le lt is f pass pushed =
    let grown : span ps a (b + 1) ≡ span ps a b ++ Flow x h ∷ [] = span_more ps a b (Flow x h) le is in
    let at : a + length (span ps a b) ≡ b = omega (arith, le, lt, length_span ps a b le (omega (arith, lt))) in
    let t = pass.trail in
    let of : IsOf x h r = record { addr = ap (λ q. q.addr) pass.result; hash = ap (λ q. q.hash) pass.result } in
    let hi : r.hi ≡ t.hi = ap (λ q. q.hi) pass.result in
    let one : IsAsked v.worker.knows x h r = record { of = of; later = at_least_trans v.worker.knows w.worker.knows r.lo f.knows pass.later } in
    let both : Matched (IsAsked v.worker.knows) (span ps a b ++ Flow x h ∷ []) (f.mine ++ r ∷ []) = matched_append (IsAsked v.worker.knows) (span ps a b) (Flow x h ∷ []) f.mine (r ∷ []) f.asked (one, tt) in
    let parts : numbered a (span ps a b ++ Flow x h ∷ []) (f.mine ++ r ∷ []) ≡ numbered a (span ps a b) f.mine ++ (b, r) ∷ [] =
    numbered_append (IsAsked v.worker.knows) a (span ps a b) (Flow x h ∷ []) f.mine (r ∷ []) f.asked ∙ ap (λ k. numbered a (span ps a b) f.mine ++ (k, r) ∷ []) at in
    let told : IsResultOf t r = rw pass.result (record { follows = pass.follows; result = refl }) in
    record {
      mine = f.mine ++ r ∷ [];
      asked = subst (λ qs. Matched (IsAsked v.worker.knows) qs (f.mine ++ r ∷ [])) (sym grown) both;
      list = pushed ∙ (ap (λ xs. xs ++ (b, r) ∷ []) f.list ∙ (append_assoc old (numbered a (span ps a b) f.mine) ((b, r) ∷ [])
          ∙ (ap (λ xs. old ++ xs) (sym parts) ∙ ap (λ qs. old ++ numbered a qs (f.mine ++ r ∷ [])) (sym grown))));
      trails = f.trails ++ t ∷ [];
      past = ap (λ (s : Seated). s.worker.past) pass.seat ∙ (ap (λ xs. xs ++ t ∷ []) f.past ∙ append_assoc v.worker.past f.trails (t ∷ []));
      told = told_append f.trails (t ∷ []) f.mine (r ∷ []) f.told (told, tt);
      passes = (let q = f.passes in let e = ap (λ (s : Seated). s.worker.pass) pass.seat in let l = length-append f.trails (t ∷ []) in omega (arith, q, e, l));
      loads = (let q = f.loads in let e = ap (λ (s : Seated). s.worker.version_loads) pass.seat in let l = length-append f.trails (t ∷ []) in omega (arith, q, e, l));
      id = ap (λ (s : Seated). s.id) pass.seat ∙ f.id;
      number = ap (λ (s : Seated). s.worker.number) pass.seat ∙ f.number;
      claims = ap (λ (s : Seated). s.worker.claims) pass.seat ∙ f.claims;
      knows = subst (AtLeast v.worker.knows) (hi ∙ sym (ap (λ (s : Seated). s.worker.knows) pass.seat))
          (at_least_trans v.worker.knows w.worker.knows r.hi f.knows (at_least_trans w.worker.knows r.lo r.hi pass.later pass.order));
      left = (let l = f.left in let e = ap (λ (s : Seated). s.worker.pass) pass.seat in let g = ap length grown in let m = length-append (span ps a b) (Flow x h ∷ []) in omega (arith, l, e, g, m));
    }

-- by what the packet is
pub forwarded_one : (v w u : Seated) (ps : List Packet) (a b : ℕ) (old mid new : List (ℕ × Record)) (p : Packet) → a ≤ b → b < length ps → slice_get ps b ≡ Some p
    → HasForwarded v w a (span ps a b) old mid → HasForwardedOne w u b p mid new → HasForwarded v u a (span ps a (b + 1)) old new
forwarded_one v w u ps a b old mid new (Flow x h) le lt is f one = forwarded_flow v w u ps a b old mid new x h one.0 le lt is f one.1 one.2
forwarded_one v w u ps a b old mid new NotIpv4 le lt is f one =
    subst (λ (x : Seated). HasForwarded v x a (span ps a (b + 1)) old new) (sym one.0)
    (subst (HasForwarded v w a (span ps a (b + 1)) old) (sym one.1) (forwarded_other v w ps a b old mid NotIpv4 le lt is tt refl f))
forwarded_one v w u ps a b old mid new BadHeader le lt is f one =
    subst (λ (x : Seated). HasForwarded v x a (span ps a (b + 1)) old new) (sym one.0)
    (subst (HasForwarded v w a (span ps a (b + 1)) old) (sym one.1) (forwarded_other v w ps a b old mid BadHeader le lt is tt refl f))

-- it takes one pass at most
pub one_left : (w u : Seated) (n : ℕ) (p : Packet) (mid new : List (ℕ × Record)) → HasForwardedOne w u n p mid new → left_of w.worker.pass ≤ left_of u.worker.pass + 1
one_left w u n (Flow x h) mid new one = (let e = ap (λ (s : Seated). s.worker.pass) (one.1).seat in omega (arith, e))
one_left w u n NotIpv4 mid new one = (let e = ap (λ (s : Seated). s.worker.pass) one.0 in omega (arith, e))
one_left w u n BadHeader mid new one = (let e = ap (λ (s : Seated). s.worker.pass) one.0 in omega (arith, e))
