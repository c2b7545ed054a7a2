-- No two forms give a line of the same words.
use Rattle.std.proofs.Common.{arith, ◌≡◌, ◌≤◌, ℕ, Bool, true, false, List, [], ◌∷◌, ◌++◌, length, Option, Some, None, ◌⊎◌, inl, inr, refl, sym, ap, subst}
use Rattle.std.specs.Prelude.{codes, option_to_list}
use Rattle.std.specs.Str.{bytes_eq}
use Rattle.std.proofs.lemmas.Slice.Eq.{bytes_eq-Decides}
use Rattle.fib_base_list.proofs.Lists.{either}
use Rattle.fib_commands.specs.declared.types.Line.{Line}
use Rattle.fib_commands.specs.Names.{Words, keyword, name_of}
use Rattle.fib_commands.specs.Lines.{create_of, state_of, own_address_of, address_words, add_address_of, del_address_of, neighbor_words, set_neighbor_of, del_neighbor_of, add_route_of, del_route_of, api_add_of, api_del_of, lookup_of, show_fib_of, show_lists_of, show_adj_of, forward_of, begin_of, commit_of, forms, set_forms, api_forms, show_forms, readings}

-- these forms give at most one line of these words
abbrev pub AtMostOne : List (Words → Option Line) → Words → Type 0
AtMostOne forms ws = length (readings forms ws) ≤ 1

-- the words begin with this one, or the rule for it gives nothing
keyword_cases : (text : List ℕ) (ws : Words) → (keyword text ws ≡ None) ⊎ ((rest : Words) × (ws ≡ text ∷ rest))
unfolding keyword
keyword_cases text [] = inl refl
keyword_cases text (w ∷ ws) =
    elim (either (bytes_eq w text)) [
      | inl is ↦ inr (ws, ap (λ (v : List ℕ). v ∷ ws) ((bytes_eq-Decides w text).0 is))
      | inr isnt ↦ inl (rw isnt refl)
    ]

-- what holds where the rule for the word gives nothing, and behind the word, holds
under : (text : List ℕ) (P : Words → Type 0) (ws : Words) → (keyword text ws ≡ None → P ws) → ((rest : Words) → P (text ∷ rest)) → P ws
under text P ws none some = elim (keyword_cases text ws) [ inl e ↦ none e | inr h ↦ subst P (sym h.1) (some h.0) ]

one : {A : Type 0} (o : Option A) → length (option_to_list o ++ []) ≤ 1
one None = omega arith
one (Some x) = omega arith

-- add and del differ in their third word
routes_once : (api : Bool) (ws : Words) → AtMostOne (add_route_of api ∷ del_route_of api ∷ []) ws
unfolding add_route_of del_route_of keyword
routes_once api ws =
    let forms = add_route_of api ∷ del_route_of api ∷ [] in
    under (codes "ip") (AtMostOne forms) ws (λ e. rw e (omega arith)) (λ r.
    under (codes "route") (λ x. AtMostOne forms (codes "ip" ∷ x)) r (λ e. rw e (omega arith)) (λ s.
    under (codes "add") (λ x. AtMostOne forms (codes "ip" ∷ codes "route" ∷ x)) s (λ e. rw e (one _)) (λ t. one _)))

api_once : (ws : Words) → AtMostOne api_forms ws
unfolding api_add_of api_del_of keyword
api_once ws = under (codes "api") (AtMostOne api_forms) ws (λ e. rw e (omega arith)) (λ r. routes_once true r)

show_once : (ws : Words) → AtMostOne show_forms ws
unfolding show_fib_of show_lists_of show_adj_of keyword
show_once ws =
    under (codes "show") (AtMostOne show_forms) ws (λ e. rw e (omega arith)) (λ r.
    under (codes "ip") (λ x. AtMostOne show_forms (codes "show" ∷ x)) r
    (λ e. under (codes "fib") (λ x. AtMostOne show_forms (codes "show" ∷ x)) r (λ f. rw (e, f) (one _)) (λ s. one _))
    (λ s. one _))

-- del is no name
own_del : (ws : Words) → own_address_of (codes "del" ∷ ws) ≡ None
unfolding own_address_of name_of
own_del [] = refl
own_del (p ∷ []) = refl
own_del (p ∷ q ∷ more) = refl

addresses_once : (ws : Words) → AtMostOne set_forms (codes "set" ∷ codes "interface" ∷ codes "ip" ∷ codes "address" ∷ ws)
unfolding state_of address_words add_address_of del_address_of neighbor_words set_neighbor_of del_neighbor_of keyword
addresses_once ws =
    under (codes "del") (λ x. AtMostOne set_forms (codes "set" ∷ codes "interface" ∷ codes "ip" ∷ codes "address" ∷ x)) ws
    (λ e. rw e (one _)) (λ r. rw (own_del r) (one _))

neighbor_del : (ws : Words) → set_neighbor_of (codes "set" ∷ codes "ip" ∷ codes "neighbor" ∷ codes "del" ∷ ws) ≡ None
unfolding set_neighbor_of neighbor_words keyword name_of
neighbor_del [] = refl
neighbor_del (a ∷ []) = refl
neighbor_del (a ∷ m ∷ []) = refl
neighbor_del (a ∷ m ∷ x ∷ more) = refl

neighbors_once : (ws : Words) → AtMostOne set_forms (codes "set" ∷ codes "ip" ∷ codes "neighbor" ∷ ws)
unfolding state_of address_words add_address_of del_address_of neighbor_words del_neighbor_of keyword
neighbors_once ws =
    under (codes "del") (λ x. AtMostOne set_forms (codes "set" ∷ codes "ip" ∷ codes "neighbor" ∷ x)) ws
    (λ e. rw e (one _)) (λ r. rw (neighbor_del r) (one _))

interfaces_once : (ws : Words) → AtMostOne set_forms (codes "set" ∷ codes "interface" ∷ ws)
unfolding state_of address_words add_address_of del_address_of neighbor_words set_neighbor_of del_neighbor_of keyword
interfaces_once ws =
    let P = λ (x : Words). AtMostOne set_forms (codes "set" ∷ codes "interface" ∷ x) in
    under (codes "state") P ws
    (λ e. under (codes "ip") P ws (λ f. rw (e, f) (omega arith)) (λ r.
    under (codes "address") (λ x. P (codes "ip" ∷ x)) r (λ g. rw g (omega arith)) (λ s. addresses_once s)))
    (λ r. one _)

set_once : (ws : Words) → AtMostOne set_forms ws
unfolding state_of address_words add_address_of del_address_of neighbor_words set_neighbor_of del_neighbor_of keyword
set_once ws =
    under (codes "set") (AtMostOne set_forms) ws (λ e. rw e (omega arith)) (λ r.
    under (codes "interface") (λ x. AtMostOne set_forms (codes "set" ∷ x)) r
    (λ e. under (codes "ip") (λ x. AtMostOne set_forms (codes "set" ∷ x)) r (λ f. rw (e, f) (omega arith)) (λ s.
    under (codes "neighbor") (λ x. AtMostOne set_forms (codes "set" ∷ codes "ip" ∷ x)) s (λ g. rw g (omega arith)) (λ t. neighbors_once t)))
    (λ s. interfaces_once s))

-- what holds behind each first word, and where no form begins so, holds
pub at_most_one : (ws : Words) → AtMostOne forms ws
unfolding create_of state_of address_words add_address_of del_address_of neighbor_words set_neighbor_of del_neighbor_of add_route_of del_route_of api_add_of api_del_of lookup_of show_fib_of show_lists_of show_adj_of forward_of begin_of commit_of forms keyword
at_most_one ws =
    under (codes "ip") (AtMostOne forms) ws (λ a.
    under (codes "api") (AtMostOne forms) ws (λ b.
    under (codes "set") (AtMostOne forms) ws (λ c.
    under (codes "show") (AtMostOne forms) ws (λ d.
    under (codes "create") (AtMostOne forms) ws (λ e.
    under (codes "lookup") (AtMostOne forms) ws (λ f.
    under (codes "forward") (AtMostOne forms) ws (λ g.
    under (codes "begin") (AtMostOne forms) ws (λ h.
    under (codes "commit") (AtMostOne forms) ws (λ i. rw (a, b, c, d, e, f, g, h, i) (omega arith)) (λ r. one _))
    (λ r. one _)) (λ r. one _)) (λ r. one _)) (λ r. one _)) (λ r. show_once (codes "show" ∷ r))) (λ r. set_once (codes "set" ∷ r)))
    (λ r. api_once (codes "api" ∷ r))) (λ r. routes_once false (codes "ip" ∷ r))
