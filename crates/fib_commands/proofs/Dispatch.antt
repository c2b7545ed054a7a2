-- The forms by the first word of a line.
use Rattle.std.proofs.Common.{◌≡◌, ℕ, true, false, List, [], ◌∷◌, Option, Some, None, refl, sym, subst}
use Rattle.std.specs.Prelude.{codes}
use Rattle.std.proofs.lemmas.Slice.Eq.{bytes_eq-Decides}
use Rattle.fib_base_lines.specs.LineWords.{next_is}
use Rattle.fib_commands.specs.Names.{Words, keyword}
use Rattle.fib_commands.specs.Lines.{create_of, state_of, address_words, add_address_of, del_address_of, neighbor_words, set_neighbor_of, del_neighbor_of, add_route_of, del_route_of, api_add_of, api_del_of, lookup_of, show_fib_of, show_lists_of, show_adj_of, forward_of, begin_of, commit_of, forms, set_forms, route_forms, api_forms, show_forms, reading_of, either_of}

-- what holds behind this word holds of words that begin so
pub at_first : (text : List ℕ) (P : Words → Type 0) → ((rest : Words) → P (text ∷ rest)) → (ws : Words) → next_is text ws ≡ true → P ws
at_first text P f [] e = cc
at_first text P f (w ∷ ws) e = subst (λ (v : List ℕ). P (v ∷ ws)) (sym ((bytes_eq-Decides w text).0 e)) (f ws)

either_none : {A : Type 0} (o : Option A) → either_of o None ≡ o
either_none None = refl
either_none (Some x) = refl

pub at_set : (ws : Words) → next_is (codes "set") ws ≡ true → reading_of forms ws ≡ reading_of set_forms ws
unfolding reading_of forms keyword create_of state_of address_words add_address_of del_address_of neighbor_words set_neighbor_of del_neighbor_of add_route_of del_route_of api_add_of api_del_of lookup_of show_fib_of show_lists_of show_adj_of forward_of begin_of commit_of
at_set = at_first (codes "set") (λ ws. reading_of forms ws ≡ reading_of set_forms ws) (λ rest. refl)

pub at_ip : (ws : Words) → next_is (codes "ip") ws ≡ true → reading_of forms ws ≡ reading_of route_forms ws
unfolding reading_of forms keyword create_of state_of address_words add_address_of del_address_of neighbor_words set_neighbor_of del_neighbor_of add_route_of del_route_of api_add_of api_del_of lookup_of show_fib_of show_lists_of show_adj_of forward_of begin_of commit_of
at_ip = at_first (codes "ip") (λ ws. reading_of forms ws ≡ reading_of route_forms ws) (λ rest. refl)

pub at_api : (ws : Words) → next_is (codes "api") ws ≡ true → reading_of forms ws ≡ reading_of api_forms ws
unfolding reading_of forms keyword create_of state_of address_words add_address_of del_address_of neighbor_words set_neighbor_of del_neighbor_of add_route_of del_route_of api_add_of api_del_of lookup_of show_fib_of show_lists_of show_adj_of forward_of begin_of commit_of
at_api = at_first (codes "api") (λ ws. reading_of forms ws ≡ reading_of api_forms ws) (λ rest. refl)

pub at_show : (ws : Words) → next_is (codes "show") ws ≡ true → reading_of forms ws ≡ reading_of show_forms ws
unfolding reading_of forms keyword create_of state_of address_words add_address_of del_address_of neighbor_words set_neighbor_of del_neighbor_of add_route_of del_route_of api_add_of api_del_of lookup_of show_fib_of show_lists_of show_adj_of forward_of begin_of commit_of
at_show = at_first (codes "show") (λ ws. reading_of forms ws ≡ reading_of show_forms ws) (λ rest. refl)

pub at_create : (ws : Words) → next_is (codes "create") ws ≡ true → reading_of forms ws ≡ create_of ws
unfolding reading_of forms keyword create_of state_of address_words add_address_of del_address_of neighbor_words set_neighbor_of del_neighbor_of add_route_of del_route_of api_add_of api_del_of lookup_of show_fib_of show_lists_of show_adj_of forward_of begin_of commit_of
at_create = at_first (codes "create") (λ ws. reading_of forms ws ≡ create_of ws) (λ rest. either_none (create_of (codes "create" ∷ rest)))

pub at_lookup : (ws : Words) → next_is (codes "lookup") ws ≡ true → reading_of forms ws ≡ lookup_of ws
unfolding reading_of forms keyword create_of state_of address_words add_address_of del_address_of neighbor_words set_neighbor_of del_neighbor_of add_route_of del_route_of api_add_of api_del_of lookup_of show_fib_of show_lists_of show_adj_of forward_of begin_of commit_of
at_lookup = at_first (codes "lookup") (λ ws. reading_of forms ws ≡ lookup_of ws) (λ rest. either_none (lookup_of (codes "lookup" ∷ rest)))

pub at_forward : (ws : Words) → next_is (codes "forward") ws ≡ true → reading_of forms ws ≡ forward_of ws
unfolding reading_of forms keyword create_of state_of address_words add_address_of del_address_of neighbor_words set_neighbor_of del_neighbor_of add_route_of del_route_of api_add_of api_del_of lookup_of show_fib_of show_lists_of show_adj_of forward_of begin_of commit_of
at_forward = at_first (codes "forward") (λ ws. reading_of forms ws ≡ forward_of ws) (λ rest. either_none (forward_of (codes "forward" ∷ rest)))

pub at_begin : (ws : Words) → next_is (codes "begin") ws ≡ true → reading_of forms ws ≡ begin_of ws
unfolding reading_of forms keyword create_of state_of address_words add_address_of del_address_of neighbor_words set_neighbor_of del_neighbor_of add_route_of del_route_of api_add_of api_del_of lookup_of show_fib_of show_lists_of show_adj_of forward_of begin_of commit_of
at_begin = at_first (codes "begin") (λ ws. reading_of forms ws ≡ begin_of ws) (λ rest. either_none (begin_of (codes "begin" ∷ rest)))

pub at_commit : (ws : Words) → next_is (codes "commit") ws ≡ true → reading_of forms ws ≡ commit_of ws
unfolding reading_of forms keyword create_of state_of address_words add_address_of del_address_of neighbor_words set_neighbor_of del_neighbor_of add_route_of del_route_of api_add_of api_del_of lookup_of show_fib_of show_lists_of show_adj_of forward_of begin_of commit_of
at_commit = at_first (codes "commit") (λ ws. reading_of forms ws ≡ commit_of ws) (λ rest. either_none (commit_of (codes "commit" ∷ rest)))

pub keyword_none : (text : List ℕ) (ws : Words) → next_is text ws ≡ false → keyword text ws ≡ None
unfolding keyword
keyword_none text [] e = refl
keyword_none text (w ∷ ws) e = rw e refl

-- no first word of a form
pub at_other : (ws : Words) → next_is (codes "ip") ws ≡ false → next_is (codes "api") ws ≡ false → next_is (codes "lookup") ws ≡ false
    → next_is (codes "set") ws ≡ false → next_is (codes "show") ws ≡ false → next_is (codes "create") ws ≡ false
    → next_is (codes "forward") ws ≡ false → next_is (codes "begin") ws ≡ false → next_is (codes "commit") ws ≡ false → reading_of forms ws ≡ None
unfolding reading_of forms create_of state_of address_words add_address_of del_address_of neighbor_words set_neighbor_of del_neighbor_of add_route_of del_route_of api_add_of api_del_of lookup_of show_fib_of show_lists_of show_adj_of forward_of begin_of commit_of
at_other ws a b c d e f g h i =
    rw (
      keyword_none (codes "ip") ws a,
      keyword_none (codes "api") ws b,
      keyword_none (codes "lookup") ws c,
      keyword_none (codes "set") ws d,
      keyword_none (codes "show") ws e,
      keyword_none (codes "create") ws f,
      keyword_none (codes "forward") ws g,
      keyword_none (codes "begin") ws h,
      keyword_none (codes "commit") ws i,
    ) refl
