-- How a line's reply is told, by what its words were read as.
use Rattle.std.proofs.Common.{◌≡◌, ℕ, List, [], ◌∷◌, Option, Some, None, option_map, Bor, sym, ap, ◌∙◌}
use Rattle.lst_model.specs.declared.replies.Reply.{Reply}
use Rattle.lst_replies.specs.Reading.{texts, or_else, with_both, number32, merge_reply, call_reply, told_by}

pub told_merge : (columns : ℕ) (words : List (List ℕ)) (reply : Reply) → merge_reply words ≡ Some reply → told_by columns words ≡ Some (None, reply)
told_merge columns [] reply e = absurd cc
told_merge columns (first ∷ words) reply e =
    ap (λ (o : Option Reply). or_else (option_map (λ (r : Reply). (None, r)) o) (with_both (λ session r. (Some session, r)) (number32 first) (call_reply columns words))) e

module _ (columns : ℕ) (words : List (Bor (List ℕ))) (first : Bor (List ℕ)) (rest : List (Bor (List ℕ))) (is : words ≡ first ∷ rest) (other : merge_reply (texts words) ≡ None) where
  told_call : told_by columns (texts words) ≡ with_both (λ (session : ℕ) (r : Reply). (Some session, r)) (number32 first.now) (call_reply columns (texts rest))
  told_call =
      ap (λ (ws : List (Bor (List ℕ))). told_by columns (texts ws)) is
      ∙ ap (λ (o : Option Reply). or_else (option_map (λ (r : Reply). (None, r)) o) (with_both (λ session r. (Some session, r)) (number32 first.now) (call_reply columns (texts rest))))
      (sym (ap (λ (ws : List (Bor (List ℕ))). merge_reply (texts ws)) is) ∙ other)

  pub told_whole : (session : ℕ) (reply : Reply) → number32 first.now ≡ Some session → call_reply columns (texts rest) ≡ Some reply → told_by columns (texts words) ≡ Some (Some session, reply)
  told_whole session reply e f =
      told_call ∙ ap (λ (o : Option ℕ). with_both (λ (s : ℕ) (r : Reply). (Some s, r)) o (call_reply columns (texts rest))) e
      ∙ ap (λ (o : Option Reply). with_both (λ (s : ℕ) (r : Reply). (Some s, r)) (Some session) o) f

  pub told_by_none : number32 first.now ≡ None → told_by columns (texts words) ≡ None
  told_by_none e = told_call ∙ ap (λ (o : Option ℕ). with_both (λ (s : ℕ) (r : Reply). (Some s, r)) o (call_reply columns (texts rest))) e

  pub told_nothing : (session : ℕ) → number32 first.now ≡ Some session → call_reply columns (texts rest) ≡ None → told_by columns (texts words) ≡ None
  told_nothing session e f =
      told_call ∙ ap (λ (o : Option ℕ). with_both (λ (s : ℕ) (r : Reply). (Some s, r)) o (call_reply columns (texts rest))) e
      ∙ ap (λ (o : Option Reply). with_both (λ (s : ℕ) (r : Reply). (Some s, r)) (Some session) o) f
