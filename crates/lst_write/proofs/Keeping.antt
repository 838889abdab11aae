-- What stays while a session only looks.
use Rattle.std.proofs.Common.{◌≡◌, ℕ, ◌≤◌, List, ◌++◌, Bool, true, refl, sym, subst, ap, ◌∙◌, arith, length, length-append, false, ⊎_elim, append_assoc, slice_index_or}
use Rattle.std.proofs.lemmas.List.Elements.{Contains-append_left, Contains-append_right}
use Rattle.lst_model.specs.declared.commits.Commit.{Commit}
use Rattle.lst_core_state.specs.declared.known.Known.{Known}
use Rattle.lst_core_state.specs.declared.known.Stage.{Stage}
use Rattle.lst_core_state.specs.declared.known.Stage.TheVariants.{Away, Taken, Fresh, Logged, Stated, Done}
use Rattle.lst_core_state.specs.declared.facts.Find.{Find}
use Rattle.lst_core_state.specs.State.{rank}
use Rattle.lst_core_state.specs.Step.{refreshed}
use Rattle.lst_rule.specs.declared.view.View.{View}
use Rattle.lst_rule.specs.Rule.{knows, hosts}
use Rattle.lst_rule.specs.Copies.{Includes}
use Rattle.lst_rule.specs.Watching.{Watches, Watched}
use Rattle.lst_write.specs.Standings.{FoundSince}

-- what a session that has looked knows as before
pub record Kept (u v : Known) : Type 0 where
  pub number : v.number ≡ u.number
  pub begin : v.begin ≡ u.begin
  pub on : v.is_open ≡ u.is_open
  pub hold : v.hold ≡ u.hold
  pub facts : Includes v.facts u.facts
  pub longer : length u.seen ≤ length v.seen

kept_of : (u v : Known) → Watches u v → Kept u v
kept_of u v watches = subst (λ (k : Known). Kept u k) (sym watches.is) record {
  number = refl;
  begin = refl;
  on = refl;
  hold = refl;
  facts = λ f h. Contains-append_left u.facts watches.facts f h;
  longer = front_short u.seen watches.later;
}
  where
    front_short : (xs ys : List Commit) → length xs ≤ length (xs ++ ys)
    front_short xs ys = let e = length-append xs ys in omega arith

module _ (v w : View) (s : ℕ) (watched : Watched v w s) where
  pub kept : Kept (knows v s) (knows w s)
  kept = kept_of (knows v s) (knows w s) watched.watches

  pub still_hosts : hosts v s ≡ true → hosts w s ≡ true
  still_hosts h = ap (λ (bs : List Bool). slice_index_or bs s false) watched.learns.hosted ∙ h

  pub still_on : (knows v s).is_open ≡ true → (knows w s).is_open ≡ true
  still_on h = kept.on ∙ h

  pub finds_grow : (knows w s).finds ≡ (knows v s).finds ++ watched.watches.finds
  finds_grow = ap (λ (k : Known). k.finds) watched.watches.is

-- a find since v, made before or after more looks
pub found_before : (u v w : View) (s : ℕ) (f : Find) → Watched u v s → FoundSince v w s f → FoundSince u w s f
found_before u v w s f watched found = record {
  more = watched.watches.finds ++ found.more;
  grows = found.grows ∙ (ap (λ (fs : List Find). fs ++ found.more) (finds_grow u v s watched) ∙ append_assoc (knows u s).finds watched.watches.finds found.more);
  here = Contains-append_right watched.watches.finds found.more f found.here;
}

pub found_after : (u v w : View) (s : ℕ) (f : Find) → FoundSince u v s f → Watched v w s → FoundSince u w s f
found_after u v w s f found watched = record {
  more = found.more ++ watched.watches.finds;
  grows = finds_grow v w s watched ∙ (ap (λ (fs : List Find). fs ++ watched.watches.finds) found.grows ∙ append_assoc (knows u s).finds found.more watched.watches.finds);
  here = Contains-append_left found.more watched.watches.finds f found.here;
}

-- without the turn the stage stays
refreshed_away : (k : Stage) → rank k ≡ 0 → refreshed k ≡ k
refreshed_away Away e = refl
refreshed_away Taken e = absurd (omega arith)
refreshed_away Fresh e = refl
refreshed_away Logged e = refl
refreshed_away Stated e = refl
refreshed_away Done e = refl

pub turn_stays : (u v : Known) → rank u.turn ≡ 0 → Watches u v → v.turn ≡ u.turn
turn_stays u v away watches = ap (λ (k : Known). k.turn) watches.is ∙ ⊎_elim
    (λ (e : watches.turn ≡ u.turn). e)
    (λ (e : watches.turn ≡ refreshed u.turn). e ∙ refreshed_away u.turn away)
    watches.stage
