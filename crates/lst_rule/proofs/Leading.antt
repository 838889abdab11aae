-- What a step leads to: of the core and on pages alike, all that the rule needs of the state after it.
use Rattle.std.proofs.Common.{◌≡◌, ◌≢◌, ℕ, List, sym, subst}
use Rattle.lst_model.specs.declared.commits.Commit.{Commit}
use Rattle.lst_model.specs.Histories.{Extends}
use Rattle.lst_core_state.specs.declared.events.Event.{Event}
use Rattle.lst_core_state.specs.declared.facts.Fact.{Fact}
use Rattle.lst_core_state.specs.State as state
use Rattle.lst_core_state.specs.State.{history_of}
use Rattle.lst_core_state.specs.Step as core
use Rattle.lst_core_state.specs.Step.{known_of}
use Rattle.lst_core_state.specs.Facts.{IsFact}
use Rattle.lst_core_state.specs.Sound.{Sound}
use Rattle.lst_core_state.proofs.Keeps as kept
use Rattle.lst_pages.specs.declared.events.PageEvent.{PageEvent}
use Rattle.lst_pages.specs.Step as pages
use Rattle.lst_pages.specs.Known.{stepper, PagesSound, IsPageEnabled, after_page}
use Rattle.lst_pages.specs.StateLaws.{PageStepOf, IsAsSound}
use Rattle.lst_pages.proofs.Leaving.{pages_are_left, steps_leave_pages}
use Rattle.lst_pages.proofs.Freeing.{words_are_free}
use Rattle.lst_pages.proofs.MergerSteps.{page_steps_are_sound}
use Rattle.lst_rule.specs.declared.actions.Action.{Action}
use Rattle.lst_rule.specs.declared.actions.Action.TheVariants.{Core, Page}
use Rattle.lst_rule.specs.Actions.{actor, IsActionWithin, IsActionEnabled, words_after_action, known_after_action, after_action}
use Rattle.lst_rule.proofs.Afters.{after_limits, after_words, after_here, after_else, after_history, after_facts}

-- the step a of the session or merger k leads from c to d
pub record Leads (c : state.Core) (a : Action) (k : ℕ) (d : state.Core) : Type 0 where
  pub limits : d.limits ≡ c.limits
  pub words : d.words ≡ words_after_action c.limits c.words (known_of c k) a
  pub here : known_of d k ≡ known_after_action c.limits c.words (known_of c k) a
  pub else : (j : ℕ) → j ≢ k → known_of d j ≡ known_of c j
  pub sound : Sound d
  pub pages : PagesSound d
  pub history : (front : List Commit) → Extends (history_of c.limits c.words) front → Extends (history_of d.limits d.words) front
  pub facts : (f : Fact) → IsFact c.limits c.words f → IsFact d.limits d.words f

module _ (c : state.Core) (sound : Sound c) (paged : PagesSound c) where
  -- a step of the core leaves pages alone
  core_leads : (e : Event) → core.IsWithin c.limits e → core.IsEnabled c e → Leads c (Core e) (core.session_of e) (core.after c e)
  core_leads e within able = record {
    limits = after_limits c e;
    words = after_words c e within;
    here = after_here c e;
    else = after_else c e;
    sound = kept.keeps c sound e within able;
    pages = pages_are_left c (core.after c e) (steps_leave_pages c sound e within able) paged;
    history = after_history c e sound within able;
    facts = after_facts c e sound within able;
  }

  -- a step on pages leaves the core as it was but for pages
  page_leads : (e : PageEvent) → pages.IsWithin c.limits e → IsPageEnabled c e → Leads c (Page e) (stepper c.limits e) (after_page c e)
  page_leads e within able = let t : PageStepOf c e (stepper c.limits e) (after_page c e) = page_steps_are_sound c paged e within able in let free : IsAsSound c (after_page c e) = words_are_free c (after_page c e) t.differs in record {
    limits = t.differs.limits;
    words = t.words;
    here = t.known;
    else = t.others;
    sound = free.sound sound;
    pages = t.sound;
    history = λ front h. subst (λ (all : List Commit). Extends all front) (sym free.history) h;
    facts = free.facts;
  }

  pub leads : (a : Action) → IsActionWithin c.limits a → IsActionEnabled c a → Leads c a (actor c.limits a) (after_action c a)
  leads (Core e) within able = core_leads e within able
  leads (Page e) within able = page_leads e within able
