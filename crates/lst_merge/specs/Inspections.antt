-- What the merger's loads of tails, statuses and counters leave of a view.
use Rattle.std.specs.Prelude.{◌≡◌, ◌⊎◌, ℕ, List, ◌++◌}
use Rattle.lst_model.specs.Histories.{Extends}
use Rattle.lst_core_state.specs.declared.facts.Fact.{Fact}
use Rattle.lst_core_state.specs.declared.facts.Find.{Find}
use Rattle.lst_core_state.specs.declared.known.Known.{Known}
use Rattle.lst_core_state.specs.Step.{refreshed}
use Rattle.lst_rule.specs.declared.view.View.{View}
use Rattle.lst_rule.specs.Rule.{knows}
use Rattle.lst_rule.specs.Learned.{Learns, Kept}

-- what the merger knows, where the view hosts it
abbrev pub merger_of : View → Known
merger_of v = knows v v.limits.sessions

-- v is u with more facts and finds, and with what the merger has seen, loaded last and found of counters
abbrev pub inspected : Known → Known → List Fact → List Find → Known
inspected u v facts finds = record u { seen = v.seen; turn = v.turn; counters = v.counters; facts = u.facts ++ facts; finds = u.finds ++ finds; looks = v.looks }

-- of the sessions and the merger only s, the merger, learnt something: facts, finds, commits, which words it loaded last, and what it
-- found of the tail counters. No word was stored
pub record Inspects (v w : View) (s : ℕ) : Type 0 where
  pub facts : List Fact
  pub finds : List Find
  pub view : Learns v w s (inspected (knows v s) (knows w s) facts finds)
  pub grows : Extends (knows w s).seen (knows v s).seen
  pub turn : ((knows w s).turn ≡ (knows v s).turn) ⊎ ((knows w s).turn ≡ refreshed (knows v s).turn)
  pub kept : Kept v w
