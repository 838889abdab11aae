-- A step that takes the turn found the commit word free.
use Rattle.std.proofs.Common.{◌≡◌, ◌≢◌, ℕ, ◌+◌, ◌<◌, List, Bool, true, false, sym, subst, ap, ◌∙◌, arith, slice_index_or}
use Rattle.std.specs.Prelude.{slice_set}
use mathlib.Core.Logic.{dite}
use native.Mathlib.Decide.{ℕ_discrete}
use Rattle.lst_layout.specs.declared.limits.Limits.{Limits}
use Rattle.lst_layout.specs.declared.place.Place.TheVariants.{CommitWord}
use Rattle.lst_layout.specs.Addresses.{address}
use Rattle.lst_layout.specs.Words.{Words, shown}
use Rattle.lst_layout.proofs.Shown.{changed}
use Rattle.lst_core_state.specs.declared.known.Known.{Known}
use Rattle.lst_core_state.specs.declared.events.Event.TheVariants.{Take}
use Rattle.lst_core_state.specs.State.{rank}
use Rattle.lst_rule.specs.declared.view.View.{View}
use Rattle.lst_rule.specs.Rule.{knows, hosts}
use Rattle.lst_rule.specs.Learned.{Made}
use Rattle.lst_rule.proofs.Knowing.{knows_own}
use Rattle.lst_serial.specs.Serials.{FindsStale, StaleFoundItFree}

-- no other session that the view hosts had the turn
module _ (v w : View) (s t : ℕ) (m : Made v w (Take s) CommitWord (s + 1)) (other : t ≢ s) (low : t < v.limits.sessions) (hosted : hosts v t ≡ true) where
  abbrev after : List ℕ
  after = slice_set m.told.words (address v.limits CommitWord) (s + 1)

  word : (shown w.limits after).turn ≡ s + 1
  word = ap (λ (l : Limits). (shown l after).turn) m.view.limits ∙ ap (λ (x : Words). x.turn) (changed v.limits m.told.words m.told.allowed.wide CommitWord (s + 1) tt)

  low_after : t < w.limits.sessions
  low_after = subst (λ (l : Limits). t < l.sessions) (sym m.view.limits) low

  hosted_after : hosts w t ≡ true
  hosted_after = ap (λ (bs : List Bool). slice_index_or bs t false) m.view.hosted ∙ hosted

  pub had_none : rank (knows v t).turn ≡ 0
  had_none =
      let below = low_after in
      let same = ap (λ (k : Known). rank k.turn) (sym (m.view.others t other) ∙ knows_own w after _ _ m.told.after t hosted_after (λ e. omega arith)) in
      dite (ℕ_discrete (rank (knows v t).turn) 0) (λ e. e)
      (λ some. absurd (other (let is = (m.told.after.sound.each t low_after).in_turn (omega arith) in let at = word in omega arith)))

pub found_free : StaleFoundItFree
found_free v w s keys all time f t other low hosted =
    let l = f.takes.first.called.learns in
    ap (λ (k : Known). rank k.turn) (sym (l.others t other))
    ∙ had_none f.takes.before f.takes.after s t f.takes.taken other (subst (λ (m : Limits). t < m.sessions) (sym l.limits) low) (ap (λ (bs : List Bool). slice_index_or bs t false) l.hosted ∙ hosted)
