-- A whole script, once its sessions are gathered.
use Rattle.std.proofs.Common.{◌≡◌, ℕ, ◌<◌, List, ◌∷◌, IfSome, refl, length, sym, subst, ap, ◌∙◌, arith}
use Rattle.std.specs.Prelude.{slice_index_or}
use Rattle.std.specs.List.{AllByRecursion}
use Rattle.std.proofs.lemmas.List.Elements.{Contains-append_left, recursion_from_All}
use Rattle.lst_layout.specs.declared.limits.Limits.{Limits}
use Rattle.lst_model.specs.declared.lines.Line.{Line}
use Rattle.lst_model.specs.declared.lines.Line.TheVariants.{Call}
use Rattle.lst_model.specs.Lines.{LineFits}
use Rattle.lst_core_state.specs.declared.facts.Find.TheVariants.{FreshClock}
use Rattle.lst_core_state.specs.declared.known.Known.{Known}
use Rattle.lst_core_state.specs.declared.known.Hold.{Hold}
use Rattle.lst_core_state.specs.Facts.{early_find}
use Rattle.lst_core_state.specs.State.{state_over}
use Rattle.lst_rule.specs.declared.store.Store.{Store}
use Rattle.lst_rule.specs.declared.view.View.{View}
use Rattle.lst_rule.specs.Rule.{knows}
use Rattle.lst_rule.proofs.Knowing.{knows_own}
use Rattle.lst_replies.specs.Runs.{Answered, answered, run_of, speaker_of}
use Rattle.lst_seat.specs.Seats.{HasSeenAll, history_in}
use Rattle.lst_session.specs.declared.session.Session.{Session}
use Rattle.lst_session.specs.Parting.{known_by, IsGathered}
use Rattle.lst_work_laws.specs.Lives.{Stays, Lives}
use Rattle.lst_work_laws.specs.Whole.{AreAll}
use Rattle.lst_work_laws.specs.Explained.{HaveEnded, HasGathered, TailsAreWritten, ScriptIsExplained}
use Rattle.lst_work_laws.proofs.Explaining.{tails_written}
use Rattle.lst_work_laws.proofs.Judging.{conflicts_are_explained, fullnesses_are_explained}
use Rattle.lst_work_laws.proofs.Lived.{lives_stay}
use Rattle.lst_work_laws.proofs.Mergers.{all_at}
use Rattle.lst_work_laws.proofs.Totals.{all_within, run_within}

pub tails_are_written : TailsAreWritten
tails_are_written c run h range n in_range few full = tails_written c run h range n in_range few full

-- ---- gathering

-- to load the clock leaves all but what is seen, facts and finds
clocked_stays : (w : View) (s : ℕ) (k : Known) → HasSeenAll w s k → Stays s k (knows w s)
clocked_stays w s k x = subst (Stays s k) (sym x.now) record {
  facts = λ f h. Contains-append_left k.facts x.index f h;
  finds = λ f h. Contains-append_left k.finds (FreshClock (length (history_in w)) ∷ early_find k (length (history_in w))) f h;
  seen = x.grows;
  state = refl;
  mine = x.own;
  drawn = refl;
  latched = refl;
  done = refl;
}

pub has_gathered : (store : Store) (sessions : List Session) (m w : View) → AreAll store sessions → m.limits ≡ store.layout.limits → IsGathered sessions m w → HasGathered store sessions w
has_gathered store sessions m w all limits x = record {
  limits = x.limits ∙ limits;
  hosted = λ s low. x.all s (omega arith);
  keeps = λ s d low. let session = slice_index_or sessions s d in
      subst (λ (t : ℕ). Stays t (known_by session) (knows w t)) (all.number s d low) (clocked_stays w session.number (known_by session) (x.each s d low));
  hold = λ s d low. let session = slice_index_or sessions s d in
      subst (λ (t : ℕ). (knows w t).hold ≡ (known_by session).hold) (all.number s d low) (ap (λ (k : Known). k.hold) (x.each s d low).now);
}

-- ---- the script

pub script_is_explained : ScriptIsExplained
script_is_explained store lines old new m n replies d v words known merger before behind fits works fresh g a =
    let run : List Answered = run_of lines replies in
    let sessions : v.limits.sessions ≡ store.layout.limits.sessions = ap (λ (l : Limits). l.sessions) g.limits in
    let old_low : (s : ℕ) → s < v.limits.sessions → s < length old = λ s low. subst (λ (k : ℕ). s < k) (sessions ∙ sym before.count) low in
    let new_low : (s : ℕ) → s < v.limits.sessions → s < length new = λ s low. subst (λ (k : ℕ). s < k) (sessions ∙ sym behind.count) low in
    let within = run_within v.limits.sessions lines replies (all_within v.limits.sessions store.layout.limits lines (sym sessions) (recursion_from_All (λ (line : Line). LineFits store.layout.limits.sessions store.layout.limits.ranges store.layout.limits.columns line) lines fits)) in
    let same : (s : ℕ) → s < v.limits.sessions → knows v s ≡ known s = λ s low. knows_own v words known merger a s (g.hosted s low) (λ is. absurd (omega arith)) in
    let ended : HaveEnded (state_over v.limits words known merger) run = record {
      sound = a.sound;
      first = λ s. known_by (slice_index_or old s d);
      fresh = λ s low. let f = fresh s d (old_low s low) in record { state = f.state; drawn = f.drawn; latched = f.latched; done = f.done };
      lives = λ s low. subst (λ (k : Known). Lives v.limits s run (known_by (slice_index_or old s d)) k) (same s low)
          (lives_stay v.limits s run (known_by (slice_index_or old s d)) (known_by (slice_index_or new s d)) (knows v s) (subst (λ (l : Limits). Lives l s run (known_by (slice_index_or old s d)) (known_by (slice_index_or new s d))) (sym g.limits) (works.sessions s d (old_low s low)).lives) (g.keeps s d (new_low s low)));
      empty = λ s low. subst (λ (k : Known). k.hold.tail ≡ 0) (same s low)
          (ap (λ (h : Hold). h.tail) (g.hold s d (new_low s low) ∙ (behind.ready s d (new_low s low)).idle.hold));
      callers = λ front session call reply rest place.
          all_at (λ (one : Answered). IfSome (speaker_of one.line) (λ t. t < v.limits.sessions)) front (answered (Call session call) reply) rest (subst (AllByRecursion (λ (one : Answered). IfSome (speaker_of one.line) (λ t. t < v.limits.sessions))) place within);
    } in
    (conflicts_are_explained (state_over v.limits words known merger) run ended, fullnesses_are_explained (state_over v.limits words known merger) run ended)
