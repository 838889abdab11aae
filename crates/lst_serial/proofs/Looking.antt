-- Calls that only look, one after the other, and before a turn is taken.
use Rattle.std.proofs.Common.{ℕ, List, ◌++◌, length, Contains, refl, sym, subst, ap, ◌∙◌, append_assoc}
use Rattle.std.proofs.lemmas.List.Elements.{Contains-append_left, Contains-append_right}
use Rattle.lst_model.specs.declared.commits.Commit.{Commit}
use Rattle.lst_core_state.specs.declared.facts.Find.{Find}
use Rattle.lst_core_state.specs.declared.facts.Find.TheVariants.{FreshClock}
use Rattle.lst_rule.specs.declared.view.View.{View}
use Rattle.lst_rule.specs.Rule.{knows}
use Rattle.lst_write.specs.Standings.{FoundSince}
use Rattle.lst_session.specs.Calls.{OnlyLooks, FindsNoneFull}
use Rattle.lst_session.specs.Held.{LooksStill, TakesTurn}
use Rattle.lst_session.proofs.Growing.{work_on, pins_on, none_full_on, none_full_still}
use Rattle.lst_session.proofs.Spending.{looks_same}
use Rattle.lst_session.proofs.Waiting.{called_on, lists_on}

pub looks_on : (u v w : View) (s : ℕ) → OnlyLooks u v s → OnlyLooks v w s → OnlyLooks u w s
looks_on u v w s a b = record {
  called = called_on u v w s a.called b.called;
  same = work_on s (knows u s) (knows v s) (knows w s) a.same b.same;
  pins = pins_on (knows u s) (knows v s) (knows w s) a.pins b.pins;
  lists = lists_on (knows u s) (knows v s) (knows w s) a.lists b.lists;
}

pub still_same : (v : View) (s : ℕ) → LooksStill v v s
still_same v s = record { looks = looks_same v s; seen = refl; room = none_full_still v v s refl }

pub still_on : (u v w : View) (s : ℕ) → LooksStill u v s → LooksStill v w s → LooksStill u w s
still_on u v w s a b = record { looks = looks_on u v w s a.looks b.looks; seen = b.seen ∙ a.seen; room = none_full_on u v w s a.room b.room }

-- a find after calls that only look is one since before them
pub found_after : (u v w : View) (s : ℕ) (find : Find) → OnlyLooks u v s → FoundSince v w s find → FoundSince u w s find
found_after u v w s find a f = record {
  more = a.called.finds.0 ++ f.more;
  grows = f.grows ∙ (ap (λ (fs : List Find). fs ++ f.more) a.called.finds.1 ∙ append_assoc (knows u s).finds a.called.finds.0 f.more);
  here = Contains-append_right a.called.finds.0 f.more find f.here;
}

module _ (u v w : View) (s : ℕ) (a : OnlyLooks u v s) (room : FindsNoneFull u v s) where
  pub takes_after : TakesTurn v w s → TakesTurn u w s
  takes_after t = record {
    looks = looks_on u v w s a t.looks;
    before = t.before;
    first = looks_on u v t.before s a t.first;
    after = t.after;
    taken = t.taken;
    last = t.last;
    loaded = t.loaded;
    possible = t.possible;
    fresh = found_after u v w s (FreshClock (length (knows w s).seen)) a t.fresh;
    room = none_full_on u v w s room t.room;
  }

-- the clock stays found while calls only look and see nothing more
pub fresh_still : (v held w : View) (s : ℕ) → TakesTurn v held s → LooksStill held w s → FoundSince v w s (FreshClock (length (knows w s).seen))
fresh_still v held w s t b = record {
  more = t.fresh.more ++ b.looks.called.finds.0;
  grows = b.looks.called.finds.1 ∙ (ap (λ (fs : List Find). fs ++ b.looks.called.finds.0) t.fresh.grows ∙ append_assoc (knows v s).finds t.fresh.more b.looks.called.finds.0);
  here = Contains-append_left t.fresh.more b.looks.called.finds.0 (FreshClock (length (knows w s).seen)) (subst (λ (h : List Commit). Contains t.fresh.more (FreshClock (length h))) (sym b.seen) t.fresh.here);
}
