-- What a session and the merger have worked, told of a later view in which they have only looked, or of another view in which they know the same.
use Rattle.std.proofs.Common.{◌≡◌, ℕ, ◌<◌, List, length, Contains, sym, subst, ap, ◌∙◌, arith}
use Rattle.std.specs.List.{count_by, filter}
use Rattle.lst_layout.specs.declared.limits.Limits.{Limits}
use Rattle.lst_model.specs.declared.replies.Reply.{Reply}
use Rattle.lst_model.specs.declared.replies.Reply.TheVariants.{Merged, NothingNew, NoFrame}
use Rattle.lst_core_state.specs.declared.known.Known.{Known}
use Rattle.lst_pages.specs.Runs.{tps_known}
use Rattle.lst_rule.specs.declared.view.View.{View}
use Rattle.lst_merge.specs.Inspections.{merger_of}
use Rattle.lst_replies.specs.Runs.{Answered, is_by}
use Rattle.lst_work_laws.specs.Lives.{Lives}
use Rattle.lst_work_laws.specs.Legal.{HasOnlyLooked}
use Rattle.lst_work_laws.specs.Works.{SessionWorks, is_stop_find, merged_by, MergeIsTold, MergerWorks}
use Rattle.lst_work_laws.proofs.Causes.{keeps_causes}
use Rattle.lst_work_laws.proofs.Lived.{lives_stay}
use Rattle.lst_work_laws.proofs.Telling.{extends_on}
use Rattle.lst_work_laws.proofs.Together.{looked_stays, leaves_looked}

-- ---- a session, which has only looked since

pub works_looked : (l : Limits) (run : List Answered) (s : ℕ) (a b c : Known) → SessionWorks l run s a b → HasOnlyLooked s b c → SessionWorks l run s a c
works_looked l run s a b c x y = let lives : Lives l s run a c = lives_stay l s run a b c x.lives (looked_stays s b c y) in record {
  told = λ history longer. x.told history (extends_on b.seen c.seen history y.seen longer);
  causes = λ history longer. keeps_causes l history s run a c lives longer;
  leaves = leaves_looked s (filter (is_by s) run) a b c x.leaves y;
  lives = lives;
}

-- ---- the merger, which knows the same in the views v and w

module _ (l : Limits) (run : List Answered) (m n v w : View) (first_limits : v.limits ≡ m.limits) (last_limits : w.limits ≡ n.limits) (first : merger_of v ≡ merger_of m) (last : merger_of w ≡ merger_of n) where
  told_as : (before : List Answered) (range column : ℕ) (reply : Reply) → MergeIsTold l m n before range column reply → MergeIsTold l v w before range column reply
  told_as before range column (Merged tps) x = subst (λ (k : Known). merged_by (tps_known k.pages.stock range column) range column before < tps) (sym first) x
  told_as before range column (NothingNew tps) x = x ∙ ap (λ (k : Known). merged_by (tps_known k.pages.stock range column) range column before) (sym first)
  told_as before range column (NoFrame session) x = (
    subst (λ (k : Known). Contains k.pages.stock.held session) (sym last) x.0,
    (let e = ap (λ (k : Known). k.pages.stock.epoch) first in let few = x.1 in omega arith),
  )
  told_as before range column reply x = tt

  pub merger_as : MergerWorks l run m n → MergerWorks l run v w
  merger_as x = record {
    limits_stay = last_limits ∙ (x.limits_stay ∙ sym first_limits);
    swaps = let e = ap (λ (k : Known). k.pages.stock.epoch) first in let f = ap (λ (k : Known). k.pages.stock.epoch) last in let h = x.swaps in omega arith;
    stops = let e = ap (λ (k : Known). count_by is_stop_find k.finds) first in let f = ap (λ (k : Known). count_by is_stop_find k.finds) last in let h = x.stops in omega arith;
    held = let e = ap (λ (k : Known). length k.pages.stock.held) first in let f = ap (λ (k : Known). length k.pages.stock.held) last in let h = x.held in omega arith;
    told = λ before range column reply after place. told_as before range column reply (x.told before range column reply after place);
    tps = λ range column page. ap (λ (k : Known). tps_known k.pages.stock range column) last
        ∙ (x.tps range column page ∙ ap (λ (k : Known). merged_by (tps_known k.pages.stock range column) range column run) (sym first));
  }
