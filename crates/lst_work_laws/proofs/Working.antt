-- From a run through the phases of a script to what its replies tell and what its lines leave.
use Rattle.std.proofs.Common.{◌≡◌, ℕ, List, [], ◌∷◌, Option, slice_index_or, sym, subst}
use Rattle.std.specs.List.{All, AllByRecursion}
use Rattle.std.proofs.lemmas.List.Elements.{recursion_from_All}
use Rattle.lst_layout.specs.declared.limits.Limits.{Limits}
use Rattle.lst_model.specs.declared.lines.Line.{Line}
use Rattle.lst_model.specs.declared.lines.Line.TheVariants.{Phase, Merge, Call}
use Rattle.lst_model.specs.declared.replies.Reply.{Reply}
use Rattle.lst_model.specs.Lines.{LineFits}
use Rattle.lst_rule.specs.declared.store.Store.{Store}
use Rattle.lst_rule.specs.declared.view.View.{View}
use Rattle.lst_replies.specs.Runs.{run_of}
use Rattle.lst_session.specs.declared.session.Session.{Session}
use Rattle.lst_session.specs.Parting.{known_by}
use Rattle.lst_work_laws.specs.Lines.{session_told}
use Rattle.lst_work_laws.specs.Whole.{AreAll}
use Rattle.lst_work_laws.specs.Phases.{script_of, HaveRunThrough}
use Rattle.lst_work_laws.specs.Works.{Works}
use Rattle.lst_work_laws.proofs.Scripting.{front_first, told_through, shape_through, leaves_through, lives_through, merges_through}
use Rattle.lst_work_laws.proofs.Causes.{keeps_causes}
use Rattle.lst_work_laws.proofs.Mergers.{PagesWithin, merger_works}

-- the merges of a run are those of its lines
pages_within : (l : Limits) (lines : List Line) (replies : List (Option ℕ × Reply)) → AllByRecursion (λ (line : Line). LineFits l.sessions l.ranges l.columns line) lines → AllByRecursion (PagesWithin l) (run_of lines replies)
pages_within l [] replies all = tt
pages_within l (Phase ∷ lines) replies all = (tt, pages_within l lines replies all.1)
pages_within l (Merge range column ∷ lines) [] all = tt
pages_within l (Merge range column ∷ lines) (reply ∷ replies) all = (all.0, pages_within l lines replies all.1)
pages_within l (Call session call ∷ lines) [] all = tt
pages_within l (Call session call ∷ lines) (reply ∷ replies) all = (tt, pages_within l lines replies all.1)

pub they_work : (store : Store) (lines : List Line) (old new : List Session) (m n : View) (replies : List (Option ℕ × Reply)) → AreAll store old → AreAll store new → m.limits ≡ store.layout.limits
    → All (LineFits store.layout.limits.sessions store.layout.limits.ranges store.layout.limits.columns) lines → HaveRunThrough store lines old new m n replies → Works store lines old new m n replies
they_work store lines old new m n replies before after limits fits x =
    subst (λ (ls : List Line). Works store ls old new m n replies) (sym x.parted) record {
      shape = shape_through store x.first x.later old new m n replies before after x.can x.cans x.run;
      sessions = λ s d low. record {
        told = λ history goes. told_through store x.first x.later old new m n replies before after x.can x.cans x.run (session_told (known_by (slice_index_or old s d))) s d low [] (front_first s (slice_index_or old s d)) history goes;
        causes = λ history goes. keeps_causes store.layout.limits history s (run_of (script_of x.first x.later) replies) (known_by (slice_index_or old s d)) (known_by (slice_index_or new s d))
            (lives_through store x.first x.later old new m n replies before after x.can x.cans x.run s d low) goes;
        leaves = leaves_through store x.first x.later old new m n replies before after x.can x.cans x.run s d low;
        lives = lives_through store x.first x.later old new m n replies before after x.can x.cans x.run s d low;
      };
      merger = merger_works store.layout.limits (run_of (script_of x.first x.later) replies) m n limits
          (pages_within store.layout.limits (script_of x.first x.later) replies (subst (AllByRecursion (λ (line : Line). LineFits store.layout.limits.sessions store.layout.limits.ranges store.layout.limits.columns line)) x.parted
          (recursion_from_All (λ (line : Line). LineFits store.layout.limits.sessions store.layout.limits.ranges store.layout.limits.columns line) lines fits)))
          (merges_through store x.first x.later old new m n replies before after x.can x.cans x.run);
    }
