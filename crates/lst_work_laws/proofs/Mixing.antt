-- What holds at each line of each session of a phase, and at its merges, holds at all its lines; and the replies' kinds.
use Rattle.std.proofs.Common.{◌≡◌, ℕ, ◌<◌, List, [], ◌∷◌, ◌++◌, Bool, true, false, cond, eqb, map, Option, Some, None, refl, ap, ◌∙◌}
use Rattle.std.specs.List.{filter, cons_option, AllByRecursion}
use Rattle.std.proofs.lemmas.Bool.{eq-eqb}
use Rattle.lst_layout.specs.declared.limits.Limits.{Limits}
use Rattle.lst_model.specs.declared.lines.Line.{Line}
use Rattle.lst_model.specs.declared.lines.Line.TheVariants.{Phase, Merge, Call}
use Rattle.lst_model.specs.declared.replies.Reply.{Reply}
use Rattle.lst_rule.specs.declared.view.View.{View}
use Rattle.lst_replies.specs.Runs.{Answered, answered, is_by, speaker_of}
use Rattle.lst_replies.specs.ReplyKinds.{can_answer_line, can_answer_merge, HaveReplyShape}
use Rattle.lst_work_laws.specs.Runs.{Runs}
use Rattle.lst_work_laws.specs.Runs.{CanRun}
use Rattle.lst_work_laws.specs.Orders.{queue_of, replies_from}
use Rattle.lst_work_laws.specs.Laws.{answered_all, phase_run}

-- the reply is of a kind that answers the line
abbrev pub Answers : Answered → Type 0
Answers one = can_answer_line one.line one.reply ≡ true

abbrev pub AnswersMerge : Reply → Type 0
AnswersMerge reply = can_answer_merge reply ≡ true

own_head : (P : Answered → Type 0) (b : Bool) (one : Answered) (ones : List Answered) → b ≡ true → AllByRecursion P (cond b (one ∷ ones) ones) → P one
own_head P true one ones e all = all.0
own_head P false one ones e all = absurd (cc)

own_tail : (P : Answered → Type 0) (b : Bool) (one : Answered) (ones : List Answered) → AllByRecursion P (cond b (one ∷ ones) ones) → AllByRecursion P ones
own_tail P true one ones all = all.1
own_tail P false one ones all = all

merge_head : (b : Bool) (reply : Reply) (replies : List Reply) → b ≡ true → AllByRecursion AnswersMerge (cons_option (cond b (Some reply) None) replies) → AnswersMerge reply × AllByRecursion AnswersMerge replies
merge_head true reply replies e all = all
merge_head false reply replies e all = absurd (cc)

merge_tail : (b : Bool) (reply : Reply) (replies : List Reply) → AllByRecursion AnswersMerge (cons_option (cond b (Some reply) None) replies) → AllByRecursion AnswersMerge replies
merge_tail true reply replies all = all.1
merge_tail false reply replies all = all

module _ (l : Limits) (P : Answered → Type 0) (of_merge : (range column : ℕ) (reply : Reply) → AnswersMerge reply → P (answered (Merge range column) reply)) where
  pub mixed : (lines : List Line) (replies : List (Option ℕ × Reply)) → AllByRecursion (CanRun l) lines → map (λ reply. reply.0) replies ≡ map speaker_of lines
      → AllByRecursion AnswersMerge (replies_from l.sessions l.sessions replies) → ((s : ℕ) → s < l.sessions → AllByRecursion P (filter (is_by s) (phase_run lines replies))) → AllByRecursion P (phase_run lines replies)
  mixed [] replies can e merges own = tt
  mixed (line ∷ lines) [] can e merges own = tt
  mixed (Phase ∷ lines) (reply ∷ replies) can e merges own = absurd can.0.within
  mixed (Merge range column ∷ lines) (reply ∷ replies) can e merges own =
      let head : reply.0 ≡ None = cc in let rest : map (λ r. r.0) replies ≡ map speaker_of lines = cc in
      let x = merge_head (eqb (queue_of l.sessions reply.0) l.sessions) reply.1 (replies_from l.sessions l.sessions replies) (ap (λ (o : Option ℕ). eqb (queue_of l.sessions o) l.sessions) head ∙ eq-eqb l.sessions l.sessions refl) merges in
      (of_merge range column reply.1 x.0, mixed lines replies can.1 rest x.1 own)
  mixed (Call session call ∷ lines) (reply ∷ replies) can e merges own =
      let rest : map (λ r. r.0) replies ≡ map speaker_of lines = cc in
      let one : Answered = answered (Call session call) reply.1 in let low = can.0.fits.0 in (
        own_head P (eqb session session) one (filter (is_by session) (phase_run lines replies)) (eq-eqb session session refl) (own session low),
        mixed lines replies can.1 rest (merge_tail (eqb (queue_of l.sessions reply.0) l.sessions) reply.1 (replies_from l.sessions l.sessions replies) merges)
            (λ s inside. own_tail P (eqb session s) one (filter (is_by s) (phase_run lines replies)) (own s inside)),
      )

-- ---- kinds

pub runs_kinds : (s : ℕ) (lines : List Line) (replies : List Reply) (v w : View) → Runs s lines replies v w → AllByRecursion Answers (answered_all lines replies)
runs_kinds s [] [] v w x = tt
runs_kinds s [] (reply ∷ replies) v w x = absurd x
runs_kinds s (Phase ∷ lines) replies v w x = absurd x
runs_kinds s (Merge range column ∷ lines) replies v w x = absurd x
runs_kinds s (Call t call ∷ lines) [] v w x = absurd x
runs_kinds s (Call t call ∷ lines) (reply ∷ replies) v w x = (x.1.1.kind, runs_kinds s lines replies x.1.0 w x.1.2)

module _ (l : Limits) where
  pub shape_last : (lines : List Line) (replies : List (Option ℕ × Reply)) → AllByRecursion (CanRun l) lines → map (λ reply. reply.0) replies ≡ map speaker_of lines
      → AllByRecursion Answers (phase_run lines replies) → HaveReplyShape lines replies
  shape_last [] [] can e kinds = tt
  shape_last [] (reply ∷ replies) can e kinds = absurd (cc)
  shape_last (Phase ∷ lines) replies can e kinds = absurd can.0.within
  shape_last (Merge range column ∷ lines) [] can e kinds = absurd (cc)
  shape_last (Merge range column ∷ lines) (reply ∷ replies) can e kinds =
      let head : reply.0 ≡ None = cc in let rest : map (λ r. r.0) replies ≡ map speaker_of lines = cc in (record { session = head; kind = kinds.0 }, shape_last lines replies can.1 rest kinds.1)
  shape_last (Call session call ∷ lines) [] can e kinds = absurd (cc)
  shape_last (Call session call ∷ lines) (reply ∷ replies) can e kinds =
      let head : reply.0 ≡ Some session = cc in let rest : map (λ r. r.0) replies ≡ map speaker_of lines = cc in (record { session = head; kind = kinds.0 }, shape_last lines replies can.1 rest kinds.1)

  pub shape_then : (lines more : List Line) (replies others : List (Option ℕ × Reply)) → HaveReplyShape lines replies → HaveReplyShape more others → HaveReplyShape (lines ++ Phase ∷ more) (replies ++ others)
  shape_then [] more [] others x y = y
  shape_then [] more (reply ∷ replies) others x y = absurd x
  shape_then (Phase ∷ lines) more replies others x y = shape_then lines more replies others x y
  shape_then (Merge range column ∷ lines) more [] others x y = absurd x
  shape_then (Merge range column ∷ lines) more (reply ∷ replies) others x y = (x.0, shape_then lines more replies others x.1 y)
  shape_then (Call session call ∷ lines) more [] others x y = absurd x
  shape_then (Call session call ∷ lines) more (reply ∷ replies) others x y = (x.0, shape_then lines more replies others x.1 y)
