-- Lines and replies, one after another.
use Rattle.std.proofs.Common.{◌≡◌, ◌↔◌, ℕ, ◌+◌, ◌<◌, ◌≤◌, true, false, List, [], ◌∷◌, ◌++◌, length, drop, get_or, Option, refl, sym, ap, ◌∙◌, subst, add-one, drop-cons, arith}
use Rattle.std.specs.List.{AllByRecursion}
use Rattle.std.proofs.lemmas.List.{drop_all}
use Rattle.lst_model.specs.declared.lines.Line.{Line}
use Rattle.lst_model.specs.declared.lines.Line.TheVariants.{Phase, Merge, Call}
use Rattle.lst_model.specs.declared.lines.Call.{Call as CallKind}
use Rattle.lst_model.specs.declared.replies.Reply.{Reply}
use Rattle.lst_model.specs.declared.replies.Reply.TheVariants.{Silent}
use Rattle.lst_replies.specs.Runs.{Answered, answered, run_of, is_phase, AtEachCall}
use Rattle.lst_replies.specs.ReplyKinds.{AnswersLine, HaveReplyShape, can_answer, can_answer_merge}

abbrev Told : Type 0
Told = Option ℕ × Reply

-- whether all lines are answered is whether those left are
pub record ShapeOn (lines : List Line) (replies : List (Option ℕ × Reply)) (i : ℕ) (rest : List (Option ℕ × Reply)) : Type 0 where
  pub same : HaveReplyShape lines replies ↔ HaveReplyShape (drop i lines) rest

module _ (lines : List Line) (replies : List (Option ℕ × Reply)) where
  pub shape_first : ShapeOn lines replies 0 replies
  shape_first = record { same = ((λ h. h), (λ h. h)) }

  opened : (i : ℕ) (d : Line) → i < length lines → drop i lines ≡ get_or lines i d ∷ drop (i + 1) lines
  opened i d below = drop-cons lines i d below ∙ ap (λ n. get_or lines i d ∷ drop n lines) (sym (add-one i))

  phase_step : (line : Line) (others : List Line) (rest : List Told) → is_phase line ≡ true → HaveReplyShape (line ∷ others) rest ↔ HaveReplyShape others rest
  phase_step Phase others [] is = phase_empty others
    where
      phase_empty : (others : List Line) → HaveReplyShape (Phase ∷ others) [] ↔ HaveReplyShape others []
      phase_empty others = ((λ h. h), (λ h. h))
  phase_step Phase others (told ∷ rest) is = ((λ h. h), (λ h. h))
  phase_step (Merge range column) others rest is = absurd cc
  phase_step (Call session call) others rest is = absurd cc

  line_step : (line : Line) (others : List Line) (told : Told) (rest : List Told) → is_phase line ≡ false → HaveReplyShape (line ∷ others) (told ∷ rest) ↔ (AnswersLine line told × HaveReplyShape others rest)
  line_step Phase others told rest is = absurd cc
  line_step (Merge range column) others told rest is = ((λ h. h), (λ h. h))
  line_step (Call session call) others told rest is = ((λ h. h), (λ h. h))

  line_none : (line : Line) (others : List Line) → is_phase line ≡ false → ¬ HaveReplyShape (line ∷ others) []
  line_none Phase others is = absurd cc
  line_none (Merge range column) others is = λ h. h
  line_none (Call session call) others is = λ h. h

  pub shape_phase : (i : ℕ) (d : Line) (rest : List (Option ℕ × Reply)) → i < length lines → is_phase (get_or lines i d) ≡ true → ShapeOn lines replies i rest → ShapeOn lines replies (i + 1) rest
  shape_phase i d rest below is on =
      let here : HaveReplyShape (drop i lines) rest ↔ HaveReplyShape (drop (i + 1) lines) rest =
      subst (λ (ls : List Line). HaveReplyShape ls rest ↔ HaveReplyShape (drop (i + 1) lines) rest) (sym (opened i d below)) (phase_step (get_or lines i d) (drop (i + 1) lines) rest is) in
      record { same = ((λ h. here.0 (on.same.0 h)), (λ h. on.same.1 (here.1 h))) }

  pub shape_more : (i : ℕ) (d : Line) (told : Option ℕ × Reply) (rest others : List (Option ℕ × Reply)) → i < length lines → is_phase (get_or lines i d) ≡ false → rest ≡ told ∷ others → AnswersLine (get_or lines i d) told → ShapeOn lines replies i rest → ShapeOn lines replies (i + 1) others
  shape_more i d told rest others below is rest_is answers on =
      let step = line_step (get_or lines i d) (drop (i + 1) lines) told others is in
      let here : HaveReplyShape (drop i lines) rest ↔ HaveReplyShape (drop (i + 1) lines) others =
      subst (λ (ls : List Line). HaveReplyShape ls rest ↔ HaveReplyShape (drop (i + 1) lines) others) (sym (opened i d below))
      (subst (λ (ts : List Told). HaveReplyShape (get_or lines i d ∷ drop (i + 1) lines) ts ↔ HaveReplyShape (drop (i + 1) lines) others) (sym rest_is) ((λ h. (step.0 h).1), (λ h. step.1 (answers, h)))) in
      record { same = ((λ h. here.0 (on.same.0 h)), (λ h. on.same.1 (here.1 h))) }

  pub shape_missing : (i : ℕ) (d : Line) (rest : List (Option ℕ × Reply)) → i < length lines → is_phase (get_or lines i d) ≡ false → rest ≡ [] → ShapeOn lines replies i rest → ¬ HaveReplyShape lines replies
  shape_missing i d rest below is none on h =
      line_none (get_or lines i d) (drop (i + 1) lines) is (subst (λ (ls : List Line). HaveReplyShape ls []) (opened i d below) (subst (λ (ts : List Told). HaveReplyShape (drop i lines) ts) none (on.same.0 h)))

  pub shape_wrong : (i : ℕ) (d : Line) (told : Option ℕ × Reply) (rest others : List (Option ℕ × Reply)) → i < length lines → is_phase (get_or lines i d) ≡ false → rest ≡ told ∷ others → ¬ AnswersLine (get_or lines i d) told → ShapeOn lines replies i rest → ¬ HaveReplyShape lines replies
  shape_wrong i d told rest others below is rest_is wrong on h =
      wrong ((line_step (get_or lines i d) (drop (i + 1) lines) told others is).0
      (subst (λ (ls : List Line). HaveReplyShape ls (told ∷ others)) (opened i d below) (subst (λ (ts : List Told). HaveReplyShape (drop i lines) ts) rest_is (on.same.0 h)))).0

  all_told : (rest : List Told) → HaveReplyShape [] rest ↔ (length rest ≡ 0)
  all_told [] = ((λ h. refl), (λ h. tt))
  all_told (told ∷ rest) = ((λ h. absurd h), (λ h. omega arith))

  pub shape_end : (i : ℕ) (rest : List (Option ℕ × Reply)) → length lines ≤ i → ShapeOn lines replies i rest → HaveReplyShape lines replies ↔ (length rest ≡ 0)
  shape_end i rest past on =
      let nothing : drop i lines ≡ [] = drop_all i lines past in
      let step = all_told rest in
      ((λ h. step.0 (subst (λ (ls : List Line). HaveReplyShape ls rest) nothing (on.same.0 h))), (λ h. on.same.1 (subst (λ (ls : List Line). HaveReplyShape ls rest) (sym nothing) (step.1 h))))

-- ---- the run that lines and replies make

pub record PairsOn (lines : List Line) (replies : List (Option ℕ × Reply)) (front : List Answered) (i : ℕ) (rest : List (Option ℕ × Reply)) : Type 0 where
  pub whole : run_of lines replies ≡ front ++ run_of (drop i lines) rest

-- ---- the kinds of replies in a run of the right shape

abbrev pub KindOf : Line → Reply → Type 0
KindOf Phase reply = reply ≡ Silent
KindOf (Merge range column) reply = can_answer_merge reply ≡ true
KindOf (Call session call) reply = can_answer call reply ≡ true

pub kinds_of : (lines : List Line) (replies : List (Option ℕ × Reply)) → HaveReplyShape lines replies → AllByRecursion (λ (one : Answered). KindOf one.line one.reply) (run_of lines replies)
kinds_of [] replies shape = tt
kinds_of (Phase ∷ lines) replies shape = (refl, kinds_of lines replies shape)
kinds_of (Merge range column ∷ lines) [] shape = absurd shape
kinds_of (Merge range column ∷ lines) (reply ∷ replies) shape = (shape.0.kind, kinds_of lines replies shape.1)
kinds_of (Call session call ∷ lines) [] shape = absurd shape
kinds_of (Call session call ∷ lines) (reply ∷ replies) shape = (shape.0.kind, kinds_of lines replies shape.1)

kind_here : (before : List Answered) (session : ℕ) (call : CallKind) (reply : Reply) (after : List Answered) → AllByRecursion (λ (one : Answered). KindOf one.line one.reply) (before ++ answered (Call session call) reply ∷ after) → can_answer call reply ≡ true
kind_here [] session call reply after all = all.0
kind_here (one ∷ before) session call reply after all = kind_here before session call reply after all.1

-- the reply to a call is of a kind that answers it
pub kind_at : (lines : List Line) (replies : List (Option ℕ × Reply)) → HaveReplyShape lines replies → AtEachCall (λ before session call reply. can_answer call reply ≡ true) (run_of lines replies)
kind_at lines replies shape before session call reply after e =
    kind_here before session call reply after (subst (AllByRecursion (λ (one : Answered). KindOf one.line one.reply)) e (kinds_of lines replies shape))
