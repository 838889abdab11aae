-- A session's way through a run in which it can do all its lines: none is refused.
use Rattle.std.proofs.Common.{◌≡◌, ◌≢◌, ⊎_elim, ℕ, Bool, true, cond, List, [], ◌∷◌, ◌++◌, map, IfSome, sym, ap, subst, ◌∙◌, append_assoc}
use Rattle.std.proofs.lemmas.Bool.{eq-eqb, ne_eqb}
use Rattle.lst_layout.specs.declared.limits.Limits.{Limits}
use Rattle.lst_model.specs.declared.acts.Write.{Write}
use Rattle.lst_model.specs.declared.commits.Commit.{Commit}
use Rattle.lst_model.specs.declared.lines.Line.{Line}
use Rattle.lst_model.specs.declared.lines.Line.TheVariants.{Phase, Merge, Call}
use Rattle.lst_model.specs.declared.replies.Reply.{Reply}
use Rattle.lst_model.specs.Histories.{Extends}
use Rattle.lst_core_state.specs.declared.known.Known.{Known}
use Rattle.lst_replies.specs.declared.states.Transaction.{Transaction}
use Rattle.lst_replies.specs.declared.states.SessionState.{SessionState}
use Rattle.lst_replies.specs.Runs.{Answered, answered, AtEachCall, write_of}
use Rattle.lst_replies.specs.Explained.{EndIsExact}
use Rattle.lst_replies.specs.States.{unbegun, after_line, state_of}
use Rattle.lst_replies.specs.ReplyKinds.{can_answer}
use Rattle.lst_work_laws.specs.Lines.{session_told}
use Rattle.lst_work_laws.specs.Lives.{Stays, Answers, Passes, Lives}
use Rattle.lst_serial_laws.proofs.Numbers.{state_on}
use Rattle.lst_work_laws.proofs.Living.{passes_state, lives_grow}
use Rattle.lst_work_laws.proofs.Telling.{extends_on}
use Rattle.lst_work.specs.Scripted.{Doing, doing_after_call, doing_after, doing_behind}
use Rattle.lst_work.proofs.Lists.{CommitsOwn, owns_front}
use Rattle.lst_work.proofs.Going.{Can, Goes}
use Rattle.lst_work.proofs.Lining.{Follows, IsFree, Succeeds, Passed, call_passes, follows_on}

abbrev pub lines_in : List Answered → List Line
lines_in run = map (λ (one : Answered). one.line) run

-- ---- each line of the session is answered as one that isn't refused

abbrev pub SucceedsAt : ℕ → Doing → Line → Reply → Type 0
SucceedsAt j d Phase reply = Unit {0}
SucceedsAt j d (Merge range column) reply = Unit {0}
SucceedsAt j d (Call t call) reply = t ≡ j → Succeeds call d reply

abbrev pub AllSucceed : ℕ → Doing → List Answered → Type 0
AllSucceed j d [] = Unit {0}
AllSucceed j d (one ∷ rest) = SucceedsAt j d one.line one.reply × AllSucceed j (doing_after j one.line d) rest

pub succeed_behind : (j : ℕ) (d : Doing) (front rest : List Answered) → AllSucceed j d (front ++ rest) → AllSucceed j (doing_behind j (lines_in front) d) rest
succeed_behind j d [] rest all = all
succeed_behind j d (one ∷ front) rest all = succeed_behind j (doing_after j one.line d) front rest all.1

abbrev GoesAt : ℕ → ℕ → ℕ → Doing → Line → Type 0
GoesAt txns n j d Phase = Unit {0}
GoesAt txns n j d (Merge range column) = Unit {0}
GoesAt txns n j d (Call t call) = t ≡ j → Can txns n j call d

goes_parts : (txns n j : ℕ) (d : Doing) (line : Line) (lines : List Line) → Goes txns n j d (line ∷ lines) → GoesAt txns n j d line × Goes txns n j (doing_after j line d) lines
goes_parts txns n j d Phase lines g = (tt, g)
goes_parts txns n j d (Merge range column) lines g = (tt, g)
goes_parts txns n j d (Call t call) lines g = (g.0, g.1)

record Stepped (j : ℕ) (line : Line) (reply : Reply) (d : Doing) (a : Known) : Type 0 where
  succeeds : SucceedsAt j d line reply
  follows : Follows j (doing_after j line d) (session_told a) a.seen

stayed : (j : ℕ) (d : Doing) (u a : Known) → Stays j u a → Follows j d (session_told u) u.seen → Follows j d (session_told a) a.seen
stayed j d u a p f = subst (λ (st : SessionState). Follows j d st a.seen) (sym p.state) (follows_on j d (session_told u) u.seen a.seen p.seen p.mine f)

pub record Walked (j : ℕ) (d : Doing) (rest : List Answered) (k : Known) : Type 0 where
  pub succeed : AllSucceed j d rest
  pub follows : Follows j (doing_behind j (lines_in rest) d) (session_told k) k.seen

module _ (l : Limits) (n j : ℕ) (history : List Commit) (owns : CommitsOwn n history) (run : List Answered)
    (kinds : AtEachCall (λ before s call reply. can_answer call reply ≡ true) run)
    (free : AtEachCall (λ before s call reply. IfSome (state_of s before).current (λ (t : Transaction). IfSome (write_of call) (λ (w : Write). IsFree reply))) run)
    (ends : AtEachCall (λ before s call reply. EndIsExact (state_of s before).current call reply) run) where
  step : (line : Line) (reply : Reply) (before after : List Answered) → run ≡ before ++ answered line reply ∷ after → (d : Doing) (u a : Known) → Passes l j line reply u a → Extends history a.seen → GoesAt l.txns n j d line
      → session_told u ≡ state_of j before → Follows j d (session_told u) u.seen → Stepped j line reply d a
  step Phase reply before after place d u a p e goes told f = record { succeeds = tt; follows = stayed j d u a p f }
  step (Merge range column) reply before after place d u a p e goes told f = record { succeeds = tt; follows = stayed j d u a p f }
  step (Call t call) reply before after place d u a p e goes told f = ⊎_elim
      (λ (x : (t ≢ j) × Stays j u a). record {
        succeeds = λ is. absurd (x.0 is);
        follows = subst (λ (b : Bool). Follows j (cond b (doing_after_call call d) d) (session_told a) a.seen) (sym (ne_eqb t j x.0)) (stayed j d u a x.1 f);
      })
      (λ (x : (t ≡ j) × Answers l j call reply u a).
      let here : state_of t before ≡ session_told u = ap (λ s. state_of s before) x.0 ∙ sym told in
      let passed : Passed j call reply d (session_told u) a.seen = call_passes l n j d (session_told u) u.seen a.seen x.1.seen (owns_front n a.seen e.0 (subst (CommitsOwn n) e.1 owns)) f call reply (goes x.0)
      (kinds before t call reply after place)
      (subst (λ (st : SessionState). IfSome st.current (λ (t : Transaction). IfSome (write_of call) (λ (w : Write). IsFree reply))) here (free before t call reply after place))
      (subst (λ (st : SessionState). EndIsExact st.current call reply) here (ends before t call reply after place))
      x.1.tells x.1.mine in
      record {
        succeeds = λ is. passed.succeeds;
        follows = subst (λ (b : Bool). Follows j (cond b (doing_after_call call d) d) (session_told a) a.seen) (sym (eq-eqb t j x.0))
            (subst (λ (st : SessionState). Follows j (doing_after_call call d) st a.seen) (sym x.1.state) passed.follows);
      }) p

  pub walk : (rest before : List Answered) → run ≡ before ++ rest → (d : Doing) (u k : Known) → Lives l j rest u k → Extends history k.seen → Goes l.txns n j d (lines_in rest)
      → session_told u ≡ state_of j before → Follows j d (session_told u) u.seen → Walked j d rest k
  walk [] before place d u k x e goes told f = record { succeed = tt; follows = stayed j d u k x f }
  walk (one ∷ rest) before place d u k x e goes told f =
      let a = x.0 in let grows = lives_grow l j rest a k x.2 in let g = goes_parts l.txns n j d one.line (lines_in rest) goes in
      let s = step one.line one.reply before rest place d u a x.1 (extends_on a.seen k.seen history grows.seen e) g.0 told f in
      let now : session_told a ≡ state_of j (before ++ one ∷ []) = passes_state l j one.line one.reply u a x.1 ∙ (ap (after_line j one) told ∙ sym (state_on unbegun j before (one ∷ []))) in
      let r = walk rest (before ++ one ∷ []) (place ∙ sym (append_assoc before (one ∷ []) rest)) (doing_after j one.line d) a k x.2 e g.1 now s.follows in
      record { succeed = (s.succeeds, r.succeed); follows = r.follows }
