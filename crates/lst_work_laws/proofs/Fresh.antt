-- A whole script of sessions that had begun nothing.
use Rattle.std.proofs.Common.{◌≡◌, ⊎_elim, ℕ, ◌+◌, ◌<◌, ◌≤◌, List, [], ◌∷◌, ◌++◌, Bool, true, false, ◌||◌, ◌&&◌, cond, length, get_or, IfSome, refl, sym, subst, ap, ◌∙◌, arith}
use Rattle.std.specs.Prelude.{IsSomeAnd}
use Rattle.std.specs.List.{count_by, sum_by, filter, list_any, Contains, AllByRecursion}
use Rattle.std.proofs.lemmas.List.Elements.{recursion_from_All}
use Rattle.lst_model.specs.declared.commits.Commit.{Commit}
use Rattle.lst_model.specs.declared.lines.Line.{Line}
use Rattle.lst_model.specs.declared.lines.Line.TheVariants.{Call}
use Rattle.lst_model.specs.declared.lines.Call.{Call as CallKind}
use Rattle.lst_model.specs.declared.replies.Reply.{Reply}
use Rattle.lst_model.specs.declared.replies.Reply.TheVariants.{Done}
use Rattle.lst_model.specs.Lines.{LineFits}
use Rattle.lst_core_state.specs.State.{mine}
use Rattle.lst_core_state.specs.declared.known.Known.{Known}
use Rattle.lst_core_state.specs.declared.known.Done.{Done as Deed}
use Rattle.lst_replies.specs.declared.states.SessionState.{SessionState}
use Rattle.lst_replies.specs.Runs.{Answered, answered, run_of, speaker_of, is_by, commit_times, may_take_latch, is_accepted, may_take_record}
use Rattle.lst_replies.specs.States.{unbegun, state_from, state_of, floor_of}
use Rattle.lst_session.specs.declared.session.Session.{Session}
use Rattle.lst_session.specs.Parting.{known_by}
use Rattle.lst_work_laws.specs.Lines.{session_told}
use Rattle.lst_work_laws.specs.Laws.{commits_told, TellsLine, HasWritten, HasHeld, Leaves}
use Rattle.lst_work_laws.specs.Scripts.{GoesOn, ScriptIsTold, WasAccepted}
use Rattle.lst_work_laws.proofs.Weaving.{own_state}
use Rattle.lst_work_laws.proofs.Lists.{element}
use Rattle.lst_work_laws.proofs.Mergers.{all_at}
use Rattle.lst_work_laws.proofs.Totals.{sum_same, sum_low, spread_all, accepted_spoken, record_spoken, all_within, run_within}
use Rattle.lst_work_laws.proofs.Once.{EnteredBehind, calls_commit, once_behind, times_within, all_told, is_commit_line, commit_spoken, told_few, commits_few}

-- ---- what stands behind writes and latches

-- a line among those that pass a test, at its place among all
unfiltered : (p : Answered → Bool) (run before : List Answered) (one : Answered) (after : List Answered) → filter p run ≡ before ++ one ∷ after
    → (front back : List Answered) × (run ≡ front ++ one ∷ back) × (filter p front ≡ before)
unfiltered p [] [] one after e = absurd (cc)
unfiltered p [] (b ∷ before) one after e = absurd (cc)
unfiltered p (x ∷ run) before one after e = by_test (p x) refl before e (unfiltered p run)
  where
    by_test : (t : Bool) → p x ≡ t → (before : List Answered) → cond t (x ∷ filter p run) (filter p run) ≡ before ++ one ∷ after
        → ((before : List Answered) (one : Answered) (after : List Answered) → filter p run ≡ before ++ one ∷ after → (front back : List Answered) × (run ≡ front ++ one ∷ back) × (filter p front ≡ before))
        → (front back : List Answered) × (x ∷ run ≡ front ++ one ∷ back) × (filter p front ≡ before)
    by_test false is before e rest =
        let h = rest before one after e in
        (x ∷ h.0, h.1, ap (λ (ones : List Answered). x ∷ ones) h.2, ap (λ (t : Bool). cond t (x ∷ filter p h.0) (filter p h.0)) is ∙ h.3)
    by_test true is [] e rest = let same : x ≡ one = cc in ([], run, ap (λ (o : Answered). o ∷ run) same, refl)
    by_test true is (b ∷ before) e rest =
        let first : x ≡ b = cc in let others : filter p run ≡ before ++ one ∷ after = cc in
        let h = rest before one after others in
        (x ∷ h.0, h.1, ap (λ (ones : List Answered). x ∷ ones) h.2, ap (λ (t : Bool). cond t (x ∷ filter p h.0) (filter p h.0)) is ∙ (ap (λ (ones : List Answered). x ∷ ones) h.3 ∙ ap (λ (o : Answered). o ∷ before) first))

any_filtered : (p q : Answered → Bool) (run : List Answered) → list_any q (filter p run) ≡ true → list_any q run ≡ true
any_filtered p q [] e = e
any_filtered p q (x ∷ run) e = by_test (p x) e (any_filtered p q run)
  where
    or_same : (a b c : Bool) → (b ≡ true → c ≡ true) → (a || b) ≡ true → (a || c) ≡ true
    or_same true b c less e = refl
    or_same false b c less e = less e

    or_late : (a c : Bool) → c ≡ true → (a || c) ≡ true
    or_late true c e = refl
    or_late false c e = e

    by_test : (t : Bool) → list_any q (cond t (x ∷ filter p run) (filter p run)) ≡ true → (list_any q (filter p run) ≡ true → list_any q run ≡ true) → (q x || list_any q run) ≡ true
    by_test true e rest = or_same (q x) (list_any q (filter p run)) (list_any q run) rest e
    by_test false e rest = or_late (q x) (list_any q run) (rest e)

none_in : {X : Type 0} (xs : List X) (x : X) → xs ≡ [] → Contains xs x → ⊥
none_in xs x e h = let low = h.1 in let long = ap length e in omega arith

module _ (run : List Answered) (s : ℕ) (before now : Known) (x : Leaves s (filter (is_by s) run) before now) where
  was_accepted : session_told before ≡ unbegun → before.done ≡ [] → (deed : Deed) → Contains now.done deed → WasAccepted run s now deed
  was_accepted fresh none deed at = ⊎_elim (λ old. absurd (none_in before.done deed none old)) by_line (x.writes deed at)
    where
      by_line : HasWritten s (session_told before) (filter (is_by s) run) now deed → WasAccepted run s now deed
      by_line w = let h = unfiltered (is_by s) run w.before (answered (Call s w.call) Done) w.after w.place in record {
        key = w.key;
        placed = w.placed;
        accepted = record {
          before = h.0;
          call = w.call;
          after = h.1;
          place = h.2;
          on_key = w.on_key;
          transaction = subst (λ (st : SessionState). IsSomeAnd st.current (λ transaction. transaction.number ≡ deed.number))
              (ap (λ (st : SessionState). state_from st s w.before) fresh ∙ (ap (state_from unbegun s) (sym h.3) ∙ own_state s h.0 unbegun)) w.transaction;
        };
      }

  was_held : before.latched ≡ [] → (rec : ℕ) → Contains now.latched rec → HasHeld s run now rec
  was_held none rec at =
      ⊎_elim (λ old. absurd (none_in before.latched rec none old))
      (λ w. record { key = w.key; placed = w.placed; held = any_filtered (is_by s) (λ one. is_by s one && may_take_latch w.key one) run w.held }) (x.latched rec at)

pub script_is_told : ScriptIsTold
script_is_told store lines old new m n replies before after fits works fresh =
    let run : List Answered = run_of lines replies in
    let few : (s : ℕ) → s < length new → s < length old = λ s low. subst (λ (k : ℕ). s < k) (after.count ∙ sym before.count) low in
    let within = run_within (length new) lines replies (all_within (length new) store.layout.limits lines (sym after.count) (recursion_from_All (λ (line : Line). LineFits store.layout.limits.sessions store.layout.limits.ranges store.layout.limits.columns line) lines fits)) in
    let calls = calls_commit lines replies works.shape in
    let left : (s : ℕ) (d : Session) (low : s < length old) → Leaves s (filter (is_by s) run) (known_by (get_or old s d)) (known_by (get_or new s d)) = λ s d low. (works.sessions s d low).leaves in
    let told : (history : List Commit) → GoesOn history new → (front : List Answered) (session : ℕ) (call : CallKind) (reply : Reply) (rest : List Answered) → run ≡ front ++ answered (Call session call) reply ∷ rest
    → TellsLine store.layout.limits history (floor_of session front) session (state_of session front) call reply = λ history goes front session call reply rest place.
    let low : session < length new = all_at (λ (one : Answered). IfSome (speaker_of one.line) (λ t. t < length new)) front (answered (Call session call) reply) rest (subst (AllByRecursion (λ (one : Answered). IfSome (speaker_of one.line) (λ t. t < length new))) place within) in
    let d = element new session low in
    subst (λ (st : SessionState). TellsLine store.layout.limits history (floor_of session front) session (state_from st session front) call reply) (fresh session d (few session low)).state
    ((works.sessions session d (few session low)).told history (goes session d low) front call reply rest place) in
    let own_few : (s : ℕ) (d : Session) → s < length new → length (mine (get_or new s d).number (known_by (get_or new s d))) ≤ count_by is_commit_line (filter (is_by (0 + s)) run) = λ s d low.
    let its = (left s d (few s low)).mine in let none = (fresh s d (few s low)).mine in
    let start : mine s (known_by (get_or old s d)) ≡ [] = subst (λ (k : ℕ). mine k (known_by (get_or old s d)) ≡ []) (before.number s d (few s low)) none in
    let long : length (mine s (known_by (get_or new s d))) ≡ length (commits_told s (session_told (known_by (get_or old s d))) (filter (is_by s) run)) =
    ap length (its ∙ ap (λ (cs : List Commit). cs ++ commits_told s (session_told (known_by (get_or old s d))) (filter (is_by s) run)) start) in
    let most = told_few s (session_told (known_by (get_or old s d))) run in
    let is : 0 + s ≡ s = omega arith in
    subst (λ (k : ℕ). length (mine k (known_by (get_or new s d))) ≤ count_by is_commit_line (filter (is_by (0 + s)) run)) (sym (after.number s d low))
    (subst (λ (k : ℕ). length (mine s (known_by (get_or new s d))) ≤ count_by is_commit_line (filter (is_by k) run)) (sym is) (omega arith)) in
    record {
      shape = works.shape;
      told = λ history goes. record {
        entered = λ front session call reply rest place. (told history goes front session call reply rest place).entered;
        once = once_behind history [] run calls (λ front session call reply rest place. (told history goes front session call reply rest place).entered);
        times = λ front session call reply rest place. (told history goes front session call reply rest place).rules.times;
        reads = λ front session call reply rest place. (told history goes front session call reply rest place).rules.reads;
        refusals = λ front session call reply rest place. (told history goes front session call reply rest place).rules.refusals;
        writes = λ front session call reply rest place. (told history goes front session call reply rest place).rules.writes;
      };
      accepted = λ s d deed low at. was_accepted run s (known_by (get_or old s d)) (known_by (get_or new s d)) (left s d (few s low)) (fresh s d (few s low)).state (fresh s d (few s low)).done deed at;
      latched = λ s d rec low at. was_held run s (known_by (get_or old s d)) (known_by (get_or new s d)) (left s d (few s low)) (fresh s d (few s low)).latched rec at;
      complete = λ history goes whole.
          let entered : EnteredBehind history [] run = λ front session call reply rest place. (told history goes front session call reply rest place).entered in
          let sums = sum_low is_commit_line (λ session. length (mine session.number (known_by session))) run 0 new (λ s d low. own_few s d low) in
          let spread = spread_all is_commit_line commit_spoken new run within in
          let most = commits_few run in
          all_told (commit_times run) (length history) (once_behind history [] run calls entered) (times_within history [] run calls entered) (omega arith);
      done =
          sum_same is_accepted (λ session. length (known_by session).done) run 0 new
          (λ s d low. let x = (left s d (few s low)).done in let none = ap length (fresh s d (few s low)).done in let is : 0 + s ≡ s = omega arith in
          subst (λ (k : ℕ). length (known_by (get_or new s d)).done ≡ count_by is_accepted (filter (is_by k) run)) (sym is) (omega arith))
          ∙ spread_all is_accepted accepted_spoken new run within;
      drawn = subst (λ (k : ℕ). sum_by (λ session. length (known_by session).placing.drawn) new ≤ k) (spread_all may_take_record record_spoken new run within)
          (sum_low may_take_record (λ session. length (known_by session).placing.drawn) run 0 new
          (λ s d low. let x = (left s d (few s low)).drawn in let none = ap length (fresh s d (few s low)).drawn in let is : 0 + s ≡ s = omega arith in
          subst (λ (k : ℕ). length (known_by (get_or new s d)).placing.drawn ≤ count_by may_take_record (filter (is_by k) run)) (sym is) (omega arith)));
    }
