-- The kept writes of each session, once a line was answered.
use Rattle.std.proofs.Common.{◌≡◌, ◌≢◌, ◌⊎◌, ℕ, suc, ◌+◌, ◌<◌, ◌≤◌, ◌^◌, Bool, true, false, List, [], ◌∷◌, cond, length, get_or, set, replicate, Option, Some, None, refl, sym, ap, ◌∙◌, subst, arith, inl, inr, ⊎_elim, true≢false}
use Rattle.std.specs.List.{AllByRecursion}
use Rattle.std.proofs.lemmas.Bool.{cases_eq}
use Rattle.std.proofs.lemmas.List.{get_or-set_same, get_or-set_other, length-set, set-get_or, get_or-replicate, length-replicate}
use Rattle.lst_layout.specs.declared.limits.Limits.{Limits}
use Rattle.lst_core_state.specs.declared.known.Known.{Known}
use Rattle.lst_model.specs.declared.acts.Write.{Write}
use Rattle.lst_model.specs.declared.lines.Call.{Call as CallValue}
use Rattle.lst_model.specs.declared.lines.Call.TheVariants as call
use Rattle.lst_model.specs.declared.lines.Line.{Line}
use Rattle.lst_model.specs.declared.lines.Line.TheVariants.{Phase, Merge, Call}
use Rattle.lst_model.specs.declared.replies.Reply.{Reply}
use Rattle.lst_model.specs.declared.replies.Reply.TheVariants as reply
use Rattle.lst_model.specs.Histories.{joined}
use Rattle.lst_model.proofs.Joining.{joins}
use Rattle.lst_redo.proofs.Places.{all_joined, length-joined}
use Rattle.lst_log.specs.Format.{IsWrite}
use Rattle.lst_replies.specs.Runs.{write_of}
use Rattle.lst_rule.specs.declared.view.View.{View}
use Rattle.lst_rule.specs.Rule.{knows}
use Rattle.lst_scan.specs.Lines.{EachLineLeaves, CallLooks, LineLooks}
use Rattle.lst_session.specs.Calls.{OnlyLooks}
use Rattle.lst_session.specs.Lines.{MergeLeaves}
use Rattle.lst_session.specs.Merges.{MergerLearns}
use Rattle.lst_redo.specs.Owns.{FitRecord, AreOwn, own_after, done_after, lists_after, MakesNone}
use Rattle.lst_redo.proofs.Owning.{Leaves, call_leaves}

pub fit_none : (columns : ℕ) → FitRecord columns []
fit_none columns = record { order = tt; each = tt; few = omega arith }

pub fit_joined : (columns : ℕ) (ws : List Write) (w : Write) → FitRecord columns ws → IsWrite columns w → length ws + 1 < 2 ^ 32 → FitRecord columns (joined ws w)
fit_joined columns ws w fit here few = record {
  order = (joins ws w).order fit.order;
  each = all_joined (IsWrite columns) ws w fit.each here;
  few = let long = length-joined ws w in omega (arith, few, long);
}

-- a write may join where the call makes one
abbrev pub MayJoin : ℕ → Option Write → List Write → Type 0
MayJoin columns None own = Unit {0}
MayJoin columns (Some write) own = IsWrite columns write × (length own + 1 < 2 ^ 32)

fit_done : (columns : ℕ) (made : Option Write) (own : List Write) → FitRecord columns own → MayJoin columns made own → FitRecord columns (done_after made own)
fit_done columns None own fit may = fit
fit_done columns (Some write) own fit may = fit_joined columns own write fit may.0 may.1

fit_after : (columns : ℕ) (made : Option Write) (r : Reply) (own : List Write) → FitRecord columns own → MayJoin columns made own → FitRecord columns (own_after made r own)
fit_after columns made (reply.Begun time) own fit may = fit_none columns
fit_after columns made reply.Done own fit may = fit_done columns made own fit may
fit_after columns made r own fit may = fit

-- the lists of the open transactions are kept
pub own_kept : (v w : View) (s : ℕ) (made : Option Write) (r : Reply) (own later : List (List Write)) → s < v.limits.sessions → w.limits ≡ v.limits → AreOwn v own → Leaves v w s made r
    → MayJoin v.limits.columns made (get_or own s []) → later ≡ set own s (own_after made r (get_or own s [])) → AreOwn w later
own_kept v w s made r own later low same are left may is = record {
  sized = ap length is ∙ length-set own s own_list ∙ are.sized ∙ ap (λ (l : Limits). l.sessions) (sym same);
  fit = λ t below. fits t (subst (λ (l : Limits). t < l.sessions) same below) (cases_eq t s);
  are = λ t below is_open. at t (subst (λ (l : Limits). t < l.sessions) same below) is_open (cases_eq t s);
}
  where
    own_list : List Write
    own_list = own_after made r (get_or own s [])

    here : get_or later s [] ≡ own_list
    here = ap (λ (ls : List (List Write)). get_or ls s []) is ∙ get_or-set_same own s own_list [] (subst (λ (n : ℕ). s < n) (sym are.sized) low)

    there : (t : ℕ) → t ≢ s → get_or later t [] ≡ get_or own t []
    there t other = ap (λ (ls : List (List Write)). get_or ls t []) is ∙ get_or-set_other own s t own_list [] other

    at_s : (knows w s).is_open ≡ true → own_list ≡ (knows w s).own
    at_s is_open = ⊎_elim
        (λ on. ap (own_after made r) (are.are s low on.0) ∙ sym on.1)
        (λ none. none.1 (get_or own s []) ∙ sym none.0)
        (left.own is_open)

    at : (t : ℕ) → t < v.limits.sessions → (knows w t).is_open ≡ true → (t ≡ s) ⊎ (t ≢ s) → get_or later t [] ≡ (knows w t).own
    at t below is_open (inl e) = subst (λ (n : ℕ). get_or later n [] ≡ (knows w n).own) (sym e) (here ∙ at_s (subst (λ (n : ℕ). (knows w n).is_open ≡ true) e is_open))
    at t below is_open (inr other) = there t other ∙ are.are t below (ap (λ (k : Known). k.is_open) (sym (left.others t other)) ∙ is_open) ∙ ap (λ (k : Known). k.own) (sym (left.others t other))

    fits : (t : ℕ) → t < v.limits.sessions → (t ≡ s) ⊎ (t ≢ s) → FitRecord w.limits.columns (get_or later t [])
    fits t below (inl e) = subst (λ (l : Limits). FitRecord l.columns (get_or later t [])) (sym same)
        (subst (λ (n : ℕ). FitRecord v.limits.columns (get_or later n [])) (sym e) (subst (FitRecord v.limits.columns) (sym here) (fit_after v.limits.columns made r (get_or own s []) (are.fit s low) may)))
    fits t below (inr other) = subst (λ (l : Limits). FitRecord l.columns (get_or later t [])) (sym same) (subst (FitRecord v.limits.columns) (sym (there t other)) (are.fit t below))

-- where the open transactions stay, with their own writes, all lists stay
pub own_stay : (v w : View) (own : List (List Write)) → w.limits ≡ v.limits → ((t : ℕ) → t < v.limits.sessions → ((knows w t).is_open ≡ (knows v t).is_open) × ((knows w t).own ≡ (knows v t).own)) → AreOwn v own → AreOwn w own
own_stay v w own same stays are = record {
  sized = are.sized ∙ ap (λ (l : Limits). l.sessions) (sym same);
  fit = λ t below. subst (λ (l : Limits). FitRecord l.columns (get_or own t [])) (sym same) (are.fit t (subst (λ (l : Limits). t < l.sessions) same below));
  are = λ t below is_open. let low = subst (λ (l : Limits). t < l.sessions) same below in are.are t low (sym (stays t low).0 ∙ is_open) ∙ sym (stays t low).1;
}

pub own_elsewhere : (v w : View) (own : List (List Write)) → w.limits ≡ v.limits → ((t : ℕ) → t < v.limits.sessions → knows w t ≡ knows v t) → AreOwn v own → AreOwn w own
own_elsewhere v w own same stays are = own_stay v w own same (λ t low. (ap (λ (k : Known). k.is_open) (stays t low), ap (λ (k : Known). k.own) (stays t low))) are

pub own_looked : (v w : View) (s : ℕ) (own : List (List Write)) → OnlyLooks v w s → AreOwn v own → AreOwn w own
own_looked v w s own looks are = own_stay v w own looks.called.learns.limits (λ t low. at t (cases_eq t s)) are
  where
    at : (t : ℕ) → (t ≡ s) ⊎ (t ≢ s) → ((knows w t).is_open ≡ (knows v t).is_open) × ((knows w t).own ≡ (knows v t).own)
    at t (inl e) = subst (λ (n : ℕ). ((knows w n).is_open ≡ (knows v n).is_open) × ((knows w n).own ≡ (knows v n).own)) (sym e) (looks.same.transaction.is_open, looks.same.own)
    at t (inr other) = (ap (λ (k : Known). k.is_open) (looks.called.learns.others t other), ap (λ (k : Known). k.own) (looks.called.learns.others t other))

pub own_opened : (v : View) (own : List (List Write)) → own ≡ replicate v.limits.sessions [] → ((t : ℕ) → t < v.limits.sessions → (knows v t).is_open ≡ false) → AreOwn v own
own_opened v own is shut = record {
  sized = ap length is ∙ length-replicate v.limits.sessions [];
  fit = λ t below. subst (FitRecord v.limits.columns) (sym (ap (λ (ls : List (List Write)). get_or ls t []) is ∙ get_or-replicate v.limits.sessions t [] [] below)) (fit_none v.limits.columns);
  are = λ t below is_open. absurd (true≢false (sym is_open ∙ shut t below));
}

-- ---- the lines that make no write

lists_are : (s : ℕ) (c : CallValue) (r : Reply) (own : List (List Write)) → lists_after (Call s c) r own ≡ set own s (own_after None r (get_or own s []))
lists_are s c (reply.Begun time) own = refl
lists_are s c r own = sym (set-get_or own s [])

merger_learns : (v w : View) (range column : ℕ) (r : Reply) → MergeLeaves v w range column r → MergerLearns v w
merger_learns v w range column (reply.Merged tps) x = x.learns
merger_learns v w range column (reply.NothingNew tps) x = x.learns
merger_learns v w range column (reply.NoFrame session) x = x.learns
merger_learns v w range column r x = absurd x

module _ (v w : View) (own : List (List Write)) (same : w.limits ≡ v.limits) (are : AreOwn v own) where
  own_still : w ≡ v → AreOwn w own
  own_still e = subst (λ (u : View). AreOwn u own) (sym e) are

  pub own_on : (line : Line) (r : Reply) → ((s : ℕ) (c : CallValue) → line ≡ Call s c → s < v.limits.sessions) → MakesNone line → EachLineLeaves v w line r → AreOwn w (lists_after line r own)
  own_on Phase r low makes x = own_still x.1
  own_on (Merge range column) r low makes x = own_elsewhere v w own same (λ t below. (merger_learns v w range column r x).view.others t (λ e. omega (arith, below, e))) are
  own_on (Call s c) r low makes x =
      own_kept v w s None r own (lists_after (Call s c) r own) (low s c refl) same are (subst (λ (made : Option Write). Leaves v w s made r) makes (call_leaves v w s c r x)) tt (lists_are s c r own)

  call_looked : (s : ℕ) (c : CallValue) → CallLooks v w s c → AreOwn w own
  call_looked s call.Scan x = own_looked v w s own x.looks are
  call_looked s (call.Find column number) x = own_looked v w s own x.1.looks are
  call_looked s (call.Sum column) x = absurd x
  call_looked s call.Count x = absurd x
  call_looked s c x = own_still x

  -- where memory is wanting
  pub line_looked : (line : Line) → LineLooks v w line → AreOwn w own
  line_looked Phase x = own_still x
  line_looked (Merge range column) x = own_still x
  line_looked (Call s c) x = call_looked s c x
