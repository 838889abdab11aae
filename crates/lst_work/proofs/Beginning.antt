-- Lines that begin a transaction.
use Rattle.std.proofs.Common.{◌≡◌, ℕ, ◌<◌, [], ◌∷◌, Bool, true, false, cond, nat_le, Some, None, refl, sym, subst, arith, inl, leb-true}
use Rattle.lst_model.specs.declared.lines.Call.TheVariants.{Begin, AsOf}
use Rattle.lst_model.specs.declared.replies.Reply.TheVariants.{Begun, Refused}
use Rattle.lst_model.specs.declared.replies.Cause.TheVariants as cause
use Rattle.lst_machine.specs.Calls.{first_of, where_true}
use Rattle.lst_rule.specs.declared.view.View.{View}
use Rattle.lst_rule.specs.Rule.{knows}
use Rattle.lst_session.specs.Calls.{Begins, IsAhead}
use Rattle.lst_replies.specs.declared.states.SessionState.{SessionState}
use Rattle.lst_replies.specs.States.{with_begun}
use Rattle.lst_replies.specs.Explained.{begin_cause}
use Rattle.lst_work_laws.specs.Lines.{session_told, Tells, AfterLine}
use Rattle.lst_work_laws.proofs.Telling.{closed_told, later_length}
use Rattle.lst_work.proofs.Refusing.{not_true, refused, kept_drawn}

module _ (v w : View) (s : ℕ) where
  -- one more may begin
  may_begin : (knows v s).number < v.limits.txns → None ≡ begin_cause v.limits (record { begun = (knows v s).number; current = None })
  may_begin few = sym (λ i. first_of (None ∷ where_true (not_true (nat_le v.limits.txns (knows v s).number) (λ e. let h = leb-true v.limits.txns (knows v s).number e in absurd (omega arith)) i) cause.Spent ∷ []))

  begun_state : (clock b : ℕ) (read_only : Bool) → Begins v w s clock b read_only → session_told (knows w s) ≡ with_begun b read_only (session_told (knows v s))
  begun_state clock b read_only x = λ i. record {
    begun = x.begun.number i;
    current = cond (x.begun.is_open i) (Some (record { number = x.begun.number i; begin = x.begun.begin_is i; read_only = x.begun.kind i; writes = x.own i })) None;
  }

  module _ (closed : (knows v s).is_open ≡ false) (few : (knows v s).number < v.limits.txns) where
    pub begun_now : (b : ℕ) → Begins v w s b b false → AfterLine s Begin (Begun b) v w
    begun_now b x = record {
      called = x.called;
      kind = refl;
      tells = λ floor history low e. subst (λ (st : SessionState). Tells v.limits history floor st Begin (Begun b)) (sym (closed_told (knows v s) closed)) record {
        times = ((let least = x.least in omega arith), (let h = later_length history (knows w s).seen e in let seen = x.seen in omega arith));
        reads = record { sight = tt; index = refl };
        refusals = record { refusal = may_begin few; end = tt };
        writes = tt;
      };
      told = (let seen = x.seen in omega arith);
      state = begun_state b b false x;
      commits = x.mine;
      writes = x.lists.done;
      drawn = kept_drawn v w s x.lists Begin (Begun b);
      latched = inl x.lists.latched;
      pins = x.pins;
      found = tt;
    }

    pub begun_then : (clock time : ℕ) → Begins v w s clock time true → AfterLine s (AsOf time) (Begun time) v w
    begun_then clock time x = record {
      called = x.called;
      kind = refl;
      tells = λ floor history low e. subst (λ (st : SessionState). Tells v.limits history floor st (AsOf time) (Begun time)) (sym (closed_told (knows v s) closed)) record {
        times = (refl, (let h = later_length history (knows w s).seen e in let seen = x.seen in let early = x.early in omega arith));
        reads = record { sight = tt; index = refl };
        refusals = record { refusal = may_begin few; end = tt };
        writes = tt;
      };
      told = (let seen = x.seen in let early = x.early in omega arith);
      state = begun_state clock time true x;
      commits = x.mine;
      writes = x.lists.done;
      drawn = kept_drawn v w s x.lists (AsOf time) (Begun time);
      latched = inl x.lists.latched;
      pins = x.pins;
      found = tt;
    }

    pub ahead : (clock time : ℕ) → IsAhead v w s clock time → AfterLine s (AsOf time) (Refused (cause.Future clock)) v w
    ahead clock time x = refused v w s x.called x.same x.lists x.pins.pins (AsOf time) (cause.Future clock) refl
        (λ floor history low e. subst (λ (st : SessionState). Tells v.limits history floor st (AsOf time) (Refused (cause.Future clock))) (sym (closed_told (knows v s) closed)) record {
          times = ((let least = x.least in omega arith), (let h = later_length history (knows w s).seen e in let seen = x.seen in omega arith), x.below);
          reads = record { sight = tt; index = refl };
          refusals = record { refusal = may_begin few; end = tt };
          writes = tt;
        })
        (let seen = x.seen in omega arith)
        (λ key. tt)
