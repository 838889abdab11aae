-- Accepted writes by session, number and key, one more line at a time.
use Rattle.std.proofs.Common.{◌≡◌, ◌↔◌, ℕ, ◌+◌, ◌<◌, Bool, true, false, not, ◌||◌, nat_lt, cond, eqb, List, [], ◌∷◌, ◌++◌, Option, refl, sym, ap, ◌∙◌, subst, arith, ⊎_elim, ◌⊎◌, inl, inr}
use Rattle.std.specs.Prelude.{IsSomeAnd, ◌&&◌, Some}
use Rattle.std.specs.List.{list_any}
use Rattle.std.proofs.lemmas.List.{append_assoc}
use Rattle.std.proofs.lemmas.Bool.{ne_eqb, eq-eqb, eqb-true, eqb-false}
use Rattle.std.proofs.lemmas.List.Folds.{list_any-append}
use Rattle.lst_model.specs.declared.lines.Line.TheVariants.{Call}
use Rattle.lst_model.specs.declared.lines.Call.{Call as CallKind}
use Rattle.lst_model.specs.declared.replies.Reply.TheVariants.{Done}
use Rattle.lst_replies.specs.Runs.{Answered, answered, is_by, may_take_latch}
use Rattle.lst_replies.specs.States.{state_of}
use Rattle.lst_replies.specs.Explained.{HasAccepted}
use Rattle.lst_legal_runs.specs.declared.marks.Marks.{Marks}
use Rattle.lst_legal_runs.specs.Marks.{number_at, are_same}
use Rattle.lst_legal_runs.specs.Conflicts.{AcceptsHere, IsAcceptedAt, AreAccepted, names_all, AreTakers, another_took, takes_latch}
use Rattle.lst_legal_runs.proofs.Splits.{split_push}

module _ (front : List Answered) (one : Answered) (session number key : ℕ) where
  has_before : HasAccepted front session number key → HasAccepted (front ++ one ∷ []) session number key
  has_before has = record {
    before = has.before;
    call = has.call;
    after = has.after ++ one ∷ [];
    place = ap (λ xs. xs ++ one ∷ []) has.place ∙ append_assoc has.before (answered (Call session has.call) Done ∷ has.after) (one ∷ []);
    on_key = has.on_key;
    transaction = has.transaction;
  }

  has_here : AcceptsHere front one session number key → HasAccepted (front ++ one ∷ []) session number key
  has_here here = record {
    before = front;
    call = here.call;
    after = [];
    place = ap (λ x. front ++ x ∷ []) here.is;
    on_key = here.on_key;
    transaction = here.transaction;
  }

  has_split : HasAccepted (front ++ one ∷ []) session number key → HasAccepted front session number key ⊎ AcceptsHere front one session number key
  has_split has = ⊎_elim
      (λ h. inr (record {
        call = has.call;
        is = sym h.1;
        on_key = has.on_key;
        transaction = subst (λ (b : List Answered). IsSomeAnd (state_of session b).current (λ transaction. transaction.number ≡ number)) h.0 has.transaction;
      }))
      (λ h. inl (record { before = has.before; call = has.call; after = h.0; place = h.1; on_key = has.on_key; transaction = has.transaction }))
      (split_push front one has.before (answered (Call session has.call) Done) has.after has.place)

pub accepted_push : (old new : Marks) (front : List Answered) (one : Answered) (found : Option (ℕ × ℕ × ℕ)) → IsAcceptedAt front one found → AreAccepted old front
    → ((session number key : ℕ) → number_at new session number key ≡ cond (names_all session number key found) 1 (number_at old session number key))
    → AreAccepted new (front ++ one ∷ [])
accepted_push old new front one found at are set = record { each = λ session number key. by_test session number key (names_all session number key found) refl }
  where
    by_test : (session number key : ℕ) (b : Bool) → names_all session number key found ≡ b → (0 < number_at new session number key) ↔ HasAccepted (front ++ one ∷ []) session number key
    by_test session number key true is =
        let now : number_at new session number key ≡ 1 = set session number key ∙ ap (λ (t : Bool). cond t 1 (number_at old session number key)) is in
        ((λ h. has_here front one session number key ((at session number key).0 is)), (λ h. omega (arith, now)))
    by_test session number key false is =
        let now : number_at new session number key ≡ number_at old session number key = set session number key ∙ ap (λ (t : Bool). cond t 1 (number_at old session number key)) is in (
          (λ h. has_before front one session number key ((are.each session number key).0 (subst (λ (n : ℕ). 0 < n) now h))),
          (λ h. ⊎_elim (λ had. subst (λ (n : ℕ). 0 < n) (sym now) ((are.each session number key).1 had)) (λ here. absurd (cc (is, (at session number key).1 here))) (has_split front one session number key h)),
        )

pub accepted_none : (marks : Marks) → ((a b c : ℕ) → number_at marks a b c ≡ 0) → AreAccepted marks []
accepted_none marks empty = record { each = λ session number key. ((λ h. absurd (omega (arith, empty session number key, h))), (λ has. absurd (nothing session has.before has.call has.after has.place))) }
  where
    nothing : (session : ℕ) (before : List Answered) (call : CallKind) (after : List Answered) → [] ≡ before ++ answered (Call session call) Done ∷ after → ⊥
    nothing session [] call after e = absurd (cc)
    nothing session (b ∷ before) call after e = absurd (cc)

pub took_none : (first other session : ℕ) → first ≡ 0 → another_took first other session ≡ false
took_none first other session none = ap (λ (n : ℕ). another_took n other session) none

pub took_same : (first other session : ℕ) → first ≡ session + 1 → another_took first other session ≡ nat_lt 0 other
took_same first other session same =
    ap (λ (n : ℕ). another_took n other session) same
    ∙ ap (λ (b : Bool). cond b false (not (eqb (session + 1) (session + 1)) || nat_lt 0 other)) (ne_eqb (session + 1) 0 (λ e. absurd (omega arith)))
    ∙ ap (λ (b : Bool). not b || nat_lt 0 other) (eq-eqb (session + 1) (session + 1) refl)

-- ---- takers of latches, one more line at a time

took_other : (first other session : ℕ) → ¬ (first ≡ 0) → ¬ (first ≡ session + 1) → another_took first other session ≡ true
took_other first other session some else =
    ap (λ (b : Bool). cond b false (not (eqb first (session + 1)) || nat_lt 0 other)) (ne_eqb first 0 some)
    ∙ ap (λ (b : Bool). not b || nat_lt 0 other) (ne_eqb first (session + 1) else)

or_true : (b : Bool) → (b || true) ≡ true
or_true true = refl
or_true false = refl

or_left : (b : Bool) → (b || (false || false)) ≡ b
or_left true = refl
or_left false = refl

or_right : (b : Bool) → (b || (true || false)) ≡ true
or_right true = refl
or_right false = refl

took_marked : (first session : ℕ) → ¬ (first ≡ 0) → another_took first 1 session ≡ true
took_marked first session some =
    ap (λ (b : Bool). cond b false (not (eqb first (session + 1)) || nat_lt 0 1)) (ne_eqb first 0 some)
    ∙ or_true (not (eqb first (session + 1)))

pub takers_none : (marks : Marks) → ((a b c : ℕ) → number_at marks a b c ≡ 0) → AreTakers marks []
takers_none marks empty = record { others = λ key session. sym (took_none (number_at marks key 0 0) (number_at marks key 1 0) session (empty key 0 0)); none = λ key e. empty key 1 0 }

-- a line that takes no latch
pub takers_stay : (marks : Marks) (front : List Answered) (one : Answered) → ((session key : ℕ) → (not (is_by session one) && may_take_latch key one) ≡ false) → AreTakers marks front → AreTakers marks (front ++ one ∷ [])
takers_stay marks front one takes are = record {
  others = λ key session.
      let test : Answered → Bool = λ (o : Answered). not (is_by session o) && may_take_latch key o in
      list_any-append test front (one ∷ []) ∙ ap (λ (b : Bool). list_any test front || (b || false)) (takes session key) ∙ or_left (list_any test front) ∙ are.others key session;
  none = are.none;
}

-- a line of this session that may take the latch of this key
module _ (old new : Marks) (front : List Answered) (one : Answered) (taker key : ℕ) (takes : (session k : ℕ) → (not (is_by session one) && may_take_latch k one) ≡ takes_latch session k (Some (taker, key))) (are : AreTakers old front) where
  pub takers_push : ((k : ℕ) → ¬ (key ≡ k) → (number_at new k 0 0 ≡ number_at old k 0 0) × (number_at new k 1 0 ≡ number_at old k 1 0))
      → ¬ (number_at new key 0 0 ≡ 0)
      → ((session : ℕ) → taker ≡ session → another_took (number_at old key 0 0) (number_at old key 1 0) session ≡ another_took (number_at new key 0 0) (number_at new key 1 0) session)
      → ((session : ℕ) → ¬ (taker ≡ session) → another_took (number_at new key 0 0) (number_at new key 1 0) session ≡ true)
      → AreTakers new (front ++ one ∷ [])
  takers_push kept some own other = record { others = λ k session. by_key k session (eqb key k) refl; none = λ k. none_of k (eqb key k) refl }
    where
      split : (k session : ℕ) → list_any (λ o. not (is_by session o) && may_take_latch k o) (front ++ one ∷ []) ≡ (another_took (number_at old k 0 0) (number_at old k 1 0) session || ((not (eqb taker session) && eqb key k) || false))
      split k session =
          let test : Answered → Bool = λ (o : Answered). not (is_by session o) && may_take_latch k o in
          list_any-append test front (one ∷ []) ∙ ap (λ (b : Bool). list_any test front || (b || false)) (takes session k) ∙ ap (λ (b : Bool). b || ((not (eqb taker session) && eqb key k) || false)) (are.others k session)

      and_false : (b : Bool) → (b && false) ≡ false
      and_false true = refl
      and_false false = refl

      at_key : (session : ℕ) (b : Bool) → eqb taker session ≡ b → (another_took (number_at old key 0 0) (number_at old key 1 0) session || ((not (eqb taker session) && true) || false)) ≡ another_took (number_at new key 0 0) (number_at new key 1 0) session
      at_key session true e = ap (λ (b : Bool). another_took (number_at old key 0 0) (number_at old key 1 0) session || ((not b && true) || false)) e ∙ or_left (another_took (number_at old key 0 0) (number_at old key 1 0) session) ∙ own session (eqb-true taker session e)
      at_key session false e = ap (λ (b : Bool). another_took (number_at old key 0 0) (number_at old key 1 0) session || ((not b && true) || false)) e ∙ or_right (another_took (number_at old key 0 0) (number_at old key 1 0) session) ∙ sym (other session (eqb-false taker session e))

      by_key : (k session : ℕ) (b : Bool) → eqb key k ≡ b → list_any (λ o. not (is_by session o) && may_take_latch k o) (front ++ one ∷ []) ≡ another_took (number_at new k 0 0) (number_at new k 1 0) session
      by_key k session true e =
          split k session ∙ ap (λ (b : Bool). another_took (number_at old k 0 0) (number_at old k 1 0) session || ((not (eqb taker session) && b) || false)) e
          ∙ subst (λ (q : ℕ). (another_took (number_at old q 0 0) (number_at old q 1 0) session || ((not (eqb taker session) && true) || false)) ≡ another_took (number_at new q 0 0) (number_at new q 1 0) session) (eqb-true key k e) (at_key session (eqb taker session) refl)
      by_key k session false e =
          let same = kept k (eqb-false key k e) in
          split k session ∙ ap (λ (b : Bool). another_took (number_at old k 0 0) (number_at old k 1 0) session || ((not (eqb taker session) && b) || false)) e
          ∙ ap (λ (b : Bool). another_took (number_at old k 0 0) (number_at old k 1 0) session || (b || false)) (and_false (not (eqb taker session)))
          ∙ or_left (another_took (number_at old k 0 0) (number_at old k 1 0) session)
          ∙ ap (λ (n : ℕ). another_took n (number_at old k 1 0) session) (sym same.0) ∙ ap (λ (n : ℕ). another_took (number_at new k 0 0) n session) (sym same.1)

      none_of : (k : ℕ) (b : Bool) → eqb key k ≡ b → number_at new k 0 0 ≡ 0 → number_at new k 1 0 ≡ 0
      none_of k true e zero = absurd (some (subst (λ (q : ℕ). number_at new q 0 0 ≡ 0) (sym (eqb-true key k e)) zero))
      none_of k false e zero = let same = kept k (eqb-false key k e) in same.1 ∙ are.none k (sym same.0 ∙ zero)

  -- the numbers of the key and of the others, where one of its numbers is set
  at_set : (second number : ℕ) → ((a b c : ℕ) → number_at new a b c ≡ cond (are_same key second 0 a b c) number (number_at old a b c)) → number_at new key second 0 ≡ number
  at_set second number set = set key second 0 ∙ ap (λ (b : Bool). cond ((b && eqb second second) && true) number (number_at old key second 0)) (eq-eqb key key refl) ∙ ap (λ (b : Bool). cond (b && true) number (number_at old key second 0)) (eq-eqb second second refl)

  at_others : (second number : ℕ) → ((a b c : ℕ) → number_at new a b c ≡ cond (are_same key second 0 a b c) number (number_at old a b c)) → (k at : ℕ) → ¬ (key ≡ k) → number_at new k at 0 ≡ number_at old k at 0
  at_others second number set k at differs = set k at 0 ∙ ap (λ (b : Bool). cond ((b && eqb second at) && true) number (number_at old k at 0)) (ne_eqb key k differs)

  pub takers_first : number_at old key 0 0 ≡ 0 → ((a b c : ℕ) → number_at new a b c ≡ cond (are_same key 0 0 a b c) (taker + 1) (number_at old a b c)) → AreTakers new (front ++ one ∷ [])
  takers_first zero set =
      let first : number_at new key 0 0 ≡ taker + 1 = at_set 0 (taker + 1) set in
      let second : number_at new key 1 0 ≡ 0 = set key 1 0 ∙ ap (λ (b : Bool). cond ((b && false) && true) (taker + 1) (number_at old key 1 0)) (eq-eqb key key refl) ∙ are.none key zero in
      takers_push
      (λ k differs. (at_others 0 (taker + 1) set k 0 differs, at_others 0 (taker + 1) set k 1 differs))
      (λ e. absurd (omega (arith, e, first)))
      (λ session is. took_none (number_at old key 0 0) (number_at old key 1 0) session zero ∙ ap (nat_lt 0) (sym second) ∙ sym (took_same (number_at new key 0 0) (number_at new key 1 0) session (first ∙ ap (λ (n : ℕ). n + 1) is)))
      (λ session differs. took_other (number_at new key 0 0) (number_at new key 1 0) session (λ e. absurd (omega (arith, e, first))) (λ e. absurd (differs (omega (arith, e, first)))))

  pub takers_again : ¬ (number_at old key 0 0 ≡ 0) → ¬ (number_at old key 0 0 ≡ taker + 1) → ((a b c : ℕ) → number_at new a b c ≡ cond (are_same key 1 0 a b c) 1 (number_at old a b c)) → AreTakers new (front ++ one ∷ [])
  takers_again some another set =
      let first : number_at new key 0 0 ≡ number_at old key 0 0 = set key 0 0 ∙ ap (λ (b : Bool). cond ((b && false) && true) 1 (number_at old key 0 0)) (eq-eqb key key refl) in
      let second : number_at new key 1 0 ≡ 1 = at_set 1 1 set in
      let marked : (session : ℕ) → another_took (number_at new key 0 0) (number_at new key 1 0) session ≡ true = λ session. ap (λ (n : ℕ). another_took (number_at new key 0 0) n session) second ∙ took_marked (number_at new key 0 0) session (λ e. some (sym first ∙ e)) in
      takers_push
      (λ k differs. (at_others 1 1 set k 0 differs, at_others 1 1 set k 1 differs))
      (λ e. some (sym first ∙ e))
      (λ session is. took_other (number_at old key 0 0) (number_at old key 1 0) session some (λ e. another (e ∙ ap (λ (n : ℕ). n + 1) (sym is))) ∙ sym (marked session))
      (λ session differs. marked session)

  pub takers_same : number_at old key 0 0 ≡ taker + 1 → new ≡ old → AreTakers new (front ++ one ∷ [])
  takers_same first is =
      let now : number_at new key 0 0 ≡ taker + 1 = ap (λ (m : Marks). number_at m key 0 0) is ∙ first in
      takers_push
      (λ k differs. (ap (λ (m : Marks). number_at m k 0 0) is, ap (λ (m : Marks). number_at m k 1 0) is))
      (λ e. absurd (omega (arith, e, now)))
      (λ session same. ap (λ (m : Marks). another_took (number_at m key 0 0) (number_at m key 1 0) session) (sym is))
      (λ session differs. took_other (number_at new key 0 0) (number_at new key 1 0) session (λ e. absurd (omega (arith, e, now))) (λ e. absurd (differs (omega (arith, e, now)))))
