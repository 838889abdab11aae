-- What holds at each place of a run, and of each reply of a report.
use Rattle.std.proofs.Common.{◌≡◌, ℕ, ◌+◌, ◌≤◌, Bool, true, false, ◌||◌, List, [], ◌∷◌, ◌++◌, length, Option, Some, None, refl, sym, ap, subst, arith}
use Rattle.std.specs.List.{AllByRecursion, list_any}
use Rattle.lst_model.specs.declared.lines.Line.{Line}
use Rattle.lst_model.specs.declared.lines.Line.TheVariants.{Phase, Merge, Call}
use Rattle.lst_model.specs.declared.replies.Reply.{Reply}
use Rattle.lst_model.specs.declared.replies.Reply.TheVariants.{Silent}
use Rattle.lst_replies.specs.Runs.{Answered, run_of}
use Rattle.lst_replies.specs.ReplyKinds.{HaveReplyShape, can_answer, can_answer_merge}

-- ---- places

abbrev pub IsAt : List Answered → List Answered → Answered → List Answered → Type 0
IsAt run before one after = run ≡ before ++ one ∷ after

-- what holds at each place holds of each line with its reply
pub each_place : (P : Answered → Type 0) (run : List Answered) → ((before : List Answered) (one : Answered) (after : List Answered) → IsAt run before one after → P one) → AllByRecursion P run
each_place P [] holds = tt
each_place P (one ∷ run) holds = (holds [] one run refl, each_place P run (λ before other after at. holds (one ∷ before) other after (ap (λ (rest : List Answered). one ∷ rest) at)))

-- what holds of each holds in front of a place, and there
pub in_front : (P : Answered → Type 0) (before : List Answered) (one : Answered) (after run : List Answered) → IsAt run before one after → AllByRecursion P run → AllByRecursion P before × P one
in_front P before one after run at all = parts before (subst (AllByRecursion P) at all)
  where
    parts : (front : List Answered) → AllByRecursion P (front ++ one ∷ after) → AllByRecursion P front × P one
    parts [] all = (tt, all.0)
    parts (first ∷ front) all =
        let rest = parts front all.1 in
        ((all.0, rest.0), rest.1)

-- ---- lines and replies

-- what holds of each line of a script holds of each line of a run
pub run_lines : (P : Line → Type 0) (lines : List Line) (replies : List (Option ℕ × Reply)) → AllByRecursion P lines → AllByRecursion (λ one. P one.line) (run_of lines replies)
run_lines P [] replies all = tt
run_lines P (Phase ∷ lines) replies all = (all.0, run_lines P lines replies all.1)
run_lines P (Merge range column ∷ lines) [] all = tt
run_lines P (Merge range column ∷ lines) (reply ∷ replies) all = (all.0, run_lines P lines replies all.1)
run_lines P (Call session call ∷ lines) [] all = tt
run_lines P (Call session call ∷ lines) (reply ∷ replies) all = (all.0, run_lines P lines replies all.1)

-- a run is no longer than its script
pub run_short : (lines : List Line) (replies : List (Option ℕ × Reply)) → length (run_of lines replies) ≤ length lines
run_short [] replies = omega arith
run_short (Phase ∷ lines) replies = omega (arith, run_short lines replies)
run_short (Merge range column ∷ lines) [] = omega arith
run_short (Merge range column ∷ lines) (reply ∷ replies) = omega (arith, run_short lines replies)
run_short (Call session call ∷ lines) [] = omega arith
run_short (Call session call ∷ lines) (reply ∷ replies) = omega (arith, run_short lines replies)

-- each reply of a run is of its line's kind
abbrev pub HasKind : Line → Reply → Type 0
HasKind Phase reply = reply ≡ Silent
HasKind (Merge range column) reply = can_answer_merge reply ≡ true
HasKind (Call session call) reply = can_answer call reply ≡ true

pub run_kinds : (lines : List Line) (replies : List (Option ℕ × Reply)) → HaveReplyShape lines replies → AllByRecursion (λ one. HasKind one.line one.reply) (run_of lines replies)
run_kinds [] replies shape = tt
run_kinds (Phase ∷ lines) replies shape = (refl, run_kinds lines replies shape)
run_kinds (Merge range column ∷ lines) [] shape = tt
run_kinds (Merge range column ∷ lines) (reply ∷ replies) shape = (shape.0.kind, run_kinds lines replies shape.1)
run_kinds (Call session call ∷ lines) [] shape = tt
run_kinds (Call session call ∷ lines) (reply ∷ replies) shape = (shape.0.kind, run_kinds lines replies shape.1)

-- what holds of each reply to a merge and to a call of a run holds of each reply of the report
module _ (P : Option ℕ × Reply → Type 0) where
  abbrev pub IsReplied : Line → Reply → Type 0
  IsReplied Phase reply = Unit {0}
  IsReplied (Merge range column) reply = P (None, reply)
  IsReplied (Call session call) reply = P (Some session, reply)

  told_by : (speaker : Option ℕ) (reply : Option ℕ × Reply) → reply.0 ≡ speaker → P (speaker, reply.1) → P reply
  told_by speaker reply same holds = subst (λ (who : Option ℕ). P (who, reply.1)) (sym same) holds

  pub each_reply : (lines : List Line) (replies : List (Option ℕ × Reply)) → HaveReplyShape lines replies → AllByRecursion (λ one. IsReplied one.line one.reply) (run_of lines replies) → AllByRecursion P replies
  each_reply [] [] shape all = tt
  each_reply [] (reply ∷ replies) shape all = absurd shape
  each_reply (Phase ∷ lines) replies shape all = each_reply lines replies shape all.1
  each_reply (Merge range column ∷ lines) [] shape all = absurd shape
  each_reply (Merge range column ∷ lines) (reply ∷ replies) shape all = (told_by None reply shape.0.session all.0, each_reply lines replies shape.1 all.1)
  each_reply (Call session call ∷ lines) [] shape all = absurd shape
  each_reply (Call session call ∷ lines) (reply ∷ replies) shape all = (told_by (Some session) reply shape.0.session all.0, each_reply lines replies shape.1 all.1)

-- ---- some place of a run

-- a place whose line passes a test
pub record HasPlace (test : Answered → Bool) (run : List Answered) : Type 0 where
  pub before : List Answered
  pub one : Answered
  pub after : List Answered
  pub at : IsAt run before one after
  pub passes : test one ≡ true

pub any_place : (test : Answered → Bool) (run : List Answered) → list_any test run ≡ true → HasPlace test run
any_place test [] is = absurd (cc)
any_place test (one ∷ run) is = by (test one) refl is (any_place test run)
  where
    by : (here : Bool) → test one ≡ here → (here || list_any test run) ≡ true → (list_any test run ≡ true → HasPlace test run) → HasPlace test (one ∷ run)
    by true passes is later = record { before = []; one = one; after = run; at = refl; passes = passes }
    by false fails is later =
        let found = later is in
        record { before = one ∷ found.before; one = found.one; after = found.after; at = ap (λ (rest : List Answered). one ∷ rest) found.at; passes = found.passes }
