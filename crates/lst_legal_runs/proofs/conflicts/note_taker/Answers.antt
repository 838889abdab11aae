use Rattle.std.proofs.Common.{◌∙◌, ℕ, ◌+◌, cond, sym, ap, refl}
use Rattle.lst_replies.specs.Seen.{seen}
use Rattle.lst_legal_runs.specs.Marks.{number_at, are_same}
use Rattle.lst_legal_runs.specs.Conflicts.{takes_latch}
use Rattle.lst_legal_runs.proofs.Accepting.{takers_stay, takers_first, takers_again, takers_same}
use Rattle.lst_legal_runs.proofs.conflicts.note_taker.Goals as goal

pub returns-in_default : goal.returns-in_default
returns-in_default c = λ front are.
    takers_stay c.args.marks.now front (seen c.args.answer.now) (λ session key. c.taker.ensures session key ∙ ap (takes_latch session key) c.in_default.is) are

pub returns-in_ok-set : goal.returns-in_ok-set
returns-in_ok-set c = λ front are.
    takers_first c.args.marks.now c.set.new.self front (seen c.args.answer.now) c.in-Some.session c.in-Some.key
    (λ session key. c.taker.ensures session key ∙ ap (takes_latch session key) c.in-Some.is) are
    (sym c.number-first.ensures ∙ c.if-first-eq0.true)
    (λ x y z. c.in_ok-set.ensures x y z ∙ ap (λ (n : ℕ). cond (are_same c.in-Some.key 0 0 x y z) (n + 1) (number_at c.args.marks.now x y z)) c.from-taker.ensures)

pub returns-in_ok-set-2 : goal.returns-in_ok-set-2
returns-in_ok-set-2 c = λ front are.
    takers_again c.args.marks.now c.set-then-first-taker.new.self front (seen c.args.answer.now) c.in-Some.session c.in-Some.key
    (λ session key. c.taker.ensures session key ∙ ap (takes_latch session key) c.in-Some.is) are
    (λ e. c.if-first-eq0.false (c.number-first.ensures ∙ e))
    (λ e. c.if-first-taker.true (c.number-first.ensures ∙ e ∙ ap (λ (n : ℕ). n + 1) (sym c.from-taker.ensures)))
    c.in_ok-set-2.ensures

pub returns-else-first-taker : goal.returns-else-first-taker
returns-else-first-taker c = λ front are.
    takers_same c.args.marks.now c.args.marks.now front (seen c.args.answer.now) c.in-Some.session c.in-Some.key
    (λ session key. c.taker.ensures session key ∙ ap (takes_latch session key) c.in-Some.is) are
    (sym c.number-first.ensures ∙ c.if-first-taker.false ∙ ap (λ (n : ℕ). n + 1) c.from-taker.ensures) refl
