use Rattle.std.proofs.Common.{◌≡◌, ℕ, List, [], length, get_or, set, sym, subst, arith, get_or-set_same}
use Rattle.lst_model.specs.declared.acts.Write.{Write}
use Rattle.lst_model.specs.Histories.{StandByKey, Joins, joined}
use Rattle.lst_test_journal.proofs.own_tests.join.Goals as goal

stands : (old new : List (List Write)) (write : Write) → length old ≡ 2 → StandByKey (get_or old 1 []) → ((ws : List Write) (w : Write) → Joins ws w) → new ≡ set old 1 (joined (get_or old 1 []) write) → StandByKey (get_or new 1 [])
stands old new write two order joins is =
    subst (λ (own : List (List Write)). StandByKey (get_or own 1 [])) (sym is)
    (subst (λ (ws : List Write). StandByKey ws) (sym (get_or-set_same old 1 (joined (get_or old 1 []) write) [] (omega (arith, two)))) ((joins (get_or old 1 []) write).order order))

pub returns-clause-order : goal.returns-clause-order
returns-clause-order c = stands c.args.own.now c.join.new.self _ c.requires.two c.requires.order c.joined_write_is_last.ensures c.in_ok-join.ensures.joined
