use Rattle.std.proofs.Common.{◌≡◌, List, ℕ, ◌++◌, ◌∷◌, codes, decimal, drop, sym, ap, ◌∙◌, append_assoc}
use Rattle.lst_model.specs.declared.replies.Cause.{Cause}
use Rattle.lst_replies.specs.Texts.{cause_words, cause_numbers}
use Rattle.lst_replies.proofs.backward.write_cause.Goals as goal

as_cause : (cause same : Cause) (rest text : List ℕ) → cause ≡ same → text ≡ (cause_words same ++ cause_numbers same) ++ rest → text ≡ (cause_words cause ++ cause_numbers cause) ++ rest
as_cause cause same rest text e written = written ∙ sym (ap (λ (c : Cause). (cause_words c ++ cause_numbers c) ++ rest) e)

pub returns-in-Idle-clause-written : goal.returns-in-Idle-clause-written
returns-in-Idle-clause-written c = as_cause _ _ (drop c.args.end c.args.buffer.now) _ c.in-Idle.is c.write_word.ensures.written

pub returns-in-Active-clause-written : goal.returns-in-Active-clause-written
returns-in-Active-clause-written c = as_cause _ _ (drop c.args.end c.args.buffer.now) _ c.in-Active.is c.write_word-in-Active.ensures.written

pub returns-in-ReadOnly-clause-written : goal.returns-in-ReadOnly-clause-written
returns-in-ReadOnly-clause-written c = as_cause _ _ (drop c.args.end c.args.buffer.now) _ c.in-ReadOnly.is c.write_word-in-ReadOnly.ensures.written

pub returns-in-Spent-clause-written : goal.returns-in-Spent-clause-written
returns-in-Spent-clause-written c = as_cause _ _ (drop c.args.end c.args.buffer.now) _ c.in-Spent.is c.write_word-in-Spent.ensures.written

pub returns-in-Future-clause-written : goal.returns-in-Future-clause-written
returns-in-Future-clause-written c = as_cause _ _ (drop c.args.end c.args.buffer.now) _ c.in-Future.is c.write_numbered.ensures.written

pub returns-in-Missing-clause-written : goal.returns-in-Missing-clause-written
returns-in-Missing-clause-written c = as_cause _ _ (drop c.args.end c.args.buffer.now) _ c.in-Missing.is c.write_word-in-Missing.ensures.written

pub returns-in-Exists-clause-written : goal.returns-in-Exists-clause-written
returns-in-Exists-clause-written c = as_cause _ _ (drop c.args.end c.args.buffer.now) _ c.in-Exists.is c.write_word-in-Exists.ensures.written

pub returns-in-TableFull-clause-written : goal.returns-in-TableFull-clause-written
returns-in-TableFull-clause-written c = as_cause _ _ (drop c.args.end c.args.buffer.now) _ c.in-TableFull.is c.write_word-in-TableFull.ensures.written

pub returns-in-Latched-clause-written : goal.returns-in-Latched-clause-written
returns-in-Latched-clause-written c = as_cause _ _ (drop c.args.end c.args.buffer.now) _ c.in-Latched.is c.write_word-in-Latched.ensures.written

pub returns-in-Newer-clause-written : goal.returns-in-Newer-clause-written
returns-in-Newer-clause-written c = as_cause _ _ (drop c.args.end c.args.buffer.now) _ c.in-Newer.is c.write_numbered-in-Newer.ensures.written

pub returns-in-Unfinished-clause-written : goal.returns-in-Unfinished-clause-written
returns-in-Unfinished-clause-written c = as_cause _ _ (drop c.args.end c.args.buffer.now) _ c.in-Unfinished.is (c.write_unfinished.ensures.written ∙ ap (λ rest. codes "conflict open " ++ rest) (sym (append_assoc (decimal c.in-Unfinished.session) (32 ∷ decimal c.in-Unfinished.number) (drop c.args.end c.args.buffer.now))))

pub returns-in-TailFull-clause-written : goal.returns-in-TailFull-clause-written
returns-in-TailFull-clause-written c = as_cause _ _ (drop c.args.end c.args.buffer.now) _ c.in-TailFull.is c.write_word-in-TailFull.ensures.written

pub returns-in-NotIndexed-clause-written : goal.returns-in-NotIndexed-clause-written
returns-in-NotIndexed-clause-written c = as_cause _ _ (drop c.args.end c.args.buffer.now) _ c.in-NotIndexed.is c.write_word-in-NotIndexed.ensures.written

pub returns-in-Stale-clause-written : goal.returns-in-Stale-clause-written
returns-in-Stale-clause-written c = as_cause _ _ (drop c.args.end c.args.buffer.now) _ c.in-Stale.is c.write_numbered-in-Stale.ensures.written
