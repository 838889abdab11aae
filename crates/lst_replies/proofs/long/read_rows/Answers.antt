use Rattle.std.proofs.Common.{sym, ◌∙◌}
use Rattle.lst_replies.specs.Reading.{entry_of}
use Rattle.lst_replies.proofs.Sequences.{reads_first, reads_more, reads_none, reads_all}
use Rattle.lst_replies.proofs.long.read_rows.Goals as goal

pub loop-word-init : goal.loop-word-init
loop-word-init c = rw c.new-rows.ensures (reads_first (entry_of c.args.columns) c.args.words.now)

pub returns-in_default : goal.returns-in_default
returns-in_default c = sym (reads_none (entry_of c.args.columns) c.args.words.now c.loop-word.rows c.loop-word.word-index _ c.loop-word-test.true (sym c.in_ok-key.ensures ∙ c.in_default.is) c.loop-word.invariant)

pub loop-word-preserved : goal.loop-word-preserved
loop-word-preserved c =
    rw c.in_ok-push.ensures.ok (reads_more (entry_of c.args.columns) c.args.words.now c.loop-word.rows c.loop-word.word-index _ (c.in-Some.key, c.in-Some.row) c.loop-word-test.true (sym c.in_ok-key.ensures ∙ c.in-Some.is) c.loop-word.invariant)

pub returns : goal.returns
returns c = sym (reads_all (entry_of c.args.columns) c.args.words.now c.loop-word.rows c.loop-word.word-index c.loop-word-test.false c.loop-word.invariant)
