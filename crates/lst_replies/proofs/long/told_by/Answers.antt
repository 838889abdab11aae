use Rattle.std.proofs.Common.{sym, ◌∙◌}
use Rattle.lst_replies.specs.Reading.{texts}
use Rattle.lst_replies.proofs.Told.{told_merge, told_whole, told_by_none, told_nothing}
use Rattle.lst_replies.proofs.long.told_by.Goals as goal

pub returns-in-Some : goal.returns-in-Some
returns-in-Some c = sym (told_merge c.args.columns (texts c.args.words.now) c.in-Some.reply (sym c.merge_reply.ensures ∙ c.in-Some.is))

pub returns-in_default-read_u32 : goal.returns-in_default-read_u32
returns-in_default-read_u32 c =
    sym (told_by_none c.args.columns c.args.words.now _ _ c.in-Some-split_first.ensures.cases.0 (sym c.merge_reply.ensures ∙ c.in_default.is) (sym c.read_u32.ensures ∙ c.in_default-read_u32.is))

pub returns-in-Some-2 : goal.returns-in-Some-2
returns-in-Some-2 c =
    sym (told_whole c.args.columns c.args.words.now _ _ c.in-Some-split_first.ensures.cases.0 (sym c.merge_reply.ensures ∙ c.in_default.is) c.in-Some-read_u32.session c.in-Some-2.reply
    (sym c.read_u32.ensures ∙ c.in-Some-read_u32.is) (sym c.in_ok-reply.ensures ∙ c.in-Some-2.is))

pub returns-in-None : goal.returns-in-None
returns-in-None c =
    sym (told_nothing c.args.columns c.args.words.now _ _ c.in-Some-split_first.ensures.cases.0 (sym c.merge_reply.ensures ∙ c.in_default.is) c.in-Some-read_u32.session
    (sym c.read_u32.ensures ∙ c.in-Some-read_u32.is) (sym c.in_ok-reply.ensures ∙ c.in-None.is))
