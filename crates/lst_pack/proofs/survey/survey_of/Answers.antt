use Rattle.lst_pack.proofs.Counting.{known_least, known_greatest}
use Rattle.lst_pack.proofs.survey.survey_of.Goals as goal

pub returns-then-distinct-le16-clause-least : goal.returns-then-distinct-le16-clause-least
returns-then-distinct-le16-clause-least c = known_least c.args.values.now c.note-distinct.new.known c.note-distinct.result c.note-distinct.ensures c.if-distinct-le16.true

pub returns-then-distinct-le16-clause-greatest : goal.returns-then-distinct-le16-clause-greatest
returns-then-distinct-le16-clause-greatest c = known_greatest c.args.values.now c.note-distinct.new.known c.note-distinct.result c.note-distinct.ensures c.if-distinct-le16.true
