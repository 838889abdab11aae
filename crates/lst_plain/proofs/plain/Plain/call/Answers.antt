use Rattle.lst_plain.specs.LineageOf.{lineage_of}
use Rattle.lst_plain.specs.EngineOf.{engine_of}
use Rattle.lst_plain.proofs.Joined.{call_told}
use Rattle.lst_plain.proofs.plain.Plain.call.Goals as goal

pub returns-clause-ok : goal.returns-clause-ok
returns-clause-ok c = λ limits state told.
    call_told (engine_of c.args.self.now.engine) (engine_of c.call.new.self) (lineage_of c.args.self.now.lineage) limits state c.call.new.self.whole c.args.self.now.wide told
    c.args.session c.requires.within c.args.call.now c.in_ok-reply.reply (c.in_ok-reply.ensures.ok limits state.store told.store)
    c.newest_tail-newest.result c.newest_tail-newest.ensures (lineage_of c.follow.new.self) c.follow.ensures
