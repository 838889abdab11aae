use Rattle.std.proofs.Common.{sym, subst, ◌∙◌}
use Rattle.lst_layout.specs.declared.limits.Limits.{Limits}
use Rattle.lst_layout.specs.declared.place.Place.TheVariants.{BeginWord}
use Rattle.lst_layout.specs.Addresses as layout
use Rattle.lst_bits.specs.Logs.{IsLogWord}
use Rattle.lst_history.proofs.Looks.{reads_on}
use Rattle.lst_history.proofs.Naming.{log_image, log_by}
use Rattle.lst_history.proofs.commits.bare_commit.Goals as goal

pub unpack_log-requires : goal.unpack_log-requires
unpack_log-requires c = subst IsLogWord (sym c.log_word.ensures.word) (log_image c.args.seat.now.view c.consider.ensures c.requires.reader.whole c.args.time c.requires.time.0 c.requires.time.1)

pub begin_of-requires-clause-within : goal.begin_of-requires-clause-within
begin_of-requires-clause-within c = subst (λ (l : Limits). layout.IsWithin l (BeginWord c.in-By.session c.in-By.number)) (sym c.log_word.ensures.reads.limits)
    (log_by c.args.seat.now.view c.consider.ensures c.requires.reader.whole c.args.time c.in-By.session c.in-By.number c.requires.time.0 c.requires.time.1 c.in-By.ensures.range.0 (sym c.log_word.ensures.word ∙ sym c.in-By.ensures.word))

pub returns-clause-reads : goal.returns-clause-reads
returns-clause-reads c = reads_on c.args.store.now c.args.seat.now c.log_word.new.seat c.begin_of.new.seat c.args.s c.log_word.ensures.reads c.begin_of.ensures.reads
