use Rattle.std.proofs.Common.{slice_index}
use Rattle.lst_merge.proofs.Building.{builds, ready, still_host, still_page, still_few, still_settled, build_host, build_free, build_low}
use Rattle.lst_merge.proofs.builds.build.Goals as goal

pub fold_run-requires-clause-host : goal.fold_run-requires-clause-host
fold_run-requires-clause-host c = still_host _ _ c.load_page.ensures.view c.requires.host

pub fold_run-requires-clause-page : goal.fold_run-requires-clause-page
fold_run-requires-clause-page c = still_page _ _ c.load_page.ensures.view _ _ c.requires.page

pub fold_run-requires-clause-few : goal.fold_run-requires-clause-few
fold_run-requires-clause-few c = still_few _ _ c.load_page.ensures.view _ c.requires.few

pub fold_run-requires-clause-settled : goal.fold_run-requires-clause-settled
fold_run-requires-clause-settled c = still_settled _ _ c.load_page.ensures.view _ _ _ c.requires.settled

pub store_words-requires-clause-host : goal.store_words-requires-clause-host
store_words-requires-clause-host c = build_host _ _ _ c.load_page.ensures.view c.fold_run.ensures.inspects c.requires.host

pub store_words-requires-clause-frame : goal.store_words-requires-clause-frame
store_words-requires-clause-frame c = build_low _ _ _ c.load_page.ensures.view c.fold_run.ensures.inspects c.consider.ensures _ _ _ c.requires.host c.requires.page c.requires.free

pub store_words-requires-clause-free : goal.store_words-requires-clause-free
store_words-requires-clause-free c = build_free _ _ _ c.load_page.ensures.view c.fold_run.ensures.inspects _ c.requires.free

pub returns-clause-builds : goal.returns-clause-builds
returns-clause-builds c = builds _ _ _ _ _ _ _ _ _ _ _ (slice_index c.write_page.new.words) c.requires.host c.requires.page c.consider.ensures c.requires.free c.load_page.ensures.view c.load_page.ensures.kept c.load_page.ensures.entries c.fold_run.ensures.inspects c.fold_run.ensures.folds c.store_words.ensures.stores c.write_page.ensures.tps c.write_page.ensures.entries c.write_page.ensures.absent c.requires.tps c.requires.few

pub returns-clause-ready : goal.returns-clause-ready
returns-clause-ready c = ready _ _ _ _ _ _ _ _ _ _ _ (slice_index c.write_page.new.words) c.requires.host c.requires.page c.consider.ensures c.requires.free c.load_page.ensures.view c.load_page.ensures.kept c.load_page.ensures.entries c.fold_run.ensures.inspects c.fold_run.ensures.folds c.store_words.ensures.stores c.write_page.ensures.tps c.write_page.ensures.entries c.write_page.ensures.absent c.requires.tps c.requires.few
