use Rattle.std.proofs.Common.{slice_index}
use Rattle.lst_merge.proofs.Building.{entries_same, known_packed, known_says, found_host, found_low, found_words, found_view, found_kept}
use Rattle.lst_merge.specs.Pages.{entry_of}
use Rattle.lst_merge.proofs.Wording.{entries_read, numbers_read}
use Rattle.lst_merge.proofs.builds.load_page.Goals as goal

pub load_words-requires-clause-host : goal.load_words-requires-clause-host
load_words-requires-clause-host c = found_host _ _ _ _ _ c.page_frame-frame.ensures.looked c.page_frame-frame.ensures.frame c.requires.host

pub load_words-requires-clause-frame : goal.load_words-requires-clause-frame
load_words-requires-clause-frame c = found_low _ _ _ _ _ c.page_frame-frame.ensures.looked c.page_frame-frame.ensures.frame c.page_frame-frame.ensures.low

pub read_values-requires : goal.read_values-requires
read_values-requires c = known_packed c.args.seat.now.view c.consider.ensures c.requires.host c.args.range c.args.column c.requires.page (slice_index c.load_words.new.words) (found_words _ _ _ _ _ c.page_frame-frame.ensures.looked c.page_frame-frame.ensures.frame c.load_words.new.words c.load_words.ensures.words)

pub returns-clause-view : goal.returns-clause-view
returns-clause-view c = found_view _ _ _ _ _ c.page_frame-frame.ensures.looked c.page_frame-frame.ensures.frame _ c.load_words.ensures.view

pub returns-clause-kept : goal.returns-clause-kept
returns-clause-kept c = found_kept _ _ _ _ _ c.page_frame-frame.ensures.looked c.page_frame-frame.ensures.frame _ c.load_words.ensures.kept

pub returns-clause-entries : goal.returns-clause-entries
returns-clause-entries c = entries_same _ (slice_index c.load_words.new.words) (entry_of (slice_index c.load_words.new.words) c.read_values.new.values) (found_words _ _ _ _ _ c.page_frame-frame.ensures.looked c.page_frame-frame.ensures.frame c.load_words.new.words c.load_words.ensures.words)
    (entries_read (slice_index c.load_words.new.words) c.read_values.new.values c.read_values.ensures)

pub returns-clause-numbers : goal.returns-clause-numbers
returns-clause-numbers c = numbers_read (slice_index c.load_words.new.words) c.read_values.new.values c.read_values.ensures _
    (known_says c.args.seat.now.view c.consider.ensures c.requires.host c.args.range c.args.column c.requires.page (slice_index c.load_words.new.words) (found_words _ _ _ _ _ c.page_frame-frame.ensures.looked c.page_frame-frame.ensures.frame c.load_words.new.words c.load_words.ensures.words)).entries
