use Rattle.lst_rule.proofs.Watching.{counters_watch, looks_watch, pages_watch, stamps_watch, watches_join, watchers_keep_pins, watchers_keep}
use Rattle.lst_rule.proofs.laws.watchers_keep.Goals as goal

pub returns-clause-looks : goal.returns-clause-looks
returns-clause-looks c = looks_watch

pub returns-clause-pages : goal.returns-clause-pages
returns-clause-pages c = pages_watch

pub returns-clause-stamps : goal.returns-clause-stamps
returns-clause-stamps c = stamps_watch

pub returns-clause-joins : goal.returns-clause-joins
returns-clause-joins c = watches_join

pub returns-clause-pins : goal.returns-clause-pins
returns-clause-pins c = watchers_keep_pins

pub returns-clause-keep : goal.returns-clause-keep
returns-clause-keep c = watchers_keep

pub returns-clause-counters : goal.returns-clause-counters
returns-clause-counters c = counters_watch
