use Rattle.std.proofs.Common.{suc, refl, sym, ◌∙◌}
use Rattle.lst_retire.proofs.Freeing.{spares_stay, first_is, frees, holds}
use Rattle.lst_retire.proofs.frees.free_frame.Goals as goal

pub returns-in-None-clause-still : goal.returns-in-None-clause-still
returns-in-None-clause-still c = let h = c.in-None.ensures.none in spares_stay _ _ _ h.found _ c.requires.spares h.looks.view

pub returns-in-None-clause-ok : goal.returns-in-None-clause-ok
returns-in-None-clause-ok c = frees _ _ _ c.in-Some.oldest c.requires.host c.requires.spares (first_is _ _ _ c.deref.ensures.0 (sym (c.copied.ensures ∙ c.first.ensures.value) ∙ c.in-Some.is)) c.consider.ensures c.consider-in-None.ensures c.in-None.ensures.none

pub returns-in-Some-first_holder-clause-still : goal.returns-in-Some-first_holder-clause-still
returns-in-Some-first_holder-clause-still c = let h = c.in-Some-first_holder.ensures.some in spares_stay _ _ _ h.found (suc c.in-Some-first_holder.session) c.requires.spares h.looks.view

pub returns-in-Some-first_holder-clause-held : goal.returns-in-Some-first_holder-clause-held
returns-in-Some-first_holder-clause-held c = holds _ _ _ c.in-Some.oldest c.requires.host c.requires.spares (first_is _ _ _ c.deref.ensures.0 (sym (c.copied.ensures ∙ c.first.ensures.value) ∙ c.in-Some.is)) _ c.consider.ensures c.in-Some-first_holder.ensures.some

pub first_holder-requires-clause-seat : goal.first_holder-requires-clause-seat
first_holder-requires-clause-seat c = c.requires.seat

pub first_holder-requires-clause-host : goal.first_holder-requires-clause-host
first_holder-requires-clause-host c = c.requires.host

pub first_holder-requires-clause-idle : goal.first_holder-requires-clause-idle
first_holder-requires-clause-idle c = c.requires.spares.idle

pub returns-in-None-clause-seat : goal.returns-in-None-clause-seat
returns-in-None-clause-seat c = c.in-None.ensures.seat

pub returns-in-None-clause-hosted : goal.returns-in-None-clause-hosted
returns-in-None-clause-hosted c = let h = c.in-None.ensures.none in h.looks.view.hosted

pub returns-in-None-clause-spares : goal.returns-in-None-clause-spares
returns-in-None-clause-spares c = refl

pub returns-in-None-clause-held : goal.returns-in-None-clause-held
returns-in-None-clause-held c = tt

pub returns-in-Some-first_holder-clause-seat : goal.returns-in-Some-first_holder-clause-seat
returns-in-Some-first_holder-clause-seat c = c.in-Some-first_holder.ensures.seat

pub returns-in-Some-first_holder-clause-hosted : goal.returns-in-Some-first_holder-clause-hosted
returns-in-Some-first_holder-clause-hosted c = let h = c.in-Some-first_holder.ensures.some in h.looks.view.hosted

pub returns-in-Some-first_holder-clause-spares : goal.returns-in-Some-first_holder-clause-spares
returns-in-Some-first_holder-clause-spares c = refl

pub returns-in-Some-first_holder-clause-ok : goal.returns-in-Some-first_holder-clause-ok
returns-in-Some-first_holder-clause-ok c = tt
