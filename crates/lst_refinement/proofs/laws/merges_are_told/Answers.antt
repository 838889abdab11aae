use Rattle.lst_refinement.proofs.Settling.{settled_are_told}
use Rattle.lst_refinement.proofs.Merging.{holders_are_told, holding_all_is_holding, lowest_holder_is_told, no_holder_is_told, nothing_new_is_told, no_frame_is_told, swaps_are_told}
use Rattle.lst_refinement.proofs.laws.merges_are_told.Goals as goal

pub returns-clause-settled : goal.returns-clause-settled
returns-clause-settled c = settled_are_told

pub returns-clause-holders : goal.returns-clause-holders
returns-clause-holders c = holders_are_told

pub returns-clause-all : goal.returns-clause-all
returns-clause-all c = holding_all_is_holding

pub returns-clause-lowest : goal.returns-clause-lowest
returns-clause-lowest c = lowest_holder_is_told

pub returns-clause-nobody : goal.returns-clause-nobody
returns-clause-nobody c = no_holder_is_told

pub returns-clause-nothing_new : goal.returns-clause-nothing_new
returns-clause-nothing_new c = nothing_new_is_told

pub returns-clause-no_frame : goal.returns-clause-no_frame
returns-clause-no_frame c = no_frame_is_told

pub returns-clause-swaps : goal.returns-clause-swaps
returns-clause-swaps c = swaps_are_told
