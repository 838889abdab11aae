use Rattle.std.proofs.Common.{ap, ◌∙◌, arith, Bool, cond, eqb, slice_index, slice_set, ◌+◌, ◌/◌, ◌%◌}
use Rattle.lst_bits.specs.Times.{time_word}
use Rattle.lst_model.specs.Cells.{number_of, has_bit}
use Rattle.lst_merge.proofs.Wording.{put_is, put_numbers}
use Rattle.lst_merge.proofs.entries.put_entry.Goals as goal

pub returns-clause-entry : goal.returns-clause-entry
returns-clause-entry c = put_is c.args.words.now c.args.values.now c.args.slot c.pack_time.result c.with_bit.result c.unwrap_or.result c.args.entry (omega arith) (omega arith) (omega arith)
    (c.pack_time.ensures ∙ ap (time_word c.args.entry.time) c.is_some.ensures) (c.unwrap_or.ensures ∙ ap number_of c.flatten.ensures)
    (λ other low. c.with_bit.ensures other low ∙ ap (λ (b : Bool). cond (eqb (c.args.slot % 64) other) b (has_bit (slice_index (slice_set c.args.words.now (258 + c.args.slot) c.pack_time.result) (514 + c.args.slot / 64)) other)) c.is_null.ensures)

pub returns-clause-numbers : goal.returns-clause-numbers
returns-clause-numbers c = put_numbers c.args.words.now c.args.values.now c.args.slot c.pack_time.result c.with_bit.result c.unwrap_or.result c.args.entry (omega arith) (omega arith) (omega arith)
    (c.pack_time.ensures ∙ ap (time_word c.args.entry.time) c.is_some.ensures) (c.unwrap_or.ensures ∙ ap number_of c.flatten.ensures)
    (λ other low. c.with_bit.ensures other low ∙ ap (λ (b : Bool). cond (eqb (c.args.slot % 64) other) b (has_bit (slice_index (slice_set c.args.words.now (258 + c.args.slot) c.pack_time.result) (514 + c.args.slot / 64)) other)) c.is_null.ensures) c.requires.numbers
