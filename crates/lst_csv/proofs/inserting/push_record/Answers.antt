use Rattle.std.proofs.Common.{◌≡◌, ℕ, ◌+◌, ◌<◌, List, get_or, length, drop, refl, Some, sym, ap, ◌∙◌, arith}
use Rattle.std.proofs.lemmas.List.{length-drop}
use Rattle.csv.specs.Records.{fields_of}
use Rattle.lst_script.specs.Numbers.{number_of}
use Rattle.lst_csv.specs.Tables.{field_at}
use Rattle.lst_csv.proofs.ReadFields.{behind_key, none_written, one_more_written, one_unread_there, all_written, all_read, bad_key, bad_cell, key_is, line_put, no_value}
use Rattle.lst_csv.proofs.inserting.push_record.Goals as goal

pub loop-column-preserved : goal.loop-column-preserved
loop-column-preserved c =
    let fields = fields_of c.args.fields.now in
    let column = c.loop-column.column in
    let low : column < length c.args.heads.now = omega (arith, c.loop-column-test.true) in
    let few : column < length (drop 1 fields) = omega (arith, length-drop 1 fields, c.len.ensures, c.if-len-heads.false, low) in
    let at_head : c.as_bytes.result.now ≡ get_or c.args.heads.now column c.as_bytes.result.now = c.as_bytes.ensures ∙ (c.index-heads-column.is ∙ ap (λ (d : List ℕ). get_or c.args.heads.now column d) (sym c.as_bytes.ensures)) in
    one_more_written c.args.heads.now (drop 1 fields) c.push_field.new.bytes.items column c.as_bytes.result.now c.field-in-loop-column.result.now c.loop-column.bytes.items c.push_pair.new.bytes.items low few at_head
    (c.field-in-loop-column.ensures ∙ behind_key fields column (column + 1) refl) (sym c.in_ok-push_pair.ensures.read ∙ c.if-not-branch.false) (c.in_ok-push_pair.ensures.text c.if-not-branch.false) c.loop-column.invariant

pub bounds-heads-column : goal.bounds-heads-column
bounds-heads-column c = c.loop-column-test.true

pub loop-column-init : goal.loop-column-init
loop-column-init c = none_written _ _ _

pub returns-then-len-heads-clause-read : goal.returns-then-len-heads-clause-read
returns-then-len-heads-clause-read c = λ same. c.if-len-heads.true (c.len.ensures ∙ same)

pub returns-then-len-heads-clause-text : goal.returns-then-len-heads-clause-text
returns-then-len-heads-clause-text c = tt

pub returns-in_err-extend_from_slice-clause-read : goal.returns-in_err-extend_from_slice-clause-read
returns-in_err-extend_from_slice-clause-read c = no_value _ _ _ _ c.from_residual.ensures.0

pub returns-in_err-extend_from_slice-clause-text : goal.returns-in_err-extend_from_slice-clause-text
returns-in_err-extend_from_slice-clause-text c = no_value _ _ _ _ c.from_residual.ensures.0

pub returns-in_err-key-clause-read : goal.returns-in_err-key-clause-read
returns-in_err-key-clause-read c = no_value _ _ _ _ c.from_residual-in_err-key.ensures.0

pub returns-in_err-key-clause-text : goal.returns-in_err-key-clause-text
returns-in_err-key-clause-text c = no_value _ _ _ _ c.from_residual-in_err-key.ensures.0

pub returns-in_err-push_pair-clause-read : goal.returns-in_err-push_pair-clause-read
returns-in_err-push_pair-clause-read c = no_value _ _ _ _ c.from_residual-in_err-push_pair.ensures.0

pub returns-in_err-push_pair-clause-text : goal.returns-in_err-push_pair-clause-text
returns-in_err-push_pair-clause-text c = no_value _ _ _ _ c.from_residual-in_err-push_pair.ensures.0

pub returns-in_err-push-clause-read : goal.returns-in_err-push-clause-read
returns-in_err-push-clause-read c = no_value _ _ _ _ c.from_residual-in_err-push.ensures.0

pub returns-in_err-push-clause-text : goal.returns-in_err-push-clause-text
returns-in_err-push-clause-text c = no_value _ _ _ _ c.from_residual-in_err-push.ensures.0

pub returns-in_default-clause-read : goal.returns-in_default-clause-read
returns-in_default-clause-read c = (sym c.len.ensures ∙ c.if-len-heads.false, bad_key (fields_of c.args.fields.now) (ap number_of (sym c.field.ensures) ∙ (sym c.in_ok-key.ensures.read ∙ c.in_default.is)))

pub returns-in_default-clause-text : goal.returns-in_default-clause-text
returns-in_default-clause-text c = tt

pub returns-then-not-branch-clause-read : goal.returns-then-not-branch-clause-read
returns-then-not-branch-clause-read c =
    let fields = fields_of c.args.fields.now in
    let column = c.loop-column.column in
    let few : column < length (drop 1 fields) = omega (arith, length-drop 1 fields, c.len.ensures, c.if-len-heads.false, c.loop-column-test.true) in (
      sym c.len.ensures ∙ c.if-len-heads.false,
      bad_cell fields (one_unread_there c.args.heads.now (drop 1 fields) c.push_field.new.bytes.items column c.field-in-loop-column.result.now c.loop-column.bytes.items few
          (c.field-in-loop-column.ensures ∙ behind_key fields column (column + 1) refl) (sym c.in_ok-push_pair.ensures.read ∙ c.if-not-branch.true) c.loop-column.invariant),
    )

pub returns-then-not-branch-clause-text : goal.returns-then-not-branch-clause-text
returns-then-not-branch-clause-text c = tt

pub returns-clause-read : goal.returns-clause-read
returns-clause-read c =
    let fields = fields_of c.args.fields.now in
    let as_many : length (drop 1 fields) ≡ length c.args.heads.now = omega (arith, length-drop 1 fields, c.len.ensures, c.if-len-heads.false) in
    let key : number_of (field_at fields 0) ≡ Some c.in-Some.key = ap number_of (sym c.field.ensures) ∙ (sym c.in_ok-key.ensures.read ∙ c.in-Some.is) in
    let all = all_written c.args.heads.now (drop 1 fields) c.push_field.new.bytes.items c.loop-column.column c.loop-column.bytes.items c.loop-column-test.false as_many c.loop-column.invariant in
    (sym c.len.ensures ∙ c.if-len-heads.false, all_read fields c.in-Some.key key all.0, key_is fields c.in-Some.key key)

pub returns-clause-text : goal.returns-clause-text
returns-clause-text c =
    let fields = fields_of c.args.fields.now in
    let as_many : length (drop 1 fields) ≡ length c.args.heads.now = omega (arith, length-drop 1 fields, c.len.ensures, c.if-len-heads.false) in
    let key : number_of (field_at fields 0) ≡ Some c.in-Some.key = ap number_of (sym c.field.ensures) ∙ (sym c.in_ok-key.ensures.read ∙ c.in-Some.is) in
    let all = all_written c.args.heads.now (drop 1 fields) c.push_field.new.bytes.items c.loop-column.column c.loop-column.bytes.items c.loop-column-test.false as_many c.loop-column.invariant in
    line_put c.args.heads.now fields c.in-Some.key c.args.bytes.now.items c.extend_from_slice.new.self.items c.push_field.new.bytes.items c.loop-column.bytes.items c.push.new.self.items
    (key_is fields c.in-Some.key key) c.in_ok-extend_from_slice.ensures.items (rw c.in-Some.is at c.in_ok-key.ensures.text) all.1 c.in_ok-push.ensures.items
