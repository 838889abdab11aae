use Rattle.std.proofs.Common.{◌≡◌, ◌<◌, ◌++◌, ℕ, length, true, false, subst, rules, arith}
use Rattle.std.specs.Prelude.{Result, IfOk}
use Rattle.csv.specs.Records.{fields_of}
use Rattle.lst_csv.specs.declared.faults.TableFault.{TableFault}
use Rattle.lst_csv.specs.Importing.{record_line}
use Rattle.lst_csv.specs.Keys.{has_key}
use Rattle.lst_csv.specs.Reading.{ReadsKey}
use Rattle.lst_csv.proofs.Rows.{misread, starts, further, ended, faulty_next, repeated_next, too_many_next, takes_none, takes_some, was_there, was_new}
use Rattle.lst_csv.proofs.importing.push_lines.Goals as goal

pub loop-place-init : goal.loop-place-init
loop-place-init c = λ records reading. starts c.args.heads.now records c.args.reader.now c.args.bytes.now.items c.in_ok-keys.keys c.in_ok-keys.ensures reading

pub returns-then-not-branch-clause-ok : goal.returns-then-not-branch-clause-ok
returns-then-not-branch-clause-ok c =
    let gone : c.in_ok-next.field-0 ≡ false = search rules in
    λ records reading.
    let so_far = c.loop-place.invariant records reading in
    ended c.args.heads.now records c.loop-place.reader c.next.new.reader c.loop-place.place c.args.bytes.now.items c.loop-place.bytes.items c.loop-place.keys (fields_of c.next.new.fields) so_far
    (takes_none so_far.later c.in_ok-next.field-0 (fields_of c.next.new.fields) c.next.new.reader gone (c.in_ok-next.ensures so_far.later so_far.reading))

pub returns-in-Err-clause-bad : goal.returns-in-Err-clause-bad
returns-in-Err-clause-bad c =
    let reads = subst (ReadsKey (length c.args.heads.now) (fields_of c.next.new.fields)) c.in-Err.is c.in_ok-key.ensures.read in
    let there : c.in_ok-next.field-0 ≡ true = search rules in
    let few : c.loop-place.place < 16386 = omega (arith, c.loop-place-test.true, c.loop-place.auto.place-end) in
    λ records reading.
    let so_far = c.loop-place.invariant records reading in
    faulty_next c.args.heads.now records c.loop-place.reader c.next.new.reader c.loop-place.place c.args.bytes.now.items c.loop-place.bytes.items c.loop-place.keys (fields_of c.next.new.fields) so_far c.in-Err.kind
    (takes_some so_far.later c.in_ok-next.field-0 (fields_of c.next.new.fields) c.next.new.reader there (c.in_ok-next.ensures so_far.later so_far.reading))
    (λ later. misread (length c.args.heads.now) c.loop-place.place so_far.keys (fields_of c.next.new.fields) later few c.in-Err.kind reads)

pub returns-then-not-branch-2-clause-bad : goal.returns-then-not-branch-2-clause-bad
returns-then-not-branch-2-clause-bad c =
    let reads = subst (ReadsKey (length c.args.heads.now) (fields_of c.next.new.fields)) c.in-Ok.is c.in_ok-key.ensures.read in
    let there : c.in_ok-next.field-0 ≡ true = search rules in
    let few : c.loop-place.place < 16386 = omega (arith, c.loop-place-test.true, c.loop-place.auto.place-end) in
    let old : has_key c.loop-place.keys c.in-Ok.key ≡ true = was_there c.in_ok-insert.field-0 _ c.in_ok-insert.ensures.added (search rules) in
    λ records reading.
    let so_far = c.loop-place.invariant records reading in
    repeated_next c.args.heads.now records c.loop-place.reader c.next.new.reader c.loop-place.place c.args.bytes.now.items c.loop-place.bytes.items c.loop-place.keys (fields_of c.next.new.fields) so_far c.in-Ok.key few
    (takes_some so_far.later c.in_ok-next.field-0 (fields_of c.next.new.fields) c.next.new.reader there (c.in_ok-next.ensures so_far.later so_far.reading)) reads old

pub loop-place-preserved : goal.loop-place-preserved
loop-place-preserved c =
    let reads = subst (ReadsKey (length c.args.heads.now) (fields_of c.next.new.fields)) c.in-Ok.is c.in_ok-key.ensures.read in
    let there : c.in_ok-next.field-0 ≡ true = search rules in
    let few : c.loop-place.place < 16386 = omega (arith, c.loop-place-test.true, c.loop-place.auto.place-end) in
    let text = subst (λ (read : Result ℕ TableFault). IfOk read (λ key. c.push_record.new.bytes.items ≡ c.loop-place.bytes.items ++ record_line c.args.heads.now (fields_of c.next.new.fields))) c.in-Ok.is c.in_ok-key.ensures.text in
    let new : has_key c.loop-place.keys c.in-Ok.key ≡ false = was_new c.in_ok-insert.field-0 _ c.in_ok-insert.ensures.added (search rules) in
    λ records reading.
    let so_far = c.loop-place.invariant records reading in
    further c.args.heads.now records c.loop-place.reader c.next.new.reader c.loop-place.place c.args.bytes.now.items c.loop-place.bytes.items c.loop-place.keys (fields_of c.next.new.fields) so_far c.in-Ok.key c.push_record.new.bytes.items c.insert.new.self few
    (takes_some so_far.later c.in_ok-next.field-0 (fields_of c.next.new.fields) c.next.new.reader there (c.in_ok-next.ensures so_far.later so_far.reading)) reads new c.in_ok-insert.ensures.more text

pub returns-then-branch-clause-bad : goal.returns-then-branch-clause-bad
returns-then-branch-clause-bad c =
    let there : c.in_ok-next-2.field-0 ≡ true = search rules in
    let at : c.loop-place.place ≡ 16386 = omega (arith, c.loop-place-test.false, c.loop-place.auto.place-end) in
    λ records reading.
    let so_far = c.loop-place.invariant records reading in
    too_many_next c.args.heads.now records c.loop-place.reader c.next-2.new.reader c.loop-place.place c.args.bytes.now.items c.loop-place.bytes.items c.loop-place.keys (fields_of c.next-2.new.fields) so_far at
    (takes_some so_far.later c.in_ok-next-2.field-0 (fields_of c.next-2.new.fields) c.next-2.new.reader there (c.in_ok-next-2.ensures so_far.later so_far.reading))

pub returns-clause-ok : goal.returns-clause-ok
returns-clause-ok c =
    let gone : c.in_ok-next-2.field-0 ≡ false = search rules in
    λ records reading.
    let so_far = c.loop-place.invariant records reading in
    ended c.args.heads.now records c.loop-place.reader c.next-2.new.reader c.loop-place.place c.args.bytes.now.items c.loop-place.bytes.items c.loop-place.keys (fields_of c.next-2.new.fields) so_far
    (takes_none so_far.later c.in_ok-next-2.field-0 (fields_of c.next-2.new.fields) c.next-2.new.reader gone (c.in_ok-next-2.ensures so_far.later so_far.reading))
