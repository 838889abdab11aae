use Rattle.std.proofs.Common.{◌/◌, arith, slice_index, eqb-true, eq-eqb}
use Rattle.lst_pack.specs.declared.forms.Form.TheVariants.{Constant, Dictionary, Runs, Reference, Plain}
use Rattle.lst_pack.proofs.Checking.{form_named, no_number, packed_as}
use Rattle.lst_pack.proofs.checks.is_packed.Goals as goal

pub returns-in-0 : goal.returns-in-0
returns-in-0 c = (λ is. packed_as c.args.words.now Plain (let none = eqb-true (slice_index c.args.words.now 0 / 8) 0 is in omega arith) (omega arith) tt, λ packed. eq-eqb (slice_index c.args.words.now 0 / 8) 0 (no_number c.args.words.now packed (omega arith)))

pub returns-in-1 : goal.returns-in-1
returns-in-1 c = (λ is. packed_as c.args.words.now Constant (let none = eqb-true (slice_index c.args.words.now 0 / 8) 0 is in omega arith) (omega arith) tt, λ packed. eq-eqb (slice_index c.args.words.now 0 / 8) 0 (no_number c.args.words.now packed (omega arith)))

pub returns-then-number-le16 : goal.returns-then-number-le16
returns-then-number-le16 c = let words = c.args.words.now in let n = slice_index words 0 / 8 in
    (λ is. packed_as words (Dictionary n) (omega arith) (omega arith) (c.is_dictionary.ensures.0 is), λ packed. c.is_dictionary.ensures.1 (form_named words (Dictionary n) (omega arith) packed))

pub returns-then-number-le128 : goal.returns-then-number-le128
returns-then-number-le128 c = let words = c.args.words.now in let n = slice_index words 0 / 8 in
    (λ is. packed_as words (Runs n) (omega arith) (omega arith) (c.are_runs.ensures.0 is), λ packed. c.are_runs.ensures.1 (form_named words (Runs n) (omega arith) packed))

pub returns-then-is_width : goal.returns-then-is_width
returns-then-is_width c = let words = c.args.words.now in let n = slice_index words 0 / 8 in
    (λ is. packed_as words (Reference n) (omega arith) (let w = (c.is_reference.ensures.0 is).whole in grind arith) (c.is_reference.ensures.0 is), λ packed. c.is_reference.ensures.1 (form_named words (Reference n) (omega arith) packed))
