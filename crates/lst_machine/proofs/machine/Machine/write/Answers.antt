use Rattle.std.proofs.Common.{◌≡◌, ℕ, ◌<◌, ◌≤◌, ◌++◌, [], ◌∷◌, true, false, List, length, set, sym, ap, ◌∙◌, subst, arith}
use Rattle.std.proofs.lemmas.Bool.{le-leb, lt-leb}
use Rattle.std.proofs.lemmas.List.{set-get_or}
use Rattle.std.specs.Prelude.{Result, Ok, Err, OnOk, OnErr}
use Rattle.lst_model.specs.Tables.{Rows, row_of}
use Rattle.lst_model.specs.declared.replies.Cause.TheVariants.{TailFull}
use Rattle.lst_machine.specs.State.{Accepted}
use Rattle.lst_machine.specs.Writes.{range_of}
use Rattle.lst_machine.specs.Parts.{SessionState, new_session, range_in, state_in, IsWhole}
use Rattle.lst_machine.specs.Machines.{parts_of, state_of, store_of}
use Rattle.lst_machine.proofs.Founding.{whole_accepted}
use Rattle.lst_machine.proofs.Showing.{accepted_shows}
use Rattle.lst_machine.proofs.Viewing.{element}
use Rattle.lst_machine.proofs.Writing.{by_conflict, by_misfit, by_room, write_refused, write_done}
use Rattle.lst_machine.proofs.machine.Machine.write.Goals as goal

by_result : {T E P : Type 0} (r : Result T E) (One Other : Type 0) → OnOk r One → OnErr r Other → (One → P) → (Other → P) → P
by_result (Ok x) One Other one other here there = here one
by_result (Err e) One Other one other here there = there other

on_err : {T E P : Type 0} (r : Result T E) → P → OnErr r P
on_err (Ok x) p = tt
on_err (Err e) p = p

pub returns-in-Some-clause-ok : goal.returns-in-Some-clause-ok
returns-in-Some-clause-ok c =
    let done = write_refused c.args.self.now.limits (state_of c.args.self.now) c.args.session c.args.begin c.args.key c.args.act.now c.in-Some.cause (by_conflict c.args.self.now.limits (store_of c.args.self.now) c.args.session c.args.begin c.args.key c.args.act.now c.in-Some.cause c.in-Some.ensures) in
    (c.refused.ensures ∙ done.0, done.1)

pub returns-in-Some-row_misfit-clause-ok : goal.returns-in-Some-row_misfit-clause-ok
returns-in-Some-row_misfit-clause-ok c =
    let done = write_refused c.args.self.now.limits (state_of c.args.self.now) c.args.session c.args.begin c.args.key c.args.act.now c.in-Some-row_misfit.cause (by_misfit c.args.self.now.limits (store_of c.args.self.now) c.args.session c.args.begin c.args.key c.args.act.now c.in_default.ensures c.in-Some-row_misfit.cause c.row.result (c.row.ensures ∙ ap (λ (table : Rows). row_of table c.args.key) c.in_ok-sight.ensures) c.in-Some-row_misfit.ensures) in
    (c.refused-in-Some-row_misfit.ensures ∙ done.0, done.1)

pub returns-then-items-self-clause-ok : goal.returns-then-items-self-clause-ok
returns-then-items-self-clause-ok c =
    let here = c.items.ensures ∙ element c.args.self.now.ranges.items c.range_of-range.result c.index.result.now [] c.range_of-range.ensures.low c.index.ensures in
    let count : length c.items.result.now ≡ length (range_in c.args.self.now.ranges.items (range_of c.args.self.now.placed.items c.args.key)) = ap length here ∙ ap (λ (r : ℕ). length (range_in c.args.self.now.ranges.items r)) c.range_of-range.ensures.range in
    let most : c.args.self.now.limits.tails ≤ length (range_in c.args.self.now.ranges.items (range_of c.args.self.now.placed.items c.args.key)) = omega (arith, count, c.if-items-self.true) in
    let done = write_refused c.args.self.now.limits (state_of c.args.self.now) c.args.session c.args.begin c.args.key c.args.act.now TailFull (by_room c.args.self.now.limits (store_of c.args.self.now) c.args.session c.args.begin c.args.key c.args.act.now c.in_default.ensures c.row.result (c.row.ensures ∙ ap (λ (table : Rows). row_of table c.args.key) c.in_ok-sight.ensures) c.in_default-row_misfit.ensures true (sym (le-leb _ _ most))) in
    (c.refused-then-items-self.ensures ∙ done.0, done.1)

pub invariant_of-self : goal.invariant_of-self
invariant_of-self c =
    let here = element c.args.self.now.ranges.items c.range_of-range.result c.index_mut.result.now [] c.range_of-range.ensures.low c.index_mut.ensures.value in
    let seen = c.items.ensures ∙ element c.args.self.now.ranges.items c.range_of-range.result c.index.result.now [] c.range_of-range.ensures.low c.index.ensures in
    let room : length (range_in c.args.self.now.ranges.items c.range_of-range.result) < c.args.self.now.limits.tails = (let count : length c.items.result.now ≡ length (range_in c.args.self.now.ranges.items c.range_of-range.result) = ap length seen in omega (arith, count, c.if-items-self.false)) in
    record {
      whole = by_result c.push.result _ _ c.push.ensures.ok c.push.ensures.err
          (λ added. subst (λ (writes : List Accepted). IsWhole c.args.self.now.limits (record (parts_of c.args.self.now) { ranges = set c.args.self.now.ranges.items c.range_of-range.result writes }))
          (sym (added ∙ ap (λ (writes : List Accepted). writes ++ c.new.result ∷ []) here)) (whole_accepted c.args.self.now.limits (parts_of c.args.self.now) c.range_of-range.result c.new.result c.args.self.now.whole c.range_of-range.ensures.low room))
          (λ same. subst (λ (ranges : List (List Accepted)). IsWhole c.args.self.now.limits (record (parts_of c.args.self.now) { ranges = ranges }))
          (sym (ap (set c.args.self.now.ranges.items c.range_of-range.result) (same ∙ c.index_mut.ensures.value) ∙ set-get_or c.args.self.now.ranges.items c.range_of-range.result c.index_mut.result.now)) c.args.self.now.whole);
    }

pub returns-in_err-push-clause-err : goal.returns-in_err-push-clause-err
returns-in_err-push-clause-err c = on_err c.from_residual-in_err-push.result (
    ap (λ (ranges : List (List Accepted)). state_in (record (parts_of c.args.self.now) { ranges = ranges }))
    (ap (set c.args.self.now.ranges.items c.range_of-range.result) (c.in_err-push.ensures.err ∙ c.index_mut.ensures.value) ∙ set-get_or c.args.self.now.ranges.items c.range_of-range.result c.index_mut.result.now))

pub returns-clause-ok : goal.returns-clause-ok
returns-clause-ok c =
    let whole : IsWhole c.args.self.now.limits (parts_of c.args.self.now) = c.args.self.now.whole in
    let within : c.args.session < length c.args.self.now.sessions.items = omega (arith, whole.sessions, c.requires) in
    let low = c.range_of-range.ensures.low in
    let old = element c.args.self.now.sessions.items c.args.session c.index-2.result.now new_session within c.index-2.ensures in
    let number = c.begins-number.ensures ∙ ap (λ (x : SessionState). x.begins) old in
    let here = element c.args.self.now.ranges.items c.range_of-range.result c.index_mut.result.now [] low c.index_mut.ensures.value in
    let seen = c.items.ensures ∙ element c.args.self.now.ranges.items c.range_of-range.result c.index.result.now [] low c.index.ensures in
    let count : length c.items.result.now ≡ length (range_in c.args.self.now.ranges.items (range_of c.args.self.now.placed.items c.args.key)) = ap length seen ∙ ap (λ (r : ℕ). length (range_in c.args.self.now.ranges.items r)) c.range_of-range.ensures.range in
    let room : length (range_in c.args.self.now.ranges.items (range_of c.args.self.now.placed.items c.args.key)) < c.args.self.now.limits.tails = omega (arith, count, c.if-items-self.false) in
    let shown =
    ap (λ (writes : List Accepted). state_in (record (parts_of c.args.self.now) { ranges = set c.args.self.now.ranges.items c.range_of-range.result writes }))
    (c.in_ok-push.ensures.ok ∙ (λ i. here i ++ c.new.ensures i ∷ []))
    ∙ accepted_shows (parts_of c.args.self.now) c.range_of-range.result (record { session = c.args.session; number = c.begins-number.result; write = record { key = c.args.key; act = c.copied.result } }) low in
    write_done c.args.self.now.limits (state_of c.args.self.now) c.args.session c.args.begin c.args.key c.args.act.now (by_room c.args.self.now.limits (store_of c.args.self.now) c.args.session c.args.begin c.args.key c.args.act.now c.in_default.ensures c.row.result (c.row.ensures ∙ ap (λ (table : Rows). row_of table c.args.key) c.in_ok-sight.ensures) c.in_default-row_misfit.ensures false (sym (lt-leb _ _ room)))
    c.range_of-range.result c.range_of-range.ensures.range c.begins-number.result number c.copied.result c.copied.ensures
    (state_in (record (parts_of c.args.self.now) { ranges = set c.args.self.now.ranges.items c.range_of-range.result c.push.new.self })) shown
