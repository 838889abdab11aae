use Rattle.std.proofs.Common.{◌≡◌, ℕ, List, sym, ap, ◌∙◌, arith}
use Rattle.lst_model.specs.declared.replies.Reply.TheVariants.{Merged, NothingNew}
use Rattle.lst_machine.specs.declared.parts.Swap.{Swap}
use Rattle.lst_machine.specs.Parts.{tps_after, state_in}
use Rattle.lst_machine.specs.Machines.{parts_of, state_of, swaps}
use Rattle.lst_machine.proofs.Founding.{whole_swapped}
use Rattle.lst_machine.proofs.Showing.{swapped_shows}
use Rattle.lst_machine.proofs.Answering.{merge_nothing, merge_no_frame, merge_done}
use Rattle.lst_machine.proofs.machine.Machine.merge.Goals as goal

pub returns-then-tps-tps_of-clause-ok : goal.returns-then-tps-tps_of-clause-ok
returns-then-tps-tps_of-clause-ok c =
    let same : c.settled_count-tps.result ≡ c.tps_of.result = omega (arith, c.if-tps-tps_of.true) in
    let done = merge_nothing c.args.self.now.limits (state_of c.args.self.now) c.args.range c.args.column (sym c.settled_count-tps.ensures ∙ same ∙ c.tps_of.ensures ∙ ap (λ (xs : List Swap). tps_after 0 xs c.args.range c.args.column) c.as_slice.ensures.value) in
    (ap NothingNew c.settled_count-tps.ensures ∙ done.0, done.1)

pub returns-in-Some-clause-ok : goal.returns-in-Some-clause-ok
returns-in-Some-clause-ok c = merge_no_frame c.args.self.now.limits (state_of c.args.self.now) c.args.range c.args.column
    (λ e. let same : c.settled_count-tps.result ≡ c.tps_of.result = c.settled_count-tps.ensures ∙ e ∙ sym (c.tps_of.ensures ∙ ap (λ (xs : List Swap). tps_after 0 xs c.args.range c.args.column) c.as_slice.ensures.value) in absurd (omega (arith, c.if-tps-tps_of.false, same))) c.in-Some.session c.in-Some.ensures

pub invariant_of-self : goal.invariant_of-self
invariant_of-self c = record { whole = whole_swapped c.args.self.now.limits (parts_of c.args.self.now) c.push.new.self.items c.args.self.now.whole }

pub returns-clause-ok : goal.returns-clause-ok
returns-clause-ok c =
    let done = merge_done c.args.self.now.limits (state_of c.args.self.now) c.args.range c.args.column
    (λ e. let same : c.settled_count-tps.result ≡ c.tps_of.result = c.settled_count-tps.ensures ∙ e ∙ sym (c.tps_of.ensures ∙ ap (λ (xs : List Swap). tps_after 0 xs c.args.range c.args.column) c.as_slice.ensures.value) in absurd (omega (arith, c.if-tps-tps_of.false, same))) c.in_default.ensures in (
      ap Merged c.settled_count-tps.ensures ∙ done.0,
      ap (λ (xs : List Swap). state_in (record (parts_of c.args.self.now) { swaps = xs })) c.in_ok-push.ensures.items
          ∙ swapped_shows (parts_of c.args.self.now) (record { range = c.args.range; column = c.args.column; tps = c.settled_count-tps.result })
          ∙ ap (λ (n : ℕ). swaps (state_of c.args.self.now) c.args.range c.args.column n) c.settled_count-tps.ensures ∙ done.1,
    )
