use Rattle.std.proofs.Common.{◌≡◌, ◌<◌, List, [], length, get_or, subst, ap, ◌∙◌, arith}
use Rattle.lst_machine.specs.State.{Accepted}
use Rattle.lst_machine.specs.Writes.{accepted_below, gathered}
use Rattle.lst_machine.specs.Parts.{SessionState, new_session, range_in, IsWhole}
use Rattle.lst_machine.specs.Machines.{parts_of}
use Rattle.lst_machine.proofs.Viewing.{element, own_more}
use Rattle.lst_machine.proofs.machine.Machine.own_writes.Goals as goal

pub loop-range-preserved : goal.loop-range-preserved
loop-range-preserved c =
    let same = c.deref-range-items.ensures.value in
    let inside = subst (λ (xs : List (List Accepted)). c.loop-range.range-index < length xs) same c.loop-range-test.true in
    let item = subst (λ (xs : List (List Accepted)). c.range-item.result ≡ get_or xs c.loop-range.range-index c.range-item.result) same c.range-item.is in
    let here = element c.args.self.now.ranges.items c.loop-range.range-index c.range-item.result [] inside item in
    record {
      own = own_more c.args.self.now.ranges.items c.args.session c.begins-number.result c.loop-range.range-index c.loop-range.own.items c.gather.new.own.items c.items.result.now (c.items.ensures ∙ here) c.loop-range.invariant.own c.in_ok-gather.ensures;
      within = let low = inside in omega (arith, low);
    }

pub returns : goal.returns
returns c =
    let whole : IsWhole c.args.self.now.limits (parts_of c.args.self.now) = c.args.self.now.whole in
    let inside : c.args.session < length c.args.self.now.sessions.items = omega (arith, whole.sessions, c.requires) in
    let old = element c.args.self.now.sessions.items c.args.session c.index.result.now new_session inside c.index.ensures in
    let number = c.begins-number.ensures ∙ ap (λ (x : SessionState). x.begins) old in
    let within = c.loop-range.invariant.within in
    let past = c.loop-range-test.false in
    let count = whole.ranges in
    let all : c.loop-range.range-index ≡ c.args.self.now.limits.ranges = omega (arith, within, past, count) in
    c.loop-range.invariant.own ∙ (λ i. gathered c.args.session (number i) [] (accepted_below (λ range. range_in c.args.self.now.ranges.items range) (all i)))
