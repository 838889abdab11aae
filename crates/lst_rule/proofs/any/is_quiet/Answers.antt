use Rattle.std.proofs.Common.{◌≡◌, ◌-◌, ◌≤◌, not, sym, ap, ◌∙◌, arith, eq-eqb, leb-true, true≢false}
use Rattle.lst_layout.specs.Areas.{keys_start, indirection_start, tail_counters_start}
use Rattle.lst_rule.proofs.Quiets.{quiet_early, quiet_late, keys_first, heads_first, counters_first, clock_first, counter_third}
use Rattle.lst_rule.proofs.any.is_quiet.Goals as goal

pub returns-then-address-keys : goal.returns-then-address-keys
returns-then-address-keys c h = let e : c.keys.result ≡ keys_start c.args.layout.now.limits = c.keys.ensures.address ∙ keys_first c.args.layout.now.limits in
    quiet_early c.args.layout.now.limits c.args.layout.now.valid c.args.address c.requires (let a = c.if-address-keys.true in omega arith)
    (λ f. c.if-address-clock.false (f ∙ sym (c.clock.ensures.address ∙ clock_first c.args.layout.now.limits)))
    (λ f. true≢false (sym h ∙ ap not (eq-eqb c.args.address c.record_counter.result (f ∙ sym (c.record_counter.ensures.address ∙ counter_third c.args.layout.now.limits)))))

pub returns-then-address-counters : goal.returns-then-address-counters
returns-then-address-counters c h = let e : c.indirection.result ≡ indirection_start c.args.layout.now.limits = c.indirection.ensures.address ∙ heads_first c.args.layout.now.limits in
    let k : c.tail_counters-counters.result ≡ tail_counters_start c.args.layout.now.limits = c.tail_counters-counters.ensures.address ∙ counters_first c.args.layout.now.limits in
    quiet_late c.args.layout.now.limits c.args.layout.now.valid c.args.address c.requires (let a = c.if-address-indirection.false in omega arith) (λ g. absurd (let a = c.if-address-counters.true in omega arith))

pub returns : goal.returns
returns c h = let b : c.args.layout.now.limits.ranges ≤ c.args.address - c.tail_counters-counters.result = leb-true c.args.layout.now.limits.ranges (c.args.address - c.tail_counters-counters.result) h in
    let e : c.indirection.result ≡ indirection_start c.args.layout.now.limits = c.indirection.ensures.address ∙ heads_first c.args.layout.now.limits in
    let k : c.tail_counters-counters.result ≡ tail_counters_start c.args.layout.now.limits = c.tail_counters-counters.ensures.address ∙ counters_first c.args.layout.now.limits in
    quiet_late c.args.layout.now.limits c.args.layout.now.valid c.args.address c.requires (let a = c.if-address-indirection.false in omega arith) (λ g. let a = c.if-address-counters.false in omega arith)
