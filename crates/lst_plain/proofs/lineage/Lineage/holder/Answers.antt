use Rattle.std.proofs.Common.{◌≡◌, ℕ, ◌<◌, length, sym, ap, ◌∙◌, subst, arith}
use Rattle.std.specs.Prelude.{None}
use Rattle.lst_machine.specs.Merges.{lowest_where}
use Rattle.lst_machine.proofs.Lowest.{lowest-next, lowest-found}
use Rattle.lst_plain.specs.Lineages.{new_holder, holder_of, is_behind}
use Rattle.lst_machine.proofs.Viewing.{element}
use Rattle.lst_plain.proofs.lineage.Lineage.holder.Goals as goal

pub returns-then-is_behind : goal.returns-then-is_behind
returns-then-is_behind c =
    let inside : c.loop-session.session < length c.args.self.now.holders.items = omega (arith, c.loop-session-test.true, c.requires) in
    let here = element c.args.self.now.holders.items c.loop-session.session c.index.result.now (new_holder 0) inside c.index.ensures in
    sym (lowest-found (λ session. is_behind c.args.spare (holder_of c.args.self.now.holders.items session)) c.loop-session.session c.args.sessions c.loop-session.invariant
    (ap (is_behind c.args.spare) (sym here) ∙ sym c.is_behind.ensures ∙ c.if-is_behind.true) c.loop-session-test.true)

pub loop-session-preserved : goal.loop-session-preserved
loop-session-preserved c =
    let inside : c.loop-session.session < length c.args.self.now.holders.items = omega (arith, c.loop-session-test.true, c.requires) in
    let here = element c.args.self.now.holders.items c.loop-session.session c.index.result.now (new_holder 0) inside c.index.ensures in
    lowest-next (λ session. is_behind c.args.spare (holder_of c.args.self.now.holders.items session)) c.loop-session.session c.loop-session.invariant
    (ap (is_behind c.args.spare) (sym here) ∙ sym c.is_behind.ensures ∙ c.if-is_behind.false)

pub returns : goal.returns
returns c =
    let all : c.loop-session.session ≡ c.args.sessions = omega (arith, c.loop-session-test.false) in
    sym (subst (λ (n : ℕ). lowest_where (λ session. is_behind c.args.spare (holder_of c.args.self.now.holders.items session)) n ≡ None) all c.loop-session.invariant)
