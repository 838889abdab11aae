use Rattle.std.proofs.Common.{◌≡◌, ℕ, ◌++◌, [], ◌∷◌, List, cond, sym, ap, ◌∙◌, arith}
use Rattle.std.specs.Prelude.{Option, is_some, is_ok}
use Rattle.lst_machine.specs.State.{Store, State}
use Rattle.lst_model.specs.declared.replies.Reply.TheVariants.{Done}
use Rattle.lst_machine.specs.Calls.{refused_or, accepted_unless, with_placed}
use Rattle.lst_machine.specs.Machines.{parts_of, state_of, store_of, write_refusal}
use Rattle.lst_machine.proofs.Founding.{whole_pushed, whole_unplaced, popped}
use Rattle.lst_machine.proofs.machine.Machine.write_first.Goals as goal

pub invariant_of-self : goal.invariant_of-self
invariant_of-self c = record { whole = whole_pushed c.args.self.now.limits (parts_of c.args.self.now) c.args.key c.push.new.self.items (is_ok c.push.result) c.args.self.now.whole c.requires.room c.push.ensures.items }

pub invariant_of-self-in-Err : goal.invariant_of-self-in-Err
invariant_of-self-in-Err c = record {
  whole = whole_unplaced c.write.new.self.limits (parts_of c.write.new.self) c.pop.new.self.items c.write.new.self.whole (let fewer = c.pop.ensures.len in omega (arith, fewer));
}

pub returns-in-Ok-clause-ok : goal.returns-in-Ok-clause-ok
returns-in-Ok-clause-ok c =
    let same : record (store_of c.args.self.now) { placed = c.push.new.self.items } ≡ with_placed (store_of c.args.self.now) c.args.key =
    ap (λ (placed : List ℕ). record (store_of c.args.self.now) { placed = placed }) (c.in_ok-push.ensures.items ∙ ap (λ (o : Option ℕ). cond (is_some o) c.args.self.now.placed.items (c.args.self.now.placed.items ++ c.args.key ∷ [])) (sym c.requires.absent)) in (
      c.in-Ok.ensures.ok.0 ∙ ap (λ (st : Store). refused_or (write_refusal c.args.self.now.limits st c.args.session c.args.begin c.args.key c.args.act.now) Done) same,
      c.in-Ok.ensures.ok.1 ∙ ap (λ (st : Store). record (state_of c.args.self.now) { store = accepted_unless (write_refusal c.args.self.now.limits st c.args.session c.args.begin c.args.key c.args.act.now) st c.args.session c.args.key c.args.act.now }) same,
    )

pub returns-in-Err-clause-err : goal.returns-in-Err-clause-err
returns-in-Err-clause-err c =
    let state = c.in-Err.ensures.err in
    let all : c.write.new.self.placed.items ≡ c.args.self.now.placed.items ++ c.args.key ∷ [] = ap (λ (st : State). st.store.placed) state ∙ c.in_ok-push.ensures.items in
    let placed = popped c.args.self.now.placed.items c.pop.new.self.items c.write.new.self.placed.items c.args.key c.write.new.self.placed.len c.pop.new.self.len c.write.new.self.placed.ok.0 c.pop.new.self.ok.0 c.pop.result c.pop.ensures.cases all c.pop.ensures.items in
    ap (λ (st : State). record st { store = record st.store { placed = c.pop.new.self.items } }) state
    ∙ ap (λ (xs : List ℕ). record (state_of c.args.self.now) { store = record (store_of c.args.self.now) { placed = xs } }) placed
