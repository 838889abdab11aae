use Rattle.std.proofs.Common.{◌≡◌, ℕ, [], ◌∷◌, ◌++◌, List, refl, sym, ap, ◌∙◌}
use Rattle.std.proofs.lemmas.Map.Iter.{rest_more, rest_all}
use Rattle.std.specs.Map.Iter.{deref}
use Rattle.lst_model.specs.Tables.{row_of}
use Rattle.lst_machine.specs.Listings.{listed}
use Rattle.lst_machine.proofs.Listing.{listed_next, listed_all, listed_entries}
use Rattle.lst_machine.proofs.sight.Sight.rows.Goals as goal

pub loop-key-preserved : goal.loop-key-preserved
loop-key-preserved c =
    let more : c.loop-key.key-iterator ≡ c.in-Some.key.now ∷ c.next.new.self = rest_more (deref {X = ℕ}) c.loop-key.key-iterator c.next.new.self c.next.result c.in-Some.key c.in-Some.is c.next.ensures.steps in
    listed_next (λ (key : ℕ). row_of c.args.self.now.table key) c.loop-key.rows c.list_row.new.rows c.in-Some.key.now c.row.result c.next.new.self c.args.self.now.keys.keys
    c.in_ok-list_row.ensures.ok c.row.ensures
    (ap (λ (rest : List ℕ). c.loop-key.rows ++ listed (λ (key : ℕ). row_of c.args.self.now.table key) rest) (sym more) ∙ c.loop-key.invariant)

pub returns : goal.returns
returns c =
    let none : c.loop-key.key-iterator ≡ [] = rest_all (deref {X = ℕ}) c.loop-key.key-iterator c.next.new.self c.next.result c.in-None.is c.next.ensures.steps in
    listed_all (λ (key : ℕ). row_of c.args.self.now.table key) c.loop-key.rows c.loop-key.key-iterator c.args.self.now.keys.keys none c.loop-key.invariant
    ∙ listed_entries (λ (key : ℕ). row_of c.args.self.now.table key) c.args.self.now.table c.args.self.now.keys.keys c.iter-key-items.ensures.ordered (λ q. refl) c.args.self.now.covers
