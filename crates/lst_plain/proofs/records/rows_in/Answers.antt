use Rattle.std.proofs.Common.{◌≡◌, ℕ, [], ◌∷◌, ◌++◌, List, sym, ap, ◌∙◌}
use Rattle.std.proofs.lemmas.Map.Iter.{rest_more, rest_all}
use Rattle.std.specs.Map.Iter.{deref}
use Rattle.std.specs.BTreeMap.{keys}
use Rattle.lst_machine.specs.Listings.{listed}
use Rattle.lst_machine.proofs.Listing.{listed_next, listed_all, listed_entries}
use Rattle.lst_plain.specs.Rows.{row_seen, kept_of}
use Rattle.lst_plain.proofs.Scanned.{covered}
use Rattle.lst_plain.proofs.records.rows_in.Goals as goal

pub loop-key-preserved : goal.loop-key-preserved
loop-key-preserved c =
    let more : c.loop-key.key-iterator ≡ c.in-Some.key.now ∷ c.next.new.self = rest_more (deref {X = ℕ}) c.loop-key.key-iterator c.next.new.self c.next.result c.in-Some.key c.in-Some.is c.next.ensures.steps in
    listed_next (λ (key : ℕ). row_seen (kept_of c.args.records.now key) c.args.session c.args.begin) c.loop-key.rows c.list_row.new.rows c.in-Some.key.now c.row_in-row.result c.next.new.self (keys c.args.places.now)
    c.in_ok-list_row.ensures.ok c.row_in-row.ensures
    (ap (λ (rest : List ℕ). c.loop-key.rows ++ listed (λ (key : ℕ). row_seen (kept_of c.args.records.now key) c.args.session c.args.begin) rest) (sym more) ∙ c.loop-key.invariant)

pub returns : goal.returns
returns c = λ table same.
    let none : c.loop-key.key-iterator ≡ [] = rest_all (deref {X = ℕ}) c.loop-key.key-iterator c.next.new.self c.next.result c.in-None.is c.next.ensures.steps in
    listed_all (λ (key : ℕ). row_seen (kept_of c.args.records.now key) c.args.session c.args.begin) c.loop-key.rows c.loop-key.key-iterator (keys c.args.places.now) none c.loop-key.invariant
    ∙ listed_entries (λ (key : ℕ). row_seen (kept_of c.args.records.now key) c.args.session c.args.begin) table (keys c.args.places.now) c.keys-key-items.ensures.ordered same
    (λ q none. covered c.args.places.now c.args.records.now c.requires c.args.session c.args.begin q none)
