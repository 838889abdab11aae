-- What a key's record says of each state in which the view is possible: for the crates above.
use Rattle.std.proofs.Common.{◌≡◌, ℕ, ◌<◌, List, true, sym, ap, ◌∙◌, arith}
use Rattle.lst_layout.specs.Words.{Words, shown}
use Rattle.lst_core_state.specs.declared.known.Known.{Known}
use Rattle.lst_core_state.specs.declared.events.Event.TheVariants.{Latch}
use Rattle.lst_core_state.specs.declared.facts.Fact.TheVariants.{IndexAt}
use Rattle.lst_core_state.specs.Cells.{record_count}
use Rattle.lst_core_state.specs.Index.{is_placed}
use Rattle.lst_core_state.proofs.Positions.{placed_holds}
use Rattle.lst_rule.specs.declared.view.View.{View}
use Rattle.lst_rule.specs.Rule.{knows, hosts, Allowed}
use Rattle.lst_rule.specs.Learned.{CanStand, Possible}
use Rattle.lst_rule.proofs.Knowing.{is_fact}
use Rattle.lst_index.specs.Searches.{IsPlaced}

-- the record is in the index, with the key
pub placed_in : (v : View) (words : List ℕ) (known : ℕ → Known) (merger : Known) (a : Allowed v words known merger) (s r key : ℕ) → hosts v s ≡ true → IsPlaced (knows v s) r key
    → let w = shown v.limits words in (is_placed v.limits w.index r ≡ true) × (w.keys r ≡ key) × (r < record_count v.limits)
placed_in v words known merger a s r key hosted p = let w : Words = shown v.limits words in let is = is_fact v words known merger a s hosted (IndexAt p.0 r key) p.1 in
    let f = a.sound.index.filled p.0 (let e = is.0 in omega arith) in (placed_holds v.limits w.index r p.0 f.position is.0, is.1, (let few = f.few in let e = is.0 in omega arith))

-- so it may be latched, as far as the words go
pub placed_stands : (v : View) (s r key : ℕ) → hosts v s ≡ true → IsPlaced (knows v s) r key → CanStand v (Latch s r)
placed_stands v s r key hosted p words known merger a = (placed_in v words known merger a s r key hosted p).0

-- and the key has no other record
pub placed_once : (v : View) (s r t key : ℕ) → hosts v s ≡ true → Possible v → IsPlaced (knows v s) r key → IsPlaced (knows v s) t key → r ≡ t
placed_once v s r t key hosted z p q = let w : Words = shown v.limits z.words in
    let a = is_fact v z.words z.known z.merger z.allowed s hosted (IndexAt p.0 r key) p.1 in let b = is_fact v z.words z.known z.merger z.allowed s hosted (IndexAt q.0 t key) q.1 in
    let same : p.0 ≡ q.0 = z.allowed.sound.index.one p.0 q.0 (let e = a.0 in omega arith) (let e = b.0 in omega arith)
    ((ap w.keys (let e = a.0 in omega arith) ∙ a.1) ∙ sym (ap w.keys (let e = b.0 in omega arith) ∙ b.1)) in
    let e = a.0 in let f = b.0 in let g = ap w.index same in omega arith
