-- What a load of the clock tells of commit times.
use Rattle.std.proofs.Common.{◌≡◌, ℕ, ◌+◌, ◌*◌, ◌/◌, ◌%◌, ◌<◌, ◌≤◌, true, length, sym, ap, ◌∙◌, arith}
use Rattle.lst_layout.specs.Words.{Words, shown}
use Rattle.lst_core_state.specs.declared.known.Known.{Known}
use Rattle.lst_core_state.specs.declared.facts.Fact.TheVariants.{CommitAt}
use Rattle.lst_core_state.specs.declared.facts.Find.TheVariants.{UnfinishedVersion}
use Rattle.lst_core_state.specs.Facts.{unfinished}
use Rattle.lst_core_state.specs.State.{name_of}
use Rattle.lst_rule.specs.declared.view.View.{View}
use Rattle.lst_rule.specs.Rule.{knows, hosts}
use Rattle.lst_rule.proofs.Knowing.{is_fact}
use Rattle.lst_rule.specs.Stores.{Clocked}
use Rattle.lst_rule.specs.Copies.{Version}
use Rattle.lst_rule.specs.Loads.{StartFound}
use Rattle.lst_rule.proofs.Finding.{unfinished_is_about}
use Rattle.lst_write.specs.Standings.{IsStamp}

-- the words of a name
pub name_parts : (j n x : ℕ) → j < 16 → x ≡ name_of j n → (x % 16 ≡ j) × (x / 16 ≡ n)
name_parts j n x few e = (omega arith, omega arith)

module _ (v w : View) (s x : ℕ) (hosted : hosts v s ≡ true) (clock : Clocked v w s x) where
  abbrev W : Words
  W = shown v.limits clock.looked.met.made.told.words

  -- all that is committed then is seen
  pub seen_all : length (knows w s).seen ≡ x
  seen_all = ap (λ (k : Known). length k.seen) clock.view.now ∙ clock.clock

  -- the time of a stamp is one that the clock has reached
  pub stamp_seen : (time : ℕ) → IsStamp (knows v s) time → time ≤ length (knows w s).seen
  stamp_seen time stamp = let t = clock.looked.met.made.told in let f = is_fact v t.words t.known t.merger t.allowed s hosted (CommitAt time (stamp.0 % 16) (stamp.0 / 16)) stamp.1 in
      let a = f.1 in let e : W.clock ≡ x = clock.looked.met.found in let b = seen_all in omega arith

-- the find that a version is unfinished is about its record
pub find_is : (k : Known) (rec j n : ℕ) (c : Version) → k.is_open ≡ true → j < 16 → StartFound k rec c (1 + 2 * c.writer) → c.writer ≡ name_of j n → unfinished k j n ≡ UnfinishedVersion (rec + 1) c.tail j n (k.begin + 1)
find_is k rec j n c is_on few start name = let q = name_parts j n c.writer few name in
    (λ i. unfinished k (sym q.0 i) (sym q.1 i)) ∙ (unfinished_is_about k rec c is_on start (omega arith) ∙ (λ i. UnfinishedVersion (rec + 1) c.tail (q.0 i) (q.1 i) (k.begin + 1)))
