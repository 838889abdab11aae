-- A seat that hosts everybody takes stock of all words before it reads the history.
use Rattle.std.proofs.Common.{◌≡◌, ℕ, zero, suc, ◌<◌, ◌≤◌, List, [], ◌∷◌, ◌++◌, map, true, Contains, sym, refl, subst, ap, ◌∙◌, arith}
use Rattle.std.proofs.lemmas.List.{map-append}
use Rattle.lst_model.specs.declared.commits.Commit.{Commit}
use Rattle.lst_model.specs.declared.acts.Write.{Write}
use Rattle.lst_core_state.specs.declared.known.Known.{Known}
use Rattle.lst_core_state.specs.declared.facts.Find.TheVariants.{FullTails}
use Rattle.lst_core_state.specs.State.{rank, history, history_of, commit_at}
use Rattle.lst_rule.specs.declared.view.View.{View}
use Rattle.lst_rule.specs.declared.store.Store.{Store}
use Rattle.lst_rule.specs.Rule.{knows, hosts}
use Rattle.lst_rule.specs.Seats.{Sitting}
use Rattle.lst_rule.specs.Stores.{IsSeatOf}
use Rattle.lst_rule.specs.Surveys.{HostsAll, Surveyed}
use Rattle.lst_rule.specs.Learned.{Possible}
use Rattle.lst_rule.proofs.Knowing.{knows_own, whole_words}
use Rattle.lst_rule.proofs.Surveying.{survey_kept}
use Rattle.lst_history.specs.Commits.{without_writes}
use Rattle.lst_history.specs.Peeks.{words_in, IsReader, Reads, Recounts}
use Rattle.lst_history.proofs.Looks.{same_words}

-- what is asked of a reader, of the view alone
record MayRead (v : View) (s : ℕ) : Type 0 where
  pub host : hosts v s ≡ true
  pub own : s < v.limits.sessions
  pub whole : v.whole ≡ true
  pub hand : (knows v s).placing.hand ≡ 0
  pub turn : rank (knows v s).turn ≡ 0

pub stock_reader : (store : Store) (a b : Sitting) (s : ℕ) → IsSeatOf store b → Surveyed a.view b.view → HostsAll a.view → s < a.view.limits.sessions → (knows a.view s).placing.hand ≡ 0 → rank (knows a.view s).turn ≡ 0 → IsReader store b s
stock_reader store a b s seat t all own hand turn = record { seat_of = seat; host = m.host; own = m.own; whole = m.whole; hand = m.hand; turn = m.turn }
  where
    m : MayRead b.view s
    m = subst (λ (v : View). MayRead v s) (sym t.now) record { host = all s (omega arith); own = own; whole = refl; hand = hand; turn = turn }

-- a range that was found full is full
full_is : (store : Store) (c : Sitting) (s : ℕ) → IsReader store c s → Possible c.view → (range : ℕ) → Contains (knows c.view s).finds (FullTails range) → c.view.limits.tails ≤ (words_in c.view).counts range
full_is store c s reader p range has = let a = whole_words c.view p.words p.known p.merger p.allowed reader.whole in let low = reader.own in
    (a.sound.found s reader.own).each (FullTails range) (subst (λ (k : Known). Contains k.finds (FullTails range)) (knows_own c.view c.view.words p.known p.merger a s reader.host (λ e. omega arith)) has)

pub recounts : (store : Store) (a b c : Sitting) (s : ℕ) → Surveyed a.view b.view → Reads store b c s → Possible c.view → Recounts a.view c.view s
recounts store a b c s t reads p = record {
  between = b.view;
  surveyed = t;
  peeks = reads.peeks;
  whole = reads.reader.whole;
  full = full_is store c s reads.reader p;
  kept = record { words = λ whole. reads.words ∙ (survey_kept a.view b.view t).words whole };
}

-- what it reads is the history of the words that it knows then
pub same_history : (store : Store) (b c : Sitting) (s : ℕ) → Reads store b c s → history_of b.view.limits (words_in b.view) ≡ history_of c.view.limits (words_in c.view)
same_history store b c s reads = sym (λ i. history_of (reads.limits i) (same_words store b c s reads i))

-- the commits that have no writes are those of any history, but for their writes
pub bare_history : (c : ℕ) (log : ℕ → ℕ) (begins : ℕ → ℕ → ℕ) (ws : ℕ → List Write) → history c log begins (λ _. []) ≡ map without_writes (history c log begins ws)
unfolding history
bare_history zero log begins ws = refl
bare_history (suc t) log begins ws = ap (λ (cs : List Commit). cs ++ commit_at log begins (λ _. []) (suc t) ∷ []) (bare_history t log begins ws)
    ∙ sym (map-append without_writes (history t log begins ws) (commit_at log begins ws (suc t) ∷ []))
