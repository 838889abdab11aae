-- The history that a crew tells: it is sound, and its rows and patches have the columns of the store.
use Rattle.std.proofs.Common.{◌≡◌, ℕ, zero, suc, Bool, true, false, cond, List, [], ◌∷◌, ◌++◌, length, refl, sym, ap, subst, ◌∙◌}
use Rattle.std.specs.List.{AllByRecursion}
use Rattle.std.specs.Prelude.{eqb, nat_lt}
use Rattle.lst_layout.specs.declared.limits.Limits.{Limits}
use Rattle.lst_layout.specs.Words.{shown}
use Rattle.lst_model.specs.declared.acts.Act.{Act}
use Rattle.lst_model.specs.declared.acts.Act.TheVariants.{Put, Set, Del}
use Rattle.lst_model.specs.declared.acts.Write.{Write}
use Rattle.lst_model.specs.declared.commits.Commit.{Commit}
use Rattle.lst_model.specs.Cells.{Cell, patched}
use Rattle.lst_model.specs.CellLaws.{length-cells_of, length-patched}
use Rattle.lst_model.specs.Histories.{joined}
use Rattle.lst_model.specs.Soundness.{IsSound}
use Rattle.lst_core_state.specs.Cells.{listed, act_with, act_of, kind_of, mask_of, nulls_of, tail_count}
use Rattle.lst_core_state.specs.State.{Words, Core, state_over, record_in, act_in, is_by, writes_of, commit_at, history, history_of}
use Rattle.lst_core_state.specs.Writes.{write, writes_by}
use Rattle.lst_core_state.proofs.Statements.{histories_are_sound}
use Rattle.lst_rule.specs.declared.view.View.{View}
use Rattle.lst_rule.specs.Learned.{Possible}
use Rattle.lst_session.specs.Crews.{store_told}
use Rattle.lst_historic.specs.Blocks.{ActIsWide, AreWide}

-- it is sound
pub sound_told : (v : View) → Possible v → v.whole ≡ true → IsSound (store_told v).history
sound_told v p whole =
    let c : Core = state_over v.limits p.words p.known p.merger in
    subst (λ (words : List ℕ). IsSound (history_of v.limits (shown v.limits words))) (sym (p.allowed.whole whole)) (histories_are_sound c p.allowed.sound).sound

length-listed : (word : ℕ → ℕ) (p n : ℕ) → length (listed word p n) ≡ n
length-listed word p zero = refl
length-listed word p (suc n) = ap suc (length-listed word (suc p) n)

wide_with : (kind mask columns : ℕ) (cells : List Cell) → length cells ≡ columns → ActIsWide columns (act_with kind mask cells)
wide_with kind mask columns cells size = by (eqb kind 1) (eqb kind 2)
  where
    by : (put set : Bool) → ActIsWide columns (cond put (Put cells) (cond set (Set (patched mask 0 cells)) Del))
    by true set = size
    by false true = length-patched mask 0 cells ∙ size
    by false false = tt

wide_act : (columns encoding : ℕ) (values : List ℕ) → length values ≡ columns → ActIsWide columns (act_of encoding values)
unfolding act_of
wide_act columns encoding values size = wide_with (kind_of encoding) (mask_of encoding) columns _ (length-cells_of (nulls_of encoding) 0 values ∙ size)

abbrev AreWideWrites : ℕ → List Write → Type 0
AreWideWrites columns writes = AllByRecursion (λ (w : Write). ActIsWide columns w.act) writes

wide_joined : (columns : ℕ) (writes : List Write) (new : Write) → AreWideWrites columns writes → ActIsWide columns new.act → AreWideWrites columns (joined writes new)
wide_joined columns [] new all own = (own, tt)
wide_joined columns (w ∷ writes) new all own = by (nat_lt new.key w.key) (wide_joined columns writes new all.1 own)
  where
    by : (b : Bool) → AreWideWrites columns (joined writes new) → AreWideWrites columns (cond b (new ∷ w ∷ writes) (w ∷ joined writes new))
    by true rest = (own, all)
    by false rest = (all.0, rest)

wide_writes : (columns : ℕ) (p : ℕ → Bool) (key : ℕ → ℕ) (act : ℕ → Act) (n : ℕ) → ((t : ℕ) → ActIsWide columns (act t)) → AreWideWrites columns (writes_by p key act n)
wide_writes columns p key act zero each = tt
wide_writes columns p key act (suc n) each = by (p (suc n)) (wide_writes columns p key act n each)
  where
    by : (b : Bool) → AreWideWrites columns (writes_by p key act n) → AreWideWrites columns (cond b (joined (writes_by p key act n) (write (key (suc n)) (act (suc n)))) (writes_by p key act n))
    by true rest = wide_joined columns (writes_by p key act n) (write (key (suc n)) (act (suc n))) rest (each (suc n))
    by false rest = rest

wide_behind : (columns : ℕ) (front : List Commit) (last : Commit) → AreWide columns front → AreWideWrites columns last.writes → AreWide columns (front ++ last ∷ [])
wide_behind columns [] last all own = (own, tt)
wide_behind columns (c ∷ front) last all own = (all.0, wide_behind columns front last all.1 own)

wide_until : (columns clock : ℕ) (log : ℕ → ℕ) (begins : ℕ → ℕ → ℕ) (ws : ℕ → List Write) → ((x : ℕ) → AreWideWrites columns (ws x)) → AreWide columns (history clock log begins ws)
unfolding history
wide_until columns zero log begins ws each = tt
wide_until columns (suc t) log begins ws each = wide_behind columns (history t log begins ws) (commit_at log begins ws (suc t)) (wide_until columns t log begins ws each) (each (log (suc t)))

wide_history : (l : Limits) (w : Words) → AreWide l.columns (history_of l w)
wide_history l w = wide_until l.columns w.clock w.log w.begins (writes_of l w) (λ x.
    wide_writes l.columns (is_by w.log w.cells x) (λ t. w.keys (record_in l w.cells t)) (act_in l w.cells) (tail_count l) (λ t. wide_act l.columns (w.cells t 1) (listed (w.cells t) 3 l.columns) (length-listed (w.cells t) 3 l.columns)))

-- and its rows and patches have the columns of the store
pub wide_told : (v : View) → AreWide v.limits.columns (store_told v).history
wide_told v = wide_history v.limits (shown v.limits v.words)
