-- A write that is tried: how each refusal comes.
use Rattle.std.proofs.Common.{◌≡◌, ℕ, Result, Ok, Err, sym, subst, inr}
use Rattle.lst_model.specs.declared.acts.Act.{Act}
use Rattle.lst_model.specs.declared.acts.Act.TheVariants.{Put, Set, Del}
use Rattle.lst_rule.specs.declared.view.View.{View}
use Rattle.lst_session.specs.declared.kinds.WriteRefusal.{WriteRefusal}
use Rattle.lst_session.specs.declared.kinds.WriteRefusal.TheVariants.{Idle, ReadOnly, Missing, Exists, TableFull, Latched, Newer, Unfinished, TailFull}
use Rattle.lst_session.specs.Traces.{misfit_of, Judges, Prepares, Releases, Tries, TriesFound, TriesPlaced, MayWrite, Changes, Inserts}

-- only Exists and Missing are the refusal of an act that doesn't fit
abbrev IsMisfit : WriteRefusal → Type 0
IsMisfit Exists = Unit {0}
IsMisfit Missing = Unit {0}
IsMisfit refusal = ⊥

misfit_is : (act : Act) → IsMisfit (misfit_of act)
misfit_is (Put row) = tt
misfit_is (Set patch) = tt
misfit_is Del = tt

is_misfit : (act : Act) (refusal : WriteRefusal) → refusal ≡ misfit_of act → IsMisfit refusal
is_misfit act refusal e = subst IsMisfit (sym e) (misfit_is act)

module _ (v w : View) (s rec head key : ℕ) (act : Act) where
  judged_misfit : (refusal : WriteRefusal) → Judges v w s rec head key act (Err refusal) → IsMisfit refusal
  judged_misfit refusal j = is_misfit act refusal j.agrees.1

  pub misfit_prepares : (refusal : WriteRefusal) → Judges v w s rec head key act (Err refusal) → Prepares v w s rec head key act (Err refusal)
  misfit_prepares Idle j = j
  misfit_prepares ReadOnly j = j
  misfit_prepares Missing j = j
  misfit_prepares Exists j = j
  misfit_prepares TableFull j = j
  misfit_prepares Latched j = j
  misfit_prepares (Newer time) j = absurd (judged_misfit (Newer time) j)
  misfit_prepares (Unfinished session number) j = absurd (judged_misfit (Unfinished session number) j)
  misfit_prepares TailFull j = absurd (judged_misfit TailFull j)

module _ (v w : View) (s rec key : ℕ) (act : Act) where
  abbrev misfit : (refusal : WriteRefusal) → (r : Releases v w s rec key act refusal) → Judges r.holding.between r.between s rec r.holding.head key act (Err refusal) → IsMisfit refusal
  misfit refusal r j = is_misfit act refusal j.agrees.1

  pub released_tries : (refusal : WriteRefusal) → Releases v w s rec key act refusal → Tries v w s rec key act (Err refusal)
  released_tries Idle r = r
  released_tries ReadOnly r = r
  released_tries Missing r = r
  released_tries Exists r = r
  released_tries TableFull r = r
  released_tries Latched r = absurd (misfit Latched r r.holding.prepares)
  released_tries (Newer time) r = r
  released_tries (Unfinished session number) r = r
  released_tries TailFull r = r

  pub never_idle : Tries v w s rec key act (Err Idle) → ⊥
  never_idle r = misfit Idle r r.holding.prepares

  pub never_read_only : Tries v w s rec key act (Err ReadOnly) → ⊥
  never_read_only r = misfit ReadOnly r r.holding.prepares

  pub never_table_full : Tries v w s rec key act (Err TableFull) → ⊥
  never_table_full r = misfit TableFull r r.holding.prepares

module _ (v w : View) (s key : ℕ) (act : Act) (may : MayWrite v s) where
  pub changed : (result : Result (Unit {0}) WriteRefusal) → TriesFound v w s key act result → Changes v w s key act result
  changed (Ok x) t = (may, inr t)
  changed (Err Idle) t = absurd (never_idle t.between w s t.rec key act t.tries)
  changed (Err ReadOnly) t = absurd (never_read_only t.between w s t.rec key act t.tries)
  changed (Err Missing) t = (may, inr t)
  changed (Err Exists) t = (may, inr t)
  changed (Err TableFull) t = (may, inr t)
  changed (Err Latched) t = (may, inr t)
  changed (Err (Newer time)) t = (may, inr t)
  changed (Err (Unfinished session number)) t = (may, inr t)
  changed (Err TailFull) t = (may, inr t)

  pub inserted : (result : Result (Unit {0}) WriteRefusal) → TriesPlaced v w s key act result → Inserts v w s key act result
  inserted (Ok x) t = (may, t)
  inserted (Err Idle) t = absurd (never_idle t.between w s t.rec key act t.tries)
  inserted (Err ReadOnly) t = absurd (never_read_only t.between w s t.rec key act t.tries)
  inserted (Err Missing) t = (may, t)
  inserted (Err Exists) t = (may, t)
  inserted (Err TableFull) t = absurd (never_table_full t.between w s t.rec key act t.tries)
  inserted (Err Latched) t = (may, t)
  inserted (Err (Newer time)) t = (may, t)
  inserted (Err (Unfinished session number)) t = (may, t)
  inserted (Err TailFull) t = (may, t)
