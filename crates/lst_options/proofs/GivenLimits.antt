-- Limits that the values of options give, one after the other.
use Rattle.std.proofs.Common.{◌≡◌, ℕ, Option, Some, None, codes, ap, ◌∙◌}
use Rattle.std.specs.Prelude.{IfSome}
use Rattle.clap.specs.Words.{Text}
use Rattle.lst_layout.specs.declared.limits.Limits.{Limits}
use Rattle.lst_layout.specs.Limits.{default_limits}
use Rattle.lst_options.specs.Options.{GivesLimits, number_or, index_or}

pub if_none : (A : Type 0) (r : Option A) (P : A → Type 0) → r ≡ None → IfSome r P
if_none A None P none = tt
if_none A (Some a) P none = absurd cc

-- what gives no number gives none to any limits
pub gives_none : (o : Option ℕ) (n : ℕ) → None ≡ o → o ≡ Some n → ⊥
gives_none o n none some = let same : None ≡ Some n = none ∙ some in cc

-- a default of these limits stands for that of all
pub with_default : (d e least most : ℕ) (value : Option Text) (r : Option ℕ) → d ≡ e → r ≡ number_or d least most value → r ≡ number_or e least most value
with_default d e least most value r same is = is ∙ ap (λ (n : ℕ). number_or n least most value) same

-- the columns that are given are those that the index is one of
pub index_none : (value : Text → Option Text) (columns : ℕ) (limits : Limits) → Some columns ≡ number_or default_limits.columns 1 8 (value (codes "columns")) → None ≡ index_or columns (value (codes "index")) → GivesLimits value limits → ⊥
index_none value columns limits given none gives =
    let two : Some columns ≡ Some limits.columns = given ∙ gives.columns in
    let same : columns ≡ limits.columns = cc in
    gives_none (index_or limits.columns (value (codes "index"))) limits.indexed (none ∙ ap (λ (n : ℕ). index_or n (value (codes "index"))) same) gives.indexed
