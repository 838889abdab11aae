-- Pages into which nothing is folded, and sessions without transactions.
use Rattle.std.proofs.Common.{◌≡◌, ℕ, zero, suc, ◌+◌, ◌*◌, ◌<◌, length, get_or, replicate, refl, sym, ap, ◌∙◌, subst, arith}
use Rattle.std.proofs.lemmas.List.{length-replicate}
use Rattle.lst_layout.specs.declared.limits.Limits.{Limits}
use Rattle.lst_machine.specs.State.{opening}
use Rattle.lst_plain.specs.Lineages.{HolderState, LineageState, new_holder, IsWide}
use Rattle.lst_plain.specs.Pages.{HolderTells, PagesTell}

no_number : (n i : ℕ) → ◌≡◌ {A = ℕ} (get_or (replicate n 0) i 0) 0
no_number zero i = refl
no_number (suc n) zero = refl
no_number (suc n) (suc i) = no_number n i

in_replicate : {A : Type 0} (n i : ℕ) (x d : A) → i < n → get_or (replicate n x) i d ≡ x
in_replicate zero i x d low = absurd (omega (arith, low))
in_replicate (suc n) zero x d low = refl
in_replicate (suc n) (suc i) x d low = in_replicate n i x d (omega (arith, low))

abbrev pub new_lineage : Limits → LineageState
new_lineage limits = record { tps = replicate (limits.ranges * limits.columns) 0; holders = replicate limits.sessions (new_holder limits.ranges) }

pub wide_new : (limits : Limits) → IsWide limits (new_lineage limits)
wide_new limits = record {
  pages = length-replicate (limits.ranges * limits.columns) 0;
  sessions = length-replicate limits.sessions (new_holder limits.ranges);
  ranges = λ session low. ap (λ (holder : HolderState). length holder.firsts) (in_replicate limits.sessions session (new_holder limits.ranges) (new_holder 0) low) ∙ length-replicate limits.ranges 0;
}

pub pages_opening : (limits : Limits) → PagesTell (new_lineage limits) limits opening
pages_opening limits = record {
  tps = λ range column low in_row. sym (no_number (limits.ranges * limits.columns) (range * limits.columns + column));
  holders = λ session low. subst (λ (holder : HolderState). HolderTells holder limits opening session) (sym (in_replicate limits.sessions session (new_holder limits.ranges) (new_holder 0) low))
      (record { swaps = refl; firsts = λ range in_range. no_number limits.ranges range });
  writes = λ range. tt;
}
