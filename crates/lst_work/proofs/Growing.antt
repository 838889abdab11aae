-- A list of replies that grows.
use Rattle.std.proofs.Common.{◌≡◌, ℕ, List, [], ◌∷◌, ◌++◌, Option, sym, subst, ap, ◌∙◌, append_assoc, append-nil}
use Rattle.lst_model.specs.declared.replies.Reply.{Reply}
use Rattle.lst_work.specs.Orders.{GrowsBy}

module _ (P : List (Option ℕ × Reply) → Type 0) (old now : List (Option ℕ × Reply)) where
  pub grown_by_none : now ≡ old → P [] → GrowsBy P old now
  grown_by_none is none = record { added = []; grows = is ∙ sym (append-nil old); so = none }

  pub grown_from : (older : List (Option ℕ × Reply)) → old ≡ older → GrowsBy P old now → GrowsBy P older now
  grown_from older is x = record { added = x.added; grows = x.grows ∙ ap (λ (rs : List (Option ℕ × Reply)). rs ++ x.added) is; so = x.so }

  -- where nothing was there before
  pub grown_alone : old ≡ [] → GrowsBy P old now → P now
  grown_alone none x = subst P (sym (x.grows ∙ ap (λ (rs : List (Option ℕ × Reply)). rs ++ x.added) none)) x.so

  module _ (Q : List (Option ℕ × Reply) → Type 0) (x : GrowsBy P old now) where
    pub grown_as : Q x.added → GrowsBy Q old now
    grown_as so = record { added = x.added; grows = x.grows; so = so }

    -- by one reply more
    pub grown_on : (reply : Option ℕ × Reply) (longer : List (Option ℕ × Reply)) → longer ≡ now ++ reply ∷ [] → Q (x.added ++ reply ∷ []) → GrowsBy Q old longer
    grown_on reply longer is so = record {
      added = x.added ++ reply ∷ [];
      grows = is ∙ (ap (λ (rs : List (Option ℕ × Reply)). rs ++ reply ∷ []) x.grows ∙ append_assoc old x.added (reply ∷ []));
      so = so;
    }
