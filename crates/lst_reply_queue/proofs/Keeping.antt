-- One reply more that is kept.
use Rattle.std.proofs.Common.{◌≡◌, ℕ, ◌≤◌, List, [], ◌∷◌, ◌++◌, length, take, drop, get_or, Option, Some, None, refl, sym, subst, ap, ◌∙◌, arith, length-append, append-nil}
use Rattle.std.specs.Prelude.{Result, Ok, Err, IsErr, IfOk, OnErr}
use Rattle.std.proofs.lemmas.List.{take-append-le, drop-append-le, take_all, drop_all}
use Rattle.lst_model.specs.declared.replies.Reply.{Reply}
use Rattle.lst_model.specs.declared.replies.Reply.TheVariants as variant
use Rattle.lst_reply_queue.specs.declared.kinds.Kind.{Kind}
use Rattle.lst_reply_queue.specs.declared.kinds.Kind.TheVariants.{Other}
use Rattle.lst_reply_queue.specs.Kinds.{width, told, IsWhole, reply_of, others_after, HasReply, all_told, AreKept, Stands, Keeps}

-- ---- the others

-- a reply that stands where there was none
stands_alone : (t : Option Reply) (reply : Reply) (others more : List Reply) → others ≡ [] → Stands t reply others more → HasReply t more × ((others_after t more ≡ []) × (reply_of t more ≡ reply))
stands_alone (Some r) reply others more none s = (tt, (s.1 ∙ none, s.0))
stands_alone None reply others more none s =
    let e : more ≡ reply ∷ [] = s ∙ ap (λ (os : List Reply). os ++ reply ∷ []) none in
    (let n = ap length e in omega arith, (ap (drop 1) e, ap (λ (os : List Reply). get_or os 0 variant.Silent) e))

-- one that stands behind others, of which the first is taken
behind : (first : Option Reply) (reply : Reply) (others : List Reply) → HasReply first others
    → HasReply first (others ++ reply ∷ []) × ((others_after first (others ++ reply ∷ []) ≡ others_after first others ++ reply ∷ []) × (reply_of first (others ++ reply ∷ []) ≡ reply_of first others))
behind (Some r) reply others has = (tt, (refl, refl))
behind None reply [] has = absurd (omega arith)
behind None reply (o ∷ others) has = (omega arith, (refl, refl))

stands_on : (t first : Option Reply) (reply : Reply) (others more : List Reply) → HasReply first others → Stands t reply others more
    → HasReply first more × (Stands t reply (others_after first others) (others_after first more) × (reply_of first more ≡ reply_of first others))
stands_on (Some r) first reply others more has s = (subst (HasReply first) (sym s.1) has, ((s.0, ap (others_after first) s.1), ap (reply_of first) s.1))
stands_on None first reply others more has s = let b = behind first reply others has in
    (subst (HasReply first) (sym s) b.0, (ap (others_after first) s ∙ b.1.0, ap (reply_of first) s ∙ b.1.1))

-- ---- the whole

abbrev IsMore : List Kind → List Kind → List ℕ → List ℕ → List Reply → List Reply → Reply → Type 0
IsMore kinds longer numbers wider others more reply = AreKept longer wider more × (all_told longer wider more ≡ all_told kinds numbers others ++ reply ∷ [])

module _ (kind : Kind) (reply : Reply) (added : List ℕ) (wide : length added ≡ width kind) (whole : IsWhole kind added) where
  -- the kind's numbers alone
  alone : (numbers : List ℕ) (others more : List Reply) → numbers ≡ added → others ≡ [] → Stands (told kind added) reply others more → IsMore [] (kind ∷ []) [] numbers [] more reply
  alone numbers others more e none s =
      let at : take (width kind) numbers ≡ added = take_all (width kind) numbers (let n = ap length e in omega arith) ∙ e in
      let past : drop (width kind) numbers ≡ [] = drop_all (width kind) numbers (let n = ap length e in omega arith) in
      let a = stands_alone (told kind added) reply others more none s in (
        (
          let n = ap length e in omega arith,
          (
            subst (IsWhole kind) (sym at) whole,
            (
              subst (λ (ns : List ℕ). HasReply (told kind ns) more) (sym at) a.0,
              (past, ap (λ (ns : List ℕ). others_after (told kind ns) more) at ∙ a.1.0),
            ),
          ),
        ),
        ap (λ (ns : List ℕ). reply_of (told kind ns) more ∷ []) at ∙ ap (λ (r : Reply). r ∷ []) a.1.1,
      )

  keeps_on : (kinds : List Kind) (numbers : List ℕ) (others more : List Reply) → AreKept kinds numbers others → Stands (told kind added) reply others more
      → IsMore kinds (kinds ++ kind ∷ []) numbers (numbers ++ added) others more reply
  keeps_on [] numbers others more x s = alone (numbers ++ added) others more (ap (λ (ns : List ℕ). ns ++ added) x.0) x.1 s
  keeps_on (k ∷ kinds) numbers others more x s =
      let first : take (width k) (numbers ++ added) ≡ take (width k) numbers = take-append-le (width k) numbers added x.0 in
      let after : drop (width k) (numbers ++ added) ≡ drop (width k) numbers ++ added = drop-append-le (width k) numbers added x.0 in
      let t = told k (take (width k) numbers) in
      let o = stands_on (told kind added) t reply others more x.1.1.0 s in
      let rest = keeps_on kinds (drop (width k) numbers) (others_after t others) (others_after t more) x.1.1.1 o.1.0 in
      let n = length-append numbers added in let low = x.0 in (
        (
          omega arith,
          (
            subst (IsWhole k) (sym first) x.1.0,
            (
              subst (λ (ns : List ℕ). HasReply (told k ns) more) (sym first) o.0,
              subst (λ (ns : List ℕ). AreKept (kinds ++ kind ∷ []) ns (others_after (told k (take (width k) (numbers ++ added))) more)) (sym after)
                  (subst (λ (ns : List ℕ). AreKept (kinds ++ kind ∷ []) (drop (width k) numbers ++ added) (others_after (told k ns) more)) (sym first) rest.0),
            ),
          ),
        ),
        ap (λ (ns : List ℕ). reply_of (told k ns) more ∷ all_told (kinds ++ kind ∷ []) (drop (width k) (numbers ++ added)) (others_after (told k ns) more)) first
            ∙ (ap (λ (ns : List ℕ). reply_of t more ∷ all_told (kinds ++ kind ∷ []) ns (others_after t more)) after
            ∙ (ap (λ (rs : List Reply). reply_of t more ∷ rs) rest.1
            ∙ ap (λ (r : Reply). r ∷ (all_told kinds (drop (width k) numbers) (others_after t others) ++ reply ∷ [])) o.1.1)),
      )

-- the same, as the program keeps it behind the numbers that were taken
module _ (kinds longer : List Kind) (numbers wider : List ℕ) (taken : ℕ) (others more : List Reply) (kind : Kind) (reply : Reply)
    (x : (taken ≤ length numbers) × AreKept kinds (drop taken numbers) others) (k : Keeps kind reply numbers wider others more) (is : longer ≡ kinds ++ kind ∷ []) where
  kept : IsMore kinds (kinds ++ kind ∷ []) (drop taken numbers) (drop taken numbers ++ k.added) others more reply
  kept = keeps_on kind reply k.added k.wide k.whole kinds (drop taken numbers) others more x.1 k.stands

  left : drop taken wider ≡ drop taken numbers ++ k.added
  left = ap (drop taken) k.adds ∙ drop-append-le taken numbers k.added x.0

  pub are_kept : (taken ≤ length wider) × AreKept longer (drop taken wider) more
  are_kept = (
    let n = ap length k.adds ∙ length-append numbers k.added in let low = x.0 in omega arith,
    subst (λ (ns : List ℕ). AreKept longer ns more) (sym left) (subst (λ (ks : List Kind). AreKept ks (drop taken numbers ++ k.added) more) (sym is) kept.0),
  )

  pub are_told : all_told longer (drop taken wider) more ≡ all_told kinds (drop taken numbers) others ++ reply ∷ []
  are_told = ap (λ (ks : List Kind). all_told ks (drop taken wider) more) is ∙ (ap (λ (ns : List ℕ). all_told (kinds ++ kind ∷ []) ns more) left ∙ kept.1)

-- ---- what is kept of a reply

-- it's told by its numbers
pub keeps_told : (kind : Kind) (reply : Reply) (added numbers longer : List ℕ) (others : List Reply) → longer ≡ numbers ++ added → length added ≡ width kind → IsWhole kind added → told kind added ≡ Some reply
    → Keeps kind reply numbers longer others others
keeps_told kind reply added numbers longer others adds wide whole tells = record {
  added = added;
  adds = adds;
  wide = wide;
  whole = whole;
  stands = subst (λ (t : Option Reply). Stands t reply others others) (sym tells) (refl, refl);
}

-- it has none
pub keeps_bare : (kind : Kind) (reply : Reply) (numbers : List ℕ) (others : List Reply) → width kind ≡ 0 → IsWhole kind [] → told kind [] ≡ Some reply → Keeps kind reply numbers numbers others others
keeps_bare kind reply numbers others none whole tells = keeps_told kind reply [] numbers numbers others (sym (append-nil numbers)) (sym none) whole tells

-- it stands behind the others
pub keeps_other : (reply : Reply) (numbers : List ℕ) (others more : List Reply) → more ≡ others ++ reply ∷ [] → Keeps Other reply numbers numbers others more
keeps_other reply numbers others more behind = record { added = []; adds = sym (append-nil numbers); wide = refl; whole = tt; stands = behind }

pub no_kind : (E : Type 0) (r : Result Kind E) (P : Kind → Type 0) → IsErr r → IfOk r P
no_kind E (Ok kind) P failed = absurd cc
no_kind E (Err e) P failed = tt

pub when_failed : (E Q : Type 0) (r : Result Kind E) → IsErr r → Q → OnErr r Q
when_failed E Q (Ok kind) failed q = tt
when_failed E Q (Err e) failed q = q
