-- A view is split, and the rule is kept.
use Rattle.std.proofs.Common.{◌≡◌, ◌≢◌, ℕ, zero, suc, ◌+◌, ◌<◌, ◌≤◌, List, [], ◌∷◌, ◌++◌, Bool, true, false, cond, length, get_or, set, replicate, refl, sym, subst, ap, ◌∙◌, arith, true≢false, ◌⊎◌, ⊎_elim, inl, inr, length-set, get_or-set_other, get_or-set_same}
use mathlib.Core.Logic.{dite}
use mathlib.Core.Option.{some, some-injective, some-ne-none}
use native.Mathlib.Decide.{ℕ_discrete, dec_lt}
use lib.ListN.{get_elem?, length-replicate}
use Rattle.std.proofs.lemmas.Bool.{cases_Bool}
use Rattle.std.proofs.lemmas.List.{get_or_past}
use Rattle.atomic_table.specs.Table.{Splits}
use Rattle.atomic_table.proofs.Lists.{at_set}
use Rattle.lst_layout.specs.declared.limits.Limits.{Limits}
use Rattle.lst_layout.specs.Areas.{words_of}
use Rattle.lst_layout.specs.Words.{shown}
use Rattle.lst_model.specs.Histories.{Extends}
use Rattle.lst_core_state.specs.declared.known.Known.{Known}
use Rattle.lst_core_state.specs.State.{Core, newcomer, history_of, state_over}
use Rattle.lst_core_state.specs.Sound.{Sound, FactsOf, SeenIsRecorded}
use Rattle.lst_pages.specs.Known.{PagesSound}
use Rattle.lst_rule.specs.declared.view.View.{View}
use Rattle.lst_rule.specs.Rule.{knows, hosts, Fits, Ruled, Allowed}
use Rattle.lst_rule.specs.Joins.{without, alone, noted}
use Rattle.lst_rule.proofs.Knowing.{knows_own, knows_merger, low_own, is_fact, is_seen}
use Rattle.lst_rule.proofs.Opening.{same_at}
use Rattle.lst_rule.proofs.Allowing.{allowed}

at_end : {A : Type 0} (l : List A) (a b : A) (j : ℕ) → get_elem? (l ++ a ∷ []) j ≡ some b → (get_elem? l j ≡ some b) ⊎ ((j ≡ length l) × (a ≡ b))
at_end [] a b zero e = inr (refl, some-injective a b e)
at_end [] a b (suc j) e = absurd (some-ne-none b (sym e))
at_end (x ∷ xs) a b zero e = inl e
at_end (x ∷ xs) a b (suc j) e = ⊎_elim (λ h. inl h) (λ h. inr (ap suc h.0, h.1)) (at_end xs a b j e)

-- what a view is told is so, over these words
pub record Tellable (l : Limits) (words : List ℕ) (part : View) : Type 0 where
  pub told : Extends (history_of l (shown l words)) part.note
  pub facts : FactsOf l (shown l words) part.note_facts
  pub keys : SeenIsRecorded part.note_facts part.note

-- a part of the view v
pub record IsPart (v part : View) : Type 0 where
  pub limits : part.limits ≡ v.limits
  pub known : part.known ≡ v.known
  pub hosted : (s : ℕ) → hosts part s ≡ true → hosts v s ≡ true
  pub whole : part.whole ≡ true → (v.whole ≡ true) × (part.words ≡ v.words) × ((s : ℕ) → hosts v s ≡ true → hosts part s ≡ true)
  pub note : (words : List ℕ) (known : ℕ → Known) (merger : Known) → Allowed v words known merger → Tellable v.limits words part

part_fits : (words : List ℕ) (known : ℕ → Known) (merger : Known) (owner : ℕ → ℕ) (j : ℕ) (v part : View) → Allowed v words known merger → IsPart v part → ((s : ℕ) → hosts part s ≡ true → owner s ≡ j) → Fits words (state_over v.limits words known merger) owner j part
part_fits words known merger owner j v part a is owns = let tell = is.note words known merger a in record {
  limits = is.limits;
  sized = ap length is.known ∙ a.sized;
  low = λ s h. a.low s (is.hosted s h);
  owns = owns;
  knew = λ s h. (λ i. get_or (is.known i) s (newcomer (is.limits i))) ∙ a.knew s (is.hosted s h);
  told = tell.told;
  told_facts = tell.facts;
  told_keys = tell.keys;
  whole = λ e. let q = is.whole e in q.1 ∙ a.whole q.0;
  all = λ e s low. let q = is.whole e in q.2 s (a.all q.0 s low);
}

-- a part of a possible view is possible
pub part_allowed : (v part : View) (words : List ℕ) (known : ℕ → Known) (merger : Known) → IsPart v part → Allowed v words known merger → Allowed part words known merger
part_allowed v part words known merger is a = let fit = part_fits words known merger (λ _. 0) 0 v part a is (λ _ _. refl) in
    let same : v.limits ≡ part.limits = sym is.limits in
    allowed words known merger (λ _. 0) 0 part (subst (λ (l : Limits). length words ≡ words_of l) same a.wide) (subst (λ (l : Limits). Sound (state_over l words known merger)) same a.sound) (subst (λ (l : Limits). PagesSound (state_over l words known merger)) same a.pages) (subst (λ (l : Limits). Fits words (state_over l words known merger) (λ _. 0) 0 part) same fit)

-- two parts that host no session both
splits_own : (id : ℕ) (v left right : View) → IsPart v left → IsPart v right → ((s : ℕ) → hosts left s ≡ true → hosts right s ≡ false) → Splits (Ruled v.limits) id v left right
splits_own id v left right is_left is_right apart s r at = record {
  known = r.known;
  merger = r.merger;
  owner = owner;
  wide = r.wide;
  sound = r.sound;
  pages = r.pages;
  each = λ j u e. ⊎_elim
      (λ (h : get_elem? (set s.views id left) j ≡ some u). ⊎_elim
      (λ (t : (j ≡ id) × (left ≡ u)). subst (λ (z : ℕ × View). Fits s.words c owner z.0 z.1) (λ i. (sym t.0 i, t.1 i)) (part_fits s.words r.known r.merger owner id v left may is_left
      (λ k h. stays k (apart k h) ∙ fit.owns k (is_left.hosted k h))))
      (λ (t : (j ≢ id) × (get_elem? s.views j ≡ some u)). others j u t.0 (r.each j u t.1)) (at_set s.views id j left u h))
      (λ (h : (j ≡ length (set s.views id left)) × (right ≡ u)). subst (λ (z : ℕ × View). Fits s.words c owner z.0 z.1) (λ i. (sym (h.0 ∙ length-set s.views id left) i, h.1 i))
      (part_fits s.words r.known r.merger owner n v right may is_right (λ k h. moves k h)))
      (at_end (set s.views id left) right u j e);
}
  where
    n : ℕ
    n = length s.views

    c : Core
    c = state_over v.limits s.words r.known r.merger

    fit : Fits s.words c r.owner id v
    fit = r.each id v at

    may : Allowed v s.words r.known r.merger
    may = allowed s.words r.known r.merger r.owner id v r.wide r.sound r.pages fit

    owner : ℕ → ℕ
    owner t = cond (hosts right t) n (r.owner t)

    stays : (t : ℕ) → hosts right t ≡ false → owner t ≡ r.owner t
    stays t e = ap (λ (b : Bool). cond b n (r.owner t)) e

    moves : (t : ℕ) → hosts right t ≡ true → owner t ≡ n
    moves t e = ap (λ (b : Bool). cond b n (r.owner t)) e

    others : (j : ℕ) (u : View) → j ≢ id → Fits s.words c r.owner j u → Fits s.words c owner j u
    others j u other f = record {
      limits = f.limits;
      sized = f.sized;
      low = f.low;
      owns = λ t h. ⊎_elim (λ (e : hosts right t ≡ true). absurd (other (sym (f.owns t h) ∙ fit.owns t (is_right.hosted t e)))) (λ (e : hosts right t ≡ false). stays t e ∙ f.owns t h) (cases_Bool (hosts right t));
      knew = f.knew;
      told = f.told;
      told_facts = f.told_facts;
      told_keys = f.told_keys;
      whole = f.whole;
      all = f.all;
    }

splits : (l : Limits) (id : ℕ) (v left right : View) → IsPart v left → IsPart v right → ((s : ℕ) → hosts left s ≡ true → hosts right s ≡ false) → Splits (Ruled l) id v left right
splits l id v left right is_left is_right apart s r at = let is : v.limits ≡ l = (r.each id v at).limits in
    subst (λ (z : Limits). Ruled z record { words = s.words; homes = s.homes; views = set s.views id left ++ right ∷ [] }) is (splits_own id v left right is_left is_right apart s (subst (λ (z : Limits). Ruled z s) (sym is) r) at)

pub hosted_low : (v : View) (s : ℕ) → hosts v s ≡ true → s < length v.hosts
hosted_low v s e = dite (dec_lt s (length v.hosts)) (λ h. h) (λ h. absurd (true≢false (sym e ∙ get_or_past v.hosts s false (grind (arith, h)))))

not_here : (v : View) (s : ℕ) → hosts v s ≡ true → hosts (without s v) s ≡ false
not_here v s on = get_or-set_same v.hosts s false false (hosted_low v s on)

pub without_else : (v : View) (s t : ℕ) → t ≢ s → hosts (without s v) t ≡ hosts v t
without_else v s t other = get_or-set_other v.hosts s t false false other

pub only_here : (v : View) (s t : ℕ) → t ≢ s → hosts (alone s v) t ≡ false
only_here v s t other = get_or-set_other (replicate (v.limits.sessions + 1) false) s t true false other ∙ same_at (v.limits.sessions + 1) t false

pub alone_here : (v : View) (s : ℕ) → s ≤ v.limits.sessions → hosts (alone s v) s ≡ true
alone_here v s low = get_or-set_same (replicate (v.limits.sessions + 1) false) s true false (let e = length-replicate (v.limits.sessions + 1) false in grind (arith, e, low))

same_note : (v : View) (words : List ℕ) (known : ℕ → Known) (merger : Known) → Allowed v words known merger → Tellable v.limits words v
same_note v words known merger a = record { told = a.told; facts = a.told_facts; keys = a.told_keys }

pub without_part : (v : View) (s : ℕ) → hosts v s ≡ true → IsPart v (without s v)
without_part v s on = record {
  limits = refl;
  known = refl;
  hosted = λ t h. dite (ℕ_discrete t s) (λ e. absurd (true≢false (sym h ∙ (ap (hosts (without s v)) e ∙ not_here v s on)))) (λ other. sym (without_else v s t other) ∙ h);
  whole = λ e. absurd (true≢false (sym e));
  note = λ words known merger a. let n = same_note v words known merger a in record { told = n.told; facts = n.facts; keys = n.keys };
}

pub alone_part : (v : View) (s : ℕ) → hosts v s ≡ true → IsPart v (alone s v)
alone_part v s on = record {
  limits = refl;
  known = refl;
  hosted = λ t h. dite (ℕ_discrete t s) (λ e. ap (hosts v) e ∙ on) (λ other. absurd (true≢false (sym h ∙ only_here v s t other)));
  whole = λ e. absurd (true≢false (sym e));
  note = λ words known merger a. let n = same_note v words known merger a in record { told = n.told; facts = n.facts; keys = n.keys };
}

pub parts : (l : Limits) (id : ℕ) (v : View) (s : ℕ) → hosts v s ≡ true → Splits (Ruled l) id v (without s v) (alone s v)
parts l id v s on = splits l id v (without s v) (alone s v) (without_part v s on) (alone_part v s on)
    (λ t h. dite (ℕ_discrete t s) (λ e. absurd (true≢false (sym h ∙ (ap (hosts (without s v)) e ∙ not_here v s on)))) (λ other. only_here v s t other))

self_part : (v : View) → IsPart v v
self_part v = record {
  limits = refl;
  known = refl;
  hosted = λ t h. h;
  whole = λ e. (e, refl, λ t h. h);
  note = same_note v;
}

-- the facts of a session have the record of each key that it has seen
pub is_recorded : (v : View) (words : List ℕ) (known : ℕ → Known) (merger : Known) → Allowed v words known merger → (s : ℕ) → hosts v s ≡ true → SeenIsRecorded (knows v s).facts (knows v s).seen
is_recorded v words known merger a s on = dite (ℕ_discrete s v.limits.sessions)
    (λ is. subst (λ (u : Known). SeenIsRecorded u.facts u.seen) (sym (knows_merger v words known merger a s on is)) a.sound.merger_recorded)
    (λ ne. subst (λ (u : Known). SeenIsRecorded u.facts u.seen) (sym (knows_own v words known merger a s on ne)) (a.sound.recorded s (low_own v words known merger a s on ne)).seen_keys)

-- what a session of the view knows may be told
pub is_tellable : (v : View) (words : List ℕ) (known : ℕ → Known) (merger : Known) → Allowed v words known merger → (s : ℕ) → hosts v s ≡ true → Tellable v.limits words (noted s v)
is_tellable v words known merger a s on = record {
  told = is_seen v words known merger a s on;
  facts = is_fact v words known merger a s on;
  keys = is_recorded v words known merger a s on;
}

pub noted_part : (v : View) (s : ℕ) → hosts v s ≡ true → IsPart v (noted s v)
noted_part v s on = record {
  limits = refl;
  known = refl;
  hosted = λ t h. absurd (true≢false (sym h));
  whole = λ e. absurd (true≢false (sym e));
  note = λ words known merger a. is_tellable v words known merger a s on;
}

pub notes : (l : Limits) (id : ℕ) (v : View) (s : ℕ) → hosts v s ≡ true → Splits (Ruled l) id v v (noted s v)
notes l id v s on = splits l id v v (noted s v) (self_part v) (noted_part v s on) (λ t h. refl)
