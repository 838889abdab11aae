-- How the counts grow from one place to the next.
use Rattle.std.proofs.Common.{◌≡◌, ◌≢◌, ℕ, zero, suc, ◌+◌, ◌-◌, ◌<◌, ◌≤◌, ◌⊎◌, ⊎_elim, List, slice_index, refl, ap, arith, subst, sym, ◌∙◌, add-one, eq-eqb, ne_eqb, cond, nat_eq, true, false, length, slice_set, get_or-set_same, get_or-set_other}
use mathlib.Core.Logic.{dite}
use native.Mathlib.Decide.{dec_lt, ℕ_discrete}
use Rattle.lst_pack.specs.Counts.{begins, runs_below, IsKnown, IsNew, StandsBelow, Rises, AreKnown, AreRecent, IsLeast, IsGreatest}

pub runs_next : (values : List ℕ) (place : ℕ) → runs_below values (place + 1) ≡ runs_below values place + begins values place
unfolding runs_below
runs_next values place = rw add-one refl

pub runs_first : (values : List ℕ) → runs_below values 1 ≡ 1
unfolding runs_below begins
runs_first values = refl

pub begins_same : (values : List ℕ) (place : ℕ) → 0 < place → slice_index values place ≡ slice_index values (place - 1) → begins values place ≡ 0
unfolding begins
begins_same values place later e = let z : place ≢ 0 = omega arith in
    ap (λ b. cond b 1 (cond (nat_eq (slice_index values place) (slice_index values (place - 1))) 0 1)) (ne_eqb place 0 z)
    ∙ ap (λ b. cond b 0 1) (eq-eqb (slice_index values place) (slice_index values (place - 1)) e)

pub begins_other : (values : List ℕ) (place : ℕ) → 0 < place → slice_index values place ≢ slice_index values (place - 1) → begins values place ≡ 1
unfolding begins
begins_other values place later ne = let z : place ≢ 0 = omega arith in
    ap (λ b. cond b 1 (cond (nat_eq (slice_index values place) (slice_index values (place - 1))) 0 1)) (ne_eqb place 0 z)
    ∙ ap (λ b. cond b 0 1) (ne_eqb (slice_index values place) (slice_index values (place - 1)) ne)

pub begins_few : (values : List ℕ) (place : ℕ) → begins values place ≤ 1
unfolding begins
begins_few values place = elim (nat_eq place 0) as (λ b. cond b 1 (cond (nat_eq (slice_index values place) (slice_index values (place - 1))) 0 1) ≤ 1)
    [ true ↦ omega arith | false ↦ elim (nat_eq (slice_index values place) (slice_index values (place - 1))) as (λ b. cond b 0 1 ≤ 1) [ true ↦ omega arith | false ↦ omega arith ] ]

-- ---- what is known

-- of the values below the place each is among the known ones, which rise and stand somewhere
pub record AreNoted (values : List ℕ) (place : ℕ) (known : List ℕ) (count : ℕ) : Type 0 where
  pub few : count ≤ 17
  pub rising : Rises known count
  pub standing : (code : ℕ) → code < count → StandsBelow values 256 (slice_index known code)
  pub all : (before : ℕ) → before < place → IsKnown known count (slice_index values before)

pub noted_first : (values known : List ℕ) → slice_index known 0 ≡ slice_index values 0 → AreNoted values 0 known 1
noted_first values known e = record {
  few = omega arith;
  rising = λ code next order low. absurd (omega arith);
  standing = λ code low. let z : 0 ≡ code = omega arith in (0, omega arith, sym e ∙ ap (λ n. slice_index known n) z);
  all = λ before low. absurd (omega arith);
}

-- the value at the place is known
pub noted_on : (values : List ℕ) (place : ℕ) (known : List ℕ) (count : ℕ) → AreNoted values place known count → IsKnown known count (slice_index values place) → AreNoted values (place + 1) known count
noted_on values place known count are here = record {
  few = are.few;
  rising = are.rising;
  standing = are.standing;
  all = λ before low. dite (dec_lt before place) (λ (h : before < place). are.all before h)
      (λ past. let e : place ≡ before = omega (arith, past) in subst (λ (n : ℕ). IsKnown known count (slice_index values n)) e here);
}

-- it is learnt
pub noted_learnt : (values : List ℕ) (place : ℕ) (known later : List ℕ) (count more : ℕ) → place < 256 → AreNoted values place known count → more ≤ 17 → Rises later more
    → IsKnown later more (slice_index values place) → ((other : ℕ) → IsKnown known count other → IsKnown later more other)
    → ((code : ℕ) → code < more → IsNew known count (slice_index values place) (slice_index later code)) → AreNoted values (place + 1) later more
noted_learnt values place known later count more within are few rises new kept others = record {
  few = few;
  rising = rises;
  standing = λ code low. ⊎_elim (λ (e : slice_index later code ≡ slice_index values place). (place, within, sym e))
      (λ (k : IsKnown known count (slice_index later code)). let s = are.standing k.0 k.1 in (s.0, s.1, s.2 ∙ k.2)) (others code low);
  all = λ before low. dite (dec_lt before place) (λ (h : before < place). kept _ (are.all before h))
      (λ past. let e : place ≡ before = omega (arith, past) in subst (λ (n : ℕ). IsKnown later more (slice_index values n)) e new);
}

-- all were looked at, or there are more than 16
pub noted_all : (values : List ℕ) (place : ℕ) (known : List ℕ) (count : ℕ) → AreNoted values place known count → (count ≤ 16 → place ≡ 256) → AreKnown values 256 known count
noted_all values place known count are done = record {
  few = are.few;
  rising = are.rising;
  standing = are.standing;
  all = λ few before low. are.all before (let e = done few in omega arith);
}

-- the recent values are known at first, and stay known as one more is learnt, which takes a spot
pub recent_first : (values : List ℕ) (known : List ℕ) → (recent : List ℕ) → slice_index known 0 ≡ slice_index values 0 → ((spot : ℕ) → spot < 128 → slice_index recent spot ≡ slice_index values 0) → AreRecent known 1 recent
recent_first values known recent is same spot low = (0, omega arith, is ∙ sym (same spot low))

pub recent_learnt : (known later recent : List ℕ) (count more spot value : ℕ) → spot < length recent → AreRecent known count recent → IsKnown later more value → ((other : ℕ) → IsKnown known count other → IsKnown later more other) → AreRecent later more (slice_set recent spot value)
recent_learnt known later recent count more spot value low are here kept other short = dite (ℕ_discrete other spot)
    (λ e. subst (λ (n : ℕ). IsKnown later more n) (sym (ap (slice_index (slice_set recent spot value)) e ∙ get_or-set_same recent spot value 0 low)) here)
    (λ ne. subst (λ (n : ℕ). IsKnown later more n) (sym (get_or-set_other recent spot other value 0 ne)) (kept _ (are other short)))

-- what is known once the values below the place were looked at, and those that stand at spots
pub record Notes (values : List ℕ) (place : ℕ) (found spots : List ℕ) (count : ℕ) : Type 0 where
  pub long : length spots ≡ 128
  pub few : count ≤ 16
  pub known : AreNoted values place found count
  pub recent : AreRecent found count spots

pub notes_same : (values known later recent others : List ℕ) (place next count more : ℕ) → later ≡ known → others ≡ recent → more ≡ count → next ≡ place → Notes values place known recent count → Notes values next later others more
notes_same values known later recent others place next count more k r c p is =
    subst (λ (x : List ℕ). Notes values next x others more) (sym k)
    (subst (λ (x : List ℕ). Notes values next known x more) (sym r)
    (subst (λ (x : ℕ). Notes values next known recent x) (sym c)
    (subst (λ (x : ℕ). Notes values x known recent count) (sym p) is)))

pub least_on : (values : List ℕ) (place least smaller : ℕ) → IsLeast values place least → smaller ≤ least → smaller ≤ slice_index values place
    → ((smaller ≡ least) ⊎ (smaller ≡ slice_index values place)) → IsLeast values (place + 1) smaller
least_on values place least smaller is under here one = record {
  stands = ⊎_elim (λ (e : smaller ≡ least). (is.stands.0, omega (arith, is.stands.1), is.stands.2 ∙ sym e)) (λ (e : smaller ≡ slice_index values place). (place, omega arith, sym e)) one;
  bound = λ before low. dite (dec_lt before place) (λ (h : before < place). let b = is.bound before h in omega arith)
      (λ past. let e : place ≡ before = omega (arith, past) in subst (λ (n : ℕ). smaller ≤ slice_index values n) e here);
}

pub greatest_on : (values : List ℕ) (place greatest larger : ℕ) → IsGreatest values place greatest → greatest ≤ larger → slice_index values place ≤ larger
    → ((larger ≡ greatest) ⊎ (larger ≡ slice_index values place)) → IsGreatest values (place + 1) larger
greatest_on values place greatest larger is above here one = record {
  stands = ⊎_elim (λ (e : larger ≡ greatest). (is.stands.0, omega (arith, is.stands.1), is.stands.2 ∙ sym e)) (λ (e : larger ≡ slice_index values place). (place, omega arith, sym e)) one;
  bound = λ before low. dite (dec_lt before place) (λ (h : before < place). let b = is.bound before h in omega arith)
      (λ past. let e : place ≡ before = omega (arith, past) in subst (λ (n : ℕ). slice_index values n ≤ larger) e here);
}

-- the first and the last of known values that are all there are
pub known_least : (values known : List ℕ) (count : ℕ) → AreKnown values 256 known count → count ≤ 16 → IsLeast values 256 (slice_index known 0)
known_least values known count are few = record {
  stands = are.standing 0 (let some = are.all few 0 (omega arith) in omega (arith, some.1));
  bound = λ before low. let k = are.all few before low in
      dite (dec_lt 0 k.0) (λ (h : 0 < k.0). let r = are.rising 0 k.0 h k.1 in omega (arith, r, k.2))
      (λ no. let e : 0 ≡ k.0 = omega (arith, no) in let f = ap (λ n. slice_index known n) e in omega (arith, f, k.2));
}

pub known_greatest : (values known : List ℕ) (count : ℕ) → AreKnown values 256 known count → count ≤ 16 → IsGreatest values 256 (slice_index known (count - 1))
known_greatest values known count are few = record {
  stands = are.standing (count - 1) (let some = are.all few 0 (omega arith) in omega (arith, some.1));
  bound = λ before low. let k = are.all few before low in
      dite (dec_lt k.0 (count - 1)) (λ (h : k.0 < count - 1). let r = are.rising k.0 (count - 1) h (omega arith) in omega (arith, r, k.2))
      (λ no. let e : k.0 ≡ count - 1 = omega (arith, no, k.1) in let f = ap (λ n. slice_index known n) e in omega (arith, f, k.2));
}

-- ---- the first place

pub least_first : (values : List ℕ) → IsLeast values 1 (slice_index values 0)
least_first values = record {
  stands = (0, omega arith, refl);
  bound = λ before low. let z : before ≡ 0 = omega arith in let e = ap (λ n. slice_index values n) z in omega arith;
}

pub greatest_first : (values : List ℕ) → IsGreatest values 1 (slice_index values 0)
greatest_first values = record {
  stands = (0, omega arith, refl);
  bound = λ before low. let z : before ≡ 0 = omega arith in let e = ap (λ n. slice_index values n) z in omega arith;
}

-- ---- runs

pub runs_mono : (values : List ℕ) (place more : ℕ) → runs_below values place ≤ runs_below values (place + more)
runs_mono values place zero = let e : runs_below values (place + 0) ≡ runs_below values place = ap (λ n. runs_below values n) (omega arith) in omega arith
runs_mono values place (suc more) =
    let before = runs_mono values place more in
    let next = runs_next values (place + more) in
    let e : runs_below values (place + more + 1) ≡ runs_below values (place + suc more) = ap (λ n. runs_below values n) (omega arith) in
    omega arith

pub runs_upto : (values : List ℕ) (place last : ℕ) → place ≤ last → runs_below values place ≤ runs_below values last
runs_upto values place last low = let h = runs_mono values place (last - place) in let e : runs_below values (place + (last - place)) ≡ runs_below values last = ap (λ n. runs_below values n) (omega arith) in omega arith

-- one run alone: no value differs from the one before it
one_goes_on : (values : List ℕ) → runs_below values 256 ≡ 1 → (place : ℕ) → 0 < place → place < 256 → slice_index values place ≡ slice_index values (place - 1)
one_goes_on values one place later low = dite (ℕ_discrete (slice_index values place) (slice_index values (place - 1))) (λ e. e)
    (λ ne. let b = begins_other values place later ne in let n = runs_next values place in let f = runs_first values in
    let u = runs_upto values 1 place later in let t = runs_upto values (place + 1) 256 (omega arith) in absurd (omega arith))

pub one_run_is_equal : (values : List ℕ) → runs_below values 256 ≡ 1 → (place : ℕ) → place < 256 → slice_index values place ≡ slice_index values 0
one_run_is_equal values one zero low = refl
one_run_is_equal values one (suc place) low =
    let before = one_run_is_equal values one place (omega arith) in
    let step = one_goes_on values one (suc place) (omega arith) low in
    let e : slice_index values (suc place - 1) ≡ slice_index values place = ap (λ n. slice_index values n) (omega arith) in
    step ∙ e ∙ before

pub runs_few : (values : List ℕ) (place : ℕ) → runs_below values place ≤ place
unfolding runs_below
runs_few values zero = omega arith
runs_few values (suc place) = let before = runs_few values place in let one = begins_few values place in omega arith

-- from one place on no run begins but maybe there
runs_flat : (values : List ℕ) (from more : ℕ) → ((place : ℕ) → from < place → place < from + suc more → slice_index values place ≡ slice_index values (place - 1)) → runs_below values (from + suc more) ≤ runs_below values from + 1
runs_flat values from zero same =
    let n = runs_next values from in let b = begins_few values from in
    let e : runs_below values (from + 1) ≡ runs_below values (from + suc zero) = ap (λ n. runs_below values n) (omega arith) in omega arith
runs_flat values from (suc more) same =
    let before = runs_flat values from more (λ place h k. same place h (omega arith)) in
    let n = runs_next values (from + suc more) in
    let b = begins_same values (from + suc more) (omega arith) (same (from + suc more) (omega arith) (omega arith)) in
    let e : runs_below values (from + suc more + 1) ≡ runs_below values (from + suc (suc more)) = ap (λ n. runs_below values n) (omega arith) in omega arith

pub runs_at_once : (values : List ℕ) (from last : ℕ) → from < last → ((place : ℕ) → from < place → place < last → slice_index values place ≡ slice_index values (place - 1)) → runs_below values last ≤ runs_below values from + 1
runs_at_once values from last low same =
    let e : from + suc (last - from - 1) ≡ last = omega arith in
    let h = runs_flat values from (last - from - 1) (λ place a b. same place a (omega arith)) in
    let f = ap (λ n. runs_below values n) e in omega arith
