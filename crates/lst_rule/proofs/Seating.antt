-- The numbers and the seats after a split and a join.
use Rattle.std.proofs.Common.{◌≡◌, ℕ, ◌+◌, ◌<◌, ◌≤◌, List, [], Bool, true, false, cond, map, length, get_or, refl, sym, subst, ap, ◌∙◌, arith, true≢false, ⊎_elim}
use mathlib.Core.Logic.{dite}
use native.Mathlib.Decide.{ℕ_discrete}
use Rattle.std.proofs.lemmas.Bool.{cases_Bool}
use Rattle.std.proofs.lemmas.List.{length-map, set-get_or, get_or-map}
use Rattle.atomic_table.specs.Table.{keeps, Allows}
use Rattle.atomic_table.proofs.Lists.{set_again}
use Rattle.lst_layout.specs.declared.limits.Limits.{Limits}
use Rattle.lst_layout.specs.Areas.{words_of}
use Rattle.lst_layout.proofs.Lows.{some_words}
use Rattle.lst_core_state.specs.declared.known.Known.{Known}
use Rattle.lst_core_state.specs.declared.facts.Fact.{Fact}
use Rattle.lst_core_state.specs.declared.numbers.Numbers.{Numbers}
use Rattle.lst_core_state.specs.Numbers.{numbers_of}
use Rattle.lst_core_state.specs.Sound.{Sound}
use Rattle.lst_core_state.specs.State.{newcomer, state_over}
use Rattle.lst_model.specs.declared.commits.Commit.{Commit}
use Rattle.lst_rule.specs.declared.store.Store.{Store}
use Rattle.lst_pages.specs.Known.{PagesSound}
use Rattle.lst_rule.specs.declared.view.View.{View}
use Rattle.lst_rule.specs.Rule.{knows, hosts, Fits, Ruled, Sat}
use Rattle.lst_rule.specs.Learned.{Possible}
use Rattle.lst_rule.specs.Seats.{Sitting, Tells, told}
use Rattle.lst_rule.specs.Stores.{IsSeatOf}
use Rattle.lst_rule.specs.Joins.{alone, noted, hears, hearing, overlap, united_lists, united, hears_numbers}
use Rattle.lst_rule.proofs.Allowing.{allowed}
use Rattle.lst_rule.proofs.Hearing.{length-longer, knows_hearing}
use Rattle.lst_rule.proofs.Joining.{length-united, united_theirs, united_else, united_from, knows_theirs, knows_ours}
use Rattle.lst_rule.proofs.Parting.{IsPart, part_allowed, only_here, alone_part, noted_part}

-- ---- a load that changes no view

pub confirms : (l : Limits) (slots id : ℕ) (m : Sat) (i : ℕ) → Allows (Ruled l) slots id m i (λ x. x) (λ x n. Possible m.0 × (n ≡ m))
confirms l slots id m i s r deep at small = (
  m.0,
  keeps,
  tt,
  subst (λ (z : List ℕ × List View). Ruled l record { words = z.0; homes = s.homes; views = z.1 }) (λ k. (sym (set-get_or s.words i 0) k, sym (set_again s.views id m.0 at) k)) r,
  (record { words = s.words; known = r.known; merger = r.merger; allowed = allowed s.words r.known r.merger r.owner id m.0 (subst (λ (z : Limits). length s.words ≡ words_of z) (sym is) r.wide) (subst (λ (z : Limits). Sound (state_over z s.words r.known r.merger)) (sym is) r.sound) (subst (λ (z : Limits). PagesSound (state_over z s.words r.known r.merger)) (sym is) r.pages) (subst (λ (z : Limits). Fits s.words (state_over z s.words r.known r.merger) r.owner id m.0) (sym is) (r.each id m.0 at)) }, refl),
)
  where
    is : m.0.limits ≡ l
    is = (r.each id m.0 at).limits

-- a store has a first word
pub has_words : (store : Store) → 0 < store.table.shared.table_id.words
has_words store = let a = some_words store.layout.limits 0 (omega arith) in let b = store.wide in omega arith

-- a seat of the store's table, whose view is possible under the store's limits
pub possible_seat : (store : Store) (seat : Sitting) → seat.table ≡ store.table.shared.table_id → seat.view.limits ≡ store.layout.limits → Possible seat.view → IsSeatOf store seat
possible_seat store seat table limits p = record {
  table = table;
  limits = limits;
  sized = p.allowed.sized ∙ ap (λ (l : Limits). l.sessions + 1) limits;
  low = λ s h. let low = p.allowed.low s h in let e = ap (λ (l : Limits). l.sessions) limits in omega arith;
}

-- ---- a split

pub part_possible : (v part : View) → IsPart v part → Possible v → Possible part
part_possible v part is p = record { words = p.words; known = p.known; merger = p.merger; allowed = part_allowed v part p.words p.known p.merger is p.allowed }

-- a part of a view is told by the same numbers
pub tells_part : (v part : View) (numbers : List Numbers) → IsPart v part → Tells v numbers → Tells part numbers
tells_part v part numbers is tells = record {
  possible = part_possible v part is tells.possible;
  all = λ s h. tells.all s (is.hosted s h);
  is = λ s h. let same : told part s ≡ told v s = λ i. numbers_of (get_or (is.known i) s (newcomer (is.limits i))) in subst (λ (u : Numbers). get_or numbers s u ≡ u) (sym same) (tells.is s (is.hosted s h));
}

-- the one that a seat of its own hosts
alone_is : (v : View) (s t : ℕ) → hosts (alone s v) t ≡ true → t ≡ s
alone_is v s t h = dite (ℕ_discrete t s) (λ e. e) (λ ne. absurd (true≢false (sym h ∙ only_here v s t ne)))

pub alone_tells : (v : View) (s : ℕ) (numbers : List Numbers) → hosts v s ≡ true → Possible v → s < length numbers → get_or numbers s (told v s) ≡ told v s → Tells (alone s v) numbers
alone_tells v s numbers on p wide is = record {
  possible = part_possible v (alone s v) (alone_part v s on) p;
  all = λ t h. let e = alone_is v s t h in omega arith;
  is = λ t h. subst (λ (z : ℕ). get_or numbers z (told v z) ≡ told v z) (sym (alone_is v s t h)) is;
}

pub noted_tells : (v : View) (s : ℕ) → hosts v s ≡ true → Possible v → Tells (noted s v) []
noted_tells v s on p = record {
  possible = part_possible v (noted s v) (noted_part v s on) p;
  all = λ t h. absurd (true≢false (sym h));
  is = λ t h. absurd (true≢false (sym h));
}

pub part_seat : (store : Store) (a b : Sitting) → IsSeatOf store a → b.table ≡ a.table → IsPart a.view b.view → IsSeatOf store b
part_seat store a b is table part = record {
  table = table ∙ is.table;
  limits = part.limits ∙ is.limits;
  sized = ap length part.known ∙ is.sized;
  low = λ s h. is.low s (part.hosted s h);
}

-- ---- a note is heard

seen_numbers : (note : List Commit) (more : List Fact) (k : Known) → numbers_of (hears note more k) ≡ hears_numbers (length note) (numbers_of k)
seen_numbers note more k = let p = length-longer k.seen note in λ i. let n : Numbers = record (numbers_of k) { seen = p i } in n

pub hearing_tells : (v : View) (numbers : List Numbers) (time : ℕ) → Tells v numbers → time ≡ length v.note → Possible (hearing v) → Tells (hearing v) (map (hears_numbers time) numbers)
hearing_tells v numbers time tells same p = record {
  possible = p;
  all = λ s h. let low = tells.all s h in let e = length-map numbers (hears_numbers time) in omega arith;
  is = λ s h. get_or-map (hears_numbers time) numbers s (told v s) (told (hearing v) s) (tells.all s h) ∙ (ap (hears_numbers time) (tells.is s h) ∙ (ap (λ (n : ℕ). hears_numbers n (told v s)) same
      ∙ sym (ap numbers_of (knows_hearing v s (let low = tells.possible.allowed.low s h in let e = tells.possible.allowed.sized in omega arith)) ∙ seen_numbers v.note v.note_facts (knows v s))));
}

-- ---- two seats are united

-- no session is hosted by both, since their view is possible
pub possible_apart : (v w : View) → Possible (united v w) → overlap v.hosts w.hosts ≡ false
possible_apart v w p = ⊎_elim (λ (e : overlap v.hosts w.hosts ≡ true). absurd (let sized = sym (ap (λ (b : Bool). length (cond b [] (united_lists w.hosts v.known w.known))) e) ∙ p.allowed.sized in let none : 0 ≡ v.limits.sessions + 1 = sized in omega arith))
    (λ (e : overlap v.hosts w.hosts ≡ false). e) (cases_Bool (overlap v.hosts w.hosts))

-- the numbers of the one that hosts the session
pub united_tells : (v w : View) (numbers others : List Numbers) → Tells v numbers → Tells w others → v.limits ≡ w.limits → hosts v v.limits.sessions ≡ true → Possible (united v w) → Tells (united v w) (united_lists w.hosts numbers others)
united_tells v w numbers others tells tells' limits merger p = record {
  possible = p;
  all = λ s h. let low : s ≤ v.limits.sessions = p.allowed.low s h in let a = tells.all v.limits.sessions merger in let e = length-united w.hosts numbers others in omega arith;
  is = λ s h. let low : s ≤ v.limits.sessions = p.allowed.low s h in let a = tells.all v.limits.sessions merger in ⊎_elim (λ (on : hosts w s ≡ true). theirs s on (omega arith)) (λ (off : hosts w s ≡ false). ours s off (⊎_elim (λ (z : hosts v s ≡ true). z) (λ (z : hosts w s ≡ true). absurd (true≢false (sym z ∙ off))) (united_from v.hosts w.hosts s h))) (cases_Bool (hosts w s));
}
  where
    apart : overlap v.hosts w.hosts ≡ false
    apart = possible_apart v w p

    is_told : ℕ → Numbers → Type 0
    is_told s n = get_or (united_lists w.hosts numbers others) s n ≡ n

    theirs : (s : ℕ) → hosts w s ≡ true → s < length numbers → is_told s (told (united v w) s)
    theirs s on low = subst (is_told s) (sym (ap numbers_of (knows_theirs v w apart limits (tells.possible.allowed.sized ∙ (ap (λ (l : Limits). l.sessions + 1) limits ∙ sym tells'.possible.allowed.sized)) s on (let a = tells'.possible.allowed.low s on in let b = tells'.possible.allowed.sized in omega arith))))
        (united_theirs w.hosts numbers others s (told w s) on low (tells'.all s on) ∙ tells'.is s on)

    ours : (s : ℕ) → hosts w s ≡ false → hosts v s ≡ true → is_told s (told (united v w) s)
    ours s off on = subst (is_told s) (sym (ap numbers_of (knows_ours v w apart s off))) (united_else w.hosts numbers others s (told v s) off ∙ tells.is s on)

-- a note hosts nobody, so the numbers stay
pub noted_hosts : (v w : View) → w.hosts ≡ [] → (united v w).hosts ≡ v.hosts
noted_hosts v w none = ap (λ (bs : List Bool). united_lists bs v.hosts bs) none

pub joined_tells : (v w : View) (numbers : List Numbers) → Tells v numbers → w.hosts ≡ [] → Possible (united v w) → Tells (united v w) numbers
joined_tells v w numbers tells none p = record {
  possible = p;
  all = λ s h. tells.all s (hosted s h);
  is = λ s h. subst (λ (k : Known). get_or numbers s (numbers_of k) ≡ numbers_of k) (sym (knows_ours v w (possible_apart v w p) s (ap (λ (bs : List Bool). get_or bs s false) none))) (tells.is s (hosted s h));
}
  where
    hosted : (s : ℕ) → hosts (united v w) s ≡ true → hosts v s ≡ true
    hosted s h = sym (ap (λ (bs : List Bool). get_or bs s false) (noted_hosts v w none)) ∙ h
