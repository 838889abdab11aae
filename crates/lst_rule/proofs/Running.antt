-- Many loads, one after another.
use Rattle.std.proofs.Common.{◌≡◌, ℕ, zero, suc, ◌+◌, ◌*◌, ◌<◌, ◌≤◌, List, [], ◌++◌, Bool, true, false, length, slice_index, get_or, set, refl, sym, subst, ap, ◌∙◌, arith, append-nil, get_or-set_same, get_or-set_other}
use Rattle.std.proofs.lemmas.List.{append_assoc}
use mathlib.Core.Logic.{dite}
use native.Mathlib.Decide.{ℕ_discrete}
use Rattle.lst_layout.specs.declared.TheConstants.{RANGE_RECORDS}
use Rattle.lst_layout.specs.declared.limits.Limits.{Limits}
use Rattle.lst_layout.specs.declared.place.Place.{Place}
use Rattle.lst_layout.specs.declared.place.Place.TheVariants.{FrameWord}
use Rattle.lst_layout.specs.Addresses.{IsWithin, address}
use Rattle.lst_layout.specs.Areas.{words_of}
use Rattle.lst_layout.proofs.Apart.{below}
use Rattle.lst_layout.specs.Functions.{put}
use Rattle.lst_layout.specs.Words.{shown}
use Rattle.lst_layout.proofs.Functions.{put_here, put_else}
use Rattle.lst_core_state.specs.declared.facts.Fact.{Fact}
use Rattle.lst_core_state.specs.declared.known.Known.{Known}
use Rattle.lst_core_state.specs.Facts.{chain_facts}
use Rattle.lst_pages.specs.State.{hand_of}
use Rattle.lst_pages.specs.Runs.{frame_known}
use Rattle.lst_rule.specs.declared.runs.Run.{Run}
use Rattle.lst_rule.specs.declared.runs.Run.TheVariants.{Values, Times, Heads}
use Rattle.lst_rule.specs.declared.store.Store.{Store}
use Rattle.lst_rule.specs.declared.view.View.{View}
use Rattle.lst_rule.specs.Rule.{knows, hosts}
use Rattle.lst_rule.specs.Learned.{Learns, Kept}
use Rattle.lst_rule.specs.Operations.{IsQuiet}
use Rattle.lst_rule.specs.Seats.{Sitting}
use Rattle.lst_rule.specs.Stores.{IsSeatOf, Looked}
use Rattle.lst_rule.specs.PageSteps.{FrameLoaded}
use Rattle.lst_rule.specs.Runs.{place_in, IsRunOf, LoadsNext, LoadsRun, FrameRun, HeadRun}
use Rattle.lst_rule.proofs.Learning.{learns_same, learns_then, kept_same, kept_on}
use Rattle.lst_rule.proofs.Paging.{frame_loaded}

-- ---- the address of a word of a run

pub run_address : (l : Limits) (run : Run) (i : ℕ) → address l (place_in run i) ≡ address l (place_in run 0) + i
unfolding address
run_address l (Values frame) i = omega arith
run_address l (Times frame) i = omega arith
run_address l (Heads range) i = omega arith

-- its loads change no number
pub run_quiet : (run : Run) (i : ℕ) → IsQuiet (place_in run i)
run_quiet (Values frame) i = tt
run_quiet (Times frame) i = tt
run_quiet (Heads range) i = tt

-- ---- one load after another

pub run_none : (run : Run) (found : ℕ → ℕ) (v : View) (s : ℕ) → LoadsRun run found v s 0 v
run_none run found v s = record { between = λ _. v; first = refl; last = refl; each = λ i low. absurd (omega arith) }

pub run_next : (run : Run) (f g : ℕ → ℕ) (v u w : View) (s n : ℕ) → LoadsRun run f v s n u → ((i : ℕ) → i < n → g i ≡ f i) → Looked u w s (place_in run n) (g n) → LoadsRun run g v s (n + 1) w
run_next run f g v u w s n r same looked = record {
  between = between;
  first = put_else r.between (n + 1) w 0 (λ e. omega arith) ∙ r.first;
  last = there;
  each = λ i low. dite (ℕ_discrete i n)
      (λ e. subst (λ (j : ℕ). Looked (between j) (between (j + 1)) s (place_in run j) (g j)) (sym e) (subst (λ (z : View × View). Looked z.0 z.1 s (place_in run n) (g n)) (λ k. (sym before k, sym there k)) looked))
      (λ ne. let short : i < n = omega arith in subst (λ (z : View × View × ℕ). Looked z.0 z.1 s (place_in run i) z.2) (λ k. (sym (here i (omega arith)) k, sym (here (i + 1) (omega arith)) k, sym (same i short) k)) (r.each i short));
}
  where
    between : ℕ → View
    between = put r.between (n + 1) w

    here : (i : ℕ) → i ≤ n → between i ≡ r.between i
    here i low = put_else r.between (n + 1) w i (λ e. omega arith)

    before : between n ≡ u
    before = here n (omega arith) ∙ r.last

    there : between (n + 1) ≡ w
    there = put_here r.between (n + 1) w

-- ---- what a loop of loads keeps

pub record RunsOn (store : Store) (v : View) (seat : Sitting) (s n : ℕ) (run : Run) (out : List ℕ) : Type 0 where
  pub is : IsSeatOf store seat
  pub host : hosts seat.view s ≡ true
  pub limits : seat.view.limits ≡ v.limits
  pub few : n ≤ RANGE_RECORDS
  pub loads : LoadsRun run (slice_index out) v s n seat.view

pub runs_first : (store : Store) (seat : Sitting) (s : ℕ) (run : Run) (out : List ℕ) → IsSeatOf store seat → hosts seat.view s ≡ true → RunsOn store seat.view seat s 0 run out
runs_first store seat s run out is host = record { is = is; host = host; limits = refl; few = omega arith; loads = run_none run (slice_index out) seat.view s }

set_next : (store : Store) (v : View) (a b : Sitting) (s n x : ℕ) (run : Run) (out : List ℕ) → RunsOn store v a s n run out → n < RANGE_RECORDS → n < length out → IsSeatOf store b → Looked a.view b.view s (place_in run n) x → RunsOn store v b s (n + 1) run (set out n x)
set_next store v a b s n x run out on low short is looked = record {
  is = is;
  host = ap (λ (hs : List Bool). get_or hs s false) looked.view.hosted ∙ on.host;
  limits = looked.view.limits ∙ on.limits;
  few = omega arith;
  loads = run_next run (slice_index out) (slice_index (set out n x)) v a.view b.view s n on.loads (λ i less. get_or-set_other out n i x 0 (λ e. omega arith))
      (subst (Looked a.view b.view s (place_in run n)) (sym (get_or-set_same out n x 0 short)) looked);
}

pub runs_next : (store : Store) (v : View) (a b : Sitting) (s n : ℕ) (run : Run) (out after : List ℕ) → RunsOn store v a s n run out → n < RANGE_RECORDS → IsSeatOf store b → LoadsNext run a.view s n b.view out after → RunsOn store v b s (n + 1) run after
runs_next store v a b s n run out after on low is next = subst (RunsOn store v b s (n + 1) run) (sym next.put) (set_next store v a b s n next.found run out on low next.short is next.looked)

-- the next word is one of the store
module _ (store : Store) (seat : Sitting) (n : ℕ) (run : Run) (is : IsSeatOf store seat) (inside : IsRunOf seat.view.limits run) where
  pub run_place : n < RANGE_RECORDS → IsWithin store.layout.limits (place_in run n)
  run_place low = subst (λ (l : Limits). IsWithin l (place_in run n)) is.limits (inside n low)

  pub run_within : n < RANGE_RECORDS → (p : Place) → p ≡ place_in run n → IsWithin seat.view.limits p
  run_within low p e = subst (IsWithin seat.view.limits) (sym e) (inside n low)

  pub run_word : (a first : ℕ) (p : Place) → first ≡ address store.layout.limits (place_in run 0) → a ≡ first + n → p ≡ place_in run n → a ≡ address seat.view.limits p
  run_word a first p at e place = e ∙ (ap (λ (k : ℕ). k + n) at ∙ (sym (run_address store.layout.limits run n) ∙ (λ j. address (sym is.limits j) (sym place j))))

  -- so its address fits
  pub run_low : n < RANGE_RECORDS → (first : ℕ) → first ≡ address store.layout.limits (place_in run 0) → first + n < words_of store.layout.limits
  run_low low first at = subst (λ (k : ℕ). k < words_of store.layout.limits) (run_address store.layout.limits run n ∙ ap (λ (k : ℕ). k + n) (sym at)) (below store.layout.limits (place_in run n) (run_place low))

-- all were loaded
pub runs_last : (store : Store) (v : View) (seat : Sitting) (s n : ℕ) (run : Run) (out : List ℕ) → RunsOn store v seat s n run out → RANGE_RECORDS ≤ n → LoadsRun run (slice_index out) v s RANGE_RECORDS seat.view
runs_last store v seat s n run out on past = let few = on.few in let e : n ≡ RANGE_RECORDS = omega arith in subst (λ (k : ℕ). LoadsRun run (slice_index out) v s k seat.view) e on.loads

-- ---- a run of words of a frame

module _ (run : Run) (found : ℕ → ℕ) (v w : View) (s f place : ℕ) (r : LoadsRun run found v s RANGE_RECORDS w) (is : (i : ℕ) → place_in run i ≡ FrameWord f (place + i)) (hosted : hosts v s ≡ true) (inside : IsRunOf v.limits run) where
  looked_at : (i : ℕ) → i < RANGE_RECORDS → Looked (r.between i) (r.between (i + 1)) s (FrameWord f (place + i)) (found i)
  looked_at i low = subst (λ (p : Place). Looked (r.between i) (r.between (i + 1)) s p (found i)) (is i) (r.each i low)

  learns_until : (n : ℕ) → n ≤ RANGE_RECORDS → Learns v (r.between n) s (knows v s) × Kept v (r.between n)
  learns_until zero low = (subst (λ (u : View). Learns v u s (knows v s)) (sym r.first) (learns_same v s), subst (Kept v) (sym r.first) (kept_same v))
  learns_until (suc n) low = let before = learns_until n (omega arith) in let k = looked_at n (omega arith) in let e : n + 1 ≡ suc n = omega arith in subst (λ (m : ℕ). Learns v (r.between m) s (knows v s) × Kept v (r.between m)) e
      (learns_then v (r.between n) (r.between (n + 1)) s (knows v s) (λ k. k) before.0 k.view, kept_on v (r.between n) (r.between (n + 1)) before.0.whole before.1 k.kept)

  hosts_at : (i : ℕ) → i ≤ RANGE_RECORDS → hosts (r.between i) s ≡ true
  hosts_at i low = ap (λ (hs : List Bool). get_or hs s false) (learns_until i low).0.hosted ∙ hosted

  loaded_at : (i : ℕ) → i < RANGE_RECORDS → FrameLoaded (r.between i) (r.between (i + 1)) s f (place + i) (found i)
  loaded_at i low = frame_loaded (r.between i) (r.between (i + 1)) s f (place + i) (found i) (hosts_at i (omega arith))
      (subst (λ (l : Limits). IsWithin l (FrameWord f (place + i))) (sym (learns_until i (omega arith)).0.limits) (subst (IsWithin v.limits) (is i) (inside i low))) (looked_at i low)

  pub frame_run : FrameRun v w s f place found
  frame_run = record {
    view = subst (λ (u : View). Learns v u s (knows v s)) r.last (learns_until RANGE_RECORDS (omega arith)).0;
    same = subst (Kept v) r.last (learns_until RANGE_RECORDS (omega arith)).1;
    in_hand = λ few page has i low. let k = (learns_until i (omega arith)).0 in (loaded_at i low).in_hand (subst (λ (l : Limits). s < l.sessions) (sym k.limits) few) page (ap (λ (u : Known). hand_of u.pages.session f) k.now ∙ has);
    own = λ last i low. let k = (learns_until i (omega arith)).0 in (loaded_at i low).own (last ∙ ap (λ (l : Limits). l.sessions) (sym k.limits)) ∙ ap (λ (u : Known). frame_known u.pages.stock f (place + i)) k.now;
  }

-- ---- the indirection words of a range

module _ (range : ℕ) (found : ℕ → ℕ) (v w : View) (s : ℕ) (r : LoadsRun (Heads range) found v s RANGE_RECORDS w) where
  abbrev more : List Fact → Known → Known
  more fs k = record k { facts = k.facts ++ fs }

  learns_facts : (n : ℕ) → n ≤ RANGE_RECORDS → ((fs : List Fact) × Learns v (r.between n) s (more fs (knows v s))) × Kept v (r.between n)
  learns_facts zero low = (([], subst (λ (u : View). Learns v u s (more [] (knows v s))) (sym r.first) (subst (Learns v v s) (λ i. record (knows v s) { facts = sym (append-nil (knows v s).facts) i }) (learns_same v s))), subst (Kept v) (sym r.first) (kept_same v))
  learns_facts (suc n) low = let before = learns_facts n (omega arith) in let k = r.each n (omega arith) in let e : n + 1 ≡ suc n = omega arith in
      let fs = before.0.0 in let gs = chain_facts (r.between n).limits (shown (r.between n).limits k.met.made.told.words) (RANGE_RECORDS * range + n) in
      subst (λ (m : ℕ). ((fs : List Fact) × Learns v (r.between m) s (more fs (knows v s))) × Kept v (r.between m)) e
      ((fs ++ gs, subst (Learns v (r.between (n + 1)) s) (λ i. record (knows v s) { facts = append_assoc (knows v s).facts fs gs i }) (learns_then v (r.between n) (r.between (n + 1)) s (more fs (knows v s)) (more gs) before.0.1 k.view)), kept_on v (r.between n) (r.between (n + 1)) before.0.1.whole before.1 k.kept)

  pub head_run : HeadRun v w s
  head_run = let q = learns_facts RANGE_RECORDS (omega arith) in record {
    facts = q.0.0;
    view = subst (λ (u : View). Learns v u s (more q.0.0 (knows v s))) r.last q.0.1;
    same = subst (Kept v) r.last q.1;
  }
