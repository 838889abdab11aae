-- What a note tells, and what is seen once it was heard.
use Rattle.std.proofs.Common.{◌≡◌, ℕ, suc, ◌<◌, ◌≤◌, List, [], Bool, true, false, length, get_or, sym, subst, ap, ◌∙◌, arith}
use mathlib.Core.Logic.{dite}
use native.Mathlib.Decide.{ℕ_discrete}
use Rattle.lst_layout.specs.Words.{shown}
use Rattle.lst_model.specs.declared.commits.Commit.{Commit}
use Rattle.lst_model.specs.Histories.{Extends}
use Rattle.lst_core_state.specs.declared.known.Known.{Known}
use Rattle.lst_core_state.specs.State.{history_of, mine}
use Rattle.lst_rule.specs.declared.store.Store.{Store}
use Rattle.lst_rule.specs.declared.view.View.{View}
use Rattle.lst_rule.specs.Joins.{longer, noted, hears, united, Heard}
use Rattle.lst_rule.specs.Learned.{Possible}
use Rattle.lst_rule.specs.Rule.{knows, hosts}
use Rattle.lst_rule.specs.Seats.{Sitting}
use Rattle.lst_rule.specs.Stores.{IsSeatOf}
use Rattle.lst_rule.proofs.Hearing.{front_on, IsLonger, longer_is, knows_hearing}
use Rattle.lst_rule.proofs.Joining.{knows_ours}
use Rattle.lst_rule.proofs.Knowing.{is_seen, knows_own}
use Rattle.lst_rule.proofs.Seating.{possible_apart, noted_hosts}
use Rattle.lst_seat.specs.Seats.{HostsSome, Tells, Hears}
use Rattle.lst_seat.proofs.Owning.{same_own}

-- of the sessions from n on, none has seen more than the teller
pub record BestSo (v : View) (n teller : ℕ) : Type 0 where
  pub low : teller ≤ v.limits.sessions
  pub few : n ≤ v.limits.sessions
  pub most : (s : ℕ) → n ≤ s → s ≤ v.limits.sessions → hosts v s ≡ true → (hosts v teller ≡ true) × (length (knows v s).seen ≤ length (knows v teller).seen)

pub best_last : (v : View) → BestSo v v.limits.sessions v.limits.sessions
best_last v = record {
  low = omega arith;
  few = omega arith;
  most = λ s above low h. let e : s ≡ v.limits.sessions = omega arith in (subst (λ (z : ℕ). hosts v z ≡ true) e h, subst (λ (z : ℕ). length (knows v z).seen ≤ length (knows v v.limits.sessions).seen) (sym e) (omega arith));
}

pub best_more : (v : View) (n teller : ℕ) → n < v.limits.sessions → BestSo v (suc n) teller → (hosts v n ≡ true) × (hosts v teller ≡ true → length (knows v teller).seen ≤ length (knows v n).seen) → BestSo v n n
best_more v n teller low so more = record {
  low = omega arith;
  few = omega arith;
  most = λ s above few h. (more.0, dite (ℕ_discrete s n) (λ e. subst (λ (z : ℕ). length (knows v z).seen ≤ length (knows v n).seen) (sym e) (omega arith)) (λ ne. let p = so.most s (omega arith) few h in let q = more.1 p.0 in let a = p.1 in omega arith));
}

pub best_less : (v : View) (n teller : ℕ) → n < v.limits.sessions → BestSo v (suc n) teller → (hosts v n ≡ true → (hosts v teller ≡ true) × (length (knows v n).seen ≤ length (knows v teller).seen)) → BestSo v n teller
best_less v n teller low so less = record {
  low = so.low;
  few = omega arith;
  most = λ s above few h. dite (ℕ_discrete s n) (λ e. subst (λ (z : ℕ). hosts v z ≡ true → (hosts v teller ≡ true) × (length (knows v z).seen ≤ length (knows v teller).seen)) (sym e) less h) (λ ne. so.most s (omega arith) few h);
}

-- at the end none has seen more than the teller, which is hosted where anybody is
pub best_hosted : (v : View) (n teller : ℕ) → BestSo v n teller → n ≡ 0 → Possible v → HostsSome v → hosts v teller ≡ true
best_hosted v n teller so none p some = (so.most some.0 (omega arith) (p.allowed.low some.0 some.1) some.1).0

pub tells : (store : Store) (v : View) (note : Sitting) (teller : ℕ) → Possible v → IsSeatOf store note → hosts v teller ≡ true → note.view ≡ noted teller v
    → ((s : ℕ) → s ≤ v.limits.sessions → hosts v s ≡ true → length (knows v s).seen ≤ length (knows v teller).seen) → Tells store v note
tells store v note teller p is on copy most = record {
  seat_of = is;
  teller = teller;
  hosted = on;
  copy = copy;
  all = λ s h. subst (λ (l : List Commit). Extends l (knows v s).seen) (sym (ap (λ (u : View). u.note) copy))
      (front_on (history_of v.limits (shown v.limits p.words)) (knows v s).seen (knows v teller).seen (is_seen v p.words p.known p.merger p.allowed s h) (is_seen v p.words p.known p.merger p.allowed teller on) (most s (p.allowed.low s h) h));
}

-- the note was joined, and then heard
module _ (v w note : View) (bare : note.hosts ≡ []) (h : Heard (united v note) w) where
  abbrev u : View
  u = united v note

  hosts_same : u.hosts ≡ v.hosts
  hosts_same = noted_hosts v note bare

  knows_same : (s : ℕ) → knows u s ≡ knows v s
  knows_same s = knows_ours v note (possible_apart v note h.before) s (ap (λ (bs : List Bool). get_or bs s false) bare)

  on : (s : ℕ) → hosts v s ≡ true → hosts u s ≡ true
  on s hosted = ap (λ (bs : List Bool). get_or bs s false) hosts_same ∙ hosted

  now : (s : ℕ) → hosts v s ≡ true → knows w s ≡ hears note.note note.note_facts (knows v s)
  now s hosted = ap (λ (z : View). knows z s) h.now ∙ (knows_hearing u s (let low = h.before.allowed.low s (on s hosted) in let e = h.before.allowed.sized in omega arith) ∙ ap (hears note.note note.note_facts) (knows_same s))

  both : (s : ℕ) → hosts v s ≡ true → IsLonger (history_of u.limits (shown u.limits h.before.words)) (knows v s).seen note.note (longer (knows v s).seen note.note)
  both s hosted = longer_is (history_of u.limits (shown u.limits h.before.words)) (knows v s).seen note.note
      (subst (λ (k : Known). Extends (history_of u.limits (shown u.limits h.before.words)) k.seen) (knows_same s) (is_seen u h.before.words h.before.known h.before.merger h.before.allowed s (on s hosted))) h.before.allowed.told

  own : (s : ℕ) → hosts v s ≡ true → s < v.limits.sessions → mine s (knows w s) ≡ mine s (knows v s)
  own s hosted low =
      let is : knows v s ≡ h.before.known s = sym (knows_same s) ∙ knows_own u h.before.words h.before.known h.before.merger h.before.allowed s (on s hosted) (λ e. omega arith) in
      ap (mine s) (now s hosted) ∙ same_own s (history_of u.limits (shown u.limits h.before.words)) (knows v s).seen (longer (knows v s).seen note.note) (both s hosted).front (both s hosted).first
      (ap (mine s) is ∙ (h.before.allowed.sound.views s low).own)

  pub heard : Hears v w note
  heard = record {
    now = now;
    told = λ s hosted. subst (λ (k : Known). Extends k.seen note.note) (sym (now s hosted)) (both s hosted).second;
    kept = λ s hosted. subst (λ (k : Known). Extends k.seen (knows v s).seen) (sym (now s hosted)) (both s hosted).first;
    own = own;
    hosted = ap (λ (z : View). z.hosts) h.now ∙ hosts_same;
    limits = ap (λ (z : View). z.limits) h.now;
    whole = ap (λ (z : View). z.whole) h.now;
    words = ap (λ (z : View). z.words) h.now;
  }
