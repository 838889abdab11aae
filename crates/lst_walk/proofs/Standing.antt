-- How a version stands that was resolved.
use Rattle.std.proofs.Common.{◌≡◌, ◌≢◌, ◌⊎◌, ℕ, ◌+◌, ◌*◌, ◌^◌, ◌<◌, ◌≤◌, Bool, true, false, nat_le, refl, sym, subst, ap, ◌∙◌, arith, inl, inr, true≢false, Contains}
use Rattle.std.specs.Prelude.{Option, None, Some, is_some}
use Rattle.lst_layout.specs.declared.limits.Limits.{Limits}
use Rattle.lst_layout.specs.declared.place.Place.TheVariants.{CellWord}
use Rattle.lst_layout.specs.Addresses as layout
use Rattle.lst_core_state.specs.declared.known.Known.{Known}
use Rattle.lst_core_state.specs.declared.events.Event.TheVariants.{Stamp}
use Rattle.lst_core_state.specs.declared.facts.Fact.TheVariants.{StateAt}
use Rattle.lst_core_state.specs.State.{name_of}
use Rattle.lst_rule.specs.declared.view.View.{View}
use Rattle.lst_rule.specs.declared.store.Store.{Store}
use Rattle.lst_rule.specs.declared.status.Status.{Status}
use Rattle.lst_rule.specs.declared.status.Status.TheVariants as status
use Rattle.lst_rule.specs.declared.resolutions.Resolution.{Resolution}
use Rattle.lst_rule.specs.declared.resolutions.Resolution.TheVariants.{Empty, Stamped, Own, Closed, Committed, Unfinished}
use Rattle.lst_rule.specs.Rule.{knows, hosts}
use Rattle.lst_rule.specs.Learned.{Possible, CanStand, Times, Made}
use Rattle.lst_rule.specs.Seats.{Sitting}
use Rattle.lst_rule.specs.Stores.{IsSeatOf}
use Rattle.lst_rule.specs.Copies.{Version}
use Rattle.lst_rule.specs.Seen.{sees}
use Rattle.lst_rule.specs.Resolutions.{AsksOther, Resolved}
use Rattle.lst_rule.specs.TailLoads.{LoadsTail}
use Rattle.lst_rule.specs.Watching.{Watched}
use Rattle.lst_rule.proofs.AskingWatched.{status_watched}
use Rattle.lst_rule.proofs.Finds.{loads_none, loads_join}
use Rattle.lst_rule.proofs.Resolving.{start_watched, hosted_then, resolved_watched, resolved_loads}
use Rattle.lst_rule.proofs.Watching.{stamps_watch}
use Rattle.lst_walk.specs.Readers.{IsReader, IsAt, IsNotCommitted, Timed, Untimed, OwnFound, Resolves}
use Rattle.lst_walk.specs.Stamping.{unstamped_of, is_timed_by, sees_by, TimedAs}
use Rattle.lst_walk.proofs.Reading.{watched_on, reader_on, start_found, looked_possible}
use Rattle.lst_walk.proofs.Stamping.{tail_place, named, may_stamp, stamped_at, untimed_empty, timed_found, untimed_named, timed_stored, own_found, stamp_seen, named_own_seen, named_other_seen, committed_seen, never_seen, other_name, own_few, at_same}

-- ---- by the resolution

pub timed_yes : (v w : View) (s range n : ℕ) (r : Resolution) → is_timed_by r ≡ true → TimedAs v w s range n r → Timed v w s range n
timed_yes v w s range n Empty e h = absurd (true≢false (sym e))
timed_yes v w s range n (Stamped time) e h = h
timed_yes v w s range n Own e h = absurd (true≢false (sym e))
timed_yes v w s range n Closed e h = absurd (true≢false (sym e))
timed_yes v w s range n (Committed time) e h = h
timed_yes v w s range n (Unfinished a b) e h = absurd (true≢false (sym e))

pub timed_no : (v w : View) (s range n : ℕ) (r : Resolution) → is_timed_by r ≡ false → TimedAs v w s range n r → Untimed v w s range n ⊎ OwnFound v w s range n
timed_no v w s range n Empty e h = inl h
timed_no v w s range n (Stamped time) e h = absurd (true≢false e)
timed_no v w s range n Own e h = inr h
timed_no v w s range n Closed e h = inl h
timed_no v w s range n (Committed time) e h = absurd (true≢false e)
timed_no v w s range n (Unfinished a b) e h = inl h

pub timed_resolves : (v w : View) (s range n : ℕ) (r : Resolution) → TimedAs v w s range n r → Resolves v w s range n
timed_resolves v w s range n Empty h = inr (inl h)
timed_resolves v w s range n (Stamped time) h = inl h
timed_resolves v w s range n Own h = inr (inr h)
timed_resolves v w s range n Closed h = inr (inl h)
timed_resolves v w s range n (Committed time) h = inl h
timed_resolves v w s range n (Unfinished a b) h = inr (inl h)

pub committed_of : (r : Resolution) (time : ℕ) → unstamped_of r ≡ Some time → r ≡ Committed time
committed_of Empty time e = absurd (true≢false (sym (ap is_some e)))
committed_of (Stamped t) time e = absurd (true≢false (sym (ap is_some e)))
committed_of Own time e = absurd (true≢false (sym (ap is_some e)))
committed_of Closed time e = absurd (true≢false (sym (ap is_some e)))
committed_of (Committed t) time e = ap (λ (o : Option ℕ). Committed (value o)) e
  where
    value : Option ℕ → ℕ
    value None = t
    value (Some x) = x
committed_of (Unfinished a b) time e = absurd (true≢false (sym (ap is_some e)))

-- ---- a call at the seat a, which resolved the tail record n of the range, and came to w

module _ (store : Store) (a : Sitting) (s range n t : ℕ) (reader : IsReader store a s) (low : range < store.layout.limits.ranges) (few : (0 < n) × (n ≤ store.layout.limits.tails)) (tail_is : t ≡ range * store.layout.limits.tails + n) where
  pub inside : layout.IsWithin a.view.limits (CellWord t 0)
  inside = tail_place store.layout.limits a.view range n t 0 reader.seat_of.limits tail_is low few (omega arith)

  module _ (w : Sitting) (seat_of : IsSeatOf store w) (p : Possible w.view) where
    pub look_watched : (r : Resolution) → Resolved a.view w.view s t r → Watched a.view w.view s
    look_watched r h = resolved_watched a.view w.view s t reader.host inside r h

    pub look_reader : (r : Resolution) → Resolved a.view w.view s t r → IsReader store w s
    look_reader r h = reader_on store a w s reader (look_watched r h) seat_of

    pub look_loads : (r : Resolution) → Resolved a.view w.view s t r → LoadsTail a.view w.view s (range * store.layout.limits.tails + n)
    look_loads r h = subst (λ (x : ℕ). LoadsTail a.view w.view s x) tail_is (resolved_loads a.view w.view s t r h)

    -- another transaction's
    module _ (j m : ℕ) (status : Status) (q : AsksOther a.view w.view s t j m status) where
      abbrev b : View
      b = q.between

      start : Watched a.view b s
      start = start_watched a.view w.view s t reader.host inside b (1 + 2 * name_of j m) q.named.looked

      host_b : hosts b s ≡ true
      host_b = hosted_then a.view w.view s t reader.host inside b (1 + 2 * name_of j m) q.named.looked

      open_b : (knows b s).is_open ≡ true
      open_b = ap (λ (k : Known). k.is_open) start.watches.is ∙ reader.opened

      bw : Watched b w.view s
      bw = status_watched b w.view s j m host_b q.named.place status q.answers.says

      limits_b : b.limits ≡ store.layout.limits
      limits_b = start.learns.limits ∙ reader.seat_of.limits

      j_low : j < store.layout.limits.sessions
      j_low = subst (λ (l : Limits). j < l.sessions) limits_b q.named.place.0

      j_few : j < 16
      j_few = let below = j_low in let most = store.layout.valid.sessions.1 in omega arith

      other : name_of j m ≢ name_of s (knows b s).number
      other = other_name s j m (knows b s).number (own_few store a s reader) j_few q.other

      host_w : hosts w.view s ≡ true
      host_w = (reader_on store a w s reader (watched_on a.view b w.view s start bw) seat_of).host

      open_w : (knows w.view s).is_open ≡ true
      open_w = (reader_on store a w s reader (watched_on a.view b w.view s start bw) seat_of).opened

      session_w : j < w.view.limits.sessions
      session_w = subst (λ (l : Limits). j < l.sessions) (sym seat_of.limits) j_low

      few_w : w.view.limits.sessions ≤ 16
      few_w = subst (λ (l : Limits). l.sessions ≤ 16) (sym seat_of.limits) store.layout.valid.sessions.1

      pub other_seen : (e : Bool) → e ≡ sees (knows b s) s (name_of j m) → (c : Version) → IsAt a.view s t c → e ≡ sees (knows a.view s) s c.writer
      other_seen e is = named_other_seen a.view b s t (1 + 2 * name_of j m) j m e reader.host reader.opened start q.named.looked refl is

      pub other_never : IsNotCommitted b w.view s j m → (c : Version) → IsAt a.view s t c → false ≡ sees (knows a.view s) s c.writer
      other_never why = other_seen false (never_seen b w.view s j m (looked_possible a.view b s (1 + 2 * name_of j m) (CellWord t 0) q.named.looked) p host_b host_w open_b open_w bw session_w few_w other why)

      pub other_committed : (time : ℕ) → 0 < time → Contains (knows w.view s).facts (StateAt j m (time + 1)) → (c : Version) → IsAt a.view s t c → nat_le time (knows w.view s).begin ≡ sees (knows a.view s) s c.writer
      other_committed time some fact = other_seen (nat_le time (knows w.view s).begin) (committed_seen b w.view s j m (looked_possible a.view b s (1 + 2 * name_of j m) (CellWord t 0) q.named.looked) p host_b host_w open_b open_w bw session_w few_w other time some fact)

      pub other_untimed : IsNotCommitted b w.view s j m → Untimed a.view w.view s range n
      other_untimed why = untimed_named store.layout.limits a.view b w.view s range n t (1 + 2 * name_of j m) reader.seat_of.limits tail_is q.named.looked j m refl j_few why

      version_b : (c : Version) × IsAt b s (range * store.layout.limits.tails + n) c × (c.writer ≡ name_of j m)
      version_b = let v = named store.layout.limits a.view b s t (1 + 2 * name_of j m) store.layout.valid reader.seat_of.limits reader.host inside q.named.looked j m refl j_few in (v.0, at_same b s t (range * store.layout.limits.tails + n) v.0 tail_is v.1, v.2)

    -- what is seen of it
    pub look_seen : (r : Resolution) → Resolved a.view w.view s t r → (c : Version) → IsAt a.view s t c → sees_by (knows w.view s).begin r ≡ sees (knows a.view s) s c.writer
    look_seen Empty h c at = absurd (let some = (start_found a.view w.view s t 0 reader.host h c at).some in omega arith)
    look_seen (Stamped time) h c at = let still = look_reader (Stamped time) h in stamp_seen a.view w.view s t (2 * time) time reader.host still.host reader.opened still.opened (look_watched (Stamped time) h) h.2 refl c at
    look_seen Own h c at = named_own_seen a.view w.view s t (1 + 2 * name_of h.0 h.1) h.0 h.1 reader.host (look_watched Own h) h.2.looked refl h.3 c at
    look_seen Closed h c at = other_never h.0 h.1 status.Closed h.2 (inl h.2.answers) c at
    look_seen (Committed time) h c at = other_committed h.0 h.1 (status.Committed time) h.2 time h.2.answers.known.some h.2.answers.known.fact c at
    look_seen (Unfinished j m) h c at = other_never j m (status.Unfinished j m) h (inr h.answers) c at

    -- it needs no stamp
    pub look_timed : (r : Resolution) → unstamped_of r ≡ None → Resolved a.view w.view s t r → TimedAs a.view w.view s range n r
    look_timed Empty e h = untimed_empty store.layout.limits a.view w.view w.view s range n t 0 reader.seat_of.limits tail_is h refl
    look_timed (Stamped time) e h = timed_found store.layout.limits a.view w.view w.view s range n t (2 * time) reader.seat_of.limits tail_is h.2 time h.0 refl
    look_timed Own e h = own_found store.layout.limits a.view w.view w.view s range n t (1 + 2 * name_of h.0 h.1) reader.seat_of.limits tail_is h.2.looked h.0 h.1 refl h.3 (look_watched Own h)
    look_timed Closed e h = other_untimed h.0 h.1 status.Closed h.2 (inl h.2.answers)
    look_timed (Committed time) e h = absurd (true≢false (ap is_some e))
    look_timed (Unfinished j m) e h = other_untimed j m (status.Unfinished j m) h (inr h.answers)

    -- it is to be stamped
    module _ (time : ℕ) (h : Resolved a.view w.view s t (Committed time)) where
      abbrev q : AsksOther a.view w.view s t h.0 h.1 (status.Committed time)
      q = h.2

      pub may_be_stamped : CanStand w.view (Stamp s range n) × Times w.view (Stamp s range n) time
      may_be_stamped = may_stamp store.layout.limits q.between w.view s range n h.0 h.1 time (limits_b h.0 h.1 (status.Committed time) q) (bw h.0 h.1 (status.Committed time) q) (host_w h.0 h.1 (status.Committed time) q) (version_b h.0 h.1 (status.Committed time) q) (j_few h.0 h.1 (status.Committed time) q) q.answers.known

      pub stamp_few : time < 2 ^ 32
      stamp_few = q.answers.known.few

      -- and was, which led to d
      module _ (d : Sitting) (made : Made w.view d.view (Stamp s range n) (CellWord (range * w.view.limits.tails + n) 0) (2 * time)) where
        pub stamp_watched : Watched w.view d.view s
        stamp_watched = stamps_watch w.view d.view s range n (2 * time) (CellWord (range * w.view.limits.tails + n) 0) made

        pub stamp_timed : Timed a.view d.view s range n
        stamp_timed = timed_stored store.layout.limits a.view q.between d.view s range n t (1 + 2 * name_of h.0 h.1) reader.seat_of.limits tail_is q.named.looked time q.answers.known.some (start h.0 h.1 (status.Committed time) q)
            (stamped_at q.between w.view d.view s range n time (bw h.0 h.1 (status.Committed time) q) made)

        pub stamp_reader : IsSeatOf store d → IsReader store d s
        stamp_reader there = reader_on store w d s (look_reader (Committed time) h) stamp_watched there

        pub stamp_loads : LoadsTail a.view d.view s (range * store.layout.limits.tails + n)
        stamp_loads = loads_join (λ x. x ≡ range * store.layout.limits.tails + n) a.view w.view d.view s (look_loads (Committed time) h) (loads_none (λ x. x ≡ range * store.layout.limits.tails + n) w.view d.view s (ap (λ (k : Known). k.finds) made.view.now))

        pub stamp_sees : (c : Version) → IsAt a.view s t c → nat_le time (knows d.view s).begin ≡ sees (knows a.view s) s c.writer
        stamp_sees c at = ap (λ (k : Known). nat_le time k.begin) stamp_watched.watches.is ∙ look_seen (Committed time) h c at
