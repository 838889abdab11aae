-- How versions stand, by what was found of their transactions.
use Rattle.std.proofs.Common.{◌≡◌, ℕ, ◌+◌, ◌/◌, ◌%◌, ◌<◌, ◌≤◌, Bool, true, false, cond, eqb, nat_le, length, refl, sym, subst, ◌∙◌, arith, inl, inr, ⊎_elim, leb-false}
use Rattle.std.specs.List.{Contains}
use Rattle.lst_core_state.proofs.Sights.{or_left}
use Rattle.lst_core_state.specs.declared.known.Known.{Known}
use Rattle.lst_core_state.specs.declared.facts.Fact.TheVariants.{StateAt, CommitAt}
use Rattle.lst_core_state.specs.State.{name_of}
use Rattle.lst_rule.specs.declared.view.View.{View}
use Rattle.lst_rule.specs.Rule.{knows, hosts}
use Rattle.lst_rule.specs.Learned.{Possible}
use Rattle.lst_rule.proofs.Knowing.{is_fact}
use Rattle.lst_rule.specs.Copies.{Version}
use Rattle.lst_rule.specs.Seen.{is_early}
use Rattle.lst_rule.specs.Judging.{IsCommittedAt}
use Rattle.lst_rule.specs.Laws.{Statuses}
use Rattle.lst_rule.proofs.StatusTelling.{statuses_tell}
use Rattle.lst_write.specs.declared.standing.Standing.TheVariants.{Seen, Newer}
use Rattle.lst_write.specs.Standings.{IsStanding, standing_at}

-- a time below or above the begin
above : (time begin : ℕ) → nat_le time begin ≡ false → begin < time
above time begin e = omega (arith, leb-false)

module _ (v w : View) (s rec time : ℕ) (c : Version) (p : Possible w) (hosted : hosts w s ≡ true) (is_on : (knows w s).is_open ≡ true) where
  abbrev k : Known
  k = knows w s

  -- a version whose transaction is known to be committed, at a time that was seen
  committed_by : c.writer % 16 < w.limits.sessions → 0 < time → time ≤ length (knows w s).seen → IsCommittedAt (knows w s).facts c time → IsStanding v w s rec c (standing_at (knows w s).begin time)
  committed_by session some seen committed = choose (nat_le time k.begin) refl
    where
      tells : Statuses w s c.writer
      tells = statuses_tell w s c.writer p hosted is_on session

      early : is_early k c.writer ≡ nat_le time k.begin
      early = ⊎_elim
          (λ (h : Contains k.facts (CommitAt time (c.writer % 16) (c.writer / 16))). (tells.stamped time h).0)
          (λ (h : Contains k.facts (StateAt (c.writer % 16) (c.writer / 16) (time + 1))). tells.committed time some h)
          committed

      choose : (b : Bool) → nat_le time k.begin ≡ b → IsStanding v w s rec c (standing_at k.begin time)
      choose true e = subst (λ (b : Bool). IsStanding v w s rec c (cond b Seen (Newer time))) (sym e) (or_left (is_early k c.writer) (eqb c.writer (name_of s k.number)) (early ∙ e))
      choose false e = subst (λ (b : Bool). IsStanding v w s rec c (cond b Seen (Newer time))) (sym e) record { above = above time k.begin e; seen = seen; committed = committed }

  pub stamped_stands : time ≤ length (knows w s).seen → Contains (knows w s).facts (CommitAt time (c.writer % 16) (c.writer / 16)) → IsStanding v w s rec c (standing_at (knows w s).begin time)
  stamped_stands seen h = let f = is_fact w p.words p.known p.merger p.allowed s hosted (CommitAt time (c.writer % 16) (c.writer / 16)) h in committed_by f.2 f.0 seen (inl h)

  pub logged_stands : c.writer % 16 < w.limits.sessions → 0 < time → time ≤ length (knows w s).seen → Contains (knows w s).facts (StateAt (c.writer % 16) (c.writer / 16) (time + 1)) → IsStanding v w s rec c (standing_at (knows w s).begin time)
  logged_stands session some seen h = committed_by session some seen (inr h)
