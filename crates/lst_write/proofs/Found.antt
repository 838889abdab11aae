-- What a load of a version's start word tells of it.
use Rattle.std.proofs.Common.{◌≡◌, ◌≢◌, ℕ, ◌+◌, ◌/◌, ◌%◌, ◌<◌, ◌≤◌, true, eqb, Contains, sym, subst, ◌∙◌, arith, eq-eqb}
use Rattle.lst_layout.specs.declared.limits.Limits.{Limits}
use Rattle.lst_layout.specs.declared.place.Place.TheVariants.{StateWord, CellWord}
use Rattle.lst_layout.specs.Addresses.{IsWithin}
use Rattle.lst_core_state.proofs.Sights.{or_right}
use Rattle.lst_bits.specs.Starts.{IsStartWord, start_word}
use Rattle.lst_bits.specs.declared.starts.Start.TheVariants.{Empty, By, At}
use Rattle.lst_core_state.specs.declared.known.Known.{Known}
use Rattle.lst_core_state.specs.declared.facts.Fact.TheVariants.{CommitAt}
use Rattle.lst_core_state.specs.State.{name_of}
use Rattle.lst_rule.specs.declared.view.View.{View}
use Rattle.lst_rule.specs.Rule.{knows, hosts}
use Rattle.lst_rule.specs.Learned.{Possible}
use Rattle.lst_rule.proofs.Knowing.{is_fact, clock_is}
use Rattle.lst_rule.specs.Stores.{Looked}
use Rattle.lst_rule.specs.Copies.{Version, fact_of, IsVersionOf}
use Rattle.lst_rule.specs.Seen.{is_early}
use Rattle.lst_rule.specs.Loads.{StartFound}
use Rattle.lst_rule.specs.Watching.{Watched}
use Rattle.lst_rule.proofs.Finding.{starts_are_found}
use Rattle.lst_rule.proofs.Watching.{looks_watch}
use Rattle.lst_rule.proofs.StatusTelling.{low, is_known}
use Rattle.lst_write.specs.declared.standing.Standing.{Standing}
use Rattle.lst_write.specs.declared.standing.Standing.TheVariants.{Seen}
use Rattle.lst_write.specs.Standings.{IsVersion, IsStamp, IsOther, Stands, StandsAt, StandsBy}
use Rattle.lst_write.proofs.Starts.{start_word_few}
use Rattle.lst_write.proofs.Keeping.{kept, still_hosts, still_on}
use Rattle.lst_write.proofs.States.{stood_before}

-- a word of a version
pub version_word : (l : Limits) (k : Known) (tail p : ℕ) → p < 3 + l.columns → IsVersion l k tail → IsWithin l (CellWord tail p)
version_word l k tail p inside (rec, c, is, known, at) = let a = is.some in let b = is.few in (omega arith, omega arith, inside)

-- the transaction that wrote a version was begun
pub version_begun : (v : View) (s rec : ℕ) (c : Version) → Possible v → hosts v s ≡ true → (knows v s).is_open ≡ true → Contains (knows v s).facts (fact_of c) → c.writer % 16 ≡ s → c.writer / 16 ≤ (knows v s).number
version_begun v s rec c p hosted is_on known own = let a = p.allowed in let f = is_fact v p.words p.known p.merger a s hosted (fact_of c) known in let b = (a.sound.versions.stored c.tail f.0).begun.2 in
    subst (λ (k : Known). c.writer / 16 ≤ k.number) (sym (is_known v p.words p.known p.merger a s hosted is_on))
    (subst (λ (j : ℕ). c.writer / 16 ≤ (p.known j).number) own (subst (λ (x : ℕ). x / 16 ≤ (p.known (x % 16)).number) f.1 b))

module _ (v w : View) (s tail x : ℕ) (hosted : hosts v s ≡ true) (is_on : (knows v s).is_open ≡ true) (version : IsVersion v.limits (knows v s) tail) (h : Looked v w s (CellWord tail 0) x) where
  pub start_watched : Watched v w s
  start_watched = looks_watch v w s x (CellWord tail 0) hosted (version_word v.limits (knows v s) tail 0 (omega arith) version) tt h.met

  pub start_found : (rec : ℕ) (c : Version) → IsVersionOf v.limits rec c → Contains (knows v s).facts (fact_of c) → c.tail ≡ tail → StartFound (knows w s) rec c x
  start_found rec c is known at = starts_are_found v w s rec x c hosted is known (subst (λ (t : ℕ). Looked v w s (CellWord t 0) x) (sym at) h).met

  abbrev is : IsVersionOf v.limits version.0 version.1
  is = version.2

  abbrev known : Contains (knows v s).facts (fact_of version.1)
  known = version.3

  abbrev found : StartFound (knows w s) version.0 version.1 x
  found = start_found version.0 version.1 version.2 version.3 version.4

  pub start_is_word : Possible w → IsStartWord x
  start_is_word p = start_word_few v.limits (knows w s) version.0 x version.1 h.met.made.told.allowed.sound.sized is (λ even. let a = p.allowed in
      let f = is_fact w p.words p.known p.merger a s (still_hosts v w s start_watched hosted) (CommitAt (x / 2) (version.1.writer % 16) (version.1.writer / 16)) (found.stamped even).1 in
      let low = (clock_is w p.words p.known p.merger a).1 in let by = f.1 in omega arith) found

  pub start_some : x ≢ start_word Empty
  start_some e = let some = found.some in omega arith

  -- ---- a stamp

  module _ (time : ℕ) (e : start_word (At time) ≡ x) where
    stamp_of : (rec : ℕ) (c : Version) → StartFound (knows w s) rec c x → Contains (knows w s).facts (CommitAt time (c.writer % 16) (c.writer / 16))
    stamp_of rec c f = let half : x / 2 ≡ time = omega arith in subst (λ (t : ℕ). Contains (knows w s).facts (CommitAt t (c.writer % 16) (c.writer / 16))) half (f.stamped (omega arith)).1

    pub start_stamp : IsStamp (knows w s) time
    start_stamp = (version.1.writer, stamp_of version.0 version.1 found)

    pub stamp_stands : (u : View) (a : Standing) → StandsAt w u s time a → Stands v u s tail a
    stamp_stands u a stands rec c is known at = stood_before v w u s rec c a start_watched (stands rec c (stamp_of rec c (start_found rec c is known at)))

  -- ---- a name

  module _ (j n : ℕ) (e : start_word (By j n) ≡ x) where
    name_in : (rec : ℕ) (c : Version) → StartFound (knows w s) rec c x → c.writer ≡ name_of j n
    name_in rec c f = let g = f.named (omega arith) in omega arith

    pub name_is : version.1.writer ≡ name_of j n
    name_is = name_in version.0 version.1 found

    -- the own one
    pub own_stands : j ≡ s → n ≡ (knows w s).number → Stands v w s tail Seen
    own_stands a b rec c is known at = or_right (is_early (knows w s) c.writer) (eqb c.writer (name_of s (knows w s).number))
        (eq-eqb c.writer (name_of s (knows w s).number) (name_in rec c (start_found rec c is known at) ∙ (λ i. name_of (a i) (b i))))

    pub name_place : j < 16 → IsWithin w.limits (StateWord j n)
    name_place few = subst (λ (l : Limits). IsWithin l (StateWord j n)) (sym h.view.limits)
        (let name = name_in version.0 version.1 found in let a = is.session in let b = is.begun in let d = is.number in (omega arith, omega arith, omega arith))

    -- another one
    pub name_other : Possible w → j < 16 → ¬ ((j ≡ s) × (n ≡ (knows w s).number)) → IsOther (knows w s) s j n
    name_other p few other = let W = start_watched in let on = still_on v w s W is_on in let own = low w p.words p.known p.merger p.allowed s (still_hosts v w s W hosted) on in let most = p.allowed.sound.sized.sessions.1 in record {
      name = λ same. other (omega arith, omega arith);
      begun = λ same. let name = name_in version.0 version.1 found in
          let b = version_begun w s version.0 version.1 p (still_hosts v w s W hosted) on ((kept v w s W).facts (fact_of version.1) known) (omega arith) in omega arith;
    }

    pub name_stands : (u : View) (a : Standing) → StandsBy w u s (name_of j n) a → Stands v u s tail a
    name_stands u a stands rec c is known at = let f = start_found rec c is known at in let name = name_in rec c f in let g = f.named (omega arith) in
        stood_before v w u s rec c a start_watched (stands rec c (subst (λ (y : ℕ). StartFound (knows w s) rec c y) g f) name)
