use Rattle.std.proofs.Common.{◌≡◌, ℕ, ◌+◌, ◌*◌, ◌/◌, ◌<◌, ◌≤◌, slice_index, refl, sym, subst, ap, ◌∙◌, arith, true≢false}
use Rattle.lst_bits.specs.Times.{time_of}
use Rattle.lst_kernel.specs.Entries.{lane_of}
use Rattle.lst_core_state.specs.declared.known.Known.{Known}
use Rattle.lst_model.specs.Tables.{count_of}
use Rattle.lst_rule.specs.Rule.{knows}
use Rattle.lst_rule.specs.Seats.{Sitting}
use Rattle.lst_walk.specs.Packed.{Skims}
use Rattle.lst_walk.specs.Chains.{AreTailsOf}
use Rattle.lst_walk.proofs.Reading.{reader_on}
use Rattle.lst_scan.specs.Savings.{SavesPart}
use Rattle.lst_scan.specs.Scans.{table_seen, between}
use Rattle.lst_scan.specs.Paged.{entries_add}
use Rattle.lst_scan.proofs.Parts.{count_is}
use Rattle.lst_scan.proofs.Seeing.{one_weight, no_weight}
use Rattle.lst_scan.proofs.Sheets.{heads_skim, put_short, ahead_start, ahead_on, ahead_at, ahead_cell, ahead_packed, AreAhead, walks_start, walks_told, walks_walked, covers_start, covers_put}
use Rattle.lst_scan.proofs.Told.{one_told, ones_told, covers_told, covers_same, stands_first, stands_told, stands_put}
use Rattle.lst_scan.proofs.Seen.{entry_seen}
use Rattle.lst_scan.proofs.Folded.{quiet_saves}
use Rattle.lst_scan.proofs.Untold.{saves_told, saves_untold}
use Rattle.lst_scan.proofs.paged.count_untold.Goals.{then-not-is_told+then-is_some, then-not-is_told+else-is_some, else-not-is_told}
use Rattle.lst_scan.proofs.paged.count_untold.Goals as goal

pub returns-then-known-clause-watched : goal.returns-then-known-clause-watched
returns-then-known-clause-watched c = let r = c.requires.reader in
    let skims : Skims c.args.seat.now.view c.load_heads.new.seat.view c.args.s = heads_skim c.args.seat.now.view c.load_heads.new.seat.view c.args.s c.args.range (slice_index c.load_heads.new.out) r.host (subst (λ l. c.args.range < l.ranges) (sym r.seat_of.limits) c.requires.range) c.load_heads.ensures.loads c.load_heads.ensures.found in
    skims.watched

pub returns-then-known-clause-count : goal.returns-then-known-clause-count
returns-then-known-clause-count c = let r = c.requires.reader in
    let skims : Skims c.args.seat.now.view c.load_heads.new.seat.view c.args.s = heads_skim c.args.seat.now.view c.load_heads.new.seat.view c.args.s c.args.range (slice_index c.load_heads.new.out) r.host (subst (λ l. c.args.range < l.ranges) (sym r.seat_of.limits) c.requires.range) c.load_heads.ensures.loads c.load_heads.ensures.found in
    let begin_is : c.begin-begin.result ≡ (knows c.args.seat.now.view c.args.s).begin = c.begin-begin.ensures ∙ ap (λ (k : Known). k.begin) skims.watched.watches.is in
    let all : (i : ℕ) → i < 256 → (slice_index c.load_heads.new.out i / 2 ≤ c.args.tps) × (time_of (slice_index c.args.times.now i) ≤ (knows c.args.seat.now.view c.args.s).begin) =
    λ i few. let both = (c.surveyed-known.ensures.told c.args.tps c.begin-begin.result c.last_word-last_head.ensures c.last_word-last_stamp.ensures).0 c.if-known.true i few in (both.0, subst (λ (n : ℕ). time_of (slice_index c.args.times.now i) ≤ n) begin_is both.1) in
    λ place places. ones_told c.args.store.now c.args.seat.now c.args.s c.args.range 0 c.args.tps c.args.times.now c.consider.ensures r c.requires.range c.args.store.now.layout.valid.columns.0 c.requires.page (slice_index c.load_heads.new.out) c.load_heads.new.seat.view c.load_heads.ensures.loads all 256 (omega arith) place places
    ∙ sym (count_is (between place (256 * c.args.range) (256 * c.args.range + 256) (table_seen (knows c.args.seat.now.view c.args.s))))

pub returns-then-known-clause-saves : goal.returns-then-known-clause-saves
returns-then-known-clause-saves c = let r = c.requires.reader in
    let skims : Skims c.args.seat.now.view c.load_heads.new.seat.view c.args.s = heads_skim c.args.seat.now.view c.load_heads.new.seat.view c.args.s c.args.range (slice_index c.load_heads.new.out) r.host (subst (λ l. c.args.range < l.ranges) (sym r.seat_of.limits) c.requires.range) c.load_heads.ensures.loads c.load_heads.ensures.found in
    quiet_saves c.args.seat.now.view c.load_heads.new.seat.view c.args.s 0 (256 * c.args.range) (256 * c.args.range + 256) skims.finds

pub returns-then-known-clause-others : goal.returns-then-known-clause-others
returns-then-known-clause-others c = let r = c.requires.reader in
    let skims : Skims c.args.seat.now.view c.load_heads.new.seat.view c.args.s = heads_skim c.args.seat.now.view c.load_heads.new.seat.view c.args.s c.args.range (slice_index c.load_heads.new.out) r.host (subst (λ l. c.args.range < l.ranges) (sym r.seat_of.limits) c.requires.range) c.load_heads.ensures.loads c.load_heads.ensures.found in
    let begin_is : c.begin-begin.result ≡ (knows c.args.seat.now.view c.args.s).begin = c.begin-begin.ensures ∙ ap (λ (k : Known). k.begin) skims.watched.watches.is in
    let told = (c.surveyed-known.ensures.told c.args.tps c.begin-begin.result c.last_word-last_head.ensures c.last_word-last_stamp.ensures).0 c.if-known.true in
    λ sees i few. entry_seen (knows c.args.seat.now.view c.args.s).begin (slice_index c.args.times.now i) ((c.surveyed-known.ensures.present c.if-known.true).0 sees i few) (subst (λ (n : ℕ). time_of (slice_index c.args.times.now i) ≤ n) begin_is (told i few).1)

pub loop-slot-init : goal.loop-slot-init
loop-slot-init c = let r = c.requires.reader in
    let skims : Skims c.args.seat.now.view c.load_heads.new.seat.view c.args.s = heads_skim c.args.seat.now.view c.load_heads.new.seat.view c.args.s c.args.range (slice_index c.load_heads.new.out) r.host (subst (λ l. c.args.range < l.ranges) (sym r.seat_of.limits) c.requires.range) c.load_heads.ensures.loads c.load_heads.ensures.found in (
      walks_start c.args.store.now c.args.seat.now c.load_heads.new.seat c.args.s 1 c.consider.ensures r skims c.load_heads.ensures.seat,
      covers_start c.args.seat.now.view c.args.s (λ _. 1) (256 * c.args.range) (knows c.args.seat.now.view c.args.s).begin (λ (slot : ℕ). 1) c.args.times.now,
      stands_first c.args.times.now,
      quiet_saves c.args.seat.now.view c.load_heads.new.seat.view c.args.s 0 (256 * c.args.range) (256 * c.args.range + 0) skims.finds,
      ahead_start c.args.store.now c.args.seat.now c.load_heads.new.seat c.args.s c.args.range 0 c.args.tps c.args.times.now c.consider.ensures r c.requires.range c.args.store.now.layout.valid.columns.0 c.requires.page (slice_index c.load_heads.new.out) c.load_heads.new.seat.view c.load_heads.ensures.loads refl (reader_on c.args.store.now c.args.seat.now c.load_heads.new.seat c.args.s r skims.watched c.load_heads.ensures.seat),
    )

pub column_from-requires-clause-column : goal.column_from-requires-clause-column
column_from-requires-clause-column c = c.args.store.now.layout.valid.columns.0

pub loop-slot-preserved : goal.loop-slot-preserved
loop-slot-preserved c = let r = c.requires.reader in let walks = c.loop-slot.invariant.0 in let stands = c.loop-slot.invariant.2 in let few : c.loop-slot.slot < 256 = c.loop-slot-test.true in
    let skims : Skims c.args.seat.now.view c.load_heads.new.seat.view c.args.s = heads_skim c.args.seat.now.view c.load_heads.new.seat.view c.args.s c.args.range (slice_index c.load_heads.new.out) r.host (subst (λ l. c.args.range < l.ranges) (sym r.seat_of.limits) c.requires.range) c.load_heads.ensures.loads c.load_heads.ensures.found in
    let begin_is : c.begin-begin.result ≡ (knows c.args.seat.now.view c.args.s).begin = c.begin-begin.ensures ∙ ap (λ (k : Known). k.begin) skims.watched.watches.is in
    let here : slice_index c.loop-slot.times c.loop-slot.slot ≡ slice_index c.args.times.now c.loop-slot.slot = stands c.loop-slot.slot (omega arith) in
    elim c.if-not-is_told.branch [
      | then-not-is_told+then-is_some w ↦
          let on = ahead_cell c.args.store.now c.args.seat.now.view w.column_from.new.seat.view c.loop-slot.seat c.args.s c.args.range 0 (slice_index c.load_heads.new.out) c.loop-slot.invariant.4 c.loop-slot.slot w.unpack_head-newest.result.0 few w.unpack_head-newest.ensures.head w.column_from.result w.column_from.ensures.told in
          let weight = one_weight 0 on.0 w.column_from.result on.2 (sym w.is_some.ensures ∙ w.if-is_some.true) in (
            walks_walked c.args.store.now c.args.seat.now.view c.loop-slot.seat c.if-not-is_told.seat w.column_from.new.seat c.args.s 1 c.loop-slot.slot c.loop-slot.total c.if-not-is_told.total 1 w.seat-is (let e = w.total-is in omega arith) (omega arith) few w.column_from.ensures.reader w.column_from.ensures.watched walks,
            covers_put c.args.seat.now.view c.args.s (λ _. 1) (256 * c.args.range) c.loop-slot.slot c.loop-slot.total c.if-not-is_told.total (knows c.args.seat.now.view c.args.s).begin (λ (slot : ℕ). 1) c.loop-slot.times c.if-not-is_told.times
                0 1 (put_short c.loop-slot.times c.if-not-is_told.times c.loop-slot.slot 0 few c.if-not-is_told.array_long w.times-is) c.consider.ensures r.host on.0 on.1
                (omega arith) (let e = w.total-is in omega arith) w.times-is c.loop-slot.invariant.1,
            stands_put c.loop-slot.slot 0 c.args.times.now c.loop-slot.times c.if-not-is_told.times w.times-is stands,
            subst (λ (x : Sitting). SavesPart c.args.seat.now.view x.view c.args.s 0 (256 * c.args.range) (256 * c.args.range + (c.loop-slot.slot + 1))) (sym w.seat-is) (saves_untold c.args.seat.now.view c.load_heads.new.seat.view c.loop-slot.seat.view w.column_from.new.seat.view c.args.s c.args.range 0 c.args.tps c.loop-slot.slot c.args.times.now (slice_index c.load_heads.new.out) few c.requires.told c.load_heads.ensures.loads
                (λ both. true≢false (sym ((c.is_told.ensures c.args.tps c.begin-begin.result c.last_word-last_head.ensures c.last_word-last_stamp.ensures).1
                (both.0, subst (λ (n : ℕ). time_of n ≤ c.begin-begin.result) (sym here) (subst (λ (n : ℕ). time_of (slice_index c.args.times.now c.loop-slot.slot) ≤ n) (sym begin_is) both.1))) ∙ w.if-not-is_told.true)) w.column_from.ensures.loads w.column_from.ensures.watched c.loop-slot.invariant.3),
            subst (λ (x : Sitting). AreAhead c.args.store.now c.args.seat.now.view x c.args.s c.args.range 0 (slice_index c.load_heads.new.out)) (sym w.seat-is) (ahead_on c.args.store.now c.args.seat.now.view c.loop-slot.seat w.column_from.new.seat c.args.s c.args.range 0 (slice_index c.load_heads.new.out) c.loop-slot.invariant.4 w.column_from.ensures.watched w.column_from.ensures.reader),
          )
      | then-not-is_told+else-is_some w ↦
          let on = ahead_cell c.args.store.now c.args.seat.now.view w.column_from.new.seat.view c.loop-slot.seat c.args.s c.args.range 0 (slice_index c.load_heads.new.out) c.loop-slot.invariant.4 c.loop-slot.slot w.unpack_head-newest.result.0 few w.unpack_head-newest.ensures.head w.column_from.result w.column_from.ensures.told in
          let weight = no_weight 0 on.0 w.column_from.result on.2 (λ there. true≢false (sym there ∙ (sym w.is_some.ensures ∙ w.if-is_some.false))) in (
            walks_walked c.args.store.now c.args.seat.now.view c.loop-slot.seat c.if-not-is_told.seat w.column_from.new.seat c.args.s 1 c.loop-slot.slot c.loop-slot.total c.if-not-is_told.total 0 w.seat-is (let e = w.total-is in omega arith) (omega arith) few w.column_from.ensures.reader w.column_from.ensures.watched walks,
            covers_put c.args.seat.now.view c.args.s (λ _. 1) (256 * c.args.range) c.loop-slot.slot c.loop-slot.total c.if-not-is_told.total (knows c.args.seat.now.view c.args.s).begin (λ (slot : ℕ). 1) c.loop-slot.times c.if-not-is_told.times
                0 0 (put_short c.loop-slot.times c.if-not-is_told.times c.loop-slot.slot 0 few c.if-not-is_told.array_long w.times-is) c.consider.ensures r.host on.0 on.1
                (omega arith) (let e = w.total-is in omega arith) w.times-is c.loop-slot.invariant.1,
            stands_put c.loop-slot.slot 0 c.args.times.now c.loop-slot.times c.if-not-is_told.times w.times-is stands,
            subst (λ (x : Sitting). SavesPart c.args.seat.now.view x.view c.args.s 0 (256 * c.args.range) (256 * c.args.range + (c.loop-slot.slot + 1))) (sym w.seat-is) (saves_untold c.args.seat.now.view c.load_heads.new.seat.view c.loop-slot.seat.view w.column_from.new.seat.view c.args.s c.args.range 0 c.args.tps c.loop-slot.slot c.args.times.now (slice_index c.load_heads.new.out) few c.requires.told c.load_heads.ensures.loads
                (λ both. true≢false (sym ((c.is_told.ensures c.args.tps c.begin-begin.result c.last_word-last_head.ensures c.last_word-last_stamp.ensures).1
                (both.0, subst (λ (n : ℕ). time_of n ≤ c.begin-begin.result) (sym here) (subst (λ (n : ℕ). time_of (slice_index c.args.times.now c.loop-slot.slot) ≤ n) (sym begin_is) both.1))) ∙ w.if-not-is_told.true)) w.column_from.ensures.loads w.column_from.ensures.watched c.loop-slot.invariant.3),
            subst (λ (x : Sitting). AreAhead c.args.store.now c.args.seat.now.view x c.args.s c.args.range 0 (slice_index c.load_heads.new.out)) (sym w.seat-is) (ahead_on c.args.store.now c.args.seat.now.view c.loop-slot.seat w.column_from.new.seat c.args.s c.args.range 0 (slice_index c.load_heads.new.out) c.loop-slot.invariant.4 w.column_from.ensures.watched w.column_from.ensures.reader),
          )
      | else-not-is_told w ↦
          let both = (c.is_told.ensures c.args.tps c.begin-begin.result c.last_word-last_head.ensures c.last_word-last_stamp.ensures).0 w.if-not-is_told.false in
          let early : time_of (slice_index c.args.times.now c.loop-slot.slot) ≤ (knows c.args.seat.now.view c.args.s).begin = subst (λ (n : ℕ). time_of (slice_index c.args.times.now c.loop-slot.slot) ≤ n) begin_is (subst (λ (n : ℕ). time_of n ≤ c.begin-begin.result) here both.1) in
          let told = one_told c.args.store.now c.args.seat.now c.args.s c.args.range 0 c.args.tps c.args.times.now c.consider.ensures r c.requires.range c.args.store.now.layout.valid.columns.0 c.requires.page (slice_index c.load_heads.new.out) c.load_heads.new.seat.view c.load_heads.ensures.loads c.loop-slot.slot few both.0 early in (
            walks_told c.args.store.now c.args.seat.now.view c.loop-slot.seat c.if-not-is_told.seat c.args.s 1 c.loop-slot.slot c.loop-slot.total c.if-not-is_told.total w.seat-is w.total-is few walks,
            covers_same c.args.seat.now.view c.args.s (λ _. 1) (256 * c.args.range) (c.loop-slot.slot + 1) c.loop-slot.total c.if-not-is_told.total (knows c.args.seat.now.view c.args.s).begin (λ (slot : ℕ). 1) c.loop-slot.times c.if-not-is_told.times w.total-is w.times-is
                (covers_told c.args.seat.now.view c.args.s (λ _. 1) (256 * c.args.range) c.loop-slot.slot c.loop-slot.total (knows c.args.seat.now.view c.args.s).begin (λ (slot : ℕ). 1) c.loop-slot.times c.consider.ensures r.host told.0 told.1
                (ap (λ (n : ℕ). lane_of (knows c.args.seat.now.view c.args.s).begin 1 n) here ∙ told.2) c.loop-slot.invariant.1),
            stands_told c.loop-slot.slot c.args.times.now c.loop-slot.times c.if-not-is_told.times w.times-is stands,
            saves_told c.args.seat.now.view c.loop-slot.seat.view c.if-not-is_told.seat.view c.args.s 0 (256 * c.args.range) c.loop-slot.slot (ap (λ (x : Sitting). x.view) w.seat-is) c.loop-slot.invariant.3,
            subst (λ (x : Sitting). AreAhead c.args.store.now c.args.seat.now.view x c.args.s c.args.range 0 (slice_index c.load_heads.new.out)) (sym w.seat-is) c.loop-slot.invariant.4,
          )
    ]

pub returns-clause-count : goal.returns-clause-count
returns-clause-count c = λ place places. let invariant = c.loop-slot.invariant in let end : c.loop-slot.slot ≡ 256 = (let t = c.loop-slot-test.false in let few = invariant.0.few in omega arith) in
    subst (λ (n : ℕ). c.loop-slot.total + entries_add (knows c.args.seat.now.view c.args.s).begin (λ (slot : ℕ). 1) c.loop-slot.times n ≡ count_of (between place (256 * c.args.range) (256 * c.args.range + n) (table_seen (knows c.args.seat.now.view c.args.s)))) end
    (invariant.1 place places ∙ sym (count_is (between place (256 * c.args.range) (256 * c.args.range + c.loop-slot.slot) (table_seen (knows c.args.seat.now.view c.args.s)))))

pub returns-clause-saves : goal.returns-clause-saves
returns-clause-saves c = let invariant = c.loop-slot.invariant in let end : c.loop-slot.slot ≡ 256 = (let t = c.loop-slot-test.false in let few = invariant.0.few in omega arith) in
    subst (λ (n : ℕ). SavesPart c.args.seat.now.view c.loop-slot.seat.view c.args.s 0 (256 * c.args.range) (256 * c.args.range + n)) end invariant.3

pub unpack_head-newest-requires : goal.unpack_head-newest-requires
unpack_head-newest-requires c = ahead_packed c.args.store.now c.args.seat.now.view c.loop-slot.seat c.args.s c.args.range 0 (slice_index c.load_heads.new.out) c.loop-slot.invariant.4 c.loop-slot.slot c.loop-slot-test.true

pub column_from-requires-clause-tails : goal.column_from-requires-clause-tails
column_from-requires-clause-tails c = let few : c.loop-slot.slot < 256 = c.loop-slot-test.true in let here : c.args.range ≡ (256 * c.args.range + c.loop-slot.slot) / 256 = omega arith in subst (λ (r : ℕ). AreTailsOf c.args.store.now.layout.limits r c.tails_apart-tails.result) here c.tails_apart-tails.ensures

pub column_from-requires-clause-walk : goal.column_from-requires-clause-walk
column_from-requires-clause-walk c = (c.args.seat.now.view, ahead_at c.args.store.now c.args.seat.now.view c.loop-slot.seat c.args.s c.args.range 0 (slice_index c.load_heads.new.out) c.loop-slot.invariant.4 c.loop-slot.slot c.unpack_head-newest.result.0 c.loop-slot-test.true c.unpack_head-newest.ensures.head)

pub column_from-requires-clause-begin : goal.column_from-requires-clause-begin
column_from-requires-clause-begin c = let r = c.requires.reader in
    let skims : Skims c.args.seat.now.view c.load_heads.new.seat.view c.args.s = heads_skim c.args.seat.now.view c.load_heads.new.seat.view c.args.s c.args.range (slice_index c.load_heads.new.out) r.host (subst (λ l. c.args.range < l.ranges) (sym r.seat_of.limits) c.requires.range) c.load_heads.ensures.loads c.load_heads.ensures.found in
    c.begin-begin.ensures ∙ (ap (λ (k : Known). k.begin) skims.watched.watches.is ∙ sym (ap (λ (k : Known). k.begin) c.loop-slot.invariant.0.scans.watched.watches.is))

pub load_heads-requires-clause-seat : goal.load_heads-requires-clause-seat
load_heads-requires-clause-seat c = c.requires.reader.seat_of

pub load_heads-requires-clause-host : goal.load_heads-requires-clause-host
load_heads-requires-clause-host c = c.requires.reader.host

pub returns-then-known-clause-reader : goal.returns-then-known-clause-reader
returns-then-known-clause-reader c = let r = c.requires.reader in
    let skims : Skims c.args.seat.now.view c.load_heads.new.seat.view c.args.s = heads_skim c.args.seat.now.view c.load_heads.new.seat.view c.args.s c.args.range (slice_index c.load_heads.new.out) r.host (subst (λ l. c.args.range < l.ranges) (sym r.seat_of.limits) c.requires.range) c.load_heads.ensures.loads c.load_heads.ensures.found in
    reader_on c.args.store.now c.args.seat.now c.load_heads.new.seat c.args.s r skims.watched c.load_heads.ensures.seat

pub column_from-requires-clause-reader : goal.column_from-requires-clause-reader
column_from-requires-clause-reader c = c.loop-slot.invariant.0.scans.reader

pub returns-clause-reader : goal.returns-clause-reader
returns-clause-reader c = c.loop-slot.invariant.0.scans.reader

pub returns-clause-watched : goal.returns-clause-watched
returns-clause-watched c = c.loop-slot.invariant.0.scans.watched
