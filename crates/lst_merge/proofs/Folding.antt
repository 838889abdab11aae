-- Tails folded into entries, one after another.
use Rattle.std.proofs.Common.{◌≡◌, ℕ, zero, suc, ◌+◌, ◌*◌, ◌<◌, ◌≤◌, List, [], ◌∷◌, ◌++◌, Bool, true, false, true≢false, cond, eq-eqb, ne_eqb, Some, None, ◌⊎◌, inl, inr, ◌-◌, ◌^◌, refl, sym, subst, ap, ◌∙◌, arith, length, take, drop, Contains, nat_lt, ◌&&◌, lt-ltb, eqb, slice_index, length-append}
use Rattle.std.specs.Int.{bit_at}
use Rattle.std.proofs.lemmas.Nat.Bits.{bit_at-zero, bit_at_ones}
use Rattle.lst_layout.specs.declared.limits.Limits.{Limits}
use Rattle.lst_bits.specs.declared.encodings.Encoding.{Encoding}
use Rattle.lst_bits.specs.declared.encodings.Kind.{Kind}
use Rattle.lst_bits.specs.declared.encodings.Kind.TheVariants.{Put, Set, Del}
use Rattle.lst_bits.specs.Encodings.{encoding_of, IsMaskOf}
use Rattle.lst_model.specs.Cells.{Cell, has_bit}
use Rattle.lst_pages.specs.Rows.{cell_at}
use Rattle.lst_core_state.specs.declared.facts.Fact.{Fact}
use Rattle.lst_core_state.specs.declared.known.Known.{Known}
use Rattle.lst_pages.specs.declared.entries.Entry.{Entry}
use Rattle.lst_pages.specs.declared.tails.PageTail.{PageTail}
use Rattle.lst_pages.specs.Chains.{Told}
use Rattle.lst_pages.specs.Entries.{entry_by, cell_by}
use Rattle.lst_pages.specs.Tails.{touches, touches_column}
use Rattle.lst_pages.proofs.Folds.{folded-append}
use Rattle.lst_pages.specs.Settled.{tail_by}
use Rattle.lst_rule.specs.declared.store.Store.{Store}
use Rattle.lst_rule.specs.declared.view.View.{View}
use Rattle.lst_rule.specs.Rule.{hosts}
use Rattle.lst_rule.specs.Learned.{Possible}
use Rattle.lst_rule.specs.Seats.{Sitting}
use Rattle.lst_rule.specs.Stores.{IsSeatOf}
use Rattle.lst_merge.specs.Inspections.{merger_of, Inspects}
use Rattle.lst_merge.specs.Pages.{entry_of, AreNumbers, IsWith, Folds, AreKnown, FoldsRun}
use Rattle.lst_merge.specs.Runs.{KnowsSettled, HasSettled, SettledAt, IsEncodedAs, AreSettled}
use Rattle.lst_merge.proofs.Inspecting.{inspects_same}
use Rattle.lst_merge.proofs.Settling.{settled_more, settled_same}
use Rattle.lst_merge.proofs.Ending.{inspects_join, inspects_host, merger_has, merger_knows, merger_facts, merger_seen}

-- ---- one tail

-- a tail touches a slot where it is taken, and is of that slot
touches_is : (c i : ℕ) (t : PageTail) → touches c i t ≡ (eqb t.slot i && (nat_lt 0 t.time && touches_column c t.kind t.mask))
touches_is c i t = turned (nat_lt 0 t.time) (eqb t.slot i) (touches_column c t.kind t.mask)
  where
    turned : (a b d : Bool) → (a && (b && d)) ≡ (b && (a && d))
    turned true b d = refl
    turned false true d = refl
    turned false false d = refl

-- a tail that isn't committed, or doesn't touch the column, leaves the entries
pub folds_skip : (c : ℕ) (t : PageTail) (es : ℕ → Entry) → (nat_lt 0 t.time && touches_column c t.kind t.mask) ≡ false → Folds c t es es
folds_skip c t es skips i low = ap (λ (b : Bool). cond b (entry_by c t) (es i)) (sym (touches_is c i t ∙ (ap (λ (b : Bool). eqb t.slot i && b) skips ∙ and_false (eqb t.slot i))))
  where
    and_false : (b : Bool) → (b && false) ≡ false
    and_false true = refl
    and_false false = refl

-- another one makes the entry of its record
pub folds_put : (c : ℕ) (t : PageTail) (es fs : ℕ → Entry) → (nat_lt 0 t.time && touches_column c t.kind t.mask) ≡ true → IsWith t.slot (entry_by c t) es fs → Folds c t es fs
folds_put c t es fs takes put i low = put i low ∙ ap (λ (b : Bool). cond b (entry_by c t) (es i)) (sym (touches_is c i t ∙ (ap (λ (b : Bool). eqb t.slot i && b) takes ∙ and_true (eqb t.slot i))))
  where
    and_true : (b : Bool) → (b && true) ≡ b
    and_true true = refl
    and_true false = refl

-- a closed one
pub folds_closed : (c : ℕ) (t : PageTail) (es : ℕ → Entry) → t.time ≡ 0 → Folds c t es es
folds_closed c t es none = folds_skip c t es (ap (λ (n : ℕ). nat_lt 0 n && touches_column c t.kind t.mask) none)

-- ---- by the bit of the column in the mask

no_bit : (c : ℕ) → has_bit 0 c ≡ false
no_bit c = ne_eqb (bit_at 0 c) 1 (λ e. let none = bit_at-zero c in omega arith)

-- a tail whose mask has the column touches it, and leaves the cell that it holds
pub mask_touches : (columns c mask : ℕ) (kind : Kind) → IsMaskOf columns kind mask → has_bit mask c ≡ true → touches_column c kind mask ≡ true
mask_touches columns c mask Put fits bit = refl
mask_touches columns c mask Set fits bit = bit
mask_touches columns c mask Del fits bit = refl

pub mask_holds : (columns c mask : ℕ) (kind : Kind) (cells : List Cell) → IsMaskOf columns kind mask → has_bit mask c ≡ true → Some (cell_at c cells) ≡ cell_by c kind cells
mask_holds columns c mask Put cells fits bit = refl
mask_holds columns c mask Set cells fits bit = refl
mask_holds columns c mask Del cells fits bit = absurd (true≢false (sym bit ∙ (ap (λ (m : ℕ). has_bit m c) fits ∙ no_bit c)))

-- one whose mask hasn't leaves it, but a delete
pub mask_skips : (columns c mask : ℕ) (kind : Kind) → IsMaskOf columns kind mask → c < columns → has_bit mask c ≡ false → (kind ≡ Put) ⊎ (kind ≡ Set) → touches_column c kind mask ≡ false
mask_skips columns c mask Put fits low bit is = absurd (true≢false (sym (eq-eqb (bit_at (2 ^ columns - 1) c) 1 (bit_at_ones columns c low)) ∙ (ap (λ (m : ℕ). has_bit m c) (sym fits) ∙ bit)))
mask_skips columns c mask Set fits low bit is = bit
mask_skips columns c mask Del fits low bit (inl is) = absurd (let e : Del ≡ Put = is in cc)
mask_skips columns c mask Del fits low bit (inr is) = absurd (let e : Del ≡ Set = is in cc)

pub delete_touches : (c mask : ℕ) (kind : Kind) → kind ≡ Del → touches_column c kind mask ≡ true
delete_touches c mask kind is = ap (λ (k : Kind). touches_column c k mask) is

-- by the encoding that was found, and the cell
module _ (k : Known) (t c time : ℕ) (e : Encoding) (tail : PageTail) (knows : KnowsSettled k t tail) (encoded : IsEncodedAs k.facts t e) (at : tail.time ≡ time) (some : 0 < time) (es : ℕ → Entry) where
  encoding : e ≡ encoding_of knows.encoding
  encoding = encoded knows.writer knows.encoding knows.back knows.values knows.cell

  is : tail ≡ tail_by knows.encoding knows.values tail.time
  is = knows.is

  slot : tail.slot ≡ e.slot
  slot = ap (λ (u : PageTail). u.slot) is ∙ ap (λ (f : Encoding). f.slot) (sym encoding)

  taken : (nat_lt 0 tail.time && touches_column c tail.kind tail.mask) ≡ touches_column c e.kind e.mask
  taken = (λ i. nat_lt 0 (at i) && touches_column c ((ap (λ (u : PageTail). u.kind) is ∙ ap (λ (f : Encoding). f.kind) (sym encoding)) i) ((ap (λ (u : PageTail). u.mask) is ∙ ap (λ (f : Encoding). f.mask) (sym encoding)) i))
      ∙ ap (λ (b : Bool). b && touches_column c e.kind e.mask) (lt-ltb 0 time some)

  pub folds_else : touches_column c e.kind e.mask ≡ false → Folds c tail es es
  folds_else skips = folds_skip c tail es (taken ∙ skips)

  pub folds_there : (entry : Entry) (fs : ℕ → Entry) → touches_column c e.kind e.mask ≡ true → entry.cell ≡ cell_by c tail.kind tail.values → entry.time ≡ time → IsWith e.slot entry es fs → Folds c tail es fs
  folds_there entry fs takes cell when put = folds_put c tail es fs (taken ∙ takes) (subst (λ (z : ℕ × Entry). IsWith z.0 z.1 es fs) (λ i. (sym slot i, record { cell = cell i; time = (when ∙ sym at) i })) put)

  kind : tail.kind ≡ e.kind
  kind = ap (λ (u : PageTail). u.kind) is ∙ ap (λ (f : Encoding). f.kind) (sym encoding)

  module _ (columns : ℕ) (fits : IsMaskOf columns e.kind e.mask) where
    pub folds_left : has_bit e.mask c ≡ false → c < columns → (e.kind ≡ Put) ⊎ (e.kind ≡ Set) → Folds c tail es es
    folds_left bit low kinds = folds_else (mask_skips columns c e.mask e.kind fits low bit kinds)

    pub folds_deleted : (fs : ℕ → Entry) → e.kind ≡ Del → IsWith e.slot (record { cell = None; time = time }) es fs → Folds c tail es fs
    folds_deleted fs deletes put = folds_there (record { cell = None; time = time }) fs (delete_touches c e.mask e.kind deletes) (ap (λ (f : Kind). cell_by c f tail.values) (sym (kind ∙ deletes))) refl put

    pub folds_held : (cell : Cell) (fs : ℕ → Entry) → has_bit e.mask c ≡ true → cell ≡ cell_at c tail.values → IsWith e.slot (record { cell = Some cell; time = time }) es fs → Folds c tail es fs
    folds_held cell fs bit same put = folds_there (record { cell = Some cell; time = time }) fs (mask_touches columns c e.mask e.kind fits bit)
        (ap Some same ∙ (mask_holds columns c e.mask e.kind tail.values fits bit ∙ ap (λ (f : Kind). cell_by c f tail.values) (sym kind))) refl put

-- ---- many tails

-- with more facts they stay known
pub known_more : (l : Limits) (u v : Known) (range p : ℕ) (ts : List PageTail) → ((f : Fact) → Contains u.facts f → Contains v.facts f) → length u.seen ≤ length v.seen → AreKnown l u range p ts → AreKnown l v range p ts
known_more l u v range p [] facts seen a = tt
known_more l u v range p (t ∷ ts) facts seen a = (settled_more u v (range * l.tails + suc p) t facts seen a.0, known_more l u v range (suc p) ts facts seen a.1)

known_snoc : (l : Limits) (k : Known) (range p n : ℕ) (ts : List PageTail) (t : PageTail) → n ≡ suc (p + length ts) → AreKnown l k range p ts → KnowsSettled k (range * l.tails + n) t → AreKnown l k range p (ts ++ t ∷ [])
known_snoc l k range p n [] t e a knows = let f : n ≡ suc p = omega arith in (subst (λ (m : ℕ). KnowsSettled k (range * l.tails + m) t) f knows, tt)
known_snoc l k range p n (u ∷ ts) t e a knows = (a.0, known_snoc l k range (suc p) n ts t (omega arith) a.1 knows)

pub run_none : (l : Limits) (k : Known) (range c p : ℕ) (es : ℕ → Entry) → FoldsRun l k range c p p es es
run_none l k range c p es = record { tails = []; known = tt; long = omega arith; folds = λ i low. refl }

pub run_next : (l : Limits) (u v : Known) (range c p n : ℕ) (t : PageTail) (es fs gs : ℕ → Entry) → ((f : Fact) → Contains u.facts f → Contains v.facts f) → length u.seen ≤ length v.seen
    → FoldsRun l u range c p n es fs → KnowsSettled v (range * l.tails + (n + 1)) t → Folds c t fs gs → FoldsRun l v range c p (n + 1) es gs
run_next l u v range c p n t es fs gs facts seen run knows folds = record {
  tails = run.tails ++ t ∷ [];
  known = let long = run.long in known_snoc l v range p (n + 1) run.tails t (omega arith) (known_more l u v range p run.tails facts seen run.known) knows;
  long = let long = run.long in let more : length (run.tails ++ t ∷ []) ≡ length run.tails + 1 = length-append run.tails (t ∷ []) in omega arith;
  folds = λ i low. folds i low ∙ (ap (λ (e : Entry). cond (touches c i t) (entry_by c t) e) (run.folds i low) ∙ sym (folded-append (touches c i) c (es i) run.tails (t ∷ [])));
}

-- ---- the tails of a range by number

pub told_drop : (a : ℕ → PageTail) (m p q : ℕ) (ts : List PageTail) → q ≡ m + p → Told a m ts → Told a q (drop p ts)
told_drop a m zero q ts e told = let f : m ≡ q = omega arith in subst (λ (n : ℕ). Told a n ts) f told
told_drop a m (suc p) q [] e told = tt
told_drop a m (suc p) q (t ∷ ts) e told = told_drop a (suc m) p q ts (omega arith) told.1

pub told_same : (a : ℕ → PageTail) (p : ℕ) (ts us : List PageTail) → Told a p ts → Told a p us → length us ≤ length ts → take (length us) ts ≡ us
told_same a p ts [] t u low = refl
told_same a p [] (y ∷ us) t u low = absurd (omega arith)
told_same a p (x ∷ ts) (y ∷ us) t u low = (λ i. (t.0 ∙ sym u.0) i ∷ told_same a (suc p) ts us t.1 u.1 (omega arith) i)

-- ---- what the loop keeps

pub record FoldsOn (store : Store) (v : View) (seat : Sitting) (range c p end n : ℕ) (before : ℕ → Entry) (words values : List ℕ) : Type 0 where
  pub is : IsSeatOf store seat
  pub from : p ≤ n
  pub few : n ≤ end
  pub inspects : Inspects v seat.view v.limits.sessions
  pub run : FoldsRun v.limits (merger_of seat.view) range c p n before (entry_of (slice_index words) values)
  pub numbers : AreNumbers (slice_index words) values

pub folds_first : (store : Store) (seat : Sitting) (range c p end : ℕ) (words values : List ℕ) → IsSeatOf store seat → p ≤ end → AreNumbers (slice_index words) values → FoldsOn store seat.view seat range c p end p (entry_of (slice_index words) values) words values
folds_first store seat range c p end words values is low numbers = record { is = is; from = omega arith; few = low; inspects = inspects_same seat.view seat.view.limits.sessions; run = run_none seat.view.limits (merger_of seat.view) range c p (entry_of (slice_index words) values); numbers = numbers }

module _ (store : Store) (v : View) (a : Sitting) (range c p end n : ℕ) (es : ℕ → Entry) (words values : List ℕ) (on : FoldsOn store v a range c p end n es words values) where
  pub folds_host : hosts v v.limits.sessions ≡ true → hosts a.view a.view.limits.sessions ≡ true
  folds_host hosted = inspects_host v a.view on.inspects hosted

  tails_same : store.layout.limits.tails ≡ v.limits.tails
  tails_same = ap (λ (l : Limits). l.tails) (sym on.is.limits ∙ on.inspects.view.limits)

  -- the next tail is known to be settled
  pub folds_settled : AreSettled v.limits (merger_of v) range p end → n < end → (t : ℕ) → t ≡ range * store.layout.limits.tails + (n + 1) → HasSettled (merger_of a.view) t
  folds_settled settled low t is = let from = on.from in subst (HasSettled (merger_of a.view)) (ap (λ (m : ℕ). range * m + (n + 1)) (sym tails_same) ∙ sym is) (merger_has v a.view on.inspects (range * v.limits.tails + (n + 1)) (settled (n + 1) (omega arith) (omega arith)))

  pub folds_next : (b : Sitting) (new_words new_values : List ℕ) (t : ℕ) → t ≡ range * store.layout.limits.tails + (n + 1) → AreSettled v.limits (merger_of v) range p end → n < end → IsSeatOf store b → Inspects a.view b.view a.view.limits.sessions
      → ((tail : PageTail) → KnowsSettled (merger_of a.view) t tail → Folds c tail (entry_of (slice_index words) values) (entry_of (slice_index new_words) new_values)) → AreNumbers (slice_index new_words) new_values → FoldsOn store v b range c p end (n + 1) es new_words new_values
  folds_next b new_words new_values t is settled low seat i folds numbers = let h = folds_settled settled low t is in record {
    is = seat;
    from = let from = on.from in omega arith;
    few = omega arith;
    inspects = inspects_join v a.view b.view on.inspects i;
    run = run_next v.limits (merger_of a.view) (merger_of b.view) range c p n h.0 es (entry_of (slice_index words) values) (entry_of (slice_index new_words) new_values) (merger_facts a.view b.view i) (merger_seen a.view b.view i) on.run
        (subst (λ (m : ℕ). KnowsSettled (merger_of b.view) m h.0) (is ∙ ap (λ (m : ℕ). range * m + (n + 1)) tails_same) (merger_knows a.view b.view i t h.0 h.1)) (folds h.0 h.1);
    numbers = numbers;
  }

pub folds_last : (store : Store) (v : View) (a : Sitting) (range c p end n : ℕ) (es : ℕ → Entry) (words values : List ℕ) → FoldsOn store v a range c p end n es words values → end ≤ n → FoldsRun v.limits (merger_of a.view) range c p end es (entry_of (slice_index words) values)
folds_last store v a range c p end n es words values on past = let few = on.few in let e : n ≡ end = omega arith in subst (λ (m : ℕ). FoldsRun v.limits (merger_of a.view) range c p m es (entry_of (slice_index words) values)) e on.run

-- ---- one tail in a state that the view allows

-- the time that is found is the tail's
pub time_same : (v : View) (p : Possible v) → hosts v v.limits.sessions ≡ true → (t time : ℕ) (tail : PageTail) → SettledAt (merger_of v) t time → KnowsSettled (merger_of v) t tail → tail.time ≡ time
time_same v p hosted t time tail found k = ap (λ (u : PageTail). u.time) (settled_same v p.words p.known p.merger p.allowed v.limits.sessions hosted t tail found.0 k found.2) ∙ found.1
