-- One version after the other.
use Rattle.std.proofs.Common.{append_assoc, ◌&&◌, ◌≡◌, ◌⊎◌, ℕ, ◌+◌, ◌*◌, ◌/◌, ◌<◌, ◌≤◌, List, [], ◌∷◌, ◌++◌, Bool, true, false, cond, length, refl, sym, subst, ap, ◌∙◌, arith, inl, inr, ⊎_elim, Contains}
use Rattle.std.proofs.lemmas.List.Elements.{All-nil}
use Rattle.std.specs.Prelude.{Option, None, Some, replicate}
use Rattle.lst_layout.specs.declared.limits.Limits.{Limits}
use Rattle.lst_layout.specs.Words.{shown}
use Rattle.lst_model.specs.declared.acts.Act.{Act}
use Rattle.lst_model.specs.declared.acts.Act.TheVariants.{Set}
use Rattle.lst_model.specs.Cells.{Cell, overlaid, cells_of}
use Rattle.lst_model.specs.Histories.{row_after, row_from}
use Rattle.lst_model.specs.Soundness.{Fits, FitInTurn}
use Rattle.lst_core_state.specs.declared.known.Known.{Known}
use Rattle.lst_core_state.specs.declared.facts.Fact.TheVariants.{IndexAt}
use Rattle.lst_core_state.specs.Cells.{record_count, range_of}
use Rattle.lst_core_state.specs.State.{name_of, sight}
use Rattle.lst_core_state.specs.Sound.{IsRecorded}
use Rattle.lst_rule.specs.declared.view.View.{View}
use Rattle.lst_rule.specs.Rule.{knows, hosts}
use Rattle.lst_rule.specs.Learned.{Possible}
use Rattle.lst_rule.specs.declared.store.Store.{Store}
use Rattle.lst_rule.specs.Seats.{Sitting}
use Rattle.lst_pages.specs.Rows.{column_of}
use Rattle.lst_rule.specs.Copies.{Version, IsVersionOf, IsChainFrom, IsCopy, IsLinked}
use Rattle.lst_rule.specs.Seen.{sees, act_by, seen_acts, HasKey}
use Rattle.lst_rule.specs.Loads.{ChainFound, IsBack}
use Rattle.lst_rule.specs.Watching.{Watched}
use Rattle.lst_rule.specs.Laws.{FromNumber, KeptBy}
use Rattle.lst_rule.proofs.Copying.{chains_are_walked, chain_stays}
use Rattle.lst_rule.proofs.Seeing.{same_acts, same_sight}
use Rattle.lst_rule.proofs.Keying.{one_record, recorded}
use Rattle.lst_rule.proofs.Turns.{sights_fit}
use Rattle.lst_rule.proofs.Watching.{watchers_keep}
use Rattle.lst_walk.specs.Readers.{IsReader, IsAt, HasVersion, Resolves, IsResolved}
use Rattle.lst_walk.specs.Chains.{IsTailOf}
use Rattle.lst_walk.specs.Patches.{seen_after, cell_in, IsWide}
use Rattle.lst_walk.specs.Pages.{touches_by, is_told, NoneTold, UsesPage}
use Rattle.lst_walk.specs.Walks.{IsSightOf, IsRowOf, IsCellOf, IsStampedIn, Passes, WalksRow, WalksCell, UsedPage, MakeColumn, Visited, Acted, Leaves, Tells, Told, RowWalk, CellWalk}
use Rattle.lst_walk.specs.declared.rows.Visit.{Visit}
use Rattle.lst_walk.specs.declared.rows.Visit.TheVariants.{Row, NoRow, Older}
use Rattle.lst_walk.proofs.Reading.{watched_on, facts_on, sees_on}
use Rattle.lst_walk.proofs.Resolving.{resolves_later, resolves_earlier, stamped_later, resolved_stamped, passes_next, passes_later, row_passed, fit_passed}
use Rattle.lst_walk.proofs.Loading.{hand_stays}
use Rattle.lst_walk.proofs.Stamping.{at_same}
use Rattle.lst_walk.proofs.Lists.{set_unset, length-unset}
use Rattle.lst_walk.proofs.Chains.{row_step, fit_step, wide_row}

-- ---- the version at a number

module _ (store : Store) (seat : Sitting) (s rec n : ℕ) (reader : IsReader store seat s) (versions : List Version) (chain : IsChainFrom store.layout.limits (knows seat.view s).facts rec n versions) (some : 0 < n) where
  first : FromNumber store.layout.limits (knows seat.view s).facts rec n versions
  first = chains_are_walked store.layout.limits (knows seat.view s).facts rec n versions chain

  pub number_few : n ≤ store.layout.limits.tails
  number_few = (first.some some).6

  pub at_number : (range t : ℕ) → range ≡ rec / 256 → t ≡ range * store.layout.limits.tails + n → (c : Version) × (older : List Version) × (versions ≡ c ∷ older) × IsAt seat.view s t c × (c.back < n) × IsChainFrom store.layout.limits (knows seat.view s).facts rec c.back older
  at_number range t e is = let q = first.some some in (
    q.0,
    q.1,
    q.2,
    record { rec = rec; is = subst (λ (l : Limits). IsVersionOf l rec q.0) (sym reader.seat_of.limits) q.3; known = q.4; at = q.5 ∙ (ap (λ (k : ℕ). k * store.layout.limits.tails + n) (sym e) ∙ sym is) },
    q.7,
    q.8,
  )

  pub tail_number : (range t : ℕ) → range ≡ rec / 256 → t ≡ range * store.layout.limits.tails + n → IsTailOf seat.view s rec t
  tail_number range t e is = let q = first.some some in (
    q.0,
    subst (λ (l : Limits). IsVersionOf l rec q.0) (sym reader.seat_of.limits) q.3,
    q.4,
    q.5 ∙ (ap (λ (k : ℕ). k * store.layout.limits.tails + n) (sym e) ∙ sym is),
  )

  pub version_number : (range t : ℕ) → range ≡ rec / 256 → t ≡ range * store.layout.limits.tails + n → HasVersion seat.view s t
  version_number range t e is = let q = at_number range t e is in (q.0, q.3)

pub range_low : (l : Limits) (rec range : ℕ) → rec < record_count l → range ≡ rec / 256 → range < l.ranges
range_low l rec range low e = omega arith

-- ---- seen or not

pub seen_visited : (v : Known) (s : ℕ) (c : Version) (columns : ℕ) (patch more : List (Option Cell)) (r : Visit) → sees v s c.writer ≡ true → Acted c columns patch more r → Visited v s c columns patch more r
seen_visited v s c columns patch more (Row nulls) seen acted = λ older wide fits. ap (λ (b : Bool). row_after (cond b (row_after older (act_by c)) older) (Set patch)) seen ∙ acted older wide (fits seen)
seen_visited v s c columns patch more NoRow seen acted = λ older. ap (λ (b : Bool). row_after (cond b (row_after older (act_by c)) older) (Set patch)) seen ∙ acted older
seen_visited v s c columns patch more Older seen acted = λ older. ap (λ (b : Bool). row_after (cond b (row_after older (act_by c)) older) (Set patch)) seen ∙ acted older

pub unseen_visited : (v : Known) (s : ℕ) (c : Version) (columns : ℕ) (patch : List (Option Cell)) → sees v s c.writer ≡ false → Visited v s c columns patch patch Older
unseen_visited v s c columns patch unseen = λ older. ap (λ (b : Bool). row_after (cond b (row_after older (act_by c)) older) (Set patch)) unseen

pub seen_tells : (v : Known) (s : ℕ) (c : Version) (columns column : ℕ) (r : Option (Option ℕ)) → sees v s c.writer ≡ true → Told c columns column r → Tells v s c columns column r
seen_tells v s c columns column None seen told = λ older. ap (λ (b : Bool). cell_in column (cond b (row_after older (act_by c)) older)) seen ∙ told older
seen_tells v s c columns column (Some held) seen told = λ older wide fits. ap (λ (b : Bool). cell_in column (cond b (row_after older (act_by c)) older)) seen ∙ told older wide (fits seen)

pub unseen_tells : (v : Known) (s : ℕ) (c : Version) (columns column : ℕ) → sees v s c.writer ≡ false → Tells v s c columns column None
unseen_tells v s c columns column unseen = λ older. ap (λ (b : Bool). cell_in column (cond b (row_after older (act_by c)) older)) unseen

-- and neither, or untouched, it leaves a column
pub unseen_leaves : (v : Known) (s column : ℕ) (c : Version) → sees v s c.writer ≡ false → is_told v s column c ≡ false
unseen_leaves v s column c unseen = ap (λ (b : Bool). b && touches_by column c.encoding) unseen

pub seen_leaves : (v : Known) (s column : ℕ) (c : Version) → touches_by column c.encoding ≡ false → is_told v s column c ≡ false
seen_leaves v s column c none = both (sees v s c.writer) (touches_by column c.encoding) none
  where
    both : (a b : Bool) → b ≡ false → (a && b) ≡ false
    both true b e = e
    both false b e = refl

pub seen_row_leaves : (v : Known) (s : ℕ) (c : Version) (patch more : List (Option Cell)) (r : Visit) → Leaves (λ column. touches_by column c.encoding) patch more r → Leaves (λ column. is_told v s column c) patch more r
seen_row_leaves v s c patch more (Row nulls) is = tt
seen_row_leaves v s c patch more NoRow is = tt
seen_row_leaves v s c patch more Older is = (λ column none. ((is.0 column none).0, seen_leaves v s column c (is.0 column none).1), is.1)

pub unseen_row_leaves : (v : Known) (s : ℕ) (c : Version) (patch : List (Option Cell)) → sees v s c.writer ≡ false → Leaves (λ column. is_told v s column c) patch patch Older
unseen_row_leaves v s c patch unseen = (λ column none. (none, unseen_leaves v s column c unseen), inl refl)

-- ---- walks

-- the chain that the head's load found, and its sight
module _ (store : Store) (v : View) (seat : Sitting) (s rec head : ℕ) (p : Possible v) (host : hosts v s ≡ true) (opened : (knows v s).is_open ≡ true) (reader : IsReader store seat s) (watched : Watched v seat.view s) (possible : Possible seat.view) (found : ChainFound store.layout.limits (knows seat.view s) s rec head) where
  kept : KeptBy (knows v s) (knows seat.view s)
  kept = watchers_keep v seat.view s p host opened watched

  -- the acts of what is seen of it
  copy_acts : seen_acts (knows v s) s found.copy ≡ seen_acts (knows seat.view s) s found.copy
  copy_acts = sym (same_acts (knows v s) (knows seat.view s) s found.copy kept.alike)

  has_still : (key : ℕ) → HasKey (knows v s).facts rec key → HasKey (knows seat.view s).facts rec key
  has_still key has = (has.0, kept.facts (IndexAt has.0 rec key) has.1)

  -- of a key that the record is known to have now
  copy_sight : (key : ℕ) → HasKey (knows seat.view s).facts rec key → seen_acts (knows v s) s found.copy ≡ sight (knows v s) key
  copy_sight key has = copy_acts ∙ (found.sight key reader.opened has ∙ same_sight (knows v s) (knows seat.view s) key kept.alike)

  -- which it was known to have before, where anything is seen of it
  known_before : (key : ℕ) → HasKey (knows seat.view s).facts rec key → (seen_acts (knows v s) s found.copy ≡ []) ⊎ ((key : ℕ) × HasKey (knows v s).facts rec key)
  known_before key has = ⊎_elim
      (λ (none : sight (knows v s) key ≡ []). inl (copy_sight key has ∙ none))
      (λ (r : IsRecorded (knows v s).facts key). inr (
        key,
        (
          r.0,
          subst (λ (n : ℕ). Contains (knows v s).facts (IndexAt r.0 n key))
              (one_record seat.view s possible reader.host r.1 rec key (r.0, kept.facts (IndexAt r.0 r.1 key) r.2) has) r.2,
        ),
      ))
      (recorded v s p host opened key)

  copy_seen : IsSightOf (knows v s) rec (seen_acts (knows v s) s found.copy)
  copy_seen = record {
    of_key = λ key has. copy_sight key (has_still key has);
    keyed = ⊎_elim
        (λ (none : seen_acts (knows seat.view s) s found.copy ≡ []). inl (copy_acts ∙ none))
        (λ (has : (key : ℕ) × HasKey (knows seat.view s).facts rec key). known_before has.0 has.1)
        (found.keyed reader.opened);
  }

  copy_fits : FitInTurn None (seen_acts (knows v s) s found.copy)
  copy_fits = ⊎_elim
      (λ (none : seen_acts (knows v s) s found.copy ≡ []). subst (λ (xs : List Act). FitInTurn None xs) (sym none) tt)
      (λ (has : (key : ℕ) × HasKey (knows v s).facts rec key). subst (λ (xs : List Act). FitInTurn None xs) (sym (copy_sight has.0 (has_still has.0 has.1))) (sights_fit v s rec has.0 p host opened has.1))
      copy_seen.keyed

  passes_start : Passes v seat.view s rec [] found.copy
  passes_start = record {
    head = head;
    copy = subst (λ (l : Limits). IsCopy l (knows seat.view s).facts rec head found.copy) (sym reader.seat_of.limits) found.is;
    resolved = All-nil (IsResolved v seat.view s (range_of rec));
    stamped = λ whole. All-nil (IsStampedIn (shown seat.view.limits seat.view.words) (name_of s (knows v s).number));
  }

  pub row_start : (patch : List (Option Cell)) → patch ≡ replicate store.layout.limits.columns None → RowWalk store v seat s rec head patch
  row_start patch is = record {
    reader = reader;
    possible = p;
    watched = watched;
    wide = ap length is ∙ length-unset store.layout.limits.columns;
    passed = [];
    versions = found.copy;
    passes = passes_start;
    made = λ column low. inl (λ older. ap (column_of column) (sym (set_unset older store.layout.limits.columns) ∙ ap (λ (q : List (Option Cell)). row_after older (Set q)) (sym is)));
    chain = found.is.chain;
    fits = copy_fits;
    acts = seen_acts (knows v s) s found.copy;
    sees = copy_seen;
    answers = sym (set_unset (row_from None (seen_acts (knows v s) s found.copy)) store.layout.limits.columns) ∙ ap (λ (q : List (Option Cell)). row_after (row_from None (seen_acts (knows v s) s found.copy)) (Set q)) (sym is);
    whole = refl;
    left = λ column none. tt;
  }

  pub cell_start : (column : ℕ) → CellWalk store v seat s rec column head
  cell_start column = record {
    reader = reader;
    possible = p;
    watched = watched;
    passed = [];
    versions = found.copy;
    passes = passes_start;
    made = λ older. refl;
    chain = found.is.chain;
    fits = copy_fits;
    acts = seen_acts (knows v s) s found.copy;
    sees = copy_seen;
    answers = refl;
    whole = refl;
    left = tt;
  }

-- one more that isn't seen, or leaves the column
none_told_next : (k : Known) (s column : ℕ) (above : List Version) (c : Version) → NoneTold k s column above → is_told k s column c ≡ false → NoneTold k s column (above ++ c ∷ [])
none_told_next k s column [] c none e = (e, tt)
none_told_next k s column (d ∷ above) c none e = (none.0, none_told_next k s column above c none.1 e)

-- a page that was used stays so with further looks, and once one more version is passed
pub used_on : (v a b : View) (s rec column : ℕ) (passed rest : List Version) → Watched a b s → UsedPage v a s rec column passed rest → UsedPage v b s rec column passed rest
used_on v a b s rec column passed rest more used = let u = used.uses in record {
  above = used.above;
  below = used.below;
  parts = used.parts;
  uses = record { between = u.between; before = u.before; after = watched_on u.between a b s u.after more; number = u.number; words = u.words; frame = u.frame; in_hand = hand_stays a b s u.frame u.words more u.in_hand; may = u.may };
}

used_next : (v a d : View) (s rec column : ℕ) (passed versions : List Version) (c : Version) (rest : List Version) → versions ≡ c ∷ rest → Watched a d s → UsedPage v a s rec column passed versions → UsedPage v d s rec column (passed ++ c ∷ []) rest
used_next v a d s rec column passed versions c rest is more used = let u : UsedPage v d s rec column passed (c ∷ rest) = used_on v a d s rec column passed (c ∷ rest) more (subst (λ (cs : List Version). UsedPage v a s rec column passed cs) is used) in record {
  above = u.above;
  below = u.below ++ c ∷ [];
  parts = ap (λ (cs : List Version). cs ++ c ∷ []) u.parts ∙ append_assoc u.above u.below (c ∷ []);
  uses = subst (λ (cs : List Version). UsesPage v d s rec column u.above cs) (sym (append_assoc u.below (c ∷ []) rest)) u.uses;
}

-- one version, at the seat a; the loads of the visit led to b, and those of the back word to d
module _ (store : Store) (v : View) (a b d : Sitting) (s rec n range t m : ℕ) (host : hosts v s ≡ true) (opened : (knows v s).is_open ≡ true) (some : 0 < n) (range_is : range ≡ rec / 256) (tail_is : t ≡ range * store.layout.limits.tails + n) where
  seen_same : Possible v → Watched v a.view s → (c : Version) (older : Option (List Cell)) → seen_after (knows a.view s) s c older ≡ seen_after (knows v s) s c older
  seen_same p watched c older = ap (λ (e : Bool). cond e (row_after older (act_by c)) older) (sees_on v a.view s c.writer p host opened watched)

  told_same : (column : ℕ) → Possible v → Watched v a.view s → (c : Version) → is_told (knows v s) s column c ≡ is_told (knows a.view s) s column c
  told_same column p watched c = ap (λ (e : Bool). e && touches_by column c.encoding) (sym (sees_on v a.view s c.writer p host opened watched))

  -- the version is resolved
  resolved_here : (c : Version) → IsReader store a s → Watched v a.view s → IsAt a.view s t c → Resolves a.view b.view s range n → Watched b.view d.view s → IsResolved v d.view s (range_of rec) c
  resolved_here c reader watched at resolves bd = (
    n,
    at.at ∙ (tail_is ∙ (ap (λ (k : ℕ). k * store.layout.limits.tails + n) range_is ∙ ap (λ (l : Limits). rec / 256 * l.tails + n) (sym reader.seat_of.limits ∙ watched.learns.limits))),
    subst (λ (r : ℕ). Resolves v d.view s r n) range_is (resolves_later v b.view d.view s range n bd (resolves_earlier v a.view b.view s range n watched resolves)),
  )

  stamped_here : (c : Version) → IsReader store a s → Watched v a.view s → IsAt a.view s t c → Resolves a.view b.view s range n → Watched b.view d.view s → d.view.whole ≡ true → IsStampedIn (shown d.view.limits d.view.words) (name_of s (knows v s).number) c
  stamped_here c reader watched at resolves bd whole = let known : b.view.whole ≡ true = sym bd.learns.whole ∙ whole in stamped_later b.view d.view s bd known (name_of s (knows v s).number) c
      (subst (λ (k : ℕ). IsStampedIn (shown b.view.limits b.view.words) (name_of s k) c) (ap (λ (k : Known). k.number) watched.watches.is)
      (resolved_stamped a.view b.view s range n reader.host known c (at_same a.view s t (range * a.view.limits.tails + n) c (tail_is ∙ ap (λ (l : Limits). range * l.tails + n) (sym reader.seat_of.limits)) at) resolves))

  -- and passed
  pub passed_here : (passed : List Version) (c : Version) (rest versions : List Version) → versions ≡ c ∷ rest → IsReader store a s → Watched v a.view s → Passes v a.view s rec passed versions → IsAt a.view s t c
      → Watched a.view b.view s → Resolves a.view b.view s range n → Watched b.view d.view s → Passes v d.view s rec (passed ++ c ∷ []) rest
  passed_here passed c rest versions is reader watched passes at ab resolves bd = passes_next v a.view d.view s rec passed (watched_on a.view b.view d.view s ab bd) c rest
      (subst (λ (cs : List Version). Passes v a.view s rec passed cs) is passes) (resolved_here c reader watched at resolves bd) (stamped_here c reader watched at resolves bd)

  -- what is seen of it, and of those that were passed, makes this of a row of older ones
  made_here : (column : ℕ) (passed : List Version) (c : Version) (patch : List (Option Cell)) → Possible v → Watched v a.view s → MakeColumn (knows v s) s column passed patch → (older : Option (List Cell))
      → column_of column (row_from older (seen_acts (knows v s) s (passed ++ c ∷ []))) ≡ column_of column (row_after (seen_after (knows a.view s) s c older) (Set patch))
  made_here column passed c patch p watched made older = ap (column_of column) (row_passed (knows v s) s passed c older) ∙ (made (seen_after (knows v s) s c older) ∙ ap (λ (r : Option (List Cell)). column_of column (row_after r (Set patch))) (sym (seen_same p watched c older)))

  cell_made_here : (column : ℕ) (passed : List Version) (c : Version) → Possible v → Watched v a.view s → ((older : Option (List Cell)) → cell_in column (row_from older (seen_acts (knows v s) s passed)) ≡ cell_in column older) → (older : Option (List Cell))
      → cell_in column (row_from older (seen_acts (knows v s) s (passed ++ c ∷ []))) ≡ cell_in column (seen_after (knows a.view s) s c older)
  cell_made_here column passed c p watched made older = ap (cell_in column) (row_passed (knows v s) s passed c older) ∙ (made (seen_after (knows v s) s c older) ∙ ap (cell_in column) (sym (seen_same p watched c older)))

  -- it fits such a row, and that has as many columns
  fits_here : (passed : List Version) (c : Version) (older : Option (List Cell)) → Possible v → Watched v a.view s → FitInTurn older (seen_acts (knows v s) s (passed ++ c ∷ [])) → sees (knows a.view s) s c.writer ≡ true → Fits older (act_by c)
  fits_here passed c older p watched turn e = fit_passed (knows v s) s passed c older turn (sym (sees_on v a.view s c.writer p host opened watched) ∙ e)

  wide_here : IsReader store a s → Watched v a.view s → (older : Option (List Cell)) → IsWide v.limits.columns older → IsWide store.layout.limits.columns older
  wide_here reader watched older wide = subst (λ (l : Limits). IsWide l.columns older) (sym watched.learns.limits ∙ reader.seat_of.limits) wide

  -- the row, by its newest version and the patch
  newest_after : (c : Version) (cs : List Version) (patch : List (Option Cell)) (walk : RowWalk store v a s rec n patch) → walk.versions ≡ c ∷ cs
      → row_from None walk.acts ≡ row_after (seen_after (knows a.view s) s c (row_from None (seen_acts (knows v s) s cs))) (Set patch)
  newest_after c cs patch walk is = walk.answers ∙ (ap (λ (ds : List Version). row_after (row_from None (seen_acts (knows v s) s ds)) (Set patch)) is
      ∙ ap (λ (r : Option (List Cell)). row_after r (Set patch)) (row_step (knows v s) s c cs ∙ sym (seen_same walk.possible walk.watched c (row_from None (seen_acts (knows v s) s cs)))))

  pub row_next : (patch more : List (Option Cell)) → RowWalk store v a s rec n patch → Watched a.view b.view s → length more ≡ store.layout.limits.columns → ((c : Version) → IsAt a.view s t c → Visited (knows a.view s) s c store.layout.limits.columns patch more Older)
      → Resolves a.view b.view s range n → IsReader store d s → Watched b.view d.view s → ((c : Version) → IsAt a.view s t c → m ≡ c.back) → ((c : Version) → IsAt a.view s t c → Leaves (λ column. is_told (knows a.view s) s column c) patch more Older) → RowWalk store v d s rec m more
  row_next patch more walk ab wide visited resolves reader bd back leaves = let q = at_number store a s rec n walk.reader walk.versions walk.chain some range t range_is tail_is in let ad = watched_on a.view b.view d.view s ab bd in record {
    reader = reader;
    possible = walk.possible;
    watched = watched_on v a.view d.view s walk.watched ad;
    wide = wide;
    passed = walk.passed ++ q.0 ∷ [];
    versions = q.1;
    passes = passed_here walk.passed q.0 q.1 walk.versions q.2 walk.reader walk.watched walk.passes q.3 ab resolves bd;
    made = λ column low. ⊎_elim
        (λ (made : MakeColumn (knows v s) s column walk.passed patch). inl (λ older. made_here column walk.passed q.0 patch walk.possible walk.watched made older ∙ ap (column_of column) (visited q.0 q.3 older)))
        (λ (used : UsedPage v a.view s rec column walk.passed walk.versions). inr (used_next v a.view d.view s rec column walk.passed walk.versions q.0 q.1 q.2 ad used))
        (walk.made column low);
    chain = subst (λ (k : ℕ). IsChainFrom store.layout.limits (knows d.view s).facts rec k q.1) (sym (back q.0 q.3)) (chain_stays store.layout.limits (knows a.view s).facts (knows d.view s).facts rec q.0.back q.1 (facts_on a.view d.view s ad) q.5);
    fits = (fit_step (knows v s) s q.0 q.1 (subst (λ (cs : List Version). FitInTurn None (seen_acts (knows v s) s cs)) q.2 walk.fits)).0;
    acts = walk.acts;
    sees = walk.sees;
    answers = newest_after q.0 q.1 patch walk q.2 ∙ visited q.0 q.3 (row_from None (seen_acts (knows v s) s q.1));
    whole = walk.whole ∙ (ap (λ (cs : List Version). seen_acts (knows v s) s (walk.passed ++ cs)) q.2 ∙ ap (seen_acts (knows v s) s) (sym (append_assoc walk.passed (q.0 ∷ []) q.1)));
    left = λ column none. let h = (leaves q.0 q.3).0 column none in none_told_next (knows v s) s column walk.passed q.0 (walk.left column h.0) (told_same column walk.possible walk.watched q.0 ∙ h.1);
  }

  -- the copy is the same
  pub row_copy_same : (patch more : List (Option Cell)) (walk : RowWalk store v a s rec n patch) (ab : Watched a.view b.view s) (wide : length more ≡ store.layout.limits.columns) (visited : (c : Version) → IsAt a.view s t c → Visited (knows a.view s) s c store.layout.limits.columns patch more Older)
      (resolves : Resolves a.view b.view s range n) (reader : IsReader store d s) (bd : Watched b.view d.view s) (back : (c : Version) → IsAt a.view s t c → m ≡ c.back) (leaves : (c : Version) → IsAt a.view s t c → Leaves (λ column. is_told (knows a.view s) s column c) patch more Older)
      → let next = row_next patch more walk ab wide visited resolves reader bd back leaves in walk.passed ++ walk.versions ≡ next.passed ++ next.versions
  unfolding row_next
  row_copy_same patch more walk ab wide visited resolves reader bd back leaves = let q = at_number store a s rec n walk.reader walk.versions walk.chain some range t range_is tail_is in ap (λ (cs : List Version). walk.passed ++ cs) q.2 ∙ sym (append_assoc walk.passed (q.0 ∷ []) q.1)

  pub row_done : (nulls : ℕ) (patch more : List (Option Cell)) (row : List Cell) → RowWalk store v a s rec n patch → ((c : Version) → IsAt a.view s t c → Visited (knows a.view s) s c store.layout.limits.columns patch more (Row nulls))
      → ((c : Version) → IsAt a.view s t c → row ≡ overlaid (cells_of nulls 0 c.values) more) → IsRowOf v s rec (Some row)
  row_done nulls patch more row walk visited is = let q = at_number store a s rec n walk.reader walk.versions walk.chain some range t range_is tail_is in
      let fits = (fit_step (knows v s) s q.0 q.1 (subst (λ (cs : List Version). FitInTurn None (seen_acts (knows v s) s cs)) q.2 walk.fits)).1 in (
        walk.acts,
        walk.sees,
        ap (λ (r : List Cell). Some r) (is q.0 q.3) ∙ sym (newest_after q.0 q.1 patch walk q.2
            ∙ visited q.0 q.3 (row_from None (seen_acts (knows v s) s q.1)) (wide_row store.layout.limits rec (knows v s) s q.1 q.5.whole) (λ e. fits (sym (sees_on v a.view s q.0.writer walk.possible host opened walk.watched) ∙ e))),
      )

  pub row_gone : (patch more : List (Option Cell)) → RowWalk store v a s rec n patch → ((c : Version) → IsAt a.view s t c → Visited (knows a.view s) s c store.layout.limits.columns patch more NoRow) → IsRowOf v s rec None
  row_gone patch more walk visited = let q = at_number store a s rec n walk.reader walk.versions walk.chain some range t range_is tail_is in
      (walk.acts, walk.sees, sym (newest_after q.0 q.1 patch walk q.2 ∙ visited q.0 q.3 (row_from None (seen_acts (knows v s) s q.1))))

  -- the walk has come to the version that decides
  pub row_walked : (nulls : ℕ) (patch more : List (Option Cell)) (row : List Cell) → RowWalk store v a s rec n patch → Watched a.view b.view s → ((c : Version) → IsAt a.view s t c → Visited (knows a.view s) s c store.layout.limits.columns patch more (Row nulls)) → Resolves a.view b.view s range n
      → Watched b.view d.view s → ((c : Version) → IsAt a.view s t c → row ≡ overlaid (cells_of nulls 0 c.values) more) → WalksRow v d.view s rec (Some row)
  row_walked nulls patch more row walk ab visited resolves bd is = let q = at_number store a s rec n walk.reader walk.versions walk.chain some range t range_is tail_is in (
    walk.passed ++ q.0 ∷ [],
    q.1,
    passed_here walk.passed q.0 q.1 walk.versions q.2 walk.reader walk.watched walk.passes q.3 ab resolves bd,
    inr (inl (λ column low. ⊎_elim
        (λ (made : MakeColumn (knows v s) s column walk.passed patch). inl (λ older wide turn. made_here column walk.passed q.0 patch walk.possible walk.watched made older
        ∙ ap (column_of column) (visited q.0 q.3 older (wide_here walk.reader walk.watched older wide) (fits_here walk.passed q.0 older walk.possible walk.watched turn) ∙ ap (λ (r : List Cell). Some r) (sym (is q.0 q.3)))))
        (λ (used : UsedPage v a.view s rec column walk.passed walk.versions). inr (used_next v a.view d.view s rec column walk.passed walk.versions q.0 q.1 q.2 (watched_on a.view b.view d.view s ab bd) used))
        (walk.made column low))),
  )

  pub gone_walked : (patch more : List (Option Cell)) → RowWalk store v a s rec n patch → Watched a.view b.view s → ((c : Version) → IsAt a.view s t c → Visited (knows a.view s) s c store.layout.limits.columns patch more NoRow) → Resolves a.view b.view s range n
      → Watched b.view d.view s → WalksRow v d.view s rec None
  gone_walked patch more walk ab visited resolves bd = let q = at_number store a s rec n walk.reader walk.versions walk.chain some range t range_is tail_is in (
    walk.passed ++ q.0 ∷ [],
    q.1,
    passed_here walk.passed q.0 q.1 walk.versions q.2 walk.reader walk.watched walk.passes q.3 ab resolves bd,
    inr (inl (λ column low. ⊎_elim
        (λ (made : MakeColumn (knows v s) s column walk.passed patch). inl (λ older wide turn. made_here column walk.passed q.0 patch walk.possible walk.watched made older ∙ ap (column_of column) (visited q.0 q.3 older)))
        (λ (used : UsedPage v a.view s rec column walk.passed walk.versions). inr (used_next v a.view d.view s rec column walk.passed walk.versions q.0 q.1 q.2 (watched_on a.view b.view d.view s ab bd) used))
        (walk.made column low))),
  )

  pub cell_walked : (column : ℕ) (held : Option ℕ) → CellWalk store v a s rec column n → Watched a.view b.view s → ((c : Version) → IsAt a.view s t c → Tells (knows a.view s) s c store.layout.limits.columns column (Some held)) → Resolves a.view b.view s range n
      → Watched b.view d.view s → WalksCell v d.view s rec column held
  cell_walked column held walk ab tells resolves bd = let q = at_number store a s rec n walk.reader walk.versions walk.chain some range t range_is tail_is in (
    walk.passed ++ q.0 ∷ [],
    q.1,
    passed_here walk.passed q.0 q.1 walk.versions q.2 walk.reader walk.watched walk.passes q.3 ab resolves bd,
    inr (inl (λ older wide turn. cell_made_here column walk.passed q.0 walk.possible walk.watched walk.made older
        ∙ tells q.0 q.3 older (wide_here walk.reader walk.watched older wide) (fits_here walk.passed q.0 older walk.possible walk.watched turn))),
  )

  pub cell_next : (column : ℕ) → CellWalk store v a s rec column n → Watched a.view b.view s → ((c : Version) → IsAt a.view s t c → Tells (knows a.view s) s c store.layout.limits.columns column None)
      → Resolves a.view b.view s range n → IsReader store d s → Watched b.view d.view s → ((c : Version) → IsAt a.view s t c → m ≡ c.back) → ((c : Version) → IsAt a.view s t c → is_told (knows a.view s) s column c ≡ false) → CellWalk store v d s rec column m
  cell_next column walk ab tells resolves reader bd back leaves = let q = at_number store a s rec n walk.reader walk.versions walk.chain some range t range_is tail_is in let ad = watched_on a.view b.view d.view s ab bd in record {
    reader = reader;
    possible = walk.possible;
    watched = watched_on v a.view d.view s walk.watched ad;
    passed = walk.passed ++ q.0 ∷ [];
    versions = q.1;
    passes = passed_here walk.passed q.0 q.1 walk.versions q.2 walk.reader walk.watched walk.passes q.3 ab resolves bd;
    made = λ older. cell_made_here column walk.passed q.0 walk.possible walk.watched walk.made older ∙ tells q.0 q.3 older;
    chain = subst (λ (k : ℕ). IsChainFrom store.layout.limits (knows d.view s).facts rec k q.1) (sym (back q.0 q.3)) (chain_stays store.layout.limits (knows a.view s).facts (knows d.view s).facts rec q.0.back q.1 (facts_on a.view d.view s ad) q.5);
    fits = (fit_step (knows v s) s q.0 q.1 (subst (λ (cs : List Version). FitInTurn None (seen_acts (knows v s) s cs)) q.2 walk.fits)).0;
    acts = walk.acts;
    sees = walk.sees;
    answers = let older : Option (List Cell) = row_from None (seen_acts (knows v s) s q.1) in walk.answers ∙ (ap (λ (cs : List Version). cell_in column (row_from None (seen_acts (knows v s) s cs))) q.2
        ∙ (ap (cell_in column) (row_step (knows v s) s q.0 q.1 ∙ sym (seen_same walk.possible walk.watched q.0 older)) ∙ tells q.0 q.3 older));
    whole = walk.whole ∙ (ap (λ (cs : List Version). seen_acts (knows v s) s (walk.passed ++ cs)) q.2 ∙ ap (seen_acts (knows v s) s) (sym (append_assoc walk.passed (q.0 ∷ []) q.1)));
    left = none_told_next (knows v s) s column walk.passed q.0 walk.left (told_same column walk.possible walk.watched q.0 ∙ leaves q.0 q.3);
  }

  -- the copy is the same
  pub copy_same : (column : ℕ) (walk : CellWalk store v a s rec column n) (ab : Watched a.view b.view s) (tells : (c : Version) → IsAt a.view s t c → Tells (knows a.view s) s c store.layout.limits.columns column None) (resolves : Resolves a.view b.view s range n) (reader : IsReader store d s) (bd : Watched b.view d.view s)
      (back : (c : Version) → IsAt a.view s t c → m ≡ c.back) (leaves : (c : Version) → IsAt a.view s t c → is_told (knows a.view s) s column c ≡ false) → let next = cell_next column walk ab tells resolves reader bd back leaves in walk.passed ++ walk.versions ≡ next.passed ++ next.versions
  unfolding cell_next
  copy_same column walk ab tells resolves reader bd back leaves = let q = at_number store a s rec n walk.reader walk.versions walk.chain some range t range_is tail_is in ap (λ (cs : List Version). walk.passed ++ cs) q.2 ∙ sym (append_assoc walk.passed (q.0 ∷ []) q.1)

  pub cell_done : (column : ℕ) (held : Option ℕ) → CellWalk store v a s rec column n → ((c : Version) → IsAt a.view s t c → Tells (knows a.view s) s c store.layout.limits.columns column (Some held)) → IsCellOf v s rec column held
  cell_done column held walk tells = let q = at_number store a s rec n walk.reader walk.versions walk.chain some range t range_is tail_is in let older : Option (List Cell) = row_from None (seen_acts (knows v s) s q.1) in
      let fits = (fit_step (knows v s) s q.0 q.1 (subst (λ (cs : List Version). FitInTurn None (seen_acts (knows v s) s cs)) q.2 walk.fits)).1 in (
        walk.acts,
        walk.sees,
        sym (walk.answers ∙ (ap (λ (cs : List Version). cell_in column (row_from None (seen_acts (knows v s) s cs))) q.2
            ∙ (ap (cell_in column) (row_step (knows v s) s q.0 q.1 ∙ sym (seen_same walk.possible walk.watched q.0 older))
            ∙ tells q.0 q.3 older (wide_row store.layout.limits rec (knows v s) s q.1 q.5.whole) (λ e. fits (sym (sees_on v a.view s q.0.writer walk.possible host opened walk.watched) ∙ e))))),
      )

-- with further looks the walk is where it was
pub cell_stays : (store : Store) (v : View) (a b : Sitting) (s rec column n : ℕ) → CellWalk store v a s rec column n → Watched a.view b.view s → IsReader store b s → CellWalk store v b s rec column n
cell_stays store v a b s rec column n walk ab reader = record {
  reader = reader;
  possible = walk.possible;
  watched = watched_on v a.view b.view s walk.watched ab;
  passed = walk.passed;
  versions = walk.versions;
  passes = passes_later v a.view b.view s rec walk.passed ab walk.versions walk.passes;
  chain = chain_stays store.layout.limits (knows a.view s).facts (knows b.view s).facts rec n walk.versions (facts_on a.view b.view s ab) walk.chain;
  fits = walk.fits;
  acts = walk.acts;
  sees = walk.sees;
  answers = walk.answers;
  made = walk.made;
  whole = walk.whole;
  left = walk.left;
}

-- with the same copy
pub stays_same : (store : Store) (v : View) (a b : Sitting) (s rec column n : ℕ) (walk : CellWalk store v a s rec column n) (ab : Watched a.view b.view s) (reader : IsReader store b s) → let still = cell_stays store v a b s rec column n walk ab reader in walk.passed ++ walk.versions ≡ still.passed ++ still.versions
unfolding cell_stays
stays_same store v a b s rec column n walk ab reader = refl

-- the same of a row
unfoldable pub row_stays : (store : Store) (v : View) (a b : Sitting) (s rec n : ℕ) (patch : List (Option Cell)) → RowWalk store v a s rec n patch → Watched a.view b.view s → IsReader store b s → RowWalk store v b s rec n patch
row_stays store v a b s rec n patch walk ab reader = record {
  reader = reader;
  possible = walk.possible;
  watched = watched_on v a.view b.view s walk.watched ab;
  wide = walk.wide;
  passed = walk.passed;
  versions = walk.versions;
  passes = passes_later v a.view b.view s rec walk.passed ab walk.versions walk.passes;
  chain = chain_stays store.layout.limits (knows a.view s).facts (knows b.view s).facts rec n walk.versions (facts_on a.view b.view s ab) walk.chain;
  fits = walk.fits;
  acts = walk.acts;
  sees = walk.sees;
  answers = walk.answers;
  made = λ column low. ⊎_elim (λ (made : MakeColumn (knows v s) s column walk.passed patch). inl made)
      (λ (used : UsedPage v a.view s rec column walk.passed walk.versions). inr (used_on v a.view b.view s rec column walk.passed walk.versions ab used)) (walk.made column low);
  whole = walk.whole;
  left = walk.left;
}

pub row_stays_same : (store : Store) (v : View) (a b : Sitting) (s rec n : ℕ) (patch : List (Option Cell)) (walk : RowWalk store v a s rec n patch) (ab : Watched a.view b.view s) (reader : IsReader store b s) → let still = row_stays store v a b s rec n patch walk ab reader in walk.passed ++ walk.versions ≡ still.passed ++ still.versions
unfolding row_stays
row_stays_same store v a b s rec n patch walk ab reader = refl

-- the chain's end
pub row_over : (store : Store) (v : View) (a : Sitting) (s rec n : ℕ) (patch : List (Option Cell)) → n ≤ 0 → RowWalk store v a s rec n patch → IsRowOf v s rec None
row_over store v a s rec n patch none walk = let empty = (chains_are_walked store.layout.limits (knows a.view s).facts rec n walk.versions walk.chain).none (omega arith) in
    (walk.acts, walk.sees, sym (walk.answers ∙ ap (λ (cs : List Version). row_after (row_from None (seen_acts (knows v s) s cs)) (Set patch)) empty))

pub cell_over : (store : Store) (v : View) (a : Sitting) (s rec column n : ℕ) → n ≤ 0 → CellWalk store v a s rec column n → IsCellOf v s rec column None
cell_over store v a s rec column n none walk = let empty = (chains_are_walked store.layout.limits (knows a.view s).facts rec n walk.versions walk.chain).none (omega arith) in
    (walk.acts, walk.sees, sym (walk.answers ∙ ap (λ (cs : List Version). cell_in column (row_from None (seen_acts (knows v s) s cs))) empty))

pub row_ended : (store : Store) (v : View) (a : Sitting) (s rec n : ℕ) (patch : List (Option Cell)) → n ≤ 0 → RowWalk store v a s rec n patch → WalksRow v a.view s rec None
row_ended store v a s rec n patch none walk = (walk.passed, walk.versions, walk.passes, inl ((chains_are_walked store.layout.limits (knows a.view s).facts rec n walk.versions walk.chain).none (omega arith)))

pub cell_ended : (store : Store) (v : View) (a : Sitting) (s rec column n : ℕ) → n ≤ 0 → CellWalk store v a s rec column n → WalksCell v a.view s rec column None
cell_ended store v a s rec column n none walk = (walk.passed, walk.versions, walk.passes, inl ((chains_are_walked store.layout.limits (knows a.view s).facts rec n walk.versions walk.chain).none (omega arith)))

-- ---- the version below

pub linked_at : (v : View) (s t : ℕ) (c : Version) → IsAt v s t c → c.back ≤ v.limits.tails → IsLinked v.limits (knows v s).facts t
linked_at v s t c at few = (at.rec, c, at.is, at.known, at.at, few)

pub back_at : (v : View) (s t m : ℕ) (c : Version) → IsBack v.limits (knows v s).facts t m → IsAt v s t c → m ≡ c.back
back_at v s t m c back at = back at.rec c at.is at.known at.at

-- ---- where the record's key is known

pub row_of_key : (v : View) (s rec : ℕ) (row : Option (List Cell)) → IsRowOf v s rec row → (key : ℕ) → HasKey (knows v s).facts rec key → row ≡ row_from None (sight (knows v s) key)
row_of_key v s rec row is key has = is.2 ∙ ap (row_from None) (is.1.of_key key has)
