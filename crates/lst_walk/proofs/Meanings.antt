-- What the words of versions say.
use Rattle.std.proofs.Common.{◌≡◌, ℕ, ◌+◌, ◌/◌, ◌^◌, ◌<◌, ◌≤◌, [], ◌∷◌, List, true, map, refl, sym, subst, ap, ◌∙◌, arith}
use Rattle.std.proofs.lemmas.Option.{slice_get-get_or, get_or_from_slice_get}
use Rattle.std.specs.Prelude.{Some, slice_index}
use Rattle.lst_model.specs.Cells.{number_of, cells_of}
use Rattle.lst_model.specs.CellLaws.{numbers_are_own}
use Rattle.lst_layout.specs.declared.limits.Limits.{Limits}
use Rattle.lst_layout.specs.declared.place.Place.TheVariants.{HeadWord}
use Rattle.lst_layout.specs.Limits.{IsValid}
use Rattle.lst_bits.specs.declared.encodings.Encoding.{Encoding}
use Rattle.lst_bits.specs.Encodings.{kind_code, encoding_of, IsEncodingWord}
use Rattle.lst_bits.specs.Heads.{IsHeadWord}
use Rattle.lst_core_state.specs.Cells.{record_count, range_of, act_with, nulls_of}
use Rattle.lst_rule.specs.declared.view.View.{View}
use Rattle.lst_rule.specs.Rule.{knows, hosts}
use Rattle.lst_rule.specs.Stores.{Looked}
use Rattle.lst_rule.specs.Copies.{Version, IsVersionOf, Leads}
use Rattle.lst_rule.specs.Seen.{act_by}
use Rattle.lst_rule.specs.Loads.{ChainFound, WordFound}
use Rattle.lst_rule.proofs.Encoded.{cell_encoded, act_is}
use Rattle.lst_rule.proofs.Finding.{loads_find_chains}
use Rattle.lst_walk.specs.Readers.{IsAt}
use Rattle.lst_walk.specs.Patches.{cells_by}

-- the numbers of the cells are the value words
pub numbers_by : (l : Limits) (rec : ℕ) (c : Version) → IsVersionOf l rec c → map number_of (cells_by c) ≡ c.values
numbers_by l rec c is = numbers_are_own (nulls_of c.encoding) c.values record {
  within = subst (λ (n : ℕ). nulls_of c.encoding < 2 ^ n) (sym is.wide) is.cell.nulls;
  zeros = λ column other low bit. get_or_from_slice_get c.values column 0 other (slice_get-get_or c.values column 0 low ∙ ap (λ (x : ℕ). Some x) ((is.cell.each column (let w = is.wide in omega arith)).null bit));
}

-- ---- by the words that were loaded

module _ (v : View) (s tail : ℕ) (l : Limits) (limits : v.limits ≡ l) (few : l.columns ≤ 8) where
  few_here : v.limits.columns ≤ 8
  few_here = subst (λ (k : Limits). k.columns ≤ 8) (sym limits) few

  pub encoded : (x : ℕ) → ((c : Version) → IsAt v s tail c → WordFound l c 1 x) → (c : Version) → IsAt v s tail c → IsEncodingWord x
  encoded x found c at = subst IsEncodingWord (sym ((found c at).encoding refl)) (cell_encoded v.limits.columns c.encoding (λ i. slice_index c.values i) few_here at.is.cell)

  pub act_found : (x : ℕ) (e : Encoding) → e ≡ encoding_of x → ((c : Version) → IsAt v s tail c → WordFound l c 1 x) → (c : Version) → IsAt v s tail c → act_by c ≡ act_with (kind_code e.kind) e.mask (cells_of e.nulls 0 c.values)
  act_found x e is found c at = act_is v.limits.columns c.encoding (λ i. slice_index c.values i) few_here at.is.cell c.values
      ∙ ap (λ (d : Encoding). act_with (kind_code d.kind) d.mask (cells_of d.nulls 0 c.values)) (ap encoding_of (sym ((found c at).encoding refl)) ∙ sym is)

  pub nulls_found : (x : ℕ) (e : Encoding) → e ≡ encoding_of x → ((c : Version) → IsAt v s tail c → WordFound l c 1 x) → (c : Version) → IsAt v s tail c → e.nulls ≡ nulls_of c.encoding
  nulls_found x e is found c at = ap (λ (d : Encoding). d.nulls) (is ∙ ap encoding_of ((found c at).encoding refl))

  pub encoding_found : (x : ℕ) (e : Encoding) → e ≡ encoding_of x → ((c : Version) → IsAt v s tail c → WordFound l c 1 x) → (c : Version) → IsAt v s tail c → e ≡ encoding_of c.encoding
  encoding_found x e is found c at = is ∙ ap encoding_of ((found c at).encoding refl)

  pub value_found : (column x : ℕ) → column < l.columns → ((c : Version) → IsAt v s tail c → WordFound l c (3 + column) x) → (c : Version) → IsAt v s tail c → x ≡ slice_index c.values column
  value_found column x low found c at = (found c at).value column low refl

-- ---- heads

leads_few : (l : Limits) (range n : ℕ) (cs : List Version) → Leads l range n cs → n ≤ l.tails
leads_few l range n [] leads = let e : n ≡ 0 = leads in omega arith
leads_few l range n (c ∷ cs) leads = leads.1

pub head_found : (v w : View) (s rec x : ℕ) (l : Limits) → v.limits ≡ l → w.limits ≡ v.limits → hosts v s ≡ true → rec < record_count l → Looked v w s (HeadWord rec) x → ChainFound l (knows w s) s rec (x / 2)
head_found v w s rec x l is same hosted below looked = subst (λ (k : Limits). ChainFound k (knows w s) s rec (x / 2)) (same ∙ is) (loads_find_chains v w s rec x hosted (subst (λ (k : Limits). rec < record_count k) (sym is) below) looked.met)

pub head_word : (v w : View) (s rec x : ℕ) (l : Limits) → IsValid l → ChainFound l (knows w s) s rec (x / 2) → IsHeadWord x
head_word v w s rec x l valid found = let few = leads_few l (range_of rec) (x / 2) found.copy found.is.chain.leads in let h = valid.tails.1 in omega arith
