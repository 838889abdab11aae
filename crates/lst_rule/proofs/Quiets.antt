-- Where a load changes no number.
use Rattle.std.proofs.Common.{◌≡◌, ◌≢◌, ℕ, ◌+◌, ◌<◌, ◌≤◌, refl, sym, ◌∙◌, arith}
use Rattle.lst_layout.specs.declared.limits.Limits.{Limits}
use Rattle.lst_layout.specs.declared.place.Place.{Place}
use Rattle.lst_layout.specs.declared.place.Place.TheVariants.{ClockWord, CommitWord, EpochWord, RecordCounter, LogWord, BeginWord, StateWord, KeyWord, IndexWord, HeadWord, TailCounter, CellWord, DirectoryWord, FrameWord, PinWord, PostingWord}
use Rattle.lst_layout.specs.Limits.{IsValid}
use Rattle.lst_layout.specs.Areas.{words_of, transactions_start, keys_start, index_start, indirection_start, tail_counters_start}
use Rattle.lst_layout.specs.Addresses as layout
use Rattle.lst_layout.specs.Addresses.{address, place_of}
use Rattle.lst_layout.proofs.Places.{at}
use Rattle.lst_rule.specs.Operations.{IsQuiet}

-- a word before the keys that is neither the clock nor the record counter
early : (l : Limits) (p : Place) → layout.IsWithin l p → address l p < keys_start l → address l p ≢ 0 → address l p ≢ 3 → IsQuiet p
unfolding address index_start indirection_start tail_counters_start
early l ClockWord is low clock counter = absurd (clock (omega arith))
early l CommitWord is low clock counter = tt
early l EpochWord is low clock counter = tt
early l RecordCounter is low clock counter = absurd (counter (omega arith))
early l (LogWord t) is low clock counter = tt
early l (BeginWord s n) is low clock counter = tt
early l (StateWord s n) is low clock counter = tt
early l (KeyWord r) is low clock counter = absurd (omega arith)
early l (IndexWord q) is low clock counter = absurd (omega arith)
early l (HeadWord r) is low clock counter = tt
early l (TailCounter range) is low clock counter = absurd (omega arith)
early l (CellWord t c) is low clock counter = tt
early l (DirectoryWord r c) is low clock counter = tt
early l (FrameWord f c) is low clock counter = tt
early l (PinWord s) is low clock counter = tt
early l (PostingWord c q) is low clock counter = tt

-- a word after the index that is no tail counter
late : (l : Limits) (p : Place) → layout.IsWithin l p → indirection_start l ≤ address l p → (tail_counters_start l ≤ address l p → tail_counters_start l + l.ranges ≤ address l p) → IsQuiet p
unfolding address transactions_start keys_start index_start indirection_start tail_counters_start
late l ClockWord is high out = absurd (omega arith)
late l CommitWord is high out = tt
late l EpochWord is high out = tt
late l RecordCounter is high out = absurd (omega arith)
late l (LogWord t) is high out = tt
late l (BeginWord s n) is high out = tt
late l (StateWord s n) is high out = tt
late l (KeyWord r) is high out = absurd (omega arith)
late l (IndexWord q) is high out = absurd (omega arith)
late l (HeadWord r) is high out = tt
late l (TailCounter range) is high out = absurd (let h = out (omega arith) in omega arith)
late l (CellWord t c) is high out = tt
late l (DirectoryWord r c) is high out = tt
late l (FrameWord f c) is high out = tt
late l (PinWord s) is high out = tt
late l (PostingWord c q) is high out = tt

pub keys_first : (l : Limits) → address l (KeyWord 0) ≡ keys_start l
unfolding address
keys_first l = omega arith

pub heads_first : (l : Limits) → address l (HeadWord 0) ≡ indirection_start l
unfolding address
heads_first l = omega arith

pub counters_first : (l : Limits) → address l (TailCounter 0) ≡ tail_counters_start l
unfolding address
counters_first l = omega arith

pub clock_first : (l : Limits) → address l ClockWord ≡ 0
unfolding address
clock_first l = refl

pub counter_third : (l : Limits) → address l RecordCounter ≡ 3
unfolding address
counter_third l = refl

module _ (l : Limits) (valid : IsValid l) (a : ℕ) (low : a < words_of l) where
  here : address l (place_of l a) ≡ a
  here = (at l a valid low).is

  pub quiet_early : a < keys_start l → a ≢ 0 → a ≢ 3 → IsQuiet (place_of l a)
  quiet_early before clock counter = early l (place_of l a) (at l a valid low).within (let e = here in omega arith) (λ f. clock (sym here ∙ f)) (λ f. counter (sym here ∙ f))

  pub quiet_late : indirection_start l ≤ a → (tail_counters_start l ≤ a → tail_counters_start l + l.ranges ≤ a) → IsQuiet (place_of l a)
  quiet_late after out = late l (place_of l a) (at l a valid low).within (let e = here in omega arith) (λ f. let e = here in let g = out (let d = here in omega arith) in omega arith)
