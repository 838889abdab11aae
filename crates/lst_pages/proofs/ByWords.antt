-- Each step on pages is told by the numbers of whoever makes it and by the word that it finds.
use Rattle.std.proofs.Common.{sym, subst}
use Rattle.lst_core_state.specs.declared.known.Known.{Known}
use Rattle.lst_core_state.specs.State.{Core}
use Rattle.lst_core_state.specs.Step.{known_of}
use Rattle.lst_pages.specs.declared.events.PageEvent.{PageEvent}
use Rattle.lst_pages.specs.declared.events.PageEvent.TheVariants.{Pin, Unpin, LookPage, LookPin, StoreFrame, Swap, Raise}
use Rattle.lst_pages.specs.Step.{Enabled}
use Rattle.lst_pages.specs.Numbers.{numbers_of, IsWritable}
use Rattle.lst_pages.specs.Known.{pages_in, PagesSound, stepper}
use Rattle.lst_pages.specs.StateLaws.{PageStepsAreByWords}
use Rattle.lst_pages.proofs.Splitting.{merger_known, enabled_is_split}
use Rattle.lst_pages.proofs.Tellings.{words_law, fits_law, stock_law, pin_law}

fits : (c : Core) → PagesSound c → (e : PageEvent) → Enabled (pages_in c) e → IsWritable (numbers_of (known_of c (stepper c.limits e)).pages.stock) e
fits c sound (Pin s x) may = fits_law (pages_in c) sound.pages (Pin s x) may
fits c sound (Unpin s) may = tt
fits c sound (LookPage s r d) may = tt
fits c sound (LookPin s) may = tt
fits c sound (StoreFrame f n x) may = tt
fits c sound (Swap r d) may = tt
fits c sound Raise may = subst (λ (v : Known). IsWritable (numbers_of v.pages.stock) Raise) (sym (merger_known c)) (fits_law (pages_in c) sound.pages Raise may)

pub page_steps_are_by_words : PageStepsAreByWords
page_steps_are_by_words c sound e within ok = let k = (known_of c (stepper c.limits e)).pages in record {
  fits = fits c sound e ((enabled_is_split c e within).0 ok);
  words = words_law c.words k.stock e;
  numbers = stock_law c.limits c.words k.stock e;
  pin = pin_law c.limits c.words k.session e;
}
