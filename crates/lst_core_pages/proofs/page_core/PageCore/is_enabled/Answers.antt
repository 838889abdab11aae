use Rattle.std.proofs.Common.{◌≡◌, ℕ, true, Option, Some, None, refl, ap, sym, subst, ◌∙◌, true≢false}
use Rattle.std.specs.Option.{is_some}
use Rattle.lst_core_pages.specs.Cells.{Cells, pages_of}
use Rattle.lst_pages.specs.Step.{Enabled}
use Rattle.lst_core_pages.proofs.page_core.PageCore.is_enabled.Goals as goal

there : (o : Option ℕ) → is_some o ≡ true → (f : ℕ) × (o ≡ Some f)
there None none = absurd (true≢false (sym none))
there (Some f) some = (f, refl)

some_is : (o : Option ℕ) → (f : ℕ) × (o ≡ Some f) → is_some o ≡ true
some_is o is = ap is_some is.1

pub returns-in-Raise-clause-enabled : goal.returns-in-Raise-clause-enabled
returns-in-Raise-clause-enabled c = let waiting : c.waiting-in-Raise.result ≡ c.args.self.now.queue.waiting = c.waiting-in-Raise.ensures ∙ ap (λ (u : Cells). u.queue.waiting) c.self.view_is in
    let is : c.is_some.result ≡ is_some c.args.self.now.queue.waiting = c.is_some.ensures ∙ ap is_some waiting in (
      (λ test. subst (Enabled (pages_of c.args.self.now)) (sym c.in-Raise.is) (there c.args.self.now.queue.waiting (sym is ∙ test))),
      (λ ok. is ∙ some_is c.args.self.now.queue.waiting (subst (Enabled (pages_of c.args.self.now)) c.in-Raise.is ok)),
    )
