use Rattle.std.proofs.Common.{ap, sym, subst, ◌∙◌}
use Rattle.lst_core_pages.specs.Cells.{Cells, pages_of}
use Rattle.lst_pages.specs.Sound.{Sound}
use Rattle.lst_core_pages.proofs.Steppings.{found_is, step_state, step_core}
use Rattle.lst_core_pages.proofs.page_core.PageCore.step.Goals as goal

pub returns-clause-found : goal.returns-clause-found
returns-clause-found c = let v = c.args.self.now in let e = c.args.event in c.make.ensures.found ∙ found_is v c.is_enabled.ensures.kept e c.requires

pub returns-clause-ok : goal.returns-clause-ok
returns-clause-ok c = let v = c.args.self.now in let e = c.args.event in ap pages_of c.make.ensures.stepped ∙ step_state v c.is_enabled.ensures.kept e c.requires (c.is_enabled.ensures.enabled.0 c.if-not-is_enabled.false)

pub returns-clause-sound : goal.returns-clause-sound
returns-clause-sound c = let v = c.args.self.now in let e = c.args.event in subst (λ (u : Cells). Sound (pages_of u)) (sym c.make.ensures.stepped) (step_core v c.is_enabled.ensures.kept e c.requires (c.is_enabled.ensures.enabled.0 c.if-not-is_enabled.false)).sound
