use Rattle.std.proofs.Common.{arith}
use Rattle.lst_pack.specs.declared.forms.Form.TheVariants.{Dictionary, Runs, Reference, Plain}
use Rattle.lst_pack.proofs.Counting.{runs_few}
use Rattle.lst_pack.proofs.Choosing.{some_run, fewest}
use Rattle.lst_pack.proofs.packing.pack.Goals as goal

pub overflow_cast-runs : goal.overflow_cast-runs
overflow_cast-runs c = let few = runs_few c.args.values.now 256 in record { fits = omega (arith, c.runs_of-runs.ensures) }

pub choose-requires-clause-runs : goal.choose-requires-clause-runs
choose-requires-clause-runs c = let s = some_run c.args.values.now in omega (arith, c.runs_of-runs.ensures)

pub choose-requires-clause-few : goal.choose-requires-clause-few
choose-requires-clause-few c = let s = runs_few c.args.values.now 256 in omega (arith, c.runs_of-runs.ensures)

pub returns-in-Dictionary : goal.returns-in-Dictionary
returns-in-Dictionary c = record {
  form = Dictionary c.in-Dictionary.size;
  counted = c.write_dictionary.ensures.count;
  packs = c.write_dictionary.ensures.packs;
  proper = c.write_dictionary.ensures.sorted;
  fewest = fewest c.args.values.now c.survey_of-found.result _ c.runs_of-runs.ensures c.survey_of-found.ensures.known c.survey_of-found.ensures.least c.survey_of-found.ensures.greatest
      c.width_of-width.result c.width_of-width.ensures (Dictionary c.in-Dictionary.size) c.in-Dictionary.ensures.fewest;
}

pub returns-in-Runs : goal.returns-in-Runs
returns-in-Runs c = record {
  form = Runs c.in-Runs.runs;
  counted = c.write_runs.ensures.count;
  packs = c.write_runs.ensures.packs;
  proper = c.write_runs.ensures.maximal;
  fewest = fewest c.args.values.now c.survey_of-found.result _ c.runs_of-runs.ensures c.survey_of-found.ensures.known c.survey_of-found.ensures.least c.survey_of-found.ensures.greatest
      c.width_of-width.result c.width_of-width.ensures (Runs c.in-Runs.runs) c.in-Runs.ensures.fewest;
}

pub returns-in-Reference : goal.returns-in-Reference
returns-in-Reference c = record {
  form = Reference c.in-Reference.width;
  counted = c.write_reference.ensures.count;
  packs = c.write_reference.ensures.packs;
  proper = c.write_reference.ensures.tight;
  fewest = fewest c.args.values.now c.survey_of-found.result _ c.runs_of-runs.ensures c.survey_of-found.ensures.known c.survey_of-found.ensures.least c.survey_of-found.ensures.greatest
      c.width_of-width.result c.width_of-width.ensures (Reference c.in-Reference.width) c.in-Reference.ensures.fewest;
}

pub returns-in-Plain : goal.returns-in-Plain
returns-in-Plain c = record {
  form = Plain;
  counted = c.write_plain.ensures.count;
  packs = c.write_plain.ensures.packs;
  proper = tt;
  fewest = fewest c.args.values.now c.survey_of-found.result _ c.runs_of-runs.ensures c.survey_of-found.ensures.known c.survey_of-found.ensures.least c.survey_of-found.ensures.greatest
      c.width_of-width.result c.width_of-width.ensures Plain c.in-Plain.ensures.fewest;
}
