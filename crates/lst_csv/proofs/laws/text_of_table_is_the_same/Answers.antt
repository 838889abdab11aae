use Rattle.lst_csv.proofs.TableAgain.{same_text}
use Rattle.lst_csv.proofs.laws.text_of_table_is_the_same.Goals as goal

pub returns : goal.returns
returns c = same_text
