use Rattle.pg_derive.proofs.WholeTexts.{answered_derived}
use Rattle.pg_derive.proofs.whole_texts.answered_texts_are_derived.Goals as goal

pub returns : goal.returns
returns c = answered_derived
