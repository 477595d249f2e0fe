use Rattle.pg_derive.proofs.WholeTexts.{derived_answered}
use Rattle.pg_derive.proofs.whole_texts.derived_texts_are_answered.Goals as goal

pub returns : goal.returns
returns c = derived_answered
