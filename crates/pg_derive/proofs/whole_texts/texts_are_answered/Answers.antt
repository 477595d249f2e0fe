use Rattle.pg_derive.proofs.WholeTexts.{all_answered}
use Rattle.pg_derive.proofs.whole_texts.texts_are_answered.Goals as goal

pub returns : goal.returns
returns c = all_answered
