use Rattle.pg_derive.proofs.WholeTexts.{one_derivation}
use Rattle.pg_derive.proofs.whole_texts.texts_have_one_derivation.Goals as goal

pub returns : goal.returns
returns c = one_derivation
