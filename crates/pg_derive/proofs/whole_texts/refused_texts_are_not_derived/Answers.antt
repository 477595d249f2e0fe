use Rattle.pg_derive.proofs.WholeTexts.{refused_not_derived}
use Rattle.pg_derive.proofs.whole_texts.refused_texts_are_not_derived.Goals as goal

pub returns : goal.returns
returns c = refused_not_derived
